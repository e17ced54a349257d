-- One field more: what is held after it, or why it is refused. Assumes nothing.
use Rattle.std.specs.Prelude.{ℕ, ◌+◌, ◌-◌, Bool, true, false, cond, List, [], ◌∷◌, ◌++◌, length, Some, None, Ok, Err, Option, Result, ◌==◌, nat_lt, slice_index_or, slice_set}
use Rattle.refusals.specs.declared.Refusal.{Refusal}
use Rattle.refusals.specs.declared.Refusal.TheVariants.{Unbalanced, TooManyTokens}
use Rattle.tokens.specs.Looks.{no_token}
use Rattle.tokens.specs.declared.Delimiter.{Delimiter}
use Rattle.tokens.specs.declared.Delimiter.TheVariants.{Paren, Bracket, Brace}
use Rattle.tokens.specs.declared.Look.{Look}
use Rattle.tokens.specs.declared.Look.TheVariants.{Name, Mark, Integer, Float, Literal, Lifetime, Open, Close}
use Rattle.tokens.specs.declared.Token.{Token}

-- the tokens so far, and the place of the innermost opener that is still open
pub record Held : Type 0 where
  pub tokens : List Token
  pub inner : Option ℕ

abbrev pub same_delimiter : Delimiter → Delimiter → Bool
same_delimiter Paren Paren = true
same_delimiter Paren Bracket = false
same_delimiter Paren Brace = false
same_delimiter Bracket Paren = false
same_delimiter Bracket Bracket = true
same_delimiter Bracket Brace = false
same_delimiter Brace Paren = false
same_delimiter Brace Bracket = false
same_delimiter Brace Brace = true

-- how many places before n the innermost opener stands, 0 where there is none
abbrev pub places_back : ℕ → Option ℕ → ℕ
places_back n None = 0
places_back n (Some p) = n - p

-- the opener around one at p, by how many places back it stands
abbrev pub around : ℕ → ℕ → Option ℕ
around p k = cond (k == 0) None (Some (p - k))

abbrev pub relooked : Token → Look → Token
relooked t l = record { look = l; start = t.start; len = t.len }

-- the tokens with t as one more, if there is room
abbrev pub added : (room at : ℕ) → List Token → Token → Option ℕ → Result Held Refusal
added room at ts t inner = cond (nat_lt (length ts) room) (Ok (record { tokens = ts ++ t ∷ []; inner = inner })) (Err (TooManyTokens at))

-- the tokens with the closer t as one more; the opener at p, whose look is the last argument, learns the size of its group
abbrev pub closed : (room at : ℕ) → List Token → Token → Delimiter → ℕ → Look → Result Held Refusal
closed room at ts t d p (Name w) = Err (Unbalanced at)
closed room at ts t d p (Mark c j) = Err (Unbalanced at)
closed room at ts t d p Integer = Err (Unbalanced at)
closed room at ts t d p Float = Err (Unbalanced at)
closed room at ts t d p Literal = Err (Unbalanced at)
closed room at ts t d p Lifetime = Err (Unbalanced at)
closed room at ts t d p (Open e k) =
    cond (same_delimiter e d)
    (added room at (slice_set ts p (relooked (slice_index_or ts p no_token) (Open e (length ts - p + 1)))) t (around p k))
    (Err (Unbalanced at))
closed room at ts t d p (Close e) = Err (Unbalanced at)

abbrev pub closing : (room at : ℕ) → List Token → Token → Delimiter → Option ℕ → Result Held Refusal
closing room at ts t d None = Err (Unbalanced at)
closing room at ts t d (Some p) = closed room at ts t d p (slice_index_or ts p no_token).look

-- an opener holds how many places back the opener around it stands, until its own closer comes
abbrev pub opening : (room at : ℕ) → Held → Token → Delimiter → Result Held Refusal
opening room at h t d = added room at h.tokens (relooked t (Open d (places_back (length h.tokens) h.inner))) (Some (length h.tokens))

abbrev pub step_by : (room at : ℕ) → Held → Token → Look → Result Held Refusal
step_by room at h t (Name w) = added room at h.tokens t h.inner
step_by room at h t (Mark c j) = added room at h.tokens t h.inner
step_by room at h t Integer = added room at h.tokens t h.inner
step_by room at h t Float = added room at h.tokens t h.inner
step_by room at h t Literal = added room at h.tokens t h.inner
step_by room at h t Lifetime = added room at h.tokens t h.inner
step_by room at h t (Open d n) = opening room at h t d
step_by room at h t (Close d) = closing room at h.tokens t d h.inner

-- the token t of the field at a byte is taken in
abbrev pub step : (room at : ℕ) → Held → Token → Result Held Refusal
step room at h t = step_by room at h t t.look
