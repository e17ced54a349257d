-- A page is its fields in order: their tokens, up to the first field that is refused. Assumes nothing.
use Rattle.std.specs.Prelude.{◌≡◌, ℕ, zero, suc, ◌+◌, ◌-◌, ◌<◌, ◌≤◌, min, cond, List, [], ◌++◌, length, drop, Some, None, Ok, Err, Option, Result, nat_lt, slice_index_or}
use Rattle.refusals.specs.declared.Refusal.{Refusal}
use Rattle.refusals.specs.declared.Refusal.TheVariants.{Unbalanced, NotThere}
use Rattle.tokens.specs.Looks.{no_token, field_of}
use Rattle.tokens.specs.declared.Token.{Token}
use Rattle.pages.specs.Fields.{field_at}
use Rattle.pages.specs.Nesting.{Nested}
use Rattle.pages.specs.Steps.{Held, step}

-- the tokens of the fields that were taken in, and why the next one, or the end of the page, was refused
pub record Outcome : Type 0 where
  pub tokens : List Token
  pub fault : Option Refusal

abbrev pub refused : Held → Refusal → Outcome
refused h e = record { tokens = h.tokens; fault = Some e }

-- an opener that is never closed is refused at its field, which begins three bytes before its value
abbrev pub still_open : List Token → Option ℕ → Option Refusal
still_open ts None = None
still_open ts (Some p) = Some (Unbalanced ((slice_index_or ts p no_token).start - 3))

abbrev pub ended : Held → Outcome
ended h = record { tokens = h.tokens; fault = still_open h.tokens h.inner }

abbrev pub onward : (ℕ → Held → Outcome) → Held → ℕ → Result Held Refusal → Outcome
onward go h next (Ok more) = go next more
onward go h next (Err e) = refused h e

-- the field at i is taken in, and what follows begins behind its value
abbrev pub entered : (room i : ℕ) → (ℕ → Held → Outcome) → Held → Result Token Refusal → Outcome
entered room i go h (Ok t) = onward go h (t.start + t.len) (step room i h t)
entered room i go h (Err e) = refused h e

-- the fields from the byte i on, of which there are at most k
unfoldable pub walk : (room : ℕ) → List ℕ → (k i : ℕ) → Held → Outcome
walk room page zero i h = ended h
walk room page (suc k) i h = cond (nat_lt i (length page)) (entered room i (walk room page k) h (field_at page i)) (ended h)

abbrev pub nothing : Held
nothing = record { tokens = []; inner = None }

unfoldable pub outcome : (room : ℕ) → List ℕ → Outcome
outcome room page = walk room page (length page) 0 nothing

-- the tokens of a page, where no more than the room are held
unfoldable pub tokens_of : (room : ℕ) → List ℕ → List Token
tokens_of room page = (outcome room page).tokens

unfoldable pub fault_of : (room : ℕ) → List ℕ → Option Refusal
fault_of room page = (outcome room page).fault

abbrev pub answer : Option Refusal → ℕ → Result ℕ Refusal
answer None n = Ok n
answer (Some e) n = Err e

-- the number of tokens, or the first refusal
abbrev pub page_answer : (room : ℕ) → List ℕ → Result ℕ Refusal
page_answer room page = answer (fault_of room page) (length (tokens_of room page))

-- a space after records are written at its start
abbrev pub written_over : List Token → List Token → List Token
written_over space ts = ts ++ drop (length ts) space

-- what holds of a page that is accepted with n tokens, in a space of this size
pub record Accepted (size : ℕ) (page : List ℕ) (n : ℕ) : Type 0 where
  pub number : n ≡ length (tokens_of (min size 4096) page)
  pub most : n ≤ 4096
  pub fits : n ≤ size
  -- each value stands on the page
  pub placed : (i : ℕ) → i < n → (slice_index_or (tokens_of (min size 4096) page) i no_token).start + (slice_index_or (tokens_of (min size 4096) page) i no_token).len ≤ length page
  pub nested : Nested (tokens_of (min size 4096) page)

-- the bytes of the value of a token, if there is such a token
abbrev pub text_by : List ℕ → List Token → ℕ → Result ℕ Refusal → Result (List ℕ) Refusal
text_by page ts place (Ok n) = cond (nat_lt place n) (Ok (field_of page (slice_index_or ts place no_token)).bytes) (Err NotThere)
text_by page ts place (Err e) = Err e

abbrev pub text_of : List ℕ → ℕ → Result (List ℕ) Refusal
text_of page place = text_by page (tokens_of 4096 page) place (page_answer 4096 page)

-- what comes next, at the byte i, where a page is read field by field: none behind the last field, else the field with
-- its byte, and what follows it is at j
abbrev pub NextField : List ℕ → (i j : ℕ) → Option (Result (ℕ × Token) Refusal) → Type 0
NextField page i j None = length page ≤ i
NextField page i j (Some (Ok f)) = (i < length page) × (f.0 ≡ i) × (field_at page i ≡ Ok f.1) × (j ≡ f.1.start + f.1.len)
NextField page i j (Some (Err e)) = (i < length page) × (field_at page i ≡ Err e)
