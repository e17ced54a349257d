-- Where a half-open range `..` has no end. Assumes nothing.
use Rattle.std.specs.Prelude.{ℕ, Bool, true, false, cond, not, ◌&&◌, ◌||◌, List, [], ◌∷◌, codes, nat_lt, slice_index_or}
use Rattle.tokens.specs.declared.Delimiter.{Delimiter}
use Rattle.tokens.specs.declared.Delimiter.TheVariants.{Paren, Bracket, Brace}
use Rattle.tokens.specs.declared.Look.{Look}
use Rattle.tokens.specs.declared.Look.TheVariants.{Name, Mark, Integer, Float, Literal, Lifetime, Open, Close}
use Rattle.tokens.specs.declared.Token.{Token}
use Rattle.tokens.specs.Looks.{no_token}
use Rattle.operators.specs.Spellings.{spelled_at, as_at}

abbrev is_brace : Delimiter → Bool
is_brace Paren = false
is_brace Bracket = false
is_brace Brace = true

abbrev opens_brace : Look → Bool
opens_brace (Name w) = false
opens_brace (Mark c j) = false
opens_brace Integer = false
opens_brace Float = false
opens_brace Literal = false
opens_brace Lifetime = false
opens_brace (Open d n) = is_brace d
opens_brace (Close d) = false

-- whether a `{` group opens at i
abbrev pub brace_at : List Token → ℕ → ℕ → Bool
brace_at ts e i = cond (nat_lt i e) (opens_brace (slice_index_or ts i no_token).look) false

-- whether one of the spellings stands at i
abbrev any_at : List Token → ℕ → ℕ → List (List ℕ) → Bool
any_at ts e i [] = false
any_at ts e i (characters ∷ more) = spelled_at ts e i characters || any_at ts e i more

-- the characters before which a range has no end, also as the first of longer operators
abbrev pub enders : List (List ℕ)
enders = codes "?" ∷ codes "=" ∷ codes "+" ∷ codes "/" ∷ codes "%" ∷ codes "^" ∷ codes ">" ∷ []

-- the operators before which a range has no end, though their first character alone may begin one
abbrev pub long_enders : List (List ℕ)
long_enders =
    codes "<=" ∷ codes "!=" ∷ codes "-=" ∷ codes "*=" ∷ codes "&=" ∷ codes "|=" ∷ codes "<<=" ∷ []

-- whether a range `..` has no end because of what stands at i. Where struct literals are not allowed, a `{` group is no
-- part of the range
abbrev pub ends_range : List Token → ℕ → ℕ → Bool → Bool
ends_range ts e i structs =
    not (nat_lt i e)
    || any_at ts e i (codes "," ∷ codes ";" ∷ [])
    || (spelled_at ts e i (codes ".") && not (spelled_at ts e i (codes "..")))
    || any_at ts e i enders
    || any_at ts e i long_enders
    || as_at ts e i
    || (not structs && brace_at ts e i)

-- the same, shut, so that a caller's proof does not walk through the tests
unfoldable pub range_ends : List Token → ℕ → ℕ → Bool → Bool
range_ends ts e i structs = ends_range ts e i structs
