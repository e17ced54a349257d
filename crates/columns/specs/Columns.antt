-- The names on a page of columns: its fields up to the first that is no name. Assumes nothing.
use Rattle.std.specs.Prelude.{ℕ, zero, suc, ◌+◌, Bool, true, false, cond, List, [], ◌∷◌, length, Ok, Err, Result}
use Rattle.refusals.specs.declared.Refusal.{Refusal}
use Rattle.tokens.specs.declared.Look.{Look}
use Rattle.tokens.specs.declared.Look.TheVariants.{Name, Mark, Integer, Float, Literal, Lifetime, Open, Close}
use Rattle.tokens.specs.declared.Token.{Token}
use Rattle.tokens.specs.Looks.{field_of}
use Rattle.pages.specs.Fields.{field_at}

-- a name, whatever it spells
abbrev pub any_name : Look → Bool
any_name (Name w) = true
any_name (Mark c j) = false
any_name Integer = false
any_name Float = false
any_name Literal = false
any_name Lifetime = false
any_name (Open d n) = false
any_name (Close d) = false

-- the name that a field holds and those behind it, or none where the field is refused or no name
abbrev pub named : List ℕ → (ℕ → List (List ℕ)) → Result Token Refusal → List (List ℕ)
named page following (Ok t) = cond (any_name t.look) ((field_of page t).bytes ∷ following (t.start + t.len)) []
named page following (Err e) = []

-- the names from the byte i on, of which there are at most k
unfoldable pub names_from : List ℕ → (k i : ℕ) → List (List ℕ)
names_from page zero i = []
names_from page (suc k) i = named page (names_from page k) (field_at page i)

-- the names from the byte i on: no page has more of them than bytes
abbrev pub names_left : List ℕ → ℕ → List (List ℕ)
names_left page i = names_from page (length page) i

unfoldable pub columns_of : List ℕ → List (List ℕ)
columns_of page = names_from page (length page) 0
