-- What the host for columns answers: a path is a column, a type is one of two names. Assumes nothing.
use Rattle.std.specs.Prelude.{ℕ, Bool, false, cond, ◌&&◌, List, [], ◌∷◌, Ok, Err, codes, Result}
use Rattle.std.specs.List.{list_any}
use Rattle.std.specs.Str.{bytes_eq}
use Rattle.refusals.specs.declared.Denial.{Denial}
use Rattle.refusals.specs.declared.Part.{Part}
use Rattle.refusals.specs.declared.Part.TheVariants.{Path, TypeName, Pattern, Block, Keyword, Arguments}
use Rattle.tokens.specs.Looks.{Field}
use Rattle.columns.specs.Columns.{any_name}

abbrev pub among : List ℕ → List (List ℕ) → Bool
among name names = list_any (bytes_eq name) names

-- the names that a part may be
abbrev pub names_for : List (List ℕ) → Part → List (List ℕ)
names_for columns Path = columns
names_for columns TypeName = codes "cents" ∷ codes "days" ∷ []
names_for columns Pattern = []
names_for columns Block = []
names_for columns Keyword = []
names_for columns Arguments = []

abbrev pub code_for : Part → ℕ
code_for Path = 1
code_for TypeName = 2
code_for Pattern = 2
code_for Block = 2
code_for Keyword = 2
code_for Arguments = 2

-- the number of the host is 1
abbrev pub denied : Part → Result ℕ Denial
denied part = Err (record { host = 1; code = code_for part })

-- the level begins with one of these names
abbrev pub begins_with : List (List ℕ) → List Field → Bool
begins_with names [] = false
begins_with names (f ∷ l) = any_name f.look && among f.bytes names

abbrev pub name_reading : List (List ℕ) → Part → List Field → Result ℕ Denial
name_reading columns part l = cond (begins_with (names_for columns part) l) (Ok 1) (denied part)
