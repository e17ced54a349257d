-- The answers of the host for columns are lawful, and so are those of a fence around a lawful host. Assumes nothing.
use Rattle.std.proofs.Common.{◌≡◌, ℕ, zero, suc, ◌≤◌, Bool, true, false, cond, List, [], ◌∷◌, Some, Err, Result, ap, arith}
use Rattle.std.proofs.lemmas.Bool.{and_parts}
use Rattle.refusals.specs.declared.Denial.{Denial}
use Rattle.refusals.specs.declared.Part.{Part}
use Rattle.refusals.specs.declared.Part.TheVariants.{Path, TypeName, Pattern, Block, Keyword, Arguments}
use Rattle.tokens.specs.declared.Delimiter.{Delimiter}
use Rattle.tokens.specs.declared.Look.TheVariants.{Open}
use Rattle.tokens.specs.Looks.{Field}
use Rattle.hosts.specs.Lawful.{looks, Whole, LawfulLength, Lawful}
use Rattle.hosts.specs.Roles.{tested}
use Rattle.columns.specs.Columns.{any_name}
use Rattle.columns.specs.declared.fence.Parts.{Parts}
use Rattle.columns.specs.Fences.{allows, fenced}
use Rattle.columns.specs.Names.{among, names_for, code_for, denied, begins_with, name_reading}

denied_lawful : (part : Part) (l : List Field) → Lawful l (denied part)
denied_lawful part l = record { host = (omega arith, omega arith); code = coded part }
  where
    coded : (part : Part) → (1 ≤ code_for part) × (code_for part ≤ 255)
    coded Path = (omega arith, omega arith)
    coded TypeName = (omega arith, omega arith)
    coded Pattern = (omega arith, omega arith)
    coded Block = (omega arith, omega arith)
    coded Keyword = (omega arith, omega arith)
    coded Arguments = (omega arith, omega arith)

-- a name opens no group
name_whole : (f : Field) (l : List Field) → any_name f.look ≡ true → Whole (looks (f ∷ l)) 1
name_whole f l n zero m o h = absurd (opens o.0 o.1)
  where
    opens : (d : Delimiter) → Some f.look ≡ Some (Open d m) → ⊥
    opens d e =
        let is : f.look ≡ Open d m = cc in
        let other : any_name f.look ≡ false = ap any_name is in
        cc
name_whole f l n (suc k) m o h = absurd (omega arith)

name_length : (names : List (List ℕ)) (l : List Field) → begins_with names l ≡ true → LawfulLength l 1
name_length names [] t = absurd cc
name_length names (f ∷ l) t =
    record { some = omega arith; within = omega arith; whole = λ nested. name_whole f l (and_parts (any_name f.look) (among f.bytes names) t).0 }

pub name_lawful : (columns : List (List ℕ)) (part : Part) (l : List Field) → Lawful l (name_reading columns part l)
name_lawful columns part l =
    tested (begins_with (names_for columns part) l) (λ t. rw t (name_length (names_for columns part) l t)) (λ f. rw f (denied_lawful part l))

-- what a fence lets through is the answer from below, and what it denies carries the number 3 and the code 5
pub fenced_lawful : (s : Parts) (inner : Part → List Field → Result ℕ Denial) (part : Part) (l : List Field) → Lawful l (inner part l) → Lawful l (fenced s inner part l)
fenced_lawful s inner part l h = through (allows s part)
  where
    through : (b : Bool) → Lawful l (cond b (inner part l) (Err (record { host = 3; code = 5 })))
    through true = h
    through false = record { host = (omega arith, omega arith); code = (omega arith, omega arith) }
