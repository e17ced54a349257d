-- The table of spellings at work: what stands at the start of some runs of characters, each joined to the next. Assumes nothing.
use Rattle.std.proofs.Common.{◌≡◌, ℕ, true, false, List, [], ◌∷◌, map, length, codes, Some, None, Option, refl}
use Rattle.tokens.specs.declared.Look.TheVariants.{Mark}
use Rattle.tokens.specs.declared.Token.{Token}
use Rattle.operators.specs.declared.BinaryOp.TheVariants as binary
use Rattle.operators.specs.declared.Infix.TheVariants.{Binary, Range}
use Rattle.operators.specs.declared.Sign.{Sign}
use Rattle.operators.specs.declared.Sign.TheVariants.{Operator, ThreeDots, LeftArrow}
use Rattle.operators.specs.Signs.{first_sign}

abbrev joined_mark : ℕ → Token
joined_mark c = record { look = Mark c true; start = 0; len = 0 }

abbrev start : List ℕ → Option Sign
start cs = first_sign (map joined_mark cs) (length cs) 0

shift_before_minus : start (codes "<<-") ≡ Some (Operator (Binary binary.Shl) 2)
shift_before_minus = refl

at_most_before_minus : start (codes "<=-") ≡ Some (Operator (Binary binary.Le) 2)
at_most_before_minus = refl

left_arrow_lem : start (codes "<-=") ≡ Some LeftArrow
left_arrow_lem = refl

right_arrow : start (codes "->") ≡ None
right_arrow = refl

double_arrow : start (codes "=>") ≡ None
double_arrow = refl

subtracting_before_greater : start (codes "-=>") ≡ Some (Operator (Binary binary.SubAssign) 2)
subtracting_before_greater = refl

equal : start (codes "==") ≡ Some (Operator (Binary binary.Eq) 2)
equal = refl

not_alone : start (codes "!") ≡ None
not_alone = refl

dot_alone : start (codes ".") ≡ None
dot_alone = refl

closed_range : start (codes "..=") ≡ Some (Operator (Range true) 3)
closed_range = refl

range_before_star : start (codes "..*") ≡ Some (Operator (Range false) 2)
range_before_star = refl

three_dots_lem : start (codes "...") ≡ Some ThreeDots
three_dots_lem = refl

-- `<` and `=` that are not joined are two operators
apart : first_sign (record { look = Mark 60 false; start = 0; len = 0 } ∷ joined_mark 61 ∷ []) 2 0 ≡ Some (Operator (Binary binary.Lt) 1)
apart = refl

-- an operator ends where its level ends
cut : first_sign (map joined_mark (codes "<<=")) 2 0 ≡ Some (Operator (Binary binary.Shl) 2)
cut = refl
