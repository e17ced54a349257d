-- Which infix operator stands at a place, by a table of spellings that are tried in order. Assumes nothing.
use Rattle.std.specs.Prelude.{ℕ, ◌+◌, ◌≤◌, Bool, true, false, cond, List, [], ◌∷◌, length, codes, Some, None, Option}
use Rattle.tokens.specs.declared.Token.{Token}
use Rattle.operators.specs.Spellings.{spelled_at, as_at}
use Rattle.operators.specs.declared.BinaryOp.{BinaryOp}
use Rattle.operators.specs.declared.BinaryOp.TheVariants as bin
use Rattle.operators.specs.declared.Infix.{Infix}
use Rattle.operators.specs.declared.Infix.TheVariants.{Binary, Assign, Range, Cast}
use Rattle.operators.specs.declared.Sign.{Sign}
use Rattle.operators.specs.declared.Sign.TheVariants.{Operator, ThreeDots, LeftArrow}

abbrev operator : Infix → ℕ → Option Sign
operator op n = Some (Operator op n)

abbrev binary : BinaryOp → ℕ → Option Sign
binary op = operator (Binary op)

abbrev nothing : ℕ → Option Sign
nothing n = None

abbrev three_dots : ℕ → Option Sign
three_dots n = Some ThreeDots

abbrev left_arrow : ℕ → Option Sign
left_arrow n = Some LeftArrow

-- the spellings in the order in which they are tried, each with what it means, given how many characters it has:
-- compound assignments, the other operators of two characters, arrows, single characters, and dots.
-- An arrow comes before the character that it begins with, so `->` and `=>` are no operators
abbrev pub spellings : List (List ℕ × (ℕ → Option Sign))
spellings =
    (codes "+=", binary bin.AddAssign) ∷
    (codes "-=", binary bin.SubAssign) ∷
    (codes "*=", binary bin.MulAssign) ∷
    (codes "/=", binary bin.DivAssign) ∷
    (codes "%=", binary bin.RemAssign) ∷
    (codes "^=", binary bin.BitXorAssign) ∷
    (codes "&=", binary bin.BitAndAssign) ∷
    (codes "|=", binary bin.BitOrAssign) ∷
    (codes "<<=", binary bin.ShlAssign) ∷
    (codes ">>=", binary bin.ShrAssign) ∷
    (codes "&&", binary bin.And) ∷
    (codes "||", binary bin.Or) ∷
    (codes "<<", binary bin.Shl) ∷
    (codes ">>", binary bin.Shr) ∷
    (codes "==", binary bin.Eq) ∷
    (codes "<=", binary bin.Le) ∷
    (codes "!=", binary bin.Ne) ∷
    (codes ">=", binary bin.Ge) ∷
    (codes "->", nothing) ∷
    (codes "=>", nothing) ∷
    (codes "<-", left_arrow) ∷
    (codes "+", binary bin.Add) ∷
    (codes "-", binary bin.Sub) ∷
    (codes "*", binary bin.Mul) ∷
    (codes "/", binary bin.Div) ∷
    (codes "%", binary bin.Rem) ∷
    (codes "^", binary bin.BitXor) ∷
    (codes "&", binary bin.BitAnd) ∷
    (codes "|", binary bin.BitOr) ∷
    (codes "<", binary bin.Lt) ∷
    (codes ">", binary bin.Gt) ∷
    (codes "=", operator Assign) ∷
    (codes "..=", operator (Range true)) ∷
    (codes "...", three_dots) ∷
    (codes "..", operator (Range false)) ∷
    []

-- what the first spelling that stands means, and `other` where none does
abbrev pub first_of : (List ℕ → Bool) → List (List ℕ × (ℕ → Option Sign)) → Option Sign → Option Sign
first_of stands [] other = other
first_of stands ((characters, means) ∷ rows) other =
    cond (stands characters) (means (length characters)) (first_of stands rows other)

-- the first spelling of the table that stands at i, else the name `as`
abbrev pub first_sign : List Token → ℕ → ℕ → Option Sign
first_sign ts e i = first_of (spelled_at ts e i) spellings (cond (as_at ts e i) (operator Cast 1) None)

-- what stands at i in a level that ends at e. It is shut, so that a caller's proof does not walk through the table
unfoldable pub sign_at : List Token → ℕ → ℕ → Option Sign
sign_at ts e i = first_sign ts e i

-- an operator at i has one to three tokens, which all stand before the level's end e
abbrev pub GoodSign : ℕ → ℕ → Option Sign → Type 0
GoodSign i e None = Unit {0}
GoodSign i e (Some (Operator op n)) = (1 ≤ n) × (n ≤ 3) × (i + n ≤ e)
GoodSign i e (Some ThreeDots) = Unit {0}
GoodSign i e (Some LeftArrow) = Unit {0}
