-- The codes of the binary operators. Assumes nothing.
use Rattle.std.specs.Prelude.{ℕ}
use Rattle.operators.specs.declared.BinaryOp.{BinaryOp}
use Rattle.operators.specs.declared.BinaryOp.TheVariants as binary

abbrev pub code_of : BinaryOp → ℕ
code_of binary.Add = 1
code_of binary.Sub = 2
code_of binary.Mul = 3
code_of binary.Div = 4
code_of binary.Rem = 5
code_of binary.And = 6
code_of binary.Or = 7
code_of binary.BitXor = 8
code_of binary.BitAnd = 9
code_of binary.BitOr = 10
code_of binary.Shl = 11
code_of binary.Shr = 12
code_of binary.Eq = 13
code_of binary.Lt = 14
code_of binary.Le = 15
code_of binary.Ne = 16
code_of binary.Ge = 17
code_of binary.Gt = 18
code_of binary.AddAssign = 19
code_of binary.SubAssign = 20
code_of binary.MulAssign = 21
code_of binary.DivAssign = 22
code_of binary.RemAssign = 23
code_of binary.BitXorAssign = 24
code_of binary.BitAndAssign = 25
code_of binary.BitOrAssign = 26
code_of binary.ShlAssign = 27
code_of binary.ShrAssign = 28
