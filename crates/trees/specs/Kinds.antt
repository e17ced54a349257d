-- The numbers of the kinds of nodes. Assumes nothing.
use Rattle.std.specs.Prelude.{ℕ}
use Rattle.trees.specs.declared.Kind.{Kind}
use Rattle.trees.specs.declared.Kind.TheVariants as kind

abbrev pub kind_number : Kind → ℕ
kind_number kind.Path = 1
kind_number kind.Literal = 2
kind_number kind.Underscore = 3
kind_number kind.Macro = 4
kind_number kind.Struct = 5
kind_number kind.StructField = 6
kind_number kind.Paren = 7
kind_number kind.Tuple = 8
kind_number kind.Array = 9
kind_number kind.Repeat = 10
kind_number kind.Call = 11
kind_number kind.Method = 12
kind_number kind.NamedField = 13
kind_number kind.Index = 14
kind_number kind.Try = 15
kind_number kind.Await = 16
kind_number kind.Unary = 17
kind_number kind.Reference = 18
kind_number kind.RawAddress = 19
kind_number kind.Binary = 20
kind_number kind.Assign = 21
kind_number kind.Range = 22
kind_number kind.Cast = 23
kind_number kind.Let = 24
kind_number kind.If = 25
kind_number kind.While = 26
kind_number kind.Break = 27
kind_number kind.Continue = 28
kind_number kind.Return = 29
kind_number kind.Block = 30
kind_number kind.Keyword = 31
kind_number kind.TypeName = 32
kind_number kind.Pattern = 33
kind_number kind.Arguments = 34
kind_number kind.NumberedField = 35
