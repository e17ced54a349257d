-- Worked examples: what some pages are entered as, from their bytes on, and the lines of one of them. Assumes nothing.
use Rattle.std.specs.Prelude.{◌≡◌, ℕ, ◌+◌, ◌/◌, ◌%◌, true, List, [], ◌∷◌, ◌++◌, length, Ok, Err, codes, Result}
use Prim.Native.String.{String}
use Rattle.refusals.specs.Refusals.{number_of}
use Rattle.refusals.specs.declared.Refusal.{Refusal}
use Rattle.refusals.specs.declared.Refusal.TheVariants.{ComparisonChained, BindingBroken, CastFollowed, LeftOver}
use Rattle.hosts.specs.Statements.{statement_reading}
use Rattle.trees.specs.declared.Kind.TheVariants as kind
use Rattle.trees.specs.declared.Node.{Node}
use Rattle.trees.specs.Layout.{Tree, branch, none, ◌then◌, label_of}
use Rattle.grammar.specs.Grammar.{label}
use Rattle.lines.specs.Lines.{heading_bytes}
use Rattle.sheets.specs.Model.{Entry, Model, entry_of, added, sizes, nodes_from, node_bytes}

-- A page is written as its fields, joined by `++`. A field is its tag, the length of its value in two bytes, and its value.
abbrev field : ℕ → List ℕ → List ℕ
field tag value = tag ∷ length value / 256 ∷ length value % 256 ∷ value

abbrev pub name : String → List ℕ
name text = field 1 (codes text)

-- a mark's value is its character, and 1 if it is joined to the next mark, else 0
abbrev marks_of : List ℕ → List ℕ
marks_of [] = []
marks_of (c ∷ []) = field 2 (c ∷ 0 ∷ [])
marks_of (c ∷ d ∷ cs) = field 2 (c ∷ 1 ∷ []) ++ marks_of (d ∷ cs)

-- marks in a row, all but the last joined to the next; each is a token
abbrev pub marks : String → List ℕ
marks text = marks_of (codes text)

-- what a page is entered as in an empty sheet, with the host for statements and struct literals allowed
abbrev pub entered_as : List ℕ → Result Entry Refusal
entered_as page = entry_of (record { nodes = 4096; rules = 256 }) 0 0 statement_reading page 4096 true

-- trees with their spans, from the first token to one past the last: a path of one token, an assignment, and a binary
-- operation, whose op is 1 for `+`, 2 for `-` and 3 for `*`
abbrev pub path : (from : ℕ) → Tree
path from = branch (label kind.Path 0 from (from + 1)) none

abbrev pub assign : (from to : ℕ) → Tree → Tree → Tree
assign from to l r = branch (label kind.Assign 0 from to) (none then l then r)

abbrev pub binary : (op from to : ℕ) → Tree → Tree → Tree
binary op from to l r = branch (label kind.Binary op from to) (none then l then r)

infix 20 ◌is◌ ◌is_refused_by◌numbered◌ ◌has_lines◌
-- the page is entered as the tree, which uses every token up to its end
abbrev pub ◌is◌ : List ℕ → Tree → Type 0
page is t = entered_as page ≡ Ok (record { tree = t; used = (label_of t).to })

-- the page is refused, and the refusal has the number
abbrev pub ◌is_refused_by◌numbered◌ : List ℕ → Refusal → ℕ → Type 0
page is_refused_by r numbered n = (entered_as page ≡ Err r) × (number_of r ≡ n)

-- the lines of nodes that are numbered from i
abbrev pub lines_from : ℕ → List Node → List ℕ
lines_from i [] = []
lines_from i (n ∷ ns) = node_bytes i n ++ lines_from (i + 1) ns

-- what a sheet prints: the heading, and a line for each node
abbrev pub sheet_bytes : Model → List ℕ
sheet_bytes m = heading_bytes (length m) (sizes m) ++ lines_from 0 (nodes_from 0 m)

-- once the page is entered, the sheet prints these lines
abbrev pub ◌has_lines◌ : List ℕ → List ℕ → Type 0
page has_lines bytes = sheet_bytes (added [] (entered_as page)) ≡ bytes

-- the examples, each named after the expression that its page has
pub record ExamplesHold : Type 0 where
  -- `a + b * c` is a + (b * c)
  pub sum_with_product :
      name "a" ++ marks "+" ++ name "b" ++ marks "*" ++ name "c"
      is binary 1 0 5 (path 0) (binary 3 2 5 (path 2) (path 4))
  -- `a - b - c` is (a - b) - c
  pub two_differences :
      name "a" ++ marks "-" ++ name "b" ++ marks "-" ++ name "c"
      is binary 2 0 5 (binary 2 0 3 (path 0) (path 2)) (path 4)
  -- `a = b = c` is a = (b = c)
  pub two_assignments :
      name "a" ++ marks "=" ++ name "b" ++ marks "=" ++ name "c"
      is assign 0 5 (path 0) (assign 2 5 (path 2) (path 4))
  -- `a < b < c` is refused at the second `<`
  pub two_comparisons :
      name "a" ++ marks "<" ++ name "b" ++ marks "<" ++ name "c"
      is_refused_by ComparisonChained 3 numbered 9
  -- `a = b..c..d` is refused at the second `..`
  pub two_ranges_assigned :
      name "a" ++ marks "=" ++ name "b" ++ marks ".." ++ name "c" ++ marks ".." ++ name "d"
      is_refused_by BindingBroken 6 numbered 10
  -- `a + .. / c` is refused at `/`
  pub range_divided :
      name "a" ++ marks "+" ++ marks ".." ++ marks "/" ++ name "c"
      is_refused_by BindingBroken 4 numbered 10
  -- `a..b = c` is read up to `=`, and what is left over is refused
  pub range_assigned :
      name "a" ++ marks ".." ++ name "b" ++ marks "=" ++ name "c"
      is_refused_by LeftOver 4 numbered 15
  -- `x as t.f` is refused at `.`
  pub cast_with_field :
      name "x" ++ name "as" ++ name "t" ++ marks "." ++ name "f"
      is_refused_by CastFollowed 3 numbered 11
  -- `a + b * c` has five nodes: a, b, c, b * c, and the whole. A line has a node's number, kind, op and span
  pub lines_of_sum_with_product :
      name "a" ++ marks "+" ++ name "b" ++ marks "*" ++ name "c"
      has_lines
      codes "rules 1 nodes 5\n" ++
      codes "0 1 0 0 1\n" ++
      codes "1 1 0 2 3\n" ++
      codes "2 1 0 4 5\n" ++
      codes "3 20 3 2 5\n" ++
      codes "4 20 1 0 5\n"
