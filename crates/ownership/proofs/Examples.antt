-- A reading for the laws to speak of, trees that ownership does not allow, and a task at which the guard decides. Assumes nothing.
use Rattle.std.proofs.Common.{◌≡◌, ℕ, ◌+◌, true, false, List, [], ◌∷◌, Err, Result, refl, arith}
use Rattle.refusals.specs.declared.Part.{Part}
use Rattle.refusals.specs.declared.Denial.{Denial}
use Rattle.tokens.specs.declared.Token.{Token}
use Rattle.tokens.specs.declared.Look.{Look}
use Rattle.tokens.specs.declared.Look.TheVariants.{Mark, Integer}
use Rattle.tokens.specs.Looks.{Field}
use Rattle.operators.specs.Signs.{sign_at}
use Rattle.trees.specs.declared.Kind.TheVariants as kind
use Rattle.trees.specs.Layout.{Tree, branch, none, ◌then◌}
use Rattle.grammar.specs.Knot.{deep, tied}
use Rattle.grammar.specs.Grammar.{label, took, expr, items, read_task}
use Rattle.ownership.specs.Ownership.{Spanned}
use Rattle.ownership.specs.Plainly.{Plain}

abbrev denies : Part → List Field → Result ℕ Denial
denies part l = Err (record { host = 1; code = 1 })

abbrev token : Look → Token
token l = record { look = l; start = 0; len = 0 }

abbrev number : ℕ → Tree
number p = branch (label kind.Literal 0 p (p + 1)) none

-- `1 + 2` is three nodes, and the one above the numbers owns the `+`
sum : read_task denies [] (token Integer ∷ token (Mark 43 false) ∷ token Integer ∷ []) (expr true 0 0 3) ≡ took (branch (label kind.Binary 1 0 3) (none then number 0 then number 2)) 3
unfolding read_task tied deep sign_at
sum = refl

-- a node whose child has all of its tokens owns none
bare : Spanned (branch (label kind.Paren 0 0 1) (none then number 0)) → ⊥
bare s = omega (arith, s.2)

-- nor may two children have the same token
twice : Spanned (branch (label kind.Binary 1 0 3) (none then number 0 then number 0)) → ⊥
twice s = omega (arith, s.1.0.2)

-- for items whose closer is not inside their level the guard would decide; they are never asked for
outside : Plain denies [] [] (items true 0 0 none 0 0 0) → ⊥
unfolding read_task tied deep sign_at
outside is = let z : ◌≡◌ {A = ℕ} 0 1 = cc in omega arith
