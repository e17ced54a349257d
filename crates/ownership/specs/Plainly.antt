-- The law that reading is plain recursion: no task ever asks for one that is not smaller, so the guard never decides. Assumes nothing.
use Rattle.std.specs.Prelude.{◌≡◌, ℕ, ◌<◌, ◌≤◌, Bool, List, Result}
use Rattle.refusals.specs.declared.Part.{Part}
use Rattle.refusals.specs.declared.Denial.{Denial}
use Rattle.tokens.specs.declared.Token.{Token}
use Rattle.tokens.specs.Looks.{Field}
use Rattle.hosts.specs.Lawful.{Lawful}
use Rattle.trees.specs.Layout.{Tree, Trees}
use Rattle.grammar.specs.Grammar.{Task, expr, climb, items, grammar, read_task}

module _ (reading : Part → List Field → Result ℕ Denial) (page : List ℕ) (ts : List Token) where
  -- the outcome of a task is what the grammar makes of the outcomes of those it asks for, with no guard between them
  abbrev pub Plain : Task → Type 0
  Plain task = read_task reading page ts task ≡ grammar reading page ts (read_task reading page ts) task

  abbrev pub PlainExpr : Type 0
  PlainExpr = (f : Bool) (b p e : ℕ) → Plain (expr f b p e)

  abbrev pub PlainClimb : Type 0
  PlainClimb = (f : Bool) (b : ℕ) (t : Tree) (p e : ℕ) → Plain (climb f b t p e)

  -- of items up to a closer that stands inside the level, and at p or behind it: no others are ever asked for
  abbrev pub PlainItems : Type 0
  PlainItems = (f : Bool) (b from : ℕ) (us : Trees) (p c e : ℕ) → p ≤ c → c < e → Plain (items f b from us p c e)

-- under every lawful host and on every page, the reading is the plain recursive one
abbrev pub ReadsPlainly : Type 0
ReadsPlainly =
    (reading : Part → List Field → Result ℕ Denial) → ((part : Part) (l : List Field) → Lawful l (reading part l))
    → (page : List ℕ) (ts : List Token)
    → PlainExpr reading page ts × PlainClimb reading page ts × PlainItems reading page ts
