-- A tree, and how it is laid out as numbered nodes: children first, left to right. Assumes nothing.
use Rattle.std.specs.Prelude.{ℕ, ◌+◌, List, [], ◌∷◌, ◌++◌, Some, None, Option}
use Rattle.trees.specs.declared.Label.{Label}
use Rattle.trees.specs.declared.Node.{Node}

mutual
  pub data Tree : Type 0 where
    branch : Label → Trees → Tree

  -- children, the last one outermost
  pub data Trees : Type 0 where
    none : Trees
    ◌then◌ : Trees → Tree → Trees

infixl 60 ◌then◌
abbrev pub label_of : Tree → Label
label_of (branch l ts) = l

abbrev pub node : Label → Option ℕ → Option ℕ → Node
node l f n = record { label = l; first = f; next = n }

-- how many nodes a tree has
abbrev mutual
  pub size : Tree → ℕ
  size (branch l ts) = sizes ts + 1

  pub sizes : Trees → ℕ
  sizes none = 0
  sizes (ts then t) = sizes ts + size t

-- the number of a tree's root, where its first node has the number j
abbrev pub root_at : ℕ → Tree → ℕ
root_at j (branch l ts) = j + sizes ts

abbrev pub first_or : Option ℕ → ℕ → Option ℕ
first_or (Some f) r = Some f
first_or None r = Some r

-- the number of the first child
abbrev pub first_at : ℕ → Trees → Option ℕ
first_at j none = None
first_at j (ts then t) = first_or (first_at j ts) (root_at (j + sizes ts) t)

-- the nodes of a tree, numbered from j; nx is the next sibling of its root
abbrev mutual
  pub lay : ℕ → Option ℕ → Tree → List Node
  lay j nx (branch l ts) = lays j None ts ++ node l (first_at j ts) nx ∷ []

  pub lays : ℕ → Option ℕ → Trees → List Node
  lays j nx none = []
  lays j nx (ts then t) = lays j (Some (root_at (j + sizes ts) t)) ts ++ lay (j + sizes ts) nx t
