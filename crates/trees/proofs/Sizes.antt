-- A tree is laid out in as many nodes as it has. Assumes nothing.
use Rattle.std.proofs.Common.{◌≡◌, ℕ, ◌+◌, [], ◌∷◌, length, Some, None, Option, refl, arith, length-append}
use Rattle.trees.specs.Layout.{Tree, Trees, branch, none, ◌then◌, node, size, sizes, root_at, first_at, lay, lays}

mutual
  pub lay_length : (t : Tree) (j : ℕ) (nx : Option ℕ) → length (lay j nx t) ≡ size t
  lay_length (branch l ts) j nx =
      let h = lays_length ts j None in
      omega (arith, length-append (lays j None ts) (node l (first_at j ts) nx ∷ []))

  pub lays_length : (ts : Trees) (j : ℕ) (nx : Option ℕ) → length (lays j nx ts) ≡ sizes ts
  lays_length none j nx = refl
  lays_length (ts then t) j nx =
      let h = lays_length ts j (Some (root_at (j + sizes ts) t)) in
      let k = lay_length t (j + sizes ts) nx in
      omega (arith, length-append (lays j (Some (root_at (j + sizes ts) t)) ts) (lay (j + sizes ts) nx t))
