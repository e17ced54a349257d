-- A child that is attached changes one link. Assumes nothing.
use Rattle.std.proofs.Common.{◌≡◌, ℕ, ◌+◌, ◌-◌, List, [], ◌∷◌, ◌++◌, length, get_or, set, Some, None, Option, sym, refl, ap, ◌∙◌, append_assoc, arith, length-append}
use Rattle.std.proofs.lemmas.List.{set_at, get_or-append_right}
use Rattle.trees.specs.declared.Label.{Label}
use Rattle.trees.specs.declared.Node.{Node}
use Rattle.trees.specs.Layout.{Trees, branch, none, ◌then◌, node, sizes, root_at, first_at, lays}
use Rattle.trees.proofs.Sizes.{lays_length}
use Rattle.reading.specs.Machine.{last_at, with_next, no_node, link_to}

-- one node's link is changed where it stands
patch : (p ys : List Node) (l : Label) (f nx : Option ℕ) (i r : ℕ) → length p ≡ i → link_to (p ++ node l f nx ∷ ys) (Some i) r ≡ p ++ node l f (Some r) ∷ ys
patch p ys l f nx i r is =
    let zero-on : i - i ≡ 0 = omega arith in
    let reads : get_or (p ++ node l f nx ∷ ys) i no_node ≡ node l f nx =
    get_or-append_right p (node l f nx ∷ ys) i i no_node is (omega arith) ∙ ap (λ (k : ℕ). get_or (node l f nx ∷ ys) k no_node) zero-on in
    ap (λ (n : Node). set (p ++ node l f nx ∷ ys) i (with_next n r)) reads ∙ set_at p (node l f nx) ys (node l f (Some r)) i is

-- the last root of a row of children learns its sibling
pub relink : (us : Trees) (A B : List Node) (j r : ℕ) → length A ≡ j → link_to (A ++ (lays j None us ++ B)) (last_at j us) r ≡ A ++ (lays j (Some r) us ++ B)
relink none A B j r is = refl
relink (us then branch l vs) A B j r is =
    let X = lays j (Some (root_at (j + sizes us) (branch l vs))) us in
    let Y = lays (j + sizes us) None vs in
    let f = first_at (j + sizes us) vs in
    let long : length (A ++ (X ++ Y)) ≡ j + sizes us + sizes vs =
    omega (arith, length-append A (X ++ Y), length-append X Y, lays_length us j (Some (root_at (j + sizes us) (branch l vs))), lays_length vs (j + sizes us) None) in
    let shape : (nx : Option ℕ) → A ++ ((X ++ (Y ++ node l f nx ∷ [])) ++ B) ≡ (A ++ (X ++ Y)) ++ node l f nx ∷ B = λ nx. simp append_assoc in
    ap (λ (N : List Node). link_to N (Some (j + sizes us + sizes vs)) r) (shape None) ∙ patch (A ++ (X ++ Y)) B l f None (j + sizes us + sizes vs) r long ∙ sym (shape (Some r))
