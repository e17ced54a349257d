-- One tree more at the end of a model. Assumes nothing.
use Rattle.std.proofs.Common.{◌≡◌, ℕ, ◌+◌, List, [], ◌∷◌, ◌++◌, None, sym, ap, ◌∙◌, append_assoc, append-nil, arith}
use Rattle.trees.specs.declared.Node.{Node}
use Rattle.trees.specs.Layout.{size, lay}
use Rattle.sheets.specs.declared.records.Rule.{Rule}
use Rattle.sheets.specs.Model.{Model, Entry, sizes, rule_at, nodes_from, rules_from}

pub sizes_more : (m : Model) (e : Entry) → sizes (m ++ e ∷ []) ≡ sizes m + size e.tree
sizes_more [] e = omega arith
sizes_more (x ∷ xs) e = omega (arith, sizes_more xs e)

pub nodes_more : (j : ℕ) (m : Model) (e : Entry) (n : ℕ) → n ≡ j + sizes m → nodes_from j (m ++ e ∷ []) ≡ nodes_from j m ++ lay n None e.tree
nodes_more j [] e n q = let z : j ≡ n = omega arith in append-nil (lay j None e.tree) ∙ ap (λ (i : ℕ). lay i None e.tree) z
nodes_more j (x ∷ xs) e n q =
    let z : n ≡ j + size x.tree + sizes xs = omega arith in
    ap (λ (l : List Node). lay j None x.tree ++ l) (nodes_more (j + size x.tree) xs e n z)
    ∙ sym (append_assoc (lay j None x.tree) (nodes_from (j + size x.tree) xs) (lay n None e.tree))

pub rules_more : (j : ℕ) (m : Model) (e : Entry) (n : ℕ) → n ≡ j + sizes m → rules_from j (m ++ e ∷ []) ≡ rules_from j m ++ rule_at n e ∷ []
rules_more j [] e n q = let z : j ≡ n = omega arith in ap (λ (i : ℕ). rule_at i e ∷ []) z
rules_more j (x ∷ xs) e n q =
    let z : n ≡ j + size x.tree + sizes xs = omega arith in
    ap (λ (l : List Rule). rule_at j x ∷ l) (rules_more (j + size x.tree) xs e n z)
