-- Induction over a tied definition. Assumes nothing.
use Rattle.std.proofs.Common.{ℕ, zero, suc, ltb}
use Rattle.std.proofs.lemmas.Bool.{cond_both}
use Rattle.grammar.specs.Knot.{below, deep, tied}

-- what the body keeps, whatever it asks, and what holds of `stuck`, holds of every answer
module _ {Q O : Type 0} (size : Q → ℕ) (stuck : O) (body : (Q → O) → Q → O)
    (P : Q → O → Type 0) (at-stuck : (q : Q) → P q stuck) (keeps : (f : Q → O) → ((u : Q) → P u (f u)) → (q : Q) → P q (body f q)) where
  deep_keeps : (n : ℕ) (q : Q) → P q (deep size stuck body n q)
  unfolding deep
  deep_keeps zero q = at-stuck q
  deep_keeps (suc n) q =
      keeps (below size stuck body (deep size stuck body n) q)
      (λ u. cond_both (ltb (size u) (size q)) (deep size stuck body n u) stuck (P u) (λ _. deep_keeps n u) (λ _. at-stuck u)) q

  pub tied_keeps : (q : Q) → P q (tied size stuck body q)
  unfolding tied
  tied_keeps q = deep_keeps (suc (size q)) q
