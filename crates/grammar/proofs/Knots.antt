-- The equation of a tied definition, and induction over it. Assumes nothing.
use Rattle.std.proofs.Common.{◌≡◌, ℕ, zero, suc, ◌<◌, Bool, true, false, cond, ltb, refl, ap, arith, ltb-true, lt-ltb}
use mathlib.Core.Path.{fun_ext}
use Rattle.std.proofs.lemmas.Bool.{cond-true}
use Rattle.grammar.specs.Knot.{below, deep, tied}

module _ {Q O : Type 0} (size : Q → ℕ) (stuck : O) (body : (Q → O) → Q → O) where
  cond_same : (b : Bool) (x y z : O) → (b ≡ true → x ≡ y) → cond b x z ≡ cond b y z
  cond_same true x y z h = h refl
  cond_same false x y z h = refl

  -- any depth above a question's size gives the same answer
  agree : (n m : ℕ) (q : Q) → size q < n → size q < m → deep size stuck body n q ≡ deep size stuck body m q
  unfolding deep
  agree zero m q h k = absurd (omega arith)
  agree (suc n) zero q h k = absurd (omega arith)
  agree (suc n) (suc m) q h k =
      ap (λ (f : Q → O). body f q)
      (fun_ext λ u. cond_same (ltb (size u) (size q)) _ _ stuck (λ e. let l = ltb-true (size u) (size q) e in agree n m u (omega arith) (omega arith)))

  pub unfolds : (q : Q) → tied size stuck body q ≡ body (below size stuck body (tied size stuck body) q) q
  unfolding tied deep
  unfolds q =
      ap (λ (f : Q → O). body f q)
      (fun_ext λ u. cond_same (ltb (size u) (size q)) _ _ stuck (λ e. let l = ltb-true (size u) (size q) e in agree (size q) (suc (size u)) u (omega arith) (omega arith)))

  -- what a smaller question gives
  pub asks : (q u : Q) → size u < size q → below size stuck body (tied size stuck body) q u ≡ tied size stuck body u
  asks q u h = cond-true _ _ _ (lt-ltb (size u) (size q) h)
