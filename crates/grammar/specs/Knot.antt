-- A definition by recursion in which a question may ask only for what is smaller; anything else is answered by `stuck`. Assumes nothing.
use Rattle.std.specs.Prelude.{ℕ, zero, suc, cond, nat_lt}

module _ {Q O : Type 0} (size : Q → ℕ) (stuck : O) (body : (Q → O) → Q → O) where
  -- what a question q may ask of the answers f
  abbrev pub below : (Q → O) → Q → Q → O
  below f q u = cond (nat_lt (size u) (size q)) (f u) stuck

  unfoldable pub deep : ℕ → Q → O
  deep zero q = stuck
  deep (suc n) q = body (below (deep n) q) q

  unfoldable pub tied : Q → O
  tied q = deep (suc (size q)) q
