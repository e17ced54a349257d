-- What the rule of a table of ranks says of one entry, and how large a rank can be. Assumes nothing.
use Rattle.std.proofs.Common.{◌≡◌, ℕ, zero, suc, ◌+◌, ◌-◌, ◌<◌, ◌≤◌, true, eqb, List, [], ◌∷◌, length, get_or, sym, ap, ◌∙◌, le_of_suc-le-suc, not-suc-le-zero, add-zero, add-suc, suc-add, arith}
use Rattle.std.proofs.lemmas.Bool.Decides.{nat_tests}
use Rattle.std.proofs.lemmas.Bool.{and_parts, eqb-true}
use Rattle.operators.specs.Ranks.{rank_of_code, ranked}

ranked_from : (xs : List ℕ) (k i : ℕ) → ranked k xs ≡ true → i < length xs → get_or xs i 0 ≡ rank_of_code (k + i)
ranked_from [] k i t h = absurd (not-suc-le-zero h)
ranked_from (x ∷ xs) k zero t h =
    eqb-true x (rank_of_code k) (and_parts (eqb x (rank_of_code k)) (ranked (suc k) xs) t).0 ∙ ap rank_of_code (sym (add-zero k))
ranked_from (x ∷ xs) k (suc i) t h =
    ranked_from xs (suc k) i (and_parts (eqb x (rank_of_code k)) (ranked (suc k) xs) t).1 (le_of_suc-le-suc h)
    ∙ ap rank_of_code (suc-add k i ∙ sym (add-suc k i))

-- the entry of a code
pub ranked_at : (xs : List ℕ) (k : ℕ) → ranked 1 xs ≡ true → 0 < k → k ≤ length xs → get_or xs (k - 1) 0 ≡ rank_of_code k
ranked_at xs k t low high =
    let h : k - 1 < length xs = omega arith in
    let e : 1 + (k - 1) ≡ k = omega arith in
    ranked_from xs 1 (k - 1) t h ∙ ap rank_of_code e

pub rank_within : (k : ℕ) → rank_of_code k ≤ 12
rank_within k = grind (arith, nat_tests)
