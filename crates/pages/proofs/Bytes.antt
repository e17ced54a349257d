-- The bytes of a value: what follows the digits at the start, and a first byte and the rest. Assumes nothing.
use Rattle.std.proofs.Common.{◌≡◌, ℕ, ◌+◌, ◌-◌, ◌<◌, Bool, true, false, ◌&&◌, cond, List, [], ◌∷◌, length, get_or, take, drop, refl, sym, ap, ◌∙◌, one-add, arith}
use Rattle.std.proofs.lemmas.List.{take_rest}
use Rattle.std.specs.List.{prefix_len}
use Rattle.pages.specs.Values.{digit, after_digits}

pub behind_digits : (xs : List ℕ) → drop (prefix_len digit xs) xs ≡ after_digits xs
behind_digits [] = refl
behind_digits (x ∷ xs) =
    elim (digit x) as (λ t. drop (cond t (1 + prefix_len digit xs) 0) (x ∷ xs) ≡ cond t (after_digits xs) (x ∷ xs)) [
      | true ↦ ap (λ n. drop n (x ∷ xs)) (one-add (prefix_len digit xs)) ∙ behind_digits xs
      | false ↦ refl
    ]

-- a test of the first byte and then of the rest
pub at_first : (f g : List ℕ → Bool) (t : ℕ → Bool) → ((x : ℕ) (xs : List ℕ) → f (x ∷ xs) ≡ (t x && g xs)) → (xs : List ℕ) (r : Bool) → 0 < length xs → t (get_or xs 0 0) ≡ true → r ≡ g (take (length xs - 1) (drop 1 xs)) → r ≡ f xs
at_first f g t is [] r h e k = absurd (omega arith)
at_first f g t is (x ∷ xs) r h e k = k ∙ (ap g (take_rest (x ∷ xs) 1) ∙ sym (is x xs ∙ ap (λ b. b && g xs) e))
