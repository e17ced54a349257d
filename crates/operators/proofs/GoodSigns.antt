-- An operator that stands at a place has one to three tokens, which all stand before the level's end. Assumes nothing.
use Rattle.std.proofs.Common.{◌≡◌, ℕ, ◌+◌, ◌<◌, ◌≤◌, Bool, true, false, cond, not, ◌&&◌, eqb, List, [], ◌∷◌, length, Some, None, Option, refl, arith}
use Rattle.std.proofs.lemmas.Bool.{and_parts, both_ways, cond_both, eqb-true}
use Rattle.std.proofs.lemmas.Bool.Decides.{nat_tests}
use Rattle.tokens.specs.declared.Token.{Token}
use Rattle.operators.specs.declared.Infix.TheVariants.{Cast}
use Rattle.operators.specs.declared.Sign.{Sign}
use Rattle.operators.specs.declared.Sign.TheVariants.{Operator, ThreeDots, LeftArrow}
use Rattle.operators.specs.Spellings.{spelled_at, as_at}
use Rattle.operators.specs.Signs.{spellings, first_of, sign_at, GoodSign}

-- what the table keeps, as a test: no character is 0, which is what `mark_at` shows of anything but a mark, and an operator
-- has as many tokens as its spelling has characters
abbrev pub characters : List ℕ → Bool
characters [] = true
characters (c ∷ cs) = not (eqb c 0) && characters cs

abbrev pub sized : ℕ → Option Sign → Bool
sized n None = true
sized n (Some (Operator op k)) = eqb k n
sized n (Some ThreeDots) = true
sized n (Some LeftArrow) = true

abbrev pub sound : List (List ℕ × (ℕ → Option Sign)) → Bool
sound [] = true
sound ((cs, means) ∷ rows) = (characters cs && sized (length cs) (means (length cs))) && sound rows

-- n tokens, one to three, have room between i and e
abbrev Room : ℕ → ℕ → ℕ → Type 0
Room i e n = (1 ≤ n) × (n ≤ 3) × (i + n ≤ e)

as_room : (ts : List Token) (e i : ℕ) → as_at ts e i ≡ true → Room i e 1
as_room ts e i h =
    let k : i < e = grind (arith, nat_tests) in
    (omega arith, omega arith, omega arith)

spelled_room : (ts : List Token) (e i : ℕ) (cs : List ℕ) → characters cs ≡ true → spelled_at ts e i cs ≡ true → Room i e (length cs)
spelled_room ts e i [] n h = absurd (both_ways false refl h)
spelled_room ts e i (a ∷ []) n h =
    let k : i < e = grind (arith, nat_tests) in
    (omega arith, omega arith, omega arith)
spelled_room ts e i (a ∷ b ∷ []) n h =
    let k : i + 1 < e = grind (arith, nat_tests) in
    (omega arith, omega arith, omega arith)
spelled_room ts e i (a ∷ b ∷ c ∷ []) n h =
    let k : i + 2 < e = grind (arith, nat_tests) in
    (omega arith, omega arith, omega arith)
spelled_room ts e i (a ∷ b ∷ c ∷ d ∷ more) n h = absurd (both_ways false refl h)

sized_good : (i e n : ℕ) (s : Option Sign) → sized n s ≡ true → Room i e n → GoodSign i e s
sized_good i e n None t f = tt
sized_good i e n (Some (Operator op k)) t f =
    let same : k ≡ n = eqb-true k n t in
    (omega arith, omega arith, omega arith)
sized_good i e n (Some ThreeDots) t f = tt
sized_good i e n (Some LeftArrow) t f = tt

first_good : (ts : List Token) (e i : ℕ) (rows : List (List ℕ × (ℕ → Option Sign))) (other : Option Sign) → sound rows ≡ true → GoodSign i e other → GoodSign i e (first_of (spelled_at ts e i) rows other)
first_good ts e i [] other t g = g
first_good ts e i ((cs, means) ∷ rows) other t g =
    let both = and_parts (characters cs && sized (length cs) (means (length cs))) (sound rows) t in
    let row = and_parts (characters cs) (sized (length cs) (means (length cs))) both.0 in
    cond_both (spelled_at ts e i cs) (means (length cs)) (first_of (spelled_at ts e i) rows other) (GoodSign i e)
    (λ h. sized_good i e (length cs) (means (length cs)) row.1 (spelled_room ts e i cs row.0 h))
    (λ _. first_good ts e i rows other both.1 g)

-- whatever stands at a place of a level, it is good
pub good_sign : (ts : List Token) (e i : ℕ) → GoodSign i e (sign_at ts e i)
unfolding sign_at
good_sign ts e i =
    first_good ts e i spellings (cond (as_at ts e i) (Some (Operator Cast 1)) None) refl
    (cond_both (as_at ts e i) (Some (Operator Cast 1)) None (GoodSign i e) (λ h. as_room ts e i h) (λ _. tt))
