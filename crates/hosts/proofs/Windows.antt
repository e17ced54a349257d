-- What a window shows further on, and the lengths that a function answers.
use Rattle.std.proofs.Common.{◌≡◌, ℕ, ◌+◌, ◌<◌, ◌≤◌, min, List, Some, None, Option, [], ◌∷◌, refl, drop, ◌==◌, sym, ap, ◌∙◌, arith, nat_lt, true, false, ltb-true, ltb-false}
use Rattle.std.proofs.Math.Bool.{and-false}
use Rattle.std.proofs.lemmas.Bool.Decides.{nat_tests}
use Rattle.std.proofs.lemmas.List.{drop-drop}
use Rattle.tokens.specs.declared.Look.{Look}
use Rattle.tokens.specs.declared.Token.{Token}
use Rattle.hosts.specs.declared.statement.Role.TheVariants.{Segment, Mutable}
use Rattle.hosts.specs.Runs.{ampersand}
use Rattle.hosts.specs.Statements.{looks_from, first_role, first_mark, has_role, colons, behind, further, references, found}
use Rattle.hosts.specs.Levels.{looks_drop, looks_none}
use Rattle.hosts.specs.Roles.{tested}
use Rattle.hosts.specs.Steps.{references_mutable, references_shared, references_none}

-- the looks of a window n places further on, whose place stops at the greatest number
pub ahead : {page old : List ℕ} {ts us : List Token} {q e f m : ℕ} (p n : ℕ)
    → record { page : page ≡ old; tokens : us ≡ ts; place : q ≡ min (p + n) m; end : f ≡ e }
    → e ≤ m → looks_from us q f ≡ drop n (looks_from ts p e)
ahead {page} {old} {ts} {us} {q} {e} {f} {m} p n is h =
    ap (λ k. looks_from us k f) is.place ∙ ap (λ k. looks_from us (min (p + n) m) k) is.end
    ∙ ap (λ xs. looks_from xs (min (p + n) m) e) is.tokens ∙ tested (nat_lt m (p + n)) far near
  where
    far : nat_lt m (p + n) ≡ true → looks_from ts (min (p + n) m) e ≡ drop n (looks_from ts p e)
    far t =
        let a : e ≤ min (p + n) m = omega (arith, ltb-true) in
        let b : e ≤ p + n = omega (arith, ltb-true) in
        looks_none ts _ e a ∙ sym (looks_none ts (p + n) e b) ∙ looks_drop ts p e n

    near : nat_lt m (p + n) ≡ false → looks_from ts (min (p + n) m) e ≡ drop n (looks_from ts p e)
    near t =
        let a : min (p + n) m ≡ p + n = omega (arith, ltb-false) in
        ap (λ k. looks_from ts k e) a ∙ looks_drop ts p e n

-- lengths as functions answer them

pub behind_some : (k n m : ℕ) → Some n ≡ found m → Some (k + n) ≡ found (behind k m)
behind_some k n m e = grind (arith, nat_tests)

pub behind_none : (k m : ℕ) → ◌≡◌ {A = Option ℕ} None (found m) → ◌≡◌ {A = Option ℕ} None (found (behind k m))
behind_none k m e = grind (arith, nat_tests)

pub found_is : (n m : ℕ) → Some n ≡ found m → (n ≡ m) × (0 < n)
found_is n m e = (grind (arith, nat_tests), grind (arith, nat_tests))

pub found_some : (n m : ℕ) → n ≡ m → 0 < n → Some n ≡ found m
found_some n m e s = grind (arith, nat_tests)

-- how the pairs at the front go on or stop

further_more : (l : List Look) → colons l ≡ true → has_role Segment (first_role (drop 2 l)) ≡ true → further l ≡ 3 + further (drop 3 l)
further_more [] c s = cc
further_more (a ∷ []) c s = cc
further_more (a ∷ b ∷ []) c s = cc
further_more (a ∷ b ∷ x ∷ l) c s = rw (c, s)

further_none : (l : List Look) → colons l ≡ false → further l ≡ 0
further_none [] c = refl
further_none (a ∷ []) c = refl
further_none (a ∷ b ∷ []) c = refl
further_none (a ∷ b ∷ x ∷ l) c = rw c

further_last : (l : List Look) → has_role Segment (first_role (drop 2 l)) ≡ false → further l ≡ 0
further_last [] s = refl
further_last (a ∷ []) s = refl
further_last (a ∷ b ∷ []) s = refl
further_last (a ∷ b ∷ x ∷ l) s = rw (s, and-false)

-- the same of the pairs and of the marks, n tokens further on

pub further_again : (l : List Look) (n : ℕ) → true ≡ colons (drop n l) → true ≡ has_role Segment (first_role (drop (n + 2) l))
    → n + 3 + further (drop (n + 3) l) ≡ n + further (drop n l)
further_again l n c s =
    let more = further_more (drop n l) (sym c) (sym (s ∙ ap (λ m. has_role Segment (first_role m)) (sym (drop-drop 2 n l)))) in
    omega (arith, more, ap further (drop-drop 3 n l))

pub further_stops : (l : List Look) (n m : ℕ) → n + further (drop n l) ≡ m → false ≡ colons (drop n l) → n ≡ m
further_stops l n m e c = omega (arith, further_none (drop n l) (sym c))

pub further_ends : (l : List Look) (n m : ℕ) → n + further (drop n l) ≡ m → false ≡ has_role Segment (first_role (drop (n + 2) l)) → n ≡ m
further_ends l n m e s = omega (arith, further_last (drop n l) (sym (s ∙ ap (λ m. has_role Segment (first_role m)) (sym (drop-drop 2 n l)))))

pub references_again_mutable : (l : List Look) (n : ℕ) → true ≡ (first_mark (drop n l) == ampersand) → true ≡ has_role Mutable (first_role (drop (n + 1) l))
    → n + 2 + references (drop (n + 2) l) ≡ n + references (drop n l)
references_again_mutable l n a m =
    let more = references_mutable (drop n l) (sym a) (sym (m ∙ ap (λ k. has_role Mutable (first_role k)) (sym (drop-drop 1 n l)))) in
    omega (arith, more, ap references (drop-drop 2 n l))

pub references_again : (l : List Look) (n : ℕ) → true ≡ (first_mark (drop n l) == ampersand) → false ≡ has_role Mutable (first_role (drop (n + 1) l))
    → n + 1 + references (drop (n + 1) l) ≡ n + references (drop n l)
references_again l n a m =
    let more = references_shared (drop n l) (sym a) (sym (m ∙ ap (λ k. has_role Mutable (first_role k)) (sym (drop-drop 1 n l)))) in
    omega (arith, more, ap references (drop-drop 1 n l))

pub references_stop : (l : List Look) (n m : ℕ) → n + references (drop n l) ≡ m → false ≡ (first_mark (drop n l) == ampersand) → n ≡ m
references_stop l n m e a = omega (arith, references_none (drop n l) (sym a))
