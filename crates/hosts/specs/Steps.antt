-- How lengths add up, and how the marks of references go on or stop. Assumes nothing.
use Rattle.std.specs.Prelude.{◌≡◌, ℕ, ◌+◌, ◌<◌, true, false, List, [], ◌∷◌, drop, ◌==◌, refl}
use Rattle.std.proofs.Common.{arith}
use Rattle.std.proofs.lemmas.Bool.Decides.{nat_tests}
use Rattle.tokens.specs.declared.Look.{Look}
use Rattle.hosts.specs.declared.statement.Role.TheVariants.{Mutable}
use Rattle.hosts.specs.Runs.{ampersand}
use Rattle.hosts.specs.Statements.{first_role, first_mark, behind, references, has_role}

-- a length behind k tokens, with the length that it has without them
pub behind_parts : (k n m : ℕ) → m ≡ behind k n → 0 < m → (0 < n) × (k + n ≡ m)
behind_parts k n m e h = (grind (arith, nat_tests), grind (arith, nat_tests))

pub behind_whole : (k n m : ℕ) → m ≡ behind k n → 0 < n → k + n ≡ m
behind_whole k n m e h = grind (arith, nat_tests)

pub references_mutable : (l : List Look) → (first_mark l == ampersand) ≡ true → has_role Mutable (first_role (drop 1 l)) ≡ true → references l ≡ 2 + references (drop 2 l)
references_mutable [] a m = cc
references_mutable (x ∷ []) a m = cc
references_mutable (x ∷ y ∷ l) a m = rw (a, m)

pub references_shared : (l : List Look) → (first_mark l == ampersand) ≡ true → has_role Mutable (first_role (drop 1 l)) ≡ false → references l ≡ 1 + references (drop 1 l)
references_shared [] a m = cc
references_shared (x ∷ []) a m = rw a
references_shared (x ∷ y ∷ l) a m = rw (a, m)

pub references_none : (l : List Look) → (first_mark l == ampersand) ≡ false → references l ≡ 0
references_none [] a = refl
references_none (x ∷ []) a = rw a
references_none (x ∷ y ∷ l) a = rw a
