use Rattle.std.proofs.Common.{◌≡◌, ℕ, ◌+◌, ◌==◌, true, false, List, drop, Some, None, Option, ◌∙◌, sym, ap, arith}
use Rattle.std.proofs.lemmas.Bool.Decides.{nat_tests}
use Rattle.std.proofs.lemmas.List.{drop-drop}
use Rattle.tokens.specs.declared.Look.{Look}
use Rattle.hosts.specs.Runs.{greater}
use Rattle.hosts.specs.Statements.{type_length, enclosed, first_mark, found}
use Rattle.hosts.proofs.Windows.{ahead, found_is}
use Rattle.hosts.proofs.statement.angled.Goals as goal

nothing : (n : ℕ) (l : List Look) → ◌≡◌ {A = Option ℕ} None (found n) → ◌≡◌ {A = Option ℕ} None (found (enclosed n l))
nothing n l e = grind (arith, nat_tests)

-- what stands behind the type, by its length
behind : (n m : ℕ) (l : List Look) → Some n ≡ found m → (first_mark (drop (1 + n) l) == greater) ≡ (first_mark (drop m (drop 1 l)) == greater)
behind n m l e = ap (λ k. first_mark k == greater) (sym (drop-drop n 1 l) ∙ ap (λ k. drop k (drop 1 l)) (found_is n m e).0)

closed : (n m : ℕ) (l : List Look) → Some n ≡ found m → true ≡ (first_mark (drop (1 + n) l) == greater) → Some (2 + n) ≡ found (enclosed m (drop 1 l))
closed n m l e t = let is = found_is n m e in rw (sym (t ∙ behind n m l e)) (grind (arith, nat_tests))

unclosed : (n m : ℕ) (l : List Look) → Some n ≡ found m → false ≡ (first_mark (drop (1 + n) l) == greater) → ◌≡◌ {A = Option ℕ} None (found (enclosed m (drop 1 l)))
unclosed n m l e t = rw (sym (t ∙ behind n m l e)) (grind (arith, nat_tests))

pub returns-in_err-n-clause-value : goal.returns-in_err-n-clause-value
returns-in_err-n-clause-value c =
    let rest = ahead c.args.w.place 1 c.after.ensures (omega arith) in
    c.from_residual.ensures
    ∙ simp (sym c.if-not-mark.ensures.value) (nothing _ _ (c.in_err-n.ensures.value ∙ ap (λ l. found (type_length l)) rest))

pub returns-then-mark-clause-value : goal.returns-then-mark-clause-value
returns-then-mark-clause-value c =
    let rest = ahead c.args.w.place 1 c.after.ensures (omega arith) in
    let last = ahead c.args.w.place (1 + c.in_ok-n.n) c.after-2.ensures (omega arith) in
    let length = c.in_ok-n.ensures.value ∙ ap (λ l. found (type_length l)) rest in
    simp (sym c.if-not-mark.ensures.value) (closed _ _ _ length (c.if-mark.ensures.value ∙ ap (λ l. first_mark l == greater) last))

pub returns-else-mark-clause-value : goal.returns-else-mark-clause-value
returns-else-mark-clause-value c =
    let rest = ahead c.args.w.place 1 c.after.ensures (omega arith) in
    let last = ahead c.args.w.place (1 + c.in_ok-n.n) c.after-2.ensures (omega arith) in
    let length = c.in_ok-n.ensures.value ∙ ap (λ l. found (type_length l)) rest in
    simp (sym c.if-not-mark.ensures.value) (unclosed c.in_ok-n.n _ _ length (c.if-mark.ensures.value ∙ ap (λ l. first_mark l == greater) last))
