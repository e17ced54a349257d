use Rattle.std.proofs.Common.{◌≡◌, ℕ, ◌+◌, List, drop, Some, unwrap_or, ◌∙◌, sym, ap, arith}
use Rattle.std.proofs.lemmas.Bool.Decides.{nat_tests}
use Rattle.tokens.specs.declared.Look.{Look}
use Rattle.tokens.specs.declared.Delimiter.TheVariants.{Paren}
use Rattle.hosts.specs.Statements.{group_length, with_group, found}
use Rattle.hosts.proofs.Windows.{ahead, found_is}
use Rattle.hosts.proofs.statement.pattern.Goals as goal

unwrapped : (n : ℕ) → unwrap_or (found n) 0 ≡ n
unwrapped n = grind (arith, nat_tests)

with_group_lem : (n m k : ℕ) (l : List Look) → Some n ≡ found m → k ≡ group_length Paren (drop n l) → Some (n + k) ≡ found (with_group m l)
with_group_lem n m k l a b =
    let is = found_is n m a in
    let same : group_length Paren (drop n l) ≡ group_length Paren (drop m l) = ap (λ i. group_length Paren (drop i l)) is.0 in
    grind (arith, nat_tests)

pub returns-clause-value : goal.returns-clause-value
returns-clause-value c =
    let rest = ahead c.args.w.place c.in_ok-n.n c.after.ensures (omega arith) in
    let group = c.unwrap_or.ensures ∙ ap (λ o. unwrap_or o 0) (c.group.ensures.value ∙ ap (λ l. found (group_length Paren l)) rest) ∙ unwrapped _ in
    simp (sym c.if-has_role.ensures.value) (with_group_lem c.in_ok-n.n _ _ _ c.in_ok-n.ensures.value group)
