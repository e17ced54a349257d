use Rattle.std.proofs.Common.{◌∙◌, sym, ap, arith}
use Rattle.hosts.specs.Statements.{angled_length, found}
use Rattle.hosts.proofs.Windows.{ahead, behind_some, behind_none}
use Rattle.hosts.proofs.statement.arguments.Goals as goal

pub returns-in_err-angled-clause-value : goal.returns-in_err-angled-clause-value
returns-in_err-angled-clause-value c =
    let rest = ahead c.args.w.place 2 c.after.ensures (omega arith) in
    c.from_residual.ensures
    ∙ simp (sym c.if-colons.ensures.value) (behind_none 2 _ (c.in_err-angled.ensures.value ∙ ap (λ l. found (angled_length l)) rest))

pub returns-in_ok-angled-clause-value : goal.returns-in_ok-angled-clause-value
returns-in_ok-angled-clause-value c =
    let rest = ahead c.args.w.place 2 c.after.ensures (omega arith) in
    simp (sym c.if-colons.ensures.value) (behind_some 2 _ _ (c.in_ok-angled.ensures.value ∙ ap (λ l. found (angled_length l)) rest))
