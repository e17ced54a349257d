use Rattle.std.proofs.Common.{◌∙◌, ap, arith}
use Rattle.hosts.specs.Statements.{path_length, found}
use Rattle.hosts.proofs.Windows.{ahead, behind_some, behind_none}
use Rattle.hosts.proofs.statement.type_name.Goals as goal

pub returns-in_err-path-clause-value : goal.returns-in_err-path-clause-value
returns-in_err-path-clause-value c =
    let rest = ahead c.args.w.place c.references-n.result c.after.ensures (omega arith) in
    c.from_residual.ensures
    ∙ rw (← c.references-n.ensures.value) (behind_none c.references-n.result _ (c.in_err-path.ensures.value ∙ ap (λ l. found (path_length l)) rest))

pub returns-clause-value : goal.returns-clause-value
returns-clause-value c =
    let rest = ahead c.args.w.place c.references-n.result c.after.ensures (omega arith) in
    rw (← c.references-n.ensures.value) (behind_some c.references-n.result _ _ (c.in_ok-path.ensures.value ∙ ap (λ l. found (path_length l)) rest))
