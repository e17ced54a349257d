use Rattle.std.proofs.Common.{◌+◌, ◌∙◌, sym, ap, arith}
use Rattle.hosts.specs.Statements.{further}
use Rattle.hosts.proofs.Windows.{ahead, found_some}
use Rattle.hosts.proofs.statement.segments.Goals as goal

pub returns-then-has_role-clause-value : goal.returns-then-has_role-clause-value
returns-then-has_role-clause-value c =
    let rest = ahead c.args.w.place 1 c.after.ensures (omega arith) in
    simp (sym c.if-has_role.ensures.value) (found_some _ _ (ap (λ n. 1 + n) (c.further.ensures.value ∙ ap further rest)) (omega arith))
