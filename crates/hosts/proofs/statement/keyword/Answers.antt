use Rattle.std.proofs.Common.{◌∙◌, sym, ap, arith}
use Rattle.tokens.specs.declared.Delimiter.TheVariants.{Brace}
use Rattle.hosts.specs.Statements.{group_length, found}
use Rattle.hosts.proofs.Windows.{ahead, behind_some, behind_none}
use Rattle.hosts.proofs.statement.keyword.Goals as goal

pub returns-in_err-group-clause-value : goal.returns-in_err-group-clause-value
returns-in_err-group-clause-value c =
    let rest = ahead c.args.w.place 1 c.after.ensures (omega arith) in
    c.from_residual.ensures
    ∙ simp (sym c.if-has_role.ensures.value) (behind_none 1 _ (c.in_err-group.ensures.value ∙ ap (λ l. found (group_length Brace l)) rest))

pub returns-in_ok-group-clause-value : goal.returns-in_ok-group-clause-value
returns-in_ok-group-clause-value c =
    let rest = ahead c.args.w.place 1 c.after.ensures (omega arith) in
    simp (sym c.if-has_role.ensures.value) (behind_some 1 _ _ (c.in_ok-group.ensures.value ∙ ap (λ l. found (group_length Brace l)) rest))
