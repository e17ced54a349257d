use Rattle.std.proofs.Common.{◌+◌, ◌∙◌, ap, arith}
use Rattle.hosts.specs.Statements.{has_role, first_role, colons}
use Rattle.hosts.specs.declared.statement.Role.TheVariants.{Segment}
use Rattle.hosts.proofs.Windows.{ahead, further_again, further_stops, further_ends}
use Rattle.hosts.proofs.statement.further.Goals as goal

pub loop-w-preserved : goal.loop-w-preserved
loop-w-preserved c =
    let pair = ahead c.args.w.place c.loop-w.n c.after.ensures (omega arith) in
    let next = ahead c.args.w.place (c.loop-w.n + 2) c.after-in-loop-w.ensures (omega arith) in
    record {
      so_far =
          further_again _ _ (c.loop-w-test.ensures.value ∙ ap colons pair) (c.if-has_role.ensures.value ∙ ap (λ l. has_role Segment (first_role l)) next)
          ∙ c.loop-w.invariant.so_far;
      within = omega arith;
    }

pub returns-else-has_role-clause-value : goal.returns-else-has_role-clause-value
returns-else-has_role-clause-value c =
    let next = ahead c.args.w.place (c.loop-w.n + 2) c.after-in-loop-w.ensures (omega arith) in
    further_ends _ c.loop-w.n _ c.loop-w.invariant.so_far (c.if-has_role.ensures.value ∙ ap (λ l. has_role Segment (first_role l)) next)

pub returns-after-loop-w-clause-value : goal.returns-after-loop-w-clause-value
returns-after-loop-w-clause-value c =
    let pair = ahead c.args.w.place c.loop-w.n c.after.ensures (omega arith) in
    further_stops _ c.loop-w.n _ c.loop-w.invariant.so_far (c.loop-w-test.ensures.value ∙ ap colons pair)
