use Rattle.std.proofs.Common.{◌+◌, ◌==◌, ◌∙◌, ap, arith}
use Rattle.hosts.specs.Runs.{ampersand}
use Rattle.hosts.specs.Statements.{has_role, first_role, first_mark}
use Rattle.hosts.specs.declared.statement.Role.TheVariants.{Mutable}
use Rattle.hosts.proofs.Windows.{ahead, references_again_mutable, references_again, references_stop}
use Rattle.hosts.proofs.statement.references.Goals as goal
use Rattle.hosts.proofs.statement.references.Goals.{then-has_role, else-has_role}

pub loop-w-preserved : goal.loop-w-preserved
loop-w-preserved c =
    let mark = ahead c.args.w.place c.loop-w.n c.after.ensures (omega arith) in
    let next = ahead c.args.w.place (c.loop-w.n + 1) c.after-in-loop-w.ensures (omega arith) in
    let marked = c.loop-w-test.ensures.value ∙ ap (λ l. first_mark l == ampersand) mark in
    elim c.if-has_role.branch [
      | then-has_role w ↦
          let again = references_again_mutable _ _ marked (w.if-has_role.ensures.value ∙ ap (λ l. has_role Mutable (first_role l)) next) in
          rw w.n-is (record { so_far = again ∙ c.loop-w.invariant.so_far; within = omega arith })
      | else-has_role w ↦
          let again = references_again _ _ marked (w.if-has_role.ensures.value ∙ ap (λ l. has_role Mutable (first_role l)) next) in
          rw w.n-is (record { so_far = again ∙ c.loop-w.invariant.so_far; within = omega arith })
    ]

pub returns-clause-value : goal.returns-clause-value
returns-clause-value c =
    let mark = ahead c.args.w.place c.loop-w.n c.after.ensures (omega arith) in
    references_stop _ c.loop-w.n _ c.loop-w.invariant.so_far (c.loop-w-test.ensures.value ∙ ap (λ l. first_mark l == ampersand) mark)
