use Rattle.std.proofs.Common.{eqb, ap, ◌∙◌}
use Rattle.tokens.specs.Looks.{mark_at}
use Rattle.hosts.specs.Levels.{mark_first}
use Rattle.hosts.proofs.statement.mark.Goals as goal

pub returns-clause-value : goal.returns-clause-value
returns-clause-value c =
    c.is_mark.ensures ∙ ap (λ m. eqb m c.args.c) (ap (λ i. mark_at c.args.w.tokens.now c.args.w.end i) c.place.ensures ∙ mark_first _ _ _ c.args.w.inside)
