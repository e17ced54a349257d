use Rattle.std.proofs.Common.{◌∙◌}
use Rattle.columns.proofs.Levels.{first_name, first_other}
use Rattle.columns.proofs.names.begins_with.Goals as goal

pub returns-then-name_at : goal.returns-then-name_at
returns-then-name_at c =
    c.may_be.ensures ∙ first_name _ _ _ _ _ c.args.level.inside _ c.place-at.ensures c.if-name_at.ensures _ c.value.ensures

pub returns-else-name_at : goal.returns-else-name_at
returns-else-name_at c = c.if-name_at.false ∙ first_other _ _ _ _ _ c.args.level.inside _ c.place-at.ensures c.if-name_at.ensures
