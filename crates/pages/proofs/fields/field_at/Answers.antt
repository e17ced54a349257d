use Rattle.std.proofs.Common.{ap, ◌∙◌}
use Rattle.std.proofs.lemmas.List.{take_rest}
use Rattle.pages.specs.Fields.{headed, field_at}
use Rattle.pages.proofs.fields.field_at.Goals as goal

pub returns : goal.returns
unfolding field_at
returns c = c.read_field.ensures ∙ ap (headed c.args.at) (take_rest c.args.page.now c.args.at)
