use Rattle.std.proofs.Common.{sym, ◌∙◌, get_or-take}
use Rattle.lists.proofs.Counted.get.Goals as goal

pub returns : goal.returns
returns g c = c.index-all-i.is ∙ sym (get_or-take c.args.self.now.count.now c.args.self.now.space.now c.args.i c.index-all-i.result c.requires.within)
