use Rattle.std.proofs.Common.{refl, drop-set-lt}
use lib.Seq.{take-set-lt}
use Rattle.std.proofs.lemmas.List.{length-set}
use Rattle.lists.proofs.Counted.put.Goals as goal

pub returns : goal.returns
returns g c =
    record {
      items = take-set-lt c.args.self.now.count.now c.args.self.now.space.now c.args.i c.args.x c.requires.within;
      rest = drop-set-lt _ _ _ _ c.requires.within;
      count = refl;
      room = length-set _ _ _;
      lender = (refl, refl);
    }
