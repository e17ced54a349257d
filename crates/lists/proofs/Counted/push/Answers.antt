use Rattle.std.proofs.Common.{◌+◌, ◌<◌, sym, refl, ◌∙◌, arith, drop-set-lt, rules}
use Rattle.std.proofs.lemmas.List.{take_more_set, length-set, drop-drop}
use Rattle.lists.proofs.Counted.push.Goals as goal

pub returns : goal.returns
returns g c =
    let behind : c.args.self.now.count.now < c.args.self.now.count.now + 1 = omega arith in
    record {
      value = search rules;
      pushed = λ fits. record {
        list = take_more_set _ _ _ fits;
        behind = drop-set-lt _ _ _ _ behind ∙ sym (drop-drop 1 c.args.self.now.count.now c.args.self.now.space.now);
        count = refl;
      };
      full = λ full. absurd (omega arith);
      room = length-set _ _ _;
      lender = (refl, refl);
    }
