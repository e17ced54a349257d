use Rattle.std.proofs.Common.{◌++◌, codes, decimal, arith, length-append}
use Rattle.std.proofs.lemmas.List.Folds.{length-flat_map-take}
use Rattle.lines.proofs.Line.numbers.Goals as goal

pub text-requires : goal.text-requires
text-requires c =
    grind (arith, length-append, length-flat_map-take (λ n. codes " " ++ decimal n) c.args.numbers.now c.loop-number.number-index 0)

pub number-requires : goal.number-requires
number-requires c =
    grind (arith, length-append, length-flat_map-take (λ n. codes " " ++ decimal n) c.args.numbers.now c.loop-number.number-index 0)
