use Rattle.std.proofs.Common.{arith, length-append}
use Rattle.std.proofs.lemmas.Fmt.{length-decimal-le}
use Rattle.lines.proofs.refusal_line.Goals as goal

pub number-requires : goal.number-requires
number-requires c = search (arith, length-append, length-decimal-le 20)

-- at most 3 + 20 + 3 + 3 + 3 digits, and a byte behind each number
pub numbers-requires : goal.numbers-requires
numbers-requires c =
    let place = length-decimal-le 20 c.place-place.result (omega arith) (omega arith) (omega arith) in
    search (arith, length-append, length-decimal-le 3)

pub put-requires : goal.put-requires
put-requires c =
    let place = length-decimal-le 20 c.place-place.result (omega arith) (omega arith) (omega arith) in
    search (arith, length-append, length-decimal-le 3)
