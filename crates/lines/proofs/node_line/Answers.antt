use Rattle.std.proofs.Common.{arith, length-append}
use Rattle.std.proofs.lemmas.Fmt.{length-decimal-le}
use Rattle.lines.proofs.node_line.Goals as goal

pub number-requires : goal.number-requires
number-requires c = search (arith, length-append, length-decimal-le 20)

pub numbers-requires : goal.numbers-requires
numbers-requires c = search (arith, length-append, length-decimal-le 10)

-- at most 4 + 2 + 10 + 4 + 4 digits, and a byte behind each number
pub write-requires : goal.write-requires
write-requires c =
    let kind = length-decimal-le 2 c.args.kind (omega arith) (omega arith) (omega arith) in
    let op = length-decimal-le 10 c.args.op (omega arith) (omega arith) (omega arith) in
    search (arith, length-append, length-decimal-le 4)
