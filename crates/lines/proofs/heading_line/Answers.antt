use Rattle.std.proofs.Common.{arith, length-append}
use Rattle.std.proofs.lemmas.Fmt.{length-decimal-le}
use Rattle.lines.proofs.heading_line.Goals as goal

pub number-requires : goal.number-requires
number-requires c = search (arith, length-append, length-decimal-le 20)

pub text-requires-2 : goal.text-requires-2
text-requires-2 c = search (arith, length-append, length-decimal-le 20)

pub number-requires-2 : goal.number-requires-2
number-requires-2 c = search (arith, length-append, length-decimal-le 20)

pub text-requires-3 : goal.text-requires-3
text-requires-3 c = search (arith, length-append, length-decimal-le 20)

pub write-requires : goal.write-requires
write-requires c = search (arith, length-append, length-decimal-le 4)
