use Rattle.std.proofs.Common.{true, false, arith}
use Rattle.columns.proofs.Ends.{short_end, long_end}
use Rattle.columns.proofs.walk.name_end.Goals as goal

pub returns-in_default-clause-value : goal.returns-in_default-clause-value
returns-in_default-clause-value c = short_end c.args.page.now c.args.at (omega arith)

pub returns-then-holds_name-clause-value : goal.returns-then-holds_name-clause-value
returns-then-holds_name-clause-value c =
    long_end c.args.page.now c.args.at c.from-len.result true (omega arith) (omega arith) c.if-holds_name.ensures.value

pub returns-else-holds_name-clause-value : goal.returns-else-holds_name-clause-value
returns-else-holds_name-clause-value c =
    long_end c.args.page.now c.args.at c.from-len.result false (omega arith) (omega arith) c.if-holds_name.ensures.value
