use Rattle.std.proofs.Common.{rules, codes, arith}
use Rattle.pages.specs.Words.{spellings, within}
use Rattle.pages.proofs.Spellings.{spelled_as}
use Rattle.pages.proofs.words.word_of_seven_or_eight.Goals as goal

pub returns-in-continue : goal.returns-in-continue
returns-in-continue c = spelled_as (within 7 8 spellings) c.args.bytes.now (codes "continue") (omega arith) (search rules)

pub returns-in-unsized : goal.returns-in-unsized
returns-in-unsized c = spelled_as (within 7 8 spellings) c.args.bytes.now (codes "unsized") (omega arith) (search rules)

pub returns-in-unsized-2 : goal.returns-in-unsized-2
returns-in-unsized-2 c = spelled_as (within 7 8 spellings) c.args.bytes.now (codes "virtual") (omega arith) (search rules)

pub returns-in-unsized-3 : goal.returns-in-unsized-3
returns-in-unsized-3 c = spelled_as (within 7 8 spellings) c.args.bytes.now (codes "abstract") (omega arith) (search rules)

pub returns-in-unsized-4 : goal.returns-in-unsized-4
returns-in-unsized-4 c = spelled_as (within 7 8 spellings) c.args.bytes.now (codes "override") (omega arith) (search rules)
