use Rattle.std.proofs.Common.{◌∙◌, arith}
use Rattle.pages.proofs.Spellings.{spelled_at, spelled_none}
use Rattle.pages.proofs.words.word_of.Goals as goal

pub returns-in-1-to-3 : goal.returns-in-1-to-3
returns-in-1-to-3 c = c.word_of_one_to_three.ensures ∙ spelled_at c.args.bytes.now 1 3 (omega arith) (omega arith)

pub returns-in-4 : goal.returns-in-4
returns-in-4 c = c.word_of_four.ensures ∙ spelled_at c.args.bytes.now 4 4 (omega arith) (omega arith)

pub returns-in-5 : goal.returns-in-5
returns-in-5 c = c.word_of_five.ensures ∙ spelled_at c.args.bytes.now 5 5 (omega arith) (omega arith)

pub returns-in-6 : goal.returns-in-6
returns-in-6 c = c.word_of_six.ensures ∙ spelled_at c.args.bytes.now 6 6 (omega arith) (omega arith)

pub returns-in-7-to-8 : goal.returns-in-7-to-8
returns-in-7-to-8 c = c.word_of_seven_or_eight.ensures ∙ spelled_at c.args.bytes.now 7 8 (omega arith) (omega arith)

pub returns-in_default : goal.returns-in_default
returns-in_default c = spelled_none c.args.bytes.now (λ low high. omega arith)

pub returns-in_default-2 : goal.returns-in_default-2
returns-in_default-2 c = spelled_none c.args.bytes.now (λ low high. omega arith)
