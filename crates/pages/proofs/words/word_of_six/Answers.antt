use Rattle.std.proofs.Common.{rules, codes, arith}
use Rattle.pages.specs.Words.{spellings, within}
use Rattle.pages.proofs.Spellings.{spelled_as}
use Rattle.pages.proofs.words.word_of_six.Goals as goal

pub returns-in-become : goal.returns-in-become
returns-in-become c = spelled_as (within 6 6 spellings) c.args.bytes.now (codes "become") (omega arith) (search rules)

pub returns-in-return : goal.returns-in-return
returns-in-return c = spelled_as (within 6 6 spellings) c.args.bytes.now (codes "return") (omega arith) (search rules)

pub returns-in-static : goal.returns-in-static
returns-in-static c = spelled_as (within 6 6 spellings) c.args.bytes.now (codes "static") (omega arith) (search rules)

pub returns-in-unsafe : goal.returns-in-unsafe
returns-in-unsafe c = spelled_as (within 6 6 spellings) c.args.bytes.now (codes "unsafe") (omega arith) (search rules)

pub returns-in-extern : goal.returns-in-extern
returns-in-extern c = spelled_as (within 6 6 spellings) c.args.bytes.now (codes "struct") (omega arith) (search rules)

pub returns-in-extern-2 : goal.returns-in-extern-2
returns-in-extern-2 c = spelled_as (within 6 6 spellings) c.args.bytes.now (codes "extern") (omega arith) (search rules)

pub returns-in-extern-3 : goal.returns-in-extern-3
returns-in-extern-3 c = spelled_as (within 6 6 spellings) c.args.bytes.now (codes "typeof") (omega arith) (search rules)
