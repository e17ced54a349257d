use Rattle.std.proofs.Common.{rules, sym, arith}
use Rattle.pages.proofs.Sound.{field_is}
use Rattle.pages.proofs.walk.FieldsIterator.next.Goals as goal

pub overflow_add-self : goal.overflow_add-self
overflow_add-self c =
    let f = field_is c.args.self.now.page.now c.args.self.now.at c.in-Ok.token (omega arith) (sym c.in-Ok.ensures) in
    omega arith

pub invariant_of-self : goal.invariant_of-self
invariant_of-self c =
    let f = field_is c.args.self.now.page.now c.args.self.now.at c.in-Ok.token (omega arith) (sym c.in-Ok.ensures) in
    search rules

pub returns-in-Ok-clause-goes : goal.returns-in-Ok-clause-goes
returns-in-Ok-clause-goes c =
    let f = field_is c.args.self.now.page.now c.args.self.now.at c.in-Ok.token (omega arith) (sym c.in-Ok.ensures) in
    search rules
