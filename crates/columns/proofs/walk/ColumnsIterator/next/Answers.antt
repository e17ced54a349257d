use Rattle.std.proofs.Common.{◌≡◌, rules, None, Some}
use Rattle.pages.specs.Fields.{field_at}
use Rattle.columns.specs.Walk.{name_end}
use Rattle.columns.proofs.Walks.{none_left, one_left}
use Rattle.columns.proofs.walk.ColumnsIterator.next.Goals as goal

pub returns-in_err-end-clause-steps : goal.returns-in_err-end-clause-steps
returns-in_err-end-clause-steps c =
    let none : name_end (field_at c.args.self.now.page.now c.args.self.now.at) ≡ None = search rules in
    let e = none_left _ _ none in
    search rules

pub returns-clause-steps : goal.returns-clause-steps
returns-clause-steps c =
    let end : name_end (field_at c.args.self.now.page.now c.args.self.now.at) ≡ Some c.in_ok-end.end = search rules in
    one_left _ _ _ end (search rules) (search rules)

pub returns-clause-goes : goal.returns-clause-goes
returns-clause-goes c =
    let e = returns-clause-steps c in
    search rules
