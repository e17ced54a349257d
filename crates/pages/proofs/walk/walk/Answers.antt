use Rattle.std.proofs.Common.{rules, ◌≡◌, ◌<◌, ◌≤◌, ℕ, length, drop, Ok, Err, sym, refl, ap, ◌∙◌}
use Rattle.pages.specs.Fields.{field_at}
use Rattle.pages.specs.Pages.{still_open, answer}
use Rattle.pages.specs.Taken.{items}
use Rattle.pages.proofs.Walking.{start, more, field_refused, step_refused, finished, many, answers, holds, accepted, same_tokens, same_rest}
use Rattle.pages.proofs.walk.walk.Goals as goal

pub loop-field-init : goal.loop-field-init
loop-field-init c = search (rules, start)

pub returns-in_err-at-clause-answer : goal.returns-in_err-at-clause-answer
returns-in_err-at-clause-answer c =
    let here : c.loop-field.field-iterator.at < length c.args.page.now = search rules in
    let is : field_at c.args.page.now c.loop-field.field-iterator.at ≡ Err c.in_err-at.field-0.0 = search rules in
    answers _ _ _ _ (field_refused _ _ _ _ c.loop-field.invariant.1 _ here is) (search rules)

pub returns-in_err-at-clause-records : goal.returns-in_err-at-clause-records
returns-in_err-at-clause-records c =
    let here : c.loop-field.field-iterator.at < length c.args.page.now = search rules in
    let is : field_at c.args.page.now c.loop-field.field-iterator.at ≡ Err c.in_err-at.field-0.0 = search rules in
    let w = c.loop-field.invariant.1 in
    holds _ _ c.args.taken.now c.loop-field.taken _ (field_refused _ _ _ _ w _ here is) refl w.behind

pub loop-field-preserved : goal.loop-field-preserved
loop-field-preserved c =
    let here : c.loop-field.field-iterator.at < length c.args.page.now = search rules in
    let is : field_at c.args.page.now c.loop-field.field-iterator.at ≡ Ok c.in_ok-at.token = search rules in
    let next = more _ _ _ _ c.loop-field.invariant.1 _ c.take_in.new.self c.in_ok-take_in.field-0 here is (search rules) in
    search rules

pub returns-in_err-take_in-clause-answer : goal.returns-in_err-take_in-clause-answer
returns-in_err-take_in-clause-answer c =
    let here : c.loop-field.field-iterator.at < length c.args.page.now = search rules in
    let is : field_at c.args.page.now c.loop-field.field-iterator.at ≡ Ok c.in_ok-at.token = search rules in
    answers _ _ _ _ (step_refused _ _ _ _ c.loop-field.invariant.1 _ c.in_err-take_in.field-0.0 here is (search rules)) (search rules)

pub returns-in_err-take_in-clause-records : goal.returns-in_err-take_in-clause-records
returns-in_err-take_in-clause-records c =
    let here : c.loop-field.field-iterator.at < length c.args.page.now = search rules in
    let is : field_at c.args.page.now c.loop-field.field-iterator.at ≡ Ok c.in_ok-at.token = search rules in
    let w = c.loop-field.invariant.1 in
    let s = c.loop-field.taken in
    let t = c.take_in.new.self in
    let k = c.in_err-take_in.ensures in
    holds _ _ c.args.taken.now t _ (step_refused _ _ _ _ w _ c.in_err-take_in.field-0.0 here is (search rules)) (same_tokens s t k.1 k.2)
    (same_rest s t k.1 k.2 ∙ (w.behind ∙ ap (λ (n : ℕ). drop n c.args.taken.now.space.now) (sym k.2)))

pub returns-clause-answer : goal.returns-clause-answer
returns-clause-answer c =
    let t = c.loop-field.taken in
    let done : length c.args.page.now ≤ c.loop-field.field-iterator.at = search rules in
    answers _ _ _ _ (finished _ _ _ _ c.loop-field.invariant.1 done) (c.finish.ensures ∙ ap (answer (still_open (items t) t.inner)) (sym (many t)))

pub returns-clause-records : goal.returns-clause-records
returns-clause-records c =
    let done : length c.args.page.now ≤ c.loop-field.field-iterator.at = search rules in
    let w = c.loop-field.invariant.1 in
    holds _ _ c.args.taken.now c.loop-field.taken _ (finished _ _ _ _ w done) refl w.behind

pub returns-clause-accepted : goal.returns-clause-accepted
returns-clause-accepted c = accepted _ _ _ (returns-clause-answer c)
