use Rattle.std.proofs.Common.{List, Bor, length, sym, refl, ap, ◌∙◌, subst, arith, rules}
use Rattle.lists.specs.Lists.{items}
use Rattle.tokens.specs.declared.window.Window.{Window}
use Rattle.trees.specs.declared.Node.{Node}
use Rattle.grammar.specs.Grammar.{Outcome}
use Rattle.reading.specs.Machine.{LastIn}
use Rattle.reading.proofs.Keeping.{Ground, ground}
use Rattle.reading.proofs.Asks.{level, lasts, closes, room_step, room_close}
use Rattle.reading.proofs.Turns.{turn_step, turn_close, turn_done}
use Rattle.reading.proofs.Rooms.{counted}
use Rattle.reading.proofs.machine.turn_once.Given as given
use Rattle.reading.proofs.machine.turn_once.Goals as goal

abbrev here : (g : given.Over) → Bor g.row.H.Denot → Window → Outcome → List Node → Ground
here g host all o S = ground (g.H.Host.reading host.now) (g.met.H.Host.lawful host.now) all o S

pub invariant_of-decide : goal.invariant_of-decide
invariant_of-decide g c = record { within = level (here g c.args.host c.args.all c.requires.ready.whole c.requires.ready.start) _ _ c.args.at c.requires.ready.sound }

pub returns-in_err-step-clause-kept : goal.returns-in_err-step-clause-kept
returns-in_err-step-clause-kept g c = λ o S x.
    turn_step (here g c.args.host c.args.all o S) c.count-count.result _ c.args.at c.in_err-step.ensures (λ y z. cc) _ _ _ _ _
    (c.count-count.ensures ∙ sym (counted c.args.nodes.now c.requires.nodes)) x (search rules, refl, refl)

pub apply-requires-clause-room : goal.apply-requires-clause-room
apply-requires-clause-room g c =
    room_step (here g c.args.host c.args.all c.requires.ready.whole c.requires.ready.start) c.count-count.result _ _ _ c.args.at _ _ _ _ c.requires.ready.sound c.in_ok-step.ensures
    (counted c.args.frames.now c.requires.frames) (counted c.args.nodes.now c.requires.nodes) c.requires.ready.for_frames c.requires.ready.for_nodes

pub returns-in_default-clause-kept : goal.returns-in_default-clause-kept
returns-in_default-clause-kept g c = λ o S x.
    turn_step (here g c.args.host c.args.all o S) c.count-count.result _ c.args.at c.in_ok-step.ensures (λ y z. c.in_default.not-Ended y (cc)) _ _ _ _ _
    (c.count-count.ensures ∙ sym (counted c.args.nodes.now c.requires.nodes)) x c.apply.ensures.applied

pub returns-in_default-pop-clause-kept : goal.returns-in_default-pop-clause-kept
returns-in_default-pop-clause-kept g c = λ o S x.
    turn_done (here g c.args.host c.args.all o S) c.count-count.result c.args.at c.in-Ended.root (search rules) _ _ (items c.pop.new.self) x
    (counted c.args.frames.now c.requires.frames ∙ c.in_default-pop.ensures.cases.0)

pub attach-links-requires-clause-last : goal.attach-links-requires-clause-last
attach-links-requires-clause-last g c =
    subst (LastIn c.in-Some.f.links.last) (counted c.args.nodes.now c.requires.nodes)
    (lasts (here g c.args.host c.args.all c.requires.ready.whole c.requires.ready.start) _ _ _ c.in-Some.f c.args.at c.requires.ready.sound c.in-Some.ensures.cases.0)

pub invariant_of-close : goal.invariant_of-close
invariant_of-close g c = record { within = level (here g c.args.host c.args.all c.requires.ready.whole c.requires.ready.start) _ _ c.args.at c.requires.ready.sound }

pub close-requires-clause-shut : goal.close-requires-clause-shut
close-requires-clause-shut g c = closes (here g c.args.host c.args.all c.requires.ready.whole c.requires.ready.start) _ _ _ c.in-Some.f c.args.at c.requires.ready.sound c.in-Some.ensures.cases.0

pub returns-in_err-next-clause-kept : goal.returns-in_err-next-clause-kept
returns-in_err-next-clause-kept g c = λ o S x.
    turn_close (here g c.args.host c.args.all o S) c.count-count.result c.count-count-2.result _ c.args.at c.in-Ended.root (search rules) _ _ _ _ _ _ _ c.in-Some.f c.attach-links.result
    c.in_err-next.ensures x c.in-Some.ensures.cases.0 c.attach-links.ensures.items c.attach-links.ensures.value
    (c.count-count-2.ensures ∙ sym (counted c.attach-links.new.nodes c.attach-links.ensures.nodes.within)) (search rules, refl, refl)

pub apply-requires-2-clause-room : goal.apply-requires-2-clause-room
apply-requires-2-clause-room g c =
    let size = ap length c.in-Some.ensures.space in
    room_close (here g c.args.host c.args.all c.requires.ready.whole c.requires.ready.start) c.count-count-2.result _ _ _ _ c.in-Some.f _ c.args.at _ _ _ _ c.requires.ready.sound c.in-Some.ensures.cases.0 c.in_ok-next.ensures
    (counted c.args.frames.now c.requires.frames ∙ sym c.in-Some.ensures.cases.1) (counted c.args.nodes.now c.requires.nodes ∙ sym c.attach-links.ensures.count)
    (omega (arith, c.requires.ready.for_frames, size)) (omega (arith, c.requires.ready.for_nodes, c.attach-links.ensures.nodes.size))

pub returns-clause-kept : goal.returns-clause-kept
returns-clause-kept g c = λ o S x.
    turn_close (here g c.args.host c.args.all o S) c.count-count.result c.count-count-2.result _ c.args.at c.in-Ended.root (search rules) _ _ _ _ _ _ _ c.in-Some.f c.attach-links.result
    c.in_ok-next.ensures x c.in-Some.ensures.cases.0 c.attach-links.ensures.items c.attach-links.ensures.value
    (c.count-count-2.ensures ∙ sym (counted c.attach-links.new.nodes c.attach-links.ensures.nodes.within)) c.apply-2.ensures.applied
