use Rattle.std.proofs.Common.{◌≡◌, ℕ, ◌∙◌, Bool, Bor, Err, take, refl, ap, arith, rules}
use Rattle.lists.specs.Lists.{items}
use Rattle.tokens.specs.declared.window.Window.{Window}
use Rattle.trees.specs.declared.Node.{Node}
use Rattle.grammar.specs.Grammar.{expr, read_task}
use Rattle.lists.specs.declared.Counted.{Counted}
use Rattle.reading.proofs.Keeping.{Ground, ground}
use Rattle.reading.proofs.Turns.{sound_start, goes_on, ends_read, ends_refused}
use Rattle.reading.proofs.machine.read_expr.Given as given
use Rattle.reading.proofs.machine.read_expr.Goals as goal

abbrev here : (g : given.Over) → Bor g.row.H.Denot → Window → Bool → Counted Node → Ground
here g host level structs nodes =
    ground (g.H.Host.reading host.now) (g.met.H.Host.lawful host.now) level
    (read_task (g.H.Host.reading host.now) level.page.now level.tokens.now (expr structs 0 level.place level.end)) (items nodes)

pub loop-next-init : goal.loop-next-init
loop-next-init g c = record {
  sound = sound_start (g.H.Host.reading c.args.host.now) c.args.level.page.now c.args.level.tokens.now c.args.structs c.args.level.place c.args.level.end _ _ (items c.args.nodes.now) (items c.new-frames.result)
      c.requires.inside c.place.ensures c.end.ensures (ap (λ (n : ℕ). take n c.new-frames.result.space.now) c.new-frames.ensures.counts);
  frames = record { within = omega (arith, c.new-frames.ensures.counts); size = refl; lent = (refl, refl) };
  nodes = record { within = omega (arith, c.requires.nodes); size = refl; lent = (refl, refl) };
}

pub loop-next-smaller : goal.loop-next-smaller
loop-next-smaller g c = goes_on (here g c.args.host c.args.level c.args.structs c.args.nodes.now) _ _ _ _ _ c.in-Some.next c.in-Some.is (c.in_ok-next.ensures.kept _ _ c.loop-next.invariant.sound)

pub returns-clause-value : goal.returns-clause-value
returns-clause-value g c = (ends_read (here g c.args.host c.args.level c.args.structs c.args.nodes.now) _ _ _ _ _ c.in_default.is (c.in_ok-next.ensures.kept _ _ c.loop-next.invariant.sound)).0

pub returns-clause-written : goal.returns-clause-written
returns-clause-written g c = (ends_read (here g c.args.host c.args.level c.args.structs c.args.nodes.now) _ _ _ _ _ c.in_default.is (c.in_ok-next.ensures.kept _ _ c.loop-next.invariant.sound)).1

pub returns-in_err-next-clause-value : goal.returns-in_err-next-clause-value
returns-in_err-next-clause-value g c =
    let is : c.from_residual.result ≡ Err c.in_err-next.field-0.0 = search rules in
    is ∙ (ends_refused (here g c.args.host c.args.level c.args.structs c.args.nodes.now) (items c.turn_once.new.nodes) c.in_err-next.field-0.0 (c.in_err-next.ensures.kept _ _ c.loop-next.invariant.sound)).0

pub returns-in_err-next-clause-written : goal.returns-in_err-next-clause-written
returns-in_err-next-clause-written g c = (ends_refused (here g c.args.host c.args.level c.args.structs c.args.nodes.now) (items c.turn_once.new.nodes) c.in_err-next.field-0.0 (c.in_err-next.ensures.kept _ _ c.loop-next.invariant.sound)).1
