use Rattle.std.proofs.Common.{◌≡◌, ℕ, Ok, Result, ◌∙◌, arith, rules}
use Rattle.refusals.specs.declared.Denial.{Denial}
use Rattle.refusals.specs.declared.Part.TheVariants as part
use Rattle.tokens.specs.Looks.{level_of}
use Rattle.grammar.proofs.Levels.{taken}
use Rattle.reading.proofs.moves.Here.read_type.Goals as goal

pub overflow_add-to : goal.overflow_add-to
overflow_add-to g c =
    let l = c.level.result in
    let read : Ok c.in_ok-tokens.tokens ≡ c.read.result = search rules in
    let t = taken l.page.now l.tokens.now l.place l.end c.in_ok-tokens.tokens _ (read ∙ c.read.ensures) (g.met.H.Host.lawful c.args.host.now part.TypeName (level_of l.page.now l.tokens.now l.place l.end)) in
    omega (arith, t.1, c.level.ensures.place, c.level.ensures.fits)
