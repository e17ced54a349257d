use Rattle.lists.specs.Lists.{items}
use Rattle.grammar.specs.Grammar.{expr, read_task}
use Rattle.reading.specs.Machine.{Sound, StillIn, to_go}
use Rattle.reading.proofs.machine.read_expr.Given as goal

abbrev pub invariant-loop-next : goal.invariant-loop-next
invariant-loop-next g l = record {
  sound :
      Sound (g.H.Host.reading l.host) l.level.page.now l.level.tokens.now l.level.end
      (read_task (g.H.Host.reading l.host) l.level.page.now l.level.tokens.now (expr l.structs 0 l.level.place l.level.end))
      (items l.initial.nodes) (items l.nodes) (items l.frames) l.at;
  frames : StillIn l.initial.frames l.frames;
  nodes : StillIn l.initial.nodes l.nodes;
}

abbrev pub decreases-loop-next : goal.decreases-loop-next
decreases-loop-next g l =
    to_go (g.H.Host.reading l.host) l.level.page.now l.level.tokens.now l.level.end
    (read_task (g.H.Host.reading l.host) l.level.page.now l.level.tokens.now (expr l.structs 0 l.level.place l.level.end))
    (items l.frames) l.at
