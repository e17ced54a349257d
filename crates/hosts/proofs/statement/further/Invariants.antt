use Rattle.std.proofs.Common.{◌≡◌, ◌+◌, ◌-◌, ◌≤◌, drop}
use Rattle.hosts.specs.Statements.{looks_from, further}
use Rattle.hosts.proofs.statement.further.Given as goal

abbrev pub invariant-loop-w : goal.invariant-loop-w
invariant-loop-w l =
    let looks = looks_from l.w.tokens.now l.w.place l.w.end in
    record { so_far : l.n + further (drop l.n looks) ≡ further looks; within : l.n ≤ l.w.end - l.w.place }

abbrev pub decreases-loop-w : goal.decreases-loop-w
decreases-loop-w l = l.w.end - (l.w.place + l.n)
