use Rattle.hosts.specs.Levels.{colons_first}
use Rattle.hosts.proofs.statement.colons.Goals as goal

pub returns-clause-value : goal.returns-clause-value
returns-clause-value c =
    let first = colons_first c.args.w.tokens.now c.args.w.place c.args.w.end c.args.w.inside in
    cc
