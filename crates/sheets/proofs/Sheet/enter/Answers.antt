use Rattle.sheets.specs.Sheets.{state_of}
use Rattle.sheets.proofs.Follow.{enter_follows}
use Rattle.sheets.proofs.Sheet.enter.Goals as goal

pub returns-clause-follows : goal.returns-clause-follows
returns-clause-follows g c =
    let core = c.enter_core.ensures in
    enter_follows (state_of c.args.self.now) (state_of c.enter_core.new.self) (g.H.Host.reading c.args.host.now) (g.met.H.Host.lawful c.args.host.now) c.args.page.now c.args.tokens.now c.args.structs c.enter_core.result
    core.room core.enters _ core.tokens
