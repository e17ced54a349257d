-- What stands on a sheet. Assumes nothing.
use Rattle.sheets.specs.declared.Sheet.{Sheet}
use Rattle.sheets.specs.States.{State, state}

abbrev pub state_of : Sheet → State
state_of s = state s.nodes.now s.rules.now s.totals
