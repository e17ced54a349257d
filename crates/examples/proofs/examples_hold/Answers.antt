-- The examples, as they were computed. Assumes nothing.
use Rattle.std.proofs.Common.{refl}
use Rattle.examples.proofs.Computed.{examples_hold}
use Rattle.examples.proofs.examples_hold.Goals as goal

pub returns : goal.returns
returns c = record { value = refl; all = examples_hold }
