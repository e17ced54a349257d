-- The law, as it was shown of every task. Assumes nothing.
use Rattle.std.proofs.Common.{refl}
use Rattle.ownership.proofs.Plainly.{reads_plainly}
use Rattle.ownership.proofs.plain.reads_plainly.Goals as goal

pub returns : goal.returns
returns c = record { value = refl; plainly = reads_plainly }
