-- The law, as it was shown of every reading. Assumes nothing.
use Rattle.std.proofs.Common.{refl}
use Rattle.ownership.proofs.Readings.{reads_own, few_nodes}
use Rattle.ownership.proofs.tokens_are_owned.Goals as goal

pub returns : goal.returns
returns c = record { value = refl; own = reads_own; few = few_nodes }
