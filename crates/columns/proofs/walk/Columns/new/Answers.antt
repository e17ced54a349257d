use Rattle.std.proofs.Common.{refl}
use Rattle.columns.specs.Columns.{columns_of}
use Rattle.columns.proofs.walk.Columns.new.Goals as goal

pub returns : goal.returns
unfolding columns_of
returns c = refl
