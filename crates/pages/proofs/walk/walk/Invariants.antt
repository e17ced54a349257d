use Rattle.std.proofs.Common.{◌≡◌}
use Rattle.pages.proofs.Walking.{Walked}
use Rattle.pages.proofs.walk.walk.Given as goal

abbrev pub invariant-loop-field : goal.invariant-loop-field
invariant-loop-field l =
    (l.field-iterator.page.now ≡ l.page) × Walked l.page l.initial.taken l.field-iterator.at l.taken
