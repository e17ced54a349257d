-- A list's count is the length of what it holds. Assumes nothing.
use Rattle.std.proofs.Common.{◌≡◌, ◌≤◌, length, arith, length-take}
use Rattle.lists.specs.Lists.{items, used, room}
use Rattle.lists.specs.declared.Counted.{Counted}

module _ {T : Type 0} where
  pub counted : (l : Counted T) → used l ≤ room l → length (items l) ≡ used l
  counted l h = omega (arith, length-take l.count.now l.space.now)
