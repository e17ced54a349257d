-- What a lawful host takes stays within its level. Assumes nothing.
use Rattle.std.proofs.Common.{◌≡◌, ℕ, ◌+◌, ◌-◌, ◌≤◌, List, length, Ok, Result, arith, length-take}
use Rattle.std.proofs.lemmas.List.{length-map}
use Rattle.refusals.specs.declared.Denial.{Denial}
use Rattle.tokens.specs.declared.Token.{Token}
use Rattle.tokens.specs.Looks.{level_of}
use Rattle.hosts.specs.Lawful.{Lawful}

pub level_length : (page : List ℕ) (ts : List Token) (p e : ℕ) → length (level_of page ts p e) ≤ e - p
level_length page ts p e = grind (arith, length-map, length-take)

-- a length that a lawful answer gives is some, and ends in the level
pub taken : (page : List ℕ) (ts : List Token) (p e n : ℕ) (r : Result ℕ Denial) → Ok n ≡ r → Lawful (level_of page ts p e) r → (1 ≤ n) × (p + n ≤ e)
taken page ts p e n r is law = grind (arith, level_length)
