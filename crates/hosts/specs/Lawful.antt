-- What a host may answer: a length that keeps within the level and takes its groups whole, or a denial. Assumes nothing.
use Rattle.std.specs.Prelude.{◌≡◌, ℕ, ◌+◌, ◌<◌, ◌≤◌, List, map, length, Some, Ok, Err, Result}
use Rattle.std.specs.List.{slice_get}
use Rattle.refusals.specs.declared.Denial.{Denial}
use Rattle.tokens.specs.declared.Delimiter.{Delimiter}
use Rattle.tokens.specs.declared.Look.{Look}
use Rattle.tokens.specs.declared.Look.TheVariants.{Open}
use Rattle.tokens.specs.Looks.{Field}

abbrev pub looks : List Field → List Look
looks = map (λ f. f.look)

-- at place i stands an opener whose group has m tokens
abbrev pub Opens : List Look → ℕ → ℕ → Type 0
Opens l i m = (d : Delimiter) × (slice_get l i ≡ Some (Open d m))

-- every group ends within the level, and one that opens inside another ends inside it
pub record Nested (l : List Field) : Type 0 where
  pub within : (i m : ℕ) → Opens (looks l) i m → i + m ≤ length l
  pub inner : (i m j n : ℕ) → Opens (looks l) i m → Opens (looks l) j n → i < j → j < i + m → j + n ≤ i + m

-- every group that opens among the first n tokens ends among them
abbrev pub Whole : List Look → ℕ → Type 0
Whole l n = (k m : ℕ) → Opens l k m → k < n → k + m ≤ n

pub record LawfulLength (l : List Field) (n : ℕ) : Type 0 where
  pub some : 1 ≤ n
  pub within : n ≤ length l
  pub whole : Nested l → Whole (looks l) n

pub record LawfulDenial (d : Denial) : Type 0 where
  pub host : (1 ≤ d.host) × (d.host ≤ 255)
  pub code : (1 ≤ d.code) × (d.code ≤ 255)

abbrev pub Lawful : List Field → Result ℕ Denial → Type 0
Lawful l (Ok n) = LawfulLength l n
Lawful l (Err d) = LawfulDenial d
