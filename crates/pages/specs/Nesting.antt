-- Groups nest: each opener has its closer, and what opens inside a group closes inside it. Assumes nothing.
use Rattle.std.specs.Prelude.{◌≡◌, ℕ, ◌+◌, ◌-◌, ◌<◌, ◌≤◌, List, length, slice_index_or}
use Rattle.tokens.specs.Looks.{no_token}
use Rattle.tokens.specs.declared.Delimiter.{Delimiter}
use Rattle.tokens.specs.declared.Look.{Look}
use Rattle.tokens.specs.declared.Look.TheVariants.{Open, Close}
use Rattle.tokens.specs.declared.Token.{Token}

abbrev pub look_in : List Token → ℕ → Look
look_in ts i = (slice_index_or ts i no_token).look

-- the tokens from i on, n of them, are a group
pub record Group (ts : List Token) (i : ℕ) (d : Delimiter) (n : ℕ) : Type 0 where
  pub least : 2 ≤ n
  pub inside : i + n ≤ length ts
  pub closer : look_in ts (i + n - 1) ≡ Close d
  -- an opener between the delimiters has its whole group there
  pub between : (j : ℕ) (e : Delimiter) (m : ℕ) → i < j → j < i + n - 1 → look_in ts j ≡ Open e m → j + m ≤ i + n - 1

unfoldable pub Nested : List Token → Type 0
Nested ts = (i : ℕ) (d : Delimiter) (n : ℕ) → look_in ts i ≡ Open d n → Group ts i d n
