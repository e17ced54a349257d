-- What is spelled at a place of a level: operators in single characters, and the name `as`. Assumes nothing.
use Rattle.std.specs.Prelude.{ℕ, ◌+◌, Bool, false, cond, ◌&&◌, List, [], ◌∷◌, Some, None, Option, ◌==◌}
use Rattle.tokens.specs.declared.Word.TheVariants.{As}
use Rattle.tokens.specs.declared.Token.{Token}
use Rattle.tokens.specs.Looks.{mark_in, mark_at, joined_at, two_at, three_at}
use Rattle.tokens.specs.Words.{word_at}

-- whether one, two or three characters stand at i, all but the last joined to the next
abbrev pub spelled_at : List Token → ℕ → ℕ → List ℕ → Bool
spelled_at ts e i [] = false
spelled_at ts e i (a ∷ []) = mark_at ts e i == a
spelled_at ts e i (a ∷ b ∷ []) = two_at ts e i a b
spelled_at ts e i (a ∷ b ∷ c ∷ []) = three_at ts e i a b c
spelled_at ts e i (a ∷ b ∷ c ∷ d ∷ more) = false

-- the mark to which the one at i is joined
abbrev pub next_in : List Token → ℕ → ℕ → Option ℕ
next_in ts e i = cond (joined_at ts e i) (mark_in ts e (i + 1)) None

-- whether a mark is a certain character
abbrev pub shows : Option ℕ → ℕ → Bool
shows None c = false
shows (Some m) c = m == c

-- whether one, two or three characters are spelled by a first mark, the one that it is joined to, and the one that that is
-- joined to
abbrev pub spelled_by : ℕ → Option ℕ → Option ℕ → List ℕ → Bool
spelled_by m n o [] = false
spelled_by m n o (a ∷ []) = m == a
spelled_by m n o (a ∷ b ∷ []) = m == a && shows n b
spelled_by m n o (a ∷ b ∷ c ∷ []) = (m == a && shows n b) && shows o c
spelled_by m n o (a ∷ b ∷ c ∷ d ∷ more) = false

-- whether the name `as` stands at i
abbrev pub as_at : List Token → ℕ → ℕ → Bool
as_at ts e i = word_at ts e i As
