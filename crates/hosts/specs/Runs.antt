-- What a run of each part is, in the grammar's words: `IsPath l n` says that the first n tokens of a level whose looks
-- are l are a path, and so for the others. Assumes nothing.
use Rattle.std.specs.Prelude.{◌≡◌, ℕ, ◌+◌, ◌≤◌, Bool, true, List, ◌∷◌, length, drop, Some, Ok, Err, Result}
use Rattle.std.specs.List.{slice_get}
use Rattle.refusals.specs.declared.Denial.{Denial}
use Rattle.refusals.specs.declared.Part.{Part}
use Rattle.refusals.specs.declared.Part.TheVariants.{Path, TypeName, Pattern, Block, Keyword, Arguments}
use Rattle.tokens.specs.declared.Delimiter.{Delimiter}
use Rattle.tokens.specs.declared.Delimiter.TheVariants.{Paren, Brace}
use Rattle.tokens.specs.declared.Word.TheVariants.{Plain, Raw, True, False, Underscore, SelfValue, SelfType, Super, Crate, Mut, Const, Loop, Unsafe, Async, Try}
use Rattle.tokens.specs.declared.Look.{Look}
use Rattle.tokens.specs.declared.Look.TheVariants.{Name, Mark, Integer, Float, Literal, Open}
use Rattle.tokens.specs.Looks.{Field}
use Rattle.hosts.specs.Lawful.{looks}

-- the characters `:`, `&`, `<` and `>`
abbrev pub colon : ℕ
colon = 58

abbrev pub ampersand : ℕ
ampersand = 38

abbrev pub less : ℕ
less = 60

abbrev pub greater : ℕ
greater = 62

-- a segment of a path: a name that is no keyword, or one of four that are
pub data IsSegment : Look → Type 0 where
  plain_segment : IsSegment (Name Plain)
  raw_segment : IsSegment (Name Raw)
  self_value_segment : IsSegment (Name SelfValue)
  self_type_segment : IsSegment (Name SelfType)
  super_segment : IsSegment (Name Super)
  crate_segment : IsSegment (Name Crate)

-- one or more segments joined by `::`, whose first colon is joined to the second
pub data IsSegments : List Look → ℕ → Type 0 where
  one_segment : (s : Look) (l : List Look) → IsSegment s → IsSegments (s ∷ l) 1
  more_segments : (s : Look) (j : Bool) (l : List Look) (n : ℕ) → IsSegment s → IsSegments l n → IsSegments (s ∷ Mark colon true ∷ Mark colon j ∷ l) (3 + n)

pub data IsPath : List Look → ℕ → Type 0 where
  relative : (l : List Look) (n : ℕ) → IsSegments l n → IsPath l n
  rooted : (j : Bool) (l : List Look) (n : ℕ) → IsSegments l n → IsPath (Mark colon true ∷ Mark colon j ∷ l) (2 + n)

pub data IsType : List Look → ℕ → Type 0 where
  named : (l : List Look) (n : ℕ) → IsPath l n → IsType l n
  reference : (j : Bool) (l : List Look) (n : ℕ) → IsType l n → IsType (Mark ampersand j ∷ l) (1 + n)
  mutable : (j : Bool) (l : List Look) (n : ℕ) → IsType l n → IsType (Mark ampersand j ∷ Name Mut ∷ l) (2 + n)

-- an opener and all the tokens of its group, which end within the level
pub data IsGroup (d : Delimiter) : List Look → ℕ → Type 0 where
  group : (l : List Look) (n : ℕ) → 1 ≤ n → n ≤ length (Open d n ∷ l) → IsGroup d (Open d n ∷ l) n

abbrev pub IsBlock : List Look → ℕ → Type 0
IsBlock = IsGroup Brace

-- a token that is a pattern by itself: `_` or a literal
pub data IsAlone : Look → Type 0 where
  underscore : IsAlone (Name Underscore)
  true_literal : IsAlone (Name True)
  false_literal : IsAlone (Name False)
  integer : IsAlone Integer
  float : IsAlone Float
  literal : IsAlone Literal

pub data IsPattern : List Look → ℕ → Type 0 where
  alone : (a : Look) (l : List Look) → IsAlone a → IsPattern (a ∷ l) 1
  path_only : (l : List Look) (n : ℕ) → IsPath l n → IsPattern l n
  path_and_group : (l : List Look) (n m : ℕ) → IsPath l n → IsGroup Paren (drop n l) m → IsPattern l (n + m)

-- a word that may stand before a block
pub data IsBlockWord : Look → Type 0 where
  loop_word : IsBlockWord (Name Loop)
  unsafe_word : IsBlockWord (Name Unsafe)
  const_word : IsBlockWord (Name Const)
  async_word : IsBlockWord (Name Async)
  try_word : IsBlockWord (Name Try)

pub data IsKeyword : List Look → ℕ → Type 0 where
  word_and_block : (w : Look) (l : List Look) (n : ℕ) → IsBlockWord w → IsBlock l n → IsKeyword (w ∷ l) (1 + n)

-- `::<`, a type and `>`
pub data IsArguments : List Look → ℕ → Type 0 where
  angled : (i j k : Bool) (l : List Look) (n : ℕ) → IsType l n → slice_get l n ≡ Some (Mark greater k) → IsArguments (Mark colon true ∷ Mark colon i ∷ Mark less j ∷ l) (4 + n)

abbrev pub IsRun : Part → List Look → ℕ → Type 0
IsRun Path = IsPath
IsRun TypeName = IsType
IsRun Pattern = IsPattern
IsRun Block = IsBlock
IsRun Keyword = IsKeyword
IsRun Arguments = IsArguments

-- an answer is the longest run, and a denial says that there is none
abbrev pub LongestRun : Part → List Field → Result ℕ Denial → Type 0
LongestRun part l (Ok n) = IsRun part (looks l) n × ((m : ℕ) → IsRun part (looks l) m → m ≤ n)
LongestRun part l (Err d) = (m : ℕ) → IsRun part (looks l) m → ⊥
