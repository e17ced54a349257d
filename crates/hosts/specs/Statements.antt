-- The reading of the host for statements: the length of the longest run of a part, computed from the looks of a level.
-- Assumes nothing.
use Rattle.std.specs.Prelude.{ℕ, ◌+◌, ◌-◌, Bool, true, false, cond, ◌&&◌, List, [], ◌∷◌, map, length, take, drop, Some, None, Option, Ok, Err, Result, ◌==◌, nat_le}
use Rattle.refusals.specs.declared.Denial.{Denial}
use Rattle.refusals.specs.declared.Part.{Part}
use Rattle.refusals.specs.declared.Part.TheVariants.{Path, TypeName, Pattern, Block, Keyword, Arguments}
use Rattle.tokens.specs.declared.Delimiter.{Delimiter}
use Rattle.tokens.specs.declared.Delimiter.TheVariants.{Paren, Bracket, Brace}
use Rattle.tokens.specs.declared.Word.{Word}
use Rattle.tokens.specs.declared.Word.TheVariants.{Plain, Raw, True, False, Underscore, SelfValue, SelfType, Super, Crate, Mut, Const, Try, Async, Loop, Unsafe}
use Rattle.tokens.specs.declared.Look.{Look}
use Rattle.tokens.specs.declared.Look.TheVariants.{Name, Integer, Float, Literal, Open}
use Rattle.tokens.specs.declared.Token.{Token}
use Rattle.tokens.specs.Looks.{Field, mark_of, joined_of}
use Rattle.hosts.specs.declared.statement.Role.{Role}
use Rattle.hosts.specs.declared.statement.Role.TheVariants.{Segment, BlockWord, Alone, Mutable}
use Rattle.hosts.specs.Lawful.{looks}
use Rattle.hosts.specs.Runs.{colon, ampersand, less, greater}

-- the looks of the tokens from a place to an end
unfoldable pub looks_from : List Token → ℕ → ℕ → List Look
looks_from ts p e = map (λ t. t.look) (take (e - p) (drop p ts))

-- what a token may be in a run, if anything, by its word and by its look
abbrev pub word_role : Word → Option Role
word_role Plain = Some Segment
word_role Raw = Some Segment
word_role True = Some Alone
word_role False = Some Alone
word_role Underscore = Some Alone
word_role SelfValue = Some Segment
word_role SelfType = Some Segment
word_role Super = Some Segment
word_role Crate = Some Segment
word_role Mut = Some Mutable
word_role Const = Some BlockWord
word_role Try = Some BlockWord
word_role Async = Some BlockWord
word_role Loop = Some BlockWord
word_role Unsafe = Some BlockWord
word_role _ = None

abbrev pub look_role : Look → Option Role
look_role (Name w) = word_role w
look_role Integer = Some Alone
look_role Float = Some Alone
look_role Literal = Some Alone
look_role _ = None

-- of the first token of a level
abbrev pub first_role : List Look → Option Role
first_role [] = None
first_role (a ∷ l) = look_role a

abbrev pub first_mark : List Look → ℕ
first_mark [] = 0
first_mark (a ∷ l) = mark_of a

-- whether that is a certain role
abbrev pub has_role : Role → Option Role → Bool
has_role Segment (Some Segment) = true
has_role BlockWord (Some BlockWord) = true
has_role Alone (Some Alone) = true
has_role Mutable (Some Mutable) = true
has_role _ _ = false

-- whether `::` stands first
abbrev pub colons : List Look → Bool
colons [] = false
colons (a ∷ []) = false
colons (a ∷ b ∷ l) = mark_of a == colon && (joined_of a && mark_of b == colon)

-- Lengths of the longest runs, 0 where there is none. Here, of a run of n tokens with the k tokens before it.
abbrev pub behind : ℕ → ℕ → ℕ
behind k n = cond (n == 0) 0 (k + n)

-- the pairs of `::` and a segment at the front
abbrev pub further : List Look → ℕ
further [] = 0
further (a ∷ []) = 0
further (a ∷ b ∷ []) = 0
further (a ∷ b ∷ s ∷ l) = cond (colons (a ∷ b ∷ []) && has_role Segment (look_role s)) (3 + further l) 0

abbrev pub segments_length : List Look → ℕ
segments_length l = cond (has_role Segment (first_role l)) (1 + further (drop 1 l)) 0

abbrev pub path_length : List Look → ℕ
path_length l = cond (colons l) (behind 2 (segments_length (drop 2 l))) (segments_length l)

-- the `&` marks at the front, each with its `mut` if one stands behind it
abbrev pub references : List Look → ℕ
references [] = 0
references (a ∷ []) = cond (mark_of a == ampersand) 1 0
references (a ∷ b ∷ l) = cond (mark_of a == ampersand) (cond (has_role Mutable (look_role b)) (2 + references l) (1 + references (b ∷ l))) 0

abbrev pub type_length : List Look → ℕ
type_length l = behind (references l) (path_length (drop (references l) l))

abbrev pub same_delimiter : Delimiter → Delimiter → Bool
same_delimiter Paren Paren = true
same_delimiter Bracket Bracket = true
same_delimiter Brace Brace = true
same_delimiter _ _ = false

-- how many tokens a group has that begins with this look
abbrev pub open_length : Delimiter → Look → ℕ
open_length d (Open e n) = cond (same_delimiter d e) n 0
open_length _ _ = 0

abbrev pub group_length : Delimiter → List Look → ℕ
group_length d [] = 0
group_length d (a ∷ l) = cond (nat_le (open_length d a) (length (a ∷ l))) (open_length d a) 0

abbrev pub keyword_length : List Look → ℕ
keyword_length l = cond (has_role BlockWord (first_role l)) (behind 1 (group_length Brace (drop 1 l))) 0

-- a type of n tokens between `<` and `>`
abbrev pub enclosed : ℕ → List Look → ℕ
enclosed n l = cond (n == 0) 0 (cond (first_mark (drop n l) == greater) (2 + n) 0)

abbrev pub angled_length : List Look → ℕ
angled_length l = cond (first_mark l == less) (enclosed (type_length (drop 1 l)) (drop 1 l)) 0

abbrev pub arguments_length : List Look → ℕ
arguments_length l = cond (colons l) (behind 2 (angled_length (drop 2 l))) 0

-- a path of n tokens and the group behind it
abbrev pub with_group : ℕ → List Look → ℕ
with_group n l = cond (n == 0) 0 (n + group_length Paren (drop n l))

abbrev pub pattern_length : List Look → ℕ
pattern_length l = cond (has_role Alone (first_role l)) 1 (with_group (path_length l) l)

abbrev pub length_of : Part → List Look → ℕ
length_of Path = path_length
length_of TypeName = type_length
length_of Pattern = pattern_length
length_of Block = group_length Brace
length_of Keyword = keyword_length
length_of Arguments = arguments_length

-- what a function answers for a length: nothing where there is no run
abbrev pub found : ℕ → Option ℕ
found n = cond (n == 0) None (Some n)

-- what the host, whose number is 2, makes of a length
abbrev pub answer : ℕ → Result ℕ Denial
answer n = cond (n == 0) (Err (record { host = 2; code = 3 })) (Ok n)

unfoldable pub statement_reading : Part → List Field → Result ℕ Denial
statement_reading part l = answer (length_of part (looks l))
