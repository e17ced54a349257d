-- Words by their numbers, to tell one from another, and which word is spelled at a place. Assumes nothing.
use Rattle.std.specs.Prelude.{ℕ, Bool, false, cond, List, ◌==◌, nat_lt, slice_index_or}
use Rattle.tokens.specs.Looks.{no_token}
use Rattle.tokens.specs.declared.Word.{Word}
use Rattle.tokens.specs.declared.Word.TheVariants as word
use Rattle.tokens.specs.declared.Look.{Look}
use Rattle.tokens.specs.declared.Look.TheVariants.{Name, Mark, Integer, Float, Literal, Lifetime, Open, Close}
use Rattle.tokens.specs.declared.Token.{Token}

abbrev pub word_number : Word → ℕ
word_number word.Plain = 0
word_number word.Raw = 1
word_number word.True = 2
word_number word.False = 3
word_number word.Underscore = 4
word_number word.SelfValue = 5
word_number word.SelfType = 6
word_number word.Super = 7
word_number word.Crate = 8
word_number word.Mut = 9
word_number word.Const = 10
word_number word.As = 11
word_number word.Let = 12
word_number word.If = 13
word_number word.Else = 14
word_number word.While = 15
word_number word.Break = 16
word_number word.Continue = 17
word_number word.Return = 18
word_number word.Await = 19
word_number word.Try = 20
word_number word.Async = 21
word_number word.Become = 22
word_number word.For = 23
word_number word.Loop = 24
word_number word.Match = 25
word_number word.Move = 26
word_number word.Static = 27
word_number word.Unsafe = 28
word_number word.Yield = 29
word_number word.Reserved = 30

abbrev pub spelled_by : Word → Look → Bool
spelled_by w (Name v) = word_number v == word_number w
spelled_by w (Mark c j) = false
spelled_by w Integer = false
spelled_by w Float = false
spelled_by w Literal = false
spelled_by w Lifetime = false
spelled_by w (Open d n) = false
spelled_by w (Close d) = false

-- whether the token at i, in a level that ends at e, is a name that spells w
abbrev pub word_at : List Token → ℕ → ℕ → Word → Bool
word_at ts e i w = cond (nat_lt i e) (spelled_by w (slice_index_or ts i no_token).look) false
