-- What the role of a token tells of its look, and a look of its role. Assumes nothing.
use Rattle.std.specs.Prelude.{◌≡◌, ℕ, ◌<◌, Bool, true, false, Some, Option, IfSome, ◌==◌, refl}
use Rattle.std.proofs.Common.{ap, arith, eqb-true}
use Rattle.tokens.specs.declared.Word.TheVariants.{Plain, Raw, True, False, Underscore, SelfValue, SelfType, Super, Crate, Mut, Const, Try, Async, Loop, Unsafe}
use Rattle.tokens.specs.declared.Look.{Look}
use Rattle.tokens.specs.declared.Look.TheVariants.{Name, Mark, Integer, Float, Literal}
use Rattle.tokens.specs.Looks.{mark_of, joined_of}
use Rattle.hosts.specs.declared.statement.Role.{Role}
use Rattle.hosts.specs.declared.statement.Role.TheVariants.{Segment, BlockWord, Alone, Mutable}
use Rattle.hosts.specs.Runs.{IsSegment, plain_segment, raw_segment, self_value_segment, self_type_segment, super_segment, crate_segment, IsAlone, underscore, true_literal, false_literal, integer, float, literal, IsBlockWord, loop_word, unsafe_word, const_word, async_word, try_word}
use Rattle.hosts.specs.Statements.{look_role, has_role}

pub false_true : {P : Type 0} → false ≡ true → P
false_true e = cc

-- a test, with what came out
pub tested : {P : Type 0} (b : Bool) → (b ≡ true → P) → (b ≡ false → P) → P
tested true t f = t refl
tested false t f = f refl

abbrev Meaning : Role → Look → Type 0
Meaning Segment a = IsSegment a
Meaning BlockWord a = IsBlockWord a
Meaning Alone a = IsAlone a
Meaning Mutable a = a ≡ Name Mut

means : (a : Look) → IfSome (look_role a) (λ r. Meaning r a)
means (Name Plain) = plain_segment
means (Name Raw) = raw_segment
means (Name True) = true_literal
means (Name False) = false_literal
means (Name Underscore) = underscore
means (Name SelfValue) = self_value_segment
means (Name SelfType) = self_type_segment
means (Name Super) = super_segment
means (Name Crate) = crate_segment
means (Name Mut) = refl
means (Name Const) = const_word
means (Name Try) = try_word
means (Name Async) = async_word
means (Name Loop) = loop_word
means (Name Unsafe) = unsafe_word
means Integer = integer
means Float = float
means Literal = literal
means _ = tt

-- a token with a role is what the role says
pub role_look : (r : Role) (a : Look) → has_role r (look_role a) ≡ true → Meaning r a
role_look r a = at r (look_role a) (means a)
  where
    at : (r : Role) (o : Option Role) → IfSome o (λ s. Meaning s a) → has_role r o ≡ true → Meaning r a
    at Segment (Some Segment) m t = m
    at BlockWord (Some BlockWord) m t = m
    at Alone (Some Alone) m t = m
    at Mutable (Some Mutable) m t = m
    at _ _ m t = cc

pub segment_role : (a : Look) → IsSegment a → look_role a ≡ Some Segment
segment_role _ plain_segment = refl
segment_role _ raw_segment = refl
segment_role _ self_value_segment = refl
segment_role _ self_type_segment = refl
segment_role _ super_segment = refl
segment_role _ crate_segment = refl

-- a token with a role is no mark
pub role_mark : (a : Look) (r : Role) → look_role a ≡ Some r → mark_of a ≡ 0
role_mark (Mark c j) r role = cc
role_mark _ r role = refl

pub block_role : (a : Look) → IsBlockWord a → look_role a ≡ Some BlockWord
block_role _ loop_word = refl
block_role _ unsafe_word = refl
block_role _ const_word = refl
block_role _ async_word = refl
block_role _ try_word = refl

pub alone_role : (a : Look) → IsAlone a → look_role a ≡ Some Alone
alone_role _ underscore = refl
alone_role _ true_literal = refl
alone_role _ false_literal = refl
alone_role _ integer = refl
alone_role _ float = refl
alone_role _ literal = refl

-- the mark that a character names
pub mark_look_lem : (a : Look) (c : ℕ) → 0 < c → (mark_of a == c) ≡ true → a ≡ Mark c (joined_of a)
mark_look_lem (Mark x j) c some t = ap (λ y. Mark y j) (eqb-true x c t)
mark_look_lem _ c some t = absurd (omega (arith, eqb-true))
