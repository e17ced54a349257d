-- What stands at a place of a level: looks, marks, and operators spelled in several marks. Assumes nothing.
use Rattle.std.specs.Prelude.{ℕ, ◌+◌, Bool, false, cond, ◌&&◌, List, map, take, drop, Some, None, Option, ◌==◌, nat_lt, slice_index_or, slice_range}
use Rattle.tokens.specs.declared.Word.TheVariants.{Plain}
use Rattle.tokens.specs.declared.Look.{Look}
use Rattle.tokens.specs.declared.Look.TheVariants.{Name, Mark, Integer, Float, Literal, Lifetime, Open, Close}
use Rattle.tokens.specs.declared.Token.{Token}

abbrev pub no_token : Token
no_token = record { look = Name Plain; start = 0; len = 0 }

-- the look of the token at i, in a level that ends at e
abbrev pub look_at : List Token → ℕ → ℕ → Option Look
look_at ts e i = cond (nat_lt i e) (Some (slice_index_or ts i no_token).look) None

-- the character of a mark, none of anything else
abbrev pub mark_shown : Look → Option ℕ
mark_shown (Name w) = None
mark_shown (Mark c j) = Some c
mark_shown Integer = None
mark_shown Float = None
mark_shown Literal = None
mark_shown Lifetime = None
mark_shown (Open d n) = None
mark_shown (Close d) = None

-- the character of a mark, 0 of anything else
abbrev pub mark_of : Look → ℕ
mark_of (Name w) = 0
mark_of (Mark c j) = c
mark_of Integer = 0
mark_of Float = 0
mark_of Literal = 0
mark_of Lifetime = 0
mark_of (Open d n) = 0
mark_of (Close d) = 0

abbrev pub joined_of : Look → Bool
joined_of (Name w) = false
joined_of (Mark c j) = j
joined_of Integer = false
joined_of Float = false
joined_of Literal = false
joined_of Lifetime = false
joined_of (Open d n) = false
joined_of (Close d) = false

-- the character of the mark at i
abbrev pub mark_in : List Token → ℕ → ℕ → Option ℕ
mark_in ts e i = cond (nat_lt i e) (mark_shown (slice_index_or ts i no_token).look) None

-- the same, 0 where no mark stands
abbrev pub mark_at : List Token → ℕ → ℕ → ℕ
mark_at ts e i = cond (nat_lt i e) (mark_of (slice_index_or ts i no_token).look) 0

-- whether a mark at i is joined to the next one
abbrev pub joined_at : List Token → ℕ → ℕ → Bool
joined_at ts e i = cond (nat_lt i e) (joined_of (slice_index_or ts i no_token).look) false

-- two and three characters in a row, all but the last joined to the next
abbrev pub two_at : List Token → ℕ → ℕ → ℕ → ℕ → Bool
two_at ts e i a b = mark_at ts e i == a && (joined_at ts e i && mark_at ts e (i + 1) == b)

abbrev pub three_at : List Token → ℕ → ℕ → ℕ → ℕ → ℕ → Bool
three_at ts e i a b c = two_at ts e i a b && (joined_at ts e (i + 1) && mark_at ts e (i + 2) == c)

-- a field by its values: what a host is told of a token
pub record Field : Type 0 where
  pub look : Look
  pub bytes : List ℕ

abbrev pub field_of : List ℕ → Token → Field
field_of page t = record { look = t.look; bytes = take t.len (drop t.start page) }

-- the fields of a level from p to its end e
abbrev pub level_of : List ℕ → List Token → ℕ → ℕ → List Field
level_of page ts p e = map (field_of page) (slice_range ts p e)
