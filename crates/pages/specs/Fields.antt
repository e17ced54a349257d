-- The fields of a page: a tag, a length in two bytes and a value. Assumes nothing.
use Rattle.std.specs.Prelude.{ℕ, ◌+◌, ◌*◌, cond, ◌&&◌, List, [], ◌∷◌, length, take, drop, Some, None, Ok, Err, codes, Option, Result, ◌==◌, nat_le, nat_lt}
use Rattle.refusals.specs.declared.Refusal.{Refusal}
use Rattle.refusals.specs.declared.Refusal.TheVariants.{CutShort, BadField}
use Rattle.tokens.specs.declared.Delimiter.{Delimiter}
use Rattle.tokens.specs.declared.Delimiter.TheVariants.{Paren, Bracket, Brace}
use Rattle.tokens.specs.declared.Look.{Look}
use Rattle.tokens.specs.declared.Look.TheVariants as look
use Rattle.tokens.specs.declared.Token.{Token}
use Rattle.pages.specs.declared.fields.Tag.{Tag}
use Rattle.pages.specs.declared.fields.Tag.TheVariants.{Name, Mark, Integer, Float, Literal, Lifetime, Opener, Closer}
use Rattle.pages.specs.Classes.{class_of, is_mark, is_opener, is_closer, member}
use Rattle.pages.specs.Values.{is_name, is_integer, is_float}
use Rattle.pages.specs.Words.{word_of}

abbrev pub tag_of : ℕ → Option Tag
tag_of b =
    cond (b == 1) (Some Name)
    (cond (b == 2) (Some Mark)
    (cond (b == 3) (Some Integer)
    (cond (b == 4) (Some Float)
    (cond (b == 5) (Some Literal)
    (cond (b == 6) (Some Lifetime)
    (cond (b == 7) (Some Opener)
    (cond (b == 8) (Some Closer) None)))))))

-- the shortest and the longest value under a tag
abbrev pub limits : Tag → ℕ × ℕ
limits Name = (1, 64)
limits Mark = (2, 2)
limits Integer = (1, 20)
limits Float = (2, 40)
limits Literal = (1, 1024)
limits Lifetime = (1, 64)
limits Opener = (1, 1)
limits Closer = (1, 1)

-- a mark's character, and 1 if it is joined to a next mark, else 0
abbrev pub mark_look : List ℕ → Option Look
mark_look [] = None
mark_look (b ∷ []) = None
mark_look (b ∷ j ∷ []) = cond (is_mark (class_of b) && nat_lt j 2) (Some (look.Mark b (j == 1))) None
mark_look (b ∷ j ∷ x ∷ xs) = None

abbrev pub delimiter_of : ℕ → Delimiter
delimiter_of b = cond (member b (codes "()")) Paren (cond (member b (codes "[]")) Bracket Brace)

-- how many tokens the group has is not known yet
abbrev pub open_look : List ℕ → Option Look
open_look [] = None
open_look (b ∷ []) = cond (is_opener (class_of b)) (Some (look.Open (delimiter_of b) 0)) None
open_look (b ∷ x ∷ xs) = None

abbrev pub close_look : List ℕ → Option Look
close_look [] = None
close_look (b ∷ []) = cond (is_closer (class_of b)) (Some (look.Close (delimiter_of b))) None
close_look (b ∷ x ∷ xs) = None

-- the look of a value, if its bytes are allowed under the tag
abbrev pub look_of : Tag → List ℕ → Option Look
look_of Name bytes = cond (is_name bytes) (Some (look.Name (word_of bytes))) None
look_of Mark bytes = mark_look bytes
look_of Integer bytes = cond (is_integer bytes) (Some look.Integer) None
look_of Float bytes = cond (is_float bytes) (Some look.Float) None
look_of Literal bytes = Some look.Literal
look_of Lifetime bytes = cond (is_name bytes) (Some look.Lifetime) None
look_of Opener bytes = open_look bytes
look_of Closer bytes = close_look bytes

-- the field at i with n bytes of value
abbrev pub looked : ℕ → ℕ → Option Look → Result Token Refusal
looked i n None = Err (BadField i)
looked i n (Some l) = Ok (record { look = l; start = i + 3; len = n })

-- the field at i with this tag and length, over the bytes behind its head
abbrev pub tagged : ℕ → Option Tag → ℕ → List ℕ → Result Token Refusal
tagged i None n rest = Err (BadField i)
tagged i (Some tag) n rest =
    cond (nat_le (limits tag).0 n && nat_le n (limits tag).1)
    (cond (nat_le n (length rest)) (looked i n (look_of tag (take n rest))) (Err (CutShort i)))
    (Err (BadField i))

-- the field at i, over the bytes from i on
abbrev pub headed : ℕ → List ℕ → Result Token Refusal
headed i [] = Err (CutShort i)
headed i (a ∷ []) = Err (CutShort i)
headed i (a ∷ b ∷ []) = Err (CutShort i)
headed i (tag ∷ high ∷ low ∷ rest) = tagged i (tag_of tag) (256 * high + low) rest

-- the token of the field that begins at the byte i, or why it is refused
unfoldable pub field_at : List ℕ → ℕ → Result Token Refusal
field_at page i = headed i (drop i page)
