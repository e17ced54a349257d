-- The end of the name in a field, by the bytes of the field. Assumes nothing.
use Rattle.std.proofs.Common.{◌≡◌, ℕ, ◌+◌, ◌-◌, ◌*◌, ◌≤◌, Bool, true, false, cond, ◌&&◌, eqb, leb, List, [], ◌∷◌, length, get_or, take, drop, Some, None, Err, Option, sym, refl, ap, ◌∙◌, arith}
use Rattle.std.proofs.lemmas.List.{take_rest}
use Rattle.refusals.specs.declared.Refusal.TheVariants.{CutShort, BadField}
use Rattle.tokens.specs.declared.Look.{Look}
use Rattle.tokens.specs.declared.Look.TheVariants as look
use Rattle.pages.specs.Values.{is_name, is_integer, is_float}
use Rattle.pages.specs.Words.{word_of}
use Rattle.pages.specs.Fields.{tag_of, mark_look, open_look, close_look, looked, tagged, headed, field_at}
use Rattle.hosts.specs.Roles.{tested}
use Rattle.columns.specs.Columns.{any_name}
use Rattle.columns.specs.Walk.{holds_name, name_end}

-- A value that does not look like a name

abbrev NoName : Option Look → Type 0
NoName None = Unit {0}
NoName (Some l) = any_name l ≡ false

if_some : (b : Bool) (l : Look) → any_name l ≡ false → NoName (cond b (Some l) None)
if_some true l e = e
if_some false l e = tt

mark_no_name : (bytes : List ℕ) → NoName (mark_look bytes)
mark_no_name [] = tt
mark_no_name (b ∷ []) = tt
mark_no_name (b ∷ j ∷ []) = if_some _ (look.Mark b (eqb j 1)) refl
mark_no_name (b ∷ j ∷ x ∷ xs) = tt

open_no_name : (bytes : List ℕ) → NoName (open_look bytes)
open_no_name [] = tt
open_no_name (b ∷ []) = if_some _ _ refl
open_no_name (b ∷ x ∷ xs) = tt

close_no_name : (bytes : List ℕ) → NoName (close_look bytes)
close_no_name [] = tt
close_no_name (b ∷ []) = if_some _ _ refl
close_no_name (b ∷ x ∷ xs) = tt

-- A field at i with n bytes of value, by whether its length is allowed and whether it lies on the page

module _ (i n : ℕ) where
  no_end : (a b : Bool) (o : Option Look) → NoName o → name_end (cond a (cond b (looked i n o) (Err (CutShort i))) (Err (BadField i))) ≡ None
  no_end true true None e = refl
  no_end true true (Some l) e = ap (λ c. cond c (Some (i + 3 + n)) None) e
  no_end true false o e = refl
  no_end false b o e = refl

  name_end_lem : (a b c : Bool) (l : Look) → any_name l ≡ true → name_end (cond a (cond b (looked i n (cond c (Some l) None)) (Err (CutShort i))) (Err (BadField i))) ≡ cond (a && (b && c)) (Some (i + 3 + n)) None
  name_end_lem true true true l e = ap (λ c. cond c (Some (i + 3 + n)) None) e
  name_end_lem true true false l e = refl
  name_end_lem true false c l e = refl
  name_end_lem false b c l e = refl

  -- under any tag but 1
  other_end : (tag : ℕ) (rest : List ℕ) → eqb tag 1 ≡ false → name_end (tagged i (tag_of tag) n rest) ≡ None
  other_end tag rest one =
      tested (eqb tag 2) (λ t. rw (one, t) (within 2 2 (mark_look (take n rest)) (mark_no_name (take n rest))))
      (λ two. tested (eqb tag 3) (λ t. rw (one, two, t) (within 1 20 (cond (is_integer (take n rest)) (Some look.Integer) None) (if_some (is_integer (take n rest)) look.Integer refl)))
      (λ three. tested (eqb tag 4) (λ t. rw (one, two, three, t) (within 2 40 (cond (is_float (take n rest)) (Some look.Float) None) (if_some (is_float (take n rest)) look.Float refl)))
      (λ four. tested (eqb tag 5) (λ t. rw (one, two, three, four, t) (within 1 1024 (Some look.Literal) refl))
      (λ five. tested (eqb tag 6) (λ t. rw (one, two, three, four, five, t) (within 1 64 (cond (is_name (take n rest)) (Some look.Lifetime) None) (if_some (is_name (take n rest)) look.Lifetime refl)))
      (λ six. tested (eqb tag 7) (λ t. rw (one, two, three, four, five, six, t) (within 1 1 (open_look (take n rest)) (open_no_name (take n rest))))
      (λ seven. tested (eqb tag 8) (λ t. rw (one, two, three, four, five, six, seven, t) (within 1 1 (close_look (take n rest)) (close_no_name (take n rest))))
      (λ eight. rw (one, two, three, four, five, six, seven, eight))))))))
    where
      within : (low high : ℕ) (o : Option Look) → NoName o → name_end (cond (leb low n && leb n high) (cond (leb n (length rest)) (looked i n o) (Err (CutShort i))) (Err (BadField i))) ≡ None
      within low high o e = no_end (leb low n && leb n high) (leb n (length rest)) o e

  tagged_end : (tag : ℕ) (rest : List ℕ) → name_end (tagged i (tag_of tag) n rest) ≡ cond (holds_name tag n rest) (Some (i + 3 + n)) None
  tagged_end tag rest =
      tested (eqb tag 1) (λ t. rw t (name_end_lem (leb 1 n && leb n 64) (leb n (length rest)) (is_name (take n rest)) (look.Name (word_of (take n rest))) refl))
      (λ f. other_end tag rest f ∙ rw f)

-- Over the bytes from i on

head_end : (i n : ℕ) (bytes : List ℕ) → 3 ≤ length bytes → n ≡ 256 * get_or bytes 1 0 + get_or bytes 2 0 → name_end (headed i bytes) ≡ cond (holds_name (get_or bytes 0 0) n (drop 3 bytes)) (Some (i + 3 + n)) None
head_end i n [] h e = absurd (omega arith)
head_end i n (a ∷ []) h e = absurd (omega arith)
head_end i n (a ∷ b ∷ []) h e = absurd (omega arith)
head_end i n (a ∷ b ∷ c ∷ rest) h e = ap (λ m. name_end (tagged i (tag_of a) m rest)) (sym e) ∙ tagged_end i n a rest

short_head : (i : ℕ) (bytes : List ℕ) → length bytes ≤ 2 → name_end (headed i bytes) ≡ None
short_head i [] h = refl
short_head i (a ∷ []) h = refl
short_head i (a ∷ b ∷ []) h = refl
short_head i (a ∷ b ∷ c ∷ rest) h = absurd (omega arith)

-- As slices of the page have them

module _ (page : List ℕ) (i : ℕ) where
  abbrev bytes : List ℕ
  bytes = take (length page - i) (drop i page)

  field_end : name_end (headed i bytes) ≡ name_end (field_at page i)
  unfolding field_at
  field_end = ap (λ l. name_end (headed i l)) (take_rest page i)

  pub short_end : length bytes ≤ 2 → None ≡ name_end (field_at page i)
  short_end h = sym (short_head i bytes h) ∙ field_end

  pub long_end : (n : ℕ) (b : Bool) → 3 ≤ length bytes → n ≡ 256 * get_or bytes 1 0 + get_or bytes 2 0 → b ≡ holds_name (get_or bytes 0 0) n (take (length bytes - 3) (drop 3 bytes)) → cond b (Some (i + 3 + n)) None ≡ name_end (field_at page i)
  long_end n b h e is =
      ap (λ c. cond c (Some (i + 3 + n)) None) (is ∙ ap (holds_name (get_or bytes 0 0) n) (take_rest bytes 3))
      ∙ (sym (head_end i n bytes h e) ∙ field_end)
