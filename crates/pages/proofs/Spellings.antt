-- A name is compared with the spellings of about its own length alone. Assumes nothing.
use Rattle.std.proofs.Common.{◌≡◌, ℕ, ◌≤◌, Bool, true, false, cond, ◌&&◌, leb, List, [], ◌∷◌, length, sym, refl, ap, ◌∙◌, subst, ⊎_elim}
use Rattle.std.specs.Str.{bytes_eq}
use Rattle.std.proofs.lemmas.Slice.Eq.{HasBytesAt, bytes_eq-Decides, text_from_reads}
use Rattle.std.proofs.lemmas.Bool.{le-leb, leb-true, cond-false, cases_Bool, and_from, and_parts, both_ways}
use Rattle.tokens.specs.declared.Word.{Word}
use Rattle.tokens.specs.declared.Word.TheVariants.{Plain}
use Rattle.pages.specs.Words.{Spelling, spelled, spellings, word_of, within}

-- a name that has the bytes of a text is spelled like it
pub spelled_as : (table : List Spelling) (bytes text : List ℕ) → length bytes ≡ length text → HasBytesAt bytes 0 text → spelled text table ≡ spelled bytes table
spelled_as table bytes text n h = ap (λ s. spelled s table) (sym (text_from_reads bytes text n h))

-- a name with that spelling has its length
same_length : (bytes : List ℕ) (s : Spelling) → bytes_eq bytes s.0 ≡ true → length bytes ≡ length s.0
same_length bytes s e = ap length ((bytes_eq-Decides bytes s.0).0 e)

module _ (bytes : List ℕ) (least most : ℕ) where
  abbrev fits : Spelling → Bool
  fits s = leb least (length s.0) && leb (length s.0) most

  -- x is what the bytes spell by l; s is no spelling of theirs where it is left out
  picked : (s : Spelling) (l : List Spelling) (t : Bool) (x : Word) → (bytes_eq bytes s.0 ≡ true → t ≡ true) → spelled bytes l ≡ x → spelled bytes (cond t (s ∷ l) l) ≡ cond (bytes_eq bytes s.0) s.1 x
  picked s l true x h e = ap (cond (bytes_eq bytes s.0) s.1) e
  picked s l false x h e =
      e ∙ ⊎_elim (λ is. absurd (both_ways false refl (h is))) (λ not. sym (cond-false (bytes_eq bytes s.0) s.1 x not)) (cases_Bool (bytes_eq bytes s.0))

  at_length : least ≤ length bytes → length bytes ≤ most → (table : List Spelling) → spelled bytes (within least most table) ≡ spelled bytes table
  at_length low high [] = refl
  at_length low high (s ∷ ss) =
      picked s (within least most ss) (fits s) (spelled bytes ss)
      (λ e. subst (λ n. (leb least n && leb n most) ≡ true) (same_length bytes s e) (and_from _ _ (le-leb _ _ low) (le-leb _ _ high)))
      (at_length low high ss)

  pub spelled_at : least ≤ length bytes → length bytes ≤ most → spelled bytes (within least most spellings) ≡ word_of bytes
  unfolding word_of
  spelled_at low high = at_length low high spellings

  -- a name of another length spells none of them
  passed : (s : Spelling) (l : List Spelling) (t : Bool) → (t ≡ true → bytes_eq bytes s.0 ≡ false) → spelled bytes l ≡ Plain → spelled bytes (cond t (s ∷ l) l) ≡ Plain
  passed s l true h e = cond-false (bytes_eq bytes s.0) s.1 (spelled bytes l) (h refl) ∙ e
  passed s l false h e = e

  out_of : (least ≤ length bytes → length bytes ≤ most → ⊥) → (leb least (length bytes) && leb (length bytes) most) ≡ true → ⊥
  out_of out t = let p = and_parts (leb least (length bytes)) (leb (length bytes) most) t in out (leb-true _ _ p.0) (leb-true _ _ p.1)

  none : (least ≤ length bytes → length bytes ≤ most → ⊥) → (table : List Spelling) → spelled bytes (within least most table) ≡ Plain
  none out [] = refl
  none out (s ∷ ss) =
      passed s (within least most ss) (fits s)
      (λ t. ⊎_elim (λ is. absurd (out_of out (subst (λ n. (leb least n && leb n most) ≡ true) (sym (same_length bytes s is)) t))) (λ not. not) (cases_Bool (bytes_eq bytes s.0)))
      (none out ss)

pub spelled_none : (bytes : List ℕ) → (1 ≤ length bytes → length bytes ≤ 8 → ⊥) → Plain ≡ word_of bytes
unfolding word_of
spelled_none bytes out = sym (none bytes 1 8 out spellings)
