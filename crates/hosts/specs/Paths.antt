-- The computed lengths of paths and types are those of the longest runs. Assumes nothing.
use Rattle.std.specs.Prelude.{◌≡◌, ℕ, suc, ◌+◌, ◌<◌, ◌≤◌, Bool, true, false, ◌&&◌, ◌⊎◌, List, [], ◌∷◌, drop, Some, ◌==◌, nat_eq, refl}
use Rattle.std.proofs.Common.{sym, ap, subst, ◌∙◌, inl, inr, ⊎_elim, arith}
use Rattle.std.specs.List.{slice_get}
use Rattle.std.proofs.lemmas.Bool.{and_parts}
use Rattle.std.proofs.lemmas.List.{drop-drop}
use Rattle.std.proofs.lemmas.Bool.Decides.{nat_tests}
use Rattle.tokens.specs.declared.Word.TheVariants.{Mut}
use Rattle.tokens.specs.declared.Look.{Look}
use Rattle.tokens.specs.declared.Look.TheVariants.{Name, Mark}
use Rattle.tokens.specs.Looks.{mark_of, joined_of}
use Rattle.hosts.specs.declared.statement.Role.TheVariants.{Segment, Alone, Mutable}
use Rattle.hosts.specs.Runs.{colon, ampersand, IsSegment, IsSegments, one_segment, more_segments, IsPath, relative, rooted, IsType, named, reference, mutable}
use Rattle.hosts.specs.Statements.{look_role, first_role, first_mark, colons, behind, further, segments_length, path_length, references, type_length, has_role}
use Rattle.hosts.specs.Roles.{tested, segment_role, role_mark, mark_look_lem, role_look}
use Rattle.hosts.specs.Steps.{behind_parts, behind_whole, references_mutable, references_shared, references_none}

-- `::` at the front, token by token
pub colons_look : (a b : Look) (l : List Look) → colons (a ∷ b ∷ l) ≡ true → (a ≡ Mark colon true) × (b ≡ Mark colon (joined_of b))
colons_look a b l t =
    let front = and_parts (mark_of a == colon) (joined_of a && mark_of b == colon) t in
    let back = and_parts (joined_of a) (mark_of b == colon) front.1 in
    (mark_look_lem a colon (omega arith) front.0 ∙ ap (Mark colon) back.0, mark_look_lem b colon (omega arith) back.1)

-- a run over `::` as it is spelled
pub marked : (R : List Look → ℕ → Type 0) (a b : Look) (l : List Look) (n : ℕ) → (a ≡ Mark colon true) × (b ≡ Mark colon (joined_of b))
    → R (Mark colon true ∷ Mark colon (joined_of b) ∷ l) n → R (a ∷ b ∷ l) n
marked R a b l n e r =
    subst (λ (x : Look). R (x ∷ b ∷ l) n) (sym e.0) (subst (λ (x : Look). R (Mark colon true ∷ x ∷ l) n) (sym e.1) r)

-- a run of n tokens where the longest has k: it is that one, or it stops before a `::`
pub record Reaches (l : List Look) (n k : ℕ) : Type 0 where
  pub some : 1 ≤ n
  pub most : n ≤ k
  pub stop : (n ≡ k) ⊎ (slice_get l n ≡ Some (Mark colon true))

-- Segments

longer : (s a b x : Look) (l : List Look) → IsSegment s → (has_role Segment (look_role x) ≡ true → IsSegments (x ∷ l) (1 + further l))
    → IsSegments (s ∷ a ∷ b ∷ x ∷ l) (1 + further (a ∷ b ∷ x ∷ l))
longer s a b x l h rest = tested (colons (a ∷ b ∷ []) && has_role Segment (look_role x)) yes no
  where
    yes : (colons (a ∷ b ∷ []) && has_role Segment (look_role x)) ≡ true → IsSegments (s ∷ a ∷ b ∷ x ∷ l) (1 + further (a ∷ b ∷ x ∷ l))
    yes t =
        let parts = and_parts (colons (a ∷ b ∷ [])) (has_role Segment (look_role x)) t in
        let marks = colons_look a b [] parts.0 in
        let run = more_segments s (joined_of b) (x ∷ l) (1 + further l) h (rest parts.1) in
        let n : 3 + (1 + further l) ≡ 1 + further (a ∷ b ∷ x ∷ l) = rw t (omega arith) in
        subst (IsSegments (s ∷ a ∷ b ∷ x ∷ l)) n (marked (λ xs k. IsSegments (s ∷ xs) k) a b (x ∷ l) _ marks run)

    no : (colons (a ∷ b ∷ []) && has_role Segment (look_role x)) ≡ false → IsSegments (s ∷ a ∷ b ∷ x ∷ l) (1 + further (a ∷ b ∷ x ∷ l))
    no t = rw t (one_segment s (a ∷ b ∷ x ∷ l) h)

segments_run : (l : List Look) → has_role Segment (first_role l) ≡ true → IsSegments l (1 + further (drop 1 l))
segments_run [] t = cc
segments_run (s ∷ []) t = one_segment s [] (role_look Segment s t)
segments_run (s ∷ a ∷ []) t = one_segment s (a ∷ []) (role_look Segment s t)
segments_run (s ∷ a ∷ b ∷ []) t = one_segment s (a ∷ b ∷ []) (role_look Segment s t)
segments_run (s ∷ a ∷ b ∷ x ∷ l) t = longer s a b x l (role_look Segment s t) (segments_run (x ∷ l))

first_segment : (l : List Look) (n : ℕ) → IsSegments l n → has_role Segment (first_role l) ≡ true
first_segment _ _ (one_segment s l h) = ap (has_role Segment) (segment_role s h)
first_segment _ _ (more_segments s j l n h r) = ap (has_role Segment) (segment_role s h)

-- further on is nothing, or `::`
goes_on : (l : List Look) → (further l ≡ 0) ⊎ (slice_get l 0 ≡ Some (Mark colon true))
goes_on [] = inl refl
goes_on (a ∷ []) = inl refl
goes_on (a ∷ b ∷ []) = inl refl
goes_on (a ∷ b ∷ x ∷ l) =
    tested (colons (a ∷ b ∷ [])) (λ t. inr (ap Some (colons_look a b [] t).0)) (λ t. inl (rw t))

-- one token more before a run
further_reach : (x : Look) (l : List Look) (n k : ℕ) → Reaches l n k → Reaches (x ∷ l) (1 + n) (1 + k)
further_reach x l n k r =
    let one : 1 + n ≡ suc n = omega arith in
    record { some = omega arith; most = omega (arith, r.most); stop = ⊎_elim (λ e. inl (omega (arith, e))) (λ e. inr (rw one e)) r.stop }

two_further : (x y : Look) (l : List Look) (n k : ℕ) → Reaches l n k → Reaches (x ∷ y ∷ l) (2 + n) (2 + k)
two_further x y l n k r =
    let a : 1 + (1 + n) ≡ 2 + n = omega arith in
    let b : 1 + (1 + k) ≡ 2 + k = omega arith in
    rw (← a, ← b) (further_reach x (y ∷ l) _ _ (further_reach y l _ _ r))

on : (s : Look) (j : Bool) (l : List Look) (n : ℕ) → has_role Segment (first_role l) ≡ true → Reaches l n (1 + further (drop 1 l))
    → Reaches (s ∷ Mark colon true ∷ Mark colon j ∷ l) (3 + n) (1 + further (Mark colon true ∷ Mark colon j ∷ l))
on s j [] n t r = cc
on s j (x ∷ l) n t r =
    let whole : 1 + (2 + (1 + further l)) ≡ 1 + further (Mark colon true ∷ Mark colon j ∷ x ∷ l) = rw t (omega arith) in
    let three : 1 + (2 + n) ≡ 3 + n = omega arith in
    rw (← whole, ← three) (further_reach s _ _ _ (two_further _ _ (x ∷ l) _ _ r))

segments_reach : (l : List Look) (n : ℕ) → IsSegments l n → Reaches l n (1 + further (drop 1 l))
segments_reach _ _ (one_segment s l h) =
    record { some = omega arith; most = omega arith; stop = ⊎_elim (λ e. inl (omega (arith, e))) inr (goes_on l) }
segments_reach _ _ (more_segments s j l n h r) = on s j l n (first_segment l n r) (segments_reach l n r)

segments_found : (l : List Look) → 0 < segments_length l → IsSegments l (segments_length l)
segments_found l h =
    tested (has_role Segment (first_role l)) (λ t. rw t (segments_run l t)) (λ t. absurd (omega (arith, none t)))
  where
    none : has_role Segment (first_role l) ≡ false → segments_length l ≡ 0
    none t = rw t

-- Paths

no_colons : (l : List Look) → has_role Segment (first_role l) ≡ true → colons l ≡ false
no_colons [] t = refl
no_colons (a ∷ []) t = refl
no_colons (a ∷ b ∷ l) t = rw (role_mark a _ (segment_role a (role_look Segment a t)))

pub path_found : (l : List Look) → 0 < path_length l → IsPath l (path_length l)
path_found [] h = absurd (omega arith)
path_found (a ∷ []) h = relative (a ∷ []) _ (segments_found (a ∷ []) h)
path_found (a ∷ b ∷ l) h = tested (colons (a ∷ b ∷ l)) yes no
  where
    yes : colons (a ∷ b ∷ l) ≡ true → IsPath (a ∷ b ∷ l) (path_length (a ∷ b ∷ l))
    yes t =
        let whole : path_length (a ∷ b ∷ l) ≡ behind 2 (segments_length l) = rw t in
        let s = behind_parts 2 (segments_length l) (path_length (a ∷ b ∷ l)) whole h in
        subst (IsPath (a ∷ b ∷ l)) s.1 (marked IsPath a b l _ (colons_look a b l t) (rooted (joined_of b) l _ (segments_found l s.0)))

    no : colons (a ∷ b ∷ l) ≡ false → IsPath (a ∷ b ∷ l) (path_length (a ∷ b ∷ l))
    no t =
        let whole : path_length (a ∷ b ∷ l) ≡ segments_length (a ∷ b ∷ l) = rw t in
        let some : 0 < segments_length (a ∷ b ∷ l) = omega (arith, whole) in
        subst (IsPath (a ∷ b ∷ l)) (sym whole) (relative (a ∷ b ∷ l) _ (segments_found (a ∷ b ∷ l) some))

pub path_reach : (l : List Look) (n : ℕ) → IsPath l n → Reaches l n (path_length l)
path_reach _ _ (relative l n r) =
    let first = first_segment l n r in
    rw (no_colons l first, first) (segments_reach l n r)
path_reach _ _ (rooted j l n r) =
    let first = first_segment l n r in
    let one : segments_length l ≡ 1 + further (drop 1 l) = rw first in
    let whole : 2 + (1 + further (drop 1 l)) ≡ behind 2 (segments_length l) = grind (arith, nat_tests) in
    subst (Reaches (Mark colon true ∷ Mark colon j ∷ l) (2 + n)) whole (two_further _ _ l _ _ (segments_reach l n r))

-- Types

behind_more : (a k n : ℕ) → behind (a + k) n ≡ behind a (behind k n)
behind_more a k n = grind (arith, nat_tests)

behind_nothing : (n : ℕ) → behind 0 n ≡ n
behind_nothing n = grind (arith, nat_tests)

type_named : (l : List Look) → (first_mark l == ampersand) ≡ false → type_length l ≡ path_length l
type_named l t = ap (λ k. behind k (path_length (drop k l))) (references_none l t) ∙ behind_nothing (path_length l)

-- the length of a type whose first k tokens are marks of references
type_more : (k : ℕ) (xs l : List Look) → drop k xs ≡ l → references xs ≡ k + references l → type_length xs ≡ behind k (type_length l)
type_more k xs l d e =
    ap (λ n. behind n (path_length (drop n xs))) e
    ∙ ap (λ ys. behind (k + references l) (path_length ys)) (sym (drop-drop (references l) k xs) ∙ ap (drop (references l)) d)
    ∙ behind_more k (references l) (path_length (drop (references l) l))

type_reference : (x : Look) (l : List Look) → (mark_of x == ampersand) ≡ true → has_role Mutable (first_role l) ≡ false → type_length (x ∷ l) ≡ behind 1 (type_length l)
type_reference x l a m = type_more 1 (x ∷ l) l refl (references_shared (x ∷ l) a m)

type_mutable : (x y : Look) (l : List Look) → (mark_of x == ampersand) ≡ true → has_role Mutable (look_role y) ≡ true → type_length (x ∷ y ∷ l) ≡ behind 2 (type_length l)
type_mutable x y l a m = type_more 2 (x ∷ y ∷ l) l refl (references_mutable (x ∷ y ∷ l) a m)

named_found : (l : List Look) → 0 < type_length l → (first_mark l == ampersand) ≡ false → IsType l (type_length l)
named_found l h t =
    let whole = type_named l t in
    subst (IsType l) (sym whole) (named l _ (path_found l (omega (arith, whole))))

reference_found : (x : Look) (l : List Look) → 0 < type_length (x ∷ l) → (mark_of x == ampersand) ≡ true → has_role Mutable (first_role l) ≡ false
    → (0 < type_length l → IsType l (type_length l)) → IsType (x ∷ l) (type_length (x ∷ l))
reference_found x l h a m rest =
    let s = behind_parts 1 (type_length l) _ (type_reference x l a m) h in
    subst (IsType (x ∷ l)) s.1
    (subst (λ (y : Look). IsType (y ∷ l) (1 + type_length l)) (sym (mark_look_lem x ampersand (omega arith) a)) (reference (joined_of x) l _ (rest s.0)))

mutable_found : (x y : Look) (l : List Look) → 0 < type_length (x ∷ y ∷ l) → (mark_of x == ampersand) ≡ true → has_role Mutable (look_role y) ≡ true
    → (0 < type_length l → IsType l (type_length l)) → IsType (x ∷ y ∷ l) (type_length (x ∷ y ∷ l))
mutable_found x y l h a m rest =
    let s = behind_parts 2 (type_length l) _ (type_mutable x y l a m) h in
    subst (IsType (x ∷ y ∷ l)) s.1
    (subst (λ (z : Look). IsType (z ∷ y ∷ l) (2 + type_length l)) (sym (mark_look_lem x ampersand (omega arith) a))
    (subst (λ (z : Look). IsType (Mark ampersand (joined_of x) ∷ z ∷ l) (2 + type_length l)) (sym (role_look Mutable y m)) (mutable (joined_of x) l _ (rest s.0))))

pub type_found : (l : List Look) → 0 < type_length l → IsType l (type_length l)
type_found [] h = absurd (omega arith)
type_found (x ∷ []) h =
    tested (mark_of x == ampersand) (λ a. reference_found x [] h a refl (λ some. absurd (omega arith))) (named_found (x ∷ []) h)
type_found (x ∷ y ∷ l) h =
    tested (mark_of x == ampersand)
    (λ a. tested (has_role Mutable (look_role y)) (λ m. mutable_found x y l h a m (type_found l)) (λ m. reference_found x (y ∷ l) h a m (type_found (y ∷ l))))
    (named_found (x ∷ y ∷ l) h)

segment_first : (s : Look) → IsSegment s → ((mark_of s == ampersand) ≡ false) × (has_role Mutable (look_role s) ≡ false) × (has_role Alone (look_role s) ≡ false)
segment_first s h = (ap (λ c. nat_eq c ampersand) (role_mark s _ (segment_role s h)), ap (has_role Mutable) (segment_role s h), ap (has_role Alone) (segment_role s h))

-- how a path begins: with a segment or with `::`
pub path_first : (l : List Look) (n : ℕ) → IsPath l n → ((first_mark l == ampersand) ≡ false) × (has_role Mutable (first_role l) ≡ false) × (has_role Alone (first_role l) ≡ false)
path_first _ _ (relative _ _ (one_segment s l h)) = segment_first s h
path_first _ _ (relative _ _ (more_segments s j l n h r)) = segment_first s h
path_first _ _ (rooted j l n r) = (refl, refl, refl)

type_first : (l : List Look) (n : ℕ) → IsType l n → has_role Mutable (first_role l) ≡ false
type_first _ _ (named l n p) = (path_first l n p).1
type_first _ _ (reference j l n t) = refl
type_first _ _ (mutable j l n t) = refl

pub type_reach : (l : List Look) (n : ℕ) → IsType l n → Reaches l n (type_length l)
type_reach _ _ (named l n p) = subst (Reaches l n) (sym (type_named l (path_first l n p).0)) (path_reach l n p)
type_reach _ _ (reference j l n t) =
    let r = type_reach l n t in
    let whole = behind_whole 1 (type_length l) _ (type_reference (Mark ampersand j) l refl (type_first l n t)) (omega (arith, r.some, r.most)) in
    subst (Reaches (Mark ampersand j ∷ l) (1 + n)) whole (further_reach _ l _ _ r)
type_reach _ _ (mutable j l n t) =
    let r = type_reach l n t in
    let whole = behind_whole 2 (type_length l) _ (type_mutable (Mark ampersand j) (Name Mut) l refl refl) (omega (arith, r.some, r.most)) in
    subst (Reaches (Mark ampersand j ∷ Name Mut ∷ l) (2 + n)) whole (two_further _ _ l _ _ r)
