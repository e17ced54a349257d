-- The answers of the host for statements are the longest runs. Assumes nothing.
use Rattle.std.specs.Prelude.{◌≡◌, ℕ, ◌+◌, ◌<◌, ◌≤◌, Bool, true, false, cond, List, [], ◌∷◌, length, drop, Some, ◌==◌, ◌≢◌, nat_eq, nat_le, refl}
use Rattle.std.proofs.Common.{sym, ap, subst, ◌∙◌, ⊎_elim, arith}
use Rattle.std.specs.List.{slice_get}
use Rattle.std.proofs.lemmas.Bool.Decides.{nat_tests}
use Rattle.refusals.specs.declared.Part.{Part}
use Rattle.refusals.specs.declared.Part.TheVariants.{Path, TypeName, Pattern, Block, Keyword, Arguments}
use Rattle.tokens.specs.declared.Delimiter.{Delimiter}
use Rattle.tokens.specs.declared.Delimiter.TheVariants.{Paren, Bracket, Brace}
use Rattle.tokens.specs.declared.Look.{Look}
use Rattle.tokens.specs.declared.Look.TheVariants.{Mark, Open}
use Rattle.tokens.specs.Looks.{Field, mark_of, joined_of}
use Rattle.hosts.specs.declared.statement.Role.TheVariants.{BlockWord, Alone}
use Rattle.hosts.specs.Lawful.{looks}
use Rattle.hosts.specs.Runs.{colon, less, greater, IsGroup, group, IsPattern, alone, path_only, path_and_group, IsKeyword, word_and_block, IsArguments, angled, IsRun, LongestRun}
use Rattle.hosts.specs.Statements.{look_role, first_mark, colons, behind, path_length, type_length, same_delimiter, open_length, group_length, keyword_length, enclosed, arguments_length, with_group, pattern_length, length_of, answer, statement_reading, has_role}
use Rattle.hosts.specs.Levels.{nth_drop}
use Rattle.hosts.specs.Roles.{tested, block_role, alone_role, mark_look_lem, role_look}
use Rattle.hosts.specs.Steps.{behind_parts, behind_whole}
use Rattle.hosts.specs.Paths.{colons_look, marked, Reaches, path_found, path_reach, path_first, type_found, type_reach}

-- Groups

same : (d e : Delimiter) → same_delimiter d e ≡ true → d ≡ e
same Paren Paren t = refl
same Bracket Bracket t = refl
same Brace Brace t = refl
same _ _ t = cc

itself : (d : Delimiter) → same_delimiter d d ≡ true
itself Paren = refl
itself Bracket = refl
itself Brace = refl

opened : (d : Delimiter) (a : Look) → 0 < open_length d a → a ≡ Open d (open_length d a)
opened d (Open e n) h = tested (same_delimiter d e) yes no
  where
    yes : same_delimiter d e ≡ true → Open e n ≡ Open d (open_length d (Open e n))
    yes t = let len : open_length d (Open e n) ≡ n = rw t in let delimiter = same d e t in cc

    no : same_delimiter d e ≡ false → Open e n ≡ Open d (open_length d (Open e n))
    no t = let none : open_length d (Open e n) ≡ 0 = rw t in absurd (omega arith)
opened _ _ h = absurd (omega arith)

fits : (n k : ℕ) → 0 < cond (nat_le n k) n 0 → (n ≡ cond (nat_le n k) n 0) × (0 < n) × (n ≤ k)
fits n k h = (grind (arith, nat_tests), grind (arith, nat_tests), grind (arith, nat_tests))

group_found : (d : Delimiter) (l : List Look) → 0 < group_length d l → IsGroup d l (group_length d l)
group_found d [] h = absurd (omega arith)
group_found d (a ∷ l) h =
    let f = fits (open_length d a) (length (a ∷ l)) h in
    subst (IsGroup d (a ∷ l)) f.0
    (subst (λ (x : Look). IsGroup d (x ∷ l) (open_length d a)) (sym (opened d a f.1)) (group l (open_length d a) f.1 f.2))

group_only : (d : Delimiter) (l : List Look) (n : ℕ) → IsGroup d l n → (1 ≤ n) × (n ≡ group_length d l)
group_only d _ _ (group l n some within) =
    let whole : group_length d (Open d n ∷ l) ≡ cond (nat_le n (length (Open d n ∷ l))) n 0 = rw (itself d) in
    (some, grind (arith, nat_tests))

-- Keywords

keyword_found : (l : List Look) → 0 < keyword_length l → IsKeyword l (keyword_length l)
keyword_found [] h = absurd (omega arith)
keyword_found (w ∷ l) h = tested (has_role BlockWord (look_role w)) yes no
  where
    yes : has_role BlockWord (look_role w) ≡ true → IsKeyword (w ∷ l) (keyword_length (w ∷ l))
    yes t =
        let s = behind_parts 1 (group_length Brace l) (keyword_length (w ∷ l)) (rw t) h in
        subst (IsKeyword (w ∷ l)) s.1 (word_and_block w l _ (role_look BlockWord w t) (group_found Brace l s.0))

    no : has_role BlockWord (look_role w) ≡ false → IsKeyword (w ∷ l) (keyword_length (w ∷ l))
    no t = let none : keyword_length (w ∷ l) ≡ 0 = rw t in absurd (omega arith)

keyword_most : (l : List Look) (n : ℕ) → IsKeyword l n → (1 ≤ n) × (n ≤ keyword_length l)
keyword_most _ _ (word_and_block w l n h b) =
    let g = group_only Brace l n b in
    let whole : keyword_length (w ∷ l) ≡ behind 1 (group_length Brace l) = rw (ap (has_role BlockWord) (block_role w h)) in
    (omega arith, omega (arith, g.1, behind_whole 1 _ _ whole (omega (arith, g.0, g.1))))

-- Patterns

pub group_first : (d : Delimiter) (l : List Look) (n : ℕ) → IsGroup d l n → slice_get l 0 ≡ Some (Open d n)
group_first d _ _ (group l n some within) = refl

pattern_found : (l : List Look) → 0 < pattern_length l → IsPattern l (pattern_length l)
pattern_found [] h = absurd (omega arith)
pattern_found (a ∷ l) h = tested (has_role Alone (look_role a)) yes no
  where
    yes : has_role Alone (look_role a) ≡ true → IsPattern (a ∷ l) (pattern_length (a ∷ l))
    yes t = rw t (alone a l (role_look Alone a t))

    parts : (n m : ℕ) → pattern_length (a ∷ l) ≡ cond (n == 0) 0 (n + m) → (0 < n) × (n + m ≡ pattern_length (a ∷ l))
    parts n m e = (grind (arith, nat_tests), grind (arith, nat_tests))

    no : has_role Alone (look_role a) ≡ false → IsPattern (a ∷ l) (pattern_length (a ∷ l))
    no t =
        let n : ℕ = path_length (a ∷ l) in
        let m : ℕ = group_length Paren (drop n (a ∷ l)) in
        let s = parts n m (rw t) in
        let path = path_found (a ∷ l) s.0 in
        tested (m == 0)
        (λ z. subst (IsPattern (a ∷ l)) (grind (arith, nat_tests)) (path_only (a ∷ l) n path))
        (λ z. subst (IsPattern (a ∷ l)) s.1 (path_and_group (a ∷ l) n m path (group_found Paren (drop n (a ∷ l)) (grind (arith, nat_tests)))))

pattern_most : (l : List Look) (n : ℕ) → IsPattern l n → (1 ≤ n) × (n ≤ pattern_length l)
pattern_most _ _ (alone a l h) =
    let whole : pattern_length (a ∷ l) ≡ 1 = rw (ap (has_role Alone) (alone_role a h)) in
    (omega arith, omega arith)
pattern_most _ _ (path_only l n p) =
    let r = path_reach l n p in
    let whole : pattern_length l ≡ with_group (path_length l) l = rw (path_first l n p).2 in
    (r.some, at (path_length l) (group_length Paren (drop (path_length l) l)) r whole)
  where
    at : (k m : ℕ) → Reaches l n k → pattern_length l ≡ cond (k == 0) 0 (k + m) → n ≤ pattern_length l
    at k m r e = let some = r.some in let most = r.most in grind (arith, nat_tests)
pattern_most _ _ (path_and_group l n m p g) =
    let r = path_reach l n p in
    let whole : pattern_length l ≡ with_group (path_length l) l = rw (path_first l n p).2 in
    let only = group_only Paren (drop n l) m g in
    let first = sym (nth_drop n l) ∙ group_first Paren (drop n l) m g in
    (omega (arith, r.some), ⊎_elim (λ e. all (path_length l) r e only.1 whole) (λ e. absurd (apart e first)) r.stop)
  where
    all : (k : ℕ) → Reaches l n k → n ≡ k → m ≡ group_length Paren (drop n l) → pattern_length l ≡ with_group k l → n + m ≤ pattern_length l
    all k r e o w =
        let at : with_group k l ≡ with_group n l = ap (λ i. with_group i l) (sym e) in
        let some = r.some in
        grind (arith, nat_tests)

    apart : slice_get l n ≡ Some (Mark colon true) → slice_get l n ≢ Some (Open Paren m)
    apart a b = cc

-- Arguments

first_mark_lem : (l : List Look) (c : ℕ) → 0 < c → (first_mark l == c) ≡ true → (j : Bool) × (slice_get l 0 ≡ Some (Mark c j))
first_mark_lem [] c h t = absurd (at t)
  where
    at : nat_eq 0 c ≡ true → ⊥
    at e = grind (arith, nat_tests)
first_mark_lem (a ∷ l) c h t = (joined_of a, ap Some (mark_look_lem a c h t))

-- the tests behind a length of arguments
all_true : (x y z : Bool) (n : ℕ) → 0 < cond x (behind 2 (cond y (cond (n == 0) 0 (cond z (2 + n) 0)) 0)) 0
    → (x ≡ true) × (y ≡ true) × (z ≡ true) × (0 < n) × (4 + n ≡ cond x (behind 2 (cond y (cond (n == 0) 0 (cond z (2 + n) 0)) 0)) 0)
all_true true true true n h = (refl, refl, refl, grind (arith, nat_tests), grind (arith, nat_tests))
all_true true true false n h = absurd (grind (arith, nat_tests))
all_true true false z n h = absurd (grind (arith, nat_tests))
all_true false y z n h = absurd (omega arith)

arguments_found : (l : List Look) → 0 < arguments_length l → IsArguments l (arguments_length l)
arguments_found [] h = absurd (omega arith)
arguments_found (a ∷ []) h = absurd (omega arith)
arguments_found (a ∷ b ∷ []) h = absurd (none h)
  where
    none : 0 < arguments_length (a ∷ b ∷ []) → ⊥
    none h = grind (arith, nat_tests)
arguments_found (a ∷ b ∷ c ∷ l) h =
    let n : ℕ = type_length l in
    let f = all_true (colons (a ∷ b ∷ c ∷ l)) (mark_of c == less) (first_mark (drop n l) == greater) n h in
    let close = first_mark_lem (drop n l) greater (omega arith) f.2 in
    let run = angled (joined_of b) (joined_of c) close.0 l n (type_found l f.3) (sym (nth_drop n l) ∙ close.1) in
    subst (IsArguments (a ∷ b ∷ c ∷ l)) f.4
    (marked IsArguments a b (c ∷ l) _ (colons_look a b (c ∷ l) f.0)
    (subst (λ (x : Look). IsArguments (Mark colon true ∷ Mark colon (joined_of b) ∷ x ∷ l) (4 + n)) (sym (mark_look_lem c less (omega arith) f.1)) run))

arguments_most : (l : List Look) (n : ℕ) → IsArguments l n → (1 ≤ n) × (n ≤ arguments_length l)
arguments_most _ _ (angled i j k l n t close) =
    let r = type_reach l n t in
    (omega arith, ⊎_elim (λ e. all (type_length l) r e refl) (λ e. absurd (apart e close)) r.stop)
  where
    shut : nat_eq (first_mark (drop n l)) greater ≡ true
    shut = at (drop n l) (nth_drop n l ∙ close)
      where
        at : (xs : List Look) → slice_get xs 0 ≡ Some (Mark greater k) → (first_mark xs == greater) ≡ true
        at [] e = cc
        at (x ∷ xs) e = let is : x ≡ Mark greater k = cc in ap (λ y. nat_eq (mark_of y) greater) is

    all : (m : ℕ) → Reaches l n m → n ≡ m → m ≡ type_length l → 4 + n ≤ arguments_length (Mark colon true ∷ Mark colon i ∷ Mark less j ∷ l)
    all m r e is =
        let some = r.some in
        let same : behind 2 (enclosed (type_length l) l) ≡ behind 2 (enclosed n l) = ap (λ x. behind 2 (enclosed x l)) (sym (e ∙ is)) in
        let test = shut in
        grind (arith, nat_tests)

    apart : slice_get l n ≡ Some (Mark colon true) → slice_get l n ≢ Some (Mark greater k)
    apart a b = let z : ◌≡◌ {A = ℕ} colon greater = cc in omega arith

-- All parts

pub run_found : (part : Part) (l : List Look) → 0 < length_of part l → IsRun part l (length_of part l)
run_found Path l h = path_found l h
run_found TypeName l h = type_found l h
run_found Pattern l h = pattern_found l h
run_found Block l h = group_found Brace l h
run_found Keyword l h = keyword_found l h
run_found Arguments l h = arguments_found l h

run_most : (part : Part) (l : List Look) (n : ℕ) → IsRun part l n → (1 ≤ n) × (n ≤ length_of part l)
run_most Path l n p = let r = path_reach l n p in (r.some, r.most)
run_most TypeName l n t = let r = type_reach l n t in (r.some, r.most)
run_most Pattern l n p = pattern_most l n p
run_most Block l n b = let only = group_only Brace l n b in (only.0, omega (arith, only.1))
run_most Keyword l n k = keyword_most l n k
run_most Arguments l n a = arguments_most l n a

pub longest_run : (part : Part) (l : List Field) → LongestRun part l (statement_reading part l)
unfolding statement_reading
longest_run part l = at (length_of part (looks l)) (run_found part (looks l)) (run_most part (looks l))
  where
    at : (k : ℕ) → (0 < k → IsRun part (looks l) k) → ((n : ℕ) → IsRun part (looks l) n → (1 ≤ n) × (n ≤ k)) → LongestRun part l (answer k)
    at k found most = tested (k == 0) none some
      where
        none : nat_eq k 0 ≡ true → LongestRun part l (answer k)
        none t = rw t (λ n r. let m = most n r in grind (arith, nat_tests))

        some : nat_eq k 0 ≡ false → LongestRun part l (answer k)
        some t = rw t (found (grind (arith, nat_tests)), λ n r. (most n r).1)
