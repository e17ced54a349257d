-- The answers of the host for statements are lawful. Assumes nothing.
use Rattle.std.specs.Prelude.{◌≡◌, ℕ, zero, suc, ◌+◌, ◌<◌, ◌≤◌, Bool, true, false, List, ◌∷◌, length, drop, Some, Ok, Err, Result, ◌==◌, ◌≢◌, nat_eq, nat_lt}
use Rattle.std.proofs.Common.{sym, ap, subst, ◌∙◌, arith, ltb-true, ltb-false}
use Rattle.std.specs.List.{slice_get}
use Rattle.std.proofs.lemmas.Option.{slice_get_within}
use Rattle.std.proofs.lemmas.List.{length-map, length-drop}
use Rattle.std.proofs.lemmas.Bool.Decides.{nat_tests}
use Rattle.refusals.specs.declared.Denial.{Denial}
use Rattle.refusals.specs.declared.Part.{Part}
use Rattle.refusals.specs.declared.Part.TheVariants.{Path, TypeName, Pattern, Block, Keyword, Arguments}
use Rattle.tokens.specs.declared.Delimiter.{Delimiter}
use Rattle.tokens.specs.declared.Delimiter.TheVariants.{Paren, Brace}
use Rattle.tokens.specs.declared.Word.{Word}
use Rattle.tokens.specs.declared.Word.TheVariants.{Mut}
use Rattle.tokens.specs.declared.Look.{Look}
use Rattle.tokens.specs.declared.Look.TheVariants.{Name, Mark, Open}
use Rattle.tokens.specs.Looks.{Field}
use Rattle.hosts.specs.declared.statement.Role.{Role}
use Rattle.hosts.specs.Lawful.{looks, Opens, Whole, LawfulLength, LawfulDenial, Lawful}
use Rattle.hosts.specs.Runs.{colon, ampersand, less, greater, IsSegments, one_segment, more_segments, IsPath, relative, rooted, IsType, named, reference, mutable, IsGroup, group, alone, path_only, path_and_group, word_and_block, IsArguments, angled, IsRun}
use Rattle.hosts.specs.Statements.{look_role, length_of, answer, statement_reading}
use Rattle.hosts.specs.Levels.{nth_drop}
use Rattle.hosts.specs.Roles.{tested, segment_role, block_role, alone_role}
use Rattle.hosts.specs.Longest.{group_first, run_found}

-- A run ends within the level

segments_within : (l : List Look) (n : ℕ) → IsSegments l n → n ≤ length l
segments_within _ _ (one_segment s l h) = omega arith
segments_within _ _ (more_segments s j l n h r) = omega (arith, segments_within l n r)

path_within : (l : List Look) (n : ℕ) → IsPath l n → n ≤ length l
path_within _ _ (relative l n r) = segments_within l n r
path_within _ _ (rooted j l n r) = omega (arith, segments_within l n r)

type_within : (l : List Look) (n : ℕ) → IsType l n → n ≤ length l
type_within _ _ (named l n p) = path_within l n p
type_within _ _ (reference j l n t) = omega (arith, type_within l n t)
type_within _ _ (mutable j l n t) = omega (arith, type_within l n t)

group_within : (d : Delimiter) (l : List Look) (n : ℕ) → IsGroup d l n → n ≤ length l
group_within d _ _ (group l n some within) = within

run_within : (part : Part) (l : List Look) (n : ℕ) → IsRun part l n → n ≤ length l
run_within Path l n p = path_within l n p
run_within TypeName l n t = type_within l n t
run_within Pattern _ _ (alone a l h) = omega arith
run_within Pattern _ _ (path_only l n p) = path_within l n p
run_within Pattern _ _ (path_and_group l n m p g) = omega (arith, path_within l n p, group_within Paren (drop n l) m g, length-drop n l)
run_within Block l n b = group_within Brace l n b
run_within Keyword _ _ (word_and_block w l n h b) = omega (arith, group_within Brace l n b)
run_within Arguments _ _ (angled i j k l n t close) = omega (arith, slice_get_within l n (Mark greater k) close)

-- A run takes its groups whole

abbrev Shut : Look → Type 0
Shut a = (d : Delimiter) (m : ℕ) → a ≢ Open d m

-- no group opens among the first n tokens
abbrev Plain : List Look → ℕ → Type 0
Plain l n = (k m : ℕ) → Opens l k m → k < n → ⊥

mark_shut : (c : ℕ) (j : Bool) → Shut (Mark c j)
mark_shut c j d m e = cc

name_shut : (w : Word) → Shut (Name w)
name_shut w d m e = cc

role_shut : (a : Look) (r : Role) → look_role a ≡ Some r → Shut a
role_shut a r role d m e = let same : look_role a ≡ look_role (Open d m) = ap look_role e in cc

plain_none : (l : List Look) → Plain l 0
plain_none l k m o h = omega arith

plain_more : (a : Look) (l : List Look) (n k : ℕ) → Shut a → Plain l n → k ≤ 1 + n → Plain (a ∷ l) k
plain_more a l n k shut rest few zero m o h = shut o.0 m (at o.0 o.1)
  where
    at : (d : Delimiter) → Some a ≡ Some (Open d m) → a ≡ Open d m
    at d e = cc
plain_more a l n k shut rest few (suc i) m o h = rest i m o (omega arith)

colons_plain : (j : Bool) (l : List Look) (n : ℕ) → Plain l n → Plain (Mark colon true ∷ Mark colon j ∷ l) (2 + n)
colons_plain j l n rest =
    plain_more (Mark colon true) (Mark colon j ∷ l) (1 + n) (2 + n) (mark_shut colon true) (plain_more (Mark colon j) l n (1 + n) (mark_shut colon j) rest (omega arith)) (omega arith)

segments_plain : (l : List Look) (n : ℕ) → IsSegments l n → Plain l n
segments_plain _ _ (one_segment s l h) = plain_more s l 0 1 (role_shut s _ (segment_role s h)) (plain_none l) (omega arith)
segments_plain _ _ (more_segments s j l n h r) =
    plain_more s (Mark colon true ∷ Mark colon j ∷ l) (2 + n) (3 + n) (role_shut s _ (segment_role s h)) (colons_plain j l n (segments_plain l n r)) (omega arith)

path_plain : (l : List Look) (n : ℕ) → IsPath l n → Plain l n
path_plain _ _ (relative l n r) = segments_plain l n r
path_plain _ _ (rooted j l n r) = colons_plain j l n (segments_plain l n r)

type_plain : (l : List Look) (n : ℕ) → IsType l n → Plain l n
type_plain _ _ (named l n p) = path_plain l n p
type_plain _ _ (reference j l n t) = plain_more (Mark ampersand j) l n (1 + n) (mark_shut ampersand j) (type_plain l n t) (omega arith)
type_plain _ _ (mutable j l n t) =
    plain_more (Mark ampersand j) (Name Mut ∷ l) (1 + n) (2 + n) (mark_shut ampersand j)
    (plain_more (Name Mut) l n (1 + n) (name_shut Mut) (type_plain l n t) (omega arith)) (omega arith)

arguments_plain : (l : List Look) (n : ℕ) → IsArguments l n → Plain l n
arguments_plain _ _ (angled i j k l n t close) =
    let inner : Plain l (1 + n) = at in
    let rest : Plain (Mark less j ∷ l) (2 + n) = plain_more (Mark less j) l (1 + n) (2 + n) (mark_shut less j) inner (omega arith) in
    λ p m o h. colons_plain i (Mark less j ∷ l) (2 + n) rest p m o (omega arith)
  where
    at : Plain l (1 + n)
    at p m o h =
        tested (nat_lt p n) (λ before. type_plain l n t p m o (omega (arith, ltb-true)))
        (λ behind. let e : p ≡ n = omega (arith, ltb-false) in mark_shut greater k o.0 m (here e o.0 o.1))
      where
        here : p ≡ n → (d : Delimiter) → slice_get l p ≡ Some (Open d m) → Mark greater k ≡ Open d m
        here e d q = let r : slice_get l p ≡ slice_get l n = ap (slice_get l) e in cc

-- groups that open inside another end inside it
abbrev Inner : List Look → Type 0
Inner l = (i m j n : ℕ) → Opens l i m → Opens l j n → i < j → j < i + m → j + n ≤ i + m

plain_whole : (l : List Look) (n : ℕ) → Plain l n → Whole l n
plain_whole l n plain k m o h = absurd (plain k m o h)

-- a group behind tokens that open none
group_whole : (l : List Look) (i n : ℕ) → Inner l → Plain l i → Opens l i n → Whole l (i + n)
group_whole l i n inner plain opens k m o h =
    tested (nat_lt k i) (λ t. absurd (plain k m o (omega (arith, ltb-true))))
    (λ f. tested (nat_lt i k) (λ t. inner i n k m opens o (omega (arith, ltb-true)) h)
    (λ g. let e : k ≡ i = omega (arith, ltb-false) in omega (arith, same e opens.0 o.0 opens.1 o.1)))
  where
    same : k ≡ i → (d e : Delimiter) → slice_get l i ≡ Some (Open d n) → slice_get l k ≡ Some (Open e m) → n ≡ m
    same e d f a b = let r : slice_get l k ≡ slice_get l i = ap (slice_get l) e in cc

run_whole : (part : Part) (l : List Look) (n : ℕ) → IsRun part l n → Inner l → Whole l n
run_whole Path l n p inner = plain_whole l n (path_plain l n p)
run_whole TypeName l n t inner = plain_whole l n (type_plain l n t)
run_whole Pattern _ _ (alone a l h) inner = plain_whole (a ∷ l) 1 (plain_more a l 0 1 (role_shut a _ (alone_role a h)) (plain_none l) (omega arith))
run_whole Pattern _ _ (path_only l n p) inner = plain_whole l n (path_plain l n p)
run_whole Pattern _ _ (path_and_group l n m p g) inner =
    group_whole l n m inner (path_plain l n p) (Paren, sym (nth_drop n l) ∙ group_first Paren (drop n l) m g)
run_whole Block l n b inner =
    let none : 0 + n ≡ n = omega arith in
    subst (Whole l) none (group_whole l 0 n inner (plain_none l) (Brace, group_first Brace l n b))
run_whole Keyword _ _ (word_and_block w l n h b) inner =
    group_whole (w ∷ l) 1 n inner (plain_more w l 0 1 (role_shut w _ (block_role w h)) (plain_none l) (omega arith)) (Brace, group_first Brace l n b)
run_whole Arguments l n a inner = plain_whole l n (arguments_plain l n a)

pub statement_lawful : (part : Part) (l : List Field) → Lawful l (statement_reading part l)
unfolding statement_reading
statement_lawful part l = at (length_of part (looks l)) (run_found part (looks l))
  where
    at : (k : ℕ) → (0 < k → IsRun part (looks l) k) → Lawful l (answer k)
    at k found = tested (k == 0) none some
      where
        none : nat_eq k 0 ≡ true → Lawful l (answer k)
        none t = rw t (record { host = (omega arith, omega arith); code = (omega arith, omega arith) })

        some : nat_eq k 0 ≡ false → Lawful l (answer k)
        some t =
            let pos : 0 < k = grind (arith, nat_tests) in
            let run = found pos in
            rw t (record {
              some = pos;
              within = omega (arith, run_within part (looks l) k run, length-map l (λ f. f.look));
              whole = λ nested. run_whole part (looks l) k run nested.inner;
            })

-- what the law says of an answer that is known
pub lawful_length : (l : List Field) (r : Result ℕ Denial) → Lawful l r → (n : ℕ) → Ok n ≡ r → LawfulLength l n
lawful_length l r w n e = subst (λ (x : Result ℕ Denial). Lawful l x) (sym e) w

pub lawful_denial : (l : List Field) (r : Result ℕ Denial) → Lawful l r → (d : Denial) → Err d ≡ r → LawfulDenial d
lawful_denial l r w d e = subst (λ (x : Result ℕ Denial). Lawful l x) (sym e) w
