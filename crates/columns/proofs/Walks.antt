-- The walk over a page of columns: the names that are left at a byte, where one follows and where none does.
-- Assumes nothing.
use Rattle.std.proofs.Common.{◌≡◌, ℕ, zero, suc, ◌+◌, ◌-◌, ◌<◌, ◌≤◌, Bool, true, false, cond, ltb, List, [], ◌∷◌, length, take, drop, Some, None, Ok, Err, Result, sym, refl, ap, ◌∙◌, arith, ltb-false, ltb-true}
use Rattle.std.proofs.lemmas.List.{drop_all}
use Rattle.refusals.specs.declared.Refusal.{Refusal}
use Rattle.refusals.specs.declared.Refusal.TheVariants.{CutShort}
use Rattle.tokens.specs.Looks.{field_of}
use Rattle.tokens.specs.declared.Token.{Token}
use Rattle.pages.specs.Fields.{headed, field_at}
use Rattle.pages.proofs.Sound.{field_is}
use Rattle.hosts.specs.Roles.{tested}
use Rattle.columns.specs.Columns.{any_name, named, names_from, names_left}
use Rattle.columns.specs.Walk.{name_end}

-- One field

abbrev Starts : ℕ → Result Token Refusal → Type 0
Starts i f = (t : Token) → f ≡ Ok t → t.start ≡ i + 3

past_page : (page : List ℕ) (i : ℕ) → length page ≤ i → field_at page i ≡ Err (CutShort i)
unfolding field_at
past_page page i h = ap (headed i) (drop_all i page h)

starts : (page : List ℕ) (i : ℕ) → Starts i (field_at page i)
starts page i t e =
    tested (ltb i (length page)) (λ l. let on : i < length page = omega (arith, ltb-true) in (field_is page i t on e).0)
    (λ l. let off : length page ≤ i = omega (arith, ltb-false) in
    let gone = past_page page i off in
    absurd cc)

module _ (page : List ℕ) (following : ℕ → List (List ℕ)) (i : ℕ) where
  named_none : (f : Result Token Refusal) → name_end f ≡ None → named page following f ≡ []
  named_none (Err e) h = refl
  named_none (Ok t) h = at (any_name t.look) h
    where
      at : (b : Bool) → cond b (Some (t.start + t.len)) None ≡ None → cond b (take t.len (drop t.start page) ∷ following (t.start + t.len)) [] ≡ []
      at true e = absurd cc
      at false e = refl

  named_some : (f : Result Token Refusal) → Starts i f → (next : ℕ) → name_end f ≡ Some next → named page following f ≡ take (next - (i + 3)) (drop (i + 3) page) ∷ following next
  named_some (Err e) s next h = absurd cc
  named_some (Ok t) s next h = at (any_name t.look) h
    where
      at : (b : Bool) → cond b (Some (t.start + t.len)) None ≡ Some next → cond b (take t.len (drop t.start page) ∷ following (t.start + t.len)) [] ≡ take (next - (i + 3)) (drop (i + 3) page) ∷ following next
      at true e =
          let end : t.start + t.len ≡ next = cc in
          let begin : t.start ≡ i + 3 = s t refl in
          let len : t.len ≡ next - (i + 3) = omega arith in
          ap (λ n. take t.len (drop t.start page) ∷ following n) end
          ∙ (ap (λ n. take n (drop t.start page) ∷ following next) len ∙ ap (λ n. take (next - (i + 3)) (drop n page) ∷ following next) begin)
      at false e = absurd cc

-- The whole page

past_names : (page : List ℕ) (k i : ℕ) → length page ≤ i → names_from page k i ≡ []
unfolding names_from
past_names page zero i h = refl
past_names page (suc k) i h = ap (named page (names_from page k)) (past_page page i h)

-- the names behind a field are the same for both ways to go on
same_named : (page : List ℕ) (i : ℕ) (one other : ℕ → List (List ℕ)) → ((j : ℕ) → i < j → one j ≡ other j) → (f : Result Token Refusal) → Starts i f → named page one f ≡ named page other f
same_named page i one other same (Err e) s = refl
same_named page i one other same (Ok t) s =
    let begin : t.start ≡ i + 3 = s t refl in
    ap (λ l. cond (any_name t.look) ((field_of page t).bytes ∷ l) []) (same (t.start + t.len) (omega arith))

-- a walk that is long enough sees all names
long_enough : (page : List ℕ) (k l i : ℕ) → length page ≤ i + k → length page ≤ i + l → names_from page k i ≡ names_from page l i
unfolding names_from
long_enough page zero l i h g = sym (past_names page l i (omega arith))
long_enough page (suc k) zero i h g = past_names page (suc k) i (omega arith)
long_enough page (suc k) (suc l) i h g =
    same_named page i (names_from page k) (names_from page l) (λ j lt. long_enough page k l j (omega arith) (omega arith)) (field_at page i) (starts page i)

pub none_left : (page : List ℕ) (i : ℕ) → name_end (field_at page i) ≡ None → names_left page i ≡ []
unfolding names_from
none_left page i e = at (length page)
  where
    at : (k : ℕ) → names_from page k i ≡ []
    at zero = refl
    at (suc k) = named_none page (names_from page k) i (field_at page i) e

pub one_left : (page : List ℕ) (i next : ℕ) → name_end (field_at page i) ≡ Some next → i + 3 < next → next ≤ length page → names_left page i ≡ take (next - (i + 3)) (drop (i + 3) page) ∷ names_left page next
unfolding names_from
one_left page i next e more within = at (length page) refl
  where
    at : (k : ℕ) → k ≡ length page → names_from page k i ≡ take (next - (i + 3)) (drop (i + 3) page) ∷ names_left page next
    at zero is = absurd (omega arith)
    at (suc k) is =
        named_some page (names_from page k) i (field_at page i) (starts page i) next e
        ∙ ap (λ l. take (next - (i + 3)) (drop (i + 3) page) ∷ l) (long_enough page k (length page) next (omega arith) (omega arith))
