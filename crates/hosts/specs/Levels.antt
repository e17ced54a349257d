-- The levels of a window and their looks, place by place, as the window's methods show them. Assumes nothing.
use Rattle.std.specs.Prelude.{◌≡◌, ℕ, zero, suc, ◌+◌, ◌-◌, ◌<◌, ◌≤◌, Bool, true, false, cond, ◌&&◌, List, [], ◌∷◌, map, length, get_or, take, drop, Some, None, ◌==◌, nat_lt, slice_index_or, slice_range, refl}
use Rattle.std.proofs.Common.{sym, ap, ◌∙◌, sub-eq-zero_of_le, arith, drop-cons, ltb-true, ltb-false}
use Rattle.std.proofs.Math.Bool.{and-false}
use Rattle.std.proofs.lemmas.List.{drop-take, drop-drop, drop-map, drop_all, length-map, length-take, length-drop}
use Rattle.std.specs.List.{slice_get}
use Rattle.tokens.specs.declared.Look.{Look}
use Rattle.tokens.specs.declared.Token.{Token}
use Rattle.tokens.specs.Looks.{no_token, look_at, mark_of, joined_of, mark_at, joined_at, two_at, field_of, level_of}
use Rattle.hosts.specs.Lawful.{looks}
use Rattle.hosts.specs.Statements.{looks_from, first_mark, colons}

-- What is seen of the tokens from p to e, through any view of a token

module _ {A : Type 0} (f : Token → A) (ts : List Token) (p e : ℕ) where
  abbrev seen : ℕ → List A
  seen q = map f (slice_range ts q e)

  seen_cons : p < e → e ≤ length ts → seen p ≡ f (slice_index_or ts p no_token) ∷ seen (p + 1)
  seen_cons h k =
      let l : p < length ts = omega arith in
      let n : e - p ≡ suc (e - (p + 1)) = omega arith in
      let s : suc p ≡ p + 1 = omega arith in
      ap (λ m. map f (take m (drop p ts))) n ∙ ap (λ xs. map f (take (suc (e - (p + 1))) xs)) (drop-cons ts p no_token l)
      ∙ ap (λ q. f (slice_index_or ts p no_token) ∷ map f (take (e - (p + 1)) (drop q ts))) s

  seen_none : e ≤ p → seen p ≡ []
  seen_none h = ap (λ m. map f (take m (drop p ts))) (sub-eq-zero_of_le h)

  length_seen : e ≤ length ts → length (seen p) ≡ e - p
  length_seen h = length-map (slice_range ts p e) f ∙ length-take (e - p) (drop p ts) ∙ omega (arith, length-drop p ts)

  seen_drop : (n : ℕ) → seen (p + n) ≡ drop n (seen p)
  seen_drop n = at (nat_lt e (p + n)) refl
    where
      at : (b : Bool) → nat_lt e (p + n) ≡ b → seen (p + n) ≡ drop n (seen p)
      at true t =
          let far : e ≤ p + n = omega (arith, ltb-true) in
          let few : length (seen p) ≤ n = omega (arith, length-map (slice_range ts p e) f, length-take (e - p) (drop p ts)) in
          ap (λ m. map f (take m (drop (p + n) ts))) (sub-eq-zero_of_le far) ∙ sym (drop_all n (seen p) few)
      at false t =
          let some : e - p ≡ n + (e - (p + n)) = omega (arith, ltb-false) in
          sym (
          drop-map f n (slice_range ts p e) ∙ ap (λ m. map f (drop n (take m (drop p ts)))) some
          ∙ ap (map f) (drop-take n (e - (p + n)) (drop p ts)) ∙ ap (λ xs. map f (take (e - (p + n)) xs)) (drop-drop n p ts)
          )

abbrev look : Token → Look
look t = t.look

looks_cons : (ts : List Token) (p e : ℕ) → p < e → e ≤ length ts → looks_from ts p e ≡ (get_or ts p no_token).look ∷ looks_from ts (p + 1) e
unfolding looks_from
looks_cons = seen_cons look

pub looks_none : (ts : List Token) (p e : ℕ) → e ≤ p → looks_from ts p e ≡ []
unfolding looks_from
looks_none = seen_none look

pub length_looks : (ts : List Token) (p e : ℕ) → e ≤ length ts → length (looks_from ts p e) ≡ e - p
unfolding looks_from
length_looks = length_seen look

-- the looks further on are what is left of those from here
pub looks_drop : (ts : List Token) (p e n : ℕ) → looks_from ts (p + n) e ≡ drop n (looks_from ts p e)
unfolding looks_from
looks_drop = seen_drop look

-- What a window shows at a place is what stands first from there on

by_first : {A : Type 0} (f : Look → A) (d : A) (g : List Look → A) → d ≡ g [] → ((a : Look) (l : List Look) → f a ≡ g (a ∷ l))
    → (ts : List Token) (p e : ℕ) → e ≤ length ts → cond (nat_lt p e) (f (get_or ts p no_token).look) d ≡ g (looks_from ts p e)
by_first {A} f d g none more ts p e h = at (nat_lt p e) refl
  where
    at : (b : Bool) → nat_lt p e ≡ b → cond b (f (get_or ts p no_token).look) d ≡ g (looks_from ts p e)
    at true t = let l : p < e = omega (arith, ltb-true) in more _ (looks_from ts (p + 1) e) ∙ ap g (sym (looks_cons ts p e l h))
    at false t = let l : e ≤ p = omega (arith, ltb-false) in none ∙ ap g (sym (looks_none ts p e l))

pub look_first : (ts : List Token) (p e : ℕ) → e ≤ length ts → look_at ts e p ≡ slice_get (looks_from ts p e) 0
look_first = by_first Some None (λ l. slice_get l 0) refl (λ a l. refl)

pub mark_first : (ts : List Token) (p e : ℕ) → e ≤ length ts → mark_at ts e p ≡ first_mark (looks_from ts p e)
mark_first = by_first mark_of 0 first_mark refl (λ a l. refl)

abbrev first_joined : List Look → Bool
first_joined [] = false
first_joined (a ∷ l) = joined_of a

joined_first : (ts : List Token) (p e : ℕ) → e ≤ length ts → joined_at ts e p ≡ first_joined (looks_from ts p e)
joined_first = by_first joined_of false first_joined refl (λ a l. refl)

pub colons_first : (ts : List Token) (p e : ℕ) → e ≤ length ts → two_at ts e p 58 58 ≡ colons (looks_from ts p e)
colons_first ts p e h =
    simp (mark_first ts p e h, joined_first ts p e h, mark_first ts (p + 1) e h, looks_drop ts p e 1) (spelled (looks_from ts p e))
  where
    spelled : (l : List Look) → (first_mark l == 58 && (first_joined l && first_mark (drop 1 l) == 58)) ≡ colons l
    spelled [] = refl
    spelled (a ∷ []) = simp and-false
    spelled (a ∷ b ∷ l) = refl

-- A token that is told from nothing stands before the end

pub room : (g : List Look → Bool) → g [] ≡ false → (ts : List Token) (p e : ℕ) → g (looks_from ts p e) ≡ true → p < e
room g none ts p e t = at (nat_lt p e) refl
  where
    at : (b : Bool) → nat_lt p e ≡ b → p < e
    at true b = omega (arith, ltb-true)
    at false b =
        let l : e ≤ p = omega (arith, ltb-false) in
        let gone : g (looks_from ts p e) ≡ g [] = ap g (looks_none ts p e l) in
        let z : ◌≡◌ {A = ℕ} 0 1 = cc in
        absurd (omega arith)

two : (l : List Look) → colons l ≡ true → 2 ≤ length l
two [] t = let z : ◌≡◌ {A = ℕ} 0 1 = cc in absurd (omega arith)
two (a ∷ []) t = let z : ◌≡◌ {A = ℕ} 0 1 = cc in absurd (omega arith)
two (a ∷ b ∷ l) t = omega arith

pub room_two : (ts : List Token) (p e : ℕ) → e ≤ length ts → colons (looks_from ts p e) ≡ true → p + 1 < e
room_two ts p e h t = omega (arith, two (looks_from ts p e) t, length_looks ts p e h)

-- Levels of fields, for all who ask a host

pub level_cons : (page : List ℕ) (ts : List Token) (p e : ℕ) → p < e → e ≤ length ts → level_of page ts p e ≡ field_of page (slice_index_or ts p no_token) ∷ level_of page ts (p + 1) e
level_cons page = seen_cons (field_of page)

pub level_none : (page : List ℕ) (ts : List Token) (p e : ℕ) → e ≤ p → level_of page ts p e ≡ []
level_none page = seen_none (field_of page)

pub length_level : (page : List ℕ) (ts : List Token) (p e : ℕ) → e ≤ length ts → length (level_of page ts p e) ≡ e - p
length_level page = length_seen (field_of page)

pub level_drop : (page : List ℕ) (ts : List Token) (p e n : ℕ) → level_of page ts (p + n) e ≡ drop n (level_of page ts p e)
level_drop page = seen_drop (field_of page)

-- a host's fields look as the tokens do
pub looks_level : (page : List ℕ) (ts : List Token) (p e : ℕ) → looks (level_of page ts p e) ≡ looks_from ts p e
unfolding looks_from
looks_level page ts p e = same (slice_range ts p e)
  where
    same : (xs : List Token) → looks (map (field_of page) xs) ≡ map look xs
    same [] = refl
    same (x ∷ xs) = ap (λ l. x.look ∷ l) (same xs)

pub nth_drop : {A : Type 0} (n : ℕ) (l : List A) → slice_get (drop n l) 0 ≡ slice_get l n
nth_drop zero l = refl
nth_drop (suc n) [] = refl
nth_drop (suc n) (a ∷ l) = nth_drop n l

pub look_level : (page : List ℕ) (ts : List Token) (p e i : ℕ) → e ≤ length ts → slice_get (looks (level_of page ts p e)) i ≡ look_at ts e (p + i)
look_level page ts p e i h =
    ap (λ l. slice_get l i) (looks_level page ts p e) ∙ sym (nth_drop i (looks_from ts p e)) ∙ ap (λ l. slice_get l 0) (sym (looks_drop ts p e i))
    ∙ sym (look_first ts (p + i) e h)
