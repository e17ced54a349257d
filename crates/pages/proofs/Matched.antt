-- Groups nest: the openers that are still open are linked to each other, and every other opener has its whole group.
-- Assumes nothing.
use Rattle.std.proofs.Common.{◌≡◌, ℕ, ◌+◌, ◌-◌, ◌<◌, ◌≤◌, eqb, ◌⊎◌, List, [], ◌∷◌, ◌++◌, length, get_or, set, Some, None, Option, sym, refl, ap, ◌∙◌, subst, inl, inr, ⊎_elim, arith}
use Rattle.std.proofs.ByRecursion.{All-weaker}
use Rattle.std.proofs.lemmas.List.{get_or_append_left, get_or_push, get_or_past, get_or-set_same, get_or-set_other, length_push, length-set}
use Rattle.std.proofs.lemmas.Bool.{cases_lt, cases_eq, cond-false, ne_eqb}
use Rattle.std.specs.List.{AllByRecursion as All}
use Rattle.tokens.specs.Looks.{no_token}
use Rattle.tokens.specs.declared.Delimiter.{Delimiter}
use Rattle.tokens.specs.declared.Look.TheVariants.{Name, Open, Close}
use Rattle.tokens.specs.declared.Token.{Token}
use Rattle.tokens.specs.declared.Word.TheVariants.{Plain}
use Rattle.pages.specs.Nesting.{look_in, Group, Nested}
use Rattle.pages.specs.Steps.{Held, places_back, around, relooked}
use Rattle.pages.proofs.Took.{Took, NoOpener}
use Rattle.pages.proofs.Took.Took.{plain, opened, shut}

-- looks after one token more, and after a token is changed
module _ (ts : List Token) (x : Token) where
  before : (i : ℕ) → i < length ts → look_in (ts ++ x ∷ []) i ≡ look_in ts i
  before i h = ap (λ (t : Token). t.look) (get_or_append_left ts (x ∷ []) no_token i h)

  last : look_in (ts ++ x ∷ []) (length ts) ≡ x.look
  last = ap (λ (t : Token). t.look) (get_or_push ts x no_token (length ts) refl)

  past : (i : ℕ) → length ts < i → NoOpener (look_in (ts ++ x ∷ []) i)
  past i h d n e =
      let end : length (ts ++ x ∷ []) ≤ i = omega (arith, length_push ts x) in
      let none : look_in (ts ++ x ∷ []) i ≡ Name Plain = ap (λ (t : Token). t.look) (get_or_past (ts ++ x ∷ []) i no_token end) in
      cc

  -- an opener is not the last token, if that is none
  opener_before : NoOpener x.look → (i : ℕ) (d : Delimiter) (n : ℕ) → look_in (ts ++ x ∷ []) i ≡ Open d n → i < length ts
  opener_before no-opener i d n e =
      ⊎_elim (λ h. h)
      (λ h. ⊎_elim (λ same. absurd (no-opener d n (sym last ∙ (ap (look_in (ts ++ x ∷ [])) (sym same) ∙ e)))) (λ other. absurd (past i (omega arith) d n e)) (cases_eq i (length ts)))
      (cases_lt i (length ts))

  changed : (p i : ℕ) → (i ≡ p → ⊥) → look_in (set ts p x) i ≡ look_in ts i
  changed p i h = ap (λ (t : Token). t.look) (get_or-set_other ts p i x no_token h)

  changed_here : (p : ℕ) → p < length ts → look_in (set ts p x) p ≡ x.look
  changed_here p h = ap (λ (t : Token). t.look) (get_or-set_same ts p x no_token h)

-- the openers that are still open, from the innermost on
abbrev Chain : List Token → Option ℕ → List ℕ → Type 0
Chain ts o [] = o ≡ None
Chain ts o (p ∷ ps) = (d : Delimiter) × (k : ℕ) × (o ≡ Some p) × (p < length ts) × (look_in ts p ≡ Open d k) × All (λ q. q < p) ps × Chain ts (around p k) ps

chain_below : (ts : List Token) (ps : List ℕ) (o : Option ℕ) → Chain ts o ps → All (λ q. q < length ts) ps
chain_below ts [] o c = tt
chain_below ts (p ∷ ps) o c = (c.3, chain_below ts ps (around p c.1) c.6)

chain_push : (ts : List Token) (x : Token) (ps : List ℕ) (o : Option ℕ) → Chain ts o ps → Chain (ts ++ x ∷ []) o ps
chain_push ts x [] o c = c
chain_push ts x (p ∷ ps) o c =
    let within : p < length ts = c.3 in
    let more : p < length (ts ++ x ∷ []) = omega (arith, length_push ts x) in
    (c.0, c.1, c.2, more, before ts x p within ∙ c.4, c.5, chain_push ts x ps (around p c.1) c.6)

chain_set : (ts : List Token) (x : Token) (at : ℕ) (ps : List ℕ) (o : Option ℕ) → All (λ q. q < at) ps → Chain ts o ps → Chain (set ts at x) o ps
chain_set ts x at [] o below c = c
chain_set ts x at (p ∷ ps) o below c =
    let lower : p < at = below.0 in
    let within : p < length (set ts at x) = omega (arith, length-set ts at x, c.3) in
    (c.0, c.1, c.2, within, changed ts x at p (λ e. omega arith) ∙ c.4, c.5, chain_set ts x at ps (around p c.1) below.1 c.6)

-- the opener around a new one is the innermost before it
around_back : (n : ℕ) (o : Option ℕ) (ps : List ℕ) (ts : List Token) → length ts ≡ n → Chain ts o ps → around n (places_back n o) ≡ o
around_back n None ps ts e c = refl
around_back n (Some q) [] ts e c = absurd cc
around_back n (Some q) (p ∷ ps) ts e c =
    let same : q ≡ p = cc c.2 in
    let within : p < length ts = c.3 in
    cond-false (eqb (n - q) 0) None (Some (n - (n - q))) (ne_eqb (n - q) 0 (λ z. omega arith))
    ∙ ap (λ (m : ℕ). Some m) (omega arith)

-- a group, none of whose inner openers is still open
abbrev Whole : List Token → List ℕ → ℕ → Delimiter → ℕ → Type 0
Whole ts ps i d n = Group ts i d n × All (λ p. (p < i) ⊎ (i + n ≤ p)) ps

-- every opener that is not open any more has its whole group
abbrev Closed : List Token → List ℕ → Type 0
Closed ts ps = (i : ℕ) (d : Delimiter) (n : ℕ) → All (λ p. p ≡ i → ⊥) ps → look_in ts i ≡ Open d n → Whole ts ps i d n

pub record Matched (ts : List Token) (inner : Option ℕ) : Type 0 where
  pub open_places : List ℕ
  pub chain : Chain ts inner open_places
  pub others : Closed ts open_places

group_push : (ts : List Token) (x : Token) (i : ℕ) (d : Delimiter) (n : ℕ) → Group ts i d n → Group (ts ++ x ∷ []) i d n
group_push ts x i d n g =
    let a = g.least in
    let b = g.inside in
    record {
      least = a;
      inside = omega (arith, length_push ts x);
      closer = before ts x (i + n - 1) (omega arith) ∙ g.closer;
      between = λ j e m low high is. g.between j e m low high (sym (before ts x j (omega arith)) ∙ is);
    }

plain_more : (ts : List Token) (t : Token) (o : Option ℕ) → NoOpener t.look → Matched ts o → Matched (ts ++ t ∷ []) o
plain_more ts t o no-opener m =
    record {
      open_places = m.open_places;
      chain = chain_push ts t m.open_places o m.chain;
      others = λ i d n apart is.
          let within = opener_before ts t no-opener i d n is in
          let w = m.others i d n apart (sym (before ts t i within) ∙ is) in
          (group_push ts t i d n w.0, w.1);
    }

open_more : (ts : List Token) (t : Token) (d : Delimiter) (o : Option ℕ) → Matched ts o → Matched (ts ++ relooked t (Open d (places_back (length ts) o)) ∷ []) (Some (length ts))
open_more ts t d o m =
    let ps = m.open_places in
    let n : ℕ = length ts in
    let x : Token = relooked t (Open d (places_back n o)) in
    let more : n < length (ts ++ x ∷ []) = omega (arith, length_push ts x) in
    record {
      open_places = n ∷ ps;
      chain = (d, places_back n o, refl, more, last ts x, chain_below ts ps o m.chain, subst (λ (q : Option ℕ). Chain (ts ++ x ∷ []) q ps) (sym (around_back n o ps ts refl m.chain)) (chain_push ts x ps o m.chain));
      others = λ i e k apart is.
          let other = apart.0 in
          let within : i < length ts =
          ⊎_elim (λ h. h) (λ h. absurd (past ts x i (⊎_elim (λ less. less) (λ low. absurd (other (omega arith))) (cases_lt n i)) e k is)) (cases_lt i (length ts)) in
          let w = m.others i e k apart.1 (sym (before ts x i within) ∙ is) in
          (group_push ts x i e k w.0, (inr w.0.inside, w.1));
    }

-- the innermost group is closed
module _ (ts : List Token) (t : Token) (d : Delimiter) (p k : ℕ) (closes : t.look ≡ Close d) (opens : look_in ts p ≡ Open d k) where
  new : Token
  new = relooked (get_or ts p no_token) (Open d (length ts - p + 1))

  all : List Token
  all = set ts p new ++ t ∷ []

  same_look : (i : ℕ) → i < length ts → (i ≡ p → ⊥) → look_in all i ≡ look_in ts i
  unfolding all
  same_look i within other =
      let inside : i < length (set ts p new) = omega (arith, length-set ts p new) in
      before (set ts p new) t i inside ∙ changed ts new p i other

  opener_look : p < length ts → look_in all p ≡ Open d (length ts - p + 1)
  unfolding all new
  opener_look within =
      let inside : p < length (set ts p new) = omega (arith, length-set ts p new) in
      before (set ts p new) t p inside ∙ changed_here ts new p within

  closer_look : look_in all (length ts) ≡ Close d
  unfolding all
  closer_look = ap (look_in all) (sym (length-set ts p new)) ∙ (last (set ts p new) t ∙ closes)

  all_length : length all ≡ length ts + 1
  unfolding all
  all_length = length_push (set ts p new) t ∙ ap (λ n. n + 1) (length-set ts p new)

  before_closer : (i : ℕ) (e : Delimiter) (n : ℕ) → look_in all i ≡ Open e n → i < length ts
  unfolding all
  before_closer i e n is =
      let h = opener_before (set ts p new) t (λ f m o. cc) i e n is in
      omega (arith, length-set ts p new)

  -- the group that is closed now
  new_group : (ps : List ℕ) → p < length ts → All (λ q. q < p) ps → Closed ts (p ∷ ps) → Group all p d (length ts - p + 1)
  new_group ps within lower others =
      let end : p + (length ts - p + 1) - 1 ≡ length ts = omega arith in
      record {
        least = omega arith;
        inside = omega (arith, all_length);
        closer = ap (look_in all) end ∙ closer_look;
        between = λ j e m low high is.
            let apart : All (λ q. q ≡ j → ⊥) (p ∷ ps) = ((λ e. omega arith), All-weaker (λ q. q < p) (λ q. q ≡ j → ⊥) (λ q l e. omega arith) ps lower) in
            let w = others j e m apart (sym (same_look j (omega arith) (λ e. omega arith)) ∙ is) in
            let b = w.0.inside in
            omega arith;
      }

  -- a group that was closed before
  old_group : (i : ℕ) (e : Delimiter) (n : ℕ) → Group ts i e n → (p < i) ⊎ (i + n ≤ p) → Group all i e n
  old_group i e n g side =
      let a = g.least in
      let b = g.inside in
      record {
        least = a;
        inside = omega (arith, all_length);
        closer = same_look (i + n - 1) (omega arith) (λ at. let is : Close e ≡ Open d k = sym g.closer ∙ (ap (look_in ts) at ∙ opens) in cc) ∙ g.closer;
        between = λ j f m low high is.
            let other : j ≡ p → ⊥ = λ at. ⊎_elim (λ l. omega arith) (λ r. omega arith) side in
            g.between j f m low high (sym (same_look j (omega arith) other) ∙ is);
      }

  linked : (ps : List ℕ) (o : Option ℕ) → All (λ q. q < p) ps → Chain ts o ps → Chain all o ps
  unfolding all
  linked ps o lower c = chain_push (set ts p new) t ps o (chain_set ts new p ps o lower c)

  by_place : (ps : List ℕ) → p < length ts → All (λ q. q < p) ps → Closed ts (p ∷ ps) → (i : ℕ) (e : Delimiter) (n : ℕ) → All (λ q. q ≡ i → ⊥) ps → look_in all i ≡ Open e n → (i ≡ p) ⊎ (i ≡ p → ⊥) → Whole all ps i e n
  by_place ps within lower others i e n apart is (inl here) =
      let found : Open e n ≡ Open d (length ts - p + 1) = sym is ∙ (ap (look_in all) here ∙ opener_look within) in
      let size : n ≡ length ts - p + 1 = cc in
      let kind : e ≡ d = cc in
      let g : Group all p d (length ts - p + 1) = new_group ps within lower others in
      let g' : Group all i d (length ts - p + 1) = subst (λ (b : ℕ). Group all b d (length ts - p + 1)) (sym here) g in
      let g'' : Group all i e (length ts - p + 1) = subst (λ (b : Delimiter). Group all i b (length ts - p + 1)) (sym kind) g' in
      (subst (λ (b : ℕ). Group all i e b) (sym size) g'', All-weaker (λ q. q < p) (λ q. (q < i) ⊎ (i + n ≤ q)) (λ q l. inl (omega arith)) ps lower)
  by_place ps within lower others i e n apart is (inr other) =
      let inside = before_closer i e n is in
      let w = others i e n ((λ e. other (sym e)), apart) (sym (same_look i inside other) ∙ is) in
      (old_group i e n w.0 w.1.0, w.1.1)

  shut_with : (ps : List ℕ) → Chain ts (Some p) ps → Closed ts ps → Matched all (around p k)
  shut_with [] c others = absurd cc
  shut_with (q ∷ ps) c others =
      let same : q ≡ p = cc c.2 in
      let link : k ≡ c.1 = cc c.4 in
      let within : p < length ts = omega (arith, c.3) in
      let lower : All (λ r. r < p) ps = subst (λ (b : ℕ). All (λ r. r < b) ps) same c.5 in
      let rest : Chain ts (around p k) ps = subst (λ (b : ℕ). Chain ts (around p b) ps) (sym link) (subst (λ (b : ℕ). Chain ts (around b c.1) ps) same c.6) in
      let closed : Closed ts (p ∷ ps) = subst (λ (b : ℕ). Closed ts (b ∷ ps)) same others in
      record {
        open_places = ps;
        chain = linked ps (around p k) lower rest;
        others = λ i e n apart is. by_place ps within lower closed i e n apart is (cases_eq i p);
      }

moved : (ts us : List Token) (o q : Option ℕ) → ts ≡ us → o ≡ q → Matched us q → Matched ts o
moved ts us o q e i m = subst (λ (l : List Token). Matched l o) (sym e) (subst (Matched us) (sym i) m)

none_open : (ts : List Token) (ps : List ℕ) → Chain ts None ps → Closed ts ps → (i : ℕ) (d : Delimiter) (n : ℕ) → look_in ts i ≡ Open d n → Group ts i d n
none_open ts [] c others i d n is = (others i d n tt is).0
none_open ts (p ∷ ps) c others i d n is = absurd (let e : None ≡ Some p = c.2 in cc)

pub matched_none : Matched [] None
matched_none = record {
  open_places = [];
  chain = refl;
  others = λ i d n apart is. absurd cc;
}

pub matched_more : (room : ℕ) (h : Held) (t : Token) (m : Held) → Matched h.tokens h.inner → Took room h t m → Matched m.tokens m.inner
unfolding all new
matched_more room h t m a (plain _ no-opener fits ts inner) = moved m.tokens _ m.inner _ ts inner (plain_more h.tokens t h.inner no-opener a)
matched_more room h t m a (opened _ d fits ts inner) = moved m.tokens _ m.inner _ ts inner (open_more h.tokens t d h.inner a)
matched_more room h t m a (shut _ d p k fits closes is opens ts inner) =
    let b : Matched h.tokens (Some p) = subst (Matched h.tokens) is a in
    moved m.tokens _ m.inner _ ts inner (shut_with h.tokens t d p k closes opens b.open_places b.chain b.others)

-- where no opener is open any more, the groups nest
pub all_nested : (ts : List Token) → Matched ts None → Nested ts
unfolding Nested
all_nested ts m = λ i d n is. none_open ts m.open_places m.chain m.others i d n is
