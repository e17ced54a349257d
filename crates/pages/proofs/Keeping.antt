-- What each field keeps holds of the whole page. Assumes nothing.
use Rattle.std.proofs.Common.{◌≡◌, ℕ, zero, suc, ◌+◌, ◌<◌, ◌≤◌, ltb, ◌⊎◌, List, length, Some, None, Ok, Err, Option, Result, sym, refl, ap, ◌∙◌, subst, inl, inr, ⊎_elim, arith}
use Rattle.std.proofs.lemmas.List.{length_push, length-set}
use Rattle.std.proofs.lemmas.Bool.{cond_both, ltb-true}
use Rattle.std.specs.List.{AllByRecursion as All}
use Rattle.refusals.specs.declared.Refusal.{Refusal}
use Rattle.tokens.specs.declared.Token.{Token}
use Rattle.pages.specs.Fields.{field_at}
use Rattle.pages.specs.Pages.{Outcome, refused, ended, onward, entered, walk, nothing, outcome, tokens_of, fault_of, still_open}
use Rattle.pages.specs.Steps.{Held, step}
use Rattle.pages.specs.Nesting.{Nested}
use Rattle.pages.proofs.Matched.{Matched, matched_none, matched_more, all_nested}
use Rattle.pages.proofs.Sound.{Sound, Placed, field_is, sound_more}
use Rattle.pages.proofs.Took.{Took, took}
use Rattle.pages.proofs.Took.Took.{plain, opened, shut}

module _ (room : ℕ) (page : List ℕ) (P : Held → Type 0) where
  -- the state in which a walk came to its end, or to a refusal
  abbrev pub Left : Outcome → Type 0
  Left o = (h : Held) × P h × ((o ≡ ended h) ⊎ ((e : Refusal) × (o ≡ refused h e)))

  abbrev pub Kept : Type 0
  Kept = (h : Held) (t : Token) (m : Held) → P h → Placed page t → Took room h t m → P m

  by_step : (go : ℕ → Held → Outcome) (h : Held) (next : ℕ) (s : Result Held Refusal) → P h → ((m : Held) → s ≡ Ok m → P m) → ((m : Held) → P m → Left (go next m)) → Left (onward go h next s)
  by_step go h next (Ok m) p on rest = rest m (on m refl)
  by_step go h next (Err e) p on rest = (h, p, inr (e, refl))

  by_field : Kept → (go : ℕ → Held → Outcome) (h : Held) (i : ℕ) (f : Result Token Refusal) → P h → i < length page → field_at page i ≡ f → ((j : ℕ) (m : Held) → P m → Left (go j m)) → Left (entered room i go h f)
  by_field keep go h i (Err e) p here is rest = (h, p, inr (e, refl))
  by_field keep go h i (Ok t) p here is rest =
      let on_page = field_is page i t here is in
      by_step go h (t.start + t.len) (step room i h t) p (λ m e. keep h t m p (omega arith, on_page.1) (took room i h t m e)) (rest (t.start + t.len))

  walked : Kept → (k i : ℕ) (h : Held) → P h → Left (walk room page k i h)
  unfolding walk
  walked keep zero i h p = (h, p, inl refl)
  walked keep (suc k) i h p =
      cond_both (ltb i (length page)) _ _ Left
      (λ e. by_field keep (walk room page k) h i (field_at page i) p (ltb-true i (length page) e) refl (walked keep k))
      (λ e. (h, p, inl refl))

  pub kept : Kept → P nothing → Left (outcome room page)
  unfolding outcome
  kept keep p = walked keep (length page) 0 nothing p

pub left_tokens : (room : ℕ) (page : List ℕ) (P : Held → Type 0) (l : Left room page P (outcome room page)) → tokens_of room page ≡ l.0.tokens
unfolding tokens_of
left_tokens room page P (h, p, way) = ⊎_elim (λ e. ap (λ (o : Outcome). o.tokens) e) (λ r. ap (λ (o : Outcome). o.tokens) r.1) way

-- no more tokens than there is room for
few_more : (room : ℕ) (h : Held) (t : Token) (m : Held) → Took room h t m → length m.tokens ≤ room
few_more room h t m (plain _ _ fits ts _) = omega (arith, ap length ts ∙ length_push _ _)
few_more room h t m (opened _ _ fits ts _) = omega (arith, ap length ts ∙ length_push _ _)
few_more room h t m (shut _ d p k fits _ _ _ ts _) = omega (arith, ap length ts ∙ (length_push _ _ ∙ ap (λ n. n + 1) (length-set h.tokens p _)))

pub few : (room : ℕ) (page : List ℕ) → length (tokens_of room page) ≤ room
few room page =
    let P : Held → Type 0 = λ h. length h.tokens ≤ room in
    let l = kept room page P (λ h t m p at-page took. few_more room h t m took) (omega arith) in
    subst (λ (ts : List Token). length ts ≤ room) (sym (left_tokens room page P l)) l.1

-- each value stands on the page
pub all_placed : (room : ℕ) (page : List ℕ) → All (Placed page) (tokens_of room page)
all_placed room page =
    let l = kept room page (Sound page) (λ h t m p at-page took. sound_more page room h t m p at-page took) (record { places = tt; inner = tt }) in
    subst (All (Placed page)) (sym (left_tokens room page (Sound page) l)) l.1.places

-- the groups of a page that is accepted nest
closed : (ts : List Token) (o : Option ℕ) → still_open ts o ≡ None → o ≡ None
closed ts None e = refl
closed ts (Some p) e = absurd cc

pub nested : (room : ℕ) (page : List ℕ) → fault_of room page ≡ None → Nested (tokens_of room page)
unfolding fault_of
nested room page none =
    let P : Held → Type 0 = λ h. Matched h.tokens h.inner in
    let l = kept room page P (λ h t m p at-page took. matched_more room h t m p took) matched_none in
    let shut-now : l.0.inner ≡ None =
    ⊎_elim (λ e. closed l.0.tokens l.0.inner (ap (λ (o : Outcome). o.fault) (sym e) ∙ none))
    (λ r. absurd (let s : Some r.0 ≡ None = ap (λ (o : Outcome). o.fault) (sym r.1) ∙ none in cc)) l.2 in
    subst Nested (sym (left_tokens room page P l)) (all_nested l.0.tokens (subst (Matched l.0.tokens) shut-now l.1))
