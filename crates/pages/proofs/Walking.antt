-- The walk over a page, from one field to the next. Assumes nothing.
use Rattle.std.proofs.Common.{◌≡◌, ℕ, zero, suc, ◌+◌, ◌<◌, ◌≤◌, min, List, [], ◌++◌, length, get_or, take, drop, IfSome, IfOk, Some, None, Ok, Err, Option, Result, sym, refl, ap, ◌∙◌, subst, arith}
use Rattle.std.proofs.ByRecursion.{All-get_or}
use Rattle.std.proofs.lemmas.List.{drop-drop, length-take-le, take-append-drop}
use Rattle.std.proofs.lemmas.Bool.{cond-true, cond-false, lt-ltb, le-ltb}
use Rattle.std.specs.List.{AllByRecursion as All}
use Rattle.refusals.specs.declared.Refusal.{Refusal}
use Rattle.tokens.specs.Looks.{no_token}
use Rattle.tokens.specs.declared.Token.{Token}
use Rattle.pages.specs.Fields.{field_at}
use Rattle.pages.specs.Pages.{Outcome, refused, ended, onward, entered, walk, nothing, outcome, tokens_of, fault_of, answer, page_answer, written_over, Accepted}
use Rattle.pages.specs.Steps.{Held, step}
use Rattle.pages.specs.declared.steps.Taken.{Taken}
use Rattle.pages.specs.Taken.{items, rest, held, most, SameSpace, Stepped}
use Rattle.pages.proofs.Keeping.{few, all_placed, nested}
use Rattle.pages.proofs.Sound.{Sound, Below, Placed, field_is, sound_more}
use Rattle.pages.proofs.Took.{took, never}

module _ (room : ℕ) (page : List ℕ) where
  turned : (k at : ℕ) (h : Held) → at < length page → length page ≤ at + k → (less : ℕ) × (k ≡ suc less) × (walk room page k at h ≡ entered room at (walk room page less) h (field_at page at))
  unfolding walk
  turned zero at h here enough = absurd (omega arith)
  turned (suc less) at h here enough = (less, refl, cond-true _ _ _ (lt-ltb at (length page) here))

  over : (k at : ℕ) (h : Held) → length page ≤ at → walk room page k at h ≡ ended h
  unfolding walk
  over zero at h here = refl
  over (suc less) at h here = cond-false _ _ _ (le-ltb at (length page) here)

-- what was taken in at a byte, where it was nothing at the start of the page
pub record Walked (page : List ℕ) (first : Taken) (at : ℕ) (t : Taken) : Type 0 where
  pub left : ℕ
  pub enough : length page ≤ at + left
  pub same : outcome (most first) page ≡ walk (most first) page left at (held t)
  pub sound : Sound page (held t)
  pub behind : rest t ≡ drop t.count first.space.now
  pub space : SameSpace first t

pub start : (page : List ℕ) (t : Taken) → t.count ≡ 0 → t.inner ≡ None → Walked page t 0 t
unfolding outcome
start page t e i =
    let none : held t ≡ nothing = ap (λ (n : ℕ). record { tokens = take n t.space.now; inner = t.inner }) e ∙ ap (λ (o : Option ℕ). record { tokens = []; inner = o }) i in
    record {
      left = length page;
      enough = omega arith;
      same = ap (walk (most t) page (length page) 0) (sym none);
      sound = subst (Sound page) (sym none) (record { places = tt; inner = tt });
      behind = refl;
      space = record { size = refl; lender = refl };
    }

pub answers : (room : ℕ) (page : List ℕ) (r : Result ℕ Refusal) (o : Outcome) → outcome room page ≡ o → r ≡ answer o.fault (length o.tokens) → r ≡ page_answer room page
unfolding tokens_of fault_of
answers room page r o e h = h ∙ sym (ap (λ (x : Outcome). answer x.fault (length x.tokens)) e)

pub tokens_are : (room : ℕ) (page : List ℕ) (o : Outcome) → outcome room page ≡ o → o.tokens ≡ tokens_of room page
unfolding tokens_of
tokens_are room page o e = sym (ap (λ (x : Outcome). x.tokens) e)

pub many : (t : Taken) → length (items t) ≡ t.count
many t = length-take-le t.count t.space.now t.held

-- the space after the tokens of a page were taken in, over what it held at first
pub holds : (room : ℕ) (page : List ℕ) (first t : Taken) (o : Outcome) → outcome room page ≡ o → items t ≡ o.tokens → rest t ≡ drop t.count first.space.now → t.space.now ≡ written_over first.space.now (tokens_of room page)
holds room page first t o e i r =
    let ts : items t ≡ tokens_of room page = i ∙ tokens_are room page o e in
    let number : t.count ≡ length (tokens_of room page) = sym (many t) ∙ ap length ts in
    sym (take-append-drop t.count t.space.now)
    ∙ (ap (λ (l : List Token). l ++ rest t) ts
    ∙ ap (λ (l : List Token). tokens_of room page ++ l) (r ∙ ap (λ (n : ℕ). drop n first.space.now) number))

-- where a page is accepted, the number is that of its tokens
numbered : (f : Option Refusal) (len n : ℕ) → answer f len ≡ Ok n → n ≡ len
numbered None len n e = cc
numbered (Some x) len n e = absurd (never _ _ e)

no_fault : (f : Option Refusal) (len n : ℕ) → answer f len ≡ Ok n → f ≡ None
no_fault None len n e = refl
no_fault (Some x) len n e = absurd (never _ _ e)

pub accepted : (size : ℕ) (page : List ℕ) (r : Result ℕ Refusal) → r ≡ page_answer (min size 4096) page → IfOk r (Accepted size page)
accepted size page (Ok n) e =
    let room : ℕ = min size 4096 in
    let is : n ≡ length (tokens_of room page) = numbered (fault_of room page) _ n (sym e) in
    let most : length (tokens_of room page) ≤ room = few room page in
    record {
      number = is;
      most = omega arith;
      fits = omega arith;
      placed = λ i h.
          let within : i < length (tokens_of room page) = omega arith in
          (All-get_or (Placed page) (tokens_of room page) i no_token within (all_placed room page)).1;
      nested = nested room page (no_fault (fault_of room page) _ n (sym e));
    }
accepted size page (Err x) e = tt

pub same_tokens : (s t : Taken) → t.space.now ≡ s.space.now → t.count ≡ s.count → items t ≡ items s
same_tokens s t e n = ap (λ (k : ℕ). take k t.space.now) n ∙ ap (take s.count) e

pub same_rest : (s t : Taken) → t.space.now ≡ s.space.now → t.count ≡ s.count → rest t ≡ rest s
same_rest s t e n = ap (λ (k : ℕ). drop k t.space.now) n ∙ ap (drop s.count) e

-- an opener that is still open is among the tokens, and its value behind its head
placed : (page : List ℕ) (t : Taken) (inner : Option ℕ) → All (Placed page) (items t) → Below (length (items t)) inner → IfSome inner (λ p. (p < t.count) × (3 ≤ (get_or (items t) p no_token).start))
placed page t None all below = tt
placed page t (Some p) all below =
    let number = many t in
    let there : p < length (items t) = below in
    (omega arith, (All-get_or (Placed page) (items t) p no_token there all).0)

module _ (page : List ℕ) (first : Taken) (at : ℕ) (t : Taken) (w : Walked page first at t) where
  -- the outcome, by the field at this byte
  at_field : at < length page → (less : ℕ) × (w.left ≡ suc less) × (outcome (most first) page ≡ entered (most first) at (walk (most first) page less) (held t) (field_at page at))
  at_field here = let k = turned (most first) page w.left at (held t) here w.enough in (k.0, k.1, w.same ∙ k.2)

  stepped_in : (x : Token) (r : Result Held Refusal) → step (most t) at (held t) x ≡ r → step (most first) at (held t) x ≡ r
  stepped_in x r e = ap (λ (n : ℕ). step (min n 4096) at (held t) x) (sym w.space.size) ∙ e

  pub more : (x : Token) (m : Taken) (u : Unit {0}) → at < length page → field_at page at ≡ Ok x → Stepped (step (most t) at (held t) x) t m (Ok u) → Walked page first (x.start + x.len) m
  more x m u here f s =
      let e = stepped_in x (Ok (held m)) s.0 in
      let k = at_field here in
      let on_page = field_is page at x here f in
      record {
        left = k.0;
        enough = omega arith;
        same = k.2 ∙ (ap (entered (most first) at (walk (most first) page k.0) (held t)) f ∙ ap (onward (walk (most first) page k.0) (held t) (x.start + x.len)) e);
        sound = sound_more page (most first) (held t) x (held m) w.sound (omega arith, on_page.1) (took (most first) at (held t) x (held m) e);
        behind = s.1 ∙ (ap (drop 1) w.behind ∙ (drop-drop 1 t.count first.space.now ∙ ap (λ (i : ℕ). drop i first.space.now) (sym s.2)));
        space = record { size = s.3.size ∙ w.space.size; lender = s.3.lender ∙ w.space.lender };
      }

  -- a refusal, of the field or by the step
  pub field_refused : (e : Refusal) → at < length page → field_at page at ≡ Err e → outcome (most first) page ≡ refused (held t) e
  field_refused e here f = let k = at_field here in k.2 ∙ ap (entered (most first) at (walk (most first) page k.0) (held t)) f

  pub step_refused : (x : Token) (e : Refusal) → at < length page → field_at page at ≡ Ok x → step (most t) at (held t) x ≡ Err e → outcome (most first) page ≡ refused (held t) e
  step_refused x e here f s =
      let k = at_field here in
      k.2 ∙ (ap (entered (most first) at (walk (most first) page k.0) (held t)) f ∙ ap (onward (walk (most first) page k.0) (held t) (x.start + x.len)) (stepped_in x (Err e) s))

  pub finished : length page ≤ at → outcome (most first) page ≡ ended (held t)
  finished here = w.same ∙ over (most first) page w.left at (held t) here

  pub still_open_lem : IfSome t.inner (λ p. (p < t.count) × (3 ≤ (get_or (items t) p no_token).start))
  still_open_lem = placed page t t.inner w.sound.places w.sound.inner
