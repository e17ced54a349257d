-- What holds of the tokens so far: each value stands on the page behind its head, and the innermost opener is one of them.
-- Assumes nothing.
use Rattle.std.proofs.Common.{◌≡◌, ℕ, ◌+◌, ◌-◌, ◌*◌, ◌<◌, ◌≤◌, ◌&&◌, eqb, leb, List, [], ◌∷◌, length, get_or, take, drop, set, IfSome, Some, None, Ok, Option, sym, ap, ◌∙◌, subst, arith}
use Rattle.std.proofs.ByRecursion.{All-push, All-set, All-get_or}
use Rattle.std.proofs.lemmas.List.{length-set, length_push, length-drop}
use Rattle.std.proofs.lemmas.Bool.{leb-true, cond_both}
use Rattle.std.specs.List.{AllByRecursion as All}
use Rattle.tokens.specs.Looks.{no_token}
use Rattle.tokens.specs.declared.Look.{Look}
use Rattle.tokens.specs.declared.Look.TheVariants.{Open}
use Rattle.tokens.specs.declared.Token.{Token}
use Rattle.pages.specs.declared.fields.Tag.{Tag}
use Rattle.pages.specs.Fields.{tag_of, limits, look_of, looked, tagged, headed, field_at}
use Rattle.pages.specs.Steps.{Held, places_back, around, relooked}
use Rattle.pages.proofs.Took.{Took, never, passed}
use Rattle.pages.proofs.Took.Took.{plain, opened, shut}

abbrev pub Placed : List ℕ → Token → Type 0
Placed page t = (3 ≤ t.start) × (t.start + t.len ≤ length page)

abbrev pub Below : ℕ → Option ℕ → Type 0
Below n o = IfSome o (λ p. p < n)

pub record Sound (page : List ℕ) (h : Held) : Type 0 where
  pub places : All (Placed page) h.tokens
  pub inner : Below (length h.tokens) h.inner

-- a field stands on the page
looked_is : (i n : ℕ) (o : Option Look) (t : Token) → looked i n o ≡ Ok t → (t.start ≡ i + 3) × (t.len ≡ n)
looked_is i n None t e = absurd (never _ _ e)
looked_is i n (Some l) t e =
    let q : record { look = l; start = i + 3; len = n } ≡ t = cc in
    (ap (λ (x : Token). x.start) (sym q), ap (λ (x : Token). x.len) (sym q))

tagged_is : (i : ℕ) (o : Option Tag) (n : ℕ) (rest : List ℕ) (t : Token) → tagged i o n rest ≡ Ok t → (t.start ≡ i + 3) × (t.len ≤ length rest)
tagged_is i None n rest t e = absurd (never _ _ e)
tagged_is i (Some tag) n rest t e =
    let sized = passed (leb (limits tag).0 n && leb n (limits tag).1) _ _ t e in
    let fits = passed (leb n (length rest)) _ _ t sized.1 in
    let r = looked_is i n (look_of tag (take n rest)) t fits.1 in
    let short : n ≤ length rest = leb-true _ _ fits.0 in
    (r.0, omega arith)

headed_is : (i : ℕ) (bytes : List ℕ) (t : Token) → headed i bytes ≡ Ok t → (t.start ≡ i + 3) × (t.start + t.len ≤ i + length bytes)
headed_is i [] t e = absurd (never _ _ e)
headed_is i (a ∷ []) t e = absurd (never _ _ e)
headed_is i (a ∷ b ∷ []) t e = absurd (never _ _ e)
headed_is i (a ∷ b ∷ c ∷ rest) t e =
    let r = tagged_is i (tag_of a) (256 * b + c) rest t e in
    (r.0, omega arith)

pub field_is : (page : List ℕ) (i : ℕ) (t : Token) → i < length page → field_at page i ≡ Ok t → (t.start ≡ i + 3) × (t.start + t.len ≤ length page)
unfolding field_at
field_is page i t h e =
    let r = headed_is i (drop i page) t e in
    (r.0, omega (arith, length-drop i page))

-- one token more
below_more : (n m : ℕ) (o : Option ℕ) → n ≤ m → Below n o → Below m o
below_more n m None h b = tt
below_more n m (Some p) h b = omega arith

below_around : (n p k : ℕ) → p < n → Below n (around p k)
below_around n p k h = cond_both (eqb k 0) None (Some (p - k)) (Below n) (λ e. tt) (λ e. omega arith)

at_some : (n p : ℕ) (o : Option ℕ) → o ≡ Some p → Below n o → p < n
at_some n p o e b = subst (Below n) e b

module _ (page : List ℕ) (room : ℕ) (h : Held) (t : Token) where
  pub sound_more : (m : Held) → Sound page h → Placed page t → Took room h t m → Sound page m
  sound_more m s at-page (plain _ _ fits ts inner) = record {
    places = subst (All (Placed page)) (sym ts) (All-push (Placed page) h.tokens t s.places at-page);
    inner =
        let more : length h.tokens ≤ length m.tokens = omega (arith, ap length ts ∙ length_push h.tokens t) in
        subst (Below (length m.tokens)) (sym inner) (below_more _ _ h.inner more s.inner);
  }
  sound_more m s at-page (opened _ d fits ts inner) = record {
    places = subst (All (Placed page)) (sym ts) (All-push (Placed page) h.tokens _ s.places at-page);
    inner =
        let more : length h.tokens < length m.tokens = omega (arith, ap length ts ∙ length_push h.tokens (relooked t (Open d (places_back (length h.tokens) h.inner)))) in
        subst (Below (length m.tokens)) (sym inner) more;
  }
  sound_more m s at-page (shut _ d p k fits c i o ts inner) =
      let new : Token = relooked (get_or h.tokens p no_token) (Open d (length h.tokens - p + 1)) in
      let within : p < length h.tokens = at_some _ p h.inner i s.inner in
      let there : Placed page (get_or h.tokens p no_token) = All-get_or (Placed page) h.tokens p no_token within s.places in
      let more : length m.tokens ≡ length h.tokens + 1 = ap length ts ∙ (length_push (set h.tokens p new) t ∙ ap (λ n. n + 1) (length-set h.tokens p new)) in
      let below : p < length m.tokens = omega arith in
      record {
        places = subst (All (Placed page)) (sym ts) (All-push (Placed page) (set h.tokens p new) t (All-set (Placed page) h.tokens p new there s.places) at-page);
        inner = subst (Below (length m.tokens)) (sym inner) (below_around _ p k below);
      }
