-- The three ways in which a token is taken in. Assumes nothing.
use Rattle.std.proofs.Common.{◌≡◌, ℕ, ◌+◌, ◌-◌, ◌<◌, Bool, true, false, cond, ltb, List, [], ◌∷◌, ◌++◌, length, get_or, set, Some, None, Ok, Err, Option, Result, sym, refl, ap, ◌∙◌, subst}
use Rattle.std.proofs.lemmas.List.{length-set}
use Rattle.std.proofs.lemmas.Bool.{ltb-true}
use Rattle.refusals.specs.declared.Refusal.{Refusal}
use Rattle.tokens.specs.Looks.{no_token}
use Rattle.tokens.specs.declared.Delimiter.{Delimiter}
use Rattle.tokens.specs.declared.Delimiter.TheVariants.{Paren, Bracket, Brace}
use Rattle.tokens.specs.declared.Look.{Look}
use Rattle.tokens.specs.declared.Look.TheVariants.{Name, Mark, Integer, Float, Literal, Lifetime, Open, Close}
use Rattle.tokens.specs.declared.Token.{Token}
use Rattle.pages.specs.Steps.{Held, same_delimiter, places_back, around, relooked, added, closed, closing, step_by, step}

-- a look that is no opener
abbrev pub NoOpener : Look → Type 0
NoOpener l = (d : Delimiter) (n : ℕ) → l ≡ Open d n → ⊥

pub data Took (room : ℕ) (h : Held) (t : Token) : Held → Type 0 where
  plain : (m : Held) → NoOpener t.look → length h.tokens < room → m.tokens ≡ h.tokens ++ t ∷ [] → m.inner ≡ h.inner → Took room h t m
  opened : (m : Held) (d : Delimiter) → length h.tokens < room → m.tokens ≡ h.tokens ++ relooked t (Open d (places_back (length h.tokens) h.inner)) ∷ [] → m.inner ≡ Some (length h.tokens) → Took room h t m
  shut : (m : Held) (d : Delimiter) (p k : ℕ) → length h.tokens < room → t.look ≡ Close d → h.inner ≡ Some p → (get_or h.tokens p no_token).look ≡ Open d k → m.tokens ≡ set h.tokens p (relooked (get_or h.tokens p no_token) (Open d (length h.tokens - p + 1))) ++ t ∷ [] → m.inner ≡ around p k → Took room h t m

same_is : (d e : Delimiter) → same_delimiter d e ≡ true → d ≡ e
same_is Paren Paren h = refl
same_is Paren Bracket h = absurd cc
same_is Paren Brace h = absurd cc
same_is Bracket Paren h = absurd cc
same_is Bracket Bracket h = refl
same_is Bracket Brace h = absurd cc
same_is Brace Paren h = absurd cc
same_is Brace Bracket h = absurd cc
same_is Brace Brace h = refl

-- what a test let through
pub passed : {A : Type 0} (b : Bool) (x : Result A Refusal) (e : Refusal) (y : A) → cond b x (Err e) ≡ Ok y → (b ≡ true) × (x ≡ Ok y)
passed true x e y h = (refl, h)
passed false x e y h = absurd cc

pub add_is : (room at : ℕ) (ts : List Token) (t : Token) (inner : Option ℕ) (m : Held) → added room at ts t inner ≡ Ok m → (length ts < room) × (m.tokens ≡ ts ++ t ∷ []) × (m.inner ≡ inner)
add_is room at ts t inner m e =
    let p = passed (ltb (length ts) room) _ _ m e in
    let q : record { tokens = ts ++ t ∷ []; inner = inner } ≡ m = cc p.1 in
    (ltb-true _ _ p.0, ap (λ (x : Held). x.tokens) (sym q), ap (λ (x : Held). x.inner) (sym q))

pub never : {A : Type 0} (e : Refusal) (y : A) → Err e ≡ Ok y → ⊥
never e y h = cc

module _ (room at : ℕ) (h : Held) (t : Token) (m : Held) where
  close_is : (d : Delimiter) (p : ℕ) (l : Look) → t.look ≡ Close d → h.inner ≡ Some p → (get_or h.tokens p no_token).look ≡ l → closed room at h.tokens t d p l ≡ Ok m → Took room h t m
  close_is d p (Name w) c i o e = absurd (never _ _ e)
  close_is d p (Mark x j) c i o e = absurd (never _ _ e)
  close_is d p Integer c i o e = absurd (never _ _ e)
  close_is d p Float c i o e = absurd (never _ _ e)
  close_is d p Literal c i o e = absurd (never _ _ e)
  close_is d p Lifetime c i o e = absurd (never _ _ e)
  close_is d p (Open f k) c i o e =
      let q = passed (same_delimiter f d) _ _ m e in
      let a = add_is room at _ t (around p k) m q.1 in
      let s = same_is f d q.0 in
      shut m f p k (subst (λ (n : ℕ). n < room) (length-set h.tokens p _) a.0) (c ∙ ap Close (sym s)) i o a.1 a.2
  close_is d p (Close f) c i o e = absurd (never _ _ e)

  closing_is : (d : Delimiter) (inner : Option ℕ) → t.look ≡ Close d → h.inner ≡ inner → closing room at h.tokens t d inner ≡ Ok m → Took room h t m
  closing_is d None c i e = absurd (never _ _ e)
  closing_is d (Some p) c i e = close_is d p _ c i refl e

  plain_is : NoOpener t.look → added room at h.tokens t h.inner ≡ Ok m → Took room h t m
  plain_is no-opener e = let a = add_is room at h.tokens t h.inner m e in plain m no-opener a.0 a.1 a.2

  by_look : (l : Look) → t.look ≡ l → step_by room at h t l ≡ Ok m → Took room h t m
  by_look (Name w) i e = plain_is (λ d n o. cc) e
  by_look (Mark x j) i e = plain_is (λ d n o. cc) e
  by_look Integer i e = plain_is (λ d n o. cc) e
  by_look Float i e = plain_is (λ d n o. cc) e
  by_look Literal i e = plain_is (λ d n o. cc) e
  by_look Lifetime i e = plain_is (λ d n o. cc) e
  by_look (Open d n) i e =
      let a = add_is room at h.tokens (relooked t (Open d (places_back (length h.tokens) h.inner))) (Some (length h.tokens)) m e in
      opened m d a.0 a.1 a.2
  by_look (Close d) i e = closing_is d h.inner i refl e

  pub took : step room at h t ≡ Ok m → Took room h t m
  took e = by_look t.look refl e
