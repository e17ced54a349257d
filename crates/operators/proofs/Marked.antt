-- What stands at a mark is what it spells with the marks that it is joined to. Assumes nothing.
use Rattle.std.proofs.Common.{◌≡◌, ℕ, ◌+◌, Bool, true, false, cond, not, ◌&&◌, eqb, ltb, List, [], ◌∷◌, length, get_or, Some, None, Option, refl, sym, ap, ◌∙◌, arith}
use Rattle.std.proofs.lemmas.Bool.{and_parts}
use Rattle.std.proofs.lemmas.Bool.Decides.{nat_tests}
use Rattle.std.proofs.lemmas.Option.{cond_some}
use Rattle.tokens.specs.declared.Look.{Look}
use Rattle.tokens.specs.declared.Look.TheVariants as look
use Rattle.tokens.specs.declared.Token.{Token}
use Rattle.tokens.specs.Looks.{no_token, look_at, mark_shown, mark_of, mark_in, mark_at, joined_at, two_at, three_at}
use Rattle.operators.specs.declared.Infix.TheVariants.{Cast}
use Rattle.operators.specs.declared.Sign.{Sign}
use Rattle.operators.specs.declared.Sign.TheVariants.{Operator}
use Rattle.operators.specs.Spellings.{next_in, shows, spelled_by, spelled_at, as_at}
use Rattle.operators.specs.Signs.{spellings, first_of, sign_at}
use Rattle.operators.proofs.GoodSigns.{characters, sized, sound}

other_than : (c : ℕ) → not (eqb c 0) ≡ true → false ≡ eqb 0 c
other_than c n = grind (arith, nat_tests)

look_shows : (l : Look) (c : ℕ) → not (eqb c 0) ≡ true → shows (mark_shown l) c ≡ eqb (mark_of l) c
look_shows (look.Name w) c n = other_than c n
look_shows (look.Mark m j) c n = refl
look_shows look.Integer c n = other_than c n
look_shows look.Float c n = other_than c n
look_shows look.Literal c n = other_than c n
look_shows look.Lifetime c n = other_than c n
look_shows (look.Open d k) c n = other_than c n
look_shows (look.Close d) c n = other_than c n

in_shows : (ts : List Token) (e i c : ℕ) → not (eqb c 0) ≡ true → shows (mark_in ts e i) c ≡ eqb (mark_at ts e i) c
in_shows ts e i c n =
    let l : Look = (get_or ts i no_token).look in
    elim (ltb i e) as (λ (b : Bool). shows (cond b (mark_shown l) None) c ≡ eqb (cond b (mark_of l) 0) c)
    [ true ↦ look_shows l c n | false ↦ other_than c n ]

next_shows : (ts : List Token) (e i c : ℕ) → not (eqb c 0) ≡ true → shows (next_in ts e i) c ≡ (joined_at ts e i && eqb (mark_at ts e (i + 1)) c)
next_shows ts e i c n = grind (arith, nat_tests, in_shows ts e (i + 1) c)

module _ (ts : List Token) (e i m : ℕ) (is : mark_at ts e i ≡ m) where
  same_two : (a b : ℕ) → characters (a ∷ b ∷ []) ≡ true → two_at ts e i a b ≡ (eqb m a && shows (next_in ts e i) b)
  same_two a b n = grind (arith, nat_tests, next_shows ts e i b)

  same_three : (a b c : ℕ) → characters (a ∷ b ∷ c ∷ []) ≡ true → three_at ts e i a b c ≡ ((eqb m a && shows (next_in ts e i) b) && shows (next_in ts e (i + 1)) c)
  same_three a b c n =
      let at : (i + 1) + 1 ≡ i + 2 = omega arith in
      grind (arith, nat_tests, next_shows ts e i b, next_shows ts e (i + 1) c)

  same : (cs : List ℕ) → characters cs ≡ true → spelled_at ts e i cs ≡ spelled_by m (next_in ts e i) (next_in ts e (i + 1)) cs
  same [] n = refl
  same (a ∷ []) n = cc
  same (a ∷ b ∷ []) n = same_two a b n
  same (a ∷ b ∷ c ∷ []) n = same_three a b c n
  same (a ∷ b ∷ c ∷ d ∷ more) n = refl

  first_same : (rows : List (List ℕ × (ℕ → Option Sign))) (other : Option Sign) → sound rows ≡ true → first_of (spelled_at ts e i) rows other ≡ first_of (spelled_by m (next_in ts e i) (next_in ts e (i + 1))) rows other
  first_same [] other t = refl
  first_same ((cs, means) ∷ rows) other t =
      let both = and_parts (characters cs && sized (length cs) (means (length cs))) (sound rows) t in
      let row = and_parts (characters cs) (sized (length cs) (means (length cs))) both.0 in
      cc (same cs row.0, first_same rows other both.1)

pub marked : (ts : List Token) (e i m : ℕ) (j : Bool) (n o : Option ℕ) → Some (look.Mark m j) ≡ look_at ts e i → n ≡ next_in ts e i → o ≡ next_in ts e (i + 1) → first_of (spelled_by m n o) spellings None ≡ sign_at ts e i
unfolding sign_at
marked ts e i m j n o is second third =
    let p = cond_some (ltb i e) (get_or ts i no_token).look (look.Mark m j) (sym is) in
    let mark : mark_at ts e i ≡ m = rw p.0 (ap mark_of p.1) in
    let named : as_at ts e i ≡ false = rw (p.0, p.1) refl in
    ap (λ (o : Option ℕ). first_of (spelled_by m n o) spellings None) third
    ∙ ap (λ (n : Option ℕ). first_of (spelled_by m n (next_in ts e (i + 1))) spellings None) second
    ∙ sym (first_same ts e i m mark spellings None refl)
    ∙ ap (λ (b : Bool). first_of (spelled_at ts e i) spellings (cond b (Some (Operator Cast 1)) None)) (sym named)
