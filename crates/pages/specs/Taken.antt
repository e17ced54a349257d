-- What was taken in from a page, and what it becomes when one token more is. Assumes nothing.
use Rattle.std.specs.Prelude.{◌≡◌, ℕ, ◌+◌, min, List, length, take, drop, Ok, Err, Result}
use Rattle.refusals.specs.declared.Refusal.{Refusal}
use Rattle.tokens.specs.declared.Token.{Token}
use Rattle.pages.specs.declared.steps.Taken.{Taken}
use Rattle.pages.specs.Steps.{Held}

abbrev pub items : Taken → List Token
items t = take t.count t.space.now

-- what the space holds behind the tokens
abbrev pub rest : Taken → List Token
rest t = drop t.count t.space.now

abbrev pub held : Taken → Held
held t = record { tokens = items t; inner = t.inner }

-- how many tokens may be held
abbrev pub most : Taken → ℕ
most t = min (length t.space.now) 4096

-- the same space, lent by the same lender
pub record SameSpace (s t : Taken) : Type 0 where
  pub size : length t.space.now ≡ length s.space.now
  pub lender : t.space.ghost_name ≡ s.space.ghost_name

-- s has become t, which holds what the definition says by one token more over the first of the rest, or is as it was
abbrev pub Stepped : Result Held Refusal → Taken → Taken → Result (Unit {0}) Refusal → Type 0
Stepped expected s t (Ok u) = (expected ≡ Ok (held t)) × (rest t ≡ drop 1 (rest s)) × (t.count ≡ s.count + 1) × SameSpace s t
Stepped expected s t (Err e) = (expected ≡ Err e) × (t.space.now ≡ s.space.now) × (t.count ≡ s.count) × (t.inner ≡ s.inner) × SameSpace s t
