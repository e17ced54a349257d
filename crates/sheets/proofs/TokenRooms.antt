-- A page never has more tokens than the room that is given to them. Assumes nothing.
use Rattle.std.proofs.Common.{ℕ, zero, suc, ◌+◌, ◌≤◌, ltb, List, [], ◌∷◌, length, get_or, Some, None, Ok, Err, Option, Result, arith, length-append, ltb-true}
use Rattle.std.proofs.lemmas.Bool.{cond_both}
use Rattle.refusals.specs.declared.Refusal.{Refusal}
use Rattle.tokens.specs.Looks.{no_token}
use Rattle.tokens.specs.declared.Token.{Token}
use Rattle.tokens.specs.declared.Delimiter.{Delimiter}
use Rattle.tokens.specs.declared.Look.{Look}
use Rattle.tokens.specs.declared.Look.TheVariants as look
use Rattle.pages.specs.Fields.{field_at}
use Rattle.pages.specs.Steps.{Held, same_delimiter, around, added, closed, closing, step_by, step}
use Rattle.pages.specs.Pages.{Outcome, onward, entered, walk, nothing, outcome, tokens_of}

module _ (room at : ℕ) where
  abbrev Fits : Result Held Refusal → Type 0
  Fits (Ok h) = length h.tokens ≤ room
  Fits (Err e) = Unit {0}

  added_fits : (ts : List Token) (t : Token) (inner : Option ℕ) → Fits (added room at ts t inner)
  added_fits ts t inner =
      cond_both (ltb (length ts) room) _ _ Fits (λ b. omega (arith, ltb-true (length ts) room b, length-append ts (t ∷ []))) (λ _. tt)

  closed_fits : (ts : List Token) (t : Token) (d : Delimiter) (p : ℕ) (l : Look) → Fits (closed room at ts t d p l)
  closed_fits ts t d p (look.Name w) = tt
  closed_fits ts t d p (look.Mark c j) = tt
  closed_fits ts t d p look.Integer = tt
  closed_fits ts t d p look.Float = tt
  closed_fits ts t d p look.Literal = tt
  closed_fits ts t d p look.Lifetime = tt
  closed_fits ts t d p (look.Open e k) = cond_both (same_delimiter e d) (added room at _ t (around p k)) _ Fits (λ _. added_fits _ t (around p k)) (λ _. tt)
  closed_fits ts t d p (look.Close e) = tt

  closing_fits : (ts : List Token) (t : Token) (d : Delimiter) (inner : Option ℕ) → Fits (closing room at ts t d inner)
  closing_fits ts t d None = tt
  closing_fits ts t d (Some p) = closed_fits ts t d p (get_or ts p no_token).look

  step_fits : (h : Held) (t : Token) (l : Look) → Fits (step_by room at h t l)
  step_fits h t (look.Name w) = added_fits h.tokens t h.inner
  step_fits h t (look.Mark c j) = added_fits h.tokens t h.inner
  step_fits h t look.Integer = added_fits h.tokens t h.inner
  step_fits h t look.Float = added_fits h.tokens t h.inner
  step_fits h t look.Literal = added_fits h.tokens t h.inner
  step_fits h t look.Lifetime = added_fits h.tokens t h.inner
  step_fits h t (look.Open d n) = added_fits h.tokens _ _
  step_fits h t (look.Close d) = closing_fits h.tokens t d h.inner

module _ (room : ℕ) (page : List ℕ) where
  abbrev Roomy : Outcome → Type 0
  Roomy o = length o.tokens ≤ room

  onward_fits : (at : ℕ) (go : ℕ → Held → Outcome) → ((i : ℕ) (h : Held) → length h.tokens ≤ room → Roomy (go i h))
      → (h : Held) → length h.tokens ≤ room → (next : ℕ) (r : Result Held Refusal) → Fits room at r → Roomy (onward go h next r)
  onward_fits at go fits h few next (Ok more) good = fits next more good
  onward_fits at go fits h few next (Err e) good = few

  entered_fits : (i : ℕ) (go : ℕ → Held → Outcome) → ((i : ℕ) (h : Held) → length h.tokens ≤ room → Roomy (go i h))
      → (h : Held) → length h.tokens ≤ room → (r : Result Token Refusal) → Roomy (entered room i go h r)
  entered_fits i go fits h few (Ok t) = onward_fits i go fits h few (t.start + t.len) (step room i h t) (step_fits room i h t t.look)
  entered_fits i go fits h few (Err e) = few

  walk_fits : (k i : ℕ) (h : Held) → length h.tokens ≤ room → Roomy (walk room page k i h)
  unfolding walk
  walk_fits zero i h few = few
  walk_fits (suc k) i h few =
      cond_both (ltb i (length page)) _ _ Roomy (λ _. entered_fits i (walk room page k) (walk_fits k) h few (field_at page i)) (λ _. few)

  pub tokens_fit : length (tokens_of room page) ≤ room
  unfolding outcome tokens_of walk
  tokens_fit = walk_fits (length page) 0 nothing (omega arith)
