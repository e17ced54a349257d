use Rattle.std.proofs.Common.{◌≡◌, ℕ, ◌-◌, ◌≤◌, cond, nat_le, List, [], ◌∷◌, length, Some, None, Option, sym, refl, ap, ◌∙◌, arith}
use Rattle.std.proofs.lemmas.Bool.Decides.{nat_tests}
use Rattle.std.specs.Bool.{then_some}
use Rattle.std.specs.List.{slice_get}
use Rattle.tokens.specs.declared.Delimiter.{Delimiter}
use Rattle.tokens.specs.declared.Look.{Look}
use Rattle.tokens.specs.declared.Token.{Token}
use Rattle.tokens.specs.Looks.{look_at}
use Rattle.hosts.specs.Statements.{looks_from, open_length, group_length, found}
use Rattle.hosts.specs.Levels.{look_first, length_looks}
use Rattle.hosts.proofs.statement.group.Goals as goal

-- a group of n tokens, if any, where k are left
abbrev fitting : ℕ → ℕ → ℕ
fitting n k = cond (nat_le n k) n 0

-- how many tokens a group has that may begin with a look
abbrev opened : Delimiter → Option Look → ℕ
opened d None = 0
opened d (Some a) = open_length d a

first : (d : Delimiter) (l : List Look) → group_length d l ≡ fitting (opened d (slice_get l 0)) (length l)
first d [] = refl
first d (a ∷ l) = refl

at : (d : Delimiter) (ts : List Token) (p q e : ℕ) (o : Option Look) → e ≤ length ts → q ≡ p → o ≡ look_at ts e q
    → group_length d (looks_from ts p e) ≡ fitting (opened d o) (e - p)
at d ts p q e o h a b =
    let look = sym (look_first ts p e h) ∙ sym (b ∙ ap (look_at ts e) a) in
    first d (looks_from ts p e) ∙ ap (λ x. fitting (opened d x) (length (looks_from ts p e))) look ∙ ap (fitting (opened d o)) (length_looks ts p e h)

fits : (n m k : ℕ) → Some n ≡ found m → then_some (nat_le n k) n ≡ found (fitting m k)
fits n m k e = grind (arith, nat_tests)

none : (m k : ℕ) → ◌≡◌ {A = Option ℕ} None (found m) → ◌≡◌ {A = Option ℕ} None (found (fitting m k))
none m k e = grind (arith, nat_tests)

pub returns-in_err-look-clause-value : goal.returns-in_err-look-clause-value
returns-in_err-look-clause-value c =
    let length = at c.args.delimiter _ c.args.w.place _ _ _ c.args.w.inside c.place.ensures (sym c.in_err-look.was ∙ c.look.ensures) in
    c.from_residual.ensures ∙ rw length (none 0 _ refl)

pub returns-in_err-len-clause-value : goal.returns-in_err-len-clause-value
returns-in_err-len-clause-value c =
    let length = at c.args.delimiter _ c.args.w.place _ _ _ c.args.w.inside c.place.ensures (sym c.in_ok-look.was ∙ c.look.ensures) in
    c.from_residual-in_err-len.ensures ∙ rw length (none _ _ c.in_err-len.ensures)

pub returns-clause-value : goal.returns-clause-value
returns-clause-value c =
    let length = at c.args.delimiter _ c.args.w.place _ _ _ c.args.w.inside c.place.ensures (sym c.in_ok-look.was ∙ c.look.ensures) in
    rw (c.end.ensures, c.place-2.ensures) at c.then_some.ensures ∙ rw length (fits _ _ _ c.in_ok-len.ensures)
