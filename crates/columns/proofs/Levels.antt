-- The first field of a level, as a window shows it. Assumes nothing.
use Rattle.std.proofs.Common.{◌≡◌, ℕ, ◌<◌, ◌≤◌, Bool, true, false, cond, ◌&&◌, ltb, List, [], length, get_or, sym, refl, ap, ◌∙◌, arith, ltb-false, ltb-true}
use Rattle.tokens.specs.declared.Token.{Token}
use Rattle.tokens.specs.Looks.{no_token, field_of, level_of}
use Rattle.hosts.specs.Levels.{level_cons, level_none}
use Rattle.columns.specs.Columns.{any_name}
use Rattle.columns.specs.Names.{among, begins_with}

module _ (names : List (List ℕ)) (page : List ℕ) (ts : List Token) (p e : ℕ) (inside : e ≤ length ts) where
  abbrev is_named : ℕ → Bool
  is_named i = cond (ltb i e) (any_name (get_or ts i no_token).look) false

  abbrev bytes_at : ℕ → List ℕ
  bytes_at i = cond (ltb i e) (field_of page (get_or ts i no_token)).bytes []

  at_first : (is_named p && among (bytes_at p) names) ≡ begins_with names (level_of page ts p e)
  at_first = at (ltb p e) refl
    where
      at : (b : Bool) → ltb p e ≡ b → (cond b (any_name (get_or ts p no_token).look) false && among (cond b (field_of page (get_or ts p no_token)).bytes []) names) ≡ begins_with names (level_of page ts p e)
      at true t = let some : p < e = omega (arith, ltb-true) in ap (begins_with names) (sym (level_cons page ts p e some inside))
      at false t = let none : e ≤ p = omega (arith, ltb-false) in ap (begins_with names) (sym (level_none page ts p e none))

  pub first_name : (i : ℕ) → i ≡ p → true ≡ is_named i → (bytes : List ℕ) → bytes ≡ bytes_at i → among bytes names ≡ begins_with names (level_of page ts p e)
  first_name i is named bytes same =
      ap (λ (b : Bool). b && among bytes names) named
      ∙ (ap (λ (l : List ℕ). is_named i && among l names) same ∙ (ap (λ (k : ℕ). is_named k && among (bytes_at k) names) is ∙ at_first))

  pub first_other : (i : ℕ) → i ≡ p → false ≡ is_named i → false ≡ begins_with names (level_of page ts p e)
  first_other i is other =
      ap (λ (b : Bool). b && among (bytes_at i) names) other ∙ (ap (λ (k : ℕ). is_named k && among (bytes_at k) names) is ∙ at_first)
