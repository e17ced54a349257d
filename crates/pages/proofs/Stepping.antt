-- A closer is taken in, from the facts that the code has. Assumes nothing.
use Rattle.std.proofs.Common.{◌≡◌, ℕ, ◌+◌, ◌-◌, ◌<◌, true, List, [], ◌∷◌, ◌++◌, length, get_or, set, Some, Ok, Option, sym, ap, ◌∙◌, subst, arith}
use Rattle.std.proofs.lemmas.List.{length-set, set-append_left}
use Rattle.std.proofs.lemmas.Bool.{cond-true, lt-ltb}
use Rattle.tokens.specs.Looks.{no_token}
use Rattle.tokens.specs.declared.Delimiter.{Delimiter}
use Rattle.tokens.specs.declared.Delimiter.TheVariants.{Paren, Bracket, Brace}
use Rattle.tokens.specs.declared.Look.TheVariants.{Open}
use Rattle.tokens.specs.declared.Token.{Token}
use Rattle.pages.specs.Steps.{Held, same_delimiter, relooked, around, added, closed, closing}
use Rattle.pages.proofs.Took.{add_is}

same_delimiters : (d e : Delimiter) → e ≡ d → same_delimiter e d ≡ true
same_delimiters Paren e s = ap (λ x. same_delimiter x Paren) s
same_delimiters Bracket e s = ap (λ x. same_delimiter x Bracket) s
same_delimiters Brace e s = ap (λ x. same_delimiter x Brace) s

-- the opener o, one of n tokens, learns the size of its group, where m is held with the closer t as one token more
pub closes : (room at : ℕ) (ts : List Token) (t o : Token) (d e : Delimiter) (p k n : ℕ) (inner out : Option ℕ) (m : Held) (ms : List Token) → inner ≡ Some p → p < n → length ts ≡ n → get_or ts p no_token ≡ o → o.look ≡ Open e k → e ≡ d → added room at ts t inner ≡ Ok m → ms ≡ set m.tokens p (relooked o (Open e (n - p + 1))) → out ≡ around p k → closing room at ts t d inner ≡ Ok (record { tokens = ms; inner = out })
closes room at ts t o d e p k n inner out m ms is within many here looks same before becomes outer =
    let opener : Token = relooked o (Open e (n - p + 1)) in
    let a = add_is room at ts t inner m before in
    let lower : p < length ts = omega arith in
    let look : (get_or ts p no_token).look ≡ Open e k = ap (λ (x : Token). x.look) here ∙ looks in
    let learns : relooked (get_or ts p no_token) (Open e (length ts - p + 1)) ≡ opener = ap (λ (x : Token). relooked x (Open e (length ts - p + 1))) here ∙ ap (λ (l : ℕ). relooked o (Open e (l - p + 1))) many in
    let fits : length (set ts p opener) < room = subst (λ l. l < room) (sym (length-set ts p opener)) a.0 in
    let put : set ts p opener ++ t ∷ [] ≡ ms = sym (becomes ∙ (ap (λ (l : List Token). set l p opener) a.1 ∙ set-append_left ts (t ∷ []) p opener lower)) in
    ap (closing room at ts t d) is
    ∙ (ap (closed room at ts t d p) look
    ∙ (cond-true _ _ _ (same_delimiters d e same)
    ∙ (ap (λ (x : Token). added room at (set ts p x) t (around p k)) learns
    ∙ (cond-true _ _ _ (lt-ltb _ _ fits)
    ∙ ap (λ (h : Held). Ok h) (ap (λ (l : List Token). record { tokens = l; inner = around p k }) put ∙ ap (λ (x : Option ℕ). record { tokens = ms; inner = x }) (sym outer))))))
