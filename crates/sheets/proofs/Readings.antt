-- From what the loop writes to what a rule is. Assumes nothing.
use Rattle.std.proofs.Common.{◌≡◌, ℕ, ◌+◌, ◌-◌, ◌≤◌, Bool, true, false, cond, eqb, List, ◌++◌, length, take, None, Ok, Err, Result, sym, refl, ap, ◌∙◌, subst, arith, length-append, length-take, take_all, eq-eqb, eqb-true}
use Rattle.std.proofs.lemmas.List.{take-take, take-append-le}
use Rattle.std.proofs.lemmas.Bool.{cond-true}
use Rattle.refusals.specs.declared.Refusal.{Refusal}
use Rattle.refusals.specs.declared.Refusal.TheVariants.{LeftOver}
use Rattle.trees.specs.declared.Node.{Node}
use Rattle.trees.specs.Layout.{Tree, branch, size, root_at, lay}
use Rattle.trees.proofs.Sizes.{lay_length}
use Rattle.grammar.specs.Grammar.{Outcome, took, refused, answer}
use Rattle.reading.specs.Machine.{Read, Written}
use Rattle.sheets.specs.declared.records.Rule.{Rule}
use Rattle.sheets.specs.Model.{Entry, whole}
use Rattle.sheets.specs.States.{Reads}

-- what stood in front stands there still
front : (N N' more : List Node) (n n' : ℕ) → n ≤ length N → n' ≤ length N' → take n' N' ≡ take n N ++ more → take n N' ≡ take n N
front N N' more n n' h h' is =
    let a = length-take n N in
    let b = length-take n' N' in
    let c = ap length is ∙ length-append (take n N) more in
    let shorter : n ≤ n' = omega arith in
    let fits : n ≤ length (take n N) = omega arith in
    let all : length (take n N) ≤ n = omega arith in
    sym (take-take n n' N' shorter) ∙ ap (take n) is ∙ take-append-le n (take n N) more fits ∙ take_all n (take n N) all

module _ (N N' : List Node) (n n' top : ℕ) (h : n ≤ length N) (h' : n' ≤ length N') where
  pub refused_reads : (o : Outcome) (f : Refusal) (r : Result Rule Refusal) → answer o ≡ Err f → Read o (take n N) (take n' N') → r ≡ Err f → Reads (whole top o) N n N' n' r
  refused_reads (took t q) f r is w re = cc
  refused_reads (refused x) f r is w re = let e : r ≡ Err x = cc in (e, front N N' w.more n n' h h' w.nodes)

  left_by : (t : Tree) (q : ℕ) (b : Bool) → eqb q top ≡ b → (q ≡ top → ⊥) → take n N' ≡ take n N
      → Reads (cond b (Ok (record { tree = t; used = q })) (Err (LeftOver q))) N n N' n' (Err (LeftOver q))
  left_by t q true is ne same = absurd (ne (eqb-true q top is))
  left_by t q false is ne same = (refl, same)

  pub left_reads : (o : Outcome) (q : ℕ) → answer o ≡ Ok q → (q ≡ top → ⊥) → Read o (take n N) (take n' N') → Reads (whole top o) N n N' n' (Err (LeftOver q))
  left_reads (took t p) q is ne w =
      let e : p ≡ q = cc in
      subst (λ (x : ℕ). Reads (whole top (took t x)) N n N' n' (Err (LeftOver q))) (sym e)
      (left_by t q (eqb q top) refl ne (front N N' (lay (length (take n N)) None t) n n' h h' w.nodes))
  left_reads (refused x) q is ne w = cc

  -- the count after, and the rule
  counts : (t : Tree) (q : ℕ) → Written (take n N) (take n' N') t q → n' ≡ n + size t
  counts t q w =
      let a = length-take n N in
      let b = length-take n' N' in
      let c = ap length w.nodes ∙ length-append (take n N) (lay (length (take n N)) None t) in
      let d = lay_length t (length (take n N)) None in
      omega arith

  some_node : (t : Tree) → 1 ≤ size t
  some_node (branch l us) = omega arith

  pub grown : (o : Outcome) (q : ℕ) → answer o ≡ Ok q → Read o (take n N) (take n' N') → 1 ≤ n'
  grown (took t p) q is w = omega (arith, counts t p w, some_node t)
  grown (refused x) q is w = cc

  root_is : (t : Tree) → n' ≡ n + size t → n' - 1 ≡ root_at n t
  root_is (branch l us) e = omega arith

  pub all_reads : (o : Outcome) (q : ℕ) → answer o ≡ Ok q → q ≡ top → Read o (take n N) (take n' N') → Reads (whole top o) N n N' n' (Ok (record { root = n' - 1; used = q }))
  all_reads (took t p) q is end w =
      let e : p ≡ q = cc in
      let long : length (take n N) ≡ n = omega (arith, length-take n N) in
      let b : n' ≤ n + p = omega (arith, w.few, length-take n N, length-take n' N') in
      let test : eqb p top ≡ true = eq-eqb p top (e ∙ end) in
      subst (λ (x : Result Entry Refusal). Reads x N n N' n' (Ok (record { root = n' - 1; used = q }))) (sym (cond-true (eqb p top) (Ok (record { tree = t; used = p })) (Err (LeftOver p)) test)) (
        ap (λ (k : ℕ). Ok (record { root = k; used = q })) (root_is t (counts t p w)) ∙ ap (λ (k : ℕ). Ok (record { root = root_at n t; used = k })) (sym e),
        counts t p w,
        w.nodes ∙ ap (λ (k : ℕ). take n N ++ lay k None t) long,
        b,
      )
  all_reads (refused x) q is end w = cc
