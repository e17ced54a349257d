-- What the definition of reading says at a place, one step deep. Assumes nothing.
use Rattle.std.proofs.Common.{◌≡◌, ℕ, ◌+◌, ◌-◌, ◌<◌, ◌≤◌, Bool, true, cond, eqb, List, [], ◌∷◌, Ok, Result, refl, ap, ◌∙◌, arith, lt-ltb}
use Rattle.std.proofs.lemmas.Bool.{cond-true}
use Rattle.refusals.specs.declared.Part.{Part}
use Rattle.refusals.specs.declared.Part.TheVariants as part
use Rattle.refusals.specs.declared.Denial.{Denial}
use Rattle.refusals.specs.declared.Refusal.{Refusal}
use Rattle.refusals.specs.declared.Refusal.TheVariants as refusal
use Rattle.tokens.specs.declared.Token.{Token}
use Rattle.tokens.specs.Looks.{Field}
use Rattle.operators.specs.declared.Infix.{Infix}
use Rattle.operators.specs.Ranks.{rank_of, above_rank}
use Rattle.trees.specs.declared.Kind.{Kind}
use Rattle.trees.specs.declared.Kind.TheVariants as kind
use Rattle.trees.specs.Layout.{Tree, Trees, branch, none, ◌then◌, label_of}
use Rattle.grammar.specs.declared.Head.{Head}
use Rattle.grammar.specs.declared.Head.TheVariants.{Leaf, Prefix, Group}
use Rattle.grammar.specs.declared.Tail.{Tail}
use Rattle.grammar.specs.declared.Tail.TheVariants.{Takes, Endless, Casts}
use Rattle.grammar.specs.Knot.{below}
use Rattle.grammar.specs.Heads.{head_at}
use Rattle.grammar.specs.Tails.{tail_at}
use Rattle.grammar.specs.Grammar.{label, tree_rank, Outcome, refused, and_then, Task, expr, climb, items, left, part_at, from_head, from_tail, grammar, read_task}
use Rattle.grammar.proofs.Knots.{unfolds, asks}
use Rattle.reading.specs.Moves.{frame, no_links}
use Rattle.reading.specs.Machine.{Wait, again, after_by, resume}
use Rattle.reading.specs.declared.frames.Links.{Links}
use Rattle.reading.specs.declared.frames.Job.TheVariants as job
use Rattle.reading.specs.declared.frames.Scope.{Scope}
use Rattle.reading.specs.declared.frames.Frame.{Frame}

abbrev stuck : Outcome
stuck = refused refusal.SheetFull

abbrev pub wait : Frame → ℕ → Trees → Wait
wait f p us = record { frame = f; at = p; held = us }

-- an operand, and what follows one, in a scope
abbrev pub expr_in : Scope → ℕ → Task
expr_in g p = expr g.structs g.base p g.end

abbrev pub climb_in : Scope → Tree → ℕ → Task
climb_in g t p = climb g.structs g.base t p g.end

module _ (reading : Part → List Field → Result ℕ Denial) (page : List ℕ) (ts : List Token) where
  abbrev pub R : Task → Outcome
  R = read_task reading page ts

  -- what a task may ask for
  abbrev under : Task → Task → Outcome
  under = below left stuck (grammar reading page ts) R

  RIs : (q : Task) → R q ≡ grammar reading page ts (under q) q
  unfolding read_task
  RIs q = unfolds left stuck (grammar reading page ts) q

  RAsks : (q u : Task) → left u < left q → under q u ≡ R u
  unfolding read_task
  RAsks q u h = asks left stuck (grammar reading page ts) q u h

  -- a task that begins with another one, and goes on from its outcome
  first : (q u : Task) (k : Tree → ℕ → Outcome) → left u < left q → and_then (under q u) k ≡ and_then (R u) k
  first q u k h = ap (λ (o : Outcome). and_then o k) (RAsks q u h)

  pub again_is : (p e : ℕ) (u : Task) → left u < e - p → again reading page ts p e u ≡ R u
  again_is p e u h = cond-true _ _ _ (lt-ltb (left u) (e - p) h)

  pub resume_refused : (ws : List Wait) (e : ℕ) (r : Refusal) → resume reading page ts ws e (refused r) ≡ refused r
  resume_refused [] e r = refl
  resume_refused (w ∷ ws) e r = resume_refused ws w.frame.scope.end r

  module _ (p : ℕ) (g : Scope) where
    pub at_head : (h : Result Head Refusal) → head_at reading page ts g.structs p g.end ≡ h → R (expr_in g p) ≡ from_head reading page ts (under (expr_in g p)) g.structs g.base p g.end h
    at_head h is = RIs (expr_in g p) ∙ ap (from_head reading page ts (under (expr_in g p)) g.structs g.base p g.end) is

    pub leaf_means : (k : Kind) (q : ℕ) → head_at reading page ts g.structs p g.end ≡ Ok (Leaf k q) → p < q → q ≤ g.end
        → R (expr_in g p) ≡ R (climb_in g (branch (label k 0 p q) none) q)
    leaf_means k q is low high = at_head (Ok (Leaf k q)) is ∙ RAsks (expr_in g p) (climb_in g (branch (label k 0 p q) none) q) (omega arith)

    pub prefix_means : (k : Kind) (o q r : ℕ) → head_at reading page ts g.structs p g.end ≡ Ok (Prefix k o q r) → p < q → q ≤ g.end
        → R (expr_in g p) ≡ and_then (R (expr g.structs r q g.end)) (after_by reading page ts (job.Operand k o) (wait (frame (job.Operand k o) p g no_links) p none) g.end)
    prefix_means k o q r is low high = at_head (Ok (Prefix k o q r)) is ∙ first (expr_in g p) (expr g.structs r q g.end) _ (omega arith)

    pub group_means : (i c : ℕ) → head_at reading page ts g.structs p g.end ≡ Ok (Group i c) → p < i → i < c → c < g.end
        → R (expr_in g p) ≡ and_then (R (expr true 0 i c)) (after_by reading page ts job.First (wait (frame job.First p g no_links) p none) c)
    group_means i c is low mid high = at_head (Ok (Group i c)) is ∙ first (expr_in g p) (expr true 0 i c) _ (omega arith)

  module _ (t : Tree) (p : ℕ) (g : Scope) where
    pub at_tail : (h : Result Tail Refusal) → tail_at ts g.structs g.base (tree_rank t) p g.end ≡ h → R (climb_in g t p) ≡ from_tail reading page ts (under (climb_in g t p)) g.structs g.base t p g.end h
    at_tail h is = RIs (climb_in g t p) ∙ ap (from_tail reading page ts (under (climb_in g t p)) g.structs g.base t p g.end) is

    pub takes_means : (k : Links) (o : Infix) (q : ℕ) → tail_at ts g.structs g.base (tree_rank t) p g.end ≡ Ok (Takes o q) → p < q → q ≤ g.end
        → R (climb_in g t p) ≡ and_then (R (expr g.structs (above_rank (rank_of o)) q g.end)) (after_by reading page ts (job.Right o) (wait (frame (job.Right o) (label_of t).from g k) p (none then t)) g.end)
    takes_means k o q is low high = at_tail (Ok (Takes o q)) is ∙ first (climb_in g t p) (expr g.structs (above_rank (rank_of o)) q g.end) _ (omega arith)

    pub endless_means : (q : ℕ) → tail_at ts g.structs g.base (tree_rank t) p g.end ≡ Ok (Endless q) → p < q → q ≤ g.end
        → R (climb_in g t p) ≡ R (climb_in g (branch (label kind.Range 0 (label_of t).from q) (none then t)) q)
    endless_means q is low high = at_tail (Ok (Endless q)) is ∙ RAsks (climb_in g t p) (climb_in g (branch (label kind.Range 0 (label_of t).from q) (none then t)) q) (omega arith)

    pub casts_means : (k : Links) (i : ℕ) → tail_at ts g.structs g.base (tree_rank t) p g.end ≡ Ok (Casts i)
        → R (climb_in g t p) ≡ and_then (part_at reading page ts kind.TypeName part.TypeName i g.end) (after_by reading page ts job.CastTo (wait (frame job.CastTo (label_of t).from g k) p (none then t)) g.end)
    casts_means k i is = at_tail (Ok (Casts i)) is

  -- one step of a tuple's items behind a comma at p, by whether the closer is reached
  abbrev pub items_by : Links → Bool → Scope → ℕ → Trees → ℕ → ℕ → Outcome
  items_by k closed g from us p c =
      cond closed (R (climb_in g (branch (label kind.Tuple 0 from (c + 1)) us) (c + 1)))
      (and_then (R (expr true 0 (p + 1) c)) (after_by reading page ts job.Item (wait (frame job.Item from g k) p us) c))

  pub items_means : (k : Links) (g : Scope) (from : ℕ) (us : Trees) (p c : ℕ) → p < c → c < g.end
      → R (items g.structs g.base from us (p + 1) c g.end) ≡ items_by k (eqb (p + 1) c) g from us p c
  items_means k g from us p c low high =
      let q = items g.structs g.base from us (p + 1) c g.end in
      RIs q
      ∙ ap (λ (o : Outcome). cond (eqb (p + 1) c) o (and_then (under q (expr true 0 (p + 1) c)) (after_by reading page ts job.Item (wait (frame job.Item from g k) p us) c)))
      (RAsks q (climb_in g (branch (label kind.Tuple 0 from (c + 1)) us) (c + 1)) (omega arith))
      ∙ ap (λ (o : Outcome). cond (eqb (p + 1) c) (R (climb_in g (branch (label kind.Tuple 0 from (c + 1)) us) (c + 1))) o)
      (first q (expr true 0 (p + 1) c) (after_by reading page ts job.Item (wait (frame job.Item from g k) p us) c) (omega arith))
