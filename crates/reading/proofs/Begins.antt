-- A turn where an operand or a type is to begin, or where an operand stands. Assumes nothing.
use Rattle.std.proofs.Common.{◌≡◌, ℕ, ◌+◌, List, ◌++◌, length, Some, None, Ok, Err, Option, Result, sym, refl, ap, ◌∙◌, add-zero, arith}
use Rattle.refusals.specs.declared.Part.TheVariants as part
use Rattle.refusals.specs.declared.Denial.{Denial}
use Rattle.refusals.specs.declared.Refusal.{Refusal}
use Rattle.refusals.specs.declared.Refusal.TheVariants as refusal
use Rattle.tokens.specs.Looks.{level_of}
use Rattle.operators.specs.Ranks.{rank_of, above_rank}
use Rattle.trees.specs.declared.Kind.TheVariants as kind
use Rattle.trees.specs.declared.Node.{Node}
use Rattle.trees.specs.Layout.{Tree, branch, none, ◌then◌, root_at, lay}
use Rattle.grammar.specs.declared.Head.{Head}
use Rattle.grammar.specs.declared.Head.TheVariants.{Leaf, Prefix, Group}
use Rattle.grammar.specs.declared.Tail.{Tail}
use Rattle.grammar.specs.declared.Tail.TheVariants.{Takes, Endless, Casts, Stop}
use Rattle.grammar.specs.Heads.{head_at}
use Rattle.grammar.specs.Tails.{tail_at}
use Rattle.grammar.specs.Grammar.{label, tree_rank, took, and_then, expr, part_by, part_at}
use Rattle.grammar.proofs.Levels.{taken}
use Rattle.grammar.proofs.Steps.{GoodHead, GoodTail}
use Rattle.reading.specs.Moves.{group_scope, ranked, spot, frame, no_links, one_link, begin_of, go_of, type_of}
use Rattle.reading.specs.Machine.{links_at, Wait, spilled, after_by, Applied}
use Rattle.reading.proofs.Means.{wait, climb_in, R, at_head, leaf_means, prefix_means, group_means, at_tail, takes_means, endless_means, casts_means}
use Rattle.reading.specs.declared.frames.Links.{Links}
use Rattle.reading.specs.declared.frames.Job.TheVariants as job
use Rattle.reading.specs.declared.frames.Scope.{Scope}
use Rattle.reading.specs.declared.frames.Frame.{Frame}
use Rattle.reading.specs.declared.frames.Left.TheVariants.{Nothing, TypeWanted, Operand, Whole}
use Rattle.reading.specs.declared.frames.Spot.{Spot}
use Rattle.reading.proofs.Keeping.{Ground, Stands, Keeps, On, ends, later, up, Base, emit_kept, made_kept, push_kept, refuse_kept}

module _ (G : Ground) where
  open G use {reading, law, page, ts, top, all, start as S}

  -- what stands at a spot where an operand or a type is to begin

  module _ (p : ℕ) (g : Scope) (N N' : List Node) (F F' : List Frame) (r : Result (Option Spot) Refusal) (c : ℕ) (counts : c ≡ length N) where
    pub head_kept : (h : Result Head Refusal) → head_at reading page ts g.structs p g.end ≡ h → GoodHead p g.end h
        → Stands G N F (spot p g Nothing)
        → Applied (begin_of c (spot p g Nothing) h) F F' N N' r
        → Keeps G F (spot p g Nothing) N' F' r
    head_kept (Ok (Leaf k q)) is good x a =
        let high = ends G x.waits p g.end x.stack in
        made_kept G (spot p g Nothing) N N' F F F' r x.waits (label k 0 p q) None none g c
        (record { flats = x.frames; holds = x.nodes; links = x.links }) refl counts
        (later G x.waits p q g.end (omega (arith, good.0)) x.stack) good.1 (omega (arith, x.room, good.0)) (omega (arith, good.0, good.1))
        (ap (On G x.waits g.end) (sym (leaf_means reading page ts p g k q is good.0 good.1)) ∙ x.means) a
    head_kept (Ok (Prefix k o q rank)) is good x a =
        let high = ends G x.waits p g.end x.stack in
        push_kept G (spot p g Nothing) N N' F F F' r x.waits (wait (frame (job.Operand k o) p g no_links) p none) q (ranked g rank) Nothing
        (record { flats = x.frames; holds = x.nodes; links = x.links }) refl (λ _. refl) (λ _. tt)
        (good.0, omega arith, later G x.waits p p g.end (omega arith) x.stack) good.1 (omega (arith, x.room, good.0)) (omega (arith, good.0, good.1))
        (ap (On G x.waits g.end) (sym (prefix_means reading page ts p g k o q rank is good.0 good.1)) ∙ x.means) a
    head_kept (Ok (Group i d)) is good x a =
        let high = ends G x.waits p g.end x.stack in
        push_kept G (spot p g Nothing) N N' F F F' r x.waits (wait (frame job.First p g no_links) p none) i (group_scope d) Nothing
        (record { flats = x.frames; holds = x.nodes; links = x.links }) refl (λ _. refl) (λ _. tt)
        (good.0, omega (arith, good.2), later G x.waits p p g.end (omega arith) x.stack) (omega (arith, good.1)) (omega (arith, x.room, good.0)) (omega (arith, good.0, good.1, good.2))
        (ap (On G x.waits g.end) (sym (group_means reading page ts p g i d is good.0 good.1 good.2)) ∙ x.means) a
    head_kept (Err y) is good x a =
        refuse_kept G (spot p g Nothing) N N' F F F' r x.waits g.end y _ x.nodes (ap (On G x.waits g.end) (sym (at_head reading page ts p g (Err y) is)) ∙ x.means) a

    pub type_kept : (o : Result ℕ Denial) → o ≡ reading part.TypeName (level_of page ts p g.end)
        → Stands G N F (spot p g TypeWanted)
        → Applied (type_of c (spot p g TypeWanted) o) F F' N N' r
        → Keeps G F (spot p g TypeWanted) N' F' r
    type_kept (Ok m) is x a =
        let high = ends G x.waits p g.end x.stack in
        let t = taken page ts p g.end m _ is (law part.TypeName (level_of page ts p g.end)) in
        emit_kept G (spot p g TypeWanted) N N' F F F' r x.waits (label kind.TypeName 0 p (p + m)) None none g (Whole c)
        (record { flats = x.frames; holds = x.nodes; links = x.links }) refl (λ _. refl) (λ h. h ∙ sym counts)
        (later G x.waits p (p + m) g.end (omega arith) x.stack) t.1 (omega (arith, x.room, t.0)) (omega (arith, t.0, t.1))
        (ap (λ (o : Result ℕ Denial). On G x.waits g.end (part_by reading page ts kind.TypeName part.TypeName p o)) is ∙ x.means) a
    type_kept (Err d) is x a =
        refuse_kept G (spot p g TypeWanted) N N' F F F' r x.waits g.end (refusal.HostRefused p part.TypeName d) _ x.nodes
        (ap (λ (o : Result ℕ Denial). On G x.waits g.end (part_by reading page ts kind.TypeName part.TypeName p o)) is ∙ x.means) a

  -- what follows an operand

  one_link_lem : (j root : ℕ) (t : Tree) → root_at j t ≡ root → one_link root ≡ links_at j (none then t)
  one_link_lem j root t h = ap one_link (sym (ap (λ (i : ℕ). root_at i t) (add-zero j) ∙ h))

  module _ (p : ℕ) (g : Scope) (from k root : ℕ) (N : List Node) (F : List Frame) (x : Stands G N F (spot p g (Operand from k root))) where
    -- the operand is the first child of what comes
    begun : Base G N F x.waits (none then x.tree)
    begun =
        record {
          flats = x.frames;
          holds = x.nodes ∙ ap (λ (j : ℕ). S ++ (spilled (length S) x.waits ++ lay j None x.tree)) (sym (add-zero (up G x.waits)));
          links = x.links;
        }

    tail_is : (h : Result Tail Refusal) → tail_at ts g.structs g.base k p g.end ≡ h → tail_at ts g.structs g.base (tree_rank x.tree) p g.end ≡ h
    tail_is h is = ap (λ (i : ℕ). tail_at ts g.structs g.base i p g.end) x.fit.1 ∙ is

    pub tail_kept : (N' : List Node) (F' : List Frame) (r : Result (Option Spot) Refusal) (c : ℕ) → c ≡ length N
        → (h : Result Tail Refusal) → tail_at ts g.structs g.base k p g.end ≡ h → GoodTail p g.end h → (h ≡ Ok Stop → ⊥)
        → Applied (go_of c (spot p g (Operand from k root)) from root h) F F' N N' r
        → Keeps G F (spot p g (Operand from k root)) N' F' r
    tail_kept N' F' r c counts (Ok (Takes o q)) is good on a =
        let high = ends G x.waits p g.end x.stack in
        let w : ℕ → Wait = λ i. wait (frame (job.Right o) i g (one_link root)) p (none then x.tree) in
        push_kept G (spot p g (Operand from k root)) N N' F F F' r x.waits (w from) q (ranked g (above_rank (rank_of o))) Nothing
        begun (one_link_lem (up G x.waits) root x.tree x.fit.2) (λ _. refl) (λ _. tt)
        (good.0, omega arith, later G x.waits p p g.end (omega arith) x.stack) good.1 (omega (arith, x.room, good.0)) (omega (arith, good.0, good.1))
        (ap (λ (i : ℕ). On G x.waits g.end (and_then (R reading page ts (expr g.structs (above_rank (rank_of o)) q g.end)) (after_by reading page ts (job.Right o) (w i) g.end))) (sym x.fit.0)
        ∙ ap (On G x.waits g.end) (sym (takes_means reading page ts x.tree p g (one_link root) o q (tail_is (Ok (Takes o q)) is) good.0 good.1)) ∙ x.means) a
    tail_kept N' F' r c counts (Ok (Endless q)) is good on a =
        let high = ends G x.waits p g.end x.stack in
        made_kept G (spot p g (Operand from k root)) N N' F F F' r x.waits (label kind.Range 0 from q) (Some root) (none then x.tree) g c
        begun (ap (λ (z : Links). z.first) (one_link_lem (up G x.waits) root x.tree x.fit.2)) counts
        (later G x.waits p q g.end (omega (arith, good.0)) x.stack) good.1 (omega (arith, x.room, good.0)) (omega (arith, good.0, good.1))
        (ap (λ (i : ℕ). On G x.waits g.end (R reading page ts (climb_in g (branch (label kind.Range 0 i q) (none then x.tree)) q))) (sym x.fit.0)
        ∙ ap (On G x.waits g.end) (sym (endless_means reading page ts x.tree p g q (tail_is (Ok (Endless q)) is) good.0 good.1)) ∙ x.means) a
    tail_kept N' F' r c counts (Ok (Casts i)) is good on a =
        let high = ends G x.waits p g.end x.stack in
        let w : ℕ → Wait = λ i. wait (frame job.CastTo i g (one_link root)) p (none then x.tree) in
        push_kept G (spot p g (Operand from k root)) N N' F F F' r x.waits (w from) i (ranked g 0) TypeWanted
        begun (one_link_lem (up G x.waits) root x.tree x.fit.2) (λ _. refl) (λ _. tt)
        (good.0, omega arith, later G x.waits p p g.end (omega arith) x.stack) good.1 (omega (arith, x.room, good.0)) (omega (arith, good.0, good.1))
        (ap (λ (j : ℕ). On G x.waits g.end (and_then (part_at reading page ts kind.TypeName part.TypeName i g.end) (after_by reading page ts job.CastTo (w j) g.end))) (sym x.fit.0)
        ∙ ap (On G x.waits g.end) (sym (casts_means reading page ts x.tree p g (one_link root) i (tail_is (Ok (Casts i)) is))) ∙ x.means) a
    tail_kept N' F' r c counts (Ok Stop) is good on a = absurd (on refl)
    tail_kept N' F' r c counts (Err y) is good on a =
        refuse_kept G (spot p g (Operand from k root)) N N' F F F' r x.waits g.end y _ x.nodes (ap (On G x.waits g.end) (sym (at_tail reading page ts x.tree p g (Err y) (tail_is (Err y) is))) ∙ x.means) a

    pub stopped : tail_at ts g.structs g.base k p g.end ≡ Ok Stop → R reading page ts (climb_in g x.tree p) ≡ took x.tree p
    stopped is = at_tail reading page ts x.tree p g (Ok Stop) (tail_is (Ok Stop) is)
