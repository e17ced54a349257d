-- Every tree that is read has its tokens owned: by induction over the tasks of reading, a clause of the grammar at a time. Assumes nothing.
use Rattle.std.proofs.Common.{◌≡◌, ℕ, ◌+◌, ◌<◌, ◌≤◌, Bool, true, List, Ok, Err, Result, refl, arith}
use Rattle.refusals.specs.declared.Part.{Part}
use Rattle.refusals.specs.declared.Part.TheVariants as part
use Rattle.refusals.specs.declared.Denial.{Denial}
use Rattle.refusals.specs.declared.Refusal.{Refusal}
use Rattle.refusals.specs.declared.Refusal.TheVariants as refusal
use Rattle.tokens.specs.declared.Token.{Token}
use Rattle.tokens.specs.Looks.{Field, level_of}
use Rattle.operators.specs.Ranks.{rank_of, above_rank}
use Rattle.hosts.specs.Lawful.{Lawful}
use Rattle.trees.specs.declared.Kind.{Kind}
use Rattle.trees.specs.declared.Kind.TheVariants as kind
use Rattle.trees.specs.declared.Label.{Label}
use Rattle.trees.specs.Layout.{Tree, Trees, branch, none, ◌then◌, label_of}
use Rattle.grammar.specs.Heads.{head_at}
use Rattle.grammar.specs.Tails.{tail_at}
use Rattle.grammar.specs.Grammar.{label, tree_rank, Outcome, took, refused, and_then, Task, expr, climb, items, left, part_by, part_at, go_on, after_item, from_head, from_tail, from_items, grammar, read_task}
use Rattle.grammar.specs.declared.Head.{Head}
use Rattle.grammar.specs.declared.Head.TheVariants.{Leaf, Prefix, Group}
use Rattle.grammar.specs.declared.Tail.{Tail}
use Rattle.grammar.specs.declared.Tail.TheVariants.{Takes, Endless, Casts, Stop}
use Rattle.grammar.proofs.Levels.{taken}
use Rattle.grammar.proofs.Steps.{GoodHead, GoodTail, good_head, good_tail}
use Rattle.ownership.specs.Ownership.{Spanned, Row, ReadsOwn, FewNodes}
use Rattle.ownership.proofs.Knots.{tied_keeps}
use Rattle.ownership.proofs.Rows.{some_tokens, later, owns_first, owns_last, owns_between, few, inside}

-- the tree of an outcome begins at p and ends where its reading stopped, at e or before, and each of its nodes owns a token
abbrev Owned : ℕ → ℕ → Outcome → Type 0
Owned p e (took t q) = Spanned t × ((label_of t).from ≡ p) × ((label_of t).to ≡ q) × (q ≤ e)
Owned p e (refused r) = Unit {0}

-- the outcome of a task is so: of a climb, if its left operand was; of items, if those that were read stand in a row
abbrev Owns : Task → Outcome → Type 0
Owns (expr f b p e) o = Owned p e o
Owns (climb f b t p e) o = Spanned t → (label_of t).to ≡ p → p ≤ e → Owned (label_of t).from e o
Owns (items f b from us p c e) o = Row (from + 1) p us → p ≤ c → c < e → Owned from e o

-- a child that was read joins those before it
joins : (f p e : ℕ) (us : Trees) (t : Tree) (q : ℕ) → Row f p us → Owned p e (took t q) → Row f q (us then t)
joins f p e us t q row got = grind (arith, later)

module _ (reading : Part → List Field → Result ℕ Denial) (law : (w : Part) (l : List Field) → Lawful l (reading w l)) (page : List ℕ) (ts : List Token) where
  -- a part that the host reads is a node of its own
  part_by_lem : (k : Kind) (w : Part) (p e : ℕ) (r : Result ℕ Denial) → r ≡ reading w (level_of page ts p e) → Owned p e (part_by reading page ts k w p r)
  part_by_lem k w p e (Ok n) is = grind (arith, taken page ts p e n, law w (level_of page ts p e), owns_first)
  part_by_lem k w p e (Err d) is = tt

  part_owned : (k : Kind) (w : Part) (p e : ℕ) → Owned p e (part_at reading page ts k w p e)
  part_owned k w p e = part_by_lem k w p e (reading w (level_of page ts p e)) refl

  module _ (read : Task → Outcome) (owns : (u : Task) → Owns u (read u)) where
    goes_on : (f : Bool) (b : ℕ) (l : Label) (us : Trees) (e : ℕ) → Spanned (branch l us) → l.to ≤ e → Owned l.from e (go_on reading page ts read f b l us e)
    goes_on f b l us e s h = owns (climb f b (branch l us) l.to e) s refl h

    -- a group from its opener up to its closer, with what was read between them
    closes : (k : Kind) (f : Bool) (b from : ℕ) (us : Trees) (p c e : ℕ) → Row (from + 1) p us → p ≤ c → c < e
        → Owned from e (go_on reading page ts read f b (label k 0 from (c + 1)) us e)
    closes k f b from us p c e row h m =
        grind (arith, goes_on f b (label k 0 from (c + 1)) us e, owns_first k 0 from (c + 1) us, later (from + 1) p (c + 1) us)

    after_item_lem : (k : Kind) (f : Bool) (b from : ℕ) (us : Trees) (q c e : ℕ) → Row (from + 1) q us → q ≤ c → c < e
        → Owned from e (after_item reading page ts read k f b from us q c e)
    after_item_lem k f b from us q c e row h m = grind (arith, closes, owns (items f b from us (q + 1) c e), later (from + 1) q (q + 1) us)

    -- an item, read from p on, behind those that were read
    with_item : (k : Kind) (f : Bool) (b from : ℕ) (us : Trees) (p c e : ℕ) → Row (from + 1) p us → c < e
        → Owned from e (and_then (read (expr true 0 p c)) (λ t q. after_item reading page ts read k f b from (us then t) q c e))
    with_item k f b from us p c e row m = grind (arith, owns (expr true 0 p c), after_item_lem, joins)

    from_head_lem : (f : Bool) (b p e : ℕ) (h : Result Head Refusal) → GoodHead p e h → Owned p e (from_head reading page ts read f b p e h)
    from_head_lem f b p e (Ok (Leaf k q)) good = grind (arith, goes_on f b (label k 0 p q) none e, owns_first k 0 p q none)
    from_head_lem f b p e (Ok (Prefix k o q r)) good = grind (arith, owns (expr f r q e), goes_on, owns_first, joins)
    from_head_lem f b p e (Ok (Group i c)) good = grind (arith, with_item)
    from_head_lem f b p e (Err r) good = tt

    from_tail_lem : (f : Bool) (b : ℕ) (t : Tree) (p e : ℕ) (h : Result Tail Refusal) → GoodTail p e h → Spanned t → (label_of t).to ≡ p → p ≤ e
        → Owned (label_of t).from e (from_tail reading page ts read f b t p e h)
    from_tail_lem f b t p e (Ok (Takes o q)) good s is m = grind (arith, owns (expr f (above_rank (rank_of o)) q e), goes_on, owns_between)
    from_tail_lem f b t p e (Ok (Endless q)) good s is m = grind (arith, goes_on, owns_last)
    from_tail_lem f b t p e (Ok (Casts i)) good s is m = grind (arith, part_owned kind.TypeName part.TypeName i e, goes_on, owns_between)
    from_tail_lem f b t p e (Ok Stop) good s is m = (s, refl, is, m)
    from_tail_lem f b t p e (Err r) good s is m = tt

    from_items_lem : (f : Bool) (b from : ℕ) (us : Trees) (p c e : ℕ) → Row (from + 1) p us → p ≤ c → c < e
        → Owned from e (from_items reading page ts read f b from us p c e)
    from_items_lem f b from us p c e row h m = grind (arith, closes, with_item)

    grammar_owns : (q : Task) → Owns q (grammar reading page ts read q)
    grammar_owns (expr f b p e) = from_head_lem f b p e (head_at reading page ts f p e) (good_head reading law page ts p e f)
    grammar_owns (climb f b t p e) = from_tail_lem f b t p e (tail_at ts f b (tree_rank t) p e) (good_tail ts f p e b (tree_rank t))
    grammar_owns (items f b from us p c e) = from_items_lem f b from us p c e

  stuck_owns : (q : Task) → Owns q (refused refusal.SheetFull)
  stuck_owns (expr f b p e) = tt
  stuck_owns q = λ _ _ _. tt

  pub read_owns : (q : Task) → Owns q (read_task reading page ts q)
  unfolding read_task
  read_owns = tied_keeps left (refused refusal.SheetFull) (grammar reading page ts) Owns stuck_owns grammar_owns

pub reads_own : ReadsOwn
reads_own reading law page ts f b p e t q is = grind (arith, read_owns reading law page ts (expr f b p e), some_tokens)

pub few_nodes : FewNodes
few_nodes reading law page ts f b p e t q is = grind (arith, reads_own reading law page ts f b p e t q is, few, inside)
