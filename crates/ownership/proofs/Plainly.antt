-- Each task that a clause of the grammar asks for has fewer tokens left, so the guard on it never decides. Assumes nothing.
use Rattle.std.proofs.Common.{◌≡◌, ℕ, ◌+◌, ◌-◌, ◌<◌, ◌≤◌, Bool, true, List, Ok, Err, Result, refl, ◌∙◌, arith}
use Rattle.refusals.specs.declared.Part.{Part}
use Rattle.refusals.specs.declared.Denial.{Denial}
use Rattle.refusals.specs.declared.Refusal.{Refusal}
use Rattle.refusals.specs.declared.Refusal.TheVariants as refusal
use Rattle.tokens.specs.declared.Token.{Token}
use Rattle.tokens.specs.Looks.{Field}
use Rattle.operators.specs.Ranks.{rank_of, above_rank}
use Rattle.hosts.specs.Lawful.{Lawful}
use Rattle.trees.specs.declared.Kind.{Kind}
use Rattle.trees.specs.declared.Kind.TheVariants as kind
use Rattle.trees.specs.declared.Label.{Label}
use Rattle.trees.specs.Layout.{Tree, Trees, branch, none, ◌then◌}
use Rattle.grammar.specs.Knot.{below}
use Rattle.grammar.specs.Heads.{head_at}
use Rattle.grammar.specs.Tails.{tail_at}
use Rattle.grammar.specs.Grammar.{label, tree_rank, Outcome, refused, and_then, Task, expr, climb, items, left, go_on, after_item, from_head, from_tail, from_items, grammar, read_task}
use Rattle.grammar.specs.declared.Head.{Head}
use Rattle.grammar.specs.declared.Head.TheVariants.{Leaf, Prefix, Group}
use Rattle.grammar.specs.declared.Tail.{Tail}
use Rattle.grammar.specs.declared.Tail.TheVariants.{Takes, Endless, Casts, Stop}
use Rattle.grammar.proofs.Knots.{unfolds, asks}
use Rattle.grammar.proofs.Steps.{GoodHead, GoodTail, good_head, good_tail}
use Rattle.ownership.specs.Plainly.{PlainExpr, PlainClimb, PlainItems, ReadsPlainly}
use Rattle.ownership.proofs.Readings.{read_owns}
use Rattle.ownership.proofs.Rows.{some_tokens}

module _ (reading : Part → List Field → Result ℕ Denial) (law : (w : Part) (l : List Field) → Lawful l (reading w l)) (page : List ℕ) (ts : List Token) where
  abbrev outcome : Task → Outcome
  outcome = read_task reading page ts

  -- the outcomes that a task is given for those it asks for
  abbrev guarded : Task → Task → Outcome
  guarded = below left (refused refusal.SheetFull) (grammar reading page ts) outcome

  is_guarded : (task : Task) → outcome task ≡ grammar reading page ts (guarded task) task
  unfolding read_task
  is_guarded task = unfolds left (refused refusal.SheetFull) (grammar reading page ts) task

  asked : (task u : Task) → left u < left task → guarded task u ≡ outcome u
  unfolding read_task
  asked task u h = asks left (refused refusal.SheetFull) (grammar reading page ts) task u h

  -- a reader of tasks that agrees with the definition wherever fewer than n tokens are left
  module _ (n : ℕ) (read : Task → Outcome) (agrees : (u : Task) → left u < n → read u ≡ outcome u) where
    goes_on : (f : Bool) (b : ℕ) (l : Label) (us : Trees) (e : ℕ) → e - l.to < n → go_on reading page ts read f b l us e ≡ go_on reading page ts outcome f b l us e
    goes_on f b l us e h = agrees (climb f b (branch l us) l.to e) h

    after_item_lem : (k : Kind) (f : Bool) (b from : ℕ) (us : Trees) (q c e : ℕ) → e - (c + 1) < n → e - (q + 1) < n
        → after_item reading page ts read k f b from us q c e ≡ after_item reading page ts outcome k f b from us q c e
    after_item_lem k f b from us q c e h m =
        grind (arith, goes_on f b (label k 0 from (c + 1)) us e, agrees (items f b from us (q + 1) c e))

    -- an item, read from p on, behind those that were read
    with_item : (k : Kind) (f : Bool) (b from : ℕ) (us : Trees) (p c e : ℕ) → c - p < n → e - p ≤ n → c < e
        → and_then (read (expr true 0 p c)) (λ t q. after_item reading page ts read k f b from (us then t) q c e)
        ≡ and_then (outcome (expr true 0 p c)) (λ t q. after_item reading page ts outcome k f b from (us then t) q c e)
    with_item k f b from us p c e h m s = grind (arith, agrees (expr true 0 p c), read_owns reading law page ts (expr true 0 p c), some_tokens, after_item_lem)

    from_head_lem : (f : Bool) (b p e : ℕ) (h : Result Head Refusal) → GoodHead p e h → e - p ≤ n → from_head reading page ts read f b p e h ≡ from_head reading page ts outcome f b p e h
    from_head_lem f b p e (Ok (Leaf k q)) good m = grind (arith, goes_on)
    from_head_lem f b p e (Ok (Prefix k o q r)) good m = grind (arith, agrees (expr f r q e), read_owns reading law page ts (expr f r q e), some_tokens, goes_on)
    from_head_lem f b p e (Ok (Group i c)) good m = grind (arith, with_item kind.Paren f b p none i c e)
    from_head_lem f b p e (Err r) good m = refl

    from_tail_lem : (f : Bool) (b : ℕ) (t : Tree) (p e : ℕ) (h : Result Tail Refusal) → GoodTail p e h → e - p ≤ n
        → from_tail reading page ts read f b t p e h ≡ from_tail reading page ts outcome f b t p e h
    from_tail_lem f b t p e (Ok (Takes o q)) good m = grind (arith, agrees (expr f (above_rank (rank_of o)) q e), read_owns reading law page ts (expr f (above_rank (rank_of o)) q e), some_tokens, goes_on)
    from_tail_lem f b t p e (Ok (Endless q)) good m = grind (arith, goes_on)
    from_tail_lem f b t p e (Ok (Casts i)) good m = grind (arith, goes_on)
    from_tail_lem f b t p e (Ok Stop) good m = refl
    from_tail_lem f b t p e (Err r) good m = refl

    from_items_lem : (f : Bool) (b from : ℕ) (us : Trees) (p c e : ℕ) → p ≤ c → c < e → e - p ≤ n
        → from_items reading page ts read f b from us p c e ≡ from_items reading page ts outcome f b from us p c e
    from_items_lem f b from us p c e h s m =
        grind (arith, goes_on f b (label kind.Tuple 0 from (c + 1)) us e, with_item kind.Tuple f b from us p c e)

  plain_expr : PlainExpr reading page ts
  plain_expr f b p e =
      is_guarded (expr f b p e)
      ∙ from_head_lem (e - p) (guarded (expr f b p e)) (asked (expr f b p e)) f b p e (head_at reading page ts f p e) (good_head reading law page ts p e f) (omega arith)

  plain_climb : PlainClimb reading page ts
  plain_climb f b t p e =
      is_guarded (climb f b t p e)
      ∙ from_tail_lem (e - p) (guarded (climb f b t p e)) (asked (climb f b t p e)) f b t p e (tail_at ts f b (tree_rank t) p e) (good_tail ts f p e b (tree_rank t)) (omega arith)

  plain_items : PlainItems reading page ts
  plain_items f b from us p c e h s =
      is_guarded (items f b from us p c e)
      ∙ from_items_lem (e - p) (guarded (items f b from us p c e)) (asked (items f b from us p c e)) f b from us p c e h s (omega arith)

pub reads_plainly : ReadsPlainly
reads_plainly reading law page ts = (plain_expr reading law page ts, plain_climb reading law page ts, plain_items reading law page ts)
