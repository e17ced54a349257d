-- The reading of an expression, by recursive descent: a tree with the place where it stops, or the first refusal. Assumes nothing.
use Rattle.std.specs.Prelude.{ℕ, ◌+◌, ◌-◌, Bool, true, false, cond, not, List, length, Some, Ok, Err, Option, Result, ◌==◌}
use Rattle.refusals.specs.declared.Part.{Part}
use Rattle.refusals.specs.declared.Part.TheVariants as part
use Rattle.refusals.specs.declared.Denial.{Denial}
use Rattle.refusals.specs.declared.Refusal.{Refusal}
use Rattle.refusals.specs.declared.Refusal.TheVariants as refusal
use Rattle.tokens.specs.declared.Token.{Token}
use Rattle.tokens.specs.declared.Delimiter.TheVariants.{Paren, Bracket}
use Rattle.tokens.specs.declared.Look.{Look}
use Rattle.tokens.specs.declared.Look.TheVariants as look
use Rattle.tokens.specs.Looks.{Field, look_at, mark_at, two_at, level_of}
use Rattle.operators.specs.declared.Infix.{Infix}
use Rattle.operators.specs.declared.Infix.TheVariants as infix_op
use Rattle.operators.specs.Codes.{code_of}
use Rattle.operators.specs.Ranks.{rank_of, rank_of_code, above_rank}
use Rattle.trees.specs.declared.Kind.{Kind}
use Rattle.trees.specs.declared.Kind.TheVariants as kind
use Rattle.trees.specs.declared.Label.{Label}
use Rattle.trees.specs.Kinds.{kind_number}
use Rattle.trees.specs.Layout.{Tree, Trees, branch, none, ◌then◌, label_of}
use Rattle.grammar.specs.Knot.{tied}
use Rattle.grammar.specs.Heads.{head_at}
use Rattle.grammar.specs.Tails.{tail_at}
use Rattle.grammar.specs.declared.Head.{Head}
use Rattle.grammar.specs.declared.Head.TheVariants.{Leaf, Prefix, Group}
use Rattle.grammar.specs.declared.Tail.{Tail}
use Rattle.grammar.specs.declared.Tail.TheVariants.{Takes, Endless, Casts, Stop}

abbrev pub label : Kind → ℕ → ℕ → ℕ → Label
label k o f t = record { kind = k; op = o; from = f; to = t }

-- the kind and the op of the node that an operator makes
abbrev pub kind_of : Infix → Kind
kind_of (infix_op.Binary c) = kind.Binary
kind_of infix_op.Assign = kind.Assign
kind_of (infix_op.Range closed) = kind.Range
kind_of infix_op.Cast = kind.Cast

abbrev pub op_of : Infix → ℕ
op_of (infix_op.Binary c) = code_of c
op_of infix_op.Assign = 0
op_of (infix_op.Range closed) = cond closed 1 0
op_of infix_op.Cast = 0

-- the rank of a node by its kind and op: 0 of one that is not infix; a range without a start has the rank of ranges too
abbrev pub rank_by : Kind → ℕ → ℕ
rank_by k o =
    cond (kind_number k == 20) (rank_of_code o)
    (cond (kind_number k == 21) 1
    (cond (kind_number k == 22) 2
    (cond (kind_number k == 23) 12 0)))

abbrev pub tree_rank : Tree → ℕ
tree_rank t = rank_by (label_of t).kind (label_of t).op

pub data Outcome : Type 0 where
  -- a tree, and the place where its reading stopped
  took : Tree → ℕ → Outcome
  refused : Refusal → Outcome

abbrev pub and_then : Outcome → (Tree → ℕ → Outcome) → Outcome
and_then (took t q) next = next t q
and_then (refused r) next = refused r

pub data Task : Type 0 where
  -- an expression at p, of operators that rank b or more, in the level that ends at e;
  -- f tells whether a path before `{` is a struct
  expr : (f : Bool) (b p e : ℕ) → Task
  -- what goes on from the left operand t, which ended at p
  climb : (f : Bool) (b : ℕ) → Tree → (p e : ℕ) → Task
  -- the items of a tuple from p up to its closer c, behind those that were read, and what goes on behind it
  items : (f : Bool) (b from : ℕ) → Trees → (p c e : ℕ) → Task

-- the tokens left: a task may ask only for one with fewer
abbrev pub left : Task → ℕ
left (expr f b p e) = e - p
left (climb f b t p e) = e - p
left (items f b from us p c e) = e - p

module _ (ts : List Token) where
  abbrev pub comma_at : ℕ → ℕ → Bool
  comma_at p e = mark_at ts e p == 44

  -- `(` and `[`
  abbrev pub trailer_by : Option Look → Bool
  trailer_by (Some (look.Open Paren n)) = true
  trailer_by (Some (look.Open Bracket n)) = true
  trailer_by o = false

  -- what may not follow a cast: `.` but not `..`, `?`, `[` and `(`
  abbrev pub cast_followed : ℕ → ℕ → Bool
  cast_followed p e =
      cond (mark_at ts e p == 46) (not (two_at ts e p 46 46))
      (cond (mark_at ts e p == 63) true (trailer_by (look_at ts e p)))

module _ (reading : Part → List Field → Result ℕ Denial) (page : List ℕ) (ts : List Token) where
  -- a part that the host reads, as a node of its own
  abbrev pub part_by : Kind → Part → ℕ → Result ℕ Denial → Outcome
  part_by k w p (Ok n) = took (branch (label k 0 p (p + n)) none) (p + n)
  part_by k w p (Err d) = refused (refusal.HostRefused p w d)

  abbrev pub part_at : Kind → Part → ℕ → ℕ → Outcome
  part_at k w p e = part_by k w p (reading w (level_of page ts p e))

  -- the grammar, over the answers to smaller tasks
  module _ (read : Task → Outcome) where
    abbrev pub go_on : Bool → ℕ → Label → Trees → ℕ → Outcome
    go_on f b l us e = read (climb f b (branch l us) l.to e)

    -- behind an item: the closer, or a comma and the items that are left
    abbrev pub after_item : Kind → Bool → ℕ → ℕ → Trees → ℕ → ℕ → ℕ → Outcome
    after_item k f b from us q c e =
        cond (q == c) (go_on f b (label k 0 from (c + 1)) us e)
        (cond (comma_at ts q c) (read (items f b from us (q + 1) c e)) (refused (refusal.MarkExpected q)))

    -- an operand, and then the operators that take it
    abbrev pub from_head : Bool → ℕ → ℕ → ℕ → Result Head Refusal → Outcome
    from_head f b p e (Ok (Leaf k q)) = go_on f b (label k 0 p q) none e
    from_head f b p e (Ok (Prefix k o q r)) =
        and_then (read (expr f r q e))
        (λ t s. go_on f b (label k o p s) (none then t) e)
    from_head f b p e (Ok (Group i c)) =
        and_then (read (expr true 0 i c))
        (λ t q. after_item kind.Paren f b p (none then t) q c e)
    from_head f b p e (Err r) = refused r

    abbrev pub from_tail : Bool → ℕ → Tree → ℕ → ℕ → Result Tail Refusal → Outcome
    from_tail f b t p e (Ok (Takes o q)) =
        and_then (read (expr f (above_rank (rank_of o)) q e))
        (λ u s. go_on f b (label (kind_of o) (op_of o) (label_of t).from s) (none then t then u) e)
    from_tail f b t p e (Ok (Endless q)) = go_on f b (label kind.Range 0 (label_of t).from q) (none then t) e
    from_tail f b t p e (Ok (Casts i)) =
        and_then (part_at kind.TypeName part.TypeName i e)
        (λ u q. cond (cast_followed ts q e) (refused (refusal.CastFollowed q))
        (go_on f b (label kind.Cast 0 (label_of t).from q) (none then t then u) e))
    from_tail f b t p e (Ok Stop) = took t p
    from_tail f b t p e (Err r) = refused r

    abbrev pub from_items : Bool → ℕ → ℕ → Trees → ℕ → ℕ → ℕ → Outcome
    from_items f b from us p c e =
        cond (p == c) (go_on f b (label kind.Tuple 0 from (c + 1)) us e)
        (and_then (read (expr true 0 p c))
        (λ t q. after_item kind.Tuple f b from (us then t) q c e))

    abbrev pub grammar : Task → Outcome
    grammar (expr f b p e) = from_head f b p e (head_at reading page ts f p e)
    grammar (climb f b t p e) = from_tail f b t p e (tail_at ts f b (tree_rank t) p e)
    grammar (items f b from us p c e) = from_items f b from us p c e

  -- the grammar asked of itself; the crate `ownership` proves that a task never asks for one that is not smaller
  unfoldable pub read_task : Task → Outcome
  read_task = tied left (refused refusal.SheetFull) grammar

  -- one expression from the page's first token on, as far as it goes
  abbrev pub read_expr : Bool → Outcome
  read_expr f = read_task (expr f 0 0 (length ts))

-- where a reading stopped, or why it was refused
abbrev pub answer : Outcome → Result ℕ Refusal
answer (took t q) = Ok q
answer (refused r) = Err r
