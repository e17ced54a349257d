-- Rows of children, the nodes that are made of them, and how many nodes there can be. Assumes nothing.
use Rattle.std.proofs.Common.{ℕ, ◌+◌, ◌<◌, ◌≤◌, arith}
use Rattle.trees.specs.declared.Kind.{Kind}
use Rattle.trees.specs.Layout.{Tree, Trees, branch, none, ◌then◌, label_of, size, sizes}
use Rattle.grammar.specs.Grammar.{label}
use Rattle.ownership.specs.Ownership.{span, covered, Spanned, Row, Inside, AllInside}

pub some_tokens : (t : Tree) → Spanned t → (label_of t).from < (label_of t).to
some_tokens (branch l us) s = s.0

-- a row may end later, and begin earlier
pub later : (f t s : ℕ) (us : Trees) → t ≤ s → Row f t us → Row f s us
later f t s none h row = grind arith
later f t s (us then u) h row = grind arith

earlier : (f g t : ℕ) (us : Trees) → g ≤ f → Row f t us → Row g t us
earlier f g t none h row = grind arith
earlier f g t (us then u) h row = grind (arith, earlier f g (label_of u).from us)

-- children in a row cover no more than the row is long
pub covers : (f t : ℕ) (us : Trees) → Row f t us → covered us + f ≤ t
covers f t none row = grind arith
covers f t (us then u) row = grind (arith, covers f (label_of u).from us, some_tokens)

-- a node owns its first token if its children begin behind it
pub owns_first : (k : Kind) (o f t : ℕ) (us : Trees) → Row (f + 1) t us → Spanned (branch (label k o f t) us)
owns_first k o f t us row = grind (arith, covers, earlier)

-- and its last token if they end before it
pub owns_last : (k : Kind) (o t : ℕ) (u : Tree) → Spanned u → (label_of u).to < t → Spanned (branch (label k o (label_of u).from t) (none then u))
owns_last k o t u su h = grind (arith, some_tokens)

-- and what stands between two of them
pub owns_between : (k : Kind) (o t : ℕ) (u v : Tree) → Spanned u → Spanned v → (label_of u).to < (label_of v).from → (label_of v).to ≤ t
    → Spanned (branch (label k o (label_of u).from t) (none then u then v))
owns_between k o t u v su sv h e = grind (arith, some_tokens)

mutual
  -- each node owns a token, so there are at most as many
  pub few : (t : Tree) → Spanned t → size t ≤ span t
  few (branch l us) s = grind (arith, few_all l.from l.to us s.1)

  few_all : (f t : ℕ) (us : Trees) → Row f t us → sizes us ≤ covered us
  few_all f t none row = grind arith
  few_all f t (us then u) row = grind (arith, few_all f (label_of u).from us row.0, few u row.1)

mutual
  -- no node ends behind the root
  pub inside : (e : ℕ) (t : Tree) → Spanned t → (label_of t).to ≤ e → Inside e t
  inside e (branch l us) s h = grind (arith, all_inside e l.from l.to us s.1 h)

  all_inside : (e f t : ℕ) (us : Trees) → Row f t us → t ≤ e → AllInside e us
  all_inside e f t none row h = tt
  all_inside e f t (us then u) row h = grind (arith, some_tokens, all_inside e f (label_of u).from us row.0, inside e u row.1)
