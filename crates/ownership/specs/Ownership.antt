-- What it is for each node of a tree to own a token, and the law that every tree which is read is so. Assumes nothing.
use Rattle.std.specs.Prelude.{◌≡◌, ℕ, ◌+◌, ◌-◌, ◌<◌, ◌≤◌, Bool, List, Result}
use Rattle.refusals.specs.declared.Part.{Part}
use Rattle.refusals.specs.declared.Denial.{Denial}
use Rattle.tokens.specs.declared.Token.{Token}
use Rattle.tokens.specs.Looks.{Field}
use Rattle.hosts.specs.Lawful.{Lawful}
use Rattle.trees.specs.Layout.{Tree, Trees, branch, none, ◌then◌, label_of, size}
use Rattle.grammar.specs.Grammar.{took, expr, read_task}

-- how many tokens a tree spans: from its first one up to one past its last
abbrev pub span : Tree → ℕ
span t = (label_of t).to - (label_of t).from

-- how many tokens the children span, one with another
abbrev pub covered : Trees → ℕ
covered none = 0
covered (us then u) = covered us + span u

abbrev mutual
  -- a node spans some tokens; its children lie inside it; and of its tokens at least one is in no child, which it owns
  pub Spanned : Tree → Type 0
  Spanned (branch l us) = (l.from < l.to) × Row l.from l.to us × (covered us + 1 ≤ l.to - l.from)

  -- the children lie between f and t, each behind the one before it
  pub Row : ℕ → ℕ → Trees → Type 0
  Row f t none = f ≤ t
  Row f t (us then u) = Row f (label_of u).from us × Spanned u × ((label_of u).to ≤ t)

abbrev mutual
  -- every node of a tree begins and ends at e or before
  pub Inside : ℕ → Tree → Type 0
  Inside e (branch l us) = (l.from ≤ e) × (l.to ≤ e) × AllInside e us

  pub AllInside : ℕ → Trees → Type 0
  AllInside e none = Unit {0}
  AllInside e (us then u) = AllInside e us × Inside e u

-- P holds of the places p and e, the tree t and the place q wherever t is what was read from p on in a level that ends at e,
-- and its reading stopped at q: under every lawful host, on every page, for operators of every rank
abbrev pub OfEveryReading : (ℕ → ℕ → Tree → ℕ → Type 0) → Type 0
OfEveryReading P =
    (reading : Part → List Field → Result ℕ Denial) → ((part : Part) (l : List Field) → Lawful l (reading part l))
    → (page : List ℕ) (ts : List Token) (f : Bool) (b p e : ℕ) (t : Tree) (q : ℕ)
    → read_task reading page ts (expr f b p e) ≡ took t q → P p e t q

-- a tree that is read spans the tokens from the first one up to where its reading stopped, and each of its nodes owns one
abbrev pub ReadsOwn : Type 0
ReadsOwn = OfEveryReading (λ p e t q. Spanned t × ((label_of t).from ≡ p) × ((label_of t).to ≡ q) × (p < q) × (q ≤ e))

-- so its nodes never outnumber the tokens that were read, and none lies outside the level
abbrev pub FewNodes : Type 0
FewNodes = OfEveryReading (λ p e t q. (size t ≤ q - p) × Inside e t)
