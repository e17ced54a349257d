-- No node of a rule spans a token past the page's last one. Assumes nothing.
use Rattle.std.proofs.Common.{◌≡◌, ℕ, zero, suc, ◌+◌, ◌-◌, ◌<◌, ◌≤◌, Bool, true, false, cond, eqb, ltb, leb, List, [], ◌∷◌, ◌++◌, length, get_or, Some, None, Ok, Err, Option, Result, refl, ap, arith, ltb-true, leb-true}
use Rattle.refusals.specs.declared.Part.{Part}
use Rattle.refusals.specs.declared.Refusal.{Refusal}
use Rattle.refusals.specs.declared.Refusal.TheVariants.{SheetFull, LeftOver}
use Rattle.tokens.specs.Looks.{Field}
use Rattle.trees.specs.declared.Node.{Node}
use Rattle.trees.specs.Layout.{Tree, Trees, branch, none, ◌then◌, size, sizes, root_at, lay, lays}
use Rattle.hosts.specs.Lawful.{Lawful}
use Rattle.pages.specs.Pages.{tokens_of, fault_of}
use Rattle.grammar.specs.Grammar.{Outcome, took, refused, read_expr}
use Rattle.ownership.specs.Ownership.{Inside, AllInside}
use Rattle.ownership.proofs.Readings.{few_nodes, reads_own}
use Rattle.sheets.specs.Model.{Reading, Entry, Room, whole, fitting, unless_fault, entry_of, no_node}
use Rattle.sheets.specs.States.{Short}

pub short_append : (xs ys : List Node) → Short xs → Short ys → Short (xs ++ ys)
short_append [] ys a b = b
short_append (x ∷ xs) ys a b = (a.0, a.1, short_append xs ys a.2 b)

mutual
  pub short_lay : (e : ℕ) → e ≤ 4096 → (t : Tree) → Inside e t → (j : ℕ) (nx : Option ℕ) → Short (lay j nx t)
  short_lay e h (branch l us) i j nx = short_append _ _ (short_lays e h us i.2 j None) (omega (arith, i.0), omega (arith, i.1), tt)

  short_lays : (e : ℕ) → e ≤ 4096 → (us : Trees) → AllInside e us → (j : ℕ) (nx : Option ℕ) → Short (lays j nx us)
  short_lays e h none i j nx = tt
  short_lays e h (us then u) i j nx = short_append _ _ (short_lays e h us i.0 j (Some (root_at (j + sizes us) u))) (short_lay e h u i.1 (j + sizes us) nx)

pub short_at : (ns : List Node) (i : ℕ) → Short ns → ((get_or ns i no_node).label.from ≤ 4096) × ((get_or ns i no_node).label.to ≤ 4096)
short_at [] i s = (omega arith, omega arith)
short_at (n ∷ ns) zero s = (s.0, s.1)
short_at (n ∷ ns) (suc i) s = short_at ns i s.2

-- what is known of an entry that is accepted

whole_took : (n : ℕ) (o : Outcome) (e : Entry) → whole n o ≡ Ok e → o ≡ took e.tree e.used
whole_took n (took t q) e is = go (eqb q n) is
  where
    go : (b : Bool) → cond b (Ok (record { tree = t; used = q })) (Err (LeftOver q)) ≡ Ok e → took t q ≡ took e.tree e.used
    go true h = let z : record { tree = t; used = q } ≡ e = cc in ap (λ (x : Entry). took x.tree x.used) z
    go false h = cc
whole_took n (refused r) e is = cc

fitting_ok : (w : Room) (n r k : ℕ) (o : Result Entry Refusal) (e : Entry) → fitting w n r k o ≡ Ok e → (k ≤ w.nodes - n) × (r < w.rules) × (o ≡ Ok e)
fitting_ok w n r k o e is = go (leb k (w.nodes - n)) (ltb r w.rules) refl refl is
  where
    go : (a b : Bool) → leb k (w.nodes - n) ≡ a → ltb r w.rules ≡ b → cond a (cond b o (Err SheetFull)) (Err SheetFull) ≡ Ok e → (k ≤ w.nodes - n) × (r < w.rules) × (o ≡ Ok e)
    go true true p q h = (leb-true k (w.nodes - n) p, ltb-true r w.rules q, h)
    go true false p q h = cc
    go false b p q h = cc

fault_ok : (f : Option Refusal) (o : Result Entry Refusal) (e : Entry) → unless_fault f o ≡ Ok e → o ≡ Ok e
fault_ok None o e is = is
fault_ok (Some f) o e is = cc

-- it leaves the room that there is, and its nodes are short
pub record Taken (w : Room) (n r : ℕ) (e : Entry) : Type 0 where
  pub nodes : size e.tree ≤ w.nodes - n
  pub rules : r < w.rules
  pub short : (j : ℕ) → Short (lay j None e.tree)

pub taken_in : (w : Room) (n r : ℕ) (reading : Reading) → ((p : Part) (l : List Field) → Lawful l (reading p l))
    → (page : List ℕ) (k : ℕ) (structs : Bool) (e : Entry) → length (tokens_of k page) ≤ 4096
    → entry_of w n r reading page k structs ≡ Ok e → Taken w n r e
taken_in w n r reading law page k structs e few is =
    let f = fitting_ok w n r (length (tokens_of k page)) (whole (length (tokens_of k page)) (read_expr reading page (tokens_of k page) structs)) e (fault_ok (fault_of k page) _ e is) in
    let o = whole_took (length (tokens_of k page)) (read_expr reading page (tokens_of k page) structs) e f.2 in
    let own = few_nodes reading law page (tokens_of k page) structs 0 0 (length (tokens_of k page)) e.tree e.used o in
    let within = reads_own reading law page (tokens_of k page) structs 0 0 (length (tokens_of k page)) e.tree e.used o in
    record { nodes = omega (arith, own.0, f.0, within.4); rules = f.1; short = λ j. short_lay (length (tokens_of k page)) few e.tree own.1 j None }
