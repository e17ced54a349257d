-- Each call follows the model, and a sheet always stands for some model. Assumes nothing.
use Rattle.std.proofs.Common.{◌≡◌, ℕ, ◌+◌, ◌<◌, ◌≤◌, Bool, ltb, List, [], ◌∷◌, ◌++◌, length, get_or, take, None, Ok, Err, Result, sym, refl, ap, ◌∙◌, subst, arith, length-append, length-take, get_or-take, le-ltb, lt-ltb}
use mathlib.Core.Logic.{∥∥₁_map, ∥∥₁_elim}
use native.Mathlib.Bridge.{le_prop}
use Rattle.std.proofs.lemmas.Bool.{cond-true, cond-false}
use Rattle.refusals.specs.declared.Part.{Part}
use Rattle.refusals.specs.declared.Refusal.{Refusal}
use Rattle.refusals.specs.declared.Refusal.TheVariants.{NotThere}
use Rattle.tokens.specs.declared.Token.{Token}
use Rattle.tokens.specs.Looks.{Field}
use Rattle.trees.specs.declared.Node.{Node}
use Rattle.trees.specs.Layout.{lay}
use Rattle.hosts.specs.Lawful.{Lawful}
use Rattle.lines.specs.Lines.{heading_bytes, written}
use Rattle.sheets.specs.declared.records.Rule.{Rule}
use Rattle.sheets.specs.Model.{Reading, Model, Entry, Room, sizes, rule_at, entry_of, token_room, space_after, numbered, added, no_node, node_bytes, line_of, next_of, call_enter, call_totals, call_heading, call_line, says_number, says_totals, says_bytes}
use Rattle.sheets.specs.States.{State, room_of, nodes_of, Short, Holds, Follows, Enters}
use Rattle.sheets.proofs.Models.{sizes_more, nodes_more, rules_more}
use Rattle.sheets.proofs.TokenRooms.{tokens_fit}
use Rattle.sheets.proofs.Shorts.{short_append, short_at, Taken, taken_in}

module _ (s t : State) (m : Model) (r : Result ℕ Refusal) (same : room_of t ≡ room_of s) (held : Holds s m) where
  entered_next : (o : Result Entry Refusal) → ((e : Entry) → o ≡ Ok e → Taken (room_of s) (sizes m) (length m) e) → Enters o s t r → Holds t (added m o)
  entered_next (Err f) fits (a, b, c, d) = record {
    nodes = c ∙ held.nodes;
    rules = d ∙ held.rules;
    many = ap (λ x. x.nodes) b ∙ held.many;
    some = ap (λ x. x.rules) b ∙ held.some;
    within = subst (λ (x : Room). sizes m ≤ x.nodes) (sym same) held.within;
    below = subst (λ (x : Room). length m ≤ x.rules) (sym same) held.below;
    short = subst Short (sym c) held.short;
  }
  entered_next (Ok e) fits (a, b, c, d, f) =
      let room = fits e refl in
      let z : s.totals.nodes ≡ 0 + sizes m = omega (arith, held.many) in
      let long : length (m ++ e ∷ []) ≡ length m + 1 = length-append m (e ∷ []) in
      record {
        nodes = d ∙ ap (λ (l : List Node). l ++ lay s.totals.nodes None e.tree) held.nodes ∙ sym (nodes_more 0 m e s.totals.nodes z);
        rules = f ∙ ap (λ (l : List Rule). l ++ rule_at s.totals.nodes e ∷ []) held.rules ∙ sym (rules_more 0 m e s.totals.nodes z);
        many = omega (arith, b, held.many, sizes_more m e);
        some = omega (arith, c, held.some, long);
        within = subst (λ (x : Room). sizes (m ++ e ∷ []) ≤ x.nodes) (sym same) (omega (arith, room.nodes, held.within, sizes_more m e));
        below = subst (λ (x : Room). length (m ++ e ∷ []) ≤ x.rules) (sym same) (omega (arith, room.rules, long));
        short = subst Short (sym d) (short_append (nodes_of s) (lay s.totals.nodes None e.tree) held.short (room.short s.totals.nodes));
      }

entered_answer : (o : Result Entry Refusal) (s t : State) (n : ℕ) (r : Result ℕ Refusal) → s.totals.rules ≡ n → Enters o s t r → r ≡ numbered n o
entered_answer (Ok e) s t n r q (a, b, c, d, f) = a ∙ ap Ok q
entered_answer (Err x) s t n r q (a, b, c, d) = a

module _ (s t : State) (reading : Reading) (law : (p : Part) (l : List Field) → Lawful l (reading p l)) (page : List ℕ) (space : List Token) (structs : Bool) (r : Result ℕ Refusal)
    (same : room_of t ≡ room_of s)
    (done : Enters (entry_of (room_of s) s.totals.nodes s.totals.rules reading page (token_room space) structs) s t r) where
  abbrev entry_at : ℕ → ℕ → Result Entry Refusal
  entry_at n k = entry_of (room_of s) n k reading page (token_room space) structs

  enters_at : (m : Model) → Holds s m → Enters (entry_at (sizes m) (length m)) s t r
  enters_at m held =
      subst (λ (k : ℕ). Enters (entry_at (sizes m) k) s t r) held.some
      (subst (λ (n : ℕ). Enters (entry_at n s.totals.rules) s t r) held.many done)

  pub enter_follows : (after : List Token) → after ≡ space_after page space → Follows s (call_enter reading page space structs) (says_number r after) t
  enter_follows after is = record {
    room = same;
    next = λ m held.
        entered_next s t m r same held (entry_at (sizes m) (length m))
        (λ e q. taken_in (room_of s) (sizes m) (length m) reading law page (token_room space) structs e (omega (arith, tokens_fit (token_room space) page)) q) (enters_at m held);
    answer = λ m held.
        ap (λ (x : Result ℕ Refusal). says_number x after) (entered_answer (entry_at (sizes m) (length m)) s t (length m) r held.some (enters_at m held))
        ∙ ap (λ (x : List Token). says_number (numbered (length m) (entry_at (sizes m) (length m))) x) is;
  }

  -- it stands for some model still
  pub still_held : ∥ ((m : Model) × Holds s m) ∥₁ → ∥ ((m : Model) × Holds t m) ∥₁
  still_held k =
      let f = enter_follows (space_after page space) refl in
      ∥∥₁_map k (λ x. (next_of (room_of s) x.0 (call_enter reading page space structs), f.next x.0 x.1))

pub empty_held : (s : State) → s.totals.nodes ≡ 0 → s.totals.rules ≡ 0 → ∥ ((m : Model) × Holds s m) ∥₁
empty_held s a b =
    let none : nodes_of s ≡ [] = ap (λ (k : ℕ). take k s.nodes) a in
    ∣ (
      [],
      record {
        nodes = none;
        rules = ap (λ (k : ℕ). take k s.rules) b;
        many = a;
        some = b;
        within = omega arith;
        below = omega arith;
        short = subst Short (sym none) tt;
      },
    ) ∣₁

-- no more nodes and rules are in use than a sheet takes
pub nodes_fit : (s : State) → ∥ ((m : Model) × Holds s m) ∥₁ → s.totals.nodes ≤ (room_of s).nodes
nodes_fit s k = ∥∥₁_elim k le_prop (λ x. omega (arith, x.1.many, x.1.within))

pub rules_fit : (s : State) → ∥ ((m : Model) × Holds s m) ∥₁ → s.totals.rules ≤ (room_of s).rules
rules_fit s k = ∥∥₁_elim k le_prop (λ x. omega (arith, x.1.some, x.1.below))

pub totals_follows : (s : State) → Follows s call_totals (says_totals (s.totals.rules, s.totals.nodes)) s
totals_follows s = record {
  room = refl;
  next = λ m held. held;
  answer = λ m held. let a = held.some in let b = held.many in cc;
}

pub heading_follows : (s : State) (out : List ℕ) (r : Result ℕ Refusal × List ℕ) → r ≡ written (heading_bytes s.totals.rules s.totals.nodes) out → Follows s (call_heading out) (says_bytes r) s
heading_follows s out r e = record {
  room = refl;
  next = λ m held. held;
  answer = λ m held.
      ap says_bytes (e ∙ ap (λ (k : ℕ). written (heading_bytes k s.totals.nodes) out) held.some ∙ ap (λ (k : ℕ). written (heading_bytes (length m) k) out) held.many);
}

pub line_follows : (s : State) (i : ℕ) (out : List ℕ) (r : Result ℕ Refusal × List ℕ) → r ≡ line_of (nodes_of s) i out → Follows s (call_line i out) (says_bytes r) s
line_follows s i out r e = record {
  room = refl;
  next = λ m held. held;
  answer = λ m held. ap says_bytes (e ∙ ap (λ (l : List Node). line_of l i out) held.nodes);
}

-- a node in use spans no token past the 4,096th
pub spans_fit : (s : State) → ∥ ((m : Model) × Holds s m) ∥₁ → (i : ℕ) → ((get_or (nodes_of s) i no_node).label.from ≤ 4096) × ((get_or (nodes_of s) i no_node).label.to ≤ 4096)
spans_fit s k i =
    (∥∥₁_elim k le_prop (λ x. (short_at (nodes_of s) i x.1.short).0), ∥∥₁_elim k le_prop (λ x. (short_at (nodes_of s) i x.1.short).1))

-- the line of a node that is not there, and of one that is
pub no_line : (s : State) (i : ℕ) (out : List ℕ) → s.totals.nodes ≤ i → line_of (nodes_of s) i out ≡ (Err NotThere, out)
no_line s i out h =
    let long = length-take s.totals.nodes s.nodes in
    cond-false (ltb i (length (nodes_of s))) _ _ (le-ltb i (length (nodes_of s)) (omega arith))

pub in_use : (s : State) (i : ℕ) (d : Node) → i < s.totals.nodes → get_or (nodes_of s) i d ≡ get_or s.nodes i d
in_use s i d h = get_or-take s.totals.nodes s.nodes i d h

pub a_line : (s : State) (i : ℕ) (out : List ℕ) → ∥ ((m : Model) × Holds s m) ∥₁ → i < s.totals.nodes → line_of (nodes_of s) i out ≡ written (node_bytes i (get_or s.nodes i no_node)) out
a_line s i out k h =
    let fit = nodes_fit s k in
    let long = length-take s.totals.nodes s.nodes in
    cond-true (ltb i (length (nodes_of s))) _ _ (lt-ltb i (length (nodes_of s)) (omega arith))
    ∙ ap (λ (n : Node). written (node_bytes i n) out) (in_use s i no_node h)
