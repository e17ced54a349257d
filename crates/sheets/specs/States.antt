-- What stands on a sheet, when it equals a model, and what a call does to it. Assumes nothing.
use Rattle.std.specs.Prelude.{◌≡◌, ℕ, ◌+◌, ◌≤◌, min, List, [], ◌∷◌, ◌++◌, length, take, None, Ok, Err, Result}
use Rattle.refusals.specs.declared.Refusal.{Refusal}
use Rattle.trees.specs.declared.Node.{Node}
use Rattle.trees.specs.Layout.{size, lay}
use Rattle.sheets.specs.declared.records.Rule.{Rule}
use Rattle.sheets.specs.declared.records.Totals.{Totals}
use Rattle.sheets.specs.Model.{Model, Entry, Room, Call, Answer, sizes, rule_at, nodes_from, rules_from, next_of, answer_of}

-- the two spaces and the totals
pub record State : Type 0 where
  pub nodes : List Node
  pub rules : List Rule
  pub totals : Totals

abbrev pub state : List Node → List Rule → Totals → State
state ns rs t = record { nodes = ns; rules = rs; totals = t }

-- a sheet uses at most 4,096 nodes and 256 rules of its spaces
abbrev pub room_of : State → Room
room_of s = record { nodes = min (length s.nodes) 4096; rules = min (length s.rules) 256 }

abbrev pub nodes_of : State → List Node
nodes_of s = take s.totals.nodes s.nodes

abbrev pub rules_of : State → List Rule
rules_of s = take s.totals.rules s.rules

-- no node spans a token past the 4,096th
abbrev pub Short : List Node → Type 0
Short [] = Unit {0}
Short (n ∷ ns) = (n.label.from ≤ 4096) × (n.label.to ≤ 4096) × Short ns

-- the sheet equals the model
pub record Holds (s : State) (m : Model) : Type 0 where
  pub nodes : nodes_of s ≡ nodes_from 0 m
  pub rules : rules_of s ≡ rules_from 0 m
  pub many : s.totals.nodes ≡ sizes m
  pub some : s.totals.rules ≡ length m
  pub within : sizes m ≤ (room_of s).nodes
  pub below : length m ≤ (room_of s).rules
  pub short : Short (nodes_of s)

-- what a call does: for every model that the sheet equals before it, the sheet equals the model's next state after it, and
-- the answer is the model's
pub record Follows (s : State) (c : Call) (a : Answer) (t : State) : Type 0 where
  pub room : room_of t ≡ room_of s
  pub next : (m : Model) → Holds s m → Holds t (next_of (room_of s) m c)
  pub answer : (m : Model) → Holds s m → a ≡ answer_of (room_of s) m c

-- what an entry that came to an outcome does to what stands on the sheet
abbrev pub Enters : Result Entry Refusal → State → State → Result ℕ Refusal → Type 0
Enters (Ok e) s t r =
    (r ≡ Ok s.totals.rules)
    × (t.totals.nodes ≡ s.totals.nodes + size e.tree)
    × (t.totals.rules ≡ s.totals.rules + 1)
    × (nodes_of t ≡ nodes_of s ++ lay s.totals.nodes None e.tree)
    × (rules_of t ≡ rules_of s ++ rule_at s.totals.nodes e ∷ [])
Enters (Err f) s t r = (r ≡ Err f) × (t.totals ≡ s.totals) × (nodes_of t ≡ nodes_of s) × (rules_of t ≡ rules_of s)

-- what a reading does to a node space of which n are in use
abbrev pub Reads : Result Entry Refusal → List Node → ℕ → List Node → ℕ → Result Rule Refusal → Type 0
Reads (Ok e) N n N' n' r =
    (r ≡ Ok (rule_at n e))
    × (n' ≡ n + size e.tree)
    × (take n' N' ≡ take n N ++ lay n None e.tree)
    × (n' ≤ n + e.used)
Reads (Err f) N n N' n' r = (r ≡ Err f) × (take n N' ≡ take n N)
