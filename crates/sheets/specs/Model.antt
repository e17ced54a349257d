-- The reference model of a sheet: a list of trees with the tokens that each used, and what its calls answer. Assumes nothing.
use Rattle.std.specs.Prelude.{ℕ, ◌+◌, ◌-◌, min, Bool, cond, List, [], ◌∷◌, ◌++◌, length, drop, Some, None, Ok, Err, Option, Result, ◌==◌, nat_le, nat_lt, slice_index_or}
use Rattle.refusals.specs.declared.Part.{Part}
use Rattle.refusals.specs.declared.Denial.{Denial}
use Rattle.refusals.specs.declared.Refusal.{Refusal}
use Rattle.refusals.specs.declared.Refusal.TheVariants.{SheetFull, LeftOver, NotThere}
use Rattle.tokens.specs.declared.Token.{Token}
use Rattle.tokens.specs.Looks.{Field}
use Rattle.pages.specs.Pages.{tokens_of, fault_of}
use Rattle.trees.specs.declared.Kind.TheVariants as kind
use Rattle.trees.specs.declared.Node.{Node}
use Rattle.trees.specs.Kinds.{kind_number}
use Rattle.trees.specs.Layout.{Tree, node, size, root_at, lay}
use Rattle.grammar.specs.Grammar.{Outcome, took, refused, read_expr}
use Rattle.lines.specs.Lines.{heading_bytes, line_bytes, written}
use Rattle.sheets.specs.declared.records.Rule.{Rule}

-- a host, by its meaning
abbrev pub Reading : Type 0
Reading = Part → List Field → Result ℕ Denial

pub record Entry : Type 0 where
  pub tree : Tree
  pub used : ℕ

abbrev pub Model : Type 0
Model = List Entry

-- how many nodes and rules a sheet takes
pub record Room : Type 0 where
  pub nodes : ℕ
  pub rules : ℕ

-- how many nodes all trees have
abbrev pub sizes : Model → ℕ
sizes [] = 0
sizes (e ∷ es) = size e.tree + sizes es

abbrev pub rule_at : ℕ → Entry → Rule
rule_at j e = record { root = root_at j e.tree; used = e.used }

-- nodes and rules in the model's order; nodes are numbered through all trees, from j
abbrev pub nodes_from : ℕ → Model → List Node
nodes_from j [] = []
nodes_from j (e ∷ es) = lay j None e.tree ++ nodes_from (j + size e.tree) es

abbrev pub rules_from : ℕ → Model → List Rule
rules_from j [] = []
rules_from j (e ∷ es) = rule_at j e ∷ rules_from (j + size e.tree) es

-- of n tokens that make a page none may be left over
abbrev pub whole : ℕ → Outcome → Result Entry Refusal
whole n (took t q) = cond (q == n) (Ok (record { tree = t; used = q })) (Err (LeftOver q))
whole n (refused r) = Err r

-- there are n nodes and r rules: each token needs a free node, and the rule a free rule
abbrev pub fitting : Room → ℕ → ℕ → ℕ → Result Entry Refusal → Result Entry Refusal
fitting w n r tokens o = cond (nat_le tokens (w.nodes - n)) (cond (nat_lt r w.rules) o (Err SheetFull)) (Err SheetFull)

abbrev pub unless_fault : Option Refusal → Result Entry Refusal → Result Entry Refusal
unless_fault (Some f) o = Err f
unless_fault None o = o

-- the most tokens that a token space takes
abbrev pub token_room : List Token → ℕ
token_room space = min (length space) 4096

-- what a page is entered as: the page's own refusals come first, then a full sheet, then the reading's
abbrev pub entry_of : Room → ℕ → ℕ → Reading → List ℕ → ℕ → Bool → Result Entry Refusal
entry_of w n r reading page k structs =
    unless_fault (fault_of k page)
    (fitting w n r (length (tokens_of k page)) (whole (length (tokens_of k page)) (read_expr reading page (tokens_of k page) structs)))

-- a token space after a call: the records of the fields that were taken in, and then what it held
abbrev pub space_after : List ℕ → List Token → List Token
space_after page space = tokens_of (token_room space) page ++ drop (length (tokens_of (token_room space) page)) space

abbrev pub numbered : ℕ → Result Entry Refusal → Result ℕ Refusal
numbered n (Ok e) = Ok n
numbered n (Err f) = Err f

abbrev pub added : Model → Result Entry Refusal → Model
added m (Ok e) = m ++ e ∷ []
added m (Err f) = m

abbrev pub no_node : Node
no_node = node (record { kind = kind.Path; op = 0; from = 0; to = 0 }) None None

-- the line of a node: its number, kind, op and span
abbrev pub node_bytes : ℕ → Node → List ℕ
node_bytes i n = line_bytes i (kind_number n.label.kind) n.label.op n.label.from n.label.to

-- the line of the i-th node at the output's start; first it must be there, then the output long enough
abbrev pub line_of : List Node → ℕ → List ℕ → Result ℕ Refusal × List ℕ
line_of ns i out = cond (nat_lt i (length ns)) (written (node_bytes i (slice_index_or ns i no_node)) out) (Err NotThere, out)

-- a call, with its host by its meaning, the spaces and outputs that it was given
pub data Call : Type 0 where
  call_enter : Reading → List ℕ → List Token → Bool → Call
  call_totals : Call
  call_heading : List ℕ → Call
  call_line : ℕ → List ℕ → Call

-- an answer, with what the token space or the output then holds
pub data Answer : Type 0 where
  says_number : Result ℕ Refusal → List Token → Answer
  says_totals : ℕ × ℕ → Answer
  says_bytes : Result ℕ Refusal × List ℕ → Answer

abbrev pub next_of : Room → Model → Call → Model
next_of w m (call_enter reading page space structs) = added m (entry_of w (sizes m) (length m) reading page (token_room space) structs)
next_of w m call_totals = m
next_of w m (call_heading out) = m
next_of w m (call_line i out) = m

abbrev pub answer_of : Room → Model → Call → Answer
answer_of w m (call_enter reading page space structs) =
    says_number (numbered (length m) (entry_of w (sizes m) (length m) reading page (token_room space) structs)) (space_after page space)
answer_of w m call_totals = says_totals (length m, sizes m)
answer_of w m (call_heading out) = says_bytes (written (heading_bytes (length m) (sizes m)) out)
answer_of w m (call_line i out) = says_bytes (line_of (nodes_from 0 m) i out)
