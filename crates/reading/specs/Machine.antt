-- What the frames and the spot of the loop stand for. Assumes nothing.
use Rattle.std.specs.Prelude.{◌≡◌, ℕ, ◌+◌, ◌-◌, ◌*◌, ◌<◌, ◌≤◌, cond, List, [], ◌∷◌, ◌++◌, length, Some, None, Ok, Err, Option, Result, nat_lt, slice_index_or, slice_set}
use Rattle.lists.specs.Lists.{used, room, Lent}
use Rattle.lists.specs.declared.Counted.{Counted}
use Rattle.refusals.specs.declared.Part.{Part}
use Rattle.refusals.specs.declared.Part.TheVariants as part
use Rattle.refusals.specs.declared.Denial.{Denial}
use Rattle.refusals.specs.declared.Refusal.{Refusal}
use Rattle.refusals.specs.declared.Refusal.TheVariants as refusal
use Rattle.tokens.specs.declared.Token.{Token}
use Rattle.tokens.specs.Looks.{Field}
use Rattle.trees.specs.declared.Kind.TheVariants as kind
use Rattle.trees.specs.declared.Node.{Node}
use Rattle.trees.specs.Layout.{Tree, Trees, none, ◌then◌, label_of, node, sizes, root_at, first_or, first_at, lay, lays}
use Rattle.grammar.specs.Grammar.{label, kind_of, op_of, tree_rank, Outcome, took, refused, and_then, Task, expr, climb, left, cast_followed, part_at, go_on, after_item, read_task}
use Rattle.reading.specs.Moves.{shut_of}
use Rattle.reading.specs.declared.frames.Links.{Links}
use Rattle.reading.specs.declared.frames.Job.{Job}
use Rattle.reading.specs.declared.frames.Job.TheVariants as job
use Rattle.reading.specs.declared.frames.Frame.{Frame}
use Rattle.reading.specs.declared.frames.Left.{Left}
use Rattle.reading.specs.declared.frames.Left.TheVariants.{Nothing, TypeWanted, Operand, Whole}
use Rattle.reading.specs.declared.frames.Spot.{Spot}
use Rattle.reading.specs.declared.frames.Move.{Move}
use Rattle.reading.specs.declared.frames.Move.TheVariants.{Push, Emit, Ended}

-- links

abbrev pub with_next : Node → ℕ → Node
with_next n r = record n { next = Some r }

abbrev pub no_node : Node
no_node = node (record { kind = kind.Path; op = 0; from = 0; to = 0 }) None None

-- the node with the number l, if any, gets r for its sibling
abbrev pub link_to : List Node → Option ℕ → ℕ → List Node
link_to N None r = N
link_to N (Some l) r = slice_set N l (with_next (slice_index_or N l no_node) r)

abbrev pub LastIn : Option ℕ → ℕ → Type 0
LastIn None n = Unit {0}
LastIn (Some l) n = l < n

abbrev pub attached : Links → ℕ → Links
attached k r = record { first = first_or k.first r; last = Some r }

-- the number of the last child, where the first node of the children has the number j
abbrev pub last_at : ℕ → Trees → Option ℕ
last_at j none = None
last_at j (ts then t) = Some (root_at (j + sizes ts) t)

-- the links of a frame with these children
abbrev pub links_at : ℕ → Trees → Links
links_at j us = record { first = first_at j us; last = last_at j us }

-- frames

-- a frame with what no code holds: where it was pushed, and the children that it has
pub record Wait : Type 0 where
  pub frame : Frame
  pub at : ℕ
  pub held : Trees

abbrev pub flat : List Wait → List Frame
flat [] = []
flat (w ∷ ws) = flat ws ++ w.frame ∷ []

-- the nodes that stand in the output for the frames, numbered from i
abbrev pub spilled : ℕ → List Wait → List Node
spilled i [] = []
spilled i (w ∷ ws) = spilled i ws ++ lays (i + length (spilled i ws)) None w.held

-- each frame has the links of its children
abbrev pub Linked : ℕ → List Wait → Type 0
Linked i [] = Unit {0}
Linked i (w ∷ ws) = (w.frame.links ≡ links_at (i + length (spilled i ws)) w.held) × Linked i ws

-- the spot

abbrev pub nodes_by : ℕ → Left → Tree → List Node
nodes_by j Nothing t = []
nodes_by j TypeWanted t = []
nodes_by j (Operand f k r) t = lay j None t
nodes_by j (Whole r) t = lay j None t

abbrev pub FitBy : ℕ → Left → Tree → Type 0
FitBy j Nothing t = Unit {0}
FitBy j TypeWanted t = Unit {0}
FitBy j (Operand f k r) t = ((label_of t).from ≡ f) × (tree_rank t ≡ k) × (root_at j t ≡ r)
FitBy j (Whole r) t = root_at j t ≡ r

-- a further item was asked for behind its comma, every other node where it began
abbrev pub asked_at : Job → ℕ → ℕ
asked_at (job.Operand k o) p = p
asked_at job.First p = p
asked_at job.Item p = p + 1
asked_at (job.Right o) p = p
asked_at job.CastTo p = p

module _ (reading : Part → List Field → Result ℕ Denial) (page : List ℕ) (ts : List Token) where
  -- what a task at p, in a level that ends at e, may ask for
  abbrev pub again : ℕ → ℕ → Task → Outcome
  again p e u = cond (nat_lt (left u) (e - p)) (read_task reading page ts u) (refused refusal.SheetFull)

  -- what a frame makes of a tree t that ended at q, in a level that ends at e
  abbrev pub after_by : Job → Wait → ℕ → Tree → ℕ → Outcome
  after_by (job.Operand k o) w e t q =
      go_on reading page ts (again w.at w.frame.scope.end) w.frame.scope.structs w.frame.scope.base (label k o w.frame.from q) (w.held then t) w.frame.scope.end
  after_by job.First w e t q =
      after_item reading page ts (again w.at w.frame.scope.end) kind.Paren w.frame.scope.structs w.frame.scope.base w.frame.from (w.held then t) q e w.frame.scope.end
  after_by job.Item w e t q =
      after_item reading page ts (again (w.at + 1) w.frame.scope.end) kind.Tuple w.frame.scope.structs w.frame.scope.base w.frame.from (w.held then t) q e w.frame.scope.end
  after_by (job.Right o) w e t q =
      go_on reading page ts (again w.at w.frame.scope.end) w.frame.scope.structs w.frame.scope.base (label (kind_of o) (op_of o) w.frame.from q) (w.held then t) w.frame.scope.end
  after_by job.CastTo w e t q =
      cond (cast_followed ts q e) (refused (refusal.CastFollowed q))
      (go_on reading page ts (again w.at w.frame.scope.end) w.frame.scope.structs w.frame.scope.base (label kind.Cast 0 w.frame.from q) (w.held then t) w.frame.scope.end)

  -- what the frames make of an outcome of the level that ends at e
  abbrev pub resume : List Wait → ℕ → Outcome → Outcome
  resume [] e o = o
  resume (w ∷ ws) e o = resume ws w.frame.scope.end (and_then o (after_by w.frame.job w e))

  -- what is still to be read at a spot, where t stands left of it
  abbrev pub ahead_by : Left → Spot → Tree → Outcome
  ahead_by Nothing s t = read_task reading page ts (expr s.scope.structs s.scope.base s.place s.scope.end)
  ahead_by TypeWanted s t = part_at reading page ts kind.TypeName part.TypeName s.place s.scope.end
  ahead_by (Operand f k r) s t = read_task reading page ts (climb s.scope.structs s.scope.base t s.place s.scope.end)
  ahead_by (Whole r) s t = took t s.place

  -- the level of the whole ends at top; what is read is all
  module _ (top : ℕ) (all : Outcome) where
    -- levels lie in one another, and frames began before the place
    abbrev pub Stack : List Wait → ℕ → ℕ → Type 0
    Stack [] p e = e ≤ top
    Stack (w ∷ ws) p e = (w.at < p) × (e + shut_of w.frame.job ≤ w.frame.scope.end) × Stack ws w.at w.frame.scope.end

    -- the loop's invariant: S was in the output at the start, N is now, F are the frames
    pub record Sound (S N : List Node) (F : List Frame) (s : Spot) : Type 0 where
      pub waits : List Wait
      pub tree : Tree
      pub frames : F ≡ flat waits
      pub nodes : N ≡ S ++ (spilled (length S) waits ++ nodes_by (length S + length (spilled (length S) waits)) s.left tree)
      pub links : Linked (length S) waits
      pub fit : FitBy (length S + length (spilled (length S) waits)) s.left tree
      pub stack : Stack waits s.place s.scope.end
      pub inside : s.place ≤ s.scope.end
      -- each frame and each node has a token of its own
      pub room : length N + length F ≤ length S + s.place
      pub means : resume waits s.scope.end (ahead_by s.left s tree) ≡ all

    abbrev pub to_go : List Frame → Spot → ℕ
    to_go F s = 2 * (top - s.place) + length F

    pub record Going (S : List Node) (F : List Frame) (s : Spot) (N' : List Node) (F' : List Frame) (next : Spot) : Type 0 where
      pub sound : Sound S N' F' next
      pub falls : to_go F' next < to_go F s

    pub record Over (S N' : List Node) (place : ℕ) : Type 0 where
      pub tree : Tree
      pub is : all ≡ took tree place
      pub nodes : N' ≡ S ++ lay (length S) None tree
      pub few : length N' ≤ length S + place

    pub record Turned (S N' : List Node) (r : Refusal) : Type 0 where
      pub is : all ≡ refused r
      pub more : List Node
      pub nodes : N' ≡ S ++ more

    -- what a turn of the loop keeps
    abbrev pub Kept : List Node → List Frame → Spot → List Node → List Frame → Result (Option Spot) Refusal → Type 0
    Kept S F s N' F' (Ok (Some next)) = Going S F s N' F' next
    Kept S F s N' F' (Ok None) = Over S N' s.place
    Kept S F s N' F' (Err r) = Turned S N' r

  -- what a turn starts from, with room for what it may push
  pub record Ready (top : ℕ) (N : List Node) (F : List Frame) (s : Spot) (frame_room node_room : ℕ) : Type 0 where
    pub whole : Outcome
    pub start : List Node
    pub sound : Sound top whole start N F s
    pub for_frames : top ≤ frame_room
    pub for_nodes : length start + top ≤ node_room

-- the room that a move wants
abbrev pub RoomFor : Result Move Refusal → ℕ → ℕ → ℕ → ℕ → Type 0
RoomFor (Ok (Push f next)) fs frame_room ns node_room = fs < frame_room
RoomFor (Ok (Emit n next)) fs frame_room ns node_room = ns < node_room
RoomFor (Ok (Ended x)) fs frame_room ns node_room = Unit {0}
RoomFor (Err r) fs frame_room ns node_room = Unit {0}

-- what a move does to the frames and the output
abbrev pub Applied : Result Move Refusal → List Frame → List Frame → List Node → List Node → Result (Option Spot) Refusal → Type 0
Applied (Ok (Push f next)) F F' N N' r = (r ≡ Ok (Some next)) × (F' ≡ F ++ f ∷ []) × (N' ≡ N)
Applied (Ok (Emit n next)) F F' N N' r = (r ≡ Ok (Some next)) × (F' ≡ F) × (N' ≡ N ++ n ∷ [])
Applied (Ok (Ended x)) F F' N N' r = (r ≡ Ok None) × (F' ≡ F) × (N' ≡ N)
Applied (Err x) F F' N N' r = (r ≡ Err x) × (F' ≡ F) × (N' ≡ N)

-- a list that fits its space: that of a list before, lent by the same lenders
pub record StillIn {T : Type 0} (l m : Counted T) : Type 0 where
  pub within : used m ≤ room m
  pub size : room m ≡ room l
  pub lent : Lent l m

-- what a reading does to the output N: the nodes of its tree behind it, at most one for each token that was read, or, where
-- it is refused, anything behind it
pub record Written (N N' : List Node) (t : Tree) (stop : ℕ) : Type 0 where
  pub nodes : N' ≡ N ++ lay (length N) None t
  pub few : length N' ≤ length N + stop

pub record Undone (N N' : List Node) : Type 0 where
  pub more : List Node
  pub nodes : N' ≡ N ++ more

abbrev pub Read : Outcome → List Node → List Node → Type 0
Read (took t q) N N' = Written N N' t q
Read (refused r) N N' = Undone N N'
