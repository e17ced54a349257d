-- What the loop does at a spot, and when what was begun last has ended. Assumes nothing.
use Rattle.std.specs.Prelude.{ℕ, ◌+◌, Bool, true, cond, List, Some, None, Ok, Err, Option, Result, ◌==◌}
use Rattle.refusals.specs.declared.Part.{Part}
use Rattle.refusals.specs.declared.Part.TheVariants as part
use Rattle.refusals.specs.declared.Denial.{Denial}
use Rattle.refusals.specs.declared.Refusal.{Refusal}
use Rattle.refusals.specs.declared.Refusal.TheVariants as refusal
use Rattle.tokens.specs.declared.Token.{Token}
use Rattle.tokens.specs.Looks.{Field, level_of}
use Rattle.operators.specs.Ranks.{rank_of, above_rank}
use Rattle.trees.specs.declared.Kind.{Kind}
use Rattle.trees.specs.declared.Kind.TheVariants as kind
use Rattle.trees.specs.declared.Label.{Label}
use Rattle.trees.specs.Layout.{node}
use Rattle.grammar.specs.declared.Head.{Head}
use Rattle.grammar.specs.declared.Head.TheVariants.{Leaf, Prefix, Group}
use Rattle.grammar.specs.declared.Tail.{Tail}
use Rattle.grammar.specs.declared.Tail.TheVariants.{Takes, Endless, Casts, Stop}
use Rattle.grammar.specs.Heads.{head_at}
use Rattle.grammar.specs.Tails.{tail_at}
use Rattle.grammar.specs.Grammar.{label, kind_of, op_of, rank_by, comma_at, cast_followed}
use Rattle.reading.specs.declared.frames.Links.{Links}
use Rattle.reading.specs.declared.frames.Job.{Job}
use Rattle.reading.specs.declared.frames.Job.TheVariants as job
use Rattle.reading.specs.declared.frames.Scope.{Scope}
use Rattle.reading.specs.declared.frames.Frame.{Frame}
use Rattle.reading.specs.declared.frames.Left.{Left}
use Rattle.reading.specs.declared.frames.Left.TheVariants.{Nothing, TypeWanted, Operand, Whole}
use Rattle.reading.specs.declared.frames.Spot.{Spot}
use Rattle.reading.specs.declared.frames.Move.{Move}
use Rattle.reading.specs.declared.frames.Move.TheVariants.{Push, Emit, Ended}

abbrev pub scope : ℕ → ℕ → Bool → Scope
scope e b f = record { end = e; base = b; structs = f }

-- in a parenthesis that ends at c
abbrev pub group_scope : ℕ → Scope
group_scope c = scope c 0 true

-- the same scope but for the least rank of an operator
abbrev pub ranked : Scope → ℕ → Scope
ranked g b = record g { base = b }

abbrev pub spot : ℕ → Scope → Left → Spot
spot p g l = record { place = p; scope = g; left = l }

abbrev pub frame : Job → ℕ → Scope → Links → Frame
frame j from g k = record { job = j; from = from; scope = g; links = k }

abbrev pub no_links : Links
no_links = record { first = None; last = None }

abbrev pub one_link : ℕ → Links
one_link r = record { first = Some r; last = Some r }

-- the node with the number n is written, and stands as an operand
abbrev pub made_of : ℕ → Label → Option ℕ → Scope → Move
made_of n l first g = Emit (node l first None) (spot l.to g (Operand l.from (rank_by l.kind l.op) n))

abbrev pub finished_of : ℕ → Frame → Kind → ℕ → ℕ → Move
finished_of n f k o to = made_of n (label k o f.from to) f.links.first f.scope

abbrev pub begin_of : ℕ → Spot → Result Head Refusal → Result Move Refusal
begin_of n s (Ok (Leaf k q)) = Ok (made_of n (label k 0 s.place q) None s.scope)
begin_of n s (Ok (Prefix k o q r)) =
    Ok (Push (frame (job.Operand k o) s.place s.scope no_links) (spot q (ranked s.scope r) Nothing))
begin_of n s (Ok (Group i c)) =
    Ok (Push (frame job.First s.place s.scope no_links) (spot i (group_scope c) Nothing))
begin_of n s (Err r) = Err r

abbrev pub go_of : ℕ → Spot → ℕ → ℕ → Result Tail Refusal → Result Move Refusal
go_of n s from r (Ok (Takes o q)) =
    Ok (Push (frame (job.Right o) from s.scope (one_link r)) (spot q (ranked s.scope (above_rank (rank_of o))) Nothing))
go_of n s from r (Ok (Endless q)) = Ok (made_of n (label kind.Range 0 from q) (Some r) s.scope)
go_of n s from r (Ok (Casts i)) =
    Ok (Push (frame job.CastTo from s.scope (one_link r)) (spot i (ranked s.scope 0) TypeWanted))
go_of n s from r (Ok Stop) = Ok (Ended r)
go_of n s from r (Err x) = Err x

abbrev pub type_of : ℕ → Spot → Result ℕ Denial → Result Move Refusal
type_of n s (Ok m) = Ok (Emit (node (label kind.TypeName 0 s.place (s.place + m)) None None) (spot (s.place + m) s.scope (Whole n)))
type_of n s (Err d) = Err (refusal.HostRefused s.place part.TypeName d)

module _ (reading : Part → List Field → Result ℕ Denial) (page : List ℕ) (ts : List Token) (n : ℕ) where
  abbrev pub decide_by : Spot → Left → Result Move Refusal
  decide_by s Nothing = begin_of n s (head_at reading page ts s.scope.structs s.place s.scope.end)
  decide_by s TypeWanted = type_of n s (reading part.TypeName (level_of page ts s.place s.scope.end))
  decide_by s (Operand from k r) = go_of n s from r (tail_at ts s.scope.structs s.scope.base k s.place s.scope.end)
  decide_by s (Whole r) = Ok (Ended r)

  abbrev pub decide_of : Spot → Result Move Refusal
  decide_of s = decide_by s s.left

-- how many tokens of the outer level a finished inner one still has to take: its closer
abbrev pub shut_of : Job → ℕ
shut_of (job.Operand k o) = 0
shut_of job.First = 1
shut_of job.Item = 1
shut_of (job.Right o) = 0
shut_of job.CastTo = 0

-- behind a comma at q: the closer c, or a further item
abbrev pub next_item_of : ℕ → Frame → ℕ → ℕ → Move
next_item_of n f q c =
    cond (q + 1 == c) (finished_of n f kind.Tuple 0 (c + 1))
    (Push (frame job.Item f.from f.scope f.links) (spot (q + 1) (group_scope c) Nothing))

module _ (ts : List Token) (n : ℕ) where
  abbrev pub item_of : Kind → Frame → Spot → Result Move Refusal
  item_of k f s =
      cond (s.place == s.scope.end) (Ok (finished_of n f k 0 (s.scope.end + 1)))
      (cond (comma_at ts s.place s.scope.end) (Ok (next_item_of n f s.place s.scope.end)) (Err (refusal.MarkExpected s.place)))

  abbrev pub close_by : Job → Frame → Spot → Result Move Refusal
  close_by (job.Operand k o) f s = Ok (finished_of n f k o s.place)
  close_by job.First f s = item_of kind.Paren f s
  close_by job.Item f s = item_of kind.Tuple f s
  close_by (job.Right o) f s = Ok (finished_of n f (kind_of o) (op_of o) s.place)
  close_by job.CastTo f s =
      cond (cast_followed ts s.place s.scope.end) (Err (refusal.CastFollowed s.place))
      (Ok (finished_of n f kind.Cast 0 s.place))

  abbrev pub close_of : Frame → Spot → Result Move Refusal
  close_of f s = close_by f.job f s
