-- A turn of the loop keeps what the frames and the spot stand for. Assumes nothing.
use Rattle.std.proofs.Common.{◌≡◌, ℕ, ◌<◌, ◌≤◌, Bool, List, [], ◌∷◌, ◌++◌, length, Some, None, Ok, Err, Option, Result, sym, refl, ap, ◌∙◌, subst, append-nil, arith}
use Rattle.refusals.specs.declared.Part.{Part}
use Rattle.refusals.specs.declared.Part.TheVariants as part
use Rattle.refusals.specs.declared.Denial.{Denial}
use Rattle.refusals.specs.declared.Refusal.{Refusal}
use Rattle.tokens.specs.declared.Token.{Token}
use Rattle.tokens.specs.Looks.{Field, level_of}
use Rattle.trees.specs.declared.Node.{Node}
use Rattle.grammar.specs.declared.Head.{Head}
use Rattle.grammar.specs.declared.Head.TheVariants.{Leaf, Prefix, Group}
use Rattle.grammar.specs.declared.Tail.{Tail}
use Rattle.grammar.specs.declared.Tail.TheVariants.{Takes, Endless, Casts, Stop}
use Rattle.grammar.specs.Heads.{head_at}
use Rattle.grammar.specs.Tails.{tail_at}
use Rattle.grammar.specs.Grammar.{Outcome, answer, expr}
use Rattle.grammar.proofs.Steps.{good_head, good_tail}
use Rattle.reading.specs.Moves.{scope, spot, frame, begin_of, go_of, type_of, decide_of, close_of}
use Rattle.reading.specs.Machine.{link_to, attached, Sound, to_go, Turned, Applied, Read}
use Rattle.reading.proofs.Means.{R}
use Rattle.reading.specs.declared.frames.Links.{Links}
use Rattle.reading.specs.declared.frames.Scope.{Scope}
use Rattle.reading.specs.declared.frames.Frame.{Frame}
use Rattle.reading.specs.declared.frames.Left.{Left}
use Rattle.reading.specs.declared.frames.Left.TheVariants.{Nothing, TypeWanted, Operand, Whole}
use Rattle.reading.specs.declared.frames.Spot.{Spot}
use Rattle.reading.specs.declared.frames.Move.{Move}
use Rattle.reading.specs.declared.frames.Move.TheVariants.{Ended}
use Rattle.reading.proofs.Keeping.{dummy, Ground, Stands, Keeps, On}
use Rattle.reading.proofs.Begins.{head_kept, type_kept, tail_kept, stopped}
use Rattle.reading.proofs.Ends.{Ending, ended_kept, done_kept}

module _ (G : Ground) where
  open G use {reading, law, page, ts, top, all, start as S}

  -- only an operand that stops and a finished type have ended

  not_head : (c : ℕ) (s : Spot) (h : Result Head Refusal) (root : ℕ) → begin_of c s h ≡ Ok (Ended root) → ⊥
  not_head c s (Ok (Leaf k q)) root z = cc
  not_head c s (Ok (Prefix k o q b)) root z = cc
  not_head c s (Ok (Group i d)) root z = cc
  not_head c s (Err y) root z = cc

  not_type : (c : ℕ) (s : Spot) (o : Result ℕ Denial) (root : ℕ) → type_of c s o ≡ Ok (Ended root) → ⊥
  not_type c s (Ok m) root z = cc
  not_type c s (Err d) root z = cc

  is_stop : (c : ℕ) (s : Spot) (from root : ℕ) (h : Result Tail Refusal) (x : ℕ) → go_of c s from root h ≡ Ok (Ended x) → (h ≡ Ok Stop) × (root ≡ x)
  is_stop c s from root (Ok (Takes o q)) x z = cc
  is_stop c s from root (Ok (Endless q)) x z = cc
  is_stop c s from root (Ok (Casts i)) x z = cc
  is_stop c s from root (Ok Stop) x z = (refl, (cc))
  is_stop c s from root (Err r) x z = cc

  abbrev decided : ℕ → Spot → Result Move Refusal
  decided = decide_of reading page ts

  ending_by : (c p : ℕ) (g : Scope) (l : Left) (root : ℕ) → decided c (spot p g l) ≡ Ok (Ended root) → (N : List Node) (F : List Frame)
      → (x : Stands G N F (spot p g l)) → Ending G (spot p g l) x.tree root N F
  ending_by c p g Nothing root is N F x = absurd (not_head c (spot p g Nothing) (head_at reading page ts g.structs p g.end) root is)
  ending_by c p g TypeWanted root is N F x = absurd (not_type c (spot p g TypeWanted) (reading part.TypeName (level_of page ts p g.end)) root is)
  ending_by c p g (Operand from k at) root is N F x =
      let st = is_stop c (spot p g (Operand from k at)) from at (tail_at ts g.structs g.base k p g.end) root is in
      record {
        waits = x.waits;
        frames = x.frames;
        nodes = x.nodes;
        links = x.links;
        rooted = x.fit.2 ∙ st.1;
        stack = x.stack;
        inside = x.inside;
        room = x.room;
        means = ap (On G x.waits g.end) (sym (stopped G p g from k at N F x st.0)) ∙ x.means;
      }
  ending_by c p g (Whole at) root is N F x =
      record {
        waits = x.waits;
        frames = x.frames;
        nodes = x.nodes;
        links = x.links;
        rooted = x.fit ∙ (cc);
        stack = x.stack;
        inside = x.inside;
        room = x.room;
        means = x.means;
      }

  step_by : (c p : ℕ) (g : Scope) (l : Left) → ((root : ℕ) → decided c (spot p g l) ≡ Ok (Ended root) → ⊥)
      → (N N' : List Node) (F F' : List Frame) (r : Result (Option Spot) Refusal) → c ≡ length N
      → Stands G N F (spot p g l) → Applied (decided c (spot p g l)) F F' N N' r → Keeps G F (spot p g l) N' F' r
  step_by c p g Nothing on N N' F F' r n x a =
      head_kept G p g N N' F F' r c n (head_at reading page ts g.structs p g.end) refl (good_head reading law page ts p g.end g.structs) x a
  step_by c p g TypeWanted on N N' F F' r n x a =
      type_kept G p g N N' F F' r c n (reading part.TypeName (level_of page ts p g.end)) refl x a
  step_by c p g (Operand from k root) on N N' F F' r n x a =
      tail_kept G p g from k root N F x N' F' r c n (tail_at ts g.structs g.base k p g.end) refl (good_tail ts g.structs p g.end g.base k)
      (λ z. on root (ap (go_of c (spot p g (Operand from k root)) from root) z)) a
  step_by c p g (Whole root) on N N' F F' r n x a = absurd (on root refl)

  -- the three ways of a turn

  pub turn_step : (c : ℕ) (m : Result Move Refusal) (s : Spot) → m ≡ decided c s → ((root : ℕ) → m ≡ Ok (Ended root) → ⊥)
      → (N N' : List Node) (F F' : List Frame) (r : Result (Option Spot) Refusal) → c ≡ length N
      → Stands G N F s → Applied m F F' N N' r → Keeps G F s N' F' r
  turn_step c m s is on N N' F F' r n x a =
      step_by c s.place s.scope s.left (λ y z. on y (is ∙ z)) N N' F F' r n x (subst (λ (k : Result Move Refusal). Applied k F F' N N' r) is a)

  pub turn_close : (c d : ℕ) (m : Result Move Refusal) (s : Spot) (root : ℕ) → Ok (Ended root) ≡ decided c s → (N N₁ N' : List Node) (F F₀ F' : List Frame) (r : Result (Option Spot) Refusal) (f : Frame) (links : Links)
      → m ≡ close_of ts d (frame f.job f.from f.scope links) s
      → Stands G N F s → F ≡ F₀ ++ f ∷ []
      → N₁ ≡ link_to N f.links.last root → links ≡ attached f.links root → d ≡ length N₁
      → Applied m F₀ F' N₁ N' r → Keeps G F s N' F' r
  turn_close c d m s root is N N₁ N' F F₀ F' r f links closes x pops n₁ k₁ n a =
      ended_kept G s x.tree root N F (ending_by c s.place s.scope s.left root (sym is) N F x) N₁ N' F₀ F' r d f links pops n₁ k₁ n
      (subst (λ (k : Result Move Refusal). Applied k F₀ F' N₁ N' r) closes a)

  pub turn_done : (c : ℕ) (s : Spot) (root : ℕ) → Ok (Ended root) ≡ decided c s → (N : List Node) (F F' : List Frame) → Stands G N F s → length F ≡ 0 → Keeps G F s N F' (Ok None)
  turn_done c s root is N F F' x empty =
      done_kept G s x.tree root N F (ending_by c s.place s.scope s.left root (sym is) N F x) F' empty

  -- how the loop goes on and ends

  module _ (F : List Frame) (s : Spot) (N' : List Node) (F' : List Frame) where
    pub goes_on : (o : Option Spot) (next : Spot) → o ≡ Some next → Keeps G F s N' F' (Ok o) → to_go reading page ts top all F' next < to_go reading page ts top all F s
    goes_on None next is k = cc
    goes_on (Some n) next is k =
        let e : n ≡ next = cc in
        subst (λ (z : Spot). to_go reading page ts top all F' z < to_go reading page ts top all F s) e k.falls

    pub ends_read : (o : Option Spot) → o ≡ None → Keeps G F s N' F' (Ok o) → (◌≡◌ {A = Result ℕ Refusal} (Ok s.place) (answer all)) × Read all S N'
    ends_read (Some n) is k = cc
    ends_read None is k = (sym (ap answer k.is), subst (λ (x : Outcome). Read x S N') (sym k.is) (record { nodes = k.nodes; few = k.few }))

  pub ends_refused : (N' : List Node) (r : Refusal) → Turned reading page ts top all S N' r → (◌≡◌ {A = Result ℕ Refusal} (Err r) (answer all)) × Read all S N'
  ends_refused N' r k = (sym (ap answer k.is), subst (λ (x : Outcome). Read x S N') (sym k.is) (record { more = k.more; nodes = k.nodes }))

module _ (reading : Part → List Field → Result ℕ Denial) (page : List ℕ) (ts : List Token) where
  -- before the first turn nothing is written or begun
  pub sound_start : (f : Bool) (p e p' e' : ℕ) (N : List Node) (F : List Frame) → p ≤ e → p' ≡ p → e' ≡ e → F ≡ []
      → Sound reading page ts e (R reading page ts (expr f 0 p e)) N N F (spot p' (scope e' 0 f) Nothing)
  sound_start f p e p' e' N F h place end empty =
      let fs : length F ≡ 0 = ap length empty in
      record {
        waits = [];
        tree = dummy;
        frames = empty;
        nodes = sym (append-nil N);
        links = tt;
        fit = tt;
        stack = omega arith;
        inside = omega arith;
        room = omega arith;
        means = ap (λ (i : ℕ). R reading page ts (expr f 0 i e')) place ∙ ap (λ (i : ℕ). R reading page ts (expr f 0 p i)) end;
      }
