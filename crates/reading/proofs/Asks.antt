-- What a turn asks: that levels lie in one another, and room for what is begun or written. Assumes nothing.
use Rattle.std.proofs.Common.{◌≡◌, ℕ, ◌+◌, ◌<◌, ◌≤◌, eqb, List, [], ◌∷◌, ◌++◌, length, None, Ok, Err, Result, sym, refl, ap, ◌∙◌, subst, arith, length-append}
use Rattle.std.proofs.lemmas.List.{same_from_push}
use Rattle.std.proofs.lemmas.Bool.{cond_both}
use Rattle.refusals.specs.declared.Part.TheVariants as part
use Rattle.refusals.specs.declared.Denial.{Denial}
use Rattle.refusals.specs.declared.Refusal.{Refusal}
use Rattle.tokens.specs.Looks.{level_of}
use Rattle.trees.specs.declared.Kind.{Kind}
use Rattle.trees.specs.declared.Kind.TheVariants as kind
use Rattle.trees.specs.declared.Node.{Node}
use Rattle.trees.specs.Layout.{Trees, branch, none, ◌then◌, sizes, lays}
use Rattle.grammar.specs.declared.Head.{Head}
use Rattle.grammar.specs.declared.Head.TheVariants.{Leaf, Prefix, Group}
use Rattle.grammar.specs.declared.Tail.{Tail}
use Rattle.grammar.specs.declared.Tail.TheVariants.{Takes, Endless, Casts, Stop}
use Rattle.grammar.specs.Heads.{head_at}
use Rattle.grammar.specs.Tails.{tail_at}
use Rattle.grammar.specs.Grammar.{comma_at, cast_followed}
use Rattle.grammar.proofs.Levels.{taken}
use Rattle.grammar.proofs.Steps.{GoodHead, GoodTail, good_head, good_tail}
use Rattle.reading.specs.Moves.{spot, begin_of, go_of, type_of, decide_of, shut_of, next_item_of, item_of, close_by, close_of}
use Rattle.reading.specs.Machine.{LastIn, last_at, Wait, flat, spilled, Linked, nodes_by, RoomFor}
use Rattle.trees.proofs.Sizes.{lays_length}
use Rattle.reading.specs.declared.frames.Links.{Links}
use Rattle.reading.specs.declared.frames.Job.{Job}
use Rattle.reading.specs.declared.frames.Job.TheVariants as job
use Rattle.reading.specs.declared.frames.Scope.{Scope}
use Rattle.reading.specs.declared.frames.Frame.{Frame}
use Rattle.reading.specs.declared.frames.Left.{Left}
use Rattle.reading.specs.declared.frames.Left.TheVariants.{Nothing, TypeWanted, Operand, Whole}
use Rattle.reading.specs.declared.frames.Spot.{Spot}
use Rattle.reading.specs.declared.frames.Move.{Move}
use Rattle.reading.proofs.Keeping.{Ground, Levels, Stands, ends, up, not_empty}

module _ (G : Ground) where
  open G use {reading, law, page, ts, top, all, start as S}

  -- what a turn asks

  last_in : (us : Trees) (j n : ℕ) → j + sizes us ≤ n → LastIn (last_at j us) n
  last_in none j n h = tt
  last_in (us then branch l vs) j n h = omega arith

  -- the frame on top
  module _ (N : List Node) (F F₀ : List Frame) (f : Frame) (s : Spot) (x : Stands G N F s) (pops : F ≡ F₀ ++ f ∷ []) where
    pub lasts : LastIn f.links.last (length N)
    lasts = go x.waits x.frames x.links x.nodes
      where
        go : (ws : List Wait) → F ≡ flat ws → Linked (length S) ws → N ≡ S ++ (spilled (length S) ws ++ nodes_by (up G ws) s.left x.tree) → LastIn f.links.last (length N)
        go [] flats lk holds = absurd (not_empty F F₀ f pops (ap length flats))
        go (w ∷ ws) flats lk holds =
            let same = same_from_push F₀ (flat ws) f w.frame (sym pops ∙ flats) in
            let a = ap length holds ∙ length-append S (spilled (length S) (w ∷ ws) ++ nodes_by (up G (w ∷ ws)) s.left x.tree) in
            let b = length-append (spilled (length S) (w ∷ ws)) (nodes_by (up G (w ∷ ws)) s.left x.tree) in
            let c = length-append (spilled (length S) ws) (lays (up G ws) None w.held) in
            let d = lays_length w.held (up G ws) None in
            subst (λ (g : Frame). LastIn g.links.last (length N)) (sym same.1)
            (subst (λ (k : Links). LastIn k.last (length N)) (sym lk.0) (last_in w.held (up G ws) (length N) (omega arith)))

    pub closes : s.scope.end + shut_of f.job ≤ f.scope.end
    closes = go x.waits x.frames x.stack
      where
        go : (ws : List Wait) → F ≡ flat ws → Levels G ws s.place s.scope.end → s.scope.end + shut_of f.job ≤ f.scope.end
        go [] flats stack = absurd (not_empty F F₀ f pops (ap length flats))
        go (w ∷ ws) flats stack =
            let same = same_from_push F₀ (flat ws) f w.frame (sym pops ∙ flats) in
            subst (λ (g : Frame). s.scope.end + shut_of g.job ≤ g.scope.end) (sym same.1) stack.1

  pub level : (N : List Node) (F : List Frame) (s : Spot) → Stands G N F s → s.scope.end ≤ top
  level N F s x = ends G x.waits s.place s.scope.end x.stack

  longer : (N : List Node) (F : List Frame) (s : Spot) → Stands G N F s → length S ≤ length N
  longer N F s x = let y = ap length x.nodes ∙ length-append S (spilled (length S) x.waits ++ nodes_by (up G x.waits) s.left x.tree) in omega arith

  -- there is room for what is begun or written

  module _ (c fs fr ns nr : ℕ) where
    room_head : (p : ℕ) (g : Scope) (h : Result Head Refusal) → GoodHead p g.end h → (p < g.end → fs < fr) → (p < g.end → ns < nr) → RoomFor (begin_of c (spot p g Nothing) h) fs fr ns nr
    room_head p g (Ok (Leaf k q)) good u v = v (omega (arith, good.0, good.1))
    room_head p g (Ok (Prefix k o q r)) good u v = u (omega (arith, good.0, good.1))
    room_head p g (Ok (Group i d)) good u v = u (omega (arith, good.0, good.1, good.2))
    room_head p g (Err r) good u v = tt

    room_type : (p : ℕ) (g : Scope) (o : Result ℕ Denial) → o ≡ reading part.TypeName (level_of page ts p g.end) → (p < g.end → ns < nr) → RoomFor (type_of c (spot p g TypeWanted) o) fs fr ns nr
    room_type p g (Ok m) is v = let t = taken page ts p g.end m _ is (law part.TypeName (level_of page ts p g.end)) in v (omega (arith, t.0, t.1))
    room_type p g (Err d) is v = tt

    room_tail : (p : ℕ) (g : Scope) (from k root : ℕ) (h : Result Tail Refusal) → GoodTail p g.end h → (p < g.end → fs < fr) → (p < g.end → ns < nr) → RoomFor (go_of c (spot p g (Operand from k root)) from root h) fs fr ns nr
    room_tail p g from k root (Ok (Takes o q)) good u v = u (omega (arith, good.0, good.1))
    room_tail p g from k root (Ok (Endless q)) good u v = v (omega (arith, good.0, good.1))
    room_tail p g from k root (Ok (Casts i)) good u v = u (omega (arith, good.0, good.1))
    room_tail p g from k root (Ok Stop) good u v = tt
    room_tail p g from k root (Err r) good u v = tt

    room_by : (p : ℕ) (g : Scope) (l : Left) → (p < g.end → fs < fr) → (p < g.end → ns < nr) → RoomFor (decide_of reading page ts c (spot p g l)) fs fr ns nr
    room_by p g Nothing u v = room_head p g (head_at reading page ts g.structs p g.end) (good_head reading law page ts p g.end g.structs) u v
    room_by p g TypeWanted u v = room_type p g (reading part.TypeName (level_of page ts p g.end)) refl v
    room_by p g (Operand from k root) u v = room_tail p g from k root (tail_at ts g.structs g.base k p g.end) (good_tail ts g.structs p g.end g.base k) u v
    room_by p g (Whole root) u v = tt

    room_item : (d : Kind) (f : Frame) (s : Spot) → fs < fr → ns < nr → RoomFor (item_of ts c d f s) fs fr ns nr
    room_item d f s g h =
        cond_both (eqb s.place s.scope.end) _ _ (λ (m : Result Move Refusal). RoomFor m fs fr ns nr) (λ _. h)
        (λ _. cond_both (comma_at ts s.place s.scope.end) (Ok (next_item_of c f s.place s.scope.end)) _ (λ (m : Result Move Refusal). RoomFor m fs fr ns nr)
        (λ _. cond_both (eqb (s.place + 1) s.scope.end) _ _ (λ (m : Move). RoomFor (Ok m) fs fr ns nr) (λ _. h) (λ _. g))
        (λ _. tt))

    room_any : (f : Frame) (s : Spot) (j : Job) → fs < fr → ns < nr → RoomFor (close_by ts c j f s) fs fr ns nr
    room_any f s (job.Operand k o) g h = h
    room_any f s job.First g h = room_item kind.Paren f s g h
    room_any f s job.Item g h = room_item kind.Tuple f s g h
    room_any f s (job.Right o) g h = h
    room_any f s job.CastTo g h = cond_both (cast_followed ts s.place s.scope.end) _ _ (λ (m : Result Move Refusal). RoomFor m fs fr ns nr) (λ _. tt) (λ _. h)

  pub room_step : (c : ℕ) (m : Result Move Refusal) (N : List Node) (F : List Frame) (s : Spot) (fs fr ns nr : ℕ) → Stands G N F s → m ≡ decide_of reading page ts c s
      → length F ≡ fs → length N ≡ ns → top ≤ fr → length S + top ≤ nr → RoomFor m fs fr ns nr
  room_step c m N F s fs fr ns nr x is f n hf hn =
      let l = level N F s x in
      let y = longer N F s x in
      subst (λ (k : Result Move Refusal). RoomFor k fs fr ns nr) (sym is)
      (room_by c fs fr ns nr s.place s.scope s.left (λ h. omega (arith, x.room)) (λ h. omega (arith, x.room)))

  pub room_close : (c : ℕ) (m : Result Move Refusal) (N : List Node) (F F₀ : List Frame) (f g : Frame) (s : Spot) (fs fr ns nr : ℕ) → Stands G N F s → F ≡ F₀ ++ f ∷ [] → m ≡ close_of ts c g s
      → length F ≡ fs + 1 → length N ≡ ns → top ≤ fr → length S + top ≤ nr → RoomFor m fs fr ns nr
  room_close c m N F F₀ f g s fs fr ns nr x pops is k n hf hn =
      let l = level N F s x in
      let y = longer N F s x in
      subst (λ (k : Result Move Refusal). RoomFor k fs fr ns nr) (sym is)
      (room_any c fs fr ns nr g s g.job (omega (arith, x.room, x.inside)) (omega (arith, x.room, x.inside)))
