-- A turn where what was begun last has ended. Assumes nothing.
use Rattle.std.proofs.Common.{◌≡◌, ℕ, ◌+◌, ◌<◌, ◌≤◌, Bool, true, false, cond, eqb, List, [], ◌∷◌, ◌++◌, length, get_or, Some, None, Ok, Err, Option, Result, sym, refl, ap, ◌∙◌, subst, append_assoc, add-zero, arith, length-append}
use borrow.Author.Tests.{eqb-false}
use Rattle.std.proofs.lemmas.List.{same_from_push, length_push, length-set}
use Rattle.refusals.specs.declared.Refusal.{Refusal}
use Rattle.refusals.specs.declared.Refusal.TheVariants as refusal
use Rattle.trees.specs.declared.Kind.{Kind}
use Rattle.trees.specs.declared.Kind.TheVariants as kind
use Rattle.trees.specs.declared.Node.{Node}
use Rattle.trees.specs.Layout.{Tree, branch, ◌then◌, sizes, root_at, lay, lays}
use Rattle.grammar.specs.Grammar.{label, kind_of, op_of, took, refused, items, comma_at, cast_followed, go_on}
use Rattle.reading.specs.Moves.{group_scope, spot, frame, finished_of, shut_of, next_item_of, close_by, close_of}
use Rattle.reading.specs.Machine.{with_next, no_node, link_to, attached, last_at, links_at, Wait, flat, spilled, Linked, again, after_by, Applied}
use Rattle.trees.proofs.Sizes.{lays_length}
use Rattle.reading.proofs.Layouts.{relink}
use Rattle.reading.proofs.Means.{wait, climb_in, R, again_is, items_by, items_means}
use Rattle.reading.specs.declared.frames.Links.{Links}
use Rattle.reading.specs.declared.frames.Job.{Job}
use Rattle.reading.specs.declared.frames.Job.TheVariants as job
use Rattle.reading.specs.declared.frames.Frame.{Frame}
use Rattle.reading.specs.declared.frames.Left.TheVariants.{Nothing}
use Rattle.reading.specs.declared.frames.Spot.{Spot}
use Rattle.reading.specs.declared.frames.Move.TheVariants.{Push}
use Rattle.reading.proofs.Keeping.{Ground, Levels, Keeps, On, ends, later, up, made_kept, push_kept, refuse_kept, not_empty}

module _ (G : Ground) where
  open G use {reading, law, page, ts, top, all, start as S}

  -- the tree t ended and was attached, and the frame w goes on

  pub record Closing (s : Spot) (N : List Node) (F : List Frame) (w : Wait) (ws : List Wait) (t : Tree) (j : Job) (k : Links) : Type 0 where
    holds : N ≡ S ++ (spilled (length S) ws ++ lays (up G ws) None (w.held then t))
    linked : k ≡ links_at (up G ws) (w.held then t)
    links : Linked (length S) ws
    low : w.at < s.place
    within : s.scope.end + shut_of j ≤ w.frame.scope.end
    stack : Levels G ws w.at w.frame.scope.end
    inside : s.place ≤ s.scope.end
    room : length N + length F ≤ length S + s.place
    less : length F ≡ length (flat ws) + 1

  module _ (s : Spot) (N N' : List Node) (F F' : List Frame) (r : Result (Option Spot) Refusal) (w : Wait) (ws : List Wait) (t : Tree) (c : ℕ) (counts : c ≡ length N) (k : Links) where
    -- the frame as it goes on, with the links of all its children
    abbrev filled : Job → Frame
    filled j = frame j w.frame.from w.frame.scope k

    -- the node that the frame waited to write; its task was asked for at a place a
    fold_kept : (j : Job) (d : Kind) (o to a : ℕ) → Closing s N F w ws t j k
        → s.place ≤ to → to ≤ w.frame.scope.end → a ≤ s.place → a < to
        → On G ws w.frame.scope.end (go_on reading page ts (again reading page ts a w.frame.scope.end) w.frame.scope.structs w.frame.scope.base (label d o w.frame.from to) (w.held then t) w.frame.scope.end) ≡ all
        → Applied (Ok (finished_of c (filled j) d o to)) (flat ws) F' N N' r
        → Keeps G F s N' F' r
    fold_kept j d o to a x further inside early earlier means ap-is =
        let u = climb_in w.frame.scope (branch (label d o w.frame.from to) (w.held then t)) to in
        let high = ends G ws w.at w.frame.scope.end x.stack in
        let go : again reading page ts a w.frame.scope.end u ≡ R reading page ts u = again_is reading page ts a w.frame.scope.end u (omega arith) in
        made_kept G s N N' F (flat ws) F' r ws (label d o w.frame.from to) k.first (w.held then t) w.frame.scope c
        (record { flats = refl; holds = x.holds; links = x.links }) (ap (λ (z : Links). z.first) x.linked) counts
        (later G ws w.at to w.frame.scope.end (omega (arith, x.low)) x.stack) inside (omega (arith, x.room, x.less)) (omega (arith, x.less))
        (ap (On G ws w.frame.scope.end) (sym go) ∙ means) ap-is

    -- behind a comma
    more_kept : (j : Job) (closed : Bool) → shut_of j ≡ 1 → s.place < s.scope.end → Closing s N F w ws t j k
        → On G ws w.frame.scope.end (items_by reading page ts k closed w.frame.scope w.frame.from (w.held then t) s.place s.scope.end) ≡ all
        → Applied (Ok (cond closed (finished_of c (filled j) kind.Tuple 0 (s.scope.end + 1)) (Push (filled job.Item) (spot (s.place + 1) (group_scope s.scope.end) Nothing)))) (flat ws) F' N N' r
        → Keeps G F s N' F' r
    more_kept j true one lt x means a =
        let high = ends G ws w.at w.frame.scope.end x.stack in
        made_kept G s N N' F (flat ws) F' r ws (label kind.Tuple 0 w.frame.from (s.scope.end + 1)) k.first (w.held then t) w.frame.scope c
        (record { flats = refl; holds = x.holds; links = x.links }) (ap (λ (z : Links). z.first) x.linked) counts
        (later G ws w.at (s.scope.end + 1) w.frame.scope.end (omega (arith, x.low)) x.stack) (omega (arith, x.within)) (omega (arith, x.room, x.less)) (omega (arith, x.less, x.within))
        means a
    more_kept j false one lt x means a =
        let high = ends G ws w.at w.frame.scope.end x.stack in
        push_kept G s N N' F (flat ws) F' r ws (wait (filled job.Item) s.place (w.held then t)) (s.place + 1) (group_scope s.scope.end) Nothing
        (record { flats = refl; holds = x.holds; links = x.links }) x.linked (λ _. refl) (λ _. tt)
        (omega arith, omega (arith, x.within), later G ws w.at s.place w.frame.scope.end (omega (arith, x.low)) x.stack) (omega arith) (omega (arith, x.room, x.less)) (omega (arith, x.less, x.within))
        means a

    comma_kept : (j : Job) (a : ℕ) (comma : Bool) → shut_of j ≡ 1 → a ≤ s.place → s.place < s.scope.end → Closing s N F w ws t j k
        → On G ws w.frame.scope.end
        (cond comma (again reading page ts a w.frame.scope.end (items w.frame.scope.structs w.frame.scope.base w.frame.from (w.held then t) (s.place + 1) s.scope.end w.frame.scope.end))
        (refused (refusal.MarkExpected s.place))) ≡ all
        → Applied (cond comma (Ok (next_item_of c (filled j) s.place s.scope.end)) (Err (refusal.MarkExpected s.place))) (flat ws) F' N N' r
        → Keeps G F s N' F' r
    comma_kept j a true one early lt x means app =
        let u = items w.frame.scope.structs w.frame.scope.base w.frame.from (w.held then t) (s.place + 1) s.scope.end w.frame.scope.end in
        let go : again reading page ts a w.frame.scope.end u ≡ R reading page ts u = again_is reading page ts a w.frame.scope.end u (omega (arith, x.within)) in
        more_kept j (eqb (s.place + 1) s.scope.end) one lt x
        (ap (On G ws w.frame.scope.end) (sym (go ∙ items_means reading page ts k w.frame.scope w.frame.from (w.held then t) s.place s.scope.end lt (omega (arith, x.within)))) ∙ means) app
    comma_kept j a false one early lt x means app =
        refuse_kept G s N N' F (flat ws) F' r ws w.frame.scope.end (refusal.MarkExpected s.place) _ x.holds means app

    item_kept : (j : Job) (d : Kind) (a : ℕ) (closed : Bool) → eqb s.place s.scope.end ≡ closed → shut_of j ≡ 1 → a ≤ s.place → Closing s N F w ws t j k
        → On G ws w.frame.scope.end
        (cond closed (go_on reading page ts (again reading page ts a w.frame.scope.end) w.frame.scope.structs w.frame.scope.base (label d 0 w.frame.from (s.scope.end + 1)) (w.held then t) w.frame.scope.end)
        (cond (comma_at ts s.place s.scope.end) (again reading page ts a w.frame.scope.end (items w.frame.scope.structs w.frame.scope.base w.frame.from (w.held then t) (s.place + 1) s.scope.end w.frame.scope.end))
        (refused (refusal.MarkExpected s.place)))) ≡ all
        → Applied
        (cond closed (Ok (finished_of c (filled j) d 0 (s.scope.end + 1)))
        (cond (comma_at ts s.place s.scope.end) (Ok (next_item_of c (filled j) s.place s.scope.end)) (Err (refusal.MarkExpected s.place)))) (flat ws) F' N N' r
        → Keeps G F s N' F' r
    item_kept j d a true is one early x means app =
        fold_kept j d 0 (s.scope.end + 1) a x (omega (arith, x.inside)) (omega (arith, x.within)) early (omega (arith, x.inside)) means app
    item_kept j d a false is one early x means app =
        let ne = eqb-false s.place s.scope.end is in
        comma_kept j a (comma_at ts s.place s.scope.end) one early (omega (arith, x.inside)) x means app

    cast_kept : (followed : Bool) → Closing s N F w ws t job.CastTo k
        → On G ws w.frame.scope.end
        (cond followed (refused (refusal.CastFollowed s.place))
        (go_on reading page ts (again reading page ts w.at w.frame.scope.end) w.frame.scope.structs w.frame.scope.base (label kind.Cast 0 w.frame.from s.place) (w.held then t) w.frame.scope.end)) ≡ all
        → Applied (cond followed (Err (refusal.CastFollowed s.place)) (Ok (finished_of c (filled job.CastTo) kind.Cast 0 s.place))) (flat ws) F' N N' r
        → Keeps G F s N' F' r
    cast_kept true x means a = refuse_kept G s N N' F (flat ws) F' r ws w.frame.scope.end (refusal.CastFollowed s.place) _ x.holds means a
    cast_kept false x means a = fold_kept job.CastTo kind.Cast 0 s.place w.at x (omega arith) (omega (arith, x.inside, x.within)) (omega (arith, x.low)) x.low means a

    close_kept : (j : Job) → Closing s N F w ws t j k
        → On G ws w.frame.scope.end (after_by reading page ts j w s.scope.end t s.place) ≡ all
        → Applied (close_by ts c j (filled j) s) (flat ws) F' N N' r
        → Keeps G F s N' F' r
    close_kept (job.Operand d o) x means a =
        fold_kept (job.Operand d o) d o s.place w.at x (omega arith) (omega (arith, x.inside, x.within)) (omega (arith, x.low)) x.low means a
    close_kept job.First x means a = item_kept job.First kind.Paren w.at (eqb s.place s.scope.end) refl refl (omega (arith, x.low)) x means a
    close_kept job.Item x means a = item_kept job.Item kind.Tuple (w.at + 1) (eqb s.place s.scope.end) refl refl (omega (arith, x.low)) x means a
    close_kept (job.Right o) x means a =
        fold_kept (job.Right o) (kind_of o) (op_of o) s.place w.at x (omega arith) (omega (arith, x.inside, x.within)) (omega (arith, x.low)) x.low means a
    close_kept job.CastTo x means a = cast_kept (cast_followed ts s.place s.scope.end) x means a

  -- the finished child is linked to its sibling
  attach_holds : (ws : List Wait) (w : Wait) (t : Tree) (N : List Node) (root : ℕ)
      → N ≡ S ++ (spilled (length S) (w ∷ ws) ++ lay (up G (w ∷ ws)) None t)
      → w.frame.links ≡ links_at (up G ws) w.held
      → root_at (up G (w ∷ ws)) t ≡ root
      → (link_to N w.frame.links.last root ≡ S ++ (spilled (length S) ws ++ lays (up G ws) None (w.held then t))) × (attached w.frame.links root ≡ links_at (up G ws) (w.held then t))
  attach_holds ws w t N root holds linked rooted =
      let P = spilled (length S) ws in
      let H = lays (up G ws) None w.held in
      let j = up G ws + sizes w.held in
      let start : up G (w ∷ ws) ≡ j = omega (arith, length-append P H, lays_length w.held (up G ws) None) in
      let at-root : root ≡ root_at j t = sym rooted ∙ ap (λ (i : ℕ). root_at i t) start in
      let long : length (S ++ P) ≡ up G ws = length-append S P in
      let shape : N ≡ (S ++ P) ++ (H ++ lay j None t) = holds ∙ ap (λ (i : ℕ). S ++ ((P ++ H) ++ lay i None t)) start ∙ simp append_assoc in
      let same : link_to N w.frame.links.last root ≡ link_to ((S ++ P) ++ (H ++ lay j None t)) (last_at (up G ws) w.held) root =
      ap (λ (k : Links). link_to N k.last root) linked ∙ ap (λ (M : List Node). link_to M (last_at (up G ws) w.held) root) shape in (
        same ∙ relink w.held (S ++ P) (lay j None t) (up G ws) root long ∙ append_assoc S P (lays (up G ws) (Some root) w.held ++ lay j None t)
            ∙ ap (λ (i : ℕ). S ++ (P ++ (lays (up G ws) (Some i) w.held ++ lay j None t))) at-root,
        ap (λ (k : Links). attached k root) linked ∙ ap (λ (i : ℕ). attached (links_at (up G ws) w.held) i) at-root,
      )

  linked_length : (N : List Node) (o : Option ℕ) (root : ℕ) → length (link_to N o root) ≡ length N
  linked_length N None root = refl
  linked_length N (Some l) root = length-set N l (with_next (get_or N l no_node) root)

  -- a tree t has ended at a spot: it was attached to the frame on top
  module _ (s : Spot) (t : Tree) (root : ℕ) (N : List Node) (F : List Frame) where
    pub record Ending : Type 0 where
      pub waits : List Wait
      pub frames : F ≡ flat waits
      pub nodes : N ≡ S ++ (spilled (length S) waits ++ lay (up G waits) None t)
      pub links : Linked (length S) waits
      pub rooted : root_at (up G waits) t ≡ root
      pub stack : Levels G waits s.place s.scope.end
      pub inside : s.place ≤ s.scope.end
      pub room : length N + length F ≤ length S + s.place
      pub means : On G waits s.scope.end (took t s.place) ≡ all

    pub ended_kept : Ending → (N₁ N' : List Node) (F₀ F' : List Frame) (r : Result (Option Spot) Refusal) (c : ℕ) (f : Frame) (links : Links)
        → F ≡ F₀ ++ f ∷ [] → N₁ ≡ link_to N f.links.last root → links ≡ attached f.links root → c ≡ length N₁
        → Applied (close_of ts c (frame f.job f.from f.scope links) s) F₀ F' N₁ N' r
        → Keeps G F s N' F' r
    ended_kept x N₁ N' F₀ F' r c f links pops relinks keys counts a = go x.waits x.frames x.nodes x.links x.stack x.rooted x.means
      where
        go : (ws : List Wait) → F ≡ flat ws → N ≡ S ++ (spilled (length S) ws ++ lay (up G ws) None t) → Linked (length S) ws → Levels G ws s.place s.scope.end → root_at (up G ws) t ≡ root → On G ws s.scope.end (took t s.place) ≡ all → Keeps G F s N' F' r
        go [] flats holds lk stack rooted means = absurd (not_empty F F₀ f pops (ap length flats))
        go (w ∷ ws) flats holds lk stack rooted means =
            let same = same_from_push F₀ (flat ws) f w.frame (sym pops ∙ flats) in
            let att = attach_holds ws w t N root holds lk.0 rooted in
            let n₁ : N₁ ≡ link_to N w.frame.links.last root = relinks ∙ ap (λ (g : Frame). link_to N g.links.last root) same.1 in
            let long : length N₁ ≡ length N = ap length n₁ ∙ linked_length N w.frame.links.last root in
            close_kept s N₁ N' F F' r w ws t c counts links w.frame.job
            (record {
              holds = n₁ ∙ att.0;
              linked = keys ∙ ap (λ (g : Frame). attached g.links root) same.1 ∙ att.1;
              links = lk.1;
              low = stack.0;
              within = stack.1;
              stack = stack.2;
              inside = x.inside;
              room = omega (arith, x.room);
              less = ap length flats ∙ length_push (flat ws) w.frame;
            })
            means
            (subst (λ (g : Frame). Applied (close_of ts c (frame g.job g.from g.scope links) s) (flat ws) F' N₁ N' r) same.1 (subst (λ (fs : List Frame). Applied (close_of ts c (frame f.job f.from f.scope links) s) fs F' N₁ N' r) same.0 a))

    pub done_kept : Ending → (F' : List Frame) → length F ≡ 0 → Keeps G F s N F' (Ok None)
    done_kept x F' empty = go x.waits x.frames x.nodes x.means
      where
        go : (ws : List Wait) → F ≡ flat ws → N ≡ S ++ (spilled (length S) ws ++ lay (up G ws) None t) → On G ws s.scope.end (took t s.place) ≡ all → Keeps G F s N F' (Ok None)
        go [] flats holds means =
            record { tree = t; is = sym means; nodes = holds ∙ ap (λ (i : ℕ). S ++ lay i None t) (add-zero (length S)); few = omega (arith, x.room) }
        go (w ∷ ws) flats holds means = absurd (not_empty F (flat ws) w.frame flats empty)
