-- What a turn of the loop keeps as it writes or begins a node, or refuses. Assumes nothing.
use Rattle.std.proofs.Common.{◌≡◌, ℕ, ◌+◌, ◌-◌, ◌*◌, ◌<◌, ◌≤◌, List, [], ◌∷◌, ◌++◌, length, None, Ok, Err, Option, Result, sym, refl, ap, ◌∙◌, subst, append_assoc, append-nil, arith, length-append}
use Rattle.std.proofs.lemmas.List.{length_push}
use Rattle.refusals.specs.declared.Part.{Part}
use Rattle.refusals.specs.declared.Denial.{Denial}
use Rattle.refusals.specs.declared.Refusal.{Refusal}
use Rattle.tokens.specs.declared.Token.{Token}
use Rattle.tokens.specs.declared.window.Window.{Window}
use Rattle.tokens.specs.Looks.{Field}
use Rattle.trees.specs.declared.Kind.TheVariants as kind
use Rattle.trees.specs.declared.Label.{Label}
use Rattle.trees.specs.declared.Node.{Node}
use Rattle.trees.specs.Layout.{Tree, Trees, branch, none, node, sizes, root_at, first_at, lay, lays}
use Rattle.hosts.specs.Lawful.{Lawful}
use Rattle.grammar.specs.Grammar.{label, rank_by, Outcome, refused, and_then}
use Rattle.reading.specs.Moves.{spot, made_of}
use Rattle.reading.specs.Machine.{links_at, Wait, flat, spilled, Linked, nodes_by, FitBy, after_by, resume, ahead_by, Stack, Sound, to_go, Kept, Applied}
use Rattle.trees.proofs.Sizes.{lays_length}
use Rattle.reading.proofs.Means.{climb_in, R, resume_refused}
use Rattle.reading.specs.declared.frames.Scope.{Scope}
use Rattle.reading.specs.declared.frames.Frame.{Frame}
use Rattle.reading.specs.declared.frames.Left.{Left}
use Rattle.reading.specs.declared.frames.Left.TheVariants.{Operand}
use Rattle.reading.specs.declared.frames.Spot.{Spot}
use Rattle.reading.specs.declared.frames.Move.TheVariants.{Push, Emit}

abbrev pub dummy : Tree
dummy = branch (label kind.Path 0 0 0) none

-- what a turn is taken in: a lawful host, the page, where the whole ends and what it comes to, and the output at the start
pub record Ground : Type 0 where
  pub reading : Part → List Field → Result ℕ Denial
  pub law : (w : Part) (l : List Field) → Lawful l (reading w l)
  pub page : List ℕ
  pub ts : List Token
  pub top : ℕ
  pub all : Outcome
  pub start : List Node

abbrev pub ground : (reading : Part → List Field → Result ℕ Denial) → ((w : Part) (l : List Field) → Lawful l (reading w l)) → Window → Outcome → List Node → Ground
ground reading law w all start = record { reading = reading; law = law; page = w.page.now; ts = w.tokens.now; top = w.end; all = all; start = start }

-- behind a frame there is one at least
pub not_empty : (F F₀ : List Frame) (f : Frame) → F ≡ F₀ ++ f ∷ [] → length F ≡ 0 → ⊥
not_empty F F₀ f is empty = let y = ap length is ∙ length_push F₀ f in omega arith

module _ (G : Ground) where
  open G use {reading, law, page, ts, top, all, start as S}

  abbrev pub Levels : List Wait → ℕ → ℕ → Type 0
  Levels = Stack reading page ts top all

  abbrev pub Stands : List Node → List Frame → Spot → Type 0
  Stands = Sound reading page ts top all S

  abbrev pub Keeps : List Frame → Spot → List Node → List Frame → Result (Option Spot) Refusal → Type 0
  Keeps = Kept reading page ts top all S

  abbrev pub On : List Wait → ℕ → Outcome → Outcome
  On = resume reading page ts

  -- the levels lie in one another
  pub ends : (ws : List Wait) (p e : ℕ) → Levels ws p e → e ≤ top
  ends [] p e s = s
  ends (w ∷ ws) p e s = let h = ends ws w.at w.frame.scope.end s.2 in omega (arith, s.1)

  pub later : (ws : List Wait) (p q e : ℕ) → p ≤ q → Levels ws p e → Levels ws q e
  later [] p q e h s = s
  later (w ∷ ws) p q e h s = (omega (arith, s.0), s.1, s.2)

  -- the number of the first node above the frames
  abbrev pub up : List Wait → ℕ
  up ws = length S + length (spilled (length S) ws)

  -- what is known as a move is made: the frames left, and their children with those of the node in hand in the output
  pub record Base (N : List Node) (F : List Frame) (ws : List Wait) (us : Trees) : Type 0 where
    pub flats : F ≡ flat ws
    pub holds : N ≡ S ++ (spilled (length S) ws ++ lays (up ws) None us)
    pub links : Linked (length S) ws

  -- the root that comes next has the number of the nodes so far
  pub next_root : (N : List Node) (ws : List Wait) (us : Trees) → N ≡ S ++ (spilled (length S) ws ++ lays (up ws) None us) → up ws + sizes us ≡ length N
  next_root N ws us holds =
      let a = ap length holds ∙ length-append S (spilled (length S) ws ++ lays (up ws) None us) in
      let b = length-append (spilled (length S) ws) (lays (up ws) None us) in
      let c = lays_length us (up ws) None in
      omega arith

  module _ (s : Spot) (N N' : List Node) (F F₀ F' : List Frame) (r : Result (Option Spot) Refusal) (ws : List Wait) where
    -- a node is written, which then stands left of the place
    pub emit_kept : (l : Label) (first : Option ℕ) (us : Trees) (g : Scope) (now : Left)
        → Base N F₀ ws us → first ≡ first_at (up ws) us
        → ((j : ℕ) → nodes_by j now (branch l us) ≡ lay j None (branch l us))
        → (root_at (up ws) (branch l us) ≡ length N → FitBy (up ws) now (branch l us))
        → Levels ws l.to g.end → l.to ≤ g.end
        → length N + 1 + length F₀ ≤ length S + l.to
        → 2 * (top - l.to) + length F₀ < to_go reading page ts top all F s
        → On ws g.end (ahead_by reading page ts now (spot l.to g now) (branch l us)) ≡ all
        → Applied (Ok (Emit (node l first None) (spot l.to g now))) F₀ F' N N' r
        → Keeps F s N' F' r
    emit_kept l first us g now x firsts lays-it fits stack inside room falls means a =
        let fs = ap length a.1 in
        let ns = ap length a.2 ∙ length_push N (node l first None) in
        let last = node l (first_at (up ws) us) None in
        subst (Keeps F s N' F') (sym a.0)
        (record {
          sound = record {
            waits = ws;
            tree = branch l us;
            frames = a.1 ∙ x.flats;
            nodes =
                a.2 ∙ ap (λ (i : Option ℕ). N ++ node l i None ∷ []) firsts
                ∙ ap (λ (ns : List Node). ns ++ last ∷ []) x.holds
                ∙ append_assoc S (spilled (length S) ws ++ lays (up ws) None us) (last ∷ [])
                ∙ ap (λ (ns : List Node). S ++ ns) (append_assoc (spilled (length S) ws) (lays (up ws) None us) (last ∷ []))
                ∙ ap (λ (ns : List Node). S ++ (spilled (length S) ws ++ ns)) (sym (lays-it (up ws)));
            links = x.links;
            fit = fits (next_root N ws us x.holds);
            stack = stack;
            inside = inside;
            room = omega arith;
            means = means;
          };
          falls = omega arith;
        })

    -- a node is written that stands as an operand
    pub made_kept : (l : Label) (first : Option ℕ) (us : Trees) (g : Scope) (c : ℕ)
        → Base N F₀ ws us → first ≡ first_at (up ws) us → c ≡ length N
        → Levels ws l.to g.end → l.to ≤ g.end
        → length N + 1 + length F₀ ≤ length S + l.to
        → 2 * (top - l.to) + length F₀ < to_go reading page ts top all F s
        → On ws g.end (R reading page ts (climb_in g (branch l us) l.to)) ≡ all
        → Applied (Ok (made_of c l first g)) F₀ F' N N' r
        → Keeps F s N' F' r
    made_kept l first us g c x firsts counts stack inside room falls means a =
        emit_kept l first us g (Operand l.from (rank_by l.kind l.op) c) x firsts (λ _. refl) (λ h. (refl, refl, h ∙ sym counts)) stack inside room falls means a

    -- a node is begun that waits
    pub push_kept : (w : Wait) (q : ℕ) (g : Scope) (now : Left)
        → Base N F₀ ws w.held → w.frame.links ≡ links_at (up ws) w.held
        → ((j : ℕ) → nodes_by j now dummy ≡ []) → ((j : ℕ) → FitBy j now dummy)
        → Levels (w ∷ ws) q g.end → q ≤ g.end
        → length N + (length F₀ + 1) ≤ length S + q
        → 2 * (top - q) + (length F₀ + 1) < to_go reading page ts top all F s
        → On ws w.frame.scope.end (and_then (ahead_by reading page ts now (spot q g now) dummy) (after_by reading page ts w.frame.job w g.end)) ≡ all
        → Applied (Ok (Push w.frame (spot q g now))) F₀ F' N N' r
        → Keeps F s N' F' r
    push_kept w q g now x linked none_yet fit stack inside room falls means a =
        let fs = ap length a.1 ∙ length_push F₀ w.frame in
        let ns = ap length a.2 in
        subst (Keeps F s N' F') (sym a.0)
        (record {
          sound = record {
            waits = w ∷ ws;
            tree = dummy;
            frames = a.1 ∙ ap (λ (fs : List Frame). fs ++ w.frame ∷ []) x.flats;
            nodes =
                a.2 ∙ x.holds
                ∙ ap (λ (ns : List Node). S ++ ns) (sym (append-nil (spilled (length S) (w ∷ ws))))
                ∙ ap (λ (ns : List Node). S ++ (spilled (length S) (w ∷ ws) ++ ns)) (sym (none_yet (up (w ∷ ws))));
            links = (linked, x.links);
            fit = fit (up (w ∷ ws));
            stack = stack;
            inside = inside;
            room = omega arith;
            means = means;
          };
          falls = omega arith;
        })

    pub refuse_kept : (e : ℕ) (f : Refusal) (older : List Node)
        → N ≡ S ++ older
        → On ws e (refused f) ≡ all
        → Applied (Err f) F₀ F' N N' r
        → Keeps F s N' F' r
    refuse_kept e f older holds means a =
        subst (Keeps F s N' F') (sym a.0) (record { is = sym means ∙ resume_refused reading page ts ws e f; more = older; nodes = a.2 ∙ holds })
