-- From what the calls below do to what an entry does to a sheet. Assumes nothing.
use Rattle.std.proofs.Common.{◌≡◌, ℕ, ◌+◌, ◌-◌, ◌<◌, ◌≤◌, min, Bool, cond, ltb, List, [], ◌∷◌, ◌++◌, length, take, Some, None, Ok, Err, Option, Result, sym, refl, ap, ◌∙◌, subst, arith, take_all, lt-ltb, le-leb}
use Rattle.std.proofs.lemmas.List.{take-append-le}
use Rattle.refusals.specs.declared.Refusal.{Refusal}
use Rattle.refusals.specs.declared.Refusal.TheVariants.{SheetFull}
use Rattle.tokens.specs.declared.Token.{Token}
use Rattle.tokens.specs.declared.window.Window.{Window}
use Rattle.trees.specs.declared.Node.{Node}
use Rattle.pages.specs.Pages.{tokens_of, fault_of, answer, page_answer}
use Rattle.grammar.specs.Grammar.{expr, read_task, read_expr}
use Rattle.sheets.specs.declared.records.Rule.{Rule}
use Rattle.sheets.specs.declared.records.Totals.{Totals}
use Rattle.sheets.specs.Model.{Reading, Entry, rule_at, whole, fitting, unless_fault, token_room, entry_of, space_after}
use Rattle.sheets.specs.States.{State, state, room_of, nodes_of, rules_of, Enters, Reads}

pub room_kept : (s t : State) → length t.nodes ≡ length s.nodes → length t.rules ≡ length s.rules → room_of t ≡ room_of s
room_kept s t a b = cc

-- a page that is answered with a number has no fault, and that number of tokens
pub no_fault : (o : Option Refusal) (n m : ℕ) → Ok n ≡ answer o m → (o ≡ None) × (n ≡ m)
no_fault None n m is = (refl, (cc))
no_fault (Some f) n m is = cc

-- the tokens of the page are the front of the token space
pub front_tokens : (ts rest space : List Token) (n : ℕ) → space ≡ ts ++ rest → n ≡ length ts → take (n - 0) space ≡ ts
front_tokens ts rest space n is long =
    let k : n - 0 ≡ length ts = omega arith in
    let all : length ts ≤ length ts = omega arith in
    ap (λ (i : ℕ). take i space) k ∙ ap (take (length ts)) is ∙ take-append-le (length ts) ts rest all ∙ take_all (length ts) ts all

module _ (s : State) (reading : Reading) (page : List ℕ) (k : ℕ) (structs : Bool)
    (clean : fault_of k page ≡ None)
    (room : length (tokens_of k page) ≤ (room_of s).nodes - s.totals.nodes)
    (free : s.totals.rules < (room_of s).rules) where
  abbrev read : Result Entry Refusal
  read = whole (length (tokens_of k page)) (read_expr reading page (tokens_of k page) structs)

  abbrev entry : Result Entry Refusal
  entry = entry_of (room_of s) s.totals.nodes s.totals.rules reading page k structs

  -- past the page and the room, the entry is the reading
  opened : entry ≡ read
  opened =
      ap (λ (f : Option Refusal). unless_fault f (fitting (room_of s) s.totals.nodes s.totals.rules (length (tokens_of k page)) read)) clean
      ∙ ap (λ (b : Bool). cond b (cond (ltb s.totals.rules (room_of s).rules) read (Err SheetFull)) (Err SheetFull)) (le-leb (length (tokens_of k page)) ((room_of s).nodes - s.totals.nodes) room)
      ∙ ap (λ (b : Bool). cond b read (Err SheetFull)) (lt-ltb s.totals.rules (room_of s).rules free)

  refused : (o : Result Entry Refusal) (t : State) (f : Refusal) (r : Result ℕ Refusal) (n : ℕ)
      → Reads o s.nodes s.totals.nodes t.nodes n (Err f) → t.rules ≡ s.rules → t.totals ≡ s.totals → r ≡ Err f → Enters o s t r
  refused (Ok e) t f r n (a, b, c, d) rules totals is = cc
  refused (Err g) t f r n (a, b) rules totals is =
      let x : r ≡ Err g = cc in
      let y : nodes_of t ≡ nodes_of s = ap (λ (i : ℕ). take i t.nodes) (ap (λ z. z.nodes) totals) ∙ b in
      let z : rules_of t ≡ rules_of s = cc in
      (x, totals, y, z)

  pub in_refused : (t : State) (r : Result ℕ Refusal) (f : Refusal) (n : ℕ) → Reads read s.nodes s.totals.nodes t.nodes n (Err f)
      → t.rules ≡ s.rules → t.totals ≡ s.totals → r ≡ Err f → Enters entry s t r
  in_refused t r f n reads rules totals is = subst (λ (o : Result Entry Refusal). Enters o s t r) (sym opened) (refused read t f r n reads rules totals is)

  accepted : (o : Result Entry Refusal) (t : State) (x : Rule) (n : ℕ)
      → Reads o s.nodes s.totals.nodes t.nodes t.totals.nodes (Ok x)
      → rules_of t ≡ rules_of s ++ x ∷ [] → t.totals.rules ≡ s.totals.rules + 1 → n ≡ s.totals.rules → Enters o s t (Ok n)
  accepted (Err f) t x n (a, b) rules count number = cc
  accepted (Ok e) t x n (a, b, c, d) rules count number =
      let same : x ≡ rule_at s.totals.nodes e = cc in
      (ap Ok number, b, count, c, rules ∙ ap (λ (y : Rule). rules_of s ++ y ∷ []) same)

  pub in_accepted : (t : State) (n : ℕ) (x : Rule) → Reads read s.nodes s.totals.nodes t.nodes t.totals.nodes (Ok x)
      → rules_of t ≡ rules_of s ++ x ∷ [] → t.totals.rules ≡ s.totals.rules + 1 → n ≡ s.totals.rules → Enters entry s t (Ok n)
  in_accepted t n x reads rules count number = subst (λ (o : Result Entry Refusal). Enters o s t (Ok n)) (sym opened) (accepted read t x n reads rules count number)

-- what the reading of a level does is what the reading of the page's tokens does
pub level_reads : (reading : Reading) (page page' : List ℕ) (ts ts' : List Token) (structs : Bool) (p e : ℕ) (N N' : List Node) (n₀ n n' : ℕ) (r : Result Rule Refusal)
    → page' ≡ page → ts' ≡ ts → p ≡ 0 → e ≡ length ts → n₀ ≡ n
    → Reads (whole e (read_task reading page' ts' (expr structs 0 p e))) N n₀ N' n' r
    → Reads (whole (length ts) (read_expr reading page ts structs)) N n N' n' r
level_reads reading page page' ts ts' structs p e N N' n₀ n n' r pages tokens start stop count reads =
    subst (λ (x : ℕ). Reads (whole (length ts) (read_expr reading page ts structs)) N x N' n' r) count
    (subst (λ (x : List ℕ). Reads (whole (length ts) (read_task reading x ts (expr structs 0 0 (length ts)))) N n₀ N' n' r) pages
    (subst (λ (x : List Token). Reads (whole (length ts) (read_task reading page' x (expr structs 0 0 (length ts)))) N n₀ N' n' r) tokens
    (subst (λ (x : ℕ). Reads (whole (length ts) (read_task reading page' ts' (expr structs 0 x (length ts)))) N n₀ N' n' r) start
    (subst (λ (x : ℕ). Reads (whole x (read_task reading page' ts' (expr structs 0 p x))) N n₀ N' n' r) stop reads))))

-- what is known once the page is read and the sheet has room
pub record Opened (s : State) (page : List ℕ) (space after : List Token) (n : ℕ) : Type 0 where
  pub clean : fault_of (token_room space) page ≡ None
  pub long : n ≡ length (tokens_of (token_room space) page)
  pub room : length (tokens_of (token_room space) page) ≤ (room_of s).nodes - s.totals.nodes
  pub free : s.totals.rules < (room_of s).rules
  pub front : take (n - 0) after ≡ tokens_of (token_room space) page

pub opened_by : (s : State) (page : List ℕ) (space after : List Token) (n f g : ℕ)
    → Ok n ≡ page_answer (token_room space) page → after ≡ space_after page space
    → f ≡ min (length s.nodes) 4096 - s.totals.nodes → n ≤ f
    → g ≡ min (length s.rules) 256 - s.totals.rules → (g ≡ 0 → ⊥)
    → Opened s page space after n
opened_by s page space after n f g value is f-is fits g-is some =
    let q = no_fault (fault_of (token_room space) page) n (length (tokens_of (token_room space) page)) value in
    record {
      clean = q.0;
      long = q.1;
      room = omega (arith, q.1);
      free = omega (arith, some);
      front = front_tokens (tokens_of (token_room space) page) _ after n is q.1;
    }

-- the window over the page's tokens shows all of them
record Shows (w : Window) (page : List ℕ) (ts : List Token) : Type 0 where
  bytes : w.page.now ≡ page
  tokens : w.tokens.now ≡ ts
  place : w.place ≡ 0
  end : w.end ≡ length ts

-- what the reading of that window does is what the reading of the page's tokens does
shown_reads : (reading : Reading) (page : List ℕ) (ts : List Token) (structs : Bool) (w : Window) → Shows w page ts
    → whole w.end (read_task reading w.page.now w.tokens.now (expr structs 0 w.place w.end)) ≡ whole (length ts) (read_expr reading page ts structs)
shown_reads reading page ts structs w x =
    let n = x.end in
    let p = x.place in
    let a = x.bytes in
    let b = x.tokens in
    cc

-- a page was read, the sheet has room, and the reading of a rule began with the totals `was`
module _ (s : State) (reading : Reading) (page : List ℕ) (space after : List Token) (k : ℕ) (structs : Bool) (w : Window) (was : Totals)
    (o : Opened s page space after k) (bytes : w.page.now ≡ page) (tokens : w.tokens.now ≡ take (k - 0) after) (place : w.place ≡ 0) (end : w.end ≡ length (take (k - 0) after)) (begun : was ≡ s.totals) where
  abbrev came : Result Entry Refusal
  came = whole w.end (read_task reading w.page.now w.tokens.now (expr structs 0 w.place w.end))

  abbrev wanted : Result Entry Refusal
  wanted = entry_of (room_of s) s.totals.nodes s.totals.rules reading page (token_room space) structs

  abbrev shown : Result Entry Refusal
  shown = whole (length (tokens_of (token_room space) page)) (read_expr reading page (tokens_of (token_room space) page) structs)

  reads_so : (N' : List Node) (n' : ℕ) (r : Result Rule Refusal) → Reads came s.nodes was.nodes N' n' r → Reads shown s.nodes s.totals.nodes N' n' r
  reads_so N' n' r reads =
      subst (λ (x : Result Entry Refusal). Reads x s.nodes s.totals.nodes N' n' r)
      (shown_reads reading page (tokens_of (token_room space) page) structs w (record { bytes = bytes; tokens = tokens ∙ o.front; place = place; end = end ∙ ap length o.front }))
      (subst (λ (x : Totals). Reads came s.nodes x.nodes N' n' r) begun reads)

  -- the reading is refused: the totals are put back
  pub enters_refused : (t : State) (r : Result ℕ Refusal) (f : Refusal) (n : ℕ) → Reads came s.nodes was.nodes t.nodes n (Err f)
      → t.rules ≡ s.rules → t.totals ≡ s.totals → r ≡ Err f → Enters wanted s t r
  enters_refused t r f n reads rules totals is =
      in_refused s reading page (token_room space) structs o.clean o.room o.free t r f n (reads_so t.nodes n (Err f) reads) rules totals is

  -- a rule x is read: it is added to the rules in use
  pub enters_accepted : (N' : List Node) (R' : List Rule) (totals : Totals) (x : Rule) (n r : ℕ) → Reads came s.nodes was.nodes N' n (Ok x)
      → (was.rules < length s.rules → r ≡ was.rules + 1) → (was.rules < length s.rules → take r R' ≡ take was.rules s.rules ++ x ∷ [])
      → totals ≡ record { nodes = n; rules = r } → Enters wanted s (state N' R' totals) (Ok was.rules)
  enters_accepted N' R' totals x n r reads more pushed put =
      let old : was.rules ≡ s.totals.rules = ap (λ (t : Totals). t.rules) begun in
      let fits : was.rules < length s.rules = omega (arith, o.free, old) in
      in_accepted s reading page (token_room space) structs o.clean o.room o.free (state N' R' totals) was.rules x
      (subst (λ (i : ℕ). Reads shown s.nodes s.totals.nodes N' i (Ok x)) (sym (ap (λ (t : Totals). t.nodes) put)) (reads_so N' n (Ok x) reads))
      (ap (λ (t : Totals). take t.rules R') put ∙ pushed fits ∙ ap (λ (i : ℕ). take i s.rules ++ x ∷ []) old)
      (ap (λ (t : Totals). t.rules) put ∙ more fits ∙ ap (λ (i : ℕ). i + 1) old) old
