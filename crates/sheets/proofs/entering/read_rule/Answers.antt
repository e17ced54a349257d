use Rattle.std.proofs.Common.{◌≡◌, ◌-◌, ℕ, List, Bor, Bool, Ok, Result, take, sym, ◌∙◌, subst, arith, rules}
use Rattle.lists.specs.Lists.{items}
use Rattle.lists.specs.declared.Counted.{Counted}
use Rattle.refusals.specs.declared.Refusal.{Refusal}
use Rattle.tokens.specs.declared.window.Window.{Window}
use Rattle.trees.specs.declared.Node.{Node}
use Rattle.grammar.specs.Grammar.{Outcome, expr, read_task}
use Rattle.sheets.specs.declared.records.Rule.{Rule}
use Rattle.reading.specs.Machine.{Read}
use Rattle.sheets.specs.Model.{Entry, whole}
use Rattle.sheets.specs.States.{Reads}
use Rattle.sheets.proofs.Readings.{refused_reads, left_reads, grown, all_reads}
use Rattle.sheets.proofs.entering.read_rule.Given as given
use Rattle.sheets.proofs.entering.read_rule.Goals as goal

-- what the reading comes to
abbrev outcome : (g : given.Over) → Bor g.row.H.Denot → Window → Bool → Outcome
outcome g host level structs = read_task (g.H.Host.reading host.now) level.page.now level.tokens.now (expr structs 0 level.place level.end)

-- the space and the count hold what the list held last
given_back : (l : Counted Node) (o : Result Entry Refusal) (N N' : List Node) (n n' : ℕ) (r : Result Rule Refusal) → N' ≡ l.space.now → n' ≡ l.count.now → Reads o N n l.space.now l.count.now r → Reads o N n N' n' r
given_back l o N N' n n' r space count reads =
    subst (λ (x : List Node). Reads o N n x n' r) (sym space) (subst (λ (x : ℕ). Reads o N n l.space.now x r) (sym count) reads)

-- at the start it was made over them
list_read : (l : Counted Node) (o : Outcome) (N M : List Node) (n : ℕ) → l.space.now ≡ N → l.count.now ≡ n → Read o (items l) M → Read o (take n N) M
list_read l o N M n space count read =
    subst (λ (x : List Node). Read o (take n x) M) space (subst (λ (x : ℕ). Read o (take x l.space.now) M) count read)

pub returns-in_err-stop : goal.returns-in_err-stop
returns-in_err-stop g c =
    let o = outcome g c.args.host c.args.level c.args.structs in
    let l = c.read_expr.new.nodes in
    let written = list_read c.new-list.result o _ _ _ c.new-list.ensures.holds c.new-list.ensures.counts c.in_err-stop.ensures.written in
    given_back l _ _ _ _ _ _ (search rules) (search rules)
    (refused_reads c.args.nodes.now l.space.now c.args.count.now l.count.now c.args.level.end (omega (arith, c.requires.nodes)) c.in_err-stop.ensures.within o c.in_err-stop.field-0.0 _ (sym c.in_err-stop.ensures.value) written (search rules))

pub returns-then-stop-end : goal.returns-then-stop-end
returns-then-stop-end g c =
    let o = outcome g c.args.host c.args.level c.args.structs in
    let l = c.read_expr.new.nodes in
    let written = list_read c.new-list.result o _ _ _ c.new-list.ensures.holds c.new-list.ensures.counts c.in_ok-stop.ensures.written in
    given_back l _ _ _ _ _ _ (search rules) (search rules)
    (left_reads c.args.nodes.now l.space.now c.args.count.now l.count.now c.args.level.end (omega (arith, c.requires.nodes)) c.in_ok-stop.ensures.within o c.in_ok-stop.stop (sym c.in_ok-stop.ensures.value) (λ e. c.if-stop-end.true (e ∙ sym c.end.ensures)) written)

pub overflow_sub-result : goal.overflow_sub-result
overflow_sub-result g c =
    let o = outcome g c.args.host c.args.level c.args.structs in
    let l = c.read_expr.new.nodes in
    let written = list_read c.new-list.result o _ _ _ c.new-list.ensures.holds c.new-list.ensures.counts c.in_ok-stop.ensures.written in
    let some = grown c.args.nodes.now l.space.now c.args.count.now l.count.now c.args.level.end (omega (arith, c.requires.nodes)) c.in_ok-stop.ensures.within o c.in_ok-stop.stop (sym c.in_ok-stop.ensures.value) written in
    omega (arith, some, c.count.ensures)

pub returns : goal.returns
returns g c =
    let o = outcome g c.args.host c.args.level c.args.structs in
    let l = c.read_expr.new.nodes in
    let written = list_read c.new-list.result o _ _ _ c.new-list.ensures.holds c.new-list.ensures.counts c.in_ok-stop.ensures.written in
    given_back l _ _ _ _ _ _ (search rules) (search rules)
    (subst (λ (k : ℕ). Reads (whole c.args.level.end o) c.args.nodes.now c.args.count.now l.space.now l.count.now (Ok (record { root = k - 1; used = c.in_ok-stop.stop }))) (sym c.count.ensures)
    (all_reads c.args.nodes.now l.space.now c.args.count.now l.count.now c.args.level.end (omega (arith, c.requires.nodes)) c.in_ok-stop.ensures.within o c.in_ok-stop.stop (sym c.in_ok-stop.ensures.value) (c.if-stop-end.false ∙ c.end.ensures) written))
