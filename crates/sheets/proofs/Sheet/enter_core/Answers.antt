use Rattle.std.proofs.Common.{◌≡◌, Ok, Err, refl, rules}
use Rattle.sheets.specs.Sheets.{state_of}
use Rattle.sheets.specs.States.{state}
use Rattle.sheets.proofs.Enterings.{room_kept, opened_by, enters_refused, enters_accepted}
use Rattle.sheets.proofs.Follow.{still_held}
use Rattle.sheets.proofs.Sheet.enter_core.Goals as goal

pub invariant_of-self-in_err-rule : goal.invariant_of-self-in_err-rule
invariant_of-self-in_err-rule g c =
    let s = state_of c.args.self.now in
    let o = opened_by s c.args.page.now c.args.tokens.now c.read_page.new.space c.in_ok-count.count _ _ c.in_ok-count.ensures.answer c.in_ok-count.ensures.records c.free.ensures c.if-count-free.false c.free-2.ensures c.if-free-eq0.false in
    let l = c.new-level.ensures in
    let t = state c.read_rule.new.nodes c.args.self.now.rules.now c.drop-guard.new.self.0 in
    record {
      held = still_held s t (g.H.Host.reading c.args.host.now) (g.met.H.Host.lawful c.args.host.now) c.args.page.now c.args.tokens.now c.args.structs (Err c.in_err-rule.field-0.0) (room_kept s t (search rules) refl)
          (enters_refused s (g.H.Host.reading c.args.host.now) c.args.page.now c.args.tokens.now c.read_page.new.space c.in_ok-count.count c.args.structs c.new-level.result c.new-guard.result.totals.now o l.page l.tokens l.place l.end c.new-guard.ensures.made.1
          t _ c.in_err-rule.field-0.0 c.read_rule.new.count c.in_err-rule.ensures refl (search rules) refl) c.args.self.now.held;
    }

pub invariant_of-self-2 : goal.invariant_of-self-2
invariant_of-self-2 g c =
    let s = state_of c.args.self.now in
    let o = opened_by s c.args.page.now c.args.tokens.now c.read_page.new.space c.in_ok-count.count _ _ c.in_ok-count.ensures.answer c.in_ok-count.ensures.records c.free.ensures c.if-count-free.false c.free-2.ensures c.if-free-eq0.false in
    let l = c.new-level.ensures in
    let put : c.drop-guard-2.new.self.0 ≡ record { nodes = c.read_rule.new.count; rules = c.append.new.count } = search rules in
    let t = state c.read_rule.new.nodes c.append.new.space c.drop-guard-2.new.self.0 in
    record {
      held = still_held s t (g.H.Host.reading c.args.host.now) (g.met.H.Host.lawful c.args.host.now) c.args.page.now c.args.tokens.now c.args.structs (Ok c.new-guard.result.totals.now.rules) (room_kept s t (search rules) (search rules))
          (enters_accepted s (g.H.Host.reading c.args.host.now) c.args.page.now c.args.tokens.now c.read_page.new.space c.in_ok-count.count c.args.structs c.new-level.result c.new-guard.result.totals.now o l.page l.tokens l.place l.end c.new-guard.ensures.made.1
          c.read_rule.new.nodes c.append.new.space _ c.in_ok-rule.rule _ _ c.in_ok-rule.ensures c.append.ensures.count c.append.ensures.pushed put) c.args.self.now.held;
    }
