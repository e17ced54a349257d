use Rattle.std.proofs.Common.{ℕ, ◌≤◌, get_or, sym, ap, ◌∙◌, subst}
use Rattle.trees.specs.declared.Node.{Node}
use Rattle.lines.specs.Lines.{line_bytes, written}
use Rattle.sheets.specs.Sheets.{state_of}
use Rattle.sheets.specs.Model.{no_node}
use Rattle.sheets.proofs.Follow.{spans_fit, a_line, in_use}
use Rattle.sheets.proofs.Sheet.line.Goals as goal

pub node_line-requires-clause-from : goal.node_line-requires-clause-from
node_line-requires-clause-from c =
    let s = state_of c.args.self.now in
    subst (λ (n : Node). n.label.from ≤ 4096) (in_use s c.args.i no_node c.if-i-self.false) (spans_fit s c.args.self.now.held c.args.i).0

pub node_line-requires-clause-to : goal.node_line-requires-clause-to
node_line-requires-clause-to c =
    let s = state_of c.args.self.now in
    subst (λ (n : Node). n.label.to ≤ 4096) (in_use s c.args.i no_node c.if-i-self.false) (spans_fit s c.args.self.now.held c.args.i).1

pub returns-clause-value : goal.returns-clause-value
returns-clause-value c =
    let n = get_or c.args.self.now.nodes.now c.args.i no_node in
    c.node_line.ensures
    ∙ ap (λ (k : ℕ). written (line_bytes c.args.i k n.label.op n.label.from n.label.to) c.args.out.now) c.number.ensures.value
    ∙ sym (a_line (state_of c.args.self.now) c.args.i c.args.out.now c.args.self.now.held c.if-i-self.false)
