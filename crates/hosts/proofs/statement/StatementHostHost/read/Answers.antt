use Rattle.std.proofs.Common.{◌≡◌, ℕ, List, sym, ap, ◌∙◌, subst, ok_or, arith}
use Rattle.std.proofs.lemmas.Bool.Decides.{nat_tests}
use Rattle.refusals.specs.declared.Part.{Part}
use Rattle.tokens.specs.declared.Token.{Token}
use Rattle.tokens.specs.Looks.{level_of}
use Rattle.hosts.specs.Runs.{LongestRun}
use Rattle.hosts.specs.Statements.{looks_from, length_of, found, answer, statement_reading}
use Rattle.hosts.specs.Levels.{looks_level}
use Rattle.hosts.specs.Longest.{longest_run}
use Rattle.hosts.proofs.statement.StatementHostHost.read.Goals as goal

answered : (n : ℕ) → ok_or (found n) (record { host = 2; code = 3 }) ≡ answer n
answered n = grind (arith, nat_tests)

level_read : (part : Part) (page : List ℕ) (ts : List Token) (p e : ℕ)
    → statement_reading part (level_of page ts p e) ≡ ok_or (found (length_of part (looks_from ts p e))) (record { host = 2; code = 3 })
unfolding statement_reading
level_read part page ts p e = ap (λ l. answer (length_of part l)) (looks_level page ts p e) ∙ sym (answered _)

pub returns : goal.returns
returns c =
    let read = level_read c.args.part c.args.level.page.now c.args.level.tokens.now c.args.level.place c.args.level.end in
    let is : c.ok_or.result ≡ statement_reading c.args.part (level_of c.args.level.page.now c.args.level.tokens.now c.args.level.place c.args.level.end) =
    grind (arith, read) in
    record { value = is; longest = subst (LongestRun c.args.part _) (sym is) (longest_run c.args.part _) }
