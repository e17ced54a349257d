use Rattle.std.proofs.Common.{◌≡◌, ℕ, ◌+◌, ◌<◌, length, take, sym, ap, ◌∙◌, arith}
use Rattle.std.proofs.lemmas.List.{take_more}
use Rattle.lists.proofs.Counted.pop.Goals as goal

pub returns-clause-cases : goal.returns-clause-cases
returns-clause-cases g c =
    let last = c.in_ok-last.last in
    let was = c.in_ok-last.ensures in
    let back : last + 1 ≡ c.args.self.now.count.now = omega (arith, was.0, was.1) in
    let lt : last < length c.args.self.now.space.now = omega (arith, c.requires, was.0, was.1) in
    (ap (λ k. take k c.args.self.now.space.now) (sym back) ∙ take_more c.args.self.now.space.now last c.index-self-last.result lt, back)
