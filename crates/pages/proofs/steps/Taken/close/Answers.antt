use Rattle.std.proofs.Common.{rules, ◌≡◌, ℕ, ◌+◌, ◌-◌, ◌<◌, Some, get_or, ◌∙◌, arith, get_or-take, drop-set-lt}
use Rattle.std.proofs.lemmas.List.{length-take-le, length-set}
use lib.Seq.{take-set-lt}
use Rattle.tokens.specs.Looks.{no_token}
use Rattle.tokens.specs.declared.Look.TheVariants.{Open}
use Rattle.tokens.specs.declared.Token.{Token}
use Rattle.pages.specs.Steps.{relooked}
use Rattle.pages.specs.Taken.{items, held, most}
use Rattle.pages.proofs.Stepping.{closes}
use Rattle.pages.proofs.steps.Taken.close.Goals as goal

pub returns : goal.returns
returns c =
    let s = c.args.self.now in
    let m = c.add.new.self in
    let p : ℕ = c.in_ok-place.place in
    let o : Token = get_or s.space.now p no_token in
    let inner : s.inner ≡ Some p = search rules in
    let place : p < s.count = search rules in
    let more = c.in_ok-add.ensures in
    let later : p < m.count = omega arith in
    let same : c.in-Open.opened ≡ c.args.delimiter = search rules in
    let opener : Token = relooked o (Open c.in-Open.opened (s.count - p + 1)) in (
      closes (most s) c.args.at (items s) c.args.token o c.args.delimiter c.in-Open.opened p c.in-Open.back s.count
          s.inner c.opener_around-self.result (held m) _ inner place (length-take-le s.count s.space.now s.held)
          (get_or-take s.count s.space.now p no_token place) c.in-Open.is same more.0
          (take-set-lt m.count m.space.now p opener later) c.opener_around-self.ensures,
      drop-set-lt m.count m.space.now p opener later ∙ more.1,
      more.2,
      record { size = length-set m.space.now p opener ∙ more.3.size; lender = more.3.lender },
    )
