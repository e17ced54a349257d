use Rattle.std.proofs.Common.{rules, drop, ap, ◌∙◌}
use Rattle.std.proofs.lemmas.Iterator.{YieldsList-from_slice}
use Rattle.std.proofs.lemmas.Iterator.Consumers.{count_from_yields_List}
use Rattle.std.proofs.lemmas.Iterator.Search.{YieldsList-from_take_while}
use Rattle.std.proofs.lemmas.List.{take_rest}
use Rattle.std.proofs.lemmas.List.Folds.{length-prefix_len}
use borrow.Author.Tests.{tests}
use Rattle.pages.specs.Values.{digit}
use Rattle.pages.proofs.Bytes.{behind_digits}
use Rattle.pages.proofs.values.after_digits.Goals as goal

pub returns : goal.returns
returns c =
    let many = count_from_yields_List _ _ c.count-digits.ensures.ran (YieldsList-from_take_while _ digit (YieldsList-from_slice c.args.bytes.now cc) (cc) (cc) (λ x b q k. search (rules, tests))) in
    take_rest c.args.bytes.now c.count-digits.result ∙ (ap (λ n. drop n c.args.bytes.now) (many ∙ length-prefix_len digit _) ∙ behind_digits c.args.bytes.now)
