use Rattle.std.proofs.Common.{rules, eqb, refl, arith, eq-eqb, eqb-true}
use Rattle.std.proofs.lemmas.Iterator.{YieldsList-from_slice}
use Rattle.std.proofs.lemmas.Iterator.Search.{all_from_yields_List}
use Rattle.std.specs.List.{list_all}
use borrow.Author.Tests.{tests}
use Rattle.pages.specs.Values.{digit, is_fraction}
use Rattle.pages.proofs.Bytes.{at_first}
use Rattle.pages.proofs.values.is_fraction.Goals as goal

pub returns-in-46 : goal.returns-in-46
returns-in-46 c =
    at_first is_fraction (list_all digit) (λ b. eqb b 46) (λ x xs. refl) c.args.bytes.now _ (omega arith) (eq-eqb _ _ (omega (arith, eqb-true)))
    (all_from_yields_List digit _ _ _ c.all.ensures.ran (YieldsList-from_slice _ cc) (λ x b q k. search (rules, tests)))
