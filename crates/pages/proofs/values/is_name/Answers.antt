use Rattle.std.proofs.Common.{rules, sym, refl, arith}
use Rattle.std.proofs.lemmas.Iterator.{YieldsList-from_slice}
use Rattle.std.proofs.lemmas.Iterator.Search.{all_from_yields_List}
use Rattle.std.specs.List.{list_all}
use borrow.Author.Tests.{tests}
use Rattle.pages.specs.Values.{begins_name, in_name, is_name}
use Rattle.pages.proofs.Bytes.{at_first}
use Rattle.pages.proofs.values.is_name.Goals as goal

pub returns-then-begins_name : goal.returns-then-begins_name
returns-then-begins_name c =
    at_first is_name (list_all in_name) begins_name (λ x xs. refl) c.args.bytes.now _ (omega arith) (sym c.if-begins_name.ensures)
    (all_from_yields_List in_name _ _ _ c.all.ensures.ran (YieldsList-from_slice _ cc) (λ x b q k. search (rules, tests)))
