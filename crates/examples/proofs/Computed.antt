-- The examples, each computed from the definitions, which are unfolded for it. Assumes nothing.
use Rattle.std.proofs.Common.{refl}
use Rattle.std.specs.Fmt.{digits}
use Rattle.pages.specs.Classes.{class_of}
use Rattle.pages.specs.Words.{word_of}
use Rattle.pages.specs.Fields.{field_at}
use Rattle.pages.specs.Pages.{walk, outcome, tokens_of, fault_of}
use Rattle.operators.specs.Signs.{sign_at}
use Rattle.operators.specs.Ranges.{range_ends}
use Rattle.hosts.specs.Statements.{statement_reading}
use Rattle.grammar.specs.Knot.{deep, tied}
use Rattle.grammar.specs.Grammar.{read_task}
use Rattle.examples.specs.Examples.{ExamplesHold}

pub examples_hold : ExamplesHold
unfolding class_of word_of field_at walk outcome tokens_of fault_of sign_at range_ends statement_reading deep tied read_task digits
examples_hold =
    record {
      sum_with_product = refl;
      two_differences = refl;
      two_assignments = refl;
      two_comparisons = (refl, refl);
      two_ranges_assigned = (refl, refl);
      range_divided = (refl, refl);
      range_assigned = (refl, refl);
      cast_with_field = (refl, refl);
      lines_of_sum_with_product = refl;
    }
