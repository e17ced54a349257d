use Rattle.std.proofs.Common.{◌≡◌, Some, Option, sym, ap, subst, ◌∙◌}
use Rattle.operators.specs.declared.Sign.{Sign}
use Rattle.operators.specs.Signs.{sign_at, GoodSign}
use Rattle.operators.proofs.GoodSigns.{good_sign}
use Rattle.operators.proofs.Marked.{marked}
use Rattle.operators.proofs.sign_at.Goals as goal

pub returns-in-Some-Mark : goal.returns-in-Some-Mark
returns-in-Some-Mark c =
    let same : c.marks_sign.result ≡ sign_at c.args.level.tokens.now c.args.level.end c.args.i =
    c.marks_sign.ensures ∙ marked _ _ _ _ _ _ _ (sym (c.in-Some-Mark.is ∙ ap Some c.in-Some-Mark.field-0-is) ∙ c.look.ensures) c.next.ensures c.next-in-Some-Mark.ensures
    in
    record {
      value = same;
      good =
          subst (λ (s : Option Sign). GoodSign c.args.i c.args.level.end s) (sym same)
          (good_sign c.args.level.tokens.now c.args.level.end c.args.i);
    }
