use Rattle.std.proofs.Common.{rules, ◌≡◌, List, [], ◌∷◌, refl, ap, ◌∙◌, option_and_then}
use Rattle.std.specs.List.{slice_get}
use Rattle.tokens.specs.declared.Look.{Look}
use Rattle.hosts.specs.Statements.{look_role, first_role, has_role}
use Rattle.hosts.specs.Levels.{look_first}
use Rattle.hosts.proofs.statement.has_role.Goals as goal

first : (l : List Look) → option_and_then look_role (slice_get l 0) ≡ first_role l
first [] = refl
first (a ∷ l) = refl

pub returns-clause-value : goal.returns-clause-value
returns-clause-value c =
    let chained : c.and_then.result ≡ option_and_then look_role c.look.result = search rules in
    let same : c.eq.result ≡ has_role c.args.role c.and_then.result = search rules in
    let look = rw c.place.ensures at c.look.ensures ∙ look_first _ _ _ c.args.w.inside in
    same ∙ ap (has_role c.args.role) (chained ∙ ap (option_and_then look_role) look ∙ first _)
