use Rattle.std.proofs.Common.{◌≡◌, ℕ, Bool, true, false, ◌<◌, ◌≤◌, min, List, nat_le, length, take, sym, refl, ap, ◌∙◌, arith, length-take, take_all}
use Rattle.std.proofs.lemmas.Bool.Decides.{nat_tests}
use Rattle.std.proofs.lemmas.List.{take-take}
use Rattle.lists.proofs.Counted.truncate.Goals as goal

take_of_take : {X : Type 0} (m n : ℕ) (l : List X) → take (min m n) l ≡ take m (take n l)
take_of_take {X} m n l = at (nat_le m n) refl
  where
    at : (b : Bool) → nat_le m n ≡ b → take (min m n) l ≡ take m (take n l)
    at true t =
        let h : m ≤ n = grind (arith, nat_tests) in
        let e : min m n ≡ m = omega arith in
        ap (λ k. take k l) e ∙ sym (take-take m n l h)
    at false t =
        let h : n < m = grind (arith, nat_tests) in
        let e : min m n ≡ n = omega arith in
        let few : length (take n l) ≤ m = omega (arith, length-take n l) in
        ap (λ k. take k l) e ∙ sym (take_all m (take n l) few)

pub returns-clause-items : goal.returns-clause-items
returns-clause-items g c = ap (λ k. take k c.args.self.now.space.now) c.min-self.ensures ∙ take_of_take c.args.n c.args.self.now.count.now c.args.self.now.space.now
