-- What follows an operand: an operator that takes it, the end of what is read here, or a refusal. Assumes nothing.
use Rattle.std.specs.Prelude.{ℕ, ◌+◌, Bool, cond, not, ◌&&◌, ◌||◌, List, Some, None, Ok, Err, Option, Result, ◌==◌, nat_lt}
use Rattle.refusals.specs.declared.Refusal.{Refusal}
use Rattle.refusals.specs.declared.Refusal.TheVariants as refusal
use Rattle.tokens.specs.declared.Token.{Token}
use Rattle.operators.specs.declared.Infix.{Infix}
use Rattle.operators.specs.declared.Infix.TheVariants as infix_op
use Rattle.operators.specs.declared.Sign.{Sign}
use Rattle.operators.specs.declared.Sign.TheVariants as sign
use Rattle.operators.specs.Signs.{sign_at}
use Rattle.operators.specs.Ranks.{rank_of, left_keeps}
use Rattle.operators.specs.Ranges.{range_ends}
use Rattle.grammar.specs.Heads.{operand_only, range_end}
use Rattle.grammar.specs.declared.Tail.{Tail}
use Rattle.grammar.specs.declared.Tail.TheVariants.{Takes, Endless, Casts, Stop}

module _ (ts : List Token) where
  -- an operator that takes the left operand; a half-open range may lack its end
  abbrev pub takes : Bool → ℕ → ℕ → Infix → ℕ → Tail
  takes f p e (infix_op.Binary c) n = Takes (infix_op.Binary c) (p + n)
  takes f p e infix_op.Assign n = Takes infix_op.Assign (p + n)
  takes f p e (infix_op.Range closed) n = cond (not closed && range_ends ts e (p + n) f) (Endless (p + n)) (Takes (infix_op.Range closed) (p + n))
  takes f p e infix_op.Cast n = Casts (p + n)

  -- b is the least rank that is taken here, k the rank of the left operand (0 for one that is not infix)
  abbrev pub tail_of : Bool → ℕ → ℕ → ℕ → ℕ → Option Sign → Result Tail Refusal
  tail_of f b k p e None = Ok Stop
  tail_of f b k p e (Some (sign.Operator o n)) =
      cond (nat_lt (rank_of o) b) (Ok Stop)
      (cond (k == 5 && rank_of o == 5) (Err (refusal.ComparisonChained p))
      (cond (left_keeps k (rank_of o)) (Ok (takes f p e o n)) (Err (refusal.BindingBroken p))))
  tail_of f b k p e (Some sign.ThreeDots) = cond (nat_lt 2 b) (Ok Stop) (Err (refusal.ThreeDots p))
  -- `<-` is let stand where the end of a range is a single operand so far
  tail_of f b k p e (Some sign.LeftArrow) = cond (b == operand_only || (b == range_end && k == 0)) (Ok Stop) (Err (refusal.LeftArrow p))

  -- no operator takes a range, of rank 2, for its left operand
  abbrev pub tail_at : Bool → ℕ → ℕ → ℕ → ℕ → Result Tail Refusal
  tail_at f b k p e = cond (k == 2) (Ok Stop) (tail_of f b k p e (sign_at ts e p))
