-- How strongly infix operators bind, and which operands their ranks allow. Assumes nothing.
use Rattle.std.specs.Prelude.{ℕ, suc, ◌+◌, Bool, true, cond, ◌&&◌, ◌||◌, List, [], ◌∷◌, ◌==◌, nat_le, nat_lt}
use Rattle.operators.specs.Codes.{code_of}
use Rattle.operators.specs.declared.Infix.{Infix}
use Rattle.operators.specs.declared.Infix.TheVariants.{Binary, Assign, Range, Cast}

abbrev between : ℕ → ℕ → ℕ → Bool
between low high k = nat_le low k && nat_le k high

-- the rank of the binary operator with the code k, 0 where no operator has it. The codes 1 to 28 are, in order:
-- + - * / % && || ^ & | << >> == < <= != >= > += -= *= /= %= ^= &= |= <<= >>=
abbrev pub rank_of_code : ℕ → ℕ
rank_of_code k =
    -- + -
    cond (between 1 2 k) 10
    -- * / %
    (cond (between 3 5 k) 11
    -- &&
    (cond (k == 6) 4
    -- ||
    (cond (k == 7) 3
    -- ^
    (cond (k == 8) 7
    -- &
    (cond (k == 9) 8
    -- |
    (cond (k == 10) 6
    -- << >>
    (cond (between 11 12 k) 9
    -- == < <= != >= >
    (cond (between 13 18 k) 5
    -- += -= *= /= %= ^= &= |= <<= >>=
    (cond (between 19 28 k) 1 0)))))))))

-- the rule of a table of ranks: each entry is the rank of its code, counted from k
abbrev pub ranked : ℕ → List ℕ → Bool
ranked k [] = true
ranked k (r ∷ rs) = r == rank_of_code k && ranked (suc k) rs

abbrev pub rank_of : Infix → ℕ
rank_of (Binary op) = rank_of_code (code_of op)
rank_of Assign = 1
rank_of (Range closed) = 2
rank_of Cast = 12

-- the least rank that a right operand may have under an operator of the rank r: only assignments nest to the right
abbrev pub above_rank : ℕ → ℕ
above_rank r = cond (r == 1) 1 (r + 1)

-- whether a left operand of a rank, 0 where it has no infix operator, may stand under an operator of the rank `parent`:
-- assignments do not nest to the left, and comparisons not at all
abbrev pub left_keeps : ℕ → ℕ → Bool
left_keeps left parent = left == 0 || cond (parent == 1 || parent == 5) (nat_lt parent left) (nat_le parent left)
