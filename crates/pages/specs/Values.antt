-- Which bytes the value of a field may have. Assumes nothing.
use Rattle.std.specs.Prelude.{ℕ, Bool, true, false, cond, not, ◌&&◌, ◌||◌, List, [], ◌∷◌, codes, ◌==◌}
use Rattle.std.specs.List.{list_all}
use Rattle.pages.specs.Classes.{class_of, is_letter, is_digit, member}

-- a letter or _
abbrev pub begins_name : ℕ → Bool
begins_name b = is_letter (class_of b)

abbrev pub digit : ℕ → Bool
digit b = is_digit (class_of b)

abbrev pub in_name : ℕ → Bool
in_name b = begins_name b || digit b

-- what follows the digits at the start
abbrev pub after_digits : List ℕ → List ℕ
after_digits [] = []
after_digits (b ∷ bs) = cond (digit b) (after_digits bs) (b ∷ bs)

-- a letter or _, then letters, digits or _
abbrev pub is_name : List ℕ → Bool
is_name [] = false
is_name (b ∷ bs) = begins_name b && list_all in_name bs

-- the suffix of an integer: none, or a name that begins with none of _ b e E o x
abbrev pub is_suffix : List ℕ → Bool
is_suffix [] = true
is_suffix (b ∷ bs) = not (member b (codes "_beEox")) && is_name (b ∷ bs)

abbrev pub is_integer : List ℕ → Bool
is_integer [] = false
is_integer (b ∷ bs) = digit b && is_suffix (after_digits bs)

-- a point, then digits or none
abbrev pub is_fraction : List ℕ → Bool
is_fraction [] = false
is_fraction (b ∷ bs) = b == 46 && list_all digit bs

abbrev pub is_float : List ℕ → Bool
is_float [] = false
is_float (b ∷ bs) = digit b && is_fraction (after_digits bs)
