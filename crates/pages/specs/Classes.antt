-- The class of a byte. Assumes nothing.
use Rattle.std.specs.Prelude.{ℕ, Bool, true, false, cond, ◌&&◌, ◌||◌, List, [], ◌∷◌, codes, ◌==◌, nat_le}
use Rattle.pages.specs.declared.classes.Class.{Class}
use Rattle.pages.specs.declared.classes.Class.TheVariants.{Other, Letter, Digit, Mark, Opener, Closer}

abbrev pub member : ℕ → List ℕ → Bool
member b [] = false
member b (x ∷ xs) = b == x || member b xs

-- letters are A to Z, a to z and _, digits 0 to 9
unfoldable pub class_of : ℕ → Class
class_of b =
    cond ((nat_le 65 b && nat_le b 90) || (nat_le 97 b && nat_le b 122) || b == 95) Letter
    (cond (nat_le 48 b && nat_le b 57) Digit
    (cond (member b (codes "+-*/%^!&|=<>.,;:?#@$~")) Mark
    (cond (member b (codes "([{")) Opener
    (cond (member b (codes ")]}")) Closer Other))))

abbrev pub is_letter : Class → Bool
is_letter Other = false
is_letter Letter = true
is_letter Digit = false
is_letter Mark = false
is_letter Opener = false
is_letter Closer = false

abbrev pub is_digit : Class → Bool
is_digit Other = false
is_digit Letter = false
is_digit Digit = true
is_digit Mark = false
is_digit Opener = false
is_digit Closer = false

abbrev pub is_mark : Class → Bool
is_mark Other = false
is_mark Letter = false
is_mark Digit = false
is_mark Mark = true
is_mark Opener = false
is_mark Closer = false

abbrev pub is_opener : Class → Bool
is_opener Other = false
is_opener Letter = false
is_opener Digit = false
is_opener Mark = false
is_opener Opener = true
is_opener Closer = false

abbrev pub is_closer : Class → Bool
is_closer Other = false
is_closer Letter = false
is_closer Digit = false
is_closer Mark = false
is_closer Opener = false
is_closer Closer = true
