-- The rule of the table, at each of its 256 entries, by one test that antt computes.
use Rattle.std.proofs.Common.{◌≡◌, ℕ, Bool, eqb, List, [], ◌∷◌, ◌++◌, get_or, replicate, sym, refl, ap, ◌∙◌, eqb→eq, rules}
use Rattle.pages.specs.Classes.{class_of}
use Rattle.pages.specs.declared.classes.Class.{Class}
use Rattle.pages.specs.declared.classes.Class.TheVariants.{Other, Letter, Digit, Mark, Opener, Closer}
use Rattle.pages.proofs.Table.{at}
use Rattle.pages.proofs.classes.class_of.Goals as goal

-- the entries of the table
classes : List Class
classes =
    replicate 33 Other
    ++ (Mark ∷ Other ∷ Mark ∷ Mark ∷ Mark ∷ Mark ∷ Other ∷ Opener ∷ Closer ∷ []
    ++ (replicate 6 Mark
    ++ (replicate 10 Digit
    ++ (replicate 7 Mark
    ++ (replicate 26 Letter
    ++ (Opener ∷ Other ∷ Closer ∷ Mark ∷ Letter ∷ Other ∷ []
    ++ (replicate 26 Letter
    ++ (Opener ∷ Mark ∷ Closer ∷ Mark ∷ []
    ++ replicate 129 Other))))))))

abbrev number : Class → ℕ
number Other = 0
number Letter = 1
number Digit = 2
number Mark = 3
number Opener = 4
number Closer = 5

abbrev numbered : ℕ → Class
numbered n = get_or (Other ∷ Letter ∷ Digit ∷ Mark ∷ Opener ∷ Closer ∷ []) n Other

back : (x : Class) → numbered (number x) ≡ x
back Other = refl
back Letter = refl
back Digit = refl
back Mark = refl
back Opener = refl
back Closer = refl

right : ℕ → Class → Bool
right k x = eqb (number x) (number (class_of k))

equal : (x y : Class) → number x ≡ number y → x ≡ y
equal x y e = sym (back x) ∙ (ap numbered e ∙ back y)

pub returns : goal.returns
unfolding classes right class_of
returns c =
    equal (get_or classes c.args.b Other) (class_of c.args.b)
    (eqb→eq (number (get_or classes c.args.b Other)) (number (class_of c.args.b)) (at Other right classes tt c.args.b (search rules)))
