-- The numbers of refusals and parts, their places, and what a host's refusal carries. Assumes nothing.
use Rattle.std.specs.Prelude.{ℕ, List, [], ◌∷◌, ◌++◌, Option, Some, None, codes, decimal, flat_map}
use Rattle.std.specs.Option.{option_map_or}
use Rattle.refusals.specs.declared.Denial.{Denial}
use Rattle.refusals.specs.declared.Part.{Part}
use Rattle.refusals.specs.declared.Part.TheVariants.{Path, TypeName, Pattern, Block, Keyword, Arguments}
use Rattle.refusals.specs.declared.Refusal.{Refusal}
use Rattle.refusals.specs.declared.Refusal.TheVariants.{CutShort, BadField, Unbalanced, TooManyTokens, SheetFull, ExpressionExpected, MarkExpected, MemberExpected, ComparisonChained, BindingBroken, CastFollowed, LeftArrow, ThreeDots, LabelColon, LeftOver, HostRefused, NotThere, OutputShort}

abbrev pub part_number : Part → ℕ
part_number Path = 1
part_number TypeName = 2
part_number Pattern = 3
part_number Block = 4
part_number Keyword = 5
part_number Arguments = 6

-- the number by which a refusal is known
abbrev pub number_of : Refusal → ℕ
number_of (CutShort at) = 1
number_of (BadField at) = 2
number_of (Unbalanced at) = 3
number_of (TooManyTokens at) = 4
number_of SheetFull = 5
number_of (ExpressionExpected at) = 6
number_of (MarkExpected at) = 7
number_of (MemberExpected at) = 8
number_of (ComparisonChained at) = 9
number_of (BindingBroken at) = 10
number_of (CastFollowed at) = 11
number_of (LeftArrow at) = 12
number_of (ThreeDots at) = 13
number_of (LabelColon at) = 14
number_of (LeftOver at) = 15
number_of (HostRefused at part d) = 16
number_of NotThere = 17
number_of OutputShort = 18

-- where it was met: a byte of the page for the first four, a token for the others, 0 where there is no place
abbrev pub place_of : Refusal → ℕ
place_of (CutShort at) = at
place_of (BadField at) = at
place_of (Unbalanced at) = at
place_of (TooManyTokens at) = at
place_of SheetFull = 0
place_of (ExpressionExpected at) = at
place_of (MarkExpected at) = at
place_of (MemberExpected at) = at
place_of (ComparisonChained at) = at
place_of (BindingBroken at) = at
place_of (CastFollowed at) = at
place_of (LeftArrow at) = at
place_of (ThreeDots at) = at
place_of (LabelColon at) = at
place_of (LeftOver at) = at
place_of (HostRefused at part d) = at
place_of NotThere = 0
place_of OutputShort = 0

-- the part that a host refused, and its denial
abbrev pub denied_of : Refusal → Option (Part × Denial)
denied_of (CutShort at) = None
denied_of (BadField at) = None
denied_of (Unbalanced at) = None
denied_of (TooManyTokens at) = None
denied_of SheetFull = None
denied_of (ExpressionExpected at) = None
denied_of (MarkExpected at) = None
denied_of (MemberExpected at) = None
denied_of (ComparisonChained at) = None
denied_of (BindingBroken at) = None
denied_of (CastFollowed at) = None
denied_of (LeftArrow at) = None
denied_of (ThreeDots at) = None
denied_of (LabelColon at) = None
denied_of (LeftOver at) = None
denied_of (HostRefused at part d) = Some (part, d)
denied_of NotThere = None
denied_of OutputShort = None

-- the number of the host that refused, 0 where none did
abbrev pub host_of : Refusal → ℕ
host_of r = option_map_or (λ d. d.1.host) (denied_of r) 0

-- the part that a host refused, 0 where none did
abbrev pub part_of : Refusal → ℕ
part_of r = option_map_or (λ d. part_number d.0) (denied_of r) 0

-- the code that the host gave, 0 where none did
abbrev pub code_of : Refusal → ℕ
code_of r = option_map_or (λ d. d.1.code) (denied_of r) 0

-- what is printed of a refusal: its five numbers, each behind a space
abbrev pub refusal_text : Refusal → List ℕ
refusal_text r = codes "refused" ++ flat_map (λ n. codes " " ++ decimal n) (number_of r ∷ place_of r ∷ host_of r ∷ part_of r ∷ code_of r ∷ [])
