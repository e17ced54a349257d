-- What a fence around a host lets through. Assumes nothing.
use Rattle.std.specs.Prelude.{◌≡◌, ℕ, Bool, false, cond, ◌&&◌, List, Err, Result}
use Rattle.refusals.specs.declared.Denial.{Denial}
use Rattle.refusals.specs.declared.Part.{Part}
use Rattle.refusals.specs.declared.Part.TheVariants.{Path, TypeName, Pattern, Block, Keyword, Arguments}
use Rattle.tokens.specs.Looks.{Field}
use Rattle.columns.specs.declared.fence.Parts.{Parts}

abbrev pub no_parts : Parts
no_parts = record { paths = false; types = false; patterns = false; blocks = false; keywords = false; arguments = false }

abbrev pub both_parts : Parts → Parts → Parts
both_parts s u =
    record {
      paths = s.paths && u.paths;
      types = s.types && u.types;
      patterns = s.patterns && u.patterns;
      blocks = s.blocks && u.blocks;
      keywords = s.keywords && u.keywords;
      arguments = s.arguments && u.arguments;
    }

abbrev pub allows : Parts → Part → Bool
allows s Path = s.paths
allows s TypeName = s.types
allows s Pattern = s.patterns
allows s Block = s.blocks
allows s Keyword = s.keywords
allows s Arguments = s.arguments

-- a part outside the set is denied by the fence, whose number is 3, and the answer to any other is that from below
abbrev pub fenced : Parts → (Part → List Field → Result ℕ Denial) → Part → List Field → Result ℕ Denial
fenced s inner part l = cond (allows s part) (inner part l) (Err (record { host = 3; code = 5 }))

-- around every host, the first fence over the second is the third
abbrev pub OneFence : Parts → Parts → Parts → Type 0
OneFence s u r =
    (inner : Part → List Field → Result ℕ Denial) (part : Part) (l : List Field) → fenced s (fenced u inner) part l ≡ fenced r inner part l
