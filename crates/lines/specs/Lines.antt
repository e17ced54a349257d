-- The lines of the output, byte for byte, and how an output holds them. Assumes nothing.
use Rattle.std.specs.Prelude.{ℕ, cond, List, [], ◌∷◌, ◌++◌, map, length, drop, Ok, Err, codes, decimal, flat_map, Result, nat_lt}
use Rattle.refusals.specs.Refusals.{refusal_text}
use Rattle.refusals.specs.declared.Refusal.{Refusal}
use Rattle.refusals.specs.declared.Refusal.TheVariants.{OutputShort}

-- words with single spaces between, a line feed last
abbrev pub spaced : List (List ℕ) → List ℕ
spaced [] = codes "\n"
spaced (w ∷ []) = w ++ codes "\n"
spaced (w ∷ v ∷ ws) = w ++ (codes " " ++ spaced (v ∷ ws))

-- the numbers of a line behind its first word, each behind a space, and a line feed last
abbrev pub rest_bytes : List ℕ → List ℕ
rest_bytes ns = flat_map (λ n. codes " " ++ decimal n) ns ++ codes "\n"

-- how many rules and nodes there are
abbrev pub heading_bytes : ℕ → ℕ → List ℕ
heading_bytes rules nodes = spaced (codes "rules" ∷ decimal rules ∷ codes "nodes" ∷ decimal nodes ∷ [])

-- a node: its number, kind and operator, and the token places from which and to which it reaches
abbrev pub line_bytes : ℕ → ℕ → ℕ → ℕ → ℕ → List ℕ
line_bytes number kind op from to = spaced (map decimal (number ∷ kind ∷ op ∷ from ∷ to ∷ []))

-- what is printed of a refusal, and a line feed
abbrev pub refusal_bytes : Refusal → List ℕ
refusal_bytes r = refusal_text r ++ codes "\n"

-- what a line written over the start of an output answers, its length, and what the output holds then;
-- an output of fewer than 32 bytes is refused and stays as it was
abbrev pub written : List ℕ → List ℕ → Result ℕ Refusal × List ℕ
written bytes out = cond (nat_lt (length out) 32) (Err OutputShort, out) (Ok (length bytes), bytes ++ drop (length bytes) out)
