-- The word that a name spells: a keyword of Rust 2021, `_` or `raw`, and else a plain name. Assumes nothing.
use Rattle.std.specs.Prelude.{ℕ, cond, List, [], ◌∷◌, length, codes, ◌&&◌, nat_le}
use Rattle.std.specs.Str.{bytes_eq}
use Rattle.tokens.specs.declared.Word.{Word}
use Rattle.tokens.specs.declared.Word.TheVariants.{Plain, Reserved, As, Async, Await, Become, Break, Const, Continue, Crate, Else, False, For, If, Let, Loop, Match, Move, Mut, Raw, Return, SelfType, SelfValue, Static, Super, True, Try, Underscore, Unsafe, While, Yield}

abbrev pub Spelling : Type 0
Spelling = List ℕ × Word

-- the word of the first spelling that the bytes are
abbrev pub spelled : List ℕ → List Spelling → Word
spelled bytes [] = Plain
spelled bytes (s ∷ ss) = cond (bytes_eq bytes s.0) s.1 (spelled bytes ss)

abbrev pub reserved : List Spelling
reserved =
    (codes "do", Reserved) ∷
    (codes "fn", Reserved) ∷
    (codes "in", Reserved) ∷
    (codes "box", Reserved) ∷
    (codes "dyn", Reserved) ∷
    (codes "mod", Reserved) ∷
    (codes "pub", Reserved) ∷
    (codes "ref", Reserved) ∷
    (codes "use", Reserved) ∷
    (codes "enum", Reserved) ∷
    (codes "impl", Reserved) ∷
    (codes "priv", Reserved) ∷
    (codes "type", Reserved) ∷
    (codes "final", Reserved) ∷
    (codes "macro", Reserved) ∷
    (codes "trait", Reserved) ∷
    (codes "where", Reserved) ∷
    (codes "extern", Reserved) ∷
    (codes "struct", Reserved) ∷
    (codes "typeof", Reserved) ∷
    (codes "unsized", Reserved) ∷
    (codes "virtual", Reserved) ∷
    (codes "abstract", Reserved) ∷
    (codes "override", Reserved) ∷
    []

abbrev pub spellings : List Spelling
spellings =
    (codes "_", Underscore) ∷
    (codes "as", As) ∷
    (codes "if", If) ∷
    (codes "for", For) ∷
    (codes "let", Let) ∷
    (codes "mut", Mut) ∷
    (codes "raw", Raw) ∷
    (codes "try", Try) ∷
    (codes "else", Else) ∷
    (codes "loop", Loop) ∷
    (codes "move", Move) ∷
    (codes "self", SelfValue) ∷
    (codes "Self", SelfType) ∷
    (codes "true", True) ∷
    (codes "async", Async) ∷
    (codes "await", Await) ∷
    (codes "break", Break) ∷
    (codes "const", Const) ∷
    (codes "crate", Crate) ∷
    (codes "false", False) ∷
    (codes "match", Match) ∷
    (codes "super", Super) ∷
    (codes "while", While) ∷
    (codes "yield", Yield) ∷
    (codes "become", Become) ∷
    (codes "return", Return) ∷
    (codes "static", Static) ∷
    (codes "unsafe", Unsafe) ∷
    (codes "continue", Continue) ∷
    reserved

unfoldable pub word_of : List ℕ → Word
word_of bytes = spelled bytes spellings

-- the spellings that have from least to most bytes
abbrev pub within : (least most : ℕ) → List Spelling → List Spelling
within least most [] = []
within least most (s ∷ ss) = cond (nat_le least (length s.0) && nat_le (length s.0) most) (s ∷ within least most ss) (within least most ss)
