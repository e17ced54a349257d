-- What an operand begins with: the first tokens at a place decide which form is read there. Assumes nothing.
use Rattle.std.specs.Prelude.{ℕ, ◌+◌, ◌-◌, Bool, cond, ◌&&◌, List, Some, None, Ok, Err, Option, Result, ◌==◌, nat_le, nat_lt}
use Rattle.refusals.specs.declared.Part.{Part}
use Rattle.refusals.specs.declared.Part.TheVariants as part
use Rattle.refusals.specs.declared.Denial.{Denial}
use Rattle.refusals.specs.declared.Refusal.{Refusal}
use Rattle.refusals.specs.declared.Refusal.TheVariants.{ExpressionExpected, ThreeDots, HostRefused}
use Rattle.tokens.specs.declared.Token.{Token}
use Rattle.tokens.specs.declared.Word.{Word}
use Rattle.tokens.specs.declared.Word.TheVariants as word
use Rattle.tokens.specs.declared.Delimiter.{Delimiter}
use Rattle.tokens.specs.declared.Delimiter.TheVariants.{Paren}
use Rattle.tokens.specs.declared.Look.{Look}
use Rattle.tokens.specs.declared.Look.TheVariants as look
use Rattle.tokens.specs.Looks.{Field, look_at, two_at, three_at, level_of}
use Rattle.tokens.specs.Words.{word_at}
use Rattle.operators.specs.Ranges.{range_ends}
use Rattle.trees.specs.declared.Kind.TheVariants as kind
use Rattle.grammar.specs.declared.Head.{Head}
use Rattle.grammar.specs.declared.Head.TheVariants.{Leaf, Prefix, Group}

-- above the rank of every operator: the operand of a unary takes none
abbrev pub operand_only : ℕ
operand_only = 13

-- the least rank of an operator in the end of a range
abbrev pub range_end : ℕ
range_end = 3

module _ (ts : List Token) where
  -- `& operand`, `&mut operand`, `&raw const operand`, `&raw mut operand`
  abbrev pub reference_head : ℕ → ℕ → Head
  reference_head p e =
      cond (word_at ts e (p + 1) word.Raw && word_at ts e (p + 2) word.Mut) (Prefix kind.RawAddress 1 (p + 3) operand_only)
      (cond (word_at ts e (p + 1) word.Raw && word_at ts e (p + 2) word.Const) (Prefix kind.RawAddress 0 (p + 3) operand_only)
      (cond (word_at ts e (p + 1) word.Mut) (Prefix kind.Reference 1 (p + 2) operand_only)
      (Prefix kind.Reference 0 (p + 1) operand_only)))

  -- a range without a start: `.. end`, `..= end`, or `..` alone, which stops where no end can begin
  abbrev pub range_head : Bool → ℕ → ℕ → Result Head Refusal
  range_head f p e =
      cond (three_at ts e p 46 46 61) (Ok (Prefix kind.Range 1 (p + 3) range_end))
      (cond (three_at ts e p 46 46 46) (Err (ThreeDots p))
      (cond (range_ends ts e (p + 2) f) (Ok (Leaf kind.Range (p + 2)))
      (Ok (Prefix kind.Range 0 (p + 2) range_end))))

-- `( .. )`, which is a tuple where it is empty; a group counts only if it ends inside the level
abbrev pub group_head : ℕ → ℕ → Delimiter → ℕ → Result Head Refusal
group_head p e Paren n =
    cond (nat_le n (e - p))
    (cond (n == 2) (Ok (Leaf kind.Tuple (p + 2))) (cond (nat_lt 2 n) (Ok (Group (p + 1) (p + (n - 1)))) (Err (ExpressionExpected p))))
    (Err (ExpressionExpected p))
group_head p e d n = Err (ExpressionExpected p)

module _ (reading : Part → List Field → Result ℕ Denial) (page : List ℕ) (ts : List Token) where
  -- a path, which the host reads
  abbrev pub path_by : ℕ → Result ℕ Denial → Result Head Refusal
  path_by p (Ok n) = Ok (Leaf kind.Path (p + n))
  path_by p (Err d) = Err (HostRefused p part.Path d)

  abbrev pub path_head : ℕ → ℕ → Result Head Refusal
  path_head p e = path_by p (reading part.Path (level_of page ts p e))

  abbrev pub name_head : ℕ → ℕ → Word → Result Head Refusal
  name_head p e word.Plain = path_head p e
  name_head p e word.Raw = path_head p e
  name_head p e word.SelfValue = path_head p e
  name_head p e word.SelfType = path_head p e
  name_head p e word.Super = path_head p e
  name_head p e word.Crate = path_head p e
  name_head p e word.True = Ok (Leaf kind.Literal (p + 1))
  name_head p e word.False = Ok (Leaf kind.Literal (p + 1))
  name_head p e word.Underscore = Ok (Leaf kind.Underscore (p + 1))
  name_head p e w = Err (ExpressionExpected p)

  -- `* operand`, `! operand`, `- operand`, references, a path that begins with `<` or `::`, a range without a start
  abbrev pub mark_head : Bool → ℕ → ℕ → ℕ → Result Head Refusal
  mark_head f p e c =
      cond (c == 42) (Ok (Prefix kind.Unary 1 (p + 1) operand_only))
      (cond (c == 33) (Ok (Prefix kind.Unary 2 (p + 1) operand_only))
      (cond (c == 45) (Ok (Prefix kind.Unary 3 (p + 1) operand_only))
      (cond (c == 38) (Ok (reference_head ts p e))
      (cond (c == 60) (path_head p e)
      (cond (two_at ts e p 58 58) (path_head p e)
      (cond (two_at ts e p 46 46) (range_head ts f p e)
      (Err (ExpressionExpected p))))))))

  abbrev pub head_of : Bool → ℕ → ℕ → Look → Result Head Refusal
  head_of f p e (look.Name w) = name_head p e w
  head_of f p e (look.Mark c j) = mark_head f p e c
  head_of f p e look.Integer = Ok (Leaf kind.Literal (p + 1))
  head_of f p e look.Float = Ok (Leaf kind.Literal (p + 1))
  head_of f p e look.Literal = Ok (Leaf kind.Literal (p + 1))
  head_of f p e look.Lifetime = Err (ExpressionExpected p)
  head_of f p e (look.Open d n) = group_head p e d n
  head_of f p e (look.Close d) = Err (ExpressionExpected p)

  abbrev pub head_by : Bool → ℕ → ℕ → Option Look → Result Head Refusal
  head_by f p e None = Err (ExpressionExpected e)
  head_by f p e (Some l) = head_of f p e l

  -- what stands at p, in a level that ends at e, where an operand is to begin
  abbrev pub head_at : Bool → ℕ → ℕ → Result Head Refusal
  head_at f p e = head_by f p e (look_at ts e p)
