-- What stands at a place goes on from it, and ends inside the level. Assumes nothing.
use Rattle.std.proofs.Common.{◌≡◌, ℕ, suc, ◌+◌, ◌<◌, ◌≤◌, Bool, true, eqb, List, Some, None, Ok, Err, Option, Result, refl, arith}
use Rattle.std.proofs.lemmas.Bool.{cond_both}
use Rattle.refusals.specs.declared.Part.{Part}
use Rattle.refusals.specs.declared.Part.TheVariants as part
use Rattle.refusals.specs.declared.Denial.{Denial}
use Rattle.refusals.specs.declared.Refusal.{Refusal}
use Rattle.tokens.specs.declared.Token.{Token}
use Rattle.tokens.specs.declared.Word.{Word}
use Rattle.tokens.specs.declared.Word.TheVariants as word
use Rattle.tokens.specs.declared.Delimiter.{Delimiter}
use Rattle.tokens.specs.declared.Delimiter.TheVariants.{Paren}
use Rattle.tokens.specs.declared.Look.{Look}
use Rattle.tokens.specs.declared.Look.TheVariants as look
use Rattle.tokens.specs.Looks.{Field, mark_at, two_at, three_at, level_of}
use Rattle.tokens.specs.Words.{word_at}
use Rattle.operators.specs.declared.Infix.{Infix}
use Rattle.operators.specs.declared.Infix.TheVariants as infix_op
use Rattle.operators.specs.declared.Sign.{Sign}
use Rattle.operators.specs.declared.Sign.TheVariants as sign
use Rattle.operators.specs.Signs.{sign_at, GoodSign}
use Rattle.operators.proofs.GoodSigns.{good_sign}
use Rattle.hosts.specs.Lawful.{Lawful}
use Rattle.grammar.specs.Heads.{reference_head, range_head, group_head, path_by, path_head, name_head, mark_head, head_of, head_at}
use Rattle.grammar.specs.Tails.{takes, tail_of, tail_at}
use Rattle.grammar.specs.declared.Head.{Head}
use Rattle.grammar.specs.declared.Head.TheVariants.{Leaf, Prefix, Group}
use Rattle.grammar.specs.declared.Tail.{Tail}
use Rattle.grammar.specs.declared.Tail.TheVariants.{Takes, Endless, Casts, Stop}
use Rattle.grammar.proofs.Levels.{level_length}

abbrev pub GoodHead : ℕ → ℕ → Result Head Refusal → Type 0
GoodHead p e (Ok (Leaf k q)) = (p < q) × (q ≤ e)
GoodHead p e (Ok (Prefix k o q r)) = (p < q) × (q ≤ e)
GoodHead p e (Ok (Group i c)) = (p < i) × (i < c) × (c < e)
GoodHead p e (Err r) = Unit {0}

abbrev pub GoodTail : ℕ → ℕ → Result Tail Refusal → Type 0
GoodTail p e (Ok (Takes o q)) = (p < q) × (q ≤ e)
GoodTail p e (Ok (Endless q)) = (p < q) × (q ≤ e)
GoodTail p e (Ok (Casts i)) = (p < i) × (i ≤ e)
GoodTail p e (Ok Stop) = Unit {0}
GoodTail p e (Err r) = Unit {0}

-- a mark or a word stands inside the level
mark_in : (ts : List Token) (e i c : ℕ) → eqb (mark_at ts e i) (suc c) ≡ true → i < e
mark_in ts e i c h = grind arith

word_in : (ts : List Token) (e i : ℕ) (w : Word) → word_at ts e i w ≡ true → i < e
word_in ts e i w h = grind arith

two_in : (ts : List Token) (e i a b : ℕ) → two_at ts e i a (suc b) ≡ true → i + 1 < e
two_in ts e i a b h = grind (arith, mark_in)

three_in : (ts : List Token) (e i a b c : ℕ) → three_at ts e i a b (suc c) ≡ true → i + 2 < e
three_in ts e i a b c h = grind (arith, mark_in)

module _ (ts : List Token) (p e : ℕ) where
  good_reference : p < e → GoodHead p e (Ok (reference_head ts p e))
  good_reference h = grind (arith, word_in)

  good_range : (f : Bool) → p + 1 < e → GoodHead p e (range_head ts f p e)
  good_range f h = grind (arith, three_in)

  good_group : (d : Delimiter) (n : ℕ) → GoodHead p e (group_head p e d n)
  good_group Paren n = grind arith
  good_group d n = tt

module _ (reading : Part → List Field → Result ℕ Denial) (law : (w : Part) (l : List Field) → Lawful l (reading w l)) (page : List ℕ) (ts : List Token) (p e : ℕ) where
  good_path_by : (r : Result ℕ Denial) → r ≡ reading part.Path (level_of page ts p e) → GoodHead p e (path_by reading page ts p r)
  good_path_by (Ok n) is = grind (arith, law part.Path (level_of page ts p e), level_length)
  good_path_by (Err d) is = tt

  good_path : GoodHead p e (path_head reading page ts p e)
  good_path = good_path_by (reading part.Path (level_of page ts p e)) refl

  good_name : p < e → (w : Word) → GoodHead p e (name_head reading page ts p e w)
  good_name h word.Plain = good_path
  good_name h word.Raw = good_path
  good_name h word.True = (omega arith, omega arith)
  good_name h word.False = (omega arith, omega arith)
  good_name h word.Underscore = (omega arith, omega arith)
  good_name h word.SelfValue = good_path
  good_name h word.SelfType = good_path
  good_name h word.Super = good_path
  good_name h word.Crate = good_path
  good_name h w = tt

  good_mark : (f : Bool) (c : ℕ) → p < e → GoodHead p e (mark_head reading page ts f p e c)
  good_mark f c h =
      cond_both (eqb c 42) _ _ (GoodHead p e) (λ _. (omega arith, omega arith))
      (λ _. cond_both (eqb c 33) _ _ (GoodHead p e) (λ _. (omega arith, omega arith))
      (λ _. cond_both (eqb c 45) _ _ (GoodHead p e) (λ _. (omega arith, omega arith))
      (λ _. cond_both (eqb c 38) _ _ (GoodHead p e) (λ _. good_reference ts p e h)
      (λ _. cond_both (eqb c 60) _ _ (GoodHead p e) (λ _. good_path)
      (λ _. cond_both (two_at ts e p 58 58) _ _ (GoodHead p e) (λ _. good_path)
      (λ _. cond_both (two_at ts e p 46 46) _ _ (GoodHead p e) (λ b. good_range ts p e f (two_in ts e p 46 45 b))
      (λ _. tt)))))))

  good_of : (f : Bool) → p < e → (l : Look) → GoodHead p e (head_of reading page ts f p e l)
  good_of f h (look.Name w) = good_name h w
  good_of f h (look.Mark c j) = good_mark f c h
  good_of f h look.Integer = (omega arith, omega arith)
  good_of f h look.Float = (omega arith, omega arith)
  good_of f h look.Literal = (omega arith, omega arith)
  good_of f h look.Lifetime = tt
  good_of f h (look.Open d n) = good_group ts p e d n
  good_of f h (look.Close d) = tt

  pub good_head : (f : Bool) → GoodHead p e (head_at reading page ts f p e)
  good_head f = grind (arith, good_of)

module _ (ts : List Token) (f : Bool) (p e : ℕ) where
  good_takes : (o : Infix) (n : ℕ) → 1 ≤ n → p + n ≤ e → GoodTail p e (Ok (takes ts f p e o n))
  good_takes (infix_op.Range closed) n h k = grind arith
  good_takes o n h k = (omega arith, k)

  good_sign_tail : (b k : ℕ) (s : Option Sign) → GoodSign p e s → GoodTail p e (tail_of ts f b k p e s)
  good_sign_tail b k (Some (sign.Operator o n)) good = grind (arith, good_takes)
  good_sign_tail b k s good = grind arith

  pub good_tail : (b k : ℕ) → GoodTail p e (tail_at ts f b k p e)
  good_tail b k = cond_both (eqb k 2) _ _ (GoodTail p e) (λ _. tt) (λ _. good_sign_tail b k (sign_at ts e p) (good_sign ts e p))
