use Rattle.std.proofs.Common.{rules, ◌≡◌, ℕ, ◌+◌, ◌-◌, ◌*◌, ◌≤◌, List, [], ◌∷◌, length, get_or, take, drop, Some, ap, sym, ◌∙◌, arith}
use Rattle.std.proofs.lemmas.List.{take_rest}
use Rattle.pages.specs.declared.fields.Tag.{Tag}
use Rattle.pages.specs.Fields.{tag_of, tagged, headed}
use Rattle.pages.proofs.fields.read_field.Goals as goal

head : (i n : ℕ) (tag : Tag) (bytes : List ℕ) → 3 ≤ length bytes → tag_of (get_or bytes 0 0) ≡ Some tag → n ≡ 256 * get_or bytes 1 0 + get_or bytes 2 0 → tagged i (Some tag) n (take (length bytes - 3) (drop 3 bytes)) ≡ headed i bytes
head i n tag [] h t e = absurd (omega arith)
head i n tag (a ∷ []) h t e = absurd (omega arith)
head i n tag (a ∷ b ∷ []) h t e = absurd (omega arith)
head i n tag (a ∷ b ∷ c ∷ rest) h t e =
    ap (tagged i (Some tag) n) (take_rest (a ∷ b ∷ c ∷ rest) 3) ∙ (ap (λ o. tagged i o n rest) (sym t) ∙ ap (λ m. tagged i (tag_of a) m rest) e)

pub returns : goal.returns
returns c =
    c.read_value.ensures ∙ head c.args.at c.from-len.result c.in_ok-tag.tag c.args.bytes.now (omega arith) (search rules) (omega arith)
