use Rattle.std.proofs.Common.{rules, ◌≡◌, ℕ, ◌+◌, ◌-◌, ◌<◌, ltb, List, ◌++◌, length, get_or, take, drop, Ok, sym, ap, ◌∙◌, subst, arith, get_or-take}
use Rattle.std.proofs.ByRecursion.{All-get_or}
use Rattle.std.proofs.lemmas.List.{get_or_append_left, get_or_read}
use Rattle.std.proofs.lemmas.Bool.{cond-true, lt-ltb}
use Rattle.tokens.specs.Looks.{no_token, field_of}
use Rattle.tokens.specs.declared.Token.{Token}
use Rattle.pages.specs.Pages.{tokens_of, page_answer, text_by, text_of}
use Rattle.pages.proofs.Keeping.{all_placed}
use Rattle.pages.proofs.Sound.{Placed}
use Rattle.pages.proofs.text.Goals as goal

-- t is the token at a place of a space into which the page was read
module _ (page : List ℕ) (space after : List Token) (place n : ℕ) (t : Token) (held : space ≡ tokens_of 4096 page ++ after) (many : n ≡ length (tokens_of 4096 page)) (there : place < n) (is : t ≡ get_or (take n space) place t) where
  same_token : t ≡ get_or (tokens_of 4096 page) place no_token
  same_token =
      let within : place < length (tokens_of 4096 page) = omega arith in
      let read : t ≡ get_or (tokens_of 4096 page) place t =
      is ∙ (get_or-take n space place t there ∙ (ap (λ (l : List Token). get_or l place t) held ∙ get_or_append_left (tokens_of 4096 page) after t place within)) in
      get_or_read (tokens_of 4096 page) place t within read no_token

  on_page : Placed page t
  on_page =
      let within : place < length (tokens_of 4096 page) = omega arith in
      subst (Placed page) (sym same_token) (All-get_or (Placed page) (tokens_of 4096 page) place no_token within (all_placed 4096 page))

  found : page_answer 4096 page ≡ Ok n → text_of page place ≡ Ok (take (t.start + t.len - t.start) (drop t.start page))
  found e =
      let len : t.len ≡ t.start + t.len - t.start = omega arith in
      ap (text_by page (tokens_of 4096 page) place) e
      ∙ (cond-true (ltb place n) _ _ (lt-ltb place n there)
      ∙ (ap (λ (x : Token). Ok (field_of page x).bytes) (sym same_token)
      ∙ ap (λ (k : ℕ). Ok (take k (drop t.start page))) len))

pub overflow_add-result : goal.overflow_add-result
overflow_add-result c =
    let k = c.in_ok-count.ensures in
    let p = on_page c.args.page.now c.read_page.new.space _ c.args.place c.in_ok-count.count c.in_ok-token.token.now k.records k.accepted.number (search rules) (search rules) in
    omega arith

pub slice_bounds-result-end : goal.slice_bounds-result-end
slice_bounds-result-end c =
    let k = c.in_ok-count.ensures in
    let p = on_page c.args.page.now c.read_page.new.space _ c.args.place c.in_ok-count.count c.in_ok-token.token.now k.records k.accepted.number (search rules) (search rules) in
    omega arith

pub returns : goal.returns
returns c =
    let k = c.in_ok-count.ensures in
    found c.args.page.now c.read_page.new.space _ c.args.place c.in_ok-count.count c.in_ok-token.token.now k.records k.accepted.number (search rules) (search rules) (sym k.answer)
