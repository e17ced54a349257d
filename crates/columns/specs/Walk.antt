-- A field of a page of columns as the walk sees it: whether it is a name, and where that ends. Assumes nothing.
use Rattle.std.specs.Prelude.{ℕ, ◌+◌, Bool, cond, ◌&&◌, List, length, take, Some, None, Ok, Err, Option, Result, ◌==◌, nat_le}
use Rattle.refusals.specs.declared.Refusal.{Refusal}
use Rattle.tokens.specs.declared.Token.{Token}
use Rattle.pages.specs.Values.{is_name}
use Rattle.columns.specs.Columns.{any_name}

-- a field with this tag and length, over the bytes behind its head
abbrev pub holds_name : ℕ → ℕ → List ℕ → Bool
holds_name tag n rest = tag == 1 && ((nat_le 1 n && nat_le n 64) && (nat_le n (length rest) && is_name (take n rest)))

-- the end of the name in a field, if it is not refused and a name
abbrev pub name_end : Result Token Refusal → Option ℕ
name_end (Ok t) = cond (any_name t.look) (Some (t.start + t.len)) None
name_end (Err e) = None
