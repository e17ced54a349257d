-- What a counted list holds: the records in use, and behind them the rest of its space. Assumes nothing.
use Rattle.std.specs.Prelude.{◌≡◌, ℕ, ◌+◌, List, [], ◌∷◌, ◌++◌, length, take, drop}
use Rattle.lists.specs.declared.Counted.{Counted}

module _ {T : Type 0} where
  abbrev pub used : Counted T → ℕ
  used l = l.count.now

  abbrev pub room : Counted T → ℕ
  room l = length l.space.now

  abbrev pub items : Counted T → List T
  items l = take l.count.now l.space.now

  abbrev pub rest : Counted T → List T
  rest l = drop l.count.now l.space.now

  -- space and count are lent by the same lenders
  abbrev pub Lent : Counted T → Counted T → Type 0
  Lent l m = (m.space.ghost_name ≡ l.space.ghost_name) × (m.count.ghost_name ≡ l.count.ghost_name)

  -- one record more at the end, over the first of the rest
  pub record Pushed (l : Counted T) (x : T) (m : Counted T) : Type 0 where
    pub list : items m ≡ items l ++ x ∷ []
    pub behind : rest m ≡ drop 1 (rest l)
    pub count : used m ≡ used l + 1

  pub record Same (l m : Counted T) : Type 0 where
    pub space : m.space.now ≡ l.space.now
    pub count : used m ≡ used l
