-- What the inner functions give, in the paper's terms.
use Rattle.std.specs.Prelude.{◌≡◌, cond, List, ℕ, ◌<◌, ltb}
use Rattle.schedule.specs.Paper.{end, new, told, tells}
use Rattle.schedule.specs.Inner.{told_by}
use Rattle.slots_calls.specs.Paper.{packed_shown}

-- the number of slot i by its description's place, where e is End
abbrev pub packed_by : List ℕ → ℕ → ℕ → ℕ → ℕ
packed_by m e i at = cond (ltb i e) (packed_shown (record { new = new m i; told = told m at })) 0

-- End, and places at which the descriptions of all slots up to it stand
pub record Shows (m p : List ℕ) (e : ℕ) : Type 0 where
  pub ends : e ≡ end m
  pub shows : (i : ℕ) → i < e → told_by m p i ≡ tells m i
