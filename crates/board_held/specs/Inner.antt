-- What the inner functions give, in the paper's terms.
use Rattle.std.specs.Prelude.{Bool, ◌&&◌, ℕ, eqb, leb}
use Rattle.schedule.specs.Paper.{Read}

-- 01 Decision: by what the reader answers, a message tells of a slot
abbrev pub answers : Read → ℕ → Bool
answers r n = eqb r.number 0 && (leb 1 n && leb n r.end)
