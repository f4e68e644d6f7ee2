-- The octets that a board can have received of a message.
use Rattle.std.specs.Prelude.{ℕ, Bool, ◌||◌, eqb}

-- 01 Intake, and Numbers given, 18: the octets received are 22, 44, 66 or 88, those of one to four blocks
unfoldable pub whole_blocks : ℕ → Bool
whole_blocks n = eqb n 22 || (eqb n 44 || (eqb n 66 || eqb n 88))
