-- What is packed into a slot's number fits.
use Rattle.laws.proofs.Base.{◌≡◌, refl, Bool, true, false, cond, List, ℕ, ◌+◌, ◌<◌, arith, eqb, leb, leb-true}
use Rattle.laws.specs.Radix.{Below}
use Rattle.schedule.specs.Paper.{again, optional, advised, octet_at, short, told}
use Rattle.schedule_calls.specs.Paper.{code_of}

-- a description's code has sixteen bits
short_small : (x : ℕ) → code_of (short x) < 65536
short_small x = go (leb x 63) refl (eqb x 65)
  where
    go : (b : Bool) → leb x 63 ≡ b → (a : Bool) → code_of (cond b (again x) (cond a advised optional)) < 65536
    go true e a = omega (arith, leb-true x 63 e)
    go false e true = omega arith
    go false e false = omega arith

pub code_small : (m : List ℕ) → Below 256 m → (at : ℕ) → code_of (told m at) < 65536
code_small m below at = go (leb 128 (octet_at m at)) refl
  where
    go : (b : Bool) → leb 128 (octet_at m at) ≡ b → code_of (told m at) < 65536
    go true e = rw e (omega (arith, below at, below (at + 1)))
    go false e = rw e (short_small (octet_at m at))
