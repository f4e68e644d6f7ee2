-- What the inner functions of `collector` answer and ask.
use Rattle.std.specs.Prelude.{◌≡◌, cond, true, List, ℕ, Option, None, Some, suc, ◌-◌, ◌≤◌}
use Rattle.laws.specs.Upto.{count}
use Rattle.collector.specs.Paper.{page_number, page_total, total, held, received_of, proper}

-- how many pages a proper collector holds, and one more; 0 for one that is not proper
unfoldable pub pages_in : List ℕ → ℕ
pages_in c = cond (proper c) (suc (count (held c) (total c))) 0

-- the same of the code's answer
abbrev pub pages_of : Option ℕ → ℕ
pages_of None = 0
pages_of (Some n) = suc n

-- a page that no test of its own refuses, with n octets received
pub record Takes (p : List ℕ) (n : ℕ) : Type 0 where
  pub received : 1 ≤ n
  pub numbered : page_number p ≤ page_total p

-- a proper collector that holds n pages
pub record Holds (c : List ℕ) (n : ℕ) : Type 0 where
  pub proper : proper c ≡ true
  pub counted : n ≡ count (held c) (total c)

-- a page that is missing in a collector of its message, which holds n pages
pub record Adds (c p : List ℕ) (n : ℕ) : Type 0 where
  pub same : total c ≡ page_total p
  pub counted : n ≡ count (held c) (total c)
  pub missing : received_of c (page_number p - 1) ≡ 0
