-- What is known of a chunk that was read, by what reading gave.
use Rattle.laws.proofs.Base.{◌≡◌, refl, sym, subst, Bool, true, false, cond, List, ℕ, ◌≤◌, arith, length, eqb, eqb-true}
use Rattle.std.specs.Prelude.{Result, Ok, Err}
use Rattle.laws.proofs.Tests.{true_or_false}
use Rattle.logs.specs as defs
use defs.Inner.{ending_of, chunk_of, Reads}
use defs.declared.Chunk.{Chunk}
use defs.declared.Ending.TheVariants as endings
use Rattle.files.specs.Inner.{filled}
use Rattle.files.specs.declared.ReadFault.{ReadFault}

-- the endings differ
pub more_last : endings.Last ≡ endings.More → ⊥
more_last e = let z : ◌≡◌ {A = ℕ} 0 1 = cc in omega arith

pub more_fault : endings.Fault ≡ endings.More → ⊥
more_fault e = let z : ◌≡◌ {A = ℕ} 0 1 = cc in omega arith

-- a chunk behind which the log may go on is whole
ends_more : (n : ℕ) → ending_of n ≡ endings.More → n ≡ 23552
ends_more n e = true_or_false (eqb n 23552) (λ t. eqb-true n 23552 t) (λ t. absurd (more_last (rw t at e)))

-- what was read without a fault does not end with one
no_fault : (b : Bool) → cond b endings.More endings.Last ≡ endings.Fault → ⊥
no_fault true e = more_fault (sym e)
no_fault false e = let z : ◌≡◌ {A = ℕ} 0 1 = cc in omega arith

-- the chunk that reading gave is as `read_chunk` promises
pub chunk_reads : (got : Result ℕ ReadFault) (number : ℕ) (log : List ℕ) (r : Chunk) → length log ≡ 23552 → filled got ≤ 23552 → r ≡ chunk_of got number log → Reads number log r
chunk_reads (Ok n) number log r size h e =
    subst (λ (x : Chunk). Reads number log x) (sym e)
    record { size = size; few = h; whole = ends_more n; kept = λ e. absurd (no_fault (eqb n 23552) e); next = refl }
chunk_reads (Err f) number log r size h e =
    subst (λ (x : Chunk). Reads number log x) (sym e)
    record { size = size; few = omega arith; whole = λ e. absurd (more_fault e); kept = λ e. omega arith; next = refl }
