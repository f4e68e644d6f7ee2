-- Calls that meet a contract of `text_calls` return the same number and leave the same memory.
use Rattle.laws.proofs.Base.{List, ℕ}
use Rattle.calls.specs.Claims.{Settles}
use Rattle.calls.proofs.Settled.{settles}
use Rattle.page.specs.Paper.{Heading}
use Rattle.text_calls.specs.Paper.{write_call, read_call}

pub determined_cb_write_text : (h : Heading) (t p : List ℕ) → Settles (write_call h t p)
determined_cb_write_text h t p = settles (write_call h t p)

pub determined_cb_read_text : (p : List ℕ) (n : ℕ) (t : List ℕ) → Settles (read_call p n t)
determined_cb_read_text p n t = settles (read_call p n t)
