-- Calls that meet a contract of `page_calls` return the same number.
use Rattle.laws.proofs.Base.{List, ℕ}
use Rattle.calls.specs.Claims.{SettlesNumber}
use Rattle.calls.proofs.Settled.{settles_number}
use Rattle.page_calls.specs.Paper.{header_call, content_call}

pub determined_cb_read_header : (p : List ℕ) → SettlesNumber (header_call p)
determined_cb_read_header p = settles_number (header_call p)

pub determined_cb_content : (p : List ℕ) (received : ℕ) → SettlesNumber (content_call p received)
determined_cb_content p received = settles_number (content_call p received)
