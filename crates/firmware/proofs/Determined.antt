-- Calls that meet a contract of `firmware` return the same number and leave the same memory.
use Rattle.laws.proofs.Base.{◌≡◌, sym, ap, ◌∙◌, List, ℕ}
use Rattle.firmware.specs.Paper.{Started, IntakeLeft, start_call, intake_call}

pub determined_cb_start : (m : List ℕ) (r s : ℕ) (x y : List ℕ)
    → record { number = r; state = x } ≡ start_call m → record { number = s; state = y } ≡ start_call m → (r ≡ s) × (x ≡ y)
determined_cb_start m r s x y a b =
    let e = a ∙ sym b in
    (ap (λ (l : Started). l.number) e, ap (λ (l : Started). l.state) e)

pub determined_cb_intake : (m p o : List ℕ) (r s : ℕ) (x y v w : List ℕ)
    → record { returned = r; state = x; output = v } ≡ intake_call m p o → record { returned = s; state = y; output = w } ≡ intake_call m p o
    → (r ≡ s) × (x ≡ y) × (v ≡ w)
determined_cb_intake m p o r s x y v w a b =
    let e = a ∙ sym b in
    (ap (λ (l : IntakeLeft). l.returned) e, ap (λ (l : IntakeLeft). l.state) e, ap (λ (l : IntakeLeft). l.output) e)
