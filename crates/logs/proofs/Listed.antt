-- The loop over a log: what is listed so far, and one piece more.
use Rattle.laws.proofs.Base.{◌≡◌, refl, sym, ap, ◌∙◌, cond, List, [], ◌∷◌, ◌++◌, append_assoc, append-nil, ℕ, ◌+◌, ◌*◌, ◌/◌, ◌%◌, ◌≤◌, ◌<◌}
use Rattle.laws.proofs.Base.{mul-suc, arith, length, take, eqb}
use Rattle.std.proofs.Common.{mul-le-mul}
use Rattle.std.proofs.lemmas.List.{nil_from_length}
use Rattle.block.specs.Paper.{Given, step}
use Rattle.block_history.specs.Claims.{after}
use Rattle.block_history.proofs.History.{number_small}
use Rattle.firmware.specs.Paper.{IntakeLeft, lent, held_in, moved, intake_call}
use Rattle.calls.proofs.Packed.{apart}
use Rattle.firmware.proofs.History.{right}
use Rattle.logs.specs.Paper.{listing, pieces, cut}
use Rattle.lines.specs.Inner.{Puts}
use Rattle.logs.proofs.Pieces.{Front, length_cut, cut_next}

-- memory of 90 octets is the state that it holds
lent_held : (s : List ℕ) → length s ≡ 90 → lent (held_in s) ≡ s
lent_held [] h = absurd (omega arith)
lent_held (x ∷ []) h = absurd (omega arith)
lent_held (x ∷ y ∷ s) h = refl

-- what a call for a piece leaves, in the parts of its answer g
pub record Taken (g : Given) (returned : ℕ) (s' message message' : List ℕ) : Type 0 where
  pub answer : returned % 256 ≡ g.number
  pub received : returned / 256 ≡ g.received
  pub state : held_in s' ≡ g.next
  pub output : message' ≡ cond (eqb g.received 0) message g.octets

-- what holds between two pieces, where a line is no longer than wide and the text's memory is of a size: the text so far and the lines of the log that is left are the listing
pub record Listed (f : ℕ → Given → List ℕ) (wide size : ℕ) (s₀ : List ℕ) (first : ℕ) (log rest s message text : List ℕ) (number end : ℕ) : Type 0 where
  pub state_size : length s ≡ 90
  pub message_size : length message ≡ 88
  pub text_size : length text ≡ size
  pub room : end + wide * length (cut rest) ≤ size
  pub few : number + length (cut rest) ≤ first + 1024
  pub told : listing f (held_in s₀) first (cut log) ≡ take end text ++ listing f (held_in s) number (cut rest)
  pub states : after (held_in s₀) (cut log) ≡ after (held_in s) (cut rest)

-- before the first piece
pub listed_start : {f : ℕ → Given → List ℕ} {wide size : ℕ} {s : List ℕ} {first : ℕ} {log message text : List ℕ}
    → length s ≡ 90 → length message ≡ 88 → (length log ≤ 23552) × (length text ≡ size) × (first < 1000000000000000000)
    → 1024 * wide ≤ size → Listed f wide size s first log log s message text first 0
listed_start {f} {wide} {size} {s} {first} {log} size₁ size₂ h fits =
    let few : length (cut log) ≤ 1024 = rw (length_cut log) (omega (arith, h.0)) in
    let same : wide ≤ wide = omega arith in
    let most : wide * length (cut log) ≤ wide * 1024 = mul-le-mul same few in
    record {
      state_size = size₁;
      message_size = size₂;
      text_size = h.1;
      room = omega (arith, most, fits);
      few = omega (arith, few);
      told = refl;
      states = refl;
    }

module _ {f : ℕ → Given → List ℕ} {wide size : ℕ} {s₀ : List ℕ} {first : ℕ} {log rest s message text : List ℕ} {number end : ℕ}
    (l : Listed f wide size s₀ first log rest s message text number end) where
  -- at the end of the log everything is told
  pub listed_end : length rest ≡ 0
      → (take end text ≡ listing f (held_in s₀) first (cut log)) × (s ≡ lent (after (held_in s₀) (cut log))) × (end ≤ size)
  unfolding listing after pieces
  listed_end h =
      let none : rest ≡ [] = nil_from_length rest h in
      let told = rw (none, append-nil) at l.told in
      let states = rw none at l.states in
      (sym told, rw states (sym (lent_held s l.state_size)), omega (arith, l.room))

  pub taken : (p : List ℕ) {returned : ℕ} {s' message' : List ℕ}
      → record { returned = returned; state = s'; output = message' } ≡ intake_call s p message → Taken (step (held_in s) p) returned s' message message'
  taken p {returned} {s'} {message'} call =
      let g = step (held_in s) p in
      let did : ◌≡◌ {A = IntakeLeft} (record { returned = returned; state = s'; output = message' }) (moved g message) =
      call ∙ right s p message l.state_size l.message_size in
      let number_is = ap (λ (x : IntakeLeft). x.returned) did in
      let small = number_small (held_in s) p in
      let numbers = apart g.number g.received (omega arith) in
      record {
        answer = rw number_is numbers.0;
        received = rw number_is numbers.1;
        state = ap (λ (x : IntakeLeft). held_in x.state) did;
        output = ap (λ (x : IntakeLeft). x.output) did;
      }

  module _ {p rest' : List ℕ} (front : Front rest p rest') where
    next : cut rest ≡ p ∷ cut rest'
    next = rw front.is (cut_next p rest' (rw front.is at front.long) (rw front.is at front.some))

    one_less : length (cut rest) ≡ length (cut rest') + 1
    one_less = omega (arith, ap length next)

    wides : wide * length (cut rest) ≡ wide * length (cut rest') + wide
    wides = rw next (mul-suc wide (length (cut rest')))

    -- there is room for a line where a piece is left
    pub line_room : end + wide ≤ length text
    line_room = omega (arith, wides, l.room, l.text_size)

    -- one piece more: its line behind the text so far
    pub listed_turn : {returned e : ℕ} {s' message' text' : List ℕ} → Taken (step (held_in s) p) returned s' message message'
        → length s' ≡ length s → length message' ≡ length message → length text' ≡ length text
        → Puts (f number (step (held_in s) p)) wide end text text' e
        → Listed f wide size s₀ first log rest' s' message' text' (number + 1) e
    unfolding listing after
    listed_turn t size₁ size₂ size₃ put =
        let g = step (held_in s) p in
        let told : listing f (held_in s₀) first (cut log) ≡ take end text ++ (f number g ++ listing f g.next (number + 1) (cut rest')) = rw next at l.told in
        let states : after (held_in s₀) (cut log) ≡ after g.next (cut rest') = rw next at l.states in
        record {
          state_size = size₁ ∙ l.state_size;
          message_size = size₂ ∙ l.message_size;
          text_size = size₃ ∙ l.text_size;
          room = omega (arith, wides, l.room, put.room);
          few = omega (arith, one_less, l.few);
          told = rw (t.state, put.text) (told ∙ sym (append_assoc (take end text) (f number g) (listing f g.next (number + 1) (cut rest'))));
          states = rw t.state states;
        }
