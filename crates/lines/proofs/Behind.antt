-- Laws of what stands behind a text: the cases of `behind`, and one thing put behind another.
use Rattle.laws.proofs.Base.{◌≡◌, refl, sym, ap, ◌∙◌, Bool, true, false, List, [], ◌∷◌, ◌++◌, append_assoc, append-nil, ℕ, ◌+◌, ◌-◌, ◌≤◌, ◌<◌, add-one, arith}
use Rattle.laws.proofs.Base.{length, take, drop, set, length-take, length-drop, length-append, take_at, leb, le-leb, lt-leb, leb-true, leb-false}
use lib.Seq.{set_split}
use borrow.Rule.Slice.PartMut.{put_mid}
use Rattle.laws.proofs.Parts.{put_copy}
use Rattle.lines.specs as defs
use defs.Paper.{PutLeft, behind}
use defs.Inner.{Puts}

module _ (s : List ℕ) (n : ℕ) (t : List ℕ) where
  pub behind_fits : n + length s ≤ length t → behind s n t ≡ record { end = n + length s; text = take n t ++ (s ++ drop (n + length s) t) }
  unfolding behind
  behind_fits h = rw (le-leb _ _ h)

  pub behind_full : length t < n + length s → behind s n t ≡ record { end = n; text = t }
  unfolding behind
  behind_full h = rw (lt-leb _ _ h)

  -- octets copied over the part lent for them
  pub behind_copy : (y : List ℕ) (e : ℕ) → n + length s ≤ length t → e ≡ n + length s → y ≡ s
      → record { end = e; text = put_mid n (e - n) t y } ≡ behind s n t
  behind_copy y e h q r =
      let whole = put_copy n e t s y (omega arith) (omega arith) r in
      let text : put_mid n (e - n) t y ≡ take n t ++ (s ++ drop (n + length s) t) = whole ∙ ap (λ (k : ℕ). take n t ++ (s ++ drop k t)) q in
      let put : ◌≡◌ {A = PutLeft} (record { end = e; text = put_mid n (e - n) t y }) (record { end = n + length s; text = take n t ++ (s ++ drop (n + length s) t) }) =
      λ i. record { end = q i; text = text i } in
      put ∙ sym (behind_fits h)

  -- octets that fit are put
  pub puts_behind : (most r : ℕ) (t' : List ℕ) → record { end = r; text = t' } ≡ behind s n t → length s ≤ most → n + most ≤ length t → Puts s most n t t' r
  puts_behind most r t' q few h =
      let e = q ∙ behind_fits (omega arith) in
      let end : r ≡ n + length s = ap (λ (x : PutLeft). x.end) e in
      let text : t' ≡ take n t ++ (s ++ drop (n + length s) t) = ap (λ (x : PutLeft). x.text) e in
      let front : length (take n t ++ s) ≡ n + length s = simp (length-append, length-take) (omega arith) in
      record {
        text = rw (end, text, ← append_assoc (take n t) s (drop (n + length s) t)) (take_at (take n t ++ s) (drop (n + length s) t) (n + length s) front);
        onward = omega arith;
        room = omega arith;
      }

-- one octet stored
pub behind_octet : (x n : ℕ) (t : List ℕ) → n < length t → record { end = n + 1; text = set t n x } ≡ behind (x ∷ []) n t
behind_octet x n t h =
    let text : set t n x ≡ take n t ++ (x ∷ drop (n + 1) t) = rw (add-one n) (set_split t n x h) in
    let put : ◌≡◌ {A = PutLeft} (record { end = n + 1; text = set t n x }) (record { end = n + 1; text = take n t ++ (x ∷ drop (n + 1) t) }) =
    λ i. record { end = n + 1; text = text i } in
    put ∙ sym (behind_fits (x ∷ []) n t (omega arith))

-- what is put ends within its memory
pub ends_inside : (s : List ℕ) (n : ℕ) (t : List ℕ) {left : PutLeft} → n ≤ length t → left ≡ behind s n t → left.end ≤ length t
ends_inside s n t {left} h q = go (leb (n + length s) (length t)) refl
  where
    go : (b : Bool) → leb (n + length s) (length t) ≡ b → left.end ≤ length t
    go true e =
        let few = leb-true (n + length s) (length t) e in
        let end : left.end ≡ n + length s = ap (λ (x : PutLeft). x.end) (q ∙ behind_fits s n t few) in
        omega arith
    go false e =
        let many = leb-false (n + length s) (length t) e in
        let end : left.end ≡ n = ap (λ (x : PutLeft). x.end) (q ∙ behind_full s n t many) in
        omega arith

-- and the memory is as long as it was
pub length_behind : (s : List ℕ) (n : ℕ) (t : List ℕ) → length (behind s n t).text ≡ length t
length_behind s n t = go (leb (n + length s) (length t)) refl
  where
    go : (b : Bool) → leb (n + length s) (length t) ≡ b → length (behind s n t).text ≡ length t
    go true e =
        let few = leb-true (n + length s) (length t) e in
        ap (λ (x : PutLeft). length x.text) (behind_fits s n t few) ∙ simp (length-append, length-take, length-drop) (omega arith)
    go false e = ap (λ (x : PutLeft). length x.text) (behind_full s n t (leb-false (n + length s) (length t) e))

-- nothing is put
pub puts_none : (n : ℕ) (t : List ℕ) → Puts [] 0 n t t n
puts_none n t = record { text = sym (append-nil (take n t)); onward = omega arith; room = omega arith }

-- what is put is no longer than more, either
pub puts_wider : {s : List ℕ} {m n r : ℕ} {t t' : List ℕ} (more : ℕ) → m ≤ more → Puts s m n t t' r → Puts s more n t t' r
puts_wider more h p = record { text = p.text; onward = p.onward; room = omega (arith, p.room) }

-- one thing behind another
pub puts_then : {s s' : List ℕ} {m m' n : ℕ} {t t₁ t₂ : List ℕ} {a b : ℕ} → Puts s m n t t₁ a → Puts s' m' a t₁ t₂ b → Puts (s ++ s') (m + m') n t t₂ b
puts_then {s} {s'} {m} {m'} {n} {t} p q =
    record {
      text = q.text ∙ ap (λ (l : List ℕ). l ++ s') p.text ∙ append_assoc (take n t) s s';
      onward = omega (arith, p.onward, q.onward);
      room = omega (arith, p.room, q.room);
    }
