-- Two answers that meet a contract are equal, the text's memory included.
use Rattle.laws.proofs.Base.{◌≡◌, sym, ◌∙◌, List, [], ◌∷◌, ℕ, take}
use Rattle.lines.specs.Paper.{PutLeft, decimal, marked, hexadecimal, behind, all_behind}

pub determined_put : (s : List ℕ) (n : ℕ) (t : List ℕ) (a b : PutLeft) → a ≡ behind s n t → b ≡ behind s n t → a ≡ b
determined_put s n t a b p q = p ∙ sym q

pub determined_put_octet : (x n : ℕ) (t : List ℕ) (a b : PutLeft) → a ≡ behind (x ∷ []) n t → b ≡ behind (x ∷ []) n t → a ≡ b
determined_put_octet x = determined_put (x ∷ [])

pub determined_put_number : (number n : ℕ) (t : List ℕ) (a b : PutLeft) → a ≡ behind (decimal number) n t → b ≡ behind (decimal number) n t → a ≡ b
determined_put_number number = determined_put (decimal number)

pub determined_put_hex : (number k n : ℕ) (t : List ℕ) (a b : PutLeft) → a ≡ behind (hexadecimal k number) n t → b ≡ behind (hexadecimal k number) n t → a ≡ b
determined_put_hex number k = determined_put (hexadecimal k number)

-- and where texts are put one behind the other
pub determined_texts : (ss : List (List ℕ)) (n : ℕ) (t : List ℕ) (a b : PutLeft) → a ≡ all_behind ss n t → b ≡ all_behind ss n t → a ≡ b
determined_texts ss n t a b p q = p ∙ sym q

pub determined_put_marked : (number mark n : ℕ) (t : List ℕ) (a b : PutLeft) → a ≡ all_behind (marked number mark) n t → b ≡ all_behind (marked number mark) n t → a ≡ b
determined_put_marked number mark = determined_texts (marked number mark)

pub determined_as_bytes : (n : ℕ) (t a b : List ℕ) → a ≡ take n t → b ≡ take n t → a ≡ b
determined_as_bytes n t a b p q = p ∙ sym q
