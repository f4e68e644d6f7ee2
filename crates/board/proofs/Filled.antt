-- Laws of the loops that take a list's identifiers into an array, and an array's out of it.
use Rattle.laws.proofs.Base.{◌≡◌, refl, sym, ap, ◌∙◌, List, [], ◌∷◌, ◌++◌, ℕ, zero, suc, ◌+◌, ◌-◌, ◌<◌, add-one, arith}
use Rattle.std.proofs.lemmas.List.{take_min}
use Rattle.laws.proofs.Base.{min, length, get_or, take, set, replicate, take-suc, set_at, append_snoc, length-take-le, length-map, list_get_d_map}
use Rattle.page.specs.declared.MessageId.{MessageId}
use Rattle.board.specs as defs
use defs.Inner.{filled_wanted}
use defs.Coded.{id_of, ids_of}

-- the identifier that stands for one past the end of an array
abbrev pub none : MessageId
none = record { 0 = 0 }

ids_set : (ids : List MessageId) (i : ℕ) (x : MessageId) → ids_of (set ids i x) ≡ set (ids_of ids) i x.0
ids_set [] i x = refl
ids_set (y ∷ ids) zero x = refl
ids_set (y ∷ ids) (suc i) x = ap (λ (l : List ℕ). y.0 ∷ l) (ids_set ids i x)

-- a turn of a loop that takes a list's numbers into an array of 64
filled_turn : (list filled : List ℕ) (i : ℕ) → filled ≡ take i list ++ replicate (64 - i) 0 → i < 64 → i < length list
    → set filled i (get_or list i 0) ≡ take (i + 1) list ++ replicate (64 - (i + 1)) 0
filled_turn list filled i same h k =
    let room : 64 - i ≡ suc (64 - (i + 1)) = omega arith in
    rw (same, room, add-one i, take-suc list i 0 k)
    (set_at (take i list) 0 (replicate (64 - suc i) 0) (get_or list i 0) i (length-take-le i list (omega arith))
    ∙ sym (append_snoc (take i list) (get_or list i 0) (replicate (64 - suc i) 0)))

-- a turn of the loop that writes identifiers out as numbers
pub numbers_turn : (ids : List MessageId) (filled : List ℕ) (i : ℕ) → length ids ≡ 64 → filled ≡ take i (ids_of ids) ++ replicate (64 - i) 0 → i < 64
    → set filled i (get_or ids i none).0 ≡ take (i + 1) (ids_of ids) ++ replicate (64 - (i + 1)) 0
numbers_turn ids filled i size same h =
    let room : i < length (ids_of ids) = rw (length-map, size) h in
    ap (set filled i) (sym (list_get_d_map id_of ids i none)) ∙ filled_turn (ids_of ids) filled i same h room

module _ (list : List ℕ) (ids : List MessageId) (i : ℕ) (same : ids_of ids ≡ take i list ++ replicate (64 - i) 0) where
  -- a turn of the loop that takes a list's identifiers
  pub ids_turn : (x : MessageId) → x.0 ≡ get_or list i 0 → i < 64 → i < length list → ids_of (set ids i x) ≡ take (i + 1) list ++ replicate (64 - (i + 1)) 0
  ids_turn x e h k = ids_set ids i x ∙ ap (set (ids_of ids) i) e ∙ filled_turn list (ids_of ids) i same h k

  -- its end, where the list ends or the array does
  pub ids_end : i ≡ min (length list) 64 → ids_of ids ≡ (filled_wanted list).ids
  ids_end e =
      let rest : 64 - i ≡ 64 - length list = omega (arith, e) in
      let all : take i list ≡ take 64 list = ap (λ (k : ℕ). take k list) (omega (arith, e)) ∙ take_min 64 list in
      same ∙ rw (rest, all)
