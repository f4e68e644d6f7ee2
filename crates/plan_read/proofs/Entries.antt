-- Laws of a file's entries, one after the other, and of an array that is filled with them.
use Rattle.laws.proofs.Base.{◌≡◌, refl, sym, ap, ◌∙◌, List, [], ◌∷◌, ◌++◌, ℕ, zero, suc, ◌+◌, ◌*◌, ◌-◌, ◌<◌, add-one, arith, length, drop, set, replicate, drop-drop, set_at, append_snoc}
use Rattle.plan.specs.declared.Entry.{Entry as EntryCode}
use Rattle.plan.specs.Paper.{Entry, free}
use Rattle.plan.specs.Coded.{entry_of, entries_of}
use Rattle.plan_read.specs.Paper.{entry_in, entries_in}

pub length_entries : (n : ℕ) (o : List ℕ) → length (entries_in n o) ≡ n
unfolding entries_in
length_entries zero o = refl
length_entries (suc n) o = ap suc (length_entries n (drop 6 o))

-- one entry more
entries_snoc : (n : ℕ) (o : List ℕ) → entries_in (suc n) o ≡ entries_in n o ++ (entry_in (drop (6 * n) o) ∷ [])
unfolding entries_in
entries_snoc zero o = refl
entries_snoc (suc n) o =
    let e : 6 + 6 * n ≡ 6 * suc n = omega arith in
    ap (λ (l : List Entry). entry_in o ∷ l)
    (entries_snoc n (drop 6 o) ∙ rw (drop-drop (6 * n) 6 o, e))

entries_set : (es : List EntryCode) (i : ℕ) (e : EntryCode) → entries_of (set es i e) ≡ set (entries_of es) i (entry_of e)
entries_set [] i e = refl
entries_set (x ∷ es) zero e = refl
entries_set (x ∷ es) (suc i) e = ap (λ (l : List Entry). entry_of x ∷ l) (entries_set es i e)

-- a turn of the loop that fills an array with a file's entries
pub entries_turn : (f : List ℕ) (i : ℕ) (es : List EntryCode) (e : EntryCode) → i < 48
    → entries_of es ≡ entries_in i (drop 6 f) ++ replicate (48 - i) free → entry_of e ≡ entry_in (drop (6 + 6 * i) f)
    → entries_of (set es i e) ≡ entries_in (i + 1) (drop 6 f) ++ replicate (48 - (i + 1)) free
entries_turn f i es e h inv q =
    let o : List ℕ = drop 6 f in
    let k : 48 - i ≡ suc (48 - (i + 1)) = omega arith in
    let p : entry_of e ≡ entry_in (drop (6 * i) o) = q ∙ rw (drop-drop (6 * i) 6 f) in
    entries_set es i e
    ∙ rw (inv, k, p, add-one i, entries_snoc i o)
    (set_at (entries_in i o) free (replicate (48 - suc i) free) (entry_in (drop (6 * i) o)) i (length_entries i o)
    ∙ sym (append_snoc (entries_in i o) (entry_in (drop (6 * i) o)) (replicate (48 - suc i) free)))
