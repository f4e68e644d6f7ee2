-- The names of the kit's libraries that proofs lean on, passed on together.
pub use mathlib.Core.Path.{◌∙◌, ◌≡◌, ap, refl, subst, sym}
pub use mathlib.Core.Bool.{Bool, beq as bool_beq, ◌&&◌, ◌||◌, and-false, and-true, cond, false, false≢true, not, or_assoc, or-false, or-true, true, true≢false}
pub use mathlib.Core.List.{List, [], ◌++◌, ◌∷◌, append_assoc, append-nil, map, map-append}
pub use mathlib.Core.Logic.{◌↔◌, ◌⊎◌, inl, inr, ⊎_elim}
pub use Prim.Native.Nat.{◌%◌, ◌*◌, ◌+◌, ◌-◌, ◌/◌, ◌<◌, ◌^◌, ◌≤◌, min, suc, zero, ℕ}
pub use native.Mathlib.Omega.{arith, by_contra}
pub use native.Mathlib.Nat.{add_assoc, add_comm, add-div_right, add-mul-div_left, add-mul-mod_self_left, add-sub_cancel_left, add-sub_of_le, add-suc, add-zero, div-add-mod}
pub use native.Mathlib.Nat.{div-add-mod', div-div-eq-div-mul, div-eq_of_lt, div-lt_iff_lt-mul, div-one, eq-or-lt_of_le, le-div_iff_mul-le, le_of_lt, le_of_suc-le-suc}
pub use native.Mathlib.Nat.{le_refl, le_trans, lt-mul-div-succ, lt_of_lt_of_le, min-le_left, min-zero, mod-add-div, mod-eq_of_lt, mod-lt, mod-mod, mul-add}
pub use native.Mathlib.Nat.{mul_assoc, mul_comm, mul-le-mul_left, mul-one, mul-suc, mul-zero, not-suc-le-zero, one-le-pow, one-mul, pos_of_ne-zero, pow-le-pow_right}
pub use native.Mathlib.Nat.{pow-suc, pow-succ', pow-zero, sub-le, sub-zero, suc-add, suc-min-suc, suc-sub-suc, zero-add, zero-div, zero-lt-suc, zero-min, zero-mod, zero-sub}
pub use native.Mathlib.Numerals.{add-one}
pub use borrow.Author.Rules.{rules}
pub use borrow.Author.Tests.{eq-eqb, eqb-false, eqb-true, le-leb, le-ltb, leb-false, leb-true, lt-leb, lt-ltb, ltb-false, ltb-true, ne_eqb, not-false, not-true}
pub use lib.ListN.{get_or-append as list_get_d_append, get_or-eq_default as list_get_d_eq_default, get_or-map as list_get_d_map, drop, drop_of_length-le, get_or, get_or-replicate, length, length-append}
pub use lib.ListN.{length-drop, length-map, length-replicate, length-set, length-take, replicate, replicate-append-replicate, set, take, take-append-drop}
pub use lib.Dec.{eqb, eqb-suc-zero as eqb_suc_zero, leb, lit<, lit≤, ltb}
pub use lib.Seq.{append_snoc, drop-append-add, drop-append-le, drop_at, drop-cons, drop-drop, drop-length, drop-set-lt, ext_get_or, get_or-append-add}
pub use lib.Seq.{get_or-append_seam, get_or_at, get_or-drop, get_or-set_other, get_or-set_same, get_or-take, length-take-le, set_at, sets, sets-eq, split_at, take-add}
pub use lib.Seq.{take_all, take-append-add, take-append-le, take-append_seam, take_at, take-length, take-nil, take-set-le, take-suc, take-suc-set, take-take}
pub use denote.Ref.{MutRef, NamedLft, Bor, MutBor, mut_Tells, shr_vals, mut_vals}
