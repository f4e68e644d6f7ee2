-- Two answers that meet a public contract of this crate are equal, lent memory included.
use Rattle.laws.proofs.Base.{◌≡◌, sym, ◌∙◌, List, ℕ}
use Rattle.alphabet.specs as defs
use defs.Paper.{code_point, septet_of, pair_septet}
use defs.Inner.{point_by, septet_by, pair_point_by}

pub determined_code_point : (septet r s : ℕ) → r ≡ code_point septet → s ≡ code_point septet → r ≡ s
determined_code_point septet r s p q = p ∙ sym q

pub determined_septet : (code r s : ℕ) → r ≡ septet_of code → s ≡ septet_of code → r ≡ s
determined_septet code r s p q = p ∙ sym q

pub determined_code_point_by : (table : List ℕ) (septet r s : ℕ) → r ≡ point_by table septet → s ≡ point_by table septet → r ≡ s
determined_code_point_by table septet r s p q = p ∙ sym q

pub determined_septet_by : (table : List ℕ) (code r s : ℕ) → r ≡ septet_by table code → s ≡ septet_by table code → r ≡ s
determined_septet_by table code r s p q = p ∙ sym q

pub determined_pair_septet : (code r s : ℕ) → r ≡ pair_septet code → s ≡ pair_septet code → r ≡ s
determined_pair_septet code r s p q = p ∙ sym q

pub determined_pair_point_by : (table : List ℕ) (septet r s : ℕ) → r ≡ pair_point_by table septet → s ≡ pair_point_by table septet → r ≡ s
determined_pair_point_by table septet r s p q = p ∙ sym q
