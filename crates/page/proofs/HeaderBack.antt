-- The header's octets and what they say determine each other.
use Rattle.laws.proofs.Base.{◌≡◌, refl, ◌+◌, ◌*◌, ◌/◌, ◌%◌, div-add-mod', arith, length}
use Rattle.page.specs as defs
use defs.Paper.{Heading, header, header_octets}
use defs.Claims.{HeaderBack, OctetsBack}

pub header_back : HeaderBack
unfolding header header_octets
header_back h = rw (div-add-mod' h.serial 256, div-add-mod' h.id 256)

pub octets_back : OctetsBack
unfolding header header_octets
octets_back a b c d e f hb hd =
    let p : (a * 256 + b) / 256 ≡ a = omega arith in
    let q : (a * 256 + b) % 256 ≡ b = omega arith in
    let r : (c * 256 + d) / 256 ≡ c = omega arith in
    let s : (c * 256 + d) % 256 ≡ d = omega arith in
    rw (p, q, r, s)

pub header_length : (h : Heading) → length (header_octets h) ≡ 6
unfolding header_octets
header_length h = refl
