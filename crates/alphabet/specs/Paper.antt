-- The default alphabet and its extension table: what documents 01 and 02 say of septets and code points.
use Rattle.std.specs.Prelude.{ℕ, suc, ◌%◌, cond, not, ◌&&◌, List, [], ◌∷◌, eqb, get_or}
use Rattle.laws.specs.Search.{lookup}

-- 01 Page and text: the default alphabet of 03.38, the code point of each septet from 00 to 7F, sixteen to a line; 09 is C7, and 1B by itself is a space
unfoldable pub alphabet : List ℕ
alphabet =
    0x0040 ∷ 0x00a3 ∷ 0x0024 ∷ 0x00a5 ∷ 0x00e8 ∷ 0x00e9 ∷ 0x00f9 ∷ 0x00ec ∷ 0x00f2 ∷ 0x00c7 ∷ 0x000a ∷ 0x00d8 ∷ 0x00f8 ∷ 0x000d ∷ 0x00c5 ∷ 0x00e5
    ∷ 0x0394 ∷ 0x005f ∷ 0x03a6 ∷ 0x0393 ∷ 0x039b ∷ 0x03a9 ∷ 0x03a0 ∷ 0x03a8 ∷ 0x03a3 ∷ 0x0398 ∷ 0x039e ∷ 0x0020 ∷ 0x00c6 ∷ 0x00e6 ∷ 0x00df ∷ 0x00c9
    ∷ 0x0020 ∷ 0x0021 ∷ 0x0022 ∷ 0x0023 ∷ 0x00a4 ∷ 0x0025 ∷ 0x0026 ∷ 0x0027 ∷ 0x0028 ∷ 0x0029 ∷ 0x002a ∷ 0x002b ∷ 0x002c ∷ 0x002d ∷ 0x002e ∷ 0x002f
    ∷ 0x0030 ∷ 0x0031 ∷ 0x0032 ∷ 0x0033 ∷ 0x0034 ∷ 0x0035 ∷ 0x0036 ∷ 0x0037 ∷ 0x0038 ∷ 0x0039 ∷ 0x003a ∷ 0x003b ∷ 0x003c ∷ 0x003d ∷ 0x003e ∷ 0x003f
    ∷ 0x00a1 ∷ 0x0041 ∷ 0x0042 ∷ 0x0043 ∷ 0x0044 ∷ 0x0045 ∷ 0x0046 ∷ 0x0047 ∷ 0x0048 ∷ 0x0049 ∷ 0x004a ∷ 0x004b ∷ 0x004c ∷ 0x004d ∷ 0x004e ∷ 0x004f
    ∷ 0x0050 ∷ 0x0051 ∷ 0x0052 ∷ 0x0053 ∷ 0x0054 ∷ 0x0055 ∷ 0x0056 ∷ 0x0057 ∷ 0x0058 ∷ 0x0059 ∷ 0x005a ∷ 0x00c4 ∷ 0x00d6 ∷ 0x00d1 ∷ 0x00dc ∷ 0x00a7
    ∷ 0x00bf ∷ 0x0061 ∷ 0x0062 ∷ 0x0063 ∷ 0x0064 ∷ 0x0065 ∷ 0x0066 ∷ 0x0067 ∷ 0x0068 ∷ 0x0069 ∷ 0x006a ∷ 0x006b ∷ 0x006c ∷ 0x006d ∷ 0x006e ∷ 0x006f
    ∷ 0x0070 ∷ 0x0071 ∷ 0x0072 ∷ 0x0073 ∷ 0x0074 ∷ 0x0075 ∷ 0x0076 ∷ 0x0077 ∷ 0x0078 ∷ 0x0079 ∷ 0x007a ∷ 0x00e4 ∷ 0x00f6 ∷ 0x00f1 ∷ 0x00fc ∷ 0x00e0
    ∷ []

-- 01 Page and text: the code point that a septet reads as; a septet is the low seven bits of its octet
unfoldable pub code_point : ℕ → ℕ
code_point s = get_or alphabet (s % 128) 0

-- 01 Page and text: the mark for none, which is no septet
abbrev pub no_septet : ℕ
no_septet = 0xff

-- 01 Page and text: the first septet, counted from s, whose code point is c; 1B is never written for one
abbrev pub sought : ℕ → ℕ → List ℕ → ℕ
sought c s [] = no_septet
sought c s (x ∷ xs) = cond (eqb x c && not (eqb s 0x1b)) s (sought c (suc s) xs)

-- 01 Page and text: the septet that is written for a code point, or the mark
unfoldable pub septet_of : ℕ → ℕ
septet_of c = sought c 0 alphabet

-- 02 No. 5: the septet after which the next one is looked up in the extension table
abbrev pub escape : ℕ
escape = 0x1b

-- 02 No. 5: the default extension table of 03.38: ten septets that follow 1B, each with the code point of the pair
unfoldable pub extension : List (ℕ × ℕ)
extension =
    (0x0a, 0x000c) ∷ (0x14, 0x005e) ∷ (0x28, 0x007b) ∷ (0x29, 0x007d) ∷ (0x2f, 0x005c)
    ∷ (0x3c, 0x005b) ∷ (0x3d, 0x007e) ∷ (0x3e, 0x005d) ∷ (0x40, 0x007c) ∷ (0x65, 0x20ac)
    ∷ []

-- 02 No. 5: the code point that 1B and septet s read as: that of the table, or, where s is not listed, that of s itself
unfoldable pub pair_point : ℕ → ℕ
pair_point s = lookup (λ (p : ℕ × ℕ). p.0) (λ (p : ℕ × ℕ). p.1) extension (s % 128) (code_point s)

-- 02 No. 5: the septet that is written after 1B for a code point, or the mark
unfoldable pub pair_septet : ℕ → ℕ
pair_septet c = lookup (λ (p : ℕ × ℕ). p.1) (λ (p : ℕ × ℕ). p.0) extension c no_septet
