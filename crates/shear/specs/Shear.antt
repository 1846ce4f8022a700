-- Document 01, 'Shear' (3.2.1 of document 002; only with bars), with the flange of document 02 [4]. Shear in mN, stress in kPa, length in mm, area
-- in mm²; k, c and kf in thousandths. Every quotient is rounded down.
use Rattle.std.specs.Prelude.{ℕ, ◌+◌, ◌*◌, ◌-◌, ◌/◌, min, max, cond, ltb, eqb, ℤ, pos, nat_abs, ◌+ℤ◌, ◌*ℤ◌}
use Rattle.std.specs.Int.Signed.{lt_z}
use Rattle.arith.specs.Floor.{floor_div}
use Rattle.arith.specs.Largest.{largest}
use Rattle.arith.specs.Lines.{line, first_of}
use Rattle.section.specs.declared.Section.{Section}
use Rattle.section.specs.Refusal.{section_refusal}
use Rattle.section.specs.Has.{concrete_area, steel_area, load_of}
use Rattle.law.specs.declared.Law.{Law}
use Rattle.law.specs.Law.{law_of}

-- ---- the roots
abbrev pub squared : ℕ → ℕ → ℕ
squared by n = n * n * by

abbrev pub cubed : ℕ → ℕ → ℕ
cubed by n = n * n * n * by

-- equation 13: 1000 + the largest r with r x r x d at most 200,000,000; at most 2000
unfoldable pub k_of : ℕ → ℕ
k_of d = min (1000 + largest (squared d) 200000000) 2000

-- equations 12 and 14: the largest c with c³ b d at most 100,000,000,000 x As x fck; where 50 As > b d, with c³ at most 2,000,000,000 x fck
unfoldable pub c_of : (bd steel fck : ℕ) → ℕ
c_of bd steel fck =
    cond (ltb bd (50 * steel))
    (largest (cubed 1) (2000000000 * fck))
    (largest (cubed bd) (100000000000 * steel * fck))

-- ---- concrete (equations 12 and 15): the sum is at least 0
abbrev pub at_least_zero : ℤ → ℕ
at_least_zero z = cond (lt_z z (pos 0)) 0 (nat_abs z)

-- 15 N / (100 b h) with N in mN and the true area for b h, rounded towards minus infinity
unfoldable pub axial_share : Section → ℤ
axial_share s = floor_div (pos 15 *ℤ load_of s) (100 * concrete_area s)

unfoldable pub concrete_share : (d : ℕ) → Section → ℕ
concrete_share d s = at_least_zero (pos (12 * k_of d * c_of (s.b * d) (steel_area s) s.fck / 100000) +ℤ axial_share s)

-- ---- fibres (equations 16 to 19)
-- equation 17: kf is 1000 + 1000 q hf / (b d), q the least of bf - b, 3 hf and 3 b; at most 1500
unfoldable pub kf_of : (d : ℕ) → Section → ℕ
kf_of d s = min (1000 + 1000 * min (s.bf - s.b) (min (3 * s.hf) (3 * s.b)) * s.hf / (s.b * d)) 1500

-- t = 12 feq3 / 100, then t x max(1000, 1600 - d) x kf / 1,000,000
unfoldable pub fibre_share : (feq3 d kf : ℕ) → ℕ
fibre_share feq3 d kf = 12 * feq3 / 100 * max 1000 (1600 - d) * kf / 1000000

-- ---- stirrups (equation 20)
unfoldable pub stirrups : (asw d fyd spacing : ℕ) → ℕ
stirrups asw d fyd spacing = cond (eqb asw 0) 0 (9 * asw * d * fyd / (10 * spacing))

-- ---- struts (equations 21 and 22)
unfoldable pub struts : (fck bd : ℕ) → ℕ
struts fck bd = max 500 (700 - 5 * fck) * (2000 * fck / 3) * (9 * bd) / 20000

-- ---- the resistance (equation 11) under a law, whose d and fyd it takes: the lesser of the sum and the struts
unfoldable pub resistance_under : Law → Section → ℕ
resistance_under l s =
    let d = l.d in
    min
    ((concrete_share d s + fibre_share s.feq3 d (kf_of d s)) * (s.b * d) + stirrups s.asw d l.fyd s.spacing)
    (struts s.fck (s.b * d))

abbrev pub resistance : Section → ℕ
resistance s = resistance_under (law_of s) s

-- ---- what is refused: 7 to 13 with 20, then 16 without bars
unfoldable pub shear_refusal : Section → ℕ
shear_refusal s = first_of (section_refusal s) (line (ltb 0 s.count) 16 0)
