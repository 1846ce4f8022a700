-- Document 01, 'Stress at a strain': the whole numbers of a section's law. Stress in kPa, strain in millionths, each number rounded down.
use Rattle.std.specs.Prelude.{ℕ, ◌+◌, ◌*◌, ◌-◌, ◌/◌, cond, [], ◌∷◌, eqb, get_or}
use Rattle.section.specs.declared.Section.{Section}
use Rattle.section.specs.Section.{layer_at}
use Rattle.section.specs.Has.{steel_area, steel_moment}
use Rattle.law.specs.declared.Law.{Law}
use Rattle.law.specs.Edition.{edition}

-- ---- Table 1 of document 002, by fck: 20, 25, 30, 35, 40, 45, 50
abbrev pub column : ℕ → ℕ
column fck = (fck - 20) / 5

-- mean flexural strength, kPa
unfoldable pub flexural : ℕ → ℕ
flexural fck = get_or (3700 ∷ 4300 ∷ 4800 ∷ 5300 ∷ 5800 ∷ 6300 ∷ 6800 ∷ []) (column fck) 0

-- modulus E, N/mm²
unfoldable pub modulus : ℕ → ℕ
modulus fck = get_or (29000 ∷ 30500 ∷ 32000 ∷ 33500 ∷ 35000 ∷ 36000 ∷ 37000 ∷ []) (column fck) 0

-- ---- depths
-- where the limit strain is reached: the depth of the deepest layer, or h without bars
unfoldable pub limit_depth : Section → ℕ
limit_depth s = cond (eqb s.count 0) s.h (layer_at s.layers (s.count - 1)).depth

-- the effective depth d, for s1 and for shear ([2] of document 02): the centroid of the layers below mid-height, the sum of area times depth over the
-- sum of areas, rounded down; or h without bars
unfoldable pub effective_depth : Section → ℕ
effective_depth s = cond (eqb s.count 0) s.h (steel_moment s / steel_area s)

-- ---- the whole numbers
unfoldable pub s1_of : ℕ → ℕ → ℕ
s1_of fck d = 7 * flexural fck * (1600 - d) / 10000

unfoldable pub e1_of : ℕ → ℕ → ℕ
e1_of fck d = 1000 * s1_of fck d / modulus fck

-- the law by the numbers that it hangs on, with the two depths
unfoldable pub law_by : (fck d limit fyk feq2 feq3 : ℕ) → Law
law_by fck d limit fyk feq2 feq3 = record {
  fcd = fck * 1000 * 17 / 30;
  s1 = s1_of fck d;
  e1 = e1_of fck d;
  e2 = e1_of fck d + 100;
  s2 = 45 * feq2 / 100;
  s3 = 37 * feq3 / 100;
  e3 = edition.e3;
  fyd = fyk * 1000 * 100 / 115;
  strain = edition.limit_strain;
  limit = limit;
  ratio = edition.limit_ratio;
  d = d;
  drawn = edition.drawn_tension;
}

-- a section's law with an effective depth d
abbrev pub law_with : (d : ℕ) → Section → Law
law_with d s = law_by s.fck d (limit_depth s) s.fyk s.feq2 s.feq3

abbrev pub law_of : Section → Law
law_of s = law_with (effective_depth s) s
