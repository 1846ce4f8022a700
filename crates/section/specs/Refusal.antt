-- Document 01, 'What is refused, tested in this order': 7 to 13, with 20 of document 02 [4], which stands after 8.
use Rattle.std.specs.Prelude.{ℕ, ◌-◌, ◌%◌, Bool, ◌&&◌, ◌||◌, ltb, leb, eqb, nat_abs}
use Rattle.arith.specs.Lines.{line, within}
use Rattle.section.specs.declared.Section.{Section}
use Rattle.section.specs.Section.{layer_at, below_mid, layers_right}

-- Table 1 of document 002: 20, 25, 30, 35, 40, 45, 50
abbrev pub in_table : ℕ → Bool
in_table fck = within 20 50 fck && eqb (fck % 5) 0

-- a flange: hf below h, bf from b to 2,000; not tested where hf is 0
abbrev pub flange_right : Section → Bool
flange_right s = eqb s.hf 0 || (ltb s.hf s.h && within s.b 2000 s.bf)

-- where there are bars, the deepest lies below mid-height
unfoldable pub mid_right : Section → Bool
mid_right s = eqb s.count 0 || below_mid s (layer_at s.layers (s.count - 1)).depth

-- 0 where every line passes
unfoldable pub section_refusal : Section → ℕ
section_refusal s =
    line (in_table s.fck) 7
    (line (within 50 2000 s.b && within 50 1000 s.h) 8
    (line (flange_right s) 20
    (line (within 400 600 s.fyk) 9
    (line (leb s.feq2 20000 && leb s.feq3 20000) 10
    (line (leb (nat_abs s.load) 10000000) 11
    (line (layers_right s && mid_right s) 12
    (line (eqb s.asw 0 || ltb 0 s.spacing) 13
    0)))))))
