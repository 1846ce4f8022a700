-- Document 01, 'Figures to meet': the figures marked P, as one table.
use Rattle.std.specs.Prelude.{ℕ, ◌*◌, ◌≡◌}
use Rattle.law.specs.declared.Law.{Law}
use Rattle.law.specs.Law.{law_by}
use Rattle.law.specs.Stress.{Is, compressed, stretched}
use Rattle.shear.specs.Shear.{k_of, c_of}
use Rattle.class.specs.declared.answer.Class.{Class}
use Rattle.class.specs.declared.answer.Letter.TheVariants.{A, C, D}
use Rattle.class.specs.Class.{class_refusal, class_of}
use Rattle.panel.specs.Answers.{classed, no_class}
use Rattle.panel.specs.Face.{class_answer}

-- fck 30, d 250, feq2 3000, feq3 2500; the bars, of fyk 500 and at that depth, are not in its figures
abbrev pub law250 : Law
law250 = law_by 30 250 250 500 3000 2500

-- fR1 and fR3 give a class, which C gets beside 0; or 17, beside zeros
abbrev pub Classed : (fr1 fr3 : ℕ) → Class → Type 0
Classed fr1 fr3 c = (class_refusal fr1 fr3 ≡ 0) × (class_of fr1 fr3 ≡ c) × (class_answer fr1 fr3 ≡ classed c)

abbrev pub Unclassed : (fr1 fr3 : ℕ) → Type 0
Unclassed fr1 fr3 = (class_refusal fr1 fr3 ≡ 17) × (class_answer fr1 fr3 ≡ no_class 17)

abbrev pub Figures : Type 0
Figures =
    Classed 7100 8700 (record { step = 7000; letter = D })
    × Classed 1220 1060 (record { step = 1000; letter = C })
    × Classed 3999 3500 (record { step = 3500; letter = C })
    × Classed 4000 2000 (record { step = 4000; letter = A })
    × Unclassed 4000 1999
    × Unclassed 999 5000
    × (law250.s1 ≡ 4536)
    × (law250.e1 ≡ 141)
    × (law250.s2 ≡ 1350)
    × (law250.s3 ≡ 925)
    × Is (compressed law250 1000 1) 12750
    × Is (compressed law250 2000 1) 17000
    × Is (stretched law250 10000 1) 925
    × (k_of 540 ≡ 1608)
    × (c_of (400 * 540) 3216 30 ≡ 3548)
