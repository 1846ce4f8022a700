-- Document 01, 'Class'. Strengths in kPa.
use Rattle.std.specs.Prelude.{ℕ, ◌*◌, ◌≤◌, max, cond, List, [], ◌∷◌, ltb, leb}
use Rattle.class.specs.declared.answer.Class.{Class}
use Rattle.class.specs.declared.answer.Letter.{Letter}
use Rattle.class.specs.declared.answer.Letter.TheVariants.{A, B, C, D, E}

-- The strength classes of Table 2 of document 001, which reproduces Table L.2 of Annex L, with its steps at 3.5 and 4.5
unfoldable pub ladder : List ℕ
ladder = 1000 ∷ 1500 ∷ 2000 ∷ 2500 ∷ 3000 ∷ 3500 ∷ 4000 ∷ 4500 ∷ 5000 ∷ 6000 ∷ 7000 ∷ 8000 ∷ []

-- the largest of a list that is at most f, or 0 where none is
unfoldable pub largest_step : List ℕ → ℕ → ℕ
largest_step [] f = 0
largest_step (s ∷ ss) f = max (cond (leb s f) s 0) (largest_step ss f)

unfoldable pub step_of : ℕ → ℕ
step_of fr1 = largest_step ladder fr1

-- a letter as its byte
abbrev pub letter_a : ℕ
letter_a = 97

abbrev pub letter_b : ℕ
letter_b = 98

abbrev pub letter_c : ℕ
letter_c = 99

abbrev pub letter_d : ℕ
letter_d = 100

abbrev pub letter_e : ℕ
letter_e = 101

abbrev pub ascii : Letter → ℕ
ascii A = letter_a
ascii B = letter_b
ascii C = letter_c
ascii D = letter_d
ascii E = letter_e

-- fR3 over the step: a from 0.5, b from 0.7, c from 0.9, d from 1.1, e from 1.3; below 0.5 it is not asked for
abbrev pub letter_by : (step fr3 : ℕ) → Letter
letter_by step fr3 =
    cond (leb (13 * step) (10 * fr3)) E
    (cond (leb (11 * step) (10 * fr3)) D
    (cond (leb (9 * step) (10 * fr3)) C
    (cond (leb (7 * step) (10 * fr3)) B
    A)))

unfoldable pub letter_of : ℕ → ℕ → ℕ
letter_of step fr3 = ascii (letter_by step fr3)

-- 17: fR1 below 1000, then fR3 below half the step. The table prints 0.75 as 0.8: its formula fR3 ≥ 0.5 SC decides
unfoldable pub class_refusal : ℕ → ℕ → ℕ
class_refusal fr1 fr3 = cond (ltb fr1 1000) 17 (cond (ltb (2 * fr3) (step_of fr1)) 17 0)

-- what it asks for
abbrev pub ClassIn : ℕ → ℕ → Type 0
ClassIn fr1 fr3 = (1000 ≤ fr1) × (step_of fr1 ≤ 2 * fr3)

-- the step and the letter
unfoldable pub class_of : ℕ → ℕ → Class
class_of fr1 fr3 = record { step = step_of fr1; letter = letter_by (step_of fr1) fr3 }
