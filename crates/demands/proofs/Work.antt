-- How much work each answer reports, by cases of the answer, and so what stands beside a refusal. Assumes nothing.
use Prim.Native.Nat.{ℕ, ◌+◌, ◌*◌}
use mathlib.Core.Path.{◌≡◌, refl}
use mathlib.Core.Bool.{Bool, true, false}
use mathlib.Core.Logic.{inr, ⊎_elim}
use mathlib.Core.List.{List}
use native.Mathlib.Nat.{mul-le-mul_right}
use native.Mathlib.Omega.{arith}
use lib.Dec.{ltb, leb}
use lib.ListN.{length}
use Rattle.arith.specs.Lines.{line, first_of}
use Rattle.arith.proofs.Answers.{of_answer}
use Rattle.section.specs.declared.Section.{Section}
use Rattle.section.specs.Refusal.{section_refusal}
use Rattle.depths.specs.Depths.{entry_of, listed}
use Rattle.depths.specs.Answers.{ListAnswer, FirstAnswer, depths_refusal, list_refusal, whole_work, unlisted, no_depth, no_first, looked_at_all}
use Rattle.depths.specs.Answers.{list_answer, first_of_list, first_answer}
use Rattle.depths.proofs.Answers.{of_first, some_listed}
use Rattle.depths.proofs.Theorems.{first_balances, one_or_two, looked_inside}
use Rattle.record.specs.Record.{record_refusal, section_in}
use Rattle.demands.specs.Table.{Line, First, lone_lines, section_lines}
use Rattle.demands.specs.Demand1.{ByTable, WorkBeside}
use Rattle.demands.specs.Request6.{FirstTook, ListTook}
use Rattle.demands.proofs.Shapes.{list_in, first_in}
use Rattle.demands.proofs.Table.{lacks, never, lone_first, section_first}

-- ---- a first depth: refused before any depth was looked at, by another number than 14
module _ (s : Section) where
  unlooked : (ls : List Line) → lacks 14 ls ≡ true → {n : ℕ} → First ls n → (n ≡ 0 → ⊥) → FirstTook s (no_first n)
  unlooked ls t first f = record {
    kind_1 = λ e. absurd (f e);
    kind_2 = λ e. absurd (f e);
    kinds = λ e. absurd (f e);
    none = λ e. absurd (never 14 ls (omega arith) t first e);
    refused = λ z h. refl;
    most = omega arith;
  }

  -- by 14: every depth was
  none_found : FirstTook s (no_depth (whole_work s) 14)
  none_found = record {
    kind_1 = λ e. absurd (omega arith);
    kind_2 = λ e. absurd (omega arith);
    kinds = λ e. absurd (omega arith);
    none = λ e. refl;
    refused = λ z h. absurd (h refl);
    most = omega arith;
  }

  found : depths_refusal s ≡ 0 → FirstTook s (first_of_list s (entry_of (listed s) 0))
  found none =
      let b = first_balances s (some_listed s none) in
      record {
        kind_1 = λ z one. rw one;
        kind_2 = λ z two. rw two;
        kinds = λ z. one_or_two s b;
        none = λ z. absurd (omega arith);
        refused = λ f. absurd (f refl);
        most = mul-le-mul_right (s.h + s.count) (looked_inside s b);
      }

  pub first_took : {x : FirstAnswer} → x ≡ first_answer s → FirstTook s x
  first_took = of_first (FirstTook s) s (unlooked (section_lines s) refl (section_first s)) (λ e. none_found) found

-- 6 first
pub face_took : (r : List ℕ) {x : FirstAnswer} → x ≡ first_in r → FirstTook (section_in r) x
face_took r is =
    rw is
    (of_answer (FirstTook (section_in r)) (record_refusal r) _ no_first (λ ok. first_took (section_in r) refl)
    (unlooked (section_in r) (lone_lines r) refl (lone_first r)))

-- ---- the list
module _ (s : Section) where
  unlooked_list : (ls : List Line) → lacks 14 ls ≡ true → lacks 15 ls ≡ true → {n : ℕ} → First ls n → (n ≡ 0 → ⊥) → ListTook s (unlisted n)
  unlooked_list ls t u first f = record {
    whole = λ w. absurd (⊎_elim f (⊎_elim (never 14 ls (omega arith) t first) (never 15 ls (omega arith) u first)) w);
    refused = λ z h k. refl;
    most = omega arith;
  }

  pub list_took : (room : ℕ) {x : ListAnswer} → x ≡ list_answer s room → ListTook s x
  unfolding list_answer list_refusal depths_refusal
  list_took room is =
      rw is
      (of_answer (ListTook s) (section_refusal s) _ unlisted
      (λ ok. rw ok (looked (ltb 0 (length (listed s))) (leb (3 * length (listed s)) room)))
      (unlooked_list (section_lines s) refl refl (section_first s)))
    where
      looked : (t u : Bool) → ListTook s (looked_at_all s (first_of (line t 14 0) (line u 15 0)) (length (listed s)))
      looked true true = record { whole = λ w. refl; refused = λ z. absurd (z refl); most = omega arith }
      looked true false = record { whole = λ w. refl; refused = λ z h k. absurd (k refl); most = omega arith }
      looked false u = record { whole = λ w. refl; refused = λ z h. absurd (h refl); most = omega arith }

pub face_list_took : (r : List ℕ) (room : ℕ) {x : ListAnswer} → x ≡ list_in r room → ListTook (section_in r) x
face_list_took r room is =
    rw is
    (of_answer (ListTook (section_in r)) (record_refusal r) _ unlisted (λ ok. list_took (section_in r) room refl)
    (unlooked_list (section_in r) (lone_lines r) refl refl (lone_first r)))

-- ---- beside a refusal: no first depth is refused by 15
pub first_beside :
    (s : Section) (ls : List Line) → lacks 15 ls ≡ true → {x : FirstAnswer} → ByTable ls x.refusal → FirstTook s x
    → WorkBeside s x.refusal x.work
first_beside s ls t {x} by w = record {
  whole = ⊎_elim w.none (λ e. absurd (never 15 ls (omega arith) t ((by x.refusal).0 refl) e));
  none = λ z h k. w.refused z h;
}

pub list_beside : (s : Section) {x : ListAnswer} → ListTook s x → WorkBeside s x.refusal x.work
list_beside s w = record { whole = λ e. w.whole (inr e); none = w.refused }
