-- Document 02 [5]: what it promises, by what each contract tells. Assumes nothing.
use Prim.Native.Nat.{ℕ, zero, suc, ◌+◌, ◌*◌, ◌-◌, ◌≤◌, ◌<◌}
use mathlib.Core.Path.{◌≡◌, refl, sym, ap, ◌∙◌}
use mathlib.Core.Bool.{Bool, true, false}
use mathlib.Core.Logic.{⊎_elim}
use mathlib.Core.List.{List}
use native.Mathlib.Nat as NatL
use native.Mathlib.Omega.{arith}
use lib.Dec.{leb, eqb-suc-zero}
use lib.IntN.{ℤ, pos, neg_ℤ}
use lib.ListN.{length}
use borrow.Author.Tests.{lt-ltb, ne_eqb}
use Rattle.arith.specs.Sums.{sum_n, sum_z}
use Rattle.arith.specs.Lines.{line, first_of}
use Rattle.arith.proofs.Sums.{sum_holds}
use Rattle.section.specs.declared.Section.{Section}
use Rattle.section.specs.Section.{layers_from, rise, layers_right}
use Rattle.section.specs.Refusal.{mid_right, section_refusal}
use Rattle.section.specs.Has.{last_depth}
use Rattle.law.specs.Edition.{edition}
use Rattle.law.specs.Law.{flexural, modulus, limit_depth, effective_depth, s1_of, e1_of, law_by}
use Rattle.law.specs.Stress.{size, rounded, compressed, stretched}
use Rattle.strips.specs.Strips.{strip}
use Rattle.forces.specs.Forces.{strain_scale, strip_force, strip_moment, forces, moments, imbalance, moment}
use Rattle.depths.specs.Depths.{kind_at, listed}
use Rattle.depths.specs.Answers.{ListAnswer, FirstAnswer, depths_refusal, list_refusal, work_to, last_looked, list_answer, row_after, first_answer}
use Rattle.depths.specs.Code.{NoneTo}
use Rattle.depths.proofs.Listed.{list_first}
use Rattle.depths.proofs.Answers.{list_number, some_listed, first_number, row_written}
use Rattle.depths.proofs.Theorems.{first_balances, first_shallowest}
use Rattle.depths.proofs.Shown.{read_at}
use Rattle.record.specs.Record.{record_refusal, section_in}
use Rattle.panel.specs.Face.{row_of}
use Rattle.demands.specs.Table.{first_lines, lone_lines}
use Rattle.demands.specs.Request5.{Heads, Shallowest, record0, in_tension, Gives, FirstFigures, Request5}
use Rattle.demands.proofs.Shapes.{firsts, grants, list_in, first_in, list_there, first_there}
use Rattle.demands.proofs.Table.{never, lone_first, depth_first}
use Rattle.demands.proofs.Demand2.{first_is}

-- ---- 15 behind another number
behind : (n m : ℕ) (t : Bool) → (n ≡ 15 → ⊥) → m ≡ first_of n (line t 15 0) → ((m ≡ 15 → ⊥) → n ≡ m) × (m ≡ 15 → n ≡ 0)
behind zero m true never e = (λ h. sym e, λ h. refl)
behind zero m false never e = (λ h. absurd (h e), λ h. refl)
behind (suc n) m t never e =
    let same : m ≡ suc n = rw eqb-suc-zero at e in
    (λ h. sym same, λ h. absurd (never (sym same ∙ h)))

-- ---- of a section
module _ (s : Section) {x : FirstAnswer} (is : x ≡ first_answer s) where
  not_short : x.refusal ≡ 15 → ⊥
  not_short e = never 15 (first_lines s) (omega arith) refl (depth_first s) (sym (first_number s is) ∙ e)

  heads : (before : List ℤ) {y : ListAnswer} {after : List ℤ} → y ≡ list_answer s (length before) → after ≡ row_after s before → Heads x y after
  unfolding list_refusal
  heads before {y} js left =
      let number = list_number s (length before) js in
      let b = behind x.refusal y.refusal (leb (3 * length (listed s)) (length before)) not_short (rw (← first_number s is) at number) in
      record {
        number = b.0;
        short = b.1;
        none = (λ e. sym (b.0 (λ f. omega (arith, b.1 f))) ∙ e, λ e. b.0 (λ f. omega arith) ∙ e);
        never = not_short;
        words = λ h.
            let none = b.0 (λ f. omega arith) ∙ h in
            let some = some_listed s (sym (first_number s is) ∙ none) in
            let r = read_at (listed s) _ 0 some in
            rw (left, row_written s before (sym number ∙ h), first_is s is none) (r.depth, r.kind, r.moment);
      }

  shallowest : x.refusal ≡ 0 → Shallowest s x
  shallowest h =
      let some = some_listed s (sym (first_number s is) ∙ h) in
      rw (first_is s is h) (record { balances = first_balances s some; above = first_shallowest s some })

-- ---- of a record that is handed over as bytes: by 6 both are refused
module _ (r : List ℕ) {x : FirstAnswer} (is : x ≡ first_in r) where
  face_heads : (before : List ℤ) {y : ListAnswer} {after : List ℤ} → y ≡ list_in r (length before) → after ≡ row_of r before → Heads x y after
  unfolding row_of
  face_heads before js left =
      ⊎_elim (λ ok. heads (section_in r) (rw ok at is) before (rw ok at js) (rw ok at left))
      (λ some.
      let bad = ne_eqb (record_refusal r) 0 (λ z. omega arith) in
      let other : record_refusal r ≡ 15 → ⊥ = never 15 (lone_lines r) (omega arith) refl (lone_first r) in
      rw (rw bad at is, rw bad at js)
      (record { number = λ h. refl; short = λ e. absurd (other e); none = (λ e. e, λ e. e); never = other; words = λ z. absurd (omega arith) }))
      (NatL.eq-zero-or-pos (record_refusal r))

  face_shallowest : x.refusal ≡ 0 → Shallowest (section_in r) x
  face_shallowest h = shallowest (section_in r) (grants firsts (record_refusal r) _ is h).1 h

-- ---- the figures, computed from the definitions
none_to : (s : Section) (n : ℕ) → sum_n n (λ i. kind_at s (i + 1)) ≡ 0 → NoneTo s 1 (n + 1)
none_to s n e x from to =
    let here : x - 1 + 1 ≡ x = omega arith in
    let none : kind_at s (x - 1 + 1) ≡ 0 = omega (arith, sum_holds n (λ i. kind_at s (i + 1)) (x - 1) (omega arith)) in
    rw here at none

-- the first depth that has a kind, with its moment and with the work up to the last depth looked at for it, is the first depth's answer
first_at :
    (s : Section) → section_refusal s ≡ 0 → {x k w : ℕ} {z : ℤ} → 1 ≤ x → x ≤ last_depth s → k ≡ kind_at s x → 0 < k → NoneTo s 1 x
    → w ≡ work_to s (last_looked x k) → z ≡ moment s x → record { refusal = 0; depth = x; kind = k; work = w; moment = z } ≡ first_answer s
unfolding first_answer depths_refusal
first_at s ok {x} from to kind some none took e =
    let l = list_first (kind_at s) (moment s) (last_depth s) x from to (λ z. omega arith) none in
    let work = took ∙ ap (λ k. work_to s (last_looked x k)) kind in
    rw (ok, l.1, lt-ltb 0 (suc (length l.0)) (omega arith))
    (λ j. record { refusal = 0; depth = x; kind = kind j; work = work j; moment = e j })

gives :
    (s : Section) (n k w : ℕ) (z : ℤ) → section_refusal s ≡ 0 → n < last_depth s → sum_n n (λ i. kind_at s (i + 1)) ≡ 0
    → k ≡ kind_at s (n + 1) → 0 < k → w ≡ work_to s (last_looked (n + 1) k) → z ≡ moment s (n + 1) → Gives s (n + 1) k w z
gives s n k w z ok inside none kind some took is κs a x e p t =
    p ∙ ap first_answer t ∙ sym (first_at s ok (omega arith) (omega arith) kind some (none_to s n none) took is)

figures : FirstFigures
unfolding section_refusal layers_right rise layers_from mid_right kind_at imbalance moment forces moments strip_force strip_moment strain_scale strip
    rounded size compressed stretched law_by s1_of e1_of modulus flexural edition effective_depth limit_depth sum_n sum_z
figures = (
  gives record0 13 2 1500 (pos 14476473000) refl (omega arith) refl refl (omega arith) refl refl,
  gives in_tension 0 1 58 (neg_ℤ (pos 175816000)) refl (omega arith) refl refl (omega arith) refl refl,
)

pub request5 : Request5
request5 = record {
  first = λ κs a x e p κ b y g q t. heads a.0 p b.1.0.now (rw t at q.0) (rw t at q.1);
  fw_first = λ κs a x e p κ b y g q t. face_heads a.0.now (first_there a.0.now p) b.1.0.now (rw t at (list_there b.0.now _ q.0)) (rw t at q.1);
  shallowest = λ κs a x e p h. shallowest a.0 p h;
  fw_shallowest = λ κs a x e p h. face_shallowest a.0.now (first_there a.0.now p) h;
  figures = figures;
}
