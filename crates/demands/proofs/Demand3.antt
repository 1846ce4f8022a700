-- Demand 3, by the theorems of `forces` and `depths`. Assumes nothing.
use Prim.Native.Nat.{ℕ, ◌+◌, ◌*◌, ◌≤◌}
use mathlib.Core.Path.{◌≡◌, refl, sym, ◌∙◌, subst}
use mathlib.Core.Logic.{◌⊎◌, ⊎_map}
use mathlib.Core.List.{List, Memᴰ}
use native.Mathlib.Omega.{arith}
use lib.IntN.{ℤ, pos}
use lib.ListN.{length}
use lib.Signed.{◌<ℤ◌}
use Rattle.arith.proofs.Lines.{none_of}
use Rattle.section.specs.declared.Section.{Section}
use Rattle.section.specs.Refusal.{section_refusal}
use Rattle.section.specs.Accepted.{Accepted}
use Rattle.section.proofs.Accepted.{accepted, accepts}
use Rattle.law.specs.Law.{law_of}
use Rattle.forces.specs.Forces.{strip_stress, bar_stress, imbalance, moment}
use Rattle.forces.specs.Answers.{grid_refusal}
use Rattle.forces.proofs.Common.{over, common, common_positive, strip_over, bar_over}
use Rattle.forces.proofs.Rounded.{imbalance_close, moment_close, above, below}
use Rattle.forces.proofs.Answers.{on_grid}
use Rattle.depths.specs.Depths.{Entry, entry_of, listed}
use Rattle.depths.specs.Row.{Shown}
use Rattle.depths.specs.Answers.{ListAnswer, FirstAnswer, depths_refusal, list_answer, row_after, first_answer}
use Rattle.depths.proofs.Answers.{first_number, some_listed}
use Rattle.depths.proofs.Theorems.{listed_exactly, pair_listed, zero_listed, last_zero_listed, first_balances}
use Rattle.depths.proofs.Shown.{counted, fourteen, fifteen, words_stay, same_length, shown_exactly, shown_rising}
use Rattle.record.specs.Record.{section_in}
use Rattle.record.specs.Alone.{StandsAlone}
use Rattle.record.proofs.Alone.{record_stands}
use Rattle.panel.specs.Face.{row_of}
use Rattle.demands.specs.Demand3.{Exact, ImbalanceNear, MomentNear, ClearlyAbove, ClearlyBelow, ClearlyChanges, RowShows, Lists, Demand3}
use Rattle.demands.proofs.Results.{if_ok}
use Rattle.demands.proofs.Shapes.{imbalance_shown, moment_shown, first_shown, list_in, list_there}
use Rattle.demands.proofs.Demand2.{first_is}

-- ---- the exact sums
module _ {s : Section} (ok : section_refusal s ≡ 0) {x : ℕ} (from : 1 ≤ x) where
  abbrev a : Accepted s
  a = accepted s ok

  imbalance_is_near : ImbalanceNear s x (imbalance s x)
  imbalance_is_near e = imbalance_close a from e.some e.strip e.bar e.strips e.bars

  moment_is_near : MomentNear s x (moment s x)
  moment_is_near e = moment_close a from e.some e.strip e.bar e.strips e.bars

  clearly_above : (e : Exact s x) → ClearlyAbove e → pos 0 <ℤ imbalance s x
  clearly_above e = above a from e.some e.strip e.bar e.strips e.bars

  clearly_below : (e : Exact s x) → ClearlyBelow e → imbalance s x <ℤ pos 0
  clearly_below e = below a from e.some e.strip e.bar e.strips e.bars

changes :
    {s : Section} → section_refusal s ≡ 0 → {x : ℕ} → 1 ≤ x → (e : Exact s x) (f : Exact s (x + 1)) → ClearlyChanges e f
    → ((pos 0 <ℤ imbalance s x) × (imbalance s (x + 1) <ℤ pos 0)) ⊎ ((imbalance s x <ℤ pos 0) × (pos 0 <ℤ imbalance s (x + 1)))
changes ok {x} from e f =
    let next : 1 ≤ x + 1 = omega arith in
    ⊎_map (λ p. (clearly_above ok from e p.0, clearly_below ok next f p.1)) (λ p. (clearly_below ok from e p.0, clearly_above ok next f p.1))

exact : (s : Section) → Accepted s → (x : ℕ) → 1 ≤ x → Exact s x
exact s a x from = record {
  C = common s x;
  some = common_positive s x a from;
  strip = λ i. over (common s x) (strip_stress (law_of s) s x i);
  bar = λ j. over (common s x) (bar_stress (law_of s) s x j);
  strips = strip_over s x;
  bars = bar_over s x;
}

-- ---- the row
module _ (s : Section) (before : List ℤ) {x : ListAnswer} {after : List ℤ} (is : x ≡ list_answer s (length before))
    (left : after ≡ row_after s before) (ok : section_refusal s ≡ 0) where
  shows : 3 * x.count ≤ length before → RowShows s x.count after
  shows room =
      let exactly = shown_exactly s before is left ok room in
      let shown : (e : Entry) → Memᴰ e (listed s) → Shown after x.count e = λ e w. (exactly e).1 ((listed_exactly s e).0 w) in
      record {
        exactly = exactly;
        rising = shown_rising s before is left ok room;
        own = λ e w. ((exactly e).0 w).moment;
        near = λ e w. let b = (exactly e).0 w in rw b.moment (moment_is_near ok b.from);
        pairs = λ d from to e f k. shown _ (pair_listed s d from to (changes ok from e f k));
        zeros = λ d from to z. shown _ (zero_listed s d from to z);
        last = λ z. shown _ (last_zero_listed s ok z);
      }

  lists : Lists s before x after
  lists = record {
    count = counted s before is left ok;
    none = fourteen s before is left ok;
    short = fifteen s before is left ok;
    row = shows;
    rest = words_stay s before is left ok;
    size = same_length s before is left ok;
  }

-- ---- amounts
imbalance_near : (s : Section) (d : ℕ) → grid_refusal s d ≡ 0 → ImbalanceNear s d (imbalance s d)
imbalance_near s d none = let k = on_grid s d none in imbalance_is_near k.0 k.1.0

moment_near : (s : Section) (d : ℕ) → grid_refusal s d ≡ 0 → MomentNear s d (moment s d)
moment_near s d none = let k = on_grid s d none in moment_is_near k.0 k.1.0

first_near : (s : Section) {x : FirstAnswer} → x ≡ first_answer s → x.refusal ≡ 0 → MomentNear s x.depth x.moment
unfolding depths_refusal
first_near s is h =
    let none = sym (first_number s is) ∙ h in
    let e = entry_of (listed s) 0 in
    let b = first_balances s (some_listed s none) in
    let near : MomentNear s e.depth e.moment = rw b.moment (moment_is_near (none_of (section_refusal s) _ none).0 b.from) in
    subst (λ (v : FirstAnswer). MomentNear s v.depth v.moment) (sym (first_is s is h)) near

-- ---- of a record that is handed over as bytes
list_of_is :
    (r : List ℕ) (before : List ℤ) {x : ListAnswer} {after : List ℤ} → x ≡ list_in r (length before) → after ≡ row_of r before
    → StandsAlone r → Accepted (section_in r) → Lists (section_in r) before x after
unfolding row_of
list_of_is r before is left alone a =
    let none = (record_stands r).1 alone in
    lists (section_in r) before (rw none at is) (rw none at left) (accepts (section_in r) a)

pub demand3 : Demand3
demand3 = record {
  depths = λ κs a x e p ok. lists a.0 a.1.0.now p.0 p.1 (accepts a.0 ok);
  fw_depths = λ κs a x e p. list_of_is a.0.now a.1.0.now (list_there a.0.now _ p.0) p.1;
  imbalance_near = λ κs a x e p. if_ok _ (imbalance_near a.0 a.1.0) p;
  fw_imbalance_near = λ κs a x e p.
      let s = section_in a.0.now in
      imbalance_shown a.0.now a.1.0 (ImbalanceNear s a.1.0) (imbalance_near s a.1.0) p;
  moment_near = λ κs a x e p. if_ok _ (moment_near a.0 a.1.0) p;
  fw_moment_near = λ κs a x e p.
      let s = section_in a.0.now in
      moment_shown a.0.now a.1.0 (MomentNear s a.1.0) (moment_near s a.1.0) p;
  first_near = λ κs a x e p. first_near a.0 p;
  fw_first_near = λ κs a x e p.
      let s = section_in a.0.now in
      first_shown a.0.now (λ y. MomentNear s y.depth y.moment) (first_near s refl) p;
  exact = exact;
}
