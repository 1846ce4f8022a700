-- The answers of the C face by what they have in common: a number, and zeros beside a refusal's. What the lines of the table make of one. Assumes nothing.
use Prim.Native.Nat.{ℕ}
use mathlib.Core.Path.{◌≡◌, refl, sym, ap, ◌∙◌, subst}
use mathlib.Core.Bool.{Bool, true, false, cond}
use mathlib.Core.List.{List, [], ◌++◌, append-nil}
use lib.IntN.{ℤ, pos}
use lib.Dec.{eqb}
use borrow.Author.Tests.{ne_eqb}
use Rattle.std.specs.Prelude.{Result, Ok, Err, IfOk}
use Rattle.arith.specs.Answers.{unless_refused, shape}
use Rattle.arith.specs.Lines.{first_of}
use Rattle.arith.proofs.Answers.{of_answer, granted}
use Rattle.refusal.specs.declared.Refusal.{Refusal}
use Rattle.refusal.specs.Refusal.{number}
use Rattle.depths.specs.Answers.{ListAnswer, FirstAnswer, list_answer, first_answer, unlisted, no_first}
use Rattle.law.specs.Law.{law_of}
use Rattle.drawn.specs.declared.Point.{Point}
use Rattle.drawn.specs.Drawn.{drawn_refusal, point_at}
use Rattle.forces.specs.Forces.{imbalance, moment}
use Rattle.forces.specs.Answers.{grid_refusal}
use Rattle.shear.specs.Shear.{resistance, shear_refusal}
use Rattle.record.specs.Record.{record_refusal, section_in, of_record}
use Rattle.panel.specs.declared.answers.Drawn.{Drawn}
use Rattle.panel.specs.declared.answers.Amount.{Amount}
use Rattle.panel.specs.declared.answers.BookAnswer.{BookAnswer}
use Rattle.panel.specs.declared.answers.RecordAnswer.{RecordAnswer}
use Rattle.panel.specs.declared.answers.Written.{Written}
use Rattle.panel.specs.declared.answers.ClassAnswer.{ClassAnswer}
use Rattle.panel.specs.declared.answers.StrengthAnswer.{StrengthAnswer}
use Rattle.panel.specs.declared.answers.Listing.{Listing}
use Rattle.panel.specs.declared.answers.FirstDepth.{FirstDepth}
use Rattle.panel.specs.Answers.{drawn, answered, no_point, no_drawn, no_amount, no_book, no_record, unwritten, no_class, no_strength, listing, first_depth}
use Rattle.panel.specs.Face.{amount_answer, drawn_of, imbalance_of, moment_of, list_of, first_depth_of, shear_of}
use Rattle.demands.specs.Every.{as_list, as_first}
use Rattle.demands.specs.Table.{Line, First, lone_lines}
use Rattle.demands.specs.Demand1.{Refuses, NoFirst, NoStrength, HandsOn}
use Rattle.demands.proofs.Table.{exactly, lacks, then_first, lone_first}

pub record Shape (X : Type 0) : Type 1 where
  pub number : X → ℕ
  pub zeros : X → Type 0
  pub refused : ℕ → X
  pub bears : (k : ℕ) → number (refused k) ≡ k
  pub none : (k : ℕ) → zeros (refused k)

-- ---- which they are
abbrev pub points : Shape Drawn
points = record { number = λ x. x.refusal; zeros = λ x. x.point ≡ no_point; refused = no_drawn; bears = λ k. refl; none = λ k. refl }

abbrev pub amounts : Shape Amount
amounts = record { number = λ x. x.refusal; zeros = λ x. x.amount ≡ pos 0; refused = no_amount; bears = λ k. refl; none = λ k. refl }

abbrev pub listings : Shape ListAnswer
listings = record {
  number = λ x. x.refusal;
  zeros = λ x. (x.refusal ≡ 15 → ⊥) → x.count ≡ 0;
  refused = unlisted;
  bears = λ k. refl;
  none = λ k h. refl;
}

abbrev pub firsts : Shape FirstAnswer
firsts = record { number = λ x. x.refusal; zeros = NoFirst; refused = no_first; bears = λ k. refl; none = λ k. (refl, refl, refl) }

abbrev pub books : Shape BookAnswer
books = record { number = λ x. x.refusal; zeros = λ x. x.count ≡ 0; refused = no_book; bears = λ k. refl; none = λ k. refl }

abbrev pub places : Shape RecordAnswer
places = record { number = λ x. x.refusal; zeros = λ x. (x.at ≡ 0) × (x.len ≡ 0); refused = no_record; bears = λ k. refl; none = λ k. (refl, refl) }

abbrev pub writings : Shape Written
writings = record { number = λ x. x.refusal; zeros = λ x. x.len ≡ 0; refused = unwritten; bears = λ k. refl; none = λ k. refl }

abbrev pub classes : Shape ClassAnswer
classes = record { number = λ x. x.refusal; zeros = λ x. (x.step ≡ 0) × (x.letter ≡ 0); refused = no_class; bears = λ k. refl; none = λ k. (refl, refl) }

abbrev pub strengths : Shape StrengthAnswer
strengths = record { number = λ x. x.refusal; zeros = NoStrength; refused = no_strength; bears = λ k. refl; none = λ k. (refl, refl, refl) }

module _ {X : Type 0} (k : Shape X) where
  -- ---- refused by lines, else what may be refused by lines after them
  then :
      (ls ms : List Line) (n : ℕ) (y : X) → lacks 0 ls ≡ true → First ls n → Refuses ms (k.number y) (k.zeros y)
      → {x : X} → x ≡ unless_refused n y k.refused → Refuses (ls ++ ms) (k.number x) (k.zeros x)
  then ls ms n y t f inner is = rw is (of_answer (λ v. Refuses (ls ++ ms) (k.number v) (k.zeros v)) n y k.refused passed stopped)
    where
      first : First (ls ++ ms) (first_of n (k.number y))
      first = then_first ls ms n (k.number y) t f ((inner.number (k.number y)).0 refl)

      passed : n ≡ 0 → Refuses (ls ++ ms) (k.number y) (k.zeros y)
      passed e = record { number = exactly (ls ++ ms) (k.number y) (rw e at first); beside = inner.beside }

      stopped : (n ≡ 0 → ⊥) → Refuses (ls ++ ms) (k.number (k.refused n)) (k.zeros (k.refused n))
      stopped h = record { number = rw (k.bears n) (exactly (ls ++ ms) n (rw (ne_eqb n 0 h) at first)); beside = λ h. k.none n }

  -- by no other
  pub alone :
      (ls : List Line) (n : ℕ) (y : X) → lacks 0 ls ≡ true → First ls n → k.number y ≡ 0
      → {x : X} → x ≡ unless_refused n y k.refused → Refuses ls (k.number x) (k.zeros x)
  unfolding First
  alone ls n y t f e is = rw (append-nil ls) at (then ls [] n y t f (record { number = exactly [] (k.number y) e; beside = λ h. absurd (h e) }) is)

  -- of a record that is handed over as bytes: 6 first
  pub of_record_is :
      (r : List ℕ) (ms : List Line) (y : X) → Refuses ms (k.number y) (k.zeros y)
      → {x : X} → x ≡ unless_refused (record_refusal r) y k.refused → Refuses (lone_lines r ++ ms) (k.number x) (k.zeros x)
  of_record_is r ms y = then (lone_lines r) ms (record_refusal r) y refl (lone_first r)

  -- ---- what C gets of a refusal
  pub hands_on : {V : Type 0} (good : V → X) (r : Result V Refusal) {x : X} → x ≡ shape good k.refused r → HandsOn r (k.number x) (k.zeros x)
  hands_on good (Ok v) is = tt
  hands_on good (Err e) is = rw is (k.bears (number e), k.none (number e))

  -- and of a value
  pub gets : {V : Type 0} (good : V → X) (r : Result V Refusal) {x : X} → x ≡ shape good k.refused r → IfOk r (λ v. x ≡ good v)
  gets good (Ok v) is = is
  gets good (Err e) is = tt

  -- ---- where it is not refused, nothing is, and it is what is answered
  pub grants : (n : ℕ) (y : X) {x : X} → x ≡ unless_refused n y k.refused → k.number x ≡ 0 → (n ≡ 0) × (x ≡ y)
  grants n y = granted k.number n y k.refused (k.bears n)

  -- what holds of that, where nothing is refused there either
  pub shown :
      (P : X → Type 0) (n : ℕ) (y : X) → (n ≡ 0 → k.number y ≡ 0 → P y) → {x : X} → x ≡ unless_refused n y k.refused → k.number x ≡ 0 → P x
  shown P n y h is none = let g = grants n y is none in subst P (sym g.1) (h g.0 (rw g.1 at none))

  -- behind 6, of a record that is handed over as bytes
  shown_behind :
      (P : X → Type 0) (r : List ℕ) (m : ℕ) (y : X) → (m ≡ 0 → P y)
      → {x : X} → x ≡ unless_refused (record_refusal r) (unless_refused m y k.refused) k.refused → k.number x ≡ 0 → P x
  shown_behind P r m y h = shown P (record_refusal r) (unless_refused m y k.refused) (λ alone. shown P m y (λ none z. h none) refl)

-- ---- what holds of what is answered of a record's section holds by the C face
module _ (r : List ℕ) where
  pub point_shown :
      (e : ℤ) (P : Point → Type 0) → (drawn_refusal (section_in r) e ≡ 0 → P (point_at (law_of (section_in r)) e))
      → {x : Drawn} → x ≡ drawn_of r e → x.refusal ≡ 0 → P x.point
  unfolding drawn_of
  point_shown e P = shown_behind points (λ x. P x.point) r (drawn_refusal (section_in r) e) (drawn (point_at (law_of (section_in r)) e))

  amount_shown :
      (d : ℕ) (z : ℤ) (P : ℤ → Type 0) → (grid_refusal (section_in r) d ≡ 0 → P z)
      → {x : Amount} → x ≡ unless_refused (record_refusal r) (amount_answer (section_in r) d z) no_amount → x.refusal ≡ 0 → P x.amount
  amount_shown d z P = shown_behind amounts (λ x. P x.amount) r (grid_refusal (section_in r) d) (answered z)

  pub imbalance_shown :
      (d : ℕ) (P : ℤ → Type 0) → (grid_refusal (section_in r) d ≡ 0 → P (imbalance (section_in r) d))
      → {x : Amount} → x ≡ imbalance_of r d → x.refusal ≡ 0 → P x.amount
  unfolding imbalance_of
  imbalance_shown d = amount_shown d (imbalance (section_in r) d)

  pub moment_shown :
      (d : ℕ) (P : ℤ → Type 0) → (grid_refusal (section_in r) d ≡ 0 → P (moment (section_in r) d))
      → {x : Amount} → x ≡ moment_of r d → x.refusal ≡ 0 → P x.amount
  unfolding moment_of
  moment_shown d = amount_shown d (moment (section_in r) d)

  pub shear_shown :
      (P : ℤ → Type 0) → (shear_refusal (section_in r) ≡ 0 → P (pos (resistance (section_in r))))
      → {x : Amount} → x ≡ shear_of r → x.refusal ≡ 0 → P x.amount
  unfolding shear_of
  shear_shown P = shown_behind amounts (λ x. P x.amount) r (shear_refusal (section_in r)) (answered (pos (resistance (section_in r))))

-- ---- of a record that is handed over as bytes, by their fields: the answer of its section's depths, and of its first depth
abbrev pub list_in : List ℕ → ℕ → ListAnswer
list_in r room = of_record r (λ s. list_answer s room) unlisted

abbrev pub first_in : List ℕ → FirstAnswer
first_in r = of_record r first_answer no_first

read_by : {X Y : Type 0} (f : X → Y) (n : ℕ) (a : X) (b : ℕ → X) → f (unless_refused n a b) ≡ unless_refused n (f a) (λ k. f (b k))
read_by {X} {Y} f n a b = pick (eqb n 0)
  where
    pick : (t : Bool) → f (cond t a (b n)) ≡ cond t (f a) (f (b n))
    pick true = refl
    pick false = refl

pub list_there : (r : List ℕ) (room : ℕ) {x : Listing} → x ≡ list_of r room → as_list x ≡ list_in r room
unfolding list_of
list_there r room is = ap as_list is ∙ read_by as_list (record_refusal r) _ (λ k. listing (unlisted k))

pub first_there : (r : List ℕ) {x : FirstDepth} → x ≡ first_depth_of r → as_first x ≡ first_in r
unfolding first_depth_of
first_there r is = ap as_first is ∙ read_by as_first (record_refusal r) _ (λ k. first_depth (no_first k))

pub first_shown :
    (r : List ℕ) (P : FirstAnswer → Type 0) → ((first_answer (section_in r)).refusal ≡ 0 → P (first_answer (section_in r)))
    → {x : FirstDepth} → x ≡ first_depth_of r → x.refusal ≡ 0 → P (as_first x)
first_shown r P h is = shown firsts P (record_refusal r) (first_answer (section_in r)) (λ alone. h) (first_there r is)
