-- Demand 1: every call returns on every input and expects nothing of its caller; what is bad is refused by number, and a refusal hands back zeros and
-- writes nothing into what was lent. Beside zeros document 01 hands back the count under 15, and document 02 [6] the work under 14 and 15.
-- Where the answer is a `Result` a refusal is its `Err`, which has the number and nothing beside it.
--
-- That a call returns is what 'proved' means of a function in this language: a proof is of total correctness, so that every loop has a measure and no
-- operation can fail. Bytes that are lent can't be written, by their type. The rest is said here.
use Rattle.std.specs.Prelude.{ℕ, ◌≡◌, ◌⊎◌, ◌↔◌, List, [], ◌++◌, ℤ, pos, length, Result, Err, IfErr, OnErr}
use Rattle.refusal.specs.declared.Refusal.{Refusal}
use Rattle.refusal.specs.Refusal.{number, number_of}
use Rattle.section.specs.declared.Section.{Section}
use Rattle.section.specs.Added.{by_refusal}
use Rattle.depths.specs.declared.Unlisted.TheVariants.{Refused}
use Rattle.depths.specs.Depths.{listed}
use Rattle.depths.specs.Answers.{ListAnswer, FirstAnswer, whole_work}
use Rattle.record.specs.Record.{section_in}
use Rattle.panel.specs.declared.answers.Written.{Written}
use Rattle.panel.specs.declared.answers.StrengthAnswer.{StrengthAnswer}
use Rattle.panel.specs.Answers.{no_point}
use Rattle.demands.specs.Free.{Free}
use Rattle.demands.specs.Every as Every
use Rattle.demands.specs.Table.{Line, First, book_lines, asked_lines, lone_lines, section_lines, layer_lines, filed_lines, write_lines, add_lines}
use Rattle.demands.specs.Table.{first_lines, depths_lines, shear_lines, class_lines, strength_lines, strain_lines, grid_lines}

-- each number is returned exactly where its line is the first that holds of those that concern the call, and 0 exactly where none does
abbrev pub ByTable : List Line → ℕ → Type 0
ByTable lines refusal = (k : ℕ) → (refusal ≡ k) ↔ First lines k

-- and beside a refusal stand zeros, where there is anything
pub record Refuses (lines : List Line) (refusal : ℕ) (zeros : Type 0) : Type 0 where
  pub number : ByTable lines refusal
  pub beside : (refusal ≡ 0 → ⊥) → zeros

-- beside 14 and 15, which are of a section that is not refused itself, the work of the whole grid; beside any other refusal none
pub record WorkBeside (s : Section) (refusal work : ℕ) : Type 0 where
  pub whole : (refusal ≡ 14) ⊎ (refusal ≡ 15) → work ≡ whole_work s
  pub none : (refusal ≡ 0 → ⊥) → (refusal ≡ 14 → ⊥) → (refusal ≡ 15 → ⊥) → work ≡ 0

-- beside that of a list no count, but under 15 the number of listed depths; and the row is as it was
pub record RefusesList (lines : List Line) (s : Section) (before : List ℤ) (x : ListAnswer) (after : List ℤ) : Type 0 where
  pub refuses : Refuses lines x.refusal ((x.refusal ≡ 15 → ⊥) → x.count ≡ 0)
  pub needed : x.refusal ≡ 15 → x.count ≡ length (listed s)
  pub work : WorkBeside s x.refusal x.work
  pub row : (x.refusal ≡ 0 → ⊥) → after ≡ before

-- beside that of a first depth none, no kind and no moment
abbrev pub NoFirst : FirstAnswer → Type 0
NoFirst x = (x.depth ≡ 0) × (x.kind ≡ 0) × (x.moment ≡ pos 0)

pub record RefusesFirst (lines : List Line) (s : Section) (x : FirstAnswer) : Type 0 where
  pub refuses : Refuses lines x.refusal (NoFirst x)
  pub work : WorkBeside s x.refusal x.work

-- under that of a book or a record that is written the lent bytes are as they were
pub record KeepsBytes (lines : List Line) (before : List ℕ) (x : Result ℕ Refusal) (after : List ℕ) : Type 0 where
  pub refuses : ByTable lines (number_of x)
  pub bytes : OnErr x (after ≡ before)

-- and by the C face no length stands beside it
pub record RefusesBytes (lines : List Line) (before : List ℕ) (x : Written) (after : List ℕ) : Type 0 where
  pub refuses : Refuses lines x.refusal (x.len ≡ 0)
  pub bytes : (x.refusal ≡ 0 → ⊥) → after ≡ before

-- beside that of a series of results no mean, no deviation and no value
abbrev pub NoStrength : StrengthAnswer → Type 0
NoStrength x = (x.mean ≡ 0) × (x.deviation ≡ 0) × (x.value ≡ 0)

-- beside the number of a refusal that is handed on to C stand zeros too
abbrev pub HandsOn : {X : Type 0} → Result X Refusal → (refusal : ℕ) → (zeros : Type 0) → Type 0
HandsOn r refusal zeros = IfErr r (λ e. (refusal ≡ number e) × zeros)

-- of every call of each public function
pub record Demand1 : Type 0 where
  -- it expects nothing of its caller
  pub free : Free
  -- a section: 7 to 13 with 20; under 12 a layer is not added, and beside it stands the section as it came
  pub check : Every.check (λ s x. ByTable (section_lines s) (number_of x))
  pub with_layer_call :
      Every.with_layer_call
      (λ s depth area x.
      Refuses (layer_lines s (record { depth = depth; area = area })) (number_of (by_refusal x)) (IfErr x (λ e. e.section ≡ s)))
  pub law_of_call : Every.law_of_call (λ s x. ByTable (section_lines s) (number_of x))
  pub lawful_of : Every.lawful_of (λ s x. ByTable (section_lines s) (number_of x))
  pub draw : Every.draw (λ s e x. ByTable (strain_lines s e) (number_of x))
  pub imbalance : Every.imbalance (λ s d x. ByTable (grid_lines s d) (number_of x))
  pub moment : Every.moment (λ s d x. ByTable (grid_lines s d) (number_of x))
  pub depths : Every.depths (λ s before x after. RefusesList (depths_lines s (length before)) s before x after)
  pub first : Every.first (λ s x. RefusesFirst (first_lines s) s x)
  pub shear : Every.shear (λ s x. ByTable (shear_lines s) (number_of x))
  -- a book, and a record of it: 1 to 5; the part is empty exactly where one of them holds
  pub book : Every.book (λ bytes x. ByTable (book_lines bytes) (number_of x))
  pub record_place : Every.record_place (λ bytes i x. ByTable (asked_lines bytes i) (number_of x))
  pub record_part : Every.record_part (λ bytes i part. (part ≡ []) ↔ (First (asked_lines bytes i) 0 → ⊥))
  -- a lone record: 6
  pub section_of : Every.section_of (λ part x. ByTable (lone_lines part) (number_of x))
  -- a section's record: 12 where it counts more than 8 layers
  pub filed : Every.filed (λ s x. ByTable (filed_lines s) (number_of x))
  pub record_of_call : Every.record_of_call (λ s x. ByTable (filed_lines s) (number_of x))
  -- a book that is written: 6 to 13 with 20 of the first record that is refused, then 19; a layer added to a record: 6, 12, then 19
  pub write_book : Every.write_book (λ records before x after. KeepsBytes (write_lines records (length before)) before x after)
  pub add_layer :
      Every.add_layer
      (λ part depth area before x after.
      KeepsBytes (lone_lines part ++ add_lines (section_in part) (record { depth = depth; area = area }) (length before)) before x after)
  -- a class: 17
  pub class : Every.class (λ fr1 fr3 x. ByTable (class_lines fr1 fr3) (number_of x))
  -- a series of results: 21, then 22, then 23
  pub strength : Every.strength (λ rs x. ByTable (strength_lines rs) (number_of x))
  -- a refusal that is handed on to C: its number, and zeros
  pub book_from : Every.book_from (λ r x. HandsOn r x.refusal (x.count ≡ 0))
  pub record_from : Every.record_from (λ r x. HandsOn r x.refusal ((x.at ≡ 0) × (x.len ≡ 0)))
  pub written_from : Every.written_from (λ r x. HandsOn r x.refusal (x.len ≡ 0))
  pub class_from : Every.class_from (λ r x. HandsOn r x.refusal ((x.step ≡ 0) × (x.letter ≡ 0)))
  pub strength_from : Every.strength_from (λ r x. HandsOn r x.refusal (NoStrength x))
  pub drawn_from : Every.drawn_from (λ r x. HandsOn r x.refusal (x.point ≡ no_point))
  pub amount_from : Every.amount_from (λ r x. HandsOn r x.refusal (x.amount ≡ pos 0))
  pub listing_from :
      Every.listing_from (λ r x. (e : Refusal) → r ≡ Err (Refused e) → (x.refusal ≡ number e) × (x.count ≡ 0) × (x.work ≡ 0))
  pub first_from :
      Every.first_from (λ r x. (e : Refusal) → r ≡ Err (Refused e) → (x.refusal ≡ number e) × NoFirst x × (x.work ≡ 0))
  -- the C face: the same, and zeros; of a record that is handed over as bytes 6 first
  pub fw_book : Every.fw_book (λ bytes x. Refuses (book_lines bytes) x.refusal (x.count ≡ 0))
  pub fw_record : Every.fw_record (λ bytes i x. Refuses (asked_lines bytes i) x.refusal ((x.at ≡ 0) × (x.len ≡ 0)))
  pub fw_write_book : Every.fw_write_book (λ records before x after. RefusesBytes (write_lines records (length before)) before x after)
  pub fw_add_layer :
      Every.fw_add_layer
      (λ part depth area before x after.
      RefusesBytes (lone_lines part ++ add_lines (section_in part) (record { depth = depth; area = area }) (length before)) before x after)
  pub fw_class : Every.fw_class (λ fr1 fr3 x. Refuses (class_lines fr1 fr3) x.refusal ((x.step ≡ 0) × (x.letter ≡ 0)))
  pub fw_strength : Every.fw_strength (λ rs x. Refuses (strength_lines rs) x.refusal (NoStrength x))
  pub fw_draw : Every.fw_draw (λ part e x. Refuses (lone_lines part ++ strain_lines (section_in part) e) x.refusal (x.point ≡ no_point))
  pub fw_imbalance : Every.fw_imbalance (λ part d x. Refuses (lone_lines part ++ grid_lines (section_in part) d) x.refusal (x.amount ≡ pos 0))
  pub fw_moment : Every.fw_moment (λ part d x. Refuses (lone_lines part ++ grid_lines (section_in part) d) x.refusal (x.amount ≡ pos 0))
  pub fw_depths :
      Every.fw_depths
      (λ part before x after.
      RefusesList (lone_lines part ++ depths_lines (section_in part) (length before)) (section_in part) before x after)
  pub fw_first : Every.fw_first (λ part x. RefusesFirst (lone_lines part ++ first_lines (section_in part)) (section_in part) x)
  pub fw_shear : Every.fw_shear (λ part x. Refuses (lone_lines part ++ shear_lines (section_in part)) x.refusal (x.amount ≡ pos 0))
