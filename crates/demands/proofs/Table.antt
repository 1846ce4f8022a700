-- The refusals of the crates below by the table: each is the number of the first line that holds. Assumes nothing.
use Prim.Native.Nat.{ℕ, zero, suc, ◌+◌, ◌*◌, ◌<◌}
use mathlib.Core.Path.{◌≡◌, refl, sym, ◌∙◌}
use mathlib.Core.Bool.{Bool, true, false, not, ◌&&◌, false≢true}
use mathlib.Core.Logic.{inl, inr}
use mathlib.Core.List.{List, [], ◌∷◌, ◌++◌}
use native.Mathlib.Omega.{arith}
use lib.IntN.{ℤ}
use lib.ListN.{length}
use lib.Dec.{eqb}
use borrow.Author.Tests.{ne_eqb, eqb-false, not-true}
use Rattle.arith.specs.Lines.{line, first_of}
use Rattle.arith.proofs.Tests.{both, Decides, is_less, is_most, is_both}
use Rattle.arith.proofs.Lines.{between}
use Rattle.section.specs.declared.Layer.{Layer}
use Rattle.section.specs.declared.Section.{Section}
use Rattle.section.specs.Refusal.{section_refusal}
use Rattle.section.specs.Added.{layer_refusal}
use Rattle.section.proofs.Accepted.{concrete_is, sizes_are, flange_is, steel_is, fibres_are, load_is, bars_are, stirrups_are, layer_line, takes_layer}
use Rattle.drawn.specs.Drawn.{drawn_refusal}
use Rattle.drawn.proofs.Strains.{drawable_is}
use Rattle.section.specs.Has.{last_depth}
use Rattle.forces.specs.Answers.{grid_refusal}
use Rattle.depths.specs.Depths.{listed}
use Rattle.depths.specs.Answers.{depths_refusal, list_refusal}
use Rattle.depths.proofs.Theorems.{some_depth}
use Rattle.shear.specs.Shear.{shear_refusal}
use Rattle.record.specs.Record.{record_size, record_refusal, section_in}
use Rattle.record.specs.Filed.{filed_refusal}
use Rattle.book.specs.Book.{count_of, book_refusal, asked_refusal}
use Rattle.record.proofs.Alone.{stands_alone}
use Rattle.book.proofs.Good.{length_stands, letters_stand, index_stands, records_exactly}
use Rattle.writer.specs.Records.{part_from, place_at, refusal_at, count_in, first_below, records_refusal}
use Rattle.writer.specs.Written.{book_in, write_refusal, add_refusal, added_refusal}
use Rattle.class.specs.Class.{class_refusal}
use Rattle.class.proofs.Refused.{class_line, class_in}
use Rattle.strength.specs.Strength.{mean_of, series_a, series_g, strength_refusal}
use Rattle.strength.proofs.Refused.{number_is, results_are}
use Rattle.demands.specs.Table.{Line, ◌unless◌, First, book_lines, asked_lines, lone_lines, section_lines, layer_lines, filed_lines, record_lines}
use Rattle.demands.specs.Table.{records_lines}
use Rattle.demands.specs.Table.{write_lines, add_lines, first_lines, depths_lines, shear_lines, class_lines, strength_lines, strain_lines, grid_lines}
use Rattle.demands.specs.Demand1.{ByTable}

-- ---- lines in order
no_line : First [] 0
unfolding First
no_line = refl

line_first :
    {t : Bool} {P : Type 0} (number : ℕ) (ls : List Line) (below : ℕ) → Decides t P → First ls below
    → First ((number unless P) ∷ ls) (line t number below)
unfolding First
line_first {t = true} number ls below d f = inr (d.0 refl, f)
line_first {t = false} number ls below d f = inl (λ p. false≢true (d.1 p), refl)

-- no two numbers are that of the first
first_only : (ls : List Line) (k m : ℕ) → First ls k → First ls m → k ≡ m
unfolding First
first_only [] k m f g = f ∙ sym g
first_only (l ∷ ls) k m (inl f) (inl g) = f.1 ∙ sym g.1
first_only (l ∷ ls) k m (inl f) (inr g) = absurd (f.0 g.0)
first_only (l ∷ ls) k m (inr f) (inl g) = absurd (g.0 f.0)
first_only (l ∷ ls) k m (inr f) (inr g) = first_only ls k m f.1 g.1

pub exactly : (ls : List Line) (n : ℕ) → First ls n → ByTable ls n
exactly ls n f k = (λ e. rw (← e) f, first_only ls n k f)

-- ---- a number that no line has: the first's is not that, but for 0, which says that none holds
abbrev pub lacks : ℕ → List Line → Bool
lacks k [] = true
lacks k (l ∷ ls) = not (eqb k l.number) && lacks k ls

other : (k : ℕ) (l : Line) (ls : List Line) → lacks k (l ∷ ls) ≡ true → (k ≡ l.number → ⊥) × (lacks k ls ≡ true)
other k l ls t =
    let a = both (not (eqb k l.number)) (lacks k ls) t in
    (eqb-false k l.number (not-true _ a.0), a.1)

first_other : (k : ℕ) (ls : List Line) → lacks k ls ≡ true → First ls k → k ≡ 0
unfolding First
first_other k [] t f = f
first_other k (l ∷ ls) t (inl f) = absurd ((other k l ls t).0 f.1)
first_other k (l ∷ ls) t (inr f) = first_other k ls (other k l ls t).1 f.1

pub never : (k : ℕ) (ls : List Line) → 0 < k → lacks k ls ≡ true → {n : ℕ} → First ls n → n ≡ k → ⊥
never k ls some t f e = omega (arith, first_other k ls t (rw e at f))

-- a line that does not hold may be left out
pub without_line : (before ls : List Line) (l : Line) (k : ℕ) → l.asks → First (before ++ l ∷ ls) k → First (before ++ ls) k
unfolding First
without_line [] ls l k a (inl f) = absurd (f.0 a)
without_line [] ls l k a (inr f) = f.1
without_line (b ∷ bs) ls l k a (inl f) = inl f
without_line (b ∷ bs) ls l k a (inr f) = inr (f.0, without_line bs ls l k a f.1)

-- ---- lines after lines, none of which is numbered 0
pub then_first : (ls ms : List Line) (n m : ℕ) → lacks 0 ls ≡ true → First ls n → First ms m → First (ls ++ ms) (first_of n m)
unfolding First
then_first [] ms n m t f g = rw f g
then_first (l ∷ ls) ms n m t (inl f) g = inl (f.0, rw (ne_eqb n 0 (λ z. (other 0 l ls t).0 (sym z ∙ f.1))) f.1)
then_first (l ∷ ls) ms n m t (inr f) g = inr (f.0, then_first ls ms n m (other 0 l ls t).1 f.1 g)

-- ---- the table
pub book_first : (s : List ℕ) → First (book_lines s) (book_refusal s)
unfolding book_refusal
book_first s =
    line_first 1 _ _ (length_stands s)
    (line_first 2 _ _ (letters_stand s)
    (line_first 3 _ _ (index_stands s)
    (line_first 4 _ _ (records_exactly s)
    no_line)))

pub asked_first : (s : List ℕ) (i : ℕ) → First (asked_lines s i) (asked_refusal s i)
unfolding asked_refusal
asked_first s i = then_first (book_lines s) _ (book_refusal s) _ refl (book_first s) (line_first 5 _ _ (is_less i (count_of s)) no_line)

pub lone_first : (r : List ℕ) → First (lone_lines r) (record_refusal r)
unfolding record_refusal
lone_first r = line_first 6 _ _ (stands_alone r) no_line

pub section_first : (s : Section) → First (section_lines s) (section_refusal s)
unfolding section_refusal
section_first s =
    line_first 7 _ _ (concrete_is s)
    (line_first 8 _ _ (sizes_are s)
    (line_first 20 _ _ (flange_is s)
    (line_first 9 _ _ (steel_is s)
    (line_first 10 _ _ (fibres_are s)
    (line_first 11 _ _ (load_is s)
    (line_first 12 _ _ (bars_are s)
    (line_first 13 _ _ (stirrups_are s)
    no_line)))))))

pub layer_first : (s : Section) (l : Layer) → First (layer_lines s l) (layer_refusal s l)
layer_first s l = rw (layer_line s l) (line_first 12 _ _ (takes_layer s l) no_line)

pub filed_first : (s : Section) → First (filed_lines s) (filed_refusal s)
filed_first s = line_first 12 _ _ (is_most s.count 8) no_line

pub add_first : (s : Section) (l : Layer) (room : ℕ) → First (add_lines s l room) (add_refusal s l room)
unfolding add_refusal
add_first s l room =
    then_first (layer_lines s l) _ (layer_refusal s l) _ refl (layer_first s l)
    (line_first 19 _ _ (is_most (record_size (s.count + 1) s.hf) room) no_line)

-- of a record that is handed over as bytes
pub added_first : (r : List ℕ) (l : Layer) (room : ℕ) → First (lone_lines r ++ add_lines (section_in r) l room) (added_refusal r l room)
unfolding added_refusal
added_first r l room = then_first (lone_lines r) _ (record_refusal r) _ refl (lone_first r) (add_first (section_in r) l room)

-- ---- a string of records
lacks_both : (k : ℕ) (ls ms : List Line) → lacks k ls ≡ true → lacks k ms ≡ true → lacks k (ls ++ ms) ≡ true
lacks_both k [] ms a b = b
lacks_both k (l ∷ ls) ms a b =
    let t = both (not (eqb k l.number)) (lacks k ls) a in
    rw (t.0, lacks_both k ls ms t.1 b)

pub record_first : (r : List ℕ) → First (lone_lines r ++ section_lines (section_in r)) (first_of (record_refusal r) (section_refusal (section_in r)))
record_first r = then_first (lone_lines r) _ (record_refusal r) _ refl (lone_first r) (section_first (section_in r))

records_lack : (r : List ℕ) (n : ℕ) → lacks 0 (records_lines r n) ≡ true
unfolding records_lines
records_lack r zero = refl
records_lack r (suc n) = lacks_both 0 (records_lines r n) (record_lines r n) (records_lack r n) refl

records_first : (r : List ℕ) (n : ℕ) → First (records_lines r n) (first_below n (refusal_at r))
unfolding records_lines first_below
records_first r zero = no_line
records_first r (suc n) =
    then_first (records_lines r n) (record_lines r n) (first_below n (refusal_at r)) _ (records_lack r n) (records_first r n)
    (record_first (part_from r (place_at r n)))

pub write_first : (r : List ℕ) (room : ℕ) → First (write_lines r room) (write_refusal r room)
unfolding write_refusal
write_first r room =
    then_first (records_lines r (count_in r)) _ (records_refusal r) _ (records_lack r (count_in r)) (records_first r (count_in r))
    (line_first 19 _ _ (is_both (is_most (length (book_in r)) room) (is_most (length (book_in r)) 65536)) no_line)

pub write_lacks : (r : List ℕ) (room : ℕ) → lacks 0 (write_lines r room) ≡ true
write_lacks r room = lacks_both 0 (records_lines r (count_in r)) _ (records_lack r (count_in r)) refl

module _ (s : Section) (ms : List Line) (m : ℕ) where
  after_section : First ms m → First (section_lines s ++ ms) (first_of (section_refusal s) m)
  after_section g = then_first (section_lines s) ms (section_refusal s) m refl (section_first s) g

pub depth_first : (s : Section) → First (first_lines s) (depths_refusal s)
unfolding depths_refusal
depth_first s = after_section s _ _ (line_first 14 _ _ (some_depth s) no_line)

pub list_first : (s : Section) (room : ℕ) → First (depths_lines s room) (list_refusal s room)
unfolding list_refusal
list_first s room =
    then_first (first_lines s) _ (depths_refusal s) _ refl (depth_first s) (line_first 15 _ _ (is_most (3 * length (listed s)) room) no_line)

pub shear_first : (s : Section) → First (shear_lines s) (shear_refusal s)
unfolding shear_refusal
shear_first s = after_section s _ _ (line_first 16 _ _ (is_less 0 s.count) no_line)

pub class_first : (fr1 fr3 : ℕ) → First (class_lines fr1 fr3) (class_refusal fr1 fr3)
class_first fr1 fr3 = rw (class_line fr1 fr3) (line_first 17 _ _ (class_in fr1 fr3) no_line)

pub strength_first : (rs : List ℕ) → First (strength_lines rs) (strength_refusal rs)
unfolding strength_refusal
strength_first rs =
    line_first 21 _ _ (number_is rs) (line_first 22 _ _ (results_are rs) (line_first 23 _ _ (is_most (series_a rs + series_g rs) (mean_of rs)) no_line))

pub strain_first : (s : Section) (e : ℤ) → First (strain_lines s e) (drawn_refusal s e)
unfolding drawn_refusal
strain_first s e = after_section s _ _ (line_first 18 _ _ (drawable_is e) no_line)

pub grid_first : (s : Section) (x : ℕ) → First (grid_lines s x) (grid_refusal s x)
unfolding grid_refusal
grid_first s x = after_section s _ _ (line_first 18 _ _ (between 1 (last_depth s) x) no_line)
