-- Document 01, 'What a section is': a layer can also be added to a section.
use Rattle.std.specs.Prelude.{ℕ, ◌+◌, ◌≡◌, Bool, false, not, cond, ◌||◌, List, [], ◌∷◌, ◌++◌, ltb, eqb, drop, Result, Ok, Err, IfErr}
use Rattle.refusal.specs.declared.Refusal.{Refusal}
use Rattle.refusal.specs.Refusal.{Answers}
use Rattle.arith.specs.Lines.{line}
use Rattle.section.specs.declared.Layer.{Layer}
use Rattle.section.specs.declared.Section.{Section}
use Rattle.section.specs.declared.NotAdded.{NotAdded}
use Rattle.section.specs.Section.{layers_of, in_range, layers_right}

unfoldable pub taken : ℕ → List Layer → Bool
taken depth [] = false
taken depth (l ∷ ls) = eqb depth l.depth || taken depth ls

-- depth or area out of range, the depth taken, 8 or more there, or the layers already there out of range or not rising
unfoldable pub layer_refusal : Section → Layer → ℕ
layer_refusal s l =
    line (in_range s.h l) 12
    (line (not (taken l.depth (layers_of s))) 12
    (line (ltb s.count 8) 12
    (line (layers_right s) 12
    0)))

-- in its place by depth: before the first that is deeper
unfoldable pub inserted : Layer → List Layer → List Layer
inserted l [] = l ∷ []
inserted l (k ∷ ks) = cond (ltb l.depth k.depth) (l ∷ k ∷ ks) (k ∷ inserted l ks)

-- the places past the new count stay as they came
unfoldable pub with_layer : Section → Layer → Section
with_layer s l = record {
  b = s.b;
  h = s.h;
  hf = s.hf;
  bf = s.bf;
  fck = s.fck;
  fyk = s.fyk;
  feq2 = s.feq2;
  feq3 = s.feq3;
  load = s.load;
  asw = s.asw;
  spacing = s.spacing;
  count = s.count + 1;
  layers = inserted l (layers_of s) ++ drop (s.count + 1) s.layers;
}

-- what it is refused by, without the section beside it
abbrev pub by_refusal : {X : Type 0} → Result X NotAdded → Result X Refusal
by_refusal (Ok x) = Ok x
by_refusal (Err e) = Err e.refusal

-- the new section; or the number, and the section as it came
pub record Adds (s : Section) (l : Layer) (r : Result Section NotAdded) : Type 0 where
  pub answer : Answers (layer_refusal s l) (with_layer s l) (by_refusal r)
  pub back : IfErr r (λ e. e.section ≡ s)
