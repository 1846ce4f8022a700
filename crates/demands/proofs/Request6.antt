-- Document 02 [6]: what it promises, by what each contract tells. Assumes nothing.
use Prim.Native.Nat.{ℕ}
use mathlib.Core.Path.{◌≡◌, refl}
use mathlib.Core.List.{List}
use Rattle.section.specs.Section.{layers_from, rise, layers_right}
use Rattle.section.specs.Refusal.{mid_right, section_refusal}
use Rattle.section.specs.Accepted.{Accepted}
use Rattle.section.proofs.Accepted.{accepts}
use Rattle.depths.specs.Answers.{ListAnswer}
use Rattle.depths.proofs.Answers.{list_work}
use Rattle.record.specs.Record.{section_in}
use Rattle.record.specs.Alone.{StandsAlone}
use Rattle.record.proofs.Alone.{record_stands}
use Rattle.demands.specs.Request5.{record0}
use Rattle.demands.specs.Request6.{ceiling, ListFigure, Request6}
use Rattle.demands.proofs.Shapes.{list_in, list_there, first_there}
use Rattle.demands.proofs.Work.{first_took, face_took, list_took, face_list_took}

face_accepted :
    (r : List ℕ) (room : ℕ) {x : ListAnswer} → x ≡ list_in r room → StandsAlone r → Accepted (section_in r) → x.work ≡ ceiling (section_in r)
face_accepted r room is alone a = list_work (section_in r) room (rw ((record_stands r).1 alone) at is) (accepts (section_in r) a)

figure : ListFigure
unfolding section_refusal layers_right rise layers_from mid_right
figure κs a x e p t = list_work record0 _ (rw t at p.0) refl

pub request6 : Request6
request6 = record {
  first = λ κs a x e p. first_took a.0 p;
  fw_first = λ κs a x e p. face_took a.0.now (first_there a.0.now p);
  depths = λ κs a x e p. list_took a.0 _ p.0;
  fw_depths = λ κs a x e p. face_list_took a.0.now _ (list_there a.0.now _ p.0);
  accepted = λ κs a x e p ok. list_work a.0 _ p.0 (accepts a.0 ok);
  fw_accepted = λ κs a x e p. face_accepted a.0.now _ (list_there a.0.now _ p.0);
  figure = figure;
}
