-- The widths of the C face, as the checker reads them off the source. Assumes nothing.
use mathlib.Core.Path.{refl}
use Rattle.demands.specs.Widths.{Widths}

pub widths : Widths
widths = record {
  fw_book = refl;
  book_answer_fields = (λ κs. refl, refl);
  fw_record = refl;
  record_answer_fields = (λ κs. refl, refl);
  fw_write_book = refl;
  written_book = (λ κs. refl, refl);
  fw_add_layer = refl;
  written_record_fields = (λ κs. refl, refl);
  fw_class = refl;
  class_answer_fields = (λ κs. refl, refl);
  fw_strength = refl;
  strength_answer_fields = (λ κs. refl, refl);
  fw_draw = refl;
  point = refl;
  drawn = (λ κs. refl, refl);
  fw_imbalance = refl;
  imbalance = (λ κs. refl, refl);
  fw_moment = refl;
  moment = (λ κs. refl, refl);
  fw_depths = refl;
  listed = (λ κs. refl, refl);
  fw_first = refl;
  first_depth = (λ κs. refl, refl);
  fw_shear = refl;
  shear = (λ κs. refl, refl);
}
