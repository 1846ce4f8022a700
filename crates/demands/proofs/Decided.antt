-- No second answer fits: each contract says that the answer is one definition's, or the one number that satisfies one. Assumes nothing.
use mathlib.Core.Path.{◌≡◌, refl, sym, ap, ◌∙◌}
use mathlib.Core.HLevel.{is_prop→PathP}
use native.Mathlib.Bridge.{le_prop}
use native.Mathlib.Nat.{ℕ_set}
use native.Mathlib.Omega.{arith}
use Rattle.refusal.proofs.Answers.{number_own, one_answer}
use Rattle.roots.proofs.Theorems.{root_only}
use Rattle.section.specs.Accepted.{Accepted}
use Rattle.law.specs.declared.Lawful.{Lawful}
use Rattle.law.specs.Law.{law_of}
use Rattle.demands.specs.Decided.{Decided}
use Rattle.demands.proofs.Results.{one_by, one_added, by_number}
use Rattle.demands.proofs.Told.{one_list, list_worked, one_first, first_worked, first_not_short}

-- an accepted section has one law
one_lawful : {x y : Lawful} → x.section ≡ y.section → x ≡ y
one_lawful {x} {y} e =
    let l : x.law ≡ y.law = x.is ∙ ap law_of e ∙ sym y.is in
    λ i. record {
      section = e i;
      law = l i;
      accepted = is_prop→PathP (λ i. Accepted (e i)) (λ i. hlevel (le_prop, ℕ_set)) x.accepted y.accepted i;
      is = is_prop→PathP (λ i. l i ≡ law_of (e i)) (λ i. hlevel (le_prop, ℕ_set)) x.is y.is i;
    }

pub decided : Decided
decided = record {
  number_from = λ κs a x y e f p q. p ∙ sym q;
  root = λ κs a x y e f p q. root_only p q;
  check = λ κs a x y e f p q. one_answer (by_number x p) (by_number y q);
  with_layer_call = λ κs a x y e f p q. one_added a.0 x y (one_answer p.answer q.answer) p.back q.back;
  not_added_from = λ κs a x y e f p q. p ∙ sym q;
  last_depth_call = λ κs a x y e f p q. p ∙ sym q;
  steel = λ κs a x y e f p q. λ i. record { area = (p.0 ∙ sym q.0) i; moment = (p.1 ∙ sym q.1) i };
  law_of_call = λ κs a x y e f p q. one_answer p q;
  lawful_of = λ κs a x y e f p q. one_by (λ l. l.section ≡ a.0) (λ l m h k. one_lawful (h ∙ sym k)) x y (p.0 ∙ sym q.0) p.1 q.1;
  concrete_size = λ κs a x y e f p q. p ∙ sym q;
  bar_size = λ κs a x y e f p q. p ∙ sym q;
  piece_at_call = λ κs a x y e f p q. p ∙ sym q;
  draw = λ κs a x y e f p q. one_answer p q;
  strip = λ κs a x y e f p q. p ∙ sym q;
  bounds = λ κs a x y e f p q. p ∙ sym q;
  axis_at_call = λ κs a x y e f p q. p ∙ sym q;
  bar = λ κs a x y e f p q. p ∙ sym q;
  imbalance = λ κs a x y e f p q. one_answer p q;
  moment = λ κs a x y e f p q. one_answer p q;
  depths = λ κs a x y e f p q.
      one_list x y (p.0 ∙ sym q.0) (list_worked a.0 _ 14 refl (omega arith) p.0) (list_worked a.0 _ 15 refl (omega arith) p.0);
  depths_row = λ κs a x y e f p q. p.1 ∙ sym q.1;
  first = λ κs a x y e f p q. one_first x y (p ∙ sym q) (first_worked a.0 p) (first_not_short a.0 p);
  kind_from = λ κs a x y e f p q. p ∙ sym q;
  unlisted_from = λ κs a x y e f p q. p ∙ sym q;
  refusal_from = λ κs a x y e f p q. number_own x y (p ∙ sym q);
  shear = λ κs a x y e f p q. one_answer p q;
  as_slice = λ κs a x y e f p q. p ∙ sym q;
  byte = λ κs a x y e f p q. p ∙ sym q;
  le32 = λ κs a x y e f p q. p ∙ sym q;
  layers_at_call = λ κs a x y e f p q. p ∙ sym q;
  size_at_call = λ κs a x y e f p q. p.0 ∙ sym q.0;
  section_of = λ κs a x y e f p q. one_answer p q;
  filed = λ κs a x y e f p q. one_answer p q;
  record_of_call = λ κs a x y e f p q. one_answer p q;
  book = λ κs a x y e f p q. one_answer p q;
  record_place = λ κs a x y e f p q. one_answer p q;
  record_part = λ κs a x y e f p q. p ∙ sym q;
  write_book = λ κs a x y e f p q. one_answer p.0 q.0;
  write_book_bytes = λ κs a x y e f p q. p.1 ∙ sym q.1;
  add_layer = λ κs a x y e f p q. one_answer p.0 q.0;
  add_layer_bytes = λ κs a x y e f p q. p.1 ∙ sym q.1;
  letter_from = λ κs a x y e f p q. p ∙ sym q;
  class = λ κs a x y e f p q. one_answer p q;
  strength = λ κs a x y e f p q. one_answer p q;
  book_from = λ κs a x y e f p q. p ∙ sym q;
  record_from = λ κs a x y e f p q. p ∙ sym q;
  written_from = λ κs a x y e f p q. p ∙ sym q;
  class_from = λ κs a x y e f p q. p ∙ sym q;
  strength_from = λ κs a x y e f p q. p ∙ sym q;
  drawn_from = λ κs a x y e f p q. p ∙ sym q;
  amount_from = λ κs a x y e f p q. p ∙ sym q;
  listing_from = λ κs a x y e f p q. p ∙ sym q;
  first_from = λ κs a x y e f p q. p ∙ sym q;
  fw_book = λ κs a x y e f p q. p ∙ sym q;
  fw_record = λ κs a x y e f p q. p ∙ sym q;
  fw_write_book = λ κs a x y e f p q. p.0 ∙ sym q.0;
  fw_write_book_bytes = λ κs a x y e f p q. p.1 ∙ sym q.1;
  fw_add_layer = λ κs a x y e f p q. p.0 ∙ sym q.0;
  fw_add_layer_bytes = λ κs a x y e f p q. p.1 ∙ sym q.1;
  fw_class = λ κs a x y e f p q. p ∙ sym q;
  fw_strength = λ κs a x y e f p q. p ∙ sym q;
  fw_draw = λ κs a x y e f p q. p ∙ sym q;
  fw_imbalance = λ κs a x y e f p q. p ∙ sym q;
  fw_moment = λ κs a x y e f p q. p ∙ sym q;
  fw_depths = λ κs a x y e f p q. p.0 ∙ sym q.0;
  fw_depths_row = λ κs a x y e f p q. p.1 ∙ sym q.1;
  fw_first = λ κs a x y e f p q. p ∙ sym q;
  fw_shear = λ κs a x y e f p q. p ∙ sym q;
}
