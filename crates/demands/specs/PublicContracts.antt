-- What each public function's contract asks of a caller and what it tells one, as the checker reads it off the source. Nothing here is written anew, so
-- that a statement over it can't drift from the contract: where that tells less or asks for more, the statement's proof fails.
use Rattle.std.specs.Prelude.{ℕ, List}
use borrow.Fn.Kinds.{ParamKind, ResultKind, In, Out}
use Rattle.refusal.proofs.U32FromRefusal.from.Kinds as NumberFrom
use Rattle.refusal.proofs.U32FromRefusal.from.Reads as NumberFromReads
use Rattle.roots.proofs.root.Kinds as Root
use Rattle.roots.proofs.root.Reads as RootReads
use Rattle.section.proofs.Section.check.Kinds as SectionCheck
use Rattle.section.proofs.Section.check.Reads as SectionCheckReads
use Rattle.section.proofs.Section.with_layer.Kinds as WithLayer
use Rattle.section.proofs.Section.with_layer.Reads as WithLayerReads
use Rattle.section.proofs.RefusalFromNotAdded.from.Kinds as NotAddedFrom
use Rattle.section.proofs.RefusalFromNotAdded.from.Reads as NotAddedFromReads
use Rattle.section.proofs.Section.last_depth.Kinds as LastDepth
use Rattle.section.proofs.Section.last_depth.Reads as LastDepthReads
use Rattle.section.proofs.Section.steel.Kinds as Steel
use Rattle.section.proofs.Section.steel.Reads as SteelReads
use Rattle.law.proofs.Law.of.Kinds as LawOf
use Rattle.law.proofs.Law.of.Reads as LawOfReads
use Rattle.law.proofs.Lawful.of.Kinds as LawfulOf
use Rattle.law.proofs.Lawful.of.Reads as LawfulOfReads
use Rattle.law.proofs.Law.concrete_size.Kinds as ConcreteSize
use Rattle.law.proofs.Law.concrete_size.Reads as ConcreteSizeReads
use Rattle.law.proofs.Law.bar_size.Kinds as BarSize
use Rattle.law.proofs.Law.bar_size.Reads as BarSizeReads
use Rattle.drawn.proofs.Piece.at.Kinds as PieceAt
use Rattle.drawn.proofs.Piece.at.Reads as PieceAtReads
use Rattle.drawn.proofs.draw.Kinds as Draw
use Rattle.drawn.proofs.draw.Reads as DrawReads
use Rattle.strips.proofs.strip.Kinds as Strip
use Rattle.strips.proofs.strip.Reads as StripReads
use Rattle.strips.proofs.bounds.Kinds as Bounds
use Rattle.strips.proofs.bounds.Reads as BoundsReads
use Rattle.forces.proofs.axis_at.Kinds as AxisAt
use Rattle.forces.proofs.axis_at.Reads as AxisAtReads
use Rattle.forces.proofs.bar.Kinds as Bar
use Rattle.forces.proofs.bar.Reads as BarReads
use Rattle.forces.proofs.imbalance.Kinds as Imbalance
use Rattle.forces.proofs.imbalance.Reads as ImbalanceReads
use Rattle.forces.proofs.moment.Kinds as Moment
use Rattle.forces.proofs.moment.Reads as MomentReads
use Rattle.depths.proofs.depths.Kinds as Depths
use Rattle.depths.proofs.depths.Reads as DepthsReads
use Rattle.depths.proofs.first.Kinds as First
use Rattle.depths.proofs.first.Reads as FirstReads
use Rattle.depths.proofs.U32FromKind.from.Kinds as KindFrom
use Rattle.depths.proofs.U32FromKind.from.Reads as KindFromReads
use Rattle.depths.proofs.UnlistedFromRefusal.from.Kinds as UnlistedFrom
use Rattle.depths.proofs.UnlistedFromRefusal.from.Reads as UnlistedFromReads
use Rattle.depths.proofs.RefusalFromUnlisted.from.Kinds as RefusalFrom
use Rattle.depths.proofs.RefusalFromUnlisted.from.Reads as RefusalFromReads
use Rattle.shear.proofs.shear.Kinds as Shear
use Rattle.shear.proofs.shear.Reads as ShearReads
use Rattle.record.proofs.RecordBytes.as_slice.Kinds as AsSlice
use Rattle.record.proofs.RecordBytes.as_slice.Reads as AsSliceReads
use Rattle.record.proofs.byte.Kinds as Byte
use Rattle.record.proofs.byte.Reads as ByteReads
use Rattle.record.proofs.le32.Kinds as Le32
use Rattle.record.proofs.le32.Reads as Le32Reads
use Rattle.record.proofs.layers_at.Kinds as LayersAt
use Rattle.record.proofs.layers_at.Reads as LayersAtReads
use Rattle.record.proofs.size_at.Kinds as SizeAt
use Rattle.record.proofs.size_at.Reads as SizeAtReads
use Rattle.record.proofs.section_of.Kinds as SectionOf
use Rattle.record.proofs.section_of.Reads as SectionOfReads
use Rattle.record.proofs.filed.Kinds as Filed
use Rattle.record.proofs.filed.Reads as FiledReads
use Rattle.record.proofs.record_of.Kinds as RecordOf
use Rattle.record.proofs.record_of.Reads as RecordOfReads
use Rattle.book.proofs.book.Kinds as Book
use Rattle.book.proofs.book.Reads as BookReads
use Rattle.book.proofs.record_place.Kinds as RecordPlace
use Rattle.book.proofs.record_place.Reads as RecordPlaceReads
use Rattle.book.proofs.record.Kinds as RecordPart
use Rattle.book.proofs.record.Reads as RecordPartReads
use Rattle.writer.proofs.write_book.Kinds as WriteBook
use Rattle.writer.proofs.write_book.Reads as WriteBookReads
use Rattle.writer.proofs.add_layer.Kinds as AddLayer
use Rattle.writer.proofs.add_layer.Reads as AddLayerReads
use Rattle.class.proofs.answer.U32FromLetter.from.Kinds as LetterFrom
use Rattle.class.proofs.answer.U32FromLetter.from.Reads as LetterFromReads
use Rattle.class.proofs.class.Kinds as Class
use Rattle.class.proofs.class.Reads as ClassReads
use Rattle.strength.proofs.strength.Kinds as Strength
use Rattle.strength.proofs.strength.Reads as StrengthReads
use Rattle.panel.proofs.answers.BookAnswerFromResultU32Refusal.from.Kinds as BookFrom
use Rattle.panel.proofs.answers.BookAnswerFromResultU32Refusal.from.Reads as BookFromReads
use Rattle.panel.proofs.answers.RecordAnswerFromResultPlaceRefusal.from.Kinds as RecordFrom
use Rattle.panel.proofs.answers.RecordAnswerFromResultPlaceRefusal.from.Reads as RecordFromReads
use Rattle.panel.proofs.answers.WrittenFromResultU32Refusal.from.Kinds as WrittenFrom
use Rattle.panel.proofs.answers.WrittenFromResultU32Refusal.from.Reads as WrittenFromReads
use Rattle.panel.proofs.answers.ClassAnswerFromResultClassRefusal.from.Kinds as ClassFrom
use Rattle.panel.proofs.answers.ClassAnswerFromResultClassRefusal.from.Reads as ClassFromReads
use Rattle.panel.proofs.answers.StrengthAnswerFromResultStrengthRefusal.from.Kinds as StrengthFrom
use Rattle.panel.proofs.answers.StrengthAnswerFromResultStrengthRefusal.from.Reads as StrengthFromReads
use Rattle.panel.proofs.answers.DrawnFromResultPointRefusal.from.Kinds as DrawnFrom
use Rattle.panel.proofs.answers.DrawnFromResultPointRefusal.from.Reads as DrawnFromReads
use Rattle.panel.proofs.answers.AmountFromResultI64Refusal.from.Kinds as AmountFrom
use Rattle.panel.proofs.answers.AmountFromResultI64Refusal.from.Reads as AmountFromReads
use Rattle.panel.proofs.answers.ListingFromResultDepthsListingUnlisted.from.Kinds as ListingFrom
use Rattle.panel.proofs.answers.ListingFromResultDepthsListingUnlisted.from.Reads as ListingFromReads
use Rattle.panel.proofs.answers.FirstDepthFromResultDepthsFirstDepthUnlisted.from.Kinds as FirstFrom
use Rattle.panel.proofs.answers.FirstDepthFromResultDepthsFirstDepthUnlisted.from.Reads as FirstFromReads
use Rattle.panel.proofs.fw_book.Kinds as FwBook
use Rattle.panel.proofs.fw_book.Reads as FwBookReads
use Rattle.panel.proofs.fw_record.Kinds as FwRecord
use Rattle.panel.proofs.fw_record.Reads as FwRecordReads
use Rattle.panel.proofs.fw_write_book.Kinds as FwWriteBook
use Rattle.panel.proofs.fw_write_book.Reads as FwWriteBookReads
use Rattle.panel.proofs.fw_add_layer.Kinds as FwAddLayer
use Rattle.panel.proofs.fw_add_layer.Reads as FwAddLayerReads
use Rattle.panel.proofs.fw_class.Kinds as FwClass
use Rattle.panel.proofs.fw_class.Reads as FwClassReads
use Rattle.panel.proofs.fw_strength.Kinds as FwStrength
use Rattle.panel.proofs.fw_strength.Reads as FwStrengthReads
use Rattle.panel.proofs.fw_draw.Kinds as FwDraw
use Rattle.panel.proofs.fw_draw.Reads as FwDrawReads
use Rattle.panel.proofs.fw_imbalance.Kinds as FwImbalance
use Rattle.panel.proofs.fw_imbalance.Reads as FwImbalanceReads
use Rattle.panel.proofs.fw_moment.Kinds as FwMoment
use Rattle.panel.proofs.fw_moment.Reads as FwMomentReads
use Rattle.panel.proofs.fw_depths.Kinds as FwDepths
use Rattle.panel.proofs.fw_depths.Reads as FwDepthsReads
use Rattle.panel.proofs.fw_first.Kinds as FwFirst
use Rattle.panel.proofs.fw_first.Reads as FwFirstReads
use Rattle.panel.proofs.fw_shear.Kinds as FwShear
use Rattle.panel.proofs.fw_shear.Reads as FwShearReads

-- what it takes and what it gives, what is asked of the one and told of both; n is the number of lifetimes in its signature
pub record Contract (n : ℕ) : Type 3 where
  pub takes : List (ParamKind n)
  pub gives : ResultKind n
  pub asked : In n takes
  pub told : Out n takes gives

abbrev pub number_from : Contract 0
number_from = record { takes = NumberFrom.ps; gives = NumberFrom.r; asked = NumberFromReads.Asked; told = NumberFromReads.Learnt }

abbrev pub root : Contract 0
root = record { takes = Root.ps; gives = Root.r; asked = RootReads.Asked; told = RootReads.Learnt }

abbrev pub check : Contract 0
check = record { takes = SectionCheck.ps; gives = SectionCheck.r; asked = SectionCheckReads.Asked; told = SectionCheckReads.Learnt }

abbrev pub with_layer_call : Contract 0
with_layer_call = record { takes = WithLayer.ps; gives = WithLayer.r; asked = WithLayerReads.Asked; told = WithLayerReads.Learnt }

abbrev pub not_added_from : Contract 0
not_added_from = record { takes = NotAddedFrom.ps; gives = NotAddedFrom.r; asked = NotAddedFromReads.Asked; told = NotAddedFromReads.Learnt }

abbrev pub last_depth_call : Contract 0
last_depth_call = record { takes = LastDepth.ps; gives = LastDepth.r; asked = LastDepthReads.Asked; told = LastDepthReads.Learnt }

abbrev pub steel : Contract 0
steel = record { takes = Steel.ps; gives = Steel.r; asked = SteelReads.Asked; told = SteelReads.Learnt }

abbrev pub law_of_call : Contract 0
law_of_call = record { takes = LawOf.ps; gives = LawOf.r; asked = LawOfReads.Asked; told = LawOfReads.Learnt }

abbrev pub lawful_of : Contract 0
lawful_of = record { takes = LawfulOf.ps; gives = LawfulOf.r; asked = LawfulOfReads.Asked; told = LawfulOfReads.Learnt }

abbrev pub concrete_size : Contract 0
concrete_size = record { takes = ConcreteSize.ps; gives = ConcreteSize.r; asked = ConcreteSizeReads.Asked; told = ConcreteSizeReads.Learnt }

abbrev pub bar_size : Contract 0
bar_size = record { takes = BarSize.ps; gives = BarSize.r; asked = BarSizeReads.Asked; told = BarSizeReads.Learnt }

abbrev pub piece_at_call : Contract 0
piece_at_call = record { takes = PieceAt.ps; gives = PieceAt.r; asked = PieceAtReads.Asked; told = PieceAtReads.Learnt }

abbrev pub draw : Contract 0
draw = record { takes = Draw.ps; gives = Draw.r; asked = DrawReads.Asked; told = DrawReads.Learnt }

abbrev pub strip : Contract 0
strip = record { takes = Strip.ps; gives = Strip.r; asked = StripReads.Asked; told = StripReads.Learnt }

abbrev pub bounds : Contract 0
bounds = record { takes = Bounds.ps; gives = Bounds.r; asked = BoundsReads.Asked; told = BoundsReads.Learnt }

abbrev pub axis_at_call : Contract 0
axis_at_call = record { takes = AxisAt.ps; gives = AxisAt.r; asked = AxisAtReads.Asked; told = AxisAtReads.Learnt }

abbrev pub bar : Contract 0
bar = record { takes = Bar.ps; gives = Bar.r; asked = BarReads.Asked; told = BarReads.Learnt }

abbrev pub imbalance : Contract 0
imbalance = record { takes = Imbalance.ps; gives = Imbalance.r; asked = ImbalanceReads.Asked; told = ImbalanceReads.Learnt }

abbrev pub moment : Contract 0
moment = record { takes = Moment.ps; gives = Moment.r; asked = MomentReads.Asked; told = MomentReads.Learnt }

abbrev pub depths : Contract 1
depths = record { takes = Depths.ps; gives = Depths.r; asked = DepthsReads.Asked; told = DepthsReads.Learnt }

abbrev pub first : Contract 0
first = record { takes = First.ps; gives = First.r; asked = FirstReads.Asked; told = FirstReads.Learnt }

abbrev pub kind_from : Contract 0
kind_from = record { takes = KindFrom.ps; gives = KindFrom.r; asked = KindFromReads.Asked; told = KindFromReads.Learnt }

abbrev pub unlisted_from : Contract 0
unlisted_from = record { takes = UnlistedFrom.ps; gives = UnlistedFrom.r; asked = UnlistedFromReads.Asked; told = UnlistedFromReads.Learnt }

abbrev pub refusal_from : Contract 0
refusal_from = record { takes = RefusalFrom.ps; gives = RefusalFrom.r; asked = RefusalFromReads.Asked; told = RefusalFromReads.Learnt }

abbrev pub shear : Contract 0
shear = record { takes = Shear.ps; gives = Shear.r; asked = ShearReads.Asked; told = ShearReads.Learnt }

abbrev pub as_slice : Contract 1
as_slice = record { takes = AsSlice.ps; gives = AsSlice.r; asked = AsSliceReads.Asked; told = AsSliceReads.Learnt }

abbrev pub byte : Contract 1
byte = record { takes = Byte.ps; gives = Byte.r; asked = ByteReads.Asked; told = ByteReads.Learnt }

abbrev pub le32 : Contract 1
le32 = record { takes = Le32.ps; gives = Le32.r; asked = Le32Reads.Asked; told = Le32Reads.Learnt }

abbrev pub layers_at_call : Contract 1
layers_at_call = record { takes = LayersAt.ps; gives = LayersAt.r; asked = LayersAtReads.Asked; told = LayersAtReads.Learnt }

abbrev pub size_at_call : Contract 1
size_at_call = record { takes = SizeAt.ps; gives = SizeAt.r; asked = SizeAtReads.Asked; told = SizeAtReads.Learnt }

abbrev pub section_of : Contract 1
section_of = record { takes = SectionOf.ps; gives = SectionOf.r; asked = SectionOfReads.Asked; told = SectionOfReads.Learnt }

abbrev pub filed : Contract 0
filed = record { takes = Filed.ps; gives = Filed.r; asked = FiledReads.Asked; told = FiledReads.Learnt }

abbrev pub record_of_call : Contract 0
record_of_call = record { takes = RecordOf.ps; gives = RecordOf.r; asked = RecordOfReads.Asked; told = RecordOfReads.Learnt }

abbrev pub book : Contract 1
book = record { takes = Book.ps; gives = Book.r; asked = BookReads.Asked; told = BookReads.Learnt }

abbrev pub record_place : Contract 1
record_place = record { takes = RecordPlace.ps; gives = RecordPlace.r; asked = RecordPlaceReads.Asked; told = RecordPlaceReads.Learnt }

abbrev pub record_part : Contract 1
record_part = record { takes = RecordPart.ps; gives = RecordPart.r; asked = RecordPartReads.Asked; told = RecordPartReads.Learnt }

abbrev pub write_book : Contract 2
write_book = record { takes = WriteBook.ps; gives = WriteBook.r; asked = WriteBookReads.Asked; told = WriteBookReads.Learnt }

abbrev pub add_layer : Contract 2
add_layer = record { takes = AddLayer.ps; gives = AddLayer.r; asked = AddLayerReads.Asked; told = AddLayerReads.Learnt }

abbrev pub letter_from : Contract 0
letter_from = record { takes = LetterFrom.ps; gives = LetterFrom.r; asked = LetterFromReads.Asked; told = LetterFromReads.Learnt }

abbrev pub class : Contract 0
class = record { takes = Class.ps; gives = Class.r; asked = ClassReads.Asked; told = ClassReads.Learnt }

abbrev pub strength : Contract 1
strength = record { takes = Strength.ps; gives = Strength.r; asked = StrengthReads.Asked; told = StrengthReads.Learnt }

abbrev pub book_from : Contract 0
book_from = record { takes = BookFrom.ps; gives = BookFrom.r; asked = BookFromReads.Asked; told = BookFromReads.Learnt }

abbrev pub record_from : Contract 0
record_from = record { takes = RecordFrom.ps; gives = RecordFrom.r; asked = RecordFromReads.Asked; told = RecordFromReads.Learnt }

abbrev pub written_from : Contract 0
written_from = record { takes = WrittenFrom.ps; gives = WrittenFrom.r; asked = WrittenFromReads.Asked; told = WrittenFromReads.Learnt }

abbrev pub class_from : Contract 0
class_from = record { takes = ClassFrom.ps; gives = ClassFrom.r; asked = ClassFromReads.Asked; told = ClassFromReads.Learnt }

abbrev pub strength_from : Contract 0
strength_from = record { takes = StrengthFrom.ps; gives = StrengthFrom.r; asked = StrengthFromReads.Asked; told = StrengthFromReads.Learnt }

abbrev pub drawn_from : Contract 0
drawn_from = record { takes = DrawnFrom.ps; gives = DrawnFrom.r; asked = DrawnFromReads.Asked; told = DrawnFromReads.Learnt }

abbrev pub amount_from : Contract 0
amount_from = record { takes = AmountFrom.ps; gives = AmountFrom.r; asked = AmountFromReads.Asked; told = AmountFromReads.Learnt }

abbrev pub listing_from : Contract 0
listing_from = record { takes = ListingFrom.ps; gives = ListingFrom.r; asked = ListingFromReads.Asked; told = ListingFromReads.Learnt }

abbrev pub first_from : Contract 0
first_from = record { takes = FirstFrom.ps; gives = FirstFrom.r; asked = FirstFromReads.Asked; told = FirstFromReads.Learnt }

abbrev pub fw_book : Contract 1
fw_book = record { takes = FwBook.ps; gives = FwBook.r; asked = FwBookReads.Asked; told = FwBookReads.Learnt }

abbrev pub fw_record : Contract 1
fw_record = record { takes = FwRecord.ps; gives = FwRecord.r; asked = FwRecordReads.Asked; told = FwRecordReads.Learnt }

abbrev pub fw_write_book : Contract 2
fw_write_book = record { takes = FwWriteBook.ps; gives = FwWriteBook.r; asked = FwWriteBookReads.Asked; told = FwWriteBookReads.Learnt }

abbrev pub fw_add_layer : Contract 2
fw_add_layer = record { takes = FwAddLayer.ps; gives = FwAddLayer.r; asked = FwAddLayerReads.Asked; told = FwAddLayerReads.Learnt }

abbrev pub fw_class : Contract 0
fw_class = record { takes = FwClass.ps; gives = FwClass.r; asked = FwClassReads.Asked; told = FwClassReads.Learnt }

abbrev pub fw_strength : Contract 1
fw_strength = record { takes = FwStrength.ps; gives = FwStrength.r; asked = FwStrengthReads.Asked; told = FwStrengthReads.Learnt }

abbrev pub fw_draw : Contract 1
fw_draw = record { takes = FwDraw.ps; gives = FwDraw.r; asked = FwDrawReads.Asked; told = FwDrawReads.Learnt }

abbrev pub fw_imbalance : Contract 1
fw_imbalance = record { takes = FwImbalance.ps; gives = FwImbalance.r; asked = FwImbalanceReads.Asked; told = FwImbalanceReads.Learnt }

abbrev pub fw_moment : Contract 1
fw_moment = record { takes = FwMoment.ps; gives = FwMoment.r; asked = FwMomentReads.Asked; told = FwMomentReads.Learnt }

abbrev pub fw_depths : Contract 2
fw_depths = record { takes = FwDepths.ps; gives = FwDepths.r; asked = FwDepthsReads.Asked; told = FwDepthsReads.Learnt }

abbrev pub fw_first : Contract 1
fw_first = record { takes = FwFirst.ps; gives = FwFirst.r; asked = FwFirstReads.Asked; told = FwFirstReads.Learnt }

abbrev pub fw_shear : Contract 1
fw_shear = record { takes = FwShear.ps; gives = FwShear.r; asked = FwShearReads.Asked; told = FwShearReads.Learnt }
