-- The record made from a meaning that fits its columns means it: its header, and the walk over its body.
-- Assumes nothing.
use Rattle.std.specs.Prelude.{Some}
use mathlib.Core.Path.{◌≡◌, refl, ap, sym, ◌∙◌}
use mathlib.Core.Bool.{true}
use mathlib.Core.List.{List, ◌∷◌, [], ◌++◌}
use Prim.Native.Nat.{ℕ, ◌-◌, ◌<◌}
use native.Mathlib.Omega.{arith}
use borrow.Author.Tests.{eq-eqb}
use lib.ListN.{length}
use Rattle.numbers.specs.declared.Order.{Order}
use Rattle.numbers.specs.declared.Order.TheVariants.{HighFirst, LowFirst}
use Rattle.numbers.specs.Numbers.{written}
use Rattle.numbers.proofs.Laws.{read_written}
use Rattle.kinds.specs.Kinds.{kind_of}
use Rattle.kinds.proofs.Laws.{each_pair_its_kind}
use Rattle.frames.specs.Frames.{rec_typ, rec_sub, body, is_record}
use Rattle.frames.proofs.Laws.{record_framed}
use Rattle.line_layouts.specs.declared.Tag.{Tag}
use Rattle.line_layouts.specs.declared.Tag.TheVariants.{Pcr, Hbr, Sbr, Wir, Wrr}
use Rattle.line_layouts.specs.declared.Layout.TheVariants as layout
use Rattle.line_layouts.specs.Columns.{type_of, sub_of, columns, bar}
use Rattle.line_layouts.specs.Entries.{Meaning}
use Rattle.line_layouts.specs.Layouts.{fields_of, record_of}
use Rattle.line_layouts.specs.Fitting.{Fitting}
use Rattle.line_layouts.specs.Judging.{Says}
use Rattle.line_layouts.proofs.Laid.{most_columns_lem}
use Rattle.line_layouts.proofs.Tables.{sound}
use Rattle.line_records.specs.Records.{count_tag, meaning}
use Rattle.line_records.proofs.Records.{stored_meant, stored_short}
use Rattle.line_records.proofs.Judges.{meaning_tagged}

-- ---- the header

abbrev framed : Order → ℕ → ℕ → List ℕ → List ℕ
framed order typ sub b = (written order 2 (length b) ++ typ ∷ sub ∷ []) ++ b

framed_record : (order : Order) (typ sub : ℕ) (b : List ℕ) → length b < 65536
    → is_record order (framed order typ sub b) ≡ true
framed_record HighFirst typ sub b small =
    record_framed HighFirst (framed HighFirst typ sub b) (omega arith) (length b)
    (sym (read_written HighFirst 2 (length b) small))
    ∙ eq-eqb (length (framed HighFirst typ sub b) - 4) (length b) (omega arith)
framed_record LowFirst typ sub b small =
    record_framed LowFirst (framed LowFirst typ sub b) (omega arith) (length b)
    (sym (read_written LowFirst 2 (length b) small))
    ∙ eq-eqb (length (framed LowFirst typ sub b) - 4) (length b) (omega arith)

framed_kind : (order : Order) (typ sub : ℕ) (b : List ℕ)
    → kind_of (rec_typ (framed order typ sub b)) (rec_sub (framed order typ sub b)) ≡ kind_of typ sub
framed_kind HighFirst typ sub b = refl
framed_kind LowFirst typ sub b = refl

framed_body : (order : Order) (typ sub : ℕ) (b : List ℕ) → body (framed order typ sub b) ≡ b
framed_body HighFirst typ sub b = refl
framed_body LowFirst typ sub b = refl

-- the kind of a line's record has that line
tag_kind : (tag : Tag) → count_tag (kind_of (type_of tag) (sub_of tag)) ≡ Some tag
tag_kind Pcr = ap count_tag (each_pair_its_kind 4 (omega arith))
tag_kind Hbr = ap count_tag (each_pair_its_kind 5 (omega arith))
tag_kind Sbr = ap count_tag (each_pair_its_kind 6 (omega arith))
tag_kind Wir = ap count_tag (each_pair_its_kind 12 (omega arith))
tag_kind Wrr = ap count_tag (each_pair_its_kind 13 (omega arith))

-- ---- the record

pub record_read : (order : Order) (m : Meaning) → Fitting m → meaning order (record_of order m) ≡ Says m
record_read order m fit =
    let tag = m.tag in
    let b = fields_of (layout.Record order) m in
    let s = framed order (type_of tag) (sub_of tag) b in
    let small : length b < 65536 =
    omega (
      arith,
      stored_short order (bar tag) (columns tag) m.entries (sound tag) fit.0,
      most_columns_lem tag,
    ) in
    meaning_tagged order s (framed_record order (type_of tag) (sub_of tag) b small)
    ∙ rw (
      framed_kind order (type_of tag) (sub_of tag) b,
      framed_body order (type_of tag) (sub_of tag) b,
      tag_kind tag,
      stored_meant order m fit,
    )
