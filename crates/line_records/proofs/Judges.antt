-- Laws of a record taken apart: one a check, in their order.
-- Assumes nothing.
use mathlib.Core.Path.{◌≡◌, refl, ap, sym, ◌∙◌}
use mathlib.Core.Bool.{Bool, true, false}
use mathlib.Core.List.{List, [], ◌∷◌, map}
use Prim.Native.Nat.{ℕ, zero, suc, ◌-◌, ◌≤◌, ◌<◌}
use native.Mathlib.Omega.{arith}
use lib.ListN.{length, get_or, take}
use Rattle.answers.specs.declared.Answer.TheVariants.{NotOneRecord}
use Rattle.numbers.specs.declared.Order.{Order}
use Rattle.kinds.specs.Kinds.{kind_of}
use Rattle.frames.specs.Frames.{rec_typ, rec_sub, body, is_record}
use Rattle.line_layouts.specs.declared.Tag.{Tag}
use Rattle.line_layouts.specs.declared.Said.{Said}
use Rattle.line_layouts.specs.declared.Column.{Column}
use Rattle.line_layouts.specs.Columns.{columns, bar, most_columns, no_column}
use Rattle.line_layouts.specs.Entries.{Entry, Meaning, padded}
use Rattle.line_layouts.specs.Fitting.{is_number, table_sound}
use Rattle.line_layouts.specs.Judging.{Faulty, Says, saying, Taken, Held}
use Rattle.line_layouts.proofs.Tables.{sound, sane, rest_sound}
use Rattle.std.proofs.lemmas.List.{take-map}
use Rattle.line_layouts.proofs.Fills.{says, Withins}
use Rattle.line_records.specs.Walks.{Fits, meant}
use Rattle.line_records.specs.Records.{count_tag, body_means, tagged_means, meaning}
use Rattle.line_records.specs.Places.{fields_from, line_at}
use Rattle.line_records.specs.Laws.{JudgedOnce}

module _ (ends : Order) (s : List ℕ) where
  pub meaning_frame : is_record ends s ≡ false → meaning ends s ≡ Faulty NotOneRecord
  unfolding meaning
  meaning_frame e = rw e

  pub meaning_tagged : is_record ends s ≡ true
      → meaning ends s ≡ tagged_means (count_tag (kind_of (rec_typ s) (rec_sub s))) ends (body s)
  unfolding meaning
  meaning_tagged e = rw e

-- what means something is a record
pub says_record : (ends : Order) (s : List ℕ) (m : Meaning) → meaning ends s ≡ Says m → is_record ends s ≡ true
says_record ends s m e = go (is_record ends s) refl
  where
    go : (t : Bool) → is_record ends s ≡ t → t ≡ true
    go true f = refl
    go false f =
        let is : Faulty NotOneRecord ≡ Says m = sym (meaning_frame ends s f) ∙ e in
        let never : ◌≡◌ {A = ℕ} 0 1 = cc in
        absurd (omega arith)

-- a body that fits: its fields say what it means
taken_said : (ends : Order) (tag : Tag) (s : List ℕ) (fields : List Said) (n : ℕ) → n ≡ length (columns tag)
    → length fields ≡ most_columns → Withins s fields → meant ends tag s ≡ Fits (map (says s) (take n fields))
    → Taken s (body_means tag (meant ends tag s)) (saying (record { tag = tag; fields = fields }))
taken_said ends tag s fields n all full within is =
    let said : take (length (columns tag)) (map (says s) fields) ≡ map (says s) (take n fields) =
    rw (← all) (take-map (says s) n fields) in
    record {
      means = rw is (ap (λ (es : List Entry). Says (record { tag = tag; entries = es })) said);
      there = record { full = full; within = within };
    }

-- .. and they are those of the line
pub held_said : (ends : Order) (tag : Tag) (s : List ℕ) (fields : List Said) (n : ℕ) → n ≡ length (columns tag)
    → length fields ≡ most_columns → Withins s fields → meant ends tag s ≡ Fits (map (says s) (take n fields))
    → fields ≡ padded (fields_from ends (columns tag) s 0 true)
    → Held s (line_at ends tag s) (body_means tag (meant ends tag s)) (saying (record { tag = tag; fields = fields }))
unfolding line_at
held_said ends tag s fields n all full within is same =
    record {
      taken = taken_said ends tag s fields n all full within is;
      is = rw is (ap (λ (l : List Said). saying (record { tag = tag; fields = l })) same);
    }

pub judged_once : JudgedOnce
judged_once ends s o o' p q = p.is ∙ sym q.is

-- text of a column is short enough for a count byte
pub short_column : (tag : Tag) (j : ℕ) → j < length (columns tag)
    → is_number (get_or (columns tag) j no_column).form ≡ false → (get_or (columns tag) j no_column).most ≤ 255
short_column tag j h = go (bar tag) (columns tag) j (sound tag) h
  where
    go : (k : ℕ) (cs : List Column) (j : ℕ) → table_sound k cs ≡ true → j < length cs
        → is_number (get_or cs j no_column).form ≡ false → (get_or cs j no_column).most ≤ 255
    go k [] j ok h = absurd (omega arith)
    go k (c ∷ cs) zero ok h = (sane k c cs ok).short
    go k (c ∷ cs) (suc j) ok h = go (k - 1) cs j (rest_sound k c cs ok) (omega arith)
