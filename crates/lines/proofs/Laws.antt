-- The statements of specs/Laws.antt, proved.
-- Assumes nothing.
use Rattle.std.specs.Prelude.{Result, Ok, Err}
use mathlib.Core.Path.{◌≡◌, refl, ap, sym, ◌∙◌}
use mathlib.Core.Bool.{Bool, true, false, cond, true≢false}
use mathlib.Core.List.{List, ◌++◌}
use Prim.Native.Nat.{ℕ, ◌+◌}
use lib.Dec.{leb}
use lib.ListN.{length, take, drop}
use Rattle.prelude.proofs.Once.{equation}
use Rattle.answers.specs.declared.Answer.{Answer}
use Rattle.answers.specs.declared.Answer.TheVariants.{OutputTooShort}
use Rattle.output.specs.Placed.{Making, Makes, Refuses, Outcome, outcome, refused, placed_at, placed}
use Rattle.lines.specs.Writing.{text_for, line_written}
use Rattle.lines.specs.Reading.{record_for, line_read}
use Rattle.line_layouts.specs.Columns.{separator}
use Rattle.line_layouts.proofs.Tables.{bar_separates}
use Rattle.line_texts.proofs.Canonical.{canonical_read}
use Rattle.lines.specs.Laws.{WrittenOnce, ReadOnce, WrittenRead, WrittenMost, RecordRead}
use Rattle.lines.specs.Laws.{ThereAndBack, OtherOrder, BackAgain, Endings, LongestLine, RecordMost}
use Rattle.lines.specs.Laws.{LongestRecord, WriteRefused, ReadRefused}
use Rattle.lines.proofs.Most.{text_most}
use Rattle.lines.proofs.Made as made
use Rattle.lines.proofs.Rounds as rounds
use Rattle.lines.proofs.Endings as ending
use Rattle.lines.proofs.Longest as longest
use Rattle.lines.proofs.Bodies as bodies

pub written_once : WrittenOnce
written_once cpu s old at = equation Outcome (line_written cpu s old at)

pub read_once : ReadOnce
read_once cpu line old at = equation Outcome (line_read cpu line old at)

pub written_read : WrittenRead
written_read order s m e ok = canonical_read separator bar_separates m (rounds.record_tells order s m e ok) ∙ sym e

pub written_most : WrittenMost
written_most order s m e ok = text_most separator m (rounds.record_fits order s m e)

pub record_read : RecordRead
record_read = made.record_read

pub there_and_back : ThereAndBack
there_and_back = rounds.there_and_back

pub other_order : OtherOrder
other_order = rounds.other_order

pub back_again : BackAgain
back_again = rounds.back_again

pub endings : Endings
endings = ending.endings

pub longest_line : LongestLine
longest_line = longest.longest_line

pub record_most : RecordMost
record_most = bodies.record_most

pub longest_record : LongestRecord
longest_record = bodies.longest_record

-- ---- a refusal

abbrev wrote : Result ℕ Answer → Bool
wrote (Ok n) = true
wrote (Err a) = false

placed_refused : (m : Making) (old : List ℕ) (at : ℕ) (a : Answer) → (placed m old at).answer ≡ Err a
    → (placed m old at).output ≡ old
unfolding placed_at
placed_refused (Refuses b) old at a e = refl
placed_refused (Makes bytes) old at a e = go (leb (at + length bytes) (length old)) e
  where
    done : Outcome
    done = outcome (Ok (length bytes)) (take at old ++ (bytes ++ drop (at + length bytes) old))

    go : (b : Bool) → (cond b done (refused OutputTooShort old)).answer ≡ Err a
        → (cond b done (refused OutputTooShort old)).output ≡ old
    go true f = absurd (true≢false (ap wrote f))
    go false f = refl

pub write_refused : WriteRefused
write_refused cpu s old at a e = placed_refused (text_for cpu s) old at a e

pub read_refused : ReadRefused
read_refused cpu line old at a e = placed_refused (record_for cpu line) old at a e
