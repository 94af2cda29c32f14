-- What is shown of lines: statements only. Each is proved in proofs/Laws.antt, under its name in small letters.
--
--   WrittenOnce, ReadOnce    the two calls leave nothing open
--   Writable                 what can be written of a meaning
--   WrittenRead              the line of a record means what the record means
--   RecordRead               the record of a line means what the line means
--   ThereAndBack             a record, written and read back by the calls, has the same meaning
--   OtherOrder               .. where it is read back in another byte order, too
--   BackAgain                a line, read and written by the calls, is the canonical line of the same meaning
--   Endings                  the four endings of a line mean the same
--   WrittenMost, LongestLine    no line of a tag is longer than so many bytes, and one has as many
--   RecordMost, LongestRecord   .. and so of records
--   WriteRefused, ReadRefused   a refusal changes no byte of the output
-- Assumes nothing.
use Rattle.std.specs.Prelude.{◌≡◌, true, false, cond, List, [], ◌∷◌, ◌++◌, map, ℕ, ◌+◌, ◌≤◌, length, replicate, Some, Ok, Err}
use Prim.Native.Char.{code}
use Rattle.prelude.specs.Once.{Once}
use Rattle.prelude.specs.Each.{each}
use Rattle.numbers.specs.declared.Order.{Order}
use Rattle.numbers.specs.Orders.{order_of}
use Rattle.answers.specs.declared.Answer.{Answer}
use Rattle.line_layouts.specs.declared.Tag.{Tag}
use Rattle.line_layouts.specs.declared.Tag.TheVariants.{Pcr, Hbr, Sbr, Wir, Wrr}
use Rattle.line_layouts.specs.declared.Column.{Column}
use Rattle.line_layouts.specs.Entries.{Entry, Number, Text, Meaning}
use Rattle.line_layouts.specs.Layouts.{is_time, text_of, record_of}
use Rattle.line_layouts.specs.Judging.{Judging, Says}
use Rattle.line_records.specs.Records.{meaning}
use Rattle.line_texts.specs.Texts.{is_break, from_end, line_meaning}
use Rattle.line_layouts.specs.Columns.{separator, line_feed, carriage_return, columns}
use Rattle.line_layouts.specs.Names.{entry_allowed}
use Rattle.line_layouts.specs.Fitting.{is_number, Fitting, all_given}
use Rattle.output.specs.Placed.{part, Outcome, outcome, placed_at}
use Rattle.lines.specs.Writing.{line_written}
use Rattle.lines.specs.Reading.{line_read}

-- what the two calls promise, of any outcome
abbrev pub WritePromise : ℕ → List ℕ → List ℕ → ℕ → Outcome → Type 0
WritePromise cpu s old at o = o ≡ line_written cpu s old at

abbrev pub ReadPromise : ℕ → List ℕ → List ℕ → ℕ → Outcome → Type 0
ReadPromise cpu line old at o = o ≡ line_read cpu line old at

-- "How the promises are held to account": no two different outcomes satisfy them
abbrev pub WrittenOnce : Type 0
WrittenOnce = (cpu : ℕ) (s old : List ℕ) (at : ℕ) → Once (WritePromise cpu s old at)

abbrev pub ReadOnce : Type 0
ReadOnce = (cpu : ℕ) (line old : List ℕ) (at : ℕ) → Once (ReadPromise cpu line old at)

-- neither 21 nor 19: no required time is missing, and names hold bytes that they may
abbrev pub Writable : Meaning → Type 0
Writable m = (all_given (columns m.tag) m.entries ≡ true) × (each (entry_allowed separator) m.entries ≡ true)

-- any record that can be written: its line, read back, has the same meaning. The site under head 255 is no part of a
-- meaning
abbrev pub WrittenRead : Type 0
WrittenRead = (order : Order) (s : List ℕ) (m : Meaning) → meaning order s ≡ Says m → Writable m
    → line_meaning (text_of m) ≡ meaning order s

-- any meaning that fits its columns, so any that a line can have: the record made from it has that meaning
abbrev pub RecordRead : Type 0
RecordRead = (order : Order) (m : Meaning) → Fitting m → meaning order (record_of order m) ≡ Says m

-- ---- the two calls, one after the other, each at any place of any output

-- a text is read into some record, which means, in the byte order that it is read in, what is said
pub record ReadBack (cpu : ℕ) (order : Order) (said : Judging) (text : List ℕ) : Type 0 where
  pub made : List ℕ
  pub reads : (old : List ℕ) (at : ℕ) → line_read cpu text old at ≡ placed_at made old at
  pub same : meaning order made ≡ said

-- Any record, written and read back, has the same meaning but for the site under head 255: the n bytes that a writing
-- of it left at their offset are such a text. The site under head 255 is no part of a meaning
abbrev pub ThereAndBack : Type 0
ThereAndBack = (cpu : ℕ) (order : Order) → order_of cpu ≡ Some order
    → (s old : List ℕ) (at n : ℕ) (new : List ℕ)
    → line_written cpu s old at ≡ outcome (Ok n) new → ReadBack cpu order (meaning order s) (part at n new)

-- .. and so has one that is read back in another byte order: it means there what the first record means in its own
abbrev pub OtherOrder : Type 0
OtherOrder = (cpu : ℕ) (order : Order) → order_of cpu ≡ Some order
    → (other : ℕ) (second : Order) → order_of other ≡ Some second
    → (s old : List ℕ) (at n : ℕ) (new : List ℕ)
    → line_written cpu s old at ≡ outcome (Ok n) new
    → ReadBack other second (meaning order s) (part at n new)

-- the record of a line means what the line means, in the byte order that it was read in, and is written as the
-- canonical line of that meaning
pub record WrittenBack (cpu : ℕ) (line s : List ℕ) : Type 0 where
  pub order : Order
  pub told : order_of cpu ≡ Some order
  pub keeps : meaning order s ≡ line_meaning line
  pub said : Meaning
  pub means : line_meaning line ≡ Says said
  pub writes : (old : List ℕ) (at : ℕ) → line_written cpu s old at ≡ placed_at (text_of said) old at
  pub same : line_meaning (text_of said) ≡ line_meaning line

-- Any line that is read, then written, is the canonical line of the same meaning: the n bytes that a reading of it left
-- at their offset are such a record
abbrev pub BackAgain : Type 0
BackAgain = (cpu : ℕ) (line old : List ℕ) (at n : ℕ) (new : List ℕ)
    → line_read cpu line old at ≡ outcome (Ok n) new → WrittenBack cpu line (part at n new)

-- ---- the ending of a line

pub data Ending : Type 0 where
  Nothing : Ending
  Feed : Ending
  Return : Ending
  Both : Ending

-- one line ending in nothing, LF, CR, or CR LF
abbrev pub ending_bytes : Ending → List ℕ
ending_bytes Nothing = []
ending_bytes Feed = line_feed ∷ []
ending_bytes Return = carriage_return ∷ []
ending_bytes Both = carriage_return ∷ line_feed ∷ []

-- behind any bytes that do not end in CR or LF themselves, each of the four leaves the meaning as it is
abbrev pub Endings : Type 0
Endings = (s : List ℕ) (e : Ending) → is_break (from_end 1 s) ≡ false → line_meaning (s ++ ending_bytes e) ≡ line_meaning s

-- ---- how long a line is

-- the longest of each tag, its LF with it
abbrev pub most_text : Tag → ℕ
most_text Pcr = 67
most_text Hbr = 287
most_text Sbr = 287
most_text Wir = 289
most_text Wrr = 1_624

abbrev pub WrittenMost : Type 0
WrittenMost = (order : Order) (s : List ℕ) (m : Meaning) → meaning order s ≡ Says m → Writable m
    → length (text_of m) ≤ most_text m.tag

-- #103: of a date, hour and day have two digits: 10:00:00 10-JAN-1970
abbrev pub long_date : ℕ
long_date = 813_600

-- a number of the most digits, P, a name of 255 bytes
abbrev pub longest_in : Column → Entry
longest_in c =
    cond (is_time c.form) (Number long_date)
    (cond (is_number c.form) (Number c.most) (Text (replicate c.most (code "P"))))

-- every field at its longest
unfoldable pub longest : Tag → Meaning
longest tag = record { tag = tag; entries = map longest_in (columns tag) }

-- .. and there is one of so many bytes, in either byte order, wherever there is room for it
abbrev pub LongestLine : Type 0
LongestLine = (tag : Tag) (cpu : ℕ) (order : Order) → order_of cpu ≡ Some order → (old : List ℕ) (at : ℕ)
    → at + most_text tag ≤ length old
    → (line_written cpu (record_of order (longest tag)) old at).answer ≡ Ok (most_text tag)

-- the bytes of the longest body of each tag
abbrev pub most_body : Tag → ℕ
most_body Pcr = 22
most_body Hbr = 265
most_body Sbr = 265
most_body Wir = 262
most_body Wrr = 1_562

-- no record that a line is read into is longer than that and its header, and one of each tag is as long
abbrev pub RecordMost : Type 0
RecordMost = (order : Order) (m : Meaning) → Fitting m → length (record_of order m) ≤ 4 + most_body m.tag

abbrev pub LongestRecord : Type 0
LongestRecord = (order : Order) (tag : Tag) → length (record_of order (longest tag)) ≡ 4 + most_body tag

-- ---- a refusal changes no byte of the output

abbrev pub WriteRefused : Type 0
WriteRefused = (cpu : ℕ) (s old : List ℕ) (at : ℕ) (a : Answer)
    → (line_written cpu s old at).answer ≡ Err a → (line_written cpu s old at).output ≡ old

abbrev pub ReadRefused : Type 0
ReadRefused = (cpu : ℕ) (line old : List ℕ) (at : ℕ) (a : Answer)
    → (line_read cpu line old at).answer ≡ Err a → (line_read cpu line old at).output ≡ old
