-- What is shown of lines: statements only. Each is proved in proofs/Canonical.antt or proofs/Whole.antt, under its name
-- in small letters.
--
--   tells          whether a line can give an entry: it fits its column, is there where it must be, and can be written
--   TellingBy      a meaning that some line has
--   CanonicalRead  the canonical line of such a meaning means it
--   ReadTells      what any line means is such a meaning
--   CanonicalOnce  so no two such meanings have one line
--   ReadAgain      so any line that is read means what its canonical line means
--   ContentTaken   what this code holds of a line means what the line means, by bytes that are there
--   JudgedOnce     and nothing of it is left open
-- Assumes nothing.
use Rattle.std.specs.Prelude.{◌≡◌, Bool, true, false, ◌&&◌, List, [], ◌∷◌, ℕ, Result}
use Rattle.prelude.specs.Once.{Once}
use Rattle.answers.specs.declared.Answer.{Answer}
use Rattle.line_layouts.specs.declared.Column.{Column}
use Rattle.line_layouts.specs.Columns.{separator, columns}
use Rattle.line_layouts.specs.Names.{entry_allowed, separates}
use Rattle.line_layouts.specs.Entries.{Entry, Missing, Meaning}
use Rattle.line_layouts.specs.Layouts.{text_by, text_of}
use Rattle.line_layouts.specs.Fitting.{entry_fits, sits, given}
use Rattle.line_layouts.specs.declared.Line.{Line}
use Rattle.line_layouts.specs.Judging.{Says, Taken}
use Rattle.line_texts.specs.Texts.{content_means, line_meaning_by, line_meaning}
use Rattle.line_texts.specs.Places.{content_held}

abbrev pub tells : ℕ → Column → Entry → Bool
tells sep c e = entry_fits c e && (given c e && entry_allowed sep e)

abbrev pub all_tell : ℕ → List Column → List Entry → Bool
all_tell sep [] [] = true
all_tell sep [] (e ∷ es) = false
all_tell sep (c ∷ cs) [] = false
all_tell sep (c ∷ cs) (e ∷ es) = tells sep c e && all_tell sep cs es

abbrev pub TellingBy : ℕ → Meaning → Type 0
TellingBy sep m =
    (all_tell sep (columns m.tag) m.entries ≡ true)
    × (sits Missing (columns m.tag) m.entries ≡ true)

abbrev pub Telling : Meaning → Type 0
Telling m = TellingBy separator m

abbrev pub CanonicalRead : Type 0
CanonicalRead = (sep : ℕ) → separates sep ≡ true → (m : Meaning) → TellingBy sep m
    → line_meaning_by sep (text_by sep m) ≡ Says m

abbrev pub ReadTells : Type 0
ReadTells = (sep : ℕ) → separates sep ≡ true → (line : List ℕ) (m : Meaning) → line_meaning_by sep line ≡ Says m
    → TellingBy sep m

abbrev pub CanonicalOnce : Type 0
CanonicalOnce = (sep : ℕ) → separates sep ≡ true → (m m' : Meaning) → TellingBy sep m → TellingBy sep m'
    → text_by sep m ≡ text_by sep m' → m ≡ m'

abbrev pub ReadAgain : Type 0
ReadAgain = (line : List ℕ) (m : Meaning) → line_meaning line ≡ Says m → line_meaning (text_of m) ≡ Says m

-- ---- as this code holds it

abbrev pub JudgePromise : ℕ → List ℕ → Result Line Answer → Type 0
JudgePromise sep s j = j ≡ content_held sep s

abbrev pub ContentTaken : Type 0
ContentTaken = (sep : ℕ) (s : List ℕ) (j : Result Line Answer) → JudgePromise sep s j → Taken s (content_means sep s) j

-- "How the promises are held to account": no two different outcomes satisfy it
abbrev pub JudgedOnce : Type 0
JudgedOnce = (sep : ℕ) (s : List ℕ) → Once (JudgePromise sep s)
