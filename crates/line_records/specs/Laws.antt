-- What is shown of records: statements only. Each is proved in proofs/Records.antt, proofs/Agrees.antt or
-- proofs/Judges.antt, under its name in small letters.
--
--   StoredMeant   the body of a record that is made of a meaning means it
--   MeantFits     what any body means fits its columns
--   MeantRead     one rule: a body means something exactly where it fits its kind for a session
--   JudgedOnce    what this code holds of a record leaves nothing open
-- Assumes nothing.
use Rattle.std.specs.Prelude.{◌≡◌, Bool, true, false, List, ℕ, Result}
use Rattle.prelude.specs.Once.{Once}
use Rattle.answers.specs.declared.Answer.{Answer}
use Rattle.frames.specs.Frames.{body}
use Rattle.numbers.specs.declared.Order.{Order}
use Rattle.numbers.specs.Laws.{Bytes}
use Rattle.kinds.specs.declared.Kind.{Kind}
use Rattle.kinds.specs.declared.Kind.TheVariants as kind
use Rattle.bodies.specs.Bodies.{read_body, fitting}
use Rattle.line_layouts.specs.declared.Tag.{Tag}
use Rattle.line_layouts.specs.declared.Tag.TheVariants as tag
use Rattle.line_layouts.specs.declared.Layout.TheVariants as layout
use Rattle.line_layouts.specs.Entries.{Entry, Meaning}
use Rattle.line_layouts.specs.Layouts.{fields_of}
use Rattle.line_layouts.specs.Fitting.{Fitting}
use Rattle.line_layouts.specs.declared.Line.{Line}
use Rattle.line_layouts.specs.Judging.{Held}
use Rattle.line_records.specs.Walks.{Fit, Fits, Misfit, meant}
use Rattle.line_records.specs.Records.{meaning}
use Rattle.line_records.specs.Places.{record_line}

abbrev pub StoredMeant : Type 0
StoredMeant = (ends : Order) (m : Meaning) → Fitting m
    → meant ends m.tag (fields_of (layout.Record ends) m) ≡ Fits m.entries

abbrev pub MeantFits : Type 0
MeantFits = (ends : Order) (tag : Tag) (s : List ℕ) (es : List Entry) → meant ends tag s ≡ Fits es
    → Fitting (record { tag = tag; entries = es })

abbrev pub is_fit : {A : Type 0} → Fit A → Bool
is_fit (Fits a) = true
is_fit Misfit = false

abbrev pub kind_for : Tag → Kind
kind_for tag.Pcr = kind.Pcr
kind_for tag.Hbr = kind.Hbr
kind_for tag.Sbr = kind.Sbr
kind_for tag.Wir = kind.Wir
kind_for tag.Wrr = kind.Wrr

-- 7: the body doesn't fit its kind, whether a session judges it or a line is written of it
abbrev pub MeantRead : Type 0
MeantRead = (ends : Order) (tag : Tag) (b : List ℕ) → Bytes b
    → is_fit (meant ends tag b) ≡ fitting (read_body ends (kind_for tag) b)

abbrev pub JudgePromise : Order → List ℕ → Result Line Answer → Type 0
JudgePromise ends s j = Held (body s) (record_line ends s) (meaning ends s) j

-- "How the promises are held to account": no two different outcomes satisfy it
abbrev pub JudgedOnce : Type 0
JudgedOnce = (ends : Order) (s : List ℕ) → Once (JudgePromise ends s)
