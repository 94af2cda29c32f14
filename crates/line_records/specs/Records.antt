-- What a record means that has a line. Document 01, "Record frame and kinds", PCR, HBR and SBR; #103, WIR and WRR;
-- orders of checks, 3, 6, 7.
--
--   count_tag   the line of a kind of record
--   meaning    what a record means, or the answer that it is refused with
-- Assumes nothing.
use Rattle.std.specs.Prelude.{List, ℕ, Option, Some, None}
use Rattle.prelude.specs.Choice.{◌unless◌then◌}
use Rattle.answers.specs.declared.Answer.TheVariants.{NotOneRecord, UnknownKind, BodyMisfit}
use Rattle.numbers.specs.declared.Order.{Order}
use Rattle.kinds.specs.declared.Kind.{Kind}
use Rattle.kinds.specs.declared.Kind.TheVariants as kind
use Rattle.kinds.specs.Kinds.{kind_of}
use Rattle.frames.specs.Frames.{rec_typ, rec_sub, body, is_record}
use Rattle.line_layouts.specs.declared.Tag.{Tag}
use Rattle.line_layouts.specs.declared.Tag.TheVariants as tag
use Rattle.line_layouts.specs.Entries.{Entry}
use Rattle.line_layouts.specs.Judging.{Judging, Says, Faulty}
use Rattle.line_records.specs.Walks.{Fit, Fits, Misfit, meant}

-- 6, when writing text: not PCR, HBR or SBR; #103, nor WIR or WRR
abbrev pub count_tag : Kind → Option Tag
count_tag kind.Pcr = Some tag.Pcr
count_tag kind.Hbr = Some tag.Hbr
count_tag kind.Sbr = Some tag.Sbr
count_tag kind.Wir = Some tag.Wir
count_tag kind.Wrr = Some tag.Wrr
count_tag kind.Far = None
count_tag kind.Atr = None
count_tag kind.Mir = None
count_tag kind.Mrr = None
count_tag kind.Rdr = None
count_tag kind.Sdr = None
count_tag kind.Pir = None
count_tag kind.Prr = None
count_tag (kind.Remaining k) = None
count_tag kind.Custom = None
count_tag kind.Unknown = None

-- 7: the body doesn't fit its kind
abbrev pub body_means : Tag → Fit (List Entry) → Judging
body_means tag (Fits es) = Says (record { tag = tag; entries = es })
body_means tag Misfit = Faulty BodyMisfit

abbrev pub tagged_means : Option Tag → Order → List ℕ → Judging
tagged_means (Some tag) ends b = body_means tag (meant ends tag b)
tagged_means None ends b = Faulty UnknownKind

-- head and site or all sites, the numbers, each optional one a value or missing, the name's bytes; #103, a time of 0 is
-- missing. Writing checks 3, 6, 7
unfoldable pub meaning : Order → List ℕ → Judging
meaning ends s =
    Faulty NotOneRecord unless is_record ends s then
    tagged_means (count_tag (kind_of (rec_typ s) (rec_sub s))) ends (body s)
