-- What a line means. Document 01, "Count lines", Read; #103, WIR and WRR lines.
--
--   content       a line without its ending
--   unbroken      no CR or LF is left
--   tag_of         which line it is
--   line_meaning_by what a line means, or that it is none: 18; the first argument is the separator
--   line_meaning   .. where it is `|`
-- Assumes nothing.
use Rattle.std.specs.Prelude.{◌≡◌, Bool, true, false, cond, not, ◌&&◌, ◌||◌, List, [], ◌∷◌, ℕ, ◌-◌, eqb, leb, length, get_or, take, drop, Option, Some, None}
use Rattle.prelude.specs.Choice.{◌unless◌then◌}
use Rattle.prelude.specs.Each.{each}
use Rattle.answers.specs.declared.Answer.TheVariants.{NotACountLine}
use Rattle.line_layouts.specs.declared.Tag.{Tag}
use Rattle.line_layouts.specs.declared.Tag.TheVariants.{Pcr, Hbr, Sbr, Wir, Wrr}
use Rattle.line_layouts.specs.declared.Line.{Line}
use Rattle.line_layouts.specs.Columns.{separator, line_feed, carriage_return, tag_text, columns}
use Rattle.line_layouts.specs.Entries.{Missing, entries_of}
use Rattle.line_layouts.specs.Fitting.{sits}
use Rattle.line_layouts.specs.Judging.{Judging, Says, Faulty}
use Rattle.line_texts.specs.Pieces.{split, gathered, fields_fit, entries_in}

abbrev pub is_break : ℕ → Bool
is_break b = eqb b line_feed || eqb b carriage_return

-- the k-th byte from the end
abbrev pub from_end : ℕ → List ℕ → ℕ
from_end k s = get_or s (length s - k) 0

-- one line ending in nothing, LF, CR, or CR LF: how many bytes its ending has
unfoldable pub ending : List ℕ → ℕ
ending s =
    cond (eqb (from_end 2 s) carriage_return && eqb (from_end 1 s) line_feed) 2 (cond (is_break (from_end 1 s)) 1 0)

abbrev pub content : List ℕ → List ℕ
content s = take (length s - ending s) s

-- a CR or LF before its ending: 18
abbrev pub unbroken : List ℕ → Bool
unbroken s = each (λ (b : ℕ). not (is_break b)) s

abbrev pub starts : List ℕ → List ℕ → Bool
starts [] s = true
starts (t ∷ ts) [] = false
starts (t ∷ ts) (b ∷ bs) = eqb b t && starts ts bs

abbrev pub tag_among : List Tag → List ℕ → Option Tag
tag_among [] s = None
tag_among (tag ∷ tags) s = cond (starts (tag_text tag) s) (Some tag) (tag_among tags s)

-- so a space at the start of the line, and any other text there, is 18
unfoldable pub tag_of : List ℕ → Option Tag
tag_of s = tag_among (Pcr ∷ Hbr ∷ Sbr ∷ Wir ∷ Wrr ∷ []) s

abbrev pub not_aLine : Judging
not_aLine = Faulty NotACountLine

-- too many fields, even empty ones: 18; head and site are both empty (all sites) or both given
abbrev pub fields_mean : ℕ → Tag → List (List ℕ) → Judging
fields_mean sep tag ps =
    not_aLine unless leb (length ps) (length (columns tag)) then
    not_aLine unless fields_fit sep (columns tag) (gathered tag ps) then
    not_aLine unless sits Missing (columns tag) (entries_in (columns tag) (gathered tag ps)) then
    Says (record { tag = tag; entries = entries_in (columns tag) (gathered tag ps) })

abbrev pub tagged_means : ℕ → Option Tag → List ℕ → Judging
tagged_means sep (Some tag) s = fields_mean sep tag (split sep (drop 4 s))
tagged_means sep None s = not_aLine

unfoldable pub content_means : ℕ → List ℕ → Judging
content_means sep s = not_aLine unless unbroken s then tagged_means sep (tag_of s) s

abbrev pub line_meaning_by : ℕ → List ℕ → Judging
line_meaning_by sep line = content_means sep (content line)

-- fields are separated by `|`
abbrev pub line_meaning : List ℕ → Judging
line_meaning line = line_meaning_by separator line

-- ---- as this code holds it

-- head and site, wherever the bytes that fields name stand
pub record Sited (line : Line) (r : Bool) : Type 0 where
  pub all : (source : List ℕ) → r ≡ sits Missing (columns line.tag) (entries_of source line)
