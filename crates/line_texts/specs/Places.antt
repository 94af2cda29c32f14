-- A line taken apart as this code holds it: pieces by their places in the text.
--
--   places_of   where the pieces of a text stand, behind its tag
--   places_in   the same in the order of the columns
--   said_in     what a piece at a place says: text is told by where it stands, as much of it as is kept
--   line_in     all fields of a line
--   line_of     .. by the tag that it begins with
--   content_held   .. or the refusal
--   Ends, Next, CutInto, CutAt   what a function that cuts promises
-- Assumes nothing.
use Rattle.std.specs.Prelude.{◌≡◌, Bool, cond, ◌||◌, List, [], ◌∷◌, ℕ, ◌+◌, ◌-◌, ◌≤◌, ◌<◌, true, false, min, leb, ltb, length, get_or, drop, Option, Some, None, IfSome, Result, Ok, Err}
use Rattle.answers.specs.declared.Answer.{Answer}
use Rattle.output.specs.Placed.{part}
use Rattle.values.specs.declared.Name.{Name}
use Rattle.line_layouts.specs.declared.Tag.{Tag}
use Rattle.line_layouts.specs.declared.Column.{Column}
use Rattle.line_layouts.specs.declared.Said.{Said}
use Rattle.line_layouts.specs.declared.Said.TheVariants as said
use Rattle.line_layouts.specs.declared.Line.{Line}
use Rattle.line_layouts.specs.Arranging.{arranged}
use Rattle.line_layouts.specs.Columns.{columns, back}
use Rattle.line_layouts.specs.Entries.{Entry, named, entry_of, padded, Within}
use Rattle.line_layouts.specs.Fitting.{is_number}
use Rattle.line_layouts.specs.Judging.{no_line, held_by}
use Rattle.line_texts.specs.declared.Piece.{Piece}
use Rattle.line_texts.specs.Pieces.{split, numeral_in}
use Rattle.line_texts.specs.Texts.{tag_of, content_means}

-- ---- the places of pieces

-- the place of a piece that a line does not come to
abbrev pub no_place : Name
no_place = record { at = 0; len = 0 }

-- each piece stands behind the one before it and a separator
unfoldable pub places_from : ℕ → List (List ℕ) → List Name
places_from at [] = []
places_from at (p ∷ ps) = record { at = at; len = length p } ∷ places_from (at + length p + 1) ps

-- a tag has four bytes
abbrev pub places_of : ℕ → List ℕ → List Name
places_of sep s = places_from 4 (split sep (drop 4 s))

abbrev pub places_in : ℕ → List ℕ → Tag → List Name
places_in sep s tag = arranged no_place (back tag) (places_of sep s)

-- ---- what they say

abbrev pub number_said : Option ℕ → Said
number_said (Some n) = said.Number n
number_said None = said.Missing

abbrev pub text_said : ℕ → ℕ → ℕ → Said
text_said at len most = said.Text (record { at = at; len = min len most })

unfoldable pub said_in : Column → ℕ → List ℕ → Said
said_in c at [] = said.Missing
said_in c at (b ∷ bs) =
    cond (is_number c.form) (number_said (numeral_in c.form (b ∷ bs))) (text_said at (length (b ∷ bs)) c.most)

unfoldable pub fields_in : List ℕ → List Column → List Name → List Said
fields_in s [] ns = []
fields_in s (c ∷ cs) [] = []
fields_in s (c ∷ cs) (n ∷ ns) = said_in c n.at (named s n) ∷ fields_in s cs ns

unfoldable pub line_in : ℕ → List ℕ → Tag → Line
line_in sep s tag = record { tag = tag; fields = padded (fields_in s (columns tag) (places_in sep s tag)) }

abbrev pub line_tagged : ℕ → List ℕ → Option Tag → Line
line_tagged sep s (Some tag) = line_in sep s tag
line_tagged sep s None = no_line

abbrev pub line_of : ℕ → List ℕ → Line
line_of sep s = line_tagged sep s (tag_of s)

-- the whole of what this code holds of a line without its ending
unfoldable pub content_held : ℕ → List ℕ → Result Line Answer
content_held sep s = held_by (line_of sep s) (content_means sep s)

-- a field says an entry, by bytes that are there
pub record Holds (s : List ℕ) (f : Said) (e : Entry) : Type 0 where
  pub says : entry_of s f ≡ e
  pub there : Within s f

-- text is cut short enough for a count byte
abbrev pub short : Column → Bool
short c = is_number c.form || leb c.most 255

-- ---- one cut after the other

-- the pieces from a place on, if there are more
abbrev pub left : ℕ → Option ℕ → List ℕ → List (List ℕ)
left sep None s = []
left sep (Some k) s = split sep (drop k s)

abbrev pub places_left : ℕ → Option ℕ → List ℕ → List Name
places_left sep None s = []
places_left sep (Some k) s = places_from k (split sep (drop k s))

-- behind the end of a piece a separator stands, or the text ends
abbrev pub next_from : ℕ → List ℕ → Option ℕ
next_from to s = cond (ltb to (length s)) (Some (to + 1)) None

-- the end of the piece that begins at a place
pub record Ends (sep : ℕ) (s : List ℕ) (from to : ℕ) : Type 0 where
  pub low : from ≤ to
  pub high : to ≤ length s
  pub cut : split sep (drop from s) ≡ part from (to - from) s ∷ left sep (next_from to s) s

-- the next piece, and what is left behind it
pub record Next (sep : ℕ) (s : List ℕ) (from : Option ℕ) (p : Piece) : Type 0 where
  pub is : p.place ≡ get_or (places_left sep from s) 0 no_place
  pub on : IfSome p.next (λ k. k ≤ length s)
  pub behind : places_left sep p.next s ≡ drop 1 (places_left sep from s)

-- a piece for each column
pub record CutInto (sep : ℕ) (s : List ℕ) (tag : Tag) (places : List Name) : Type 0 where
  pub long : 4 ≤ length s
  pub is : (i : ℕ) → i < length (columns tag) → get_or places i no_place ≡ get_or (places_of sep s) i no_place

-- .. and no more of them, or too many
abbrev pub CutAt : ℕ → List ℕ → Tag → Result (List Name) (List Name) → Type 0
CutAt sep s tag (Ok places) =
    CutInto sep s tag places × (leb (length (split sep (drop 4 s))) (length (columns tag)) ≡ true)
CutAt sep s tag (Err places) =
    CutInto sep s tag places × (leb (length (split sep (drop 4 s))) (length (columns tag)) ≡ false)
