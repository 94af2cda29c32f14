-- How the lines that end a stream are written.
--
--   cell, two_cells, cells   a row's numbers, each with the byte behind it; hbr_line, with its tag before them
--   most_line          bytes that no such line passes, and most_refused, that no refusal's line does
--   PutLine           what a writer of such a line returns and leaves
--   LaidAt            what a writer that lays bytes at an offset returns and leaves
-- Assumes nothing.
use Rattle.std.specs.Prelude.{◌≡◌, List, [], ◌∷◌, ◌++◌, ℕ, ◌+◌, ◌≤◌, length, take, drop}
use Rattle.output.specs.Placed.{Put}
use Rattle.digits.specs.Digits.{digits}
use Rattle.line_layouts.specs.declared.Tag.TheVariants.{Hbr}
use Rattle.line_layouts.specs.Columns.{separator, line_feed, tag_text}

-- document 01, "Tally program", an HBR line (head, site, bin, count): a number, and the separator or line feed behind it
abbrev pub cell : ℕ → ℕ → List ℕ
cell n mark = digits n ++ mark ∷ []

abbrev pub two_cells : ℕ → ℕ → ℕ → List ℕ
two_cells a b mark = cell a separator ++ cell b mark

abbrev pub cells : ℕ → ℕ → ℕ → ℕ → List ℕ
cells head site bin count = two_cells head site separator ++ two_cells bin count line_feed

abbrev pub hbr_line : ℕ → ℕ → ℕ → ℕ → List ℕ
hbr_line head site bin count = tag_text Hbr ++ cells head site bin count

-- four bytes, and four numbers of at most ten digits, each with the byte behind it
abbrev pub most_line : ℕ
most_line = 48

-- 33 bytes of words and LF, a number of at most twenty digits, and three of at most ten
abbrev pub most_refused : ℕ
most_refused = 83

pub record PutLine (bytes old : List ℕ) (r : ℕ) (new : List ℕ) : Type 0 where
  pub put : Put bytes old r new
  pub few : r ≤ most_line

pub record LaidAt (bytes old : List ℕ) (at r : ℕ) (new : List ℕ) : Type 0 where
  pub count : r ≡ length bytes
  pub few : r ≤ most_line
  pub laid : new ≡ take at old ++ (bytes ++ drop (at + length bytes) old)
