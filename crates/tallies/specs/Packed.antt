-- Part results as the house keeps them: under one number each, in the rows of its slot.
--
--   keyed         the number of a result
--   RightResult   head, site and bin as an accepted PRR has them; AllRight: of all
--   packed        the rows that a slot has after such results, the last first
--   parts_in       how many parts rows count
-- Assumes nothing.
use Rattle.std.specs.Prelude.{ℕ, ◌+◌, ◌≤◌, ◌<◌, List, [], ◌∷◌}
use Rattle.values.specs.Values.{most_head, most_bin}
use Rattle.session.specs.Session.{key_of}
use Rattle.rows.specs.Counts.{Count, plus}
use Rattle.tallies.specs.Results.{PartResult}

abbrev pub keyed : PartResult → ℕ
keyed r = key_of r.head r.site r.bin

-- value rules: a head is not 255, a site is any byte, a bin is at most 32,767
pub record RightResult (r : PartResult) : Type 0 where
  pub head : r.head ≤ most_head
  pub site : r.site < 256
  pub bin : r.bin ≤ most_bin

abbrev pub AllRight : List PartResult → Type 0
AllRight [] = Unit
AllRight (r ∷ rs) = RightResult r × AllRight rs

unfoldable pub packed : List PartResult → List Count
packed [] = []
packed (r ∷ rs) = plus (keyed r) (packed rs)

unfoldable pub parts_in : List Count → ℕ
parts_in [] = 0
parts_in (c ∷ cs) = c.count + parts_in cs
