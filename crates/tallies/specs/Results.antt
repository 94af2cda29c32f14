-- Part results, and the tally of them, by head, site and bin as a PRR says them. Document 01, demand 2, and Calls,
-- Report: rows in rising order of head, then site, then bin. No number here packs them together.
--
--   PartResult   one accepted PRR: its head, its site, its hardware bin
--   count_of      how many results have a head, a site and a bin
--   among        whether any has
--   below        the order of a report
--   tally_of      a row for each head, site and bin that there is, with its count, in that order
--   has_row       whether rows have one of a head, a site and a bin with a count
--   rises        whether rows stand in the order of a report
-- Assumes nothing.
use Rattle.std.specs.Prelude.{ℕ, ◌+◌, Bool, true, false, cond, ◌&&◌, ◌||◌, List, [], ◌∷◌, eqb, ltb}
use Rattle.prelude.specs.Each.{each}
use Rattle.house.specs.declared.Row.{Row}

pub record PartResult : Type 0 where
  pub head : ℕ
  pub site : ℕ
  pub bin : ℕ

abbrev pub same : PartResult → PartResult → Bool
same r q = eqb r.head q.head && (eqb r.site q.site && eqb r.bin q.bin)

-- every accepted PRR counts as one part
unfoldable pub count_of : PartResult → List PartResult → ℕ
count_of r [] = 0
count_of r (q ∷ qs) = cond (same r q) (count_of r qs + 1) (count_of r qs)

unfoldable pub among : PartResult → List PartResult → Bool
among r [] = false
among r (q ∷ qs) = same r q || among r qs

-- rising order of head, then site, then bin
abbrev pub below : PartResult → PartResult → Bool
below r q =
    ltb r.head q.head
    || (eqb r.head q.head
    && (ltb r.site q.site || (eqb r.site q.site && ltb r.bin q.bin)))

abbrev pub result_in : Row → PartResult
result_in w = record { head = w.head; site = w.site; bin = w.bin }

abbrev pub row : PartResult → ℕ → Row
row r n = record { head = r.head; site = r.site; bin = r.bin; count = n }

-- one part more: its row counts one more, or it gets a row in its order
unfoldable pub counting : PartResult → List Row → List Row
counting r [] = row r 1 ∷ []
counting r (w ∷ ws) =
    cond (below r (result_in w)) (row r 1 ∷ (w ∷ ws))
    (cond (same r (result_in w)) (row r (w.count + 1) ∷ ws) (w ∷ counting r ws))

-- the results are listed last first
unfoldable pub tally_of : List PartResult → List Row
tally_of [] = []
tally_of (r ∷ rs) = counting r (tally_of rs)

unfoldable pub has_row : PartResult → ℕ → List Row → Bool
has_row r n [] = false
has_row r n (w ∷ ws) = same r (result_in w) && eqb n w.count || has_row r n ws

-- each row before all later ones, so that no two have one head, site and bin
abbrev pub before_all : PartResult → List Row → Bool
before_all r ws = each (λ (w : Row). below r (result_in w)) ws

unfoldable pub rises : List Row → Bool
rises [] = true
rises (w ∷ ws) = before_all (result_in w) ws && rises ws
