-- What is shown of the tally: statements only. Each is proved in proofs/ under its name in small letters: those of the
-- tally in Tally.antt and Once.antt, those of a house's rows in Packed.antt. Document 01, demand 2: the count of accepted
-- part results by head, site and bin.
-- Assumes nothing.
use Rattle.std.specs.Prelude.{◌≡◌, true, ◌&&◌, List, map, ℕ, eqb, ltb, length}
use Rattle.rows.specs.Counts.{count, has}
use Rattle.house.specs.declared.Row.{Row}
use Rattle.house.specs.Tally.{row_of}
use Rattle.tallies.specs.Results.{PartResult, count_of, among, row, tally_of, has_row, rises}
use Rattle.tallies.specs.Packed.{keyed, RightResult, AllRight, packed, parts_in}

-- ---- the tally

-- for every head, site and bin there is a row with a count exactly if so many results have them, and not none
abbrev pub TallyCounts : Type 0
TallyCounts = (rs : List PartResult) (r : PartResult) (n : ℕ)
    → has_row r n (tally_of rs) ≡ (ltb 0 n && eqb n (count_of r rs))

-- the rows stand in rising order of head, then site, then bin
abbrev pub TallyRises : Type 0
TallyRises = (rs : List PartResult) → rises (tally_of rs) ≡ true

-- .. and no other rows do both: the two statements leave nothing of a report open
abbrev pub TallyOnce : Type 0
TallyOnce = (rs : List PartResult) (ws : List Row) → rises ws ≡ true
    → ((r : PartResult) (n : ℕ) → has_row r n ws ≡ (ltb 0 n && eqb n (count_of r rs)))
    → ws ≡ tally_of rs

-- ---- and the rows of a house

-- a result's number gives back its head, site and bin
abbrev pub KeyGives : Type 0
KeyGives = (r : PartResult) (n : ℕ) → RightResult r → row_of (count (keyed r) n) ≡ row r n

-- a slot's rows say the tally
abbrev pub TallyPacked : Type 0
TallyPacked = (rs : List PartResult) → AllRight rs → tally_of rs ≡ map row_of (packed rs)

-- a result's number has a row exactly if there was such a result
abbrev pub HasAmong : Type 0
HasAmong = (rs : List PartResult) (r : PartResult) → AllRight rs → RightResult r
    → has (keyed r) (packed rs) ≡ among r rs

-- every result counts as one part
abbrev pub PackedSum : Type 0
PackedSum = (rs : List PartResult) → parts_in (packed rs) ≡ length rs
