-- A session. Document 01, "The house, its slots and its rows": an open slot without its rows; #103, open wafers.
--
--   part_of, key_of   a part and a row's key as numbers that rise as head, then site, then bin do
--   part_head, part_site   the head and the site of a part that is such a number
--   smallest        the smallest of parts that rise
--   parts_of         a session's open parts
--   wafer_number     a wafer as a number, and wafer_head its head
--   wafers_of        a session's open wafers, by wafers_in; heads_in their heads
--   begun           a session that has followed nothing yet
--   sound           document 01's conditions on a sound session, all of a list
--   is_start         whether a stream has not begun, and Follows what it is once it has
--   LentParts       what a session's parts and wafers are when they are lent
-- Assumes nothing.
use Rattle.std.specs.Prelude.{ℕ, ◌+◌, ◌*◌, ◌/◌, ◌%◌, ◌≤◌, ◌≡◌, Bool, true, false, not, List, [], ◌∷◌, map, eqb, leb, length, get_or, take, drop, replicate}
use Rattle.prelude.specs.All.{all}
use Rattle.numbers.specs.declared.Order.{Order}
use Rattle.numbers.specs.declared.Order.TheVariants.{HighFirst}
use Rattle.values.specs.Values.{all_sites}
use Rattle.order.specs.declared.Place.{Place}
use Rattle.order.specs.declared.Place.TheVariants.{Start, Header, Lot, Setup, Body, Ended}
use Rattle.rising.specs.Rising.{rising, all_below}
use Rattle.session.specs.declared.Session.{Session}
use Rattle.session.specs.declared.Standing.{Standing}

-- up to 32 open parts
abbrev pub most_open : ℕ
most_open = 32

-- #103: up to 8 open wafers
abbrev pub most_wafers : ℕ
most_wafers = 8

-- those of the parts, and behind them those of the wafers
abbrev pub cell_count : ℕ
cell_count = 40

-- 14: the most part results that a session counts
abbrev pub most_results : ℕ
most_results = 4_294_967_295

abbrev pub part_of : ℕ → ℕ → ℕ
part_of head site = head * 256 + site

-- each of them is a byte
abbrev pub part_head : ℕ → ℕ
part_head part = part / 256 % 256

abbrev pub part_site : ℕ → ℕ
part_site part = part % 256

abbrev pub key_of : ℕ → ℕ → ℕ → ℕ
key_of head site bin = part_of head site * 65536 + bin

-- heads at most 254
abbrev pub past_parts : ℕ
past_parts = part_of all_sites 0

abbrev pub parts_of : Session → List ℕ
parts_of s = take s.standing.opened s.parts

-- #103: a wafer is kept with its site group, by its head
abbrev pub wafer_number : ℕ → ℕ → ℕ
wafer_number head group = part_of head group

abbrev pub wafer_head : ℕ → ℕ
wafer_head wafer = wafer / 256

abbrev pub wafers_in : ℕ → List ℕ → List ℕ
wafers_in wafers cells = take wafers (drop most_open cells)

abbrev pub heads_in : ℕ → List ℕ → List ℕ
heads_in wafers cells = map wafer_head (wafers_in wafers cells)

abbrev pub wafers_of : Session → List ℕ
wafers_of s = wafers_in s.standing.wafers s.parts

-- #101: of parts that rise, the first
abbrev pub smallest : List ℕ → ℕ
smallest parts = get_or parts 0 0

abbrev pub is_start : Place → Bool
is_start Start = true
is_start Header = false
is_start Lot = false
is_start Setup = false
is_start Body = false
is_start Ended = false

-- a stream that has begun, in a byte order
abbrev pub Follows : Order → Standing → Type 0
Follows order st = (is_start st.place ≡ false) × (st.order ≡ order)

-- a slot opened starts anew
abbrev pub begun : Session
begun =
    record {
      standing = record { place = Start; order = HighFirst; opened = 0; pcr = false; results = 0; wafers = 0 };
      parts = replicate cell_count 0;
    }

-- no part, PRR, PCR or wafer
abbrev pub nothing_yet : Standing → Bool
nothing_yet st = all (eqb st.opened 0 ∷ not st.pcr ∷ eqb st.results 0 ∷ eqb st.wafers 0 ∷ [])

-- #101, #103: no part and no wafer is open, and a PCR was accepted
abbrev pub may_end : Standing → Bool
may_end st = all (eqb st.opened 0 ∷ eqb st.wafers 0 ∷ st.pcr ∷ [])

-- before the body of a stream there is nothing yet; after MRR it is one that may end
abbrev pub stands_right : Place → Standing → Bool
stands_right Start st = nothing_yet st
stands_right Header st = nothing_yet st
stands_right Lot st = nothing_yet st
stands_right Setup st = nothing_yet st
stands_right Body st = true
stands_right Ended st = may_end st

-- a list in the first of some cells: at most so many, distinct, below a bound; rising, they are distinct
unfoldable pub kept_right : ℕ → ℕ → ℕ → List ℕ → Bool
kept_right most bound used cells =
    all (leb used most ∷ rising (take used cells) ∷ all_below bound (take used cells) ∷ [])

-- open parts are distinct, at most 32, heads at most 254
abbrev pub parts_right : ℕ → List ℕ → Bool
parts_right opened cells = kept_right most_open past_parts opened cells

abbrev pub head_cells : List ℕ → List ℕ
head_cells cells = map wafer_head (drop most_open cells)

-- #103: open wafers have distinct heads, at most 8, and a head is a byte
abbrev pub wafers_right : ℕ → List ℕ → Bool
wafers_right wafers cells = kept_right most_wafers 256 wafers (head_cells cells)

-- A house is sound, its conditions on a session
abbrev pub conditions : Session → List Bool
conditions s =
    parts_right s.standing.opened s.parts
    ∷ wafers_right s.standing.wafers s.parts
    ∷ stands_right s.standing.place s.standing
    ∷ []

unfoldable pub sound : Session → Bool
sound s = all (conditions s)

-- what is known of the cells that a sound session's parts and wafers are lent in
pub record LentParts (st : Standing) (cells : List ℕ) : Type 0 where
  pub long : length cells ≡ cell_count
  pub few : st.opened ≤ most_open
  pub within : st.opened ≤ length cells
  pub rises : rising (take st.opened cells) ≡ true
  pub few_wafers : st.wafers ≤ most_wafers
  pub heads_rise : rising (heads_in st.wafers cells) ≡ true
