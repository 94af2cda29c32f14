-- Laws of the report's definitions, as the functions' proofs cite them: one an answer, each under the tests before it,
-- and what a report's rows are in a sound house.
-- Assumes nothing.
use mathlib.Core.Path.{◌≡◌, refl, ap, sym, ◌∙◌}
use mathlib.Core.Bool.{Bool, true, false, cond, false≢true}
use mathlib.Core.List.{List, [], ◌∷◌, ◌++◌}
use Prim.Native.Nat.{ℕ, zero, suc, ◌+◌, ◌≤◌, ◌<◌, min}
use native.Mathlib.Omega.{arith}
use borrow.Author.Tests.{le-leb, lt-leb, leb-true, lt-ltb, ltb-true, ltb-false}
use lib.Dec.{ltb}
use lib.ListN.{length, get_or, set, drop, length-append, length-set, length-take}
use lib.Seq.{get_or-take, get_or-set_same, get_or-set_other, length-take-le, drop-cons, set_at, append_snoc}
use Rattle.prelude.specs.All.{all}
use Rattle.prelude.specs.Checks.{tests}
use Rattle.prelude.proofs.All.{all_at}
use Rattle.prelude.proofs.Both.{both_left}
use Rattle.prelude.proofs.Checks.{checked_by}
use Rattle.answers.specs.declared.Answer.TheVariants.{Done, OutputTooShort}
use Rattle.rising.specs.Rising.{rising}
use Rattle.rows.specs.Rows.{slot_count, slot_of, held_by, sum_by, rows_right, slot_rank}
use Rattle.rows.proofs.Laws.{held_ranks, held_within, run_end, run_own, run_within, count_within}
use Rattle.house.specs.declared.Slot.{Slot}
use Rattle.house.specs.declared.House.{House}
use Rattle.house.specs.declared.Row.{Row}
use Rattle.house.specs.declared.Reported.{Reported}
use Rattle.house.specs.House.{row_count, no_slot, keys_of, counts_of, taken_of, rows_sound, sound}
use Rattle.house.specs.Calls.{slot_at, slot_checks}
use Rattle.house.specs.Deliver.{past_counts}
use Rattle.house.specs.Report.{keyed_row, row_at, rows_of, rows_from, unreported, report_checks, reported, listed}
use Rattle.house.specs.Report.{filled, no_rows, listing}
use Rattle.house.proofs.Calling.{OpenSlot, slot_told, told_within, told_rows, IsOpen, is_open_lem}

-- ---- the answers

module _ (h : House) (slot long : ℕ) where
  module _ (fine : sound h ≡ true) (there : slot < slot_count) (opened : (slot_at h slot).taken ≡ true) (n : ℕ)
      (is : n ≡ held_by slot (keys_of h)) where
    pub report_short : long < n → reported h slot long ≡ unreported OutputTooShort
    unfolding reported
    report_short e = rw (fine, lt-ltb slot slot_count there, opened, ← is, lt-leb n long e)

    pub report_done : n ≤ long → reported h slot long ≡ record { answer = Done; rows = n }
    unfolding reported
    report_done e = rw (fine, lt-ltb slot slot_count there, opened, ← is, le-leb n long e)

-- ---- a sound house

pub told_rises : (h : House) → sound h ≡ true → rising (keys_of h) ≡ true
unfolding rows_sound
told_rises h fine =
    both_left (rising (keys_of h)) (rows_right (taken_of h.slots) (keys_of h) (counts_of h)) (told_rows h fine)

-- past the last slot none is open
pub open_within : (slots : List Slot) (i : ℕ) → (get_or slots i no_slot).taken ≡ true → i < length slots
open_within [] i e = absurd (false≢true e)
open_within (s ∷ ss) zero e = omega arith
open_within (s ∷ ss) (suc i) e = omega (arith, open_within ss i e)

-- ---- the rows

-- there is a row only of an open slot of a sound house
module _ (h : House) (slot i : ℕ) (row : i < rows_of h slot) where
  holds : all (tests (slot_checks h slot)) ≡ true
  unfolding rows_of
  holds = go (all (tests (slot_checks h slot))) refl
    where
      go : (t : Bool) → all (tests (slot_checks h slot)) ≡ t → all (tests (slot_checks h slot)) ≡ true
      go true e = e
      go false e =
          let none : rows_of h slot ≡ 0 = rw e in
          absurd (omega (arith, row, none))

  told : IsOpen h slot
  told = is_open_lem h slot holds

  pub row_fine : sound h ≡ true
  row_fine = told.fine

  pub row_there : slot < slot_count
  row_there = told.inside

  pub row_open : (slot_at h slot).taken ≡ true
  row_open = told.opened

  pub row_held : i < held_by slot (keys_of h)
  unfolding rows_of
  row_held =
      let held : rows_of h slot ≡ held_by slot (keys_of h) = rw holds in
      omega (arith, row, held)

  -- it stands among the rows in use
  row_before : slot_rank slot (keys_of h) + i < slot_rank (suc slot) (keys_of h)
  row_before =
      omega (arith, row_held, held_ranks slot (keys_of h) (told_rises h row_fine), run_end slot (keys_of h))

  pub row_slot : OpenSlot slot (slot_at h slot) (keys_of h) (counts_of h)
  row_slot = slot_told h slot row_fine (open_within h.slots slot row_open) row_open

  module _ (long : length h.keys ≡ row_count) where
    keys_long : length (keys_of h) ≡ h.used
    keys_long = length-take-le h.used h.keys (omega (arith, long, told_within h row_fine))

    pub row_used : slot_rank slot (keys_of h) + i < h.used
    row_used =
        omega (arith, row_before, run_end slot (keys_of h), run_within slot (keys_of h), keys_long)

    -- its count is part of the slot's sum, which is its results
    pub row_count_lem : length h.counts ≡ row_count
        → get_or h.counts (slot_rank slot (keys_of h) + i) 0 ≤ (slot_at h slot).session.standing.results
    row_count_lem paired =
        let at = slot_rank slot (keys_of h) + i in
        let counts_long : length (counts_of h) ≡ h.used =
        length-take-le h.used h.counts (omega (arith, paired, told_within h row_fine)) in
        let own : slot_of (get_or (keys_of h) at 0) ≡ slot =
        run_own slot (keys_of h) at (told_rises h row_fine) (omega arith) row_before in
        let part : get_or (counts_of h) at 0 ≤ sum_by (slot_of (get_or (keys_of h) at 0)) (keys_of h) (counts_of h) =
        count_within (keys_of h) (counts_of h) at (counts_long ∙ sym keys_long)
        (omega (arith, row_used, keys_long)) in
        let sum : sum_by (slot_of (get_or (keys_of h) at 0)) (keys_of h) (counts_of h)
        ≡ (slot_at h slot).session.standing.results =
        ap (λ (s : ℕ). sum_by s (keys_of h) (counts_of h)) own
        ∙ row_slot.sum in
        omega (arith, part, sum, get_or-take h.used h.counts at 0 row_used)

-- ---- a report that reads its rows where they stand

pub rows_begin : (h : House) (slot rows : ℕ) → 0 < rows → rows_from h slot rows ≡ slot_rank slot (keys_of h)
rows_begin h slot zero some = absurd (omega (arith, some))
rows_begin h slot (suc n) some = refl

module _ (h : House) (slot rows from i : ℕ) (held : rows ≤ rows_of h slot) (low : i < rows)
    (is : from ≡ rows_from h slot rows) where
  stands : from + i ≡ slot_rank slot (keys_of h) + i
  stands = ap (λ (n : ℕ). n + i) (is ∙ rows_begin h slot rows (omega (arith, low)))

  row : i < rows_of h slot
  row = omega (arith, held, low)

  pub stands_within : length h.keys ≡ row_count → from + i < row_count
  stands_within long =
      omega (arith, stands, row_used h slot i row long, told_within h (row_fine h slot i row))

  -- its count fits: the slot's results are at most 4,294,967,295
  pub stands_low : length h.keys ≡ row_count → length h.counts ≡ row_count
      → get_or h.counts (from + i) 0 < past_counts
  stands_low long paired =
      rw stands (omega (arith, row_count_lem h slot i row long paired, (row_slot h slot i row).few))

  pub stands_told : keyed_row (get_or h.keys (from + i) 0) (get_or h.counts (from + i) 0) ≡ row_at h slot i
  unfolding row_at
  stands_told = rw stands

-- ---- how many rows are written: no more than there are, nor than the slice is long

pub few : (h : House) (slot long : ℕ)
    → ((reported h slot long).rows ≤ rows_of h slot) × ((reported h slot long).rows ≤ long)
unfolding reported rows_of
few h slot long =
    let held = held_by slot (keys_of h) in
    checked_by unreported (λ (r : Reported). (r.rows ≤ rows_of h slot) × (r.rows ≤ long)) (report_checks h slot long)
    (record { answer = Done; rows = held }) (λ a. (omega arith, omega arith)) (λ e.
    let at = all_at (tests (report_checks h slot long)) e in
    let all : rows_of h slot ≡ held = rw (at 0, at 1, at 2) in
    (omega (arith, all), leb-true held long (at 3)))

-- .. and a house has no more rows than 1,024
pub rows_few : (h : House) (slot : ℕ) → rows_of h slot ≤ row_count
unfolding rows_of
rows_few h slot = go (all (tests (slot_checks h slot))) refl
  where
    go : (t : Bool) → all (tests (slot_checks h slot)) ≡ t → cond t (held_by slot (keys_of h)) 0 ≤ row_count
    go false e = omega arith
    go true e =
        let short : length (keys_of h) ≡ min h.used (length h.keys) = length-take h.used h.keys in
        omega (arith, told_within h (is_open_lem h slot e).fine, held_within slot (keys_of h), short)

-- ---- rows listed, and a slice filled with them

pub length_listed : (row : ℕ → Row) (n : ℕ) → length (listed row n) ≡ n
length_listed row zero = refl
length_listed row (suc n) = rw (length-append, length_listed row n) (omega arith)

-- a slice filled is the rows listed, and behind them what stood there
pub filled_listed : (row : ℕ → Row) (n : ℕ) (old : List Row) → n ≤ length old
    → filled row n old ≡ listed row n ++ drop n old
filled_listed row zero old h = refl
filled_listed row (suc n) old h =
    rw (filled_listed row n old (omega arith), drop-cons old n (row n) (omega arith))
    (set_at (listed row n) _ (drop (suc n) old) (row n) n (length_listed row n)
    ∙ sym (append_snoc (listed row n) (row n) (drop (suc n) old)))

-- ---- a slice filled

pub length_filled : (row : ℕ → Row) (n : ℕ) (old : List Row) → length (filled row n old) ≡ length old
length_filled row zero old = refl
length_filled row (suc i) old = length-set (filled row i old) i (row i) ∙ length_filled row i old

pub filled_at : (row : ℕ → Row) (n : ℕ) (old : List Row) (i : ℕ) (d : Row) → n ≤ length old → i < n
    → get_or (filled row n old) i d ≡ row i
filled_at row zero old i d room low = absurd (omega (arith, low))
filled_at row (suc n) old i d room low =
    go (ltb i n) refl (λ less. filled_at row n old i d (omega (arith, room)) less)
  where
    go : (t : Bool) → ltb i n ≡ t → (i < n → get_or (filled row n old) i d ≡ row i)
        → get_or (set (filled row n old) n (row n)) i d ≡ row i
    go true e earlier =
        let less : i < n = ltb-true i n e in
        get_or-set_other (filled row n old) n i (row n) d (λ same. omega (arith, same, less)) ∙ earlier less
    go false e earlier =
        let last : i ≡ n = omega (arith, ltb-false i n e, low) in
        rw last (get_or-set_same (filled row n old) n (row n) d (omega (arith, room, length_filled row n old)))

-- ---- a report by value

module _ (h : House) (slot long : ℕ) where
  pub listing_reported : (listing h slot long).reported ≡ reported h slot long
  unfolding listing
  listing_reported = refl

  pub listing_few : (listing h slot long).reported.rows ≤ row_count
  unfolding listing
  listing_few = omega (arith, (few h slot long).0, rows_few h slot)

  pub listing_at : (i : ℕ) (d : Row) → i < (listing h slot long).reported.rows
      → get_or (listing h slot long).rows i d ≡ row_at h slot i
  unfolding listing
  listing_at i d low =
      filled_at (row_at h slot) (reported h slot long).rows no_rows i d (omega (arith, listing_few)) low
