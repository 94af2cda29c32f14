-- Laws of the house's definitions, as the functions' proofs cite them.
-- Assumes nothing.
use mathlib.Core.Path.{◌≡◌, refl, sym, ◌∙◌}
use Rattle.std.specs.Prelude.{Option, Some, None}
use mathlib.Core.Bool.{Bool, true, false, ◌&&◌, and-true, and-false}
use mathlib.Core.List.{List}
use Prim.Native.Nat.{ℕ, ◌+◌, ◌≤◌, ◌<◌}
use native.Mathlib.Numerals.{add-one}
use native.Mathlib.Omega.{arith}
use borrow.Author.Tests.{le-leb, lt-leb}
use lib.Dec.{leb}
use lib.ListN.{length, get_or, take, drop, set, drop_of_length-le, length-map, get_or-map}
use lib.Seq.{drop-cons, take-suc-set, take-suc}
use Rattle.prelude.proofs.Both.{both_left, both_right}
use Rattle.rising.specs.Rising.{rising}
use Rattle.rows.specs.Rows.{rows_right, rows_open, rows_fit, Kept}
use Rattle.rows.proofs.Laws.{right_apart}
use Rattle.house.specs.declared.Slot.{Slot}
use Rattle.house.specs.declared.House.{House}
use Rattle.house.specs.House.{row_count, keys_of, counts_of, free, unfilled, promised_from, promised}
use Rattle.house.specs.House.{taken_of, rows_sound, slot_sound, slots_sound, sound, unsound, soundness, LentKeys}
use Rattle.house.specs.House.{Lent}

-- ---- rows promised

module _ (slots : List Slot) (keys : List ℕ) (i : ℕ) (none : Slot) where
  pub promised_on : i < length slots
      → promised_from i (drop i slots) keys
      ≡ unfilled i (get_or slots i none) keys + promised_from (i + 1) (drop (i + 1) slots) keys
  unfolding promised_from
  promised_on h = rw (drop-cons slots i none h, add-one i)

  pub promised_none : length slots ≤ i → promised_from i (drop i slots) keys ≡ 0
  unfolding promised_from
  promised_none h = rw (drop_of_length-le slots {i = i} h)

-- ---- which slots are open

-- the first i cells tell, and those behind are still to be told
pub taken_on : (slots : List Slot) (cells : List Bool) (i : ℕ) (none : Slot) → i < length slots → i < length cells
    → take i cells ≡ take i (taken_of slots)
    → take (i + 1) (set cells i (get_or slots i none).taken) ≡ take (i + 1) (taken_of slots)
taken_on slots cells i none h g e =
    let told : i < length (taken_of slots) = rw (length-map slots (λ (s : Slot). s.taken)) h in
    rw (
      add-one i,
      take-suc-set cells i (get_or slots i none).taken g,
      take-suc (taken_of slots) i none.taken told,
      get_or-map (λ (s : Slot). s.taken) slots i none,
      e,
    )

-- ---- soundness, slot by slot

module _ (slots : List Slot) (keys counts : List ℕ) (i : ℕ) (none : Slot) where
  module _ (h : i < length slots) where
    pub slots_on : slots_sound i (drop i slots) keys counts
        ≡ (slot_sound i (get_or slots i none) keys counts && slots_sound (i + 1) (drop (i + 1) slots) keys counts)
    unfolding slots_sound
    slots_on = rw (drop-cons slots i none h, add-one i)

  pub slots_done : length slots ≤ i → slots_sound i (drop i slots) keys counts ≡ true
  unfolding slots_sound
  slots_done h = rw (drop_of_length-le slots {i = i} h)

module _ (taken : List Bool) (keys counts : List ℕ) where
  pub rows_not : (rows_fit keys counts && rising keys) ≡ false → rows_sound taken keys counts ≡ false
  unfolding rows_sound
  rows_not e = rw (right_apart taken keys counts) (go (rows_fit keys counts) (rising keys) (rows_open taken keys) e)
    where
      go : (fit rise shut : Bool) → (fit && rise) ≡ false → (rise && (shut && fit)) ≡ false
      go true rise shut f = rw f
      go false rise shut f = rw (and-false shut) (and-false rise)

  pub rows_are : (rows_fit keys counts && rising keys) ≡ true → rows_sound taken keys counts ≡ rows_open taken keys
  unfolding rows_sound
  rows_are e =
      rw (
        right_apart taken keys counts,
        both_left (rows_fit keys counts) (rising keys) e,
        both_right (rows_fit keys counts) (rising keys) e,
      )
      (and-true (rows_open taken keys))

-- ---- soundness, whole

module _ (h : House) where
  pub sound_many : row_count < h.used → sound h ≡ false
  unfolding sound
  sound_many g = rw (lt-leb h.used row_count g)

  module _ (within : h.used ≤ row_count) where
    pub sound_rows : rows_sound (taken_of h.slots) (keys_of h) (counts_of h) ≡ false → sound h ≡ false
    unfolding sound
    sound_rows e = rw (le-leb h.used row_count within, e)

    pub sound_slots : slots_sound 0 h.slots (keys_of h) (counts_of h) ≡ false → sound h ≡ false
    unfolding sound
    sound_slots e =
        rw (le-leb h.used row_count within, e) (and-false (rows_sound (taken_of h.slots) (keys_of h) (counts_of h)))

    pub sound_rooms : rows_sound (taken_of h.slots) (keys_of h) (counts_of h) ≡ true
        → slots_sound 0 h.slots (keys_of h) (counts_of h) ≡ true → sound h ≡ leb (promised h) (free h)
    unfolding sound
    sound_rooms rows e = rw (le-leb h.used row_count within, rows, e)

-- ---- what a test of soundness tells

module _ (h : House) where
  pub tells_unsound : sound h ≡ false → unsound ≡ soundness h
  tells_unsound e = rw e

  pub tells_sound : (n : ℕ) → sound h ≡ true → n ≡ promised h → Some n ≡ soundness h
  tells_sound n e is = rw (e, is)

  -- what was told, in either case
  told : {P : Type 0} → (soundness h ≡ None → sound h ≡ false → P)
      → (soundness h ≡ Some (promised h) → sound h ≡ true → P) → P
  told {P} none some = go (sound h) refl
    where
      go : (b : Bool) → sound h ≡ b → P
      go true e = some (rw e) e
      go false e = none (rw e) e

  module _ (s : Option ℕ) (is : s ≡ soundness h) where
    pub told_unsound : s ≡ None → sound h ≡ false
    told_unsound e = told (λ n f. f) (λ f t. cc)

    pub told_sound : (n : ℕ) → s ≡ Some n → sound h ≡ true
    told_sound n e = told (λ f t. cc) (λ f t. t)

    pub told_promised : (n : ℕ) → s ≡ Some n → n ≡ promised h
    told_promised n e = told (λ f t. cc) (λ f t. cc)

-- ---- what is lent

pub lent_kept : (keys counts : List ℕ) (used : ℕ) → Lent keys counts used → Kept keys counts used
lent_kept keys counts used l =
    record { fits = omega (arith, l.long, l.within); paired = l.paired ∙ sym l.long; rises = l.rises }

pub lent_keys : (keys counts : List ℕ) (used : ℕ) → Lent keys counts used → LentKeys keys used
lent_keys keys counts used l = record { long = l.long; within = l.within; rises = l.rises }

-- the rows that a house with sound rows lends
pub lent_of : (h : House) → length h.keys ≡ row_count → length h.counts ≡ row_count → h.used ≤ row_count
    → rows_sound (taken_of h.slots) (keys_of h) (counts_of h) ≡ true → Lent h.keys h.counts h.used
unfolding rows_sound
lent_of h long paired within e =
    record {
      long = long;
      paired = paired;
      within = within;
      rises = both_left (rising (keys_of h)) (rows_right (taken_of h.slots) (keys_of h) (counts_of h)) e;
    }
