-- Laws of the calls, as the functions' proofs cite them: what soundness tells, and one law an answer, each under the
-- tests before it, in the order of the checks.
-- Assumes nothing.
use mathlib.Core.Path.{◌≡◌, refl, ap, sym, ◌∙◌}
use mathlib.Core.Bool.{true, false}
use mathlib.Core.List.{List, [], ◌∷◌}
use Prim.Native.Nat.{ℕ, zero, suc, ◌+◌, ◌-◌, ◌≤◌, ◌<◌}
use native.Mathlib.Nat.{add-zero, zero-add}
use native.Mathlib.Omega.{arith}
use borrow.Author.Tests.{le-leb, lt-leb, lt-ltb, le-ltb, leb-true, ltb-true, eqb-true, not-true}
use lib.ListN.{length, get_or, set, get_or-map}
use lib.Seq.{length-take-le, set-get_or}
use Rattle.prelude.specs.All.{all}
use Rattle.prelude.specs.Checks.{tests}
use Rattle.prelude.proofs.All.{all_at}
use Rattle.prelude.proofs.Both.{both_left, both_right}
use Rattle.answers.specs.declared.Answer.{Answer}
use Rattle.answers.specs.declared.Answer.TheVariants as answer
use Rattle.rising.specs.Rising.{rising, all_below}
use Rattle.rows.specs.Rows.{slot_count, slot_of, held_by, sum_by, rows_right}
use Rattle.rows.specs.Rows.{slot_dropped, Rows, rows}
use Rattle.rows.proofs.Laws.{count_within, row_taken_lem, right_at}
use Rattle.session.specs.Session as session
use Rattle.session.specs.Session.{most_results}
use Rattle.session.specs.declared.Session.{Session}
use Rattle.session.specs.declared.Verdict.{Verdict}
use Rattle.session.specs.declared.Change.{Change}
use Rattle.session.specs.declared.Verdict.TheVariants.{Refused, Taken}
use Rattle.session.proofs.Laws.{sound_lent}
use Rattle.settling.specs.Settling.{changed}
use Rattle.judging.specs.Judge.{verdict_on}
use Rattle.house.specs.declared.Slot.{Slot}
use Rattle.house.specs.declared.House.{House}
use Rattle.house.specs.declared.Room.{Room}
use Rattle.house.specs.House.{row_count, carry_length, no_slot, closed_slot, opened_slot, keys_of, counts_of, free}
use Rattle.house.specs.House.{unfilled, promised_from, promised, taken_of, rows_sound, open_conditions, slot_sound}
use Rattle.house.specs.House.{slots_sound, conditions, sound, Lent}
use Rattle.house.specs.Deliver.{Outcome, core, settled, past_counts, LentCore}
use Rattle.house.specs.Calls.{slot_at, with_slot, answered, open_checks, open_slot, slot_checks, close_slot, room_in}
use Rattle.house.specs.Calls.{room_of, core_of, delivered_to, settled_to, with_outcome, deliver, figures_of}
use Rattle.house.proofs.Laws.{lent_of}
use Rattle.house.proofs.Delivering.{settled_refused, settled_taken, delivered_settled}

-- ---- what soundness tells

module _ (h : House) (e : sound h ≡ true) where
  -- each of the conditions
  told_at : (i : ℕ) → get_or (conditions h) i true ≡ true
  unfolding sound
  told_at = all_at (conditions h) e

  pub told_within : h.used ≤ row_count
  told_within = leb-true h.used row_count (told_at 0)

  pub told_rows : rows_sound (taken_of h.slots) (keys_of h) (counts_of h) ≡ true
  told_rows = told_at 1

  pub told_slots : slots_sound 0 h.slots (keys_of h) (counts_of h) ≡ true
  told_slots = told_at 2

  pub told_rooms : promised h ≤ free h
  told_rooms = leb-true (promised h) (free h) (told_at 3)

  pub told_lent : length h.keys ≡ row_count → length h.counts ≡ row_count → Lent h.keys h.counts h.used
  told_lent long paired = lent_of h long paired told_within told_rows

-- ---- what it tells of a slot

pub record OpenSlot (i : ℕ) (s : Slot) (keys counts : List ℕ) : Type 0 where
  pub floor : s.floor ≤ row_count
  pub carry : s.held ≤ carry_length
  pub session : session.sound s.session ≡ true
  pub few : s.session.standing.results ≤ most_results
  pub sum : sum_by i keys counts ≡ s.session.standing.results

pub open_told : (i : ℕ) (s : Slot) (keys counts : List ℕ) → s.taken ≡ true → slot_sound i s keys counts ≡ true
    → OpenSlot i s keys counts
unfolding slot_sound
open_told i s keys counts t e =
    let all : all (open_conditions i s keys counts) ≡ true = rw t at e in
    let at = all_at (open_conditions i s keys counts) all in
    record {
      floor = leb-true s.floor row_count (at 0);
      carry = leb-true s.held carry_length (at 1);
      session = at 2;
      few = leb-true s.session.standing.results most_results (at 3);
      sum = eqb-true (sum_by i keys counts) s.session.standing.results (at 4);
    }

pub slots_at : (k : ℕ) (slots : List Slot) (keys counts : List ℕ) (j : ℕ) (none : Slot)
    → slots_sound k slots keys counts ≡ true → j < length slots
    → slot_sound (k + j) (get_or slots j none) keys counts ≡ true
unfolding slots_sound
slots_at k [] keys counts j none e h = absurd (omega arith)
slots_at k (s ∷ ss) keys counts zero none e h =
    rw (add-zero k) (both_left (slot_sound k s keys counts) (slots_sound (suc k) ss keys counts) e)
slots_at k (s ∷ ss) keys counts (suc j) none e h =
    let on : k + suc j ≡ suc k + j = omega arith in
    rw on
    (slots_at (suc k) ss keys counts j none
    (both_right (slot_sound k s keys counts) (slots_sound (suc k) ss keys counts) e) (omega arith))

-- .. an open slot of a sound house
pub slot_told : (h : House) (slot : ℕ) → sound h ≡ true → slot < length h.slots → (slot_at h slot).taken ≡ true
    → OpenSlot slot (slot_at h slot) (keys_of h) (counts_of h)
slot_told h slot e inside t =
    open_told slot (slot_at h slot) (keys_of h) (counts_of h) t
    (rw (zero-add slot) at (slots_at 0 h.slots (keys_of h) (counts_of h) slot no_slot (told_slots h e) inside))

-- what is still promised to a slot is part of what is promised
pub unfilled_within : (k : ℕ) (slots : List Slot) (keys : List ℕ) (j : ℕ) (none : Slot) → j < length slots
    → unfilled (k + j) (get_or slots j none) keys ≤ promised_from k slots keys
unfolding promised_from
unfilled_within k [] keys j none h = absurd (omega arith)
unfilled_within k (s ∷ ss) keys zero none h = rw (add-zero k) (omega arith)
unfilled_within k (s ∷ ss) keys (suc j) none h =
    let on : k + suc j ≡ suc k + j = omega arith in
    rw on (omega (arith, unfilled_within (suc k) ss keys j none (omega arith)))

-- ---- counts are low

below_all : (b : ℕ) (xs : List ℕ) → ((i : ℕ) → i < length xs → get_or xs i 0 < b) → all_below b xs ≡ true
unfolding all_below
below_all b [] f = refl
below_all b (x ∷ xs) f = rw (lt-ltb x b (f 0 (omega arith))) (below_all b xs (λ i h. f (suc i) (omega arith)))

module _ (h : House) (e : sound h ≡ true) (long : length h.keys ≡ row_count) (paired : length h.counts ≡ row_count)
    (slots_long : length h.slots ≡ slot_count) where
  keys_long : length (keys_of h) ≡ h.used
  keys_long = length-take-le h.used h.keys (omega (arith, told_within h e))

  counts_long : length (counts_of h) ≡ h.used
  counts_long = length-take-le h.used h.counts (omega (arith, told_within h e))

  rows_right_lem : rows_right (taken_of h.slots) (keys_of h) (counts_of h) ≡ true
  unfolding rows_sound
  rows_right_lem =
      both_right (rising (keys_of h)) (rows_right (taken_of h.slots) (keys_of h) (counts_of h)) (told_rows h e)

  count_low : (i : ℕ) → i < length (counts_of h) → get_or (counts_of h) i 0 < past_counts
  count_low i g =
      let key = get_or (keys_of h) i 0 in
      let in_keys : i < length (keys_of h) = omega (arith, keys_long, counts_long) in
      let row = row_taken_lem (taken_of h.slots) key (get_or (counts_of h) i 0)
      (right_at (taken_of h.slots) (keys_of h) (counts_of h) i rows_right_lem in_keys) in
      let there : (get_or h.slots (slot_of key) no_slot).taken ≡ true
      = sym (get_or-map (λ (s : Slot). s.taken) h.slots (slot_of key) no_slot) ∙ row.1 in
      let slot = slot_told h (slot_of key) e (omega (arith, row.0)) there in
      omega (
        arith,
        count_within (keys_of h) (counts_of h) i (counts_long ∙ sym keys_long) in_keys,
        slot.sum,
        slot.few,
      )

  pub told_low : all_below past_counts (counts_of h) ≡ true
  told_low = below_all past_counts (counts_of h) count_low

-- ---- what the checks of a call say, where all hold

pub record CanOpen (h : House) (slot floor : ℕ) : Type 0 where
  pub fine : sound h ≡ true
  pub inside : slot < slot_count
  pub low : floor ≤ row_count
  pub shut : (slot_at h slot).taken ≡ false
  pub wide : floor ≤ free h - promised h

pub can_open : (h : House) (slot floor : ℕ) → all (tests (open_checks h slot floor)) ≡ true → CanOpen h slot floor
can_open h slot floor e =
    let at = all_at (tests (open_checks h slot floor)) e in
    record {
      fine = at 0;
      inside = ltb-true slot slot_count (at 1);
      low = leb-true floor row_count (at 2);
      shut = not-true (slot_at h slot).taken (at 3);
      wide = leb-true floor (free h - promised h) (at 4);
    }

pub record IsOpen (h : House) (slot : ℕ) : Type 0 where
  pub fine : sound h ≡ true
  pub inside : slot < slot_count
  pub opened : (slot_at h slot).taken ≡ true

pub is_open_lem : (h : House) (slot : ℕ) → all (tests (slot_checks h slot)) ≡ true → IsOpen h slot
is_open_lem h slot e =
    let at = all_at (tests (slot_checks h slot)) e in
    record { fine = at 0; inside = ltb-true slot slot_count (at 1); opened = at 2 }

-- ---- figures

module _ (h : House) where
  pub figures_unsound : sound h ≡ false → record { answer = answer.NotSound; free = 0; promised = 0 } ≡ figures_of h
  unfolding figures_of
  figures_unsound e = rw e

  pub figures_done : sound h ≡ true → (n : ℕ) → n ≡ promised h
      → record { answer = answer.Done; free = row_count - h.used; promised = n } ≡ figures_of h
  unfolding figures_of
  figures_done e n is = rw (e, is)

-- ---- open

module _ (h : House) (slot floor : ℕ) where
  pub open_unsound : sound h ≡ false → open_slot h slot floor ≡ answered answer.NotSound h
  unfolding open_slot
  open_unsound e = rw e

  module _ (e : sound h ≡ true) where
    pub open_no_slot : slot_count ≤ slot → open_slot h slot floor ≡ answered answer.NoSuchSlot h
    unfolding open_slot
    open_no_slot g = rw (e, le-ltb slot slot_count g)

    module _ (inside : slot < slot_count) where
      pub open_high : row_count < floor → open_slot h slot floor ≡ answered answer.FloorTooHigh h
      unfolding open_slot
      open_high g = rw (e, lt-ltb slot slot_count inside, lt-leb floor row_count g)

      module _ (low : floor ≤ row_count) where
        pub open_taken : (slot_at h slot).taken ≡ true → open_slot h slot floor ≡ answered answer.SlotTaken h
        unfolding open_slot
        open_taken t = rw (e, lt-ltb slot slot_count inside, le-leb floor row_count low, t)

        module _ (shut : (slot_at h slot).taken ≡ false) where
          pub open_no_room : free h - promised h < floor → open_slot h slot floor ≡ answered answer.NoRoom h
          unfolding open_slot
          open_no_room g =
              rw (
                e,
                lt-ltb slot slot_count inside,
                le-leb floor row_count low,
                shut,
                lt-leb floor (free h - promised h) g,
              )

          pub open_done : floor ≤ free h - promised h → (s : Slot) → s ≡ opened_slot floor
              → open_slot h slot floor ≡ answered answer.Done (with_slot h slot s)
          unfolding open_slot
          open_done g s is =
              rw (
                e,
                lt-ltb slot slot_count inside,
                le-leb floor row_count low,
                shut,
                le-leb floor (free h - promised h) g,
                is,
              )

-- ---- close

module _ (h : House) (slot : ℕ) (e : sound h ≡ true) (inside : slot < slot_count) where
  pub close_done : (slot_at h slot).taken ≡ true → (ks cs : List ℕ) (n : ℕ) (s : Slot)
      → rows ks cs n ≡ slot_dropped h.keys h.counts h.used slot → s ≡ closed_slot
      → close_slot h slot
      ≡ answered answer.Done (record { keys = ks; counts = cs; used = n; slots = set h.slots slot s })
  unfolding close_slot
  close_done t ks cs n s is shut =
      rw (e, lt-ltb slot slot_count inside, t, shut)
      (ap
      (λ (r : Rows).
      answered answer.Done
      (record { keys = r.keys; counts = r.counts; used = r.used; slots = set h.slots slot closed_slot }))
      (sym is))

-- ---- deliver

module _ (h : House) (slot : ℕ) (rec : List ℕ) where
  pub deliver_unsound : sound h ≡ false → deliver h slot rec ≡ answered answer.NotSound h
  unfolding deliver
  deliver_unsound e = rw e

  module _ (e : sound h ≡ true) where
    pub deliver_no_slot : slot_count ≤ slot → deliver h slot rec ≡ answered answer.NoSuchSlot h
    unfolding deliver
    deliver_no_slot g = rw (e, le-ltb slot slot_count g)

    module _ (inside : slot < slot_count) where
      pub deliver_shut : (slot_at h slot).taken ≡ false → deliver h slot rec ≡ answered answer.SlotClosed h
      unfolding deliver
      deliver_shut t = rw (e, lt-ltb slot slot_count inside, t)

      pub deliver_judged : (slot_at h slot).taken ≡ true
          → deliver h slot rec ≡ with_outcome h slot (delivered_to h slot rec)
      unfolding deliver
      deliver_judged t = rw (e, lt-ltb slot slot_count inside, t)

-- ---- what is lent to a delivery

module _ (slots : List Slot) (keys : List ℕ) (slot : ℕ) (s : Slot) (is : s ≡ get_or slots slot no_slot) (all own : ℕ)
    (told : all ≡ promised_from 0 slots keys) (seen : own ≡ unfilled slot s keys) where
  pub room_is : record { slot = slot; floor = s.floor; others = all - own } ≡ room_in slots keys slot
  room_is = rw (told, seen, is)

  pub own_within : slot < length slots → own ≤ all
  own_within inside =
      rw (told, seen, is) (rw (zero-add slot) at (unfilled_within 0 slots keys slot no_slot inside))

-- an open slot's session is sound
pub open_session : (h : House) (slot : ℕ) → sound h ≡ true → length h.slots ≡ slot_count → slot < slot_count
    → (slot_at h slot).taken ≡ true
    → session.sound (slot_at h slot).session ≡ true
open_session h slot e slots_long inside t = (slot_told h slot e (omega arith) t).session

-- .. and the slot lends it and all rows
pub lent_core : (h : House) (slot : ℕ) → sound h ≡ true → length h.keys ≡ row_count → length h.counts ≡ row_count
    → length h.slots ≡ slot_count → slot < slot_count → (slot_at h slot).taken ≡ true
    → length (slot_at h slot).session.parts ≡ 40
    → LentCore (room_of h slot) h.keys h.counts h.used (slot_at h slot).session.standing
    (slot_at h slot).session.parts
unfolding unfilled
lent_core h slot e long paired slots_long inside t cells =
    let s = slot_at h slot in
    let told = slot_told h slot e (omega arith) t in
    let own : unfilled slot s (keys_of h) ≤ promised h
    = rw (zero-add slot) at (unfilled_within 0 h.slots (keys_of h) slot no_slot (omega arith)) in
    let unfilled_is : unfilled slot s (keys_of h) ≡ s.floor - held_by slot (keys_of h) = rw t in
    record {
      rows =
          record {
            lent = told_lent h e long paired;
            slot = inside;
            low = told_low h e long paired slots_long;
            roomy = omega (arith, own, unfilled_is, told_rooms h e);
          };
      kept = sound_lent s.session cells told.session;
      cells = cells;
    }

-- the same of a slot and a room that were read off the house
module _ (h : House) (slot : ℕ) {s : Slot} {room : Room} (is : s ≡ slot_at h slot) (seen : room ≡ room_of h slot) where
  pub lent_to : sound h ≡ true → length h.keys ≡ row_count → length h.counts ≡ row_count
      → length h.slots ≡ slot_count → slot < slot_count → s.taken ≡ true → length s.session.parts ≡ 40
      → LentCore room h.keys h.counts h.used s.session.standing s.session.parts
  lent_to e long paired slots_long inside t cells =
      rw (seen, is)
      (lent_core h slot e long paired slots_long inside (ap (λ (x : Slot). x.taken) (sym is) ∙ t)
      (ap (λ (x : Slot). length x.session.parts) (sym is) ∙ cells))

  pub laid_back : (v : Verdict) (o : Outcome)
      → o ≡ settled room (core h.keys h.counts h.used s.session.standing s.session.parts) v
      → answered o.answer
      (record {
        keys = o.core.keys;
        counts = o.core.counts;
        used = o.core.used;
        slots =
            set h.slots slot
            (record {
              taken = s.taken;
              floor = s.floor;
              session = record { standing = o.core.standing; parts = o.core.parts };
              held = s.held;
            });
      })
      ≡ with_outcome h slot (settled_to h slot v)
  laid_back v o did =
      let done : o ≡ settled_to h slot v = did ∙ rw (seen, is) in
      rw (← done, is)

-- a slot that is laid back as it was
pub same_slot : (h : House) (slot : ℕ) → with_slot h slot (slot_at h slot) ≡ h
same_slot h slot =
    ap (λ (slots : List Slot). record { keys = h.keys; counts = h.counts; used = h.used; slots = slots })
    (set-get_or h.slots slot no_slot)

-- what a verdict that asks for no row makes of the house
module _ (h : House) (slot : ℕ) {v : Verdict} where
  pub laid_refused : {a : Answer} → v ≡ Refused a → answered a h ≡ with_outcome h slot (settled_to h slot v)
  laid_refused {a} e =
      ap (answered a) (sym (same_slot h slot))
      ∙ ap (with_outcome h slot) (settled_refused (room_of h slot) (core_of h slot) e)

  pub laid_taken : {s : Slot} → s ≡ slot_at h slot → {change : Change} → v ≡ Taken change → (next : Session)
      → next ≡ changed s.session change
      → answered answer.Done
      (with_slot h slot (record { taken = s.taken; floor = s.floor; session = next; held = s.held }))
      ≡ with_outcome h slot (settled_to h slot v)
  laid_taken is {change} e next then =
      let after : next ≡ changed (slot_at h slot).session change = rw (← is) then in
      rw is (ap (with_outcome h slot) (settled_taken (room_of h slot) (core_of h slot) e next after))

-- .. and a record that was judged, whose verdict is settled
pub laid_judged : (h : House) (slot : ℕ) (rec : List ℕ) {v : Verdict} → v ≡ verdict_on (slot_at h slot).session rec
    → with_outcome h slot (settled_to h slot v) ≡ with_outcome h slot (delivered_to h slot rec)
laid_judged h slot rec said =
    ap (with_outcome h slot) (delivered_settled (room_of h slot) (core_of h slot) rec said)
