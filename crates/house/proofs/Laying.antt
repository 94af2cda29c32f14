-- Laws of a slot's core laid back into its house: the statement `LaidDelivers` of specs/Laws.antt, proved. What all
-- other slots are promised stays as it was, so that records to one slot, one after another, see one room.
-- Assumes nothing.
use mathlib.Core.Path.{◌≡◌, ap, sym, subst, ◌∙◌}
use mathlib.Core.Bool.{true}
use mathlib.Core.List.{List}
use Prim.Native.Nat.{ℕ, ◌-◌, ◌≤◌, ◌<◌}
use native.Mathlib.Nat.{zero-add}
use native.Mathlib.Omega.{arith}
use borrow.Author.Tests.{ne_eqb}
use lib.ListN.{length}
use lib.Seq.{get_or-set_same, set-set}
use Rattle.numbers.specs.Laws.{Bytes}
use Rattle.rows.specs.Rows.{slot_count, held_by}
use Rattle.house.specs.declared.Slot.{Slot}
use Rattle.house.specs.declared.House.{House}
use Rattle.house.specs.declared.Room.{Room}
use Rattle.house.specs.declared.Answered.{Answered}
use Rattle.house.specs.House.{no_slot, keys_of, unfilled, promised, sound}
use Rattle.house.specs.Deliver.{Core, delivered}
use Rattle.house.specs.Calls.{slot_at, answered, room_of, core_of, delivered_to, laid, with_outcome, deliver}
use Rattle.house.specs.History.{Deliver}
use Rattle.house.specs.Laws.{Shaped, LaidSlot, DeliverRoom, LaidDelivers}
use Rattle.house.proofs.Calling.{unfilled_within, deliver_judged}
use Rattle.house.proofs.Keeping.{promised_one, deliver_keeps, after_shaped}
use Rattle.house.proofs.Slots.{else_alike}
use Rattle.house.proofs.Counting.{rows_held}

-- ---- the slot that is laid back

pub laid_slot : LaidSlot
laid_slot h slot c long inside = get_or-set_same h.slots slot _ no_slot (omega (arith, inside, long))

module _ (h : House) (slot : ℕ) (long : length h.slots ≡ slot_count) (inside : slot < slot_count) (c : Core) where
  core_laid : core_of (laid h slot c) slot ≡ c
  core_laid = rw (laid_slot h slot c long inside)

  laid_laid : (d : Core) → laid (laid h slot c) slot d ≡ laid h slot d
  laid_laid d = rw (laid_slot h slot c long inside, set-set h.slots slot)

-- ---- one room

module _ (h : House) (slot : ℕ) (rec : List ℕ) (bytes : Bytes rec) (shape : Shaped h) (e : sound h ≡ true)
    (inside : slot < slot_count) (t : (slot_at h slot).taken ≡ true) where
  abbrev now : House
  now = laid h slot (delivered_to h slot rec).core

  is_now : (deliver h slot rec).house ≡ now
  is_now = ap (λ (a : Answered). a.house) (deliver_judged h slot rec e inside t)

  now_shaped : Shaped now
  now_shaped = rw is_now at (after_shaped h (Deliver slot rec) bytes shape)

  now_sound : sound now ≡ true
  now_sound = rw is_now at (deliver_keeps h slot rec bytes shape e)

  -- no other slot's rows are touched
  others_hold : (j : ℕ) → (j ≡ slot → ⊥) → held_by j (keys_of now) ≡ held_by j (keys_of h)
  others_hold j other =
      let same = rw is_now at
      (else_alike j h (Deliver slot rec) shape bytes (ne_eqb slot j (λ q. other (sym q)))).rows in
      sym (rows_held now j now_shaped now_sound) ∙ ap length same ∙ rows_held h j shape e

  abbrev next : Slot
  next =
      let c = (delivered_to h slot rec).core in
      record {
        taken = (slot_at h slot).taken;
        floor = (slot_at h slot).floor;
        session = record { standing = c.standing; parts = c.parts };
        held = (slot_at h slot).held;
      }

  own : slot_at now slot ≡ next
  own = laid_slot h slot (delivered_to h slot rec).core shape.slots inside

  others_same : promised now - unfilled slot next (keys_of now) ≡ (room_of h slot).others
  others_same =
      let there : slot < length h.slots = omega (arith, inside, shape.slots) in
      let all = promised_one (keys_of h) (keys_of now) h.slots slot next there others_hold in
      let before : unfilled slot (slot_at h slot) (keys_of h) ≤ promised h
      = rw (zero-add slot) at (unfilled_within 0 h.slots (keys_of h) slot no_slot there) in
      let within : unfilled slot (slot_at now slot) (keys_of now) ≤ promised now
      = rw (zero-add slot) at
      (unfilled_within 0 now.slots (keys_of now) slot no_slot (omega (arith, inside, now_shaped.slots))) in
      let after : unfilled slot next (keys_of now) ≤ promised now = rw own at within in
      omega (arith, all, after, before)

  room_kept : room_of now slot ≡ room_of h slot
  room_kept =
      ap
      (λ (s : Slot).
      record { slot = slot; floor = s.floor; others = promised now - unfilled slot s (keys_of now) }) own
      ∙ ap (λ (n : ℕ). record { slot = slot; floor = (slot_at h slot).floor; others = n }) others_same

pub deliver_room : DeliverRoom
deliver_room h slot rec bytes shape e inside t =
    rw (is_now h slot rec bytes shape e inside t) (room_kept h slot rec bytes shape e inside t)

-- ---- records, one after another

pub laid_delivers : LaidDelivers
laid_delivers h slot c rec bytes long inside t l =
    let g = laid h slot c in
    let room = room_of h slot in
    let o = delivered room c rec in
    let open_there : (slot_at g slot).taken ≡ true
    = ap (λ (s : Slot). s.taken) (laid_slot h slot c long inside) ∙ t in
    let seen : delivered_to g slot rec ≡ o
    = ap (λ (r : Room). delivered r (core_of g slot) rec) l.sees
    ∙ ap (λ (x : Core). delivered room x rec) (core_laid h slot long inside c) in
    let did : deliver g slot rec ≡ answered o.answer (laid h slot o.core)
    = deliver_judged g slot rec l.fine inside open_there
    ∙ ap (with_outcome g slot) seen
    ∙ ap (answered o.answer) (laid_laid h slot long inside c o.core) in
    let made = ap (λ (a : Answered). a.house) did in (
      did,
      record {
        shape = subst Shaped made (after_shaped g (Deliver slot rec) bytes l.shape);
        fine = subst (λ (x : House). sound x ≡ true) made (deliver_keeps g slot rec bytes l.shape l.fine);
        sees =
            subst (λ (x : House). room_of x slot ≡ room) made
            (deliver_room g slot rec bytes l.shape l.fine inside open_there ∙ l.sees);
      },
    )
