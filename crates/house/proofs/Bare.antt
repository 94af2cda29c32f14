-- The statements of specs/Laws.antt on a bare house, proved: a call reads of a slot all but how many bytes are held.
-- Assumes nothing.
use mathlib.Core.Path.{◌≡◌, refl, ap, ap₂, sym, ◌∙◌}
use mathlib.Core.Bool.{Bool, true, false, cond, false≢true}
use mathlib.Core.List.{List, [], ◌∷◌, ◌++◌, map}
use Prim.Native.Nat.{ℕ, zero, suc, ◌+◌}
use lib.Dec.{leb, eqb}
use lib.ListN.{set, length-map, get_or-map}
use lib.Seq.{map-set_same}
use Rattle.prelude.specs.All.{all}
use Rattle.prelude.specs.Choice.{◌unless◌then◌}
use Rattle.prelude.specs.Checks.{Check, checked}
use Rattle.prelude.proofs.Both.{both_left, both_right}
use Rattle.rows.specs.Rows.{sum_by}
use Rattle.session.specs.declared.Session.{Session}
use Rattle.session.specs.Session as session
use Rattle.session.specs.Session.{nothing_yet, most_results}
use Rattle.house.specs.declared.Slot.{Slot}
use Rattle.house.specs.declared.House.{House}
use Rattle.house.specs.declared.Answered.{Answered}
use Rattle.house.specs.declared.Room.{Room}
use Rattle.house.specs.declared.Row.{Row}
use Rattle.house.specs.House.{no_slot, closed_slot, opened_slot, keys_of, counts_of, unfilled, promised_from}
use Rattle.house.specs.House.{row_count, carry_length, taken_of, open_conditions, closed_conditions, slot_sound}
use Rattle.house.specs.House.{slots_sound, sound, house_of}
use Rattle.house.specs.Deliver.{Core, Outcome, delivered}
use Rattle.house.specs.Calls.{slot_at, answered, refusal, open_checks, open_slot, slot_checks, close_slot}
use Rattle.house.specs.Calls.{room_of, core_of, delivered_to, with_outcome, deliver, figures_of}
use Rattle.house.specs.Report.{row_at, reported, listed}
use Rattle.house.specs.History.{Open, Deliver, Report, Close, Figured, Reply, Told, Listed, after, reached}
use Rattle.house.specs.History.{Said, said, history}
use Rattle.house.specs.Laws.{bare_slot, bare, BareFresh, BareShaped, BareSound, BareReply, BareAfter}
use Rattle.house.specs.Laws.{BareReached, BareHistory, BareHeld}
use Rattle.house.proofs.Calling.{told_slots}
use Rattle.house.proofs.Keeping.{after_keeps, after_shaped}

pub bare_fresh : BareFresh
bare_fresh = refl

-- ---- what a bare house says

pub bare_at : (h : House) (slot : ℕ) → slot_at (bare h) slot ≡ bare_slot (slot_at h slot)
bare_at h slot = get_or-map bare_slot h.slots slot no_slot

pub bare_shaped : BareShaped
bare_shaped h shape =
    record {
      keys = shape.keys;
      counts = shape.counts;
      slots = length-map h.slots bare_slot ∙ shape.slots;
      parts = λ i inside. rw (bare_at h i) (shape.parts i inside);
    }

bare_taken : (slots : List Slot) → taken_of (map bare_slot slots) ≡ taken_of slots
bare_taken [] = refl
bare_taken (s ∷ ss) = ap (λ (ts : List Bool). s.taken ∷ ts) (bare_taken ss)

bare_promised : (i : ℕ) (slots : List Slot) (keys : List ℕ)
    → promised_from i (map bare_slot slots) keys ≡ promised_from i slots keys
unfolding promised_from unfilled
bare_promised i [] keys = refl
bare_promised i (s ∷ ss) keys = ap (λ (n : ℕ). unfilled i s keys + n) (bare_promised (suc i) ss keys)

-- no byte held is never too many
none_held : (a b c : Bool) (rest : List Bool) → all (a ∷ b ∷ c ∷ rest) ≡ true → all (a ∷ true ∷ c ∷ rest) ≡ true
none_held true true c rest e = e
none_held true false c rest e = absurd (false≢true e)
none_held false b c rest e = e

bare_slot_lem : (i : ℕ) (s : Slot) (keys counts : List ℕ) → slot_sound i s keys counts ≡ true
    → slot_sound i (bare_slot s) keys counts ≡ true
unfolding slot_sound
bare_slot_lem i s keys counts = go s.taken
  where
    go : (t : Bool) → all (cond t (open_conditions i s keys counts) (closed_conditions s)) ≡ true
        → all (cond t (open_conditions i (bare_slot s) keys counts) (closed_conditions (bare_slot s))) ≡ true
    go true e =
        let st = s.session.standing in
        none_held (leb s.floor row_count) (leb s.held carry_length) (session.sound s.session)
        (leb st.results most_results ∷ eqb (sum_by i keys counts) st.results ∷ []) e
    go false e = none_held (eqb s.floor 0) (eqb s.held 0) (nothing_yet s.session.standing) [] e

bare_slots : (i : ℕ) (slots : List Slot) (keys counts : List ℕ) → slots_sound i slots keys counts ≡ true
    → slots_sound i (map bare_slot slots) keys counts ≡ true
unfolding slots_sound
bare_slots i [] keys counts e = refl
bare_slots i (s ∷ ss) keys counts e =
    let one = slot_sound i s keys counts in
    let rest = slots_sound (suc i) ss keys counts in
    rw (bare_slot_lem i s keys counts (both_left one rest e)) (bare_slots (suc i) ss keys counts (both_right one rest e))

pub bare_sound : BareSound
unfolding sound
bare_sound h e =
    rw (
      bare_taken h.slots,
      bare_promised 0 h.slots (keys_of h),
      bare_slots 0 h.slots (keys_of h) (counts_of h) (told_slots h e),
    )
    (rw (told_slots h e) at e)

-- ---- a call of it

-- what a function makes of a call, it makes of each refusal and of what is done
through : {A O Q : Type 0} (f : O → Q) (refuse : A → O) (cs : List (Check A)) (done : O)
    → f (checked refuse cs done) ≡ checked (λ (a : A). f (refuse a)) cs (f done)
through f refuse [] done = refl
through {A} f refuse (c ∷ cs) done = go c.holds (through f refuse cs done)
  where
    go : (t : Bool) → f (checked refuse cs done) ≡ checked (λ (a : A). f (refuse a)) cs (f done)
        → f (refuse c.answer unless t then checked refuse cs done)
        ≡ (f (refuse c.answer) unless t then checked (λ (a : A). f (refuse a)) cs (f done))
    go true rest = rest
    go false rest = refl

abbrev bare_of : Answered → Answered
bare_of o = answered o.answer (bare o.house)

bare_set : (slots : List Slot) (slot : ℕ) (s : Slot)
    → set (map bare_slot slots) slot (bare_slot s) ≡ map bare_slot (set slots slot s)
bare_set [] slot s = refl
bare_set (x ∷ xs) zero s = refl
bare_set (x ∷ xs) (suc slot) s = ap (λ (l : List Slot). bare_slot x ∷ l) (bare_set xs slot s)

pub bare_held : BareHeld
bare_held h slot n =
    ap (λ (slots : List Slot). record { keys = h.keys; counts = h.counts; used = h.used; slots = slots })
    (map-set_same bare_slot h.slots slot _ no_slot refl)

module _ (h : House) (e : sound h ≡ true) where
  bare_checks : (slot : ℕ) → slot_checks (bare h) slot ≡ slot_checks h slot
  bare_checks slot = rw (bare_sound h e, e, bare_at h slot)

  bare_open : (slot floor : ℕ) → open_slot (bare h) slot floor ≡ bare_of (open_slot h slot floor)
  unfolding open_slot
  bare_open slot floor =
      rw (
        bare_sound h e,
        bare_at h slot,
        bare_promised 0 h.slots (keys_of h),
        bare_set h.slots slot (opened_slot floor),
      )
      (sym (through bare_of (refusal h) (open_checks h slot floor) _ ∙ rw e))

  bare_close : (slot : ℕ) → close_slot (bare h) slot ≡ bare_of (close_slot h slot)
  unfolding close_slot
  bare_close slot =
      rw (bare_sound h e, bare_at h slot, bare_set h.slots slot closed_slot)
      (sym (through bare_of (refusal h) (slot_checks h slot) _ ∙ rw e))

  bare_room : (slot : ℕ) → room_of (bare h) slot ≡ room_of h slot
  unfolding unfilled
  bare_room slot = rw (bare_at h slot, bare_promised 0 h.slots (keys_of h))

  bare_core : (slot : ℕ) → core_of (bare h) slot ≡ core_of h slot
  bare_core slot = rw (bare_at h slot)

  bare_outcome : (slot : ℕ) (o : Outcome) → with_outcome (bare h) slot o ≡ bare_of (with_outcome h slot o)
  bare_outcome slot o =
      let s = slot_at h slot in
      let session : Session = record { standing = o.core.standing; parts = o.core.parts } in
      rw (bare_at h slot)
      (ap
      (λ (slots : List Slot). answered o.answer (house_of o.core.keys o.core.counts o.core.used slots))
      (bare_set h.slots slot
      (record { taken = s.taken; floor = s.floor; session = session; held = s.held })))

  bare_deliver : (slot : ℕ) (rec : List ℕ) → deliver (bare h) slot rec ≡ bare_of (deliver h slot rec)
  unfolding deliver
  bare_deliver slot rec =
      let o = delivered_to h slot rec in
      let same : delivered_to (bare h) slot rec ≡ o =
      ap₂ (λ (room : Room) (c : Core). delivered room c rec) (bare_room slot) (bare_core slot) in
      ap₂ (checked (refusal (bare h))) (bare_checks slot)
      (ap (with_outcome (bare h) slot) same ∙ bare_outcome slot o)
      ∙ sym (through bare_of (refusal h) (slot_checks h slot) (with_outcome h slot o))

  bare_reported : (slot long : ℕ) → reported (bare h) slot long ≡ reported h slot long
  unfolding reported
  bare_reported slot long = rw (bare_sound h e, e, bare_at h slot)

  bare_figures : figures_of (bare h) ≡ figures_of h
  unfolding figures_of
  bare_figures = rw (bare_sound h e, e, bare_promised 0 h.slots (keys_of h))

bare_listed : (h : House) (slot n : ℕ) → listed (row_at (bare h) slot) n ≡ listed (row_at h slot) n
unfolding row_at
bare_listed h slot zero = refl
bare_listed h slot (suc n) = ap (λ (l : List Row). l ++ (row_at h slot n ∷ [])) (bare_listed h slot n)

pub bare_reply : BareReply
bare_reply h (Open slot floor) e = ap (λ (o : Answered). Told o.answer) (bare_open h e slot floor)
bare_reply h (Deliver slot rec) e = ap (λ (o : Answered). Told o.answer) (bare_deliver h e slot rec)
bare_reply h (Report slot long) e =
    rw (bare_reported h e slot long)
    (ap (Listed (reported h slot long).answer) (bare_listed h slot (reported h slot long).rows))
bare_reply h (Close slot) e = ap (λ (o : Answered). Told o.answer) (bare_close h e slot)
bare_reply h Figured e = rw (bare_figures h e)

pub bare_after : BareAfter
bare_after h (Open slot floor) e = ap (λ (o : Answered). o.house) (bare_open h e slot floor)
bare_after h (Deliver slot rec) e = ap (λ (o : Answered). o.house) (bare_deliver h e slot rec)
bare_after h (Report slot long) e = refl
bare_after h (Close slot) e = ap (λ (o : Answered). o.house) (bare_close h e slot)
bare_after h Figured e = refl

pub bare_reached : BareReached
bare_reached h [] sent shape e = refl
bare_reached h (c ∷ cs) sent shape e =
    ap (λ (g : House). reached g cs) (bare_after h c e)
    ∙ bare_reached (after h c) cs sent.1 (after_shaped h c sent.0 shape) (after_keeps h c sent.0 shape e)

pub bare_history : BareHistory
bare_history h [] sent shape e = refl
bare_history h (c ∷ cs) sent shape e =
    ap₂ (λ (r : Reply) (es : List Said). said c r ∷ es) (bare_reply h c e)
    (ap (λ (g : House). history g cs) (bare_after h c e)
    ∙ bare_history (after h c) cs sent.1 (after_shaped h c sent.0 shape) (after_keeps h c sent.0 shape e))
