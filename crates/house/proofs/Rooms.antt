-- Demand 3's first clauses and that 15 is never given, proved (specs/Demands.antt): each is what soundness says of the
-- house that is reached. And what an answer carries, by one law over all that a house may answer.
-- Assumes nothing.
use Rattle.std.specs.Prelude.{Option, Some, None}
use mathlib.Core.Path.{◌≡◌, refl, ap, sym, ◌∙◌}
use mathlib.Core.Bool.{Bool, true, false, not, ◌&&◌, false≢true}
use mathlib.Core.List.{List}
use Prim.Native.Nat.{ℕ, ◌<◌}
use native.Mathlib.Omega.{arith}
use lib.Dec.{eqb}
use lib.ListN.{length, get_or, drop, get_or-map}
use lib.Seq.{get_or-take}
use borrow.Author.Tests.{not-true}
use Rattle.prelude.proofs.Both.{both_left, both_right}
use Rattle.prelude.proofs.Checks.{checked_where}
use Rattle.answers.specs.declared.Answer.{Answer}
use Rattle.answers.specs.declared.Answer.TheVariants.{Done, NoRoom, NotSound}
use Rattle.answers.specs.Numbers.{number_of, values_of}
use Rattle.rising.proofs.Laws.{rising_apart}
use Rattle.rows.specs.Rows.{slot_of, row_key, held_by}
use Rattle.rows.proofs.Laws.{row_taken_lem, right_at}
use Rattle.session.specs.declared.Verdict.{Verdict}
use Rattle.session.specs.declared.Verdict.TheVariants.{Refused, Taken, Wanted}
use Rattle.session.specs.Session.{parts_of}
use Rattle.session.specs.Verdicts.{own_number, carried}
use Rattle.judging.specs.Judge.{verdict_on}
use Rattle.judging.proofs.Laws.{judged_refusal}
use Rattle.house.specs.declared.Slot.{Slot}
use Rattle.house.specs.declared.House.{House}
use Rattle.house.specs.declared.Answered.{Answered}
use Rattle.house.specs.declared.Reported.{Reported}
use Rattle.house.specs.House.{no_slot, fresh, keys_of, counts_of, taken_of, sound}
use Rattle.house.specs.Deliver.{granted, row_taken, resulted_if, settled, delivered}
use Rattle.house.specs.Calls.{slot_at, open_slot, close_slot, deliver, room_of, core_of, settled_to, with_outcome}
use Rattle.house.specs.Calls.{refusal, open_checks, slot_checks, figures_of}
use Rattle.house.specs.Report.{unreported, report_checks, reported}
use Rattle.house.specs.History.{Call, Open, Deliver, Report, Close, Figured, reply, answer_of, reached, AllSent}
use Rattle.house.specs.Demands.{NeverUnsound, RowsHeld, KeysDiffer}
use Rattle.house.proofs.Reporting.{told_rises}
use Rattle.house.proofs.Keeping.{reached_sound, told_right}
use Rattle.house.proofs.Counting.{reached_shaped, keys_long}

-- ---- what is answered

abbrev plain : Option (ℕ × ℕ) → Bool
plain None = true
plain (Some (head, site)) = false

-- a sound house's own answers: neither 15 nor 12, and nothing beside the number
housed : Answer → Bool
housed a = not (eqb (number_of a) 15) && (not (eqb (number_of a) 12) && plain (values_of a))

abbrev given : Answered → Answer
given o = o.answer

-- what is to be known of a record that its session refuses
abbrev pub Refusals : (Answer → Type 0) → House → Call → Type 0
Refusals P h (Deliver slot rec) = (a : Answer) → verdict_on (slot_at h slot).session rec ≡ Refused a → P a
Refusals P h (Open slot floor) = Unit
Refusals P h (Report slot long) = Unit
Refusals P h (Close slot) = Unit
Refusals P h Figured = Unit

-- what holds of its own answers, and of those of a session, holds of every answer of a sound house
module _ (P : Answer → Type 0) (own : (a : Answer) → housed a ≡ true → P a) (h : House) where
  settled_by : (slot : ℕ) (v : Verdict) → ((a : Answer) → v ≡ Refused a → P a)
      → P (given (with_outcome h slot (settled_to h slot v)))
  unfolding settled resulted_if row_taken housed
  settled_by slot (Refused a) refused = refused a refl
  settled_by slot (Taken change) refused = own Done refl
  settled_by slot (Wanted change key) refused = go (granted (room_of h slot) (keys_of h) (row_key slot key)) refl
    where
      go : (b : Bool) → granted (room_of h slot) (keys_of h) (row_key slot key) ≡ b
          → P (given (with_outcome h slot (resulted_if (room_of h slot) (core_of h slot) change key)))
      go true got = rw got (own Done refl)
      go false got = rw got (own NoRoom refl)

  answer_by_lem : sound h ≡ true → (c : Call) → Refusals P h c → P (answer_of (reply h c))
  unfolding open_slot deliver delivered reported close_slot figures_of housed
  answer_by_lem e (Open slot floor) refused =
      rw e
      (checked_where (refusal h) (λ (o : Answered). P o.answer) housed (drop 1 (open_checks h slot floor)) _ refl own
      (λ ok. own Done refl))
  answer_by_lem e (Deliver slot rec) refused =
      rw e
      (checked_where (refusal h) (λ (o : Answered). P o.answer) housed (drop 1 (slot_checks h slot)) _ refl own
      (λ ok. settled_by slot (verdict_on (slot_at h slot).session rec) refused))
  answer_by_lem e (Report slot long) refused =
      rw e
      (checked_where unreported (λ (r : Reported). P r.answer) housed (drop 1 (report_checks h slot long))
      (record { answer = Done; rows = held_by slot (keys_of h) }) refl own (λ ok. own Done refl))
  answer_by_lem e (Close slot) refused =
      rw e
      (checked_where (refusal h) (λ (o : Answered). P o.answer) housed (drop 1 (slot_checks h slot)) _ refl own
      (λ ok. own Done refl))
  answer_by_lem e Figured refused = rw e (own Done refl)

-- ---- 15 is never given

abbrev Other : Answer → Type 0
Other a = a ≡ NotSound → ⊥

-- an answer that passes a test which 15 does not
other : (test : Answer → Bool) → test NotSound ≡ false → (a : Answer) → test a ≡ true → Other a
other test fails a e is = false≢true (sym fails ∙ sym (ap test is) ∙ e)

refused_other : (h : House) (c : Call) → Refusals Other h c
refused_other h (Deliver slot rec) =
    let s = (slot_at h slot).session in
    λ a is. other (λ (x : Answer). own_number (number_of x)) refl a (judged_refusal s rec a is).0
refused_other h (Open slot floor) = tt
refused_other h (Report slot long) = tt
refused_other h (Close slot) = tt
refused_other h Figured = tt

-- .. by no house that is sound
pub sound_other : (h : House) → sound h ≡ true → (c : Call) → answer_of (reply h c) ≡ NotSound → ⊥
unfolding housed
sound_other h e c = answer_by_lem Other (other housed refl) h e c (refused_other h c)

pub never_unsound : NeverUnsound
never_unsound calls c sent own = sound_other (reached fresh calls) (reached_sound calls sent) c

-- ---- what an answer carries

plain_told : (a : Answer) → housed a ≡ true → (eqb (number_of a) 12 ≡ false) × (values_of a ≡ None)
unfolding housed
plain_told a e =
    let n = number_of a in
    let rest = both_right (not (eqb n 15)) (not (eqb n 12) && plain (values_of a)) e in (
      not-true (eqb n 12) (both_left (not (eqb n 12)) (plain (values_of a)) rest),
      none (values_of a) (both_right (not (eqb n 12)) (plain (values_of a)) rest),
    )
  where
    none : (v : Option (ℕ × ℕ)) → plain v ≡ true → v ≡ None
    none None t = refl
    none (Some (head, site)) t = absurd (false≢true t)

-- an answer to a record carries what a session's own refusal does
pub deliver_carries : (h : House) (slot : ℕ) (rec : List ℕ) → sound h ≡ true
    → let a = (deliver h slot rec).answer in
    values_of a ≡ carried (number_of a) (parts_of (slot_at h slot).session)
deliver_carries h slot rec e =
    let s = (slot_at h slot).session in
    answer_by_lem (λ (a : Answer). values_of a ≡ carried (number_of a) (parts_of s))
    (λ a t. let told = plain_told a t in rw told.0 told.1) h e (Deliver slot rec)
    (λ a is. (judged_refusal s rec a is).1)

-- .. and no other call's answer carries anything
pub plain_answer : (h : House) → sound h ≡ true → (c : Call) → Refusals (λ (a : Answer). values_of a ≡ None) h c
    → values_of (answer_of (reply h c)) ≡ None
plain_answer h e c refused =
    answer_by_lem (λ (a : Answer). values_of a ≡ None) (λ a t. (plain_told a t).1) h e c refused

-- ---- each row has one holder, and no two have one key

module _ (calls : List Call) (sent : AllSent calls) where
  abbrev h : House
  h = reached fresh calls

  e : sound h ≡ true
  e = reached_sound calls sent

  key_at : (i : ℕ) → i < h.used → get_or (keys_of h) i 0 ≡ get_or h.keys i 0
  key_at i low = get_or-take h.used h.keys i 0 low

pub rows_held : RowsHeld
rows_held calls i sent low =
    let h = reached fresh calls in
    let e = reached_sound calls sent in
    let shape = reached_shaped calls sent in
    let inside : i < length (keys_of h) = omega (arith, keys_long h 0 shape e, low) in
    let right = right_at (taken_of h.slots) (keys_of h) (counts_of h) i (told_right h e) inside in
    let key = get_or h.keys i 0 in
    let open_there = (row_taken_lem (taken_of h.slots) key _ (rw (key_at calls sent i low) at right)).1 in
    sym (get_or-map (λ (s : Slot). s.taken) h.slots (slot_of key) no_slot) ∙ open_there

pub keys_differ : KeysDiffer
keys_differ calls i j sent before low =
    let h = reached fresh calls in
    let e = reached_sound calls sent in
    let inside : j < length (keys_of h) = omega (arith, keys_long h 0 (reached_shaped calls sent) e, low) in
    rw (← key_at calls sent i (omega (arith, before, low)), ← key_at calls sent j low)
    (rising_apart (keys_of h) i j (told_rises h e) before inside)
