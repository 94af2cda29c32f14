-- What a call does to the slot that it names, and that it leaves every other as it was: the step of every argument
-- over sequences of calls. Of a house, a slot is what stands in its place and its rows as a list.
-- Assumes nothing.
use mathlib.Core.Path.{◌≡◌, refl, sym, subst, ◌∙◌}
use mathlib.Core.Bool.{Bool, true, false, cond}
use mathlib.Core.List.{List, []}
use Prim.Native.Nat.{ℕ, ◌-◌, ◌%◌, ◌<◌}
use native.Mathlib.Omega.{arith}
use borrow.Author.Tests.{lt-ltb, eq-eqb, ne_eqb, eqb-false}
use lib.Dec.{leb, eqb}
use lib.ListN.{get_or, set}
use lib.Seq.{get_or-set_same, get_or-set_other}
use Rattle.answers.specs.declared.Answer.{Answer}
use Rattle.answers.specs.declared.Answer.TheVariants.{Done, NoRoom}
use Rattle.prelude.proofs.Checks.{checked_by}
use Rattle.numbers.specs.Laws.{Bytes}
use Rattle.rows.specs.Rows.{slot_count, slot_span, row_key, counted, keys_used, counts_used}
use Rattle.rows.specs.Counts.{Count, plus, rows_by}
use Rattle.rows.proofs.Counts.{counted_rows_by, dropped_rows_by}
use Rattle.session.specs.declared.Session.{Session}
use Rattle.session.specs.declared.Change.{Change}
use Rattle.session.specs.declared.Verdict.{Verdict}
use Rattle.session.specs.declared.Verdict.TheVariants.{Refused, Taken, Wanted}
use Rattle.settling.specs.Settling.{changed}
use Rattle.judging.specs.Judge.{verdict_on}
use Rattle.judging.specs.Laws.{KeyRight}
use Rattle.judging.proofs.Laws.{judged_key}
use Rattle.house.specs.declared.Slot.{Slot}
use Rattle.house.specs.declared.House.{House}
use Rattle.house.specs.declared.Answered.{Answered}
use Rattle.house.specs.House.{row_count, no_slot, closed_slot, opened_slot, keys_of, counts_of, free, promised, sound}
use Rattle.house.specs.Deliver.{granted, row_taken, resulted_if, settled, delivered}
use Rattle.house.specs.Calls.{slot_at, open_slot, close_slot, room_of, settled_to, with_outcome}
use Rattle.house.specs.Calls.{refusal, open_checks, slot_checks, deliver}
use Rattle.house.specs.History.{Call, Open, Deliver, Report, Close, Figured, after, names, Sent}
use Rattle.house.specs.Laws.{Shaped}
use Rattle.house.specs.Demands.{room_for}
use Rattle.house.proofs.Calling.{can_open, is_open_lem, deliver_judged}
use Rattle.house.proofs.Keeping.{keys_kept, key_low, key_slot, room, with_session}

-- a slot's rows
abbrev pub rows_at : House → ℕ → List Count
rows_at h slot = rows_by slot (keys_of h) (counts_of h)

-- a slot stands the same in two houses
pub record Alike (slot : ℕ) (h g : House) : Type 0 where
  pub stands : slot_at h slot ≡ slot_at g slot
  pub rows : rows_at h slot ≡ rows_at g slot

pub alike_same : (slot : ℕ) (h : House) → Alike slot h h
alike_same slot h = record { stands = refl; rows = refl }

pub alike_on : (slot : ℕ) (h g k : House) → Alike slot h g → Alike slot g k → Alike slot h k
alike_on slot h g k a b = record { stands = a.stands ∙ b.stands; rows = a.rows ∙ b.rows }

-- ---- what a record makes of its slot

abbrev pub answer_by : Verdict → Bool → Answer
answer_by (Refused a) b = a
answer_by (Taken change) b = Done
answer_by (Wanted change key) b = cond b Done NoRoom

abbrev pub session_by : Session → Verdict → Bool → Session
session_by s (Refused a) b = s
session_by s (Taken change) b = changed s change
session_by s (Wanted change key) b = cond b (changed s change) s

abbrev pub rows_after : List Count → Verdict → Bool → List Count
rows_after rows (Refused a) b = rows
rows_after rows (Taken change) b = rows
rows_after rows (Wanted change key) b = cond b (plus key rows) rows

abbrev pub next_slot : Slot → Verdict → Bool → Slot
next_slot s v b = record { taken = s.taken; floor = s.floor; session = session_by s.session v b; held = s.held }

key_in : (slot key : ℕ) → key < 4_278_190_080 → row_key slot key % slot_span ≡ key
key_in slot key low = omega (arith, low)

-- what stands in a slot that was set, and in another
module _ (h : House) (slot : ℕ) (shape : Shaped h) (inside : slot < slot_count) (x : Slot) where
  set_own : get_or (set h.slots slot x) slot no_slot ≡ x
  set_own = get_or-set_same h.slots slot x no_slot (omega (arith, inside, shape.slots))

  set_else : (i : ℕ) → (i ≡ slot → ⊥) → get_or (set h.slots slot x) i no_slot ≡ slot_at h i
  set_else i other = get_or-set_other h.slots slot i x no_slot other

-- a delivery, told of its own slot
pub record Own (h : House) (slot : ℕ) (v : Verdict) (o : Answered) : Type 0 where
  pub answer : o.answer ≡ answer_by v (room_for h slot v)
  pub stands : slot_at o.house slot ≡ next_slot (slot_at h slot) v (room_for h slot v)
  pub rows : rows_at o.house slot ≡ rows_after (rows_at h slot) v (room_for h slot v)

module _ (h : House) (slot : ℕ) (shape : Shaped h) (e : sound h ≡ true) (inside : slot < slot_count)
    (t : (slot_at h slot).taken ≡ true) where
  abbrev ses : Session
  ses = (slot_at h slot).session

  abbrev outcome : Verdict → Answered
  outcome v = with_outcome h slot (settled_to h slot v)

  -- the rows after a part result that is granted
  module _ (change : Change) (key : ℕ) (right : KeyRight (Wanted change key))
      (got : granted (room_of h slot) (keys_of h) (row_key slot key) ≡ true) where
    abbrev row : ℕ
    row = row_key slot key

    rows_after_lem : (i : ℕ)
        → rows_by i (keys_used (counted h.keys h.counts h.used row))
        (counts_used (counted h.keys h.counts h.used row))
        ≡ cond (eqb slot i) (plus key (rows_at h i)) (rows_at h i)
    rows_after_lem i =
        let low = key_low key right.0 in
        let all =
        counted_rows_by i h.keys h.counts h.used row (keys_kept h slot shape e inside)
        (room h slot shape e inside t key right got) in
        rw (key_slot slot key low, key_in slot key low) at all

  own_settled : (v : Verdict) → KeyRight v → Own h slot v (outcome v)
  unfolding settled resulted_if row_taken
  own_settled (Refused a) right =
      record { answer = refl; stands = set_own h slot shape inside (slot_at h slot); rows = refl }
  own_settled (Taken change) right =
      record {
        answer = refl;
        stands = set_own h slot shape inside (with_session (slot_at h slot) (changed ses change));
        rows = refl;
      }
  own_settled (Wanted change key) right = go (granted (room_of h slot) (keys_of h) (row_key slot key)) refl
    where
      go : (b : Bool) → granted (room_of h slot) (keys_of h) (row_key slot key) ≡ b
          → Own h slot (Wanted change key) (outcome (Wanted change key))
      go true got =
          record {
            answer = rw got;
            stands = rw got (set_own h slot shape inside (with_session (slot_at h slot) (changed ses change)));
            rows = rw got (rows_after_lem change key right got slot ∙ rw (eq-eqb slot slot refl));
          }
      go false got =
          record { answer = rw got; stands = rw got (set_own h slot shape inside (slot_at h slot)); rows = rw got }

  -- .. and of another
  else_settled : (v : Verdict) → KeyRight v → (i : ℕ) → (i ≡ slot → ⊥) → Alike i (outcome v).house h
  unfolding settled resulted_if row_taken
  else_settled (Refused a) right i other =
      record { stands = set_else h slot shape inside (slot_at h slot) i other; rows = refl }
  else_settled (Taken change) right i other =
      record {
        stands = set_else h slot shape inside (with_session (slot_at h slot) (changed ses change)) i other;
        rows = refl;
      }
  else_settled (Wanted change key) right i other =
      go (granted (room_of h slot) (keys_of h) (row_key slot key)) refl
    where
      go : (b : Bool) → granted (room_of h slot) (keys_of h) (row_key slot key) ≡ b
          → Alike i (outcome (Wanted change key)).house h
      go true got =
          record {
            stands = rw got (set_else h slot shape inside (with_session (slot_at h slot) (changed ses change)) i other);
            rows = rw got (rows_after_lem change key right got i ∙ rw (ne_eqb slot i (λ q. other (sym q))));
          }
      go false got =
          record { stands = rw got (set_else h slot shape inside (slot_at h slot) i other); rows = rw got }

-- ---- a call that names another slot

module _ (slot : ℕ) (h : House) (shape : Shaped h) where
  abbrev stays : Answered → Type 0
  stays o = Alike slot o.house h

  else_open : (i floor : ℕ) → (slot ≡ i → ⊥) → Alike slot (open_slot h i floor).house h
  unfolding open_slot
  else_open i floor other =
      checked_by (refusal h) stays (open_checks h i floor) _ (λ a. alike_same slot h) (λ e.
      record {
        stands = set_else h i shape (can_open h i floor e).inside (opened_slot floor) slot other;
        rows = refl;
      })

  else_close : (i : ℕ) → (slot ≡ i → ⊥) → Alike slot (close_slot h i).house h
  unfolding close_slot
  else_close i other =
      checked_by (refusal h) stays (slot_checks h i) _ (λ a. alike_same slot h) (λ e.
      let told = is_open_lem h i e in
      record {
        stands = set_else h i shape told.inside closed_slot slot other;
        rows =
            dropped_rows_by slot h.keys h.counts h.used i (keys_kept h i shape told.fine told.inside)
            ∙ rw (ne_eqb slot i other);
      })

  else_deliver : (i : ℕ) (rec : List ℕ) → Bytes rec → (slot ≡ i → ⊥) → Alike slot (deliver h i rec).house h
  unfolding deliver delivered
  else_deliver i rec bytes other =
      checked_by (refusal h) stays (slot_checks h i) _ (λ a. alike_same slot h) (λ e.
      let told = is_open_lem h i e in
      let s = (slot_at h i).session in
      else_settled h i shape told.fine told.inside told.opened (verdict_on s rec) (judged_key s rec bytes) slot
      other)

pub else_alike : (slot : ℕ) (h : House) (c : Call) → Shaped h → Sent c → names slot c ≡ false
    → Alike slot (after h c) h
else_alike slot h (Open i floor) shape sent other =
    else_open slot h shape i floor (λ q. eqb-false i slot other (sym q))
else_alike slot h (Deliver i rec) shape sent other =
    else_deliver slot h shape i rec sent (λ q. eqb-false i slot other (sym q))
else_alike slot h (Report i long) shape sent other = alike_same slot h
else_alike slot h (Close i) shape sent other = else_close slot h shape i (λ q. eqb-false i slot other (sym q))
else_alike slot h Figured shape sent other = alike_same slot h

-- ---- a call that names the slot

module _ (h : House) (slot : ℕ) (shape : Shaped h) (e : sound h ≡ true) (inside : slot < slot_count) where
  pub own_deliver : (rec : List ℕ) → Bytes rec → (slot_at h slot).taken ≡ true
      → Own h slot (verdict_on (slot_at h slot).session rec) (deliver h slot rec)
  unfolding delivered
  own_deliver rec bytes t =
      let s = (slot_at h slot).session in
      let v = verdict_on s rec in
      subst (Own h slot v) (sym (deliver_judged h slot rec e inside t))
      (own_settled h slot shape e inside t v (judged_key s rec bytes))

  pub own_close : (slot_at h slot).taken ≡ true
      → (slot_at (close_slot h slot).house slot ≡ closed_slot) × (rows_at (close_slot h slot).house slot ≡ [])
  unfolding close_slot
  own_close t =
      rw (e, lt-ltb slot slot_count inside, t) (
        set_own h slot shape inside closed_slot,
        dropped_rows_by slot h.keys h.counts h.used slot (keys_kept h slot shape e inside)
            ∙ rw (eq-eqb slot slot refl),
      )

  pub own_open : (floor : ℕ) → leb floor row_count ≡ true → (slot_at h slot).taken ≡ false
      → leb floor (free h - promised h) ≡ true
      → (slot_at (open_slot h slot floor).house slot ≡ opened_slot floor)
      × (rows_at (open_slot h slot floor).house slot ≡ rows_at h slot)
  unfolding open_slot
  own_open floor low shut wide =
      rw (e, lt-ltb slot slot_count inside, low, shut, wide) (set_own h slot shape inside (opened_slot floor), refl)
