-- The statements of specs/Laws.antt, proved: a house stays sound. What one slot's call changes is told once, for any
-- new slot and any new rows, by what it leaves to the others.
-- Assumes nothing.
use mathlib.Core.Path.{◌≡◌, refl, ap, sym, ◌∙◌}
use mathlib.Core.Bool.{Bool, true, false, cond, ◌&&◌, ◌||◌}
use mathlib.Core.List.{List, [], ◌∷◌}
use Prim.Native.Nat.{ℕ, zero, suc, ◌+◌, ◌-◌, ◌/◌, ◌%◌, ◌≤◌, ◌<◌}
use native.Mathlib.Nat.{add-zero, zero-add}
use native.Mathlib.Omega.{arith}
use borrow.Author.Tests.{le-leb, lt-ltb, ltb-true, ltb-false, eq-eqb, ne_eqb}
use lib.Dec.{ltb, eqb}
use lib.ListN.{length, get_or, set, replicate, length-set, get_or-map}
use lib.Seq.{map-set_same, length-take-le, get_or-set_same, get_or-set_other}
use Rattle.prelude.proofs.Both.{both_right}
use Rattle.prelude.proofs.Checks.{checked_by}
use Rattle.numbers.specs.Laws.{Bytes}
use Rattle.answers.specs.declared.Answer.TheVariants.{Done}
use Rattle.rising.specs.Rising.{rising, rising_from, held}
use Rattle.rows.specs.Rows.{slot_count, most_head, most_bin, slot_of, head_of, bin_of, row_key, held_by, sum_by}
use Rattle.rows.specs.Rows.{row_right, rows_right, Kept, Rows, counted, slot_dropped, keys_used, counts_used}
use Rattle.rows.proofs.Laws.{same_or, closed_none, right_open}
use Rattle.rows.proofs.Changes.{counted_length, counted_used, counted_kept, counted_held_by, counted_sum_by}
use Rattle.rows.proofs.Changes.{counted_right, dropped_length}
use Rattle.rows.proofs.Changes.{dropped_used, dropped_kept, dropped_held_other, dropped_sum_other, dropped_right}
use Rattle.session.specs.declared.Session.{Session}
use Rattle.session.specs.declared.Change.{Change}
use Rattle.session.specs.declared.Verdict.{Verdict}
use Rattle.session.specs.declared.Verdict.TheVariants.{Refused, Taken, Wanted}
use Rattle.session.specs.Session as session
use Rattle.session.specs.Session.{cell_count, most_results, past_parts}
use Rattle.session.proofs.Laws.{begun_sound}
use Rattle.settling.specs.Settling.{changed, after, counted_parts}
use Rattle.judging.specs.Judge.{verdict_on}
use Rattle.judging.specs.Laws.{KeyRight}
use Rattle.judging.proofs.Laws.{judged_sound, judged_counts, judged_few, judged_key, judged_long}
use Rattle.house.specs.declared.Slot.{Slot}
use Rattle.house.specs.declared.House.{House}
use Rattle.house.specs.declared.Answered.{Answered}
use Rattle.house.specs.House.{row_count, carry_length, no_slot, closed_slot, opened_slot, fresh, keys_of, counts_of}
use Rattle.house.specs.House.{free, unfilled, promised_from, promised, taken_of, rows_sound, slot_sound, slots_sound}
use Rattle.house.specs.House.{sound}
use Rattle.house.specs.Deliver.{granted, row_taken, resulted_if, settled}
use Rattle.house.specs.Deliver.{delivered, LentCore}
use Rattle.house.specs.Calls.{refusal, open_checks, slot_checks}
use Rattle.house.specs.Calls.{slot_at, with_slot, open_slot, closed, close_slot, room_of, core_of, settled_to}
use Rattle.house.specs.Calls.{with_outcome, deliver}
use Rattle.house.specs.Laws.{Shaped, FreshSound, OpenKeeps, CloseKeeps, DeliverKeeps, BelowFloor}
use Rattle.house.specs.Laws.{ReachedSound}
use Rattle.house.specs.History as calls
use Rattle.house.specs.History.{Call, Open, Deliver, Report, Close, Figured, reached, Sent, AllSent}
use Rattle.house.proofs.Calling.{OpenSlot, slot_told, unfilled_within, lent_core, can_open, is_open_lem}
use Rattle.house.proofs.Calling.{told_within, told_rows, told_slots, told_rooms}
use Rattle.house.proofs.Delivering.{granted_room}
use Rattle.house.proofs.Reporting.{told_rises}

-- ---- what makes a house sound

pub sound_by : (h : House) → h.used ≤ row_count → rising (keys_of h) ≡ true
    → rows_right (taken_of h.slots) (keys_of h) (counts_of h) ≡ true
    → slots_sound 0 h.slots (keys_of h) (counts_of h) ≡ true → promised h ≤ free h → sound h ≡ true
unfolding sound rows_sound
sound_by h within rises right slots rooms =
    rw (le-leb h.used row_count within, rises, right, slots, le-leb (promised h) (free h) rooms)

pub slot_right : (i : ℕ) (s : Slot) (keys counts : List ℕ) → s.taken ≡ true → OpenSlot i s keys counts
    → slot_sound i s keys counts ≡ true
unfolding slot_sound
slot_right i s keys counts t o =
    rw (
      t,
      le-leb s.floor row_count o.floor,
      le-leb s.held carry_length o.carry,
      o.session,
      le-leb s.session.standing.results most_results o.few,
      eq-eqb (sum_by i keys counts) s.session.standing.results o.sum,
    )

pub told_right : (h : House) → sound h ≡ true → rows_right (taken_of h.slots) (keys_of h) (counts_of h) ≡ true
unfolding rows_sound
told_right h e =
    both_right (rising (keys_of h)) (rows_right (taken_of h.slots) (keys_of h) (counts_of h)) (told_rows h e)

closed_right : (i : ℕ) (keys counts : List ℕ) → slot_sound i closed_slot keys counts ≡ true
unfolding slot_sound
closed_right i keys counts = refl

-- ---- one slot changed, and rows that leave the others' as they were

taken_set : (slots : List Slot) (i : ℕ) (s : Slot) → taken_of (set slots i s) ≡ set (taken_of slots) i s.taken
taken_set [] i s = refl
taken_set (x ∷ xs) zero s = refl
taken_set (x ∷ xs) (suc i) s = ap (λ (r : List Bool). x.taken ∷ r) (taken_set xs i s)

-- what the slots from the k-th on come to together: whether all are right, or what is promised to all
abbrev over : {A : Type 0} → (A → A → A) → A → (ℕ → Slot → A) → ℕ → List Slot → A
over join none f k [] = none
over join none f k (s ∷ ss) = join (f k s) (over join none f (suc k) ss)

-- what it was and what it is, apart from one slot
record Apart {A : Type 0} (join : A → A → A) (before after own next : A) : Type 0 where
  rest : A
  was : before ≡ join own rest
  is : after ≡ join next rest

module _ {A : Type 0} (join : A → A → A) (none : A) (swap : (a b c : A) → join a (join b c) ≡ join b (join a c))
    (f g : ℕ → Slot → A) where
  over_same : (k : ℕ) (slots : List Slot) → ((j : ℕ) (x : Slot) → k ≤ j → g j x ≡ f j x)
      → over join none g k slots ≡ over join none f k slots
  over_same k [] same = refl
  over_same k (s ∷ ss) same =
      rw (same k s (omega arith), over_same (suc k) ss (λ j x h. same j x (omega (arith, h))))

  -- one slot changed, and all others come to what they did
  over_one : (k : ℕ) (slots : List Slot) (i : ℕ) (s : Slot) → i < length slots
      → ((j : ℕ) (x : Slot) → (j ≡ k + i → ⊥) → g j x ≡ f j x)
      → Apart join (over join none f k slots) (over join none g k (set slots i s)) (f (k + i) (get_or slots i no_slot))
      (g (k + i) s)
  over_one k [] i s h same = absurd (omega arith)
  over_one k (x ∷ xs) zero s h same =
      record {
        rest = over join none f (suc k) xs;
        was = rw (add-zero k);
        is = rw (add-zero k, over_same (suc k) xs (λ j y l. same j y (λ q. omega (arith, l, q))));
      }
  over_one k (x ∷ xs) (suc i) s h same =
      let on : k + suc i ≡ suc k + i = omega arith in
      let p = over_one (suc k) xs i s (omega arith) (λ j y ne. same j y (λ q. ne (omega (arith, q)))) in
      record {
        rest = join (f k x) p.rest;
        was = rw (on, p.was) (swap (f k x) (f (suc k + i) (get_or xs i no_slot)) p.rest);
        is = rw (on, same k x (λ q. omega (arith, q)), p.is) (swap (f k x) (g (suc k + i) s) p.rest);
      }

slots_over : (keys counts : List ℕ) (k : ℕ) (slots : List Slot)
    → slots_sound k slots keys counts ≡ over ◌&&◌ true (λ (j : ℕ) (s : Slot). slot_sound j s keys counts) k slots
unfolding slots_sound
slots_over keys counts k [] = refl
slots_over keys counts k (s ∷ ss) = rw (slots_over keys counts (suc k) ss)

pub slots_one : (keys counts ks cs : List ℕ) (slots : List Slot) (i : ℕ) (s : Slot) → i < length slots
    → ((j : ℕ) → (j ≡ i → ⊥) → sum_by j ks cs ≡ sum_by j keys counts) → slots_sound 0 slots keys counts ≡ true
    → slot_sound i s ks cs ≡ true → slots_sound 0 (set slots i s) ks cs ≡ true
unfolding slot_sound
slots_one keys counts ks cs slots i s inside same e right =
    let one = rw (zero-add i) at
    (over_one ◌&&◌ true swap (λ (j : ℕ) (x : Slot). slot_sound j x keys counts)
    (λ (j : ℕ) (x : Slot). slot_sound j x ks cs) 0 slots i s inside
    (λ j x ne. rw (same j (λ q. ne (omega (arith, q)))))) in
    let rest = both_right (slot_sound i (get_or slots i no_slot) keys counts) one.rest
    (sym one.was ∙ sym (slots_over keys counts 0 slots) ∙ e) in
    slots_over ks cs 0 (set slots i s) ∙ one.is ∙ rw (right, rest)
  where
    swap : (a b c : Bool) → (a && (b && c)) ≡ (b && (a && c))
    swap true b c = refl
    swap false true c = refl
    swap false false c = refl

promised_over : (keys : List ℕ) (k : ℕ) (slots : List Slot)
    → promised_from k slots keys ≡ over ◌+◌ 0 (λ (j : ℕ) (s : Slot). unfilled j s keys) k slots
unfolding promised_from
promised_over keys k [] = refl
promised_over keys k (s ∷ ss) = rw (promised_over keys (suc k) ss)

pub promised_one : (keys ks : List ℕ) (slots : List Slot) (i : ℕ) (s : Slot) → i < length slots
    → ((j : ℕ) → (j ≡ i → ⊥) → held_by j ks ≡ held_by j keys)
    → promised_from 0 (set slots i s) ks + unfilled i (get_or slots i no_slot) keys
    ≡ promised_from 0 slots keys + unfilled i s ks
unfolding unfilled
promised_one keys ks slots i s inside same =
    let one = rw (zero-add i) at
    (over_one ◌+◌ 0 (λ a b c. omega arith) (λ (j : ℕ) (x : Slot). unfilled j x keys)
    (λ (j : ℕ) (x : Slot). unfilled j x ks) 0 slots i s inside (λ j x ne. rw (same j (λ q. ne (omega (arith, q)))))) in
    omega (arith, promised_over keys 0 slots, promised_over ks 0 (set slots i s), one.was, one.is)

unfilled_most : (i : ℕ) (s : Slot) (keys : List ℕ) → unfilled i s keys ≤ s.floor
unfolding unfilled
unfilled_most i s keys = go s.taken
  where
    go : (t : Bool) → cond t (s.floor - held_by i keys) 0 ≤ s.floor
    go true = omega arith
    go false = omega arith

-- ---- a fresh house

pub fresh_sound : FreshSound
unfolding sound rows_sound slots_sound slot_sound promised_from unfilled rising rising_from rows_right
fresh_sound = refl

-- ---- open

abbrev Sound : Answered → Type 0
Sound o = sound o.house ≡ true

module _ (h : House) (slot : ℕ) (shape : Shaped h) (e : sound h ≡ true) (inside : slot < slot_count) where
  pub keys_kept : Kept h.keys h.counts h.used
  keys_kept =
      record {
        fits = omega (arith, told_within h e, shape.keys);
        paired = shape.counts ∙ sym shape.keys;
        rises = told_rises h e;
      }

  pub there : slot < length h.slots
  there = omega (arith, inside, shape.slots)

  opened_sound : (floor : ℕ) → floor ≤ row_count → (slot_at h slot).taken ≡ false → floor ≤ free h - promised h
      → sound (with_slot h slot (opened_slot floor)) ≡ true
  opened_sound floor low shut room =
      let keys = keys_of h in
      let counts = counts_of h in
      let s = opened_slot floor in
      let shut_there : get_or (taken_of h.slots) slot false ≡ false =
      get_or-map (λ (s : Slot). s.taken) h.slots slot no_slot ∙ shut in
      let none = closed_none (taken_of h.slots) keys counts slot (told_right h e) shut_there in
      let right : OpenSlot slot s keys counts =
      record { floor = low; carry = omega arith; session = begun_sound; few = omega arith; sum = none.1 } in
      sound_by (with_slot h slot s) (told_within h e) (told_rises h e)
      (rw (taken_set h.slots slot s) (right_open (taken_of h.slots) keys counts slot (told_right h e)))
      (slots_one keys counts keys counts h.slots slot s there (λ j g. refl) (told_slots h e)
      (slot_right slot s keys counts refl right))
      (omega (
        arith,
        promised_one keys keys h.slots slot s there (λ j g. refl),
        unfilled_most slot s keys,
        told_rooms h e,
        room,
      ))

  closed_sound : (slot_at h slot).taken ≡ true → sound (closed h slot) ≡ true
  closed_sound t =
      let keys = keys_of h in
      let counts = counts_of h in
      let rows = slot_dropped h.keys h.counts h.used slot in
      let fewer = dropped_used h.keys h.counts h.used slot keys_kept in
      sound_by (closed h slot) (omega (arith, fewer, told_within h e))
      (dropped_kept h.keys h.counts h.used slot keys_kept).rises
      (rw (taken_set h.slots slot closed_slot)
      (dropped_right (taken_of h.slots) h.keys h.counts h.used slot keys_kept (told_right h e)))
      (slots_one keys counts (keys_used rows) (counts_used rows) h.slots slot closed_slot there
      (λ j g. dropped_sum_other h.keys h.counts h.used slot j keys_kept (λ q. g (omega (arith, q))))
      (told_slots h e) (closed_right slot (keys_used rows) (counts_used rows)))
      (omega (
        arith,
        promised_one keys (keys_used rows) h.slots slot closed_slot there
            (λ j g. dropped_held_other h.keys h.counts h.used slot j keys_kept (λ q. g (omega (arith, q)))),
        unfilled_most slot closed_slot (keys_used rows),
        told_rooms h e,
        fewer,
      ))

pub open_keeps : OpenKeeps
unfolding open_slot
open_keeps h slot floor shape e =
    checked_by (refusal h) Sound (open_checks h slot floor) _ (λ a. e) (λ all.
    let ok = can_open h slot floor all in
    opened_sound h slot shape e ok.inside floor ok.low ok.shut ok.wide)

pub close_keeps : CloseKeeps
unfolding close_slot
close_keeps h slot shape e =
    checked_by (refusal h) Sound (slot_checks h slot) _ (λ a. e) (λ all.
    let ok = is_open_lem h slot all in
    closed_sound h slot shape e ok.inside ok.opened)

-- ---- deliver

-- what a slot's session becomes, its rows as they were
abbrev pub with_session : Slot → Session → Slot
with_session s ses = record { taken = s.taken; floor = s.floor; session = ses; held = s.held }

-- a row's key: its slot, its head and its bin
pub key_low : (key : ℕ) → key / 65536 < past_parts → key < 4_278_190_080
key_low key h = omega (arith, h)

pub key_slot : (slot key : ℕ) → key < 4_278_190_080 → slot_of (row_key slot key) ≡ slot
key_slot slot key h = omega (arith, h)

key_head : (slot key : ℕ) → key < 4_278_190_080 → head_of (row_key slot key) ≤ most_head
key_head slot key h = omega (arith, h)

key_bin : (slot key : ℕ) → key % 65536 ≤ most_bin → bin_of (row_key slot key) ≤ most_bin
key_bin slot key h = omega (arith, h)

pub unfilled_open : (i : ℕ) (s : Slot) (keys : List ℕ) → s.taken ≡ true → unfilled i s keys ≡ s.floor - held_by i keys
unfolding unfilled
unfilled_open i s keys t = rw t

-- one row fewer is free: below the floor one fewer is promised too, else there was one that nobody is promised
rooms_after : (floor n others all used left : ℕ) → others + (floor - n) ≡ all → all ≤ row_count - used
    → left + (floor - n) ≡ all + (floor - (1 + n))
    → (ltb n floor || ltb (others + (floor - n)) (row_count - used)) ≡ true → left ≤ row_count - (used + 1)
rooms_after floor n others all used left parted roomy is = go (ltb n floor) refl
  where
    go : (b : Bool) → ltb n floor ≡ b → (b || ltb (others + (floor - n)) (row_count - used)) ≡ true
        → left ≤ row_count - (used + 1)
    go true low f = omega (arith, ltb-true n floor low)
    go false high f = omega (arith, ltb-false n floor high, ltb-true (others + (floor - n)) (row_count - used) f)

module _ (h : House) (slot : ℕ) (shape : Shaped h) (e : sound h ≡ true) (inside : slot < slot_count)
    (t : (slot_at h slot).taken ≡ true) where
  abbrev s : Slot
  s = slot_at h slot

  abbrev keys : List ℕ
  keys = keys_of h

  abbrev counts : List ℕ
  counts = counts_of h

  told : OpenSlot slot s keys counts
  told = slot_told h slot e (there h slot shape e inside) t

  -- a session that counts no part more keeps its rows
  session_sound : (ses : Session) → session.sound ses ≡ true → ses.standing.results ≡ s.session.standing.results
      → sound (with_slot h slot (with_session s ses)) ≡ true
  session_sound ses fine same =
      let next = with_session s ses in
      let right : OpenSlot slot next keys counts =
      record {
        floor = told.floor;
        carry = told.carry;
        session = fine;
        few = omega (arith, told.few, same);
        sum = told.sum ∙ sym same;
      } in
      sound_by (with_slot h slot next) (told_within h e) (told_rises h e)
      (rw (map-set_same (λ (s : Slot). s.taken) h.slots slot next no_slot refl) (told_right h e))
      (slots_one keys counts keys counts h.slots slot next (there h slot shape e inside) (λ j g. refl)
      (told_slots h e) (slot_right slot next keys counts t right))
      (omega (
        arith,
        promised_one keys keys h.slots slot next (there h slot shape e inside) (λ j g. refl),
        unfilled_open slot next keys t,
        unfilled_open slot s keys t,
        told_rooms h e,
      ))

  -- a part result that is granted: one part more under its key
  module _ (key : ℕ) (right : (key / 65536 < past_parts) × (key % 65536 ≤ 32767))
      (got : granted (room_of h slot) keys (row_key slot key) ≡ true) where
    abbrev row : ℕ
    row = row_key slot key

    abbrev rows : Rows
    rows = counted h.keys h.counts h.used row

    kept : Kept h.keys h.counts h.used
    kept = keys_kept h slot shape e inside

    lent : LentCore (room_of h slot) h.keys h.counts h.used s.session.standing s.session.parts
    lent = lent_core h slot e shape.keys shape.counts shape.slots inside t (shape.parts slot inside)

    found : held row keys ≡ false → h.used < row_count
    found new = granted_room (room_of h slot) h.keys h.counts h.used row lent.rows got new

    pub room : held row keys ≡ false → h.used < length h.keys
    room new = omega (arith, found new, shape.keys)

    own : slot_of row ≡ slot
    own = key_slot slot key (key_low key right.0)

    row_right_lem : row_right (taken_of h.slots) row 1 ≡ true
    unfolding row_right
    row_right_lem =
        rw (
          own,
          lt-ltb slot slot_count inside,
          get_or-map (λ (s : Slot). s.taken) h.slots slot no_slot,
          t,
          le-leb (head_of row) most_head (key_head slot key (key_low key right.0)),
          le-leb (bin_of row) most_bin (key_bin slot key right.1),
        )

    other : (j : ℕ) → (j ≡ slot → ⊥) → eqb (slot_of row) j ≡ false
    other j g = ne_eqb (slot_of row) j (λ q. g (omega (arith, q, own)))

    sums : (j : ℕ) → (j ≡ slot → ⊥) → sum_by j (keys_used rows) (counts_used rows) ≡ sum_by j keys counts
    sums j g =
        let sum = counted_sum_by j h.keys h.counts h.used row kept room in
        omega (arith, rw (other j g) at sum)

    helds : (j : ℕ) → (j ≡ slot → ⊥) → held_by j (keys_used rows) ≡ held_by j keys
    helds j g =
        let all = counted_held_by j h.keys h.counts h.used row kept room in
        go (held row keys) (rw (other j g) at all)
      where
        go : (b : Bool) → held_by j (keys_used rows) ≡ cond b 0 0 + held_by j keys
            → held_by j (keys_used rows) ≡ held_by j keys
        go true is = omega (arith, is)
        go false is = omega (arith, is)

    -- its own slot: one part more, and a row more where the key is new
    own_sum : sum_by slot (keys_used rows) (counts_used rows) ≡ 1 + sum_by slot keys counts
    own_sum =
        let all = counted_sum_by slot h.keys h.counts h.used row kept room in
        rw (eq-eqb (slot_of row) slot own) at all

    own_held : held_by slot (keys_used rows) ≡ cond (held row keys) 0 1 + held_by slot keys
    own_held =
        let all = counted_held_by slot h.keys h.counts h.used row kept room in
        rw (eq-eqb (slot_of row) slot own) at all

    -- what is promised to the others, and what is left of its own floor
    parted : (room_of h slot).others + (s.floor - held_by slot keys) ≡ promised h
    parted =
        let within = unfilled_within 0 h.slots keys slot no_slot (there h slot shape e inside) in
        let part : unfilled slot s keys ≤ promised h = rw (zero-add slot) at within in
        omega (arith, part, unfilled_open slot s keys t)

    asked : held row keys ≡ false
        → (ltb (held_by slot keys) s.floor
        || ltb ((room_of h slot).others + (s.floor - held_by slot keys)) (row_count - h.used)) ≡ true
    unfolding granted
    asked new =
        let long = length-take-le h.used h.keys (omega (arith, shape.keys, told_within h e)) in
        rw (new, long) at got

    -- the rooms: a row that was free is promised to no other
    rooms : (ses : Session)
        → (rows.used ≤ row_count)
        × (promised_from 0 (set h.slots slot (with_session s ses)) (keys_used rows) ≤ row_count - rows.used)
    rooms ses = go (held row keys) refl (counted_used h.keys h.counts h.used row) own_held
      where
        next : Slot
        next = with_session s ses

        all : promised_from 0 (set h.slots slot next) (keys_used rows) + (s.floor - held_by slot keys)
            ≡ promised h + (s.floor - held_by slot (keys_used rows))
        all =
            let is = promised_one keys (keys_used rows) h.slots slot next (there h slot shape e inside) helds in
            rw (unfilled_open slot s keys t, unfilled_open slot next (keys_used rows) t) at is

        go : (b : Bool) → held row keys ≡ b → rows.used ≡ cond b h.used (h.used + 1)
            → held_by slot (keys_used rows) ≡ cond b 0 1 + held_by slot keys
            → (rows.used ≤ row_count)
            × (promised_from 0 (set h.slots slot next) (keys_used rows) ≤ row_count - rows.used)
        go true is used more =
            (omega (arith, used, told_within h e), omega (arith, used, more, all, told_rooms h e))
        go false is used more = (
          omega (arith, used, found is),
          omega (
            arith,
            used,
            rooms_after s.floor (held_by slot keys) (room_of h slot).others (promised h) h.used
                (promised_from 0 (set h.slots slot next) (keys_used rows)) parted (told_rooms h e)
                (rw more at all) (asked is),
          ),
        )

    -- so the house is sound, with any session that counts one part more
    result_sound : (ses : Session) → session.sound ses ≡ true → ses.standing.results ≤ most_results
        → ses.standing.results ≡ s.session.standing.results + 1
        → sound
        (record {
          keys = rows.keys;
          counts = rows.counts;
          used = rows.used;
          slots = set h.slots slot (with_session s ses);
        })
        ≡ true
    result_sound ses fine few more =
        let next = with_session s ses in
        let opened : OpenSlot slot next (keys_used rows) (counts_used rows) =
        record {
          floor = told.floor;
          carry = told.carry;
          session = fine;
          few = few;
          sum = omega (arith, own_sum, told.sum, more);
        } in
        sound_by _ (rooms ses).0 (counted_kept h.keys h.counts h.used row kept room).rises
        (rw (map-set_same (λ (s : Slot). s.taken) h.slots slot next no_slot refl)
        (counted_right (taken_of h.slots) h.keys h.counts h.used row kept room (told_right h e) row_right_lem))
        (slots_one keys counts (keys_used rows) (counts_used rows) h.slots slot next (there h slot shape e inside) sums
        (told_slots h e) (slot_right slot next (keys_used rows) (counts_used rows) t opened))
        (rooms ses).1

  -- ---- any verdict

  -- a part result: granted, or refused for room with nothing changed
  wanted_sound : (change : Change) (key : ℕ) → session.sound (changed s.session change) ≡ true
      → (changed s.session change).standing.results ≡ s.session.standing.results + 1
      → (changed s.session change).standing.results ≤ most_results
      → KeyRight (Wanted change key)
      → (b : Bool) → granted (room_of h slot) keys (row_key slot key) ≡ b
      → sound (with_outcome h slot (resulted_if (room_of h slot) (core_of h slot) change key)).house ≡ true
  unfolding resulted_if row_taken
  wanted_sound change key fine more few right true got =
      rw got (result_sound key right got (changed s.session change) fine few more)
  wanted_sound change key fine more few right false got = rw got (session_sound s.session told.session refl)

  abbrev ses : Session
  ses = s.session

  settled_sound : (v : Verdict) → session.sound (after ses v) ≡ true
      → (after ses v).standing.results ≡ ses.standing.results + counted_parts v
      → (after ses v).standing.results ≤ most_results → KeyRight v
      → sound (with_outcome h slot (settled_to h slot v)).house ≡ true
  unfolding settled after
  settled_sound (Refused a) fine more few right = session_sound ses told.session refl
  settled_sound (Taken change) fine more few right = session_sound (changed ses change) fine (omega (arith, more))
  settled_sound (Wanted change key) fine more few right =
      wanted_sound change key fine more few right (granted (room_of h slot) keys (row_key slot key)) refl

pub deliver_keeps : DeliverKeeps
unfolding deliver delivered
deliver_keeps h slot rec bytes shape e =
    checked_by (refusal h) Sound (slot_checks h slot) _ (λ a. e) (λ all.
    let ok = is_open_lem h slot all in
    let ses = (slot_at h slot).session in
    let now = told h slot shape e ok.inside ok.opened in
    settled_sound h slot shape e ok.inside ok.opened (verdict_on ses rec)
    (judged_sound ses rec bytes (shape.parts slot ok.inside) now.session) (judged_counts ses rec)
    (judged_few ses rec now.few) (judged_key ses rec bytes))

-- ---- below its floor

pub below_floor : BelowFloor
unfolding deliver delivered settled resulted_if row_taken granted
below_floor h slot rec change key e inside t asks low =
    go (held (row_key slot key) (keys_of h)) refl
  where
    go : (b : Bool) → held (row_key slot key) (keys_of h) ≡ b → (deliver h slot rec).answer ≡ Done
    go true is = rw (e, lt-ltb slot slot_count inside, t, asks, is)
    go false is =
        rw (e, lt-ltb slot slot_count inside, t, asks, is, lt-ltb (held_by slot (keys_of h)) (slot_at h slot).floor low)

-- ---- the shape of a house

pub fresh_shaped : Shaped fresh
fresh_shaped = record { keys = refl; counts = refl; slots = refl; parts = closed_at slot_count }
  where
    closed_at : (n i : ℕ) → i < n → length (get_or (replicate n closed_slot) i no_slot).session.parts ≡ cell_count
    closed_at zero i h = absurd (omega arith)
    closed_at (suc n) zero h = refl
    closed_at (suc n) (suc i) h = closed_at n i (omega arith)

-- other rows, as many, and another slot with as many parts
pub shaped_by : (h : House) (ks cs : List ℕ) (n slot : ℕ) (s : Slot) → Shaped h → length ks ≡ row_count
    → length cs ≡ row_count → length s.session.parts ≡ cell_count → slot < slot_count
    → Shaped (record { keys = ks; counts = cs; used = n; slots = set h.slots slot s })
shaped_by h ks cs n slot s shape long paired cells there =
    record {
      keys = long;
      counts = paired;
      slots = length-set h.slots slot s ∙ shape.slots;
      parts = λ i inside.
          same_or i slot
          (λ q. rw (q, get_or-set_same h.slots slot s no_slot (omega (arith, there, shape.slots))) cells)
          (λ ne. rw (get_or-set_other h.slots slot i s no_slot ne) (shape.parts i inside));
    }

open_shaped : (h : House) (slot floor : ℕ) → Shaped h → Shaped (open_slot h slot floor).house
unfolding open_slot
open_shaped h slot floor shape =
    checked_by (refusal h) (λ (o : Answered). Shaped o.house) (open_checks h slot floor) _ (λ a. shape) (λ all.
    shaped_by h h.keys h.counts h.used slot (opened_slot floor) shape shape.keys shape.counts refl
    (can_open h slot floor all).inside)

close_shaped : (h : House) (slot : ℕ) → Shaped h → Shaped (close_slot h slot).house
unfolding close_slot
close_shaped h slot shape =
    checked_by (refusal h) (λ (o : Answered). Shaped o.house) (slot_checks h slot) _ (λ a. shape) (λ all.
    let ok = is_open_lem h slot all in
    let kept = keys_kept h slot shape ok.fine ok.inside in
    let rows = slot_dropped h.keys h.counts h.used slot in
    let long = dropped_length h.keys h.counts h.used slot kept ∙ shape.keys in
    shaped_by h rows.keys rows.counts rows.used slot closed_slot shape long
    ((dropped_kept h.keys h.counts h.used slot kept).paired ∙ long) refl ok.inside)

module _ (h : House) (slot : ℕ) (shape : Shaped h) (e : sound h ≡ true) (inside : slot < slot_count)
    (t : (slot_at h slot).taken ≡ true) where
  -- a session with as many cells, the rows as they were
  session_shaped : (ses : Session) → length ses.parts ≡ cell_count
      → Shaped (with_slot h slot (with_session (slot_at h slot) ses))
  session_shaped ses cells =
      shaped_by h h.keys h.counts h.used slot (with_session (slot_at h slot) ses) shape shape.keys
      shape.counts cells inside

  abbrev current : Session
  current = (slot_at h slot).session

  wanted_shaped : (change : Change) (key : ℕ) → length (changed current change).parts ≡ cell_count
      → KeyRight (Wanted change key) → (b : Bool) → granted (room_of h slot) (keys_of h) (row_key slot key) ≡ b
      → Shaped (with_outcome h slot (resulted_if (room_of h slot) (core_of h slot) change key)).house
  unfolding resulted_if row_taken
  wanted_shaped change key cells right true got =
      let rows = counted h.keys h.counts h.used (row_key slot key) in
      let kept = keys_kept h slot shape e inside in
      let room = room h slot shape e inside t key right got in
      let long = counted_length h.keys h.counts h.used (row_key slot key) kept room ∙ shape.keys in
      rw got
      (shaped_by h rows.keys rows.counts rows.used slot
      (with_session (slot_at h slot) (changed current change)) shape long
      ((counted_kept h.keys h.counts h.used (row_key slot key) kept room).paired ∙ long) cells inside)
  wanted_shaped change key cells right false got = rw got (session_shaped current (shape.parts slot inside))

  settled_shaped : (v : Verdict) → length (after current v).parts ≡ cell_count → KeyRight v
      → Shaped (with_outcome h slot (settled_to h slot v)).house
  unfolding settled after
  settled_shaped (Refused a) cells right = session_shaped current cells
  settled_shaped (Taken change) cells right = session_shaped (changed current change) cells
  settled_shaped (Wanted change key) cells right =
      wanted_shaped change key cells right (granted (room_of h slot) (keys_of h) (row_key slot key)) refl

deliver_shaped : (h : House) (slot : ℕ) (rec : List ℕ) → Bytes rec → Shaped h → Shaped (deliver h slot rec).house
unfolding deliver delivered
deliver_shaped h slot rec bytes shape =
    checked_by (refusal h) (λ (o : Answered). Shaped o.house) (slot_checks h slot) _ (λ a. shape) (λ all.
    let ok = is_open_lem h slot all in
    let ses = (slot_at h slot).session in
    settled_shaped h slot shape ok.fine ok.inside ok.opened (verdict_on ses rec)
    (judged_long ses rec (shape.parts slot ok.inside)
    (told h slot shape ok.fine ok.inside ok.opened).session)
    (judged_key ses rec bytes))

-- ---- any sequence of calls

pub after_keeps : (h : House) (c : Call) → Sent c → Shaped h → sound h ≡ true → sound (calls.after h c) ≡ true
after_keeps h (Open slot floor) sent shape e = open_keeps h slot floor shape e
after_keeps h (Deliver slot rec) sent shape e = deliver_keeps h slot rec sent shape e
after_keeps h (Report slot long) sent shape e = e
after_keeps h (Close slot) sent shape e = close_keeps h slot shape e
after_keeps h Figured sent shape e = e

pub after_shaped : (h : House) (c : Call) → Sent c → Shaped h → Shaped (calls.after h c)
after_shaped h (Open slot floor) sent shape = open_shaped h slot floor shape
after_shaped h (Deliver slot rec) sent shape = deliver_shaped h slot rec sent shape
after_shaped h (Report slot long) sent shape = shape
after_shaped h (Close slot) sent shape = close_shaped h slot shape
after_shaped h Figured sent shape = shape

reached_keeps : (h : House) (calls : List Call) → AllSent calls → Shaped h → sound h ≡ true
    → sound (reached h calls) ≡ true
reached_keeps h [] sent shape e = e
reached_keeps h (c ∷ cs) sent shape e =
    reached_keeps (calls.after h c) cs sent.1 (after_shaped h c sent.0 shape) (after_keeps h c sent.0 shape e)

pub reached_sound : ReachedSound
reached_sound calls sent = reached_keeps fresh calls sent fresh_shaped fresh_sound
