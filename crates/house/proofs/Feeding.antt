-- Bytes held, proved (specs/Laws.antt): a record does not read how many there are, and leaves it as it is. A slot that
-- holds others is in all else the slot that it was.
-- Assumes nothing.
use mathlib.Core.Path.{◌≡◌, refl, ap, subst, sym, ◌∙◌}
use mathlib.Core.Bool.{Bool, true, false, cond}
use mathlib.Core.List.{List, [], ◌∷◌, ◌++◌, append-nil, append_assoc}
use Prim.Native.Nat.{ℕ, zero, suc, ◌+◌, ◌-◌, ◌≤◌, ◌<◌}
use native.Mathlib.Omega.{arith}
use borrow.Author.Tests.{lt-ltb, le-ltb, ltb-true, ltb-false, eq-eqb, eqb-true, eqb-false}
use lib.Dec.{eqb, leb, ltb}
use lib.ListN.{length, get_or, take, drop, set, length-append, length-drop, take-append-drop}
use lib.Seq.{get_or-set_same, get_or-set_other, set-set, set_comm, map-set_same, length-take-le, take-append-add}
use lib.Seq.{get_or-append-add, take_all, take_at}
use Rattle.prelude.specs.All.{all}
use Rattle.prelude.specs.Checks.{◌else◌, tests, number_by}
use Rattle.prelude.proofs.All.{all_at}
use Rattle.prelude.proofs.Checks.{checked_by, checked_number}
use Rattle.answers.specs.declared.Answer.{Answer}
use Rattle.answers.specs.declared.Answer.TheVariants.{Done, NotOneRecord}
use Rattle.answers.specs.Numbers.{number_of}
use Rattle.numbers.specs.Laws.{Bytes}
use Rattle.numbers.proofs.Laws.{part_bytes, bytes_append}
use Rattle.rows.specs.Rows.{slot_count}
use Rattle.session.specs.declared.Standing.{Standing}
use Rattle.cutting.specs.Needed.{longest, needed, cut}
use Rattle.cutting.specs.Walk.{Heard, Kept, Turned, Walked, Waits, Stops, walked, joined, accepted, left, state_of}
use Rattle.cutting.specs.Laws.{TurnedAt, HeardIs, HeardLike, WalkLike, Same, Framed}
use Rattle.cutting.proofs.Walks.{walked_bytes, walked_turned, walked_keeps, walked_ever}
use Rattle.cutting.proofs.Cuts.{needed_most, cut_record, cut_most, cut_framed}
use Rattle.house.specs.declared.Slot.{Slot}
use Rattle.house.specs.declared.House.{House}
use Rattle.house.specs.declared.Answered.{Answered}
use Rattle.house.specs.House.{carry_length, no_slot, keys_of, counts_of, unfilled, promised, sound}
use Rattle.house.specs.Deliver.{Outcome}
use Rattle.house.specs.Calls.{slot_at, answered, refusal, open_checks, open_slot, slot_checks, close_slot}
use Rattle.house.specs.Calls.{room_of, core_of, delivered_to, with_outcome, deliver}
use Rattle.house.specs.Feeding.{standing_at, heard, hearing, poured, held_in, with_held, Feed, fed_to, unfed}
use Rattle.house.specs.Feeding.{feed_checks, feed, end_checks, end_feed}
use Rattle.house.specs.History.{Open, Deliver, Report, Close, Figured}
use Rattle.house.specs.Laws.{Shaped, HeldFree, HeldFreeElse, WithheldSound, HeldLess, FedKeeps, FedAll, FedTaken}
use Rattle.house.specs.Laws.{FedPast, FeedNumber, EndNumber}
use Rattle.house.proofs.Calling.{OpenSlot, slot_told, told_within, told_slots, told_rooms, deliver_no_slot}
use Rattle.house.proofs.Calling.{deliver_shut, deliver_judged, same_slot, IsOpen}
use Rattle.house.proofs.Reporting.{told_rises}
use Rattle.house.proofs.Keeping.{sound_by, slot_right, told_right, slots_one, promised_one, there, shaped_by}
use Rattle.house.proofs.Keeping.{deliver_keeps, after_shaped}
use Rattle.house.proofs.Slots.{own_deliver}

-- a slot that holds another number of bytes
abbrev pub holding : Slot → ℕ → Slot
holding s n = record { taken = s.taken; floor = s.floor; session = s.session; held = n }

-- with as many as it holds it is the same
pub held_same : (h : House) (slot : ℕ) → with_held h slot (slot_at h slot).held ≡ h
held_same h slot = same_slot h slot

module _ (h : House) (slot : ℕ) (shape : Shaped h) (inside : slot < slot_count) where
  pub held_at_lem : (k : ℕ) → slot_at (with_held h slot k) slot ≡ holding (slot_at h slot) k
  held_at_lem k = get_or-set_same h.slots slot (holding (slot_at h slot) k) no_slot (omega (arith, inside, shape.slots))

  -- held again: only the last counts
  pub held_twice : (j k : ℕ) → with_held (with_held h slot j) slot k ≡ with_held h slot k
  held_twice j k = rw (held_at_lem j, set-set h.slots slot (holding (slot_at h slot) j) (holding (slot_at h slot) k))

  pub withheld_shaped : (k : ℕ) → Shaped (with_held h slot k)
  withheld_shaped k =
      shaped_by h h.keys h.counts h.used slot (holding (slot_at h slot) k) shape shape.keys shape.counts
      (shape.parts slot inside) inside

  unfilled_held : (k : ℕ) (keys : List ℕ)
      → unfilled slot (holding (slot_at h slot) k) keys ≡ unfilled slot (slot_at h slot) keys
  unfolding unfilled
  unfilled_held k keys = refl

  promised_held : (k : ℕ) → promised (with_held h slot k) ≡ promised h
  promised_held k =
      omega (
        arith,
        promised_one (keys_of h) (keys_of h) h.slots slot (holding (slot_at h slot) k)
            (omega (arith, inside, shape.slots)) (λ j g. refl),
        unfilled_held k (keys_of h),
      )

  -- what a record reads
  room_held : (k : ℕ) → room_of (with_held h slot k) slot ≡ room_of h slot
  room_held k = rw (held_at_lem k, promised_held k, unfilled_held k (keys_of h))

  core_held : (k : ℕ) → core_of (with_held h slot k) slot ≡ core_of h slot
  core_held k = rw (held_at_lem k)

  -- .. and what it makes of the house
  outcome_held : (k : ℕ) (o : Outcome)
      → with_outcome (with_held h slot k) slot o
      ≡ answered (with_outcome h slot o).answer (with_held (with_outcome h slot o).house slot k)
  outcome_held k o =
      let s = slot_at h slot in
      let next : Slot =
      record {
        taken = s.taken;
        floor = s.floor;
        session = record { standing = o.core.standing; parts = o.core.parts };
        held = s.held;
      } in
      rw (
        held_at_lem k,
        get_or-set_same h.slots slot next no_slot (omega (arith, inside, shape.slots)),
        set-set h.slots slot next (holding next k),
        set-set h.slots slot (holding s k) (holding next k),
      )

pub withheld_sound : WithheldSound
withheld_sound h slot k shape e inside t low =
    let s = slot_at h slot in
    let next = holding s k in
    let keys = keys_of h in
    let counts = counts_of h in
    let here = there h slot shape e inside in
    let told = slot_told h slot e here t in
    let right : OpenSlot slot next keys counts =
    record { floor = told.floor; carry = low; session = told.session; few = told.few; sum = told.sum } in
    sound_by (with_held h slot k) (told_within h e) (told_rises h e)
    (rw (map-set_same (λ (s : Slot). s.taken) h.slots slot next no_slot refl) (told_right h e))
    (slots_one keys counts keys counts h.slots slot next here (λ j g. refl) (told_slots h e)
    (slot_right slot next keys counts t right))
    (omega (arith, promised_held h slot shape inside k, told_rooms h e))

pub held_free : HeldFree
held_free h slot k rec shape e inside t low =
    let g = with_held h slot k in
    let taken : (slot_at g slot).taken ≡ true = rw (held_at_lem h slot shape inside k) t in
    let same : delivered_to g slot rec ≡ delivered_to h slot rec =
    rw (room_held h slot shape inside k, core_held h slot shape inside k) in
    deliver_judged g slot rec (withheld_sound h slot k shape e inside t low) inside taken
    ∙ ap (with_outcome g slot) same
    ∙ outcome_held h slot shape inside k (delivered_to h slot rec)
    ∙ rw (deliver_judged h slot rec e inside t)

-- .. of another slot
module _ (h : House) (slot i : ℕ) (shape : Shaped h) (inside : slot < slot_count) (ne : i ≡ slot → ⊥) where
  else_at : (k : ℕ) → slot_at (with_held h slot k) i ≡ slot_at h i
  else_at k = get_or-set_other h.slots slot i (holding (slot_at h slot) k) no_slot ne

  else_outcome : (k : ℕ) (o : Outcome)
      → with_outcome (with_held h slot k) i o
      ≡ answered (with_outcome h i o).answer (with_held (with_outcome h i o).house slot k)
  else_outcome k o =
      let s = slot_at h i in
      let next : Slot =
      record {
        taken = s.taken;
        floor = s.floor;
        session = record { standing = o.core.standing; parts = o.core.parts };
        held = s.held;
      } in
      rw (
        else_at k,
        get_or-set_other h.slots i slot next no_slot (λ q. ne (sym q)),
        set_comm h.slots slot i (holding (slot_at h slot) k) next (λ q. ne (sym q)),
      )

  else_delivered : (k : ℕ) (rec : List ℕ) → delivered_to (with_held h slot k) i rec ≡ delivered_to h i rec
  else_delivered k rec = rw (else_at k, promised_held h slot shape inside k)

pub held_free_else : HeldFreeElse
held_free_else h slot k i rec shape e inside t few ne =
    go (ltb i slot_count) refl (slot_at h i).taken refl
  where
    fine : sound (with_held h slot k) ≡ true
    fine = withheld_sound h slot k shape e inside t few

    go : (b : Bool) → ltb i slot_count ≡ b → (c : Bool) → (slot_at h i).taken ≡ c
        → deliver (with_held h slot k) i rec
        ≡ answered (deliver h i rec).answer (with_held (deliver h i rec).house slot k)
    go false out c is =
        let past = ltb-false i slot_count out in
        deliver_no_slot (with_held h slot k) i rec fine past ∙ rw (deliver_no_slot h i rec e past)
    go true low false is =
        let there = ltb-true i slot_count low in
        deliver_shut (with_held h slot k) i rec fine there
        (ap (λ (s : Slot). s.taken) (else_at h slot i shape inside ne k) ∙ is)
        ∙ rw (deliver_shut h i rec e there is)
    go true low true is =
        let there = ltb-true i slot_count low in
        deliver_judged (with_held h slot k) i rec fine there
        (ap (λ (s : Slot). s.taken) (else_at h slot i shape inside ne k) ∙ is)
        ∙ ap (with_outcome (with_held h slot k) i) (else_delivered h slot i shape inside ne k rec)
        ∙ else_outcome h slot i shape inside ne k (delivered_to h i rec)
        ∙ rw (deliver_judged h i rec e there is)

-- ---- the calls of document 01

-- a slot set to one that holds no more
set_less : (slots : List Slot) (i : ℕ) (s : Slot) (j : ℕ) → s.held ≤ (get_or slots i no_slot).held
    → (get_or (set slots i s) j no_slot).held ≤ (get_or slots j no_slot).held
set_less [] i s j low = omega arith
set_less (x ∷ xs) zero s zero low = low
set_less (x ∷ xs) zero s (suc j) low = omega arith
set_less (x ∷ xs) (suc i) s zero low = omega arith
set_less (x ∷ xs) (suc i) s (suc j) low = set_less xs i s j low

abbrev Less : House → ℕ → Answered → Type 0
Less h j o = (slot_at o.house j).held ≤ (slot_at h j).held

pub held_less : HeldLess
unfolding open_slot deliver close_slot
held_less h (Open slot floor) j =
    checked_by (refusal h) (Less h j) (open_checks h slot floor) _ (λ a. omega arith)
    (λ e. set_less h.slots slot _ j (omega arith))
held_less h (Deliver slot rec) j =
    checked_by (refusal h) (Less h j) (slot_checks h slot) _ (λ a. omega arith)
    (λ e. set_less h.slots slot _ j (omega arith))
held_less h (Report slot long) j = omega arith
held_less h (Close slot) j =
    checked_by (refusal h) (Less h j) (slot_checks h slot) _ (λ a. omega arith)
    (λ e. set_less h.slots slot _ j (omega arith))
held_less h Figured j = omega arith

-- ---- what the checks of a feed say, where all hold

pub can_feed : (h : House) (slot long : ℕ) → all (tests (feed_checks h slot long)) ≡ true → IsOpen h slot
can_feed h slot long e =
    let at = all_at (tests (feed_checks h slot long)) e in
    record { fine = at 0; inside = ltb-true slot slot_count (at 1); opened = at 2 }

-- .. and what they ask
pub feeds : (h : House) (slot long : ℕ) → IsOpen h slot → long ≡ carry_length
    → all (tests (feed_checks h slot long)) ≡ true
feeds h slot long o is = rw (o.fine, lt-ltb slot slot_count o.inside, o.opened) (eq-eqb long carry_length is)

-- the length of a carry that they let pass
pub fed_long : (h : House) (slot long : ℕ) → all (tests (feed_checks h slot long)) ≡ true → long ≡ carry_length
fed_long h slot long e = eqb-true long carry_length (all_at (tests (feed_checks h slot long)) e 3)

-- ---- a record of a feed

-- no record of bytes is too long for a carry: it is heard as deliver judges it
pub hears : (slot : ℕ) (h : House) (r : List ℕ) → Bytes r → (hearing slot).hear h r ≡ heard (deliver h slot r)
hears slot h r bytes =
    rw (le-ltb longest (needed (standing_at slot h) r) (needed_most (standing_at slot h) r bytes))

pub heard_by_lem : (P : Heard House Answer → Type 0) (o : Answered) → (number_of o.answer ≡ 0 → P (Kept o.house))
    → ((number_of o.answer ≡ 0 → ⊥) → P (Turned o.answer)) → P (heard o)
unfolding heard
heard_by_lem P o kept turned = go (eqb (number_of o.answer) 0) refl
  where
    go : (b : Bool) → eqb (number_of o.answer) 0 ≡ b → P (cond b (Kept o.house) (Turned o.answer))
    go true e = kept (eqb-true (number_of o.answer) 0 e)
    go false e = turned (eqb-false (number_of o.answer) 0 e)

-- what stops a feed is an answer that deliver gave and that is none of 0, or 3
pub turned_by : (P : Answer → Type 0) (slot : ℕ) (h : House) (r : List ℕ) (a : Answer)
    → (hearing slot).hear h r ≡ Turned a → P NotOneRecord
    → ((number_of (deliver h slot r).answer ≡ 0 → ⊥) → P (deliver h slot r).answer) → P a
turned_by P slot h r a is long refused = go (ltb longest (needed (standing_at slot h) r)) is
  where
    same : (x : Answer) → ◌≡◌ {A = Heard House Answer} (Turned x) (Turned a) → P x → P a
    same x e p =
        let q : x ≡ a = cc in
        subst P q p

    go : (b : Bool) → cond b (Turned NotOneRecord) (heard (deliver h slot r)) ≡ Turned a → P a
    go true e = same NotOneRecord e long
    go false e =
        heard_by_lem (λ (v : Heard House Answer). v ≡ Turned a → P a) (deliver h slot r)
        (λ z q. let zero_one : ◌≡◌ {A = ℕ} 0 1 = cc in absurd (omega arith))
        (λ ne q. same (deliver h slot r).answer q (refused ne)) e

-- so it is not 0
pub turned_some : (slot : ℕ) (h : House) (r : List ℕ) (a : Answer) → (hearing slot).hear h r ≡ Turned a
    → number_of a ≡ 0 → ⊥
turned_some slot h r a is =
    turned_by (λ (x : Answer). number_of x ≡ 0 → ⊥) slot h r a is (λ z. omega (arith, z)) (λ ne. ne)

-- what a feed's records keep of the house that they began with
pub record Going (was : House) (slot : ℕ) (h : House) : Type 0 where
  pub shaped : Shaped h
  pub sound : sound h ≡ true
  pub taken : (slot_at h slot).taken ≡ true
  pub less : (i : ℕ) → (slot_at h i).held ≤ (slot_at was i).held

pub going_from : (h : House) (slot : ℕ) → Shaped h → sound h ≡ true → (slot_at h slot).taken ≡ true → Going h slot h
going_from h slot shape e t = record { shaped = shape; sound = e; taken = t; less = λ i. omega arith }

module _ (was : House) (slot : ℕ) (inside : slot < slot_count) where
  pub deliver_going : (h : House) (r : List ℕ) → Bytes r → Going was slot h → Going was slot (deliver h slot r).house
  deliver_going h r bytes g =
      record {
        shaped = after_shaped h (Deliver slot r) bytes g.shaped;
        sound = deliver_keeps h slot r bytes g.shaped g.sound;
        taken =
            ap (λ (s : Slot). s.taken) (own_deliver h slot g.shaped g.sound inside r bytes g.taken).stands
            ∙ g.taken;
        less = λ i. omega (arith, g.less i, held_less h (Deliver slot r) i);
      }

  going_on : (h : House) (r : List ℕ) → Bytes r → Going was slot h → HeardIs (Going was slot) ((hearing slot).hear h r)
  going_on h r bytes g =
      rw (hears slot h r bytes)
      (heard_by_lem (HeardIs (Going was slot)) (deliver h slot r) (λ e. deliver_going h r bytes g) (λ ne. tt))

  pub walk_going : (h : House) (bs : List ℕ) → Bytes bs → Going was slot h
      → Going was slot (state_of (walked (hearing slot) (Waits h []) bs))
  walk_going h bs bytes g = walked_keeps House Answer (hearing slot) (Going was slot) going_on h bs bytes g

-- ---- what a feed holds

pub poured_state : (n : ℕ) (w : Walked House Answer) → (poured n w).state ≡ state_of w
poured_state n (Waits h part) = refl
poured_state n (Stops h r a rest) = refl

poured_bytes : (n : ℕ) (w : Walked House Answer) → Bytes (left w) → Bytes (poured n w).held
poured_bytes n (Waits h part) bytes = bytes
poured_bytes n (Stops h r a rest) bytes =
    rw (← take-append-add r rest (length rest - n)) (part_bytes (r ++ rest) 0 (length r + (length rest - n)) bytes)

poured_short : (slot before n : ℕ) (w : Walked House Answer) → Framed (standing_at slot) longest w
    → length (left w) ≤ before + n → before ≤ carry_length → length (poured n w).held ≤ carry_length
poured_short slot before n (Waits h part) f l low =
    omega (arith, f, cut_most longest (standing_at slot h) (omega arith) part)
poured_short slot before n (Stops h r a rest) f l low =
    omega (
      arith,
      f,
      cut_most longest (standing_at slot h) (omega arith) r,
      length-append r rest,
      length-append r (take (length rest - n) rest),
      length-take-le (length rest - n) rest (omega arith),
    )

behind_bytes : (xs ys : List ℕ) → Bytes (xs ++ ys) → Bytes ys
behind_bytes xs ys bytes k = rw (← get_or-append-add xs ys k 0) (bytes (length xs + k))

pub fed_keeps : FedKeeps
fed_keeps h slot held chunk shape e inside t old new low =
    let m = hearing slot in
    let bs = held ++ chunk in
    let bytes = bytes_append held chunk old new in
    let w = walked m (Waits h []) bs in
    let p = poured (length chunk) w in
    let parts = walked_bytes House Answer m (Waits h []) bs in
    let acc = joined (accepted m (Waits h []) bs) in
    let going : Going h slot p.state = rw (poured_state (length chunk) w)
    (walk_going h slot inside h bs bytes (going_from h slot shape e t)) in
    let short : length p.held ≤ carry_length = poured_short slot (length held) (length chunk) w
    (cut_framed House Answer (standing_at slot) longest _ _ h bs (omega arith))
    (omega (arith, ap length parts, length-append acc (left w), length-append held chunk)) low in
    let at = held_at_lem p.state slot going.shaped inside (length p.held) in
    record {
      shaped = withheld_shaped p.state slot going.shaped inside (length p.held);
      sound =
          withheld_sound p.state slot (length p.held) going.shaped going.sound inside going.taken short;
      taken = rw at going.taken;
      count = rw at;
      short = short;
      bytes = poured_bytes (length chunk) w (behind_bytes acc (left w) (subst Bytes parts bytes));
      less = λ i ne.
          rw (get_or-set_other p.state.slots slot i (holding (slot_at p.state slot) (length p.held)) no_slot ne)
          (going.less i);
    }

-- ---- a feed to a slot that holds other bytes

-- a house, and the same with so many bytes held
pub record Reheld (was : House) (slot k : ℕ) (h g : House) : Type 0 where
  pub going : Going was slot h
  pub is : g ≡ with_held h slot k

module _ (was : House) (slot k : ℕ) (inside : slot < slot_count) (low : k ≤ carry_length) where
  standing_held : (h g : House) → Reheld was slot k h g → standing_at slot h ≡ standing_at slot g
  standing_held h g e =
      sym
      (ap (standing_at slot) e.is
      ∙ ap (λ (s : Slot). s.session.standing) (held_at_lem h slot e.going.shaped inside k))

  heard_held : (o : Answered) → Going was slot o.house
      → HeardLike (Reheld was slot k) Same (heard o) (heard (answered o.answer (with_held o.house slot k)))
  unfolding heard
  heard_held o g = go (eqb (number_of o.answer) 0)
    where
      go : (b : Bool)
          → HeardLike (Reheld was slot k) Same (cond b (Kept o.house) (Turned o.answer))
          (cond b (Kept (with_held o.house slot k)) (Turned o.answer))
      go true = record { going = g; is = refl }
      go false = refl

  hears_held : (h g : House) (r : List ℕ) → Bytes r → Reheld was slot k h g
      → HeardLike (Reheld was slot k) Same ((hearing slot).hear h r) ((hearing slot).hear g r)
  hears_held h g r bytes e =
      let o = e.going in
      rw (
        hears slot h r bytes,
        hears slot g r bytes,
        e.is,
        held_free h slot k r o.shaped o.sound inside o.taken low,
      )
      (heard_held (deliver h slot r) (deliver_going was slot inside h r bytes o))

  -- the walk is the same, record for record
  pub walk_held_lem : (h : House) (bs : List ℕ) → Bytes bs → Going was slot h
      → WalkLike (Reheld was slot k) Same (walked (hearing slot) (Waits h []) bs)
      (walked (hearing slot) (Waits (with_held h slot k) []) bs)
  walk_held_lem h bs bytes g =
      walked_ever House House Answer Answer (hearing slot) (hearing slot) (Reheld was slot k) Same
      (record {
        whole_like = λ s t r e. ap (λ (st : Standing). leb (cut longest st r) (length r)) (standing_held s t e);
        fits_like = λ s t r b e. refl;
        hear_like = λ s t r b e f. hears_held s t r b e;
      })
      h (with_held h slot k) bs bytes (record { going = g; is = refl })

-- ---- bytes taken

pub not_done : (a : Answer) → (number_of a ≡ 0 → ⊥) → a ≡ Done → ⊥
not_done a some is = some (ap number_of is)

pub fed_all_lem : FedAll
fed_all_lem h slot held chunk =
    go (walked (hearing slot) (Waits h []) (held ++ chunk))
    (walked_turned House Answer (hearing slot) (Waits h []) (held ++ chunk) tt)
  where
    go : (w : Walked House Answer) → TurnedAt (hearing slot) w → (poured (length chunk) w).answer ≡ Done
        → (poured (length chunk) w).taken ≡ length chunk
    go (Waits h part) turned is = refl
    go (Stops h r a rest) turned is = absurd (not_done a (turned_some slot h r a turned) is)

-- the rest of the chunk is what was not walked
poured_parts : (old chunk acc : List ℕ) (w : Walked House Answer) → old ++ chunk ≡ acc ++ left w
    → old ++ take (poured (length chunk) w).taken chunk ≡ acc ++ (poured (length chunk) w).held
poured_parts old chunk acc (Waits h part) e = rw (take_all (length chunk) chunk (omega arith)) e
poured_parts old chunk acc (Stops h r a rest) e =
    let t = length chunk - length rest in
    let k = length rest - length chunk in
    let x = old ++ take t chunk in
    let y = acc ++ (r ++ take k rest) in
    let whole_x : x ++ drop t chunk ≡ old ++ chunk =
    append_assoc old (take t chunk) (drop t chunk)
    ∙ ap (λ (l : List ℕ). old ++ l) (take-append-drop t chunk) in
    let whole_y : y ++ drop k rest ≡ acc ++ (r ++ rest) =
    append_assoc acc (r ++ take k rest) (drop k rest)
    ∙ ap (λ (l : List ℕ). acc ++ l)
    (append_assoc r (take k rest) (drop k rest) ∙ ap (λ (l : List ℕ). r ++ l) (take-append-drop k rest)) in
    let both : x ++ drop t chunk ≡ y ++ drop k rest = whole_x ∙ e ∙ sym whole_y in
    let long : length x ≡ length y =
    omega (
      arith,
      ap length both,
      length-append x (drop t chunk),
      length-append y (drop k rest),
      length-drop t chunk,
      length-drop k rest,
    ) in
    sym (take_at x (drop t chunk) (length x) refl)
    ∙ ap (λ (l : List ℕ). take (length x) l) both
    ∙ take_at y (drop k rest) (length x) (sym long)

pub fed_taken : FedTaken
fed_taken h slot held chunk =
    let m = hearing slot in
    poured_parts held chunk (joined (accepted m (Waits h []) (held ++ chunk)))
    (walked m (Waits h []) (held ++ chunk)) (walked_bytes House Answer m (Waits h []) (held ++ chunk))

-- what is framed for a feed is as long as a record needs
pub framed_needed : (slot : ℕ) (h : House) (r : List ℕ) → Bytes r → length r ≡ cut longest (standing_at slot h) r
    → length r ≡ needed (standing_at slot h) r
framed_needed slot h r bytes is =
    is ∙ cut_record longest (standing_at slot h) r (needed_most (standing_at slot h) r bytes)

poured_past : (slot n : ℕ) (w : Walked House Answer) → Framed (standing_at slot) longest w → Bytes (poured n w).held
    → ((poured n w).answer ≡ Done → ⊥) → 0 < (poured n w).taken
    → length (poured n w).held ≡ needed (standing_at slot (poured n w).state) (poured n w).held
poured_past slot n (Waits h part) framed low ne some = absurd (ne refl)
poured_past slot n (Stops h r a rest) framed low ne some =
    let none : length rest - n ≡ 0 = omega arith in
    rw (none, append-nil r) (framed_needed slot h r (rw (none, append-nil r) at low) framed)

pub fed_past : FedPast
fed_past h slot held chunk shape e inside t old new low ne some =
    let w = walked (hearing slot) (Waits h []) (held ++ chunk) in
    let p = poured (length chunk) w in
    let going : Going h slot p.state = rw (poured_state (length chunk) w)
    (walk_going h slot inside h (held ++ chunk) (bytes_append held chunk old new) (going_from h slot shape e t)) in
    poured_past slot (length chunk) w
    (cut_framed House Answer (standing_at slot) longest _ _ h (held ++ chunk) (omega arith))
    (fed_keeps h slot held chunk shape e inside t old new low).bytes ne some
    ∙ ap (λ (s : Slot). needed s.session.standing p.held)
    (sym (held_at_lem p.state slot going.shaped inside (length p.held)))

-- ---- the numbers of feeding

-- a number is that of a check that it is 0
pub itself : (n : ℕ) → n ≡ number_by ((eqb n 0 else n) ∷ [])
itself n = go (eqb n 0) refl
  where
    go : (b : Bool) → eqb n 0 ≡ b → n ≡ cond b 0 n
    go true e = eqb-true n 0 e
    go false e = refl

pub feed_number : FeedNumber
unfolding feed
feed_number h slot carry chunk =
    let held = held_in h slot carry in
    let done = fed_to h slot held chunk in
    let number = number_of done.answer in
    checked_number (unfed h held) number_of (λ (f : Feed). number_of f.answer) (λ a. refl)
    (feed_checks h slot (length carry)) ((eqb number 0 else number) ∷ []) done (λ e. itself number)

pub end_number : EndNumber
unfolding end_feed
end_number h slot =
    checked_number (λ (a : Answer). a) number_of number_of (λ a. refl) (end_checks h slot) [] Done (λ e. refl)
