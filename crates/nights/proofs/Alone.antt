-- Demand 3 with feeds, proved (specs/Assured.antt). While it needs no more rows than its floor, a session does what it
-- would do with a house to itself: a feed is a walk over its seat alone. So how it goes with a session is told by its
-- slot, its rows, the bytes held for it and its own calls, and two nights are two uses of that.
-- Assumes nothing.
use mathlib.Core.Path.{◌≡◌, refl, ap, sym, subst, ◌∙◌}
use mathlib.Core.Bool.{Bool, true, false, cond, ◌&&◌}
use mathlib.Core.List.{List, [], ◌∷◌, ◌++◌}
use Prim.Native.Nat.{ℕ, ◌+◌, ◌-◌, ◌<◌}
use native.Mathlib.Omega.{arith}
use borrow.Author.Tests.{lt-ltb, leb-true, eq-eqb, eqb-true, eqb-false}
use lib.Dec.{leb, ltb, eqb}
use lib.ListN.{length, set, take}
use lib.Seq.{get_or-set_same, get_or-set_other, take-length}
use Rattle.prelude.specs.Choice.{◌unless◌then◌}
use Rattle.prelude.proofs.Both.{both_right}
use Rattle.prelude.proofs.Checks.{checked_by}
use Rattle.numbers.specs.Laws.{Bytes}
use Rattle.numbers.proofs.Laws.{bytes_append}
use Rattle.answers.specs.declared.Answer.{Answer}
use Rattle.answers.specs.declared.Answer.TheVariants.{Done, NotOneRecord, OutputTooShort}
use Rattle.answers.specs.Numbers.{number_of}
use Rattle.rows.specs.Rows.{slot_count}
use Rattle.rows.specs.Counts.{Count}
use Rattle.session.specs.declared.Session.{Session}
use Rattle.session.specs.declared.Verdict.{Verdict}
use Rattle.session.specs.Session.{begun}
use Rattle.judging.specs.Judge.{verdict_on}
use Rattle.cutting.specs.Needed.{longest, needed, cut}
use Rattle.cutting.specs.Walk.{Heard, Kept, Turned, Machine, Walked, Waits, Stops, walked, cutting, state_of, all_fit}
use Rattle.cutting.specs.Laws.{HeardIs, HeardLike, WalkLike, Same, Likeness}
use Rattle.cutting.proofs.Walks.{walked_keeps, walked_like}
use Rattle.house.specs.declared.Slot.{Slot}
use Rattle.house.specs.declared.House.{House}
use Rattle.house.specs.declared.Answered.{Answered}
use Rattle.house.specs.House.{carry_length, no_slot, sound}
use Rattle.house.specs.Calls.{slot_at, deliver}
use Rattle.house.specs.Feeding.{standing_at, heard, hearing, Poured, poured, with_held, feed_checks, end_feed}
use Rattle.house.specs.Laws.{Shaped}
use Rattle.house.specs.Demands.{needs}
use Rattle.house.specs.History as calls
use Rattle.house.proofs.Slots.{rows_at, answer_by, session_by, rows_after, Alike, alike_same, alike_on, else_alike}
use Rattle.house.proofs.Keeping.{after_shaped, after_keeps}
use Rattle.house.proofs.Counting.{rows_held}
use Rattle.house.proofs.Alone as apart
use Rattle.house.proofs.Alone.{alone_reply, alone_slot, alone_rows, alone_asks, alone_needs, needs_told, inside, begins}
use Rattle.nights.specs.Night.{Night, night, fresh, carry_at, held_at, Call, Asked, Feed, End, Reply, Replied}
use Rattle.nights.specs.Night.{Took, Ended, Next, next_as, feed_done, feed_next, next, reply, after, reached, names}
use Rattle.nights.specs.Night.{named, Sent, AllSent}
use Rattle.nights.specs.Laws.{Fine}
use Rattle.nights.specs.Assured.{Seat, seat_at, fits_in, within, Course, Stays, Beyond, Goes, course, replies}
use Rattle.nights.specs.Assured.{opening, opened, Granted, SameCourse, Isolated}
use Rattle.nights.proofs.Keeping.{held_bytes, after_fine, reached_fine}

-- ---- a walk over a seat

abbrev pub seat : ℕ → Session → List Count → Seat
seat floor s rows = record { floor = floor; session = s; rows = rows }

-- a part result gets its row
abbrev pub seat_after : Seat → Verdict → Seat
seat_after t v = seat t.floor (session_by t.session v true) (rows_after t.rows v true)

abbrev pub heard_by : Seat → Verdict → Heard Seat Answer
heard_by t v = cond (eqb (number_of (answer_by v true)) 0) (Kept (seat_after t v)) (Turned (answer_by v true))

abbrev pub heard_alone : Seat → List ℕ → Heard Seat Answer
heard_alone t r = heard_by t (verdict_on t.session r)

abbrev pub alone : Machine Seat Answer
alone = cutting (λ (t : Seat). t.session.standing) longest NotOneRecord heard_alone

abbrev pub fits_alone : Seat → List ℕ → Bool
fits_alone t r = leb (length t.rows + alone_asks t.rows (verdict_on t.session r)) t.floor

-- ---- .. is the walk over the house, while each record fits

-- the slot of a session, with so many bytes held
abbrev pub slot_with : Seat → ℕ → Slot
slot_with t k = record { taken = true; floor = t.floor; session = t.session; held = k }

record Like (slot k : ℕ) (h : House) (t : Seat) : Type 0 where
  shape : Shaped h
  fine : sound h ≡ true
  stands : slot_at h slot ≡ slot_with t k
  rows : rows_at h slot ≡ t.rows

module _ (slot k : ℕ) where
  -- a record needs the same rows
  fits_like : (h : House) (t : Seat) (r : List ℕ) → Bytes r → Like slot k h t → fits_in slot h r ≡ fits_alone t r
  fits_like h t r g l =
      rw (needs_told h slot l.shape l.fine (calls.Deliver slot r) g, l.stands, l.rows)

  heard_like : (h : House) (t : Seat) (r : List ℕ) → Bytes r → Like slot k h t → fits_alone t r ≡ true
      → HeardLike (Like slot k) Same (heard (deliver h slot r)) (heard_alone t r)
  unfolding heard
  heard_like h t r g l fits =
      let c = calls.Deliver slot r in
      let v = verdict_on t.session r in
      let open_there = ap (λ (s : Slot). s.taken) l.stands in
      let few = leb-true (needs h slot c) (slot_at h slot).floor (fits_like h t r g l ∙ fits) in
      let a = apart.alone h slot l.shape l.fine open_there c g (eq-eqb slot slot refl) few in
      both (deliver h slot r) v (ap calls.answer_of a.answer ∙ rw l.stands)
      (record {
        shape = after_shaped h c g l.shape;
        fine = after_keeps h c g l.shape l.fine;
        stands = a.stands ∙ rw l.stands;
        rows = a.rows ∙ rw (l.stands, l.rows);
      })
    where
      both : (o : Answered) (v : Verdict) → o.answer ≡ answer_by v true → Like slot k o.house (seat_after t v)
          → HeardLike (Like slot k) Same
          (cond (eqb (number_of o.answer) 0) (Kept o.house) (Turned o.answer)) (heard_by t v)
      both o v is after = rw is (by (eqb (number_of (answer_by v true)) 0))
        where
          by : (b : Bool) → HeardLike (Like slot k) Same (cond b (Kept o.house) (Turned (answer_by v true)))
              (cond b (Kept (seat_after t v)) (Turned (answer_by v true)))
          by true = after
          by false = refl

  like : Likeness House Seat Answer Answer (hearing slot) alone (fits_in slot) fits_alone (Like slot k) Same
  like =
      record {
        whole_like = λ h t r l. ap (λ (s : Slot). leb (cut longest s.session.standing r) (length r)) l.stands;
        fits_like = fits_like;
        hear_like = hears;
      }
    where
      hears : (h : House) (t : Seat) (r : List ℕ) → Bytes r → Like slot k h t → fits_alone t r ≡ true
          → HeardLike (Like slot k) Same ((hearing slot).hear h r) (alone.hear t r)
      hears h t r g l fits =
          subst (λ (s : Slot).
          HeardLike (Like slot k) Same
          (cond (ltb longest (needed s.session.standing r)) (Turned NotOneRecord) (heard (deliver h slot r)))
          (alone.hear t r)) (sym l.stands) (by (ltb longest (needed t.session.standing r)))
        where
          by : (b : Bool) → HeardLike (Like slot k) Same (cond b (Turned NotOneRecord) (heard (deliver h slot r)))
              (cond b (Turned NotOneRecord) (heard_alone t r))
          by true = refl
          by false = heard_like h t r g l fits

-- ---- a session by itself

-- what its calls read and change: the slot, its rows and the bytes held for it
pub record Own : Type 0 where
  pub slot : Slot
  pub rows : List Count
  pub held : List ℕ

abbrev pub own : Slot → List Count → List ℕ → Own
own s rows held = record { slot = s; rows = rows; held = held }

abbrev pub own_at : Night → ℕ → Own
own_at n slot = own (slot_at n.house slot) (rows_at n.house slot) (held_at n slot)

abbrev pub seat_of : Own → Seat
seat_of o = seat o.slot.floor o.slot.session o.rows

abbrev pub own_with : Seat → List ℕ → Own
own_with t held = own (slot_with t (length held)) t.rows held

abbrev pub poured_alone : Own → List ℕ → Poured Seat
poured_alone o chunk = poured (length chunk) (walked alone (Waits (seat_of o) []) (o.held ++ chunk))

abbrev pub within_alone : Own → Call → Bool
within_alone o (Asked c) = leb (alone_needs o.slot o.rows c) o.slot.floor
within_alone o (Feed i long chunk) =
    leb (length o.rows) o.slot.floor
    && cond (eqb long carry_length) (all_fit alone fits_alone (Waits (seat_of o) []) (o.held ++ chunk)) true
within_alone o (End i) = leb (length o.rows) o.slot.floor

abbrev pub reply_alone : Own → Call → Reply
reply_alone o (Asked c) = Replied (alone_reply o.slot o.rows c)
reply_alone o (Feed i long chunk) =
    cond (eqb long carry_length) (Took (poured_alone o chunk).answer (poured_alone o chunk).taken)
    (Took OutputTooShort 0)
reply_alone o (End i) = Ended (cond (eqb o.slot.held 0) Done NotOneRecord)

-- a slot that is closed holds no byte
abbrev alone_held : List ℕ → calls.Call → List ℕ
alone_held held (calls.Open i floor) = held
alone_held held (calls.Deliver i rec) = held
alone_held held (calls.Report i long) = held
alone_held held (calls.Close i) = []
alone_held held calls.Figured = held

abbrev pub after_alone : Own → Call → Own
after_alone o (Asked c) = own (alone_slot o.slot c) (alone_rows o.slot o.rows c) (alone_held o.held c)
after_alone o (Feed i long chunk) =
    cond (eqb long carry_length) (own_with (poured_alone o chunk).state (poured_alone o chunk).held) o
after_alone o (End i) = o

abbrev pub course_alone : Own → List Call → Course
course_alone o [] = Stays (seat_of o)
course_alone o (c ∷ cs) =
    cond (o.slot.taken && within_alone o c)
    (Goes (reply_alone o c) (seat_of (after_alone o c)) (course_alone (after_alone o c) cs)) Beyond

-- ---- a call that names it

module _ (slot : ℕ) (n : Night) (fine : Fine n) where
  abbrev h : House
  h = n.house

  abbrev o : Own
  o = own_at n slot

  module _ (t : (slot_at h slot).taken ≡ true) where
    there : slot < slot_count
    there = inside h slot fine.shaped fine.sound t

    -- the walk of a feed, and whether each record of it fits
    walk_like : (chunk : List ℕ) → Bytes chunk
        → let bytes = held_at n slot ++ chunk in
        (all_fit (hearing slot) (fits_in slot) (Waits h []) bytes ≡ all_fit alone fits_alone (Waits (seat_of o) []) bytes)
        × (all_fit alone fits_alone (Waits (seat_of o) []) bytes ≡ true
        → WalkLike (Like slot (slot_at h slot).held) Same (walked (hearing slot) (Waits h []) bytes)
        (walked alone (Waits (seat_of o) []) bytes))
    walk_like chunk g =
        let k = (slot_at h slot).held in
        walked_like House Seat Answer Answer (hearing slot) alone (fits_in slot) fits_alone (Like slot k) Same
        (like slot k) h (seat_of o) (held_at n slot ++ chunk)
        (bytes_append (held_at n slot) chunk (held_bytes n fine slot) g)
        (record { shape = fine.shaped; fine = fine.sound; stands = sits; rows = refl })
      where
        sits : slot_at h slot ≡ slot_with (seat_of o) (slot_at h slot).held
        sits =
            let s = slot_at h slot in
            ap (λ (b : Bool). record { taken = b; floor = s.floor; session = s.session; held = s.held }) t

    within_own : (c : Call) → Sent c → within n slot c ≡ within_alone o c
    within_own (Asked c) sent = rw (needs_told h slot fine.shaped fine.sound c sent)
    within_own (Feed i long chunk) sent =
        rw (rows_held h slot fine.shaped fine.sound, (walk_like chunk sent).0)
    within_own (End i) sent = rw (rows_held h slot fine.shaped fine.sound)

    -- ---- a feed

    -- two walks that are alike come to the same, and the slot stands as the seat says
    record PouredLike (p : Poured House) (q : Poured Seat) : Type 0 where
      state : Like slot (slot_at h slot).held p.state q.state
      answer : p.answer ≡ q.answer
      held : p.held ≡ q.held
      taken : p.taken ≡ q.taken

    poured_like : (k : ℕ) (w : Walked House Answer) (v : Walked Seat Answer)
        → WalkLike (Like slot (slot_at h slot).held) Same w v → PouredLike (poured k w) (poured k v)
    poured_like k (Waits g part) (Waits u other) e =
        record { state = e.0; answer = refl; held = e.1; taken = refl }
    poured_like k (Waits g part) (Stops u r b rest) e = absurd e
    poured_like k (Stops g r a rest) (Waits u other) e = absurd e
    poured_like k (Stops g r a rest) (Stops u q b other) e =
        record { state = e.0; answer = e.2; held = rw (e.1, e.3); taken = rw e.3 }

    -- the night after it, as its slot sees it
    own_poured : (p : Poured House) (q : Poured Seat) → PouredLike p q
        → own_at (night (with_held p.state slot (length p.held)) (set n.carries slot p.held)) slot
        ≡ own_with q.state q.held
    own_poured p q e =
        let g = p.state in
        let s = slot_at g slot in
        let m = length p.held in
        let new : Slot = record { taken = s.taken; floor = s.floor; session = s.session; held = m } in
        let set_slot = get_or-set_same g.slots slot new no_slot (omega (arith, there, e.state.shape.slots)) in
        let set_carry = get_or-set_same n.carries slot p.held [] (omega (arith, there, fine.carries)) in
        rw (set_slot, set_carry, take-length p.held, e.held, e.state.stands, e.state.rows)

    -- ---- what it is answered, and what stands after it

    record Told (x : Next) (c : Call) : Type 0 where
      reply : x.reply ≡ reply_alone o c
      stands : own_at x.night slot ≡ after_alone o c

    feed_told : (long : ℕ) (chunk : List ℕ) → Bytes chunk → within_alone o (Feed slot long chunk) ≡ true
        → Told (feed_next n slot long chunk) (Feed slot long chunk)
    unfolding feed_next
    feed_told long chunk sent few = go (eqb long carry_length) refl
      where
        done : all_fit alone fits_alone (Waits (seat_of o) []) (o.held ++ chunk) ≡ true
            → PouredLike (poured (length chunk) (walked (hearing slot) (Waits h []) (o.held ++ chunk)))
            (poured_alone o chunk)
        done fits =
            poured_like (length chunk) (walked (hearing slot) (Waits h []) (o.held ++ chunk))
            (walked alone (Waits (seat_of o) []) (o.held ++ chunk)) ((walk_like chunk sent).1 fits)

        go : (b : Bool) → eqb long carry_length ≡ b → Told (feed_next n slot long chunk) (Feed slot long chunk)
        go true is =
            let all = both_right (leb (length o.rows) o.slot.floor) _ few in
            let e = done (rw is at all) in
            record {
              reply = rw (fine.sound, lt-ltb slot slot_count there, t, is, e.answer, e.taken);
              stands =
                  rw (fine.sound, lt-ltb slot slot_count there, t, is)
                  (own_poured (poured (length chunk) (walked (hearing slot) (Waits h []) (o.held ++ chunk)))
                  (poured_alone o chunk) e);
            }
        go false is =
            record {
              reply = rw (fine.sound, lt-ltb slot slot_count there, t, is);
              stands = rw (fine.sound, lt-ltb slot slot_count there, t, is);
            }

    asked_told : (c : calls.Call) → calls.Sent c → calls.names slot c ≡ true → within_alone o (Asked c) ≡ true
        → Told (next_as (Replied (calls.reply h c)) (night (calls.after h c) n.carries)) (Asked c)
    asked_told c sent is few =
        let within = rw (← (needs_told h slot fine.shaped fine.sound c sent)) at few in
        let a =
        apart.alone h slot fine.shaped fine.sound t c sent is
        (leb-true (needs h slot c) (slot_at h slot).floor within) in
        record {
          reply = ap Replied a.answer;
          stands =
              rw (a.stands, a.rows)
              (ap (own (alone_slot o.slot c) (alone_rows o.slot o.rows c)) (held c));
        }
      where
        held : (c : calls.Call)
            → take (alone_slot (slot_at h slot) c).held (carry_at n slot) ≡ alone_held (held_at n slot) c
        held (calls.Open i floor) = refl
        held (calls.Deliver i rec) = refl
        held (calls.Report i long) = refl
        held (calls.Close i) = refl
        held calls.Figured = refl

    end_told : Told (next_as (Ended (end_feed h slot)) n) (End slot)
    unfolding end_feed
    end_told =
        record {
          reply = rw (fine.sound, lt-ltb slot slot_count there, t) (go (eqb o.slot.held 0));
          stands = refl;
        }
      where
        go : (b : Bool) → Ended (NotOneRecord unless b then Done) ≡ Ended (cond b Done NotOneRecord)
        go true = refl
        go false = refl

    next_told : (c : Call) → Sent c → names slot c ≡ true → within_alone o c ≡ true → Told (next n c) c
    next_told (Asked c) sent is few = asked_told c sent is few
    next_told (Feed i long chunk) sent is few =
        subst (λ (j : ℕ). Told (feed_next n j long chunk) (Feed j long chunk)) (sym (eqb-true i slot is))
        (feed_told long chunk sent few)
    next_told (End i) sent is few =
        subst (λ (j : ℕ). Told (next n (End j)) (End j)) (sym (eqb-true i slot is)) end_told

  -- its course, where the rest is as it would be by itself
  course_own : (c : Call) (cs : List Call) (rest : Course) → Sent c → names slot c ≡ true
      → rest ≡ course_alone (own_at (after n c) slot) cs
      → cond ((slot_at h slot).taken && within n slot c) (Goes (reply n c) (seat_at (after n c) slot) rest) Beyond
      ≡ course_alone o (c ∷ cs)
  course_own c cs rest sent is ih = go (slot_at h slot).taken refl
    where
      on : (slot_at h slot).taken ≡ true → (b : Bool) → within_alone o c ≡ b
          → cond b (Goes (reply n c) (seat_at (after n c) slot) rest) Beyond
          ≡ cond b (Goes (reply_alone o c) (seat_of (after_alone o c)) (course_alone (after_alone o c) cs)) Beyond
      on t false few = refl
      on t true few =
          let told = next_told t c sent is few in
          rw (told.reply, ih)
          (ap (λ (x : Own). Goes (reply_alone o c) (seat_of x) (course_alone x cs)) told.stands)

      go : (a : Bool) → (slot_at h slot).taken ≡ a
          → cond (a && within n slot c) (Goes (reply n c) (seat_at (after n c) slot) rest) Beyond
          ≡ cond (a && within_alone o c)
          (Goes (reply_alone o c) (seat_of (after_alone o c)) (course_alone (after_alone o c) cs)) Beyond
      go false shut = refl
      go true t = rw (within_own t c sent) (on t (within_alone o c) refl)

-- ---- a call that names another slot

-- a house in which the slot stands as it did
record Left (slot : ℕ) (h g : House) : Type 0 where
  shape : Shaped g
  fine : sound g ≡ true
  alike : Alike slot g h

module _ (slot : ℕ) (n : Night) (fine : Fine n) where
  -- each record of another slot's feed leaves it as it was
  heard_left : (i : ℕ) → eqb i slot ≡ false → (g : House) (r : List ℕ) → Bytes r → Left slot n.house g
      → HeardIs (Left slot n.house) ((hearing i).hear g r)
  unfolding heard
  heard_left i other g r bytes l =
      go (ltb longest (needed (standing_at i g) r)) (eqb (number_of (deliver g i r).answer) 0)
    where
      go : (a b : Bool)
          → HeardIs (Left slot n.house)
          (cond a (Turned NotOneRecord) (cond b (Kept (deliver g i r).house) (Turned (deliver g i r).answer)))
      go true b = tt
      go false true =
          let c = calls.Deliver i r in
          record {
            shape = after_shaped g c bytes l.shape;
            fine = after_keeps g c bytes l.shape l.fine;
            alike =
                alike_on slot (deliver g i r).house g n.house (else_alike slot g c l.shape bytes other)
                l.alike;
          }
      go false false = tt

  fed_left : (i : ℕ) (chunk : List ℕ) → Bytes chunk → eqb i slot ≡ false
      → own_at (feed_done n i chunk).night slot ≡ own_at n slot
  fed_left i chunk sent other =
      let bytes = held_at n i ++ chunk in
      go (walked (hearing i) (Waits n.house []) bytes)
      (walked_keeps House Answer (hearing i) (Left slot n.house) (heard_left i other) n.house bytes
      (bytes_append (held_at n i) chunk (held_bytes n fine i) sent)
      (record { shape = fine.shaped; fine = fine.sound; alike = alike_same slot n.house }))
    where
      not_it : slot ≡ i → ⊥
      not_it q = eqb-false i slot other (sym q)

      held_left : (g : House) (held : List ℕ) → Left slot n.house g
          → own_at (night (with_held g i (length held)) (set n.carries i held)) slot ≡ own_at n slot
      held_left g held l =
          let s = slot_at g i in
          let new : Slot =
          record { taken = s.taken; floor = s.floor; session = s.session; held = length held } in
          rw (
            get_or-set_other g.slots i slot new no_slot not_it,
            get_or-set_other n.carries i slot held [] not_it,
            l.alike.stands,
            l.alike.rows,
          )

      go : (w : Walked House Answer) → Left slot n.house (state_of w)
          → let p = poured (length chunk) w in
          own_at (night (with_held p.state i (length p.held)) (set n.carries i p.held)) slot ≡ own_at n slot
      go (Waits g part) l = held_left g part l
      go (Stops g r a rest) l = held_left g (r ++ take (length rest - length chunk) rest) l

  else_own : (c : Call) → Sent c → names slot c ≡ false → own_at (after n c) slot ≡ own_at n slot
  unfolding feed_next
  else_own (Asked c) sent other =
      let a = else_alike slot n.house c fine.shaped sent other in
      rw (a.stands, a.rows)
  else_own (Feed i long chunk) sent other =
      checked_by (λ (a : Answer). next_as (Took a 0) n) (λ (x : Next). own_at x.night slot ≡ own_at n slot)
      (feed_checks n.house i long) (feed_done n i chunk) (λ a. refl) (λ all. fed_left i chunk sent other)
  else_own (End i) sent other = refl

-- ---- all its calls

pub course_alone_lem : (slot : ℕ) (n : Night) (cs : List Call) → AllSent cs → Fine n
    → course slot n cs ≡ course_alone (own_at n slot) (named slot cs)
course_alone_lem slot n [] sent fine = refl
course_alone_lem slot n (c ∷ cs) sent fine =
    go (names slot c) refl (course_alone_lem slot (after n c) cs sent.1 (after_fine n c sent.0 fine))
  where
    go : (b : Bool) → names slot c ≡ b
        → course slot (after n c) cs ≡ course_alone (own_at (after n c) slot) (named slot cs)
        → cond b
        (cond ((slot_at n.house slot).taken && within n slot c)
        (Goes (reply n c) (seat_at (after n c) slot) (course slot (after n c) cs)) Beyond)
        (course slot (after n c) cs)
        ≡ course_alone (own_at n slot) (cond b (c ∷ named slot cs) (named slot cs))
    go false other ih = rw (else_own slot n fine c sent.0 other) at ih
    go true is ih = course_own slot n fine c (named slot cs) (course slot (after n c) cs) sent.0 is ih

-- ---- two nights

-- a session just opened, with its floor
abbrev pub begun_with : ℕ → Seat
begun_with floor = seat floor begun []

-- .. stands the same in every night, and how it goes on is told by its own calls
pub opened_course : (past : List Call) (slot floor : ℕ) (cs : List Call) → AllSent past → AllSent cs
    → Granted past slot floor
    → course slot (opened past slot floor) cs ≡ course_alone (own_with (begun_with floor) []) (named slot cs)
opened_course past slot floor cs sent later granted =
    let n = reached fresh past in
    let fine = reached_fine past sent in
    let b = begins slot floor n.house fine.shaped fine.sound granted in
    course_alone_lem slot (opened past slot floor) cs later (after_fine n (opening slot floor) tt fine)
    ∙ rw (b.1, b.2)

pub same_course : SameCourse
same_course past other slot floor cs ds sp so sc sd granted_past granted_other same =
    opened_course past slot floor cs sp sc granted_past
    ∙ ap (course_alone (own_with (begun_with floor) [])) same
    ∙ sym (opened_course other slot floor ds so sd granted_other)

pub isolated : Isolated
isolated past other slot floor cs ds sp so sc sd granted_past granted_other same =
    ap replies (same_course past other slot floor cs ds sp so sc sd granted_past granted_other same)
