-- Demand 3's last clause, proved (specs/Demands.antt): while it needs no more rows than its floor, a session does what
-- it would do with a house to itself. So what it does is told by how it stands and by its calls, and two histories are
-- two uses of that.
-- Assumes nothing.
use mathlib.Core.Path.{◌≡◌, refl, ap, sym, subst, ◌∙◌}
use mathlib.Core.Bool.{Bool, true, false, cond, not, ◌&&◌, false≢true}
use mathlib.Core.List.{List, [], ◌∷◌, map}
use Prim.Native.Nat.{ℕ, ◌+◌, ◌-◌, ◌≤◌, ◌<◌}
use native.Mathlib.Omega.{arith}
use borrow.Author.Tests.{lt-ltb, leb-true, leb-false, ltb-true, eqb-true, not-true}
use lib.Dec.{leb, ltb}
use lib.ListN.{length}
use Rattle.prelude.proofs.Both.{both_left, both_right}
use Rattle.answers.specs.declared.Answer.{Answer}
use Rattle.answers.specs.declared.Answer.TheVariants.{Done, SlotTaken, FloorTooHigh, OutputTooShort}
use Rattle.answers.specs.Numbers.{number_of}
use Rattle.numbers.specs.Laws.{Bytes}
use Rattle.rising.specs.Rising.{held}
use Rattle.rows.specs.Rows.{slot_count, row_key, held_by}
use Rattle.rows.specs.Counts.{Count, has}
use Rattle.rows.proofs.Counts.{rows_has}
use Rattle.session.specs.declared.Verdict.{Verdict}
use Rattle.session.specs.declared.Verdict.TheVariants.{Refused, Taken, Wanted}
use Rattle.judging.specs.Judge.{verdict_on}
use Rattle.judging.specs.Laws.{KeyRight}
use Rattle.judging.proofs.Laws.{judged_key}
use Rattle.house.specs.declared.Slot.{Slot}
use Rattle.house.specs.declared.House.{House}
use Rattle.house.specs.declared.Answered.{Answered}
use Rattle.house.specs.House.{row_count, closed_slot, opened_slot, fresh, keys_of, counts_of, free, sound}
use Rattle.house.specs.House as house
use Rattle.house.specs.Deliver.{granted}
use Rattle.house.specs.Calls.{slot_at, answered, open_slot, close_slot, room_of}
use Rattle.house.specs.History.{Call, Open, Deliver, Report, Close, Figured, Reply, Told, Listed, reply, after}
use Rattle.house.specs.History.{reached, names, named, Sent, AllSent}
use Rattle.house.specs.Tally.{row_of}
use Rattle.house.specs.Laws.{Shaped}
use Rattle.house.specs.Demands.{room_for, asking, needs, assured, Isolated}
use Rattle.house.proofs.Delivering.{granted_held, granted_below}
use Rattle.house.proofs.Reporting.{open_within, report_short}
use Rattle.house.proofs.Keeping.{key_low, after_keeps, after_shaped, reached_sound}
use Rattle.house.proofs.Slots.{rows_at, Alike, alike_same, alike_on, else_alike, own_deliver, own_close}
use Rattle.house.proofs.Slots.{own_open, answer_by, rows_after, next_slot}
use Rattle.house.proofs.Counting.{paired, rows_held, shut_rows, report_told, reached_shaped, holds}
use Rattle.house.proofs.Refusing.{open_number}

-- ---- with a house to itself

-- what an open session is answered, and how it stands after it, by itself: a part result gets its row
abbrev pub alone_reply : Slot → List Count → Call → Reply
alone_reply s rows (Open i floor) = Told (cond (leb floor row_count) SlotTaken FloorTooHigh)
alone_reply s rows (Deliver i rec) = Told (answer_by (verdict_on s.session rec) true)
alone_reply s rows (Report i long) =
    cond (leb (length rows) long) (Listed Done (map row_of rows)) (Listed OutputTooShort [])
alone_reply s rows (Close i) = Told Done
alone_reply s rows Figured = Told Done

abbrev pub alone_slot : Slot → Call → Slot
alone_slot s (Open i floor) = s
alone_slot s (Deliver i rec) = next_slot s (verdict_on s.session rec) true
alone_slot s (Report i long) = s
alone_slot s (Close i) = closed_slot
alone_slot s Figured = s

abbrev pub alone_rows : Slot → List Count → Call → List Count
alone_rows s rows (Open i floor) = rows
alone_rows s rows (Deliver i rec) = rows_after rows (verdict_on s.session rec) true
alone_rows s rows (Report i long) = rows
alone_rows s rows (Close i) = []
alone_rows s rows Figured = rows

-- the rows that it needs
abbrev pub alone_asks : List Count → Verdict → ℕ
alone_asks rows (Refused a) = 0
alone_asks rows (Taken change) = 0
alone_asks rows (Wanted change key) = cond (has key rows) 0 1

abbrev pub alone_needs : Slot → List Count → Call → ℕ
alone_needs s rows (Open i floor) = length rows
alone_needs s rows (Deliver i rec) = length rows + alone_asks rows (verdict_on s.session rec)
alone_needs s rows (Report i long) = length rows
alone_needs s rows (Close i) = length rows
alone_needs s rows Figured = length rows

-- ---- within its floor a session does the same in any house

pub record Alone (h : House) (slot : ℕ) (c : Call) : Type 0 where
  pub answer : reply h c ≡ alone_reply (slot_at h slot) (rows_at h slot) c
  pub stands : slot_at (after h c) slot ≡ alone_slot (slot_at h slot) c
  pub rows : rows_at (after h c) slot ≡ alone_rows (slot_at h slot) (rows_at h slot) c

module _ (h : House) (slot : ℕ) (shape : Shaped h) (e : sound h ≡ true) where
  asks_told : (v : Verdict) → KeyRight v → asking slot (keys_of h) v ≡ alone_asks (rows_at h slot) v
  asks_told (Refused a) right = refl
  asks_told (Taken change) right = refl
  asks_told (Wanted change key) right =
      let low = key_low key right.0 in
      rw (rows_has slot (keys_of h) (counts_of h) key (paired h slot shape e) (omega (arith, low)))

  pub needs_told : (c : Call) → Sent c → needs h slot c ≡ alone_needs (slot_at h slot) (rows_at h slot) c
  needs_told (Open i floor) sent = sym (rows_held h slot shape e)
  needs_told (Deliver i rec) sent =
      let s = (slot_at h slot).session in
      rw (rows_held h slot shape e, asks_told (verdict_on s rec) (judged_key s rec sent))
  needs_told (Report i long) sent = sym (rows_held h slot shape e)
  needs_told (Close i) sent = sym (rows_held h slot shape e)
  needs_told Figured sent = sym (rows_held h slot shape e)

  -- a row is there for each key that it needs
  row_there : (v : Verdict) → held_by slot (keys_of h) + asking slot (keys_of h) v ≤ (slot_at h slot).floor
      → room_for h slot v ≡ true
  row_there (Refused a) within = refl
  row_there (Taken change) within = refl
  row_there (Wanted change key) within = go (held (row_key slot key) (keys_of h)) refl
    where
      go : (b : Bool) → held (row_key slot key) (keys_of h) ≡ b
          → granted (room_of h slot) (keys_of h) (row_key slot key) ≡ true
      go true is = granted_held (room_of h slot) (keys_of h) (row_key slot key) is
      go false is =
          let wide = rw is at within in
          granted_below (room_of h slot) (keys_of h) (row_key slot key) (omega (arith, wide))

  module _ (t : (slot_at h slot).taken ≡ true) where
    pub inside : slot < slot_count
    inside = omega (arith, open_within h.slots slot t, shape.slots)

    alone_open : (floor : ℕ) → Alone h slot (Open slot floor)
    unfolding open_slot
    alone_open floor = go (leb floor row_count) refl
      where
        same : (a : Answer) → open_slot h slot floor ≡ answered a h
            → Told a ≡ Told (cond (leb floor row_count) SlotTaken FloorTooHigh) → Alone h slot (Open slot floor)
        same a is told =
            record {
              answer = ap (λ (o : Answered). Told o.answer) is ∙ told;
              stands = ap (λ (o : Answered). slot_at o.house slot) is;
              rows = ap (λ (o : Answered). rows_at o.house slot) is;
            }

        go : (b : Bool) → leb floor row_count ≡ b → Alone h slot (Open slot floor)
        go true low = same SlotTaken (rw (e, lt-ltb slot slot_count inside, low, t)) (rw low)
        go false high = same FloorTooHigh (rw (e, lt-ltb slot slot_count inside, high)) (rw high)

    alone_deliver : (rec : List ℕ) → Bytes rec → needs h slot (Deliver slot rec) ≤ (slot_at h slot).floor
        → Alone h slot (Deliver slot rec)
    alone_deliver rec bytes within =
        let v = verdict_on (slot_at h slot).session rec in
        let o = own_deliver h slot shape e inside rec bytes t in
        let got = row_there v within in
        record {
          answer = ap Told (rw got at o.answer);
          stands = rw got at o.stands;
          rows = rw got at o.rows;
        }

    alone_report : (long : ℕ) → Alone h slot (Report slot long)
    alone_report long =
        record {
          answer = go (leb (length (rows_at h slot)) long) refl;
          stands = refl;
          rows = refl;
        }
      where
        go : (b : Bool) → leb (length (rows_at h slot)) long ≡ b
            → reply h (Report slot long)
            ≡ cond b (Listed Done (map row_of (rows_at h slot))) (Listed OutputTooShort [])
        go true wide =
            report_told h slot shape e long inside t
            (omega (arith, leb-true (length (rows_at h slot)) long wide, rows_held h slot shape e))
        go false short =
            rw (report_short h slot long e inside t (held_by slot (keys_of h)) refl
            (omega (arith, leb-false (length (rows_at h slot)) long short, rows_held h slot shape e)))

    alone_close : Alone h slot (Close slot)
    unfolding close_slot
    alone_close =
        let o = own_close h slot shape e inside t in
        record { answer = rw (e, lt-ltb slot slot_count inside, t); stands = o.0; rows = o.1 }

    pub alone : (c : Call) → Sent c → names slot c ≡ true → needs h slot c ≤ (slot_at h slot).floor → Alone h slot c
    alone (Open i floor) sent own within =
        let same = eqb-true i slot own in
        subst (λ (j : ℕ). Alone h slot (Open j floor)) (sym same) (alone_open floor)
    alone (Deliver i rec) sent own within =
        let same = eqb-true i slot own in
        subst (λ (j : ℕ). Alone h slot (Deliver j rec)) (sym same) (alone_deliver rec sent within)
    alone (Report i long) sent own within =
        let same = eqb-true i slot own in
        subst (λ (j : ℕ). Alone h slot (Report j long)) (sym same) (alone_report long)
    alone (Close i) sent own within =
        let same = eqb-true i slot own in
        subst (λ (j : ℕ). Alone h slot (Close j)) (sym same) alone_close
    alone Figured sent own within = absurd (false≢true own)

-- ---- two houses in which it stands the same

module _ (slot : ℕ) (h g : House) (a : Alike slot h g) (sh : Shaped h) (sg : Shaped g) (eh : sound h ≡ true)
    (eg : sound g ≡ true) (c : Call) (sent : Sent c) where
  abbrev fits : House → Bool
  fits x = (slot_at x slot).taken && leb (needs x slot c) (slot_at x slot).floor

  -- .. needs the same rows
  fits_alike : fits h ≡ fits g
  fits_alike =
      rw (needs_told h slot sh eh c sent, needs_told g slot sg eg c sent, a.stands, a.rows)

  -- .. is answered the same, and stands the same after it
  module _ (own : names slot c ≡ true) (within : fits g ≡ true) where
    told_by_lem : (x : House) → Shaped x → sound x ≡ true → fits x ≡ true → Alone x slot c
    told_by_lem x sx ex is =
        let taken = (slot_at x slot).taken in
        let few = leb (needs x slot c) (slot_at x slot).floor in
        alone x slot sx ex (both_left taken few is) c sent own
        (leb-true (needs x slot c) (slot_at x slot).floor (both_right taken few is))

    reply_alike : reply h c ≡ reply g c
    reply_alike =
        let p = told_by_lem h sh eh (fits_alike ∙ within) in
        let q = told_by_lem g sg eg within in
        p.answer ∙ rw (a.stands, a.rows) (sym q.answer)

    after_alike : Alike slot (after h c) (after g c)
    after_alike =
        let p = told_by_lem h sh eh (fits_alike ∙ within) in
        let q = told_by_lem g sg eg within in
        record {
          stands = p.stands ∙ rw a.stands (sym q.stands);
          rows = p.rows ∙ rw (a.stands, a.rows) (sym q.rows);
        }

-- the calls that name another slot may be left out
assured_alike : (slot : ℕ) (cs : List Call) (h g : House) → AllSent cs → Alike slot h g → Shaped h → Shaped g
    → sound h ≡ true → sound g ≡ true → assured slot h cs ≡ assured slot g (named slot cs)
assured_alike slot [] h g sent a sh sg eh eg = refl
assured_alike slot (c ∷ cs) h g sent a sh sg eh eg =
    go (names slot c) refl
    (λ x y b sx sy ex ey. assured_alike slot cs x y sent.1 b sx sy ex ey)
  where
    go : (n : Bool) → names slot c ≡ n
        → ((x y : House) → Alike slot x y → Shaped x → Shaped y → sound x ≡ true → sound y ≡ true
        → assured slot x cs ≡ assured slot y (named slot cs))
        → assured slot h (c ∷ cs) ≡ assured slot g (cond n (c ∷ named slot cs) (named slot cs))
    go false other rest =
        rw other
        (rest (after h c) g (alike_on slot (after h c) h g (else_alike slot h c sh sent.0 other) a)
        (after_shaped h c sent.0 sh) sg (after_keeps h c sent.0 sh eh) eg)
    go true own rest =
        rw (own, fits_alike slot h g a sh sg eh eg c sent.0) (by (fits slot h g a sh sg eh eg c sent.0 g) refl)
      where
        by : (b : Bool) → fits slot h g a sh sg eh eg c sent.0 g ≡ b
            → cond b (reply h c ∷ assured slot (after h c) cs) []
            ≡ cond b (reply g c ∷ assured slot (after g c) (named slot cs)) []
        by false is = refl
        by true is =
            rw (
              reply_alike slot h g a sh sg eh eg c sent.0 own is,
              rest (after h c) (after g c) (after_alike slot h g a sh sg eh eg c sent.0 own is)
                  (after_shaped h c sent.0 sh) (after_shaped g c sent.0 sg)
                  (after_keeps h c sent.0 sh eh) (after_keeps g c sent.0 sg eg),
            )

-- ---- two histories

-- a slot just opened stands the same in every house
module _ (slot floor : ℕ) (h : House) (shape : Shaped h) (e : sound h ≡ true)
    (done : (open_slot h slot floor).answer ≡ Done) where
  pub begins : (slot < slot_count)
      × (slot_at (open_slot h slot floor).house slot ≡ opened_slot floor)
      × (rows_at (open_slot h slot floor).house slot ≡ [])
  begins =
      let fine = holds (sound h) _ 14 (sym (open_number h slot floor) ∙ ap number_of done) in
      let within = holds (ltb slot slot_count) _ 0 fine.1 in
      let low = holds (leb floor row_count) _ 15 within.1 in
      let new = holds (not (slot_at h slot).taken) _ 1 low.1 in
      let wide = holds (leb floor (free h - house.promised h)) _ 12 new.1 in
      let shut = not-true (slot_at h slot).taken new.0 in
      let there = ltb-true slot slot_count within.0 in
      let o = own_open h slot shape e there floor low.0 shut wide.0 in
      (there, o.0, o.1 ∙ shut_rows h slot shape e shut)

opened_alike : (slot floor : ℕ) (h g : House) → Shaped h → Shaped g → sound h ≡ true → sound g ≡ true
    → (open_slot h slot floor).answer ≡ Done → (open_slot g slot floor).answer ≡ Done
    → Alike slot (open_slot h slot floor).house (open_slot g slot floor).house
opened_alike slot floor h g sh sg eh eg dh dg =
    let p = begins slot floor h sh eh dh in
    let q = begins slot floor g sg eg dg in
    record { stands = p.1 ∙ sym q.1; rows = p.2 ∙ sym q.2 }

pub isolated : Isolated
isolated past other slot floor cs ds sp so sc sd granted_past granted_other same =
    let h = after (reached fresh past) (Open slot floor) in
    let g = after (reached fresh other) (Open slot floor) in
    let ph = reached_shaped past sp in
    let pg = reached_shaped other so in
    let qh = reached_sound past sp in
    let qg = reached_sound other so in
    let sh = after_shaped (reached fresh past) (Open slot floor) tt ph in
    let sg = after_shaped (reached fresh other) (Open slot floor) tt pg in
    let eh = after_keeps (reached fresh past) (Open slot floor) tt ph qh in
    let eg = after_keeps (reached fresh other) (Open slot floor) tt pg qg in
    let alike =
    opened_alike slot floor (reached fresh past) (reached fresh other) ph pg qh qg granted_past granted_other in
    assured_alike slot cs h g sc alike sh sg eh eg
    ∙ ap (assured slot g) same
    ∙ sym (assured_alike slot ds g g sd (alike_same slot g) sg sg eg eg)
