-- A feed delivers the records that its bytes are cut into; the bytes taken, and the record that blocks
-- (specs/Laws.antt).
-- Assumes nothing.
use mathlib.Core.Path.{◌≡◌, refl, ap, subst, sym, ◌∙◌}
use mathlib.Core.Bool.{Bool, true, false, cond}
use mathlib.Core.List.{List, [], ◌∷◌, ◌++◌, append-nil, append_assoc}
use Prim.Native.Nat.{ℕ, ◌-◌, ◌≤◌, ◌<◌}
use native.Mathlib.Omega.{arith}
use borrow.Author.Tests.{eqb-true, eqb-false}
use lib.Dec.{eqb}
use lib.ListN.{length, take}
use lib.Seq.{take_all, take-length, take-append_seam}
use Rattle.prelude.specs.All.{all}
use Rattle.prelude.specs.Checks.{tests}
use Rattle.numbers.specs.Laws.{Bytes}
use Rattle.numbers.proofs.Laws.{part_bytes, bytes_append}
use Rattle.answers.specs.declared.Answer.{Answer}
use Rattle.answers.specs.declared.Answer.TheVariants.{Done, NotOneRecord}
use Rattle.answers.specs.Numbers.{number_of}
use Rattle.rows.specs.Rows.{slot_count}
use Rattle.cutting.specs.Needed.{longest, needed}
use Rattle.cutting.specs.Walk.{Heard, Kept, Turned, Walked, Waits, Stops, judged, walked, joined, records, accepted}
use Rattle.cutting.specs.Walk.{Run, Ran, Halted, heard_on, heard_all, outcome, state_of}
use Rattle.cutting.specs.Laws.{TurnedAt, Framed, AllBytes}
use Rattle.cutting.proofs.Walks.{walked_append, walked_stops, walked_records, records_bytes}
use Rattle.cutting.proofs.Cuts.{needed_most, cut_alone}
use Rattle.house.specs.declared.House.{House}
use Rattle.house.specs.declared.Answered.{Answered}
use Rattle.house.specs.House.{carry_length}
use Rattle.house.specs.Calls.{slot_at, answered, deliver}
use Rattle.house.specs.Feeding.{standing_at, heard, hearing, Poured, poured, with_held, fed_to, feed_checks}
use Rattle.house.specs.History as calls
use Rattle.house.proofs.Feeding.{held_same, can_feed, hears, turned_some, Going, going_from, deliver_going, held_less}
use Rattle.house.proofs.Feeding.{poured_state, not_done, fed_all_lem, fed_taken, framed_needed, fed_past}
use Rattle.house.proofs.Refusing.{refused_keeps}
use Rattle.nights.specs.Night.{Night, carry_at, held_at, Feed, Took, answer_of, Next, next_as, next}
use Rattle.nights.specs.Laws.{Fine, taken_of, FeedAll, FeedTaken, FeedPast, Blocked, delivered_all, SameAs}
use Rattle.nights.specs.Laws.{FeedDelivers, RecordFed, Whole, RecordsFed, CutRecordsFed}
use Rattle.nights.proofs.Checks.{zero_done}
use Rattle.nights.proofs.Keeping.{held_bytes, held_short}
use Rattle.nights.proofs.Joins.{refused_with, feed_passes, feed_fails, fails_some, fed_next, held_after, feed_walk}
use Rattle.nights.proofs.Joins.{poured_before, walk_fine, walk_framed, walk_turned, next_fed, fed_sound}
use Rattle.nights.proofs.Joins.{joined_bytes, any_cutting}

-- ---- either way

-- what is shown of a feed, by whether it passes its checks
by_checks : (n : Night) (slot long : ℕ) (chunk : List ℕ) (P : Next → Type 0)
    → (all (tests (feed_checks n.house slot long)) ≡ false → P (next_as (Took (refused_with n slot long) 0) n))
    → (all (tests (feed_checks n.house slot long)) ≡ true
    → P (fed_next n slot (poured (length chunk) (feed_walk n slot chunk))))
    → P (next n (Feed slot long chunk))
by_checks n slot long chunk P fails passes = go (all (tests (feed_checks n.house slot long))) refl
  where
    go : (t : Bool) → all (tests (feed_checks n.house slot long)) ≡ t → P (next n (Feed slot long chunk))
    go true e = subst P (sym (feed_passes n slot long chunk e)) (passes e)
    go false e = subst P (sym (feed_fails n slot long e chunk)) (fails e)

-- ---- bytes taken

pub feed_all : FeedAll
feed_all n slot long chunk =
    by_checks n slot long chunk
    (λ (x : Next). answer_of x.reply ≡ Done → taken_of x.reply ≡ length chunk)
    (λ e is. absurd (not_done (refused_with n slot long) (fails_some n slot long e) is))
    (λ e. fed_all_lem n.house slot (held_at n slot) chunk)

module _ (n : Night) (slot long : ℕ) (chunk : List ℕ) (fine : Fine n) (bytes : Bytes chunk)
    (e : all (tests (feed_checks n.house slot long)) ≡ true) where
  abbrev walk : Walked House Answer
  walk = feed_walk n slot chunk

  inside : slot < slot_count
  inside = (can_feed n.house slot long e).inside

  going : Going n.house slot (poured (length chunk) walk).state
  going = rw (poured_state (length chunk) walk) (walk_fine n slot long fine e chunk bytes)

  held_is : held_at (fed_next n slot (poured (length chunk) walk)).night slot ≡ (poured (length chunk) walk).held
  held_is = held_after n slot (poured (length chunk) walk) fine.carries inside going

pub feed_taken : FeedTaken
feed_taken n slot long chunk fine bytes e =
    let acc = joined (accepted (hearing slot) (Waits n.house []) (held_at n slot ++ chunk)) in
    subst (λ (x : Next). held_at n slot ++ take (taken_of x.reply) chunk ≡ acc ++ held_at x.night slot)
    (sym (feed_passes n slot long chunk e))
    (fed_taken n.house slot (held_at n slot) chunk
    ∙ ap (λ (l : List ℕ). acc ++ l) (sym (held_is n slot long chunk fine bytes e)))

-- ---- the refused record

pub feed_past : FeedPast
feed_past n slot long chunk fine bytes =
    by_checks n slot long chunk
    (λ (x : Next). (answer_of x.reply ≡ Done → ⊥) → 0 < taken_of x.reply
    → length (held_at x.night slot) ≡ needed (standing_at slot x.night.house) (held_at x.night slot))
    (λ e ne some. absurd (omega (arith, some)))
    (λ e ne some.
    let ok = can_feed n.house slot long e in
    let f = fed_to n.house slot (held_at n slot) chunk in
    subst (λ (l : List ℕ). length l ≡ needed (standing_at slot f.house) l)
    (sym (held_is n slot long chunk fine bytes e))
    (fed_past n.house slot (held_at n slot) chunk fine.shaped fine.sound ok.inside ok.opened
    (held_bytes n fine slot) bytes (held_short n fine slot ok.inside ok.opened) ne some))

-- a record of the length that it needs is heard at its last byte
record_heard : (slot : ℕ) (h : House) (r : List ℕ) → Bytes r → length r ≡ needed (standing_at slot h) r
    → walked (hearing slot) (Waits h []) r ≡ judged (heard (deliver h slot r)) h r
record_heard slot h r bytes is =
    let st = standing_at slot h in
    subst (λ (x : List ℕ). walked (hearing slot) (Waits h []) x ≡ judged (heard (deliver h slot x)) h x)
    (take_all (needed st r) r (omega (arith, is)))
    (cut_alone House Answer (standing_at slot) longest NotOneRecord (λ g q. heard (deliver g slot q)) h r (omega arith)
    (needed_most st r bytes) (omega (arith, is)))

front_bytes : (xs ys : List ℕ) → Bytes (xs ++ ys) → Bytes xs
front_bytes xs ys bytes = rw (← take-append_seam xs ys) (part_bytes (xs ++ ys) 0 (length xs) bytes)

poured_none : (h : House) (r : List ℕ) (a : Answer) (rest : List ℕ)
    → poured 0 (Stops h r a rest) ≡ record { state = h; answer = a; held = r ++ rest; taken = 0 }
poured_none h r a rest =
    let all : length rest - 0 ≡ length rest = omega arith in
    let none : 0 - length rest ≡ 0 = omega arith in
    rw (all, none, take-length rest)

pub blocked : Blocked
blocked n slot long chunk more fine bytes new =
    by_checks n slot long chunk
    (λ (x : Next). (answer_of x.reply ≡ Done → ⊥)
    → next x.night (Feed slot long more) ≡ next_as (Took (answer_of x.reply) 0) x.night)
    (λ e ne. feed_fails n slot long e more)
    (λ e.
    let f = fed_sound n slot long fine e chunk bytes in
    go e (feed_walk n slot chunk) (walk_fine n slot long fine e chunk bytes) (walk_framed n slot chunk)
    (walk_turned n slot chunk) f.bytes f.short)
  where
    go : all (tests (feed_checks n.house slot long)) ≡ true → (w : Walked House Answer)
        → Going n.house slot (state_of w) → Framed (standing_at slot) longest w → TurnedAt (hearing slot) w
        → Bytes (poured (length chunk) w).held → length (poured (length chunk) w).held ≤ carry_length
        → ((poured (length chunk) w).answer ≡ Done → ⊥)
        → let x = fed_next n slot (poured (length chunk) w) in
        next x.night (Feed slot long more) ≡ next_as (Took (answer_of x.reply) 0) x.night
    go e (Waits h part) g framed turned old low ne = absurd (ne refl)
    go e (Stops h r a rest) g framed turned old low ne =
        let m = hearing slot in
        let q = take (length rest - length chunk) rest in
        let rb = front_bytes r q old in
        let again : walked m (Waits h []) r ≡ Stops h r a [] =
        record_heard slot h r rb (framed_needed slot h r rb framed)
        ∙ ap (λ (v : Heard House Answer). judged v h r) (sym (hears slot h r rb) ∙ turned) in
        let walk : walked m (Waits h []) ((r ++ q) ++ more) ≡ Stops h r a (q ++ more) =
        ap (walked m (Waits h [])) (append_assoc r q more)
        ∙ walked_append House Answer m (Waits h []) r (q ++ more)
        ∙ ap (λ (w : Walked House Answer). walked m w (q ++ more)) again
        ∙ walked_stops House Answer m h r a [] (q ++ more) in
        next_fed n slot long fine e h (r ++ q) more g low old new
        ∙ ap (λ (w : Walked House Answer). fed_next n slot (poured (length more) w)) walk
        ∙ ap (fed_next n slot) (poured_before [] more h r a q ∙ poured_none h r a q)

-- ---- records

abbrev run_of : Run House Answer → Answered
run_of (Ran h) = answered Done h
run_of (Halted h a) = answered a h

-- a refused record leaves the house
refused_same : (h : House) (slot : ℕ) (r : List ℕ) → eqb (number_of (deliver h slot r).answer) 0 ≡ false
    → answered (deliver h slot r).answer h ≡ deliver h slot r
refused_same h slot r e =
    let o = deliver h slot r in
    ap (answered o.answer)
    (sym (refused_keeps h (calls.Deliver slot r) (not_done o.answer (eqb-false (number_of o.answer) 0 e))))

delivered_all_lem : (slot : ℕ) (h : House) (rs : List (List ℕ)) → AllBytes rs
    → run_of (heard_all (hearing slot) h rs) ≡ delivered_all h slot rs
unfolding heard
delivered_all_lem slot h [] bytes = refl
delivered_all_lem slot h (r ∷ rs) bytes =
    ap (λ (v : Heard House Answer). run_of (heard_on v h (λ (t : House). heard_all (hearing slot) t rs)))
    (hears slot h r bytes.0)
    ∙ go (eqb (number_of (deliver h slot r).answer) 0) refl (delivered_all_lem slot (deliver h slot r).house rs bytes.1)
  where
    go : (b : Bool) → eqb (number_of (deliver h slot r).answer) 0 ≡ b
        → run_of (heard_all (hearing slot) (deliver h slot r).house rs) ≡ delivered_all (deliver h slot r).house slot rs
        → let o = deliver h slot r in
        run_of (heard_on (cond b (Kept o.house) (Turned o.answer)) h (λ (t : House). heard_all (hearing slot) t rs))
        ≡ cond b (delivered_all o.house slot rs) o
    go true e on = on
    go false e on = refused_same h slot r e

poured_run : (k : ℕ) (w : Walked House Answer)
    → answered (poured k w).answer (poured k w).state ≡ run_of (outcome w)
poured_run k (Waits h part) = refl
poured_run k (Stops h r a rest) = refl

-- a feed whose walk ends as deliveries do
same_as : (n : Night) (slot long : ℕ) (chunk : List ℕ) → Fine n → Bytes chunk
    → all (tests (feed_checks n.house slot long)) ≡ true → (o : Answered)
    → run_of (outcome (feed_walk n slot chunk)) ≡ o → SameAs slot (next n (Feed slot long chunk)) o
same_as n slot long chunk fine bytes e o ends =
    let p = poured (length chunk) (feed_walk n slot chunk) in
    let is = poured_run (length chunk) (feed_walk n slot chunk) ∙ ends in
    subst (λ (x : Next). SameAs slot x o) (sym (feed_passes n slot long chunk e)) (
      ap (λ (a : Answered). a.answer) is,
      ap (λ (a : Answered). with_held a.house slot (length p.held)) is
          ∙ ap (λ (l : List ℕ). with_held o.house slot (length l)) (sym (held_is n slot long chunk fine bytes e)),
    )

pub feed_delivers : FeedDelivers
feed_delivers n slot long chunk fine bytes e =
    let m = hearing slot in
    let bs = held_at n slot ++ chunk in
    let rs = records m (Waits n.house []) bs in
    same_as n slot long chunk fine bytes e (delivered_all n.house slot rs)
    (ap run_of (walked_records House Answer m n.house bs)
    ∙ delivered_all_lem slot n.house rs
    (records_bytes House Answer m n.house bs
    (bytes_append (held_at n slot) chunk (held_bytes n fine slot) bytes)))

-- ---- whole records

-- the walk of a feed with no byte held
walk_empty : (n : Night) (slot : ℕ) (chunk : List ℕ) → (slot_at n.house slot).held ≡ 0
    → feed_walk n slot chunk ≡ walked (hearing slot) (Waits n.house []) chunk
walk_empty n slot chunk empty =
    ap (λ (k : ℕ). walked (hearing slot) (Waits n.house []) (take k (carry_at n slot) ++ chunk)) empty

-- a chunk that is a refused record
poured_whole : (h : House) (r : List ℕ) (a : Answer)
    → poured (length r) (Stops h r a []) ≡ record { state = h; answer = a; held = r; taken = length r }
poured_whole h r a =
    let none : 0 - length r ≡ 0 = omega arith in
    let all : length r - 0 ≡ length r = omega arith in
    rw (none, all, append-nil r)

abbrev FedAs : ℕ → List ℕ → Answered → Bool → Next → Type 0
FedAs slot rec o done x =
    (x.reply ≡ Took o.answer (length rec))
    × (x.night.house ≡ cond done o.house (with_held o.house slot (length rec)))
    × (held_at x.night slot ≡ cond done [] rec)

pub record_fed : RecordFed
unfolding heard
record_fed n slot long rec fine bytes e empty is =
    let o = deliver n.house slot rec in
    let done = eqb (number_of o.answer) 0 in
    subst (FedAs slot rec o done) (sym (feed_passes n slot long rec e))
    (subst (λ (w : Walked House Answer). FedAs slot rec o done (fed_next n slot (poured (length rec) w)))
    (sym (walk_empty n slot rec empty ∙ record_heard slot n.house rec bytes is)) (go done refl))
  where
    here : slot < slot_count
    here = (can_feed n.house slot long e).inside

    begun : Going n.house slot n.house
    begun = going_from n.house slot fine.shaped fine.sound (can_feed n.house slot long e).opened

    go : (b : Bool) → eqb (number_of (deliver n.house slot rec).answer) 0 ≡ b
        → let o = deliver n.house slot rec in
        FedAs slot rec o b
        (fed_next n slot
        (poured (length rec) (judged (cond b (Kept o.house) (Turned o.answer)) n.house rec)))
    go true q =
        let o = deliver n.house slot rec in
        let none : 0 ≡ (slot_at o.house slot).held =
        omega (arith, held_less n.house (calls.Deliver slot rec) slot, empty) in (
          ap (λ (a : Answer). Took a (length rec)) (sym (zero_done o.answer (eqb-true (number_of o.answer) 0 q))),
          ap (with_held o.house slot) none ∙ held_same o.house slot,
          held_after n slot (poured (length rec) (Waits o.house [])) fine.carries here
              (deliver_going n.house slot here n.house rec bytes begun),
        )
    go false q =
        let o = deliver n.house slot rec in
        let p : Poured House = record { state = n.house; answer = o.answer; held = rec; taken = length rec } in
        subst (λ (p : Poured House). FedAs slot rec o false (fed_next n slot p))
        (sym (poured_whole n.house rec o.answer)) (
          refl,
          ap (λ (a : Answered). with_held a.house slot (length rec)) (refused_same n.house slot rec q),
          held_after n slot p fine.carries here begun,
        )

-- how a walk over whole records ends: where all are accepted, with no part of a record
abbrev Ends : Answered → Walked House Answer → Type 0
Ends o (Waits h part) = (answered Done h ≡ o) × (part ≡ [])
Ends o (Stops h r a rest) = answered a h ≡ o

whole_ends : (slot : ℕ) (h : House) (rs : List (List ℕ)) → AllBytes rs → Whole h slot rs
    → Ends (delivered_all h slot rs) (walked (hearing slot) (Waits h []) (joined rs))
unfolding walked heard
whole_ends slot h [] bytes whole = (refl, refl)
whole_ends slot h (r ∷ rs) bytes whole =
    subst (Ends (delivered_all h slot (r ∷ rs)))
    (sym
    (walked_append House Answer (hearing slot) (Waits h []) r (joined rs)
    ∙ ap (λ (w : Walked House Answer). walked (hearing slot) w (joined rs))
    (record_heard slot h r bytes.0 whole.0)))
    (go (eqb (number_of (deliver h slot r).answer) 0) refl
    (λ (q : number_of (deliver h slot r).answer ≡ 0).
    whole_ends slot (deliver h slot r).house rs bytes.1 (whole.1 q)))
  where
    go : (b : Bool) → eqb (number_of (deliver h slot r).answer) 0 ≡ b
        → let o = deliver h slot r in
        (number_of o.answer ≡ 0
        → Ends (delivered_all o.house slot rs) (walked (hearing slot) (Waits o.house []) (joined rs)))
        → Ends (cond b (delivered_all o.house slot rs) o)
        (walked (hearing slot) (judged (cond b (Kept o.house) (Turned o.answer)) h r) (joined rs))
    go true q on = on (eqb-true (number_of (deliver h slot r).answer) 0 q)
    go false q on =
        let o = deliver h slot r in
        subst (Ends o) (sym (walked_stops House Answer (hearing slot) h r o.answer [] (joined rs)))
        (refused_same h slot r q)

ends_run : (o : Answered) (w : Walked House Answer) → Ends o w → run_of (outcome w) ≡ o
ends_run o (Waits h part) ends = ends.0
ends_run o (Stops h r a rest) ends = ends

ends_empty : (slot k : ℕ) (o : Answered) (w : Walked House Answer) → Ends o w → TurnedAt (hearing slot) w
    → (poured k w).answer ≡ Done → (poured k w).held ≡ []
ends_empty slot k o (Waits h part) ends turned is = ends.1
ends_empty slot k o (Stops h r a rest) ends turned is = absurd (not_done a (turned_some slot h r a turned) is)

pub records_fed : RecordsFed
records_fed n slot long rs fine bytes e empty whole =
    let chunk = joined rs in
    let low = joined_bytes rs bytes in
    let o = delivered_all n.house slot rs in
    let ends : Ends o (feed_walk n slot chunk) = subst (Ends o) (sym (walk_empty n slot chunk empty))
    (whole_ends slot n.house rs bytes whole) in (
      same_as n slot long chunk fine low e o (ends_run o (feed_walk n slot chunk) ends),
      subst (λ (x : Next). answer_of x.reply ≡ Done → held_at x.night slot ≡ [])
          (sym (feed_passes n slot long chunk e)) (λ is.
          held_is n slot long chunk fine low e
          ∙ ends_empty slot (length chunk) o (feed_walk n slot chunk) ends (walk_turned n slot chunk) is),
    )

pub cut_records_fed : CutRecordsFed
cut_records_fed n slot long rs c cs fine bytes old new e empty whole same =
    subst (λ (x : Next). SameAs slot x (delivered_all n.house slot rs))
    (sym
    (any_cutting n slot long c cs fine old new ∙ ap (λ (bs : List ℕ). next n (Feed slot long bs)) same))
    (records_fed n slot long rs fine bytes e empty whole).0
