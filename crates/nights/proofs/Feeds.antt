-- The statements of specs/Told.antt on feeds, proved: a record of a feed is judged by the house that the deliveries
-- before it made, but for what is held, which no record reads.
-- Assumes nothing.
use Rattle.std.specs.Prelude.{Option, None}
use mathlib.Core.Path.{◌≡◌, refl, ap, ap₂, sym, subst, ◌∙◌}
use mathlib.Core.Bool.{Bool, true, false, cond, not, false≢true}
use mathlib.Core.List.{List, [], ◌∷◌, ◌++◌}
use Prim.Native.Nat.{ℕ, suc, ◌≤◌}
use native.Mathlib.Omega.{arith}
use borrow.Author.Tests.{le-ltb, ltb-true, ltb-false, eqb-true, eq-eqb}
use lib.Dec.{eqb, leb, ltb}
use lib.ListN.{length}
use Rattle.prelude.specs.All.{all}
use Rattle.prelude.specs.Checks.{Check, ◌else◌, tests, checked, number_by}
use Rattle.prelude.specs.Each.{each}
use Rattle.prelude.proofs.Checks.{checked_where}
use Rattle.answers.specs.declared.Answer.{Answer}
use Rattle.answers.specs.declared.Answer.TheVariants as answer
use Rattle.answers.specs.declared.Answer.TheVariants.{Done, NoRoom}
use Rattle.answers.specs.declared.Saying.{Saying}
use Rattle.answers.specs.Numbers.{saying_of, number_of, values_of}
use Rattle.numbers.specs.Laws.{Bytes}
use Rattle.session.specs.declared.Standing.{Standing}
use Rattle.rows.specs.Rows.{slot_count}
use Rattle.cutting.specs.Needed.{longest, needed, cut}
use Rattle.cutting.specs.Walk.{Kept, Turned, Walked, Waits, Stops, walked, accepted, state_of}
use Rattle.cutting.specs.Laws.{TurnedAt, AllBytes, HeardLike, WalkLike, Likeness, always, stopped}
use Rattle.cutting.proofs.Walks.{walked_turned, walked_ever, accepted_stopped}
use Rattle.cutting.proofs.Cuts.{needed_most}
use Rattle.house.specs.declared.Slot.{Slot}
use Rattle.house.specs.declared.House.{House}
use Rattle.house.specs.House as house
use Rattle.house.specs.House.{carry_length, sound}
use Rattle.house.specs.Calls.{slot_at, deliver}
use Rattle.house.specs.Feeding.{standing_at, heard, hearing, poured, feed_checks}
use Rattle.house.specs.History as asked
use Rattle.house.specs.History.{Deliver, Told, Said, said}
use Rattle.house.specs.Laws.{Shaped, bare}
use Rattle.house.proofs.Keeping.{after_keeps, after_shaped}
use Rattle.house.proofs.Feeding.{hears}
use Rattle.house.proofs.Bare.{bare_at, bare_reply, bare_after, bare_reached}
use Rattle.books.specs.Book.{Book, book_of, rows_in}
use Rattle.books.specs.Told.{carried_by, Smallest}
use Rattle.books.proofs.Booked.{book_agrees}
use Rattle.books.proofs.Told as by_books
use Rattle.books.proofs.Smallest as by_smallest
use Rattle.books.proofs.Rooms as by_rooms
use Rattle.nights.specs.Night.{Night, Next, fresh, held_at, Call, Feed, Took, answer_of, next_as, feed_done, feed_next}
use Rattle.nights.specs.Night.{reply, reached, Sent, AllSent}
use Rattle.nights.specs.Spelled.{delivers, judged_in, spelled, told}
use Rattle.nights.specs.Told.{book_at, number_told, record_number, Refusing, told_before, FeedRefusing}
use Rattle.nights.specs.Told.{FeedNeverRefused, FeedSmallest, standing_in, heard_by, hearing_by, feed_walk, Says}
use Rattle.nights.specs.Told.{says, says_of, walk_says, FeedTold, EndTold}
use Rattle.nights.proofs.Checks.{zero_done}
use Rattle.nights.proofs.Keeping.{held_count, reached_fine, end_number}
use Rattle.nights.proofs.Joins.{feed_passes}
use Rattle.nights.proofs.Spelled.{turned_answer, bytes_both, delivers_append, reached_append}
use Rattle.nights.proofs.Spelled.{delivers_sent, Walking, walking, fed_bytes, sent_append}
use Rattle.nights.proofs.Spelled.{spell_call, spelled_sent, spelled_out}

-- a house stays sound, and as long, through any calls
pub on_keeps : (h : House) (cs : List asked.Call) → asked.AllSent cs → Shaped h → sound h ≡ true
    → (Shaped (asked.reached h cs)) × (sound (asked.reached h cs) ≡ true)
on_keeps h [] sent shape e = (shape, e)
on_keeps h (c ∷ cs) sent shape e =
    on_keeps (asked.after h c) cs sent.1 (after_shaped h c sent.0 shape) (after_keeps h c sent.0 shape e)

-- ---- where it was refused

-- the calls before a record of a feed, told one by one, and the answer to that record
module _ (calls : List Call) (sent : AllSent calls) (slot : ℕ) where
  abbrev n : Night
  n = reached fresh calls

  before_answer : (recs : List (List ℕ)) (rec : List ℕ) → AllBytes recs
      → asked.reply (asked.reached house.fresh (spelled fresh calls ++ delivers slot recs)) (Deliver slot rec)
      ≡ Told (deliver (asked.reached n.house (delivers slot recs)) slot rec).answer
  before_answer recs rec bytes =
      let fine = reached_fine calls sent in
      let out = delivers_sent slot recs bytes in
      let kept = on_keeps n.house (delivers slot recs) out fine.shaped fine.sound in
      ap (λ (g : House). asked.reply g (Deliver slot rec))
      (reached_append house.fresh (spelled fresh calls) (delivers slot recs)
      ∙ ap (λ (g : House). asked.reached g (delivers slot recs)) (sym (spelled_out calls sent))
      ∙ bare_reached n.house (delivers slot recs) out fine.shaped fine.sound)
      ∙ bare_reply (asked.reached n.house (delivers slot recs)) (Deliver slot rec) kept.1

  module _ (long : ℕ) (chunk : List ℕ) (chunk_bytes_lem : Bytes chunk)
      (ok : all (tests (feed_checks n.house slot long)) ≡ true) where
    abbrev bs : List ℕ
    bs = held_at n slot ++ chunk

    refusing_at : (w : Walked House Answer) → walked (hearing slot) (Waits n.house []) bs ≡ w
        → TurnedAt (hearing slot) w → Walking slot n.house bs
        → ((poured (length chunk) w).answer ≡ Done → ⊥)
        → answer_of (reply n (Feed slot long chunk)) ≡ (poured (length chunk) w).answer
        → Refusing calls slot (Feed slot long chunk)
    refusing_at (Waits h part) is turned told refused says = absurd (refused refl)
    refusing_at (Stops h rec a rest) is turned told refused says =
        let m = hearing slot in
        let kept = accepted m (Waits n.house []) bs in
        let all_bytes = subst (λ (w : Walked House Answer). AllBytes (kept ++ stopped w)) is told.bytes in
        let parts = bytes_both kept (rec ∷ []) all_bytes in
        let recs : judged_in n slot chunk ≡ kept ++ (rec ∷ []) =
        accepted_stopped House Answer m n.house bs ∙ ap (λ (w : Walked House Answer). kept ++ stopped w) is in
        let made : h ≡ asked.reached n.house (delivers slot kept) = ap state_of (sym is) ∙ told.made.is in
        record {
          before = kept;
          rec = rec;
          spells = rw ok (ap (delivers slot) recs ∙ delivers_append slot kept (rec ∷ []));
          answer =
              before_answer kept rec parts.0
              ∙ ap Told
              (ap (λ (g : House). (deliver g slot rec).answer) (sym made)
              ∙ turned_answer slot h rec a parts.1.0 turned
              ∙ sym says);
        }

pub feed_refusing : FeedRefusing
feed_refusing calls slot long chunk sent bytes ok refused =
    let n = reached fresh calls in
    let bs = held_at n slot ++ chunk in
    let w = walked (hearing slot) (Waits n.house []) bs in
    let says = ap (λ (x : Next). answer_of x.reply) (feed_passes n slot long chunk ok) in
    refusing_at calls sent slot long chunk bytes ok w refl
    (walked_turned House Answer (hearing slot) (Waits n.house []) bs tt)
    (walking slot n.house bs (fed_bytes n (reached_fine calls sent) slot chunk bytes))
    (λ done. refused (says ∙ done)) says

-- ---- refused for room, or with a part named

abbrev spares : ℕ → Answer → Bool
spares k a = not (eqb (number_of a) k)

-- a number that no check of a feed has is that of a record
judged_by : (n : Night) (slot long : ℕ) (chunk : List ℕ) (k : ℕ)
    → each (λ (c : Check Answer). spares k c.answer) (feed_checks n.house slot long) ≡ true
    → number_of (answer_of (reply n (Feed slot long chunk))) ≡ k
    → all (tests (feed_checks n.house slot long)) ≡ true
unfolding feed_next
judged_by n slot long chunk k told =
    checked_where (λ (a : Answer). next_as (Took a 0) n)
    (λ (x : Next). number_of (answer_of x.reply) ≡ k → all (tests (feed_checks n.house slot long)) ≡ true) (spares k)
    (feed_checks n.house slot long) (feed_done n slot chunk) told
    (λ a other is. absurd (false≢true (sym (ap not (eq-eqb (number_of a) k is)) ∙ other))) (λ e is. e)

sent_both : (cs ds : List asked.Call) → asked.AllSent (cs ++ ds) → asked.AllSent cs × asked.AllSent ds
sent_both [] ds sent = (tt, sent)
sent_both (c ∷ cs) ds sent = let rest = sent_both cs ds sent.1 in ((sent.0, rest.0), rest.1)

module _ (calls : List Call) (sent : AllSent calls) (slot : ℕ) (c : Call) (own : Sent c)
    (at : Refusing calls slot c) where
  spells_sent : asked.AllSent (delivers slot at.before) × asked.AllSent (Deliver slot at.rec ∷ [])
  spells_sent =
      sent_both (delivers slot at.before) (Deliver slot at.rec ∷ [])
      (subst asked.AllSent at.spells (spell_call (reached fresh calls) c own (reached_fine calls sent)).sent)

  abbrev past : List asked.Call
  past = spelled fresh calls ++ delivers slot at.before

  past_sent : asked.AllSent past
  past_sent =
      sent_append (spelled fresh calls) (delivers slot at.before) (spelled_sent calls sent) spells_sent.0

  room_above : answer_of (reply (reached fresh calls) c) ≡ NoRoom
      → let b = book_of slot (told_before calls slot c at) in b.floor ≤ rows_in b
  room_above is = go (ltb (rows_in b) b.floor) refl
    where
      b : Book
      b = book_of slot (told_before calls slot c at)

      go : (t : Bool) → ltb (rows_in b) b.floor ≡ t → b.floor ≤ rows_in b
      go true below =
          absurd
          (by_rooms.never_refused past slot at.rec past_sent spells_sent.1.0
          (ltb-true (rows_in b) b.floor below) (ap asked.answer_of at.answer ∙ is))
      go false full = ltb-false (rows_in b) b.floor full

  part_named : number_of (answer_of (reply (reached fresh calls) c)) ≡ 12
      → Smallest (book_of slot (told_before calls slot c at)).parts (values_of (answer_of (reply (reached fresh calls) c)))
  part_named is =
      let same = ap asked.answer_of at.answer in
      subst (λ (a : Answer). Smallest (book_of slot (told_before calls slot c at)).parts (values_of a)) same
      (by_smallest.smallest_told past slot at.rec past_sent spells_sent.1.0 (ap number_of same ∙ is))

module _ (calls : List Call) (slot long : ℕ) (chunk : List ℕ) (sent : AllSent calls) (bytes : Bytes chunk) where
  -- a feed whose number no check of it has, and that is not 0
  refused_with_lem : (k : ℕ)
      → let checks = feed_checks (reached fresh calls).house slot long in
      each (λ (c : Check Answer). spares (suc k) c.answer) checks ≡ true
      → number_told calls (Feed slot long chunk) ≡ suc k → Refusing calls slot (Feed slot long chunk)
  refused_with_lem k told is =
      feed_refusing calls slot long chunk sent bytes (judged_by (reached fresh calls) slot long chunk (suc k) told is)
      (λ done. omega (arith, sym is ∙ ap number_of done))

pub feed_never_refused : FeedNeverRefused
feed_never_refused calls slot long chunk sent bytes is =
    let at = refused_with_lem calls slot long chunk sent bytes 12 refl (ap number_of is) in
    record { where_refused = at; above = room_above calls sent slot (Feed slot long chunk) bytes at is }

pub feed_smallest : FeedSmallest
feed_smallest calls slot long chunk sent bytes is =
    let at = refused_with_lem calls slot long chunk sent bytes 11 refl is in
    record { where_refused = at; named = part_named calls sent slot (Feed slot long chunk) bytes at is }

-- ---- a feed, by what was told

opened_told : (calls : List Call) (slot : ℕ) → AllSent calls
    → (slot_at (reached fresh calls).house slot).taken ≡ (book_at slot calls).opened
opened_told calls slot sent =
    let h = (reached fresh calls).house in
    ap (λ (s : Slot). s.taken) (sym (bare_at h slot))
    ∙ ap (λ (g : House). (slot_at g slot).taken) (spelled_out calls sent)
    ∙ sym (book_agrees slot (spelled fresh calls) (spelled_sent calls sent)).opened

pub history_append : (h : House) (cs ds : List asked.Call)
    → asked.history h (cs ++ ds) ≡ asked.history h cs ++ asked.history (asked.reached h cs) ds
history_append h [] ds = refl
history_append h (c ∷ cs) ds =
    ap (λ (es : List Said). said c (asked.reply h c) ∷ es) (history_append (asked.after h c) cs ds)

-- a house in a feed, and what was told until then: the calls before it and the records accepted in it
pub record Tells (h : House) (es : List Said) : Type 0 where
  pub shaped : Shaped h
  pub sound : sound h ≡ true
  pub calls : List asked.Call
  pub sent : asked.AllSent calls
  pub is : es ≡ asked.history house.fresh calls
  pub made : bare h ≡ asked.reached house.fresh calls

module _ (slot : ℕ) (h : House) (es : List Said) (t : Tells h es) where
  -- the stream stands where its book says
  tells_standing : standing_at slot h ≡ standing_in (book_of slot es)
  tells_standing =
      let q = (book_agrees slot t.calls t.sent).says in
      ap (λ (s : Slot). s.session.standing) (sym (bare_at h slot))
      ∙ ap (λ (g : House). (slot_at g slot).session.standing) t.made
      ∙ rw (t.is, q.place, q.order, q.parts.many, q.pcr, q.results, q.wafers.many)

  tells_reply : (rec : List ℕ)
      → asked.reply (asked.reached house.fresh t.calls) (Deliver slot rec) ≡ Told (deliver h slot rec).answer
  tells_reply rec =
      ap (λ (g : House). asked.reply g (Deliver slot rec)) (sym t.made)
      ∙ bare_reply h (Deliver slot rec) t.sound

  -- a record's answer is told
  tells_number : (rec : List ℕ) → Bytes rec → number_of (deliver h slot rec).answer ≡ record_number es slot rec
  tells_number rec bytes =
      ap (λ (r : asked.Reply). number_of (asked.answer_of r)) (sym (tells_reply rec))
      ∙ by_books.deliver_told t.calls slot rec t.sent bytes
      ∙ ap (λ (l : List Said). record_number l slot rec) (sym t.is)

  tells_values : (rec : List ℕ) → Bytes rec
      → values_of (deliver h slot rec).answer ≡ carried_by es (record_number es slot rec) (Deliver slot rec)
  tells_values rec bytes =
      ap (λ (r : asked.Reply). values_of (asked.answer_of r)) (sym (tells_reply rec))
      ∙ by_smallest.values_told_lem t.calls (Deliver slot rec) t.sent bytes
      ∙ ap₂ (λ (l : List Said) (k : ℕ). carried_by l k (Deliver slot rec)) (sym t.is)
      (ap (λ (r : asked.Reply). number_of (asked.answer_of r)) (tells_reply rec) ∙ tells_number rec bytes)

  -- an accepted record is told too
  tells_on : (rec : List ℕ) → Bytes rec → number_of (deliver h slot rec).answer ≡ 0
      → Tells (deliver h slot rec).house (es ++ (said (Deliver slot rec) (Told Done) ∷ []))
  tells_on rec bytes zero =
      let c = Deliver slot rec in
      record {
        shaped = after_shaped h c bytes t.shaped;
        sound = after_keeps h c bytes t.shaped t.sound;
        calls = t.calls ++ (c ∷ []);
        sent = sent_append t.calls (c ∷ []) t.sent (bytes, tt);
        is =
            ap₂ (λ (l : List Said) (r : asked.Reply). l ++ (said c r ∷ [])) t.is
            (sym (tells_reply rec ∙ ap Told (zero_done (deliver h slot rec).answer zero)))
            ∙ sym (history_append house.fresh t.calls (c ∷ []));
        made =
            sym (bare_after h c t.sound)
            ∙ ap (λ (g : House). asked.after g c) t.made
            ∙ sym (reached_append house.fresh t.calls (c ∷ []));
      }

abbrev pub Answers : Answer → Saying → Type 0
Answers a s = saying_of a ≡ s

module _ (slot : ℕ) where
  pub hears_by : (es : List Said) (rec : List ℕ) → Bytes rec → (hearing_by slot).hear es rec ≡ heard_by slot es rec
  hears_by es rec bytes =
      let st = standing_in (book_of slot es) in
      rw (le-ltb longest (needed st rec) (needed_most st rec bytes))

  heard_alike : (h : House) (es : List Said) (rec : List ℕ) → Bytes rec → Tells h es
      → HeardLike Tells Answers (heard (deliver h slot rec)) (heard_by slot es rec)
  unfolding heard
  heard_alike h es rec bytes t =
      let a = (deliver h slot rec).answer in
      let k = record_number es slot rec in
      rw (tells_number slot h es t rec bytes)
      (go (eqb k 0) refl)
    where
      go : (b : Bool) → eqb (record_number es slot rec) 0 ≡ b
          → HeardLike Tells Answers
          (cond b (Kept (deliver h slot rec).house) (Turned (deliver h slot rec).answer))
          (cond b (Kept (es ++ (said (Deliver slot rec) (Told Done) ∷ [])))
          (Turned (record_number es slot rec, carried_by es (record_number es slot rec) (Deliver slot rec))))
      go true zero =
          tells_on slot h es t rec bytes
          (tells_number slot h es t rec bytes ∙ eqb-true (record_number es slot rec) 0 zero)
      go false some =
          ap₂ (λ (k : ℕ) (v : Option (ℕ × ℕ)). (k, v)) (tells_number slot h es t rec bytes) (tells_values slot h es t rec bytes)

  pub alike : Likeness House (List Said) Answer Saying (hearing slot) (hearing_by slot) always always Tells Answers
  alike =
      record {
        whole_like = λ h es r t. ap (λ (st : Standing). leb (cut longest st r) (length r)) (tells_standing slot h es t);
        fits_like = λ h es r bytes t. refl;
        hear_like = λ h es r bytes t yes.
            rw (hears slot h r bytes, hears_by es r bytes) (heard_alike h es r bytes t);
      }

pours_alike : (k : ℕ) (w : Walked House Answer) (v : Walked (List Said) Saying) → WalkLike Tells Answers w v
    → says (saying_of (poured k w).answer) (poured k w).taken ≡ walk_says k v
pours_alike k (Waits h part) (Waits es other) e = refl
pours_alike k (Waits h part) (Stops es r s rest) e = absurd e
pours_alike k (Stops h r a rest) (Waits es other) e = absurd e
pours_alike k (Stops h r a rest) (Stops es q s other) e = rw (e.2, e.3)

-- the checks of a feed to a sound house, by their numbers
abbrev feed_says : Bool → Bool → Bool → Says → Says
feed_says inside opened long done =
    checked (λ (k : ℕ). says (k, None) 0) ((inside else 1) ∷ (opened else 2) ∷ (long else 17) ∷ []) done

feed_says_lem : (n : Night) (slot long : ℕ) (chunk : List ℕ) → sound n.house ≡ true
    → says_of (feed_next n slot long chunk).reply
    ≡ feed_says (ltb slot slot_count) (slot_at n.house slot).taken (eqb long carry_length)
    (says_of (feed_done n slot chunk).reply)
unfolding feed_next
feed_says_lem n slot long chunk e =
    go (sound n.house) (ltb slot slot_count) (slot_at n.house slot).taken (eqb long carry_length) e
  where
    go : (fine inside opened whole : Bool) → fine ≡ true
        → says_of (checked (λ (a : Answer). next_as (Took a 0) n)
        ((fine else answer.NotSound)
        ∷ (inside else answer.NoSuchSlot)
        ∷ (opened else answer.SlotClosed)
        ∷ (whole else answer.OutputTooShort)
        ∷ []) (feed_done n slot chunk)).reply
        ≡ feed_says inside opened whole (says_of (feed_done n slot chunk).reply)
    go false inside opened whole e = absurd (false≢true e)
    go true false opened whole e = refl
    go true true false whole e = refl
    go true true true false e = refl
    go true true true true e = refl

pub feed_told : FeedTold
feed_told calls slot long chunk sent bytes =
    let n = reached fresh calls in
    let fine = reached_fine calls sent in
    let bs = held_at n slot ++ chunk in
    let t : Tells n.house (told calls) =
    record {
      shaped = fine.shaped;
      sound = fine.sound;
      calls = spelled fresh calls;
      sent = spelled_sent calls sent;
      is = refl;
      made = spelled_out calls sent;
    } in
    let walks = walked_ever House (List Said) Answer Saying (hearing slot) (hearing_by slot) Tells Answers (alike slot)
    n.house (told calls) bs (fed_bytes n fine slot chunk bytes) t in
    feed_says_lem n slot long chunk fine.sound
    ∙ ap₂ (λ (opened : Bool) (done : Says). feed_says (ltb slot slot_count) opened (eqb long carry_length) done)
    (opened_told calls slot sent)
    (pours_alike (length chunk) (walked (hearing slot) (Waits n.house []) bs) (feed_walk calls slot chunk) walks)

pub end_told : EndTold
end_told calls slot sent =
    let n = reached fresh calls in
    let fine = reached_fine calls sent in
    end_number n slot ∙ rw (fine.sound, opened_told calls slot sent) (go (ltb slot slot_count) refl)
  where
    go : (inside : Bool) → ltb slot slot_count ≡ inside
        → number_by
        ((inside else 1)
        ∷ ((book_at slot calls).opened else 2)
        ∷ (eqb (slot_at (reached fresh calls).house slot).held 0 else 3)
        ∷ [])
        ≡ number_by
        ((inside else 1)
        ∷ ((book_at slot calls).opened else 2)
        ∷ (eqb (length (held_at (reached fresh calls) slot)) 0 else 3)
        ∷ [])
    go false e = refl
    go true e =
        rw (held_count (reached fresh calls) (reached_fine calls sent) slot (ltb-true slot slot_count e))
