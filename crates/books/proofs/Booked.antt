-- A book and a house: what calls and their answers tell of a slot is what the house holds of it, call by call.
-- Assumes nothing.
use mathlib.Core.Path.{◌≡◌, refl, ap, ap₂, sym, subst, ◌∙◌}
use mathlib.Core.Bool.{Bool, true, false, cond, not, ◌&&◌, false≢true, true≢false}
use mathlib.Core.List.{List, [], ◌∷◌, ◌++◌}
use Prim.Native.Nat.{ℕ, ◌-◌, ◌<◌}
use native.Mathlib.Omega.{arith}
use borrow.Author.Tests.{ltb-true, eqb-true, not-true}
use lib.Dec.{leb, ltb, eqb}
use Rattle.answers.specs.declared.Answer.{Answer}
use Rattle.answers.specs.declared.Answer.TheVariants.{Done}
use Rattle.answers.specs.Numbers.{number_of}
use Rattle.numbers.specs.Laws.{Bytes}
use Rattle.rows.specs.Rows.{slot_count, row_key}
use Rattle.rows.specs.Counts.{Count, plus, rows_by}
use Rattle.session.specs.declared.Session.{Session}
use Rattle.session.specs.declared.Verdict.{Verdict}
use Rattle.session.specs.declared.Verdict.TheVariants.{Refused, Taken, Wanted}
use Rattle.session.specs.Session.{begun}
use Rattle.settling.specs.Settling.{changed}
use Rattle.judging.specs.Judge.{verdict_on}
use Rattle.judging.specs.Laws.{RefusesOwn}
use Rattle.judging.proofs.Laws.{judged_refusal}
use Rattle.house.specs.declared.Slot.{Slot}
use Rattle.house.specs.declared.House.{House}
use Rattle.house.specs.declared.Answered.{Answered}
use Rattle.house.specs.House.{row_count, fresh, keys_of, free, promised, sound}
use Rattle.house.specs.Deliver.{granted}
use Rattle.house.specs.Calls.{slot_at, open_slot, close_slot, room_of, deliver}
use Rattle.house.specs.History.{Call, Open, Deliver, Report, Close, Figured, reply, answer_of, after, reached, said}
use Rattle.house.specs.History.{history, names, Sent, AllSent}
use Rattle.house.specs.Laws.{Shaped}
use Rattle.house.proofs.Calling.{open_session}
use Rattle.house.proofs.Keeping.{fresh_sound, fresh_shaped, after_keeps, after_shaped}
use Rattle.house.proofs.Slots.{rows_at, Alike, else_alike, Own, own_deliver, own_close, own_open, answer_by, rows_after}
use Rattle.house.proofs.Slots.{next_slot}
use Rattle.house.proofs.Refusing.{refused_keeps, own_number_lem, open_number, deliver_number, close_number}
use Rattle.house.proofs.Counting.{fresh_at, holds}
use Rattle.tallies.specs.Results.{PartResult}
use Rattle.tallies.specs.Packed.{packed}
use Rattle.house.specs.Tally.{is_done}
use Rattle.books.specs.Book.{Book, book, nothing, opened_with, said_in, results_in, noted, done_by}
use Rattle.books.specs.Book.{heard, heard_from, book_of}
use Rattle.books.proofs.Following.{Says, says_anew, Booked, booked}

pub record Agree (slot : ℕ) (b : Book) (h : House) : Type 0 where
  pub opened : b.opened ≡ (slot_at h slot).taken
  pub floor : b.floor ≡ (slot_at h slot).floor
  pub says : Says b (slot_at h slot).session
  pub rows : packed b.results ≡ rows_at h slot
  pub shut : b.opened ≡ false → b ≡ nothing

pub agree_alike : (slot : ℕ) (b : Book) (h g : House) → Alike slot g h → Agree slot b h → Agree slot b g
agree_alike slot b h g a p =
    record {
      opened = p.opened ∙ sym (ap (λ (s : Slot). s.taken) a.stands);
      floor = p.floor ∙ sym (ap (λ (s : Slot). s.floor) a.stands);
      says = subst (λ (s : Slot). Says b s.session) (sym a.stands) p.says;
      rows = p.rows ∙ sym a.rows;
      shut = p.shut;
    }

agree_fresh : (slot : ℕ) → Agree slot nothing fresh
unfolding packed rows_by
agree_fresh slot =
    record {
      opened = fresh_at (λ (s : Slot). false ≡ s.taken) slot_count slot refl refl;
      floor = fresh_at (λ (s : Slot). 0 ≡ s.floor) slot_count slot refl refl;
      says =
          fresh_at (λ (s : Slot). Says nothing s.session) slot_count slot (says_anew false 0 begun.parts)
          (says_anew false 0 []);
      rows = refl;
      shut = λ is. refl;
    }

-- ---- one call more

-- a slot that stands as one just opened or closed, and holds no row
agree_anew : (slot : ℕ) (g : House) (taken : Bool) (floor : ℕ)
    → slot_at g slot ≡ record { taken = taken; floor = floor; session = begun; held = 0 } → rows_at g slot ≡ []
    → (taken ≡ false → book taken floor ≡ nothing) → Agree slot (book taken floor) g
unfolding packed
agree_anew slot g taken floor stands none shut =
    record {
      opened = sym (ap (λ (s : Slot). s.taken) stands);
      floor = sym (ap (λ (s : Slot). s.floor) stands);
      says =
          subst (λ (s : Slot). Says (book taken floor) s.session) (sym stands)
          (says_anew taken floor begun.parts);
      rows = sym none;
      shut = shut;
    }

module _ (slot : ℕ) (b : Book) (h : House) (p : Agree slot b h) where
  -- a record that is accepted
  agree_by : (rec : List ℕ) (g : House) (next : Session) (rows : List Count) → (slot_at h slot).taken ≡ true
      → slot_at g slot
      ≡ record {
        taken = (slot_at h slot).taken;
        floor = (slot_at h slot).floor;
        session = next;
        held = (slot_at h slot).held;
      }
      → Says (noted rec b) next → rows_at g slot ≡ rows → packed (results_in (said_in b rec) ++ b.results) ≡ rows
      → Agree slot (noted rec b) g
  agree_by rec g next rows t stands says rows_now counts =
      record {
        opened = p.opened ∙ sym (ap (λ (s : Slot). s.taken) stands);
        floor = p.floor ∙ sym (ap (λ (s : Slot). s.floor) stands);
        says = subst (λ (s : Slot). Says (noted rec b) s.session) (sym stands) says;
        rows = counts ∙ sym rows_now;
        shut = λ s. absurd (false≢true (sym s ∙ p.opened ∙ t));
      }

  -- any verdict that is
  agree_verdict : (rec : List ℕ) (v : Verdict) (o : Answered) → (slot_at h slot).taken ≡ true → Own h slot v o
      → RefusesOwn (slot_at h slot).session v → Booked b (slot_at h slot).session rec v
      → number_of o.answer ≡ 0 → Agree slot (noted rec b) o.house
  unfolding packed
  agree_verdict rec (Refused a) o t own refusal kept done =
      let zero_number : number_of a ≡ 0 = ap number_of (sym own.answer) ∙ done in
      absurd (false≢true (sym (own_number_lem a (refusal a refl).0) ∙ ap (λ (n : ℕ). eqb n 0) zero_number))
  agree_verdict rec (Taken change) o t own refusal kept done =
      agree_by rec o.house (changed (slot_at h slot).session change) (rows_at h slot) t own.stands kept.0
      own.rows
      (ap (λ (rs : List PartResult). packed (rs ++ b.results)) kept.1 ∙ p.rows)
  agree_verdict rec (Wanted change key) o t own refusal kept done =
      go (granted (room_of h slot) (keys_of h) (row_key slot key)) own.answer own.stands own.rows
    where
      go : (c : Bool) → o.answer ≡ answer_by (Wanted change key) c
          → slot_at o.house slot ≡ next_slot (slot_at h slot) (Wanted change key) c
          → rows_at o.house slot ≡ rows_after (rows_at h slot) (Wanted change key) c
          → Agree slot (noted rec b) o.house
      go true is stands rows =
          agree_by rec o.house (changed (slot_at h slot).session change) (plus key (rows_at h slot)) t stands
          kept.0 rows
          (ap (λ (rs : List PartResult). packed (rs ++ b.results)) kept.1.only
          ∙ ap₂ plus (sym kept.1.under) p.rows)
      go false is stands rows = absurd (omega (arith, ap number_of is, done))

  module _ (shape : Shaped h) (e : sound h ≡ true) where
    pub agree_open : (floor : ℕ) → number_of (open_slot h slot floor).answer ≡ 0
        → Agree slot (opened_with floor) (open_slot h slot floor).house
    unfolding packed
    agree_open floor done =
        let fine = holds (sound h) _ 14 (sym (open_number h slot floor) ∙ done) in
        let inside = holds (ltb slot slot_count) _ 0 fine.1 in
        let low = holds (leb floor row_count) _ 15 inside.1 in
        let new = holds (not (slot_at h slot).taken) _ 1 low.1 in
        let wide = holds (leb floor (free h - promised h)) _ 12 new.1 in
        let shut = not-true (slot_at h slot).taken new.0 in
        let o = own_open h slot shape e (ltb-true slot slot_count inside.0) floor low.0 shut wide.0 in
        agree_anew slot (open_slot h slot floor).house true floor o.0
        (o.1 ∙ sym p.rows ∙ ap (λ (d : Book). packed d.results) (p.shut (p.opened ∙ shut)))
        (λ is. absurd (true≢false is))

    agree_close : number_of (close_slot h slot).answer ≡ 0 → Agree slot nothing (close_slot h slot).house
    agree_close done =
        let fine = holds (sound h) _ 14 (sym (close_number h slot) ∙ done) in
        let inside = holds (ltb slot slot_count) _ 0 fine.1 in
        let opened = holds (slot_at h slot).taken _ 1 inside.1 in
        let o = own_close h slot shape e (ltb-true slot slot_count inside.0) opened.0 in
        agree_anew slot (close_slot h slot).house false 0 o.0 o.1 (λ is. refl)

    -- what an open slot's session makes of a record, its book notes
    pub booked_at : (rec : List ℕ) → Bytes rec → slot < slot_count → (slot_at h slot).taken ≡ true
        → Booked b (slot_at h slot).session rec (verdict_on (slot_at h slot).session rec)
    booked_at rec bytes inside t =
        booked b (slot_at h slot).session p.says rec bytes (shape.parts slot inside)
        (open_session h slot e shape.slots inside t)

    agree_deliver : (rec : List ℕ) → Bytes rec → number_of (deliver h slot rec).answer ≡ 0
        → Agree slot (noted rec b) (deliver h slot rec).house
    agree_deliver rec bytes done =
        let s = (slot_at h slot).session in
        let fine = holds (sound h) _ 14 (sym (deliver_number h slot rec) ∙ done) in
        let inside = holds (ltb slot slot_count) _ 0 fine.1 in
        let within = ltb-true slot slot_count inside.0 in
        let opened = (holds (slot_at h slot).taken _ 1 inside.1).0 in
        agree_verdict rec (verdict_on s rec) (deliver h slot rec) opened
        (own_deliver h slot shape e within rec bytes opened) (judged_refusal s rec)
        (booked_at rec bytes within opened) done

    -- a call that is done, on its own slot
    agree_done : (c : Call) → Sent c → names slot c ≡ true → number_of (answer_of (reply h c)) ≡ 0
        → Agree slot (done_by c b) (after h c)
    agree_done (Open i floor) sent own done =
        let same = eqb-true i slot own in
        rw same (agree_open floor (rw same at done))
    agree_done (Deliver i rec) sent own done =
        let same = eqb-true i slot own in
        rw same (agree_deliver rec sent (rw same at done))
    agree_done (Report i long) sent own done = p
    agree_done (Close i) sent own done =
        let same = eqb-true i slot own in
        rw same (agree_close (rw same at done))
    agree_done Figured sent own done = p

    -- any call
    pub agree_after : (c : Call) → Sent c → Agree slot (heard slot (said c (reply h c)) b) (after h c)
    agree_after c sent = go (names slot c) refl (is_done (said c (reply h c))) refl
      where
        go : (n : Bool) → names slot c ≡ n → (d : Bool) → is_done (said c (reply h c)) ≡ d
            → Agree slot (cond (n && d) (done_by c b) b) (after h c)
        go false other d is = agree_alike slot b h (after h c) (else_alike slot h c shape sent other) p
        go true own false is =
            let refused : answer_of (reply h c) ≡ Done → ⊥ =
            λ q. false≢true (sym is ∙ ap (λ (a : Answer). eqb (number_of a) 0) q) in
            subst (Agree slot b) (sym (refused_keeps h c refused)) p
        go true own true is = agree_done c sent own (eqb-true (number_of (answer_of (reply h c))) 0 is)

-- ---- all calls

agree_run : (slot : ℕ) (b : Book) (h : House) (calls : List Call) → AllSent calls → Shaped h → sound h ≡ true
    → Agree slot b h → Agree slot (heard_from slot (history h calls) b) (reached h calls)
agree_run slot b h [] sent shape e p = p
agree_run slot b h (c ∷ cs) sent shape e p =
    agree_run slot (heard slot (said c (reply h c)) b) (after h c) cs sent.1 (after_shaped h c sent.0 shape)
    (after_keeps h c sent.0 shape e) (agree_after slot b h p shape e c sent.0)

pub book_agrees : (slot : ℕ) (calls : List Call) → AllSent calls
    → Agree slot (book_of slot (history fresh calls)) (reached fresh calls)
book_agrees slot calls sent = agree_run slot nothing fresh calls sent fresh_shaped fresh_sound (agree_fresh slot)
