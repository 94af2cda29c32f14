-- Demand 3 by the books, proved (specs/Told.antt): each is what the house's own theorem says, since the books tell what
-- the house holds.
-- Assumes nothing.
use mathlib.Core.Path.{◌≡◌, refl, ap, ap₂, sym, subst₂, ◌∙◌}
use mathlib.Core.Bool.{Bool, true, false, cond, ◌&&◌}
use mathlib.Core.List.{List, [], ◌∷◌}
use Prim.Native.Nat.{ℕ, ◌+◌, ◌≤◌, ◌<◌}
use native.Mathlib.Omega.{arith}
use lib.Dec.{eqb, leb}
use Rattle.answers.specs.Numbers.{number_of}
use Rattle.rows.specs.Rows.{slot_count}
use Rattle.session.specs.declared.Verdict.{Verdict}
use Rattle.session.specs.declared.Verdict.TheVariants.{Refused, Taken, Wanted}
use Rattle.session.specs.Verdicts.{verdict_number}
use Rattle.judging.specs.Judge.{verdict_on}
use Rattle.judging.specs.Laws.{RefusesOwn}
use Rattle.judging.proofs.Laws.{judged_refusal}
use Rattle.house.specs.declared.House.{House}
use Rattle.house.specs.House.{fresh, keys_of, sound}
use Rattle.house.specs.Calls.{slot_at, open_slot}
use Rattle.house.specs.History.{Call, Open, Deliver, Report, Close, Figured, Reply, reply, after, reached, said}
use Rattle.house.specs.History.{history, names, Sent, AllSent}
use Rattle.house.specs.Laws.{Shaped}
use Rattle.house.specs.Demands as house
use Rattle.house.proofs.Reporting.{open_within}
use Rattle.house.proofs.Keeping.{after_keeps, after_shaped, reached_sound}
use Rattle.house.proofs.Slots.{else_alike}
use Rattle.house.proofs.Refusing.{own_number_lem}
use Rattle.house.proofs.Counting as counting
use Rattle.house.proofs.Counting.{reached_shaped}
use Rattle.house.proofs.Alone as alone
use Rattle.books.specs.Book.{Book, opened_with, said_in, results_in, heard, book_of}
use Rattle.books.specs.Told.{RowsKept, ShutNone, FreePromised, NeverRefused, asked, needs, assured}
use Rattle.books.specs.Told.{Isolated}
use Rattle.books.proofs.Following.{says_number, Booked}
use Rattle.books.proofs.Booked.{Agree, agree_alike, agree_open, booked_at, agree_after, book_agrees}
use Rattle.books.proofs.Told.{rows_in_lem, result_held, rows_told, floor_told, rows_over, free_by_lem, promised_by_lem}

-- ---- the rooms

pub rows_kept : RowsKept
rows_kept calls sent = ap₂ ◌+◌ (free_by_lem calls sent) (rows_over calls sent) ∙ counting.rows_tallied calls sent

pub shut_none : ShutNone
shut_none slot calls sent shut =
    let is = (book_agrees slot calls sent).shut shut in
    (ap (λ (b : Book). b.floor) is, ap (λ (b : Book). b.results) is)

pub free_promised : FreePromised
free_promised calls sent =
    subst₂ ◌≤◌ (sym (promised_by_lem calls sent)) (sym (free_by_lem calls sent)) (counting.free_promised calls sent)

pub never_refused : NeverRefused
never_refused calls slot rec sent bytes below refused =
    counting.never_refused calls slot rec sent bytes
    (subst₂ ◌<◌ (rows_told calls sent slot) (floor_told calls sent slot) below) refused

-- ---- on its own calls alone

module _ (slot : ℕ) (b : Book) (h : House) (p : Agree slot b h) (shape : Shaped h) (e : sound h ≡ true) where
  -- the row that a record asks for
  asks_told : (rec : List ℕ) (v : Verdict) → Booked b (slot_at h slot).session rec v
      → RefusesOwn (slot_at h slot).session v
      → cond (eqb (verdict_number v) 0) (asked b (results_in (said_in b rec))) 0 ≡ house.asking slot (keys_of h) v
  asks_told rec (Refused a) kept own = rw (own_number_lem a (own a refl).0)
  asks_told rec (Taken change) kept own = rw kept.1
  asks_told rec (Wanted change key) kept own =
      let asks = kept.1 in
      rw asks.only
      (ap (λ (t : Bool). cond t 0 1)
      (result_held slot b h p shape e asks.result key asks.right asks.under))

  module _ (t : (slot_at h slot).taken ≡ true) where
    needs_told : (c : Call) → Sent c → needs b c ≡ house.needs h slot c
    needs_told (Open i floor) sent = rows_in_lem slot b h p shape e
    needs_told (Deliver i rec) sent =
        let s = (slot_at h slot).session in
        let inside : slot < slot_count = omega (arith, open_within h.slots slot t, shape.slots) in
        ap₂ ◌+◌ (rows_in_lem slot b h p shape e)
        (ap (λ (n : ℕ). cond (eqb n 0) (asked b (results_in (said_in b rec))) 0)
        (sym (says_number b s rec sent p.says))
        ∙ asks_told rec (verdict_on s rec) (booked_at slot b h p shape e rec sent inside t)
        (judged_refusal s rec))
    needs_told (Report i long) sent = rows_in_lem slot b h p shape e
    needs_told (Close i) sent = rows_in_lem slot b h p shape e
    needs_told Figured sent = rows_in_lem slot b h p shape e

  fits_told : (c : Call) → Sent c
      → (b.opened && leb (needs b c) b.floor)
      ≡ ((slot_at h slot).taken && leb (house.needs h slot c) (slot_at h slot).floor)
  fits_told c sent =
      ap (λ (t : Bool). t && leb (needs b c) b.floor) p.opened ∙ go (slot_at h slot).taken refl
    where
      go : (t : Bool) → (slot_at h slot).taken ≡ t
          → (t && leb (needs b c) b.floor) ≡ (t && leb (house.needs h slot c) (slot_at h slot).floor)
      go true t = ap₂ leb (needs_told t c sent) p.floor
      go false t = refl

-- what the books assure is what the house does
assured_told : (slot : ℕ) (cs : List Call) (b : Book) (h : House) → AllSent cs → Agree slot b h → Shaped h
    → sound h ≡ true → assured slot b (history h cs) ≡ house.assured slot h cs
assured_told slot [] b h sent p shape e = refl
assured_told slot (c ∷ cs) b h sent p shape e =
    go (names slot c) refl
    (λ d q. assured_told slot cs d (after h c) sent.1 q (after_shaped h c sent.0 shape)
    (after_keeps h c sent.0 shape e))
  where
    go : (n : Bool) → names slot c ≡ n
        → ((d : Book) → Agree slot d (after h c)
        → assured slot d (history (after h c) cs) ≡ house.assured slot (after h c) cs)
        → cond n
        (cond (b.opened && leb (needs b c) b.floor)
        (reply h c ∷ assured slot (heard slot (said c (reply h c)) b) (history (after h c) cs)) [])
        (assured slot b (history (after h c) cs))
        ≡ cond n
        (cond ((slot_at h slot).taken && leb (house.needs h slot c) (slot_at h slot).floor)
        (reply h c ∷ house.assured slot (after h c) cs) [])
        (house.assured slot (after h c) cs)
    go false other rest =
        rest b (agree_alike slot b h (after h c) (else_alike slot h c shape sent.0 other) p)
    go true own rest =
        ap₂ (λ (t : Bool) (rs : List Reply). cond t (reply h c ∷ rs) []) (fits_told slot b h p shape e c sent.0)
        (rest (heard slot (said c (reply h c)) b) (agree_after slot b h p shape e c sent.0))

-- .. of a slot just opened
opened_told : (past : List Call) (slot floor : ℕ) (cs : List Call) → AllSent past → AllSent cs
    → number_of (open_slot (reached fresh past) slot floor).answer ≡ 0
    → assured slot (opened_with floor) (history (after (reached fresh past) (Open slot floor)) cs)
    ≡ house.assured slot (after (reached fresh past) (Open slot floor)) cs
opened_told past slot floor cs sent own done =
    let h = reached fresh past in
    let shape = reached_shaped past sent in
    let e = reached_sound past sent in
    assured_told slot cs (opened_with floor) (after h (Open slot floor)) own
    (agree_open slot (book_of slot (history fresh past)) h (book_agrees slot past sent) shape e floor done)
    (after_shaped h (Open slot floor) tt shape) (after_keeps h (Open slot floor) tt shape e)

pub isolated : Isolated
isolated past other slot floor cs ds sp so sc sd granted_past granted_other same =
    opened_told past slot floor cs sp sc (ap number_of granted_past)
    ∙ alone.isolated past other slot floor cs ds sp so sc sd granted_past granted_other same
    ∙ sym (opened_told other slot floor ds so sd (ap number_of granted_other))
