-- What every call is answered, proved (specs/Told.antt): the house's own order of checks, with what the book of the
-- slot says in place of what the house holds.
-- Assumes nothing.
use mathlib.Core.Path.{◌≡◌, refl, ap, ap₂, sym, ◌∙◌}
use mathlib.Core.Bool.{Bool, true, false, cond, not, ◌||◌, false≢true}
use mathlib.Core.List.{List, [], ◌∷◌, ◌++◌, map}
use Prim.Native.Nat.{ℕ, zero, suc, ◌+◌, ◌-◌, ◌≤◌, ◌<◌}
use native.Mathlib.Nat.{zero-add}
use native.Mathlib.Omega.{arith}
use borrow.Author.Tests.{not-true, eqb-true, ltb-true}
use lib.Dec.{eqb, leb, ltb}
use lib.ListN.{length, length-map}
use Rattle.prelude.specs.Checks.{Check, ◌else◌, number_by}
use Rattle.prelude.specs.Each.{each}
use Rattle.prelude.proofs.Both.{both_left, both_right}
use Rattle.answers.specs.declared.Answer.TheVariants.{Done}
use Rattle.answers.specs.Numbers.{number_of}
use Rattle.numbers.specs.Laws.{Bytes}
use Rattle.rising.specs.Rising.{held}
use Rattle.rows.specs.Rows.{slot_count, row_key, held_by}
use Rattle.rows.specs.Counts.{has}
use Rattle.rows.proofs.Counts.{rows_has}
use Rattle.session.specs.declared.Verdict.{Verdict}
use Rattle.session.specs.declared.Verdict.TheVariants.{Refused, Taken, Wanted}
use Rattle.session.specs.Verdicts.{verdict_number}
use Rattle.judging.specs.Judge.{verdict_on}
use Rattle.judging.specs.Laws.{RefusesOwn}
use Rattle.judging.proofs.Laws.{judged_refusal}
use Rattle.house.specs.declared.House.{House}
use Rattle.house.specs.declared.Figures.{Figures}
use Rattle.house.specs.House.{row_count, no_slot, fresh, keys_of, counts_of, free, unfilled, promised, sound}
use Rattle.house.specs.Deliver.{granted}
use Rattle.house.specs.Calls.{slot_at, open_slot, close_slot, room_of, deliver}
use Rattle.house.specs.Report.{reported}
use Rattle.house.specs.History.{Call, Listed, Read, reached, history, AllSent}
use Rattle.house.specs.Tally as tally
use Rattle.house.specs.Tally.{row_of, told_of, holding}
use Rattle.house.specs.Laws.{Shaped}
use Rattle.house.specs.Demands.{room_for}
use Rattle.house.proofs.Calling.{unfilled_within}
use Rattle.house.proofs.Keeping.{reached_sound}
use Rattle.house.proofs.Slots.{rows_at}
use Rattle.house.proofs.Refusing.{own_number_lem, open_number, deliver_number, report_number, close_number}
use Rattle.house.proofs.Counting.{told_agree, told_held, free_told, promised_told, keys_long, paired, rows_held}
use Rattle.house.proofs.Counting.{reached_shaped, tally_reported, figures_tallied}
use Rattle.tallies.specs.Results.{PartResult, among, tally_of}
use Rattle.tallies.specs.Packed.{keyed, RightResult}
use Rattle.tallies.proofs.Packed.{tally_packed, has_among}
use Rattle.books.specs.Book.{Book, said_in, results_in, book_of, rows_in, owed, over, free_by, promised_by}
use Rattle.books.specs.Told.{OpenTold, record_checks, row_for, DeliverTold, ReportTold, ReportListed, CloseTold}
use Rattle.books.specs.Told.{FiguresTold}
use Rattle.books.proofs.Following.{numbers, says_number, checks_number, Booked}
use Rattle.books.proofs.Booked.{Agree, booked_at, book_agrees}

-- ---- the rows of a slot, by its book

module _ (slot : ℕ) (b : Book) (h : House) (p : Agree slot b h) where
  pub tally_rows : tally_of b.results ≡ map row_of (rows_at h slot)
  tally_rows = tally_packed b.results p.says.right ∙ ap (map row_of) p.rows

  module _ (shape : Shaped h) (e : sound h ≡ true) where
    pub rows_in_lem : rows_in b ≡ held_by slot (keys_of h)
    rows_in_lem = ap length tally_rows ∙ length-map (rows_at h slot) row_of ∙ rows_held h slot shape e

    -- a part result that is asked for has a row exactly if there was one like it
    pub result_held : (r : PartResult) (key : ℕ) → RightResult r → key ≡ keyed r
        → among r b.results ≡ held (row_key slot key) (keys_of h)
    result_held r key right under =
        sym (has_among b.results r p.says.right right)
        ∙ ap₂ has (sym under) p.rows
        ∙ rows_has slot (keys_of h) (counts_of h) key (paired h slot shape e)
        (omega (arith, under, right.head, right.site, right.bin))

    report_by : (long : ℕ)
        → number_of (reported h slot long).answer
        ≡ number_by ((ltb slot slot_count else 1) ∷ (b.opened else 2) ∷ (leb (rows_in b) long else 17) ∷ [])
    report_by long = report_number h slot long ∙ rw (e, p.opened, rows_in_lem)

    close_by : number_of (close_slot h slot).answer ≡ number_by ((ltb slot slot_count else 1) ∷ (b.opened else 2) ∷ [])
    close_by = close_number h slot ∙ rw (e, p.opened)

-- ---- the number of a record, then 13

-- no check has the number 0, so checks behind others are looked at exactly if those have none
number_then : (xs more : List (Check ℕ)) → each numbers xs ≡ true
    → number_by (xs ++ more) ≡ cond (eqb (number_by xs) 0) (number_by more) (number_by xs)
number_then [] more told = refl
number_then (c ∷ cs) more told =
    go c.holds (number_then cs more (both_right (numbers c) (each numbers cs) told))
  where
    go : (t : Bool)
        → number_by (cs ++ more) ≡ cond (eqb (number_by cs) 0) (number_by more) (number_by cs)
        → cond t (number_by (cs ++ more)) c.answer
        ≡ cond (eqb (cond t (number_by cs) c.answer) 0) (number_by more) (cond t (number_by cs) c.answer)
    go true rest = rest
    go false rest =
        let some : eqb c.answer 0 ≡ false =
        not-true (eqb c.answer 0) (both_left (numbers c) (each numbers cs) told) in
        rw some

-- what comes behind a check is asked only where it holds
behind : (t : Bool) (x y n : ℕ) → (t ≡ true → x ≡ y) → cond t x n ≡ cond t y n
behind true x y n f = f refl
behind false x y n f = refl

-- a record's own number, and room where it has none
joined : (n : ℕ) (xs : List (Check ℕ)) (room there : Bool) → n ≡ number_by xs → each numbers xs ≡ true
    → (n ≡ 0 → room ≡ there)
    → number_by ((eqb n 0 else n) ∷ (room else 13) ∷ []) ≡ number_by (xs ++ ((there else 13) ∷ []))
joined n xs room there is told alike =
    behind (eqb n 0) (cond room 0 13) (cond there 0 13) n
    (λ none. ap (λ (t : Bool). cond t 0 13) (alike (eqb-true n 0 none)))
    ∙ ap (λ (m : ℕ). cond (eqb m 0) (cond there 0 13) m) is
    ∙ sym (number_then xs ((there else 13) ∷ []) told)

either : (a d b e c f : Bool) → a ≡ d → b ≡ e → c ≡ f → (a || (b || c)) ≡ (d || (e || f))
either a d b e c f x y z = rw (x, y, z)

module _ (slot : ℕ) (b : Book) (h : House) (p : Agree slot b h) (shape : Shaped h) (e : sound h ≡ true)
    (free_is promised_is : ℕ) (f : free_is ≡ free h) (q : promised_is ≡ promised h) where
  -- the grant rules
  granted_told : (r : PartResult) (key : ℕ) → RightResult r → key ≡ keyed r → slot < slot_count
      → (slot_at h slot).taken ≡ true
      → row_for free_is promised_is b (r ∷ []) ≡ granted (room_of h slot) (keys_of h) (row_key slot key)
  unfolding granted unfilled
  granted_told r key right under inside t =
      let keys = keys_of h in
      let s = slot_at h slot in
      let own : unfilled slot s keys ≤ promised h =
      rw (zero-add slot) at
      (unfilled_within 0 h.slots keys slot no_slot (omega (arith, inside, shape.slots))) in
      let left : unfilled slot s keys ≡ s.floor - held_by slot keys = rw t in
      let owed_now : promised_is ≡ (room_of h slot).others + (s.floor - held_by slot keys) =
      omega (arith, q, own, left) in
      let free_now : free_is ≡ row_count - length keys = omega (arith, f, keys_long h slot shape e) in
      either (among r b.results) (held (row_key slot key) keys) (ltb (rows_in b) b.floor)
      (ltb (held_by slot keys) s.floor) (ltb promised_is free_is)
      (ltb ((room_of h slot).others + (s.floor - held_by slot keys)) (row_count - length keys))
      (result_held slot b h p shape e r key right under)
      (ap₂ ltb (rows_in_lem slot b h p shape e) p.floor)
      (ap₂ ltb owed_now free_now)

  room_told : (rec : List ℕ) (v : Verdict) → Booked b (slot_at h slot).session rec v
      → RefusesOwn (slot_at h slot).session v → slot < slot_count → (slot_at h slot).taken ≡ true
      → verdict_number v ≡ 0 → room_for h slot v ≡ row_for free_is promised_is b (results_in (said_in b rec))
  room_told rec (Refused a) kept own inside t done =
      absurd (false≢true (sym (own_number_lem a (own a refl).0) ∙ ap (λ (n : ℕ). eqb n 0) done))
  room_told rec (Taken change) kept own inside t done = rw kept.1
  room_told rec (Wanted change key) kept own inside t done =
      let asks = kept.1 in
      rw asks.only (sym (granted_told asks.result key asks.right asks.under inside t))

  open_by : (floor : ℕ)
      → number_of (open_slot h slot floor).answer
      ≡ number_by
      ((ltb slot slot_count else 1)
      ∷ (leb floor row_count else 16)
      ∷ (not b.opened else 2)
      ∷ (leb floor (free_is - promised_is) else 13)
      ∷ [])
  open_by floor = open_number h slot floor ∙ rw (e, p.opened, f, q)

  deliver_by : (rec : List ℕ) → Bytes rec
      → number_of (deliver h slot rec).answer
      ≡ number_by
      ((ltb slot slot_count else 1)
      ∷ (b.opened else 2)
      ∷ (record_checks b rec ++ ((row_for free_is promised_is b (results_in (said_in b rec)) else 13) ∷ [])))
  deliver_by rec bytes =
      let s = (slot_at h slot).session in
      let v = verdict_on s rec in
      let there = row_for free_is promised_is b (results_in (said_in b rec)) in
      deliver_number h slot rec
      ∙ rw e
      (behind (ltb slot slot_count) _ _ 1 (λ within.
      behind (slot_at h slot).taken _ (number_by (record_checks b rec ++ ((there else 13) ∷ []))) 2 (λ t.
      let inside = ltb-true slot slot_count within in
      joined (verdict_number v) (record_checks b rec) (room_for h slot v) there (says_number b s rec bytes p.says)
      (checks_number b rec)
      (room_told rec v (booked_at slot b h p shape e rec bytes inside t) (judged_refusal s rec) inside t))
      ∙ ap (λ (t : Bool). cond t (number_by (record_checks b rec ++ ((there else 13) ∷ []))) 2) (sym p.opened)))

-- ---- free and promised, by the books of all slots

module _ (calls : List Call) (sent : AllSent calls) where
  abbrev now : House
  now = reached fresh calls

  now_sound : sound now ≡ true
  now_sound = reached_sound calls sent

  now_shaped : Shaped now
  now_shaped = reached_shaped calls sent

  pub rows_told : (slot : ℕ) → rows_in (book_of slot (history fresh calls)) ≡ holding (told_of slot (history fresh calls))
  rows_told slot =
      rows_in_lem slot (book_of slot (history fresh calls)) now (book_agrees slot calls sent) now_shaped now_sound
      ∙ sym (told_held calls sent slot)

  pub floor_told : (slot : ℕ) → (book_of slot (history fresh calls)).floor ≡ (told_of slot (history fresh calls)).floor
  floor_told slot = (book_agrees slot calls sent).floor ∙ sym (told_agree slot calls sent).floor

  owed_told : (slot : ℕ) → owed (book_of slot (history fresh calls)) ≡ tally.owed (told_of slot (history fresh calls))
  owed_told slot =
      let opened = (book_agrees slot calls sent).opened ∙ sym (told_agree slot calls sent).opened in
      ap₂ (λ (t : Bool) (n : ℕ). cond t n 0) opened (ap₂ ◌-◌ (floor_told slot) (rows_told slot))

  over_told : (f : Book → ℕ) (g : tally.Heard → ℕ)
      → ((slot : ℕ) → f (book_of slot (history fresh calls)) ≡ g (told_of slot (history fresh calls))) → (n slot : ℕ)
      → over f n slot (history fresh calls) ≡ tally.over g n slot (history fresh calls)
  over_told f g is zero slot = refl
  over_told f g is (suc n) slot = ap₂ ◌+◌ (is slot) (over_told f g is n (suc slot))

  pub rows_over : over rows_in slot_count 0 (history fresh calls) ≡ tally.over holding slot_count 0 (history fresh calls)
  rows_over = over_told rows_in holding rows_told slot_count 0

  pub free_by_lem : free_by (history fresh calls) ≡ tally.free_by (history fresh calls)
  free_by_lem = ap (λ (n : ℕ). row_count - n) rows_over

  pub promised_by_lem : promised_by (history fresh calls) ≡ tally.promised_by (history fresh calls)
  promised_by_lem = over_told owed tally.owed owed_told slot_count 0

-- ---- the calls

pub open_told : OpenTold
open_told calls slot floor sent =
    open_by slot (book_of slot (history fresh calls)) (reached fresh calls) (book_agrees slot calls sent)
    (reached_shaped calls sent) (reached_sound calls sent) (free_by (history fresh calls))
    (promised_by (history fresh calls)) (free_by_lem calls sent ∙ free_told calls sent)
    (promised_by_lem calls sent ∙ promised_told calls sent) floor

pub deliver_told : DeliverTold
deliver_told calls slot rec sent bytes =
    deliver_by slot (book_of slot (history fresh calls)) (reached fresh calls) (book_agrees slot calls sent)
    (reached_shaped calls sent) (reached_sound calls sent) (free_by (history fresh calls))
    (promised_by (history fresh calls)) (free_by_lem calls sent ∙ free_told calls sent)
    (promised_by_lem calls sent ∙ promised_told calls sent) rec bytes

pub report_told : ReportTold
report_told calls slot long sent =
    report_by slot (book_of slot (history fresh calls)) (reached fresh calls) (book_agrees slot calls sent)
    (reached_shaped calls sent) (reached_sound calls sent) long

pub report_listed : ReportListed
report_listed calls slot long sent done =
    tally_reported calls slot long sent done
    ∙ ap (Listed Done)
    (ap (map row_of) (told_agree slot calls sent).rows
    ∙ sym (tally_rows slot (book_of slot (history fresh calls)) (reached fresh calls) (book_agrees slot calls sent)))

pub close_told : CloseTold
close_told calls slot sent =
    close_by slot (book_of slot (history fresh calls)) (reached fresh calls) (book_agrees slot calls sent)
    (reached_shaped calls sent) (reached_sound calls sent)

abbrev figures_by : ℕ → ℕ → Figures
figures_by free promised = record { answer = Done; free = free; promised = promised }

pub figures_told : FiguresTold
figures_told calls sent =
    ap Read
    (figures_tallied calls sent
    ∙ ap₂ figures_by (sym (free_by_lem calls sent)) (sym (promised_by_lem calls sent)))
