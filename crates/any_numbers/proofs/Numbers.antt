-- The statements of specs/Numbers.antt, proved: slots above 15 are all refused alike, and so are floors above 1,024; all
-- lengths of 1,024 or more have room for a report, and none above 65,539 is a carry's. Orders above 2, and places past
-- the end, are refused alike, too.
-- Assumes nothing.
use Rattle.std.specs.Prelude.{Some}
use mathlib.Core.Path.{◌≡◌, refl, sym, ap, ◌∙◌}
use mathlib.Core.Bool.{Bool, true, false}
use mathlib.Core.List.{List, [], ◌∷◌}
use Prim.Native.Nat.{ℕ, ◌+◌, ◌≤◌, ◌<◌}
use native.Mathlib.Omega.{arith}
use borrow.Author.Tests.{le-ltb, lt-leb, le-leb, ne_eqb}
use lib.Dec.{eqb, ltb}
use lib.ListN.{length}
use Rattle.prelude.specs.Choice.{◌unless◌then◌}
use Rattle.digits.specs.Digits.{decimal}
use Rattle.numerals.specs.Decimals.{capped, most_number, number_of}
use Rattle.numerals.proofs.DecimalLaws.{capped_by, capped_low, capped_twice, number_is}
use Rattle.answers.specs.declared.Answer.{Answer}
use Rattle.answers.specs.declared.Answer.TheVariants.{NotSound, NoSuchSlot, FloorTooHigh}
use Rattle.rows.specs.Rows.{slot_count, held_by}
use Rattle.house.specs.declared.House.{House}
use Rattle.house.specs.declared.Answered.{Answered}
use Rattle.house.specs.House.{row_count, carry_length, keys_of, sound}
use Rattle.house.specs.Calls.{slot_at, refusal, open_slot, deliver, close_slot}
use Rattle.house.specs.declared.Reported.{Reported}
use Rattle.house.specs.Report.{unreported, row_at, rows_of, reported, listed}
use Rattle.house.specs.History.{Report, Reply, Told, Listed, reply}
use Rattle.house.specs.Feeding.{end_feed}
use Rattle.house.proofs.Reporting.{rows_few}
use Rattle.nights.specs.Night as nights
use Rattle.nights.specs.Night.{Night, Replied, Took, Ended, Next, night, next_as, feed_next}
use Rattle.numbers.specs.Orders.{order_of}
use Rattle.output.specs.Placed.{Outcome, Making, Makes, Refuses, placed_at, placed}
use Rattle.lines.specs.Writing.{text_in}
use Rattle.lines.specs.Reading.{record_in}
use Rattle.asking.specs.declared.Way.{Way}
use Rattle.asking.specs.declared.Way.TheVariants.{Write, Read}
use Rattle.asking.specs.Asks.{Word, in_four, order_byte, most_lent, longest, lined, asks}
use Rattle.any_numbers.specs.Numbers.{Digits, AnyOpen, AnyDeliver, AnyReport, AnyClose, AnyFeed, AnyEnd}
use Rattle.any_numbers.specs.Numbers.{verb_for, called, outcomes_of, AnyLine}

-- ---- numbers past a limit are answered alike

-- 15 or 1, of every call on a slot above 15
abbrev no_slot : House → Answered
no_slot h = refusal h NotSound unless sound h then refusal h NoSuchSlot

abbrev no_report : House → Reported
no_report h = unreported NotSound unless sound h then unreported NoSuchSlot

no_rows_lem : (t : Bool) → (unreported NotSound unless t then unreported NoSuchSlot).rows ≡ 0
no_rows_lem true = refl
no_rows_lem false = refl

abbrev told : House → ℕ → Reported → Reply
told h slot r = Listed r.answer (listed (row_at h slot) r.rows)

module _ (h : House) (slot : ℕ) (far : slot_count ≤ slot) where
  open_far : (floor : ℕ) → open_slot h slot floor ≡ no_slot h
  unfolding open_slot
  open_far floor = rw (le-ltb slot slot_count far)

  deliver_far : (rec : List ℕ) → deliver h slot rec ≡ no_slot h
  unfolding deliver
  deliver_far rec = rw (le-ltb slot slot_count far)

  close_far : close_slot h slot ≡ no_slot h
  unfolding close_slot
  close_far = rw (le-ltb slot slot_count far)

  reported_far : (long : ℕ) → reported h slot long ≡ no_report h
  unfolding reported
  reported_far long = rw (le-ltb slot slot_count far)

  report_far : (long : ℕ) → reply h (Report slot long) ≡ Listed (no_report h).answer []
  report_far long =
      ap (told h slot) (reported_far long)
      ∙ ap (λ (n : ℕ). Listed (no_report h).answer (listed (row_at h slot) n)) (no_rows_lem (sound h))

  end_far : end_feed h slot ≡ (NotSound unless sound h then NoSuchSlot)
  unfolding end_feed
  end_far = rw (le-ltb slot slot_count far)

feed_far : (n : Night) (slot long : ℕ) (chunk : List ℕ) → slot_count ≤ slot
    → feed_next n slot long chunk
    ≡ (next_as (Took NotSound 0) n unless sound n.house then next_as (Took NoSuchSlot 0) n)
unfolding feed_next
feed_far n slot long chunk far = rw (le-ltb slot slot_count far)

-- of a length it counts only whether it is a carry's
feed_long : (n : Night) (slot a b : ℕ) (chunk : List ℕ) → eqb a carry_length ≡ eqb b carry_length
    → feed_next n slot a chunk ≡ feed_next n slot b chunk
unfolding feed_next
feed_long n slot a b chunk e = rw e

open_high : (h : House) (slot floor : ℕ) → row_count < floor
    → open_slot h slot floor
    ≡ (refusal h NotSound unless sound h then
    refusal h NoSuchSlot unless ltb slot slot_count then
    refusal h FloorTooHigh)
unfolding open_slot
open_high h slot floor high = rw (lt-leb floor row_count high)

-- where a slot is open in a sound house, its rows are no more than 1,024
report_long : (h : House) (slot a b : ℕ) → row_count ≤ a → row_count ≤ b → reported h slot a ≡ reported h slot b
unfolding reported rows_of
report_long h slot a b ha hb = go (sound h) refl (ltb slot slot_count) refl (slot_at h slot).taken refl
  where
    go : (t : Bool) → sound h ≡ t → (u : Bool) → ltb slot slot_count ≡ u → (v : Bool) → (slot_at h slot).taken ≡ v
        → reported h slot a ≡ reported h slot b
    go false e u f v g = rw e
    go true e false f v g = rw (e, f)
    go true e true f false g = rw (e, f, g)
    go true e true f true g =
        let held = held_by slot (keys_of h) in
        let all : rows_of h slot ≡ held = rw (e, f, g) in
        let few = rows_few h slot in
        rw (le-leb held a (omega (arith, all, few, ha)), le-leb held b (omega (arith, all, few, hb)))

-- ---- .. so what stands for a great number is answered as the number

abbrev four : ℕ
four = 4_294_967_295

slot_capped : {A : Type 0} (f : ℕ → A) (none : A) → ((slot : ℕ) → slot_count ≤ slot → f slot ≡ none) → (n : ℕ)
    → f (in_four n) ≡ f n
slot_capped {A} f none far n =
    capped_by four n (λ (k : ℕ). f k ≡ f n) (λ low. refl)
    (λ high. far four (omega arith) ∙ sym (far n (omega (arith, high))))

module _ (h : House) (slot : ℕ) where
  open_capped : (floor : ℕ) → open_slot h (in_four slot) (in_four floor) ≡ open_slot h slot floor
  open_capped floor =
      slot_capped (λ (k : ℕ). open_slot h k (in_four floor)) (no_slot h) (λ k far. open_far h k far (in_four floor)) slot
      ∙ capped_by four floor (λ (k : ℕ). open_slot h slot k ≡ open_slot h slot floor) (λ low. refl)
      (λ high. open_high h slot four (omega arith) ∙ sym (open_high h slot floor (omega (arith, high))))

  deliver_capped : (rec : List ℕ) → deliver h (in_four slot) rec ≡ deliver h slot rec
  deliver_capped rec =
      slot_capped (λ (k : ℕ). deliver h k rec) (no_slot h) (λ k far. deliver_far h k far rec) slot

  close_capped : close_slot h (in_four slot) ≡ close_slot h slot
  close_capped = slot_capped (λ (k : ℕ). close_slot h k) (no_slot h) (λ k far. close_far h k far) slot

  report_capped : (long : ℕ)
      → reply h (Report (in_four slot) (capped most_number long)) ≡ reply h (Report slot long)
  report_capped long =
      let most = capped most_number long in
      slot_capped (λ (k : ℕ). reply h (Report k most)) (Listed (no_report h).answer [])
      (λ k far. report_far h k far most) slot
      ∙ capped_by most_number long (λ (k : ℕ). reply h (Report slot k) ≡ reply h (Report slot long)) (λ low. refl)
      (λ high. ap (told h slot) (report_long h slot most_number long (omega arith) (omega (arith, high))))

  end_capped : end_feed h (in_four slot) ≡ end_feed h slot
  end_capped =
      slot_capped (λ (k : ℕ). end_feed h k) (NotSound unless sound h then NoSuchSlot) (λ k far. end_far h k far) slot

lent_capped : (long : ℕ) → eqb (capped most_lent long) carry_length ≡ eqb long carry_length
lent_capped long =
    capped_by most_lent long (λ (k : ℕ). eqb k carry_length ≡ eqb long carry_length) (λ low. refl)
    (λ high. sym (ne_eqb long carry_length (λ e. omega (arith, high, e))))

feed_capped : (n : Night) (slot long : ℕ) (chunk : List ℕ)
    → feed_next n (in_four slot) (capped most_lent long) chunk ≡ feed_next n slot long chunk
feed_capped n slot long chunk =
    feed_long n (in_four slot) (capped most_lent long) long chunk (lent_capped long)
    ∙ slot_capped (λ (k : ℕ). feed_next n k long chunk)
    (next_as (Took NotSound 0) n unless sound n.house then next_as (Took NoSuchSlot 0) n)
    (λ k far. feed_far n k long chunk far) slot

-- ---- the words of a line

digits_is : (w : Word) → Digits w → number_of w ≡ Some (capped most_number (decimal w))
digits_is w d = sym (number_is w d.some d.each_one)

in_four_lem : (n : ℕ) → in_four (capped most_number n) ≡ in_four n
in_four_lem n = capped_twice four most_number n (omega arith)

in_lent : (n : ℕ) → capped most_lent (capped most_number n) ≡ capped most_lent n
in_lent n = capped_twice most_lent most_number n (omega arith)

module _ (n : Night) where
  abbrev answers : Answered → List nights.Reply
  answers o = Replied (Told o.answer) ∷ []

  -- a call of the house touches no carry
  abbrev leaves : Answered → Night
  leaves o = night o.house n.carries

pub any_open : AnyOpen
any_open n slot floor bytes ds df =
    let e = open_capped n.house (decimal slot) (decimal floor) in
    rw (digits_is slot ds, digits_is floor df, in_four_lem (decimal slot), in_four_lem (decimal floor))
    (ap (answers n) e, ap (leaves n) e)

pub any_deliver : AnyDeliver
any_deliver n slot hex bytes ds is =
    let e = deliver_capped n.house (decimal slot) bytes in
    rw (digits_is slot ds, is, in_four_lem (decimal slot)) (ap (answers n) e, ap (leaves n) e)

pub any_report : AnyReport
any_report n slot long bytes ds dl =
    rw (digits_is slot ds, digits_is long dl, in_four_lem (decimal slot))
    (ap (λ (r : Reply). Replied r ∷ []) (report_capped n.house (decimal slot) (decimal long)), refl)

pub any_close : AnyClose
any_close n slot bytes ds =
    let e = close_capped n.house (decimal slot) in
    rw (digits_is slot ds, in_four_lem (decimal slot)) (ap (answers n) e, ap (leaves n) e)

pub any_feed : AnyFeed
any_feed n slot long hex bytes ds dl is =
    let e = feed_capped n (decimal slot) (decimal long) bytes in
    rw (digits_is slot ds, digits_is long dl, is, in_four_lem (decimal slot), in_lent (decimal long))
    (ap (λ (x : Next). x.reply ∷ []) e, ap (λ (x : Next). x.night) e)

pub any_end : AnyEnd
any_end n slot bytes ds =
    rw (digits_is slot ds, in_four_lem (decimal slot))
    (ap (λ (a : Answer). Ended a ∷ []) (end_capped n.house (decimal slot)), refl)

-- ---- record lines

order_capped : (n : ℕ) → order_of (order_byte n) ≡ order_of n
order_capped n =
    capped_by 255 n (λ (k : ℕ). order_of k ≡ order_of n) (λ low. refl)
    (λ high. rw (ne_eqb n 1 (λ e. omega (arith, high, e)), ne_eqb n 2 (λ e. omega (arith, high, e))))

module _ (old : List ℕ) (short : length old ≤ longest) where
  place_past : (bytes : List ℕ) (a b : ℕ) → longest < a → longest < b → placed_at bytes old a ≡ placed_at bytes old b
  unfolding placed_at
  place_past bytes a b ha hb =
      rw (
        lt-leb (a + length bytes) (length old) (omega (arith, short, ha)),
        lt-leb (b + length bytes) (length old) (omega (arith, short, hb)),
      )

  place_capped : (made : Making) (at : ℕ) → placed made old (capped most_number at) ≡ placed made old at
  place_capped (Makes bytes) at =
      capped_by most_number at (λ (k : ℕ). placed_at bytes old k ≡ placed_at bytes old at) (λ low. refl)
      (λ high. place_past bytes most_number at (omega arith) (omega (arith, high)))
  place_capped (Refuses answer) at = refl

  called_capped : (way : Way) (order : ℕ) (bytes : List ℕ) (at : ℕ)
      → called way (order_byte order) bytes old (capped most_number at) ≡ called way order bytes old at
  called_capped Write order bytes at =
      rw (order_capped order) (place_capped (text_in (order_of order) bytes) at)
  called_capped Read order bytes at =
      rw (order_capped order) (place_capped (record_in (order_of order) bytes) at)

pub any_line : AnyLine
any_line way order at long hex bytes old ordered placed_at_lem lent few is short = go way
  where
    low : capped most_number (decimal long) ≡ decimal long
    low = capped_low most_number (decimal long) (omega (arith, few))

    byte : order_byte (capped most_number (decimal order)) ≡ order_byte (decimal order)
    byte = capped_twice 255 most_number (decimal order) (omega arith)

    line : (v : Way)
        → outcomes_of (lined v order at long hex) bytes old ≡ called v (decimal order) bytes old (decimal at) ∷ []
    line v =
        rw (
          digits_is order ordered,
          digits_is at placed_at_lem,
          digits_is long lent,
          low,
          le-leb (decimal long) longest few,
          is,
          byte,
        )
        (ap (λ (o : Outcome). o ∷ []) (called_capped old short v (decimal order) bytes (decimal at)))

    go : (v : Way)
        → outcomes_of (asks (verb_for v) (order ∷ at ∷ long ∷ hex ∷ [])) bytes old
        ≡ called v (decimal order) bytes old (decimal at) ∷ []
    go Write = line Write
    go Read = line Read
