-- That the text of a stream is the text told by the calls (specs/Laws.antt, TallyTold), proved: record after record, the
-- walk over the bytes and the calls stand at one house, and what is left of the bytes is what is left to be cut.
-- Assumes nothing.
use mathlib.Core.Path.{◌≡◌, refl, ap, sym, subst, ◌∙◌}
use mathlib.Core.Bool.{Bool, true, false, cond, ◌&&◌, false≢true}
use mathlib.Core.List.{List, [], ◌∷◌, ◌++◌, map, append-nil, append_assoc}
use Prim.Native.Nat.{ℕ, zero, suc, ◌+◌, ◌≤◌, ◌<◌}
use native.Mathlib.Nat.{add-zero, zero-add}
use native.Mathlib.Omega.{arith}
use borrow.Author.Tests.{leb-true, leb-false, eqb-true}
use lib.Dec.{leb, eqb}
use lib.ListN.{length, take, drop, length-drop}
use lib.Seq.{get_or-drop}
use Rattle.prelude.proofs.Both.{both_left, both_right}
use Rattle.answers.specs.declared.Answer.TheVariants.{NotOneRecord}
use Rattle.answers.specs.Numbers.{number_of}
use Rattle.numbers.specs.declared.Order.{Order}
use Rattle.numbers.specs.Laws.{Bytes}
use Rattle.numbers.proofs.Laws.{part_bytes}
use Rattle.kinds.specs.Kinds.{named, kind_of}
use Rattle.frames.specs.Frames.{header, rec_len, rec_typ, rec_sub}
use Rattle.order.specs.Laws.{ended as is_ended}
use Rattle.session.specs.declared.Session.{Session}
use Rattle.session.specs.declared.Standing.{Standing}
use Rattle.session.specs.declared.Verdict.{Verdict}
use Rattle.session.specs.declared.Verdict.TheVariants as verdict
use Rattle.session.specs.declared.Verdict.TheVariants.{Taken, Wanted}
use Rattle.session.specs.Session.{is_start}
use Rattle.first_record.specs.First.{order_in}
use Rattle.first_record.proofs.Checks.{first_number}
use Rattle.judging.specs.Judge.{verdict_on}
use Rattle.judging.specs.Laws.{RefusesOwn}
use Rattle.judging.proofs.Laws.{judged_refusal}
use Rattle.house.specs.declared.House.{House}
use Rattle.house.specs.declared.Answered.{Answered}
use Rattle.house.specs.declared.Slot.{Slot}
use Rattle.house.specs.declared.Row.{Row}
use Rattle.house.specs.House.{row_count, fresh, sound}
use Rattle.house.specs.Calls.{slot_at, open_slot, deliver}
use Rattle.house.specs.Report.{row_at, reported, listed}
use Rattle.house.specs.History.{Open, Deliver, Report, reply, history}
use Rattle.house.specs.History as calls
use Rattle.house.specs.Laws.{Shaped}
use Rattle.house.specs.Demands.{room_for}
use Rattle.house.proofs.Keeping.{deliver_keeps, after_shaped, open_keeps, fresh_sound, fresh_shaped}
use Rattle.house.proofs.Slots.{answer_by, next_slot, own_deliver}
use Rattle.house.proofs.Refusing.{own_number_lem}
use Rattle.house.proofs.Counting.{holds}
use Rattle.cutting.specs.Needed.{first_length, needed, cut}
use Rattle.cutting.specs.Walk.{Heard, Kept, Turned, Walked, Waits, Stops, judged, walked}
use Rattle.cutting.proofs.Walks.{walked_stops}
use Rattle.cutting.proofs.Cuts.{needed_first, needed_header, needed_later, cut_record, cut_waits, cut_heard, cut_long}
use Rattle.walking.specs.declared.Stop.{Stop}
use Rattle.walking.specs.declared.Stop.TheVariants.{Refused, TooLong}
use Rattle.tally_lines.specs.Lines.{row_line, refused_line, too_long_line, unfinished_line}
use Rattle.following.specs.Following.{Reached, reached, standing, heard, hearing, most_length, seen}
use Rattle.following.proofs.Alone.{first_opened}
use Rattle.tallying.specs.Text.{row_lines, report_lines, closing, ended}
use Rattle.tallying.specs.Told.{Behind, Left, Long, Cut, no_record, first, cut_later, cut_short, cut_all, calls_of}
use Rattle.tallying.specs.Told.{Refusal, None, At, first_refusal, rows_in, is_mrr, mrr_last, lines_of, end_of, text_by}
use Rattle.tallying.specs.Told.{told_text}
use Rattle.tallying.specs.Laws.{TallyTold}
use Rattle.tallying.proofs.First.{first_answer}
use Rattle.tallying.proofs.Places.{kind_in, Stands, Leads, first_leads, later_leads}

-- ---- the rows of a report, line after line

lines_append : (a b : List Row) → lines_of (a ++ b) ≡ lines_of a ++ lines_of b
lines_append [] b = refl
lines_append (r ∷ rs) b =
    ap (λ (l : List ℕ). row_line r ++ l) (lines_append rs b)
    ∙ sym (append_assoc (row_line r) (lines_of rs) (lines_of b))

lines_listed : (h : House) (n : ℕ) → lines_of (listed (row_at h 0) n) ≡ row_lines h n
unfolding row_lines
lines_listed h zero = refl
lines_listed h (suc n) =
    lines_append (listed (row_at h 0) n) (row_at h 0 n ∷ [])
    ∙ ap (λ (l : List ℕ). l ++ (row_line (row_at h 0 n) ++ [])) (lines_listed h n)
    ∙ ap (λ (l : List ℕ). row_lines h n ++ l) (append-nil (row_line (row_at h 0 n)))

-- ---- the text from a house on, after k records of which the last was an MRR or not

abbrev end_on : House → ℕ → Bool → Behind → List ℕ
end_on h k last Long = too_long_line (k + 1)
end_on h k last (Left (b ∷ bs)) = refused_line NotOneRecord (k + 1)
end_on h k last (Left []) = cond last (lines_of (rows_in (reply h (Report 0 row_count)))) (unfinished_line k)

abbrev mrr_on : Bool → List (List ℕ) → Bool
mrr_on last [] = last
mrr_on last (r ∷ rs) = mrr_on (is_mrr (kind_in r)) rs

abbrev text_on : Refusal → House → ℕ → Bool → Cut → List ℕ
text_on (At a place) h k last c = refused_line a place
text_on None h k last c =
    end_on (calls.reached h (map (Deliver 0) c.records)) (k + length c.records) (mrr_on last c.records)
    c.behind

abbrev told_on : House → ℕ → Bool → Cut → List ℕ
told_on h k last c = text_on (first_refusal (k + 1) (history h (map (Deliver 0) c.records))) h k last c

abbrev text : Walked Reached Stop → List ℕ
text w = ended (seen w)

module _ (h : House) (k : ℕ) (last : Bool) where
  none_yet : k + 0 ≡ k
  none_yet = add-zero k

  -- bytes that are no whole record, in a stream that has begun
  waits_told : (bytes : List ℕ) → is_start (standing h).place ≡ false → is_ended (standing h).place ≡ last
      → text (Waits (reached h k) bytes) ≡ told_on h k last (no_record (Left bytes))
  unfolding ended
  waits_told [] begun is =
      ap (closing h k) is ∙ go last ∙ ap (λ (j : ℕ). end_on h j last (Left [])) (sym none_yet)
    where
      go : (b : Bool) → closing h k b ≡ end_on h k b (Left [])
      go true = sym (lines_listed h (reported h 0 row_count).rows)
      go false = refl
  waits_told (b ∷ bs) begun is =
      ap (λ (t : Bool). refused_line (cond t (deliver h 0 (b ∷ bs)).answer NotOneRecord) (k + 1)) begun
      ∙ ap (λ (j : ℕ). refused_line NotOneRecord (j + 1)) (sym none_yet)

  long_told : (r rest : List ℕ) → text (Stops (reached h k) r TooLong rest) ≡ told_on h k last (no_record Long)
  unfolding ended
  long_told r rest = ap (λ (j : ℕ). too_long_line (j + 1)) (sym none_yet)

  -- ---- one record more

  module _ (rec : List ℕ) (c : Cut) where
    abbrev next : Answered
    next = deliver h 0 rec

    -- the first refusal, by whether this record is accepted
    abbrev by : Bool → Refusal
    by t =
        cond t (first_refusal (k + 1 + 1) (history next.house (map (Deliver 0) c.records)))
        (At next.answer (k + 1))

    further : (r : Refusal) → text_on r h k last (first rec c) ≡ text_on r next.house (k + 1) (is_mrr (kind_in rec)) c
    further (At a place) = refl
    further None =
        let more : k + length (rec ∷ c.records) ≡ k + 1 + length c.records = omega arith in
        ap
        (λ (j : ℕ).
        end_on (calls.reached next.house (map (Deliver 0) c.records)) j
        (mrr_on (is_mrr (kind_in rec)) c.records) c.behind) more

    kept_told : eqb (number_of next.answer) 0 ≡ true
        → told_on h k last (first rec c) ≡ told_on next.house (k + 1) (is_mrr (kind_in rec)) c
    kept_told done =
        ap (λ (t : Bool). text_on (by t) h k last (first rec c)) done
        ∙ further (first_refusal (k + 1 + 1) (history next.house (map (Deliver 0) c.records)))

    refused_told : eqb (number_of next.answer) 0 ≡ false
        → told_on h k last (first rec c) ≡ refused_line next.answer (k + 1)
    refused_told wrong = ap (λ (t : Bool). text_on (by t) h k last (first rec c)) wrong

    heard_told : (rest : List ℕ)
        → (number_of next.answer ≡ 0
        → text (walked hearing (Waits (reached next.house (k + 1)) []) rest)
        ≡ told_on next.house (k + 1) (is_mrr (kind_in rec)) c)
        → text (walked hearing (judged (heard k next) (reached h k) rec) rest) ≡ told_on h k last (first rec c)
    unfolding heard ended
    heard_told rest on = go (eqb (number_of next.answer) 0) refl
      where
        go : (t : Bool) → eqb (number_of next.answer) 0 ≡ t
            → text (walked hearing (judged (cond t (Kept (reached next.house (k + 1)))
            (Turned (Refused next.answer))) (reached h k) rec) rest)
            ≡ told_on h k last (first rec c)
        go true done = on (eqb-true (number_of next.answer) 0 done) ∙ sym (kept_told done)
        go false wrong =
            ap text (walked_stops Reached Stop hearing (reached h k) rec (Refused next.answer) [] rest)
            ∙ sym (refused_told wrong)

-- ---- a house to whose slot 0 a stream is delivered

record Good (h : House) : Type 0 where
  shape : Shaped h
  fine : sound h ≡ true
  opened : (slot_at h 0).taken ≡ true

module _ (h : House) (good : Good h) (rec : List ℕ) (low : Bytes rec) where
  abbrev s : Session
  s = (slot_at h 0).session

  abbrev v : Verdict
  v = verdict_on s rec

  good_after : Good (deliver h 0 rec).house
  good_after =
      let own = own_deliver h 0 good.shape good.fine (omega arith) rec low good.opened in
      record {
        shape = after_shaped h (Deliver 0 rec) low good.shape;
        fine = deliver_keeps h 0 rec low good.shape good.fine;
        opened = ap (λ (x : Slot). x.taken) own.stands ∙ good.opened;
      }

  -- an accepted record leads where its verdict says
  stands_after : (order : Order) → Leads order s rec v → number_of (deliver h 0 rec).answer ≡ 0
      → Stands order rec (standing (deliver h 0 rec).house)
  stands_after order leads done =
      let own = own_deliver h 0 good.shape good.fine (omega arith) rec low good.opened in
      go v (room_for h 0 v) (judged_refusal s rec) leads (sym (ap number_of own.answer) ∙ done)
      own.stands
    where
      go : (u : Verdict) (room : Bool) → RefusesOwn s u
          → Leads order s rec u → number_of (answer_by u room) ≡ 0
          → slot_at (deliver h 0 rec).house 0 ≡ next_slot (slot_at h 0) u room
          → Stands order rec (standing (deliver h 0 rec).house)
      go (verdict.Refused a) room own leads zero_number is =
          absurd (false≢true (sym (own_number_lem a (own a refl).0) ∙ ap (λ (n : ℕ). eqb n 0) zero_number))
      go (Taken change) room own leads zero_number is =
          subst (λ (x : Slot). Stands order rec x.session.standing) (sym is) leads
      go (Wanted change key) true own leads zero_number is =
          subst (λ (x : Slot). Stands order rec x.session.standing) (sym is) leads
      go (Wanted change key) false own leads zero_number is = absurd (omega (arith, zero_number))

front_bytes : (n : ℕ) (bytes : List ℕ) → Bytes bytes → Bytes (take n bytes)
front_bytes n bytes low = part_bytes bytes 0 n low

rest_bytes : (n : ℕ) (bytes : List ℕ) → Bytes bytes → Bytes (drop n bytes)
rest_bytes n bytes low k = rw (get_or-drop n bytes k 0) (low (n + k))

-- ---- later records

-- how they are cut
module _ (turns : ℕ) (order : Order) (bytes : List ℕ) where
  abbrev size : ℕ
  size = header + rec_len order bytes

  no_header : leb header (length bytes) ≡ false → cut_later (suc turns) order bytes ≡ no_record (Left bytes)
  unfolding cut_later
  no_header e = rw e

  module _ (headed : leb header (length bytes) ≡ true) where
    too_long : leb size most_length ≡ false → cut_later (suc turns) order bytes ≡ no_record Long
    unfolding cut_later
    too_long e = rw (headed, e)

    module _ (fits : leb size most_length ≡ true) where
      not_whole : leb size (length bytes) ≡ false → cut_later (suc turns) order bytes ≡ no_record (Left bytes)
      unfolding cut_later
      not_whole e = rw (headed, fits, e)

      whole : leb size (length bytes) ≡ true
          → cut_later (suc turns) order bytes ≡ first (take size bytes) (cut_later turns order (drop size bytes))
      unfolding cut_later
      whole e = rw (headed, fits, e)

-- what is to be shown of a house and the bytes that are left
abbrev LaterTold : ℕ → House → ℕ → List ℕ → Type 0
LaterTold turns h k bytes = (last : Bool) → length bytes ≤ turns → Bytes bytes → Good h
    → is_start (standing h).place ≡ false → is_ended (standing h).place ≡ last
    → text (walked hearing (Waits (reached h k) []) bytes) ≡ told_on h k last (cut_later turns (standing h).order bytes)

abbrev delivers : Reached → List ℕ → Heard Reached Stop
delivers p r = heard p.accepted (deliver p.house 0 r)

abbrev stand : Reached → Standing
stand p = standing p.house

-- one turn
module _ (turns : ℕ) (h : House) (k : ℕ) (bytes : List ℕ)
    (on : (g : House) (rest : List ℕ) → LaterTold turns g (k + 1) rest) (last : Bool) (enough : length bytes ≤ suc turns)
    (low : Bytes bytes) (good : Good h) (begun : is_start (standing h).place ≡ false)
    (is : is_ended (standing h).place ≡ last) where
  abbrev at : Reached
  at = reached h k

  abbrev order : Order
  order = (standing h).order

  abbrev long : ℕ
  long = header + rec_len order bytes

  abbrev Goal : Type 0
  Goal = text (walked hearing (Waits at []) bytes) ≡ told_on h k last (cut_later (suc turns) order bytes)

  waiting : length bytes < cut most_length (standing h) bytes
      → cut_later (suc turns) order bytes ≡ no_record (Left bytes) → Goal
  waiting short cuts =
      ap text (cut_waits Reached Stop stand most_length TooLong delivers at bytes (omega arith) short)
      ∙ waits_told h k last bytes begun is
      ∙ ap (told_on h k last) (sym cuts)

  by_header : (t : Bool) → leb header (length bytes) ≡ t
      → (u : Bool) → leb long most_length ≡ u → (w : Bool) → leb long (length bytes) ≡ w → Goal
  by_header false e u f w g =
      let short = leb-false header (length bytes) e in
      let four = needed_header (standing h) bytes begun short in
      let cuts = cut_record most_length (standing h) bytes (omega (arith, four)) in
      waiting (omega (arith, cuts, four, short)) (no_header turns order bytes e)
  by_header true e false f w g =
      let size = needed_later (standing h) bytes begun (leb-true header (length bytes) e) in
      let over : most_length < needed (standing h) bytes = omega (arith, size, leb-false long most_length f) in
      ap text (cut_long Reached Stop stand most_length TooLong delivers at bytes (omega arith) over)
      ∙ long_told h k last (take (cut most_length (standing h) bytes) bytes) (drop (cut most_length (standing h) bytes) bytes)
      ∙ ap (told_on h k last) (sym (too_long turns order bytes e f))
  by_header true e true f false g =
      let size = needed_later (standing h) bytes begun (leb-true header (length bytes) e) in
      let cuts = cut_record most_length (standing h) bytes (omega (arith, size, leb-true long most_length f)) in
      waiting (omega (arith, cuts, size, leb-false long (length bytes) g)) (not_whole turns order bytes e f g)
  by_header true e true f true g =
      let there = leb-true long (length bytes) g in
      let size = needed_later (standing h) bytes begun (leb-true header (length bytes) e) in
      let rec = take long bytes in
      let rest = drop long bytes in
      let record_low = front_bytes long bytes low in
      ap text
      (cut_heard Reached Stop stand most_length TooLong delivers at bytes (omega arith)
      (omega (arith, size, leb-true long most_length f)) (omega (arith, size, there))
      ∙ ap (λ (n : ℕ). walked hearing (judged (delivers at (take n bytes)) at (take n bytes)) (drop n bytes)) size)
      ∙ heard_told h k last rec (cut_later turns order rest) rest (λ done.
      let next = (deliver h 0 rec).house in
      let stands = stands_after h good rec record_low order (later_leads (slot_at h 0).session rec begun) done in
      on next rest (is_mrr (kind_in rec)) (omega (arith, length-drop long bytes, there, enough))
      (rest_bytes long bytes low) (good_after h good rec record_low) stands.follows.0 stands.ended
      ∙ ap (λ (o : Order). told_on next (k + 1) (is_mrr (kind_in rec)) (cut_later turns o rest)) stands.follows.1)
      ∙ ap (told_on h k last) (sym (whole turns order bytes e f g))

  turn : Goal
  turn = by_header (leb header (length bytes)) refl (leb long most_length) refl (leb long (length bytes)) refl

later_told : (turns : ℕ) (h : House) (k : ℕ) (bytes : List ℕ) → LaterTold turns h k bytes
unfolding walked cut_later
later_told zero h k [] last enough low good begun is = waits_told h k last [] begun is
later_told zero h k (b ∷ bs) last enough low good begun is = absurd (omega (arith, enough))
later_told (suc turns) h k bytes last enough low good begun is =
    turn turns h k bytes (λ g rest. later_told turns g (k + 1) rest) last enough low good begun is

-- ---- the first record

abbrev opened : House
opened = (open_slot fresh 0 row_count).house

opened_good : Good opened
opened_good =
    record {
      shape = after_shaped fresh (Open 0 row_count) tt fresh_shaped;
      fine = open_keeps fresh 0 row_count fresh_shaped fresh_sound;
      opened = ap (λ (a : Answered). (slot_at a.house 0).taken) first_opened;
    }

starts : is_start (standing opened).place ≡ true
starts = ap (λ (a : Answered). is_start (standing a.house).place) first_opened

not_ended : is_ended (standing opened).place ≡ false
not_ended = ap (λ (a : Answered). is_ended (standing a.house).place) first_opened

-- what its own checks say, where it is accepted
record IsFar (rec : List ℕ) : Type 0 where
  six : length rec ≡ 6
  typ : rec_typ rec ≡ 0
  sub : rec_sub rec ≡ 10

is_far : (rec : List ℕ) → number_of (deliver opened 0 rec).answer ≡ 0 → IsFar rec
is_far rec done =
    let number = sym (ap number_of (first_answer opened rec opened_good.fine opened_good.opened starts)
    ∙ first_number (slot_at opened 0).session.standing rec) ∙ done in
    let headed = holds (leb header (length rec)) _ 2 number in
    let kind = holds (eqb (rec_typ rec) 0 && eqb (rec_sub rec) 10) _ 7 headed.1 in
    let size = holds (eqb (length rec) 6) _ 2 kind.1 in
    record {
      six = eqb-true (length rec) 6 size.0;
      typ = eqb-true (rec_typ rec) 0 (both_left (eqb (rec_typ rec) 0) (eqb (rec_sub rec) 10) kind.0);
      sub = eqb-true (rec_sub rec) 10 (both_right (eqb (rec_typ rec) 0) (eqb (rec_sub rec) 10) kind.0);
    }

far_no_mrr : (rec : List ℕ) → IsFar rec → is_mrr (kind_in rec) ≡ false
unfolding kind_of named
far_no_mrr rec far =
    ap (λ (t : ℕ). is_mrr (kind_of t (rec_sub rec))) far.typ ∙ ap (λ (t : ℕ). is_mrr (kind_of 0 t)) far.sub

-- fewer than six bytes are never accepted
short_refused : (rec : List ℕ) → length rec < 6 → (t : Bool) → eqb (number_of (deliver opened 0 rec).answer) 0 ≡ t
    → t ≡ false
short_refused rec short true is =
    absurd (omega (arith, short, (is_far rec (eqb-true (number_of (deliver opened 0 rec).answer) 0 is)).six))
short_refused rec short false is = refl

module _ (bytes : List ℕ) (low : Bytes bytes) where
  abbrev from : Reached
  from = reached opened 0

  six : needed (standing opened) bytes ≡ first_length
  six = needed_first (standing opened) bytes starts

  short_told : length bytes < first_length
      → text (walked hearing (Waits from []) bytes) ≡ told_on opened 0 false (cut_short bytes)
  unfolding ended
  short_told short =
      ap text
      (cut_waits Reached Stop stand most_length TooLong delivers from bytes (omega arith)
      (omega (arith, short, six, cut_record most_length (standing opened) bytes (omega (arith, six)))))
      ∙ go bytes short
    where
      go : (l : List ℕ) → length l < first_length → text (Waits from l) ≡ told_on opened 0 false (cut_short l)
      go [] few = ap (closing opened 0) not_ended
      go (b ∷ bs) few =
          ap (λ (t : Bool). refused_line (cond t (deliver opened 0 (b ∷ bs)).answer NotOneRecord) 1) starts
          ∙ sym
          (refused_told opened 0 false (b ∷ bs) (no_record (Left []))
          (short_refused (b ∷ bs) few (eqb (number_of (deliver opened 0 (b ∷ bs)).answer) 0) refl))

  far_told : first_length ≤ length bytes
      → text (walked hearing (Waits from []) bytes)
      ≡ told_on opened 0 false
      (first (take first_length bytes)
      (cut_later (length bytes) (order_in (take first_length bytes)) (drop first_length bytes)))
  far_told there =
      let rec = take first_length bytes in
      let rest = drop first_length bytes in
      let record_low = front_bytes first_length bytes low in
      ap text
      (cut_heard Reached Stop stand most_length TooLong delivers from bytes (omega arith) (omega (arith, six))
      (omega (arith, six, there))
      ∙ ap (λ (n : ℕ). walked hearing (judged (delivers from (take n bytes)) from (take n bytes)) (drop n bytes)) six)
      ∙ heard_told opened 0 false rec (cut_later (length bytes) (order_in rec) rest) rest (λ done.
      let next = (deliver opened 0 rec).house in
      let leads = first_leads (slot_at opened 0).session rec starts (far_no_mrr rec (is_far rec done)) in
      let stands = stands_after opened opened_good rec record_low (order_in rec) leads done in
      later_told (length bytes) next 1 rest (is_mrr (kind_in rec)) (omega (arith, length-drop first_length bytes))
      (rest_bytes first_length bytes low) (good_after opened opened_good rec record_low) stands.follows.0
      stands.ended
      ∙ ap (λ (o : Order). told_on next 1 (is_mrr (kind_in rec)) (cut_later (length bytes) o rest)) stands.follows.1)

  all_told : text (walked hearing (Waits from []) bytes) ≡ told_on opened 0 false (cut_all bytes)
  all_told = go (leb first_length (length bytes)) refl
    where
      go : (t : Bool) → leb first_length (length bytes) ≡ t
          → text (walked hearing (Waits from []) bytes) ≡ told_on opened 0 false (cut_all bytes)
      go true e = far_told (leb-true first_length (length bytes) e) ∙ rw e
      go false e = short_told (leb-false first_length (length bytes) e) ∙ rw e

-- ---- the opening, and the whole text

mrr_on_lem : (r : List ℕ) (rs : List (List ℕ)) → mrr_on (is_mrr (kind_in r)) rs ≡ mrr_last (r ∷ rs)
mrr_on_lem r [] = refl
mrr_on_lem r (q ∷ rs) = mrr_on_lem q rs

mrr_last_lem : (rs : List (List ℕ)) → mrr_on false rs ≡ mrr_last rs
mrr_last_lem [] = refl
mrr_last_lem (r ∷ rs) = mrr_on_lem r rs

opened_done : eqb (number_of (open_slot fresh 0 row_count).answer) 0 ≡ true
opened_done = ap (λ (a : Answered). eqb (number_of a.answer) 0) first_opened

end_on_lem : (rs : List (List ℕ)) (b : Behind)
    → end_on (calls.reached fresh (calls_of rs)) (length rs) (mrr_last rs) b ≡ end_of rs b
end_on_lem rs Long = refl
end_on_lem rs (Left []) = refl
end_on_lem rs (Left (b ∷ bs)) = refl

opening : (c : Cut) → told_on opened 0 false c ≡ text_by (first_refusal 0 (history fresh (calls_of c.records))) c
opening c =
    let es = history opened (map (Deliver 0) c.records) in
    go (first_refusal 1 es)
    ∙ ap
    (λ (t : Bool). text_by (cond t (first_refusal 1 es) (At (open_slot fresh 0 row_count).answer 0)) c)
    (sym opened_done)
  where
    go : (r : Refusal) → text_on r opened 0 false c ≡ text_by r c
    go (At a place) = refl
    go None =
        let rs = c.records in
        let there = calls.reached opened (map (Deliver 0) rs) in
        ap (λ (j : ℕ). end_on there j (mrr_on false rs) c.behind) (zero-add (length rs))
        ∙ ap (λ (m : Bool). end_on there (length rs) m c.behind) (mrr_last_lem rs)
        ∙ end_on_lem rs c.behind

pub tally_told : TallyTold
tally_told bytes low = all_told bytes low ∙ opening (cut_all bytes)
