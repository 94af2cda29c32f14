-- The second half of demand 2, and the rooms of demand 3, proved (specs/Demands.antt): what the calls and their answers
-- tell of a slot is what the house holds of it, call by call.
-- Assumes nothing.
use mathlib.Core.Path.{◌≡◌, refl, ap, sym, ◌∙◌}
use mathlib.Core.Bool.{Bool, true, false, cond, not, ◌&&◌, false≢true, true≢false}
use mathlib.Core.List.{List, [], ◌∷◌, map, map-append}
use Prim.Native.Nat.{ℕ, zero, suc, ◌+◌, ◌-◌, ◌%◌, ◌≤◌, ◌<◌}
use native.Mathlib.Nat.{add-zero, zero-add}
use native.Mathlib.Omega.{arith}
use borrow.Author.Tests.{leb-true, ltb-true, eqb-true, not-true}
use lib.Dec.{leb, ltb, eqb}
use lib.ListN.{length, get_or, take, replicate, get_or-map}
use lib.Seq.{get_or-take, length-take-le, take-suc, take-length}
use Rattle.answers.specs.declared.Answer.{Answer}
use Rattle.answers.specs.declared.Answer.TheVariants.{Done, NoRoom}
use Rattle.answers.specs.Numbers.{number_of}
use Rattle.numbers.specs.Laws.{Bytes}
use Rattle.rising.specs.Rising.{rising_from, rising}
use Rattle.rows.specs.Rows.{slot_count, slot_span, head_of, site_of, bin_of, slot_rank, row_key, held_by, held_from}
use Rattle.rows.specs.Counts.{Count, count, plus, keys_in, rows_by}
use Rattle.rows.proofs.Laws.{held_all, held_ranks, run_within, closed_none}
use Rattle.rows.proofs.Counts.{rows_held_by, rows_at_lem, plus_rising}
use Rattle.session.specs.declared.Standing.{Standing}
use Rattle.session.specs.declared.Verdict.{Verdict}
use Rattle.session.specs.declared.Verdict.TheVariants.{Refused, Taken, Wanted}
use Rattle.session.specs.Session.{is_start, Follows}
use Rattle.session.specs.Verdicts.{own_number}
use Rattle.settling.specs.Settling.{changed}
use Rattle.first_record.specs.First.{order_in}
use Rattle.later_records.specs.Results.{Result, None, Part, result_of}
use Rattle.judging.specs.Judge.{verdict_on}
use Rattle.judging.specs.Laws.{Begins, Tells, RefusesOwn}
use Rattle.judging.proofs.Laws.{judged_begins, judged_tells, judged_refusal}
use Rattle.house.specs.declared.Slot.{Slot}
use Rattle.house.specs.declared.House.{House}
use Rattle.house.specs.declared.Answered.{Answered}
use Rattle.house.specs.House.{row_count, no_slot, closed_slot, fresh, keys_of, counts_of, free, unfilled}
use Rattle.house.specs.House.{promised_from, promised, taken_of, sound}
use Rattle.house.specs.Deliver.{granted}
use Rattle.house.specs.Calls.{slot_at, open_slot, close_slot, room_of, deliver}
use Rattle.house.specs.Report.{keyed_row, row_at, listed}
use Rattle.house.specs.History.{Call, Open, Deliver, Report, Close, Figured, Listed, reply, answer_of, after}
use Rattle.house.specs.History.{Said, reached, said, history, names, Sent, AllSent}
use Rattle.house.specs.Tally.{Heard, nothing, counting, following, done_by, is_done, heard, heard_from, told_of}
use Rattle.house.specs.Tally.{row_of, holding, owed, over, free_by, promised_by}
use Rattle.house.specs.Laws.{Shaped}
use Rattle.house.specs.Demands.{TallyReported, FiguresTallied, FreePromised, NeverRefused}
use Rattle.house.specs.Demands.{TallyKeys, ShutNone, RowsTallied, room_for}
use Rattle.house.proofs.Calling.{told_within, told_rooms, figures_done}
use Rattle.house.proofs.Delivering.{granted_below}
use Rattle.house.proofs.Reporting.{told_rises, open_within, report_done}
use Rattle.house.proofs.Keeping.{fresh_sound, fresh_shaped, after_keeps, after_shaped, reached_sound, told_right}
use Rattle.house.proofs.Slots.{rows_at, Alike, else_alike, Own, own_deliver, own_close, own_open, answer_by}
use Rattle.house.proofs.Slots.{rows_after, next_slot}
use Rattle.house.proofs.Refusing.{refused_keeps, own_number_lem, open_number, deliver_number, report_number}
use Rattle.house.proofs.Refusing.{close_number}

-- ---- what is told of a slot, and what the house holds of it

pub record Agree (slot : ℕ) (t : Heard) (h : House) : Type 0 where
  pub opened : t.opened ≡ (slot_at h slot).taken
  pub floor : t.floor ≡ (slot_at h slot).floor
  pub begun : t.begun ≡ not (is_start (slot_at h slot).session.standing.place)
  pub order : t.begun ≡ true → t.order ≡ (slot_at h slot).session.standing.order
  pub rows : t.rows ≡ rows_at h slot
  pub shut : t.opened ≡ false → (t.floor ≡ 0) × (t.rows ≡ [])

agree_alike : (slot : ℕ) (t : Heard) (h g : House) → Alike slot g h → Agree slot t h → Agree slot t g
agree_alike slot t h g a p =
    record {
      opened = rw a.stands p.opened;
      floor = rw a.stands p.floor;
      begun = rw a.stands p.begun;
      order = rw a.stands p.order;
      rows = rw a.rows p.rows;
      shut = p.shut;
    }

-- every slot of a fresh house is closed, and so is what stands past the last
pub fresh_at : (P : Slot → Type 0) (n i : ℕ) → P closed_slot → P no_slot → P (get_or (replicate n closed_slot) i no_slot)
fresh_at P zero i c n = n
fresh_at P (suc m) zero c n = c
fresh_at P (suc m) (suc i) c n = fresh_at P m i c n

agree_fresh : (slot : ℕ) → Agree slot nothing fresh
unfolding rows_by
agree_fresh slot =
    record {
      opened = fresh_at (λ (s : Slot). false ≡ s.taken) slot_count slot refl refl;
      floor = fresh_at (λ (s : Slot). 0 ≡ s.floor) slot_count slot refl refl;
      begun = fresh_at (λ (s : Slot). false ≡ not (is_start s.session.standing.place)) slot_count slot refl refl;
      order = λ is. absurd (false≢true is);
      rows = refl;
      shut = λ is. (refl, refl);
    }

-- ---- one call more

-- a check whose number is not the one that is given holds, and those behind it give that
pub passed : (t : Bool) (rest n m : ℕ) → (n ≡ m → ⊥) → cond t rest n ≡ m → (t ≡ true) × (rest ≡ m)
passed true rest n m other e = (refl, e)
passed false rest n m other e = absurd (other e)

-- so of checks that all hold, each does
pub holds : (t : Bool) (rest n : ℕ) → cond t rest (suc n) ≡ 0 → (t ≡ true) × (rest ≡ 0)
holds t rest n e = passed t rest (suc n) 0 (λ z. omega (arith, z)) e

module _ (slot : ℕ) (t : Heard) (h : House) (p : Agree slot t h) where
  -- a record that is accepted: where its session stands, and its rows
  agree_by : (rec : List ℕ) (g : House) (next : Standing) (rows : List Count) → (slot_at h slot).taken ≡ true
      → (slot_at g slot).taken ≡ true → (slot_at g slot).floor ≡ (slot_at h slot).floor
      → (slot_at g slot).session.standing ≡ next → rows_at g slot ≡ rows
      → (is_start (slot_at h slot).session.standing.place ≡ true
      → Follows (order_in rec) next × (rows_at h slot ≡ rows))
      → (is_start (slot_at h slot).session.standing.place ≡ false
      → Follows (slot_at h slot).session.standing.order next
      × (counting (result_of (slot_at h slot).session.standing.order rec) (rows_at h slot) ≡ rows))
      → Agree slot (following t rec) g
  agree_by rec g next rows t_open g_open floor stands is first later =
      go (is_start (slot_at h slot).session.standing.place) refl
    where
      go : (b : Bool) → is_start (slot_at h slot).session.standing.place ≡ b → Agree slot (following t rec) g
      go true starts =
          let f = first starts in
          let new : t.begun ≡ false = p.begun ∙ ap not starts in
          record {
            opened = p.opened ∙ t_open ∙ sym g_open;
            floor = p.floor ∙ sym floor;
            begun = rw (stands, f.0.0);
            order = λ b. rw (new, stands) (sym f.0.1);
            rows = rw new (p.rows ∙ f.1 ∙ sym is);
            shut = λ s. absurd (false≢true (sym s ∙ p.opened ∙ t_open));
          }
      go false further =
          let f = later further in
          let old : t.begun ≡ true = p.begun ∙ ap not further in
          let same = p.order old in
          record {
            opened = p.opened ∙ t_open ∙ sym g_open;
            floor = p.floor ∙ sym floor;
            begun = rw (stands, f.0.0);
            order = λ b. rw (old, stands) (same ∙ sym f.0.1);
            rows = rw (old, same, p.rows) (f.1 ∙ sym is);
            shut = λ s. absurd (false≢true (sym s ∙ p.opened ∙ t_open));
          }

  -- any verdict that is accepted
  agree_verdict : (rec : List ℕ) (v : Verdict) (o : Answered) → (slot_at h slot).taken ≡ true → Own h slot v o
      → RefusesOwn (slot_at h slot).session v
      → (is_start (slot_at h slot).session.standing.place ≡ true → Begins (slot_at h slot).session rec v)
      → (is_start (slot_at h slot).session.standing.place ≡ false
      → Tells (slot_at h slot).session rec v)
      → number_of o.answer ≡ 0 → Agree slot (following t rec) o.house
  agree_verdict rec (Refused a) o opened own refusal begins tells done =
      let zero_number : number_of a ≡ 0 = ap number_of (sym own.answer) ∙ done in
      absurd (false≢true (sym (own_number_lem a (refusal a refl).0) ∙ ap (λ (n : ℕ). eqb n 0) zero_number))
  agree_verdict rec (Taken change) o opened own refusal begins tells done =
      agree_by rec o.house (changed (slot_at h slot).session change).standing (rows_at h slot) opened
      (rw own.stands opened) (rw own.stands) (rw own.stands) own.rows
      (λ starts. (begins starts, refl))
      (λ further. ((tells further).1, rw (tells further).0))
  agree_verdict rec (Wanted change key) o opened own refusal begins tells done =
      go (granted (room_of h slot) (keys_of h) (row_key slot key)) own.answer own.stands own.rows
    where
      go : (b : Bool) → o.answer ≡ answer_by (Wanted change key) b
          → slot_at o.house slot ≡ next_slot (slot_at h slot) (Wanted change key) b
          → rows_at o.house slot ≡ rows_after (rows_at h slot) (Wanted change key) b
          → Agree slot (following t rec) o.house
      go true is stands rows =
          agree_by rec o.house (changed (slot_at h slot).session change).standing (plus key (rows_at h slot)) opened
          (rw stands opened) (rw stands) (rw stands) rows (λ starts. absurd (begins starts))
          (λ further. ((tells further).1, rw (tells further).0))
      go false is stands rows = absurd (omega (arith, ap number_of is, done))

  module _ (shape : Shaped h) (e : sound h ≡ true) where
    -- a slot opened anew
    agree_open : (floor : ℕ) → number_of (open_slot h slot floor).answer ≡ 0
        → Agree slot (done_by (Open slot floor) t) (open_slot h slot floor).house
    agree_open floor done =
        let fine = holds (sound h) _ 14 (sym (open_number h slot floor) ∙ done) in
        let inside = holds (ltb slot slot_count) _ 0 fine.1 in
        let low = holds (leb floor row_count) _ 15 inside.1 in
        let new = holds (not (slot_at h slot).taken) _ 1 low.1 in
        let wide = holds (leb floor (free h - promised h)) _ 12 new.1 in
        let shut = not-true (slot_at h slot).taken new.0 in
        let o = own_open h slot shape e (ltb-true slot slot_count inside.0) floor low.0 shut wide.0 in
        record {
          opened = rw o.0;
          floor = rw o.0;
          begun = rw o.0;
          order = λ is. absurd (false≢true is);
          rows = sym (o.1 ∙ sym p.rows ∙ (p.shut (p.opened ∙ shut)).1);
          shut = λ is. absurd (true≢false is);
        }

    agree_close : number_of (close_slot h slot).answer ≡ 0 → Agree slot nothing (close_slot h slot).house
    agree_close done =
        let fine = holds (sound h) _ 14 (sym (close_number h slot) ∙ done) in
        let inside = holds (ltb slot slot_count) _ 0 fine.1 in
        let opened = holds (slot_at h slot).taken _ 1 inside.1 in
        let o = own_close h slot shape e (ltb-true slot slot_count inside.0) opened.0 in
        record {
          opened = rw o.0;
          floor = rw o.0;
          begun = rw o.0;
          order = λ is. absurd (false≢true is);
          rows = sym o.1;
          shut = λ is. (refl, refl);
        }

    agree_deliver : (rec : List ℕ) → Bytes rec → number_of (deliver h slot rec).answer ≡ 0
        → Agree slot (following t rec) (deliver h slot rec).house
    agree_deliver rec bytes done =
        let s = (slot_at h slot).session in
        let v = verdict_on s rec in
        let fine = holds (sound h) _ 14 (sym (deliver_number h slot rec) ∙ done) in
        let inside = holds (ltb slot slot_count) _ 0 fine.1 in
        let opened = (holds (slot_at h slot).taken _ 1 inside.1).0 in
        agree_verdict rec v (deliver h slot rec) opened
        (own_deliver h slot shape e (ltb-true slot slot_count inside.0) rec bytes opened)
        (judged_refusal s rec)
        (λ starts. judged_begins s rec starts)
        (λ further. judged_tells s rec further) done

    -- a call that is done, on its own slot
    agree_done : (c : Call) → Sent c → names slot c ≡ true → number_of (answer_of (reply h c)) ≡ 0
        → Agree slot (done_by c t) (after h c)
    agree_done (Open i floor) sent own done =
        let same = eqb-true i slot own in
        rw same (agree_open floor (rw same at done))
    agree_done (Deliver i rec) sent own done =
        let same = eqb-true i slot own in
        rw same (agree_deliver rec sent (rw same at done))
    agree_done (Report i long) sent own done = p
    agree_done (Close i) sent own done =
        let same = eqb-true i slot own in
        rw same (agree_close (rw same at done))
    agree_done Figured sent own done = p

    -- any call
    agree_after : (c : Call) → Sent c → Agree slot (heard slot (said c (reply h c)) t) (after h c)
    agree_after c sent = go (names slot c) refl (is_done (said c (reply h c))) refl
      where
        go : (n : Bool) → names slot c ≡ n → (d : Bool) → is_done (said c (reply h c)) ≡ d
            → Agree slot (heard slot (said c (reply h c)) t) (after h c)
        go false other d is = rw other (agree_alike slot t h (after h c) (else_alike slot h c shape sent other) p)
        go true own false is =
            let refused : answer_of (reply h c) ≡ Done → ⊥ =
            λ q. false≢true (sym is ∙ ap (λ (a : Answer). eqb (number_of a) 0) q) in
            rw (own, is, refused_keeps h c refused) p
        go true own true is =
            rw (own, is) (agree_done c sent own (eqb-true (number_of (answer_of (reply h c))) 0 is))

-- ---- all calls

agree_run : (slot : ℕ) (t : Heard) (h : House) (calls : List Call) → AllSent calls → Shaped h → sound h ≡ true
    → Agree slot t h → Agree slot (heard_from slot (history h calls) t) (reached h calls)
agree_run slot t h [] sent shape e p = p
agree_run slot t h (c ∷ cs) sent shape e p =
    agree_run slot (heard slot (said c (reply h c)) t) (after h c) cs sent.1 (after_shaped h c sent.0 shape)
    (after_keeps h c sent.0 shape e) (agree_after slot t h p shape e c sent.0)

pub told_agree : (slot : ℕ) (calls : List Call) → AllSent calls
    → Agree slot (told_of slot (history fresh calls)) (reached fresh calls)
told_agree slot calls sent = agree_run slot nothing fresh calls sent fresh_shaped fresh_sound (agree_fresh slot)

-- ---- a report is a slot's rows

row_in : (k n : ℕ) → keyed_row k n ≡ row_of (count (k % slot_span) n)
row_in k n =
    let head : head_of k ≡ head_of (k % slot_span) = omega arith in
    let site : site_of k ≡ site_of (k % slot_span) = omega arith in
    let bin : bin_of k ≡ bin_of (k % slot_span) = omega arith in
    rw (head, site, bin)

module _ (h : House) (slot : ℕ) (shape : Shaped h) (e : sound h ≡ true) where
  pub keys_long : length (keys_of h) ≡ h.used
  keys_long = length-take-le h.used h.keys (omega (arith, shape.keys, told_within h e))

  pub paired : length (counts_of h) ≡ length (keys_of h)
  paired =
      length-take-le h.used h.counts (omega (arith, shape.counts, told_within h e)) ∙ sym keys_long

  pub rows_held : length (rows_at h slot) ≡ held_by slot (keys_of h)
  rows_held = rows_held_by slot (keys_of h) (counts_of h) paired

  -- a slot that is not open holds none
  pub shut_rows : (slot_at h slot).taken ≡ false → rows_at h slot ≡ []
  shut_rows shut =
      let there : get_or (taken_of h.slots) slot false ≡ false =
      get_or-map (λ (s : Slot). s.taken) h.slots slot no_slot ∙ shut in
      let none = (closed_none (taken_of h.slots) (keys_of h) (counts_of h) slot (told_right h e) there).0 in
      empty (rows_at h slot) (rows_held ∙ none)
    where
      empty : (rows : List Count) → length rows ≡ 0 → rows ≡ []
      empty [] l = refl
      empty (c ∷ rows) l = absurd (omega (arith, l))

  row_listed : (i : ℕ) (none : Count) → i < held_by slot (keys_of h)
      → row_at h slot i ≡ row_of (get_or (rows_at h slot) i none)
  unfolding row_at
  row_listed i none low =
      let at = slot_rank slot (keys_of h) + i in
      let used : at < h.used =
      omega (
        arith,
        keys_long,
        held_ranks slot (keys_of h) (told_rises h e),
        run_within slot (keys_of h),
      ) in
      row_in (get_or h.keys at 0) (get_or h.counts at 0)
      ∙ ap row_of
      (sym
      (rows_at_lem slot (keys_of h) (counts_of h) i none (told_rises h e) paired low
      ∙ rw (get_or-take h.used h.keys at 0 used, get_or-take h.used h.counts at 0 used)))

  listed_rows : (n : ℕ) → n ≤ held_by slot (keys_of h) → listed (row_at h slot) n ≡ map row_of (take n (rows_at h slot))
  listed_rows zero low = refl
  listed_rows (suc n) low =
      let none = count 0 0 in
      rw (
        listed_rows n (omega arith),
        row_listed n none (omega arith),
        take-suc (rows_at h slot) n none (omega (arith, rows_held)),
      )
      (sym (map-append row_of (take n (rows_at h slot)) (get_or (rows_at h slot) n none ∷ [])))

  pub report_listed : listed (row_at h slot) (held_by slot (keys_of h)) ≡ map row_of (rows_at h slot)
  report_listed =
      let all : take (held_by slot (keys_of h)) (rows_at h slot) ≡ rows_at h slot =
      rw (← rows_held) (take-length (rows_at h slot)) in
      listed_rows (held_by slot (keys_of h)) (omega arith) ∙ ap (map row_of) all

  pub report_told : (long : ℕ) → slot < slot_count → (slot_at h slot).taken ≡ true → held_by slot (keys_of h) ≤ long
      → reply h (Report slot long) ≡ Listed Done (map row_of (rows_at h slot))
  report_told long inside t wide =
      rw (report_done h slot long e inside t (held_by slot (keys_of h)) refl wide, report_listed)

shaped_reached : (h : House) (calls : List Call) → AllSent calls → Shaped h → sound h ≡ true
    → Shaped (reached h calls)
shaped_reached h [] sent shape e = shape
shaped_reached h (c ∷ cs) sent shape e =
    shaped_reached (after h c) cs sent.1 (after_shaped h c sent.0 shape) (after_keeps h c sent.0 shape e)

pub reached_shaped : (calls : List Call) → AllSent calls → Shaped (reached fresh calls)
reached_shaped calls sent = shaped_reached fresh calls sent fresh_shaped fresh_sound

pub tally_reported : TallyReported
tally_reported calls slot long sent done =
    let h = reached fresh calls in
    let e = reached_sound calls sent in
    let p = told_agree slot calls sent in
    let fine = holds (sound h) _ 14 (sym (report_number h slot long) ∙ ap number_of done) in
    let inside = holds (ltb slot slot_count) _ 0 fine.1 in
    let opened = holds (slot_at h slot).taken _ 1 inside.1 in
    let wide = holds (leb (held_by slot (keys_of h)) long) _ 16 opened.1 in
    report_told h slot (reached_shaped calls sent) e long (ltb-true slot slot_count inside.0) opened.0
    (leb-true (held_by slot (keys_of h)) long wide.0)
    ∙ ap (λ (rows : List Count). Listed Done (map row_of rows)) (sym p.rows)

none_rising : rising [] ≡ true
unfolding rising rising_from
none_rising = refl

-- ---- the rooms, by the tallies

module _ (calls : List Call) (sent : AllSent calls) where
  abbrev now : House
  now = reached fresh calls

  now_sound : sound now ≡ true
  now_sound = reached_sound calls sent

  pub told_held : (slot : ℕ) → holding (told_of slot (history fresh calls)) ≡ held_by slot (keys_of now)
  told_held slot =
      ap length (told_agree slot calls sent).rows ∙ rows_held now slot (reached_shaped calls sent) now_sound

  held_over : (n slot : ℕ) → over holding n slot (history fresh calls) ≡ held_from n slot (keys_of now)
  unfolding held_from
  held_over zero slot = refl
  held_over (suc n) slot = rw (told_held slot, held_over n (suc slot))

  told_owed : (slot : ℕ) → owed (told_of slot (history fresh calls)) ≡ unfilled slot (slot_at now slot) (keys_of now)
  unfolding unfilled
  told_owed slot =
      let p = told_agree slot calls sent in
      rw (p.opened, p.floor, told_held slot)

  owed_over : (k : ℕ) (slots : List Slot)
      → ((j : ℕ) → j < length slots → get_or slots j no_slot ≡ slot_at now (k + j))
      → over owed (length slots) k (history fresh calls) ≡ promised_from k slots (keys_of now)
  unfolding promised_from
  owed_over k [] f = refl
  owed_over k (s ∷ ss) f =
      let here : s ≡ slot_at now k = rw (add-zero k) at (f 0 (omega arith)) in
      let rest : (j : ℕ) → j < length ss → get_or ss j no_slot ≡ slot_at now (suc k + j) =
      λ j low. let on : k + suc j ≡ suc k + j = omega arith in rw on at (f (suc j) (omega arith)) in
      rw (owed_over (suc k) ss rest, told_owed k, here)

  pub free_told : free_by (history fresh calls) ≡ free now
  free_told =
      let all = held_all (taken_of now.slots) (keys_of now) (counts_of now) (told_right now now_sound) in
      let long = keys_long now 0 (reached_shaped calls sent) now_sound in
      omega (arith, held_over slot_count 0, all, long)

  pub promised_told : promised_by (history fresh calls) ≡ promised now
  promised_told =
      let many = (reached_shaped calls sent).slots in
      let all = owed_over 0 now.slots (λ j low. rw (zero-add j)) in
      rw many at all

pub figures_tallied : FiguresTallied
figures_tallied calls sent =
    sym (figures_done (reached fresh calls) (reached_sound calls sent) (promised (reached fresh calls)) refl)
    ∙ rw (free_told calls sent, promised_told calls sent)

pub free_promised : FreePromised
free_promised calls sent =
    rw (free_told calls sent, promised_told calls sent) (told_rooms (reached fresh calls) (reached_sound calls sent))

pub rows_tallied : RowsTallied
rows_tallied calls sent =
    let h = reached fresh calls in
    let e = reached_sound calls sent in
    let all = held_all (taken_of h.slots) (keys_of h) (counts_of h) (told_right h e) in
    let long = keys_long h 0 (reached_shaped calls sent) e in
    omega (arith, held_over calls sent slot_count 0, all, long, told_within h e)

pub shut_none : ShutNone
shut_none slot calls sent shut = ap (map row_of) ((told_agree slot calls sent).shut shut).1

-- whatever is called and answered, no tally has a key twice
keys_heard : (slot : ℕ) (es : List Said) (t : Heard) → rising (keys_in t.rows) ≡ true
    → rising (keys_in (heard_from slot es t).rows) ≡ true
keys_heard slot [] t e = e
keys_heard slot (x ∷ es) t e = keys_heard slot es (heard slot x t) (go (names slot x.call && is_done x))
  where
    counts : (r : Result) → rising (keys_in (counting r t.rows)) ≡ true
    counts None = e
    counts (Part key) = plus_rising key t.rows e

    follows : (rec : List ℕ) (b : Bool)
        → rising (keys_in (cond b (counting (result_of t.order rec) t.rows) t.rows)) ≡ true
    follows rec true = counts (result_of t.order rec)
    follows rec false = e

    none : rising [] ≡ true
    none = none_rising

    done : (c : Call) → rising (keys_in (done_by c t).rows) ≡ true
    done (Open i floor) = none
    done (Deliver i rec) = follows rec t.begun
    done (Report i long) = e
    done (Close i) = none
    done Figured = e

    go : (b : Bool) → rising (keys_in (cond b (done_by x.call t) t).rows) ≡ true
    go true = done x.call
    go false = e

pub tally_keys : TallyKeys
tally_keys slot es = keys_heard slot es nothing none_rising

-- ---- below its floor

pub never_refused : NeverRefused
never_refused calls slot rec sent bytes below refused = go told.opened refl
  where
    h : House
    h = reached fresh calls

    told : Heard
    told = told_of slot (history fresh calls)

    agrees : Agree slot told h
    agrees = told_agree slot calls sent

    verdict : Verdict
    verdict = verdict_on (slot_at h slot).session rec

    by : (v : Verdict)
        → RefusesOwn (slot_at h slot).session v
        → held_by slot (keys_of h) < (slot_at h slot).floor → answer_by v (room_for h slot v) ≡ NoRoom → ⊥
    by (Refused a) own low is =
        false≢true (sym (ap (λ (x : Answer). own_number (number_of x)) is) ∙ (own a refl).0)
    by (Taken change) own low is = omega (arith, ap number_of is)
    by (Wanted change key) own low is =
        let got = granted_below (room_of h slot) (keys_of h) (row_key slot key) low in
        omega (arith, ap number_of (rw got at is))

    go : (b : Bool) → told.opened ≡ b → ⊥
    go false shut = omega (arith, below, (agrees.shut shut).0)
    go true opened =
        let taken = sym agrees.opened ∙ opened in
        let shape = reached_shaped calls sent in
        let inside : slot < slot_count = omega (arith, open_within h.slots slot taken, shape.slots) in
        let s = (slot_at h slot).session in
        by verdict (judged_refusal s rec)
        (omega (arith, told_held calls sent slot, agrees.floor, below))
        (sym (own_deliver h slot shape (reached_sound calls sent) inside rec bytes taken).answer ∙ refused)
