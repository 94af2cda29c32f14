-- #102, proved (specs/Assured.antt): a session by itself that is fed chunks, or delivered whole records, is one walk
-- over the same bytes, up to the first record that needs more rows than its floor or is refused.
-- Assumes nothing.
use mathlib.Core.Path.{◌≡◌, refl, ap, sym, subst, ◌∙◌}
use mathlib.Core.Bool.{Bool, true, false, cond, ◌&&◌}
use mathlib.Core.List.{List, [], ◌∷◌, ◌++◌}
use Prim.Native.Nat.{ℕ, ◌+◌, ◌≤◌}
use native.Mathlib.Omega.{arith}
use borrow.Author.Tests.{le-leb, leb-true, eqb-true}
use lib.Dec.{ltb, eqb}
use lib.ListN.{length, take}
use lib.Seq.{take-length}
use Rattle.numbers.specs.Laws.{Bytes}
use Rattle.answers.specs.declared.Answer.{Answer}
use Rattle.answers.specs.declared.Answer.TheVariants.{NotOneRecord}
use Rattle.answers.specs.Numbers.{number_of}
use Rattle.rising.specs.Rising.{rising_from, rising}
use Rattle.rows.specs.Counts.{keys_in}
use Rattle.rows.proofs.Counts.{plus_rising, plus_length}
use Rattle.session.specs.declared.Standing.{Standing}
use Rattle.session.specs.declared.Verdict.{Verdict}
use Rattle.session.specs.declared.Verdict.TheVariants.{Refused, Taken, Wanted}
use Rattle.session.specs.Session.{begun}
use Rattle.session.specs.Verdicts.{verdict_number}
use Rattle.settling.specs.Settling as settling
use Rattle.judging.specs.Judge.{verdict_on}
use Rattle.cutting.specs.Needed.{longest, needed}
use Rattle.cutting.specs.Walk.{Heard, Kept, Turned, Walked, Waits, Stops, judged, walked, joined, state_of, all_fit}
use Rattle.cutting.specs.Laws.{TurnedAt, HeardIs}
use Rattle.cutting.proofs.Walks.{walked_append, walked_stops, walked_turned, walked_again, fit_append, fit_again}
use Rattle.cutting.proofs.Walks.{fit_keeps}
use Rattle.cutting.proofs.Cuts.{cut_alone, cut_fits, needed_most}
use Rattle.house.specs.Feeding.{poured}
use Rattle.house.specs.History as calls
use Rattle.house.proofs.Slots.{answer_by}
use Rattle.house.proofs.Alone.{alone_asks}
use Rattle.nights.specs.Night.{Call, Took, Replied, names, named, AllSent}
use Rattle.nights.specs.Assured.{Seat, Beyond, Goes, course, opened, Granted, Ends, Over, At, ended, Exact}
use Rattle.nights.specs.Assured.{feeds, deliveries, FedAsWhole, FedCuttings}
use Rattle.nights.proofs.Alone.{seat_after, heard_by, heard_alone, alone, fits_alone, own_with, course_alone}
use Rattle.nights.proofs.Alone.{begun_with, opened_course}

-- ---- within the floor

-- a session within its floor, its rows rising
record Roomy (t : Seat) : Type 0 where
  rises : rising (keys_in t.rows) ≡ true
  room : length t.rows ≤ t.floor

-- .. stays so with a record that fits
roomy_after : (t : Seat) (r : List ℕ) → fits_alone t r ≡ true → Roomy t → HeardIs Roomy (alone.hear t r)
roomy_after t r fits is =
    go (ltb longest (needed t.session.standing r)) (verdict_on t.session r)
    (leb-true _ t.floor fits)
  where
    go : (b : Bool) (v : Verdict) → length t.rows + alone_asks t.rows v ≤ t.floor
        → HeardIs Roomy (cond b (Turned NotOneRecord) (heard_by t v))
    go true v few = tt
    go false (Refused a) few = by (eqb (number_of a) 0)
      where
        by : (c : Bool) → HeardIs Roomy (cond c (Kept t) (Turned a))
        by true = is
        by false = tt
    go false (Taken change) few = record { rises = is.rises; room = is.room }
    go false (Wanted change key) few =
        record {
          rises = plus_rising key t.rows is.rises;
          room = omega (arith, few, plus_length key t.rows is.rises);
        }

-- ---- what stops the walk is no 0

turned_not : (t : Seat) (r : List ℕ) (a : Answer) → alone.hear t r ≡ Turned a → eqb (number_of a) 0 ≡ false
turned_not t r a is = go (ltb longest (needed t.session.standing r)) is
  where
    said : (x : Answer) → ◌≡◌ {A = Heard Seat Answer} (Turned x) (Turned a) → eqb (number_of x) 0 ≡ false
        → eqb (number_of a) 0 ≡ false
    said x e p =
        let q : x ≡ a = cc in
        subst (λ (y : Answer). eqb (number_of y) 0 ≡ false) q p

    by : (v : Verdict) (c : Bool) → eqb (number_of (answer_by v true)) 0 ≡ c
        → cond c (Kept (seat_after t v)) (Turned (answer_by v true)) ≡ Turned a → eqb (number_of a) 0 ≡ false
    by v true p e = let zero_one : ◌≡◌ {A = ℕ} 0 1 = cc in absurd (omega arith)
    by v false p e = said (answer_by v true) e p

    go : (b : Bool) → cond b (Turned NotOneRecord) (heard_alone t r) ≡ Turned a → eqb (number_of a) 0 ≡ false
    go true e = said NotOneRecord e refl
    go false e =
        let v = verdict_on t.session r in
        by v (eqb (number_of (answer_by v true)) 0) refl e

-- ---- the walk, and how the calls after it end

stops_fit : (t : Seat) (r : List ℕ) (a : Answer) (rest bs : List ℕ)
    → all_fit alone fits_alone (Stops t r a rest) bs ≡ true
unfolding all_fit
stops_fit t r a rest [] = refl
stops_fit t r a rest (b ∷ bs) = stops_fit t r a (rest ++ b ∷ []) bs

module _ (slot : ℕ) (later : List Call) where
  abbrev ending : Walked Seat Answer → Ends
  ending (Waits t part) = ended (course_alone (own_with t part) later)
  ending (Stops t r a rest) = At a t

  abbrev guarded : Walked Seat Answer → List ℕ → Ends
  guarded w bs = cond (all_fit alone fits_alone w bs) (ending (walked alone w bs)) Over

  guarded_on : (w : Walked Seat Answer) (c more : List ℕ)
      → guarded w (c ++ more) ≡ cond (all_fit alone fits_alone w c) (guarded (walked alone w c) more) Over
  guarded_on w c more =
      rw (fit_append Seat Answer alone fits_alone w c more, walked_append Seat Answer alone w c more)
      (go (all_fit alone fits_alone w c) (all_fit alone fits_alone (walked alone w c) more)
      (ending (walked alone (walked alone w c) more)))
    where
      go : (a b : Bool) (e : Ends) → cond (a && b) e Over ≡ cond a (cond b e Over) Over
      go true b e = refl
      go false b e = refl

  guarded_stops : (t : Seat) (r : List ℕ) (a : Answer) (rest bs : List ℕ) → guarded (Stops t r a rest) bs ≡ At a t
  guarded_stops t r a rest bs = rw (stops_fit t r a rest bs, walked_stops Seat Answer alone t r a rest bs)

  -- ---- chunks

  record Ready (t : Seat) (part : List ℕ) : Type 0 where
    roomy : Roomy t
    waits : walked alone (Waits t []) part ≡ Waits t part
    untested : all_fit alone fits_alone (Waits t []) part ≡ true

  fed_guarded : (t : Seat) (part : List ℕ) (chunks : List (List ℕ)) → Ready t part
      → ended (course_alone (own_with t part) (feeds slot chunks ++ later)) ≡ guarded (Waits t part) (joined chunks)
  unfolding walked all_fit
  fed_guarded t part [] is = refl
  fed_guarded t part (c ∷ cs) is =
      rw (
        le-leb (length t.rows) t.floor is.roomy.room,
        fits_on,
        walk_on,
        guarded_on (Waits t part) c (joined cs),
      )
      (go (all_fit alone fits_alone (Waits t part) c) refl (walked alone (Waits t part) c) walk_on
      (λ fits. fit_keeps Seat Answer alone fits_alone Roomy roomy_after (Waits t part) c fits is.roomy)
      (walked_turned Seat Answer alone (Waits t part) c tt) (λ u p. fed_guarded u p cs))
    where
      fits_on : all_fit alone fits_alone (Waits t []) (part ++ c) ≡ all_fit alone fits_alone (Waits t part) c
      fits_on = fit_append Seat Answer alone fits_alone (Waits t []) part c ∙ rw (is.untested, is.waits)

      walk_on : walked alone (Waits t []) (part ++ c) ≡ walked alone (Waits t part) c
      walk_on =
          walked_append Seat Answer alone (Waits t []) part c
          ∙ ap (λ (w : Walked Seat Answer). walked alone w c) is.waits

      go : (b : Bool) → all_fit alone fits_alone (Waits t part) c ≡ b → (w : Walked Seat Answer)
          → walked alone (Waits t []) (part ++ c) ≡ w
          → (all_fit alone fits_alone (Waits t part) c ≡ true → Roomy (state_of w)) → TurnedAt alone w
          → ((u : Seat) (p : List ℕ) → Ready u p
          → ended (course_alone (own_with u p) (feeds slot cs ++ later)) ≡ guarded (Waits u p) (joined cs))
          → let x = poured (length c) w in
          ended
          (cond b
          (Goes (Took x.answer x.taken) x.state
          (course_alone (own_with x.state x.held) (feeds slot cs ++ later))) Beyond)
          ≡ cond b (guarded w (joined cs)) Over
      go false fits w e roomy turned ih = refl
      go true fits (Waits u p) e roomy turned ih =
          ih u p
          (record {
            roomy = roomy fits;
            waits = walked_again Seat Answer alone t u (part ++ c) p e;
            untested = fit_again Seat Answer alone fits_alone t u (part ++ c) p e;
          })
      go true fits (Stops u r a rest) e roomy turned ih =
          rw (turned_not u r a turned) (sym (guarded_stops u r a rest (joined cs)))

  -- ---- records

  record_walked : (t : Seat) (r : List ℕ) → Bytes r → needed t.session.standing r ≡ length r
      → (all_fit alone fits_alone (Waits t []) r ≡ fits_alone t r)
      × (walked alone (Waits t []) r ≡ judged (heard_alone t r) t r)
  record_walked t r bytes is =
      let stand : Seat → Standing = λ (x : Seat). x.session.standing in
      let low = needed_most t.session.standing r bytes in
      let all : take (needed t.session.standing r) r ≡ r = ap (λ (k : ℕ). take k r) is ∙ take-length r in (
        cut_fits Seat Answer stand longest NotOneRecord heard_alone fits_alone t r (omega arith)
            (omega (arith, is, low)) is,
        rw all at
            (cut_alone Seat Answer stand longest NotOneRecord heard_alone t r (omega arith) low (omega (arith, is))),
      )

  delivered_guarded : (t : Seat) (rs : List (List ℕ)) → AllSent (deliveries slot rs ++ later) → Exact t.session rs
      → ended (course_alone (own_with t []) (deliveries slot rs ++ later)) ≡ guarded (Waits t []) (joined rs)
  unfolding walked all_fit settling.after
  delivered_guarded t [] sent exact = refl
  delivered_guarded t (r ∷ rs) sent exact =
      let w = record_walked t r sent.0 exact.0 in
      rw (guarded_on (Waits t []) r (joined rs), w.0, w.1)
      (go (fits_alone t r) (verdict_on t.session r) exact.1 (λ u. delivered_guarded u rs sent.1))
    where
      go : (b : Bool) (v : Verdict) → (verdict_number v ≡ 0 → Exact (settling.after t.session v) rs)
          → ((u : Seat) → Exact u.session rs
          → ended (course_alone (own_with u []) (deliveries slot rs ++ later)) ≡ guarded (Waits u []) (joined rs))
          → ended
          (cond b
          (Goes (Replied (calls.Told (answer_by v true))) (seat_after t v)
          (course_alone (own_with (seat_after t v) []) (deliveries slot rs ++ later))) Beyond)
          ≡ cond b (guarded (judged (heard_by t v) t r) (joined rs)) Over
      go false v x ih = refl
      go true (Refused a) x ih = by (eqb (number_of a) 0) refl
        where
          by : (c : Bool) → eqb (number_of a) 0 ≡ c
              → cond c (ended (course_alone (own_with t []) (deliveries slot rs ++ later))) (At a t)
              ≡ guarded (judged (cond c (Kept t) (Turned a)) t r) (joined rs)
          by true e = ih t (x (eqb-true (number_of a) 0 e))
          by false e = sym (guarded_stops t r a [] (joined rs))
      go true (Taken change) x ih = ih (seat_after t (Taken change)) (x refl)
      go true (Wanted change key) x ih = ih (seat_after t (Wanted change key)) (x refl)

-- ---- two sessions

named_sent : (slot : ℕ) (cs : List Call) → AllSent cs → AllSent (named slot cs)
named_sent slot [] sent = tt
named_sent slot (c ∷ cs) sent = go (names slot c) (named_sent slot cs sent.1)
  where
    go : (b : Bool) → AllSent (named slot cs) → AllSent (cond b (c ∷ named slot cs) (named slot cs))
    go true ih = (sent.0, ih)
    go false ih = ih

module _ (past : List Call) (slot floor : ℕ) (cs : List Call) (sp : AllSent past) (sc : AllSent cs)
    (granted : Granted past slot floor) (later : List Call) where
  abbrev begins : Walked Seat Answer
  begins = Waits (begun_with floor) []

  opened_ends : (own : List Call) → named slot cs ≡ own
      → ended (course slot (opened past slot floor) cs) ≡ ended (course_alone (own_with (begun_with floor) []) own)
  opened_ends own is =
      ap ended
      (opened_course past slot floor cs sp sc granted
      ∙ ap (course_alone (own_with (begun_with floor) [])) is)

  fed_ends : (chunks : List (List ℕ)) → named slot cs ≡ feeds slot chunks ++ later
      → ended (course slot (opened past slot floor) cs) ≡ guarded slot later begins (joined chunks)
  unfolding walked all_fit rising rising_from
  fed_ends chunks is =
      opened_ends (feeds slot chunks ++ later) is
      ∙ fed_guarded slot later (begun_with floor) [] chunks
      (record { roomy = record { rises = refl; room = omega arith }; waits = refl; untested = refl })

  delivered_ends : (rs : List (List ℕ)) → named slot cs ≡ deliveries slot rs ++ later → Exact begun rs
      → ended (course slot (opened past slot floor) cs) ≡ guarded slot later begins (joined rs)
  delivered_ends rs is exact =
      opened_ends (deliveries slot rs ++ later) is
      ∙ delivered_guarded slot later (begun_with floor) rs (subst AllSent is (named_sent slot cs sc)) exact

pub fed_as_whole : FedAsWhole
fed_as_whole past other slot floor cs ds chunks rs later sp so sc sd granted_past granted_other fed told exact same =
    fed_ends past slot floor cs sp sc granted_past later chunks fed
    ∙ ap (guarded slot later (Waits (begun_with floor) [])) same
    ∙ sym (delivered_ends other slot floor ds so sd granted_other later rs told exact)

pub fed_cuttings : FedCuttings
fed_cuttings past other slot floor cs ds chunks pieces later sp so sc sd granted_past granted_other fed told same =
    fed_ends past slot floor cs sp sc granted_past later chunks fed
    ∙ ap (guarded slot later (Waits (begun_with floor) [])) same
    ∙ sym (fed_ends other slot floor ds so sd granted_other later pieces told)
