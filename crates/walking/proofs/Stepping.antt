-- Laws of one step of a walk over a chunk: a record accepted, refused, too long, or not whole.
-- Assumes nothing.
use Rattle.std.specs.Prelude.{Option, Some, None}
use mathlib.Core.Path.{◌≡◌, refl, ap, sym, ◌∙◌, subst}
use mathlib.Core.Bool.{Bool, true, false, true≢false}
use mathlib.Core.List.{List, [], ◌++◌}
use Prim.Native.Nat.{ℕ, ◌+◌, ◌-◌, ◌≤◌, ◌<◌}
use native.Mathlib.Omega.{arith}
use borrow.Author.Tests.{ne_eqb}
use lib.ListN.{length, take, drop, length-drop}
use lib.Seq.{take_all, drop-drop}
use Rattle.answers.specs.declared.Answer.{Answer}
use Rattle.answers.specs.declared.Answer.TheVariants.{Done}
use Rattle.answers.specs.Numbers.{number_of}
use Rattle.numbers.specs.Laws.{Bytes}
use Rattle.numbers.proofs.Laws.{part_bytes, bytes_append}
use Rattle.rows.specs.Rows.{row_key}
use Rattle.session.specs.declared.Standing.{Standing}
use Rattle.session.specs.declared.Verdict.{Verdict}
use Rattle.session.specs.declared.Verdict.TheVariants as verdict
use Rattle.judging.specs.Judge.{judge}
use Rattle.house.specs.declared.Room.{Room}
use Rattle.house.specs.Deliver.{Core, core, Outcome, outcome, granted, row_taken, resulted_if, settled, delivered}
use Rattle.house.specs.Deliver.{LentCore}
use Rattle.cutting.specs.Needed.{needed, cut}
use Rattle.cutting.specs.Walk.{Heard, Kept, Turned, Walked, Waits, Stops, judged, walked, state_of}
use Rattle.cutting.proofs.Walks.{walked_append, walked_stops}
use Rattle.cutting.proofs.Cuts.{needed_some, cut_record, cut_waits, cut_alone, cut_heard, cut_long}
use Rattle.walking.specs.declared.Stop.{Stop}
use Rattle.walking.specs.declared.Stop.TheVariants.{Refused, TooLong}
use Rattle.walking.specs.declared.Stage.{Stage}
use Rattle.walking.specs.Walking.{Progress, progress, standing, heard, delivering, stage_standing, stage_progress}
use Rattle.walking.specs.Walking.{stage, rest, ends_by}
use Rattle.walking.specs.Lent.{LentTo, Lendable, Walkable, Arrived, leads_by, leads, ahead, Onward, Stepped}

-- the part `&bytes[at..]`
pub rest_all : (bytes : List ℕ) (at : ℕ) → take (length bytes - at) (drop at bytes) ≡ drop at bytes
rest_all bytes at = take_all (length bytes - at) (drop at bytes) (omega (arith, length-drop at bytes))

-- .. tells how long the record at its start is
pub told_needed : (s : Stage) (bytes : List ℕ) {from : Standing} → from ≡ stage_standing s → {n : ℕ}
    → n ≡ needed from (take (length bytes - s.at) (drop s.at bytes)) → n ≡ needed (stage_standing s) (rest s bytes)
told_needed s bytes stands is = is ∙ rw (stands, rest_all bytes s.at)

-- ---- what a record does

-- a refusal changes nothing
settled_same : (room : Room) (c : Core) (v : Verdict) → ((settled room c v).answer ≡ Done → ⊥)
    → (settled room c v).core ≡ c
unfolding settled resulted_if row_taken
settled_same room c (verdict.Refused a) not = refl
settled_same room c (verdict.Taken change) not = absurd (not refl)
settled_same room c (verdict.Wanted change key) not =
    go (granted room (take c.used c.keys) (row_key room.slot key)) refl not
  where
    go : (b : Bool) → granted room (take c.used c.keys) (row_key room.slot key) ≡ b
        → ((settled room c (verdict.Wanted change key)).answer ≡ Done → ⊥)
        → (settled room c (verdict.Wanted change key)).core ≡ c
    go true got = rw got (λ not. absurd (not refl))
    go false got = rw got (λ not. refl)

refused_same : (room : Room) (c : Core) (rec : List ℕ) (o : Outcome) → o ≡ delivered room c rec
    → (number_of o.answer ≡ 0 → ⊥) → o.core ≡ c
unfolding delivered
refused_same room c rec o is not =
    let v = judge c.standing c.parts rec in
    let told : o ≡ settled room c v = is in
    ap (λ (x : Outcome). x.core) told
    ∙ settled_same room c v (λ e. not (ap (λ (x : Outcome). number_of x.answer) told ∙ ap number_of e))

-- what has stopped does not go on
never_going : {why : Stop} → Some why ≡ None → ⊥
never_going e = let no : ◌≡◌ {A = ℕ} 0 1 = cc in omega arith

-- no other answer has this number
pub number_done : (a : Answer) → number_of a ≡ 0 → a ≡ Done
number_done a e = grind arith

module _ (k : ℕ) (o : Outcome) where
  heard_done : number_of o.answer ≡ 0 → heard k o ≡ Kept (progress o.core (k + 1))
  unfolding heard
  heard_done e = rw e

  heard_not : (number_of o.answer ≡ 0 → ⊥) → heard k o ≡ Turned (Refused o.answer)
  unfolding heard
  heard_not e = rw (ne_eqb (number_of o.answer) 0 e)

-- ---- one step

module _ (room : Room) (most : ℕ) (keys counts parts : List ℕ) (s : Stage) (bytes : List ℕ)
    (w : Walkable room most keys counts parts s bytes) (looking : s.more ≡ true) where
  looks : leads room most keys counts parts s bytes
      ≡ walked (delivering room most) (Waits (stage_progress keys counts parts s) []) (rest s bytes)
  looks =
      ap (λ (b : Bool). leads_by b room most s.fate (stage_progress keys counts parts s) (rest s bytes)) looking

  left_long : length (rest s bytes) ≡ length bytes - s.at
  left_long = length-drop s.at bytes

  before : ahead s bytes ≡ 1 + (length bytes - s.at)
  before = rw looking

  -- what is lent to a delivery
  pub lent_step : {from : Standing} → from ≡ stage_standing s → LentCore room keys counts s.used from parts
  unfolding walked
  lent_step stands = rw stands (w.lendable [] (λ k. omega arith))

  module _ (n : ℕ) (is : n ≡ needed (stage_standing s) (rest s bytes)) where
    -- ---- a record at which the walk stays

    module _ (fate : Option Stop) where
      stays : Walkable room most keys counts parts (stage s.used (stage_standing s) s.accepted fate s.at false)
          bytes
      stays =
          record { takes = w.takes; lendable = w.lendable; within = w.within; countable = w.countable }

      stayed : ends_by fate most (stage_progress keys counts parts s) (rest s bytes)
          ≡ leads room most keys counts parts s bytes
          → (fate ≡ None → length (rest s bytes) < most) → {r : Stage}
          → r ≡ stage s.used (stage_standing s) s.accepted fate s.at false
          → Stepped room most keys counts parts s keys counts parts r bytes
      stayed same few told =
          rw told
          (record {
            onward = record { kept = stays; same = same; few = λ e. few; fits = omega arith };
            nearer = omega (arith, before);
          })

    -- it is not whole
    pub step_short : n ≤ most → length bytes - s.at < n → {r : Stage}
        → r ≡ stage s.used (stage_standing s) s.accepted None s.at false
        → Stepped room most keys counts parts s keys counts parts r bytes
    step_short low short =
        let p = stage_progress keys counts parts s in
        let whole = cut_record most (stage_standing s) (rest s bytes) (omega (arith, is, low)) in
        stayed None
        (sym
        (looks
        ∙ cut_waits Progress Stop standing most TooLong _ p (rest s bytes) w.takes
        (omega (arith, left_long, short, is, whole))))
        (λ e. omega (arith, left_long, short, low))

    -- it is too long
    pub step_long : most < n → {r : Stage}
        → r ≡ stage s.used (stage_standing s) s.accepted (Some TooLong) s.at false
        → Stepped room most keys counts parts s keys counts parts r bytes
    step_long long =
        let p = stage_progress keys counts parts s in
        stayed (Some TooLong)
        (sym
        (looks
        ∙ cut_long Progress Stop standing most TooLong _ p (rest s bytes) w.takes (omega (arith, is, long))))
        (λ e. absurd (never_going e))

    -- ---- a record that is there

    module _ (low : n ≤ most) (there : s.at + n ≤ length bytes) (range : Bytes bytes) {from : Standing}
        (stands : from ≡ stage_standing s) (a : Answer) (ks cs : List ℕ) (used : ℕ) (st : Standing) (ps : List ℕ)
        (did : outcome a ks cs used st ps
        ≡ delivered room (core keys counts s.used from parts) (take (s.at + n - s.at) (drop s.at bytes)))
      where
        size : s.at + n - s.at ≡ n
        size = omega arith

        -- the delivery, as the machine has it
        did_here : outcome a ks cs used st ps
            ≡ delivered room (stage_progress keys counts parts s).core
            (take (needed (stage_standing s) (rest s bytes)) (rest s bytes))
        did_here = did ∙ rw (stands, size, is)

        -- the record alone, and the bytes behind it
        alone : (v : Heard Progress Stop) → heard s.accepted (outcome a ks cs used st ps) ≡ v
            → walked (delivering room most) (Waits (stage_progress keys counts parts s) []) (take n (rest s bytes))
            ≡ judged v (stage_progress keys counts parts s) (take n (rest s bytes))
        alone v e =
            let p = stage_progress keys counts parts s in
            let rec = take (needed (stage_standing s) (rest s bytes)) (rest s bytes) in
            rw is
            (cut_alone Progress Stop standing most TooLong _ p (rest s bytes) w.takes (omega (arith, is, low))
            (omega (arith, is, left_long, there))
            ∙ ap (λ (x : Heard Progress Stop). judged x p rec)
            (ap (λ (o : Outcome). heard s.accepted o) (sym did_here) ∙ e))

        onwards : (v : Heard Progress Stop) → heard s.accepted (outcome a ks cs used st ps) ≡ v
            → leads room most keys counts parts s bytes
            ≡ walked (delivering room most) (judged v (stage_progress keys counts parts s) (take n (rest s bytes)))
            (drop (s.at + n) bytes)
        onwards v e =
            let p = stage_progress keys counts parts s in
            let rec = take (needed (stage_standing s) (rest s bytes)) (rest s bytes) in
            looks
            ∙ cut_heard Progress Stop standing most TooLong _ p (rest s bytes) w.takes (omega (arith, is, low))
            (omega (arith, is, left_long, there))
            ∙ ap (λ (x : Heard Progress Stop). walked (delivering room most) (judged x p rec)
            (drop (needed (stage_standing s) (rest s bytes)) (rest s bytes)))
            (ap (λ (o : Outcome). heard s.accepted o) (sym did_here) ∙ e)
            ∙ rw (← is, drop-drop n s.at bytes)

        -- what may be lent before an accepted record may be lent after it
        lends_on : (q : Progress) → heard s.accepted (outcome a ks cs used st ps) ≡ Kept q → Lendable room most q
        lends_on q e more h =
            let p = stage_progress keys counts parts s in
            let m = delivering room most in
            let rec = take n (rest s bytes) in
            subst (λ (x : Walked Progress Stop). LentTo room (state_of x))
            (walked_append Progress Stop m (Waits p []) rec more
            ∙ ap (λ (x : Walked Progress Stop). walked m x more) (alone (Kept q) e))
            (w.lendable (rec ++ more) (bytes_append rec more (part_bytes bytes s.at n range) h))

        pub step_accepted : number_of a ≡ 0
            → Stepped room most keys counts parts s ks cs ps
            (stage used st (s.accepted + 1) None (s.at + n) true) bytes
        step_accepted e =
            let p = stage_progress keys counts parts s in
            let q = progress (core ks cs used st ps) (s.accepted + 1) in
            let some = needed_some (stage_standing s) (rest s bytes) in
            let done = heard_done s.accepted (outcome a ks cs used st ps) e in
            record {
              onward =
                  record {
                    kept =
                        record {
                          takes = w.takes;
                          lendable = lends_on q done;
                          within = there;
                          countable = omega (arith, w.countable, some, is);
                        };
                    same = sym (onwards (Kept q) done);
                    few = λ e f. absurd (true≢false e);
                    fits = omega (arith, some, is);
                  };
              nearer = omega (arith, before, some, is);
            }

        pub step_refused : (number_of a ≡ 0 → ⊥) → {r : Stage}
            → r ≡ stage used st s.accepted (Some (Refused a)) s.at false
            → Stepped room most keys counts parts s ks cs ps r bytes
        step_refused not told =
            let p = stage_progress keys counts parts s in
            let same_core : core ks cs used st ps ≡ core keys counts s.used (stage_standing s) parts
            = refused_same room (core keys counts s.used (stage_standing s) parts) (take n (rest s bytes))
            (outcome a ks cs used st ps) (did ∙ rw (stands, size)) not in
            let whole = cut_record most (stage_standing s) (rest s bytes) (omega (arith, is, low)) ∙ sym is in
            let stops = walked_stops Progress Stop (delivering room most) p (take n (rest s bytes)) (Refused a) []
            (drop (s.at + n) bytes) in
            rw told
            (record {
              onward =
                  record {
                    kept =
                        record {
                          takes = w.takes;
                          lendable =
                              subst (λ (c : Core). Lendable room most (progress c s.accepted)) (sym same_core)
                              w.lendable;
                          within = w.within;
                          countable = w.countable;
                        };
                    same =
                        ap
                        (λ (c : Core).
                        let m = cut most c.standing (rest s bytes) in
                        Stops (progress c s.accepted) (take m (rest s bytes)) (Refused a) (drop m (rest s bytes)))
                        same_core
                        ∙ ap (λ (m : ℕ). Stops p (take m (rest s bytes)) (Refused a) (drop m (rest s bytes))) whole
                        ∙ ap (λ (l : List ℕ). Stops p (take n (rest s bytes)) (Refused a) l) (drop-drop n s.at bytes)
                        ∙ sym stops
                        ∙ sym (onwards (Turned (Refused a)) (heard_not s.accepted (outcome a ks cs used st ps) not));
                    few = λ e f. absurd (never_going f);
                    fits = omega arith;
                  };
              nearer = omega (arith, before);
            })

-- ---- step after step

module _ (room : Room) (most : ℕ) (keys counts parts : List ℕ) (s : Stage) (bytes : List ℕ) where
  pub onward_none : Walkable room most keys counts parts s bytes → s.more ≡ true
      → Onward room most keys counts parts s keys counts parts s bytes
  onward_none w looking =
      record {
        kept = w;
        same = refl;
        few = λ e f. absurd (true≢false (sym looking ∙ e));
        fits = omega arith;
      }

  pub onward_on : {ks cs ps : List ℕ} {r : Stage} (ks' cs' ps' : List ℕ) (r' : Stage)
      → Onward room most keys counts parts s ks cs ps r bytes → Onward room most ks cs ps r ks' cs' ps' r' bytes
      → Onward room most keys counts parts s ks' cs' ps' r' bytes
  onward_on ks' cs' ps' r' a b =
      record {
        kept = b.kept;
        same = b.same ∙ a.same;
        few = b.few;
        fits = omega (arith, a.fits, b.fits);
      }

  -- a walk that looks no further has arrived
  pub arrived : (ks cs ps : List ℕ) (r : Stage) → s.more ≡ true → r.more ≡ false
      → Onward room most keys counts parts s ks cs ps r bytes
      → Arrived room most keys counts parts s ks cs ps r bytes
  arrived ks cs ps r looking done o =
      record {
        is =
            let p = stage_progress keys counts parts s in
            sym
            (ap (λ (b : Bool). leads_by b room most r.fate (stage_progress ks cs ps r) (rest r bytes)) done)
            ∙ o.same
            ∙ ap (λ (b : Bool). leads_by b room most s.fate p (rest s bytes)) looking;
        lends = o.kept.lendable;
        within = o.kept.within;
        few = o.few done;
        fits = o.fits;
      }
