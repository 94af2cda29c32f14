-- LendingCore and LendingKept of specs/Laws.antt, proved: what a loop of deliveries over lent rows keeps.
-- Assumes nothing.
use mathlib.Core.Path.{◌≡◌, refl, ◌∙◌}
use mathlib.Core.Bool.{Bool, true, false, ◌||◌}
use mathlib.Core.List.{List, [], ◌∷◌}
use Prim.Native.Nat.{ℕ, zero, suc, ◌+◌, ◌-◌, ◌≤◌, ◌<◌}
use native.Mathlib.Omega.{arith}
use borrow.Author.Tests.{lt-ltb, ltb-true, ltb-false, eq-eqb}
use lib.Dec.{ltb}
use lib.ListN.{length, get_or, take, set}
use lib.Seq.{length-take-le}
use Rattle.prelude.proofs.Both.{both_left, both_right}
use Rattle.rising.specs.Rising.{rank, held, all_below}
use Rattle.rising.proofs.Laws.{rank_within, held_rank, below_insert}
use Rattle.rows.specs.Rows.{slot_of, row_key, held_by, Kept, Rows, counted, keys_used, counts_used}
use Rattle.rows.proofs.Changes.{counted_length, counted_used, counted_kept, counted_held_by, counted_more_lem, counted_new_lem}
use Rattle.rows.proofs.Changes.{more_counts, new_counts}
use Rattle.session.specs.declared.Session.{Session}
use Rattle.session.specs.declared.Change.{Change}
use Rattle.session.specs.declared.Verdict.{Verdict}
use Rattle.session.specs.declared.Verdict.TheVariants.{Refused, Taken, Wanted}
use Rattle.settling.specs.Settling.{changed, after}
use Rattle.judging.specs.Judge.{verdict_on}
use Rattle.judging.specs.Laws.{KeyRight}
use Rattle.session.specs.Session as session
use Rattle.session.specs.Session.{cell_count}
use Rattle.session.proofs.Laws.{sound_lent}
use Rattle.judging.proofs.Laws.{judged_sound, judged_key, judged_long}
use Rattle.house.specs.declared.Room.{Room}
use Rattle.house.specs.House.{row_count}
use Rattle.house.specs.Deliver.{Core, core, session_of, granted, row_taken, resulted_if, settled, delivered}
use Rattle.house.specs.Deliver.{past_counts, LentRows}
use Rattle.house.specs.Laws.{Lending, LendingCore, LendingKept}
use Rattle.house.proofs.Laws.{lent_kept}
use Rattle.house.proofs.Delivering.{granted_room}

pub lending_core : LendingCore
lending_core room c most l =
    record {
      rows = l.rows;
      kept = sound_lent (session_of c) l.cells l.session;
      cells = l.cells;
    }

-- ---- counts below a bound

below_weaker : (b d : ℕ) (xs : List ℕ) → b ≤ d → all_below b xs ≡ true → all_below d xs ≡ true
unfolding all_below
below_weaker b d [] h e = refl
below_weaker b d (x ∷ xs) h e =
    let low = ltb-true x b (both_left (ltb x b) (all_below b xs) e) in
    rw (lt-ltb x d (omega (arith, low)), below_weaker b d xs h (both_right (ltb x b) (all_below b xs) e))

-- one count more by one
below_set : (b : ℕ) (xs : List ℕ) (i : ℕ) → all_below b xs ≡ true → all_below (b + 1) (set xs i (get_or xs i 0 + 1)) ≡ true
unfolding all_below
below_set b [] i e = refl
below_set b (x ∷ xs) zero e =
    let low = ltb-true x b (both_left (ltb x b) (all_below b xs) e) in
    rw (
      lt-ltb (x + 1) (b + 1) (omega (arith, low)),
      below_weaker b (b + 1) xs (omega arith) (both_right (ltb x b) (all_below b xs) e),
    )
below_set b (x ∷ xs) (suc i) e =
    let low = ltb-true x b (both_left (ltb x b) (all_below b xs) e) in
    rw (lt-ltb x (b + 1) (omega (arith, low)), below_set b xs i (both_right (ltb x b) (all_below b xs) e))

-- ---- one part counted

-- one row fewer is free: below the floor one fewer is promised too, else there was one that nobody is promised
room_left : (floor n others used : ℕ) → others + (floor - n) ≤ row_count - used
    → (ltb n floor || ltb (others + (floor - n)) (row_count - used)) ≡ true
    → others + (floor - (1 + n)) ≤ row_count - (used + 1)
room_left floor n others used roomy = go (ltb n floor) refl
  where
    go : (b : Bool) → ltb n floor ≡ b → (b || ltb (others + (floor - n)) (row_count - used)) ≡ true
        → others + (floor - (1 + n)) ≤ row_count - (used + 1)
    go true low f = omega (arith, ltb-true n floor low)
    go false high f = omega (arith, ltb-false n floor high, ltb-true (others + (floor - n)) (row_count - used) f)

module _ (room : Room) (keys counts : List ℕ) (used key : ℕ) (l : LentRows room keys counts used)
    (own : slot_of key ≡ room.slot) (got : granted room (take used keys) key ≡ true) where
  abbrev next : Rows
  next = counted keys counts used key

  kept : Kept keys counts used
  kept = lent_kept keys counts used l.lent

  roomed : held key (take used keys) ≡ false → used < length keys
  roomed new = omega (arith, granted_room room keys counts used key l got new, l.lent.long)

  next_kept : Kept next.keys next.counts next.used
  next_kept = counted_kept keys counts used key kept roomed

  next_long : length next.keys ≡ row_count
  next_long = counted_length keys counts used key kept roomed ∙ l.lent.long

  roomy_by : (b : Bool) → held key (take used keys) ≡ b
      → room.others + (room.floor - held_by room.slot (keys_used next)) ≤ row_count - next.used
  unfolding granted
  roomy_by true there =
      rw (counted_held_by room.slot keys counts used key kept roomed, counted_used keys counts used key, there)
      (omega (arith, l.roomy))
  roomy_by false new =
      let n = held_by room.slot (take used keys) in
      let long = length-take-le used keys (omega (arith, l.lent.long, l.lent.within)) in
      rw (
        counted_held_by room.slot keys counts used key kept roomed,
        counted_used keys counts used key,
        new,
        eq-eqb (slot_of key) room.slot own,
      )
      (room_left room.floor n room.others used l.roomy (rw (new, long) at got))

  below_by : (most : ℕ) → all_below most (take used counts) ≡ true → 1 ≤ most → (b : Bool)
      → held key (take used keys) ≡ b
      → all_below (most + 1) (counts_used next) ≡ true
  below_by most low some true there =
      let at = rank key (take used keys) in
      let long = length-take-le used keys (omega (arith, l.lent.long, l.lent.within)) in
      let inside : at < used = omega (arith, long, (held_rank key (take used keys) l.lent.rises there).0) in
      rw (counted_more_lem keys counts used key there, more_counts keys counts used at inside)
      (below_set most (take used counts) at low)
  below_by most low some false new =
      let at = rank key (take used keys) in
      let long = length-take-le used keys (omega (arith, l.lent.long, l.lent.within)) in
      let inside : at ≤ used = omega (arith, long, rank_within key (take used keys)) in
      rw (
        counted_new_lem keys counts used key new,
        new_counts keys counts used at key inside (omega (arith, roomed new, l.lent.paired, l.lent.long)),
      )
      (below_insert (most + 1) (take used counts) at 1
      (below_weaker most (most + 1) (take used counts) (omega arith) low) (omega arith))

  next_rows : (most : ℕ) → all_below most (take used counts) ≡ true → 1 ≤ most → most < past_counts
      → LentRows room next.keys next.counts next.used
  next_rows most low some few =
      record {
        lent =
            record {
              long = next_long;
              paired = next_kept.paired ∙ next_long;
              within = omega (arith, next_kept.fits, next_long);
              rises = next_kept.rises;
            };
        slot = l.slot;
        low =
            below_weaker (most + 1) past_counts (counts_used next) (omega arith)
            (below_by most low some (held key (take used keys)) refl);
        roomy = roomy_by (held key (take used keys)) refl;
      }

-- ---- any verdict

module _ (room : Room) (c : Core) (most : ℕ) (some : 1 ≤ most) (few : most < past_counts) (l : Lending room c most) where
  abbrev used_counts : List ℕ
  used_counts = take c.used c.counts

  -- the rows as they were, with any sound session
  rows_same : (s : Session) → session.sound s ≡ true → length s.parts ≡ cell_count
      → Lending room (core c.keys c.counts c.used s.standing s.parts) (most + 1)
  rows_same s fine long =
      record {
        rows = l.rows;
        session = fine;
        cells = long;
        below = below_weaker most (most + 1) used_counts (omega arith) l.below;
      }

  wanted_kept : (change : Change) (key : ℕ) → session.sound (changed (session_of c) change) ≡ true
      → length (changed (session_of c) change).parts ≡ cell_count → KeyRight (Wanted change key)
      → (b : Bool) → granted room (take c.used c.keys) (row_key room.slot key) ≡ b
      → Lending room (resulted_if room c change key).core (most + 1)
  unfolding resulted_if row_taken
  wanted_kept change key fine long right true got =
      let own : slot_of (row_key room.slot key) ≡ room.slot = omega (arith, right.0) in
      let row = row_key room.slot key in
      rw got
      (record {
        rows = next_rows room c.keys c.counts c.used row l.rows own got most l.below some few;
        session = fine;
        cells = long;
        below =
            below_by room c.keys c.counts c.used row l.rows own got most l.below some
            (held row (take c.used c.keys)) refl;
      })
  wanted_kept change key fine long right false got = rw got (rows_same (session_of c) l.session l.cells)

  settled_kept : (v : Verdict) → session.sound (after (session_of c) v) ≡ true
      → length (after (session_of c) v).parts ≡ cell_count → KeyRight v
      → Lending room (settled room c v).core (most + 1)
  unfolding settled after
  settled_kept (Refused a) fine long right = rows_same (session_of c) fine long
  settled_kept (Taken change) fine long right = rows_same (changed (session_of c) change) fine long
  settled_kept (Wanted change key) fine long right =
      wanted_kept change key fine long right (granted room (take c.used c.keys) (row_key room.slot key)) refl

pub lending_kept : LendingKept
unfolding delivered
lending_kept room c most rec bytes some few l =
    let s = session_of c in
    settled_kept room c most some few l (verdict_on s rec) (judged_sound s rec bytes l.cells l.session)
    (judged_long s rec l.cells l.session) (judged_key s rec bytes)
