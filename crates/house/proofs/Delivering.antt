-- Laws of a delivery over lent rows, as the functions' proofs cite them.
-- Assumes nothing.
use Rattle.std.specs.Prelude.{Option, Some, None}
use mathlib.Core.Path.{◌≡◌, refl, ap, ◌∙◌}
use mathlib.Core.Bool.{Bool, true, false, ◌||◌}
use mathlib.Core.List.{List, [], ◌∷◌}
use Prim.Native.Nat.{ℕ, zero, suc, ◌+◌, ◌-◌, ◌≤◌, ◌<◌}
use native.Mathlib.Omega.{arith}
use borrow.Author.Tests.{lt-ltb, le-ltb, ltb-true}
use lib.Dec.{ltb}
use lib.ListN.{length, get_or, take, set}
use lib.Seq.{get_or-take, length-take-le}
use Rattle.prelude.proofs.Both.{both_left, both_right}
use Rattle.answers.specs.declared.Answer.{Answer}
use Rattle.answers.specs.declared.Answer.TheVariants as answer
use Rattle.rising.specs.Rising.{rank, held, all_below}
use Rattle.rising.proofs.Laws.{held_rank}
use Rattle.rows.specs.Rows.{held_by, row_key, Rows, rows, counted, Countable}
use Rattle.session.specs.declared.Session.{Session}
use Rattle.session.specs.declared.Standing.{Standing}
use Rattle.session.specs.declared.Change.{Change}
use Rattle.session.specs.declared.Verdict.{Verdict}
use Rattle.session.specs.declared.Verdict.TheVariants.{Refused, Taken, Wanted}
use Rattle.session.specs.Verdicts.{stands}
use Rattle.settling.specs.Settling.{changed}
use Rattle.settling.proofs.Laws.{changed_stands}
use Rattle.judging.specs.Judge.{judge}
use Rattle.house.specs.declared.Room.{Room}
use Rattle.house.specs.House.{row_count}
use Rattle.house.specs.Deliver.{granted, rowed, row_taken, outcome, told, session_of, resulted_if, settled}
use Rattle.house.specs.Deliver.{delivered, Core, cell_of, noted, guessed, past_counts, LentRows}
use Rattle.house.proofs.Laws.{lent_kept}

-- ---- the grant rules

module _ (room : Room) (keys : List ℕ) (key : ℕ) where
  pub granted_held : held key keys ≡ true → granted room keys key ≡ true
  unfolding granted
  granted_held e = rw e

  module _ (new : held key keys ≡ false) (n : ℕ) (is : n ≡ held_by room.slot keys) where
    pub granted_floor : n < room.floor → granted room keys key ≡ true
    unfolding granted
    granted_floor h = rw (new, ← is, lt-ltb n room.floor h)

    pub granted_spare : room.floor ≤ n → (used : ℕ) → length keys ≡ used
        → granted room keys key ≡ ltb room.others (row_count - used)
    unfolding granted
    granted_spare h used long =
        let none : room.others + (room.floor - n) ≡ room.others = omega arith in
        rw (new, ← is, le-ltb n room.floor h, none, long)

  -- a session below its floor is granted any key
  pub granted_below : held_by room.slot keys < room.floor → granted room keys key ≡ true
  unfolding granted
  granted_below h = go (held key keys) refl
    where
      go : (t : Bool) → held key keys ≡ t → granted room keys key ≡ true
      go true e = rw e
      go false e = rw (e, lt-ltb (held_by room.slot keys) room.floor h)

-- a new key that is granted finds a row
granted_some : (floor n others used : ℕ) → others + (floor - n) ≤ row_count - used
    → (ltb n floor || ltb (others + (floor - n)) (row_count - used)) ≡ true → used < row_count
granted_some floor n others used roomy e = go (ltb n floor) refl e
  where
    go : (t : Bool) → ltb n floor ≡ t → (t || ltb (others + (floor - n)) (row_count - used)) ≡ true → used < row_count
    go true low f = omega (arith, ltb-true n floor low)
    go false high f = omega (arith, ltb-true (others + (floor - n)) (row_count - used) f)

used_long : (room : Room) (keys counts : List ℕ) (used : ℕ) → LentRows room keys counts used
    → length (take used keys) ≡ used
used_long room keys counts used l = length-take-le used keys (omega (arith, l.lent.long, l.lent.within))

pub granted_room : (room : Room) (keys counts : List ℕ) (used key : ℕ) → LentRows room keys counts used
    → granted room (take used keys) key ≡ true → held key (take used keys) ≡ false → used < row_count
unfolding granted
granted_room room keys counts used key l e new =
    granted_some room.floor (held_by room.slot (take used keys)) room.others used l.roomy
    (rw (new, used_long room keys counts used l) at e)

below_at : (b : ℕ) (xs : List ℕ) (i : ℕ) → all_below b xs ≡ true → i < length xs → get_or xs i 0 < b
unfolding all_below
below_at b [] i e h = absurd (omega arith)
below_at b (x ∷ xs) zero e h = ltb-true x b (both_left (ltb x b) (all_below b xs) e)
below_at b (x ∷ xs) (suc i) e h = below_at b xs i (both_right (ltb x b) (all_below b xs) e) (omega arith)

pub countable : (room : Room) (keys counts : List ℕ) (used at key : ℕ) → LentRows room keys counts used
    → at ≡ rank key (take used keys) → granted room (take used keys) key ≡ true → Countable keys counts used at key
countable room keys counts used at key l ranked e =
    record {
      kept = lent_kept keys counts used l.lent;
      ranked = ranked;
      more = λ there.
          let inside = (held_rank key (take used keys) l.lent.rises there).0 in
          let at_used : at < used = omega (arith, inside, used_long room keys counts used l) in
          let counts_long = length-take-le used counts (omega (arith, l.lent.paired, l.lent.within)) in
          let low = below_at past_counts (take used counts) at l.low (omega (arith, counts_long)) in
          omega (arith, rw (get_or-take used counts at 0 at_used) at low);
      room = λ new. omega (arith, granted_room room keys counts used key l e new, l.lent.long);
    }

-- ---- a row for a part result

module _ (room : Room) (keys counts : List ℕ) (used key : ℕ) where
  pub row_taken_lem : granted room (take used keys) key ≡ true → (ks cs : List ℕ) (n : ℕ)
      → rows ks cs n ≡ counted keys counts used key → rowed ks cs (Some n) ≡ row_taken room keys counts used key
  unfolding row_taken
  row_taken_lem e ks cs n is = rw e (ap (λ (r : Rows). rowed r.keys r.counts (Some r.used)) is)

  pub row_none : granted room (take used keys) key ≡ false
      → rowed keys counts None ≡ row_taken room keys counts used key
  unfolding row_taken
  row_none e = rw e

-- ---- a part result

module _ (room : Room) (c : Core) (change : Change) (key k : ℕ) (keyed : k ≡ row_key room.slot key) (ks cs : List ℕ)
    (g : Option ℕ) (is : rowed ks cs g ≡ row_taken room c.keys c.counts c.used k) where
  pub resulted_rows : (n : ℕ) (s : Session) → g ≡ Some n → s ≡ changed (session_of c) change
      → told answer.Done ks cs n s ≡ resulted_if room c change key
  unfolding resulted_if
  resulted_rows n s got then = rw (← keyed, ← is, got, then)

  pub resulted_none : g ≡ None
      → told answer.NoRoom ks cs c.used (session_of c) ≡ resulted_if room c change key
  unfolding resulted_if
  resulted_none got = rw (← keyed, ← is, got)

-- ---- a verdict, and any record

module _ (room : Room) (c : Core) {v : Verdict} where
  pub settled_refused : {a : Answer} → v ≡ Refused a
      → told a c.keys c.counts c.used (session_of c) ≡ settled room c v
  unfolding settled
  settled_refused e = rw e

  pub settled_taken : {change : Change} → v ≡ Taken change → (s : Session) → s ≡ changed (session_of c) change
      → told answer.Done c.keys c.counts c.used s ≡ settled room c v
  unfolding settled
  settled_taken e s then = rw (e, then)

  pub settled_wanted : {change : Change} {key : ℕ} → v ≡ Wanted change key
      → resulted_if room c change key ≡ settled room c v
  unfolding settled
  settled_wanted e = rw e

module _ (room : Room) (c : Core) (rec : List ℕ) where
  pub delivered_settled : {v : Verdict} → v ≡ judge c.standing c.parts rec
      → settled room c v ≡ delivered room c rec
  unfolding delivered
  delivered_settled is = rw is

  -- a record that moves the standing alone
  pub delivered_stands : (next : Standing)
      → judge c.standing c.parts rec ≡ Taken (stands next)
      → outcome answer.Done c.keys c.counts c.used next c.parts ≡ delivered room c rec
  delivered_stands next e =
      settled_taken room c e (record { standing = next; parts = c.parts })
      (changed_stands c.standing c.parts refl)
      ∙ delivered_settled refl

-- ---- what is noted for the next search

module _ (room : Room) (c : Core) {v : Verdict} (guesses : List ℕ) where
  pub guessed_refused : {a : Answer} → v ≡ Refused a → guesses ≡ guessed room c v guesses
  unfolding guessed
  guessed_refused e = rw e

  pub guessed_taken : {change : Change} → v ≡ Taken change → guesses ≡ guessed room c v guesses
  unfolding guessed
  guessed_taken e = rw e

  pub guessed_wanted : {change : Change} {key : ℕ} → v ≡ Wanted change key
      → noted room.slot (take c.used c.keys) key guesses ≡ guessed room c v guesses
  unfolding guessed
  guessed_wanted e = rw e

-- a part result's rank, in its key's cell
pub result_noted : (slot : ℕ) (keys : List ℕ) (key : ℕ) (guesses : List ℕ) {cell k : ℕ} → cell ≡ cell_of key
    → k ≡ row_key slot key → set guesses cell (rank k keys) ≡ noted slot keys key guesses
result_noted slot keys key guesses at keyed = rw (at, keyed)
