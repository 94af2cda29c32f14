-- Laws of a house where slot 0 alone is open: what slot 0 sees and lends of it, and that a stream delivered over what
-- is lent is the stream delivered to the house.
-- Assumes nothing.
use Rattle.std.specs.Prelude.{None}
use mathlib.Core.Path.{◌≡◌, refl, ap, sym, subst, ◌∙◌}
use mathlib.Core.Bool.{Bool, true, false, cond}
use mathlib.Core.List.{List, []}
use Prim.Native.Nat.{ℕ, zero, suc, ◌+◌, ◌-◌, ◌<◌}
use native.Mathlib.Omega.{arith}
use lib.Dec.{leb, ltb, eqb}
use lib.ListN.{length, take, replicate, get_or-replicate}
use Rattle.answers.specs.declared.Answer.TheVariants.{Done}
use Rattle.answers.specs.Numbers.{number_of}
use Rattle.numbers.specs.Laws.{Bytes}
use Rattle.rows.specs.Rows.{slot_count, held_by}
use Rattle.session.specs.Session as session
use Rattle.session.specs.Session.{cell_count}
use Rattle.house.specs.declared.House.{House}
use Rattle.house.specs.declared.Answered.{Answered}
use Rattle.house.specs.declared.Room.{Room}
use Rattle.house.specs.House.{row_count, no_slot, closed_slot, opened_slot, fresh, unfilled, promised_from, promised, sound}
use Rattle.house.specs.Deliver.{Core, core, Outcome, delivered}
use Rattle.house.specs.Calls.{slot_at, answered, open_slot, room_of, with_outcome, deliver}
use Rattle.house.specs.History.{Deliver}
use Rattle.house.specs.Laws.{Shaped}
use Rattle.house.proofs.Calling.{deliver_judged, lent_to, open_done}
use Rattle.house.proofs.Keeping.{deliver_keeps, after_shaped, open_keeps, fresh_sound, fresh_shaped}
use Rattle.cutting.specs.Needed.{needed, cut}
use Rattle.cutting.specs.Walk.{Heard, Kept, Turned, Walked, Waits, Stops, walked, state_of}
use Rattle.cutting.specs.Laws.{HeardLike, WalkLike, Same, Likeness, always}
use Rattle.cutting.proofs.Walks.{walked_ever}
use Rattle.walking.specs.declared.Stop.{Stop}
use Rattle.walking.specs.declared.Stop.TheVariants.{Refused, TooLong}
use Rattle.walking.specs.Walking as walking
use Rattle.walking.specs.Walking.{delivering}
use Rattle.walking.specs.Lent.{LentTo, Lendable}
use Rattle.following.specs.Following.{Reached, reached, standing, heard, hearing, most_length}
use Rattle.following.specs.Lent.{alone_house, alone_room, Begun}

pub alone_shaped : (c : Core) → length c.keys ≡ row_count → length c.counts ≡ row_count
    → length c.parts ≡ cell_count → Shaped (alone_house c)
alone_shaped c long paired cells = record { keys = long; counts = paired; slots = refl; parts = at }
  where
    at : (i : ℕ) → i < slot_count → length (slot_at (alone_house c) i).session.parts ≡ cell_count
    at zero inside = cells
    at (suc i) inside = rw (get_or-replicate 15 i closed_slot no_slot (omega arith))

-- nothing is promised to a closed slot
room_alone : (c : Core) → alone_room ≡ room_of (alone_house c) 0
unfolding promised_from unfilled
room_alone c =
    let held = held_by 0 (take c.used c.keys) in
    let none : row_count - held + 0 - (row_count - held) ≡ 0 = omega arith in
    rw none

-- ---- a record

module _ (c : Core) (shape : Shaped (alone_house c)) (fine : sound (alone_house c) ≡ true) where
  lent_alone : (k : ℕ) → LentTo alone_room (walking.progress c k)
  lent_alone k =
      lent_to (alone_house c) 0 refl (room_alone c) fine shape.keys shape.counts refl (omega arith) refl
      (shape.parts 0 (omega arith))

  module _ (rec : List ℕ) where
    abbrev after : Core
    after = (delivered alone_room c rec).core

    deliver_alone : deliver (alone_house c) 0 rec ≡ answered (delivered alone_room c rec).answer (alone_house after)
    deliver_alone =
        deliver_judged (alone_house c) 0 rec fine (omega arith) refl
        ∙ ap (λ (room : Room). with_outcome (alone_house c) 0 (delivered room c rec)) (sym (room_alone c))

    module _ (bytes : Bytes rec) where
      fine_after : sound (alone_house after) ≡ true
      fine_after = rw deliver_alone at (deliver_keeps (alone_house c) 0 rec bytes shape fine)

      shape_after : Shaped (alone_house after)
      shape_after =
          subst (λ (a : Answered). Shaped a.house) deliver_alone
          (after_shaped (alone_house c) (Deliver 0 rec) bytes shape)

-- ---- the stream over what is lent, and the stream of the house

pub record Like (p : walking.Progress) (q : Reached) : Type 0 where
  pub is : q ≡ reached (alone_house p.core) p.accepted
  pub shape : Shaped (alone_house p.core)
  pub fine : sound (alone_house p.core) ≡ true

heard_alike : (c : Core) (k : ℕ) (rec : List ℕ) → Bytes rec → Shaped (alone_house c) → sound (alone_house c) ≡ true
    → HeardLike Like Same (walking.heard k (delivered alone_room c rec)) (heard k (deliver (alone_house c) 0 rec))
unfolding walking.heard heard
heard_alike c k rec bytes shape fine =
    rw (deliver_alone c shape fine rec)
    (go (delivered alone_room c rec) (shape_after c shape fine rec bytes) (fine_after c shape fine rec bytes)
    (eqb (number_of (delivered alone_room c rec).answer) 0))
  where
    go : (o : Outcome) → Shaped (alone_house o.core) → sound (alone_house o.core) ≡ true → (t : Bool)
        → HeardLike Like Same (cond t (Kept (walking.progress o.core (k + 1))) (Turned (Refused o.answer)))
        (cond t (Kept (reached (alone_house o.core) (k + 1))) (Turned (Refused o.answer)))
    go o shaped sounds true = record { is = refl; shape = shaped; fine = sounds }
    go o shaped sounds false = refl

long_alike : (t : Bool) (x : Heard walking.Progress Stop) (y : Heard Reached Stop) → HeardLike Like Same x y
    → HeardLike Like Same (cond t (Turned TooLong) x) (cond t (Turned TooLong) y)
long_alike true x y h = refl
long_alike false x y h = h

likeness : Likeness walking.Progress Reached Stop Stop (delivering alone_room most_length) hearing always always Like Same
likeness =
    record {
      whole_like = λ p q r l.
          ap (λ (x : Reached). leb (cut most_length (standing x.house) r) (length r)) (sym l.is);
      fits_like = λ p q r bytes l. refl;
      hear_like = λ p q r bytes l passes.
          subst
          (λ (x : Reached).
          HeardLike Like Same
          (cond (ltb most_length (needed p.core.standing r)) (Turned TooLong)
          (walking.heard p.accepted (delivered alone_room p.core r)))
          (cond (ltb most_length (needed (standing x.house) r)) (Turned TooLong)
          (heard x.accepted (deliver x.house 0 r))))
          (sym l.is)
          (long_alike (ltb most_length (needed p.core.standing r))
          (walking.heard p.accepted (delivered alone_room p.core r))
          (heard p.accepted (deliver (alone_house p.core) 0 r))
          (heard_alike p.core p.accepted r bytes l.shape l.fine));
    }

module _ (c : Core) (k : ℕ) (shape : Shaped (alone_house c)) (fine : sound (alone_house c) ≡ true) where
  pub stream_alike : (bytes : List ℕ) → Bytes bytes
      → WalkLike Like Same (walked (delivering alone_room most_length) (Waits (walking.progress c k) []) bytes)
      (walked hearing (Waits (reached (alone_house c) k) []) bytes)
  stream_alike bytes low =
      walked_ever walking.Progress Reached Stop Stop (delivering alone_room most_length) hearing Like Same likeness
      (walking.progress c k) (reached (alone_house c) k) bytes low
      (record { is = refl; shape = shape; fine = fine })

  pub lendable : Lendable alone_room most_length (walking.progress c k)
  lendable bytes low =
      go (walked (delivering alone_room most_length) (Waits (walking.progress c k) []) bytes)
      (walked hearing (Waits (reached (alone_house c) k) []) bytes) (stream_alike bytes low)
    where
      lent : (p : walking.Progress) (q : Reached) → Like p q → LentTo alone_room p
      lent p q l = lent_alone p.core l.shape l.fine p.accepted

      go : (w : Walked walking.Progress Stop) (v : Walked Reached Stop) → WalkLike Like Same w v
          → LentTo alone_room (state_of w)
      go (Waits p part) (Waits q other) l = lent p q l.0
      go (Waits p part) (Stops q r f rest) l = absurd l
      go (Stops p r f rest) (Waits q other) l = absurd l
      go (Stops p r f rest) (Stops q s g other) l = lent p q l.0

-- ---- a stream of which nothing has come

abbrev pub none : List ℕ
none = replicate row_count 0

abbrev pub first : House
first = alone_house (core none none 0 (session.begun).standing (session.begun).parts)

pub first_opened : open_slot fresh 0 row_count ≡ answered Done first
unfolding promised_from unfilled held_by
first_opened =
    open_done fresh 0 row_count fresh_sound (omega arith) (omega arith) refl (omega arith) (opened_slot row_count) refl

first_sound : sound first ≡ true
first_sound = rw first_opened at (open_keeps fresh 0 row_count fresh_shaped fresh_sound)

pub begins : {guesses : List ℕ} → Begun (record {
  keys = none;
  counts = none;
  used = 0;
  guesses = guesses;
  standing = (session.begun).standing;
  parts = (session.begun).parts;
  accepted = 0;
  fate = None;
  held = 0;
})
unfolding walked
begins =
    record {
      right = λ buf. record { fine = first_sound; within = omega arith; few = omega arith; waits = refl };
      is = λ buf. rw first_opened;
      none = refl;
    }
