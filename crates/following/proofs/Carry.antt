-- Laws of a chunk: what is followed from chunk to chunk.
-- Assumes nothing.
use Rattle.std.specs.Prelude.{Option, Some, None}
use mathlib.Core.Path.{◌≡◌, refl, ap, sym, subst, ◌∙◌}
use mathlib.Core.Bool.{true}
use mathlib.Core.List.{List, []}
use Prim.Native.Nat.{ℕ, ◌+◌, ◌-◌, ◌≤◌, ◌<◌}
use native.Mathlib.Omega.{arith}
use lib.ListN.{length, take, drop, length-drop}
use lib.Seq.{take-add, length-take-le}
use Rattle.numbers.specs.Laws.{Bytes}
use Rattle.session.specs.declared.Standing.{Standing}
use Rattle.session.specs.Session.{cell_count}
use Rattle.house.specs.declared.Room.{Room}
use Rattle.house.specs.House.{row_count, sound}
use Rattle.house.specs.Deliver.{Core, core}
use Rattle.house.specs.Laws.{Shaped}
use Rattle.cutting.specs.Walk.{Walked, Waits, Stops, walked, behind}
use Rattle.cutting.specs.Laws.{WalkLike, Same}
use Rattle.cutting.proofs.Walks.{walked_append, walked_stops, walked_again}
use Rattle.cutting.proofs.Moves.{drop_take}
use Rattle.walking.specs.declared.Stop.{Stop}
use Rattle.walking.specs.declared.Stage.{Stage}
use Rattle.walking.specs.Walking as walking
use Rattle.walking.specs.Walking.{delivering, stage_standing, rest, ends_by}
use Rattle.walking.specs.Lent.{past_count, Walkable, Arrived}
use Rattle.following.specs.declared.Stream.{Stream}
use Rattle.following.specs.Following.{Reached, reached, hearing, most_length, Progress, progress, seen}
use Rattle.following.specs.Following.{resumed_by, followed}
use Rattle.following.specs.Lent.{alone_house, alone_room, stream_core, stream_house, progress_of, staged, kept_from}
use Rattle.following.specs.Lent.{Right, Followed}
use Rattle.following.proofs.Alone.{alone_shaped, Like, stream_alike, lendable}

-- what has stopped does not go on
never_going : {why : Stop} → Some why ≡ None → ⊥
never_going e = let no : ◌≡◌ {A = ℕ} 0 1 = cc in omega arith

-- ---- other bytes behind the held ones

-- a stream is as it was where the held bytes are
pub right_read : (s : Stream) (old new : List ℕ) → length new ≡ length old
    → take s.held new ≡ take s.held old → Right s old → Right s new
right_read s old new long same r =
    record {
      fine = r.fine;
      within = omega (arith, r.within, long);
      few = r.few;
      waits = rw same r.waits;
    }

-- ---- a chunk after the stream has stopped

stays : (q : Reached) (why : Stop) (bytes : List ℕ)
    → walked hearing (Stops q [] why []) bytes ≡ Stops q [] why bytes
stays q why bytes = walked_stops Reached Stop hearing q [] why [] bytes

module _ (s : Stream) (buf : List ℕ) (got : ℕ) (right : Right s buf) (why : Stop) (e : s.fate ≡ Some why) where
  -- no byte is held
  none : take s.held buf ≡ []
  none =
      let q = reached (stream_house s) s.accepted in
      ap behind (sym (stays q why (take s.held buf)))
      ∙ ap behind
      (subst
      (λ (f : Option Stop). walked hearing (resumed_by f q []) (take s.held buf) ≡ resumed_by f q (take s.held buf)) e
      right.waits)

  same : progress_of s buf ≡ followed (progress_of s buf) (take got (drop s.held buf))
  same =
      let q = reached (stream_house s) s.accepted in
      subst
      (λ (f : Option Stop).
      progress (stream_house s) s.accepted f (take s.held buf)
      ≡ seen (walked hearing (resumed_by f q (take s.held buf)) (take got (drop s.held buf)))) (sym e)
      (ap (λ (l : List ℕ). progress (stream_house s) s.accepted (Some why) l) none
      ∙ ap seen (sym (stays q why (take got (drop s.held buf)))))

  pub stopped_stays : Followed s buf got s buf
  stopped_stays = record { right = right; is = same; fits = omega arith }

-- ---- where a walk over what is lent stands, the house's walk stands

-- the bytes that are held of those left
abbrev held_of : Option Stop → List ℕ → List ℕ
held_of None left = left
held_of (Some why) left = []

record Landed (fate : Option Stop) (p : walking.Progress) (left : List ℕ) (v : Walked Reached Stop) : Type 0 where
  fine : sound (alone_house p.core) ≡ true
  is : seen v ≡ progress (alone_house p.core) p.accepted fate (held_of fate left)
  waits : fate ≡ None → v ≡ Waits (reached (alone_house p.core) p.accepted) left

landed : (fate : Option Stop) (p : walking.Progress) (left : List ℕ) (v : Walked Reached Stop)
    → WalkLike Like Same (ends_by fate most_length p left) v → Landed fate p left v
landed None p left (Waits q other) l =
    let same : ◌≡◌ {A = Walked Reached Stop} (Waits q other) (Waits (reached (alone_house p.core) p.accepted) left)
    = rw (l.0.is, l.1) in
    record { fine = l.0.fine; is = ap seen same; waits = λ e. same }
landed None p left (Stops q r why rest) l = absurd l
landed (Some why) p left (Waits q other) l = absurd l
landed (Some why) p left (Stops q r because rest) l =
    record {
      fine = l.0.fine;
      is = rw (l.0.is, l.2);
      waits = λ e. absurd (never_going e);
    }

-- ---- a chunk

module _ (s : Stream) (buf : List ℕ) (got : ℕ) (right : Right s buf) (goes : s.fate ≡ None)
    (there : s.held + got ≤ length buf) (few : s.accepted + (s.held + got) ≤ past_count)
    (long : length s.keys ≡ row_count) (paired : length s.counts ≡ row_count)
    (cells : length s.parts ≡ cell_count) where
  abbrev end : ℕ
  end = s.held + got

  shape : Shaped (stream_house s)
  shape = alone_shaped (stream_core s) long paired cells

  module _ (bytes : List ℕ) (are : bytes ≡ take end buf) where
    size : length bytes ≡ end
    size = ap length are ∙ length-take-le end buf there

    pub walk_begins : {room : Room} → room ≡ alone_room → {stage : Stage} → stage ≡ staged s
        → Walkable room most_length s.keys s.counts s.parts stage bytes × (stage.more ≡ true)
    walk_begins sees is =
        rw (sees, is) (
          record {
            takes = omega arith;
            lendable = lendable (stream_core s) s.accepted shape right.fine;
            within = omega arith;
            countable = omega (arith, size, few);
          },
          refl,
        )

    -- all bytes of the chunk, behind those that were held
    all : seen (walked hearing (Waits (reached (stream_house s) s.accepted) []) bytes)
        ≡ followed (progress_of s buf) (take got (drop s.held buf))
    all =
        let q = reached (stream_house s) s.accepted in
        let waits : walked hearing (Waits q []) (take s.held buf) ≡ Waits q (take s.held buf)
        = subst
        (λ (f : Option Stop).
        walked hearing (resumed_by f q []) (take s.held buf) ≡ resumed_by f q (take s.held buf)) goes right.waits
        in
        ap (λ (l : List ℕ). seen (walked hearing (Waits q []) l)) (are ∙ take-add s.held got buf)
        ∙ ap seen
        (walked_append Reached Stop hearing (Waits q []) (take s.held buf) (take got (drop s.held buf))
        ∙ ap (λ (w : Walked Reached Stop). walked hearing w (take got (drop s.held buf)))
        (waits
        ∙ ap (λ (f : Option Stop). resumed_by f q (take s.held buf)) (sym goes)))

    module _ (range : Bytes bytes) (fate : Option Stop) (c : Core) (k at : ℕ)
        (is : ends_by fate most_length (walking.progress c k) (drop at bytes)
        ≡ walked (delivering alone_room most_length)
        (Waits (walking.progress (stream_core s) s.accepted) []) bytes)
        (within : at ≤ length bytes) (short : fate ≡ None → length (drop at bytes) < most_length)
        (fits : k + (length bytes - at) ≤ s.accepted + length bytes) where
      abbrev here : Walked Reached Stop
      here = walked hearing (Waits (reached (stream_house s) s.accepted) []) bytes

      lands : Landed fate (walking.progress c k) (drop at bytes) here
      lands =
          landed fate (walking.progress c k) (drop at bytes) here
          (subst (λ (w : Walked walking.Progress Stop). WalkLike Like Same w here) (sym is)
          (stream_alike (stream_core s) s.accepted shape right.fine
          bytes range))

      module _ (held : ℕ) (new : List ℕ) (count : held ≡ end - kept_from fate at end)
          (same_long : length new ≡ length buf)
          (moved : take held new ≡ take held (drop (kept_from fate at end) buf)) where
        front : take held new ≡ held_of fate (drop at bytes)
        front = go fate count moved
          where
            go : (f : Option Stop) → held ≡ end - kept_from f at end → take held new ≡ take held (drop (kept_from f at end) buf)
                → take held new ≡ held_of f (drop at bytes)
            go None is moved =
                moved
                ∙ ap (λ (n : ℕ). take n (drop at buf)) is
                ∙ sym (drop_take at end buf)
                ∙ ap (λ (l : List ℕ). drop at l) (sym are)
            go (Some why) is moved =
                let none : held ≡ 0 = omega arith in
                ap (λ (n : ℕ). take n new) none

        held_few : held < most_length
        held_few = go fate count short
          where
            go : (f : Option Stop) → held ≡ end - kept_from f at end → (f ≡ None → length (drop at bytes) < most_length)
                → held < most_length
            go None is small = omega (arith, is, size, length-drop at bytes, small refl)
            go (Some why) is small = omega (arith, is)

        waits : walked hearing (resumed_by fate (reached (alone_house c) k) []) (take held new)
            ≡ resumed_by fate (reached (alone_house c) k) (take held new)
        unfolding walked
        waits = rw front (go fate lands.waits)
          where
            go : (f : Option Stop) → (f ≡ None → here ≡ Waits (reached (alone_house c) k) (drop at bytes))
                → walked hearing (resumed_by f (reached (alone_house c) k) []) (held_of f (drop at bytes))
                ≡ resumed_by f (reached (alone_house c) k) (held_of f (drop at bytes))
            go None is =
                walked_again Reached Stop hearing (reached (stream_house s) s.accepted) (reached (alone_house c) k)
                bytes (drop at bytes) (is refl)
            go (Some why) is = refl

        pub chunk_followed : (guesses : List ℕ)
            → Followed s buf got
            (record {
              keys = c.keys;
              counts = c.counts;
              used = c.used;
              guesses = guesses;
              standing = c.standing;
              parts = c.parts;
              accepted = k;
              fate = fate;
              held = held;
            }) new
        chunk_followed guesses =
            record {
              right =
                  record {
                    fine = lands.fine;
                    within = omega (arith, count, same_long, there);
                    few = held_few;
                    waits = waits;
                  };
              is =
                  ap (λ (l : List ℕ). progress (alone_house c) k fate l) front
                  ∙ sym lands.is
                  ∙ all;
              fits = go fate count;
            }
          where
            go : (f : Option Stop) → held ≡ end - kept_from f at end → k + held ≤ s.accepted + (s.held + got)
            go None is = omega (arith, is, size, fits)
            go (Some why) is = omega (arith, is, size, fits, within)

    -- ---- as the walk tells it

    module _ {room : Room} (sees : room ≡ alone_room) {stage : Stage} (first : stage ≡ staged s) (ks cs ps : List ℕ)
        (w : Stage)
        (arrived : Arrived room most_length s.keys s.counts s.parts stage ks cs ps w bytes) where
      pub walk_ends : {i : ℕ} → i ≡ kept_from w.fate w.at end → i ≤ end
      walk_ends e = rw e (go w.fate)
        where
          go : (f : Option Stop) → kept_from f w.at end ≤ end
          go None = omega (arith, arrived.within, size)
          go (Some why) = omega arith

      pub chunk_told : Bytes bytes → {st : Standing} → st ≡ stage_standing w → {i : ℕ}
          → i ≡ kept_from w.fate w.at end → (held : ℕ) (new : List ℕ) → held ≡ end - i
          → length new ≡ length buf → take held new ≡ take held (drop i buf) → {guesses : List ℕ}
          → Followed s buf got
          (record {
            keys = ks;
            counts = cs;
            used = w.used;
            guesses = guesses;
            standing = st;
            parts = ps;
            accepted = w.accepted;
            fate = w.fate;
            held = held;
          }) new
      chunk_told range stands from held new count same_long moved {guesses} =
          let told : Arrived alone_room most_length s.keys s.counts s.parts (staged s) ks cs ps w bytes
          = subst (λ (r : Room). Arrived r most_length s.keys s.counts s.parts (staged s) ks cs ps w bytes) sees
          (subst (λ (x : Stage). Arrived room most_length s.keys s.counts s.parts x ks cs ps w bytes) first
          arrived) in
          rw stands
          (chunk_followed range w.fate (core ks cs w.used (stage_standing w) ps) w.accepted w.at told.is
          told.within told.few (omega (arith, told.fits)) held new
          (count ∙ ap (λ (n : ℕ). end - n) from) same_long
          (moved ∙ ap (λ (n : ℕ). take held (drop n buf)) from) guesses)
