-- What is lent and kept while a stream is followed.
--
--   alone_house        the house that slot 0's rows and session stand for, no other slot open
--   alone_room         what slot 0 sees of it
--   progress_of        how far a stream was followed, its held bytes at the front of a buffer
--   Right, Followed   a stream between two chunks, and after one more
-- Assumes nothing.
use Rattle.walking.specs.declared.Stop.{Stop}
use Rattle.std.specs.Prelude.{◌≡◌, true, List, [], ◌∷◌, ℕ, ◌+◌, ◌≤◌, ◌<◌, length, take, drop, replicate, Option, Some, None}
use Rattle.house.specs.declared.House.{House}
use Rattle.house.specs.declared.Room.{Room}
use Rattle.house.specs.House.{row_count, closed_slot, sound}
use Rattle.house.specs.Deliver.{Core, core}
use Rattle.cutting.specs.Walk.{walked}
use Rattle.walking.specs.declared.Stage.{Stage}
use Rattle.walking.specs.Walking.{stage}
use Rattle.following.specs.declared.Stream.{Stream}
use Rattle.following.specs.Following.{Progress, progress, hearing, resumed, followed, most_length, begun}

abbrev pub alone_house : Core → House
alone_house c =
    record {
      keys = c.keys;
      counts = c.counts;
      used = c.used;
      slots =
          record {
            taken = true;
            floor = row_count;
            session = record { standing = c.standing; parts = c.parts };
            held = 0;
          } ∷
          replicate 15 closed_slot;
    }

abbrev pub alone_room : Room
alone_room = record { slot = 0; floor = row_count; others = 0 }

abbrev pub stream_core : Stream → Core
stream_core s = core s.keys s.counts s.used s.standing s.parts

abbrev pub stream_house : Stream → House
stream_house s = alone_house (stream_core s)

abbrev pub progress_of : Stream → List ℕ → Progress
progress_of s buf = progress (stream_house s) s.accepted s.fate (take s.held buf)

-- between two chunks: the house is sound, and the bytes that are held are those of a record that is not whole
pub record Right (s : Stream) (buf : List ℕ) : Type 0 where
  pub fine : sound (stream_house s) ≡ true
  pub within : s.held ≤ length buf
  pub few : s.held < most_length
  pub waits : walked hearing (resumed (progress (stream_house s) s.accepted s.fate [])) (take s.held buf)
      ≡ resumed (progress_of s buf)

-- a chunk more
pub record Followed (s : Stream) (old : List ℕ) (got : ℕ) (r : Stream) (new : List ℕ) : Type 0 where
  pub right : Right r new
  pub is : progress_of r new ≡ followed (progress_of s old) (take got (drop s.held old))
  pub fits : r.accepted + r.held ≤ s.accepted + (s.held + got)

-- nothing has come
pub record Begun (s : Stream) : Type 0 where
  pub right : (buf : List ℕ) → Right s buf
  pub is : (buf : List ℕ) → progress_of s buf ≡ begun
  pub none : s.accepted + s.held ≡ 0

-- ---- a walk over a chunk

-- its first stage
abbrev pub staged : Stream → Stage
staged s = stage s.used s.standing s.accepted None 0 true

-- where the bytes begin that are held after it
abbrev pub kept_from : Option Stop → ℕ → ℕ → ℕ
kept_from None at end = at
kept_from (Some why) at end = end
