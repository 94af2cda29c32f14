-- Laws of a turn of the program's loop: what a read leaves, that the input comes nearer to its end, and that the stream
-- was followed over all that was read.
-- Assumes nothing.
use Rattle.std.specs.Prelude.{Option, Some, None}
use Rattle.walking.specs.declared.Stop.{Stop}
use mathlib.Core.Path.{◌≡◌, refl, ap, sym, ◌∙◌}
use mathlib.Core.Bool.{Bool, true, false, cond, true≢false, false≢true}
use mathlib.Core.List.{List, [], ◌++◌}
use Prim.Native.Nat.{ℕ, ◌+◌, ◌-◌, ◌≤◌, ◌<◌}
use native.Mathlib.Omega.{arith}
use borrow.Author.Tests.{ltb-true, ltb-false}
use lib.Dec.{ltb}
use lib.ListN.{length, take, drop, length-append, length-drop}
use lib.Seq.{take_at, length-take-le}
use Rattle.output.specs.Placed.{Put}
use Rattle.cutting.specs.Walk.{walked}
use Rattle.tally_lines.proofs.Lines.{put_as}
use Rattle.following.specs.declared.Stream.{Stream}
use Rattle.following.specs.Following.{Progress, progress, followed, begun}
use Rattle.following.specs.Lent.{stream_house, progress_of, Right, Begun, Followed}
use Rattle.following.proofs.Laws.{followed_chunks}
use Rattle.following.proofs.Carry.{right_read}
use Rattle.tallying.specs.Text.{ended, tally_text}
use Rattle.tallying.proofs.Laws.{tally_stopped}
use Rattle.tally.specs.declared.Input.{Input}
use Rattle.tally.specs.Reading.{roomy, plenty, more_after, Reads, Heard, is_going, AtEnd, Through, Told}

-- ---- a read

-- a read behind the held bytes leaves them
pub front_kept : (n : ℕ) (old x : List ℕ) → n ≤ length old → take n (take n old ++ x) ≡ take n old
front_kept n old x h = take_at (take n old) x n (length-take-le n old h)

more_told : (got read : ℕ) → more_after got read ≡ true → (1 ≤ got) × (read < plenty)
more_told got read e = go (ltb got 1) refl e
  where
    go : (t : Bool) → ltb got 1 ≡ t → cond t false (ltb read plenty) ≡ true → (1 ≤ got) × (read < plenty)
    go true few e = absurd (false≢true e)
    go false some e = (ltb-false got 1 some, ltb-true read plenty e)

-- bytes that may still come, and one more while any may
abbrev pub ahead : Input → ℕ
ahead input = cond input.more (1 + (plenty - input.read)) 0

pub nearer : (was : Input) (held : ℕ) (old : List ℕ) (is : Input) (new : List ℕ) → was.more ≡ true
    → was.read < plenty → Reads was held old is new → ahead is < ahead was
nearer was held old is new more low reads = rw more (go is.more refl)
  where
    go : (t : Bool) → is.more ≡ t → cond t (1 + (plenty - is.read)) 0 < 1 + (plenty - was.read)
    go true e = omega (arith, more_told is.got is.read (sym reads.more ∙ e), reads.count, low)
    go false e = omega arith

-- ---- between two reads

pub record Fine (s : Stream) (input : Input) (buf : List ℕ) : Type 0 where
  pub right : Right s buf
  pub long : length buf ≡ roomy
  pub few : s.accepted + s.held ≤ input.read
  pub low : input.more ≡ true → input.read < plenty
  pub much : input.read ≤ plenty + roomy
  pub last : input.more ≡ false → more_after input.got input.read ≡ false
  pub heard : Heard s buf input.read

pub fine_begin : (s : Stream) (buf : List ℕ) → length buf ≡ roomy → Begun s
    → Fine s (record { read = 0; got = 0; more = true }) buf
unfolding walked
fine_begin s buf long b =
    record {
      right = b.right buf;
      long = long;
      few = omega (arith, b.none);
      low = λ e. omega arith;
      much = omega arith;
      last = λ e. absurd (true≢false e);
      heard = record { bytes = []; is = b.is buf; count = refl };
    }

-- a read, and the stream followed over it
module _ (s : Stream) (was : Input) (old : List ℕ) (fine : Fine s was old) (more : was.more ≡ true) (is : Input)
    (mid : List ℕ) (reads : Reads was s.held old is mid) (same : length mid ≡ length old) where
  pub right_mid : Right s mid
  right_mid = right_read s old mid same reads.front fine.right

  pub within_mid : s.held + is.got ≤ length mid
  within_mid = omega (arith, reads.within, same)

  abbrev chunk : List ℕ
  chunk = take is.got (drop s.held mid)

  chunk_long : length chunk ≡ is.got
  chunk_long =
      length-take-le is.got (drop s.held mid) (omega (arith, length-drop s.held mid, within_mid))

  pub fine_on : (r : Stream) (new : List ℕ) → length new ≡ length mid → Followed s mid is.got r new → Fine r is new
  fine_on r new long f =
      let held : progress_of s mid ≡ followed begun fine.heard.bytes
      = ap (λ (l : List ℕ). progress (stream_house s) s.accepted s.fate l) reads.front ∙ fine.heard.is in
      record {
        right = f.right;
        long = long ∙ same ∙ fine.long;
        few = omega (arith, f.fits, fine.few, reads.count);
        low = λ e. (more_told is.got is.read (sym reads.more ∙ e)).1;
        much = omega (arith, reads.count, reads.within, fine.low more, fine.long);
        last = λ e. sym reads.more ∙ e;
        heard =
            record {
              bytes = fine.heard.bytes ++ chunk;
              is =
                  f.is
                  ∙ ap (λ (p : Progress). followed p chunk) held
                  ∙ sym (followed_chunks begun fine.heard.bytes chunk);
              count =
                  length-append fine.heard.bytes chunk
                  ∙ omega (arith, fine.heard.count, chunk_long, reads.count);
            };
      }

-- ---- the end

pub through : (s : Stream) (input : Input) (buf : List ℕ) → Fine s input buf
    → (is_going s.fate ≡ true → input.more ≡ false) → Through (record { stream = s; input = input }) buf
through s input buf fine ends =
    record {
      within = fine.right.within;
      few = omega (arith, fine.few, fine.much);
      heard = fine.heard;
      ended = λ going. fine.last (ends going);
    }

pub told : (s : Stream) (input : Input) (buf : List ℕ) → Through (record { stream = s; input = input }) buf
    → (old : List ℕ) (n : ℕ) (new : List ℕ) → Put (ended (progress_of s buf)) old n new
    → Told old (record { long = n; input = input }) new
told s input buf e old n new put =
    let h = e.heard in
    record {
      bytes = h.bytes;
      count = h.count;
      put = put_as (ap ended h.is) put;
      final = λ more. go more s.fate refl e.ended;
    }
  where
    go : more_after input.got input.read ≡ true → (f : Option Stop) → s.fate ≡ f → AtEnd f input → (more : List ℕ)
        → tally_text (e.heard.bytes ++ more) ≡ tally_text e.heard.bytes
    go open_still None is last more = absurd (true≢false (sym open_still ∙ last refl))
    go open_still (Some why) is last more =
        tally_stopped e.heard.bytes more why (ap (λ (p : Progress). p.fate) (sym e.heard.is) ∙ is)
