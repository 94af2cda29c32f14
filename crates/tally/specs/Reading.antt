-- What the program reads, and what it makes of it. No contract says which bytes a read gives: they are those that stand
-- in the buffer after it, behind the bytes that were held.
--
--   more_after   whether more may come after a read
--   Reads       one read more
--   Heard       a stream that was followed over bytes, as many as were read
--   Through     a stream that was followed until it stopped, or to the end of the input
--   Told        the text of bytes, as many as were read
-- Assumes nothing.
use Rattle.walking.specs.declared.Stop.{Stop}
use Rattle.std.specs.Prelude.{◌≡◌, Bool, true, false, cond, List, ◌++◌, ℕ, ◌+◌, ◌≤◌, ltb, length, take, Option, Some, None}
use Rattle.output.specs.Placed.{Put}
use Rattle.walking.specs.Lent.{past_count}
use Rattle.following.specs.declared.Stream.{Stream}
use Rattle.following.specs.Following.{followed, begun}
use Rattle.following.specs.Lent.{progress_of}
use Rattle.tallying.specs.Text.{tally_text}
use Rattle.tally.specs.declared.Input.{Input}
use Rattle.tally.specs.declared.Ended.{Ended}
use Rattle.tally.specs.declared.Text.{Text}

-- the buffer's bytes
abbrev pub roomy : ℕ
roomy = 327_680

-- more bytes than any run reads: a proved loop has to end, and nothing says that the input does
abbrev pub plenty : ℕ
plenty = 4_611_686_018_427_387_904

-- a read that gives nothing is the end of the input
abbrev pub more_after : ℕ → ℕ → Bool
more_after got read = cond (ltb got 1) false (ltb read plenty)

-- a read counts what it gave
pub record Reads (was : Input) (held : ℕ) (old : List ℕ) (is : Input) (new : List ℕ) : Type 0 where
  pub front : take held new ≡ take held old
  pub within : held + is.got ≤ length old
  pub count : is.read ≡ was.read + is.got
  pub more : is.more ≡ more_after is.got is.read

pub record Heard (s : Stream) (buf : List ℕ) (read : ℕ) : Type 0 where
  pub bytes : List ℕ
  pub is : progress_of s buf ≡ followed begun bytes
  pub count : length bytes ≡ read

abbrev pub is_going : Option Stop → Bool
is_going None = true
is_going (Some why) = false

-- a stream that goes on is read to the end of the input
abbrev pub AtEnd : Option Stop → Input → Type 0
AtEnd fate input = is_going fate ≡ true → more_after input.got input.read ≡ false

pub record Through (e : Ended) (buf : List ℕ) : Type 0 where
  pub within : e.stream.held ≤ length buf
  pub few : e.stream.accepted + 1 ≤ past_count
  pub heard : Heard e.stream buf e.input.read
  pub ended : AtEnd e.stream.fate e.input

-- what was read has the text; where more may come, no byte of it would change the text
pub record Told (old : List ℕ) (text : Text) (new : List ℕ) : Type 0 where
  pub bytes : List ℕ
  pub count : length bytes ≡ text.input.read
  pub put : Put (tally_text bytes) old text.long new
  pub final : more_after text.input.got text.input.read ≡ true → (more : List ℕ)
      → tally_text (bytes ++ more) ≡ tally_text bytes
