-- Bytes placed in a lent output. Document 01, "Count lines", a stated offset, and "Refusal numbers", 17.
--
--   part       some bytes of a source
--   Room       a part of the output has room for bytes
--   Put        what a writer that puts bytes at the start of a part returns and leaves
--   Outcome    the answer and every byte of the lent output: what a promise over lent memory is about
--   placed_at   the outcome of placing bytes at an offset
--   Making     the bytes that a call makes, or what it is refused with before an output is looked at
--   placed     the outcome of a call that makes bytes and places them
-- Assumes nothing.
use Rattle.std.specs.Prelude.{◌≡◌, cond, List, ◌++◌, ℕ, ◌+◌, ◌≤◌, leb, length, take, drop, Result, Ok, Err}
use Rattle.answers.specs.declared.Answer.{Answer}
use Rattle.answers.specs.declared.Answer.TheVariants.{OutputTooShort}
use Rattle.numbers.specs.Numbers.{over}

-- len bytes from place at on
abbrev pub part : ℕ → ℕ → List ℕ → List ℕ
part at len source = take len (drop at source)

abbrev pub Room : List ℕ → List ℕ → Type 0
Room bytes old = length bytes ≤ length old

-- the number of bytes, and the bytes laid over the start: every byte behind them stays
pub record Put (bytes old : List ℕ) (r : ℕ) (new : List ℕ) : Type 0 where
  pub count : r ≡ length bytes
  pub laid : new ≡ over bytes old

pub record Outcome : Type 0 where
  pub answer : Result ℕ Answer
  pub output : List ℕ

abbrev pub outcome : Result ℕ Answer → List ℕ → Outcome
outcome answer output = record { answer = answer; output = output }

-- a refusal changes no byte
abbrev pub refused : Answer → List ℕ → Outcome
refused answer old = outcome (Err answer) old

-- the bytes stand at their offset, all other bytes stay; 17: output too short, or its starting place is past its end
unfoldable pub placed_at : List ℕ → List ℕ → ℕ → Outcome
placed_at bytes old at =
    cond (leb (at + length bytes) (length old))
    (outcome (Ok (length bytes)) (take at old ++ (bytes ++ drop (at + length bytes) old)))
    (refused OutputTooShort old)

pub data Making : Type 0 where
  Makes : List ℕ → Making
  Refuses : Answer → Making

-- 17 is the last of the checks
abbrev pub placed : Making → List ℕ → ℕ → Outcome
placed (Makes bytes) old at = placed_at bytes old at
placed (Refuses answer) old at = refused answer old
