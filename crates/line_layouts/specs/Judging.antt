-- A line or a record taken apart, or what it is refused with.
--
--   saying, refusing   as this code holds them
--   Judging, said_in    the same with the bytes of the source: a meaning, or an answer
--   held_by             what this code holds of a meaning: the line that says it, or the answer
--   Taken              taken apart by this code: what it means, by bytes that are there
--   Held               .. and the very line that says it, so that nothing is left open
-- Assumes nothing.
use Rattle.std.specs.Prelude.{◌≡◌, List, ℕ, Result, Ok, Err, IfOk}
use Rattle.answers.specs.declared.Answer.{Answer}
use Rattle.line_layouts.specs.declared.Tag.TheVariants as tag
use Rattle.line_layouts.specs.declared.Line.{Line}
use Rattle.line_layouts.specs.Entries.{Meaning, no_fields, meaning_of, AllWithin}

abbrev pub no_line : Line
no_line = record { tag = tag.Pcr; fields = no_fields }

abbrev pub saying : Line → Result Line Answer
saying line = Ok line

abbrev pub refusing : Answer → Result Line Answer
refusing answer = Err answer

pub data Judging : Type 0 where
  Says : Meaning → Judging
  Faulty : Answer → Judging

abbrev pub held_by : Line → Judging → Result Line Answer
held_by line (Says m) = saying line
held_by line (Faulty answer) = refusing answer

abbrev pub said_in : List ℕ → Result Line Answer → Judging
said_in source (Ok line) = Says (meaning_of source line)
said_in source (Err answer) = Faulty answer

pub record Taken (s : List ℕ) (m : Judging) (j : Result Line Answer) : Type 0 where
  pub means : said_in s j ≡ m
  pub there : IfOk j (AllWithin s)

pub record Held (s : List ℕ) (line : Line) (m : Judging) (j : Result Line Answer) : Type 0 where
  pub taken : Taken s m j
  pub is : j ≡ held_by line m
