-- What transcripts and the desk write of an answer and of a row: no rule, but a form that programs share.
--
--   answer_text   the number of an answer, and the values that it carries, each behind a space
--   row_text      a row: head, site and bin, and its count
-- Assumes nothing.
use Rattle.std.specs.Prelude.{ℕ, List, [], ◌∷◌, ◌++◌, Option, Some, None}
use Prim.Native.Char.{code}
use Rattle.answers.specs.declared.Answer.{Answer}
use Rattle.answers.specs.Numbers.{number_of, values_of}
use Rattle.digits.specs.Digits.{digits}

-- a number, and values behind it
abbrev pub with_values : List ℕ → Option (ℕ × ℕ) → List ℕ
with_values number None = number
with_values number (Some (head, site)) = number ++ code " " ∷ digits head ++ code " " ∷ digits site

abbrev pub answer_text : Answer → List ℕ
answer_text a = with_values (digits (number_of a)) (values_of a)

abbrev pub row_text : ℕ → ℕ → ℕ → ℕ → List ℕ
row_text head site bin count =
    digits head ++ code "/" ∷ digits site ++ code "/" ∷ digits bin ++ code "=" ∷ digits count
