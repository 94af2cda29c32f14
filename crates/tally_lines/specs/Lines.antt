-- The lines that end a stream. Document 01, "Tally program".
--
--   row_line, lines_of   the HBR line of a row, and the lines of rows
--   refused_line, too_long_line, unfinished_line   the three other endings
--   numbered, said   words and a number, and the end of a line behind it
-- Assumes nothing.
use Rattle.std.specs.Prelude.{ℕ, List, [], ◌∷◌, ◌++◌, Option, Some, None}
use Rattle.std.specs.List.{flat_map}
use Prim.Native.Char.{code}
use Rattle.answers.specs.declared.Answer.{Answer}
use Rattle.answers.specs.Numbers.{number_of, values_of}
use Rattle.house.specs.declared.Row.{Row}
use Rattle.digits.specs.Digits.{digits}
use Rattle.line_layouts.specs.declared.Tag.TheVariants.{Hbr}
use Rattle.line_layouts.specs.Columns.{line_feed}
use Rattle.line_layouts.specs.Entries.{Missing, Number, Meaning}
use Rattle.line_layouts.specs.Layouts.{text_of}

-- one HBR line (head, site, bin, count); its other fields are missing
abbrev pub row_meaning : Row → Meaning
row_meaning r =
    record {
      tag = Hbr;
      entries =
          Number r.head ∷ Number r.site ∷ Number r.bin ∷ Number r.count ∷ Missing ∷ Missing ∷ [];
    }

unfoldable pub row_line : Row → List ℕ
row_line r = text_of (row_meaning r)

-- .. and the lines of rows, one behind another
abbrev pub lines_of : List Row → List ℕ
lines_of rows = flat_map row_line rows

-- `refused `, ` at record `, `, head `, ` site `, `too long`, `unfinished after record `
abbrev pub refused_word : List ℕ
refused_word =
    code "r" ∷ code "e" ∷ code "f" ∷ code "u" ∷ code "s" ∷ code "e" ∷ code "d" ∷ code " " ∷ []

abbrev pub at_record : List ℕ
at_record =
    code " " ∷ code "a" ∷ code "t" ∷ code " " ∷ code "r" ∷ code "e" ∷ code "c" ∷ code "o" ∷ code "r" ∷ code "d" ∷
    code " " ∷ []

abbrev pub head_word : List ℕ
head_word = code "," ∷ code " " ∷ code "h" ∷ code "e" ∷ code "a" ∷ code "d" ∷ code " " ∷ []

abbrev pub site_word : List ℕ
site_word = code " " ∷ code "s" ∷ code "i" ∷ code "t" ∷ code "e" ∷ code " " ∷ []

abbrev pub too_long_word : List ℕ
too_long_word =
    code "t" ∷ code "o" ∷ code "o" ∷ code " " ∷ code "l" ∷ code "o" ∷ code "n" ∷ code "g" ∷ []

abbrev pub unfinished_word : List ℕ
unfinished_word =
    code "u" ∷ code "n" ∷ code "f" ∷ code "i" ∷ code "n" ∷ code "i" ∷ code "s" ∷ code "h" ∷ code "e" ∷ code "d" ∷
    code " " ∷ code "a" ∷ code "f" ∷ code "t" ∷ code "e" ∷ code "r" ∷ code " " ∷ code "r" ∷ code "e" ∷ code "c" ∷
    code "o" ∷ code "r" ∷ code "d" ∷ code " " ∷ []

-- words and a number, and the line's end
abbrev pub numbered : List ℕ → ℕ → List ℕ
numbered words n = words ++ digits n

abbrev pub said : List ℕ → ℕ → List ℕ
said words n = numbered words n ++ line_feed ∷ []

-- #101: a refusal that names a part ends in `, head H site S`
abbrev pub ending : Option (ℕ × ℕ) → List ℕ
ending None = line_feed ∷ []
ending (Some (head, site)) = numbered head_word head ++ said site_word site

abbrev pub at_ending : ℕ → Option (ℕ × ℕ) → List ℕ
at_ending k v = numbered at_record k ++ ending v

abbrev pub refusal : ℕ → Option (ℕ × ℕ) → ℕ → List ℕ
refusal n v k = numbered refused_word n ++ at_ending k v

abbrev pub refused_line : Answer → ℕ → List ℕ
refused_line a k = refusal (number_of a) (values_of a) k

abbrev pub too_long_line : ℕ → List ℕ
too_long_line k = said (too_long_word ++ at_record) k

abbrev pub unfinished_line : ℕ → List ℕ
unfinished_line k = said unfinished_word k
