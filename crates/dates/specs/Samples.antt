-- Dates by computation: #103's own and the last one, and texts that are none. Statements only; cases_dates has more.
-- Assumes nothing.
use Rattle.std.specs.Prelude.{◌≡◌, List, [], ◌∷◌, map, ℕ, Some, None}
use Prim.Native.Char.{code}
use Rattle.dates.specs.Dates.{last_time, date_text}
use Rattle.dates.specs.Reading.{date_of}

abbrev pub sample_times : List ℕ
sample_times = 711_879_782 ∷ last_time ∷ []

abbrev pub sample_texts : List (List ℕ)
sample_texts =
    -- 8:23:02 23-JUL-1992
    (code "8" ∷ code ":" ∷ code "2" ∷ code "3" ∷ code ":" ∷ code "0" ∷ code "2" ∷ code " " ∷ code "2" ∷
    code "3" ∷ code "-" ∷ code "J" ∷ code "U" ∷ code "L" ∷ code "-" ∷ code "1" ∷ code "9" ∷ code "9" ∷
    code "2" ∷ []) ∷
    -- 6:28:15 7-FEB-2106
    (code "6" ∷ code ":" ∷ code "2" ∷ code "8" ∷ code ":" ∷ code "1" ∷ code "5" ∷ code " " ∷ code "7" ∷
    code "-" ∷ code "F" ∷ code "E" ∷ code "B" ∷ code "-" ∷ code "2" ∷ code "1" ∷ code "0" ∷ code "6" ∷ []) ∷ []

abbrev pub other_texts : List (List ℕ)
other_texts =
    -- time 0 is missing: 0:00:00 1-JAN-1970
    (code "0" ∷ code ":" ∷ code "0" ∷ code "0" ∷ code ":" ∷ code "0" ∷ code "0" ∷ code " " ∷ code "1" ∷
    code "-" ∷ code "J" ∷ code "A" ∷ code "N" ∷ code "-" ∷ code "1" ∷ code "9" ∷ code "7" ∷ code "0" ∷ []) ∷
    -- an hour with a leading zero: 08:23:02 23-JUL-1992
    (code "0" ∷ code "8" ∷ code ":" ∷ code "2" ∷ code "3" ∷ code ":" ∷ code "0" ∷ code "2" ∷ code " " ∷
    code "2" ∷ code "3" ∷ code "-" ∷ code "J" ∷ code "U" ∷ code "L" ∷ code "-" ∷ code "1" ∷ code "9" ∷
    code "9" ∷ code "2" ∷ []) ∷
    -- 2100 is no leap year: 8:23:02 29-FEB-2100
    (code "8" ∷ code ":" ∷ code "2" ∷ code "3" ∷ code ":" ∷ code "0" ∷ code "2" ∷ code " " ∷ code "2" ∷
    code "9" ∷ code "-" ∷ code "F" ∷ code "E" ∷ code "B" ∷ code "-" ∷ code "2" ∷ code "1" ∷ code "0" ∷
    code "0" ∷ []) ∷
    -- no month has a day 0: 8:23:02 0-JUL-1992
    (code "8" ∷ code ":" ∷ code "2" ∷ code "3" ∷ code ":" ∷ code "0" ∷ code "2" ∷ code " " ∷ code "0" ∷
    code "-" ∷ code "J" ∷ code "U" ∷ code "L" ∷ code "-" ∷ code "1" ∷ code "9" ∷ code "9" ∷ code "2" ∷ []) ∷ []

abbrev pub SamplesWritten : Type 0
SamplesWritten = map date_text sample_times ≡ sample_texts

abbrev pub SamplesRead : Type 0
SamplesRead = map date_of sample_texts ≡ map Some sample_times

abbrev pub OthersRefused : Type 0
OthersRefused = map date_of other_texts ≡ map (λ (s : List ℕ). None) other_texts
