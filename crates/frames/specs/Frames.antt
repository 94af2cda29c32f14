-- The frame of a record. Document 01, "Record frame and kinds", its first sentence.
--
--   rec_len, rec_typ, rec_sub, body   what a record's header says, and what stands behind it
--   is_record                       whether bytes are exactly one record: 3 where they are not
-- Assumes nothing.
use Rattle.std.specs.Prelude.{ℕ, ◌-◌, Bool, ◌&&◌, List, eqb, leb, length, get_or, drop}
use Rattle.numbers.specs.declared.Order.{Order}
use Rattle.numbers.specs.Numbers.{number, front}

-- bytes of the header
abbrev pub header : ℕ
header = 4

-- REC_LEN, U*2: the bytes after the header
abbrev pub rec_len : Order → List ℕ → ℕ
rec_len order s = number order (front 2 0 s)

abbrev pub rec_typ : List ℕ → ℕ
rec_typ s = get_or s 2 0

abbrev pub rec_sub : List ℕ → ℕ
rec_sub s = get_or s 3 0

abbrev pub body : List ℕ → List ℕ
body s = drop header s

-- a whole header, and as many bytes behind it as it says
unfoldable pub is_record : Order → List ℕ → Bool
is_record order s = leb header (length s) && eqb (length s - header) (rec_len order s)
