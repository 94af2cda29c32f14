-- What is shown of numbers, once over the width: statements only. Each is proved in proofs/Laws.antt, under its name
-- in small letters.
-- Assumes nothing.
use Rattle.std.specs.Prelude.{◌≡◌, List, ℕ, ◌-◌, ◌<◌, length, get_or, take, drop}
use Rattle.numbers.specs.declared.Order.{Order}
use Rattle.numbers.specs.Numbers.{number, front, written, past}

abbrev pub Bytes : List ℕ → Type 0
Bytes s = (k : ℕ) → get_or s k 0 < 256

-- a number that its width holds, written and read in one order, is the number
abbrev pub ReadWritten : Type 0
ReadWritten = (order : Order) (w n : ℕ) → n < past w → number order (written order w n) ≡ n

-- bytes, read and written in one order, are the bytes
abbrev pub WrittenRead : Type 0
WrittenRead = (order : Order) (s : List ℕ) → Bytes s → written order (length s) (number order s) ≡ s

-- a number takes its width
abbrev pub LengthWritten : Type 0
LengthWritten = (order : Order) (w n : ℕ) → length (written order w n) ≡ w

-- what is read fits its width
abbrev pub NumberBelow : Type 0
NumberBelow = (order : Order) (s : List ℕ) → Bytes s → number order s < past (length s)

-- the part `&s[k..]` begins with the bytes from place k on
abbrev pub FrontPart : Type 0
FrontPart = (w k : ℕ) (s : List ℕ) → front w 0 (take (length s - k) (drop k s)) ≡ front w k s

-- a part of bytes is bytes
abbrev pub PartBytes : Type 0
PartBytes = (s : List ℕ) (at n : ℕ) → Bytes s → Bytes (take n (drop at s))
