-- What is shown of count bodies: statements only. Each is proved in proofs/Laws.antt, under its name in small letters.
-- Assumes nothing.
use Rattle.std.specs.Prelude.{◌≡◌, true, List, ℕ, ◌+◌, ◌≤◌, ◌<◌, length, get_or}
use Rattle.numbers.specs.declared.Order.{Order}
use Rattle.fields.specs.Tables.{fits_body, bin, offset_of}

-- a name that begins in a body that fits is whole: its count byte, and as many bytes as it says
abbrev pub NameWhole : Type 0
NameWhole = (order : Order) (b : List ℕ) → fits_body order bin b ≡ true → offset_of bin 5 < length b
    → offset_of bin 5 + 1 + get_or b (offset_of bin 5) 0 ≤ length b
