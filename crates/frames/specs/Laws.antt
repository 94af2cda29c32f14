-- What is shown of frames: statements only. Each is proved in proofs/Laws.antt, under its name in small letters.
-- Assumes nothing.
use Rattle.std.specs.Prelude.{◌≡◌, true, List, ℕ, ◌+◌, ◌≤◌, length}
use Rattle.numbers.specs.declared.Order.{Order}
use Rattle.frames.specs.Frames.{header, rec_len, is_record}

-- one record has its header
abbrev pub RecordHeader : Type 0
RecordHeader = (order : Order) (s : List ℕ) → is_record order s ≡ true → header ≤ length s

-- one record has as many bytes as its header says
abbrev pub RecordLength : Type 0
RecordLength = (order : Order) (s : List ℕ) → is_record order s ≡ true → length s ≡ header + rec_len order s
