-- The room that a text needs.
--
--   most_text   bytes that no text passes
-- Assumes nothing.
use Rattle.std.specs.Prelude.{ℕ}

-- a line for each of 1,024 rows
abbrev pub most_text : ℕ
most_text = 49_152
