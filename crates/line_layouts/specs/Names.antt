-- The bytes of a name. Document 01, "Count lines", Written, names.
--
--   allowed        which bytes a name may hold
--   entry_allowed   whether an entry can be written as text
--   separates      which bytes may stand between fields
-- Assumes nothing.
use Rattle.std.specs.Prelude.{Bool, true, not, ◌&&◌, ℕ, eqb, leb}
use Prim.Native.Char.{code}
use Rattle.prelude.specs.Each.{each}
use Rattle.digits.specs.Digits.{is_digit}
use Rattle.line_layouts.specs.Entries.{Entry, Missing, Number, Text}

-- names hold bytes 32 to 126 without the separator
unfoldable pub allowed : ℕ → ℕ → Bool
allowed sep b = leb 32 b && (leb b 126 && not (eqb b sep))

abbrev pub entry_allowed : ℕ → Entry → Bool
entry_allowed sep Missing = true
entry_allowed sep (Number n) = true
entry_allowed sep (Text bytes) = each (allowed sep) bytes

abbrev pub is_capital : ℕ → Bool
is_capital b = leb (code "A") b && leb b (code "Z")

-- a byte that can be told from those of numbers, P/F and dates, and that neither is a space nor ends a line
unfoldable pub separates : ℕ → Bool
separates b =
    not (is_digit b)
    && (not (is_capital b) && (not (eqb b (code ":")) && (not (eqb b (code "-")) && (leb 33 b && leb b 126))))
