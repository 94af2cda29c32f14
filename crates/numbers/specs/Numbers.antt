-- Integers of any width in either byte order. Document 01, "Record frame and kinds", CPU_TYPE.
--
--   ordered    bytes as they stand, turned to low byte first; and back, which is the same
--   number     what bytes in an order are worth
--   front      the first bytes of a part, from a place on
--   bytes      the bytes of a number, low byte first
--   written    the bytes of a number in an order
--   over       a part with bytes laid over its start
--   past       the least number that a width does not hold
--   signed     two bytes in two's complement
-- Assumes nothing.
use Rattle.std.specs.Prelude.{ℕ, zero, suc, ◌+◌, ◌-◌, ◌*◌, ◌/◌, ◌%◌, cond, List, [], ◌∷◌, ◌++◌, reverse, ltb, ℤ, pos, negsuc, length, get_or, drop}
use Rattle.numbers.specs.declared.Order.{Order}
use Rattle.numbers.specs.declared.Order.TheVariants.{HighFirst, LowFirst}

abbrev pub ordered : Order → List ℕ → List ℕ
ordered HighFirst s = reverse s
ordered LowFirst s = s

-- low byte first
abbrev pub worth : List ℕ → ℕ
worth [] = 0
worth (b ∷ bs) = b + 256 * worth bs

abbrev pub number : Order → List ℕ → ℕ
number order s = worth (ordered order s)

-- w bytes from place k on
abbrev pub front : ℕ → ℕ → List ℕ → List ℕ
front zero k s = []
front (suc w) k s = get_or s k 0 ∷ front w (suc k) s

abbrev pub bytes : ℕ → ℕ → List ℕ
bytes zero n = []
bytes (suc w) n = n % 256 ∷ bytes w (n / 256)

abbrev pub written : Order → ℕ → ℕ → List ℕ
written order w n = ordered order (bytes w n)

abbrev pub over : List ℕ → List ℕ → List ℕ
over text old = text ++ drop (length text) old

-- 256, w times
abbrev pub past : ℕ → ℕ
past zero = 1
past (suc w) = 256 * past w

-- I*2: the upper half of the two-byte numbers stands for the negative ones
abbrev pub signed : ℕ → ℤ
signed n = cond (ltb n 32768) (pos n) (negsuc (65535 - n))
