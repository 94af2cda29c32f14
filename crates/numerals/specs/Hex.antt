-- A word as bytes in hexadecimal. The desk, src/main.rt: hex is lower case, `-` is no bytes.
--
--   nibble_of    a digit's value
--   is_hex       whether a word is bytes, at least one
--   is_no_bytes   whether a word stands for no bytes
--   is_bytes     whether a word is bytes, none among them
--   bytes_of     the bytes that digits say
-- Assumes nothing.
use Rattle.std.specs.Prelude.{Bool, false, cond, ◌&&◌, ◌||◌, not, List, [], ◌∷◌, ℕ, ◌+◌, ◌-◌, ◌*◌, ◌%◌, leb, eqb, length, Option, Some, None}
use Rattle.std.specs.Option.{is_some, unwrap_or}
use Prim.Native.Char.{code}
use Rattle.prelude.specs.Choice.{◌unless◌then◌}
use Rattle.prelude.specs.Each.{each}
use Rattle.digits.specs.Digits.{is_digit}
use Rattle.matching.specs.Matching.{same}

-- the letters that are digits, in lower case
abbrev pub is_letter : ℕ → Bool
is_letter b = leb (code "a") b && leb b (code "f")

unfoldable pub nibble_of : ℕ → Option ℕ
nibble_of b = cond (is_digit b) (Some (b - code "0")) (cond (is_letter b) (Some (b - code "a" + 10)) None)

abbrev pub is_nibble : ℕ → Bool
is_nibble b = is_some (nibble_of b)

unfoldable pub is_hex : List ℕ → Bool
is_hex w =
    false unless leb 1 (length w) then
    false unless not (eqb (length w % 2) 1) then
    each is_nibble w

unfoldable pub is_no_bytes : List ℕ → Bool
is_no_bytes w = same w (code "-" ∷ [])

unfoldable pub is_bytes : List ℕ → Bool
is_bytes w = is_no_bytes w || is_hex w

-- the high digit first; a byte that is no digit counts as 0
unfoldable pub byte_of : ℕ → ℕ → ℕ
byte_of high low = unwrap_or (nibble_of high) 0 * 16 + unwrap_or (nibble_of low) 0

-- two digits a byte: one that is left alone says none, so that `-` says none
abbrev pub bytes_of : List ℕ → List ℕ
bytes_of [] = []
bytes_of (high ∷ []) = []
bytes_of (high ∷ low ∷ rest) = byte_of high low ∷ bytes_of rest
