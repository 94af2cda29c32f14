-- Laws of hexadecimal: what a digit is at most, a word of digits, and bytes two digits at a time.
-- Assumes nothing.
use Rattle.std.specs.Prelude.{Option, Some, None, IfSome}
use Rattle.std.specs.Option.{unwrap_or}
use Rattle.std.specs.List.{list_all}
use mathlib.Core.Path.{◌≡◌, refl, sym, ap}
use mathlib.Core.Bool.{Bool, ◌&&◌}
use mathlib.Core.List.{List, [], ◌∷◌}
use Prim.Native.Nat.{ℕ, zero, suc, ◌+◌, ◌-◌, ◌*◌, ◌/◌, ◌%◌, ◌≤◌, ◌<◌}
use native.Mathlib.Numerals.{add-one}
use native.Mathlib.Omega.{arith}
use lib.ListN.{length, get_or, take, drop, set, length-drop}
use lib.Seq.{take-suc, get_or-append-add, get_or-drop, length-take-le, take_all}
use Rattle.prelude.specs.Each.{each}
use Rattle.numbers.specs.Numbers.{over}
use Rattle.output.proofs.Laws.{put_end}
use Rattle.numerals.specs.Hex.{byte_of, bytes_of}

-- ---- a digit, and a word of digits

pub nibble_below : (o : Option ℕ) → IfSome o (λ d. d < 16) → unwrap_or o 0 < 16
nibble_below None h = omega arith
nibble_below (Some d) h = h

pub each_all : (passes : ℕ → Bool) (w : List ℕ) → list_all passes w ≡ each passes w
each_all passes [] = refl
each_all passes (b ∷ bs) = ap (λ (t : Bool). passes b && t) (each_all passes bs)

-- ---- bytes

pub bytes_half : (s : List ℕ) → length (bytes_of s) ≡ length s / 2
bytes_half [] = refl
bytes_half (h ∷ []) = refl
bytes_half (h ∷ l ∷ rest) = omega (arith, bytes_half rest)

pub bytes_at : (s : List ℕ) (i : ℕ) → i < length s / 2
    → get_or (bytes_of s) i 0 ≡ byte_of (get_or s (2 * i) 0) (get_or s (2 * i + 1) 0)
bytes_at [] i h = absurd (omega arith)
bytes_at (a ∷ []) i h = absurd (omega arith)
bytes_at (a ∷ b ∷ rest) zero h = refl
bytes_at (a ∷ b ∷ rest) (suc i) h = rw (second, first, bytes_at rest i (omega arith))
  where
    first : 2 * suc i ≡ suc (suc (2 * i))
    first = omega arith

    second : 2 * suc i + 1 ≡ suc (suc (2 * i + 1))
    second = omega arith

-- ---- laid over the line that they stand in, byte by byte

module _ (line : List ℕ) (from : ℕ) (h : from ≤ length line) where
  digits_long : length (drop from line) ≡ length line - from
  digits_long = length-drop from line

  module _ (i : ℕ) (low : i < (length line - from) / 2) where
    few : i < length (bytes_of (drop from line))
    few = omega (arith, bytes_half (drop from line), digits_long)

    -- what is still to be read stands as it stood
    pub unread : (k : ℕ) → i ≤ k → get_or (over (take i (bytes_of (drop from line))) line) k 0 ≡ get_or line k 0
    unread k g =
        let t = take i (bytes_of (drop from line)) in
        let long : length t ≡ i = length-take-le i (bytes_of (drop from line)) (omega (arith, few)) in
        let at : k ≡ length t + (k - i) = omega (arith, long) in
        rw (
          ap (λ (j : ℕ). get_or (over t line) j 0) at,
          get_or-append-add t (drop (length t) line) (k - i) 0,
          get_or-drop (length t) line (k - i) 0,
        )
        (ap (λ (j : ℕ). get_or line j 0) (sym at))

    pub laid_more : set (over (take i (bytes_of (drop from line))) line) i
        (byte_of (get_or line (from + 2 * i) 0) (get_or line (from + 2 * i + 1) 0))
        ≡ over (take (i + 1) (bytes_of (drop from line))) line
    laid_more =
        let b = bytes_of (drop from line) in
        let next : from + (2 * i + 1) ≡ from + 2 * i + 1 = omega arith in
        let at : get_or b i 0 ≡ byte_of (get_or line (from + 2 * i) 0) (get_or line (from + 2 * i + 1) 0) =
        rw (
          bytes_at (drop from line) i (omega (arith, digits_long)),
          get_or-drop from line (2 * i) 0,
          get_or-drop from line (2 * i + 1) 0,
          next,
        ) in
        rw (add-one i, take-suc b i 0 few, at)
        (put_end (take i b) line (byte_of (get_or line (from + 2 * i) 0) (get_or line (from + 2 * i + 1) 0)) i
        (length-take-le i b (omega (arith, few))) (omega (arith, h, low)))

    -- .. as the walk finds it: the line holds the first bytes already
    pub laid_byte : (now : List ℕ) (b : ℕ) → now ≡ over (take i (bytes_of (drop from line))) line
        → b ≡ byte_of (get_or now (from + 2 * i) 0) (get_or now (from + 2 * i + 1) 0)
        → set now i b ≡ over (take (i + 1) (bytes_of (drop from line))) line
    laid_byte now b is e =
        rw (e, is, unread (from + 2 * i) (omega arith), unread (from + 2 * i + 1) (omega arith)) laid_more

  pub laid_all : (n : ℕ) → n ≡ (length line - from) / 2
      → over (take n (bytes_of (drop from line))) line ≡ over (bytes_of (drop from line)) line
  laid_all n e =
      rw (take_all n (bytes_of (drop from line)) (omega (arith, e, bytes_half (drop from line), digits_long)))
