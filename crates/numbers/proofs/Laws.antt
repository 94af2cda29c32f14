-- The statements of specs/Laws.antt, proved, with what the functions' proofs cite besides.
-- Assumes nothing.
use mathlib.Core.Path.{◌≡◌, refl, ap, ◌∙◌}
use mathlib.Core.Bool.{Bool, true, false}
use mathlib.Core.List.{List, [], ◌∷◌, ◌++◌, reverse_aux, reverse-reverse}
use Prim.Native.Nat.{ℕ, zero, suc, ◌+◌, ◌*◌, ◌/◌, ◌%◌, ◌≤◌, ◌<◌}
use native.Mathlib.Nat.{zero-add, add-zero, add-suc}
use native.Mathlib.Omega.{arith}
use borrow.Author.Tests.{ltb-true, ltb-false}
use lib.Dec.{ltb}
use lib.ListN.{length, get_or, take, drop, length-reverse, length-take, get_or-eq_default}
use lib.Seq.{sets, sets-eq, get_or-take, get_or-drop}
use Rattle.prelude.proofs.Parts.{part_from}
use Rattle.numbers.specs.declared.Order.{Order}
use Rattle.numbers.specs.declared.Order.TheVariants.{HighFirst, LowFirst}
use Rattle.numbers.specs.Numbers.{ordered, worth, front, bytes, written, over, past}
use Rattle.numbers.specs.Laws.{Bytes, ReadWritten, WrittenRead, LengthWritten, NumberBelow, FrontPart, PartBytes}

-- ---- low byte first

length_bytes : (w n : ℕ) → length (bytes w n) ≡ w
length_bytes zero n = refl
length_bytes (suc w) n = ap suc (length_bytes w (n / 256))

worth_bytes : (w n : ℕ) → n < past w → worth (bytes w n) ≡ n
worth_bytes zero n h = omega arith
worth_bytes (suc w) n h = omega (arith, worth_bytes w (n / 256) (omega arith))

bytes_worth : (s : List ℕ) → Bytes s → bytes (length s) (worth s) ≡ s
bytes_worth [] h = refl
bytes_worth (b ∷ bs) h =
    let low : (b + 256 * worth bs) % 256 ≡ b = omega (arith, h 0) in
    let rest : (b + 256 * worth bs) / 256 ≡ worth bs = omega (arith, h 0) in
    rw (low, rest) (ap (λ (l : List ℕ). b ∷ l) (bytes_worth bs (λ k. h (suc k))))

worth_below : (s : List ℕ) → Bytes s → worth s < past (length s)
worth_below [] h = omega arith
worth_below (b ∷ bs) h = omega (arith, h 0, worth_below bs (λ k. h (suc k)))

-- ---- either order

bytes_cons : (b : ℕ) (s : List ℕ) → b < 256 → Bytes s → Bytes (b ∷ s)
bytes_cons b s hb hs zero = hb
bytes_cons b s hb hs (suc k) = hs k

bytes_turned : (s t : List ℕ) → Bytes s → Bytes t → Bytes (reverse_aux s t)
bytes_turned [] t hs ht = ht
bytes_turned (b ∷ s) t hs ht = bytes_turned s (b ∷ t) (λ k. hs (suc k)) (bytes_cons b t (hs 0) ht)

no_bytes : Bytes []
no_bytes k = omega arith

ordered_bytes : (order : Order) (s : List ℕ) → Bytes s → Bytes (ordered order s)
ordered_bytes HighFirst s h = bytes_turned s [] h no_bytes
ordered_bytes LowFirst s h = h

ordered_twice : (order : Order) (s : List ℕ) → ordered order (ordered order s) ≡ s
ordered_twice HighFirst s = reverse-reverse s
ordered_twice LowFirst s = refl

length_ordered : (order : Order) (s : List ℕ) → length (ordered order s) ≡ length s
length_ordered HighFirst s = length-reverse s
length_ordered LowFirst s = refl

pub read_written : ReadWritten
read_written order w n h = rw (ordered_twice order (bytes w n)) (worth_bytes w n h)

pub length_written : LengthWritten
length_written order w n = length_ordered order (bytes w n) ∙ length_bytes w n

pub written_read : WrittenRead
written_read order s h =
    rw (← length_ordered order s, bytes_worth (ordered order s) (ordered_bytes order s h)) (ordered_twice order s)

pub number_below : NumberBelow
number_below order s h = rw (← length_ordered order s) (worth_below (ordered order s) (ordered_bytes order s h))

front_drop_from : (w k j : ℕ) (s : List ℕ) → front w j (drop k s) ≡ front w (k + j) s
front_drop_from zero k j s = refl
front_drop_from (suc w) k j s = rw (get_or-drop k s j 0, front_drop_from w k (suc j) s, add-suc)

pub front_part : FrontPart
front_part w k s =
    ap (front w 0) (part_from s k) ∙ front_drop_from w k 0 s
    ∙ rw (add-zero k)

-- past the end of a part there is 0
pub part_bytes : PartBytes
part_bytes s at n low k = go (ltb k n) refl
  where
    go : (t : Bool) → ltb k n ≡ t → get_or (take n (drop at s)) k 0 < 256
    go true e =
        omega (arith, get_or-take n (drop at s) k 0 (ltb-true k n e), get_or-drop at s k 0, low (at + k))
    go false e =
        omega (
          arith,
          get_or-eq_default (take n (drop at s)) 0 {n = k}
              (omega (arith, ltb-false k n e, length-take n (drop at s))),
        )

-- so is what is left of bytes, and bytes one after the other
pub bytes_drop : (n : ℕ) (s : List ℕ) → Bytes s → Bytes (drop n s)
bytes_drop n s h k = rw (get_or-drop n s k 0) (h (n + k))

pub bytes_append : (s t : List ℕ) → Bytes s → Bytes t → Bytes (s ++ t)
bytes_append [] t hs ht k = ht k
bytes_append (b ∷ s) t hs ht zero = hs 0
bytes_append (b ∷ s) t hs ht (suc k) = bytes_append s t (λ j. hs (suc j)) ht k

-- one byte is written as itself in either order
pub one_written : (order : Order) (n : ℕ) → n < 256 → written order 1 n ≡ n ∷ []
one_written HighFirst n h = ap (λ (b : ℕ). b ∷ []) (omega arith)
one_written LowFirst n h = ap (λ (b : ℕ). b ∷ []) (omega arith)

-- stores one after the other, from the start of a part on
pub stored : (old text : List ℕ) → length text ≤ length old → sets old 0 text ≡ over text old
stored old text h = rw (sets-eq text old 0 (omega arith), zero-add)
