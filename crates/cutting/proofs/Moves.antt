-- Laws of bytes moved to the front of a buffer, and of parts of lists.
-- Assumes nothing.
use mathlib.Core.Path.{◌≡◌, sym, ◌∙◌}
use mathlib.Core.List.{List, [], ◌∷◌}
use Prim.Native.Nat.{ℕ, zero, suc, ◌+◌, ◌-◌, ◌≤◌}
use native.Mathlib.Omega.{arith}
use lib.ListN.{length, take, drop, length-drop}
use lib.Seq.{length-take-le, take_at, take-nil}
use Rattle.std.specs.List.{copy_within}

pub drop_take : (a e : ℕ) (l : List ℕ) → drop a (take e l) ≡ take (e - a) (drop a l)
drop_take zero e l = let all : e - 0 ≡ e = omega arith in rw all
drop_take (suc a) zero l = let none : 0 - suc a ≡ 0 = omega arith in rw none
drop_take (suc a) (suc e) [] = sym (take-nil (suc e - suc a))
drop_take (suc a) (suc e) (x ∷ xs) =
    let less : suc e - suc a ≡ e - a = omega arith in
    drop_take a e xs ∙ rw less

-- bytes moved to the front of a buffer
pub moved_front : (at end : ℕ) (buf : List ℕ) → at ≤ end → end ≤ length buf
    → take (end - at) (copy_within buf at end 0) ≡ take (end - at) (drop at buf)
moved_front at end buf h g =
    take_at (take (end - at) (drop at buf)) (drop (0 + (end - at)) buf) (end - at)
    (length-take-le (end - at) (drop at buf) (omega (arith, length-drop at buf)))
