-- Laws of bytes put one after the other, each in the part behind the last ones.
-- Assumes nothing.
use mathlib.Core.Path.{◌≡◌, refl, ap, sym, ◌∙◌}
use mathlib.Core.List.{List, [], ◌++◌, append_assoc, append-nil}
use Prim.Native.Nat.{ℕ, ◌+◌, ◌-◌, ◌≤◌}
use native.Mathlib.Omega.{arith}
use lib.ListN.{length, take, drop, length-append}
use Rattle.output.specs.Placed.{Room, Put}
use Rattle.output.proofs.Laws.{inside, behind, both}

-- of all bytes, those that are put and the rest
pub record Sofar (total done rest old : List ℕ) (n : ℕ) (mid : List ℕ) : Type 0 where
  pub is : total ≡ done ++ rest
  pub room : Room total old
  pub put : Put done old n mid

pub sofar_first : (total old : List ℕ) → Room total old → Sofar total [] total old 0 old
sofar_first total old room = record { is = refl; room = room; put = record { count = refl; laid = refl } }

module _ (total done t rest old : List ℕ) (n : ℕ) (mid : List ℕ) (s : Sofar total done (t ++ rest) old n mid) where
  room_both : Room (done ++ t) old
  room_both =
      omega (
        arith,
        s.room,
        ap length s.is,
        length-append done (t ++ rest),
        length-append t rest,
        length-append done t,
      )

  pub sofar_inside : n ≤ length mid
  sofar_inside = inside done t old room_both mid n s.put

  pub sofar_room : Room t (take (length mid - n) (drop n mid))
  sofar_room = behind done t old room_both mid n s.put

  pub sofar_on : (new : List ℕ) (m : ℕ) → Put t (take (length mid - n) (drop n mid)) m new
      → Sofar total (done ++ t) rest old (n + m) (take n mid ++ (new ++ drop (length mid - n) (drop n mid)))
  sofar_on new m f =
      record {
        is = s.is ∙ sym (append_assoc done t rest);
        room = s.room;
        put = both done t old room_both mid n s.put new m f;
      }

-- .. and the last ones
module _ (total done t old : List ℕ) (n : ℕ) (mid : List ℕ) (s : Sofar total done t old n mid) where
  room_all : Room (done ++ t) old
  room_all = rw s.is at s.room

  pub sofar_last_room : Room t (take (length mid - n) (drop n mid))
  sofar_last_room = behind done t old room_all mid n s.put

  pub sofar_last : (new : List ℕ) (m : ℕ) → Put t (take (length mid - n) (drop n mid)) m new
      → Put total old (n + m) (take n mid ++ (new ++ drop (length mid - n) (drop n mid)))
  sofar_last new m f = rw s.is (both done t old room_all mid n s.put new m f)

pub sofar_done : (total done old : List ℕ) (n : ℕ) (mid : List ℕ) → Sofar total done [] old n mid → Put total old n mid
sofar_done total done old n mid s = rw (s.is, append-nil) s.put
