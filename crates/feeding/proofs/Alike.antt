-- The walk over what a slot lends of its house, and the walk over the house.
-- Assumes nothing.
use mathlib.Core.Path.{◌≡◌, refl, ap, sym, subst, ◌∙◌}
use mathlib.Core.Bool.{Bool, true, false, cond}
use mathlib.Core.List.{List, []}
use Prim.Native.Nat.{ℕ, ◌<◌}
use lib.Dec.{eqb, leb, ltb}
use lib.ListN.{length}
use Rattle.answers.specs.declared.Answer.{Answer}
use Rattle.answers.specs.declared.Answer.TheVariants.{NotOneRecord}
use Rattle.answers.specs.Numbers.{number_of}
use Rattle.numbers.specs.Laws.{Bytes}
use Rattle.session.specs.declared.Standing.{Standing}
use Rattle.rows.specs.Rows.{slot_count}
use Rattle.house.specs.declared.House.{House}
use Rattle.house.specs.declared.Slot.{Slot}
use Rattle.house.specs.Deliver.{Core, Outcome, delivered}
use Rattle.house.specs.Calls.{slot_at, room_of, laid, deliver}
use Rattle.house.specs.Feeding.{standing_at, heard, hearing}
use Rattle.house.specs.Laws.{Laid}
use Rattle.house.proofs.Laying.{laid_slot, laid_delivers}
use Rattle.cutting.specs.Needed.{longest, needed, cut}
use Rattle.cutting.specs.Walk.{Kept, Turned, Waits, walked}
use Rattle.cutting.specs.Laws.{HeardLike, WalkLike, Same, Likeness, always}
use Rattle.cutting.proofs.Walks.{walked_ever}
use Rattle.pouring.specs.Pouring.{heard_of, pouring}
use Rattle.pouring.proofs.Alike.{long_alike}

module _ (h : House) (slot : ℕ) (long : length h.slots ≡ slot_count) (inside : slot < slot_count)
    (t : (slot_at h slot).taken ≡ true) where
  pub record Like (c : Core) (g : House) : Type 0 where
    pub is : g ≡ laid h slot c
    pub fits : Laid h slot c

  heard_laid : (c : Core) (rec : List ℕ) → Bytes rec → Laid h slot c
      → HeardLike Like Same (heard_of (delivered (room_of h slot) c rec)) (heard (deliver (laid h slot c) slot rec))
  unfolding heard_of heard
  heard_laid c rec bytes l =
      let did = laid_delivers h slot c rec bytes long inside t l in
      rw did.0
      (go (delivered (room_of h slot) c rec) did.1 (eqb (number_of (delivered (room_of h slot) c rec).answer) 0))
    where
      go : (o : Outcome) → Laid h slot o.core → (b : Bool)
          → HeardLike Like Same (cond b (Kept o.core) (Turned o.answer))
          (cond b (Kept (laid h slot o.core)) (Turned o.answer))
      go o fits true = record { is = refl; fits = fits }
      go o fits false = refl

  standing_laid : (c : Core) → standing_at slot (laid h slot c) ≡ c.standing
  standing_laid c = ap (λ (s : Slot). s.session.standing) (laid_slot h slot c long inside)

  house_likeness : Likeness Core House Answer Answer (pouring (room_of h slot)) (hearing slot) always always Like Same
  house_likeness =
      record {
        whole_like = λ c g r l.
            ap (λ (st : Standing). leb (cut longest st r) (length r))
            (sym (standing_laid c) ∙ ap (standing_at slot) (sym l.is));
        fits_like = λ c g r bytes l. refl;
        hear_like = λ c g r bytes l passes.
            subst
            (λ (x : House).
            HeardLike Like Same
            (cond (ltb longest (needed c.standing r)) (Turned NotOneRecord)
            (heard_of (delivered (room_of h slot) c r)))
            (cond (ltb longest (needed (standing_at slot x) r)) (Turned NotOneRecord) (heard (deliver x slot r))))
            (sym l.is)
            (rw (standing_laid c)
            (long_alike Like Same (ltb longest (needed c.standing r)) NotOneRecord NotOneRecord
            (heard_of (delivered (room_of h slot) c r)) (heard (deliver (laid h slot c) slot r)) refl
            (heard_laid c r bytes l.fits)));
      }

  pub house_alike : (c : Core) → Laid h slot c → (bytes : List ℕ) → Bytes bytes
      → WalkLike Like Same (walked (pouring (room_of h slot)) (Waits c []) bytes)
      (walked (hearing slot) (Waits (laid h slot c) []) bytes)
  house_alike c l bytes low =
      walked_ever Core House Answer Answer (pouring (room_of h slot)) (hearing slot) Like Same house_likeness c
      (laid h slot c) bytes low (record { is = refl; fits = l })
