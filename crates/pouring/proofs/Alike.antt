-- The walk over what is lent, with records counted and without.
-- Assumes nothing.
use Rattle.std.specs.Prelude.{Option, Some, None}
use mathlib.Core.Path.{◌≡◌, refl, ap, sym, subst, ◌∙◌}
use mathlib.Core.Bool.{Bool, true, false, cond}
use mathlib.Core.List.{List, []}
use Prim.Native.Nat.{ℕ, ◌+◌}
use lib.Dec.{eqb, leb, ltb}
use lib.ListN.{length, take, drop}
use Rattle.answers.specs.declared.Answer.{Answer}
use Rattle.answers.specs.declared.Answer.TheVariants.{NotOneRecord}
use Rattle.answers.specs.Numbers.{number_of}
use Rattle.numbers.specs.Laws.{Bytes}
use Rattle.house.specs.declared.Room.{Room}
use Rattle.house.specs.Deliver.{Core, Outcome, delivered}
use Rattle.cutting.specs.Needed.{longest, needed, cut}
use Rattle.cutting.specs.Walk.{Heard, Kept, Turned, Walked, Waits, Stops, walked, state_of}
use Rattle.cutting.specs.Laws.{HeardLike, WalkLike, Likeness, always}
use Rattle.cutting.proofs.Walks.{walked_ever}
use Rattle.walking.specs.declared.Stop.{Stop}
use Rattle.walking.specs.declared.Stop.TheVariants.{Refused, TooLong}
use Rattle.walking.specs.Walking as walking
use Rattle.walking.specs.Walking.{delivering, ends_by}
use Rattle.walking.specs.Lent.{Lendable}
use Rattle.pouring.specs.Pouring.{heard_of, pouring, LentAt, Lends, reason, ends_in}

-- a header that says more than the longest turns a record away in both walks
pub long_alike : {S T F G : Type 0} (Like : S → T → Type 0) (Why : F → G → Type 0) (t : Bool) (f : F) (g : G)
    (x : Heard S F) (y : Heard T G) → Why f g → HeardLike Like Why x y
    → HeardLike Like Why (cond t (Turned f) x) (cond t (Turned g) y)
long_alike Like Why true f g x y why h = why
long_alike Like Why false f g x y why h = h

-- ---- records counted, and not

module _ (room : Room) where
  abbrev Counted : walking.Progress → Core → Type 0
  Counted p c = p.core ≡ c

  abbrev Why : Stop → Answer → Type 0
  Why f a = reason f ≡ a

  heard_alike : (k : ℕ) (o : Outcome) → HeardLike Counted Why (walking.heard k o) (heard_of o)
  unfolding walking.heard heard_of
  heard_alike k o = go (eqb (number_of o.answer) 0)
    where
      go : (t : Bool)
          → HeardLike Counted Why (cond t (Kept (walking.progress o.core (k + 1))) (Turned (Refused o.answer)))
          (cond t (Kept o.core) (Turned o.answer))
      go true = refl
      go false = refl

  likeness : Likeness walking.Progress Core Stop Answer (delivering room longest) (pouring room) always always Counted
      Why
  likeness =
      record {
        whole_like = λ p c r l. ap (λ (x : Core). leb (cut longest x.standing r) (length r)) l;
        fits_like = λ p c r bytes l. refl;
        hear_like = λ p c r bytes l passes.
            subst
            (λ (x : Core).
            HeardLike Counted Why
            (cond (ltb longest (needed p.core.standing r)) (Turned TooLong)
            (walking.heard p.accepted (delivered room p.core r)))
            (cond (ltb longest (needed x.standing r)) (Turned NotOneRecord) (heard_of (delivered room x r)))) l
            (long_alike Counted Why (ltb longest (needed p.core.standing r)) TooLong NotOneRecord
            (walking.heard p.accepted (delivered room p.core r)) (heard_of (delivered room p.core r)) refl
            (heard_alike p.accepted (delivered room p.core r)));
      }

  module _ (c : Core) (k : ℕ) where
    abbrev counted : List ℕ → Walked walking.Progress Stop
    counted bytes = walked (delivering room longest) (Waits (walking.progress c k) []) bytes

    abbrev bare : List ℕ → Walked Core Answer
    bare bytes = walked (pouring room) (Waits c []) bytes

    counted_alike : (bytes : List ℕ) → Bytes bytes → WalkLike Counted Why (counted bytes) (bare bytes)
    counted_alike bytes low =
        walked_ever walking.Progress Core Stop Answer (delivering room longest) (pouring room) Counted Why likeness
        (walking.progress c k) c bytes low refl

    same_core : (w : Walked walking.Progress Stop) (v : Walked Core Answer) → WalkLike Counted Why w v
        → (state_of w).core ≡ state_of v
    same_core (Waits p part) (Waits d other) l = l.0
    same_core (Waits p part) (Stops d r f rest) l = absurd l
    same_core (Stops p r f rest) (Waits d other) l = absurd l
    same_core (Stops p r f rest) (Stops d q g other) l = l.0

    pub lendable : Lends room c → Lendable room longest (walking.progress c k)
    lendable lends bytes low =
        subst (λ (x : Core). LentAt room x) (sym (same_core (counted bytes) (bare bytes) (counted_alike bytes low)))
        (lends bytes low)

    pub lends_back : Lendable room longest (walking.progress c k) → Lends room c
    lends_back lends bytes low =
        subst (λ (x : Core). LentAt room x) (same_core (counted bytes) (bare bytes) (counted_alike bytes low))
        (lends bytes low)

    -- where the walk that counts stands, the other one does
    ends_alike : (fate : Option Stop) (p : walking.Progress) (left : List ℕ) (v : Walked Core Answer)
        → WalkLike Counted Why (ends_by fate longest p left) v → ends_in fate p.core left ≡ v
    ends_alike None p left (Waits d other) l = rw (l.0, l.1)
    ends_alike None p left (Stops d r f rest) l = absurd l
    ends_alike (Some why) p left (Waits d other) l = absurd l
    ends_alike (Some why) p left (Stops d q g other) l =
        let n = cut longest p.core.standing left in
        ap (λ (x : Core). Stops x (take n left) (reason why) (drop n left)) l.0
        ∙ ap (λ (x : List ℕ). Stops d x (reason why) (drop n left)) l.1
        ∙ ap (λ (x : Answer). Stops d q x (drop n left)) l.2
        ∙ ap (λ (x : List ℕ). Stops d q g x) l.3

    pub ends_told : (fate : Option Stop) (p : walking.Progress) (left bytes : List ℕ) → Bytes bytes
        → ends_by fate longest p left ≡ counted bytes → ends_in fate p.core left ≡ bare bytes
    ends_told fate p left bytes low is =
        ends_alike fate p left (bare bytes)
        (subst (λ (w : Walked walking.Progress Stop). WalkLike Counted Why w (bare bytes)) (sym is)
        (counted_alike bytes low))
