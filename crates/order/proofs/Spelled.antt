-- The sentence and the table agree (specs/Laws.antt, Spelled and SpelledEnds): at each place the table goes on as what
-- is left of the sentence. And how a walk over kinds goes on by one more.
-- Assumes nothing.
use Rattle.std.specs.Prelude.{Option, Some, None}
use mathlib.Core.Path.{◌≡◌, refl, sym, ap, ◌∙◌}
use mathlib.Core.Bool.{Bool, true, false, ◌&&◌, false≢true, and-true, and_assoc}
use mathlib.Core.List.{List, [], ◌∷◌, ◌++◌}
use Rattle.prelude.proofs.Both.{both_left, both_right}
use Rattle.kinds.specs.declared.Kind.{Kind}
use Rattle.kinds.specs.declared.Kind.TheVariants.{Far, Atr, Mir, Mrr, Rdr, Sdr}
use Rattle.order.specs.declared.Place.{Place}
use Rattle.order.specs.declared.Place.TheVariants.{Start, Header, Lot, Setup, Body, Ended}
use Rattle.order.specs.Order.{goes, in_place, place_after}
use Rattle.order.specs.Spelled.{is, other, one, any, at_most_one, nothing, spells, ends_with, walks, led}
use Rattle.order.specs.Laws.{ended, Spelled, SpelledEnds}
use Rattle.order.proofs.Laws.{by_word, ended_by_mrr}

-- ---- what is left of the sentence at each place

abbrev at_body : List Kind → Bool
at_body ks = any other (one (is Mrr) nothing) ks

abbrev at_setup : List Kind → Bool
at_setup ks = any (is Sdr) at_body ks

abbrev at_lot : List Kind → Bool
at_lot ks = at_most_one (is Rdr) at_setup ks

abbrev at_header : List Kind → Bool
at_header ks = any (is Atr) (one (is Mir) at_lot) ks

ended_walks : (ks : List Kind) → nothing ks ≡ walks Ended ks
ended_walks [] = refl
ended_walks (k ∷ ks) = refl

body_walks : (ks : List Kind) → at_body ks ≡ walks Body ks
body_walks [] = refl
body_walks (k ∷ ks) =
    by_word (λ (j : Kind). at_body (j ∷ ks) ≡ walks Body (j ∷ ks))
    (λ j o. rw (o.word, o.alike Body) (body_walks ks))
    refl refl refl refl refl (ended_walks ks) k

setup_walks : (ks : List Kind) → at_setup ks ≡ walks Setup ks
setup_walks [] = refl
setup_walks (k ∷ ks) =
    by_word (λ (j : Kind). at_setup (j ∷ ks) ≡ walks Setup (j ∷ ks))
    (λ j o. rw (o.word, o.alike Setup) (body_walks ks))
    refl refl refl refl (setup_walks ks) (ended_walks ks) k

lot_walks : (ks : List Kind) → at_lot ks ≡ walks Lot ks
lot_walks [] = refl
lot_walks (k ∷ ks) =
    by_word (λ (j : Kind). at_lot (j ∷ ks) ≡ walks Lot (j ∷ ks))
    (λ j o. rw (o.word, o.alike Lot) (body_walks ks))
    refl refl refl (setup_walks ks) (setup_walks ks) (ended_walks ks) k

header_walks : (ks : List Kind) → at_header ks ≡ walks Header ks
header_walks [] = refl
header_walks (k ∷ ks) =
    by_word (λ (j : Kind). at_header (j ∷ ks) ≡ walks Header (j ∷ ks))
    (λ j o. rw (o.word, o.alike Header))
    refl (header_walks ks) (lot_walks ks) refl refl refl k

pub spelled : Spelled
unfolding spells
spelled [] = refl
spelled (k ∷ ks) =
    by_word (λ (j : Kind). one (is Far) at_header (j ∷ ks) ≡ walks Start (j ∷ ks))
    (λ j o. rw (o.word, o.alike Start))
    (header_walks ks) refl refl refl refl refl k

-- ---- the end

mrr_ends : (p : Place) → in_place (goes p Mrr) ≡ true → ended (place_after (goes p Mrr)) ≡ true
mrr_ends Start e = absurd (false≢true e)
mrr_ends Header e = absurd (false≢true e)
mrr_ends Lot e = refl
mrr_ends Setup e = refl
mrr_ends Body e = refl
mrr_ends Ended e = absurd (false≢true e)

-- any other kind in its place leaves a stream that goes on
goes_on_lem : (p : Place) (k : Kind) → is Mrr k ≡ false → in_place (goes p k) ≡ true
    → ended (place_after (goes p k)) ≡ false
goes_on_lem p k no_mrr = go (goes p k) refl
  where
    by : (q : Place) → goes p k ≡ Some q → (b : Bool) → ended q ≡ b → b ≡ false
    by q to true e = absurd (false≢true (sym no_mrr ∙ ap (is Mrr) (ended_by_mrr p q k to e)))
    by q to false e = refl

    go : (s : Option Place) → goes p k ≡ s → in_place s ≡ true → ended (place_after s) ≡ false
    go None to e = absurd (false≢true e)
    go (Some q) to e = by q to (ended q) refl

ends_by_lem : (p : Place) (k : Kind) → in_place (goes p k) ≡ true → ended (place_after (goes p k)) ≡ is Mrr k
ends_by_lem p =
    by_word (λ (j : Kind). in_place (goes p j) ≡ true → ended (place_after (goes p j)) ≡ is Mrr j)
    (λ j o e. rw o.word (goes_on_lem p j (rw o.word) e))
    (goes_on_lem p Far refl) (goes_on_lem p Atr refl) (goes_on_lem p Mir refl) (goes_on_lem p Rdr refl) (goes_on_lem p Sdr refl)
    (mrr_ends p)

-- a stream that goes on by one more has not ended
walks_open : (p : Place) (k : Kind) (ks : List Kind) → walks p (k ∷ ks) ≡ true → ended p ≡ false
walks_open Start k ks e = refl
walks_open Header k ks e = refl
walks_open Lot k ks e = refl
walks_open Setup k ks e = refl
walks_open Body k ks e = refl
walks_open Ended k ks e = absurd (false≢true e)

led_ends : (p : Place) (ks : List Kind) → ended p ≡ false → walks p ks ≡ true → ended (led p ks) ≡ ends_with (is Mrr) ks
led_ends p [] e w = e
led_ends p (k ∷ []) e w = ends_by_lem p k (both_left (in_place (goes p k)) true w)
led_ends p (k ∷ j ∷ ks) e w =
    let q = place_after (goes p k) in
    let rest = both_right (in_place (goes p k)) (walks q (j ∷ ks)) w in
    led_ends q (j ∷ ks) (walks_open q j ks rest) rest

pub spelled_ends : SpelledEnds
spelled_ends ks e = led_ends Start ks refl (sym (spelled ks) ∙ e)

-- ---- one kind more

pub led_on : (p : Place) (ks : List Kind) (k : Kind) → led p (ks ++ k ∷ []) ≡ place_after (goes (led p ks) k)
led_on p [] k = refl
led_on p (j ∷ ks) k = led_on (place_after (goes p j)) ks k

pub walks_on : (p : Place) (ks : List Kind) (k : Kind)
    → walks p (ks ++ k ∷ []) ≡ (walks p ks && in_place (goes (led p ks) k))
walks_on p [] k = and-true (in_place (goes p k))
walks_on p (j ∷ ks) k =
    let q = place_after (goes p j) in
    ap (λ (b : Bool). in_place (goes p j) && b) (walks_on q ks k)
    ∙ sym (and_assoc (in_place (goes p j)) (walks q ks) (in_place (goes (led q ks) k)))
