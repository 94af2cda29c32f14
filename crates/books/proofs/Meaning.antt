-- What a book means, whatever was called and answered (specs/Meaning.antt), proved: one record more changes the book
-- and what is said of the records alike.
-- Assumes nothing.
use Rattle.std.specs.Prelude.{Option, Some, None}
use mathlib.Core.Path.{◌≡◌, refl, ap, sym, ◌∙◌}
use mathlib.Core.Bool.{Bool, true, false, cond, not, ◌&&◌, ◌||◌}
use mathlib.Core.List.{List, [], ◌∷◌, ◌++◌, map, reverse-cons}
use Prim.Native.Nat.{ℕ}
use lib.Dec.{eqb}
use Rattle.kinds.specs.declared.Kind.{Kind}
use Rattle.frames.specs.Frames.{body}
use Rattle.bodies.specs.Bodies.{read_body, said_of}
use Rattle.order.specs.declared.Place.{Place}
use Rattle.order.specs.declared.Place.TheVariants.{Start, Header, Lot, Setup, Body, Ended}
use Rattle.order.specs.Order.{goes, place_after}
use Rattle.order.specs.Spelled.{led}
use Rattle.order.proofs.Laws.{never_start}
use Rattle.order.proofs.Spelled.{led_on}
use Rattle.session.specs.Session.{is_start}
use Rattle.house.specs.History.{Call, Open, Deliver, Report, Close, Figured, Said, names}
use Rattle.tallies.specs.Results.{PartResult}
use Rattle.books.specs.Book.{Part, is_open, Book, book, nothing, kind_in, results_in, Effect, Opening, Closing}
use Rattle.books.specs.Book.{Neither, on_parts, on_wafers, open_after, is_pcr}
use Rattle.house.specs.Tally.{is_done}
use Rattle.books.specs.Book.{noted, done_by, heard, heard_from, book_of}
use Rattle.books.specs.Meaning.{taken_by, taken, accepted_from, accepted, kinds_of, told_order, readings, about}
use Rattle.books.specs.Meaning.{is_opening, last_opens, any_pcr, results_of, PartsMean, WafersMean, PcrMeans}
use Rattle.books.specs.Meaning.{ResultsMean, PlaceMeans}
use Rattle.books.proofs.Parts.{open_without}

-- ---- the place

-- no record leads back to the start
past_start : (p : Place) (k : Kind) → is_start (place_after (goes p k)) ≡ false
past_start p k = go (goes p k) refl
  where
    by : (q : Place) → goes p k ≡ Some q → is_start q ≡ false
    by Start to = absurd (never_start p Start k to refl)
    by Header to = refl
    by Lot to = refl
    by Setup to = refl
    by Body to = refl
    by Ended to = refl

    go : (s : Option Place) → goes p k ≡ s → is_start (place_after s) ≡ false
    go None to = refl
    go (Some q) to = by q to

led_next : (rec : List ℕ) (recs : List (List ℕ))
    → led Start (kinds_of (rec ∷ recs)) ≡ place_after (goes (led Start (kinds_of recs)) (kind_in rec))
led_next rec recs =
    ap (led Start) (reverse-cons (kind_in rec) (map kind_in recs)) ∙ led_on Start (kinds_of recs) (kind_in rec)

-- ---- the open parts, and the open wafers

-- what one record makes of them: the last word on one is its own, if it is about it
open_after_lem : (x : Effect) (ps : List Part) (head site : ℕ)
    → is_open (open_after x ps) head site ≡ cond (about head site x) (is_opening x) (is_open ps head site)
unfolding is_open
open_after_lem (Opening h s) ps head site = go (eqb h head && eqb s site) (is_open ps head site)
  where
    go : (own before : Bool) → (own || before) ≡ cond own true before
    go true before = refl
    go false before = refl
open_after_lem (Closing h s) ps head site =
    open_without h s ps head site ∙ go (eqb h head && eqb s site) (is_open ps head site)
  where
    go : (own before : Bool) → (not own && before) ≡ cond own false before
    go true before = refl
    go false before = refl
open_after_lem Neither ps head site = refl

-- ---- a book and the accepted records

abbrev none : List (List ℕ) → Bool
none [] = true
none (rec ∷ recs) = false

-- of parts, or of wafers
abbrev OpenedBy : List Part → List Effect → Type 0
OpenedBy ps xs = (head site : ℕ) → is_open ps head site ≡ last_opens head site xs

opened_by : (x : Effect) (ps : List Part) (xs : List Effect) → OpenedBy ps xs → OpenedBy (open_after x ps) (x ∷ xs)
opened_by x ps xs before head site =
    open_after_lem x ps head site ∙ ap (cond (about head site x) (is_opening x)) (before head site)

pub record Means (b : Book) (recs : List (List ℕ)) : Type 0 where
  pub begun : is_start b.place ≡ none recs
  pub order : b.order ≡ told_order recs
  pub place : b.place ≡ led Start (kinds_of recs)
  pub parts : OpenedBy b.parts (map on_parts (readings recs))
  pub pcr : b.pcr ≡ any_pcr (readings recs)
  pub results : b.results ≡ results_of (readings recs)
  pub wafers : OpenedBy b.wafers (map on_wafers (readings recs))

means_anew : (opened : Bool) (floor : ℕ) → Means (book opened floor) []
unfolding is_open
means_anew opened floor =
    record {
      begun = refl;
      order = refl;
      place = refl;
      parts = λ head site. refl;
      pcr = refl;
      results = refl;
      wafers = λ head group. refl;
    }

-- one record more
means_noted : (rec : List ℕ) (recs : List (List ℕ)) (b : Book) → Means b recs → Means (noted rec b) (rec ∷ recs)
means_noted rec [] b m =
    record {
      begun = past_start b.place (kind_in rec);
      order = rw m.begun;
      place = rw m.place;
      parts = rw m.begun m.parts;
      pcr = rw m.begun m.pcr;
      results = rw m.begun m.results;
      wafers = rw m.begun m.wafers;
    }
means_noted rec (before ∷ older) b m =
    let recs = before ∷ older in
    let r = said_of (read_body (told_order recs) (kind_in rec) (body rec)) in
    record {
      begun = past_start b.place (kind_in rec);
      order = rw m.begun m.order;
      place = ap (λ (p : Place). place_after (goes p (kind_in rec))) m.place ∙ sym (led_next rec recs);
      parts = rw (m.begun, m.order) (opened_by (on_parts r) b.parts (map on_parts (readings recs)) m.parts);
      pcr = rw (m.begun, m.order) (ap (λ (t : Bool). is_pcr r || t) m.pcr);
      results = rw (m.begun, m.order) (ap (λ (t : List PartResult). results_in r ++ t) m.results);
      wafers =
          rw (m.begun, m.order) (opened_by (on_wafers r) b.wafers (map on_wafers (readings recs)) m.wafers);
    }

-- any calls and answers
means_from : (slot : ℕ) (es : List Said) (b : Book) (recs : List (List ℕ)) → Means b recs
    → Means (heard_from slot es b) (accepted_from slot es recs)
means_from slot [] b recs m = m
means_from slot (e ∷ es) b recs m =
    means_from slot es (heard slot e b) (taken slot e recs) (go (names slot e.call && is_done e))
  where
    done : (c : Call) → Means (done_by c b) (taken_by c recs)
    done (Open i floor) = means_anew true floor
    done (Deliver i rec) = means_noted rec recs b m
    done (Report i long) = m
    done (Close i) = means_anew false 0
    done Figured = m

    go : (t : Bool) → Means (cond t (done_by e.call b) b) (cond t (taken_by e.call recs) recs)
    go true = done e.call
    go false = m

pub means_told : (slot : ℕ) (es : List Said) → Means (book_of slot es) (accepted slot es)
means_told slot es = means_from slot es nothing [] (means_anew false 0)

pub parts_mean : PartsMean
parts_mean slot es head site = (means_told slot es).parts head site

pub wafers_mean : WafersMean
wafers_mean slot es head group = (means_told slot es).wafers head group

pub pcr_means : PcrMeans
pcr_means slot es = (means_told slot es).pcr

pub results_mean : ResultsMean
results_mean slot es = (means_told slot es).results

pub place_means : PlaceMeans
place_means slot es = (means_told slot es).place
