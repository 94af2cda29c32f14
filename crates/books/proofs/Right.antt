-- Over calls from a fresh house every accepted record is right in itself, and so a PCR was accepted exactly if a record
-- is of that kind (specs/Meaning.antt, AcceptedRight and PcrStands), proved.
-- Assumes nothing.
use Rattle.std.specs.Prelude.{Option, Some, None}
use Rattle.bodies.specs.declared.Record.{Record}
use mathlib.Core.Path.{◌≡◌, refl, ap, ap₂, subst, ◌∙◌}
use mathlib.Core.Bool.{Bool, true, false, cond, ◌||◌, false≢true}
use mathlib.Core.List.{List, [], ◌∷◌, ◌++◌}
use Prim.Native.Nat.{ℕ}
use Rattle.prelude.specs.Checks.{Check, ◌else◌, number_by}
use Rattle.numbers.specs.declared.Order.{Order}
use Rattle.numbers.specs.Laws.{Bytes}
use Rattle.kinds.specs.declared.Kind.{Kind}
use Rattle.kinds.specs.declared.Kind.TheVariants as kind
use Rattle.kinds.specs.Kinds.{known}
use Rattle.frames.specs.Frames.{body, is_record}
use Rattle.bodies.specs.Bodies.{read_body, fitting, said_of}
use Rattle.bodies.specs.Laws.{said_by}
use Rattle.bodies.proofs.Said.{said_by_lem}
use Rattle.order.specs.Order.{goes, in_place}
use Rattle.session.specs.Session.{is_start, begun}
use Rattle.first_record.specs.Laws.{FirstRight, first_checks}
use Rattle.first_record.proofs.Checks.{first_number}
use Rattle.first_record.proofs.Accepted.{first_accepted}
use Rattle.house.specs.House.{fresh}
use Rattle.house.specs.History.{Call, Deliver, history, AllSent}
use Rattle.house.proofs.Counting.{holds}
use Rattle.books.specs.Book.{Book, kind_in, is_pcr, book_of}
use Rattle.books.specs.Told.{number_told, record_checks, room_to}
use Rattle.books.specs.Meaning.{accepted, told_order, readings, any_pcr, LaterRight, EachRight, AcceptedRight}
use Rattle.books.specs.Meaning.{pcr_kind, some_kind, PcrStands}
use Rattle.books.proofs.Meaning.{Means, means_told}
use Rattle.books.proofs.Accepting.{done_checks, by_accepted}

-- ---- what the checks tell

-- where none of them fails, none of the first ones does
front_none : (xs more : List (Check ℕ)) → number_by (xs ++ more) ≡ 0 → number_by xs ≡ 0
front_none [] more e = refl
front_none (c ∷ cs) more e = go c.holds (front_none cs more) e
  where
    go : (t : Bool) → (number_by (cs ++ more) ≡ 0 → number_by cs ≡ 0) → cond t (number_by (cs ++ more)) c.answer ≡ 0
        → cond t (number_by cs) c.answer ≡ 0
    go true rest e = rest e
    go false rest e = e

module _ (b : Book) (rec : List ℕ) (room : Bool)
    (e : number_by (record_checks b rec ++ ((room else 13) ∷ [])) ≡ 0) where
  checks_first : is_start b.place ≡ true → FirstRight rec
  checks_first starts =
      let st = begun.standing in
      first_accepted st rec (first_number st rec ∙ front_none (first_checks rec) ((room else 13) ∷ []) (rw starts at e))

  checks_later : is_start b.place ≡ false → LaterRight b.order rec
  checks_later further =
      let framed = holds (is_record b.order rec) _ 2 (rw further at e) in
      let named = holds (known (kind_in rec)) _ 5 framed.1 in
      let placed = holds (in_place (goes b.place (kind_in rec))) _ 7 named.1 in
      let fits = holds (fitting (read_body b.order (kind_in rec) (body rec))) _ 6 placed.1 in
      record { one = framed.0; named = named.0; fits = fits.0 }

-- ---- every accepted record

-- the first of a stream, or a later one
right_next : (b : Book) (rec : List ℕ) (room : Bool) (recs : List (List ℕ))
    → number_by (record_checks b rec ++ ((room else 13) ∷ [])) ≡ 0 → Means b recs → EachRight recs
    → EachRight (rec ∷ recs)
right_next b rec room [] e means right = checks_first b rec room e means.begun
right_next b rec room (before ∷ older) e means right = (
  subst (λ (order : Order). LaterRight order rec) means.order (checks_later b rec room e means.begun),
  right,
)

pub accepted_right : AcceptedRight
accepted_right calls slot = by_accepted EachRight slot tt one calls
  where
    one : (calls : List Call) (rec : List ℕ) → AllSent calls → Bytes rec → number_told calls (Deliver slot rec) ≡ 0
        → EachRight (accepted slot (history fresh calls)) → EachRight (rec ∷ accepted slot (history fresh calls))
    one calls rec sent bytes done =
        let es = history fresh calls in
        let b = book_of slot es in
        right_next b rec (room_to es b rec) (accepted slot es) (done_checks calls slot rec sent bytes done)
        (means_told slot es)

-- ---- a PCR among them

pcr_said : (order : Order) (k : Kind) (b : List ℕ) → is_pcr (said_by order k b) ≡ pcr_kind k
pcr_said order kind.Pcr b = refl
pcr_said order kind.Far b = refl
pcr_said order kind.Atr b = refl
pcr_said order kind.Mir b = refl
pcr_said order kind.Mrr b = refl
pcr_said order kind.Hbr b = refl
pcr_said order kind.Sbr b = refl
pcr_said order kind.Rdr b = refl
pcr_said order kind.Sdr b = refl
pcr_said order kind.Pir b = refl
pcr_said order kind.Prr b = refl
pcr_said order kind.Wir b = refl
pcr_said order kind.Wrr b = refl
pcr_said order (kind.Remaining k) b = refl
pcr_said order kind.Custom b = refl
pcr_said order kind.Unknown b = refl

pcr_read : (order : Order) (k : Kind) (b : List ℕ) → fitting (read_body order k b) ≡ true
    → is_pcr (said_of (read_body order k b)) ≡ pcr_kind k
pcr_read order k b = go (read_body order k b) refl
  where
    go : (x : Option Record) → read_body order k b ≡ x → fitting x ≡ true → is_pcr (said_of x) ≡ pcr_kind k
    go (Some r) is fits = ap is_pcr (said_by_lem order k b r is) ∙ pcr_said order k b
    go None is fits = absurd (false≢true fits)

pcr_among : (recs : List (List ℕ)) → EachRight recs → any_pcr (readings recs) ≡ some_kind pcr_kind recs
pcr_among [] right = refl
pcr_among (rec ∷ []) right = rw right.far
pcr_among (rec ∷ before ∷ recs) right =
    ap₂ ◌||◌ (pcr_read (told_order (before ∷ recs)) (kind_in rec) (body rec) right.0.fits)
    (pcr_among (before ∷ recs) right.1)

pub pcr_stands : PcrStands
pcr_stands calls slot sent =
    let es = history fresh calls in
    (means_told slot es).pcr ∙ pcr_among (accepted slot es) (accepted_right calls slot sent)
