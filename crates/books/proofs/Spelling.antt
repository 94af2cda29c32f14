-- Over calls from a fresh house the kinds of accepted records spell the order of a stream, and each such order is
-- accepted as far as its places go (specs/Meaning.antt, KindsSpell and SpellsOn), proved: by DeliverTold a record is
-- accepted only in its place, and 8 is given only out of it.
-- Assumes nothing.
use mathlib.Core.Path.{◌≡◌, refl, ap, sym, ◌∙◌}
use mathlib.Core.Bool.{Bool, true, false, cond, not, ◌&&◌, ◌||◌, false≢true}
use mathlib.Core.List.{List, [], ◌∷◌, ◌++◌, map, reverse-cons}
use Prim.Native.Nat.{ℕ}
use native.Mathlib.Omega.{arith}
use borrow.Author.Tests.{eq-eqb}
use lib.Dec.{eqb, leb, ltb}
use lib.ListN.{length, get_or}
use Rattle.prelude.specs.All.{all}
use Rattle.prelude.specs.Checks.{Check, ◌else◌, number_by}
use Rattle.prelude.specs.Each.{each}
use Rattle.prelude.proofs.All.{all_at}
use Rattle.prelude.proofs.Both.{both_left, both_right}
use Rattle.numbers.specs.Laws.{Bytes}
use Rattle.kinds.specs.Kinds.{known}
use Rattle.frames.specs.Frames.{header, rec_typ, rec_sub, body, is_record}
use Rattle.bodies.specs.declared.Record.{Record}
use Rattle.bodies.specs.declared.Record.TheVariants as said
use Rattle.bodies.specs.Bodies.{read_body, said_of}
use Rattle.order.specs.declared.Place.{Place}
use Rattle.order.specs.declared.Place.TheVariants.{Start, Header, Lot, Setup, Body, Ended}
use Rattle.order.specs.Order.{goes, in_place}
use Rattle.order.specs.Laws.{ended}
use Rattle.order.specs.Spelled.{walks, led}
use Rattle.order.proofs.Spelled.{spelled, spelled_ends, walks_on}
use Rattle.session.specs.Session.{is_start}
use Rattle.first_record.specs.Laws.{first_checks}
use Rattle.first_record.proofs.Accepted.{first_in_place}
use Rattle.kind_effects.specs.Laws.{Seen, own_checks}
use Rattle.later_records.specs.Laws.{later_checks}
use Rattle.rows.specs.Rows.{slot_count}
use Rattle.house.specs.House.{fresh}
use Rattle.house.specs.History.{Call, Deliver, history, AllSent}
use Rattle.house.proofs.Counting.{holds}
use Rattle.books.specs.Book.{Book, kind_in, book_of}
use Rattle.books.specs.Told.{number_told, seen_in, record_checks, room_to}
use Rattle.books.specs.Meaning.{accepted, kinds_of, KindsSpell, SpellsOn}
use Rattle.books.proofs.Told.{deliver_told}
use Rattle.books.proofs.Meaning.{place_means}
use Rattle.books.proofs.Accepting.{done_checks, by_accepted}

-- ---- 8, and the place of a record

-- a check that a number is given by holds
abbrev pub spares : ℕ → Check ℕ → Bool
spares m c = not (eqb c.answer m) || c.holds

-- where each of them does, the number is not given
pub never_given : (m : ℕ) (cs : List (Check ℕ)) → (0 ≡ m → ⊥) → each (spares m) cs ≡ true → number_by cs ≡ m → ⊥
never_given m [] some e given = some given
never_given m (c ∷ cs) some e given =
    go c.holds (both_left (spares m c) (each (spares m) cs) e)
    (never_given m cs some (both_right (spares m c) (each (spares m) cs) e)) given
  where
    go : (t : Bool) → (not (eqb c.answer m) || t) ≡ true → (number_by cs ≡ m → ⊥)
        → cond t (number_by cs) c.answer ≡ m → ⊥
    go true e rest given = rest given
    go false e rest given = false≢true (rw (eq-eqb c.answer m given) at e)

at_start : (p : Place) → is_start p ≡ true → p ≡ Start
at_start Start e = refl
at_start Header e = absurd (false≢true e)
at_start Lot e = absurd (false≢true e)
at_start Setup e = absurd (false≢true e)
at_start Body e = absurd (false≢true e)
at_start Ended e = absurd (false≢true e)

-- a number that a kind's own checks, and 13 behind them, do not give: 12 is one where no part is open
abbrev unowned : ℕ → ℕ → List Bool
unowned m opened =
    not (eqb 9 m) ∷
    not (eqb 10 m) ∷
    not (eqb 11 m) ∷
    (not (eqb 12 m) || eqb opened 0) ∷
    not (eqb 13 m) ∷
    not (eqb 14 m) ∷
    not (eqb 20 m) ∷
    not (eqb 22 m) ∷
    not (eqb 23 m) ∷
    not (eqb 33 m) ∷
    []

module _ (m : ℕ) (seen : Seen) (clear : all (unowned m seen.opened) ≡ true) (room : Bool) where
  spared : (i : ℕ) → get_or (unowned m seen.opened) i true ≡ true
  spared i = all_at (unowned m seen.opened) clear i

  pub own_spare : (r : Record) → each (spares m) (own_checks seen r ++ ((room else 13) ∷ [])) ≡ true
  own_spare (said.Pir p) = rw (spared 0, spared 2, spared 4)
  own_spare (said.Prr p) = rw (spared 1, spared 5, spared 4)
  own_spare (said.Wir w) = rw (spared 7, spared 8, spared 4)
  own_spare (said.Wrr w) = rw (spared 7, spared 4)
  own_spare said.Mrr = rw (spared 3, spared 9, spared 6, spared 4)
  own_spare (said.Pcr p) = rw (spared 4)
  own_spare (said.Far f) = rw (spared 4)
  own_spare said.Mir = rw (spared 4)
  own_spare (said.Bin b) = rw (spared 4)
  own_spare said.Unread = rw (spared 4)

module _ (b : Book) (rec : List ℕ) (room : Bool) where
  abbrev later : List (Check ℕ)
  later = later_checks b.order b.place (seen_in b) rec

  abbrev placed : Bool
  placed = in_place (goes b.place (kind_in rec))

  -- the first record's check of its place is the table's
  first_placed : is_start b.place ≡ true → placed ≡ (eqb (rec_typ rec) 0 && eqb (rec_sub rec) 10)
  first_placed starts =
      ap (λ (p : Place). in_place (goes p (kind_in rec))) (at_start b.place starts)
      ∙ first_in_place (rec_typ rec) (rec_sub rec)

  -- where no check fails, the record is in its place
  checks_placed : number_by (record_checks b rec ++ ((room else 13) ∷ [])) ≡ 0 → placed ≡ true
  checks_placed = go (is_start b.place) refl
    where
      go : (t : Bool) → is_start b.place ≡ t
          → number_by (cond t (first_checks rec) later ++ ((room else 13) ∷ [])) ≡ 0 → placed ≡ true
      go true starts e =
          let long = holds (leb header (length rec)) _ 2 e in
          first_placed starts ∙ (holds (eqb (rec_typ rec) 0 && eqb (rec_sub rec) 10) _ 7 long.1).0
      go false further e =
          let framed = holds (is_record b.order rec) _ 2 e in
          let kind = holds (known (kind_in rec)) _ 5 framed.1 in
          (holds placed _ 7 kind.1).0

  -- where it is in its place, 8 is not given
  checks_spare : placed ≡ true → each (spares 8) (record_checks b rec ++ ((room else 13) ∷ [])) ≡ true
  checks_spare is = go (is_start b.place) refl
    where
      go : (t : Bool) → is_start b.place ≡ t
          → each (spares 8) (cond t (first_checks rec) later ++ ((room else 13) ∷ [])) ≡ true
      go true starts = rw (sym (first_placed starts) ∙ is)
      go false further =
          rw is (own_spare 8 (seen_in b) refl room (said_of (read_body b.order (kind_in rec) (body rec))))

-- ---- one record more

walks_step : (rec : List ℕ) (recs : List (List ℕ))
    → walks Start (kinds_of (rec ∷ recs))
    ≡ (walks Start (kinds_of recs) && in_place (goes (led Start (kinds_of recs)) (kind_in rec)))
walks_step rec recs =
    ap (walks Start) (reverse-cons (kind_in rec) (map kind_in recs)) ∙ walks_on Start (kinds_of recs) (kind_in rec)

walked : (calls : List Call) (slot : ℕ) → AllSent calls
    → walks Start (kinds_of (accepted slot (history fresh calls))) ≡ true
walked calls slot = by_accepted (λ (recs : List (List ℕ)). walks Start (kinds_of recs) ≡ true) slot refl one calls
  where
    one : (calls : List Call) (rec : List ℕ) → AllSent calls → Bytes rec → number_told calls (Deliver slot rec) ≡ 0
        → walks Start (kinds_of (accepted slot (history fresh calls))) ≡ true
        → walks Start (kinds_of (rec ∷ accepted slot (history fresh calls))) ≡ true
    one calls rec sent bytes done w =
        let es = history fresh calls in
        let b = book_of slot es in
        let here = checks_placed b rec (room_to es b rec) (done_checks calls slot rec sent bytes done) in
        walks_step rec (accepted slot es) ∙ rw (w, rw (place_means slot es) at here)

pub kinds_spell : KindsSpell
kinds_spell calls slot sent =
    let ks = kinds_of (accepted slot (history fresh calls)) in
    let spelt = spelled ks ∙ walked calls slot sent in
    (spelt, ap ended (place_means slot (history fresh calls)) ∙ spelled_ends ks spelt)

pub spells_on : SpellsOn
spells_on calls slot rec sent bytes spelt given =
    let es = history fresh calls in
    let b = book_of slot es in
    let room = room_to es b rec in
    let recs = accepted slot es in
    let both = sym (walks_step rec recs) ∙ sym (spelled (kinds_of (rec ∷ recs))) ∙ spelt in
    let next = both_right (walks Start (kinds_of recs)) (in_place (goes (led Start (kinds_of recs)) (kind_in rec))) both in
    never_given 8
    ((ltb slot slot_count else 1) ∷ (b.opened else 2) ∷ (record_checks b rec ++ ((room else 13) ∷ [])))
    (λ z. omega arith) (checks_spare b rec room (rw (place_means slot es) next))
    (sym (deliver_told calls slot rec sent bytes) ∙ given)
