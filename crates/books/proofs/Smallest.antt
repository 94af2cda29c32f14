-- What an answer carries beside its number (specs/Told.antt, ValuesTold and SmallestTold), proved: a session's parts rise,
-- and the first of them is the smallest that its book has open.
-- Assumes nothing.
use Rattle.std.specs.Prelude.{Option, Some, None}
use mathlib.Core.Path.{◌≡◌, refl, ap, ap₂, sym, subst, ◌∙◌}
use mathlib.Core.Bool.{Bool, true, false, cond}
use mathlib.Core.List.{List, [], ◌∷◌, ◌++◌}
use Prim.Native.Nat.{ℕ, ◌≤◌, ◌<◌}
use native.Mathlib.Omega.{arith}
use borrow.Author.Tests.{eqb-true, le-ltb, ltb-true}
use lib.Dec.{eqb, ltb}
use lib.ListN.{length}
use Rattle.prelude.specs.Checks.{◌else◌, number_by}
use Rattle.prelude.specs.Each.{each}
use Rattle.answers.specs.declared.Answer.{Answer}
use Rattle.answers.specs.Numbers.{values_of}
use Rattle.numbers.specs.Laws.{Bytes}
use Rattle.frames.specs.Frames.{body}
use Rattle.bodies.specs.Bodies.{read_body, said_of}
use Rattle.rising.specs.Rising.{held}
use Rattle.rising.proofs.Laws.{below_at}
use Rattle.session.specs.declared.Session.{Session}
use Rattle.session.specs.Session.{cell_count, part_of, part_head, part_site, smallest, parts_of, is_start, sound}
use Rattle.session.specs.Verdicts.{still_open}
use Rattle.session.proofs.Laws.{sound_parts_told, smallest_held, smallest_least}
use Rattle.session.proofs.Keys.{part_rises, part_gives}
use Rattle.first_record.specs.Laws.{first_checks}
use Rattle.later_records.specs.Laws.{later_checks}
use Rattle.judging.proofs.Laws.{opened_long}
use Rattle.rows.specs.Rows.{slot_count}
use Rattle.house.specs.declared.House.{House}
use Rattle.house.specs.House.{fresh}
use Rattle.house.specs.Calls.{slot_at}
use Rattle.house.specs.History.{Call, Open, Deliver, Report, Close, Figured, reached, history, AllSent}
use Rattle.house.proofs.Calling.{open_session}
use Rattle.house.proofs.Keeping.{reached_sound}
use Rattle.house.proofs.Counting.{passed, reached_shaped}
use Rattle.house.proofs.Rooms.{Refusals, deliver_carries, plain_answer}
use Rattle.books.specs.Book.{Part, is_open, least_of, smallest_of, Book, kind_in, book_of}
use Rattle.books.specs.Told.{number_told, values_told, seen_in, record_checks, room_to, Smallest, ValuesTold}
use Rattle.books.specs.Told.{SmallestTold}
use Rattle.books.proofs.Parts.{Low, number, open_low, least_open, least_low, least_first}
use Rattle.books.proofs.Following.{Says}
use Rattle.books.proofs.Booked.{book_agrees}
use Rattle.books.proofs.Told.{deliver_told}
use Rattle.books.proofs.Spelling.{spares, never_given, own_spare}

-- ---- the first of a session's parts

-- what 12 carries, where a session has parts open
abbrev carried_for : Session → Option (ℕ × ℕ)
carried_for s = values_of (still_open (parts_of s))

module _ (b : Book) (s : Session) (p : Says b s) (long : length s.parts ≡ cell_count) (e : sound s ≡ true) where
  abbrev first : ℕ
  first = smallest (parts_of s)

  first_least : (q : Part) (qs : List Part) → b.parts ≡ q ∷ qs → carried_for s ≡ smallest_of (q ∷ qs)
  first_least q qs is =
      let least = least_of q qs in
      let told = sound_parts_told s e in
      let low : Low (q ∷ qs) = subst Low is p.parts.low in
      let says : (head site : ℕ) → site < 256 → is_open (q ∷ qs) head site ≡ held (part_of head site) (parts_of s)
      = λ head site small. ap (λ (ps : List Part). is_open ps head site) (sym is) ∙ p.parts.are head site small in
      let some : 0 < length (parts_of s) = omega (arith, opened_long s long e, p.parts.many, ap length is) in
      let small = least_low q qs low in
      let there : held (number least) (parts_of s) ≡ true =
      sym (says least.head least.site small) ∙ least_open q qs in
      let below : first ≤ number least = smallest_least (parts_of s) (number least) told.rises there in
      let gives = part_gives first (below_at _ (parts_of s) 0 told.below some) in
      let opens : is_open (q ∷ qs) (part_head first) (part_site first) ≡ true =
      says (part_head first) (part_site first) (omega arith)
      ∙ ap (λ (n : ℕ). held n (parts_of s)) gives
      ∙ smallest_held (parts_of s) some in
      let above : number least ≤ part_of (part_head first) (part_site first) =
      least_first q qs (part_head first) (part_site first) low opens in
      let site_small : part_site first < 256 = omega arith in
      let named_by : ℕ → ℕ → Option (ℕ × ℕ) = λ head site. Some (head, site) in
      ap₂ named_by (omega (arith, below, above, gives, small, site_small))
      (omega (arith, below, above, gives, small, site_small))

-- ---- 12 is given where a part is open

none_spare : (b : Book) (rec : List ℕ) (room : Bool) → b.parts ≡ []
    → each (spares 12) (record_checks b rec ++ ((room else 13) ∷ [])) ≡ true
none_spare b rec room none = go (is_start b.place)
  where
    go : (t : Bool)
        → each (spares 12)
        (cond t (first_checks rec) (later_checks b.order b.place (seen_in b) rec) ++ ((room else 13) ∷ []))
        ≡ true
    go true = refl
    go false =
        own_spare 12 (seen_in b) (rw none) room (said_of (read_body b.order (kind_in rec) (body rec)))

module _ (calls : List Call) (slot : ℕ) (rec : List ℕ) (sent : AllSent calls) (bytes : Bytes rec) where
  abbrev h : House
  h = reached fresh calls

  abbrev b : Book
  b = book_of slot (history fresh calls)

  abbrev s : Session
  s = (slot_at h slot).session

  abbrev room : Bool
  room = room_to (history fresh calls) b rec

  module _ (twelve : number_told calls (Deliver slot rec) ≡ 12) where
    given : number_by ((ltb slot slot_count else 1) ∷ (b.opened else 2) ∷ (record_checks b rec ++ ((room else 13) ∷ [])))
        ≡ 12
    given = sym (deliver_told calls slot rec sent bytes) ∙ twelve

    named : carried_for s ≡ smallest_of b.parts
    named = go b.parts refl
      where
        inside : slot < slot_count
        inside = ltb-true slot slot_count (passed (ltb slot slot_count) _ 1 12 (λ z. omega arith) given).0

        opened : b.opened ≡ true
        opened =
            (passed b.opened _ 2 12 (λ z. omega arith)
            (passed (ltb slot slot_count) _ 1 12 (λ z. omega arith) given).1).0

        go : (ps : List Part) → b.parts ≡ ps → carried_for s ≡ smallest_of ps
        go [] none =
            absurd
            (never_given 12
            ((ltb slot slot_count else 1) ∷ (b.opened else 2) ∷ (record_checks b rec ++ ((room else 13) ∷ [])))
            (λ z. omega arith) (none_spare b rec room none) given)
        go (q ∷ qs) is =
            let agrees = book_agrees slot calls sent in
            let shape = reached_shaped calls sent in
            first_least b s agrees.says (shape.parts slot inside)
            (open_session h slot (reached_sound calls sent) shape.slots inside (sym agrees.opened ∙ opened)) q qs is

  deliver_values : values_told calls (Deliver slot rec)
      ≡ cond (eqb (number_told calls (Deliver slot rec)) 12) (smallest_of b.parts) None
  deliver_values =
      deliver_carries h slot rec (reached_sound calls sent)
      ∙ go (eqb (number_told calls (Deliver slot rec)) 12) refl
    where
      go : (t : Bool) → eqb (number_told calls (Deliver slot rec)) 12 ≡ t
          → cond t (carried_for s) None ≡ cond t (smallest_of b.parts) None
      go true is = named (eqb-true (number_told calls (Deliver slot rec)) 12 is)
      go false is = refl

plain_told : (calls : List Call) → AllSent calls → (c : Call)
    → Refusals (λ (a : Answer). values_of a ≡ None) (reached fresh calls) c
    → values_told calls c ≡ None
plain_told calls sent = plain_answer (reached fresh calls) (reached_sound calls sent)

pub values_told_lem : ValuesTold
values_told_lem calls (Deliver slot rec) sent bytes = deliver_values calls slot rec sent bytes
values_told_lem calls (Open slot floor) sent own = plain_told calls sent (Open slot floor) tt
values_told_lem calls (Report slot long) sent own = plain_told calls sent (Report slot long) tt
values_told_lem calls (Close slot) sent own = plain_told calls sent (Close slot) tt
values_told_lem calls Figured sent own = plain_told calls sent Figured tt

-- ---- which part that is

smallest_of_lem : (ps : List Part) → Low ps → (smallest_of ps ≡ None → ⊥) → Smallest ps (smallest_of ps)
smallest_of_lem [] low some = some refl
smallest_of_lem (q ∷ qs) low some =
    let least = least_of q qs in (
      least_open q qs,
      λ head site opens.
          let small = open_low (q ∷ qs) head site low opens in
          sym (part_rises head site least.head least.site small (least_low q qs low))
          ∙ le-ltb (part_of head site) (number least) (least_first q qs head site low opens),
    )

pub smallest_told : SmallestTold
smallest_told calls slot rec sent bytes twelve =
    let ps = (book_of slot (history fresh calls)).parts in
    let is = named calls slot rec sent bytes twelve in
    subst (Smallest ps)
    (sym (deliver_values calls slot rec sent bytes
    ∙ ap (λ (n : ℕ). cond (eqb n 12) (smallest_of ps) None) twelve))
    (smallest_of_lem ps (book_agrees slot calls sent).says.parts.low (λ none. nothing (is ∙ none)))
  where
    nothing : {head site : ℕ} → ◌≡◌ {A = Option (ℕ × ℕ)} (Some (head, site)) None → ⊥
    nothing e = let never : ◌≡◌ {A = ℕ} 0 1 = cc in omega arith
