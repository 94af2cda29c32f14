-- Open wafers, by the book of a slot (specs/Wafers.antt), proved: what a record is answered by DeliverTold, where its
-- other checks hold; which wafers are open by the soundness of the session that the book tells of.
-- Assumes nothing.
use mathlib.Core.Path.{◌≡◌, refl, ap, sym, ◌∙◌}
use mathlib.Core.Bool.{Bool, true, false, not, ◌||◌, false≢true}
use mathlib.Core.List.{List, [], ◌∷◌, ◌++◌}
use Prim.Native.Nat.{ℕ, ◌<◌}
use native.Mathlib.Omega.{arith}
use borrow.Author.Tests.{eqb-true, lt-ltb}
use lib.Dec.{eqb}
use lib.ListN.{length, get_or}
use Rattle.prelude.specs.Checks.{◌else◌, number_by}
use Rattle.prelude.proofs.All.{all_at}
use Rattle.numbers.specs.Laws.{Bytes}
use Rattle.frames.specs.Frames.{body}
use Rattle.bodies.specs.declared.Record.{Record}
use Rattle.bodies.specs.declared.Record.TheVariants as said
use Rattle.bodies.specs.Bodies.{read_body, said_of}
use Rattle.order.specs.declared.Place.{Place}
use Rattle.order.specs.declared.Place.TheVariants.{Start, Header, Lot, Setup, Body, Ended}
use Rattle.order.specs.Laws.{before, ended}
use Rattle.rising.specs.Rising.{rank}
use Rattle.rising.proofs.Laws.{held_rank}
use Rattle.session.specs.declared.Session.{Session}
use Rattle.session.specs.declared.Standing.{Standing}
use Rattle.session.specs.Session.{wafer_number, wafers_of, stands_right, nothing_yet, sound}
use Rattle.session.proofs.Laws.{sound_wafers_told, sound_stands_told, sound_heads_rise}
use Rattle.session.proofs.Wafers.{heads_rise_lem, wafer_rank}
use Rattle.kind_effects.specs.Laws.{own_checks}
use Rattle.rows.specs.Rows.{slot_count}
use Rattle.house.specs.House.{fresh}
use Rattle.house.specs.Calls.{slot_at}
use Rattle.house.specs.History.{Call, Deliver, reached, history, AllSent}
use Rattle.house.proofs.Calling.{open_session}
use Rattle.house.proofs.Reporting.{open_within}
use Rattle.house.proofs.Keeping.{reached_sound}
use Rattle.house.proofs.Counting.{reached_shaped}
use Rattle.books.specs.Book.{Book, is_open, nothing, kind_in, results_in, book_of}
use Rattle.books.specs.Told.{number_told, seen_in, room_to}
use Rattle.books.specs.Wafers.{Arrives, WirTold, WrrTold, MrrTold, WafersRight, WafersKept}
use Rattle.books.proofs.Parts.{open_low}
use Rattle.books.proofs.Following.{Says}
use Rattle.books.proofs.Booked.{book_agrees}
use Rattle.books.proofs.Told.{deliver_told}

-- ---- what a record is answered

-- its kind's own checks are left, and room
arrived : (calls : List Call) (slot : ℕ) (rec : List ℕ) (r : Record) → AllSent calls → Bytes rec
    → let es = history fresh calls in
    let b = book_of slot es in
    Arrives b slot rec r
    → number_told calls (Deliver slot rec)
    ≡ number_by (own_checks (seen_in b) r ++ ((room_to es b rec else 13) ∷ []))
arrived calls slot rec r sent bytes a =
    let said_on : said_of (read_body (book_of slot (history fresh calls)).order (kind_in rec) (body rec)) ≡ r =
    rw a.begun at a.says in
    deliver_told calls slot rec sent bytes
    ∙ rw (
      lt-ltb slot slot_count a.inside,
      a.opened,
      a.begun,
      a.right.one,
      a.right.named,
      a.placed,
      a.right.fits,
      said_on,
    )

-- .. and room is there for what is no part result
roomy : (calls : List Call) (slot : ℕ) (rec : List ℕ) (r : Record) → AllSent calls → Bytes rec
    → let b = book_of slot (history fresh calls) in
    Arrives b slot rec r → results_in r ≡ []
    → number_told calls (Deliver slot rec) ≡ number_by (own_checks (seen_in b) r ++ ((true else 13) ∷ []))
roomy calls slot rec r sent bytes a plain =
    arrived calls slot rec r sent bytes a ∙ rw (a.says, plain)

pub wir_told : WirTold
wir_told calls slot rec w sent bytes a = roomy calls slot rec (said.Wir w) sent bytes a refl

pub wrr_told : WrrTold
wrr_told calls slot rec w sent bytes a = roomy calls slot rec (said.Wrr w) sent bytes a refl

pub mrr_told : MrrTold
mrr_told calls slot rec sent bytes a = roomy calls slot rec said.Mrr sent bytes a refl

-- ---- which wafers are open

-- before the body and after MRR a sound session has none
yet : (st : Standing) → nothing_yet st ≡ true → st.wafers ≡ 0
yet st e =
    eqb-true st.wafers 0
    (all_at (eqb st.opened 0 ∷ not st.pcr ∷ eqb st.results 0 ∷ eqb st.wafers 0 ∷ []) e 3)

none_stands : (p : Place) (st : Standing) → stands_right p st ≡ true → (before p || ended p) ≡ true → st.wafers ≡ 0
none_stands Start st e h = yet st e
none_stands Header st e h = yet st e
none_stands Lot st e h = yet st e
none_stands Setup st e h = yet st e
none_stands Body st e h = absurd (false≢true h)
none_stands Ended st e h = eqb-true st.wafers 0 (all_at (eqb st.opened 0 ∷ eqb st.wafers 0 ∷ st.pcr ∷ []) e 1)

none_listed : {A : Type 0} (xs : List A) → length xs ≡ 0 → xs ≡ []
none_listed [] e = refl
none_listed (x ∷ xs) e = absurd (omega (arith, e))

module _ (b : Book) (s : Session) (p : Says b s) (e : sound s ≡ true) where
  abbrev ws : List ℕ
  ws = wafers_of s

  -- two wafers of a head stand at one rank
  one_a_head : (head group group' : ℕ) → is_open b.wafers head group ≡ true → is_open b.wafers head group' ≡ true
      → group ≡ group'
  one_a_head head group group' here there =
      let heads = sound_heads_rise s e in
      let low = open_low b.wafers head group p.wafers.low here in
      let low' = open_low b.wafers head group' p.wafers.low there in
      let holds = sym (p.wafers.are head group low) ∙ here in
      let holds' = sym (p.wafers.are head group' low') ∙ there in
      let same : rank (wafer_number head group) ws ≡ rank (wafer_number head group') ws =
      wafer_rank head group ws low heads holds ∙ sym (wafer_rank head group' ws low' heads holds') in
      let at = held_rank (wafer_number head group) ws (heads_rise_lem ws heads) holds in
      let at' = held_rank (wafer_number head group') ws (heads_rise_lem ws heads) holds' in
      omega (arith, sym at.1 ∙ ap (λ (i : ℕ). get_or ws i 0) same ∙ at'.1)

  wafers_sound : WafersRight b
  wafers_sound =
      record {
        few = omega (arith, p.wafers.many, (sound_wafers_told s e).few);
        apart = one_a_head;
        none = λ out.
            none_listed b.wafers
            (p.wafers.many
            ∙ none_stands s.standing.place s.standing (sound_stands_told s e) (rw p.place at out));
      }

wafers_shut : WafersRight nothing
unfolding is_open
wafers_shut =
    record { few = omega arith; apart = λ head group group' here there. absurd (false≢true here); none = λ out. refl }

pub wafers_kept : WafersKept
wafers_kept calls slot sent = go b.opened refl
  where
    b : Book
    b = book_of slot (history fresh calls)

    go : (t : Bool) → b.opened ≡ t → WafersRight b
    go false shut = rw ((book_agrees slot calls sent).shut shut) wafers_shut
    go true opened =
        let h = reached fresh calls in
        let agree = book_agrees slot calls sent in
        let shape = reached_shaped calls sent in
        let taken : (slot_at h slot).taken ≡ true = sym agree.opened ∙ opened in
        let inside : slot < slot_count = omega (arith, open_within h.slots slot taken, shape.slots) in
        wafers_sound b (slot_at h slot).session agree.says
        (open_session h slot (reached_sound calls sent) shape.slots inside taken)
