-- A whole report, proved (specs/Told.antt): an open slot holds no more rows than there are.
-- Assumes nothing.
use mathlib.Core.Path.{◌≡◌, refl, ap, sym, ◌∙◌}
use mathlib.Core.Bool.{Bool, true, false, cond, ◌&&◌}
use mathlib.Core.List.{List, [], ◌∷◌, map}
use Prim.Native.Nat.{ℕ, ◌≤◌, ◌<◌}
use native.Mathlib.Omega.{arith}
use Rattle.answers.specs.declared.Answer.TheVariants.{Done}
use Rattle.rows.specs.Rows.{slot_count, held_by}
use Rattle.rows.proofs.Laws.{held_ranks, run_within}
use Rattle.house.specs.declared.House.{House}
use Rattle.house.specs.House.{row_count, fresh, keys_of}
use Rattle.house.specs.Calls.{slot_at}
use Rattle.house.specs.History.{Call, Open, Deliver, Listed, Said, said, reply, after, reached, history}
use Rattle.house.proofs.Calling.{told_within}
use Rattle.house.proofs.Reporting.{open_within, told_rises}
use Rattle.house.proofs.Keeping.{reached_sound}
use Rattle.house.proofs.Counting.{keys_long, report_told, reached_shaped}
use Rattle.tallies.specs.Results.{tally_of}
use Rattle.house.specs.Tally.{is_done}
use Rattle.books.specs.Book.{Book, nothing, noted, heard, heard_from, book_of}
use Rattle.books.specs.Told.{number_told, ReportWhole, AloneListed}
use Rattle.books.proofs.Booked.{book_agrees}
use Rattle.books.proofs.Told.{tally_rows, open_told}

pub report_whole : ReportWhole
report_whole calls slot sent opened =
    let h = reached fresh calls in
    let b = book_of slot (history fresh calls) in
    let agree = book_agrees slot calls sent in
    let shape = reached_shaped calls sent in
    let e = reached_sound calls sent in
    let taken : (slot_at h slot).taken ≡ true = sym agree.opened ∙ opened in
    let inside : slot < slot_count = omega (arith, open_within h.slots slot taken, shape.slots) in
    let few : held_by slot (keys_of h) ≤ row_count =
    omega (
      arith,
      told_within h e,
      keys_long h slot shape e,
      held_ranks slot (keys_of h) (told_rises h e),
      run_within slot (keys_of h),
    ) in
    report_told h slot shape e row_count inside taken few ∙ ap (Listed Done) (sym (tally_rows slot b h agree))

-- a delivery leaves an open slot open, whatever it is answered
stays : (t : Bool) (rec : List ℕ) (b : Book) → b.opened ≡ true → (cond t (noted rec b) b).opened ≡ true
stays true rec b e = e
stays false rec b e = e

still_open_lem : (h : House) (records : List (List ℕ)) (b : Book) → b.opened ≡ true
    → (heard_from 0 (history h (map (Deliver 0) records)) b).opened ≡ true
still_open_lem h [] b e = e
still_open_lem h (r ∷ rs) b e =
    still_open_lem (after h (Deliver 0 r)) rs (heard 0 (said (Deliver 0 r) (reply h (Deliver 0 r))) b)
    (stays (is_done (said (Deliver 0 r) (reply h (Deliver 0 r)))) r b e)

-- 1,024 rows are free, and none is promised
opening_done : number_told [] (Open 0 row_count) ≡ 0
unfolding tally_of
opening_done = open_told [] 0 row_count tt

alone_open : (records : List (List ℕ))
    → (book_of 0 (history fresh (Open 0 row_count ∷ map (Deliver 0) records))).opened ≡ true
alone_open records =
    still_open_lem (after fresh (Open 0 row_count)) records (heard 0 (said (Open 0 row_count) (reply fresh (Open 0 row_count))) nothing)
    (rw opening_done)

pub alone_listed : AloneListed
alone_listed records sent = report_whole (Open 0 row_count ∷ map (Deliver 0) records) 0 sent (alone_open records)
