-- The statements of specs/Told.antt on the calls of a house, proved: each is the one of crate books, over the calls
-- that are told.
-- Assumes nothing.
use mathlib.Core.Path.{◌≡◌, ap, sym, ◌∙◌}
use Prim.Native.Nat.{ℕ}
use mathlib.Core.List.{List}
use Rattle.answers.specs.Numbers.{number_of, values_of}
use Rattle.house.specs.History as asked
use Rattle.house.specs.History.{Open, Deliver, Report, Close, Figured}
use Rattle.books.specs.Told as books
use Rattle.books.specs.Told.{carried_by}
use Rattle.books.proofs.Told as by_books
use Rattle.books.proofs.Smallest as by_smallest
use Rattle.books.proofs.Rooms as by_rooms
use Rattle.books.proofs.Wafers as by_wafers
use Rattle.nights.specs.Night.{fresh, Call, Asked, Reply, Replied, answer_of, AllSent}
use Rattle.nights.specs.Spelled.{spelled, told}
use Rattle.nights.specs.Told.{number_told, OpenTold, DeliverTold, ValuesTold, ReportTold, ReportListed, CloseTold}
use Rattle.nights.specs.Told.{WirTold, WrrTold, MrrTold, WafersKept, FiguresTold, RowsKept, ShutNone}
use Rattle.nights.specs.Told.{FreePromised, NeverRefused}
use Rattle.nights.proofs.Spelled.{spelled_sent, asked_told}

number_told_lem : (calls : List Call) (c : asked.Call) → AllSent calls
    → number_told calls (Asked c) ≡ books.number_told (spelled fresh calls) c
number_told_lem calls c sent =
    ap (λ (r : Reply). number_of (answer_of r)) (asked_told calls c sent)

pub open_told : OpenTold
open_told calls slot floor sent =
    number_told_lem calls (Open slot floor) sent
    ∙ by_books.open_told (spelled fresh calls) slot floor (spelled_sent calls sent)

pub deliver_told : DeliverTold
deliver_told calls slot rec sent bytes =
    number_told_lem calls (Deliver slot rec) sent
    ∙ by_books.deliver_told (spelled fresh calls) slot rec (spelled_sent calls sent) bytes

pub values_told_lem : ValuesTold
values_told_lem calls c sent own =
    ap (λ (r : Reply). values_of (answer_of r)) (asked_told calls c sent)
    ∙ by_smallest.values_told_lem (spelled fresh calls) c (spelled_sent calls sent) own
    ∙ ap (λ (n : ℕ). carried_by (told calls) n c) (sym (number_told_lem calls c sent))

pub wir_told : WirTold
wir_told calls slot rec w sent bytes a =
    number_told_lem calls (Deliver slot rec) sent
    ∙ by_wafers.wir_told (spelled fresh calls) slot rec w (spelled_sent calls sent) bytes a

pub wrr_told : WrrTold
wrr_told calls slot rec w sent bytes a =
    number_told_lem calls (Deliver slot rec) sent
    ∙ by_wafers.wrr_told (spelled fresh calls) slot rec w (spelled_sent calls sent) bytes a

pub mrr_told : MrrTold
mrr_told calls slot rec sent bytes a =
    number_told_lem calls (Deliver slot rec) sent
    ∙ by_wafers.mrr_told (spelled fresh calls) slot rec (spelled_sent calls sent) bytes a

pub wafers_kept : WafersKept
wafers_kept calls slot sent = by_wafers.wafers_kept (spelled fresh calls) slot (spelled_sent calls sent)

pub report_told : ReportTold
report_told calls slot long sent =
    number_told_lem calls (Report slot long) sent
    ∙ by_books.report_told (spelled fresh calls) slot long (spelled_sent calls sent)

pub report_listed : ReportListed
report_listed calls slot long sent done =
    let is = asked_told calls (Report slot long) sent in
    is
    ∙ ap Replied
    (by_books.report_listed (spelled fresh calls) slot long (spelled_sent calls sent) (sym (ap answer_of is) ∙ done))

pub close_told : CloseTold
close_told calls slot sent =
    number_told_lem calls (Close slot) sent ∙ by_books.close_told (spelled fresh calls) slot (spelled_sent calls sent)

pub figures_told : FiguresTold
figures_told calls sent =
    asked_told calls Figured sent
    ∙ ap Replied (by_books.figures_told (spelled fresh calls) (spelled_sent calls sent))

pub rows_kept : RowsKept
rows_kept calls sent = by_rooms.rows_kept (spelled fresh calls) (spelled_sent calls sent)

pub shut_none : ShutNone
shut_none slot calls sent = by_rooms.shut_none slot (spelled fresh calls) (spelled_sent calls sent)

pub free_promised : FreePromised
free_promised calls sent = by_rooms.free_promised (spelled fresh calls) (spelled_sent calls sent)

pub never_refused : NeverRefused
never_refused calls slot rec sent bytes below refused =
    by_rooms.never_refused (spelled fresh calls) slot rec (spelled_sent calls sent) bytes below
    (sym (ap answer_of (asked_told calls (Deliver slot rec) sent)) ∙ refused)
