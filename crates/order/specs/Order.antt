-- The order of a stream, as a table. Document 01, "Order of a stream".
--
--   by_kind    one step for each kind that the order tells apart: a row of the table
--   goes      the table: where a record takes a stream from a place
--   by_place   one step for each place but the last: a column of the table
--   in_place   whether a step leads anywhere, and place_after where
-- Assumes nothing.
use Rattle.std.specs.Prelude.{Bool, true, false, Option, Some, None}
use Rattle.kinds.specs.declared.Kind.{Kind}
use Rattle.kinds.specs.declared.Kind.TheVariants.{Far, Atr, Mir, Mrr, Pcr, Hbr, Sbr, Rdr, Sdr, Wir, Wrr, Pir, Prr}
use Rattle.kinds.specs.declared.Kind.TheVariants.{Remaining, Custom, Unknown}
use Rattle.order.specs.declared.Place.{Place}
use Rattle.order.specs.declared.Place.TheVariants.{Start, Header, Lot, Setup, Body, Ended}

abbrev pub by_kind : Option Place → Option Place → Option Place → Option Place → Option Place → Option Place → Option Place → Kind → Option Place
by_kind far atr mir rdr sdr mrr other Far = far
by_kind far atr mir rdr sdr mrr other Atr = atr
by_kind far atr mir rdr sdr mrr other Mir = mir
by_kind far atr mir rdr sdr mrr other Rdr = rdr
by_kind far atr mir rdr sdr mrr other Sdr = sdr
by_kind far atr mir rdr sdr mrr other Mrr = mrr
by_kind far atr mir rdr sdr mrr other Pcr = other
by_kind far atr mir rdr sdr mrr other Hbr = other
by_kind far atr mir rdr sdr mrr other Sbr = other
by_kind far atr mir rdr sdr mrr other Pir = other
by_kind far atr mir rdr sdr mrr other Prr = other
by_kind far atr mir rdr sdr mrr other Wir = other
by_kind far atr mir rdr sdr mrr other Wrr = other
by_kind far atr mir rdr sdr mrr other (Remaining k) = other
by_kind far atr mir rdr sdr mrr other Custom = other
by_kind far atr mir rdr sdr mrr other Unknown = other

-- whatever this order doesn't allow next
abbrev out : Option Place
out = None

-- FAR; any ATRs; one MIR; at most one RDR; any SDRs; then the body, which the first other kind starts; MRR last
-- columns: FAR, ATR, MIR, RDR, SDR, MRR, any other
abbrev pub goes : Place → Kind → Option Place
goes Start k = by_kind (Some Header) out out out out out out k
goes Header k = by_kind out (Some Header) (Some Lot) out out out out k
goes Lot k = by_kind out out out (Some Setup) (Some Setup) (Some Ended) (Some Body) k
goes Setup k = by_kind out out out out (Some Setup) (Some Ended) (Some Body) k
goes Body k = by_kind out out out out out (Some Ended) (Some Body) k
goes Ended k = out

-- no record leaves the last place
abbrev pub by_place : Option Place → Option Place → Option Place → Option Place → Option Place → Place → Option Place
by_place start header lot setup body Start = start
by_place start header lot setup body Header = header
by_place start header lot setup body Lot = lot
by_place start header lot setup body Setup = setup
by_place start header lot setup body Body = body
by_place start header lot setup body Ended = out

-- whether a step leads anywhere; where it does not, the refusal is 8
abbrev pub in_place : Option Place → Bool
in_place (Some p) = true
in_place None = false

-- where a step leads; asked only of one that leads somewhere
abbrev pub place_after : Option Place → Place
place_after (Some p) = p
place_after None = Ended
