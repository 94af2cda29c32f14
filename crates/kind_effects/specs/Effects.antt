-- What each kind of record does to a session, once it is in its place and its body fits. Document 01, "Order of checks",
-- Later records, from 9 on; #103, open wafers.
--
--   judge_said   what an accepted one makes of the session, or its kind's own refusals
-- Assumes nothing.
use Rattle.std.specs.Prelude.{ℕ, ◌+◌, ◌-◌, true, not, List, map, eqb, ltb, take}
use Rattle.prelude.specs.Choice.{◌unless◌then◌}
use Rattle.answers.specs.declared.Answer.TheVariants as answer
use Rattle.bodies.specs.declared.Record.{Record}
use Rattle.bodies.specs.declared.Record.TheVariants as said
use Rattle.rising.specs.Rising.{rank, held}
use Rattle.session.specs.declared.Standing.{Standing}
use Rattle.session.specs.declared.Change.{Change}
use Rattle.session.specs.declared.Change.TheVariants.{Opens, Closes, WaferOpens, WaferCloses}
use Rattle.session.specs.declared.Verdict.{Verdict}
use Rattle.session.specs.declared.Verdict.TheVariants.{Refused, Taken, Wanted}
use Rattle.session.specs.Session.{most_open, most_results, most_wafers, part_of, key_of, wafer_number, wafer_head, wafers_in}
use Rattle.session.specs.Verdicts.{stands, still_open}

abbrev pub with_pcr : Standing → Standing
with_pcr st = record st { pcr = true }

abbrev pub with_part : Standing → Standing
with_part st = record st { opened = st.opened + 1 }

abbrev pub with_result : Standing → Standing
with_result st = record st { opened = st.opened - 1; results = st.results + 1 }

abbrev pub with_wafers : Standing → ℕ → Standing
with_wafers st wafers = record st { wafers = wafers }

-- a part opens or closes at its rank
abbrev pub opens : Standing → ℕ → ℕ → Change
opens st at part = Opens (with_part st) at part

abbrev pub closes : Standing → ℕ → Change
closes st at = Closes (with_result st) at

-- #103: a wafer does so at the rank of its head
abbrev pub wafer_opens : Standing → ℕ → ℕ → Change
wafer_opens st at wafer = WaferOpens (with_wafers st (st.wafers + 1)) at wafer

abbrev pub wafer_closes : Standing → ℕ → Change
wafer_closes st at = WaferCloses (with_wafers st (st.wafers - 1)) at

-- PIR opens (head, site): 9, 11
unfoldable pub judge_pir : Standing → List ℕ → ℕ → Verdict
judge_pir st parts part =
    Refused answer.PartOpen unless not (held part parts) then
    Refused answer.TooManyParts unless ltb st.opened most_open then
    Taken (opens st (rank part parts) part)

-- PRR closes it: 10, 14; room, 13, is the house's to judge
unfoldable pub judge_prr : Standing → List ℕ → ℕ → ℕ → Verdict
judge_prr st parts part key =
    Refused answer.PartNotOpen unless held part parts then
    Refused answer.TooManyResults unless ltb st.results most_results then
    Wanted (closes st (rank part parts)) key

-- #101, #103, MRR: 12 while a part is open, 33 while a wafer is, 20 while no PCR was accepted
unfoldable pub judge_mrr : Standing → List ℕ → Verdict
judge_mrr st parts =
    Refused (still_open parts) unless eqb st.opened 0 then
    Refused answer.WaferOpen unless eqb st.wafers 0 then
    Refused answer.NoPcr unless st.pcr then
    Taken (stands st)

-- #103: WIR opens the wafer of its head: 22, one is open there; 23
unfoldable pub judge_wir : Standing → List ℕ → ℕ → ℕ → Verdict
judge_wir st wafers head group =
    Refused answer.WrongWafer unless not (held head (map wafer_head wafers)) then
    Refused answer.TooManyWafers unless ltb st.wafers most_wafers then
    Taken (wafer_opens st (rank head (map wafer_head wafers)) (wafer_number head group))

-- WRR closes it: 22, none is open there, or one of another site group
unfoldable pub judge_wrr : Standing → List ℕ → ℕ → Verdict
judge_wrr st wafers wafer =
    Refused answer.WrongWafer unless held wafer wafers then
    Taken (wafer_closes st (rank wafer wafers))

-- what an accepted kind does, or its own refusals
abbrev pub judge_said : Standing → List ℕ → Record → Verdict
judge_said st cells (said.Pir p) = judge_pir st (take st.opened cells) (part_of p.head p.site)
judge_said st cells (said.Prr p) =
    judge_prr st (take st.opened cells) (part_of p.head p.site) (key_of p.head p.site p.bin)
judge_said st cells said.Mrr = judge_mrr st (take st.opened cells)
judge_said st cells (said.Wir w) = judge_wir st (wafers_in st.wafers cells) w.head w.group
judge_said st cells (said.Wrr w) = judge_wrr st (wafers_in st.wafers cells) (wafer_number w.head w.group)
judge_said st cells (said.Pcr p) = Taken (stands (with_pcr st))
judge_said st cells (said.Far f) = Taken (stands st)
judge_said st cells said.Mir = Taken (stands st)
judge_said st cells (said.Bin b) = Taken (stands st)
judge_said st cells said.Unread = Taken (stands st)
