-- `dates::writing::write_date` meets its contract: the hour with what stands behind it, then the day likewise.
-- Assumes nothing.
use mathlib.Core.Path.{◌≡◌}
use mathlib.Core.List.{List, ◌++◌}
use Prim.Native.Nat.{ℕ}
use Rattle.output.specs.Placed.{Room}
use Rattle.output.proofs.Laws.{first, behind, both}
use Rattle.digits.specs.Digits.{digits}
use Rattle.dates.specs.Dates.{date_text}
use Rattle.dates.proofs.Laws.{date_made}
use Rattle.dates.proofs.writing.write_date.Goals as goal

pub put_number-k-requires : goal.put_number-k-requires
put_number-k-requires c =
    let clock : List ℕ = digits c.moment_of-m.result.hour ++ c.past_hour-clock.result in
    let calendar : List ℕ = digits c.moment_of-m.result.day ++ c.past_day-calendar.result in
    let text-is : clock ++ calendar ≡ date_text c.args.t =
    let moment = c.moment_of-m in
    date_made c.args.t moment.result c.past_hour-clock.result c.past_day-calendar.result
    moment.ensures.0 c.past_hour-clock.ensures c.past_day-calendar.ensures in
    let room : Room (clock ++ calendar) c.args.out.now = rw text-is c.requires in
    first clock calendar c.args.out.now room

pub put_number-requires : goal.put_number-requires
put_number-requires c =
    let clock : List ℕ = digits c.moment_of-m.result.hour ++ c.past_hour-clock.result in
    let calendar : List ℕ = digits c.moment_of-m.result.day ++ c.past_day-calendar.result in
    let text-is : clock ++ calendar ≡ date_text c.args.t =
    let moment = c.moment_of-m in
    date_made c.args.t moment.result c.past_hour-clock.result c.past_day-calendar.result
    moment.ensures.0 c.past_hour-clock.ensures c.past_day-calendar.ensures in
    let room : Room (clock ++ calendar) c.args.out.now = rw text-is c.requires in
    behind clock calendar c.args.out.now room c.put_number-k.new.out
    c.put_number-k.result c.put_number-k.ensures

pub returns : goal.returns
returns c =
    let clock : List ℕ = digits c.moment_of-m.result.hour ++ c.past_hour-clock.result in
    let calendar : List ℕ = digits c.moment_of-m.result.day ++ c.past_day-calendar.result in
    let text-is : clock ++ calendar ≡ date_text c.args.t =
    let moment = c.moment_of-m in
    date_made c.args.t moment.result c.past_hour-clock.result c.past_day-calendar.result
    moment.ensures.0 c.past_hour-clock.ensures c.past_day-calendar.ensures in
    let room : Room (clock ++ calendar) c.args.out.now = rw text-is c.requires in
    rw text-is at (both clock calendar c.args.out.now room
    c.put_number-k.new.out c.put_number-k.result c.put_number-k.ensures
    c.put_number.new.out c.put_number.result c.put_number.ensures)
