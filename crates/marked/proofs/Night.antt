-- The history of specs/Night.antt, by computation.
-- Assumes nothing.
use mathlib.Core.Path.{refl}
use Rattle.house.specs.House.{sound, rows_sound, slots_sound, slot_sound, promised_from, unfilled}
use Rattle.house.specs.Deliver.{granted, row_taken, resulted_if, settled, delivered}
use Rattle.house.specs.Calls.{open_slot, deliver}
use Rattle.house.specs.Report.{row_at, reported}
use Rattle.rows.specs.Rows.{held_by, sum_by, row_right, rows_right, counted_more, counted_new, counted}
use Rattle.rows.specs.Counts.{plus}
use Rattle.rising.specs.Rising.{rising_from, rising, rank, held, all_below, insert_at, remove_at}
use Rattle.session.specs.Session as session
use Rattle.session.specs.Session.{kept_right}
use Rattle.settling.specs.Settling.{changed}
use Rattle.first_record.specs.First.{judge_in, judge_first}
use Rattle.kind_effects.specs.Effects.{judge_pir, judge_prr}
use Rattle.later_records.specs.Later.{judge_later}
use Rattle.judging.specs.Judge.{judge}
use Rattle.frames.specs.Frames.{is_record}
use Rattle.kinds.specs.Kinds.{named, kind_of}
use Rattle.bodies.specs.Bodies.{read_body}
use Rattle.values.specs.Values.{soft_bin_fits}
use Rattle.marked.specs.Night.{NightAnswers, NightTally, NightAssured}

pub night_answers : NightAnswers
unfolding sound rows_sound slots_sound slot_sound promised_from unfilled granted row_taken resulted_if settled delivered
    open_slot deliver row_at reported held_by sum_by row_right rows_right counted_more counted_new counted plus rising_from
    rising rank held all_below insert_at remove_at session.sound kept_right changed judge_in judge_first judge_pir
    judge_prr judge_later judge is_record named kind_of read_body soft_bin_fits
night_answers = refl

pub night_tally : NightTally
unfolding sound rows_sound slots_sound slot_sound promised_from unfilled granted row_taken resulted_if settled delivered
    open_slot deliver row_at reported held_by sum_by row_right rows_right counted_more counted_new counted plus rising_from
    rising rank held all_below insert_at remove_at session.sound kept_right changed judge_in judge_first judge_pir
    judge_prr judge_later judge is_record named kind_of read_body soft_bin_fits
night_tally = refl

pub night_assured : NightAssured
unfolding sound rows_sound slots_sound slot_sound promised_from unfilled granted row_taken resulted_if settled delivered
    open_slot deliver row_at reported held_by sum_by row_right rows_right counted_more counted_new counted plus rising_from
    rising rank held all_below insert_at remove_at session.sound kept_right changed judge_in judge_first judge_pir
    judge_prr judge_later judge is_record named kind_of read_body soft_bin_fits
night_assured = refl
