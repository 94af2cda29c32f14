-- `plays::play` meets its contract: each arm is one call, and what comes back holds its reply. A feed alone is
-- lent the carry.
-- Assumes nothing.
use mathlib.Core.Path.{◌∙◌, ap}
use Rattle.plays.specs.declared.Played.{Played}
use Rattle.plays.proofs.Laws.{open_played, deliver_played, report_played, close_played, figures_played}
use Rattle.plays.proofs.Laws.{feed_played, feed_leaves, end_played}
use Rattle.plays.proofs.play.Goals as goal

pub returns-in-Open : goal.returns-in-Open
returns-in-Open c =
    let is = c.in-Open.is in
    record { value = c.told.ensures ∙ open_played _ _ _ _ _ is c.open_slot.ensures; held = rw is }

pub returns-in-Deliver : goal.returns-in-Deliver
returns-in-Deliver c =
    let is = c.in-Deliver.is in
    record { value = c.told-in-Deliver.ensures ∙ deliver_played _ _ _ _ _ is c.deliver.ensures; held = rw is }

pub returns-in-Report : goal.returns-in-Report
returns-in-Report c =
    let is = c.in-Report.is in
    record { value = c.listed.ensures ∙ report_played _ _ _ _ _ is c.list_rows.ensures; held = rw is }

pub returns-in-Close : goal.returns-in-Close
returns-in-Close c =
    let is = c.in-Close.is in
    record { value = c.told-in-Close.ensures ∙ close_played _ _ _ _ _ is c.close_slot.ensures; held = rw is }

pub returns-in-Figures : goal.returns-in-Figures
returns-in-Figures c =
    let is = c.in-Figures.is in
    record { value = c.read.ensures ∙ figures_played _ _ _ _ _ is c.figures.ensures; held = rw is }

pub returns-in-Feed : goal.returns-in-Feed
returns-in-Feed c =
    let is = c.in-Feed.is in
    let done = c.feed.ensures.carry_after in
    let same = c.fed.ensures in
    record {
      value = same ∙ feed_played _ _ _ _ _ _ is done;
      held = feed_leaves _ _ _ _ _ _ _ is (ap (λ (p : Played). p.house) same) done;
    }

pub returns-in-End : goal.returns-in-End
returns-in-End c =
    let is = c.in-End.is in
    record {
      value = c.told-in-End.ensures ∙ end_played _ _ _ _ _ _ is c.answer_with.ensures c.end_feed.ensures;
      held = rw is;
    }
