-- `tallying::left_over` meets its contract: a first record is judged by itself, a later one is 3.
-- Assumes nothing.
use mathlib.Core.Path.{refl, sym, ◌∙◌}
use Rattle.tallying.proofs.First.{first_answer, unsound_answer}
use Rattle.tallying.proofs.left_over.Goals as goal

pub returns-then-not-is_start : goal.returns-then-not-is_start
returns-then-not-is_start c = rw (sym c.is_start.ensures ∙ c.if-not-is_start.true)

pub returns-then-is_sound : goal.returns-then-is_sound
returns-then-is_sound c =
    let starts = sym c.is_start.ensures ∙ c.if-not-is_start.false in
    let is-fine = sym c.is_sound.ensures ∙ c.if-is_sound.true in
    let told = rw c.house_of.ensures at is-fine in
    let answer = first_answer _ _ told refl starts in
    rw starts (c.verdict_answer.ensures ∙ rw c.judge_first.ensures (sym answer))

pub returns-else-is_sound : goal.returns-else-is_sound
returns-else-is_sound c =
    let starts = sym c.is_start.ensures ∙ c.if-not-is_start.false in
    let wrong = sym c.is_sound.ensures ∙ c.if-is_sound.false in
    let told = rw c.house_of.ensures at wrong in
    rw starts (sym (unsound_answer _ _ told))
