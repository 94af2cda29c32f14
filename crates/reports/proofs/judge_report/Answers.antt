-- `reports::judge_report` meets its contract: a refusal is told with no row.
-- Assumes nothing.
use mathlib.Core.Path.{◌≡◌, refl, ap, sym, ◌∙◌}
use mathlib.Core.Bool.{Bool, true, false}
use mathlib.Core.List.{List, [], ◌∷◌}
use Prim.Native.Nat.{ℕ}
use Rattle.std.specs.Prelude.{Result, Ok, Err}
use Rattle.prelude.specs.Choice.{◌unless◌then◌}
use Rattle.prelude.specs.Checks.{Check, checked}
use Rattle.answers.specs.declared.Answer.{Answer}
use Rattle.answers.specs.declared.Answer.TheVariants.{Done}
use Rattle.house.specs.declared.Reported.{Reported}
use Rattle.house.specs.Report.{unreported, report_checks, reported}
use Rattle.reports.proofs.judge_report.Goals as goal

told : Result ℕ Answer → Reported
told (Ok n) = record { answer = Done; rows = n }
told (Err a) = unreported a

told_choice : (a : Answer) (test : Bool) (r : Result ℕ Answer) (s : Reported) → told r ≡ s
    → told (Err a unless test then r) ≡ (unreported a unless test then s)
unfolding told
told_choice a true r s e = e
told_choice a false r s e = refl

told_checked : (cs : List (Check Answer)) (n : ℕ)
    → told (checked Err cs (Ok n)) ≡ checked unreported cs (record { answer = Done; rows = n })
unfolding told
told_checked [] n = refl
told_checked (c ∷ cs) n = told_choice c.answer c.holds _ _ (told_checked cs n)

pub returns-in-Ok : goal.returns-in-Ok
unfolding reported told
returns-in-Ok c =
    let a = c.args in
    ap told (sym c.in-Ok.is ∙ c.count_rows.ensures) ∙ told_checked (report_checks a.house a.slot a.long) _

pub returns-in-Err : goal.returns-in-Err
unfolding reported told
returns-in-Err c =
    let a = c.args in
    ap told (sym c.in-Err.is ∙ c.count_rows.ensures) ∙ told_checked (report_checks a.house a.slot a.long) _
