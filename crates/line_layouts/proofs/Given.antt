-- Of what fits, a line misses nothing that it must give but a time: each other column that text must give is never
-- missing in a record, by computation.
-- Assumes nothing.
use mathlib.Core.Path.{◌≡◌, refl}
use mathlib.Core.Bool.{Bool, true, false, not, ◌&&◌, ◌||◌}
use mathlib.Core.List.{List, [], ◌∷◌}
use Rattle.prelude.specs.Each.{each}
use Rattle.prelude.proofs.Never.{false_true}
use Rattle.prelude.proofs.Both.{both_left, both_right}
use Rattle.line_layouts.specs.declared.Tag.{Tag}
use Rattle.line_layouts.specs.declared.Tag.TheVariants.{Pcr, Hbr, Sbr, Wir, Wrr}
use Rattle.line_layouts.specs.declared.Column.{Column}
use Rattle.line_layouts.specs.Columns.{columns}
use Rattle.line_layouts.specs.Entries.{Entry, Missing, Number, Text}
use Rattle.line_layouts.specs.Layouts.{is_time}
use Rattle.line_layouts.specs.Fitting.{has_flag, entry_fits, entries_fit, given, all_given}
use Rattle.line_layouts.specs.Fitting.{timed, all_timed, OnlyTimes}

abbrev held : Column → Bool
held c = is_time c.form || not (c.required && has_flag c.flag)

table_held : (tag : Tag) → each held (columns tag) ≡ true
table_held Pcr = refl
table_held Hbr = refl
table_held Sbr = refl
table_held Wir = refl
table_held Wrr = refl

-- required or not, a time or not, with a value for missing or not
missing_timed : (required time flag : Bool) → flag ≡ true → (time || not (required && flag)) ≡ true
    → not required ≡ not (required && time)
missing_timed true true flag f e = refl
missing_timed true false flag f e = false_true (rw f at e)
missing_timed false time flag f e = refl

given_timed : (c : Column) (e : Entry) → held c ≡ true → entry_fits c e ≡ true → given c e ≡ timed c e
given_timed c Missing h fit = missing_timed c.required (is_time c.form) (has_flag c.flag) fit h
given_timed c (Number n) h fit = refl
given_timed c (Text bytes) h fit = refl

all_timed_lem : (cs : List Column) (es : List Entry) → each held cs ≡ true → entries_fit cs es ≡ true
    → all_given cs es ≡ all_timed cs es
all_timed_lem [] es h fit = refl
all_timed_lem (c ∷ cs) [] h fit = refl
all_timed_lem (c ∷ cs) (e ∷ es) h fit =
    rw (
      given_timed c e (both_left (held c) (each held cs) h) (both_left (entry_fits c e) (entries_fit cs es) fit),
      all_timed_lem cs es (both_right (held c) (each held cs) h) (both_right (entry_fits c e) (entries_fit cs es) fit),
    )

pub only_times : OnlyTimes
only_times tag es fit = all_timed_lem (columns tag) es (table_held tag) fit
