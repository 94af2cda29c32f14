-- What the walk of this code over what a line must give needs: the fields passed are given, and those to come decide.
-- Assumes nothing.
use mathlib.Core.Path.{◌≡◌, refl, sym, ◌∙◌}
use mathlib.Core.Bool.{Bool, true, false, ◌&&◌}
use mathlib.Core.List.{List}
use Prim.Native.Nat.{ℕ, ◌+◌, ◌≤◌, ◌<◌}
use native.Mathlib.Numerals.{add-one}
use native.Mathlib.Omega.{arith}
use lib.ListN.{length, get_or, drop, drop_of_length-le}
use lib.Seq.{drop-cons}
use Rattle.line_layouts.specs.declared.Column.{Column}
use Rattle.line_layouts.specs.declared.Said.{Said}
use Rattle.line_layouts.specs.declared.Said.TheVariants as said
use Rattle.line_layouts.specs.declared.Line.{Line}
use Rattle.line_layouts.specs.Columns.{columns, most_columns, no_column}
use Rattle.line_layouts.specs.Entries.{Missing, entry_of, entries_of, no_field}
use Rattle.line_layouts.specs.Fitting.{given, all_given}
use Rattle.line_layouts.proofs.Laid.{said_at, length_entries}
use Rattle.lines.specs.Writing.{said_given, Gives}

given_said : (s : List ℕ) (c : Column) (f : Said) → given c (entry_of s f) ≡ said_given c f
given_said s c said.Missing = refl
given_said s c (said.Number n) = refl
given_said s c (said.Text name) = refl

-- the invariant of the walk, at column j
abbrev pub Giving : Line → ℕ → Type 0
Giving line j =
    (source : List ℕ)
    → all_given (columns line.tag) (entries_of source line)
    ≡ all_given (drop j (columns line.tag)) (drop j (entries_of source line))

pub giving_first : (line : Line) → Giving line 0
giving_first line source = refl

module _ (line : Line) (full : length line.fields ≡ most_columns) (j : ℕ) (so_far : Giving line j) where
  abbrev here : Bool
  here = said_given (get_or (columns line.tag) j no_column) (get_or line.fields j no_field)

  module _ (h : j < length (columns line.tag)) where
    one : (source : List ℕ)
        → all_given (columns line.tag) (entries_of source line)
        ≡ (here && all_given (drop (j + 1) (columns line.tag)) (drop (j + 1) (entries_of source line)))
    one source =
        let es = entries_of source line in
        let f = (get_or line.fields j no_field) in
        so_far source
        ∙ rw (
          drop-cons (columns line.tag) j no_column h,
          drop-cons es j Missing (omega (arith, length_entries source line full)),
          said_at source line full j h,
          given_said source (get_or (columns line.tag) j no_column) f,
          add-one j,
        )

    pub giving_no : here ≡ false → Gives line false
    giving_no e = record { all = λ (source : List ℕ). sym (one source ∙ rw e) }

    pub giving_on : here ≡ true → Giving line (j + 1)
    giving_on e source = one source ∙ rw e

  pub giving_end : length (columns line.tag) ≤ j → Gives line true
  giving_end h =
      record {
        all = λ (source : List ℕ). sym (so_far source ∙ rw (drop_of_length-le (columns line.tag) {i = j} h));
      }
