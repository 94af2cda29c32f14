-- `line_laying::present_count` meets its contract: a missing field adds none, any other counts all up to it.
-- Assumes nothing.
use mathlib.Core.Path.{◌≡◌, ap, sym, ◌∙◌}
use Prim.Native.Nat.{ℕ, ◌<◌}
use native.Mathlib.Omega.{arith}
use lib.ListN.{length, get_or}
use Rattle.line_layouts.specs.Columns.{columns}
use Rattle.line_layouts.specs.Entries.{no_field}
use Rattle.line_layouts.specs.Layouts.{bar_in, column_of}
use Rattle.line_layouts.proofs.Laid.{most_columns_lem, column_inside, stop_missing, stop_value}
use Rattle.line_layouts.proofs.Laid.{stop_all}
use Rattle.line_laying.proofs.present_count.Goals as goal
use Rattle.line_laying.proofs.present_count.Goals.{then-not-is_missing, else-not-is_missing}

pub said_at-requires : goal.said_at-requires
said_at-requires c =
    let a = c.args in
    omega (
      arith,
      c.column_of.ensures,
      column_inside a.layout a.line.tag c.loop-j.j
          (omega (arith, c.loop-j-test.true, c.column_count-j-end.ensures.0)),
      most_columns_lem a.line.tag,
    )

pub loop-j-preserved : goal.loop-j-preserved
loop-j-preserved c =
    let a = c.args in
    let j = c.loop-j.j in
    let k = bar_in a.layout a.line.tag in
    let inside : j < length (columns a.line.tag) = omega (arith, c.column_count-j-end.ensures.0) in
    let is : c.said_at.result
    ≡ (get_or a.line.fields (column_of a.layout a.line.tag j) no_field) =
    c.said_at.ensures
    ∙ ap (λ (i : ℕ). (get_or a.line.fields i no_field)) c.column_of.ensures in
    elim c.if-not-is_missing.branch [
      | then-not-is_missing w ↦ (
        omega arith,
        omega (arith, w.n-is),
        λ source. rw w.n-is
            (stop_value source a.line c.requires a.layout k j 0 inside
            (rw (← is) (sym c.is_missing.ensures ∙ w.if-not-is_missing.true))),
      )
      | else-not-is_missing w ↦ (
        omega arith,
        omega (arith, w.n-is),
        λ source. rw w.n-is
            (stop_missing source a.line c.requires a.layout k j c.loop-j.n inside
            (rw (← is) (sym c.is_missing.ensures ∙ w.if-not-is_missing.false)) (omega arith)
            (c.loop-j.invariant.2 source)),
      )
    ]

pub returns : goal.returns
returns c =
    let count = c.column_count-j-end.ensures.0 in
    record {
      few = omega (arith, count);
      all = λ source. rw (stop_all source c.args.line c.requires c.args.layout c.loop-j.j
          (omega (arith, count))) at (c.loop-j.invariant.2 source);
    }
