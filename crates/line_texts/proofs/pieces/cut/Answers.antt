-- `line_texts::pieces::cut` meets its contract: the places stored and those left make up the whole.
-- Assumes nothing.
use mathlib.Core.Path.{◌≡◌, ◌∙◌}
use Prim.Native.Nat.{ℕ, ◌+◌, ◌<◌}
use native.Mathlib.Omega.{arith}
use lib.ListN.{length, get_or, length-set}
use lib.Seq.{get_or-drop, drop-drop}
use Rattle.values.specs.declared.Name.{Name}
use Rattle.line_layouts.specs.Columns.{columns}
use Rattle.line_layouts.proofs.Fills.{stored_on}
use Rattle.line_texts.specs.Places.{no_place, places_of}
use Rattle.line_texts.proofs.Cuts.{left_none, left_some, cut_into}
use Rattle.line_texts.proofs.pieces.cut.Goals as goal

pub loop-j-preserved : goal.loop-j-preserved
loop-j-preserved c =
    let a = c.args in
    let j = c.loop-j.j in
    let p = c.piece_at-piece.ensures in
    let all = places_of a.sep a.text.now in
    let room : j < length c.loop-j.places =
    omega (arith, c.column_count-j-end.ensures.1, c.loop-j.invariant.1) in
    let here : j + 0 ≡ j = omega arith in
    let next : get_or all j no_place ≡ c.piece_at-piece.result.place =
    rw (p.is, c.loop-j.invariant.3, get_or-drop j all 0 no_place, here) in (
      p.on,
      simp length-set c.loop-j.invariant.1,
      stored_on Name no_place all j c.loop-j.places c.piece_at-piece.result.place room next c.loop-j.invariant.2,
      rw (p.behind, c.loop-j.invariant.3) (drop-drop 1 j all),
    )

pub returns-in-Some : goal.returns-in-Some
returns-in-Some c =
    let a = c.args in
    let end : c.loop-j.j ≡ length (columns a.tag) = omega (arith, c.column_count-j-end.ensures.0) in (
      cut_into a.sep a.text.now a.tag c.loop-j.places c.loop-j.j c.requires end c.loop-j.invariant.2,
      rw (← end) (left_some a.sep c.loop-j.j a.text.now c.in-Some.field-0 (rw c.in-Some.is at c.loop-j.invariant.3)),
    )

pub returns-in-None : goal.returns-in-None
returns-in-None c =
    let a = c.args in
    let end : c.loop-j.j ≡ length (columns a.tag) = omega (arith, c.column_count-j-end.ensures.0) in (
      cut_into a.sep a.text.now a.tag c.loop-j.places c.loop-j.j c.requires end c.loop-j.invariant.2,
      rw (← end) (left_none a.sep c.loop-j.j a.text.now (rw c.in-None.is at c.loop-j.invariant.3)),
    )
