-- `line_texts::pieces::fields_fit` meets its contract: the columns left fit their pieces as all of them do.
-- Assumes nothing.
use mathlib.Core.Path.{sym, ◌∙◌}
use Prim.Native.Nat.{◌<◌}
use native.Mathlib.Omega.{arith}
use lib.ListN.{length, drop}
use Rattle.line_layouts.specs.Columns.{columns}
use Rattle.line_texts.specs.Pieces.{split, gathered}
use Rattle.line_texts.proofs.Cuts.{fields_no, fields_on, fields_end}
use Rattle.line_texts.proofs.Places.{length_gathered, piece_inside, piece_is}
use Rattle.line_texts.proofs.pieces.fields_fit.Goals as goal

pub fits_at-requires : goal.fits_at-requires
fits_at-requires c =
    let a = c.args in
    rw c.place_of.ensures
    (piece_inside a.sep a.text.now a.tag a.places c.requires c.loop-j.j
    (rw c.columns-column-items.ensures.all at c.loop-j-test.true))

pub returns-then-not-fits_at : goal.returns-then-not-fits_at
returns-then-not-fits_at c =
    let a = c.args in
    let ps = split a.sep (drop 4 a.text.now) in
    let all = c.columns-column-items.ensures.all in
    let inside : c.loop-j.j < length (columns a.tag) = rw all at c.loop-j-test.true in
    sym (c.loop-j.invariant ∙ fields_no a.sep (columns a.tag) (gathered a.tag ps) c.loop-j.j inside
    (omega (arith, length_gathered a.tag ps))
    (rw (← piece_is a.sep a.text.now a.tag a.places c.requires c.loop-j.j inside, ← c.place_of.ensures, ← all)
    (sym c.fits_at.ensures ∙ c.if-not-fits_at.true)))

pub loop-j-preserved : goal.loop-j-preserved
loop-j-preserved c =
    let a = c.args in
    let ps = split a.sep (drop 4 a.text.now) in
    let all = c.columns-column-items.ensures.all in
    let inside : c.loop-j.j < length (columns a.tag) = rw all at c.loop-j-test.true in
    c.loop-j.invariant ∙ fields_on a.sep (columns a.tag) (gathered a.tag ps) c.loop-j.j inside
    (omega (arith, length_gathered a.tag ps))
    (rw (← piece_is a.sep a.text.now a.tag a.places c.requires c.loop-j.j inside, ← c.place_of.ensures, ← all)
    (sym c.fits_at.ensures ∙ c.if-not-fits_at.false))

pub returns : goal.returns
returns c =
    let a = c.args in
    let ps = split a.sep (drop 4 a.text.now) in
    sym (c.loop-j.invariant ∙ fields_end a.sep (columns a.tag) (gathered a.tag ps) c.loop-j.j
    (rw c.columns-column-items.ensures.all at c.loop-j-test.false))
