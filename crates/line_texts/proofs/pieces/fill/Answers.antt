-- `line_texts::pieces::fill` meets its contract: the fields filled are the first ones of the line's.
-- Assumes nothing.
use mathlib.Core.Path.{◌≡◌, sym, ◌∙◌}
use Prim.Native.Nat.{◌<◌}
use native.Mathlib.Omega.{arith}
use lib.ListN.{length, get_or, drop, length-set}
use Rattle.line_layouts.specs.declared.Said.{Said}
use Rattle.line_layouts.specs.Columns.{columns, no_column}
use Rattle.line_layouts.specs.Entries.{named, no_field}
use Rattle.line_layouts.proofs.Fills.{stored_on}
use Rattle.line_texts.specs.Pieces.{split, gathered}
use Rattle.line_texts.specs.Places.{no_place, places_in, said_in}
use Rattle.line_texts.proofs.Cuts.{fields_each}
use Rattle.line_texts.proofs.Places.{
  length_places_in,
  piece_inside,
  piece_is,
  piece_at,
  field_at_lem,
  fields,
  filled_all,
}
use Rattle.line_texts.proofs.pieces.fill.Goals as goal

pub said_in-requires : goal.said_in-requires
said_in-requires c =
    let a = c.args in
    let text = a.text.now in
    let j = c.loop-j.j in
    let all = c.columns-column-items.ensures.all in
    let inside : j < length (columns a.tag) = rw all at c.loop-j-test.true in (
      rw c.place_of.ensures (piece_inside a.sep text a.tag a.places c.requires.0 j inside),
      rw (c.place_of.ensures, all, piece_is a.sep text a.tag a.places c.requires.0 j inside)
          (fields_each a.sep (columns a.tag) (gathered a.tag (split a.sep (drop 4 text))) j c.requires.1 inside),
    )

pub loop-j-preserved : goal.loop-j-preserved
loop-j-preserved c =
    let a = c.args in
    let text = a.text.now in
    let j = c.loop-j.j in
    let ns = places_in a.sep text a.tag in
    let all = c.columns-column-items.ensures.all in
    let inside : j < length (columns a.tag) = rw all at c.loop-j-test.true in
    let room : j < length c.loop-j.fields =
    omega (arith, c.loop-j-test.true, c.columns-column-items.ensures.few, c.loop-j.invariant.0) in
    let said : said_in (get_or (columns a.tag) j no_column) (get_or ns j no_place).at
    (named text (get_or ns j no_place))
    ≡ c.said_in.result =
    rw (← piece_at a.sep text a.tag a.places c.requires.0 j inside, ← c.place_of.ensures, ← all)
    (sym c.said_in.ensures) in (
      simp length-set c.loop-j.invariant.0,
      stored_on Said no_field (fields a.sep text a.tag) j c.loop-j.fields c.said_in.result room
          (field_at_lem text (columns a.tag) ns j (length_places_in a.sep text a.tag) inside ∙ said)
          c.loop-j.invariant.1,
    )

pub returns : goal.returns
returns c =
    let a = c.args in
    filled_all a.sep a.text.now a.tag c.loop-j.fields c.loop-j.j
    (rw c.columns-column-items.ensures.all at c.loop-j-test.false) c.loop-j.invariant.0 c.loop-j.invariant.1
