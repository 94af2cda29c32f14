-- `line_texts::pieces::said_in` meets its contract: each return is one case of `said_in`.
-- Assumes nothing.
use mathlib.Core.Path.{◌≡◌, sym, ◌∙◌}
use Prim.Native.Nat.{◌+◌, ◌-◌}
use native.Mathlib.Omega.{arith}
use lib.ListN.{length}
use Rattle.output.specs.Placed.{part}
use Rattle.output.proofs.Laws.{length_part}
use Rattle.line_texts.proofs.Fits.{piece_value, said_empty, said_value}
use Rattle.line_texts.proofs.pieces.said_in.Goals as goal

pub returns-then-place-eq0 : goal.returns-then-place-eq0
returns-then-place-eq0 c = rw (c.if-place-eq0.true, said_empty c.args.column c.args.place.at)

pub number_said-requires : goal.number_said-requires
number_said-requires c =
    let some : length (part c.args.place.at c.args.place.len c.args.text.now) ≡ 0 → ⊥ =
    λ e. let a = c.args in c.if-place-eq0.false (sym (length_part a.place.at a.place.len a.text.now c.requires.0) ∙ e) in
    let a = c.args in
    let size : a.place.at + a.place.len - a.place.at ≡ a.place.len = omega arith in
    let is = sym c.is_number.ensures ∙ c.if-is_number.true in
    rw size (rw (
      piece_value a.sep a.column (part a.place.at a.place.len a.text.now) some,
      is,
    ) at c.requires.1)

pub returns-then-is_number : goal.returns-then-is_number
returns-then-is_number c =
    let some : length (part c.args.place.at c.args.place.len c.args.text.now) ≡ 0 → ⊥ =
    λ e. let a = c.args in c.if-place-eq0.false (sym (length_part a.place.at a.place.len a.text.now c.requires.0) ∙ e) in
    let a = c.args in
    let p = part a.place.at a.place.len a.text.now in
    let size : a.place.at + a.place.len - a.place.at ≡ a.place.len = omega arith in
    let is = sym c.is_number.ensures ∙ c.if-is_number.true in
    rw (said_value a.column a.place.at p some, is)
    (rw size at c.number_said.ensures)

pub returns : goal.returns
returns c =
    let some : length (part c.args.place.at c.args.place.len c.args.text.now) ≡ 0 → ⊥ =
    λ e. let a = c.args in c.if-place-eq0.false (sym (length_part a.place.at a.place.len a.text.now c.requires.0) ∙ e) in
    let a = c.args in
    let p = part a.place.at a.place.len a.text.now in
    let is = sym c.is_number.ensures ∙ c.if-is_number.false in
    rw (
      said_value a.column a.place.at p some,
      is,
      length_part a.place.at a.place.len a.text.now c.requires.0,
      c.min-len.ensures,
    )
