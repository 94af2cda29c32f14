-- `line_laying::place` meets its contract: refused where the whole does not fit, else written at its offset.
-- Assumes nothing.
use mathlib.Core.Path.{◌≡◌}
use mathlib.Core.List.{List}
use Prim.Native.Nat.{ℕ, ◌+◌}
use native.Mathlib.Omega.{arith}
use lib.ListN.{length}
use Rattle.output.proofs.Laws.{place_short, place_room, place_done}
use Rattle.line_layouts.specs.declared.Layout.{Layout}
use Rattle.line_layouts.specs.declared.Line.{Line}
use Rattle.line_layouts.specs.Entries.{meaning_of, AllWithin}
use Rattle.line_layouts.specs.Layouts.{Stops, Sized, rest_of, laid_out}
use Rattle.line_layouts.proofs.Laid.{laid_size}
use Rattle.line_laying.proofs.place.Goals as goal

module _ (layout : Layout) (s : List ℕ) (line : Line) (n size : ℕ) (there : AllWithin s line) (stops : Stops layout line n)
    (is : size ≡ length (rest_of layout s line 0 n)) where
  sized : Sized layout s line n size
  sized = record { there = there; stops = stops; is = is }

  total : length (laid_out layout (meaning_of s line)) ≡ size + 4
  total = laid_size layout s line n size sized

pub returns-then-saturating_sub-size : goal.returns-then-saturating_sub-size
returns-then-saturating_sub-size c =
    let all = total _ _ _ _ _ c.requires c.present_count-n.ensures c.fields_size-size.ensures.0 in
    place_short _ c.args.out.now c.args.at (omega (arith, all))

pub put_all-requires : goal.put_all-requires
put_all-requires c =
    let all = total _ _ _ _ _ c.requires c.present_count-n.ensures c.fields_size-size.ensures.0 in (
      sized _ _ _ _ _ c.requires c.present_count-n.ensures c.fields_size-size.ensures.0,
      place_room _ c.args.out.now c.args.at (omega (arith, all)),
    )

pub returns : goal.returns
returns c =
    let all = total _ _ _ _ _ c.requires c.present_count-n.ensures c.fields_size-size.ensures.0 in
    place_done _ c.args.out.now c.args.at (omega (arith, all)) _ _ c.put_all.ensures
