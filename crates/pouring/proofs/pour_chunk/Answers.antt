-- `pouring::pour_chunk` meets its contract: the walk goes over the chunk from `at` on, and what is held of it is copied.
-- Assumes nothing.
use mathlib.Core.Path.{◌∙◌, ap}
use Prim.Native.Nat.{◌≤◌, ◌-◌}
use native.Mathlib.Omega.{arith}
use lib.ListN.{length}
use Rattle.numbers.specs.Laws.{Bytes}
use Rattle.answers.specs.declared.Answer.{Answer}
use Rattle.house.specs.Deliver.{Core}
use Rattle.house.specs.Feeding.{poured}
use Rattle.cutting.specs.Walk.{Walked}
use Rattle.output.proofs.Laws.{length_part}
use Rattle.pouring.proofs.Pours.{walk_begins, walk_ends, part_fits, chunk_pours}
use borrow.Author.Rules.{rules}
use Rattle.pouring.proofs.pour_chunk.Goals as goal

pub walk-w-requires : goal.walk-w-requires
walk-w-requires c =
    let long : length c.args.chunk.now ≤ 18446744073709551615 = search rules in
    walk_begins _ _ _ _ _ _ c.args.p.at c.args.chunk.now c.requires.0 c.requires.1 long c.stage_of.ensures

pub put_part-requires : goal.put_part-requires
put_part-requires c =
    let range : Bytes c.args.chunk.now = λ k. omega (arith, c.type_inv.chunk k) in
    let w = c.walk-w.ensures in
    let told = part_fits c.walk-w.result.fate _ _ _ w.within range w.few _ c.held_to-end.ensures in
    (omega (arith, told.0, told.1), omega (arith, told.2, c.requires.2))

pub returns : goal.returns
returns c =
    let range : Bytes c.args.chunk.now = λ k. omega (arith, c.type_inv.chunk k) in
    let w = c.walk-w.ensures in
    let at = c.walk-w.result.at in
    let told = part_fits c.walk-w.result.fate _ _ _ w.within range w.few _ c.held_to-end.ensures in
    let long = length_part at (c.held_to-end.result - at) c.args.chunk.now (omega (arith, told.0, told.1)) in
    record {
      is =
          chunk_pours c.walk-w.result.fate _ c.args.chunk.now _ _ at c.held_to-end.result _ w.within range
          c.held_to-end.ensures c.put_part.ensures
          ∙ ap (λ (x : Walked Core Answer). poured (length c.args.chunk.now) x)
          (walk_ends _ _ _ _ _ _ c.args.p.at c.args.chunk.now range c.stage_of.ensures _ _ _ _ w
          c.standing_of-standing.ensures);
      within = omega (arith, c.put_part.ensures.count, long, told.2);
    }
