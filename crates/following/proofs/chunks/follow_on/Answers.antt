-- `following::chunks::follow_on` meets its contract: the walk goes over the held bytes and the chunk behind them.
-- Assumes nothing.
use mathlib.Core.Path.{refl}
use Prim.Native.Nat.{◌+◌}
use Rattle.numbers.specs.Laws.{Bytes}
use Rattle.numbers.proofs.Laws.{part_bytes}
use Rattle.following.proofs.Carry.{walk_begins, walk_ends, chunk_told}
use borrow.Author.Rules.{rules}
use Rattle.following.proofs.chunks.follow_on.Goals as goal

-- the promise first: it is what a record judged too long is refused by
pub returns : goal.returns
returns c =
    let range : Bytes c.args.buf.now = λ k. search rules in
    let given = c.requires in
    let end = c.args.s.held + c.args.got in
    chunk_told c.args.s c.args.buf.now c.args.got given.0 given.1 given.2 given.3 (search rules) (search rules)
    (search rules) _ refl c.alone.ensures c.stage_of.ensures _ _ _ _ c.walk-w.ensures
    (part_bytes c.args.buf.now 0 end range) c.standing_of.ensures c.kept_from.ensures _ _ c.keep.ensures.0
    c.keep.auto.buf c.keep.ensures.1

pub walk-w-requires : goal.walk-w-requires
walk-w-requires c =
    let given = c.requires in
    walk_begins c.args.s c.args.buf.now c.args.got given.0 given.1 given.2 given.3 (search rules) (search rules)
    (search rules) _ refl c.alone.ensures c.stage_of.ensures

pub keep-requires : goal.keep-requires
keep-requires c =
    let given = c.requires in (
      walk_ends c.args.s c.args.buf.now c.args.got given.0 given.1 given.2 given.3 (search rules) (search rules)
          (search rules) _ refl c.alone.ensures c.stage_of.ensures _ _ _ _ c.walk-w.ensures c.kept_from.ensures,
      given.2,
    )
