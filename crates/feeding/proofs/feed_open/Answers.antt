-- `feeding::feed_open` meets its contract: an open slot of a sound house lends its session and all rows, and takes them back.
-- Assumes nothing.
use mathlib.Core.Path.{◌≡◌, refl, ap, sym, ◌∙◌}
use native.Mathlib.Omega.{arith}
use lib.ListN.{length, take}
use Rattle.numbers.specs.Laws.{Bytes}
use Rattle.numbers.proofs.Laws.{part_bytes, bytes_append}
use Rattle.house.specs.declared.Slot.{Slot}
use Rattle.house.proofs.Calling.{slot_told}
use Rattle.feeding.proofs.Door.{lends_to, feed_laid}
use borrow.Author.Rules.{rules}
use Rattle.feeding.proofs.feed_open.Goals as goal

pub pour_all-p-requires : goal.pour_all-p-requires
pour_all-p-requires c =
    let a = c.args in
    let long : length c.args.house.keys ≡ 1024 = search rules in
    let paired : length c.args.house.counts ≡ 1024 = search rules in
    let seen = c.room_of-room.ensures in
    let told = slot_told a.house a.i c.requires.fine (omega (arith, c.requires.slots, c.requires.inside))
    (ap (λ (x : Slot). x.taken) (sym c.requires.is) ∙ c.requires.taken) in
    let same = ap (λ (x : Slot). x.held) c.requires.is in (
      record {
        lends = lends_to a.house a.owed a.i a.s a.carry.now c.requires long paired seen;
        within = omega (arith, told.carry, same);
        long = c.requires.long;
      },
      refl,
    )

pub returns : goal.returns
returns c =
    let a = c.args in
    let long : length c.args.house.keys ≡ 1024 = search rules in
    let paired : length c.args.house.counts ≡ 1024 = search rules in
    let seen = c.room_of-room.ensures in
    let carry_range : Bytes a.carry.now = λ k. search rules in
    let chunk_range : Bytes a.chunk.now = λ k. search rules in
    let range = bytes_append (take a.s.held a.carry.now) a.chunk.now
    (part_bytes a.carry.now 0 a.s.held carry_range) chunk_range in
    feed_laid a.house a.owed a.i a.s a.carry.now c.requires long paired a.chunk.now
    range seen _ _ _ c.pour_all-p.result _ c.pour_all-p.auto.carry
    c.pour_all-p.ensures c.answer_of.ensures c.fed.ensures
