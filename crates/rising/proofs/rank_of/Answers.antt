-- `rising::rank_of` meets its contract: the elements of a rising list that are below a key stand first.
-- Assumes nothing.
use borrow.Author.Rules.{rules}
use lib.Dec.{ltb}
use lib.ListN.{take}
use Rattle.std.proofs.lemmas.List.Sorted.{IsPartitionPoint-from_clause}
use Rattle.rising.proofs.Steps.{split, turns_at_rank}
use Rattle.rising.proofs.rank_of.Goals as goal

pub returns : goal.returns
returns c =
    let key = c.args.key in
    let xs = take c.args.used c.args.s.now in
    turns_at_rank key xs _ c.requires.1 c.partition_point.ensures.bound
    (IsPartitionPoint-from_clause (λ x. ltb x key) xs _ c.partition_point.ensures.partitioned
    (split key xs c.requires.1) (λ x b f' k. search rules))
