-- `kind_effects::place_on` meets its contract: the wafer at the rank of a head tells, or there is none.
-- Assumes nothing.
use Rattle.std.proofs.Common.{rules}
use Rattle.session.proofs.Wafers.{heads_rise_lem}
use Rattle.kind_effects.proofs.Laws.{first_rank, head_past, head_at}
use Rattle.kind_effects.proofs.place_on.Goals as goal
use Rattle.kind_effects.proofs.place_on.Goals.{else-rank-used-via-then-rank-used+else-wafers-rank, else-rank-used-via-else-rank-used}

pub rank_of-rank-requires : goal.rank_of-rank-requires
rank_of-rank-requires c = search (rules, heads_rise_lem)

pub returns-then-wafers-rank : goal.returns-then-wafers-rank
returns-then-wafers-rank c = search (rules, first_rank, head_at)

pub returns-else-rank-used : goal.returns-else-rank-used
returns-else-rank-used c =
    elim c.else-rank-used.branch [
      | else-rank-used-via-then-rank-used+else-wafers-rank w ↦ search (rules, first_rank, head_at)
      | else-rank-used-via-else-rank-used w ↦ search (rules, first_rank, head_past)
    ]
