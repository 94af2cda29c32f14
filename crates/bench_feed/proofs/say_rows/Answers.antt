-- `bench_feed::say_rows` is safe: a report lists as many rows as a house has at most.
-- Assumes nothing.
use Rattle.house.proofs.Reporting.{listing_few}
use Rattle.bench_feed.proofs.say_rows.Goals as goal

pub shared_ref_as_front-put_rows : goal.shared_ref_as_front-put_rows
shared_ref_as_front-put_rows g c = rw c.list_rows-list.ensures (listing_few c.args.house _ 1024)
