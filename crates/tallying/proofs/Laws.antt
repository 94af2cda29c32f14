-- The statements of specs/Laws.antt, proved; of the text that the calls tell, in proofs/Told.antt.
-- Assumes nothing.
use Rattle.std.specs.Prelude.{Some}
use mathlib.Core.Path.{◌≡◌, ap, ◌∙◌}
use mathlib.Core.List.{List, []}
use Prim.Native.Nat.{ℕ}
use Rattle.cutting.proofs.Walks.{walked_stops}
use Rattle.walking.specs.declared.Stop.{Stop}
use Rattle.following.specs.Following.{Reached, reached, hearing, Progress, followed, begun}
use Rattle.following.proofs.Laws.{followed_chunks, followed_all_lem}
use Rattle.tallying.specs.Text.{ended}
use Rattle.tallying.specs.Laws.{TallyChunks, TallyStopped}

pub tally_chunks : TallyChunks
tally_chunks chunks = ap ended (followed_all_lem chunks)

stopped_text : (p : Progress) (why : Stop) (more : List ℕ) → p.fate ≡ Some why
    → ended (followed p more) ≡ ended p
unfolding ended
stopped_text p why more e =
    rw (e, walked_stops Reached Stop hearing (reached p.house p.accepted) [] why [] more)

pub tally_stopped : TallyStopped
tally_stopped bytes more why e =
    ap ended (followed_chunks begun bytes more) ∙ stopped_text (followed begun bytes) why more e
