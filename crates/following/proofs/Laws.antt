-- The statements of specs/Laws.antt, proved.
-- Assumes nothing.
use mathlib.Core.Path.{◌≡◌, refl, ap, sym, ◌∙◌}
use mathlib.Core.List.{List, [], ◌∷◌}
use Prim.Native.Nat.{ℕ}
use Rattle.house.specs.House.{row_count, fresh}
use Rattle.house.specs.Calls.{open_slot}
use Rattle.cutting.specs.Walk.{Walked, Waits, Stops, walked, joined}
use Rattle.cutting.proofs.Walks.{walked_append, walked_stops}
use Rattle.walking.specs.declared.Stop.{Stop}
use Rattle.following.specs.Following.{Reached, reached, hearing, Progress, seen, resumed, followed}
use Rattle.following.specs.Laws.{FollowedChunks, followed_all, FollowedAll}

-- what is kept of a stream is all that matters to the bytes that come
on : (w : Walked Reached Stop) (bytes : List ℕ) → seen (walked hearing w bytes) ≡ followed (seen w) bytes
on (Waits p part) bytes = refl
on (Stops p r why rest) bytes =
    ap seen (walked_stops Reached Stop hearing p r why rest bytes)
    ∙ ap seen (sym (walked_stops Reached Stop hearing p [] why [] bytes))

pub followed_chunks : FollowedChunks
followed_chunks p a b =
    ap seen (walked_append Reached Stop hearing (resumed p) a b) ∙ on (walked hearing (resumed p) a) b

all_joined : (w : Walked Reached Stop) (chunks : List (List ℕ))
    → followed_all (seen w) chunks ≡ seen (walked hearing w (joined chunks))
unfolding walked
all_joined w [] = refl
all_joined w (c ∷ cs) =
    ap (λ (p : Progress). followed_all p cs) (sym (on w c))
    ∙ all_joined (walked hearing w c) cs
    ∙ ap seen (sym (walked_append Reached Stop hearing w c (joined cs)))

pub followed_all_lem : FollowedAll
followed_all_lem chunks = all_joined (Waits (reached (open_slot fresh 0 row_count).house 0) []) chunks
