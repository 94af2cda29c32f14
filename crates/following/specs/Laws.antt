-- What is shown of a stream: statements only. Each is proved in proofs/Laws.antt, under its name in small letters.
--
--   FollowedChunks   chunks do not matter: a stream followed over two of them is followed over both at once
--   FollowedAll      .. and from its beginning over any number of them
-- Assumes nothing.
use Rattle.std.specs.Prelude.{◌≡◌, List, [], ◌∷◌, ◌++◌, ℕ}
use Rattle.cutting.specs.Walk.{joined}
use Rattle.following.specs.Following.{Progress, followed, begun}

abbrev pub FollowedChunks : Type 0
FollowedChunks = (p : Progress) (a b : List ℕ) → followed p (a ++ b) ≡ followed (followed p a) b

abbrev pub followed_all : Progress → List (List ℕ) → Progress
followed_all p [] = p
followed_all p (c ∷ cs) = followed_all (followed p c) cs

abbrev pub FollowedAll : Type 0
FollowedAll = (chunks : List (List ℕ)) → followed_all begun chunks ≡ followed begun (joined chunks)
