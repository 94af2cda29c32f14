-- What is shown of a walk over a stream: statements only. Each is proved in proofs/Walks.antt, or in proofs/Cuts.antt
-- those of records cut by their headers, under its name in small letters.
-- Assumes nothing.
use Rattle.std.specs.Prelude.{◌≡◌, Bool, true, ◌&&◌, List, [], ◌∷◌, ◌++◌, ℕ, ◌+◌, ◌≤◌, ◌<◌, length, take, drop}
use Rattle.numbers.specs.Laws.{Bytes}
use Rattle.session.specs.declared.Standing.{Standing}
use Rattle.cutting.specs.Needed.{first_length, longest, needed, cut}
use Rattle.cutting.specs.Walk.{Heard, Kept, Turned, Machine, Walked, Waits, Stops, judged, walked, cutting}
use Rattle.cutting.specs.Walk.{joined, records, accepted, Ran, heard_all, outcome, left, behind, state_of, all_fit}

-- chunks do not matter
abbrev pub WalkedAppend : Type 1
WalkedAppend = (S F : Type 0) (m : Machine S F) (w : Walked S F) (xs ys : List ℕ)
    → walked m w (xs ++ ys) ≡ walked m (walked m w xs) ys

-- what stops stays, and the bytes after it are kept apart
abbrev pub WalkedStops : Type 1
WalkedStops = (S F : Type 0) (m : Machine S F) (s : S) (r : List ℕ) (f : F) (rest ys : List ℕ)
    → walked m (Stops s r f rest) ys ≡ Stops s r f (rest ++ ys)

-- no more bytes are behind it than were walked
abbrev pub WalkedBehind : Type 1
WalkedBehind = (S F : Type 0) (m : Machine S F) (w : Walked S F) (bs : List ℕ)
    → length (behind (walked m w bs)) ≤ length (behind w) + length bs

-- a walk hears the records that its bytes are cut into, and no byte is lost or made
abbrev pub WalkedRecords : Type 1
WalkedRecords = (S F : Type 0) (m : Machine S F) (s : S) (bs : List ℕ)
    → outcome (walked m (Waits s []) bs) ≡ heard_all m s (records m (Waits s []) bs)

abbrev pub WalkedBytes : Type 1
WalkedBytes = (S F : Type 0) (m : Machine S F) (w : Walked S F) (bs : List ℕ)
    → left w ++ bs ≡ joined (accepted m w bs) ++ left (walked m w bs)

-- the record that stopped a walk was turned away where the walk stands
abbrev pub TurnedAt : {S F : Type 0} → Machine S F → Walked S F → Type 0
TurnedAt m (Waits s part) = Unit
TurnedAt m (Stops s r f rest) = m.hear s r ≡ Turned f

abbrev pub WalkedTurned : Type 1
WalkedTurned = (S F : Type 0) (m : Machine S F) (w : Walked S F) (bs : List ℕ) → TurnedAt m w
    → TurnedAt m (walked m w bs)

-- what waits after a walk from nothing waits again
abbrev pub WalkedAgain : Type 1
WalkedAgain = (S F : Type 0) (m : Machine S F) (s t : S) (xs part : List ℕ) → walked m (Waits s []) xs ≡ Waits t part
    → walked m (Waits t []) part ≡ Waits t part

-- a fact that every record keeps holds after a walk: that a house is sound
abbrev pub HeardIs : {S F : Type 0} → (S → Type 0) → Heard S F → Type 0
HeardIs Fine (Kept t) = Fine t
HeardIs Fine (Turned f) = Unit

abbrev pub WalkedKeeps : Type 1
WalkedKeeps = (S F : Type 0) (m : Machine S F) (Fine : S → Type 0)
    → ((s : S) (r : List ℕ) → Bytes r → Fine s → HeardIs Fine (m.hear s r))
    → (s : S) (bs : List ℕ) → Bytes bs → Fine s → Fine (state_of (walked m (Waits s []) bs))

-- the records of bytes are bytes
abbrev pub AllBytes : List (List ℕ) → Type 0
AllBytes [] = Unit
AllBytes (r ∷ rs) = Bytes r × AllBytes rs

abbrev pub RecordsBytes : Type 1
RecordsBytes = (S F : Type 0) (m : Machine S F) (s : S) (bs : List ℕ) → Bytes bs → AllBytes (records m (Waits s []) bs)

-- ---- walks whose records pass a test

-- chunks do not matter to it either
abbrev pub FitAppend : Type 1
FitAppend = (S F : Type 0) (m : Machine S F) (fits : S → List ℕ → Bool) (w : Walked S F) (xs ys : List ℕ)
    → all_fit m fits w (xs ++ ys) ≡ (all_fit m fits w xs && all_fit m fits (walked m w xs) ys)

-- what waits holds no record to be tested
abbrev pub FitAgain : Type 1
FitAgain = (S F : Type 0) (m : Machine S F) (fits : S → List ℕ → Bool) (s t : S) (xs part : List ℕ)
    → walked m (Waits s []) xs ≡ Waits t part → all_fit m fits (Waits t []) part ≡ true

-- a fact that every record keeps that passes the test
abbrev pub FitKeeps : Type 1
FitKeeps = (S F : Type 0) (m : Machine S F) (fits : S → List ℕ → Bool) (Fine : S → Type 0)
    → ((s : S) (r : List ℕ) → fits s r ≡ true → Fine s → HeardIs Fine (m.hear s r))
    → (w : Walked S F) (bs : List ℕ) → all_fit m fits w bs ≡ true → Fine (state_of w) → Fine (state_of (walked m w bs))

-- ---- walks that are alike

-- states are alike by one relation, and the reasons for which a walk stops by another
abbrev pub HeardLike : {S T F G : Type 0} → (S → T → Type 0) → (F → G → Type 0) → Heard S F → Heard T G → Type 0
HeardLike Like Why (Kept s) (Kept t) = Like s t
HeardLike Like Why (Kept s) (Turned g) = ⊥
HeardLike Like Why (Turned f) (Kept t) = ⊥
HeardLike Like Why (Turned f) (Turned g) = Why f g

abbrev pub WalkLike : {S T F G : Type 0} → (S → T → Type 0) → (F → G → Type 0) → Walked S F → Walked T G → Type 0
WalkLike Like Why (Waits s part) (Waits t other) = Like s t × (part ≡ other)
WalkLike Like Why (Waits s part) (Stops t r g rest) = ⊥
WalkLike Like Why (Stops s r f rest) (Waits t other) = ⊥
WalkLike Like Why (Stops s r f rest) (Stops t q g other) = Like s t × (r ≡ q) × (Why f g) × (rest ≡ other)

abbrev pub Same : {F : Type 0} → F → F → Type 0
Same f g = f ≡ g

-- states that are alike: a record is whole for both, passes a test of each or of neither, and if it does is heard alike
pub record Likeness (S T F G : Type 0) (m : Machine S F) (k : Machine T G) (fits : S → List ℕ → Bool)
    (suits : T → List ℕ → Bool) (Like : S → T → Type 0) (Why : F → G → Type 0) : Type 0 where
  pub whole_like : (s : S) (t : T) (r : List ℕ) → Like s t → m.whole s r ≡ k.whole t r
  pub fits_like : (s : S) (t : T) (r : List ℕ) → Bytes r → Like s t → fits s r ≡ suits t r
  pub hear_like : (s : S) (t : T) (r : List ℕ) → Bytes r → Like s t → suits t r ≡ true
      → HeardLike Like Why (m.hear s r) (k.hear t r)

-- .. so that all records pass in both walks or not in both, and then the walks are alike: two houses in which a slot
-- stands the same, while it needs no more rows than its floor
abbrev pub WalkedLike : Type 1
WalkedLike = (S T F G : Type 0) (m : Machine S F) (k : Machine T G) (fits : S → List ℕ → Bool)
    (suits : T → List ℕ → Bool) (Like : S → T → Type 0) (Why : F → G → Type 0)
    → Likeness S T F G m k fits suits Like Why → (s : S) (t : T) (bs : List ℕ) → Bytes bs → Like s t
    → (all_fit m fits (Waits s []) bs ≡ all_fit k suits (Waits t []) bs)
    × (all_fit k suits (Waits t []) bs ≡ true
    → WalkLike Like Why (walked m (Waits s []) bs) (walked k (Waits t []) bs))

-- .. with no test: what a slot sees of a house against the house
abbrev pub always : {S : Type 0} → S → List ℕ → Bool
always s r = true

abbrev pub WalkedEver : Type 1
WalkedEver = (S T F G : Type 0) (m : Machine S F) (k : Machine T G) (Like : S → T → Type 0) (Why : F → G → Type 0)
    → Likeness S T F G m k always always Like Why → (s : S) (t : T) (bs : List ℕ) → Bytes bs → Like s t
    → WalkLike Like Why (walked m (Waits s []) bs) (walked k (Waits t []) bs)

-- ---- records cut by their headers

-- bytes of which none is a whole record wait
abbrev pub CutWaits : Type 1
CutWaits = (S F : Type 0) (stand : S → Standing) (most : ℕ) (long : F) (hear : S → List ℕ → Heard S F) (s : S)
    (bytes : List ℕ) → first_length ≤ most → length bytes < cut most (stand s) bytes
    → walked (cutting stand most long hear) (Waits s []) bytes ≡ Waits s bytes

-- a record that is there is heard
abbrev pub CutAlone : Type 1
CutAlone = (S F : Type 0) (stand : S → Standing) (most : ℕ) (long : F) (hear : S → List ℕ → Heard S F) (s : S)
    (bytes : List ℕ) → first_length ≤ most → needed (stand s) bytes ≤ most → needed (stand s) bytes ≤ length bytes
    → let n = needed (stand s) bytes in
    walked (cutting stand most long hear) (Waits s []) (take n bytes)
    ≡ judged (hear s (take n bytes)) s (take n bytes)

-- .. and the walk goes on behind it
abbrev pub CutHeard : Type 1
CutHeard = (S F : Type 0) (stand : S → Standing) (most : ℕ) (long : F) (hear : S → List ℕ → Heard S F) (s : S)
    (bytes : List ℕ) → first_length ≤ most → needed (stand s) bytes ≤ most → needed (stand s) bytes ≤ length bytes
    → let n = needed (stand s) bytes in
    walked (cutting stand most long hear) (Waits s []) bytes
    ≡ walked (cutting stand most long hear) (judged (hear s (take n bytes)) s (take n bytes)) (drop n bytes)

-- a record is tested by itself
abbrev pub CutFits : Type 1
CutFits = (S F : Type 0) (stand : S → Standing) (most : ℕ) (long : F) (hear : S → List ℕ → Heard S F)
    (fits : S → List ℕ → Bool) (s : S) (r : List ℕ) → first_length ≤ most → length r ≤ most
    → needed (stand s) r ≡ length r → all_fit (cutting stand most long hear) fits (Waits s []) r ≡ fits s r

-- a header that says more than is taken stops it
abbrev pub CutLong : Type 1
CutLong = (S F : Type 0) (stand : S → Standing) (most : ℕ) (long : F) (hear : S → List ℕ → Heard S F) (s : S)
    (bytes : List ℕ) → first_length ≤ most → most < needed (stand s) bytes
    → let n = cut most (stand s) bytes in
    walked (cutting stand most long hear) (Waits s []) bytes ≡ Stops s (take n bytes) long (drop n bytes)

-- .. as none does to one who takes the longest
abbrev pub NeededMost : Type 0
NeededMost = (st : Standing) (bytes : List ℕ) → Bytes bytes → needed st bytes ≤ longest

-- what waits is less than is judged at once, and what stops a walk is just that much
abbrev pub Framed : {S F : Type 0} → (S → Standing) → ℕ → Walked S F → Type 0
Framed stand most (Waits s part) = length part < cut most (stand s) part
Framed stand most (Stops s r f rest) = length r ≡ cut most (stand s) r

abbrev pub CutFramed : Type 1
CutFramed = (S F : Type 0) (stand : S → Standing) (most : ℕ) (long : F) (hear : S → List ℕ → Heard S F) (s : S)
    (bytes : List ℕ) → first_length ≤ most
    → Framed stand most (walked (cutting stand most long hear) (Waits s []) bytes)

-- ---- the records that are accepted

-- each was kept, one after the other
abbrev pub AcceptedRuns : Type 1
AcceptedRuns = (S F : Type 0) (m : Machine S F) (s : S) (bs : List ℕ)
    → heard_all m s (accepted m (Waits s []) bs) ≡ Ran (state_of (walked m (Waits s []) bs))

-- a walk judges them and the one that it stops at
abbrev pub stopped : {S F : Type 0} → Walked S F → List (List ℕ)
stopped (Waits s part) = []
stopped (Stops s r f rest) = r ∷ []

abbrev pub AcceptedStopped : Type 1
AcceptedStopped = (S F : Type 0) (m : Machine S F) (s : S) (bs : List ℕ)
    → records m (Waits s []) bs ≡ accepted m (Waits s []) bs ++ stopped (walked m (Waits s []) bs)

-- .. and walks that are alike accept the same
abbrev pub AcceptedEver : Type 1
AcceptedEver = (S T F G : Type 0) (m : Machine S F) (k : Machine T G) (Like : S → T → Type 0) (Why : F → G → Type 0)
    → Likeness S T F G m k always always Like Why → (s : S) (t : T) (bs : List ℕ) → Bytes bs → Like s t
    → accepted m (Waits s []) bs ≡ accepted k (Waits t []) bs
