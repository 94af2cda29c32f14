-- What is shown of the kinds: statements only. Each is proved in proofs/Laws.antt, under its name in small letters.
--
--   types_of   the types of a table, each once
-- Assumes nothing.
use Rattle.std.specs.Prelude.{◌≡◌, Bool, true, false, List, [], ◌∷◌, ℕ, ◌<◌, length, get_or}
use Rattle.kinds.specs.declared.Pair.{Pair}
use Rattle.kinds.specs.Kinds.{pairs, no_pair, has_type, custom, kind_of}

-- a type that a later pair has too is left to that one; whether one has is an argument, so that the rest is computed once
abbrev pub listed : Bool → ℕ → List ℕ → List ℕ
listed true typ rest = rest
listed false typ rest = typ ∷ rest

abbrev pub types_of : List Pair → List ℕ
types_of [] = []
types_of (p ∷ ps) = listed (has_type ps p.typ) p.typ (types_of ps)

-- Record frame and kinds: twenty-five pairs, of eight types
abbrev pub PairsCounted : Type 0
PairsCounted = (length pairs ≡ 25) × (types_of pairs ≡ 0 ∷ 1 ∷ 2 ∷ 5 ∷ 10 ∷ 15 ∷ 20 ∷ 50 ∷ [])

-- .. none of which is custom
abbrev pub PairsNotCustom : Type 0
PairsNotCustom = (i : ℕ) → i < 25 → custom (get_or pairs i no_pair).typ (get_or pairs i no_pair).sub ≡ false

-- Record frame and kinds: each of the twenty-five pairs names its own kind, and no earlier one hides it
abbrev pub EachPairItsKind : Type 0
EachPairItsKind = (i : ℕ) → i < 25 → kind_of (get_or pairs i no_pair).typ (get_or pairs i no_pair).sub ≡ (get_or pairs i no_pair).kind
