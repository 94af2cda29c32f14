-- The statements of specs/Laws.antt, proved by one computed test each over the table; and how a search goes on.
-- Assumes nothing.
use mathlib.Core.Path.{◌≡◌, refl}
use mathlib.Core.Bool.{Bool, true, false, cond, ◌&&◌}
use mathlib.Core.List.{List, ◌∷◌, map}
use Prim.Native.Nat.{ℕ}
use lib.Dec.{eqb}
use Rattle.std.specs.Prelude.{Some, find}
use Rattle.std.specs.Option.{option_map_or}
use Rattle.prelude.proofs.Table.{at_each}
use Rattle.kinds.specs.declared.Pair.{Pair}
use Rattle.kinds.specs.declared.Kind.{Kind}
use Rattle.kinds.specs.Kinds.{pairs, no_pair, named, has_type, custom, beyond_table, kind_of}
use Rattle.kinds.specs.Laws.{EachPairItsKind, PairsCounted, PairsNotCustom}

-- ---- the table

-- the test: the kinds that its pairs name are the kinds that it lists
all_named : map (λ (p : Pair). kind_of p.typ p.sub) pairs ≡ map (λ (p : Pair). p.kind) pairs
unfolding kind_of named beyond_table has_type
all_named = refl

pub each_pair_its_kind : EachPairItsKind
each_pair_its_kind = at_each Pair Kind (λ p. kind_of p.typ p.sub) (λ p. p.kind) pairs no_pair all_named

pub pairs_counted : PairsCounted
unfolding has_type
pairs_counted = (refl, refl)

none_custom : map (λ (p : Pair). custom p.typ p.sub) pairs ≡ map (λ (p : Pair). false) pairs
unfolding has_type
none_custom = refl

pub pairs_not_custom : PairsNotCustom
pairs_not_custom = at_each Pair Bool (λ p. custom p.typ p.sub) (λ p. false) pairs no_pair none_custom

-- ---- a search through any table

pub named_cons : (p : Pair) (ps : List Pair) (typ sub : ℕ) (other : Kind)
    → named (p ∷ ps) typ sub other
    ≡ cond (eqb p.typ typ && eqb p.sub sub) p.kind (named ps typ sub other)
unfolding named
named_cons p ps typ sub other = go (eqb p.typ typ && eqb p.sub sub)
  where
    go : (t : Bool)
        → option_map_or (λ (q : Pair). q.kind) (cond t (Some p) (find (λ (q : Pair). eqb q.typ typ && eqb q.sub sub) ps)) other
        ≡ cond t p.kind (named ps typ sub other)
    go true = refl
    go false = refl
