-- The kind of a record, by its type and subtype. Document 01, "Record frame and kinds".
--
--   pairs         STDF V4's twenty-five pairs
--   named         the kind that a table gives a pair, or else another
--   has_type       whether a table has a type: "one of those eight"
--   custom        which pairs beyond the table are custom
--   kind_of        the kind of any pair
--   known         whether a kind is not unknown: 6 where it is
-- Assumes nothing.
use Rattle.std.specs.Prelude.{ℕ, Bool, true, false, cond, ◌&&◌, ◌||◌, List, [], ◌∷◌, eqb, ltb, find}
use Rattle.std.specs.List.{list_any}
use Rattle.std.specs.Option.{option_map_or}
use Rattle.kinds.specs.declared.Kind.{Kind}
use Rattle.kinds.specs.declared.Kind.TheVariants.{Far, Atr, Mir, Mrr, Pcr, Hbr, Sbr}
use Rattle.kinds.specs.declared.Kind.TheVariants.{Rdr, Sdr, Wir, Wrr, Pir, Prr, Remaining, Custom, Unknown}
use Rattle.kinds.specs.declared.Remaining.TheVariants.{Pmr, Pgr, Plr, Wcr, Tsr}
use Rattle.kinds.specs.declared.Remaining.TheVariants.{Ptr, Mpr, Ftr, Bps, Eps, Gdr, Dtr}
use Rattle.kinds.specs.declared.Pair.{Pair}

abbrev pub pair : ℕ → ℕ → Kind → Pair
pair typ sub kind = record { typ = typ; sub = sub; kind = kind }

-- STDF V4 has twenty-five pairs: the table, in the document's order
abbrev pub pairs : List Pair
pairs =
    pair 0 10 Far ∷
    pair 0 20 Atr ∷
    pair 1 10 Mir ∷
    pair 1 20 Mrr ∷
    pair 1 30 Pcr ∷
    pair 1 40 Hbr ∷
    pair 1 50 Sbr ∷
    pair 1 60 (Remaining Pmr) ∷
    pair 1 62 (Remaining Pgr) ∷
    pair 1 63 (Remaining Plr) ∷
    pair 1 70 Rdr ∷
    pair 1 80 Sdr ∷
    pair 2 10 Wir ∷
    pair 2 20 Wrr ∷
    pair 2 30 (Remaining Wcr) ∷
    pair 5 10 Pir ∷
    pair 5 20 Prr ∷
    pair 10 30 (Remaining Tsr) ∷
    pair 15 10 (Remaining Ptr) ∷
    pair 15 15 (Remaining Mpr) ∷
    pair 15 20 (Remaining Ftr) ∷
    pair 20 10 (Remaining Bps) ∷
    pair 20 20 (Remaining Eps) ∷
    pair 50 10 (Remaining Gdr) ∷
    pair 50 30 (Remaining Dtr) ∷
    []

-- what stands past the table's end
abbrev pub no_pair : Pair
no_pair = pair 0 0 Far

-- the kind of the first entry that has the type and the subtype, or else the other kind
unfoldable pub named : List Pair → ℕ → ℕ → Kind → Kind
named table typ sub other = option_map_or (λ p. p.kind) (find (λ p. eqb p.typ typ && eqb p.sub sub) table) other

-- the types of the table: eight of them
unfoldable pub has_type : List Pair → ℕ → Bool
has_type table typ = list_any (λ p. eqb p.typ typ) table

-- custom: a type above 200, or a type of the table with a subtype above 200
abbrev pub custom : ℕ → ℕ → Bool
custom typ sub = ltb 200 typ || (ltb 200 sub && has_type pairs typ)

-- all else is unknown, code 200 and types 180 and 181 included (house rule)
unfoldable pub beyond_table : ℕ → ℕ → Kind
beyond_table typ sub = cond (custom typ sub) Custom Unknown

unfoldable pub kind_of : ℕ → ℕ → Kind
kind_of typ sub = named pairs typ sub (beyond_table typ sub)

-- 6: unknown kind
abbrev pub known : Kind → Bool
known Unknown = false
known _ = true
