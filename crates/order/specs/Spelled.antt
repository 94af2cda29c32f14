-- The order of a stream, spelled out over the kinds of its records. Document 01, "Order of a stream", its first
-- sentence. The table of specs/Order.antt is not looked at: specs/Laws.antt says that the two agree (Spelled,
-- SpelledEnds).
--
--   word_of                         which of the kinds that the sentence names a kind is; is, other: tests of that
--   one, any, at_most_one, nothing   what may stand next, as the sentence counts it, and what behind it
--   spells                         whether kinds stand in the order of a stream, as far as they go
--   ends_with                       whether there is a last kind, and it passes a test
--   walks, led                     the table over a list of kinds: is each in its place, and where do they lead
-- Assumes nothing.
use Rattle.std.specs.Prelude.{ℕ, Bool, true, false, cond, ◌&&◌, List, [], ◌∷◌, eqb}
use Rattle.kinds.specs.declared.Kind.{Kind}
use Rattle.kinds.specs.declared.Kind.TheVariants.{Far, Atr, Mir, Mrr, Pcr, Hbr, Sbr, Rdr, Sdr, Wir, Wrr, Pir, Prr}
use Rattle.kinds.specs.declared.Kind.TheVariants.{Remaining, Custom, Unknown}
use Rattle.order.specs.declared.Place.{Place}
use Rattle.order.specs.Order.{goes, in_place, place_after}

-- the six kinds that the sentence names, each its number; 0 is every other, custom ones too. An unknown kind is refused
-- with 6 before its place is asked for
abbrev pub word_of : Kind → ℕ
word_of Far = 1
word_of Atr = 2
word_of Mir = 3
word_of Rdr = 4
word_of Sdr = 5
word_of Mrr = 6
word_of Pcr = 0
word_of Hbr = 0
word_of Sbr = 0
word_of Pir = 0
word_of Prr = 0
word_of Wir = 0
word_of Wrr = 0
word_of (Remaining k) = 0
word_of Custom = 0
word_of Unknown = 0

-- whether a kind is one that the sentence names
abbrev pub is : Kind → Kind → Bool
is named k = eqb (word_of named) (word_of k)

abbrev pub other : Kind → Bool
other k = eqb (word_of k) 0

-- ---- how the sentence counts; a stream may stop anywhere

abbrev pub one : (Kind → Bool) → (List Kind → Bool) → List Kind → Bool
one test rest [] = true
one test rest (k ∷ ks) = test k && rest ks

abbrev pub any : (Kind → Bool) → (List Kind → Bool) → List Kind → Bool
any test rest [] = true
any test rest (k ∷ ks) = cond (test k) (any test rest ks) (rest (k ∷ ks))

abbrev pub at_most_one : (Kind → Bool) → (List Kind → Bool) → List Kind → Bool
at_most_one test rest [] = true
at_most_one test rest (k ∷ ks) = cond (test k) (rest ks) (rest (k ∷ ks))

abbrev pub nothing : List Kind → Bool
nothing [] = true
nothing (k ∷ ks) = false

-- FAR; any ATRs; one MIR; at most one RDR; any SDRs; then the body; MRR last
unfoldable pub spells : List Kind → Bool
spells ks =
    one (is Far) (any (is Atr) (one (is Mir) (at_most_one (is Rdr) (any (is Sdr) (any other (one (is Mrr) nothing)))))) ks

abbrev pub ends_with : (Kind → Bool) → List Kind → Bool
ends_with test [] = false
ends_with test (k ∷ []) = test k
ends_with test (k ∷ j ∷ ks) = ends_with test (j ∷ ks)

-- ---- the table, to compare

abbrev pub walks : Place → List Kind → Bool
walks p [] = true
walks p (k ∷ ks) = in_place (goes p k) && walks (place_after (goes p k)) ks

abbrev pub led : Place → List Kind → Place
led p [] = p
led p (k ∷ ks) = led (place_after (goes p k)) ks
