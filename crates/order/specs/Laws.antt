-- What is shown of the order: statements only. Each is proved in proofs/Laws.antt, or in proofs/Spelled.antt those of
-- the sentence, under its name in small letters.
--
--   before, ended   the places before the body, and the one after MRR
--   opening         the kinds that may stand before the body
-- Assumes nothing.
use Rattle.std.specs.Prelude.{◌≡◌, Bool, true, false, List, Some}
use Rattle.kinds.specs.declared.Kind.{Kind}
use Rattle.kinds.specs.declared.Kind.TheVariants.{Far, Atr, Mir, Mrr, Pcr, Hbr, Sbr, Rdr, Sdr, Wir, Wrr, Pir, Prr}
use Rattle.kinds.specs.declared.Kind.TheVariants.{Remaining, Custom, Unknown}
use Rattle.order.specs.declared.Place.{Place}
use Rattle.order.specs.declared.Place.TheVariants.{Start, Header, Lot, Setup, Body, Ended}
use Rattle.order.specs.Order.{goes, by_place}
use Rattle.order.specs.Spelled.{is, spells, ends_with, walks, led}

abbrev pub before : Place → Bool
before Start = true
before Header = true
before Lot = true
before Setup = true
before Body = false
before Ended = false

abbrev pub ended : Place → Bool
ended Start = false
ended Header = false
ended Lot = false
ended Setup = false
ended Body = false
ended Ended = true

-- the kinds that may stand before the body
abbrev pub opening : Kind → Bool
opening Far = true
opening Atr = true
opening Mir = true
opening Rdr = true
opening Sdr = true
opening Mrr = false
opening Pcr = false
opening Hbr = false
opening Sbr = false
opening Pir = false
opening Prr = false
opening Wir = false
opening Wrr = false
opening (Remaining k) = false
opening Custom = false
opening Unknown = false

-- a record that leaves a stream before its body is of a kind that may stand there
abbrev pub BeforeByOpening : Type 0
BeforeByOpening = (p q : Place) (k : Kind) → goes p k ≡ Some q → before q ≡ true → opening k ≡ true

-- only MRR ends a stream
abbrev pub EndedByMrr : Type 0
EndedByMrr = (p q : Place) (k : Kind) → goes p k ≡ Some q → ended q ≡ true → k ≡ Mrr

-- a stream that has its body behind it or is in it does not come before it again
abbrev pub NeverBack : Type 0
NeverBack = (p q : Place) (k : Kind) → goes p k ≡ Some q → before q ≡ true → before p ≡ true

-- nothing leads back to the start, where the first record is awaited
abbrev pub NeverStart : Type 0
NeverStart = (p q : Place) (k : Kind) → goes p k ≡ Some q → q ≡ Start → ⊥

-- the table read by columns
abbrev pub ByColumn : Type 0
ByColumn = (p : Place) (k : Kind) → by_place (goes Start k) (goes Header k) (goes Lot k) (goes Setup k) (goes Body k) p ≡ goes p k

-- the table is the sentence: kinds are all in their places exactly if they spell the order of a stream
abbrev pub Spelled : Type 0
Spelled = (ks : List Kind) → spells ks ≡ walks Start ks

-- .. and such a stream has ended exactly if the last of its kinds is MRR
abbrev pub SpelledEnds : Type 0
SpelledEnds = (ks : List Kind) → spells ks ≡ true → ended (led Start ks) ≡ ends_with (is Mrr) ks
