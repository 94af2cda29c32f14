-- What a verb of the desk asks for with the words behind it. The desk, src/main.rt, its table of lines.
--
--   in_four, order_byte   a number in the bytes that a call has for it
--   played              a call on the house that there may be
--   closing .. lining   a call with the numbers that its words say
--   asks                what a verb asks for with its words
-- Assumes nothing.
use Rattle.std.specs.Prelude.{Bool, List, [], ◌∷◌, ℕ, leb, Option, Some, None}
use Rattle.prelude.specs.Choice.{◌unless◌then◌}
use Rattle.script.specs.declared.Verb.{Verb}
use Rattle.script.specs.declared.Verb.TheVariants as verb
use Rattle.numerals.specs.Decimals.{capped, number_of}
use Rattle.numerals.specs.Hex.{is_bytes}
use Rattle.asked_calls.specs.declared.Call.{Call}
use Rattle.asked_calls.specs.declared.Call.TheVariants as call
use Rattle.asking.specs.declared.Way.{Way}
use Rattle.asking.specs.declared.Way.TheVariants as way
use Rattle.asking.specs.declared.Asked.{Asked}
use Rattle.asking.specs.declared.Asked.TheVariants.{Help, Fresh, Play, Line, NoCall}

abbrev pub Word : Type 0
Word = List ℕ

-- ---- the numbers of a call: one that is none makes no call

-- A slot or a floor has four bytes. The greatest number that they hold stands for all that are greater: it is no slot and
-- no floor either, and what it is refused with is what they are.
abbrev pub in_four : ℕ → ℕ
in_four n = capped 4_294_967_295 n

-- An order has one byte. 255 stands for all that are greater: no CPU_TYPE that is an order, nor one that a request
-- would allow (0, #107).
abbrev pub order_byte : ℕ → ℕ
order_byte n = capped 255 n

-- a call on the house, or no call
abbrev pub played : Option Call → Asked
played (Some c) = Play c
played None = NoCall

abbrev pub closing : Option ℕ → Asked
closing (Some slot) = Play (call.Close (in_four slot))
closing None = NoCall

abbrev pub opening : Option ℕ → Option ℕ → Asked
opening (Some slot) (Some floor) = Play (call.Open (in_four slot) (in_four floor))
opening (Some slot) None = NoCall
opening None floor = NoCall

abbrev pub reporting : Option ℕ → Option ℕ → Asked
reporting (Some slot) (Some long) = Play (call.Report (in_four slot) long)
reporting (Some slot) None = NoCall
reporting None long = NoCall

abbrev pub delivering : Option ℕ → Bool → Asked
delivering (Some slot) hex = NoCall unless hex then Play (call.Deliver (in_four slot))
delivering None hex = NoCall

abbrev pub ending : Option ℕ → Asked
ending (Some slot) = Play (call.End (in_four slot))
ending None = NoCall

-- #102: a carry that is lent has 65,539 bytes. The desk has one byte more for each slot, and lends all of them where a
-- greater length is asked for: it is a wrong one, too, and refused with the same.
abbrev pub most_lent : ℕ
most_lent = 65_540

abbrev pub feeding : Option ℕ → Option ℕ → Bool → Asked
feeding (Some slot) (Some long) hex = NoCall unless hex then Play (call.Feed (in_four slot) (capped most_lent long))
feeding (Some slot) None hex = NoCall
feeding None long hex = NoCall

-- the longest output that is lent; no output that is lent has the greatest number for a place in it
abbrev pub longest : ℕ
longest = 4096

abbrev pub lining : Way → Option ℕ → Option ℕ → Option ℕ → Bool → Asked
lining way (Some order) (Some at) (Some long) hex =
    NoCall unless leb long longest then
    NoCall unless hex then
    Line way (order_byte order) at long
lining way (Some order) (Some at) None hex = NoCall
lining way (Some order) None long hex = NoCall
lining way None at long hex = NoCall

-- ---- how many words a verb takes: with any other number of words it makes no call

abbrev pub none : Asked → List Word → Asked
none ask [] = ask
none ask (a ∷ ws) = NoCall

abbrev pub one : (Word → Asked) → List Word → Asked
one ask [] = NoCall
one ask (a ∷ []) = ask a
one ask (a ∷ b ∷ ws) = NoCall

abbrev pub two : (Word → Word → Asked) → List Word → Asked
two ask [] = NoCall
two ask (a ∷ []) = NoCall
two ask (a ∷ b ∷ []) = ask a b
two ask (a ∷ b ∷ c ∷ ws) = NoCall

abbrev pub three : (Word → Word → Word → Asked) → List Word → Asked
three ask [] = NoCall
three ask (a ∷ []) = NoCall
three ask (a ∷ b ∷ []) = NoCall
three ask (a ∷ b ∷ c ∷ []) = ask a b c
three ask (a ∷ b ∷ c ∷ d ∷ ws) = NoCall

abbrev pub four : (Word → Word → Word → Word → Asked) → List Word → Asked
four ask [] = NoCall
four ask (a ∷ []) = NoCall
four ask (a ∷ b ∷ []) = NoCall
four ask (a ∷ b ∷ c ∷ []) = NoCall
four ask (a ∷ b ∷ c ∷ d ∷ []) = ask a b c d
four ask (a ∷ b ∷ c ∷ d ∷ e ∷ ws) = NoCall

abbrev pub lined : Way → Word → Word → Word → Word → Asked
lined way order at long hex = lining way (number_of order) (number_of at) (number_of long) (is_bytes hex)

-- the desk's table of lines
abbrev pub asks : Verb → List Word → Asked
asks verb.Fresh ws = none Fresh ws
asks verb.Open ws = two (λ slot floor. opening (number_of slot) (number_of floor)) ws
asks verb.Deliver ws = two (λ slot hex. delivering (number_of slot) (is_bytes hex)) ws
asks verb.Report ws = two (λ slot long. reporting (number_of slot) (number_of long)) ws
asks verb.Close ws = one (λ slot. closing (number_of slot)) ws
asks verb.Figures ws = none (Play call.Figures) ws
asks verb.Feed ws = three (λ slot long hex. feeding (number_of slot) (number_of long) (is_bytes hex)) ws
asks verb.End ws = one (λ slot. ending (number_of slot)) ws
asks verb.Write ws = four (lined way.Write) ws
asks verb.Read ws = four (lined way.Read) ws
asks verb.Help ws = none Help ws
asks verb.Other ws = NoCall
