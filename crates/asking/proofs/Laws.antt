-- Laws of what a verb asks for: a verb that does not take so many words makes no call, whichever it is. An arm `_` of
-- the code knows its verb by the numbers of those that are left.
-- Assumes nothing.
use mathlib.Core.Path.{◌≡◌, refl}
use mathlib.Core.List.{List, [], ◌∷◌}
use Prim.Native.Nat.{ℕ}
use types.Run.{OneOf, miss}
use denote.Enum.Declared.{tag_of}
use Rattle.script.specs.declared.Verb.{Verb}
use Rattle.script.specs.declared.Verb.TheVariants as verb
use Rattle.script.specs.contracts.Verb.{the_type}
use Rattle.script.specs.Words.{words}
use Rattle.script.proofs.WordLaws.{words_some}
use Rattle.asking.specs.declared.Asked.TheVariants.{NoCall}
use Rattle.asking.specs.Asks.{asks}

pub alone_other : (v : Verb) → OneOf (1 ∷ 2 ∷ 3 ∷ 4 ∷ 6 ∷ 7 ∷ 8 ∷ 9 ∷ 11 ∷ []) (tag_of the_type v)
    → NoCall ≡ asks v []
alone_other verb.Fresh k = absurd (miss (1 ∷ 2 ∷ 3 ∷ 4 ∷ 6 ∷ 7 ∷ 8 ∷ 9 ∷ 11 ∷ []) 0 tt k)
alone_other verb.Open k = refl
alone_other verb.Deliver k = refl
alone_other verb.Report k = refl
alone_other verb.Close k = refl
alone_other verb.Figures k = absurd (miss (1 ∷ 2 ∷ 3 ∷ 4 ∷ 6 ∷ 7 ∷ 8 ∷ 9 ∷ 11 ∷ []) 5 tt k)
alone_other verb.Feed k = refl
alone_other verb.End k = refl
alone_other verb.Write k = refl
alone_other verb.Read k = refl
alone_other verb.Help k = absurd (miss (1 ∷ 2 ∷ 3 ∷ 4 ∷ 6 ∷ 7 ∷ 8 ∷ 9 ∷ 11 ∷ []) 10 tt k)
alone_other verb.Other k = refl

pub one_other : (v : Verb) (a : List ℕ) → OneOf (0 ∷ 1 ∷ 2 ∷ 3 ∷ 5 ∷ 6 ∷ 8 ∷ 9 ∷ 10 ∷ 11 ∷ []) (tag_of the_type v)
    → NoCall ≡ asks v (a ∷ [])
one_other verb.Fresh a k = refl
one_other verb.Open a k = refl
one_other verb.Deliver a k = refl
one_other verb.Report a k = refl
one_other verb.Close a k = absurd (miss (0 ∷ 1 ∷ 2 ∷ 3 ∷ 5 ∷ 6 ∷ 8 ∷ 9 ∷ 10 ∷ 11 ∷ []) 4 tt k)
one_other verb.Figures a k = refl
one_other verb.Feed a k = refl
one_other verb.End a k = absurd (miss (0 ∷ 1 ∷ 2 ∷ 3 ∷ 5 ∷ 6 ∷ 8 ∷ 9 ∷ 10 ∷ 11 ∷ []) 7 tt k)
one_other verb.Write a k = refl
one_other verb.Read a k = refl
one_other verb.Help a k = refl
one_other verb.Other a k = refl

pub two_other : (v : Verb) (a b : List ℕ) → OneOf (0 ∷ 4 ∷ 5 ∷ 6 ∷ 7 ∷ 8 ∷ 9 ∷ 10 ∷ 11 ∷ []) (tag_of the_type v)
    → NoCall ≡ asks v (a ∷ b ∷ [])
two_other verb.Fresh a b k = refl
two_other verb.Open a b k = absurd (miss (0 ∷ 4 ∷ 5 ∷ 6 ∷ 7 ∷ 8 ∷ 9 ∷ 10 ∷ 11 ∷ []) 1 tt k)
two_other verb.Deliver a b k = absurd (miss (0 ∷ 4 ∷ 5 ∷ 6 ∷ 7 ∷ 8 ∷ 9 ∷ 10 ∷ 11 ∷ []) 2 tt k)
two_other verb.Report a b k = absurd (miss (0 ∷ 4 ∷ 5 ∷ 6 ∷ 7 ∷ 8 ∷ 9 ∷ 10 ∷ 11 ∷ []) 3 tt k)
two_other verb.Close a b k = refl
two_other verb.Figures a b k = refl
two_other verb.Feed a b k = refl
two_other verb.End a b k = refl
two_other verb.Write a b k = refl
two_other verb.Read a b k = refl
two_other verb.Help a b k = refl
two_other verb.Other a b k = refl

pub three_other : (v : Verb) (a b c : List ℕ)
    → OneOf (0 ∷ 1 ∷ 2 ∷ 3 ∷ 4 ∷ 5 ∷ 7 ∷ 8 ∷ 9 ∷ 10 ∷ 11 ∷ []) (tag_of the_type v)
    → NoCall ≡ asks v (a ∷ b ∷ c ∷ [])
three_other verb.Fresh a b c k = refl
three_other verb.Open a b c k = refl
three_other verb.Deliver a b c k = refl
three_other verb.Report a b c k = refl
three_other verb.Close a b c k = refl
three_other verb.Figures a b c k = refl
three_other verb.Feed a b c k = absurd (miss (0 ∷ 1 ∷ 2 ∷ 3 ∷ 4 ∷ 5 ∷ 7 ∷ 8 ∷ 9 ∷ 10 ∷ 11 ∷ []) 6 tt k)
three_other verb.End a b c k = refl
three_other verb.Write a b c k = refl
three_other verb.Read a b c k = refl
three_other verb.Help a b c k = refl
three_other verb.Other a b c k = refl

pub four_other : (v : Verb) (a b c d : List ℕ)
    → OneOf (0 ∷ 1 ∷ 2 ∷ 3 ∷ 4 ∷ 5 ∷ 6 ∷ 7 ∷ 10 ∷ 11 ∷ []) (tag_of the_type v)
    → NoCall ≡ asks v (a ∷ b ∷ c ∷ d ∷ [])
four_other verb.Fresh a b c d k = refl
four_other verb.Open a b c d k = refl
four_other verb.Deliver a b c d k = refl
four_other verb.Report a b c d k = refl
four_other verb.Close a b c d k = refl
four_other verb.Figures a b c d k = refl
four_other verb.Feed a b c d k = refl
four_other verb.End a b c d k = refl
four_other verb.Write a b c d k = absurd (miss (0 ∷ 1 ∷ 2 ∷ 3 ∷ 4 ∷ 5 ∷ 6 ∷ 7 ∷ 10 ∷ 11 ∷ []) 8 tt k)
four_other verb.Read a b c d k = absurd (miss (0 ∷ 1 ∷ 2 ∷ 3 ∷ 4 ∷ 5 ∷ 6 ∷ 7 ∷ 10 ∷ 11 ∷ []) 9 tt k)
four_other verb.Help a b c d k = refl
four_other verb.Other a b c d k = refl

-- no verb takes more than four words
many_none : (v : Verb) (a b c d e : List ℕ) (ws : List (List ℕ)) → NoCall ≡ asks v (a ∷ b ∷ c ∷ d ∷ e ∷ ws)
many_none verb.Fresh a b c d e ws = refl
many_none verb.Open a b c d e ws = refl
many_none verb.Deliver a b c d e ws = refl
many_none verb.Report a b c d e ws = refl
many_none verb.Close a b c d e ws = refl
many_none verb.Figures a b c d e ws = refl
many_none verb.Feed a b c d e ws = refl
many_none verb.End a b c d e ws = refl
many_none verb.Write a b c d e ws = refl
many_none verb.Read a b c d e ws = refl
many_none verb.Help a b c d e ws = refl
many_none verb.Other a b c d e ws = refl

pub five_none : (v : Verb) (a b c d s : List ℕ) → NoCall ≡ asks v (a ∷ b ∷ c ∷ d ∷ words s)
five_none v a b c d s =
    words_some (λ (ws : List (List ℕ)). NoCall ≡ asks v (a ∷ b ∷ c ∷ d ∷ ws)) (λ e ws. many_none v a b c d e ws) s
