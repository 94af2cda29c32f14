-- A line that says what is meant is taken apart; a refusal has nothing to say.
-- Assumes nothing.
use mathlib.Core.Path.{◌≡◌, refl, ap, sym}
use mathlib.Core.List.{List}
use Prim.Native.Nat.{ℕ}
use Rattle.answers.specs.declared.Answer.{Answer}
use Rattle.line_layouts.specs.declared.Line.{Line}
use Rattle.line_layouts.specs.Entries.{Meaning, meaning_of, AllWithin}
use Rattle.line_layouts.specs.Judging.{refusing, Judging, Says, Faulty, held_by, Taken, Held}

pub taken_refused : (s : List ℕ) (m : Judging) (answer : Answer) → m ≡ Faulty answer → Taken s m (refusing answer)
taken_refused s m answer e = record { means = sym e; there = tt }

pub held_refused : (s : List ℕ) (line : Line) (m : Judging) (answer : Answer) → m ≡ Faulty answer
    → Held s line m (refusing answer)
held_refused s line m answer e = record { taken = taken_refused s m answer e; is = rw e }

-- what is held of a meaning means it, where the line says it by bytes that are there
pub taken_held : (s : List ℕ) (line : Line) (m : Judging)
    → ((x : Meaning) → m ≡ Says x → (meaning_of s line ≡ x) × AllWithin s line) → Taken s m (held_by line m)
taken_held s line (Says x) h = record { means = ap Says (h x refl).0; there = (h x refl).1 }
taken_held s line (Faulty answer) h = taken_refused s (Faulty answer) answer refl
