-- What is shown of a kind's effect: statements only, each proved in proofs/Cases.antt under its name in small letters.
--
--   Seen        what is known of a stream where a kind's own checks look at it, and seen_of, of a session
--   own_checks   the checks of a kind's own, as a list
-- Assumes nothing.
use Rattle.std.specs.Prelude.{◌≡◌, Bool, not, List, [], ◌∷◌, ℕ, eqb, ltb, take}
use Rattle.prelude.specs.Checks.{Check, ◌else◌, number_by}
use Rattle.bodies.specs.declared.Record.{Record}
use Rattle.bodies.specs.declared.Record.TheVariants as said
use Rattle.rising.specs.Rising.{held}
use Rattle.session.specs.declared.Standing.{Standing}
use Rattle.session.specs.Session.{most_open, most_results, most_wafers, part_of, wafer_number, wafers_in, heads_in}
use Rattle.session.specs.Verdicts.{verdict_number}
use Rattle.kind_effects.specs.Effects.{judge_said}

-- which parts are open, by head and site, and how many; how many part results were accepted and whether a PCR was;
-- #103: on which heads a wafer is open, which wafers are, by head and site group, and how many
pub record Seen : Type 0 where
  pub is_open : ℕ → ℕ → Bool
  pub opened : ℕ
  pub results : ℕ
  pub pcr : Bool
  pub on_head : ℕ → Bool
  pub is_wafer : ℕ → ℕ → Bool
  pub wafers : ℕ

-- the checks of a kind's own: 9, 11; 10, 14; 12, 33, 20; 22, 23; 22
abbrev pub own_checks : Seen → Record → List (Check ℕ)
own_checks s (said.Pir p) = (not (s.is_open p.head p.site) else 9) ∷ (ltb s.opened most_open else 11) ∷ []
own_checks s (said.Prr p) = (s.is_open p.head p.site else 10) ∷ (ltb s.results most_results else 14) ∷ []
own_checks s said.Mrr = (eqb s.opened 0 else 12) ∷ (eqb s.wafers 0 else 33) ∷ (s.pcr else 20) ∷ []
own_checks s (said.Wir w) = (not (s.on_head w.head) else 22) ∷ (ltb s.wafers most_wafers else 23) ∷ []
own_checks s (said.Wrr w) = (s.is_wafer w.head w.group else 22) ∷ []
own_checks s (said.Pcr p) = []
own_checks s (said.Far f) = []
own_checks s said.Mir = []
own_checks s (said.Bin b) = []
own_checks s said.Unread = []

-- of a session: a part or a wafer is open whose number is held
abbrev pub seen_of : Standing → List ℕ → Seen
seen_of st cells =
    record {
      is_open = λ (head site : ℕ). held (part_of head site) (take st.opened cells);
      opened = st.opened;
      results = st.results;
      pcr = st.pcr;
      on_head = λ (head : ℕ). held head (heads_in st.wafers cells);
      is_wafer = λ (head group : ℕ). held (wafer_number head group) (wafers_in st.wafers cells);
      wafers = st.wafers;
    }

abbrev pub OwnNumber : Type 0
OwnNumber = (st : Standing) (cells : List ℕ) (r : Record)
    → verdict_number (judge_said st cells r) ≡ number_by (own_checks (seen_of st cells) r)
