-- The statements of specs/Numbers.antt, proved: one law a check, the last one first.
-- Assumes nothing.
use Rattle.std.specs.Prelude.{Option, Some, None, Ok}
use mathlib.Core.Path.{◌≡◌, refl, sym, subst}
use mathlib.Core.Bool.{Bool, true, false, cond}
use mathlib.Core.List.{List, [], ◌∷◌, ◌++◌}
use Prim.Native.Nat.{ℕ, ◌+◌, ◌<◌}
use lib.Dec.{leb}
use lib.ListN.{length, take, drop}
use lib.Seq.{get_or-drop}
use Rattle.prelude.specs.Choice.{◌unless◌then◌}
use Rattle.prelude.specs.Checks.{Check, ◌else◌, number_by}
use Rattle.prelude.specs.Each.{each}
use Rattle.prelude.proofs.Checks.{choice_by}
use Rattle.answers.specs.declared.Answer.TheVariants.{OutputTooShort, NameNotText, NoTime}
use Rattle.numbers.specs.declared.Order.{Order}
use Rattle.numbers.specs.Orders.{order_of}
use Rattle.numbers.specs.Laws.{Bytes}
use Rattle.kinds.specs.declared.Kind.{Kind}
use Rattle.kinds.specs.declared.Kind.TheVariants as kind
use Rattle.kinds.specs.Kinds.{kind_of}
use Rattle.frames.specs.Frames.{header, rec_typ, rec_sub, body, is_record}
use Rattle.bodies.specs.Bodies.{read_body, fitting}
use Rattle.output.specs.Placed.{Makes, Refuses, Outcome, outcome, refused, placed_at, placed}
use Rattle.line_layouts.specs.declared.Tag.{Tag}
use Rattle.line_layouts.specs.declared.Tag.TheVariants as tag
use Rattle.line_layouts.specs.declared.Layout.TheVariants as layout
use Rattle.line_layouts.specs.Columns.{separator, columns}
use Rattle.line_layouts.specs.Entries.{Entry, Missing, Meaning}
use Rattle.line_layouts.specs.Layouts.{text_by, text_of, record_of}
use Rattle.line_layouts.specs.Names.{entry_allowed}
use Rattle.line_layouts.specs.Fitting.{sits, all_given}
use Rattle.line_layouts.specs.Judging.{Judging, Says}
use Rattle.line_records.specs.Walks.{Fit, Fits, Misfit, meant}
use Rattle.line_records.specs.Laws.{is_fit, kind_for}
use Rattle.line_records.specs.Records.{count_tag, body_means, tagged_means, meaning}
use Rattle.line_records.proofs.Judges.{meaning_frame, meaning_tagged}
use Rattle.line_records.proofs.Agrees.{meant_read}
use Rattle.line_texts.specs.Pieces.{split, gathered, fields_fit, entries_in}
use Rattle.line_texts.specs.Texts.{content, unbroken, tag_of, not_aLine, content_means, line_meaning}
use Rattle.line_texts.specs.Texts as texts
use Rattle.lines.specs.Writing.{text_in, text_made}
use Rattle.lines.specs.Reading.{record_in, record_made}
use Rattle.lines.specs.Numbers.{written_number, order_first, has_line, is_said, times_given, names_allowed}
use Rattle.lines.specs.Numbers.{has_room}
use Rattle.lines.specs.Numbers.{write_checks, read_checks, WriteNumber, ReadNumber}

-- ---- 17

placed_number : (bytes old : List ℕ) (at : ℕ)
    → written_number (placed_at bytes old at).answer ≡ number_by ((leb (at + length bytes) (length old) else 17) ∷ [])
unfolding placed_at
placed_number bytes old at = go (leb (at + length bytes) (length old))
  where
    done : Outcome
    done = outcome (Ok (length bytes)) (take at old ++ (bytes ++ drop (at + length bytes) old))

    go : (t : Bool) → written_number (cond t done (refused OutputTooShort old)).answer ≡ cond t 0 17
    go true = refl
    go false = refl

-- ---- 4

order_number : (number : Option Order → ℕ) (checks : Order → List (Check ℕ)) → number None ≡ 4
    → ((order : Order) → number (Some order) ≡ number_by (checks order))
    → (o : Option Order) → number o ≡ number_by (order_first o checks)
order_number number checks none told None = none
order_number number checks none told (Some order) = told order

-- ---- writing: 19, 21, 7, 6, 3

module _ (order : Order) (old : List ℕ) (at : ℕ) where
  abbrev number : Judging → ℕ
  number j = written_number (placed (text_made separator j) old at).answer

  abbrev last : Judging → List (Check ℕ)
  last j =
      (times_given j else 21) ∷ (names_allowed j else 19) ∷ (has_room (layout.Text separator) j old at else 17) ∷ []

  names_number : (m : Meaning) (t : Bool)
      → written_number (placed (Refuses NameNotText unless t then Makes (text_by separator m)) old at).answer
      ≡ number_by ((t else 19) ∷ (has_room (layout.Text separator) (Says m) old at else 17) ∷ [])
  names_number m true = placed_number (text_of m) old at
  names_number m false = refl

  times_number : (m : Meaning) (t u : Bool)
      → written_number
      (placed (Refuses NoTime unless t then Refuses NameNotText unless u then Makes (text_by separator m)) old at
      ).answer
      ≡ number_by ((t else 21) ∷ (u else 19) ∷ (has_room (layout.Text separator) (Says m) old at else 17) ∷ [])
  times_number m true u = names_number m u
  times_number m false u = refl

  fit_number : (tag : Tag) (r : Fit (List Entry))
      → number (body_means tag r) ≡ number_by ((is_fit r else 7) ∷ last (body_means tag r))
  fit_number tag (Fits es) =
      times_number (record { tag = tag; entries = es }) (all_given (columns tag) es)
      (each (entry_allowed separator) es)
  fit_number tag Misfit = refl

  body_number : (tag : Tag) (b : List ℕ) → Bytes b
      → number (body_means tag (meant order tag b))
      ≡ number_by ((fitting (read_body order (kind_for tag) b) else 7) ∷ last (body_means tag (meant order tag b)))
  body_number tag b bytes =
      let said = body_means tag (meant order tag b) in
      subst (λ (t : Bool). number said ≡ number_by ((t else 7) ∷ last said)) (meant_read order tag b bytes)
      (fit_number tag (meant order tag b))

  kind_number : (k : Kind) (b : List ℕ) → Bytes b
      → number (tagged_means (count_tag k) order b)
      ≡ number_by
      ((has_line (count_tag k) else 6)
      ∷ (fitting (read_body order k b) else 7)
      ∷ last (tagged_means (count_tag k) order b))
  kind_number kind.Pcr b bytes = body_number tag.Pcr b bytes
  kind_number kind.Hbr b bytes = body_number tag.Hbr b bytes
  kind_number kind.Sbr b bytes = body_number tag.Sbr b bytes
  kind_number kind.Wir b bytes = body_number tag.Wir b bytes
  kind_number kind.Wrr b bytes = body_number tag.Wrr b bytes
  kind_number kind.Far b bytes = refl
  kind_number kind.Atr b bytes = refl
  kind_number kind.Mir b bytes = refl
  kind_number kind.Mrr b bytes = refl
  kind_number kind.Rdr b bytes = refl
  kind_number kind.Sdr b bytes = refl
  kind_number kind.Pir b bytes = refl
  kind_number kind.Prr b bytes = refl
  kind_number (kind.Remaining k) b bytes = refl
  kind_number kind.Custom b bytes = refl
  kind_number kind.Unknown b bytes = refl

  record_number_lem : (s : List ℕ) → Bytes s → number (meaning order s) ≡ number_by (write_checks order s old at)
  record_number_lem s bytes = go (is_record order s) refl
    where
      behind : Bytes (body s)
      behind k = subst (λ (b : ℕ). b < 256) (sym (get_or-drop header s k 0)) (bytes (header + k))

      go : (t : Bool) → is_record order s ≡ t → number (meaning order s) ≡ number_by (write_checks order s old at)
      go true e =
          rw (e, meaning_tagged order s e) (kind_number (kind_of (rec_typ s) (rec_sub s)) (body s) behind)
      go false e = rw (e, meaning_frame order s e)

pub write_number : WriteNumber
write_number cpu s old at bytes =
    order_number (λ (o : Option Order). written_number (placed (text_in o s) old at).answer)
    (λ (order : Order). write_checks order s old at) refl (λ order. record_number_lem order old at s bytes)
    (order_of cpu)

-- ---- reading: 18

-- a line means something, or is none of these lines: it is refused with nothing else
line_cases : (P : Judging → Type 0) → P not_aLine → ((m : Meaning) → P (Says m)) → (line : List ℕ)
    → P (line_meaning line)
unfolding content_means
line_cases P none some line = choice_by P _ (unbroken s) _ none (λ e. tagged (tag_of s))
  where
    s : List ℕ
    s = content line

    tagged : (t : Option Tag) → P (texts.tagged_means separator t s)
    tagged None = none
    tagged (Some tag) =
        let ps = split separator (drop 4 s) in
        let qs = gathered tag ps in
        let es = entries_in (columns tag) qs in
        choice_by P _ (leb (length ps) (length (columns tag))) _ none (λ d.
        choice_by P _ (fields_fit separator (columns tag) qs) _ none (λ e.
        choice_by P _ (sits Missing (columns tag) es) _ none (λ f. some (record { tag = tag; entries = es }))))

line_number : (order : Order) (line old : List ℕ) (at : ℕ)
    → written_number (placed (record_made order (line_meaning line)) old at).answer
    ≡ number_by (read_checks order line old at)
line_number order line old at =
    line_cases
    (λ (j : Judging).
    written_number (placed (record_made order j) old at).answer
    ≡ number_by ((is_said j else 18) ∷ (has_room (layout.Record order) j old at else 17) ∷ []))
    refl (λ m. placed_number (record_of order m) old at) line

pub read_number : ReadNumber
read_number cpu line old at =
    order_number (λ (o : Option Order). written_number (placed (record_in o line) old at).answer)
    (λ (order : Order). read_checks order line old at) refl (λ order. line_number order line old at) (order_of cpu)
