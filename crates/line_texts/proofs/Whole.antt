-- Laws of a line as a whole: its ending, its tag, fields beside another, and what this code holds of it.
-- Assumes nothing.
use Rattle.std.specs.Prelude.{Option, Some, None, Result}
use Rattle.std.specs.List.{find}
use Rattle.answers.specs.declared.Answer.{Answer}
use mathlib.Core.Path.{◌≡◌, refl, ap, sym, subst, ◌∙◌}
use mathlib.Core.Bool.{Bool, true, false, not, ◌&&◌, ◌||◌}
use mathlib.Core.List.{List, [], ◌∷◌}
use Prim.Native.Nat.{ℕ, ◌+◌, ◌-◌, ◌≤◌, ◌<◌}
use native.Mathlib.Numerals.{add-one}
use native.Mathlib.Omega.{arith}
use borrow.Author.Tests.{eq-eqb, ne_eqb}
use lib.Dec.{eqb, leb}
use lib.ListN.{length, get_or, drop, drop_of_length-le}
use lib.Seq.{drop-cons}
use Rattle.prelude.proofs.Once.{equation}
use Rattle.prelude.proofs.Never.{false_true}
use Rattle.prelude.proofs.Both.{both_right}
use Rattle.line_layouts.specs.declared.Tag.{Tag}
use Rattle.line_layouts.specs.declared.Tag.TheVariants.{Pcr, Hbr, Sbr, Wir, Wrr}
use Rattle.line_layouts.specs.declared.Said.{Said}
use Rattle.line_layouts.specs.declared.Said.TheVariants as said
use Rattle.line_layouts.specs.declared.Line.{Line}
use Rattle.line_layouts.specs.declared.Column.{Column}
use Rattle.line_layouts.specs.Columns.{line_feed, carriage_return, tag_text, columns, no_column, most_columns}
use Rattle.line_layouts.specs.Entries.{Entry, Missing, Meaning, entry_of, entries_of, meaning_of, no_field, is_missing}
use Rattle.line_layouts.specs.Entries.{AllWithin}
use Rattle.line_layouts.specs.Fitting.{is_beside, is_none, agree, sits_one, sits}
use Rattle.line_layouts.specs.Judging.{Says, Taken}
use Rattle.line_layouts.proofs.Laid.{said_at, length_entries}
use Rattle.line_layouts.proofs.Faults.{taken_held}
use Rattle.line_texts.specs.Pieces.{split, gathered, fields_fit, entries_in}
use Rattle.line_texts.specs.Texts.{ending, starts, unbroken, tag_among, tag_of, not_aLine, fields_mean, tagged_means}
use Rattle.line_texts.specs.Texts.{content_means, from_end, Sited}
use Rattle.line_texts.specs.Places.{line_tagged, line_of, content_held}
use Rattle.line_texts.specs.Laws.{ContentTaken, JudgedOnce}
use Rattle.line_texts.proofs.Places.{line_means, line_within}

-- ---- its ending

module _ (s : List ℕ) where
  pub ending_both : from_end 2 s ≡ carriage_return → from_end 1 s ≡ line_feed → ending s ≡ 2
  unfolding ending
  ending_both e f = rw (eq-eqb (from_end 2 s) carriage_return e, eq-eqb (from_end 1 s) line_feed f)

  pub ending_feed : (from_end 2 s ≡ carriage_return → ⊥) → from_end 1 s ≡ line_feed → ending s ≡ 1
  unfolding ending
  ending_feed e f = rw (ne_eqb (from_end 2 s) carriage_return e, eq-eqb (from_end 1 s) line_feed f)

  module _ (f : from_end 1 s ≡ line_feed → ⊥) where
    and_false : (t : Bool) → (t && eqb (from_end 1 s) line_feed) ≡ false
    and_false true = ne_eqb (from_end 1 s) line_feed f
    and_false false = refl

    pub ending_return : from_end 1 s ≡ carriage_return → ending s ≡ 1
    unfolding ending
    ending_return e =
        rw (
          and_false (eqb (from_end 2 s) carriage_return),
          ne_eqb (from_end 1 s) line_feed f,
          eq-eqb (from_end 1 s) carriage_return e,
        )

    pub ending_none : (from_end 1 s ≡ carriage_return → ⊥) → ending s ≡ 0
    unfolding ending
    ending_none e =
        rw (
          and_false (eqb (from_end 2 s) carriage_return),
          ne_eqb (from_end 1 s) line_feed f,
          ne_eqb (from_end 1 s) carriage_return e,
        )

pub ending_empty : (s : List ℕ) → length s ≡ 0 → ending s ≡ 0
unfolding ending
ending_empty [] e = refl
ending_empty (b ∷ bs) e = absurd (omega arith)

-- one byte is not two
pub ending_alone : (s : List ℕ) → length s ≡ 1 → from_end 1 s ≡ line_feed → ending s ≡ 1
ending_alone s one e =
    let last : length s - 2 ≡ length s - 1 = omega arith in
    let other : from_end 2 s ≡ carriage_return → ⊥ = λ f. absurd (omega (arith, rw last at f)) in
    ending_feed s other e

-- ---- its tag

-- a text that begins with four bytes has them
pub starts_four : (t s : List ℕ) → starts t s ≡ true → length t ≤ length s
starts_four [] s e = omega arith
starts_four (x ∷ t) [] e = false_true e
starts_four (x ∷ t) (b ∷ s) e = omega (arith, starts_four t s (both_right (eqb b x) (starts t s) e))

abbrev pub all_tags : List Tag
all_tags = Pcr ∷ Hbr ∷ Sbr ∷ Wir ∷ Wrr ∷ []

pub tag_found : (s : List ℕ) → find (λ (tag : Tag). starts (tag_text tag) s) all_tags ≡ tag_of s
unfolding tag_of
tag_found s = refl

-- ---- a field beside another, wherever it stands

none_missing : (source : List ℕ) (f : Said) → is_none (entry_of source f) ≡ is_missing f
none_missing source said.Missing = refl
none_missing source (said.Number n) = refl
none_missing source (said.Text name) = refl

-- the entry before number j; before the first one nothing is given
abbrev last_of : List Entry → ℕ → Entry
last_of es j = get_or (Missing ∷ es) j Missing

module _ (cs : List Column) (es : List Entry) (j : ℕ) where
  module _ (h : j < length cs) (g : j < length es) where
    sits_no : sits_one (get_or cs j no_column) (last_of es j) (get_or es j Missing) ≡ false
        → sits (last_of es j) (drop j cs) (drop j es) ≡ false
    unfolding sits
    sits_no e = rw (drop-cons cs j no_column h, drop-cons es j Missing g, e)

    sits_on : sits_one (get_or cs j no_column) (last_of es j) (get_or es j Missing) ≡ true
        → sits (last_of es j) (drop j cs) (drop j es) ≡ sits (last_of es (j + 1)) (drop (j + 1) cs) (drop (j + 1) es)
    unfolding sits
    sits_on e = rw (drop-cons cs j no_column h, drop-cons es j Missing g, e, add-one j)

  sits_end : length cs ≤ j → sits (last_of es j) (drop j cs) (drop j es) ≡ true
  unfolding sits
  sits_end h = rw (drop_of_length-le cs {i = j} h)

-- the fields before number j are as they must be, and whether the last of them is missing
abbrev pub Sitting : Line → ℕ → Bool → Type 0
Sitting line j gone =
    (source : List ℕ)
    → (gone ≡ is_none (last_of (entries_of source line) j))
    × (sits Missing (columns line.tag) (entries_of source line)
    ≡ sits (last_of (entries_of source line) j) (drop j (columns line.tag)) (drop j (entries_of source line)))

pub sitting_first : (line : Line) → Sitting line 0 true
sitting_first line source = (refl, refl)

module _ (line : Line) (full : length line.fields ≡ most_columns) (j : ℕ) (gone : Bool)
    (so_far : Sitting line j gone) where
  abbrev none : Bool
  none = is_missing (get_or line.fields j no_field)

  module _ (h : j < length (columns line.tag)) (source : List ℕ) where
    none_at : is_none (get_or (entries_of source line) j Missing) ≡ none
    none_at =
        ap is_none (said_at source line full j h) ∙ none_missing source (get_or line.fields j no_field)

    one_at : sits_one (get_or (columns line.tag) j no_column) (last_of (entries_of source line) j)
        (get_or (entries_of source line) j Missing)
        ≡ (not (is_beside (get_or (columns line.tag) j no_column).flag) || agree gone none)
    one_at = rw (← (so_far source).0, none_at)

    inside : j < length (entries_of source line)
    inside = omega (arith, length_entries source line full)

  module _ (h : j < length (columns line.tag)) where
    pub sitting_no : (not (is_beside (get_or (columns line.tag) j no_column).flag) || agree gone none) ≡ false
        → Sited line false
    sitting_no e =
        record {
          all = λ (source : List ℕ). sym ((so_far source).1
              ∙ sits_no (columns line.tag) (entries_of source line) j h (inside h source) (one_at h source ∙ e));
        }

    pub sitting_on : (not (is_beside (get_or (columns line.tag) j no_column).flag) || agree gone none) ≡ true
        → Sitting line (j + 1) none
    sitting_on e source = (
      rw (add-one j) (sym (none_at h source)),
      (so_far source).1
          ∙ sits_on (columns line.tag) (entries_of source line) j h (inside h source) (one_at h source ∙ e),
    )

  pub sitting_end : length (columns line.tag) ≤ j → Sited line true
  sitting_end h =
      record {
        all = λ (source : List ℕ). sym ((so_far source).1
            ∙ sits_end (columns line.tag) (entries_of source line) j h);
      }

-- ---- taken apart

pub not_said : {A : Type 0} (m : Meaning) → not_aLine ≡ Says m → A
not_said m e = let never : ◌≡◌ {A = ℕ} 0 1 = cc in absurd (omega arith)

pub says_same : (m m' : Meaning) → Says m ≡ Says m' → m ≡ m'
says_same m m' e = cc

module _ (sep : ℕ) (tag : Tag) (ps : List (List ℕ)) where
  -- what its pieces say
  abbrev said_entries : List Entry
  said_entries = entries_in (columns tag) (gathered tag ps)

  pub mean_many : leb (length ps) (length (columns tag)) ≡ false → fields_mean sep tag ps ≡ not_aLine
  mean_many e = rw e

  module _ (l : leb (length ps) (length (columns tag)) ≡ true) where
    pub mean_misfit : fields_fit sep (columns tag) (gathered tag ps) ≡ false → fields_mean sep tag ps ≡ not_aLine
    mean_misfit e = rw (l, e)

    module _ (f : fields_fit sep (columns tag) (gathered tag ps) ≡ true) where
      pub mean_sites : sits Missing (columns tag) said_entries ≡ false → fields_mean sep tag ps ≡ not_aLine
      mean_sites e = rw (l, f, e)

      pub mean_said : sits Missing (columns tag) said_entries ≡ true
          → fields_mean sep tag ps ≡ Says (record { tag = tag; entries = said_entries })
      mean_said e = rw (l, f, e)

  -- what pieces mean passed each check
  pub mean_is : (m : Meaning) → fields_mean sep tag ps ≡ Says m
      → (fields_fit sep (columns tag) (gathered tag ps) ≡ true) × (sits Missing (columns tag) said_entries ≡ true)
      × (record { tag = tag; entries = said_entries } ≡ m)
  mean_is m e =
      go (leb (length ps) (length (columns tag))) refl (fields_fit sep (columns tag) (gathered tag ps)) refl
      (sits Missing (columns tag) said_entries) refl
    where
      go : (t : Bool) → leb (length ps) (length (columns tag)) ≡ t
          → (u : Bool) → fields_fit sep (columns tag) (gathered tag ps) ≡ u
          → (v : Bool) → sits Missing (columns tag) said_entries ≡ v
          → (fields_fit sep (columns tag) (gathered tag ps) ≡ true) × (sits Missing (columns tag) said_entries ≡ true)
          × (record { tag = tag; entries = said_entries } ≡ m)
      go false l u f v g = not_said m (sym (mean_many l) ∙ e)
      go true l false f v g = not_said m (sym (mean_misfit l f) ∙ e)
      go true l true f false g = not_said m (sym (mean_sites l f g) ∙ e)
      go true l true f true g =
          (f, g, says_same (record { tag = tag; entries = said_entries }) m (sym (mean_said l f g) ∙ e))

module _ (sep : ℕ) (s : List ℕ) where
  pub content_broken : unbroken s ≡ false → content_means sep s ≡ not_aLine
  unfolding content_means
  content_broken e = rw e

  pub content_tagged : unbroken s ≡ true → content_means sep s ≡ tagged_means sep (tag_of s) s
  unfolding content_means
  content_tagged e = rw e

pub length_tag : (tag : Tag) → length (tag_text tag) ≡ 4
length_tag Pcr = refl
length_tag Hbr = refl
length_tag Sbr = refl
length_tag Wir = refl
length_tag Wrr = refl

module _ (s : List ℕ) (tag : Tag) where
  among_four : (tags : List Tag) → tag_among tags s ≡ Some tag → 4 ≤ length s
  among_four [] e = let no : ◌≡◌ {A = ℕ} 0 1 = cc in absurd (omega arith)
  among_four (t ∷ tags) e = go (among_four tags) (starts (tag_text t) s) refl
    where
      go : (tag_among tags s ≡ Some tag → 4 ≤ length s) → (u : Bool) → starts (tag_text t) s ≡ u → 4 ≤ length s
      go later true f = omega (arith, starts_four (tag_text t) s f, length_tag t)
      go later false f = later (rw f at e)

  pub tag_four : tag_of s ≡ Some tag → 4 ≤ length s
  unfolding tag_of
  tag_four e = among_four all_tags e

-- ---- what this code holds of it

module _ (sep : ℕ) (s : List ℕ) where
  tagged_held : (t : Option Tag) → tag_of s ≡ t → (m : Meaning) → tagged_means sep t s ≡ Says m
      → (meaning_of s (line_tagged sep s t) ≡ m) × AllWithin s (line_tagged sep s t)
  tagged_held (Some tag) is m e =
      let long = tag_four s tag is in
      (line_means sep s tag long ∙ (mean_is sep tag (split sep (drop 4 s)) m e).2, line_within sep s tag long)
  tagged_held None is m e = not_said m e

  -- where a content means something, the line that is held says it, by bytes that are there
  content_held_lem : (m : Meaning) → content_means sep s ≡ Says m
      → (meaning_of s (line_of sep s) ≡ m) × AllWithin s (line_of sep s)
  content_held_lem m e = go (unbroken s) refl
    where
      go : (t : Bool) → unbroken s ≡ t → (meaning_of s (line_of sep s) ≡ m) × AllWithin s (line_of sep s)
      go true f = tagged_held (tag_of s) refl m (sym (content_tagged sep s f) ∙ e)
      go false f = not_said m (sym (content_broken sep s f) ∙ e)

pub content_taken : ContentTaken
unfolding content_held
content_taken sep s j e =
    subst (λ (k : Result Line Answer). Taken s (content_means sep s) k) (sym e)
    (taken_held s (line_of sep s) (content_means sep s) (content_held_lem sep s))

pub judged_once : JudgedOnce
judged_once sep s = equation (Result Line Answer) (content_held sep s)
