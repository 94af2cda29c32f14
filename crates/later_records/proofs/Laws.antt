-- Laws of a later record's judgement, as other crates' proofs cite them.
-- Assumes nothing.
use Rattle.std.specs.Prelude.{Some}
use mathlib.Core.Path.{◌≡◌}
use mathlib.Core.Bool.{true}
use mathlib.Core.List.{List}
use Prim.Native.Nat.{ℕ}
use Rattle.kinds.specs.declared.Kind.{Kind}
use Rattle.kinds.specs.Kinds.{kind_of, known}
use Rattle.frames.specs.Frames.{rec_typ, rec_sub, body, is_record}
use Rattle.bodies.specs.declared.Record.{Record}
use Rattle.bodies.specs.Bodies.{read_body}
use Rattle.order.specs.declared.Place.{Place}
use Rattle.order.specs.Order.{goes}
use Rattle.session.specs.declared.Standing.{Standing}
use Rattle.kind_effects.specs.Effects.{judge_said}
use Rattle.later_records.specs.Later.{at, judge_later}

-- past all checks but its kind's own
pub later_said : (st : Standing) (cells rec : List ℕ) → is_record st.order rec ≡ true
    → (kind : Kind) → kind ≡ kind_of (rec_typ rec) (rec_sub rec) → known kind ≡ true
    → (place : Place) → goes st.place kind ≡ Some place
    → (said : Record) → read_body st.order kind (body rec) ≡ Some said
    → judge_later st cells rec ≡ judge_said (at st place) cells said
unfolding judge_later
later_said st cells rec framed kind named is_Known place to said e = rw (framed, ← named, is_Known, to, e)
