-- What a stream that is fed here is between two chunks.
-- Assumes nothing.
use Rattle.std.specs.Prelude.{List, ℕ, ◌≤◌}
use Rattle.following.specs.declared.Stream.{Stream}
use Rattle.following.specs.Lent.{Right}

pub record Ready (s : Stream) (buf : List ℕ) : Type 0 where
  pub right : Right s buf
  pub few : s.accepted ≤ 2_000_000

-- .. whatever stands in the buffer
abbrev pub ReadyAt : Stream → Type 0
ReadyAt s = (buf : List ℕ) → Ready s buf
