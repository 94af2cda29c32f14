-- What the program begins with.
-- Assumes nothing.
use mathlib.Core.Path.{refl}
use mathlib.Core.Bool.{false}
use native.Mathlib.Omega.{arith}
use lib.ListN.{replicate}
use Rattle.numbers.specs.declared.Order.TheVariants.{LowFirst}
use Rattle.order.specs.declared.Place.TheVariants.{Body}
use Rattle.rising.specs.Rising.{rising, rising_from, all_below}
use Rattle.rows.specs.Rows.{held_by}
use Rattle.session.specs.declared.Standing.{Standing}
use Rattle.session.specs.Session as session
use Rattle.house.specs.declared.Room.{Room}
use Rattle.house.specs.Deliver.{core}
use Rattle.house.specs.Laws.{Lending}

abbrev pub alone_room : Room
alone_room = record { slot = 0; floor = 1024; others = 0 }

abbrev pub in_body : Standing
in_body = record { place = Body; order = LowFirst; opened = 0; pcr = false; results = 0; wafers = 0 }

pub begun_lending : Lending alone_room (core (replicate 1024 0) (replicate 1024 0) 0 in_body (replicate 40 0)) 1
unfolding rising rising_from all_below held_by session.sound session.kept_right
begun_lending =
    record {
      rows =
          record {
            lent = record { long = refl; paired = refl; within = omega arith; rises = refl };
            slot = omega arith;
            low = refl;
            roomy = omega arith;
          };
      session = refl;
      cells = refl;
      below = refl;
    }
