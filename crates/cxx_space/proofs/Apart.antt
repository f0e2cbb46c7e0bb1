-- A declarator that agrees in one step is read as one that agrees in two.
use Rattle.std.specs.Prelude.{ℕ, Bool, Result}
use Rattle.cxx_cursor.specs.Reading.{IsRead}
use Rattle.cxx_language.specs.Units.{init_declarator_at}
use Rattle.cxx_model.specs.declared.stop.Stop.{Stop}
use Rattle.cxx_reading.specs.Reads.{Ahead}
use Rattle.cxx_reading.specs.State.{CxxState}
use Rattle.cxx_reading.specs.Units.{Said}
use Rattle.cxx_space.specs.declared.bodies.Declared.{Declared}
use Rattle.cxx_space.specs.Parts.{agreed, declarator_apart}
use Rattle.cxx_space.specs.Views.{IsDeclaredKnown, declares_of}
use Rattle.cxx_tree.specs.Held.{Held}

pub apart_read : (old new : Held) (end ahead : Ahead) (room : ℕ) (said : Said) (is_first : Bool) (state : CxxState) (r : Result Declared Stop) → IsRead declares_of IsDeclaredKnown old new end r (declarator_apart room said is_first state ahead) → IsRead declares_of IsDeclaredKnown old new end r (init_declarator_at room said is_first state ahead)
unfolding agreed declarator_apart init_declarator_at
apart_read old new end ahead room said is_first state r read = read
