-- What holds between two turns of a loop over a reader.
use Rattle.std.specs.Prelude.{◌≡◌}
use Rattle.cxx_model.specs.Stops.{Answer}
use Rattle.cxx_reading.specs.Reads.{Got}
use Rattle.cxx_reading.specs.State.{CxxState}
use Rattle.cxx_tree.specs.Held.{Held}
use Rattle.cxx_tree.specs.Later.{Later}

-- What is left of the loop gives what the whole loop gives, what was read so far is known, and the state grew.
pub record IsTurning {B : Type 0} (left whole : Answer (Got CxxState B)) (known : Type 0) (old new : Held) : Type 0 where
  pub is : left ≡ whole
  pub fits : known
  pub later : Later old new
