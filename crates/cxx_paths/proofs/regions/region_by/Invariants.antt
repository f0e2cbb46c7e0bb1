use Rattle.std.proofs.Common.{◌≡◌, length}
use Rattle.cxx_members.specs.Views.{wanted_at}
use Rattle.cxx_paths.specs.Asked.{IsRegionThere}
use Rattle.cxx_paths.specs.Behind.{IsClassThere}
use Rattle.cxx_reading.specs.Paths.{region_by}
use Rattle.cxx_tree.specs.Arena.{path_parts_at}
use Rattle.cxx_tree.specs.Held.{meaning}
use Rattle.cxx_paths.proofs.regions.region_by.Given as goal

abbrev pub invariant-loop-rest : goal.invariant-loop-rest
invariant-loop-rest l = record { rest : region_by (meaning l.state).graph (wanted_at l.wanted) l.classes l.region (path_parts_at l.rest) ≡ region_by (meaning l.state).graph (wanted_at l.wanted) l.classes l.fn.first (path_parts_at l.parts); there : IsRegionThere l.state l.region; class : IsClassThere l.state.graph l.region }

abbrev pub decreases-loop-rest : goal.decreases-loop-rest
decreases-loop-rest l = length l.rest
