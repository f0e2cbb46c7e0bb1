-- What a name means, by what was found of it.
use Rattle.std.specs.Prelude.{List}
use Rattle.cxx_model.specs.declared.lookup.Found.{Found as Sought}
use Rattle.cxx_model.specs.Stops.{◌>>=◌}
use Rattle.cxx_reading.specs.declared.region.Region.{Region}
use Rattle.cxx_reading.specs.Paths.{name_in, unambiguous}
use Rattle.cxx_reading.specs.Reads.{Asks}
use Rattle.cxx_reading.specs.Seen.{Numbered}
use Rattle.cxx_reading.specs.State.{CxxState}
use Rattle.cxx_reading.specs.Trees.{CxxPath, last_part}
use Rattle.cxx_answers.specs.Answers.{meant_in, name_meant}

-- in a region
abbrev pub name_found : CxxPath → Region → Sought → Asks CxxState (List Numbered)
name_found path where_ found state = unambiguous state.graph (last_part path.parts) found >>= λ is_one. name_meant path (meant_in state.graph where_ (name_in path)) state
