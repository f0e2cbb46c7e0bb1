use Rattle.std.proofs.Common.{◌≡◌, drop}
use Rattle.cxx_model.specs.Facts.Declarations.{name_at}
use Rattle.cxx_meaning.specs.Lookups.Gathered.{with_facts}
use Rattle.cxx_meaning.specs.Lookups.Sightings.{sighting_in, standing}
use Rattle.cxx_meaning.specs.Lookups.Wanted.{any_name}
use Rattle.cxx_adl.specs.Functions.{firsts}
use Rattle.cxx_adl.specs.Standing.{given_each}
use Rattle.cxx_adl.specs.Views.{facts_of, graph_of}
use Rattle.cxx_adl.proofs.asking.Asking.add_standing.Given as goal

abbrev pub invariant-loop-number : goal.invariant-loop-number
invariant-loop-number g l = with_facts l.found.items (firsts (graph_of l.self) (given_each (sighting_in (graph_of l.self) l.cut.0 any_name (name_at l.self.types.now l.name) l.scope) (facts_of l.self) (drop l.number-index l.number-items))) ≡ with_facts l.fn.found.items (firsts (graph_of l.self) (standing (graph_of l.self) l.cut.0 any_name (name_at l.self.types.now l.name) l.scope))
