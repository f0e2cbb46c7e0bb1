use Rattle.std.proofs.Common.{◌≡◌, drop}
use Rattle.cxx_model.specs.Facts.Declarations.{name_at}
use Rattle.cxx_meaning.specs.Lookups.Associated.{standing_in_each}
use Rattle.cxx_meaning.specs.Lookups.Gathered.{with_facts}
use Rattle.cxx_adl.specs.Functions.{firsts}
use Rattle.cxx_adl.specs.Views.{graph_of}
use Rattle.cxx_adl.proofs.asking.Asking.add_in_spaces.Given as goal

abbrev pub invariant-loop-space : goal.invariant-loop-space
invariant-loop-space g l = with_facts l.found.items (firsts (graph_of l.self) (standing_in_each (graph_of l.self) l.cut.0 (name_at l.self.types.now l.name) (drop l.space-index l.spaces))) ≡ with_facts l.fn.found.items (firsts (graph_of l.self) (standing_in_each (graph_of l.self) l.cut.0 (name_at l.self.types.now l.name) l.spaces))
