use Rattle.std.proofs.Common.{◌≡◌, ◌-◌, length}
use Rattle.cxx_meaning.specs.Lookups.Gathered.{spread}
use Rattle.cxx_meaning.specs.Lookups.Qualified.{leads_to, searched}
use Rattle.cxx_found.specs.Views.{cut_of, facts_of, graph_of, name_of, wanted_of}
use Rattle.cxx_found.proofs.seeking.Seeking.searched.Given as goal

abbrev pub invariant-loop-place : goal.invariant-loop-place
invariant-loop-place l = spread (leads_to (graph_of l.self) (cut_of l.self) (wanted_of l.self) (name_of l.self)) (length (facts_of l.self) - l.place) l.place l.found.keys ≡ searched (graph_of l.self) (cut_of l.self) (wanted_of l.self) (name_of l.self) l.fn.space
