use Rattle.std.proofs.Common.{◌≡◌, ◌-◌, length}
use Rattle.cxx_model.specs.Facts.Declarations.{name_at}
use Rattle.cxx_members.specs.Views.{graph_of, facts_of, wanted_at}
use Rattle.cxx_meaning.specs.Lookups.Gathered.{spread}
use Rattle.cxx_meaning.specs.Lookups.Qualified.{leads_to, searched}
use Rattle.cxx_scopes.proofs.qualified.searched.Given as goal

abbrev pub invariant-loop-place : goal.invariant-loop-place
invariant-loop-place g l = spread (leads_to (graph_of l.looking) l.cut (wanted_at l.sought.wanted) (name_at l.looking.types.now l.sought.name.now)) (length (facts_of l.looking) - l.place) l.place l.found.items ≡ searched (graph_of l.looking) l.cut (wanted_at l.sought.wanted) (name_at l.looking.types.now l.sought.name.now) l.fn.space
