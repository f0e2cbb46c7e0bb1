use Rattle.std.proofs.Common.{ap, ◌∙◌}
use Rattle.std.specs.List.{slice_get}
use Rattle.cxx_names.proofs.Enumerated.{scope_is}
use Rattle.cxx_names.proofs.names.Names.scope_of_enumeration.Goals as goal

pub returns : goal.returns
returns c = λ types. c.scope_of.ensures ∙ (ap (λ xs. slice_get xs c.args.number.0) c.requires.kept.enumerations ∙ scope_is types c.args.graph.now c.args.number.0 c.in_range.ensures)
