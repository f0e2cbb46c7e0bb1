use Rattle.std.proofs.Common.{ap, option_map, ◌∙◌}
use Rattle.std.specs.List.{slice_get}
use Rattle.cxx_names.specs.Looked.{scope_number}
use Rattle.cxx_names.proofs.Openings.{unnamed_is}
use Rattle.cxx_names.proofs.names.Names.unnamed_before.Goals as goal

pub returns : goal.returns
returns c = λ types. ap (option_map scope_number) (c.first_unnamed.ensures ∙ ap (λ xs. slice_get xs 0) (c.requires.kept.spaces.unnamed c.args.scope)) ∙ unnamed_is types c.args.graph.now c.args.scope
