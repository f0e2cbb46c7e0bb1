use Rattle.std.proofs.Common.{ap, sym, ◌∙◌}
use Rattle.std.specs.List.{slice_get}
use Rattle.cxx_model.specs.Facts.Declarations.{spelled}
use Rattle.cxx_reading.specs.Spaces.{is_original_by}
use Rattle.cxx_names.specs.Looked.{first_at}
use Rattle.cxx_names.proofs.Openings.{opening_is}
use Rattle.cxx_names.proofs.names.Names.is_original.Goals as goal

pub returns-in-Some : goal.returns-in-Some
returns-in-Some c = λ types.
    let facts = c.args.graph.now.facts in
    let at = sym c.in-Some.is ∙ (c.first_opening.ensures ∙ ap (λ xs. slice_get xs 0) (c.requires.kept.spaces.openings c.args.inner)) in
    c.is_original_at.ensures types ∙ ap (is_original_by c.args.scope.0 (spelled c.args.word.now)) (ap (first_at types facts) at ∙ opening_is types facts c.args.inner)

pub returns-in-None : goal.returns-in-None
returns-in-None c = λ types.
    let facts = c.args.graph.now.facts in
    let at = sym c.in-None.is ∙ (c.first_opening.ensures ∙ ap (λ xs. slice_get xs 0) (c.requires.kept.spaces.openings c.args.inner)) in
    ap (is_original_by c.args.scope.0 (spelled c.args.word.now)) (ap (first_at types facts) at ∙ opening_is types facts c.args.inner)
