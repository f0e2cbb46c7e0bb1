use Rattle.std.proofs.Common.{◌∙◌}
use Rattle.cxx_form.proofs.Tagged.{stem_found, stem_none}
use Rattle.cxx_form.proofs.names.stem_at.Goals as goal

pub returns-in-Some : goal.returns-in-Some
returns-in-Some c = c.name_stem.ensures c.args.state.now.types ∙ stem_found c.args.state.now c.args.number.0 c.in-Some.fact.now c.in-Some.ensures.is

pub returns-in-None : goal.returns-in-None
returns-in-None c = stem_none c.args.state.now c.args.number.0 c.in-None.ensures.is
