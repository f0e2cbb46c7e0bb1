use Rattle.std.proofs.Common.{sym, ◌∙◌}
use Rattle.cxx_names.proofs.Openings.{nominated_none, nominated_none_all, not_false}
use Rattle.cxx_names.proofs.names.Names.has_directives.Goals as goal

pub returns-clause-seen : goal.returns-clause-seen
returns-clause-seen c = λ none types scope. nominated_none types c.args.graph.now.facts scope (sym (c.requires.kept.spaces.directives scope) ∙ c.is_empty.ensures (not_false c.is_empty.result none) scope)

pub returns-clause-all : goal.returns-clause-all
returns-clause-all c = λ none types scope. nominated_none_all types c.args.graph.now.facts scope (sym (c.requires.kept.spaces.directives scope) ∙ c.is_empty.ensures (not_false c.is_empty.result none) scope)
