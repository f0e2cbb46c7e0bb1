use Rattle.std.specs.Option.{option_copied}
use Rattle.std.proofs.Common.{ap, sym, ◌∙◌}
use Rattle.cxx_declare.proofs.Bringing.{space_one, space_passed}
use Rattle.cxx_declare.proofs.usings.space_at.Goals as goal

pub returns-then-is_space : goal.returns-then-is_space
returns-then-is_space c = λ types. space_one types c.args.graph.now c.args.number.0 c.in-Some.fact.now (sym c.fact_of.ensures ∙ ap option_copied c.in-Some.is) (sym (c.is_space.ensures types) ∙ c.if-is_space.true)

pub returns-else-is_space : goal.returns-else-is_space
returns-else-is_space c = λ types. space_passed types c.args.graph.now c.args.number.0 c.in-Some.fact.now (sym c.fact_of.ensures ∙ ap option_copied c.in-Some.is) (sym (c.is_space.ensures types) ∙ c.if-is_space.false)
