use Rattle.std.specs.Prelude.{nat_eq}
use Rattle.std.specs.Option.{option_copied}
use Rattle.std.proofs.Common.{ap, sym, ◌∙◌}
use Rattle.cxx_declare.proofs.Befriending.{stands_none, stands_some}
use Rattle.cxx_declare.proofs.friends.stands_within.Goals as goal

pub returns-in-Some : goal.returns-in-Some
returns-in-Some c = stands_some c.args.state.now c.graph.result.now c.args.home.0 c.args.number.0 c.in-Some.fact.now (nat_eq c.home_of.result.0 c.args.home.0) c.graph.ensures.is (sym c.fact_of.ensures ∙ ap option_copied c.in-Some.is) (ap (λ n. nat_eq n c.args.home.0) c.home_of.ensures)

pub returns-in-None : goal.returns-in-None
returns-in-None c = stands_none c.args.state.now c.graph.result.now c.args.home.0 c.args.number.0 c.graph.ensures.is (sym c.fact_of.ensures ∙ ap option_copied c.in-None.is)
