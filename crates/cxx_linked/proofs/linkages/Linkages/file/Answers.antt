use Rattle.std.proofs.Common.{ap, sym, ◌∙◌}
use Rattle.std.specs.Option.{option_copied}
use Rattle.cxx_linked.proofs.Filing.{filed_some, if_ok}
use Rattle.cxx_linked.proofs.linkages.Linkages.file.Goals as goal

pub returns-in-Some-clause-more : goal.returns-in-Some-clause-more
returns-in-Some-clause-more c =
    let at = sym (ap option_copied (sym c.in-Some.is) ∙ c.fact_of.ensures) in
    if_ok c.file.result _ _ (filed_some c.args.self.now.words c.file.new.self c.args.graph.now c.args.number c.in-Some.fact.now c.home.result at c.home.ensures) c.file.ensures.more
