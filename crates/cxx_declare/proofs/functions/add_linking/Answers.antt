use Rattle.cxx_model.specs.Facts.Declarations.{fact_at}
use Rattle.cxx_declare.specs.Given.{added_giving}
use Rattle.cxx_tree.specs.Held.{meaning, offers_at, trees}
use Rattle.cxx_declare.proofs.functions.add_linking.Goals as goal

pub returns-in-Ok : goal.returns-in-Ok
returns-in-Ok c = c.link_if.ensures c.args.state.now (added_giving (fact_at c.args.state.now.types c.args.fact) (offers_at (trees c.args.state.now) c.args.offers.now) (meaning c.args.state.now)) c.in-Ok.ensures
