use Rattle.cxx_tree.specs.Held.{offers_at, trees}
use Rattle.cxx_declare.proofs.Giving.{given_now}
use Rattle.cxx_declare.proofs.functions.give.Goals as goal

pub returns-in-Ok : goal.returns-in-Ok
returns-in-Ok c = λ old fact answered. given_now old c.args.state.now c.give_all.new.state c.clear_offers.new.self fact c.args.number (offers_at (trees c.args.state.now) c.args.offers.now) answered c.give_all.ensures.later c.in-Ok.ensures.is c.clear_offers.ensures.later c.clear_offers.ensures.is
