use Rattle.std.proofs.Common.{length}
use Rattle.cxx_form.proofs.shared.first_of.Goals as goal

pub first_signed-requires-clause-of : goal.first_signed-requires-clause-of
first_signed-requires-clause-of c = c.in-Some.ensures.below (length c.args.state.now.types) c.fact-fact.ensures.below.what
