use Rattle.cxx_graph.proofs.Keeping.{kept_more}
use Rattle.cxx_graph.proofs.kept.Kept.note.Goals as goal

pub returns-clause-noted : goal.returns-clause-noted
returns-clause-noted c = λ facts so is.
    kept_more facts c.args.fact.now c.args.self.now.members c.push.new.self c.args.self.now.bases c.add_base.new.bases c.args.self.now.holders.items c.make_place.new.holders.items c.add_value.new.holders.items c.args.number so is c.in_ok-make_place.ensures.same c.in_ok-add_base.ensures.added c.in_default.ensures.added c.add_value.ensures
