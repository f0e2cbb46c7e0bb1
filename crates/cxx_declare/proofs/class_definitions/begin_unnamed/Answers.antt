use Rattle.cxx_declare.proofs.Begun.{unnamed_begun, unnamed_next}
use Rattle.cxx_declare.proofs.class_definitions.begin_unnamed.Goals as goal

pub reserve_unnamed-requires : goal.reserve_unnamed-requires
reserve_unnamed-requires c = unnamed_next c.args.state.now c.args.place c.next_class-class.result c.args.is_union c.scope.result c.fact_in-fact.result c.scope.ensures.there c.next_class-class.ensures c.fact_in-fact.ensures

pub returns : goal.returns
returns c = unnamed_begun c.args.state.now c.reserve_unnamed.new.state c.args.place c.next_class-class.result c.args.is_union c.scope.result c.fact_in-fact.result c.reserve_unnamed.result c.next_class-class.ensures c.scope.ensures.is c.fact_in-fact.ensures c.reserve_unnamed.ensures
