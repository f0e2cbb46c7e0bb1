use Rattle.std.specs.Prelude.{◌<◌, length}
use Rattle.std.proofs.Common.{sym, subst}
use Rattle.cxx_tree.specs.Held.{Held}
use Rattle.cxx_declare.proofs.Begun.{class_ended}
use Rattle.cxx_declare.proofs.class_definitions.end_class.Goals as goal

pub end_with-requires-clause-class : goal.end_with-requires-clause-class
end_with-requires-clause-class c = subst (λ (h : Held). c.args.class.0 < length h.graph.classes) (sym c.in-Ok.ensures.held) c.requires

pub returns-in-Ok : goal.returns-in-Ok
returns-in-Ok c = class_ended c.args.state.now c.implicit_members.new.self c.end_with.new.state c.args.place c.args.class c.in-Ok.all.items c.end_with.result c.in-Ok.ensures.later c.in-Ok.ensures.same c.in-Ok.ensures.is c.end_with.ensures
