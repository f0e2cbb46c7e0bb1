use Rattle.std.specs.Prelude.{◌<◌, length}
use Rattle.std.proofs.Common.{sym, subst}
use Rattle.cxx_model.specs.Facts.Declarations.{facts_at}
use Rattle.cxx_declare.proofs.Begun.{ended, not_ended}
use Rattle.cxx_declare.proofs.class_definitions.end_with.Goals as goal

pub complete_class-requires : goal.complete_class-requires
complete_class-requires c = subst (λ cs. c.args.class.0 < length cs) (sym c.in-Ok.ensures.held) c.requires.class

pub returns-in-Ok : goal.returns-in-Ok
returns-in-Ok c = ended c.args.state.now c.add_each.new.state c.complete_class.new.state c.args.place c.args.class (facts_at c.args.state.now.types c.args.all.items) c.complete_class.result c.in-Ok.ensures.answered c.complete_class.ensures

pub returns-in-Err : goal.returns-in-Err
returns-in-Err c = not_ended c.args.state.now c.add_each.new.state c.args.place c.args.class (facts_at c.args.state.now.types c.args.all.items) c.in-Err.stop c.in-Err.ensures.answered
