use Rattle.std.proofs.Common.{Ok, Option, subst}
use Rattle.cxx_model.specs.Types.Trees.{CxxType}
use Rattle.cxx_meaning.specs.Conversions.Casts.{added}
use Rattle.cxx_model.specs.Types.Numbers.{type_at}
use Rattle.cxx_standard.specs.Views.{operand_at}
use Rattle.cxx_casts.specs.Made.{MayMake}
use Rattle.cxx_casts.proofs.Between.{cast_later}
use Rattle.cxx_casts.proofs.explicit.cast_added.Goals as goal

pub returns-in-Ok : goal.returns-in-Ok
returns-in-Ok c = cast_later c.args.graph.now c.args.types.now c.made.new.types c.args.is_single c.args.from c.args.to c.in-Ok.middle (added (operand_at c.args.types.now c.args.from) (type_at c.args.types.now c.args.to.0)) c.by_made.result c.requires.fitted c.requires.from_known c.requires.to_known (subst (λ (t : Option CxxType). MayMake c.args.graph.now c.args.types.now c.made.new.types (Ok c.in-Ok.middle) t) c.more-aims.ensures.is c.in-Ok.ensures) c.by_made.ensures
