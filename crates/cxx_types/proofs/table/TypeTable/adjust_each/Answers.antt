use Rattle.cxx_model.specs.Types.Trees.{adjusted}
use Rattle.cxx_model.specs.Types.Numbers.{type_at, types_at}
use Rattle.std.proofs.Common.{get_or, take}
use Rattle.cxx_types.specs.Parameters.{adjusted_types}
use Rattle.cxx_types.proofs.Building.{adjusted-part, next-adjusted, number-later}
use Rattle.cxx_types.proofs.Making.{each_stopped}
use Rattle.cxx_types.proofs.table.TypeTable.adjust_each.Goals as goal

pub adjust-requires : goal.adjust-requires
adjust-requires c = number-later c.args.self.now c.loop-number.self c.args.numbers.now c.loop-number.number-index (record { 0 = 0 }) c.loop-number-test.true c.requires c.loop-number.invariant.keeps

pub returns-in_err-adjust : goal.returns-in_err-adjust
returns-in_err-adjust c =
    each_stopped c.args.self.now c.loop-number.self c.adjust.new.self c.loop-number.adjusted (adjusted_types (types_at c.args.self.now (take c.loop-number.number-index c.args.numbers.now))) (adjusted_types (types_at c.args.self.now c.args.numbers.now)) c.adjust.result c.from_residual.result (adjusted (type_at c.loop-number.self (get_or c.args.numbers.now c.loop-number.number-index (record { 0 = 0 })).0)) c.loop-number.invariant c.adjust.ensures
    (adjusted-part c.args.self.now c.loop-number.self c.args.numbers.now c.loop-number.number-index (record { 0 = 0 }) c.loop-number-test.true c.requires c.loop-number.invariant.keeps)
    c.from_residual.ensures.0

pub returns-in_err-push : goal.returns-in_err-push
returns-in_err-push c =
    each_stopped c.args.self.now c.loop-number.self c.adjust.new.self c.loop-number.adjusted (adjusted_types (types_at c.args.self.now (take c.loop-number.number-index c.args.numbers.now))) (adjusted_types (types_at c.args.self.now c.args.numbers.now)) c.adjust.result c.from_residual-in_err-push.result (adjusted (type_at c.loop-number.self (get_or c.args.numbers.now c.loop-number.number-index (record { 0 = 0 })).0)) c.loop-number.invariant c.adjust.ensures
    (adjusted-part c.args.self.now c.loop-number.self c.args.numbers.now c.loop-number.number-index (record { 0 = 0 }) c.loop-number-test.true c.requires c.loop-number.invariant.keeps)
    c.from_residual-in_err-push.ensures.0

pub loop-number-preserved : goal.loop-number-preserved
loop-number-preserved c =
    next-adjusted c.args.self.now c.loop-number.self c.adjust.new.self c.args.numbers.now c.loop-number.adjusted c.push.new.self c.loop-number.number-index (record { 0 = 0 }) c.in_ok-adjust.field-0 c.loop-number.invariant c.loop-number-test.true c.requires c.in_ok-adjust.ensures c.in_ok-push.ensures.ok
