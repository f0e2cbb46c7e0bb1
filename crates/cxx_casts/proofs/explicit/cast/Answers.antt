use Rattle.cxx_casts.proofs.Between.{by_const_here, by_more, by_need_here, by_static_here}
use Rattle.cxx_casts.proofs.explicit.cast.Goals as goal

pub returns-then-const_cast : goal.returns-then-const_cast
returns-then-const_cast c = by_const_here c.args.graph.now c.args.types.now c.args.is_single c.args.from c.args.to c.const_cast.result c.requires.fitted c.const_cast.ensures c.if-const_cast.true

pub returns-in-Err : goal.returns-in-Err
returns-in-Err c = by_need_here c.args.graph.now c.args.types.now c.args.is_single c.args.from c.args.to c.const_cast.result c.in-Err.wait c.requires.fitted c.const_cast.ensures c.if-const_cast.false c.in-Err.ensures

pub returns-in-Ok-true : goal.returns-in-Ok-true
returns-in-Ok-true c = by_static_here c.args.graph.now c.args.types.now c.args.is_single c.args.from c.args.to c.const_cast.result c.in-Ok-true.field-0 c.requires.fitted c.const_cast.ensures c.if-const_cast.false c.in-Ok-true.ensures c.in-Ok-true.field-0-test

pub returns-in-Ok-false : goal.returns-in-Ok-false
returns-in-Ok-false c = by_more c.args.graph.now c.args.types.now c.cast_by_two.new.types c.args.is_single c.args.from c.args.to c.const_cast.result c.in-Ok-false.field-0 c.cast_by_two.result c.const_cast.ensures c.if-const_cast.false c.in-Ok-false.ensures c.in-Ok-false.field-0-test c.cast_by_two.ensures
