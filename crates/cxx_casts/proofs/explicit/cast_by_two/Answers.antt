use Rattle.cxx_casts.proofs.Between.{found_by_more, none_by_more, waits_by_more}
use Rattle.cxx_casts.proofs.explicit.cast_by_two.Goals as goal

pub returns-in-Err : goal.returns-in-Err
returns-in-Err c = waits_by_more c.args.graph.now c.args.types.now c.cast_added.new.types c.args.is_single c.args.from c.args.to c.in-Err.wait c.in-Err.ensures

pub returns-in-Ok-Some : goal.returns-in-Ok-Some
returns-in-Ok-Some c = found_by_more c.args.graph.now c.args.types.now c.cast_added.new.types c.args.is_single c.args.from c.args.to c.in-Ok-Some.found c.in-Ok-Some.field-0 c.in-Ok-Some.field-0-is c.in-Ok-Some.ensures

pub returns-in-Ok-None : goal.returns-in-Ok-None
returns-in-Ok-None c = none_by_more c.args.graph.now c.args.types.now c.cast_added.new.types c.cast_between.new.types c.args.is_single c.args.from c.args.to c.cast_between.result c.in-Ok-None.field-0 c.in-Ok-None.field-0-is c.requires.fitted c.requires.from_known c.requires.to_known c.in-Ok-None.ensures c.cast_between.ensures
