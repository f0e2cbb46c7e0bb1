use Rattle.cxx_declare.proofs.Begun.{class_new, word_next}
use Rattle.cxx_declare.proofs.class_definitions.define_new.Goals as goal

pub define_next-requires : goal.define_next-requires
define_next-requires c = word_next c.args.state.now c.args.place c.args.word.now c.next_class-class.result c.args.is_union c.in-Ok.fact c.in-Ok.ensures.there c.next_class-class.ensures c.in-Ok.ensures.is

pub returns-in-Ok : goal.returns-in-Ok
returns-in-Ok c = λ kind. class_new c.args.state.now c.define_next.new.state kind c.args.place c.args.word.now c.next_class-class.result c.args.is_union c.in-Ok.fact c.define_next.result c.next_class-class.ensures c.in-Ok.ensures.is (c.define_next.ensures kind)
