use Rattle.std.proofs.Common.{Some, None}
use Rattle.cxx_declare.proofs.Spacing.{space_opened}
use Rattle.cxx_declare.proofs.spaces.open_space.Goals as goal

pub returns-in-Some : goal.returns-in-Some
returns-in-Some c = λ kind. space_opened c.args.state.now c.open_again.new.state kind c.args.place c.args.word.now (Some c.in-Some.inner.0) c.open_again.result c.in-Some.ensures.is (c.open_again.ensures kind)

pub returns-in-None : goal.returns-in-None
returns-in-None c = λ kind. space_opened c.args.state.now c.open_new.new.state kind c.args.place c.args.word.now None c.open_new.result c.in-None.ensures.is (c.open_new.ensures kind)
