use Rattle.cxx_model.specs.Types.Numbers.{type_at}
use Rattle.cxx_model.specs.Types.Trees.{unqualified}
use Rattle.cxx_builtin.proofs.Drawing.{words_made, words_stopped}
use Rattle.cxx_builtin.proofs.making.other_cv.Goals as goal

pub returns-in_err-bare : goal.returns-in_err-bare
returns-in_err-bare c = words_stopped c.args.types.now c.strip_cv.new.self c.strip_cv.result c.from_residual.result c.args.cv (unqualified (type_at c.args.types.now c.args.of.0)) c.from_residual.ensures.0 c.strip_cv.ensures

pub returns : goal.returns
returns c = words_made c.args.types.now c.strip_cv.new.self c.with_cv.new.self c.in_ok-bare.bare c.with_cv.result c.args.cv (unqualified (type_at c.args.types.now c.args.of.0)) c.in_ok-bare.ensures c.with_cv.ensures
