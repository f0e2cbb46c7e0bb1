use Rattle.std.proofs.Common.{subst}
use Rattle.cxx_names.specs.Filed.{IsMoreBy}
use Rattle.cxx_names.proofs.filed.Filed.take_back.Goals as goal

pub returns-in-Some : goal.returns-in-Some
returns-in-Some g c = λ before more key. c.pop.ensures before c.in-Some.one.1 (subst (λ e. IsMoreBy g.K.PartialEq.eq before c.args.self.now.rows.entries e) c.in-Some.is more) key
