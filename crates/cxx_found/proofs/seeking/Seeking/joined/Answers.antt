use Rattle.std.proofs.Common.{length, subst}
use Rattle.std.specs.Prelude.{IfSome}
use Rattle.cxx_model.specs.Facts.Fitted.{IsEntityBelow}
use Rattle.cxx_found.specs.Views.{types_of}
use Rattle.cxx_found.proofs.seeking.Seeking.joined.Goals as goal

pub returns-then-is_again-clause-below : goal.returns-then-is_again-clause-below
returns-then-is_again-clause-below c =
    let count = length (types_of c.args.self.now) in
    c.sooner.ensures.below count (subst (λ o. IfSome o (λ one. IsEntityBelow count one.what)) c.in-Some.is c.requires.only) c.requires.two
