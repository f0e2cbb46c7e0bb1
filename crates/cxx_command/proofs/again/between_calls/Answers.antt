use Rattle.std.proofs.Common.{◌≡◌, subst}
use Rattle.std.specs.Prelude.{Some}
use Rattle.cxx_command.specs.Again.{OtherCall, by_calls, difference_of}
use Rattle.cxx_command.specs.Shown.{IsShown}
use Rattle.cxx_command.proofs.again.between_calls.Goals as goal

pub returns-in-Some : goal.returns-in-Some
returns-in-Some c =
    let found : Some c.in-Some.number ≡ difference_of c.args.one.now.functions.items c.args.two.now.functions.items = cc in
    subst (λ number. IsShown (by_calls number) c.told.result) found (c.told.ensures (OtherCall c.in-Some.number) c.call_text.ensures)
