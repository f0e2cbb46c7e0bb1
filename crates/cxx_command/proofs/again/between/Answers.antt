use Rattle.std.proofs.Common.{◌≡◌, subst}
use Rattle.std.specs.Prelude.{Some}
use Rattle.cxx_command.specs.Again.{OtherLine, by_calls, by_lines, difference_of}
use Rattle.cxx_command.specs.Shown.{IsShown}
use Rattle.cxx_command.proofs.again.between.Goals as goal

pub returns-in-Some : goal.returns-in-Some
returns-in-Some c =
    let found : Some c.in-Some.number ≡ difference_of c.args.one.now.text.items c.args.two.now.text.items = cc in
    subst (λ number. IsShown (by_lines number (by_calls (difference_of c.args.one.now.functions.items c.args.two.now.functions.items))) c.told.result) found (c.told.ensures (OtherLine c.in-Some.number) c.line_text.ensures)
