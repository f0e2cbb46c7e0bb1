use Rattle.std.proofs.Common.{subst, List}
use Rattle.cxx_page.specs.Sheets.{put, Writes}
use Rattle.cxx_reading.specs.Words.{Word}
use Rattle.cxx_form.proofs.Initial.{an_initializer, no_initializer}
use Rattle.cxx_form.proofs.initializers.write_among.Goals as goal

pub returns-in_default : goal.returns-in_default
returns-in_default c = no_initializer c.args.book.now c.args.parts.now c.args.page.now c.in_default.ensures.is

pub returns : goal.returns
returns c =
    subst (λ (ws : List Word). Writes c.write_initializer.result c.write_initializer.new.page (put ws c.args.page.now))
    (an_initializer c.args.book.now c.args.parts.now c.in-Some.number c.in-Some.ensures.is) c.write_initializer.ensures
