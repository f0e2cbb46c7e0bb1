use Rattle.std.proofs.Common.{◌≡◌, drop}
use Rattle.cxx_model.specs.Facts.Declarations.{name_at}
use Rattle.cxx_model.specs.Types.Numbers.{type_at}
use Rattle.cxx_form.specs.Lines.{numbers_in}
use Rattle.cxx_form.specs.Shared.{signature_with}
use Rattle.cxx_form.specs.Sharing.{first_among}
use Rattle.cxx_form.specs.Views.{facts_in}
use Rattle.cxx_form.proofs.signatures.find_signed.Given as goal

abbrev pub invariant-loop-number : goal.invariant-loop-number
invariant-loop-number l =
    first_among (facts_in l.state) (signature_with (name_at l.state.types l.name) (type_at l.state.types l.of.0)) (numbers_in (drop l.number-index l.numbers)) ≡ first_among (facts_in l.state) (signature_with (name_at l.state.types l.name) (type_at l.state.types l.of.0)) (numbers_in l.numbers)
