use Rattle.cxx_form.specs.Names.{names_in}
use Rattle.cxx_form.proofs.Tagged.{SoFar}
use Rattle.cxx_form.proofs.names.tags.Given as goal

abbrev pub invariant-loop-number : goal.invariant-loop-number
invariant-loop-number l = SoFar (names_in l.state).tags.enumeration_name l.texts.items l.number
