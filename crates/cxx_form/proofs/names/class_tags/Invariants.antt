use Rattle.cxx_form.specs.Names.{names_in}
use Rattle.cxx_form.proofs.Tagged.{SoFar}
use Rattle.cxx_form.proofs.names.class_tags.Given as goal

abbrev pub invariant-loop-class : goal.invariant-loop-class
invariant-loop-class l = SoFar (names_in l.state).tags.class_name l.texts.items l.class
