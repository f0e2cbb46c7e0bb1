use Rattle.std.proofs.Common.{◌≡◌, drop}
use Rattle.std.specs.List.{slice_get}
use Rattle.cxx_statement_text.specs.Objects.{initializers_in}
use Rattle.cxx_statement_text.specs.Written.{parts_in}
use Rattle.cxx_statement_text.proofs.objects.initializer.Given as goal

abbrev pub invariant-loop-part : goal.invariant-loop-part
invariant-loop-part l = slice_get (initializers_in (parts_in l.state (drop l.part-index l.parts))) 0 ≡ slice_get (initializers_in (parts_in l.state l.parts)) 0
