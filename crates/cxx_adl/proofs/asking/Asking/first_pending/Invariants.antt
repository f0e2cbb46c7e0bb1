use Rattle.std.proofs.Common.{◌≡◌, drop}
use Rattle.std.specs.List.{find}
use Rattle.cxx_model.specs.Facts.Pending.{is_pending}
use Rattle.cxx_adl.specs.Views.{graph_of}
use Rattle.cxx_adl.proofs.asking.Asking.first_pending.Given as goal

abbrev pub invariant-loop-class : goal.invariant-loop-class
invariant-loop-class l = find (is_pending (graph_of l.self)) (drop l.class-index l.classes) ≡ find (is_pending (graph_of l.self)) l.classes
