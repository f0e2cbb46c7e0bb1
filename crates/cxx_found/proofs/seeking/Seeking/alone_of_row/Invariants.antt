use Rattle.std.proofs.Common.{◌≡◌, None, drop, length}
use Rattle.std.specs.Prelude.{option_map, IfSome}
use Rattle.cxx_model.specs.Facts.Fitted.{IsEntityBelow}
use Rattle.cxx_members.specs.Sighted.{sighting_at}
use Rattle.cxx_found.specs.Again.{alone_from}
use Rattle.cxx_found.specs.Rows.{sighted_in}
use Rattle.cxx_found.specs.Views.{graph_of, types_of, wanted_of}
use Rattle.cxx_found.proofs.seeking.Seeking.alone_of_row.Given as goal

abbrev pub invariant-loop-number : goal.invariant-loop-number
invariant-loop-number l = record {
  is : alone_from (option_map (sighting_at (types_of l.self)) l.only) (sighted_in (graph_of l.self) (wanted_of l.self) (drop l.number-index l.numbers)) ≡ alone_from None (sighted_in (graph_of l.self) (wanted_of l.self) l.numbers);
  below : IfSome l.only (λ one. IsEntityBelow (length (types_of l.self)) one.what);
}
