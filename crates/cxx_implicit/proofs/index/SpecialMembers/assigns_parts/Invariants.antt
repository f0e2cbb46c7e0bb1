use Rattle.std.proofs.Common.{◌≡◌, drop}
use Rattle.std.specs.List.{list_all}
use Rattle.cxx_implicit.specs.Noted.{assigned_by_parts, special_in}
use Rattle.cxx_implicit.proofs.index.SpecialMembers.assigns_parts.Given as goal

abbrev pub invariant-loop-part : goal.invariant-loop-part
invariant-loop-part l = list_all (λ part. (special_in l.self.specials.items part.0).assigns_const) (drop l.part-index l.parts) ≡ assigned_by_parts l.self l.fn.class.0
