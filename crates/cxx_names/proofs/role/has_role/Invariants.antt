use Rattle.std.proofs.Common.{◌≡◌, drop}
use Rattle.cxx_names.specs.Roles.{has_role}
use Rattle.cxx_names.proofs.role.has_role.Given as goal

abbrev pub invariant-loop-number : goal.invariant-loop-number
invariant-loop-number l = has_role l.graph.facts (drop l.number-index l.numbers) l.role ≡ has_role l.graph.facts l.numbers l.role
