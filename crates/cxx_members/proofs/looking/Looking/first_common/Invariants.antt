use Rattle.std.proofs.Common.{◌≡◌, ◌&&◌, drop}
use Rattle.std.specs.List.{find}
use Rattle.cxx_model.specs.Facts.Entities.{is_space}
use Rattle.cxx_meaning.specs.Lookups.Gathered.{holds_scope}
use Rattle.cxx_meaning.specs.Lookups.Scopes.{kind_of}
use Rattle.cxx_members.specs.Views.{facts_of}
use Rattle.cxx_members.proofs.looking.Looking.first_common.Given as goal

abbrev pub invariant-loop-one : goal.invariant-loop-one
invariant-loop-one l = find (λ one. is_space (kind_of (facts_of l.self) one) && holds_scope l.others one) (drop l.one-index l.ones) ≡ find (λ one. is_space (kind_of (facts_of l.self) one) && holds_scope l.others one) l.ones
