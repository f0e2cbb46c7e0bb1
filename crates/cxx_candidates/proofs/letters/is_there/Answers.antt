use Rattle.std.proofs.Common.{sym, ◌∙◌}
use Rattle.cxx_model.specs.declared.types.TypeId.{TypeId}
use Rattle.cxx_model.specs.Types.Numbers.{type_at}
use Rattle.cxx_model.specs.Types.Same.{same_type}
use Rattle.cxx_candidates.proofs.Gathered.{any_mapped}
use Rattle.cxx_candidates.proofs.letters.is_there.Goals as goal

pub returns-then-same : goal.returns-then-same
returns-then-same c =
    let types = c.args.types.now in
    sym (any_mapped (λ (n : TypeId). type_at types n.0) (same_type (type_at types c.args.of.0)) c.args.list.now c.loop-other.other-index _ c.loop-other-test.true (sym c.same.ensures.is ∙ c.if-same.true))
