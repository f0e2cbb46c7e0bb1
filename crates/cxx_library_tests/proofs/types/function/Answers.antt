use Rattle.std.proofs.Common.{ap, sym, subst, ◌∙◌, List, [], ◌∷◌, ◌++◌, ◌≡◌}
use Rattle.cxx_model.specs.declared.types.Signature.{Signature}
use Rattle.cxx_model.specs.declared.types.TypeTree.{TypeTree}
use Rattle.cxx_model.specs.Types.Numbers.{tree_at, IsTreeBelow}
use Rattle.cxx_model.specs.Types.Proper.{IsProper, AreTypesProper}
use Rattle.cxx_model.specs.Types.Trees.{CxxType}
use Rattle.cxx_library_tests.specs.Free.{IsFree}
use Rattle.cxx_types.specs.Trees.{trees_at, AreTreesBelow}
use Rattle.cxx_types.proofs.Rows.{below-function, function-at}
use Rattle.cxx_library_tests.proofs.types.function.Goals as goal

pub returns : goal.returns
returns c =
    let free : IsFree c.args.parameter = c.requires in
    let made = c.in_ok-signature.ensures.ok in
    let all : c.push.new.self.items ≡ c.args.parameter ∷ [] = c.in_ok-push.ensures.items ∙ ap (λ (ts : List TypeTree). ts ++ c.args.parameter ∷ []) c.new-parameters.ensures.items in
    record {
      below = λ count.
          below-function count c.in_ok-signature.signature
          (subst (λ (x : Signature). IsTreeBelow count x.result) (sym made) tt)
          (subst (λ (x : Signature). AreTreesBelow count x.parameters.items) (sym made) (subst (λ (ts : List TypeTree). AreTreesBelow count ts) (sym all) (free.below count, tt)));
      proper = λ types.
          subst (λ (t : CxxType). IsProper t) (sym (function-at types c.in_ok-signature.signature))
          (subst (λ (x : Signature). IsProper (tree_at types x.result) × AreTypesProper (trees_at types x.parameters.items)) (sym made) (tt, subst (λ (ts : List TypeTree). AreTypesProper (trees_at types ts)) (sym all) (free.proper types, tt)));
    }
