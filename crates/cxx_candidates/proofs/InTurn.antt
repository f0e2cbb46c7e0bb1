-- Kinds that were added in turn.
use Rattle.std.specs.Prelude.{◌≡◌, List, [], ◌∷◌, ◌++◌, refl}
use Rattle.std.proofs.Common.{ap, sym, ◌∙◌}
use Rattle.std.specs.List.{fold}
use Rattle.cxx_model.specs.Types.Trees.{CxxType}
use Rattle.cxx_builtin.specs.Built.{list_at}
use Rattle.cxx_meaning.specs.Conversions.Kinds.{CxxKind}
use Rattle.cxx_candidates.specs.declared.letters.Found.{Found}
use Rattle.cxx_candidates.specs.Shapes.{numbers_at, AreAdded}
use Rattle.cxx_candidates.specs.Sources.{with_enumeration, with_pointee}

fold_append : {A B : Type 0} (f : B → A → B) (b : B) (xs ys : List A) → fold f b (xs ++ ys) ≡ fold f (fold f b xs) ys
fold_append f b [] ys = refl
fold_append f b (x ∷ xs) ys = fold_append f (f b x) xs ys

pub then_added : (types : List CxxType) (old mid new : Found) (first second : List CxxKind) → AreAdded types old mid first → AreAdded types mid new second → AreAdded types old new (first ++ second)
then_added types old mid new first second one two = record {
  pointees = two.pointees ∙ ap (λ ts. fold with_pointee ts second) one.pointees ∙ sym (fold_append with_pointee (list_at types old.pointees.items) first second);
  enumerations = two.enumerations ∙ ap (λ ns. fold with_enumeration ns second) one.enumerations ∙ sym (fold_append with_enumeration (numbers_at old.enumerations.items) first second);
}
