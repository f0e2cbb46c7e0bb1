-- Lists of parts that grow.
use Rattle.std.proofs.Common.{◌≡◌, ℕ, true, false, List, [], ◌∷◌, ◌++◌, length, map, refl, ap, sym, ◌∙◌, subst}
use Rattle.std.proofs.lemmas.List.{map-append}
use Rattle.cxx_model.specs.Types.Trees.{CxxType}
use Rattle.cxx_model.specs.Types.Numbers.{arguments_at}
use Rattle.cxx_model.specs.declared.types.Argument.{Argument}
use Rattle.cxx_model.specs.declared.types.Argument.TheVariants as argument
use Rattle.cxx_meaning.specs.Lookups.Associated.{Part as PartMeant, holds_part, types_among, with_part, with_parts}
use Rattle.cxx_adl.specs.declared.parts.Part.{Part}
use Rattle.cxx_adl.specs.Views.{ArePartsBelow, Becomes, IsPartBelow, part_at}

pub below_push : (count : ℕ) (parts : List Part) (part : Part) → ArePartsBelow count parts → IsPartBelow count part → ArePartsBelow count (parts ++ part ∷ [])
below_push count [] part all one = (one, tt)
below_push count (other ∷ others) part all one = (all.0, below_push count others part all.1 one)

-- the part is there
pub becomes_same : (types : List CxxType) (parts : List Part) (part : Part) → holds_part (map (part_at types) parts) (part_at types part) ≡ true → Becomes types parts parts (with_part (map (part_at types) parts) (part_at types part))
becomes_same types parts part e = record { is = rw e refl; below = λ all. all }

-- the part is not there
pub becomes_more : (types : List CxxType) (old new : List Part) (part : Part) → holds_part (map (part_at types) old) (part_at types part) ≡ false → new ≡ old ++ part ∷ [] → IsPartBelow (length types) part → Becomes types old new (with_part (map (part_at types) old) (part_at types part))
becomes_more types old new part e grown below = record {
  is = rw e (ap (map (part_at types)) grown ∙ map-append (part_at types) old (part ∷ []));
  below = λ all. subst (ArePartsBelow (length types)) (sym grown) (below_push (length types) old part all below);
}

-- nothing is added
pub becomes_none : (types : List CxxType) (parts : List Part) → Becomes types parts parts (with_parts (map (part_at types) parts) [])
unfolding with_parts
becomes_none types parts = record { is = refl; below = λ all. all }

-- an argument more was added
pub argument_more : (types : List CxxType) (parts : List PartMeant) (one : Argument) (others : List Argument) → with_parts (with_parts parts (types_among (arguments_at types (one ∷ [])))) (types_among (arguments_at types others)) ≡ with_parts parts (types_among (arguments_at types (one ∷ others)))
unfolding with_parts
argument_more types parts (argument.OfType of) others = refl
argument_more types parts (argument.Value value of) others = refl
argument_more types parts (argument.Computed f) others = refl

pub with_both : (parts ones twos : List PartMeant) → with_parts (with_parts parts ones) twos ≡ with_parts parts (ones ++ twos)
unfolding with_parts
with_both parts [] twos = refl
with_both parts (one ∷ ones) twos = with_both (with_part parts one) ones twos

pub becomes_both : (types : List CxxType) (old middle new : List Part) (ones twos : List PartMeant) → Becomes types old middle (with_parts (map (part_at types) old) ones) → Becomes types middle new (with_parts (map (part_at types) middle) twos) → Becomes types old new (with_parts (map (part_at types) old) (ones ++ twos))
becomes_both types old middle new ones twos one two = record {
  is = two.is ∙ (ap (λ xs. with_parts xs twos) one.is ∙ with_both (map (part_at types) old) ones twos);
  below = λ all. two.below (one.below all);
}
