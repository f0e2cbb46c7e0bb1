-- How the steps that make types follow one another.
use Rattle.std.specs.Prelude.{ℕ, ◌≡◌, ◌<◌, List, [], ◌∷◌, ◌++◌, length, Result, Ok, Err, IsErr, refl}
use Rattle.std.proofs.Common.{ap, sym, subst, ◌∙◌}
use Rattle.cxx_model.specs.declared.memory.OutOfMemory.{OutOfMemory}
use Rattle.cxx_model.specs.declared.types.TypeId.{TypeId}
use Rattle.cxx_model.specs.Facts.Graph.{Graph, IsTypeInRange, AreTypesInRange}
use Rattle.cxx_model.specs.Types.Trees.{CxxType, CxxTypes, no_types, type_then}
use Rattle.cxx_model.specs.Types.Numbers.{type_at, types_at, AreTypesBelow, Keeps}
use Rattle.cxx_model.proofs.TypeTrees.{types_kept, types_later, Keeps-refl, Keeps-trans}
use Rattle.cxx_types.specs.Makes.{AreInRange, FitsEach, Makes, MakesEach}

-- a number that is there
pub makes_here : (types : List CxxType) (number : TypeId) → number.0 < length types → Makes types types (Ok number) (type_at types number.0)
makes_here types number known = record { keeps = Keeps-refl types; made = (known, refl); fits = λ graph old t. old }

-- the same type, said otherwise
pub makes_same : (old new : List CxxType) (result : Result TypeId OutOfMemory) (t u : CxxType) → t ≡ u → Makes old new result t → Makes old new result u
makes_same old new result t u same makes = let P : CxxType → Type 0 = λ x. Makes old new result x in subst P same makes

-- what is made first names nothing that is not in the whole
pub makes_then : (old mid new : List CxxType) (first result : Result TypeId OutOfMemory) (t u : CxxType) → Makes old mid first t → Makes mid new result u → ((graph : Graph) → AreInRange graph old → IsTypeInRange graph u → IsTypeInRange graph t) → Makes old new result u
makes_then old mid new first result t u one two part = record {
  keeps = Keeps-trans old mid new one.keeps two.keeps;
  made = two.made;
  fits = λ graph all whole. two.fits graph (one.fits graph all (part graph all whole)) whole;
}

-- the first step was refused memory
pub makes_stopped : (old new : List CxxType) (first result : Result TypeId OutOfMemory) (t u : CxxType) → IsErr result → Makes old new first t → ((graph : Graph) → AreInRange graph old → IsTypeInRange graph u → IsTypeInRange graph t) → Makes old new result u
makes_stopped old new first (Ok number) t u stopped one part = absurd (cc)
makes_stopped old new first (Err fault) t u stopped one part = record { keeps = one.keeps; made = tt; fits = λ graph all whole. one.fits graph all (part graph all whole) }

-- ---- several types

-- The numbers are of some types, and what came into the table names no more than all of them.
pub record AreMadeSoFar (old now : List CxxType) (numbers : List TypeId) (some all : CxxTypes) : Type 0 where
  pub keeps : Keeps old now
  pub below : AreTypesBelow (length now) numbers
  pub is : types_at now numbers ≡ some
  pub fits : FitsEach old now all

-- one more at the end
abbrev pub with_last : CxxTypes → CxxType → CxxTypes
with_last no_types t = type_then t no_types
with_last (type_then u us) t = type_then u (with_last us t)

pub types_at-last : (types : List CxxType) (numbers : List TypeId) (n : TypeId) → types_at types (numbers ++ n ∷ []) ≡ with_last (types_at types numbers) (type_at types n.0)
types_at-last types [] n = refl
types_at-last types (m ∷ ms) n = ap (type_then (type_at types m.0)) (types_at-last types ms n)

below-last : (count : ℕ) (numbers : List TypeId) (n : TypeId) → AreTypesBelow count numbers → n.0 < count → AreTypesBelow count (numbers ++ n ∷ [])
below-last count [] n ok within = (within, tt)
below-last count (m ∷ ms) n ok within = (ok.0, below-last count ms n ok.1 within)

pub one_more_made : (old now new : List CxxType) (numbers all_numbers : List TypeId) (n : TypeId) (t : CxxType) (some more all : CxxTypes) → AreMadeSoFar old now numbers some all → Makes now new (Ok n) t → all_numbers ≡ numbers ++ n ∷ [] → more ≡ with_last some t → ((graph : Graph) → AreInRange graph old → AreTypesInRange graph all → IsTypeInRange graph t) → AreMadeSoFar old new all_numbers more all
one_more_made old now new numbers all_numbers n t some more all so makes are is part =
    let kept : Keeps now new = makes.keeps in
    let before : types_at new numbers ≡ some = types_kept now new numbers kept so.below ∙ so.is in
    let P : List TypeId → Type 0 = λ ns. AreMadeSoFar old new ns more all in
    let made : P (numbers ++ n ∷ []) = record {
      keeps = Keeps-trans old now new so.keeps kept;
      below = below-last (length new) numbers n (types_later (length now) (length new) numbers kept.grows so.below) makes.made.0;
      is = types_at-last new numbers n ∙ ap (λ ts. with_last ts (type_at new n.0)) before ∙ ap (with_last some) makes.made.1 ∙ sym is;
      fits = λ graph whole each. makes.fits graph (so.fits graph whole each) (part graph whole each);
    } in
    subst P (sym are) made

pub each_stopped : (old now new : List CxxType) (numbers : List TypeId) (some all : CxxTypes) (step : Result TypeId OutOfMemory) (result : Result (List TypeId) OutOfMemory) (t : CxxType) → AreMadeSoFar old now numbers some all → Makes now new step t → ((graph : Graph) → AreInRange graph old → AreTypesInRange graph all → IsTypeInRange graph t) → IsErr result → MakesEach old new result all
each_stopped old now new numbers some all step (Ok made) t so makes part stopped = absurd (cc)
each_stopped old now new numbers some all step (Err fault) t so makes part stopped = record {
  keeps = Keeps-trans old now new so.keeps makes.keeps;
  made = tt;
  fits = λ graph whole each. makes.fits graph (so.fits graph whole each) (part graph whole each);
}
