-- Parts that are followed, one after another.
use Rattle.std.proofs.Common.{◌≡◌, ℕ, zero, suc, ◌+◌, ◌-◌, ◌<◌, ◌≤◌, List, [], ◌∷◌, Some, None, length, map, get_or, refl, ap, sym, ◌∙◌, subst, inl, inr, arith}
use Rattle.std.specs.List.{slice_get}
use Rattle.cxx_model.specs.declared.types.TypeId.{TypeId}
use Rattle.cxx_model.specs.Types.Trees.{CxxType}
use Rattle.cxx_model.specs.Types.Numbers.{type_at, types_at}
use Rattle.cxx_model.specs.Facts.Declarations.{CxxGraph}
use Rattle.cxx_meaning.specs.Lookups.Associated.{Part as PartMeant, of_type, each_of, everything, followed, leads_to, parts, with_parts}
use Rattle.cxx_adl.specs.declared.parts.Part.{Part}
use Rattle.cxx_adl.specs.Views.{ArePartsBelow, Becomes, IsPartBelow, given, part_at}
use Rattle.cxx_adl.proofs.Following.{Going, In, going_first, going_on, going_room}

-- one more turn
turn_more : (next : PartMeant → List PartMeant) (all place : ℕ) (found : List PartMeant) (part : PartMeant) → place < all → slice_get found place ≡ Some part → followed next (all - place) place found ≡ followed next (all - (place + 1)) (place + 1) (with_parts found (next part))
unfolding followed
turn_more next all place found part lt at =
    let k : all - place ≡ suc (all - (place + 1)) = omega arith in
    rw (k, at) refl

-- nothing is left
turn_over : (next : PartMeant → List PartMeant) (room place : ℕ) (found : List PartMeant) → slice_get found place ≡ None → followed next room place found ≡ found
unfolding followed
turn_over next zero place found at = refl
turn_over next (suc room) place found at = rw at refl

past : {A : Type 0} (xs : List A) (n : ℕ) → length xs ≤ n → slice_get xs n ≡ None
past [] n le = refl
past (x ∷ xs) zero le = absurd (omega arith)
past (x ∷ xs) (suc n) le = past xs n (omega arith)

here : {A B : Type 0} (f : A → B) (xs : List A) (n : ℕ) (d : A) → n < length xs → slice_get (map f xs) n ≡ Some (f (get_or xs n d))
here f [] n d lt = absurd (omega arith)
here f (x ∷ xs) zero d lt = refl
here f (x ∷ xs) (suc n) d lt = here f xs n d (omega arith)

in_at : (xs : List PartMeant) (n : ℕ) (x : PartMeant) → slice_get xs n ≡ Some x → In x xs
in_at [] n x e = absurd cc
in_at (y ∷ ys) zero x e = let same : x ≡ y = cc in inl same
in_at (y ∷ ys) (suc n) x e = inr (in_at ys n x e)

map_length : {A B : Type 0} (f : A → B) (xs : List A) → length (map f xs) ≡ length xs
map_length f [] = refl
map_length f (x ∷ xs) = ap suc (map_length f xs)

pub below_at : (count : ℕ) (parts : List Part) (n : ℕ) (part : Part) → ArePartsBelow count parts → n < length parts → part ≡ get_or parts n part → IsPartBelow count part
below_at count parts n part below lt e = subst (IsPartBelow count) (sym e) (by parts n below lt)
  where
    by : (parts : List Part) (n : ℕ) → ArePartsBelow count parts → n < length parts → IsPartBelow count (get_or parts n part)
    by [] n below lt = absurd (omega arith)
    by (x ∷ xs) zero below lt = below.0
    by (x ∷ xs) (suc n) below lt = by xs n below.1 (omega arith)

each_given : (types : List CxxType) (numbers : List TypeId) → each_of (types_at types numbers) ≡ map of_type (given types numbers)
each_given types [] = refl
each_given types (n ∷ others) = ap (λ xs. of_type (type_at types n.0) ∷ xs) (each_given types others)

-- The parts before a place were followed.
pub record IsUnderWay (graph : CxxGraph) (types : List CxxType) (numbers : List TypeId) (place : ℕ) (found : List Part) : Type 0 where
  pub rest : followed (leads_to graph) (length (everything graph (given types numbers)) - place) place (map (part_at types) found) ≡ parts graph (given types numbers)
  pub below : ArePartsBelow (length types) found
  pub going : Going graph (given types numbers) (map (part_at types) found)

pub way_begins : (graph : CxxGraph) (types : List CxxType) (numbers : List TypeId) (found : List Part) → Becomes types [] found (with_parts [] (each_of (types_at types numbers))) → IsUnderWay graph types numbers 0 found
unfolding parts
way_begins graph types numbers found becomes =
    let is = becomes.is ∙ ap (with_parts []) (each_given types numbers) in
    let all = length (everything graph (given types numbers)) in
    let none : all - 0 ≡ all = omega arith in
    record {
      rest = ap (λ room. followed (leads_to graph) room 0 (map (part_at types) found)) none ∙ ap (followed (leads_to graph) all 0) is;
      below = becomes.below tt;
      going = subst (Going graph (given types numbers)) (sym is) (going_first graph (given types numbers));
    }

way_within : (graph : CxxGraph) (types : List CxxType) (numbers : List TypeId) (place : ℕ) (found : List Part) → IsUnderWay graph types numbers place found → place < length found → place < length (everything graph (given types numbers))
way_within graph types numbers place found way lt =
    let room = going_room graph (given types numbers) (map (part_at types) found) way.going in
    let same = map_length (part_at types) found in
    omega arith

pub way_shortens : (graph : CxxGraph) (types : List CxxType) (numbers : List TypeId) (place : ℕ) (found : List Part) → IsUnderWay graph types numbers place found → place < length found → length (everything graph (given types numbers)) - (place + 1) < length (everything graph (given types numbers)) - place
way_shortens graph types numbers place found way lt =
    let within = way_within graph types numbers place found way lt in
    omega arith

pub way_goes_on : (graph : CxxGraph) (types : List CxxType) (numbers : List TypeId) (place : ℕ) (old new : List Part) (part : Part) → IsUnderWay graph types numbers place old → place < length old → part ≡ get_or old place part → Becomes types old new (with_parts (map (part_at types) old) (leads_to graph (part_at types part))) → IsUnderWay graph types numbers (place + 1) new
way_goes_on graph types numbers place old new part way lt e becomes =
    let within = way_within graph types numbers place old way lt in
    let all = length (everything graph (given types numbers)) in
    let at : slice_get (map (part_at types) old) place ≡ Some (part_at types part) = here (part_at types) old place part lt ∙ ap (λ p. Some (part_at types p)) (sym e) in
    record {
      rest = ap (followed (leads_to graph) (all - (place + 1)) (place + 1)) becomes.is ∙ (sym (turn_more (leads_to graph) all place (map (part_at types) old) (part_at types part) within at) ∙ way.rest);
      below = becomes.below way.below;
      going = subst (Going graph (given types numbers)) (sym becomes.is) (going_on graph (given types numbers) (map (part_at types) old) (part_at types part) way.going (in_at (map (part_at types) old) place (part_at types part) at));
    }

pub way_ends : (graph : CxxGraph) (types : List CxxType) (numbers : List TypeId) (place : ℕ) (found : List Part) → IsUnderWay graph types numbers place found → length found ≤ place → map (part_at types) found ≡ parts graph (given types numbers)
way_ends graph types numbers place found way le =
    let same = map_length (part_at types) found in
    sym (turn_over (leads_to graph) (length (everything graph (given types numbers)) - place) place (map (part_at types) found) (past (map (part_at types) found) place (omega arith))) ∙ way.rest
