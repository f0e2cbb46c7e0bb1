-- What the types of arguments find where there are no templates (3.4.2).
use Rattle.std.specs.Prelude.{ℕ, ◌≡◌, ◌+◌, Bool, true, false, ◌||◌, nat_eq, nat_lt, List, [], ◌∷◌, ◌++◌, length, map, find, Option, Some, None, Ok, refl}
use Rattle.std.proofs.Common.{ap, sym, subst, ◌∙◌, cond, append-nil, append_assoc}
use Rattle.std.proofs.lemmas.Bool.{eqb-true}
use Rattle.std.specs.List.{slice_get}
use Rattle.cxx_model.specs.declared.facts.Entity.{Entity}
use Rattle.cxx_model.specs.declared.facts.Entity.TheVariants as entity
use Rattle.cxx_model.specs.declared.facts.Fact.{Fact}
use Rattle.cxx_model.specs.declared.lookup.Associated.{Associated}
use Rattle.cxx_model.specs.declared.types.FactId.{FactId}
use Rattle.cxx_model.specs.declared.types.ScopeId.{ScopeId}
use Rattle.cxx_model.specs.declared.types.TypeId.{TypeId}
use Rattle.cxx_model.specs.Facts.Declarations.{CxxGraph, CxxName, CxxSpecialisation, Declares, declares_at, fact_at, facts_at, graph_at}
use Rattle.cxx_model.specs.Facts.Graph.{Graph}
use Rattle.cxx_model.specs.Facts.Pending.{is_pending}
use Rattle.cxx_model.specs.Types.Trees.{CxxType, fundamental, class_type, enumeration, pointer_to, reference_to, array_of, function_of, qualified, type_parameter, specialisation, nested_in}
use Rattle.cxx_meaning.specs.Lookups.Associated.{Part, adl, associated, class_at_scope, class_of, collected, declares_template, first_scope, functions_among, member_scope_of, of_base, of_type, own_classes, parts, scope_of_pattern, scope_of_template, sets_of, space_at_scope, space_id, spaces_of, standing_in_each, template_scope_of, unless_pending, with_member_classes, with_number, with_option, with_spaces}
use Rattle.cxx_meaning.specs.Lookups.Scopes.{home}
use Rattle.cxx_meaning.specs.Lookups.Sightings.{entities, standing}
use Rattle.cxx_meaning.specs.Lookups.Wanted.{Wanted, any_name}
use Rattle.cxx_members.specs.declared.sightings.Sighting.{Sighting as OneSeen}
use Rattle.cxx_members.specs.Sighted.{Adds, sighting_at}
use Rattle.cxx_names.specs.Plain.{ArePlain, IsPlainFact}
use Rattle.cxx_reading.specs.Linked.{home_of}
use Rattle.cxx_found.specs.Associated.{AreFoundBy, any_pending, enumeration_scope_of, found_in_sets, friends_in, given, is_pending_by, with_enumeration_classes}
use Rattle.cxx_found.proofs.Friends.{befriended_are}

-- ---- no templates

no_template : (types : List CxxType) (n : ℕ) (what : Entity) → IsPlainFact what → declares_template n (declares_at types what) ≡ false
no_template types n (entity.Template template member defaults is_explicit first) bad = absurd bad
no_template types n _ is = refl

first_none : (test : Declares → Bool) (types : List CxxType) (facts : List Fact) → ((what : Entity) → IsPlainFact what → test (declares_at types what) ≡ false) → ArePlain facts → first_scope test (facts_at types facts) ≡ None
first_none test types [] never plain = refl
first_none test types (fact ∷ facts) never plain =
    ap (λ b. cond b (Some (record { 0 = (fact_at types fact).scope })) (first_scope test (facts_at types facts))) (never fact.what plain.0)
    ∙ first_none test types facts never plain.1

no_template_scope : (types : List CxxType) (graph : Graph) (n : ℕ) → ArePlain graph.facts → scope_of_template (graph_at types graph) n ≡ None
no_template_scope types graph n plain = first_none (declares_template n) types graph.facts (no_template types n) plain

-- ---- whether a class has to be complete first

abbrev is_there : Option ℕ → Bool
is_there None = false
is_there (Some n) = true

module _ (test : ℕ → Bool) where
  abbrev any_in : List ℕ → Bool
  any_in xs = is_there (find test xs)

  abbrev tested : Option ℕ → Bool
  tested None = false
  tested (Some n) = test n

  -- a number in front
  before_any : (t : Bool) (n : ℕ) (xs : List ℕ) → is_there (cond t (Some n) (find test xs)) ≡ (t || any_in xs)
  before_any true n xs = refl
  before_any false n xs = refl

  behind_any : (t s : Bool) (x : ℕ) (o p : Option ℕ) → is_there o ≡ (s || is_there p) → is_there (cond t (Some x) o) ≡ (s || is_there (cond t (Some x) p))
  behind_any true true x o p e = refl
  behind_any true false x o p e = refl
  behind_any false s x o p e = e

  -- the same number
  same_any : (t : Bool) (x : ℕ) (o : Option ℕ) → is_there (cond t (Some x) o) ≡ (t || is_there (cond t (Some x) o))
  same_any true x o = refl
  same_any false x o = refl

  number_any : (n : ℕ) (xs : List ℕ) → any_in (with_number n xs) ≡ (test n || any_in xs)
  number_any n [] = before_any (test n) n []
  number_any n (x ∷ xs) = by (nat_lt x n) (nat_eq x n) refl (number_any n xs)
    where
      by : (less same : Bool) → nat_eq x n ≡ same → any_in (with_number n xs) ≡ (test n || any_in xs) → any_in (cond less (x ∷ with_number n xs) (cond same (x ∷ xs) (n ∷ x ∷ xs))) ≡ (test n || any_in (x ∷ xs))
      by true same e rest = behind_any (test x) (test n) x (find test (with_number n xs)) (find test xs) rest
      by false true e rest = ap (λ m. any_in (m ∷ xs)) (eqb-true x n e) ∙ (same_any (test n) n (find test xs) ∙ ap (λ m. test n || any_in (m ∷ xs)) (sym (eqb-true x n e)))
      by false false e rest = before_any (test n) n (x ∷ xs)

  option_any : (o : Option ℕ) (xs : List ℕ) → any_in (with_option o xs) ≡ (tested o || any_in xs)
  option_any None xs = refl
  option_any (Some n) xs = number_any n xs

module _ (graph : CxxGraph) where
  swapped : (a b c : Bool) → ((a || b) || c) ≡ (b || (a || c))
  swapped true true c = refl
  swapped true false c = refl
  swapped false b c = refl

  pending_by : (o : Option ℕ) → tested (is_pending graph) o ≡ is_pending_by graph o
  pending_by None = refl
  pending_by (Some n) = refl

  collected_any : (found : List ℕ) (all : List Part) → any_in (is_pending graph) (collected class_of found all) ≡ (any_in (is_pending graph) found || any_pending graph all)
  unfolding collected
  collected_any found [] = by (any_in (is_pending graph) found)
    where
      by : (t : Bool) → t ≡ (t || false)
      by true = refl
      by false = refl
  collected_any found (part ∷ all) =
      collected_any (with_option (class_of part) found) all
      ∙ ap (λ t. t || any_pending graph all) (option_any (is_pending graph) (class_of part) found ∙ ap (λ t. t || any_in (is_pending graph) found) (pending_by (class_of part)))
      ∙ swapped (is_pending_by graph (class_of part)) (any_in (is_pending graph) found) (any_pending graph all)

  own_any : (all : List Part) → any_in (is_pending graph) (own_classes all) ≡ any_pending graph all
  own_any all = collected_any [] all

  none_there : (o : Option ℕ) → is_there o ≡ false → o ≡ None
  none_there None e = refl
  none_there (Some n) e = absurd cc

  -- none has
  associated_by : (ts : List CxxType) → any_pending graph (parts graph ts) ≡ false → associated graph ts ≡ Ok (sets_of graph (parts graph ts))
  unfolding associated
  associated_by ts e = ap (λ o. unless_pending o (sets_of graph (parts graph ts))) (none_there (find (is_pending graph) (own_classes (parts graph ts))) (own_any (parts graph ts) ∙ e))

  needed_first : (name : CxxName) (o : Option ℕ) (sets : Associated) → is_there o ≡ true → found_in_sets graph name (unless_pending o sets) ≡ []
  needed_first name None sets e = absurd cc
  needed_first name (Some n) sets e = refl

  -- one has
  pub found_pending : (ts : List CxxType) (name : CxxName) → any_pending graph (parts graph ts) ≡ true → AreFoundBy graph ts name []
  unfolding associated
  found_pending ts name e = sym (needed_first name (find (is_pending graph) (own_classes (parts graph ts))) (sets_of graph (parts graph ts)) (own_any (parts graph ts) ∙ e))

-- ---- namespaces

no_pattern_scope : (graph : CxxGraph) (o : Option (Option CxxSpecialisation)) → ((n : ℕ) → scope_of_template graph n ≡ None) → scope_of_pattern graph o ≡ None
no_pattern_scope graph None none = refl
no_pattern_scope graph (Some None) none = refl
no_pattern_scope graph (Some (Some of)) none = none of.template

no_part_scope : (graph : CxxGraph) (part : Part) → ((n : ℕ) → scope_of_template graph n ≡ None) → template_scope_of graph part ≡ None
no_part_scope graph (of_base n) none = no_pattern_scope graph (slice_get graph.classes n) none
no_part_scope graph (of_type (class_type n)) none = no_pattern_scope graph (slice_get graph.classes n) none
no_part_scope graph (of_type (specialisation n _)) none = none n
no_part_scope graph (of_type (fundamental base)) none = refl
no_part_scope graph (of_type (enumeration n)) none = refl
no_part_scope graph (of_type (pointer_to t)) none = refl
no_part_scope graph (of_type (reference_to t)) none = refl
no_part_scope graph (of_type (array_of t bound)) none = refl
no_part_scope graph (of_type (function_of r ts ellipsis cv)) none = refl
no_part_scope graph (of_type (qualified cv t)) none = refl
no_part_scope graph (of_type (type_parameter depth index)) none = refl
no_part_scope graph (of_type (nested_in t word)) none = refl

collected_none : (give : Part → Option ℕ) (found : List ℕ) (all : List Part) → ((part : Part) → give part ≡ None) → collected give found all ≡ found
unfolding collected
collected_none give found [] none = refl
collected_none give found (part ∷ all) none = ap (λ o. collected give (with_option o found) all) (none part) ∙ collected_none give found all none

pub spaces_are : (types : List CxxType) (graph : Graph) (all : List Part) → ArePlain graph.facts → with_spaces (graph_at types graph) all [] ≡ spaces_of (graph_at types graph) all
spaces_are types graph all plain =
    let g : CxxGraph = graph_at types graph in
    sym (collected_none (λ part. space_at_scope g (template_scope_of g part)) (with_spaces g all []) all (λ part. ap (space_at_scope g) (no_part_scope g part (λ n. no_template_scope types graph n plain))))

pub space_is : (graph : CxxGraph) (scope : ScopeId) → home_of graph scope.0 ≡ (home graph.facts scope).0
unfolding home_of
space_is graph scope = refl

-- ---- declarations in namespaces

pub each_more : (types : List CxxType) (graph : CxxGraph) (cut : ℕ) (wanted : Wanted) (name : CxxName) (old new : List OneSeen) (space : ℕ) (others : List ℕ) → wanted ≡ any_name → Adds types old new (standing graph cut wanted name (space_id space)) → map (sighting_at types) old ++ standing_in_each graph cut name (space ∷ others) ≡ map (sighting_at types) new ++ standing_in_each graph cut name others
unfolding standing_in_each
each_more types graph cut wanted name old new space others is adds =
    ap (λ w. map (sighting_at types) old ++ (standing graph cut w name (space_id space) ++ standing_in_each graph cut name others)) (sym is)
    ∙ sym (append_assoc (map (sighting_at types) old) (standing graph cut wanted name (space_id space)) (standing_in_each graph cut name others))
    ∙ ap (λ xs. xs ++ standing_in_each graph cut name others) (sym adds.seen)

-- ---- what is found

collected_same : (give other : Part → Option ℕ) (found : List ℕ) (all : List Part) → ((part : Part) → give part ≡ other part) → collected give found all ≡ collected other found all
unfolding collected
collected_same give other found [] same = refl
collected_same give other found (part ∷ all) same = ap (λ o. collected give (with_option o found) all) (same part) ∙ collected_same give other (with_option (other part) found) all same

enumerations_alone : (graph : CxxGraph) (part : Part) → ((n : ℕ) → scope_of_template graph n ≡ None) → enumeration_scope_of graph part ≡ member_scope_of graph part
enumerations_alone graph (of_base n) none = refl
enumerations_alone graph (of_type (class_type n)) none = sym (no_pattern_scope graph (slice_get graph.classes n) none)
enumerations_alone graph (of_type (specialisation n _)) none = sym (none n)
enumerations_alone graph (of_type (fundamental base)) none = refl
enumerations_alone graph (of_type (enumeration n)) none = refl
enumerations_alone graph (of_type (pointer_to t)) none = refl
enumerations_alone graph (of_type (reference_to t)) none = refl
enumerations_alone graph (of_type (array_of t bound)) none = refl
enumerations_alone graph (of_type (function_of r ts ellipsis cv)) none = refl
enumerations_alone graph (of_type (qualified cv t)) none = refl
enumerations_alone graph (of_type (type_parameter depth index)) none = refl
enumerations_alone graph (of_type (nested_in t word)) none = refl

members_are : (types : List CxxType) (graph : Graph) (all : List Part) (found : List ℕ) → ArePlain graph.facts → with_enumeration_classes (graph_at types graph) all found ≡ with_member_classes (graph_at types graph) all found
members_are types graph all found plain =
    let g : CxxGraph = graph_at types graph in
    collected_same (λ part. class_at_scope g (enumeration_scope_of g part)) (λ part. class_at_scope g (member_scope_of g part)) found all (λ part. ap (class_at_scope g) (enumerations_alone g part (λ n. no_template_scope types graph n plain)))

pub found_are : (types : List CxxType) (graph : Graph) (ts : List CxxType) (name : CxxName) (spaces classes : List ℕ) (found : List FactId) → ArePlain graph.facts → any_pending (graph_at types graph) (parts (graph_at types graph) ts) ≡ false → spaces ≡ spaces_of (graph_at types graph) (parts (graph_at types graph) ts) → classes ≡ with_enumeration_classes (graph_at types graph) (parts (graph_at types graph) ts) (own_classes (parts (graph_at types graph) ts))
    → found ≡ entities (functions_among (graph_at types graph) (standing_in_each (graph_at types graph) (length (facts_at types graph.facts)) name spaces ++ friends_in (graph_at types graph) name graph.facts classes)) → AreFoundBy (graph_at types graph) ts name found
unfolding adl
found_are types graph ts name spaces classes found plain ready are those is =
    let g : CxxGraph = graph_at types graph in
    let sets : Associated = sets_of g (parts g ts) in
    let cut : ℕ = length (facts_at types graph.facts) in
    is
    ∙ ap (λ ss. entities (functions_among g (standing_in_each g cut name ss ++ friends_in g name graph.facts classes))) are
    ∙ ap (λ cs. entities (functions_among g (standing_in_each g cut name sets.spaces ++ friends_in g name graph.facts cs))) (those ∙ members_are types graph (parts g ts) (own_classes (parts g ts)) plain)
    ∙ befriended_are g name types graph.facts sets.classes (standing_in_each g cut name sets.spaces)
    ∙ sym (ap (found_in_sets g name) (associated_by g ts ready))

-- the same, where it is seen otherwise
pub found_as : (g g' : CxxGraph) (types types' : List CxxType) (name name' : CxxName) (numbers : List TypeId) (found : List FactId) → g ≡ g' → types ≡ types' → name ≡ name' → AreFoundBy g (given types numbers) name found → AreFoundBy g' (given types' numbers) name' found
found_as g g' types types' name name' numbers found same_graph same_types same_name are =
    subst (λ (n : CxxName). AreFoundBy g' (given types' numbers) n found) same_name
    (subst (λ (ts : List CxxType). AreFoundBy g' (given ts numbers) name found) same_types
    (subst (λ (x : CxxGraph). AreFoundBy x (given types numbers) name found) same_graph are))
