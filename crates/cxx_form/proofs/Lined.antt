-- The lines of a plain form, one declaration after another.
use Rattle.std.proofs.Common.{◌≡◌, Bool, true, false, ℕ, suc, ◌+◌, ◌-◌, ◌<◌, ◌≤◌, arith, List, [], ◌∷◌, ◌++◌, length, drop, get_or, map, Option, Some, None, option_map, refl, ap, sym, subst, ◌∙◌, append-nil, append_assoc, add-one}
use Rattle.std.specs.Prelude.{flat_map, if◌then◌else◌}
use Rattle.std.specs.List.{slice_get}
use Rattle.std.proofs.lemmas.List.{at_drop_more, at_drop_all, map-append}
use Rattle.cxx_model.specs.declared.facts.Access.{Access}
use Rattle.cxx_model.specs.declared.facts.Fact.{Fact}
use Rattle.cxx_model.specs.declared.facts.MemberKind.TheVariants.{Free, Nonstatic, Static, Constructor, Destructor, Conversion}
use Rattle.cxx_model.specs.declared.place.Place.{Place}
use Rattle.cxx_model.specs.declared.types.FactId.{FactId}
use Rattle.cxx_model.specs.declared.types.TreeId.{TreeId}
use Rattle.cxx_model.specs.Types.Trees.{CxxType}
use Rattle.cxx_model.specs.Facts.Declarations as facts
use Rattle.cxx_model.specs.Facts.Declarations.{CxxFact, CxxName, Declares, declares_at, fact_at, facts_at}
use Rattle.cxx_meaning.specs.Lookups.Gathered.{before, gathered}
use Rattle.cxx_form.specs.Order as text
use Rattle.cxx_reading.specs.TextOrder.{part_tree}
use Rattle.cxx_statement_text.specs.Objects.{first_by, first_found, first_in, first_of_fact}
use Rattle.cxx_form.specs.Order.{class_definitions, definition_of_class, ended_class, declarators_of, definitions_of, enumeration_of, enumeration_lines, function_of_fact, function_lines, lines, is_outside_by, is_outside_in, is_written_out, object_at, object_by, object_lines, object_of_fact, scope_of_fact}
use Rattle.cxx_reading.specs.Trees.{CxxTree}
use Rattle.cxx_tree.specs.Arena.{tree_in, trees_in, AreTreesBelow}
use Rattle.cxx_tree.specs.Held.{meaning, pieces_at, trees, Held}
use Rattle.cxx_tree.proofs.Graphs.{length_classes}
use Rattle.cxx_form.specs.declared.lines.Line.{Line}
use Rattle.cxx_form.specs.declared.lines.Line.TheVariants as line
use Rattle.cxx_form.specs.Giving.{class_definition_by, class_definition_given, declared_or, enumeration_by, enumeration_given, function_by, function_given, given_at, AreFirst}
use Rattle.cxx_form.specs.Lines.{line_at, lines_at, object_line_by, AddsLines, AreLinesBelow, IsLineBelow}
use Rattle.cxx_form.specs.Slots.{slot_at}
use Rattle.cxx_form.specs.Views.{facts_in}
use Rattle.cxx_form.proofs.Enumerated.{length_facts}
use Rattle.cxx_form.proofs.Gathering.{fact_is, given_cut}
use Rattle.cxx_form.proofs.InTrees.{child_below}

-- ---- a line that is added

lines_below : (count : ℕ) (ones twos : List Line) → AreLinesBelow count ones → AreLinesBelow count twos → AreLinesBelow count (ones ++ twos)
lines_below count [] twos first second = second
lines_below count (one ∷ ones) twos first second = (first.0, lines_below count ones twos first.1 second)

pub line_added : (trees : List CxxTree) (old new : List Line) (line : Line) → new ≡ old ++ line ∷ [] → IsLineBelow (length trees) line → AddsLines trees old new (line_at trees line ∷ [])
line_added trees old new line more within = record {
  is = ap (lines_at trees) more ∙ map-append (line_at trees) old (line ∷ []);
  below = λ all. subst (λ (xs : List Line). AreLinesBelow (length trees) xs) (sym more) (lines_below (length trees) old (line ∷ []) all (within, tt));
}

pub adds_same : (trees : List CxxTree) (old new : List Line) (one two : List text.Line) → one ≡ two → AddsLines trees old new one → AddsLines trees old new two
adds_same trees old new one two same adds = subst (λ (xs : List text.Line). AddsLines trees old new xs) same adds

pub line_given : (give : ℕ → CxxFact → Option text.Line) (types : List CxxType) (trees : List CxxTree) (all : List CxxFact) (number : ℕ) (fact : Fact) (old new : List Line) (o : Option Line) → slice_get all number ≡ Some (fact_at types fact) → option_map (line_at trees) o ≡ give number (fact_at types fact) → AddsLines trees old new (before (option_map (line_at trees) o) []) → AddsLines trees old new (given_at give number (slice_get all number))
line_given give types trees all number fact old new o is gives added =
    adds_same trees old new (before (option_map (line_at trees) o) []) (given_at give number (slice_get all number)) (ap (λ (one : Option text.Line). before one []) gives ∙ ap (λ (one : Option CxxFact). given_at give number one) (sym is)) added

-- Those of some declarations or declarators were added, from the first list of lines on.
pub record SoFar (trees : List CxxTree) (first now : List Line) (left all : List text.Line) : Type 0 where
  pub is : lines_at trees now ++ left ≡ lines_at trees first ++ all
  pub below : AreLinesBelow (length trees) first → AreLinesBelow (length trees) now

pub at_last : (trees : List CxxTree) (first now : List Line) (left all : List text.Line) → left ≡ [] → SoFar trees first now left all → AddsLines trees first now all
at_last trees first now left all none so = record {
  is = sym (append-nil (lines_at trees now)) ∙ ap (λ (xs : List text.Line). lines_at trees now ++ xs) (sym none) ∙ so.is;
  below = so.below;
}

pub goes_on : (trees : List CxxTree) (first now new : List Line) (one rest left all : List text.Line) → left ≡ one ++ rest → SoFar trees first now left all → AddsLines trees now new one → SoFar trees first new rest all
goes_on trees first now new one rest left all cut so added = record {
  is = ap (λ (xs : List text.Line). xs ++ rest) added.is ∙ append_assoc (lines_at trees now) one rest ∙ ap (λ (xs : List text.Line). lines_at trees now ++ xs) (sym cut) ∙ so.is;
  below = λ below. added.below (so.below below);
}

pub given_on : (give : ℕ → CxxFact → Option text.Line) (types : List CxxType) (trees : List CxxTree) (facts : List Fact) (number : ℕ) (first now new : List Line) (all : List text.Line) → SoFar trees first now (gathered give number (facts_at types (drop number facts))) all → AddsLines trees now new (given_at give number (slice_get (facts_at types facts) number)) → SoFar trees first new (gathered give (number + 1) (facts_at types (drop (number + 1) facts))) all
given_on give types trees facts number first now new all so added =
    goes_on trees first now new (given_at give number (slice_get (facts_at types facts) number)) (gathered give (number + 1) (facts_at types (drop (number + 1) facts))) (gathered give number (facts_at types (drop number facts))) all (given_cut give types facts number) so added

pub given_all : (give : ℕ → CxxFact → Option text.Line) (types : List CxxType) (trees : List CxxTree) (facts : List Fact) (number : ℕ) (first now : List Line) (all wanted : List text.Line) → length facts ≤ number → wanted ≡ all → SoFar trees first now (gathered give number (facts_at types (drop number facts))) all → AddsLines trees first now wanted
given_all give types trees facts number first now all wanted past same so =
    adds_same trees first now all wanted (sym same) (at_last trees first now (gathered give number (facts_at types (drop number facts))) all (at_drop_all (λ fs. gathered give number (facts_at types fs)) facts number past) so)

-- ---- the lines of objects

pub scope_there : (types : List CxxType) (facts : List Fact) (n : ℕ) (fact : Fact) → slice_get facts n ≡ Some fact → fact.scope.0 ≡ scope_of_fact (slice_get (facts_at types facts) n)
scope_there types facts n fact is = sym (ap scope_of_fact (fact_is types facts n ∙ ap (option_map (fact_at types)) is))

pub scope_nowhere : (types : List CxxType) (facts : List Fact) (n : ℕ) → slice_get facts n ≡ None → 0 ≡ scope_of_fact (slice_get (facts_at types facts) n)
scope_nowhere types facts n is = sym (ap scope_of_fact (fact_is types facts n ∙ ap (option_map (fact_at types)) is))

pub outside_there : (types : List CxxType) (facts : List Fact) (n : ℕ) (fact : Fact) → slice_get facts n ≡ Some fact → is_outside_by (declares_at types fact.what) ≡ is_outside_in (slice_get (facts_at types facts) n)
outside_there types facts n fact is = sym (ap is_outside_in (fact_is types facts n ∙ ap (option_map (fact_at types)) is))

pub outside_nowhere : (types : List CxxType) (facts : List Fact) (n : ℕ) → slice_get facts n ≡ None → false ≡ is_outside_in (slice_get (facts_at types facts) n)
outside_nowhere types facts n is = sym (ap is_outside_in (fact_is types facts n ∙ ap (option_map (fact_at types)) is))

object_read : (tree : CxxTree) (number : ℕ) (place : Place) (scope : ℕ) (name : CxxName) (rights : Access) (what : Declares) → object_of_fact tree number (Some (record { place = place; scope = scope; name = name; access = rights; what = what })) ≡ object_line_by tree (first_by number what)
object_read tree number place scope name rights (facts.scope parent kind) = refl
object_read tree number place scope name rights (facts.object of member is_mutable value first) = refl
object_read tree number place scope name rights (facts.template template member defaults is_explicit first) = refl
object_read tree number place scope name rights (facts.value_parameter depth index of) = refl
object_read tree number place scope name rights (facts.injected class) = refl
object_read tree number place scope name rights (facts.class class is_union) = refl
object_read tree number place scope name rights (facts.complete class) = refl
object_read tree number place scope name rights (facts.passed class) = refl
object_read tree number place scope name rights (facts.ancestor class parent index access) = refl
object_read tree number place scope name rights (facts.synonym of) = refl
object_read tree number place scope name rights (facts.namespace inner) = refl
object_read tree number place scope name rights (facts.directive nominated) = refl
object_read tree number place scope name rights (facts.using target) = refl
object_read tree number place scope name rights (facts.friend class target) = refl
object_read tree number place scope name rights (facts.enumeration n) = refl
object_read tree number place scope name rights (facts.enumerator n value) = refl
object_read tree number place scope name rights (facts.function of member flags defaults first) = refl

object_of : (tree : CxxTree) (number : ℕ) (fact : CxxFact) → object_of_fact tree number (Some fact) ≡ object_line_by tree (first_by number fact.what)
object_of tree number fact = object_read tree number fact.place fact.scope fact.name fact.access fact.what

object_found : (tree : CxxTree) (number : ℕ) (one : Option CxxFact) → object_line_by tree (first_of_fact number one) ≡ object_of_fact tree number one
object_found tree number None = refl
object_found tree number (Some fact) = sym (object_of tree number fact)

object_is : (all : List CxxFact) (tree : CxxTree) → object_line_by tree (first_in all tree) ≡ object_at all tree tree.label.target
object_is all tree = by tree.label.target
  where
    by : (target : Option ℕ) → object_line_by tree (first_found all target) ≡ object_at all tree target
    by None = refl
    by (Some number) = object_found tree number (slice_get all number)

pub object_by_first : (all : List CxxFact) (tree : CxxTree) (first : Option ℕ) → is_written_out all tree ≡ true → first ≡ first_in all tree → object_line_by tree first ≡ object_by all tree tree.label.target
object_by_first all tree first written is = ap (object_line_by tree) is ∙ object_is all tree ∙ sym (ap (λ (b : Bool). if b then object_at all tree tree.label.target else []) written)

pub object_not_written : (all : List CxxFact) (tree : CxxTree) → is_written_out all tree ≡ false → [] ≡ object_by all tree tree.label.target
object_not_written all tree written = sym (ap (λ (b : Bool). if b then object_at all tree tree.label.target else []) written)

pub object_on : (trees : List CxxTree) (facts : List CxxFact) (declarators : List TreeId) (i : ℕ) (d : TreeId) (first now new : List Line) (all : List text.Line) → i < length declarators → SoFar trees first now (object_lines facts (trees_in trees (drop i declarators))) all → AddsLines trees now new (object_by facts (tree_in trees (get_or declarators i d).0) (tree_in trees (get_or declarators i d).0).label.target) → SoFar trees first new (object_lines facts (trees_in trees (drop (i + 1) declarators))) all
object_on trees facts declarators i d first now new all within so added =
    goes_on trees first now new (object_by facts (tree_in trees (get_or declarators i d).0) (tree_in trees (get_or declarators i d).0).label.target) (object_lines facts (trees_in trees (drop (i + 1) declarators))) (object_lines facts (trees_in trees (drop i declarators))) all
    (at_drop_more (λ (ns : List TreeId). object_lines facts (trees_in trees ns)) declarators i d within) so added

-- ---- definitions of functions

pub definition_on : (trees : List CxxTree) (definitions : List TreeId) (i : ℕ) (d : TreeId) (first now new : List Line) (all : List text.Line) → AreTreesBelow (length trees) definitions → i < length definitions → SoFar trees first now (map text.definition_lines (trees_in trees (drop i definitions))) all → new ≡ now ++ line.Definition (get_or definitions i d) ∷ [] → SoFar trees first new (map text.definition_lines (trees_in trees (drop (i + 1) definitions))) all
definition_on trees definitions i d first now new all below within so more =
    goes_on trees first now new (text.definition_lines (tree_in trees (get_or definitions i d).0) ∷ []) (map text.definition_lines (trees_in trees (drop (i + 1) definitions))) (map text.definition_lines (trees_in trees (drop i definitions))) all
    (at_drop_more (λ (ns : List TreeId). map text.definition_lines (trees_in trees ns)) definitions i d within) so
    (line_added trees now new (line.Definition (get_or definitions i d)) more (child_below (length trees) definitions i d below within))

-- ---- the lines of classes

-- where a class is declared first
pub class_first : (held : Held) (slots : List ℕ) (n count place : ℕ) → AreFirst (facts_in held) slots → count ≡ length held.graph.facts → place ≡ declared_or (slot_at slots n) count → place ≡ text.number_of_class n 0 (facts_in held)
class_first held slots n count place are all is = is ∙ ap (declared_or (slot_at slots n)) (all ∙ sym (length_facts held.types held.graph.facts)) ∙ are n

class_cut : (all : List CxxFact) (n count : ℕ) → n < count → text.class_lines all n (count - n) ≡ text.class_line (text.number_of_class n 0 all) ∷ text.class_lines all (n + 1) (count - (n + 1))
class_cut all n count within =
    let left : count - n ≡ suc (count - (n + 1)) = omega (arith, within) in
    ap (text.class_lines all n) left ∙ ap (λ m. text.class_line (text.number_of_class n 0 all) ∷ text.class_lines all m (count - (n + 1))) (sym (add-one n))

pub class_on : (trees : List CxxTree) (all : List CxxFact) (count n : ℕ) (first now new : List Line) (number : FactId) (whole : List text.Line) → n < count → number.0 ≡ text.number_of_class n 0 all → SoFar trees first now (text.class_lines all n (count - n)) whole → new ≡ now ++ line.Class number ∷ [] → SoFar trees first new (text.class_lines all (n + 1) (count - (n + 1))) whole
class_on trees all count n first now new number whole within is so more =
    goes_on trees first now new (text.class_line (text.number_of_class n 0 all) ∷ []) (text.class_lines all (n + 1) (count - (n + 1))) (text.class_lines all n (count - n)) whole (class_cut all n count within) so
    (adds_same trees now new (line_at trees (line.Class number) ∷ []) (text.class_line (text.number_of_class n 0 all) ∷ []) (ap (λ m. text.class_line m ∷ []) is) (line_added trees now new (line.Class number) more tt))

pub classes_all : (trees : List CxxTree) (all : List CxxFact) (count n : ℕ) (first now : List Line) (whole : List text.Line) → count ≤ n → SoFar trees first now (text.class_lines all n (count - n)) whole → AddsLines trees first now whole
classes_all trees all count n first now whole past so =
    let none : count - n ≡ 0 = omega (arith, past) in
    at_last trees first now (text.class_lines all n (count - n)) whole (ap (text.class_lines all n) none) so

-- ---- all lines

four : {A : Type 0} (ones twos threes fours : List A) → ((ones ++ twos) ++ threes) ++ fours ≡ ones ++ (twos ++ (threes ++ fours))
four ones twos threes fours = append_assoc (ones ++ twos) threes fours ∙ append_assoc ones twos (threes ++ fours)

five : {A : Type 0} (ones twos threes fours fives : List A) → (((ones ++ twos) ++ threes) ++ fours) ++ fives ≡ ones ++ (twos ++ (threes ++ (fours ++ fives)))
five ones twos threes fours fives = append_assoc ((ones ++ twos) ++ threes) fours fives ∙ four ones twos threes (fours ++ fives)

six : {A : Type 0} (ones twos threes fours fives sixes : List A) → ((((ones ++ twos) ++ threes) ++ fours) ++ fives) ++ sixes ≡ ones ++ (twos ++ (threes ++ (fours ++ (fives ++ sixes))))
six ones twos threes fours fives sixes = append_assoc (((ones ++ twos) ++ threes) ++ fours) fives sixes ∙ five ones twos threes fours (fives ++ sixes)

-- the lines by what they are made of
abbrev all_of : List CxxFact → ℕ → List CxxTree → List CxxTree → List text.Line
all_of facts count declarators definitions =
    text.class_lines facts 0 count ++ (enumeration_lines 0 facts ++ (class_definitions facts facts ++ (function_lines 0 facts ++ (object_lines facts declarators ++ map text.definition_lines definitions))))

pub all_lines : (trees : List CxxTree) (facts : List CxxFact) (count : ℕ) (found defined : List TreeId) (declarators definitions : List CxxTree) (none zero one ended two three last : List Line) → none ≡ [] → trees_in trees found ≡ declarators → trees_in trees defined ≡ definitions
    → AddsLines trees none zero (text.class_lines facts 0 count) → AddsLines trees zero one (enumeration_lines 0 facts) → AddsLines trees one ended (class_definitions facts facts) → AddsLines trees ended two (function_lines 0 facts) → AddsLines trees two three (object_lines facts (trees_in trees found)) → AddsLines trees three last (map text.definition_lines (trees_in trees defined))
    → (lines_at trees last ≡ all_of facts count declarators definitions) × AreLinesBelow (length trees) last
all_lines trees facts count found defined declarators definitions none zero one ended two three last empty are so classes first ends second third fourth =
    let begins : List text.Line = text.class_lines facts 0 count in
    let bodies_of_classes : List text.Line = class_definitions facts facts in
    let objects : List text.Line = object_lines facts (trees_in trees found) in
    let bodies : List text.Line = map text.definition_lines (trees_in trees defined) in
    let to_classes : lines_at trees zero ≡ begins = classes.is ∙ ap (λ (xs : List Line). lines_at trees xs ++ begins) empty in
    let to_enumerations : lines_at trees one ≡ begins ++ enumeration_lines 0 facts = first.is ∙ ap (λ (xs : List text.Line). xs ++ enumeration_lines 0 facts) to_classes in
    let to_ends : lines_at trees ended ≡ (begins ++ enumeration_lines 0 facts) ++ bodies_of_classes = ends.is ∙ ap (λ (xs : List text.Line). xs ++ bodies_of_classes) to_enumerations in
    let to_functions : lines_at trees two ≡ ((begins ++ enumeration_lines 0 facts) ++ bodies_of_classes) ++ function_lines 0 facts = second.is ∙ ap (λ (xs : List text.Line). xs ++ function_lines 0 facts) to_ends in
    let to_objects : lines_at trees three ≡ (((begins ++ enumeration_lines 0 facts) ++ bodies_of_classes) ++ function_lines 0 facts) ++ objects = third.is ∙ ap (λ (xs : List text.Line). xs ++ objects) to_functions in (
      fourth.is
          ∙ ap (λ (xs : List text.Line). xs ++ bodies) to_objects
          ∙ six begins (enumeration_lines 0 facts) bodies_of_classes (function_lines 0 facts) objects bodies
          ∙ ap (λ (ts : List CxxTree). all_of facts count ts (trees_in trees defined)) are
          ∙ ap (λ (ts : List CxxTree). all_of facts count declarators ts) so,
      fourth.below (third.below (second.below (ends.below (first.below (classes.below (subst (λ (xs : List Line). AreLinesBelow (length trees) xs) (sym empty) tt)))))),
    )

abbrev pieces_of : Held → List CxxTree
pieces_of held = map part_tree (pieces_at (trees held) held.pieces)

pub lines_are : (held : Held) (found : List Line) → lines_at (trees held) found ≡ all_of (facts_in held) (length held.graph.classes) (flat_map declarators_of (pieces_of held)) (flat_map definitions_of (pieces_of held)) → lines_at (trees held) found ≡ lines (meaning held)
unfolding meaning lines
lines_are held found is = is ∙ ap (λ (count : ℕ). all_of (facts_in held) count (flat_map declarators_of (pieces_of held)) (flat_map definitions_of (pieces_of held))) (sym (length_classes held.types held.graph.classes))

-- ---- the definitions of classes

pub class_definition_is : (held : Held) (slots : List ℕ) (scope : ℕ) (ended : Option ℕ) (n count place : ℕ) → ended ≡ Some n → AreFirst (facts_in held) slots → count ≡ length held.graph.facts → place ≡ declared_or (slot_at slots n) count → Some (text.class_definition place scope) ≡ class_definition_by (facts_in held) scope ended
class_definition_is held slots scope ended n count place some are all is =
    ap (λ m. Some (text.class_definition m scope)) (class_first held slots n count place are all is) ∙ ap (class_definition_by (facts_in held) scope) (sym some)

definition_first : (all : List CxxFact) (scope : ℕ) (ended : Option ℕ) (others : List text.Line) → definition_of_class all scope ended ++ others ≡ before (class_definition_by all scope ended) others
definition_first all scope None others = refl
definition_first all scope (Some n) others = refl

pub definitions_gathered : (all : List CxxFact) (number : ℕ) (left : List CxxFact) → class_definitions all left ≡ gathered (class_definition_given all) number left
definitions_gathered all number [] = refl
definitions_gathered all number (fact ∷ others) =
    ap (λ (xs : List text.Line). definition_of_class all fact.scope (ended_class fact.what) ++ xs) (definitions_gathered all (number + 1) others)
    ∙ definition_first all fact.scope (ended_class fact.what) (gathered (class_definition_given all) (number + 1) others)

-- ---- the lines of enumerations, and of functions

enumeration_first : (number : ℕ) (what : Declares) (others : List text.Line) → enumeration_of number what ++ others ≡ before (enumeration_by number what) others
enumeration_first number (facts.scope parent kind) others = refl
enumeration_first number (facts.object of member is_mutable value first) others = refl
enumeration_first number (facts.template template member defaults is_explicit first) others = refl
enumeration_first number (facts.value_parameter depth index of) others = refl
enumeration_first number (facts.injected class) others = refl
enumeration_first number (facts.class class is_union) others = refl
enumeration_first number (facts.complete class) others = refl
enumeration_first number (facts.passed class) others = refl
enumeration_first number (facts.ancestor class parent index access) others = refl
enumeration_first number (facts.synonym of) others = refl
enumeration_first number (facts.namespace inner) others = refl
enumeration_first number (facts.directive nominated) others = refl
enumeration_first number (facts.using target) others = refl
enumeration_first number (facts.friend class target) others = refl
enumeration_first number (facts.enumeration n) others = refl
enumeration_first number (facts.enumerator n value) others = refl
enumeration_first number (facts.function of member flags defaults None) others = refl
enumeration_first number (facts.function of member flags defaults (Some first)) others = refl

pub enumerations_gathered : (number : ℕ) (all : List CxxFact) → enumeration_lines number all ≡ gathered enumeration_given number all
enumerations_gathered number [] = refl
enumerations_gathered number (fact ∷ others) =
    ap (λ (xs : List text.Line). enumeration_of number fact.what ++ xs) (enumerations_gathered (suc number) others ∙ ap (λ m. gathered enumeration_given m others) (sym (add-one number)))
    ∙ enumeration_first number fact.what (gathered enumeration_given (number + 1) others)

function_first : (number : ℕ) (what : Declares) (others : List text.Line) → function_of_fact number what ++ others ≡ before (function_by number what) others
function_first number (facts.scope parent kind) others = refl
function_first number (facts.object of member is_mutable value first) others = refl
function_first number (facts.template template member defaults is_explicit first) others = refl
function_first number (facts.value_parameter depth index of) others = refl
function_first number (facts.injected class) others = refl
function_first number (facts.class class is_union) others = refl
function_first number (facts.complete class) others = refl
function_first number (facts.passed class) others = refl
function_first number (facts.ancestor class parent index access) others = refl
function_first number (facts.synonym of) others = refl
function_first number (facts.namespace inner) others = refl
function_first number (facts.directive nominated) others = refl
function_first number (facts.using target) others = refl
function_first number (facts.friend class target) others = refl
function_first number (facts.enumeration n) others = refl
function_first number (facts.enumerator n value) others = refl
function_first number (facts.function of Free flags defaults None) others = refl
function_first number (facts.function of Free flags defaults (Some first)) others = refl
function_first number (facts.function of Nonstatic flags defaults first) others = refl
function_first number (facts.function of Static flags defaults first) others = refl
function_first number (facts.function of Constructor flags defaults first) others = refl
function_first number (facts.function of Destructor flags defaults first) others = refl
function_first number (facts.function of Conversion flags defaults first) others = refl

pub functions_gathered : (number : ℕ) (all : List CxxFact) → function_lines number all ≡ gathered function_given number all
functions_gathered number [] = refl
functions_gathered number (fact ∷ others) =
    ap (λ (xs : List text.Line). function_of_fact number fact.what ++ xs) (functions_gathered (suc number) others ∙ ap (λ m. gathered function_given m others) (sym (add-one number)))
    ∙ function_first number fact.what (gathered function_given (number + 1) others)
