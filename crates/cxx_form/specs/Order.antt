-- What the plain form of a reading with bodies declares, line by line, and the number of each declared name.
--
-- Classes stand first, by their numbers, then enumerations, by the end of their lists, then definitions of classes, by
-- their ends, then functions that are no members, by their first declarations, then objects of namespaces, each
-- declaration of one in its place, then definitions of functions in the order of reading. A name has its number by where it
-- stands first in the text.
use Rattle.std.specs.Prelude.{ℕ, zero, suc, Bool, true, false, not, ◌&&◌, ◌||◌, nat_eq, if◌then◌else◌, List, [], ◌∷◌, ◌++◌, length, flat_map, map, Option, Some, None}
use Rattle.std.specs.List.{slice_get}
use Rattle.cxx_model.specs.declared.facts.FunctionFlags.{FunctionFlags}
use Rattle.cxx_model.specs.declared.facts.MemberKind.{MemberKind}
use Rattle.cxx_model.specs.declared.facts.MemberKind.TheVariants.{Free, Static}
use Rattle.cxx_model.specs.declared.types.FactId.{FactId}
use Rattle.cxx_model.specs.Facts.Conflicts.{has_name}
use Rattle.cxx_model.specs.Facts.Declarations as facts
use Rattle.cxx_model.specs.Facts.Declarations.{CxxFact, Declares}
use Rattle.cxx_model.specs.Facts.Entities.{first_or, is_space, scope_kinds}
use Rattle.cxx_reading.specs.Plain.{NamesOfText, is_empty, name_by, number_of_enumeration}
use Rattle.cxx_reading.specs.Productions as production
use Rattle.cxx_reading.specs.State.{CxxState}
use Rattle.cxx_reading.specs.TextOrder.{enumerators_of, part_tree, with_each_new}
use Rattle.cxx_reading.specs.Trees.{CxxTree, CxxTrees, no_trees, tree_then}
use Rattle.cxx_statement_text.specs.Objects.{first_in, printed_in}
use Rattle.cxx_statement_text.specs.Productions as statement
use Rattle.cxx_form.specs.Shared.{representative}

-- Lines of the plain form: of a class, by its first declaration; of an enumeration, by its number and that of its
-- declaration; those of the definition of a class, by its first declaration and its scope; of a function, by its first
-- declaration; of an object, by the tree of a declarator of it, and its first declaration; and those of the definition of
-- a function, by its tree.
pub data Line : Type 0 where
  class_line : ℕ → Line
  enumeration_line : ℕ → ℕ → Line
  class_definition : ℕ → ℕ → Line
  function_line : ℕ → Line
  object_line : CxxTree → ℕ → Line
  definition_lines : CxxTree → Line

-- ---- lines

-- the number of a declaration that names one, or else what follows
abbrev pub named_or : ℕ → ℕ → Option ℕ → ℕ → ℕ
named_or n number None later = later
named_or n number (Some m) later = if nat_eq m n then number else later

abbrev pub class_in : Declares → Option ℕ
class_in (facts.class class is_union) = Some class.0
class_in _ = None

-- the first declaration of a class
abbrev pub number_of_class : ℕ → ℕ → List CxxFact → ℕ
number_of_class n number [] = number
number_of_class n number (fact ∷ others) = named_or n number (class_in fact.what) (number_of_class n (suc number) others)

-- so many classes, from one with a number on
abbrev pub class_lines : List CxxFact → ℕ → ℕ → List Line
class_lines all n zero = []
class_lines all n (suc count) = class_line (number_of_class n zero all) ∷ class_lines all (suc n) count

abbrev pub enumeration_of : ℕ → Declares → List Line
enumeration_of number (facts.enumeration n) = enumeration_line n number ∷ []
enumeration_of number _ = []

abbrev pub enumeration_lines : ℕ → List CxxFact → List Line
enumeration_lines number [] = []
enumeration_lines number (fact ∷ others) = enumeration_of number fact.what ++ enumeration_lines (suc number) others

-- 9.2: the class whose end it is
abbrev pub ended_class : Declares → Option ℕ
ended_class (facts.complete class) = Some class.0
ended_class _ = None

-- a class ends in its own scope, which holds its members
abbrev pub definition_of_class : List CxxFact → ℕ → Option ℕ → List Line
definition_of_class all scope None = []
definition_of_class all scope (Some n) = class_definition (number_of_class n zero all) scope ∷ []

abbrev pub class_definitions : List CxxFact → List CxxFact → List Line
class_definitions all [] = []
class_definitions all (fact ∷ others) = definition_of_class all fact.scope (ended_class fact.what) ++ class_definitions all others

-- 9.3: a function that is a member of a class has no line of its own
abbrev pub function_of_fact : ℕ → Declares → List Line
function_of_fact number (facts.function of Free flags defaults None) = function_line number ∷ []
function_of_fact number _ = []

abbrev pub function_lines : ℕ → List CxxFact → List Line
function_lines number [] = []
function_lines number (fact ∷ others) = function_of_fact number fact.what ++ function_lines (suc number) others

-- Those of a production among trees, in the order of their ends: one that stands in another one is before it. None is looked
-- for in those of the production that is passed.
abbrev pub found_in : ℕ → ℕ → CxxTrees → List CxxTree
found_in wanted passed no_trees = []
found_in wanted passed (tree_then label children next) =
    (if nat_eq label.production passed then [] else found_in wanted passed children) ++
    ((if nat_eq label.production wanted then record { label = label; children = children } ∷ [] else []) ++
    found_in wanted passed next)

abbrev pub found_of : ℕ → ℕ → CxxTree → List CxxTree
found_of wanted passed tree = found_in wanted passed (tree_then tree.label tree.children no_trees)

-- all declarators, none in another one
abbrev pub declarators_of : CxxTree → List CxxTree
declarators_of tree = found_of production.declarator production.declarator tree

abbrev pub object_of_fact : CxxTree → ℕ → Option CxxFact → List Line
object_of_fact tree number None = []
object_of_fact tree number (Some fact) = by fact.what
  where
    by : Declares → List Line
    by (facts.object of member is_mutable value first) = object_line tree (first_or number first) ∷ []
    by _ = []

abbrev pub object_at : List CxxFact → CxxTree → Option ℕ → List Line
object_at all tree None = []
object_at all tree (Some number) = object_of_fact tree number (slice_get all number)

abbrev pub scope_of_fact : Option CxxFact → ℕ
scope_of_fact None = zero
scope_of_fact (Some fact) = fact.scope

abbrev pub is_of_namespace : List CxxFact → Option ℕ → Bool
is_of_namespace all None = false
is_of_namespace all (Some number) = is_space (slice_get (scope_kinds all) (scope_of_fact (slice_get all number)))

-- 9.4.2: a static member that its class declared before
abbrev pub is_static_again : MemberKind → Option FactId → Bool
is_static_again Static (Some first) = true
is_static_again _ _ = false

abbrev pub is_outside_by : Declares → Bool
is_outside_by (facts.object of kind is_mutable value first) = is_static_again kind first
is_outside_by _ = false

abbrev pub is_outside_in : Option CxxFact → Bool
is_outside_in None = false
is_outside_in (Some fact) = is_outside_by fact.what

-- 9.4.2: whether what a declarator declares is a member that stands outside of its class
abbrev pub is_outside : List CxxFact → Option ℕ → Bool
is_outside all None = false
is_outside all (Some number) = is_outside_in (slice_get all number)

-- 3.5: what a namespace declares, a member that stands outside of its class, or what is declared with `extern`, which is how
-- its declarator is spelled
abbrev pub is_written_out : List CxxFact → CxxTree → Bool
is_written_out all tree = is_of_namespace all tree.label.target || (is_outside all tree.label.target || not (is_empty tree.label.spelling))

abbrev pub object_by : List CxxFact → CxxTree → Option ℕ → List Line
object_by all tree target = if is_written_out all tree then object_at all tree target else []

abbrev pub object_lines : List CxxFact → List CxxTree → List Line
object_lines all [] = []
object_lines all (tree ∷ others) = object_by all tree tree.label.target ++ object_lines all others

-- the definitions of functions; the specifiers of one may define a class with others (7.1, 9.2), which end before it
abbrev pub definitions_of : CxxTree → List CxxTree
definitions_of tree = found_of production.function_definition production.declarator tree

-- the lines of the plain form, in order
unfoldable pub lines : CxxState → List Line
lines state =
    class_lines state.graph.facts zero (length state.graph.classes) ++
    (enumeration_lines zero state.graph.facts ++
    (class_definitions state.graph.facts state.graph.facts ++
    (function_lines zero state.graph.facts ++
    (object_lines state.graph.facts (flat_map declarators_of (map part_tree state.parts)) ++
    map definition_lines (flat_map definitions_of (map part_tree state.parts))))))

-- ---- the parts of a definition (8.4)

-- those of a production among some trees
abbrev pub parts_of_production : ℕ → CxxTrees → List CxxTree
parts_of_production n no_trees = []
parts_of_production n (tree_then label children next) =
    if nat_eq label.production n then record { label = label; children = children } ∷ parts_of_production n next else parts_of_production n next

abbrev pub first_tree : List CxxTree → Option CxxTree
first_tree [] = None
first_tree (tree ∷ others) = Some tree

abbrev pub declarator_of : CxxTree → Option CxxTree
declarator_of tree = first_tree (parts_of_production production.declarator tree.children)

abbrev pub body_of : CxxTree → Option CxxTree
body_of tree = first_tree (parts_of_production statement.block tree.children)

-- ---- parameters of a definition, and members of a class

-- 9.3: whether a function is one that its class declares, and not one that it has by itself (12.1)
abbrev pub is_own_function : MemberKind → FunctionFlags → Bool
is_own_function Free flags = false
is_own_function kind flags = not flags.is_implicit

-- an object, or such a function
abbrev pub is_part : Declares → Bool
is_part (facts.object of kind is_mutable value first) = true
is_part (facts.function of kind flags defaults first) = is_own_function kind flags
is_part _ = false

abbrev pub is_part_in : ℕ → CxxFact → Bool
is_part_in scope fact = nat_eq fact.scope scope && is_part fact.what

-- the declarations of the objects and of the functions of a class in a scope, in order
abbrev pub parts_in : ℕ → ℕ → List CxxFact → List ℕ
parts_in scope number [] = []
parts_in scope number (fact ∷ others) = if is_part_in scope fact then number ∷ parts_in scope (suc number) others else parts_in scope (suc number) others

abbrev pub list_by : List CxxFact → Option ℕ → ℕ
list_by all None = zero
list_by all (Some number) = scope_of_fact (slice_get all number)

-- the scope that holds that of a body, which its tree names by its declaration
abbrev pub list_of_body : List CxxFact → Option CxxTree → ℕ
list_of_body all None = zero
list_of_body all (Some body) = list_by all body.label.target

-- the parameters of a definition, by their declarations
abbrev pub parameters_of : List CxxFact → CxxTree → List ℕ
parameters_of all tree = parts_in (list_of_body all (body_of tree)) zero all

-- the first declaration of an object or of a function
abbrev pub is_first_part : Declares → Bool
is_first_part (facts.object of member is_mutable value None) = true
is_first_part (facts.function of member flags defaults None) = true
is_first_part _ = false

abbrev pub is_first : Option CxxFact → Bool
is_first None = false
is_first (Some fact) = is_first_part fact.what

abbrev pub if_first : List CxxFact → ℕ → List ℕ
if_first all number = if is_first (slice_get all number) then number ∷ [] else []

abbrev pub firsts_among : List CxxFact → List ℕ → List ℕ
firsts_among all numbers = flat_map (if_first all) numbers

-- 9.2, 9.3: the data members and the functions of the class with a scope, by their first declarations
abbrev pub members_of : List CxxFact → ℕ → List ℕ
members_of all scope = firsts_among all (parts_in scope zero all)

-- ---- bases of a class (10)

-- the class that a declaration names as a direct base of another one
abbrev pub base_by : ℕ → Declares → List ℕ
base_by n (facts.ancestor class parent index access) = if nat_eq class.0 n then parent.0 ∷ [] else []
base_by n _ = []

-- the direct bases of a class, in order
abbrev pub bases_of : List CxxFact → ℕ → List ℕ
bases_of [] n = []
bases_of (fact ∷ others) n = base_by n fact.what ++ bases_of others n

abbrev pub bases_by : List CxxFact → Option ℕ → List ℕ
bases_by all None = []
bases_by all (Some n) = bases_of all n

abbrev pub class_of_fact : Option CxxFact → Option ℕ
class_of_fact None = None
class_of_fact (Some fact) = class_in fact.what

-- those of the class that a declaration declares
abbrev pub bases_at : List CxxFact → ℕ → List ℕ
bases_at all number = bases_by all (class_of_fact (slice_get all number))

-- ---- numbers

abbrev pub is_named : Option CxxFact → Bool
is_named None = false
is_named (Some fact) = has_name fact.name

abbrev pub if_named : List CxxFact → ℕ → List ℕ
if_named all number = if is_named (slice_get all number) then number ∷ [] else []

abbrev pub named_among : List CxxFact → List ℕ → List ℕ
named_among all numbers = flat_map (if_named all) numbers

abbrev pub first_number : Option ℕ → List ℕ
first_number None = []
first_number (Some number) = number ∷ []

-- the objects of blocks that are written, by their first declarations
abbrev pub declared_by : List CxxFact → CxxTree → List ℕ
declared_by all tree = first_number (first_in all tree)

abbrev pub locals_in : List CxxFact → Option CxxTree → List ℕ
locals_in all None = []
locals_in all (Some body) = flat_map (declared_by all) (printed_in all body.children)

-- what lines declare, by first declarations
abbrev pub declared_on : List CxxFact → Line → List ℕ
declared_on all (class_line number) = number ∷ []
declared_on all (enumeration_line n number) = number ∷ enumerators_of n zero all
declared_on all (class_definition number scope) = members_of all scope
declared_on all (function_line number) = number ∷ []
declared_on all (object_line tree number) = number ∷ []
declared_on all (definition_lines tree) = named_among all (parameters_of all tree) ++ locals_in all (body_of tree)

-- every declaration whose name stands in the text, in the order of its first appearance there; of those with one number the
-- first one
unfoldable pub text_order : CxxState → List ℕ
text_order state = with_each_new [] (map (representative state.graph.facts) (flat_map (declared_on state.graph.facts) (lines state)))

-- ---- names

-- the printed name of a declaration
abbrev pub shared_name : List CxxFact → List ℕ → ℕ → List ℕ
shared_name all order number = name_by all order (representative all number)

unfoldable pub names_of_text : CxxState → NamesOfText
names_of_text state = record {
  name_of = shared_name state.graph.facts (text_order state);
  tags = record { class_name = λ n. name_by state.graph.facts (text_order state) (number_of_class n zero state.graph.facts); enumeration_name = λ n. name_by state.graph.facts (text_order state) (number_of_enumeration n zero state.graph.facts) };
}
