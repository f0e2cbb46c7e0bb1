-- What the plain form of a reading declares, line by line, and the number of each declared name.
--
-- Enumerations stand first, by the end of their lists, then functions, by their first declarations, then objects, each
-- declaration of one in its place. A name has its number by where it stands first in the text.
use Rattle.std.specs.Prelude.{ℕ, zero, suc, Bool, false, nat_eq, if◌then◌else◌, List, [], ◌∷◌, ◌++◌, map, flat_map, Option, Some, None}
use Rattle.std.specs.List.{slice_get, list_any}
use Rattle.cxx_model.specs.Facts.Declarations as facts
use Rattle.cxx_model.specs.Facts.Declarations.{CxxFact, CxxName, Declares, unnamed, spelled, operator_function, conversion_to, destructor}
use Rattle.cxx_model.specs.Facts.Entities.{first_or}
use Rattle.cxx_model.specs.Printing.Names.{printed_name}
use Rattle.std.specs.Prelude.{codes}
use Rattle.cxx_reading.specs.Productions as production
use Rattle.cxx_reading.specs.State.{CxxState, CxxPart}
use Rattle.cxx_reading.specs.Trees.{CxxTree, CxxTrees, no_trees, tree_then}

-- a line of the plain form: of an enumeration, by its number and that of its declaration; of a function, by its first
-- declaration; of an object, by the tree of a declarator of it, and its first declaration
pub data Line : Type 0 where
  enumeration_line : ℕ → ℕ → Line
  function_line : ℕ → Line
  object_line : CxxTree → ℕ → Line

-- ---- lines

abbrev pub enumeration_of : ℕ → Declares → List Line
enumeration_of number (facts.enumeration n) = enumeration_line n number ∷ []
enumeration_of number _ = []

abbrev pub enumeration_lines : ℕ → List CxxFact → List Line
enumeration_lines number [] = []
enumeration_lines number (fact ∷ others) = enumeration_of number fact.what ++ enumeration_lines (suc number) others

abbrev pub function_of_fact : ℕ → Declares → List Line
function_of_fact number (facts.function of member flags defaults None) = function_line number ∷ []
function_of_fact number _ = []

abbrev pub function_lines : ℕ → List CxxFact → List Line
function_lines number [] = []
function_lines number (fact ∷ others) = function_of_fact number fact.what ++ function_lines (suc number) others

-- the declarators of declarations among trees, in order
abbrev pub declarators_in : CxxTrees → List CxxTree
declarators_in no_trees = []
declarators_in (tree_then label children next) =
    if nat_eq label.production production.declarator then record { label = label; children = children } ∷ declarators_in next else declarators_in children ++ declarators_in next

abbrev pub declarators_of : CxxTree → List CxxTree
declarators_of tree = declarators_in (tree_then tree.label tree.children no_trees)

abbrev pub object_of_fact : CxxTree → ℕ → Option CxxFact → List Line
object_of_fact tree number None = []
object_of_fact tree number (Some fact) = by fact.what
  where
    by : Declares → List Line
    by (facts.object of member is_mutable value first) = object_line tree (first_or number first) ∷ []
    by _ = []

abbrev pub object_by : List CxxFact → CxxTree → Option ℕ → List Line
object_by all tree None = []
object_by all tree (Some number) = object_of_fact tree number (slice_get all number)

abbrev pub object_lines : List CxxFact → List CxxTree → List Line
object_lines all [] = []
object_lines all (tree ∷ others) = object_by all tree tree.label.target ++ object_lines all others

abbrev pub part_tree : CxxPart → CxxTree
part_tree part = part.tree

-- the lines of the plain form, in order
unfoldable pub lines : CxxState → List Line
lines state =
    enumeration_lines zero state.graph.facts ++
    (function_lines zero state.graph.facts ++
    object_lines state.graph.facts (flat_map declarators_of (map part_tree state.parts)))

-- ---- numbers

abbrev pub is_enumerator_of : ℕ → Declares → Bool
is_enumerator_of n (facts.enumerator number value) = nat_eq number n
is_enumerator_of n _ = false

-- the enumerators of an enumeration, by their declarations
abbrev pub enumerators_of : ℕ → ℕ → List CxxFact → List ℕ
enumerators_of n number [] = []
enumerators_of n number (fact ∷ others) = if is_enumerator_of n fact.what then number ∷ enumerators_of n (suc number) others else enumerators_of n (suc number) others

-- what a line declares, by first declarations
abbrev pub declared_on : List CxxFact → Line → List ℕ
declared_on all (enumeration_line n number) = number ∷ enumerators_of n zero all
declared_on all (function_line number) = number ∷ []
declared_on all (object_line tree number) = number ∷ []

abbrev pub with_new : List ℕ → ℕ → List ℕ
with_new order number = if list_any (nat_eq number) order then order else order ++ number ∷ []

abbrev pub with_each_new : List ℕ → List ℕ → List ℕ
with_each_new order [] = order
with_each_new order (number ∷ others) = with_each_new (with_new order number) others

-- every declaration whose name stands in the text, in the order of its first appearance there
unfoldable pub text_order : CxxState → List ℕ
text_order state = with_each_new [] (flat_map (declared_on state.graph.facts) (lines state))

-- where a declaration stands in that order, from 1
abbrev pub number_in : List ℕ → ℕ → ℕ
number_in [] number = suc zero
number_in (first ∷ others) number = if nat_eq first number then suc zero else suc (number_in others number)

-- ---- names

-- what a declared name is made of; an unnamed enumeration is `unnamed`
abbrev pub name_stem : CxxName → List ℕ
name_stem unnamed = codes "unnamed"
name_stem (spelled word) = word
name_stem (operator_function operator) = codes "op"
name_stem (conversion_to of) = codes "conv"
name_stem destructor = []

abbrev pub stem_of_fact : Option CxxFact → List ℕ
stem_of_fact None = []
stem_of_fact (Some fact) = name_stem fact.name

-- the printed name of a declaration, by its first one
unfoldable pub text_name : List CxxFact → List ℕ → ℕ → List ℕ
text_name all order number = printed_name (number_in order number) (stem_of_fact (slice_get all number))
