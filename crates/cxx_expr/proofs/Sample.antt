-- Some declarations, and trees over them as they are read and as they are shown. A row writes a tree in front of its
-- parts: an operator, a cast by its keyword with its type, a conversion that nothing spells by its type alone; then the
-- type of the whole, with `&` for an object.
use Rattle.std.specs.Prelude.{ℕ, zero, Bool, true, false, if◌then◌else◌, nat_eq, List, [], ◌∷◌, ◌++◌, Option, Some, None, Result, Ok, Err, codes, decimal, pos}
use Rattle.std.specs.Fmt.{digits}
use Rattle.cxx_model.specs.declared.base.Base.{Base}
use Rattle.cxx_model.specs.declared.base.Base.TheVariants as base
use Rattle.cxx_model.specs.declared.facts.Access.TheVariants.{Public}
use Rattle.cxx_model.specs.declared.facts.MemberKind.TheVariants as member
use Rattle.cxx_model.specs.declared.facts.ScopeKind.TheVariants as kind
use Rattle.cxx_model.specs.declared.sequence.ConstantKind.{ConstantKind}
use Rattle.cxx_model.specs.declared.sequence.ConstantKind.TheVariants as constant_kind
use Rattle.cxx_model.specs.declared.types.Cv.{Cv}
use Rattle.cxx_model.specs.Facts.Declarations as facts
use Rattle.cxx_model.specs.Facts.Declarations.{CxxFact, CxxGraph, Declares, spelled}
use Rattle.cxx_model.specs.Facts.Pending.{is_pending}
use Rattle.cxx_model.specs.Stops.{Answer, not_built_at, undeclared_at}
use Rattle.cxx_model.specs.Text.Lexemes.{nowhere}
use Rattle.cxx_model.specs.Text.Spelling.{keywords, alternatives, operators, digraphs, word_kind, number_kind, operator, literal, hash, slash, percent, spelling_of, literal_type, literal_value}
use Rattle.cxx_model.specs.Types.Trees.{CxxType, CxxTypes, CxxBound, array_of, class_type, enumeration, function_of, fundamental, no_types, number_bound, pointer_to, qualified, reference_to, type_then}
use Rattle.cxx_meaning.specs.Conversions.Arithmetic.{usual}
use Rattle.cxx_meaning.specs.Conversions.BuiltIn as built
use Rattle.cxx_meaning.specs.Conversions.BuiltIn.{follow, is_stepped, steps_to, before, after, unary_by, unary_family_result, unary_result, beside_integer, subscripted, added_to, distance, subtracted, compared_pointers, compared_by, assigned, binary_by, compound_on, compound, compound_result, family_result, binary_result}
use Rattle.cxx_meaning.specs.Conversions.Casts as casts
use Rattle.cxx_meaning.specs.Conversions.Conditional as conditional
use Rattle.cxx_meaning.specs.Conversions.Conditional.{shared_pointers, arms_of_arithmetic, arms_of_enumeration, arms_of_pointer, arms_of_void, arms_of}
use Rattle.cxx_meaning.specs.Conversions.Derived.{is_derived}
use Rattle.cxx_meaning.specs.Conversions.Enumerations.{promoted}
use Rattle.cxx_meaning.specs.Conversions.Pointers.{is_complete_object, common_other, common_pointer}
use Rattle.cxx_meaning.specs.Conversions.Sizes.{class_in, extent_of, object_extent, size_of}
use Rattle.cxx_meaning.specs.Conversions.Asking.{Asked}
use Rattle.cxx_meaning.specs.declared.size.SizeReason.{SizeReason}
use Rattle.cxx_meaning.specs.Conversions.Standard.{CxxOperand, is_text, class_step, pointer_to_class, steps_to_class, pointer_to_other, steps_of_pointers, step_of_enumeration, steps_of_arithmetic, steps_of_enumeration, steps_of_pointer, steps_of_kinds, value_step, steps_to_scalar, steps_by_kinds, steps_of_value, related_kinds, related, steps_of_related, steps_of_unrelated, steps_by_relation, steps_of_reference, steps_between, standard_sequence}
use Rattle.cxx_reading.specs.Paths.{name_in}
use Rattle.cxx_reading.specs.Reads.{Asks}
use Rattle.cxx_reading.specs.Seen.{Numbered, declared_in}
use Rattle.cxx_reading.specs.State.{CxxState, first_state}
use Rattle.cxx_reading.specs.Trees.{CxxPath, CxxTree, CxxTrees, Label, in_turn, no_trees, tree_of, tree_then}
use Rattle.cxx_subobjects.specs.Paths.{base_paths, subobjects}
use Rattle.cxx_this.specs.This.{class_at}
use Rattle.cxx_expr.specs.Asking.{then_asked}
use Rattle.cxx_expr.specs.Bases.{is_only_base, one_base}
use Rattle.cxx_expr.specs.Calls as calls
use Rattle.cxx_expr.specs.Casts as cast
use Rattle.cxx_expr.specs.Converting.{convert, convert_at, convert_each, convert_known, convert_more}
use Rattle.cxx_expr.specs.Elaborating.{by_production, elaborate, parenthesis}
use Rattle.cxx_expr.specs.Implied as implied
use Rattle.cxx_expr.specs.Initializing as initial
use Rattle.cxx_expr.specs.Literals as literals
use Rattle.cxx_expr.specs.Names as names
use Rattle.cxx_expr.specs.Operands.{judged, judged_beside, judged_to}
use Rattle.cxx_expr.specs.Operators as operators_of
use Rattle.cxx_expr.specs.Questions.{CxxChosen, CxxQuestion, Questions}
use Rattle.cxx_expr.specs.SizesOf as sizes

-- ---- what is declared

abbrev pub put : List ℕ → Declares → CxxFact
put word what = record { place = nowhere; scope = 0; name = spelled word; access = Public; what = what }

abbrev pub object : List ℕ → CxxType → CxxFact
object word of = put word (facts.object of member.Free false None None)

abbrev pub function : List ℕ → CxxType → CxxFact
function word of = put word (facts.function of member.Free (record { is_virtual = false; is_pure = false; is_explicit = false; is_implicit = false }) 0 None)

abbrev pub none : Cv
none = record { is_const = false; is_volatile = false }

abbrev pub constant : CxxType → CxxType
constant of = qualified (record { is_const = true; is_volatile = false }) of

abbrev pub int : CxxType
int = fundamental base.Int

abbrev pub long : CxxType
long = fundamental base.Long

abbrev pub char : CxxType
char = fundamental base.Char

-- int f(int, long = 2);
abbrev pub f_type : CxxType
f_type = function_of int (type_then int (type_then long no_types)) false none

-- the base of a class at a position
abbrev pub base_at : ℕ → ℕ → ℕ → CxxFact
base_at class parent index = put (codes "") (facts.ancestor (record { 0 = class }) (record { 0 = parent }) index Public)

abbrev pub class_v : CxxType
class_v = class_type 0

abbrev pub class_l : CxxType
class_l = class_type 1

abbrev pub class_d : CxxType
class_d = class_type 3

-- int *p; const int *pc; bool b; int x; int f(int, long = 2); enum E { e = 3 }; void g(int); void g(char); int (*q)(int);
-- long &r; enum h { }; int h(int); int a[3]; void *pv; struct V { }; struct L : V { }; struct R : V { }; struct D : L, R { };
-- V *v; L *l; D *d; L o; const D w; void k(V &);
abbrev pub graph : CxxGraph
graph = record {
  facts = put (codes "") (facts.scope None kind.Space) ∷ object (codes "p") (pointer_to int) ∷ object (codes "pc") (pointer_to (constant int)) ∷ object (codes "b") (fundamental base.Bool)
      ∷ object (codes "x") int ∷ function (codes "f") f_type ∷ put (codes "E") (facts.enumeration 0) ∷ put (codes "e") (facts.enumerator 0 (pos 3))
      ∷ function (codes "g") (function_of (fundamental base.Void) (type_then int no_types) false none) ∷ function (codes "g") (function_of (fundamental base.Void) (type_then char no_types) false none)
      ∷ object (codes "q") (pointer_to (function_of int (type_then int no_types) false none)) ∷ object (codes "r") (reference_to long)
      ∷ put (codes "h") (facts.enumeration 1) ∷ function (codes "h") (function_of int (type_then int no_types) false none)
      ∷ object (codes "a") (array_of int (number_bound 3)) ∷ object (codes "pv") (pointer_to (fundamental base.Void))
      ∷ base_at 1 0 1 ∷ base_at 2 0 1 ∷ base_at 3 1 1 ∷ base_at 3 2 2
      ∷ object (codes "v") (pointer_to class_v) ∷ object (codes "l") (pointer_to class_l) ∷ object (codes "d") (pointer_to class_d) ∷ object (codes "o") class_l ∷ object (codes "w") (constant class_d)
      ∷ function (codes "k") (function_of (fundamental base.Void) (type_then (reference_to class_v) no_types) false none) ∷ [];
  classes = None ∷ None ∷ None ∷ None ∷ [];
  patterns = [];
}

abbrev pub state : CxxState
state = record first_state { graph = graph }

-- ---- what is asked

abbrev pub is_zero : ConstantKind → Bool
is_zero constant_kind.Zero = true
is_zero _ = false

abbrev pub is_zero_in : Option CxxOperand → Bool
is_zero_in None = false
is_zero_in (Some operand) = is_zero operand.constant

abbrev pub word_or_none : Option (List ℕ) → List ℕ
word_or_none None = codes ""
word_or_none (Some word) = word

abbrev pub chosen_by : CxxQuestion → List Numbered → CxxState → Answer (CxxChosen × CxxState)
chosen_by question [] s = Err (undeclared_at question.place (word_or_none question.word))
chosen_by question (one ∷ others) s = by one.fact.what
  where
    each : CxxTypes → List CxxType
    each no_types = []
    each (type_then of next) = of ∷ each next

    of_type : CxxType → Answer (CxxChosen × CxxState)
    of_type (function_of result parameters ellipsis cv) = Ok (record { target = one.number; parameters = each parameters; result = result; ellipsis = ellipsis; number = 0 }, s)
    of_type _ = Err (not_built_at nowhere)

    by : Declares → Answer (CxxChosen × CxxState)
    by (facts.function of kind flags defaults first) = of_type of
    by _ = Err (not_built_at nowhere)

abbrev pub node : ℕ → List ℕ → Option CxxType → List CxxTree → CxxTree
node production spelling of parts = tree_of (record {
  production = production;
  spelling = spelling;
  first = 0;
  last = 0;
  start = record { line = 1; column = 1 };
  place = record { line = 1; column = 2 };
  path = None;
  operand = None;
  of = of;
  target = None;
  call = None;
}) parts

-- the literal `2`, converted to `long`
abbrev pub fallback_tree : CxxTree
fallback_tree = node 48 (codes "") (Some long) (node 34 (codes "2") None [] ∷ [])

abbrev pub is_unbroken : Asked (Result ℕ SizeReason) → CxxState → Answer (Result ℕ SizeReason × CxxState)
is_unbroken (Ok found) s = Ok (found, s)
is_unbroken (Err class) s = Err (not_built_at nowhere)

-- the first function is the one that is meant; no class is declared
abbrev pub asks : Questions
asks = record {
  name = λ path s. Ok (declared_in s.graph s.here.scope (name_in path), s);
  naming = λ class path s. Ok (class, s);
  member = λ class path s. Ok ([], s);
  bound = λ place number s. Ok (tt, s);
  call = λ question s. chosen_by question question.functions s;
  fallback = λ path target index s. Ok (fallback_tree, s);
  size = λ of s. is_unbroken (size_of s.graph of) s;
  qualifier = λ path s. None;
  is_null = λ tree s. is_zero_in tree.label.operand;
}

-- ---- how trees are written

abbrev pub text : List ℕ → CxxTree
text spelling = node 34 spelling None []

abbrev pub path_of : List ℕ → CxxPath
path_of word = record { global = false; parts = record { word = word; place = record { line = 1; column = 3 }; arguments = None } ∷ [] }

abbrev pub with_path : List ℕ → CxxTree → CxxTree
with_path word tree = record { label = record tree.label { path = Some (path_of word) }; children = tree.children }

abbrev pub name : List ℕ → CxxTree
name word = with_path word (node 36 (codes "") None [])

abbrev pub call : List ℕ → List CxxTree → CxxTree
call word arguments = with_path word (node 40 (codes "") None arguments)

-- its name in brackets
abbrev pub bracketed_call : List ℕ → List CxxTree → CxxTree
bracketed_call word arguments = with_path word (node 40 (codes "(") None arguments)

abbrev pub binary : List ℕ → CxxTree → CxxTree → CxxTree
binary spelling one two = node 50 spelling None (one ∷ two ∷ [])

abbrev pub assigned_to : List ℕ → CxxTree → CxxTree → CxxTree
assigned_to spelling one two = node 52 spelling None (one ∷ two ∷ [])

abbrev pub prefix : List ℕ → CxxTree → CxxTree
prefix spelling one = node 46 spelling None (one ∷ [])

abbrev pub bracket : CxxTree → CxxTree
bracket one = node 39 (codes "") None (one ∷ [])

abbrev pub choice : CxxTree → CxxTree → CxxTree → CxxTree
choice test one two = node 51 (codes "?") None (test ∷ one ∷ two ∷ [])

abbrev pub to_type : List ℕ → CxxType → CxxTree → CxxTree
to_type word of one = node 48 word (Some of) (one ∷ [])

-- ---- and shown

abbrev pub base_text : Base → List ℕ
base_text base.Void = codes "void"
base_text base.Bool = codes "bool"
base_text base.Char = codes "char"
base_text base.Int = codes "int"
base_text base.Unsigned = codes "unsigned"
base_text base.Long = codes "long"
base_text base.UnsignedLong = codes "unsigned long"
base_text base.WideChar = codes "wchar_t"
base_text _ = codes "?"

abbrev pub bound_text : CxxBound → List ℕ
bound_text (number_bound n) = decimal n
bound_text _ = codes ""

abbrev pub cv_text : Cv → List ℕ
cv_text cv = if cv.is_const then codes "const " else codes ""

abbrev pub type_text : CxxType → List ℕ
type_text (fundamental of) = base_text of
type_text (enumeration n) = codes "E" ++ decimal n
type_text (class_type n) = codes "C" ++ decimal n
type_text (pointer_to of) = type_text of ++ codes "*"
type_text (reference_to of) = type_text of ++ codes "&"
type_text (array_of of bound) = type_text of ++ codes "[" ++ bound_text bound ++ codes "]"
type_text (function_of result parameters ellipsis cv) = type_text result ++ codes "()"
type_text (qualified cv of) = cv_text cv ++ type_text of
type_text _ = codes "?"

abbrev pub of_text : Option CxxType → List ℕ
of_text None = codes ""
of_text (Some of) = codes "<" ++ type_text of ++ codes ">"

abbrev pub word_text : Option CxxPath → List ℕ
word_text None = codes ""
word_text (Some path) = by (name_in path)
  where
    by : facts.CxxName → List ℕ
    by (facts.spelled word) = word
    by _ = codes "?"

abbrev pub listed : CxxTrees → List ℕ → List ℕ
listed no_trees inside = []
listed (tree_then label children next) inside = codes "(" ++ inside ++ codes ")"

abbrev pub after_comma : CxxTrees → List ℕ → List ℕ
after_comma no_trees inside = []
after_comma (tree_then label children next) inside = codes ", " ++ inside

abbrev pub trees_text : CxxTrees → List ℕ
trees_text no_trees = []
trees_text (tree_then label children next) = word_text label.path ++ label.spelling ++ of_text label.of ++ listed children (trees_text children) ++ after_comma next (trees_text next)

abbrev pub operand_text : Option CxxOperand → List ℕ
operand_text None = codes ""
operand_text (Some operand) = codes " : " ++ type_text operand.of ++ (if operand.lvalue then codes "&" else codes "")

abbrev pub tree_text : CxxTree → List ℕ
tree_text tree = trees_text (in_turn (tree ∷ [])) ++ operand_text tree.label.operand

-- each part, then the whole
abbrev pub elaborated : CxxTrees → Asks CxxState (List CxxTree)
elaborated no_trees s = Ok ([], s)
elaborated (tree_then label children next) s =
    then_asked (elaborated children s) λ parts t. then_asked (elaborate asks (tree_of label parts) t) λ tree u. then_asked (elaborated next u) λ others v. Ok (tree ∷ others, v)

abbrev pub shown_of : Answer (List CxxTree × CxxState) → Answer (List ℕ)
shown_of (Ok one) = Ok (by one.0)
  where
    by : List CxxTree → List ℕ
    by [] = []
    by (tree ∷ trees) = tree_text tree
shown_of (Err why) = Err why

unfoldable pub gives : CxxTree → Answer (List ℕ)
unfolding names.static_class elaborate by_production parenthesis judged judged_beside judged_to convert convert_at convert_known convert_more convert_each one_base is_only_base literals.literal literals.operand_of_literal literals.is_text literals.text_operand literals.text_length literal_type literal_value spelling_of word_kind number_kind operator literal hash slash percent keywords alternatives operators digraphs implied.name implied.named_here class_at names.named names.meant_by declared_in operators_of.operator_in operators_of.built operators_of.unconverted operators_of.own_meaning operators_of.prefix operators_of.prefix_asked operators_of.prefix_built operators_of.step operators_of.step_built operators_of.operand_beside operators_of.binary_by operators_of.binary_asked operators_of.binary_built operators_of.conditional operators_of.conditional_built operators_of.arms_built operators_of.arms cast.explicit cast.explicit_found cast.explicit_built cast.static_cast_of cast.static_found cast.static_built cast.constant cast.reinterpreted cast.cast_as cast.cast cast.zero cast.functional sizes.type_of_operand sizes.measured sizes.size size_of object_extent class_in extent_of calls.fallbacks calls.chosen_call calls.function_call calls.through_signature calls.through calls.value_call calls.called calls.name_call calls.call usual promoted follow is_stepped steps_to before after unary_by unary_family_result unary_result beside_integer subscripted added_to built.added distance subtracted compared_pointers compared_by assigned binary_by compound_on compound compound_result family_result binary_result built.built_in_result shared_pointers arms_of_arithmetic arms_of_enumeration arms_of_pointer arms_of_void arms_of conditional.conditional casts.const_cast casts.goes_down casts.static_pointers casts.static_kinds casts.static_objects casts.static_only casts.static_unless casts.static_cast casts.reinterpret_cast casts.cast_operand casts.added casts.between casts.cast_between casts.cast_by_two casts.cast_else casts.cast_unless casts.cast is_complete_object common_other common_pointer is_text is_pending is_derived subobjects base_paths pointer_to_class class_step steps_to_class pointer_to_other steps_of_pointers step_of_enumeration steps_of_arithmetic steps_of_enumeration steps_of_pointer steps_of_kinds value_step steps_to_scalar steps_by_kinds steps_of_value related_kinds related steps_of_related steps_of_unrelated steps_by_relation steps_of_reference steps_between standard_sequence digits calls.fallback_more cast.several
gives tree = shown_of (elaborated (in_turn (tree ∷ [])) state)

-- ---- initializers

-- braces are no expression
abbrev pub read_by : Label → List CxxTree → Asks CxxState CxxTree
read_by label parts s = if nat_eq label.production 22 then Ok (tree_of label parts, s) else elaborate asks (tree_of label parts) s

abbrev pub parts_read : CxxTrees → Asks CxxState (List CxxTree)
parts_read no_trees s = Ok ([], s)
parts_read (tree_then label children next) s =
    then_asked (parts_read children s) λ parts t. then_asked (read_by label parts t) λ tree u. then_asked (parts_read next u) λ others v. Ok (tree ∷ others, v)

abbrev pub first_text : CxxType → List CxxTree → Asks CxxState (List ℕ)
first_text of [] s = Ok ([], s)
first_text of (tree ∷ trees) s = then_asked (initial.initialize asks of tree s) λ whole t. Ok (tree_text whole, t)

abbrev pub text_of : Answer (List ℕ × CxxState) → Answer (List ℕ)
text_of (Ok one) = Ok one.0
text_of (Err why) = Err why

unfoldable pub begins : CxxType → CxxTree → Answer (List ℕ)
unfolding names.static_class initial.initialize initial.array_whole initial.value_whole initial.part elaborate by_production parenthesis judged judged_beside judged_to convert convert_at convert_known convert_more convert_each one_base is_only_base literals.literal literals.operand_of_literal literals.is_text literals.text_operand literals.text_length literal_type literal_value spelling_of word_kind number_kind operator literal hash slash percent keywords alternatives operators digraphs implied.name implied.named_here class_at names.named names.meant_by declared_in operators_of.operator_in operators_of.built operators_of.unconverted operators_of.own_meaning operators_of.prefix operators_of.prefix_asked operators_of.prefix_built operators_of.step operators_of.step_built operators_of.operand_beside operators_of.binary_by operators_of.binary_asked operators_of.binary_built operators_of.conditional operators_of.conditional_built operators_of.arms_built operators_of.arms cast.explicit cast.explicit_found cast.explicit_built cast.static_cast_of cast.static_found cast.static_built cast.constant cast.reinterpreted cast.cast_as cast.cast cast.zero cast.functional sizes.type_of_operand sizes.measured sizes.size size_of object_extent class_in extent_of calls.fallbacks calls.chosen_call calls.function_call calls.through_signature calls.through calls.value_call calls.called calls.name_call calls.call usual promoted follow is_stepped steps_to before after unary_by unary_family_result unary_result beside_integer subscripted added_to built.added distance subtracted compared_pointers compared_by assigned binary_by compound_on compound compound_result family_result binary_result built.built_in_result shared_pointers arms_of_arithmetic arms_of_enumeration arms_of_pointer arms_of_void arms_of conditional.conditional casts.const_cast casts.goes_down casts.static_pointers casts.static_kinds casts.static_objects casts.static_only casts.static_unless casts.static_cast casts.reinterpret_cast casts.cast_operand casts.added casts.between casts.cast_between casts.cast_by_two casts.cast_else casts.cast_unless casts.cast is_complete_object common_other common_pointer is_text is_pending is_derived subobjects base_paths pointer_to_class class_step steps_to_class pointer_to_other steps_of_pointers step_of_enumeration steps_of_arithmetic steps_of_enumeration steps_of_pointer steps_of_kinds value_step steps_to_scalar steps_by_kinds steps_of_value related_kinds related steps_of_related steps_of_unrelated steps_by_relation steps_of_reference steps_between standard_sequence digits calls.fallback_more cast.several
begins of tree = text_of (then_asked (parts_read (in_turn (tree ∷ [])) state) (first_text of))
