-- Casts of objects that clang++ and g++ both take, or both refuse: made by bench/meanings/casts.py.
use Rattle.std.specs.Prelude.{ℕ, ◌≡◌, Bool, true, false, [], ◌∷◌, Option, Some, None, Ok, pos, refl}
use Rattle.cxx_model.specs.declared.base.Base.TheVariants as base
use Rattle.cxx_model.specs.declared.facts.Access.TheVariants.{Public}
use Rattle.cxx_model.specs.declared.facts.ScopeKind.TheVariants as kind
use Rattle.cxx_model.specs.declared.sequence.ConstantKind.TheVariants as constant
use Rattle.cxx_model.specs.declared.types.Cv.{Cv}
use Rattle.cxx_model.specs.Facts.Declarations as facts
use Rattle.cxx_model.specs.Facts.Declarations.{CxxFact, CxxGraph, Declares, unnamed}
use Rattle.cxx_model.specs.Facts.Pending.{is_pending}
use Rattle.cxx_model.specs.Types.Trees.{CxxType, fundamental, class_type, enumeration, pointer_to, reference_to, array_of, function_of, qualified, no_types, type_then, number_bound}
use Rattle.cxx_meaning.specs.Conversions.Asking.{Asked}
use Rattle.cxx_meaning.specs.Conversions.Casts.{CxxCast, added, between, cast, cast_between, cast_by_two, cast_else, cast_operand, cast_unless, const_cast, goes_down, reinterpret_cast, static_cast, static_kinds, static_objects, static_only, static_pointers, static_unless}
use Rattle.cxx_meaning.specs.Conversions.Derived.{is_derived}
use Rattle.cxx_meaning.specs.Conversions.Enumerations.{promoted}
use Rattle.cxx_meaning.specs.Conversions.Kinds.{no_cv}
use Rattle.cxx_meaning.specs.Conversions.Standard.{CxxOperand, only_const, class_step, is_text, pointer_to_class, pointer_to_other, related, related_kinds, step_of_enumeration, steps_between, steps_by_kinds, steps_by_relation, steps_of_arithmetic, steps_of_enumeration, steps_of_kinds, steps_of_pointer, steps_of_pointers, steps_of_reference, steps_of_related, steps_of_unrelated, steps_of_value, steps_to_class, steps_to_scalar, value_step}

abbrev only_volatile : Cv
only_volatile = record { is_const = false; is_volatile = true }

abbrev here : ℕ → Declares → CxxFact
here scope what = record { place = record { line = 1; column = 1 }; scope = scope; name = unnamed; access = Public; what = what }

-- enum E { e0 }; struct B { int b; }; struct D : B { int d; };
abbrev sample : CxxGraph
sample = record { facts = here 0 (facts.scope None kind.Space) ∷ here 0 (facts.enumeration 0) ∷ here 0 (facts.enumerator 0 (pos 0)) ∷ here 0 (facts.class (record { 0 = 0 }) false) ∷ here 0 (facts.complete (record { 0 = 0 })) ∷ here 0 (facts.class (record { 0 = 1 }) false) ∷ here 0 (facts.ancestor (record { 0 = 1 }) (record { 0 = 0 }) 1 Public) ∷ here 0 (facts.complete (record { 0 = 1 })) ∷ []; classes = None ∷ None ∷ []; patterns = [] }

abbrev object_of : CxxType → CxxOperand
object_of t = record { of = t; lvalue = true; constant = constant.No }

abbrev is_some : Asked (Option CxxCast) → Bool
is_some (Ok (Some found)) = true
is_some _ = false

abbrev is_yes : Asked Bool → Bool
is_yes (Ok true) = true
is_yes _ = false

-- D *x; reinterpret_cast<int *&>(x)
cast_1 : reinterpret_cast (object_of (pointer_to (class_type 1))) (reference_to (pointer_to (fundamental base.Int))) ≡ true
unfolding added between cast cast_between cast_by_two cast_else cast_operand cast_unless const_cast goes_down reinterpret_cast static_cast static_kinds static_objects static_only static_pointers static_unless is_derived is_pending promoted class_step is_text pointer_to_class pointer_to_other related related_kinds step_of_enumeration steps_between steps_by_kinds steps_by_relation steps_of_arithmetic steps_of_enumeration steps_of_kinds steps_of_pointer steps_of_pointers steps_of_reference steps_of_related steps_of_unrelated steps_of_value steps_to_class steps_to_scalar value_step
cast_1 = refl

-- D *x; reinterpret_cast<E &>(x)
cast_2 : reinterpret_cast (object_of (pointer_to (class_type 1))) (reference_to (enumeration 0)) ≡ true
unfolding added between cast cast_between cast_by_two cast_else cast_operand cast_unless const_cast goes_down reinterpret_cast static_cast static_kinds static_objects static_only static_pointers static_unless is_derived is_pending promoted class_step is_text pointer_to_class pointer_to_other related related_kinds step_of_enumeration steps_between steps_by_kinds steps_by_relation steps_of_arithmetic steps_of_enumeration steps_of_kinds steps_of_pointer steps_of_pointers steps_of_reference steps_of_related steps_of_unrelated steps_of_value steps_to_class steps_to_scalar value_step
cast_2 = refl

-- E *x; (int (*)[3])x
cast_3 : is_some (cast sample true (object_of (pointer_to (enumeration 0))) (pointer_to (array_of (fundamental base.Int) (number_bound 3)))) ≡ true
unfolding added between cast cast_between cast_by_two cast_else cast_operand cast_unless const_cast goes_down reinterpret_cast static_cast static_kinds static_objects static_only static_pointers static_unless is_derived is_pending promoted class_step is_text pointer_to_class pointer_to_other related related_kinds step_of_enumeration steps_between steps_by_kinds steps_by_relation steps_of_arithmetic steps_of_enumeration steps_of_kinds steps_of_pointer steps_of_pointers steps_of_reference steps_of_related steps_of_unrelated steps_of_value steps_to_class steps_to_scalar value_step
cast_3 = refl

-- long x; (const int &)x
cast_4 : is_some (cast sample true (object_of (fundamental base.Long)) (reference_to (qualified only_const (fundamental base.Int)))) ≡ true
unfolding added between cast cast_between cast_by_two cast_else cast_operand cast_unless const_cast goes_down reinterpret_cast static_cast static_kinds static_objects static_only static_pointers static_unless is_derived is_pending promoted class_step is_text pointer_to_class pointer_to_other related related_kinds step_of_enumeration steps_between steps_by_kinds steps_by_relation steps_of_arithmetic steps_of_enumeration steps_of_kinds steps_of_pointer steps_of_pointers steps_of_reference steps_of_related steps_of_unrelated steps_of_value steps_to_class steps_to_scalar value_step
cast_4 = refl

-- char *x; static_cast<const char *>(x)
cast_5 : is_yes (static_cast sample true (object_of (pointer_to (fundamental base.Char))) (pointer_to (qualified only_const (fundamental base.Char)))) ≡ true
unfolding added between cast cast_between cast_by_two cast_else cast_operand cast_unless const_cast goes_down reinterpret_cast static_cast static_kinds static_objects static_only static_pointers static_unless is_derived is_pending promoted class_step is_text pointer_to_class pointer_to_other related related_kinds step_of_enumeration steps_between steps_by_kinds steps_by_relation steps_of_arithmetic steps_of_enumeration steps_of_kinds steps_of_pointer steps_of_pointers steps_of_reference steps_of_related steps_of_unrelated steps_of_value steps_to_class steps_to_scalar value_step
cast_5 = refl

-- int (*x)[3]; (E *)x
cast_6 : is_some (cast sample true (object_of (pointer_to (array_of (fundamental base.Int) (number_bound 3)))) (pointer_to (enumeration 0))) ≡ true
unfolding added between cast cast_between cast_by_two cast_else cast_operand cast_unless const_cast goes_down reinterpret_cast static_cast static_kinds static_objects static_only static_pointers static_unless is_derived is_pending promoted class_step is_text pointer_to_class pointer_to_other related related_kinds step_of_enumeration steps_between steps_by_kinds steps_by_relation steps_of_arithmetic steps_of_enumeration steps_of_kinds steps_of_pointer steps_of_pointers steps_of_reference steps_of_related steps_of_unrelated steps_of_value steps_to_class steps_to_scalar value_step
cast_6 = refl

-- char *x; reinterpret_cast<long >(x)
cast_7 : reinterpret_cast (object_of (pointer_to (fundamental base.Char))) (fundamental base.Long) ≡ true
unfolding added between cast cast_between cast_by_two cast_else cast_operand cast_unless const_cast goes_down reinterpret_cast static_cast static_kinds static_objects static_only static_pointers static_unless is_derived is_pending promoted class_step is_text pointer_to_class pointer_to_other related related_kinds step_of_enumeration steps_between steps_by_kinds steps_by_relation steps_of_arithmetic steps_of_enumeration steps_of_kinds steps_of_pointer steps_of_pointers steps_of_reference steps_of_related steps_of_unrelated steps_of_value steps_to_class steps_to_scalar value_step
cast_7 = refl

-- const char *x; reinterpret_cast<const int *&>(x)
cast_8 : reinterpret_cast (object_of (pointer_to (qualified only_const (fundamental base.Char)))) (reference_to (pointer_to (qualified only_const (fundamental base.Int)))) ≡ true
unfolding added between cast cast_between cast_by_two cast_else cast_operand cast_unless const_cast goes_down reinterpret_cast static_cast static_kinds static_objects static_only static_pointers static_unless is_derived is_pending promoted class_step is_text pointer_to_class pointer_to_other related related_kinds step_of_enumeration steps_between steps_by_kinds steps_by_relation steps_of_arithmetic steps_of_enumeration steps_of_kinds steps_of_pointer steps_of_pointers steps_of_reference steps_of_related steps_of_unrelated steps_of_value steps_to_class steps_to_scalar value_step
cast_8 = refl

-- int (*x)[3]; reinterpret_cast<int *&>(x)
cast_9 : reinterpret_cast (object_of (pointer_to (array_of (fundamental base.Int) (number_bound 3)))) (reference_to (pointer_to (fundamental base.Int))) ≡ true
unfolding added between cast cast_between cast_by_two cast_else cast_operand cast_unless const_cast goes_down reinterpret_cast static_cast static_kinds static_objects static_only static_pointers static_unless is_derived is_pending promoted class_step is_text pointer_to_class pointer_to_other related related_kinds step_of_enumeration steps_between steps_by_kinds steps_by_relation steps_of_arithmetic steps_of_enumeration steps_of_kinds steps_of_pointer steps_of_pointers steps_of_reference steps_of_related steps_of_unrelated steps_of_value steps_to_class steps_to_scalar value_step
cast_9 = refl

-- int **x; (int *)x
cast_10 : is_some (cast sample true (object_of (pointer_to (pointer_to (fundamental base.Int)))) (pointer_to (fundamental base.Int))) ≡ true
unfolding added between cast cast_between cast_by_two cast_else cast_operand cast_unless const_cast goes_down reinterpret_cast static_cast static_kinds static_objects static_only static_pointers static_unless is_derived is_pending promoted class_step is_text pointer_to_class pointer_to_other related related_kinds step_of_enumeration steps_between steps_by_kinds steps_by_relation steps_of_arithmetic steps_of_enumeration steps_of_kinds steps_of_pointer steps_of_pointers steps_of_reference steps_of_related steps_of_unrelated steps_of_value steps_to_class steps_to_scalar value_step
cast_10 = refl

-- void *x; static_cast<volatile int *>(x)
cast_11 : is_yes (static_cast sample true (object_of (pointer_to (fundamental base.Void))) (pointer_to (qualified only_volatile (fundamental base.Int)))) ≡ true
unfolding added between cast cast_between cast_by_two cast_else cast_operand cast_unless const_cast goes_down reinterpret_cast static_cast static_kinds static_objects static_only static_pointers static_unless is_derived is_pending promoted class_step is_text pointer_to_class pointer_to_other related related_kinds step_of_enumeration steps_between steps_by_kinds steps_by_relation steps_of_arithmetic steps_of_enumeration steps_of_kinds steps_of_pointer steps_of_pointers steps_of_reference steps_of_related steps_of_unrelated steps_of_value steps_to_class steps_to_scalar value_step
cast_11 = refl

-- const B *x; (int *const )x
cast_12 : is_some (cast sample true (object_of (pointer_to (qualified only_const (class_type 0)))) (qualified only_const (pointer_to (fundamental base.Int)))) ≡ true
unfolding added between cast cast_between cast_by_two cast_else cast_operand cast_unless const_cast goes_down reinterpret_cast static_cast static_kinds static_objects static_only static_pointers static_unless is_derived is_pending promoted class_step is_text pointer_to_class pointer_to_other related related_kinds step_of_enumeration steps_between steps_by_kinds steps_by_relation steps_of_arithmetic steps_of_enumeration steps_of_kinds steps_of_pointer steps_of_pointers steps_of_reference steps_of_related steps_of_unrelated steps_of_value steps_to_class steps_to_scalar value_step
cast_12 = refl

-- const B *x; (int *&)x
cast_13 : is_some (cast sample true (object_of (pointer_to (qualified only_const (class_type 0)))) (reference_to (pointer_to (fundamental base.Int)))) ≡ true
unfolding added between cast cast_between cast_by_two cast_else cast_operand cast_unless const_cast goes_down reinterpret_cast static_cast static_kinds static_objects static_only static_pointers static_unless is_derived is_pending promoted class_step is_text pointer_to_class pointer_to_other related related_kinds step_of_enumeration steps_between steps_by_kinds steps_by_relation steps_of_arithmetic steps_of_enumeration steps_of_kinds steps_of_pointer steps_of_pointers steps_of_reference steps_of_related steps_of_unrelated steps_of_value steps_to_class steps_to_scalar value_step
cast_13 = refl

-- D *x; static_cast<D *>(x)
cast_14 : is_yes (static_cast sample true (object_of (pointer_to (class_type 1))) (pointer_to (class_type 1))) ≡ true
unfolding added between cast cast_between cast_by_two cast_else cast_operand cast_unless const_cast goes_down reinterpret_cast static_cast static_kinds static_objects static_only static_pointers static_unless is_derived is_pending promoted class_step is_text pointer_to_class pointer_to_other related related_kinds step_of_enumeration steps_between steps_by_kinds steps_by_relation steps_of_arithmetic steps_of_enumeration steps_of_kinds steps_of_pointer steps_of_pointers steps_of_reference steps_of_related steps_of_unrelated steps_of_value steps_to_class steps_to_scalar value_step
cast_14 = refl

-- D *x; (char *)x
cast_15 : is_some (cast sample true (object_of (pointer_to (class_type 1))) (pointer_to (fundamental base.Char))) ≡ true
unfolding added between cast cast_between cast_by_two cast_else cast_operand cast_unless const_cast goes_down reinterpret_cast static_cast static_kinds static_objects static_only static_pointers static_unless is_derived is_pending promoted class_step is_text pointer_to_class pointer_to_other related related_kinds step_of_enumeration steps_between steps_by_kinds steps_by_relation steps_of_arithmetic steps_of_enumeration steps_of_kinds steps_of_pointer steps_of_pointers steps_of_reference steps_of_related steps_of_unrelated steps_of_value steps_to_class steps_to_scalar value_step
cast_15 = refl

-- char x; reinterpret_cast<const char &>(x)
cast_16 : reinterpret_cast (object_of (fundamental base.Char)) (reference_to (qualified only_const (fundamental base.Char))) ≡ true
unfolding added between cast cast_between cast_by_two cast_else cast_operand cast_unless const_cast goes_down reinterpret_cast static_cast static_kinds static_objects static_only static_pointers static_unless is_derived is_pending promoted class_step is_text pointer_to_class pointer_to_other related related_kinds step_of_enumeration steps_between steps_by_kinds steps_by_relation steps_of_arithmetic steps_of_enumeration steps_of_kinds steps_of_pointer steps_of_pointers steps_of_reference steps_of_related steps_of_unrelated steps_of_value steps_to_class steps_to_scalar value_step
cast_16 = refl

-- E *x; reinterpret_cast<D &>(x)
cast_17 : reinterpret_cast (object_of (pointer_to (enumeration 0))) (reference_to (class_type 1)) ≡ true
unfolding added between cast cast_between cast_by_two cast_else cast_operand cast_unless const_cast goes_down reinterpret_cast static_cast static_kinds static_objects static_only static_pointers static_unless is_derived is_pending promoted class_step is_text pointer_to_class pointer_to_other related related_kinds step_of_enumeration steps_between steps_by_kinds steps_by_relation steps_of_arithmetic steps_of_enumeration steps_of_kinds steps_of_pointer steps_of_pointers steps_of_reference steps_of_related steps_of_unrelated steps_of_value steps_to_class steps_to_scalar value_step
cast_17 = refl

-- D *x; reinterpret_cast<const D *>(x)
cast_18 : reinterpret_cast (object_of (pointer_to (class_type 1))) (pointer_to (qualified only_const (class_type 1))) ≡ true
unfolding added between cast cast_between cast_by_two cast_else cast_operand cast_unless const_cast goes_down reinterpret_cast static_cast static_kinds static_objects static_only static_pointers static_unless is_derived is_pending promoted class_step is_text pointer_to_class pointer_to_other related related_kinds step_of_enumeration steps_between steps_by_kinds steps_by_relation steps_of_arithmetic steps_of_enumeration steps_of_kinds steps_of_pointer steps_of_pointers steps_of_reference steps_of_related steps_of_unrelated steps_of_value steps_to_class steps_to_scalar value_step
cast_18 = refl

-- int x; static_cast<unsigned long >(x)
cast_19 : is_yes (static_cast sample true (object_of (fundamental base.Int)) (fundamental base.UnsignedLong)) ≡ true
unfolding added between cast cast_between cast_by_two cast_else cast_operand cast_unless const_cast goes_down reinterpret_cast static_cast static_kinds static_objects static_only static_pointers static_unless is_derived is_pending promoted class_step is_text pointer_to_class pointer_to_other related related_kinds step_of_enumeration steps_between steps_by_kinds steps_by_relation steps_of_arithmetic steps_of_enumeration steps_of_kinds steps_of_pointer steps_of_pointers steps_of_reference steps_of_related steps_of_unrelated steps_of_value steps_to_class steps_to_scalar value_step
cast_19 = refl

-- E *x; (char *)x
cast_20 : is_some (cast sample true (object_of (pointer_to (enumeration 0))) (pointer_to (fundamental base.Char))) ≡ true
unfolding added between cast cast_between cast_by_two cast_else cast_operand cast_unless const_cast goes_down reinterpret_cast static_cast static_kinds static_objects static_only static_pointers static_unless is_derived is_pending promoted class_step is_text pointer_to_class pointer_to_other related related_kinds step_of_enumeration steps_between steps_by_kinds steps_by_relation steps_of_arithmetic steps_of_enumeration steps_of_kinds steps_of_pointer steps_of_pointers steps_of_reference steps_of_related steps_of_unrelated steps_of_value steps_to_class steps_to_scalar value_step
cast_20 = refl

-- char x; (const void *)x
cast_21 : is_some (cast sample true (object_of (fundamental base.Char)) (pointer_to (qualified only_const (fundamental base.Void)))) ≡ true
unfolding added between cast cast_between cast_by_two cast_else cast_operand cast_unless const_cast goes_down reinterpret_cast static_cast static_kinds static_objects static_only static_pointers static_unless is_derived is_pending promoted class_step is_text pointer_to_class pointer_to_other related related_kinds step_of_enumeration steps_between steps_by_kinds steps_by_relation steps_of_arithmetic steps_of_enumeration steps_of_kinds steps_of_pointer steps_of_pointers steps_of_reference steps_of_related steps_of_unrelated steps_of_value steps_to_class steps_to_scalar value_step
cast_21 = refl

-- unsigned long x; (int *&)x
cast_22 : is_some (cast sample true (object_of (fundamental base.UnsignedLong)) (reference_to (pointer_to (fundamental base.Int)))) ≡ true
unfolding added between cast cast_between cast_by_two cast_else cast_operand cast_unless const_cast goes_down reinterpret_cast static_cast static_kinds static_objects static_only static_pointers static_unless is_derived is_pending promoted class_step is_text pointer_to_class pointer_to_other related related_kinds step_of_enumeration steps_between steps_by_kinds steps_by_relation steps_of_arithmetic steps_of_enumeration steps_of_kinds steps_of_pointer steps_of_pointers steps_of_reference steps_of_related steps_of_unrelated steps_of_value steps_to_class steps_to_scalar value_step
cast_22 = refl

-- int *x; reinterpret_cast<long >(x)
cast_23 : reinterpret_cast (object_of (pointer_to (fundamental base.Int))) (fundamental base.Long) ≡ true
unfolding added between cast cast_between cast_by_two cast_else cast_operand cast_unless const_cast goes_down reinterpret_cast static_cast static_kinds static_objects static_only static_pointers static_unless is_derived is_pending promoted class_step is_text pointer_to_class pointer_to_other related related_kinds step_of_enumeration steps_between steps_by_kinds steps_by_relation steps_of_arithmetic steps_of_enumeration steps_of_kinds steps_of_pointer steps_of_pointers steps_of_reference steps_of_related steps_of_unrelated steps_of_value steps_to_class steps_to_scalar value_step
cast_23 = refl

-- char *x; reinterpret_cast<D *>(x)
cast_24 : reinterpret_cast (object_of (pointer_to (fundamental base.Char))) (pointer_to (class_type 1)) ≡ true
unfolding added between cast cast_between cast_by_two cast_else cast_operand cast_unless const_cast goes_down reinterpret_cast static_cast static_kinds static_objects static_only static_pointers static_unless is_derived is_pending promoted class_step is_text pointer_to_class pointer_to_other related related_kinds step_of_enumeration steps_between steps_by_kinds steps_by_relation steps_of_arithmetic steps_of_enumeration steps_of_kinds steps_of_pointer steps_of_pointers steps_of_reference steps_of_related steps_of_unrelated steps_of_value steps_to_class steps_to_scalar value_step
cast_24 = refl

-- int **x; (int (*)[3])x
cast_25 : is_some (cast sample true (object_of (pointer_to (pointer_to (fundamental base.Int)))) (pointer_to (array_of (fundamental base.Int) (number_bound 3)))) ≡ true
unfolding added between cast cast_between cast_by_two cast_else cast_operand cast_unless const_cast goes_down reinterpret_cast static_cast static_kinds static_objects static_only static_pointers static_unless is_derived is_pending promoted class_step is_text pointer_to_class pointer_to_other related related_kinds step_of_enumeration steps_between steps_by_kinds steps_by_relation steps_of_arithmetic steps_of_enumeration steps_of_kinds steps_of_pointer steps_of_pointers steps_of_reference steps_of_related steps_of_unrelated steps_of_value steps_to_class steps_to_scalar value_step
cast_25 = refl

-- E *x; reinterpret_cast<void *>(x)
cast_26 : reinterpret_cast (object_of (pointer_to (enumeration 0))) (pointer_to (fundamental base.Void)) ≡ true
unfolding added between cast cast_between cast_by_two cast_else cast_operand cast_unless const_cast goes_down reinterpret_cast static_cast static_kinds static_objects static_only static_pointers static_unless is_derived is_pending promoted class_step is_text pointer_to_class pointer_to_other related related_kinds step_of_enumeration steps_between steps_by_kinds steps_by_relation steps_of_arithmetic steps_of_enumeration steps_of_kinds steps_of_pointer steps_of_pointers steps_of_reference steps_of_related steps_of_unrelated steps_of_value steps_to_class steps_to_scalar value_step
cast_26 = refl

-- int x; (const int )x
cast_27 : is_some (cast sample true (object_of (fundamental base.Int)) (qualified only_const (fundamental base.Int))) ≡ true
unfolding added between cast cast_between cast_by_two cast_else cast_operand cast_unless const_cast goes_down reinterpret_cast static_cast static_kinds static_objects static_only static_pointers static_unless is_derived is_pending promoted class_step is_text pointer_to_class pointer_to_other related related_kinds step_of_enumeration steps_between steps_by_kinds steps_by_relation steps_of_arithmetic steps_of_enumeration steps_of_kinds steps_of_pointer steps_of_pointers steps_of_reference steps_of_related steps_of_unrelated steps_of_value steps_to_class steps_to_scalar value_step
cast_27 = refl

-- const int *x; const_cast<int *>(x)
cast_28 : const_cast (object_of (pointer_to (qualified only_const (fundamental base.Int)))) (pointer_to (fundamental base.Int)) ≡ true
unfolding added between cast cast_between cast_by_two cast_else cast_operand cast_unless const_cast goes_down reinterpret_cast static_cast static_kinds static_objects static_only static_pointers static_unless is_derived is_pending promoted class_step is_text pointer_to_class pointer_to_other related related_kinds step_of_enumeration steps_between steps_by_kinds steps_by_relation steps_of_arithmetic steps_of_enumeration steps_of_kinds steps_of_pointer steps_of_pointers steps_of_reference steps_of_related steps_of_unrelated steps_of_value steps_to_class steps_to_scalar value_step
cast_28 = refl

-- int x; (const int *const *)x
cast_29 : is_some (cast sample true (object_of (fundamental base.Int)) (pointer_to (qualified only_const (pointer_to (qualified only_const (fundamental base.Int)))))) ≡ true
unfolding added between cast cast_between cast_by_two cast_else cast_operand cast_unless const_cast goes_down reinterpret_cast static_cast static_kinds static_objects static_only static_pointers static_unless is_derived is_pending promoted class_step is_text pointer_to_class pointer_to_other related related_kinds step_of_enumeration steps_between steps_by_kinds steps_by_relation steps_of_arithmetic steps_of_enumeration steps_of_kinds steps_of_pointer steps_of_pointers steps_of_reference steps_of_related steps_of_unrelated steps_of_value steps_to_class steps_to_scalar value_step
cast_29 = refl

-- volatile int *x; (D &)x
cast_30 : is_some (cast sample true (object_of (pointer_to (qualified only_volatile (fundamental base.Int)))) (reference_to (class_type 1))) ≡ true
unfolding added between cast cast_between cast_by_two cast_else cast_operand cast_unless const_cast goes_down reinterpret_cast static_cast static_kinds static_objects static_only static_pointers static_unless is_derived is_pending promoted class_step is_text pointer_to_class pointer_to_other related related_kinds step_of_enumeration steps_between steps_by_kinds steps_by_relation steps_of_arithmetic steps_of_enumeration steps_of_kinds steps_of_pointer steps_of_pointers steps_of_reference steps_of_related steps_of_unrelated steps_of_value steps_to_class steps_to_scalar value_step
cast_30 = refl

-- E x; reinterpret_cast<int **>(x)
cast_31 : reinterpret_cast (object_of (enumeration 0)) (pointer_to (pointer_to (fundamental base.Int))) ≡ true
unfolding added between cast cast_between cast_by_two cast_else cast_operand cast_unless const_cast goes_down reinterpret_cast static_cast static_kinds static_objects static_only static_pointers static_unless is_derived is_pending promoted class_step is_text pointer_to_class pointer_to_other related related_kinds step_of_enumeration steps_between steps_by_kinds steps_by_relation steps_of_arithmetic steps_of_enumeration steps_of_kinds steps_of_pointer steps_of_pointers steps_of_reference steps_of_related steps_of_unrelated steps_of_value steps_to_class steps_to_scalar value_step
cast_31 = refl

-- char x; reinterpret_cast<B *>(x)
cast_32 : reinterpret_cast (object_of (fundamental base.Char)) (pointer_to (class_type 0)) ≡ true
unfolding added between cast cast_between cast_by_two cast_else cast_operand cast_unless const_cast goes_down reinterpret_cast static_cast static_kinds static_objects static_only static_pointers static_unless is_derived is_pending promoted class_step is_text pointer_to_class pointer_to_other related related_kinds step_of_enumeration steps_between steps_by_kinds steps_by_relation steps_of_arithmetic steps_of_enumeration steps_of_kinds steps_of_pointer steps_of_pointers steps_of_reference steps_of_related steps_of_unrelated steps_of_value steps_to_class steps_to_scalar value_step
cast_32 = refl

-- const B x; (const int *&)x
cast_33 : is_some (cast sample true (object_of (qualified only_const (class_type 0))) (reference_to (pointer_to (qualified only_const (fundamental base.Int))))) ≡ true
unfolding added between cast cast_between cast_by_two cast_else cast_operand cast_unless const_cast goes_down reinterpret_cast static_cast static_kinds static_objects static_only static_pointers static_unless is_derived is_pending promoted class_step is_text pointer_to_class pointer_to_other related related_kinds step_of_enumeration steps_between steps_by_kinds steps_by_relation steps_of_arithmetic steps_of_enumeration steps_of_kinds steps_of_pointer steps_of_pointers steps_of_reference steps_of_related steps_of_unrelated steps_of_value steps_to_class steps_to_scalar value_step
cast_33 = refl

-- int *const x; const_cast<const int *>(x)
cast_34 : const_cast (object_of (qualified only_const (pointer_to (fundamental base.Int)))) (pointer_to (qualified only_const (fundamental base.Int))) ≡ true
unfolding added between cast cast_between cast_by_two cast_else cast_operand cast_unless const_cast goes_down reinterpret_cast static_cast static_kinds static_objects static_only static_pointers static_unless is_derived is_pending promoted class_step is_text pointer_to_class pointer_to_other related related_kinds step_of_enumeration steps_between steps_by_kinds steps_by_relation steps_of_arithmetic steps_of_enumeration steps_of_kinds steps_of_pointer steps_of_pointers steps_of_reference steps_of_related steps_of_unrelated steps_of_value steps_to_class steps_to_scalar value_step
cast_34 = refl

-- int x[3]; (const void *)x
cast_35 : is_some (cast sample true (object_of (array_of (fundamental base.Int) (number_bound 3))) (pointer_to (qualified only_const (fundamental base.Void)))) ≡ true
unfolding added between cast cast_between cast_by_two cast_else cast_operand cast_unless const_cast goes_down reinterpret_cast static_cast static_kinds static_objects static_only static_pointers static_unless is_derived is_pending promoted class_step is_text pointer_to_class pointer_to_other related related_kinds step_of_enumeration steps_between steps_by_kinds steps_by_relation steps_of_arithmetic steps_of_enumeration steps_of_kinds steps_of_pointer steps_of_pointers steps_of_reference steps_of_related steps_of_unrelated steps_of_value steps_to_class steps_to_scalar value_step
cast_35 = refl

-- int *x; reinterpret_cast<int (*)[3]>(x)
cast_36 : reinterpret_cast (object_of (pointer_to (fundamental base.Int))) (pointer_to (array_of (fundamental base.Int) (number_bound 3))) ≡ true
unfolding added between cast cast_between cast_by_two cast_else cast_operand cast_unless const_cast goes_down reinterpret_cast static_cast static_kinds static_objects static_only static_pointers static_unless is_derived is_pending promoted class_step is_text pointer_to_class pointer_to_other related related_kinds step_of_enumeration steps_between steps_by_kinds steps_by_relation steps_of_arithmetic steps_of_enumeration steps_of_kinds steps_of_pointer steps_of_pointers steps_of_reference steps_of_related steps_of_unrelated steps_of_value steps_to_class steps_to_scalar value_step
cast_36 = refl

-- int (*x)[3]; reinterpret_cast<B &>(x)
cast_37 : reinterpret_cast (object_of (pointer_to (array_of (fundamental base.Int) (number_bound 3)))) (reference_to (class_type 0)) ≡ true
unfolding added between cast cast_between cast_by_two cast_else cast_operand cast_unless const_cast goes_down reinterpret_cast static_cast static_kinds static_objects static_only static_pointers static_unless is_derived is_pending promoted class_step is_text pointer_to_class pointer_to_other related related_kinds step_of_enumeration steps_between steps_by_kinds steps_by_relation steps_of_arithmetic steps_of_enumeration steps_of_kinds steps_of_pointer steps_of_pointers steps_of_reference steps_of_related steps_of_unrelated steps_of_value steps_to_class steps_to_scalar value_step
cast_37 = refl

-- char x; reinterpret_cast<E &>(x)
cast_38 : reinterpret_cast (object_of (fundamental base.Char)) (reference_to (enumeration 0)) ≡ true
unfolding added between cast cast_between cast_by_two cast_else cast_operand cast_unless const_cast goes_down reinterpret_cast static_cast static_kinds static_objects static_only static_pointers static_unless is_derived is_pending promoted class_step is_text pointer_to_class pointer_to_other related related_kinds step_of_enumeration steps_between steps_by_kinds steps_by_relation steps_of_arithmetic steps_of_enumeration steps_of_kinds steps_of_pointer steps_of_pointers steps_of_reference steps_of_related steps_of_unrelated steps_of_value steps_to_class steps_to_scalar value_step
cast_38 = refl

-- const D *x; reinterpret_cast<unsigned long >(x)
cast_39 : reinterpret_cast (object_of (pointer_to (qualified only_const (class_type 1)))) (fundamental base.UnsignedLong) ≡ true
unfolding added between cast cast_between cast_by_two cast_else cast_operand cast_unless const_cast goes_down reinterpret_cast static_cast static_kinds static_objects static_only static_pointers static_unless is_derived is_pending promoted class_step is_text pointer_to_class pointer_to_other related related_kinds step_of_enumeration steps_between steps_by_kinds steps_by_relation steps_of_arithmetic steps_of_enumeration steps_of_kinds steps_of_pointer steps_of_pointers steps_of_reference steps_of_related steps_of_unrelated steps_of_value steps_to_class steps_to_scalar value_step
cast_39 = refl

-- E *x; reinterpret_cast<unsigned long >(x)
cast_40 : reinterpret_cast (object_of (pointer_to (enumeration 0))) (fundamental base.UnsignedLong) ≡ true
unfolding added between cast cast_between cast_by_two cast_else cast_operand cast_unless const_cast goes_down reinterpret_cast static_cast static_kinds static_objects static_only static_pointers static_unless is_derived is_pending promoted class_step is_text pointer_to_class pointer_to_other related related_kinds step_of_enumeration steps_between steps_by_kinds steps_by_relation steps_of_arithmetic steps_of_enumeration steps_of_kinds steps_of_pointer steps_of_pointers steps_of_reference steps_of_related steps_of_unrelated steps_of_value steps_to_class steps_to_scalar value_step
cast_40 = refl

-- bool x; reinterpret_cast<int *const >(x)
cast_41 : reinterpret_cast (object_of (fundamental base.Bool)) (qualified only_const (pointer_to (fundamental base.Int))) ≡ true
unfolding added between cast cast_between cast_by_two cast_else cast_operand cast_unless const_cast goes_down reinterpret_cast static_cast static_kinds static_objects static_only static_pointers static_unless is_derived is_pending promoted class_step is_text pointer_to_class pointer_to_other related related_kinds step_of_enumeration steps_between steps_by_kinds steps_by_relation steps_of_arithmetic steps_of_enumeration steps_of_kinds steps_of_pointer steps_of_pointers steps_of_reference steps_of_related steps_of_unrelated steps_of_value steps_to_class steps_to_scalar value_step
cast_41 = refl

-- const int x; static_cast<unsigned long >(x)
cast_42 : is_yes (static_cast sample true (object_of (qualified only_const (fundamental base.Int))) (fundamental base.UnsignedLong)) ≡ true
unfolding added between cast cast_between cast_by_two cast_else cast_operand cast_unless const_cast goes_down reinterpret_cast static_cast static_kinds static_objects static_only static_pointers static_unless is_derived is_pending promoted class_step is_text pointer_to_class pointer_to_other related related_kinds step_of_enumeration steps_between steps_by_kinds steps_by_relation steps_of_arithmetic steps_of_enumeration steps_of_kinds steps_of_pointer steps_of_pointers steps_of_reference steps_of_related steps_of_unrelated steps_of_value steps_to_class steps_to_scalar value_step
cast_42 = refl

-- void (*x)(); static_cast<void >(x)
cast_43 : is_yes (static_cast sample true (object_of (pointer_to (function_of (fundamental base.Void) no_types false no_cv))) (fundamental base.Void)) ≡ true
unfolding added between cast cast_between cast_by_two cast_else cast_operand cast_unless const_cast goes_down reinterpret_cast static_cast static_kinds static_objects static_only static_pointers static_unless is_derived is_pending promoted class_step is_text pointer_to_class pointer_to_other related related_kinds step_of_enumeration steps_between steps_by_kinds steps_by_relation steps_of_arithmetic steps_of_enumeration steps_of_kinds steps_of_pointer steps_of_pointers steps_of_reference steps_of_related steps_of_unrelated steps_of_value steps_to_class steps_to_scalar value_step
cast_43 = refl

-- const int *const *x; (long )x
cast_44 : is_some (cast sample true (object_of (pointer_to (qualified only_const (pointer_to (qualified only_const (fundamental base.Int)))))) (fundamental base.Long)) ≡ true
unfolding added between cast cast_between cast_by_two cast_else cast_operand cast_unless const_cast goes_down reinterpret_cast static_cast static_kinds static_objects static_only static_pointers static_unless is_derived is_pending promoted class_step is_text pointer_to_class pointer_to_other related related_kinds step_of_enumeration steps_between steps_by_kinds steps_by_relation steps_of_arithmetic steps_of_enumeration steps_of_kinds steps_of_pointer steps_of_pointers steps_of_reference steps_of_related steps_of_unrelated steps_of_value steps_to_class steps_to_scalar value_step
cast_44 = refl

-- E x; (const void *)x
cast_45 : is_some (cast sample true (object_of (enumeration 0)) (pointer_to (qualified only_const (fundamental base.Void)))) ≡ true
unfolding added between cast cast_between cast_by_two cast_else cast_operand cast_unless const_cast goes_down reinterpret_cast static_cast static_kinds static_objects static_only static_pointers static_unless is_derived is_pending promoted class_step is_text pointer_to_class pointer_to_other related related_kinds step_of_enumeration steps_between steps_by_kinds steps_by_relation steps_of_arithmetic steps_of_enumeration steps_of_kinds steps_of_pointer steps_of_pointers steps_of_reference steps_of_related steps_of_unrelated steps_of_value steps_to_class steps_to_scalar value_step
cast_45 = refl

-- const B *x; reinterpret_cast<const D *>(x)
cast_46 : reinterpret_cast (object_of (pointer_to (qualified only_const (class_type 0)))) (pointer_to (qualified only_const (class_type 1))) ≡ true
unfolding added between cast cast_between cast_by_two cast_else cast_operand cast_unless const_cast goes_down reinterpret_cast static_cast static_kinds static_objects static_only static_pointers static_unless is_derived is_pending promoted class_step is_text pointer_to_class pointer_to_other related related_kinds step_of_enumeration steps_between steps_by_kinds steps_by_relation steps_of_arithmetic steps_of_enumeration steps_of_kinds steps_of_pointer steps_of_pointers steps_of_reference steps_of_related steps_of_unrelated steps_of_value steps_to_class steps_to_scalar value_step
cast_46 = refl

-- char x; (int )x
cast_47 : is_some (cast sample true (object_of (fundamental base.Char)) (fundamental base.Int)) ≡ true
unfolding added between cast cast_between cast_by_two cast_else cast_operand cast_unless const_cast goes_down reinterpret_cast static_cast static_kinds static_objects static_only static_pointers static_unless is_derived is_pending promoted class_step is_text pointer_to_class pointer_to_other related related_kinds step_of_enumeration steps_between steps_by_kinds steps_by_relation steps_of_arithmetic steps_of_enumeration steps_of_kinds steps_of_pointer steps_of_pointers steps_of_reference steps_of_related steps_of_unrelated steps_of_value steps_to_class steps_to_scalar value_step
cast_47 = refl

-- B *x; static_cast<void >(x)
cast_48 : is_yes (static_cast sample true (object_of (pointer_to (class_type 0))) (fundamental base.Void)) ≡ true
unfolding added between cast cast_between cast_by_two cast_else cast_operand cast_unless const_cast goes_down reinterpret_cast static_cast static_kinds static_objects static_only static_pointers static_unless is_derived is_pending promoted class_step is_text pointer_to_class pointer_to_other related related_kinds step_of_enumeration steps_between steps_by_kinds steps_by_relation steps_of_arithmetic steps_of_enumeration steps_of_kinds steps_of_pointer steps_of_pointers steps_of_reference steps_of_related steps_of_unrelated steps_of_value steps_to_class steps_to_scalar value_step
cast_48 = refl

-- const D *x; reinterpret_cast<char &>(x)
cast_49 : reinterpret_cast (object_of (pointer_to (qualified only_const (class_type 1)))) (reference_to (fundamental base.Char)) ≡ true
unfolding added between cast cast_between cast_by_two cast_else cast_operand cast_unless const_cast goes_down reinterpret_cast static_cast static_kinds static_objects static_only static_pointers static_unless is_derived is_pending promoted class_step is_text pointer_to_class pointer_to_other related related_kinds step_of_enumeration steps_between steps_by_kinds steps_by_relation steps_of_arithmetic steps_of_enumeration steps_of_kinds steps_of_pointer steps_of_pointers steps_of_reference steps_of_related steps_of_unrelated steps_of_value steps_to_class steps_to_scalar value_step
cast_49 = refl

-- const B *x; (const char &)x
cast_50 : is_some (cast sample true (object_of (pointer_to (qualified only_const (class_type 0)))) (reference_to (qualified only_const (fundamental base.Char)))) ≡ true
unfolding added between cast cast_between cast_by_two cast_else cast_operand cast_unless const_cast goes_down reinterpret_cast static_cast static_kinds static_objects static_only static_pointers static_unless is_derived is_pending promoted class_step is_text pointer_to_class pointer_to_other related related_kinds step_of_enumeration steps_between steps_by_kinds steps_by_relation steps_of_arithmetic steps_of_enumeration steps_of_kinds steps_of_pointer steps_of_pointers steps_of_reference steps_of_related steps_of_unrelated steps_of_value steps_to_class steps_to_scalar value_step
cast_50 = refl

-- int x[3]; (void *)x
cast_51 : is_some (cast sample true (object_of (array_of (fundamental base.Int) (number_bound 3))) (pointer_to (fundamental base.Void))) ≡ true
unfolding added between cast cast_between cast_by_two cast_else cast_operand cast_unless const_cast goes_down reinterpret_cast static_cast static_kinds static_objects static_only static_pointers static_unless is_derived is_pending promoted class_step is_text pointer_to_class pointer_to_other related related_kinds step_of_enumeration steps_between steps_by_kinds steps_by_relation steps_of_arithmetic steps_of_enumeration steps_of_kinds steps_of_pointer steps_of_pointers steps_of_reference steps_of_related steps_of_unrelated steps_of_value steps_to_class steps_to_scalar value_step
cast_51 = refl

-- const int *x; (char &)x
cast_52 : is_some (cast sample true (object_of (pointer_to (qualified only_const (fundamental base.Int)))) (reference_to (fundamental base.Char))) ≡ true
unfolding added between cast cast_between cast_by_two cast_else cast_operand cast_unless const_cast goes_down reinterpret_cast static_cast static_kinds static_objects static_only static_pointers static_unless is_derived is_pending promoted class_step is_text pointer_to_class pointer_to_other related related_kinds step_of_enumeration steps_between steps_by_kinds steps_by_relation steps_of_arithmetic steps_of_enumeration steps_of_kinds steps_of_pointer steps_of_pointers steps_of_reference steps_of_related steps_of_unrelated steps_of_value steps_to_class steps_to_scalar value_step
cast_52 = refl

-- volatile int *x; (void )x
cast_53 : is_some (cast sample true (object_of (pointer_to (qualified only_volatile (fundamental base.Int)))) (fundamental base.Void)) ≡ true
unfolding added between cast cast_between cast_by_two cast_else cast_operand cast_unless const_cast goes_down reinterpret_cast static_cast static_kinds static_objects static_only static_pointers static_unless is_derived is_pending promoted class_step is_text pointer_to_class pointer_to_other related related_kinds step_of_enumeration steps_between steps_by_kinds steps_by_relation steps_of_arithmetic steps_of_enumeration steps_of_kinds steps_of_pointer steps_of_pointers steps_of_reference steps_of_related steps_of_unrelated steps_of_value steps_to_class steps_to_scalar value_step
cast_53 = refl

-- const B *x; reinterpret_cast<const D &>(x)
cast_54 : reinterpret_cast (object_of (pointer_to (qualified only_const (class_type 0)))) (reference_to (qualified only_const (class_type 1))) ≡ true
unfolding added between cast cast_between cast_by_two cast_else cast_operand cast_unless const_cast goes_down reinterpret_cast static_cast static_kinds static_objects static_only static_pointers static_unless is_derived is_pending promoted class_step is_text pointer_to_class pointer_to_other related related_kinds step_of_enumeration steps_between steps_by_kinds steps_by_relation steps_of_arithmetic steps_of_enumeration steps_of_kinds steps_of_pointer steps_of_pointers steps_of_reference steps_of_related steps_of_unrelated steps_of_value steps_to_class steps_to_scalar value_step
cast_54 = refl

-- char x; reinterpret_cast<const B &>(x)
cast_55 : reinterpret_cast (object_of (fundamental base.Char)) (reference_to (qualified only_const (class_type 0))) ≡ true
unfolding added between cast cast_between cast_by_two cast_else cast_operand cast_unless const_cast goes_down reinterpret_cast static_cast static_kinds static_objects static_only static_pointers static_unless is_derived is_pending promoted class_step is_text pointer_to_class pointer_to_other related related_kinds step_of_enumeration steps_between steps_by_kinds steps_by_relation steps_of_arithmetic steps_of_enumeration steps_of_kinds steps_of_pointer steps_of_pointers steps_of_reference steps_of_related steps_of_unrelated steps_of_value steps_to_class steps_to_scalar value_step
cast_55 = refl

-- D x; (E &)x
cast_56 : is_some (cast sample true (object_of (class_type 1)) (reference_to (enumeration 0))) ≡ true
unfolding added between cast cast_between cast_by_two cast_else cast_operand cast_unless const_cast goes_down reinterpret_cast static_cast static_kinds static_objects static_only static_pointers static_unless is_derived is_pending promoted class_step is_text pointer_to_class pointer_to_other related related_kinds step_of_enumeration steps_between steps_by_kinds steps_by_relation steps_of_arithmetic steps_of_enumeration steps_of_kinds steps_of_pointer steps_of_pointers steps_of_reference steps_of_related steps_of_unrelated steps_of_value steps_to_class steps_to_scalar value_step
cast_56 = refl

-- int **x; (void *)x
cast_57 : is_some (cast sample true (object_of (pointer_to (pointer_to (fundamental base.Int)))) (pointer_to (fundamental base.Void))) ≡ true
unfolding added between cast cast_between cast_by_two cast_else cast_operand cast_unless const_cast goes_down reinterpret_cast static_cast static_kinds static_objects static_only static_pointers static_unless is_derived is_pending promoted class_step is_text pointer_to_class pointer_to_other related related_kinds step_of_enumeration steps_between steps_by_kinds steps_by_relation steps_of_arithmetic steps_of_enumeration steps_of_kinds steps_of_pointer steps_of_pointers steps_of_reference steps_of_related steps_of_unrelated steps_of_value steps_to_class steps_to_scalar value_step
cast_57 = refl

-- D x; (D &)x
cast_58 : is_some (cast sample true (object_of (class_type 1)) (reference_to (class_type 1))) ≡ true
unfolding added between cast cast_between cast_by_two cast_else cast_operand cast_unless const_cast goes_down reinterpret_cast static_cast static_kinds static_objects static_only static_pointers static_unless is_derived is_pending promoted class_step is_text pointer_to_class pointer_to_other related related_kinds step_of_enumeration steps_between steps_by_kinds steps_by_relation steps_of_arithmetic steps_of_enumeration steps_of_kinds steps_of_pointer steps_of_pointers steps_of_reference steps_of_related steps_of_unrelated steps_of_value steps_to_class steps_to_scalar value_step
cast_58 = refl

-- unsigned long x; reinterpret_cast<B &>(x)
cast_59 : reinterpret_cast (object_of (fundamental base.UnsignedLong)) (reference_to (class_type 0)) ≡ true
unfolding added between cast cast_between cast_by_two cast_else cast_operand cast_unless const_cast goes_down reinterpret_cast static_cast static_kinds static_objects static_only static_pointers static_unless is_derived is_pending promoted class_step is_text pointer_to_class pointer_to_other related related_kinds step_of_enumeration steps_between steps_by_kinds steps_by_relation steps_of_arithmetic steps_of_enumeration steps_of_kinds steps_of_pointer steps_of_pointers steps_of_reference steps_of_related steps_of_unrelated steps_of_value steps_to_class steps_to_scalar value_step
cast_59 = refl

-- char x; reinterpret_cast<const void *>(x)
cast_60 : reinterpret_cast (object_of (fundamental base.Char)) (pointer_to (qualified only_const (fundamental base.Void))) ≡ true
unfolding added between cast cast_between cast_by_two cast_else cast_operand cast_unless const_cast goes_down reinterpret_cast static_cast static_kinds static_objects static_only static_pointers static_unless is_derived is_pending promoted class_step is_text pointer_to_class pointer_to_other related related_kinds step_of_enumeration steps_between steps_by_kinds steps_by_relation steps_of_arithmetic steps_of_enumeration steps_of_kinds steps_of_pointer steps_of_pointers steps_of_reference steps_of_related steps_of_unrelated steps_of_value steps_to_class steps_to_scalar value_step
cast_60 = refl

-- char x; reinterpret_cast<int (*)[3]>(x)
cast_61 : reinterpret_cast (object_of (fundamental base.Char)) (pointer_to (array_of (fundamental base.Int) (number_bound 3))) ≡ true
unfolding added between cast cast_between cast_by_two cast_else cast_operand cast_unless const_cast goes_down reinterpret_cast static_cast static_kinds static_objects static_only static_pointers static_unless is_derived is_pending promoted class_step is_text pointer_to_class pointer_to_other related related_kinds step_of_enumeration steps_between steps_by_kinds steps_by_relation steps_of_arithmetic steps_of_enumeration steps_of_kinds steps_of_pointer steps_of_pointers steps_of_reference steps_of_related steps_of_unrelated steps_of_value steps_to_class steps_to_scalar value_step
cast_61 = refl

-- D *x; (const int *&)x
cast_62 : is_some (cast sample true (object_of (pointer_to (class_type 1))) (reference_to (pointer_to (qualified only_const (fundamental base.Int))))) ≡ true
unfolding added between cast cast_between cast_by_two cast_else cast_operand cast_unless const_cast goes_down reinterpret_cast static_cast static_kinds static_objects static_only static_pointers static_unless is_derived is_pending promoted class_step is_text pointer_to_class pointer_to_other related related_kinds step_of_enumeration steps_between steps_by_kinds steps_by_relation steps_of_arithmetic steps_of_enumeration steps_of_kinds steps_of_pointer steps_of_pointers steps_of_reference steps_of_related steps_of_unrelated steps_of_value steps_to_class steps_to_scalar value_step
cast_62 = refl

-- E *x; reinterpret_cast<int *&>(x)
cast_63 : reinterpret_cast (object_of (pointer_to (enumeration 0))) (reference_to (pointer_to (fundamental base.Int))) ≡ true
unfolding added between cast cast_between cast_by_two cast_else cast_operand cast_unless const_cast goes_down reinterpret_cast static_cast static_kinds static_objects static_only static_pointers static_unless is_derived is_pending promoted class_step is_text pointer_to_class pointer_to_other related related_kinds step_of_enumeration steps_between steps_by_kinds steps_by_relation steps_of_arithmetic steps_of_enumeration steps_of_kinds steps_of_pointer steps_of_pointers steps_of_reference steps_of_related steps_of_unrelated steps_of_value steps_to_class steps_to_scalar value_step
cast_63 = refl

-- E *x; (volatile int *)x
cast_64 : is_some (cast sample true (object_of (pointer_to (enumeration 0))) (pointer_to (qualified only_volatile (fundamental base.Int)))) ≡ true
unfolding added between cast cast_between cast_by_two cast_else cast_operand cast_unless const_cast goes_down reinterpret_cast static_cast static_kinds static_objects static_only static_pointers static_unless is_derived is_pending promoted class_step is_text pointer_to_class pointer_to_other related related_kinds step_of_enumeration steps_between steps_by_kinds steps_by_relation steps_of_arithmetic steps_of_enumeration steps_of_kinds steps_of_pointer steps_of_pointers steps_of_reference steps_of_related steps_of_unrelated steps_of_value steps_to_class steps_to_scalar value_step
cast_64 = refl

-- unsigned long x; reinterpret_cast<const char &>(x)
cast_65 : reinterpret_cast (object_of (fundamental base.UnsignedLong)) (reference_to (qualified only_const (fundamental base.Char))) ≡ true
unfolding added between cast cast_between cast_by_two cast_else cast_operand cast_unless const_cast goes_down reinterpret_cast static_cast static_kinds static_objects static_only static_pointers static_unless is_derived is_pending promoted class_step is_text pointer_to_class pointer_to_other related related_kinds step_of_enumeration steps_between steps_by_kinds steps_by_relation steps_of_arithmetic steps_of_enumeration steps_of_kinds steps_of_pointer steps_of_pointers steps_of_reference steps_of_related steps_of_unrelated steps_of_value steps_to_class steps_to_scalar value_step
cast_65 = refl

-- long x; reinterpret_cast<E *>(x)
cast_66 : reinterpret_cast (object_of (fundamental base.Long)) (pointer_to (enumeration 0)) ≡ true
unfolding added between cast cast_between cast_by_two cast_else cast_operand cast_unless const_cast goes_down reinterpret_cast static_cast static_kinds static_objects static_only static_pointers static_unless is_derived is_pending promoted class_step is_text pointer_to_class pointer_to_other related related_kinds step_of_enumeration steps_between steps_by_kinds steps_by_relation steps_of_arithmetic steps_of_enumeration steps_of_kinds steps_of_pointer steps_of_pointers steps_of_reference steps_of_related steps_of_unrelated steps_of_value steps_to_class steps_to_scalar value_step
cast_66 = refl

-- int *const x; (const B *)x
cast_67 : is_some (cast sample true (object_of (qualified only_const (pointer_to (fundamental base.Int)))) (pointer_to (qualified only_const (class_type 0)))) ≡ true
unfolding added between cast cast_between cast_by_two cast_else cast_operand cast_unless const_cast goes_down reinterpret_cast static_cast static_kinds static_objects static_only static_pointers static_unless is_derived is_pending promoted class_step is_text pointer_to_class pointer_to_other related related_kinds step_of_enumeration steps_between steps_by_kinds steps_by_relation steps_of_arithmetic steps_of_enumeration steps_of_kinds steps_of_pointer steps_of_pointers steps_of_reference steps_of_related steps_of_unrelated steps_of_value steps_to_class steps_to_scalar value_step
cast_67 = refl

-- double x; (long )x
cast_68 : is_some (cast sample true (object_of (fundamental base.Double)) (fundamental base.Long)) ≡ true
unfolding added between cast cast_between cast_by_two cast_else cast_operand cast_unless const_cast goes_down reinterpret_cast static_cast static_kinds static_objects static_only static_pointers static_unless is_derived is_pending promoted class_step is_text pointer_to_class pointer_to_other related related_kinds step_of_enumeration steps_between steps_by_kinds steps_by_relation steps_of_arithmetic steps_of_enumeration steps_of_kinds steps_of_pointer steps_of_pointers steps_of_reference steps_of_related steps_of_unrelated steps_of_value steps_to_class steps_to_scalar value_step
cast_68 = refl

-- int x[3]; reinterpret_cast<const void *>(x)
cast_69 : reinterpret_cast (object_of (array_of (fundamental base.Int) (number_bound 3))) (pointer_to (qualified only_const (fundamental base.Void))) ≡ true
unfolding added between cast cast_between cast_by_two cast_else cast_operand cast_unless const_cast goes_down reinterpret_cast static_cast static_kinds static_objects static_only static_pointers static_unless is_derived is_pending promoted class_step is_text pointer_to_class pointer_to_other related related_kinds step_of_enumeration steps_between steps_by_kinds steps_by_relation steps_of_arithmetic steps_of_enumeration steps_of_kinds steps_of_pointer steps_of_pointers steps_of_reference steps_of_related steps_of_unrelated steps_of_value steps_to_class steps_to_scalar value_step
cast_69 = refl

-- D *x; reinterpret_cast<long >(x)
cast_70 : reinterpret_cast (object_of (pointer_to (class_type 1))) (fundamental base.Long) ≡ true
unfolding added between cast cast_between cast_by_two cast_else cast_operand cast_unless const_cast goes_down reinterpret_cast static_cast static_kinds static_objects static_only static_pointers static_unless is_derived is_pending promoted class_step is_text pointer_to_class pointer_to_other related related_kinds step_of_enumeration steps_between steps_by_kinds steps_by_relation steps_of_arithmetic steps_of_enumeration steps_of_kinds steps_of_pointer steps_of_pointers steps_of_reference steps_of_related steps_of_unrelated steps_of_value steps_to_class steps_to_scalar value_step
cast_70 = refl

-- E x; (void )x
cast_71 : is_some (cast sample true (object_of (enumeration 0)) (fundamental base.Void)) ≡ true
unfolding added between cast cast_between cast_by_two cast_else cast_operand cast_unless const_cast goes_down reinterpret_cast static_cast static_kinds static_objects static_only static_pointers static_unless is_derived is_pending promoted class_step is_text pointer_to_class pointer_to_other related related_kinds step_of_enumeration steps_between steps_by_kinds steps_by_relation steps_of_arithmetic steps_of_enumeration steps_of_kinds steps_of_pointer steps_of_pointers steps_of_reference steps_of_related steps_of_unrelated steps_of_value steps_to_class steps_to_scalar value_step
cast_71 = refl

-- int *x; (const B &)x
cast_72 : is_some (cast sample true (object_of (pointer_to (fundamental base.Int))) (reference_to (qualified only_const (class_type 0)))) ≡ true
unfolding added between cast cast_between cast_by_two cast_else cast_operand cast_unless const_cast goes_down reinterpret_cast static_cast static_kinds static_objects static_only static_pointers static_unless is_derived is_pending promoted class_step is_text pointer_to_class pointer_to_other related related_kinds step_of_enumeration steps_between steps_by_kinds steps_by_relation steps_of_arithmetic steps_of_enumeration steps_of_kinds steps_of_pointer steps_of_pointers steps_of_reference steps_of_related steps_of_unrelated steps_of_value steps_to_class steps_to_scalar value_step
cast_72 = refl

-- bool x; (const int &)x
cast_73 : is_some (cast sample true (object_of (fundamental base.Bool)) (reference_to (qualified only_const (fundamental base.Int)))) ≡ true
unfolding added between cast cast_between cast_by_two cast_else cast_operand cast_unless const_cast goes_down reinterpret_cast static_cast static_kinds static_objects static_only static_pointers static_unless is_derived is_pending promoted class_step is_text pointer_to_class pointer_to_other related related_kinds step_of_enumeration steps_between steps_by_kinds steps_by_relation steps_of_arithmetic steps_of_enumeration steps_of_kinds steps_of_pointer steps_of_pointers steps_of_reference steps_of_related steps_of_unrelated steps_of_value steps_to_class steps_to_scalar value_step
cast_73 = refl

-- int *const *x; reinterpret_cast<const B *>(x)
cast_74 : reinterpret_cast (object_of (pointer_to (qualified only_const (pointer_to (fundamental base.Int))))) (pointer_to (qualified only_const (class_type 0))) ≡ true
unfolding added between cast cast_between cast_by_two cast_else cast_operand cast_unless const_cast goes_down reinterpret_cast static_cast static_kinds static_objects static_only static_pointers static_unless is_derived is_pending promoted class_step is_text pointer_to_class pointer_to_other related related_kinds step_of_enumeration steps_between steps_by_kinds steps_by_relation steps_of_arithmetic steps_of_enumeration steps_of_kinds steps_of_pointer steps_of_pointers steps_of_reference steps_of_related steps_of_unrelated steps_of_value steps_to_class steps_to_scalar value_step
cast_74 = refl

-- int **x; (E *)x
cast_75 : is_some (cast sample true (object_of (pointer_to (pointer_to (fundamental base.Int)))) (pointer_to (enumeration 0))) ≡ true
unfolding added between cast cast_between cast_by_two cast_else cast_operand cast_unless const_cast goes_down reinterpret_cast static_cast static_kinds static_objects static_only static_pointers static_unless is_derived is_pending promoted class_step is_text pointer_to_class pointer_to_other related related_kinds step_of_enumeration steps_between steps_by_kinds steps_by_relation steps_of_arithmetic steps_of_enumeration steps_of_kinds steps_of_pointer steps_of_pointers steps_of_reference steps_of_related steps_of_unrelated steps_of_value steps_to_class steps_to_scalar value_step
cast_75 = refl

-- char *x; reinterpret_cast<int *>(x)
cast_76 : reinterpret_cast (object_of (pointer_to (fundamental base.Char))) (pointer_to (fundamental base.Int)) ≡ true
unfolding added between cast cast_between cast_by_two cast_else cast_operand cast_unless const_cast goes_down reinterpret_cast static_cast static_kinds static_objects static_only static_pointers static_unless is_derived is_pending promoted class_step is_text pointer_to_class pointer_to_other related related_kinds step_of_enumeration steps_between steps_by_kinds steps_by_relation steps_of_arithmetic steps_of_enumeration steps_of_kinds steps_of_pointer steps_of_pointers steps_of_reference steps_of_related steps_of_unrelated steps_of_value steps_to_class steps_to_scalar value_step
cast_76 = refl

-- bool x; (const char *)x
cast_77 : is_some (cast sample true (object_of (fundamental base.Bool)) (pointer_to (qualified only_const (fundamental base.Char)))) ≡ true
unfolding added between cast cast_between cast_by_two cast_else cast_operand cast_unless const_cast goes_down reinterpret_cast static_cast static_kinds static_objects static_only static_pointers static_unless is_derived is_pending promoted class_step is_text pointer_to_class pointer_to_other related related_kinds step_of_enumeration steps_between steps_by_kinds steps_by_relation steps_of_arithmetic steps_of_enumeration steps_of_kinds steps_of_pointer steps_of_pointers steps_of_reference steps_of_related steps_of_unrelated steps_of_value steps_to_class steps_to_scalar value_step
cast_77 = refl

-- void *x; reinterpret_cast<long >(x)
cast_78 : reinterpret_cast (object_of (pointer_to (fundamental base.Void))) (fundamental base.Long) ≡ true
unfolding added between cast cast_between cast_by_two cast_else cast_operand cast_unless const_cast goes_down reinterpret_cast static_cast static_kinds static_objects static_only static_pointers static_unless is_derived is_pending promoted class_step is_text pointer_to_class pointer_to_other related related_kinds step_of_enumeration steps_between steps_by_kinds steps_by_relation steps_of_arithmetic steps_of_enumeration steps_of_kinds steps_of_pointer steps_of_pointers steps_of_reference steps_of_related steps_of_unrelated steps_of_value steps_to_class steps_to_scalar value_step
cast_78 = refl

-- long x; (const int *&)x
cast_79 : is_some (cast sample true (object_of (fundamental base.Long)) (reference_to (pointer_to (qualified only_const (fundamental base.Int))))) ≡ true
unfolding added between cast cast_between cast_by_two cast_else cast_operand cast_unless const_cast goes_down reinterpret_cast static_cast static_kinds static_objects static_only static_pointers static_unless is_derived is_pending promoted class_step is_text pointer_to_class pointer_to_other related related_kinds step_of_enumeration steps_between steps_by_kinds steps_by_relation steps_of_arithmetic steps_of_enumeration steps_of_kinds steps_of_pointer steps_of_pointers steps_of_reference steps_of_related steps_of_unrelated steps_of_value steps_to_class steps_to_scalar value_step
cast_79 = refl

-- E *x; (const int **)x
cast_80 : is_some (cast sample true (object_of (pointer_to (enumeration 0))) (pointer_to (pointer_to (qualified only_const (fundamental base.Int))))) ≡ true
unfolding added between cast cast_between cast_by_two cast_else cast_operand cast_unless const_cast goes_down reinterpret_cast static_cast static_kinds static_objects static_only static_pointers static_unless is_derived is_pending promoted class_step is_text pointer_to_class pointer_to_other related related_kinds step_of_enumeration steps_between steps_by_kinds steps_by_relation steps_of_arithmetic steps_of_enumeration steps_of_kinds steps_of_pointer steps_of_pointers steps_of_reference steps_of_related steps_of_unrelated steps_of_value steps_to_class steps_to_scalar value_step
cast_80 = refl

-- void *x; (const int *const *)x
cast_81 : is_some (cast sample true (object_of (pointer_to (fundamental base.Void))) (pointer_to (qualified only_const (pointer_to (qualified only_const (fundamental base.Int)))))) ≡ true
unfolding added between cast cast_between cast_by_two cast_else cast_operand cast_unless const_cast goes_down reinterpret_cast static_cast static_kinds static_objects static_only static_pointers static_unless is_derived is_pending promoted class_step is_text pointer_to_class pointer_to_other related related_kinds step_of_enumeration steps_between steps_by_kinds steps_by_relation steps_of_arithmetic steps_of_enumeration steps_of_kinds steps_of_pointer steps_of_pointers steps_of_reference steps_of_related steps_of_unrelated steps_of_value steps_to_class steps_to_scalar value_step
cast_81 = refl

-- void *x; static_cast<int *const >(x)
cast_82 : is_yes (static_cast sample true (object_of (pointer_to (fundamental base.Void))) (qualified only_const (pointer_to (fundamental base.Int)))) ≡ true
unfolding added between cast cast_between cast_by_two cast_else cast_operand cast_unless const_cast goes_down reinterpret_cast static_cast static_kinds static_objects static_only static_pointers static_unless is_derived is_pending promoted class_step is_text pointer_to_class pointer_to_other related related_kinds step_of_enumeration steps_between steps_by_kinds steps_by_relation steps_of_arithmetic steps_of_enumeration steps_of_kinds steps_of_pointer steps_of_pointers steps_of_reference steps_of_related steps_of_unrelated steps_of_value steps_to_class steps_to_scalar value_step
cast_82 = refl

-- int *const *x; reinterpret_cast<const B &>(x)
cast_83 : reinterpret_cast (object_of (pointer_to (qualified only_const (pointer_to (fundamental base.Int))))) (reference_to (qualified only_const (class_type 0))) ≡ true
unfolding added between cast cast_between cast_by_two cast_else cast_operand cast_unless const_cast goes_down reinterpret_cast static_cast static_kinds static_objects static_only static_pointers static_unless is_derived is_pending promoted class_step is_text pointer_to_class pointer_to_other related related_kinds step_of_enumeration steps_between steps_by_kinds steps_by_relation steps_of_arithmetic steps_of_enumeration steps_of_kinds steps_of_pointer steps_of_pointers steps_of_reference steps_of_related steps_of_unrelated steps_of_value steps_to_class steps_to_scalar value_step
cast_83 = refl

-- bool x; static_cast<char >(x)
cast_84 : is_yes (static_cast sample true (object_of (fundamental base.Bool)) (fundamental base.Char)) ≡ true
unfolding added between cast cast_between cast_by_two cast_else cast_operand cast_unless const_cast goes_down reinterpret_cast static_cast static_kinds static_objects static_only static_pointers static_unless is_derived is_pending promoted class_step is_text pointer_to_class pointer_to_other related related_kinds step_of_enumeration steps_between steps_by_kinds steps_by_relation steps_of_arithmetic steps_of_enumeration steps_of_kinds steps_of_pointer steps_of_pointers steps_of_reference steps_of_related steps_of_unrelated steps_of_value steps_to_class steps_to_scalar value_step
cast_84 = refl

-- volatile int *x; (int &)x
cast_85 : is_some (cast sample true (object_of (pointer_to (qualified only_volatile (fundamental base.Int)))) (reference_to (fundamental base.Int))) ≡ true
unfolding added between cast cast_between cast_by_two cast_else cast_operand cast_unless const_cast goes_down reinterpret_cast static_cast static_kinds static_objects static_only static_pointers static_unless is_derived is_pending promoted class_step is_text pointer_to_class pointer_to_other related related_kinds step_of_enumeration steps_between steps_by_kinds steps_by_relation steps_of_arithmetic steps_of_enumeration steps_of_kinds steps_of_pointer steps_of_pointers steps_of_reference steps_of_related steps_of_unrelated steps_of_value steps_to_class steps_to_scalar value_step
cast_85 = refl

-- int (*x)[3]; (const char &)x
cast_86 : is_some (cast sample true (object_of (pointer_to (array_of (fundamental base.Int) (number_bound 3)))) (reference_to (qualified only_const (fundamental base.Char)))) ≡ true
unfolding added between cast cast_between cast_by_two cast_else cast_operand cast_unless const_cast goes_down reinterpret_cast static_cast static_kinds static_objects static_only static_pointers static_unless is_derived is_pending promoted class_step is_text pointer_to_class pointer_to_other related related_kinds step_of_enumeration steps_between steps_by_kinds steps_by_relation steps_of_arithmetic steps_of_enumeration steps_of_kinds steps_of_pointer steps_of_pointers steps_of_reference steps_of_related steps_of_unrelated steps_of_value steps_to_class steps_to_scalar value_step
cast_86 = refl

-- const char *x; reinterpret_cast<B &>(x)
cast_87 : reinterpret_cast (object_of (pointer_to (qualified only_const (fundamental base.Char)))) (reference_to (class_type 0)) ≡ true
unfolding added between cast cast_between cast_by_two cast_else cast_operand cast_unless const_cast goes_down reinterpret_cast static_cast static_kinds static_objects static_only static_pointers static_unless is_derived is_pending promoted class_step is_text pointer_to_class pointer_to_other related related_kinds step_of_enumeration steps_between steps_by_kinds steps_by_relation steps_of_arithmetic steps_of_enumeration steps_of_kinds steps_of_pointer steps_of_pointers steps_of_reference steps_of_related steps_of_unrelated steps_of_value steps_to_class steps_to_scalar value_step
cast_87 = refl

-- const int x; (const int **)x
cast_88 : is_some (cast sample true (object_of (qualified only_const (fundamental base.Int))) (pointer_to (pointer_to (qualified only_const (fundamental base.Int))))) ≡ true
unfolding added between cast cast_between cast_by_two cast_else cast_operand cast_unless const_cast goes_down reinterpret_cast static_cast static_kinds static_objects static_only static_pointers static_unless is_derived is_pending promoted class_step is_text pointer_to_class pointer_to_other related related_kinds step_of_enumeration steps_between steps_by_kinds steps_by_relation steps_of_arithmetic steps_of_enumeration steps_of_kinds steps_of_pointer steps_of_pointers steps_of_reference steps_of_related steps_of_unrelated steps_of_value steps_to_class steps_to_scalar value_step
cast_88 = refl

-- const int x; (int *const *)x
cast_89 : is_some (cast sample true (object_of (qualified only_const (fundamental base.Int))) (pointer_to (qualified only_const (pointer_to (fundamental base.Int))))) ≡ true
unfolding added between cast cast_between cast_by_two cast_else cast_operand cast_unless const_cast goes_down reinterpret_cast static_cast static_kinds static_objects static_only static_pointers static_unless is_derived is_pending promoted class_step is_text pointer_to_class pointer_to_other related related_kinds step_of_enumeration steps_between steps_by_kinds steps_by_relation steps_of_arithmetic steps_of_enumeration steps_of_kinds steps_of_pointer steps_of_pointers steps_of_reference steps_of_related steps_of_unrelated steps_of_value steps_to_class steps_to_scalar value_step
cast_89 = refl

-- unsigned long x; (const B *)x
cast_90 : is_some (cast sample true (object_of (fundamental base.UnsignedLong)) (pointer_to (qualified only_const (class_type 0)))) ≡ true
unfolding added between cast cast_between cast_by_two cast_else cast_operand cast_unless const_cast goes_down reinterpret_cast static_cast static_kinds static_objects static_only static_pointers static_unless is_derived is_pending promoted class_step is_text pointer_to_class pointer_to_other related related_kinds step_of_enumeration steps_between steps_by_kinds steps_by_relation steps_of_arithmetic steps_of_enumeration steps_of_kinds steps_of_pointer steps_of_pointers steps_of_reference steps_of_related steps_of_unrelated steps_of_value steps_to_class steps_to_scalar value_step
cast_90 = refl

-- int (*x)[3]; (int (*)[3])x
cast_91 : is_some (cast sample true (object_of (pointer_to (array_of (fundamental base.Int) (number_bound 3)))) (pointer_to (array_of (fundamental base.Int) (number_bound 3)))) ≡ true
unfolding added between cast cast_between cast_by_two cast_else cast_operand cast_unless const_cast goes_down reinterpret_cast static_cast static_kinds static_objects static_only static_pointers static_unless is_derived is_pending promoted class_step is_text pointer_to_class pointer_to_other related related_kinds step_of_enumeration steps_between steps_by_kinds steps_by_relation steps_of_arithmetic steps_of_enumeration steps_of_kinds steps_of_pointer steps_of_pointers steps_of_reference steps_of_related steps_of_unrelated steps_of_value steps_to_class steps_to_scalar value_step
cast_91 = refl

-- E x; (const D *)x
cast_92 : is_some (cast sample true (object_of (enumeration 0)) (pointer_to (qualified only_const (class_type 1)))) ≡ true
unfolding added between cast cast_between cast_by_two cast_else cast_operand cast_unless const_cast goes_down reinterpret_cast static_cast static_kinds static_objects static_only static_pointers static_unless is_derived is_pending promoted class_step is_text pointer_to_class pointer_to_other related related_kinds step_of_enumeration steps_between steps_by_kinds steps_by_relation steps_of_arithmetic steps_of_enumeration steps_of_kinds steps_of_pointer steps_of_pointers steps_of_reference steps_of_related steps_of_unrelated steps_of_value steps_to_class steps_to_scalar value_step
cast_92 = refl

-- E x; reinterpret_cast<E *>(x)
cast_93 : reinterpret_cast (object_of (enumeration 0)) (pointer_to (enumeration 0)) ≡ true
unfolding added between cast cast_between cast_by_two cast_else cast_operand cast_unless const_cast goes_down reinterpret_cast static_cast static_kinds static_objects static_only static_pointers static_unless is_derived is_pending promoted class_step is_text pointer_to_class pointer_to_other related related_kinds step_of_enumeration steps_between steps_by_kinds steps_by_relation steps_of_arithmetic steps_of_enumeration steps_of_kinds steps_of_pointer steps_of_pointers steps_of_reference steps_of_related steps_of_unrelated steps_of_value steps_to_class steps_to_scalar value_step
cast_93 = refl

-- bool x; (const int *)x
cast_94 : is_some (cast sample true (object_of (fundamental base.Bool)) (pointer_to (qualified only_const (fundamental base.Int)))) ≡ true
unfolding added between cast cast_between cast_by_two cast_else cast_operand cast_unless const_cast goes_down reinterpret_cast static_cast static_kinds static_objects static_only static_pointers static_unless is_derived is_pending promoted class_step is_text pointer_to_class pointer_to_other related related_kinds step_of_enumeration steps_between steps_by_kinds steps_by_relation steps_of_arithmetic steps_of_enumeration steps_of_kinds steps_of_pointer steps_of_pointers steps_of_reference steps_of_related steps_of_unrelated steps_of_value steps_to_class steps_to_scalar value_step
cast_94 = refl

-- E x; reinterpret_cast<void *>(x)
cast_95 : reinterpret_cast (object_of (enumeration 0)) (pointer_to (fundamental base.Void)) ≡ true
unfolding added between cast cast_between cast_by_two cast_else cast_operand cast_unless const_cast goes_down reinterpret_cast static_cast static_kinds static_objects static_only static_pointers static_unless is_derived is_pending promoted class_step is_text pointer_to_class pointer_to_other related related_kinds step_of_enumeration steps_between steps_by_kinds steps_by_relation steps_of_arithmetic steps_of_enumeration steps_of_kinds steps_of_pointer steps_of_pointers steps_of_reference steps_of_related steps_of_unrelated steps_of_value steps_to_class steps_to_scalar value_step
cast_95 = refl

-- int (*x)[3]; (int *&)x
cast_96 : is_some (cast sample true (object_of (pointer_to (array_of (fundamental base.Int) (number_bound 3)))) (reference_to (pointer_to (fundamental base.Int)))) ≡ true
unfolding added between cast cast_between cast_by_two cast_else cast_operand cast_unless const_cast goes_down reinterpret_cast static_cast static_kinds static_objects static_only static_pointers static_unless is_derived is_pending promoted class_step is_text pointer_to_class pointer_to_other related related_kinds step_of_enumeration steps_between steps_by_kinds steps_by_relation steps_of_arithmetic steps_of_enumeration steps_of_kinds steps_of_pointer steps_of_pointers steps_of_reference steps_of_related steps_of_unrelated steps_of_value steps_to_class steps_to_scalar value_step
cast_96 = refl

-- const D *x; (const char &)x
cast_97 : is_some (cast sample true (object_of (pointer_to (qualified only_const (class_type 1)))) (reference_to (qualified only_const (fundamental base.Char)))) ≡ true
unfolding added between cast cast_between cast_by_two cast_else cast_operand cast_unless const_cast goes_down reinterpret_cast static_cast static_kinds static_objects static_only static_pointers static_unless is_derived is_pending promoted class_step is_text pointer_to_class pointer_to_other related related_kinds step_of_enumeration steps_between steps_by_kinds steps_by_relation steps_of_arithmetic steps_of_enumeration steps_of_kinds steps_of_pointer steps_of_pointers steps_of_reference steps_of_related steps_of_unrelated steps_of_value steps_to_class steps_to_scalar value_step
cast_97 = refl

-- long x; static_cast<long >(x)
cast_98 : is_yes (static_cast sample true (object_of (fundamental base.Long)) (fundamental base.Long)) ≡ true
unfolding added between cast cast_between cast_by_two cast_else cast_operand cast_unless const_cast goes_down reinterpret_cast static_cast static_kinds static_objects static_only static_pointers static_unless is_derived is_pending promoted class_step is_text pointer_to_class pointer_to_other related related_kinds step_of_enumeration steps_between steps_by_kinds steps_by_relation steps_of_arithmetic steps_of_enumeration steps_of_kinds steps_of_pointer steps_of_pointers steps_of_reference steps_of_related steps_of_unrelated steps_of_value steps_to_class steps_to_scalar value_step
cast_98 = refl

-- E x; (void *)x
cast_99 : is_some (cast sample true (object_of (enumeration 0)) (pointer_to (fundamental base.Void))) ≡ true
unfolding added between cast cast_between cast_by_two cast_else cast_operand cast_unless const_cast goes_down reinterpret_cast static_cast static_kinds static_objects static_only static_pointers static_unless is_derived is_pending promoted class_step is_text pointer_to_class pointer_to_other related related_kinds step_of_enumeration steps_between steps_by_kinds steps_by_relation steps_of_arithmetic steps_of_enumeration steps_of_kinds steps_of_pointer steps_of_pointers steps_of_reference steps_of_related steps_of_unrelated steps_of_value steps_to_class steps_to_scalar value_step
cast_99 = refl

-- bool x; reinterpret_cast<const int *&>(x)
cast_100 : reinterpret_cast (object_of (fundamental base.Bool)) (reference_to (pointer_to (qualified only_const (fundamental base.Int)))) ≡ true
unfolding added between cast cast_between cast_by_two cast_else cast_operand cast_unless const_cast goes_down reinterpret_cast static_cast static_kinds static_objects static_only static_pointers static_unless is_derived is_pending promoted class_step is_text pointer_to_class pointer_to_other related related_kinds step_of_enumeration steps_between steps_by_kinds steps_by_relation steps_of_arithmetic steps_of_enumeration steps_of_kinds steps_of_pointer steps_of_pointers steps_of_reference steps_of_related steps_of_unrelated steps_of_value steps_to_class steps_to_scalar value_step
cast_100 = refl

-- B x; (const D &)x
cast_101 : is_some (cast sample true (object_of (class_type 0)) (reference_to (qualified only_const (class_type 1)))) ≡ true
unfolding added between cast cast_between cast_by_two cast_else cast_operand cast_unless const_cast goes_down reinterpret_cast static_cast static_kinds static_objects static_only static_pointers static_unless is_derived is_pending promoted class_step is_text pointer_to_class pointer_to_other related related_kinds step_of_enumeration steps_between steps_by_kinds steps_by_relation steps_of_arithmetic steps_of_enumeration steps_of_kinds steps_of_pointer steps_of_pointers steps_of_reference steps_of_related steps_of_unrelated steps_of_value steps_to_class steps_to_scalar value_step
cast_101 = refl

-- const D *x; (int *)x
cast_102 : is_some (cast sample true (object_of (pointer_to (qualified only_const (class_type 1)))) (pointer_to (fundamental base.Int))) ≡ true
unfolding added between cast cast_between cast_by_two cast_else cast_operand cast_unless const_cast goes_down reinterpret_cast static_cast static_kinds static_objects static_only static_pointers static_unless is_derived is_pending promoted class_step is_text pointer_to_class pointer_to_other related related_kinds step_of_enumeration steps_between steps_by_kinds steps_by_relation steps_of_arithmetic steps_of_enumeration steps_of_kinds steps_of_pointer steps_of_pointers steps_of_reference steps_of_related steps_of_unrelated steps_of_value steps_to_class steps_to_scalar value_step
cast_102 = refl

-- long x; (B *)x
cast_103 : is_some (cast sample true (object_of (fundamental base.Long)) (pointer_to (class_type 0))) ≡ true
unfolding added between cast cast_between cast_by_two cast_else cast_operand cast_unless const_cast goes_down reinterpret_cast static_cast static_kinds static_objects static_only static_pointers static_unless is_derived is_pending promoted class_step is_text pointer_to_class pointer_to_other related related_kinds step_of_enumeration steps_between steps_by_kinds steps_by_relation steps_of_arithmetic steps_of_enumeration steps_of_kinds steps_of_pointer steps_of_pointers steps_of_reference steps_of_related steps_of_unrelated steps_of_value steps_to_class steps_to_scalar value_step
cast_103 = refl

-- const int *x; (D *)x
cast_104 : is_some (cast sample true (object_of (pointer_to (qualified only_const (fundamental base.Int)))) (pointer_to (class_type 1))) ≡ true
unfolding added between cast cast_between cast_by_two cast_else cast_operand cast_unless const_cast goes_down reinterpret_cast static_cast static_kinds static_objects static_only static_pointers static_unless is_derived is_pending promoted class_step is_text pointer_to_class pointer_to_other related related_kinds step_of_enumeration steps_between steps_by_kinds steps_by_relation steps_of_arithmetic steps_of_enumeration steps_of_kinds steps_of_pointer steps_of_pointers steps_of_reference steps_of_related steps_of_unrelated steps_of_value steps_to_class steps_to_scalar value_step
cast_104 = refl

-- int x[3]; reinterpret_cast<int *>(x)
cast_105 : reinterpret_cast (object_of (array_of (fundamental base.Int) (number_bound 3))) (pointer_to (fundamental base.Int)) ≡ true
unfolding added between cast cast_between cast_by_two cast_else cast_operand cast_unless const_cast goes_down reinterpret_cast static_cast static_kinds static_objects static_only static_pointers static_unless is_derived is_pending promoted class_step is_text pointer_to_class pointer_to_other related related_kinds step_of_enumeration steps_between steps_by_kinds steps_by_relation steps_of_arithmetic steps_of_enumeration steps_of_kinds steps_of_pointer steps_of_pointers steps_of_reference steps_of_related steps_of_unrelated steps_of_value steps_to_class steps_to_scalar value_step
cast_105 = refl

-- const D x; (void )x
cast_106 : is_some (cast sample true (object_of (qualified only_const (class_type 1))) (fundamental base.Void)) ≡ true
unfolding added between cast cast_between cast_by_two cast_else cast_operand cast_unless const_cast goes_down reinterpret_cast static_cast static_kinds static_objects static_only static_pointers static_unless is_derived is_pending promoted class_step is_text pointer_to_class pointer_to_other related related_kinds step_of_enumeration steps_between steps_by_kinds steps_by_relation steps_of_arithmetic steps_of_enumeration steps_of_kinds steps_of_pointer steps_of_pointers steps_of_reference steps_of_related steps_of_unrelated steps_of_value steps_to_class steps_to_scalar value_step
cast_106 = refl

-- B *x; (int *)x
cast_107 : is_some (cast sample true (object_of (pointer_to (class_type 0))) (pointer_to (fundamental base.Int))) ≡ true
unfolding added between cast cast_between cast_by_two cast_else cast_operand cast_unless const_cast goes_down reinterpret_cast static_cast static_kinds static_objects static_only static_pointers static_unless is_derived is_pending promoted class_step is_text pointer_to_class pointer_to_other related related_kinds step_of_enumeration steps_between steps_by_kinds steps_by_relation steps_of_arithmetic steps_of_enumeration steps_of_kinds steps_of_pointer steps_of_pointers steps_of_reference steps_of_related steps_of_unrelated steps_of_value steps_to_class steps_to_scalar value_step
cast_107 = refl

-- int x[3]; (unsigned long )x
cast_108 : is_some (cast sample true (object_of (array_of (fundamental base.Int) (number_bound 3))) (fundamental base.UnsignedLong)) ≡ true
unfolding added between cast cast_between cast_by_two cast_else cast_operand cast_unless const_cast goes_down reinterpret_cast static_cast static_kinds static_objects static_only static_pointers static_unless is_derived is_pending promoted class_step is_text pointer_to_class pointer_to_other related related_kinds step_of_enumeration steps_between steps_by_kinds steps_by_relation steps_of_arithmetic steps_of_enumeration steps_of_kinds steps_of_pointer steps_of_pointers steps_of_reference steps_of_related steps_of_unrelated steps_of_value steps_to_class steps_to_scalar value_step
cast_108 = refl

-- B *x; (E *)x
cast_109 : is_some (cast sample true (object_of (pointer_to (class_type 0))) (pointer_to (enumeration 0))) ≡ true
unfolding added between cast cast_between cast_by_two cast_else cast_operand cast_unless const_cast goes_down reinterpret_cast static_cast static_kinds static_objects static_only static_pointers static_unless is_derived is_pending promoted class_step is_text pointer_to_class pointer_to_other related related_kinds step_of_enumeration steps_between steps_by_kinds steps_by_relation steps_of_arithmetic steps_of_enumeration steps_of_kinds steps_of_pointer steps_of_pointers steps_of_reference steps_of_related steps_of_unrelated steps_of_value steps_to_class steps_to_scalar value_step
cast_109 = refl

-- int x[3]; reinterpret_cast<void *>(x)
cast_110 : reinterpret_cast (object_of (array_of (fundamental base.Int) (number_bound 3))) (pointer_to (fundamental base.Void)) ≡ true
unfolding added between cast cast_between cast_by_two cast_else cast_operand cast_unless const_cast goes_down reinterpret_cast static_cast static_kinds static_objects static_only static_pointers static_unless is_derived is_pending promoted class_step is_text pointer_to_class pointer_to_other related related_kinds step_of_enumeration steps_between steps_by_kinds steps_by_relation steps_of_arithmetic steps_of_enumeration steps_of_kinds steps_of_pointer steps_of_pointers steps_of_reference steps_of_related steps_of_unrelated steps_of_value steps_to_class steps_to_scalar value_step
cast_110 = refl

-- char x; static_cast<const int &>(x)
cast_111 : is_yes (static_cast sample true (object_of (fundamental base.Char)) (reference_to (qualified only_const (fundamental base.Int)))) ≡ true
unfolding added between cast cast_between cast_by_two cast_else cast_operand cast_unless const_cast goes_down reinterpret_cast static_cast static_kinds static_objects static_only static_pointers static_unless is_derived is_pending promoted class_step is_text pointer_to_class pointer_to_other related related_kinds step_of_enumeration steps_between steps_by_kinds steps_by_relation steps_of_arithmetic steps_of_enumeration steps_of_kinds steps_of_pointer steps_of_pointers steps_of_reference steps_of_related steps_of_unrelated steps_of_value steps_to_class steps_to_scalar value_step
cast_111 = refl

-- E *x; reinterpret_cast<long >(x)
cast_112 : reinterpret_cast (object_of (pointer_to (enumeration 0))) (fundamental base.Long) ≡ true
unfolding added between cast cast_between cast_by_two cast_else cast_operand cast_unless const_cast goes_down reinterpret_cast static_cast static_kinds static_objects static_only static_pointers static_unless is_derived is_pending promoted class_step is_text pointer_to_class pointer_to_other related related_kinds step_of_enumeration steps_between steps_by_kinds steps_by_relation steps_of_arithmetic steps_of_enumeration steps_of_kinds steps_of_pointer steps_of_pointers steps_of_reference steps_of_related steps_of_unrelated steps_of_value steps_to_class steps_to_scalar value_step
cast_112 = refl

-- int *const x; const_cast<int *const >(x)
cast_113 : const_cast (object_of (qualified only_const (pointer_to (fundamental base.Int)))) (qualified only_const (pointer_to (fundamental base.Int))) ≡ true
unfolding added between cast cast_between cast_by_two cast_else cast_operand cast_unless const_cast goes_down reinterpret_cast static_cast static_kinds static_objects static_only static_pointers static_unless is_derived is_pending promoted class_step is_text pointer_to_class pointer_to_other related related_kinds step_of_enumeration steps_between steps_by_kinds steps_by_relation steps_of_arithmetic steps_of_enumeration steps_of_kinds steps_of_pointer steps_of_pointers steps_of_reference steps_of_related steps_of_unrelated steps_of_value steps_to_class steps_to_scalar value_step
cast_113 = refl

-- E *x; (const B &)x
cast_114 : is_some (cast sample true (object_of (pointer_to (enumeration 0))) (reference_to (qualified only_const (class_type 0)))) ≡ true
unfolding added between cast cast_between cast_by_two cast_else cast_operand cast_unless const_cast goes_down reinterpret_cast static_cast static_kinds static_objects static_only static_pointers static_unless is_derived is_pending promoted class_step is_text pointer_to_class pointer_to_other related related_kinds step_of_enumeration steps_between steps_by_kinds steps_by_relation steps_of_arithmetic steps_of_enumeration steps_of_kinds steps_of_pointer steps_of_pointers steps_of_reference steps_of_related steps_of_unrelated steps_of_value steps_to_class steps_to_scalar value_step
cast_114 = refl

-- const D *x; (D &)x
cast_115 : is_some (cast sample true (object_of (pointer_to (qualified only_const (class_type 1)))) (reference_to (class_type 1))) ≡ true
unfolding added between cast cast_between cast_by_two cast_else cast_operand cast_unless const_cast goes_down reinterpret_cast static_cast static_kinds static_objects static_only static_pointers static_unless is_derived is_pending promoted class_step is_text pointer_to_class pointer_to_other related related_kinds step_of_enumeration steps_between steps_by_kinds steps_by_relation steps_of_arithmetic steps_of_enumeration steps_of_kinds steps_of_pointer steps_of_pointers steps_of_reference steps_of_related steps_of_unrelated steps_of_value steps_to_class steps_to_scalar value_step
cast_115 = refl

-- const int **x; reinterpret_cast<const int *>(x)
cast_116 : reinterpret_cast (object_of (pointer_to (pointer_to (qualified only_const (fundamental base.Int))))) (pointer_to (qualified only_const (fundamental base.Int))) ≡ true
unfolding added between cast cast_between cast_by_two cast_else cast_operand cast_unless const_cast goes_down reinterpret_cast static_cast static_kinds static_objects static_only static_pointers static_unless is_derived is_pending promoted class_step is_text pointer_to_class pointer_to_other related related_kinds step_of_enumeration steps_between steps_by_kinds steps_by_relation steps_of_arithmetic steps_of_enumeration steps_of_kinds steps_of_pointer steps_of_pointers steps_of_reference steps_of_related steps_of_unrelated steps_of_value steps_to_class steps_to_scalar value_step
cast_116 = refl

-- long x; (long )x
cast_117 : is_some (cast sample true (object_of (fundamental base.Long)) (fundamental base.Long)) ≡ true
unfolding added between cast cast_between cast_by_two cast_else cast_operand cast_unless const_cast goes_down reinterpret_cast static_cast static_kinds static_objects static_only static_pointers static_unless is_derived is_pending promoted class_step is_text pointer_to_class pointer_to_other related related_kinds step_of_enumeration steps_between steps_by_kinds steps_by_relation steps_of_arithmetic steps_of_enumeration steps_of_kinds steps_of_pointer steps_of_pointers steps_of_reference steps_of_related steps_of_unrelated steps_of_value steps_to_class steps_to_scalar value_step
cast_117 = refl

-- double x; (int )x
cast_118 : is_some (cast sample true (object_of (fundamental base.Double)) (fundamental base.Int)) ≡ true
unfolding added between cast cast_between cast_by_two cast_else cast_operand cast_unless const_cast goes_down reinterpret_cast static_cast static_kinds static_objects static_only static_pointers static_unless is_derived is_pending promoted class_step is_text pointer_to_class pointer_to_other related related_kinds step_of_enumeration steps_between steps_by_kinds steps_by_relation steps_of_arithmetic steps_of_enumeration steps_of_kinds steps_of_pointer steps_of_pointers steps_of_reference steps_of_related steps_of_unrelated steps_of_value steps_to_class steps_to_scalar value_step
cast_118 = refl

-- B *x; reinterpret_cast<const int *const *>(x)
cast_119 : reinterpret_cast (object_of (pointer_to (class_type 0))) (pointer_to (qualified only_const (pointer_to (qualified only_const (fundamental base.Int))))) ≡ true
unfolding added between cast cast_between cast_by_two cast_else cast_operand cast_unless const_cast goes_down reinterpret_cast static_cast static_kinds static_objects static_only static_pointers static_unless is_derived is_pending promoted class_step is_text pointer_to_class pointer_to_other related related_kinds step_of_enumeration steps_between steps_by_kinds steps_by_relation steps_of_arithmetic steps_of_enumeration steps_of_kinds steps_of_pointer steps_of_pointers steps_of_reference steps_of_related steps_of_unrelated steps_of_value steps_to_class steps_to_scalar value_step
cast_119 = refl

-- int x[3]; reinterpret_cast<const int *const *>(x)
cast_120 : reinterpret_cast (object_of (array_of (fundamental base.Int) (number_bound 3))) (pointer_to (qualified only_const (pointer_to (qualified only_const (fundamental base.Int))))) ≡ true
unfolding added between cast cast_between cast_by_two cast_else cast_operand cast_unless const_cast goes_down reinterpret_cast static_cast static_kinds static_objects static_only static_pointers static_unless is_derived is_pending promoted class_step is_text pointer_to_class pointer_to_other related related_kinds step_of_enumeration steps_between steps_by_kinds steps_by_relation steps_of_arithmetic steps_of_enumeration steps_of_kinds steps_of_pointer steps_of_pointers steps_of_reference steps_of_related steps_of_unrelated steps_of_value steps_to_class steps_to_scalar value_step
cast_120 = refl

-- unsigned long x; (const int **)x
cast_121 : is_some (cast sample true (object_of (fundamental base.UnsignedLong)) (pointer_to (pointer_to (qualified only_const (fundamental base.Int))))) ≡ true
unfolding added between cast cast_between cast_by_two cast_else cast_operand cast_unless const_cast goes_down reinterpret_cast static_cast static_kinds static_objects static_only static_pointers static_unless is_derived is_pending promoted class_step is_text pointer_to_class pointer_to_other related related_kinds step_of_enumeration steps_between steps_by_kinds steps_by_relation steps_of_arithmetic steps_of_enumeration steps_of_kinds steps_of_pointer steps_of_pointers steps_of_reference steps_of_related steps_of_unrelated steps_of_value steps_to_class steps_to_scalar value_step
cast_121 = refl

-- int *const x; static_cast<void *>(x)
cast_122 : is_yes (static_cast sample true (object_of (qualified only_const (pointer_to (fundamental base.Int)))) (pointer_to (fundamental base.Void))) ≡ true
unfolding added between cast cast_between cast_by_two cast_else cast_operand cast_unless const_cast goes_down reinterpret_cast static_cast static_kinds static_objects static_only static_pointers static_unless is_derived is_pending promoted class_step is_text pointer_to_class pointer_to_other related related_kinds step_of_enumeration steps_between steps_by_kinds steps_by_relation steps_of_arithmetic steps_of_enumeration steps_of_kinds steps_of_pointer steps_of_pointers steps_of_reference steps_of_related steps_of_unrelated steps_of_value steps_to_class steps_to_scalar value_step
cast_122 = refl

-- const char *x; reinterpret_cast<char &>(x)
cast_123 : reinterpret_cast (object_of (pointer_to (qualified only_const (fundamental base.Char)))) (reference_to (fundamental base.Char)) ≡ true
unfolding added between cast cast_between cast_by_two cast_else cast_operand cast_unless const_cast goes_down reinterpret_cast static_cast static_kinds static_objects static_only static_pointers static_unless is_derived is_pending promoted class_step is_text pointer_to_class pointer_to_other related related_kinds step_of_enumeration steps_between steps_by_kinds steps_by_relation steps_of_arithmetic steps_of_enumeration steps_of_kinds steps_of_pointer steps_of_pointers steps_of_reference steps_of_related steps_of_unrelated steps_of_value steps_to_class steps_to_scalar value_step
cast_123 = refl

-- int x; (E &)x
cast_124 : is_some (cast sample true (object_of (fundamental base.Int)) (reference_to (enumeration 0))) ≡ true
unfolding added between cast cast_between cast_by_two cast_else cast_operand cast_unless const_cast goes_down reinterpret_cast static_cast static_kinds static_objects static_only static_pointers static_unless is_derived is_pending promoted class_step is_text pointer_to_class pointer_to_other related related_kinds step_of_enumeration steps_between steps_by_kinds steps_by_relation steps_of_arithmetic steps_of_enumeration steps_of_kinds steps_of_pointer steps_of_pointers steps_of_reference steps_of_related steps_of_unrelated steps_of_value steps_to_class steps_to_scalar value_step
cast_124 = refl

-- const int *const *x; reinterpret_cast<const char *>(x)
cast_125 : reinterpret_cast (object_of (pointer_to (qualified only_const (pointer_to (qualified only_const (fundamental base.Int)))))) (pointer_to (qualified only_const (fundamental base.Char))) ≡ true
unfolding added between cast cast_between cast_by_two cast_else cast_operand cast_unless const_cast goes_down reinterpret_cast static_cast static_kinds static_objects static_only static_pointers static_unless is_derived is_pending promoted class_step is_text pointer_to_class pointer_to_other related related_kinds step_of_enumeration steps_between steps_by_kinds steps_by_relation steps_of_arithmetic steps_of_enumeration steps_of_kinds steps_of_pointer steps_of_pointers steps_of_reference steps_of_related steps_of_unrelated steps_of_value steps_to_class steps_to_scalar value_step
cast_125 = refl

-- double x; reinterpret_cast<const B &>(x)
cast_126 : reinterpret_cast (object_of (fundamental base.Double)) (reference_to (qualified only_const (class_type 0))) ≡ true
unfolding added between cast cast_between cast_by_two cast_else cast_operand cast_unless const_cast goes_down reinterpret_cast static_cast static_kinds static_objects static_only static_pointers static_unless is_derived is_pending promoted class_step is_text pointer_to_class pointer_to_other related related_kinds step_of_enumeration steps_between steps_by_kinds steps_by_relation steps_of_arithmetic steps_of_enumeration steps_of_kinds steps_of_pointer steps_of_pointers steps_of_reference steps_of_related steps_of_unrelated steps_of_value steps_to_class steps_to_scalar value_step
cast_126 = refl

-- long x; (int *)x
cast_127 : is_some (cast sample true (object_of (fundamental base.Long)) (pointer_to (fundamental base.Int))) ≡ true
unfolding added between cast cast_between cast_by_two cast_else cast_operand cast_unless const_cast goes_down reinterpret_cast static_cast static_kinds static_objects static_only static_pointers static_unless is_derived is_pending promoted class_step is_text pointer_to_class pointer_to_other related related_kinds step_of_enumeration steps_between steps_by_kinds steps_by_relation steps_of_arithmetic steps_of_enumeration steps_of_kinds steps_of_pointer steps_of_pointers steps_of_reference steps_of_related steps_of_unrelated steps_of_value steps_to_class steps_to_scalar value_step
cast_127 = refl

-- int *const x; reinterpret_cast<const void *>(x)
cast_128 : reinterpret_cast (object_of (qualified only_const (pointer_to (fundamental base.Int)))) (pointer_to (qualified only_const (fundamental base.Void))) ≡ true
unfolding added between cast cast_between cast_by_two cast_else cast_operand cast_unless const_cast goes_down reinterpret_cast static_cast static_kinds static_objects static_only static_pointers static_unless is_derived is_pending promoted class_step is_text pointer_to_class pointer_to_other related related_kinds step_of_enumeration steps_between steps_by_kinds steps_by_relation steps_of_arithmetic steps_of_enumeration steps_of_kinds steps_of_pointer steps_of_pointers steps_of_reference steps_of_related steps_of_unrelated steps_of_value steps_to_class steps_to_scalar value_step
cast_128 = refl

-- int x[3]; reinterpret_cast<const int &>(x)
cast_129 : reinterpret_cast (object_of (array_of (fundamental base.Int) (number_bound 3))) (reference_to (qualified only_const (fundamental base.Int))) ≡ true
unfolding added between cast cast_between cast_by_two cast_else cast_operand cast_unless const_cast goes_down reinterpret_cast static_cast static_kinds static_objects static_only static_pointers static_unless is_derived is_pending promoted class_step is_text pointer_to_class pointer_to_other related related_kinds step_of_enumeration steps_between steps_by_kinds steps_by_relation steps_of_arithmetic steps_of_enumeration steps_of_kinds steps_of_pointer steps_of_pointers steps_of_reference steps_of_related steps_of_unrelated steps_of_value steps_to_class steps_to_scalar value_step
cast_129 = refl

-- const int **x; const_cast<const int **>(x)
cast_130 : const_cast (object_of (pointer_to (pointer_to (qualified only_const (fundamental base.Int))))) (pointer_to (pointer_to (qualified only_const (fundamental base.Int)))) ≡ true
unfolding added between cast cast_between cast_by_two cast_else cast_operand cast_unless const_cast goes_down reinterpret_cast static_cast static_kinds static_objects static_only static_pointers static_unless is_derived is_pending promoted class_step is_text pointer_to_class pointer_to_other related related_kinds step_of_enumeration steps_between steps_by_kinds steps_by_relation steps_of_arithmetic steps_of_enumeration steps_of_kinds steps_of_pointer steps_of_pointers steps_of_reference steps_of_related steps_of_unrelated steps_of_value steps_to_class steps_to_scalar value_step
cast_130 = refl

-- E *x; reinterpret_cast<const B *>(x)
cast_131 : reinterpret_cast (object_of (pointer_to (enumeration 0))) (pointer_to (qualified only_const (class_type 0))) ≡ true
unfolding added between cast cast_between cast_by_two cast_else cast_operand cast_unless const_cast goes_down reinterpret_cast static_cast static_kinds static_objects static_only static_pointers static_unless is_derived is_pending promoted class_step is_text pointer_to_class pointer_to_other related related_kinds step_of_enumeration steps_between steps_by_kinds steps_by_relation steps_of_arithmetic steps_of_enumeration steps_of_kinds steps_of_pointer steps_of_pointers steps_of_reference steps_of_related steps_of_unrelated steps_of_value steps_to_class steps_to_scalar value_step
cast_131 = refl

-- E *x; (B &)x
cast_132 : is_some (cast sample true (object_of (pointer_to (enumeration 0))) (reference_to (class_type 0))) ≡ true
unfolding added between cast cast_between cast_by_two cast_else cast_operand cast_unless const_cast goes_down reinterpret_cast static_cast static_kinds static_objects static_only static_pointers static_unless is_derived is_pending promoted class_step is_text pointer_to_class pointer_to_other related related_kinds step_of_enumeration steps_between steps_by_kinds steps_by_relation steps_of_arithmetic steps_of_enumeration steps_of_kinds steps_of_pointer steps_of_pointers steps_of_reference steps_of_related steps_of_unrelated steps_of_value steps_to_class steps_to_scalar value_step
cast_132 = refl

-- char x; static_cast<unsigned long >(x)
cast_133 : is_yes (static_cast sample true (object_of (fundamental base.Char)) (fundamental base.UnsignedLong)) ≡ true
unfolding added between cast cast_between cast_by_two cast_else cast_operand cast_unless const_cast goes_down reinterpret_cast static_cast static_kinds static_objects static_only static_pointers static_unless is_derived is_pending promoted class_step is_text pointer_to_class pointer_to_other related related_kinds step_of_enumeration steps_between steps_by_kinds steps_by_relation steps_of_arithmetic steps_of_enumeration steps_of_kinds steps_of_pointer steps_of_pointers steps_of_reference steps_of_related steps_of_unrelated steps_of_value steps_to_class steps_to_scalar value_step
cast_133 = refl

-- void *x; const_cast<void *>(x)
cast_134 : const_cast (object_of (pointer_to (fundamental base.Void))) (pointer_to (fundamental base.Void)) ≡ true
unfolding added between cast cast_between cast_by_two cast_else cast_operand cast_unless const_cast goes_down reinterpret_cast static_cast static_kinds static_objects static_only static_pointers static_unless is_derived is_pending promoted class_step is_text pointer_to_class pointer_to_other related related_kinds step_of_enumeration steps_between steps_by_kinds steps_by_relation steps_of_arithmetic steps_of_enumeration steps_of_kinds steps_of_pointer steps_of_pointers steps_of_reference steps_of_related steps_of_unrelated steps_of_value steps_to_class steps_to_scalar value_step
cast_134 = refl

-- const int x; static_cast<char >(x)
cast_135 : is_yes (static_cast sample true (object_of (qualified only_const (fundamental base.Int))) (fundamental base.Char)) ≡ true
unfolding added between cast cast_between cast_by_two cast_else cast_operand cast_unless const_cast goes_down reinterpret_cast static_cast static_kinds static_objects static_only static_pointers static_unless is_derived is_pending promoted class_step is_text pointer_to_class pointer_to_other related related_kinds step_of_enumeration steps_between steps_by_kinds steps_by_relation steps_of_arithmetic steps_of_enumeration steps_of_kinds steps_of_pointer steps_of_pointers steps_of_reference steps_of_related steps_of_unrelated steps_of_value steps_to_class steps_to_scalar value_step
cast_135 = refl

-- int *const *x; (unsigned long )x
cast_136 : is_some (cast sample true (object_of (pointer_to (qualified only_const (pointer_to (fundamental base.Int))))) (fundamental base.UnsignedLong)) ≡ true
unfolding added between cast cast_between cast_by_two cast_else cast_operand cast_unless const_cast goes_down reinterpret_cast static_cast static_kinds static_objects static_only static_pointers static_unless is_derived is_pending promoted class_step is_text pointer_to_class pointer_to_other related related_kinds step_of_enumeration steps_between steps_by_kinds steps_by_relation steps_of_arithmetic steps_of_enumeration steps_of_kinds steps_of_pointer steps_of_pointers steps_of_reference steps_of_related steps_of_unrelated steps_of_value steps_to_class steps_to_scalar value_step
cast_136 = refl

-- E *x; reinterpret_cast<B &>(x)
cast_137 : reinterpret_cast (object_of (pointer_to (enumeration 0))) (reference_to (class_type 0)) ≡ true
unfolding added between cast cast_between cast_by_two cast_else cast_operand cast_unless const_cast goes_down reinterpret_cast static_cast static_kinds static_objects static_only static_pointers static_unless is_derived is_pending promoted class_step is_text pointer_to_class pointer_to_other related related_kinds step_of_enumeration steps_between steps_by_kinds steps_by_relation steps_of_arithmetic steps_of_enumeration steps_of_kinds steps_of_pointer steps_of_pointers steps_of_reference steps_of_related steps_of_unrelated steps_of_value steps_to_class steps_to_scalar value_step
cast_137 = refl

-- long x; reinterpret_cast<char *>(x)
cast_138 : reinterpret_cast (object_of (fundamental base.Long)) (pointer_to (fundamental base.Char)) ≡ true
unfolding added between cast cast_between cast_by_two cast_else cast_operand cast_unless const_cast goes_down reinterpret_cast static_cast static_kinds static_objects static_only static_pointers static_unless is_derived is_pending promoted class_step is_text pointer_to_class pointer_to_other related related_kinds step_of_enumeration steps_between steps_by_kinds steps_by_relation steps_of_arithmetic steps_of_enumeration steps_of_kinds steps_of_pointer steps_of_pointers steps_of_reference steps_of_related steps_of_unrelated steps_of_value steps_to_class steps_to_scalar value_step
cast_138 = refl

-- int *const *x; reinterpret_cast<E &>(x)
cast_139 : reinterpret_cast (object_of (pointer_to (qualified only_const (pointer_to (fundamental base.Int))))) (reference_to (enumeration 0)) ≡ true
unfolding added between cast cast_between cast_by_two cast_else cast_operand cast_unless const_cast goes_down reinterpret_cast static_cast static_kinds static_objects static_only static_pointers static_unless is_derived is_pending promoted class_step is_text pointer_to_class pointer_to_other related related_kinds step_of_enumeration steps_between steps_by_kinds steps_by_relation steps_of_arithmetic steps_of_enumeration steps_of_kinds steps_of_pointer steps_of_pointers steps_of_reference steps_of_related steps_of_unrelated steps_of_value steps_to_class steps_to_scalar value_step
cast_139 = refl

-- const int *x; const_cast<volatile int *>(x)
cast_140 : const_cast (object_of (pointer_to (qualified only_const (fundamental base.Int)))) (pointer_to (qualified only_volatile (fundamental base.Int))) ≡ true
unfolding added between cast cast_between cast_by_two cast_else cast_operand cast_unless const_cast goes_down reinterpret_cast static_cast static_kinds static_objects static_only static_pointers static_unless is_derived is_pending promoted class_step is_text pointer_to_class pointer_to_other related related_kinds step_of_enumeration steps_between steps_by_kinds steps_by_relation steps_of_arithmetic steps_of_enumeration steps_of_kinds steps_of_pointer steps_of_pointers steps_of_reference steps_of_related steps_of_unrelated steps_of_value steps_to_class steps_to_scalar value_step
cast_140 = refl

-- int (*x)[3]; reinterpret_cast<const int *>(x)
cast_141 : reinterpret_cast (object_of (pointer_to (array_of (fundamental base.Int) (number_bound 3)))) (pointer_to (qualified only_const (fundamental base.Int))) ≡ true
unfolding added between cast cast_between cast_by_two cast_else cast_operand cast_unless const_cast goes_down reinterpret_cast static_cast static_kinds static_objects static_only static_pointers static_unless is_derived is_pending promoted class_step is_text pointer_to_class pointer_to_other related related_kinds step_of_enumeration steps_between steps_by_kinds steps_by_relation steps_of_arithmetic steps_of_enumeration steps_of_kinds steps_of_pointer steps_of_pointers steps_of_reference steps_of_related steps_of_unrelated steps_of_value steps_to_class steps_to_scalar value_step
cast_141 = refl

-- B *x; reinterpret_cast<int *const *>(x)
cast_142 : reinterpret_cast (object_of (pointer_to (class_type 0))) (pointer_to (qualified only_const (pointer_to (fundamental base.Int)))) ≡ true
unfolding added between cast cast_between cast_by_two cast_else cast_operand cast_unless const_cast goes_down reinterpret_cast static_cast static_kinds static_objects static_only static_pointers static_unless is_derived is_pending promoted class_step is_text pointer_to_class pointer_to_other related related_kinds step_of_enumeration steps_between steps_by_kinds steps_by_relation steps_of_arithmetic steps_of_enumeration steps_of_kinds steps_of_pointer steps_of_pointers steps_of_reference steps_of_related steps_of_unrelated steps_of_value steps_to_class steps_to_scalar value_step
cast_142 = refl

-- volatile int *x; (const int &)x
cast_143 : is_some (cast sample true (object_of (pointer_to (qualified only_volatile (fundamental base.Int)))) (reference_to (qualified only_const (fundamental base.Int)))) ≡ true
unfolding added between cast cast_between cast_by_two cast_else cast_operand cast_unless const_cast goes_down reinterpret_cast static_cast static_kinds static_objects static_only static_pointers static_unless is_derived is_pending promoted class_step is_text pointer_to_class pointer_to_other related related_kinds step_of_enumeration steps_between steps_by_kinds steps_by_relation steps_of_arithmetic steps_of_enumeration steps_of_kinds steps_of_pointer steps_of_pointers steps_of_reference steps_of_related steps_of_unrelated steps_of_value steps_to_class steps_to_scalar value_step
cast_143 = refl

-- E *x; static_cast<void >(x)
cast_144 : is_yes (static_cast sample true (object_of (pointer_to (enumeration 0))) (fundamental base.Void)) ≡ true
unfolding added between cast cast_between cast_by_two cast_else cast_operand cast_unless const_cast goes_down reinterpret_cast static_cast static_kinds static_objects static_only static_pointers static_unless is_derived is_pending promoted class_step is_text pointer_to_class pointer_to_other related related_kinds step_of_enumeration steps_between steps_by_kinds steps_by_relation steps_of_arithmetic steps_of_enumeration steps_of_kinds steps_of_pointer steps_of_pointers steps_of_reference steps_of_related steps_of_unrelated steps_of_value steps_to_class steps_to_scalar value_step
cast_144 = refl

-- const int *const *x; (const int &)x
cast_145 : is_some (cast sample true (object_of (pointer_to (qualified only_const (pointer_to (qualified only_const (fundamental base.Int)))))) (reference_to (qualified only_const (fundamental base.Int)))) ≡ true
unfolding added between cast cast_between cast_by_two cast_else cast_operand cast_unless const_cast goes_down reinterpret_cast static_cast static_kinds static_objects static_only static_pointers static_unless is_derived is_pending promoted class_step is_text pointer_to_class pointer_to_other related related_kinds step_of_enumeration steps_between steps_by_kinds steps_by_relation steps_of_arithmetic steps_of_enumeration steps_of_kinds steps_of_pointer steps_of_pointers steps_of_reference steps_of_related steps_of_unrelated steps_of_value steps_to_class steps_to_scalar value_step
cast_145 = refl

-- int x; static_cast<char >(x)
cast_146 : is_yes (static_cast sample true (object_of (fundamental base.Int)) (fundamental base.Char)) ≡ true
unfolding added between cast cast_between cast_by_two cast_else cast_operand cast_unless const_cast goes_down reinterpret_cast static_cast static_kinds static_objects static_only static_pointers static_unless is_derived is_pending promoted class_step is_text pointer_to_class pointer_to_other related related_kinds step_of_enumeration steps_between steps_by_kinds steps_by_relation steps_of_arithmetic steps_of_enumeration steps_of_kinds steps_of_pointer steps_of_pointers steps_of_reference steps_of_related steps_of_unrelated steps_of_value steps_to_class steps_to_scalar value_step
cast_146 = refl

-- char *x; (int *&)x
cast_147 : is_some (cast sample true (object_of (pointer_to (fundamental base.Char))) (reference_to (pointer_to (fundamental base.Int)))) ≡ true
unfolding added between cast cast_between cast_by_two cast_else cast_operand cast_unless const_cast goes_down reinterpret_cast static_cast static_kinds static_objects static_only static_pointers static_unless is_derived is_pending promoted class_step is_text pointer_to_class pointer_to_other related related_kinds step_of_enumeration steps_between steps_by_kinds steps_by_relation steps_of_arithmetic steps_of_enumeration steps_of_kinds steps_of_pointer steps_of_pointers steps_of_reference steps_of_related steps_of_unrelated steps_of_value steps_to_class steps_to_scalar value_step
cast_147 = refl

-- int (*x)[3]; (B &)x
cast_148 : is_some (cast sample true (object_of (pointer_to (array_of (fundamental base.Int) (number_bound 3)))) (reference_to (class_type 0))) ≡ true
unfolding added between cast cast_between cast_by_two cast_else cast_operand cast_unless const_cast goes_down reinterpret_cast static_cast static_kinds static_objects static_only static_pointers static_unless is_derived is_pending promoted class_step is_text pointer_to_class pointer_to_other related related_kinds step_of_enumeration steps_between steps_by_kinds steps_by_relation steps_of_arithmetic steps_of_enumeration steps_of_kinds steps_of_pointer steps_of_pointers steps_of_reference steps_of_related steps_of_unrelated steps_of_value steps_to_class steps_to_scalar value_step
cast_148 = refl

-- int x[3]; (const B &)x
cast_149 : is_some (cast sample true (object_of (array_of (fundamental base.Int) (number_bound 3))) (reference_to (qualified only_const (class_type 0)))) ≡ true
unfolding added between cast cast_between cast_by_two cast_else cast_operand cast_unless const_cast goes_down reinterpret_cast static_cast static_kinds static_objects static_only static_pointers static_unless is_derived is_pending promoted class_step is_text pointer_to_class pointer_to_other related related_kinds step_of_enumeration steps_between steps_by_kinds steps_by_relation steps_of_arithmetic steps_of_enumeration steps_of_kinds steps_of_pointer steps_of_pointers steps_of_reference steps_of_related steps_of_unrelated steps_of_value steps_to_class steps_to_scalar value_step
cast_149 = refl

-- const char *x; (const int **)x
cast_150 : is_some (cast sample true (object_of (pointer_to (qualified only_const (fundamental base.Char)))) (pointer_to (pointer_to (qualified only_const (fundamental base.Int))))) ≡ true
unfolding added between cast cast_between cast_by_two cast_else cast_operand cast_unless const_cast goes_down reinterpret_cast static_cast static_kinds static_objects static_only static_pointers static_unless is_derived is_pending promoted class_step is_text pointer_to_class pointer_to_other related related_kinds step_of_enumeration steps_between steps_by_kinds steps_by_relation steps_of_arithmetic steps_of_enumeration steps_of_kinds steps_of_pointer steps_of_pointers steps_of_reference steps_of_related steps_of_unrelated steps_of_value steps_to_class steps_to_scalar value_step
cast_150 = refl

-- E *x; static_cast<char &>(x)
cast_151 : is_yes (static_cast sample true (object_of (pointer_to (enumeration 0))) (reference_to (fundamental base.Char))) ≡ false
unfolding added between cast cast_between cast_by_two cast_else cast_operand cast_unless const_cast goes_down reinterpret_cast static_cast static_kinds static_objects static_only static_pointers static_unless is_derived is_pending promoted class_step is_text pointer_to_class pointer_to_other related related_kinds step_of_enumeration steps_between steps_by_kinds steps_by_relation steps_of_arithmetic steps_of_enumeration steps_of_kinds steps_of_pointer steps_of_pointers steps_of_reference steps_of_related steps_of_unrelated steps_of_value steps_to_class steps_to_scalar value_step
cast_151 = refl

-- D x; reinterpret_cast<const int *>(x)
cast_152 : reinterpret_cast (object_of (class_type 1)) (pointer_to (qualified only_const (fundamental base.Int))) ≡ false
unfolding added between cast cast_between cast_by_two cast_else cast_operand cast_unless const_cast goes_down reinterpret_cast static_cast static_kinds static_objects static_only static_pointers static_unless is_derived is_pending promoted class_step is_text pointer_to_class pointer_to_other related related_kinds step_of_enumeration steps_between steps_by_kinds steps_by_relation steps_of_arithmetic steps_of_enumeration steps_of_kinds steps_of_pointer steps_of_pointers steps_of_reference steps_of_related steps_of_unrelated steps_of_value steps_to_class steps_to_scalar value_step
cast_152 = refl

-- int (*x)[3]; static_cast<const int *const *>(x)
cast_153 : is_yes (static_cast sample true (object_of (pointer_to (array_of (fundamental base.Int) (number_bound 3)))) (pointer_to (qualified only_const (pointer_to (qualified only_const (fundamental base.Int)))))) ≡ false
unfolding added between cast cast_between cast_by_two cast_else cast_operand cast_unless const_cast goes_down reinterpret_cast static_cast static_kinds static_objects static_only static_pointers static_unless is_derived is_pending promoted class_step is_text pointer_to_class pointer_to_other related related_kinds step_of_enumeration steps_between steps_by_kinds steps_by_relation steps_of_arithmetic steps_of_enumeration steps_of_kinds steps_of_pointer steps_of_pointers steps_of_reference steps_of_related steps_of_unrelated steps_of_value steps_to_class steps_to_scalar value_step
cast_153 = refl

-- int *const x; const_cast<char *>(x)
cast_154 : const_cast (object_of (qualified only_const (pointer_to (fundamental base.Int)))) (pointer_to (fundamental base.Char)) ≡ false
unfolding added between cast cast_between cast_by_two cast_else cast_operand cast_unless const_cast goes_down reinterpret_cast static_cast static_kinds static_objects static_only static_pointers static_unless is_derived is_pending promoted class_step is_text pointer_to_class pointer_to_other related related_kinds step_of_enumeration steps_between steps_by_kinds steps_by_relation steps_of_arithmetic steps_of_enumeration steps_of_kinds steps_of_pointer steps_of_pointers steps_of_reference steps_of_related steps_of_unrelated steps_of_value steps_to_class steps_to_scalar value_step
cast_154 = refl

-- const void *x; reinterpret_cast<int *const >(x)
cast_155 : reinterpret_cast (object_of (pointer_to (qualified only_const (fundamental base.Void)))) (qualified only_const (pointer_to (fundamental base.Int))) ≡ false
unfolding added between cast cast_between cast_by_two cast_else cast_operand cast_unless const_cast goes_down reinterpret_cast static_cast static_kinds static_objects static_only static_pointers static_unless is_derived is_pending promoted class_step is_text pointer_to_class pointer_to_other related related_kinds step_of_enumeration steps_between steps_by_kinds steps_by_relation steps_of_arithmetic steps_of_enumeration steps_of_kinds steps_of_pointer steps_of_pointers steps_of_reference steps_of_related steps_of_unrelated steps_of_value steps_to_class steps_to_scalar value_step
cast_155 = refl

-- D x; reinterpret_cast<E >(x)
cast_156 : reinterpret_cast (object_of (class_type 1)) (enumeration 0) ≡ false
unfolding added between cast cast_between cast_by_two cast_else cast_operand cast_unless const_cast goes_down reinterpret_cast static_cast static_kinds static_objects static_only static_pointers static_unless is_derived is_pending promoted class_step is_text pointer_to_class pointer_to_other related related_kinds step_of_enumeration steps_between steps_by_kinds steps_by_relation steps_of_arithmetic steps_of_enumeration steps_of_kinds steps_of_pointer steps_of_pointers steps_of_reference steps_of_related steps_of_unrelated steps_of_value steps_to_class steps_to_scalar value_step
cast_156 = refl

-- int (*x)[3]; static_cast<E *>(x)
cast_157 : is_yes (static_cast sample true (object_of (pointer_to (array_of (fundamental base.Int) (number_bound 3)))) (pointer_to (enumeration 0))) ≡ false
unfolding added between cast cast_between cast_by_two cast_else cast_operand cast_unless const_cast goes_down reinterpret_cast static_cast static_kinds static_objects static_only static_pointers static_unless is_derived is_pending promoted class_step is_text pointer_to_class pointer_to_other related related_kinds step_of_enumeration steps_between steps_by_kinds steps_by_relation steps_of_arithmetic steps_of_enumeration steps_of_kinds steps_of_pointer steps_of_pointers steps_of_reference steps_of_related steps_of_unrelated steps_of_value steps_to_class steps_to_scalar value_step
cast_157 = refl

-- B x; const_cast<D *>(x)
cast_158 : const_cast (object_of (class_type 0)) (pointer_to (class_type 1)) ≡ false
unfolding added between cast cast_between cast_by_two cast_else cast_operand cast_unless const_cast goes_down reinterpret_cast static_cast static_kinds static_objects static_only static_pointers static_unless is_derived is_pending promoted class_step is_text pointer_to_class pointer_to_other related related_kinds step_of_enumeration steps_between steps_by_kinds steps_by_relation steps_of_arithmetic steps_of_enumeration steps_of_kinds steps_of_pointer steps_of_pointers steps_of_reference steps_of_related steps_of_unrelated steps_of_value steps_to_class steps_to_scalar value_step
cast_158 = refl

-- int *const x; const_cast<int *const *>(x)
cast_159 : const_cast (object_of (qualified only_const (pointer_to (fundamental base.Int)))) (pointer_to (qualified only_const (pointer_to (fundamental base.Int)))) ≡ false
unfolding added between cast cast_between cast_by_two cast_else cast_operand cast_unless const_cast goes_down reinterpret_cast static_cast static_kinds static_objects static_only static_pointers static_unless is_derived is_pending promoted class_step is_text pointer_to_class pointer_to_other related related_kinds step_of_enumeration steps_between steps_by_kinds steps_by_relation steps_of_arithmetic steps_of_enumeration steps_of_kinds steps_of_pointer steps_of_pointers steps_of_reference steps_of_related steps_of_unrelated steps_of_value steps_to_class steps_to_scalar value_step
cast_159 = refl

-- D x; const_cast<E *>(x)
cast_160 : const_cast (object_of (class_type 1)) (pointer_to (enumeration 0)) ≡ false
unfolding added between cast cast_between cast_by_two cast_else cast_operand cast_unless const_cast goes_down reinterpret_cast static_cast static_kinds static_objects static_only static_pointers static_unless is_derived is_pending promoted class_step is_text pointer_to_class pointer_to_other related related_kinds step_of_enumeration steps_between steps_by_kinds steps_by_relation steps_of_arithmetic steps_of_enumeration steps_of_kinds steps_of_pointer steps_of_pointers steps_of_reference steps_of_related steps_of_unrelated steps_of_value steps_to_class steps_to_scalar value_step
cast_160 = refl

-- int (*x)[3]; const_cast<int >(x)
cast_161 : const_cast (object_of (pointer_to (array_of (fundamental base.Int) (number_bound 3)))) (fundamental base.Int) ≡ false
unfolding added between cast cast_between cast_by_two cast_else cast_operand cast_unless const_cast goes_down reinterpret_cast static_cast static_kinds static_objects static_only static_pointers static_unless is_derived is_pending promoted class_step is_text pointer_to_class pointer_to_other related related_kinds step_of_enumeration steps_between steps_by_kinds steps_by_relation steps_of_arithmetic steps_of_enumeration steps_of_kinds steps_of_pointer steps_of_pointers steps_of_reference steps_of_related steps_of_unrelated steps_of_value steps_to_class steps_to_scalar value_step
cast_161 = refl

-- volatile int *x; static_cast<const int &>(x)
cast_162 : is_yes (static_cast sample true (object_of (pointer_to (qualified only_volatile (fundamental base.Int)))) (reference_to (qualified only_const (fundamental base.Int)))) ≡ false
unfolding added between cast cast_between cast_by_two cast_else cast_operand cast_unless const_cast goes_down reinterpret_cast static_cast static_kinds static_objects static_only static_pointers static_unless is_derived is_pending promoted class_step is_text pointer_to_class pointer_to_other related related_kinds step_of_enumeration steps_between steps_by_kinds steps_by_relation steps_of_arithmetic steps_of_enumeration steps_of_kinds steps_of_pointer steps_of_pointers steps_of_reference steps_of_related steps_of_unrelated steps_of_value steps_to_class steps_to_scalar value_step
cast_162 = refl

-- volatile int *x; static_cast<int *&>(x)
cast_163 : is_yes (static_cast sample true (object_of (pointer_to (qualified only_volatile (fundamental base.Int)))) (reference_to (pointer_to (fundamental base.Int)))) ≡ false
unfolding added between cast cast_between cast_by_two cast_else cast_operand cast_unless const_cast goes_down reinterpret_cast static_cast static_kinds static_objects static_only static_pointers static_unless is_derived is_pending promoted class_step is_text pointer_to_class pointer_to_other related related_kinds step_of_enumeration steps_between steps_by_kinds steps_by_relation steps_of_arithmetic steps_of_enumeration steps_of_kinds steps_of_pointer steps_of_pointers steps_of_reference steps_of_related steps_of_unrelated steps_of_value steps_to_class steps_to_scalar value_step
cast_163 = refl

-- unsigned long x; static_cast<const char *>(x)
cast_164 : is_yes (static_cast sample true (object_of (fundamental base.UnsignedLong)) (pointer_to (qualified only_const (fundamental base.Char)))) ≡ false
unfolding added between cast cast_between cast_by_two cast_else cast_operand cast_unless const_cast goes_down reinterpret_cast static_cast static_kinds static_objects static_only static_pointers static_unless is_derived is_pending promoted class_step is_text pointer_to_class pointer_to_other related related_kinds step_of_enumeration steps_between steps_by_kinds steps_by_relation steps_of_arithmetic steps_of_enumeration steps_of_kinds steps_of_pointer steps_of_pointers steps_of_reference steps_of_related steps_of_unrelated steps_of_value steps_to_class steps_to_scalar value_step
cast_164 = refl

-- const B *x; const_cast<const int *>(x)
cast_165 : const_cast (object_of (pointer_to (qualified only_const (class_type 0)))) (pointer_to (qualified only_const (fundamental base.Int))) ≡ false
unfolding added between cast cast_between cast_by_two cast_else cast_operand cast_unless const_cast goes_down reinterpret_cast static_cast static_kinds static_objects static_only static_pointers static_unless is_derived is_pending promoted class_step is_text pointer_to_class pointer_to_other related related_kinds step_of_enumeration steps_between steps_by_kinds steps_by_relation steps_of_arithmetic steps_of_enumeration steps_of_kinds steps_of_pointer steps_of_pointers steps_of_reference steps_of_related steps_of_unrelated steps_of_value steps_to_class steps_to_scalar value_step
cast_165 = refl

-- const void *x; static_cast<E &>(x)
cast_166 : is_yes (static_cast sample true (object_of (pointer_to (qualified only_const (fundamental base.Void)))) (reference_to (enumeration 0))) ≡ false
unfolding added between cast cast_between cast_by_two cast_else cast_operand cast_unless const_cast goes_down reinterpret_cast static_cast static_kinds static_objects static_only static_pointers static_unless is_derived is_pending promoted class_step is_text pointer_to_class pointer_to_other related related_kinds step_of_enumeration steps_between steps_by_kinds steps_by_relation steps_of_arithmetic steps_of_enumeration steps_of_kinds steps_of_pointer steps_of_pointers steps_of_reference steps_of_related steps_of_unrelated steps_of_value steps_to_class steps_to_scalar value_step
cast_166 = refl

-- int (*x)(int); static_cast<double >(x)
cast_167 : is_yes (static_cast sample true (object_of (pointer_to (function_of (fundamental base.Int) (type_then (fundamental base.Int) no_types) false no_cv))) (fundamental base.Double)) ≡ false
unfolding added between cast cast_between cast_by_two cast_else cast_operand cast_unless const_cast goes_down reinterpret_cast static_cast static_kinds static_objects static_only static_pointers static_unless is_derived is_pending promoted class_step is_text pointer_to_class pointer_to_other related related_kinds step_of_enumeration steps_between steps_by_kinds steps_by_relation steps_of_arithmetic steps_of_enumeration steps_of_kinds steps_of_pointer steps_of_pointers steps_of_reference steps_of_related steps_of_unrelated steps_of_value steps_to_class steps_to_scalar value_step
cast_167 = refl

-- const int *x; const_cast<const B &>(x)
cast_168 : const_cast (object_of (pointer_to (qualified only_const (fundamental base.Int)))) (reference_to (qualified only_const (class_type 0))) ≡ false
unfolding added between cast cast_between cast_by_two cast_else cast_operand cast_unless const_cast goes_down reinterpret_cast static_cast static_kinds static_objects static_only static_pointers static_unless is_derived is_pending promoted class_step is_text pointer_to_class pointer_to_other related related_kinds step_of_enumeration steps_between steps_by_kinds steps_by_relation steps_of_arithmetic steps_of_enumeration steps_of_kinds steps_of_pointer steps_of_pointers steps_of_reference steps_of_related steps_of_unrelated steps_of_value steps_to_class steps_to_scalar value_step
cast_168 = refl

-- char *x; static_cast<const int &>(x)
cast_169 : is_yes (static_cast sample true (object_of (pointer_to (fundamental base.Char))) (reference_to (qualified only_const (fundamental base.Int)))) ≡ false
unfolding added between cast cast_between cast_by_two cast_else cast_operand cast_unless const_cast goes_down reinterpret_cast static_cast static_kinds static_objects static_only static_pointers static_unless is_derived is_pending promoted class_step is_text pointer_to_class pointer_to_other related related_kinds step_of_enumeration steps_between steps_by_kinds steps_by_relation steps_of_arithmetic steps_of_enumeration steps_of_kinds steps_of_pointer steps_of_pointers steps_of_reference steps_of_related steps_of_unrelated steps_of_value steps_to_class steps_to_scalar value_step
cast_169 = refl

-- const int *const *x; const_cast<int >(x)
cast_170 : const_cast (object_of (pointer_to (qualified only_const (pointer_to (qualified only_const (fundamental base.Int)))))) (fundamental base.Int) ≡ false
unfolding added between cast cast_between cast_by_two cast_else cast_operand cast_unless const_cast goes_down reinterpret_cast static_cast static_kinds static_objects static_only static_pointers static_unless is_derived is_pending promoted class_step is_text pointer_to_class pointer_to_other related related_kinds step_of_enumeration steps_between steps_by_kinds steps_by_relation steps_of_arithmetic steps_of_enumeration steps_of_kinds steps_of_pointer steps_of_pointers steps_of_reference steps_of_related steps_of_unrelated steps_of_value steps_to_class steps_to_scalar value_step
cast_170 = refl

-- volatile int *x; static_cast<const D *>(x)
cast_171 : is_yes (static_cast sample true (object_of (pointer_to (qualified only_volatile (fundamental base.Int)))) (pointer_to (qualified only_const (class_type 1)))) ≡ false
unfolding added between cast cast_between cast_by_two cast_else cast_operand cast_unless const_cast goes_down reinterpret_cast static_cast static_kinds static_objects static_only static_pointers static_unless is_derived is_pending promoted class_step is_text pointer_to_class pointer_to_other related related_kinds step_of_enumeration steps_between steps_by_kinds steps_by_relation steps_of_arithmetic steps_of_enumeration steps_of_kinds steps_of_pointer steps_of_pointers steps_of_reference steps_of_related steps_of_unrelated steps_of_value steps_to_class steps_to_scalar value_step
cast_171 = refl

-- double x; const_cast<const int *>(x)
cast_172 : const_cast (object_of (fundamental base.Double)) (pointer_to (qualified only_const (fundamental base.Int))) ≡ false
unfolding added between cast cast_between cast_by_two cast_else cast_operand cast_unless const_cast goes_down reinterpret_cast static_cast static_kinds static_objects static_only static_pointers static_unless is_derived is_pending promoted class_step is_text pointer_to_class pointer_to_other related related_kinds step_of_enumeration steps_between steps_by_kinds steps_by_relation steps_of_arithmetic steps_of_enumeration steps_of_kinds steps_of_pointer steps_of_pointers steps_of_reference steps_of_related steps_of_unrelated steps_of_value steps_to_class steps_to_scalar value_step
cast_172 = refl

-- B x; const_cast<const D *>(x)
cast_173 : const_cast (object_of (class_type 0)) (pointer_to (qualified only_const (class_type 1))) ≡ false
unfolding added between cast cast_between cast_by_two cast_else cast_operand cast_unless const_cast goes_down reinterpret_cast static_cast static_kinds static_objects static_only static_pointers static_unless is_derived is_pending promoted class_step is_text pointer_to_class pointer_to_other related related_kinds step_of_enumeration steps_between steps_by_kinds steps_by_relation steps_of_arithmetic steps_of_enumeration steps_of_kinds steps_of_pointer steps_of_pointers steps_of_reference steps_of_related steps_of_unrelated steps_of_value steps_to_class steps_to_scalar value_step
cast_173 = refl

-- double x; static_cast<const int *>(x)
cast_174 : is_yes (static_cast sample true (object_of (fundamental base.Double)) (pointer_to (qualified only_const (fundamental base.Int)))) ≡ false
unfolding added between cast cast_between cast_by_two cast_else cast_operand cast_unless const_cast goes_down reinterpret_cast static_cast static_kinds static_objects static_only static_pointers static_unless is_derived is_pending promoted class_step is_text pointer_to_class pointer_to_other related related_kinds step_of_enumeration steps_between steps_by_kinds steps_by_relation steps_of_arithmetic steps_of_enumeration steps_of_kinds steps_of_pointer steps_of_pointers steps_of_reference steps_of_related steps_of_unrelated steps_of_value steps_to_class steps_to_scalar value_step
cast_174 = refl

-- const int *const *x; const_cast<B &>(x)
cast_175 : const_cast (object_of (pointer_to (qualified only_const (pointer_to (qualified only_const (fundamental base.Int)))))) (reference_to (class_type 0)) ≡ false
unfolding added between cast cast_between cast_by_two cast_else cast_operand cast_unless const_cast goes_down reinterpret_cast static_cast static_kinds static_objects static_only static_pointers static_unless is_derived is_pending promoted class_step is_text pointer_to_class pointer_to_other related related_kinds step_of_enumeration steps_between steps_by_kinds steps_by_relation steps_of_arithmetic steps_of_enumeration steps_of_kinds steps_of_pointer steps_of_pointers steps_of_reference steps_of_related steps_of_unrelated steps_of_value steps_to_class steps_to_scalar value_step
cast_175 = refl

-- D x; static_cast<long >(x)
cast_176 : is_yes (static_cast sample true (object_of (class_type 1)) (fundamental base.Long)) ≡ false
unfolding added between cast cast_between cast_by_two cast_else cast_operand cast_unless const_cast goes_down reinterpret_cast static_cast static_kinds static_objects static_only static_pointers static_unless is_derived is_pending promoted class_step is_text pointer_to_class pointer_to_other related related_kinds step_of_enumeration steps_between steps_by_kinds steps_by_relation steps_of_arithmetic steps_of_enumeration steps_of_kinds steps_of_pointer steps_of_pointers steps_of_reference steps_of_related steps_of_unrelated steps_of_value steps_to_class steps_to_scalar value_step
cast_176 = refl

-- long x; const_cast<B *>(x)
cast_177 : const_cast (object_of (fundamental base.Long)) (pointer_to (class_type 0)) ≡ false
unfolding added between cast cast_between cast_by_two cast_else cast_operand cast_unless const_cast goes_down reinterpret_cast static_cast static_kinds static_objects static_only static_pointers static_unless is_derived is_pending promoted class_step is_text pointer_to_class pointer_to_other related related_kinds step_of_enumeration steps_between steps_by_kinds steps_by_relation steps_of_arithmetic steps_of_enumeration steps_of_kinds steps_of_pointer steps_of_pointers steps_of_reference steps_of_related steps_of_unrelated steps_of_value steps_to_class steps_to_scalar value_step
cast_177 = refl

-- const int *x; reinterpret_cast<B *>(x)
cast_178 : reinterpret_cast (object_of (pointer_to (qualified only_const (fundamental base.Int)))) (pointer_to (class_type 0)) ≡ false
unfolding added between cast cast_between cast_by_two cast_else cast_operand cast_unless const_cast goes_down reinterpret_cast static_cast static_kinds static_objects static_only static_pointers static_unless is_derived is_pending promoted class_step is_text pointer_to_class pointer_to_other related related_kinds step_of_enumeration steps_between steps_by_kinds steps_by_relation steps_of_arithmetic steps_of_enumeration steps_of_kinds steps_of_pointer steps_of_pointers steps_of_reference steps_of_related steps_of_unrelated steps_of_value steps_to_class steps_to_scalar value_step
cast_178 = refl

-- D *x; static_cast<char *>(x)
cast_179 : is_yes (static_cast sample true (object_of (pointer_to (class_type 1))) (pointer_to (fundamental base.Char))) ≡ false
unfolding added between cast cast_between cast_by_two cast_else cast_operand cast_unless const_cast goes_down reinterpret_cast static_cast static_kinds static_objects static_only static_pointers static_unless is_derived is_pending promoted class_step is_text pointer_to_class pointer_to_other related related_kinds step_of_enumeration steps_between steps_by_kinds steps_by_relation steps_of_arithmetic steps_of_enumeration steps_of_kinds steps_of_pointer steps_of_pointers steps_of_reference steps_of_related steps_of_unrelated steps_of_value steps_to_class steps_to_scalar value_step
cast_179 = refl

-- double x; static_cast<void (*)()>(x)
cast_180 : is_yes (static_cast sample true (object_of (fundamental base.Double)) (pointer_to (function_of (fundamental base.Void) no_types false no_cv))) ≡ false
unfolding added between cast cast_between cast_by_two cast_else cast_operand cast_unless const_cast goes_down reinterpret_cast static_cast static_kinds static_objects static_only static_pointers static_unless is_derived is_pending promoted class_step is_text pointer_to_class pointer_to_other related related_kinds step_of_enumeration steps_between steps_by_kinds steps_by_relation steps_of_arithmetic steps_of_enumeration steps_of_kinds steps_of_pointer steps_of_pointers steps_of_reference steps_of_related steps_of_unrelated steps_of_value steps_to_class steps_to_scalar value_step
cast_180 = refl

-- int **x; static_cast<int &>(x)
cast_181 : is_yes (static_cast sample true (object_of (pointer_to (pointer_to (fundamental base.Int)))) (reference_to (fundamental base.Int))) ≡ false
unfolding added between cast cast_between cast_by_two cast_else cast_operand cast_unless const_cast goes_down reinterpret_cast static_cast static_kinds static_objects static_only static_pointers static_unless is_derived is_pending promoted class_step is_text pointer_to_class pointer_to_other related related_kinds step_of_enumeration steps_between steps_by_kinds steps_by_relation steps_of_arithmetic steps_of_enumeration steps_of_kinds steps_of_pointer steps_of_pointers steps_of_reference steps_of_related steps_of_unrelated steps_of_value steps_to_class steps_to_scalar value_step
cast_181 = refl

-- const char *x; static_cast<char *>(x)
cast_182 : is_yes (static_cast sample true (object_of (pointer_to (qualified only_const (fundamental base.Char)))) (pointer_to (fundamental base.Char))) ≡ false
unfolding added between cast cast_between cast_by_two cast_else cast_operand cast_unless const_cast goes_down reinterpret_cast static_cast static_kinds static_objects static_only static_pointers static_unless is_derived is_pending promoted class_step is_text pointer_to_class pointer_to_other related related_kinds step_of_enumeration steps_between steps_by_kinds steps_by_relation steps_of_arithmetic steps_of_enumeration steps_of_kinds steps_of_pointer steps_of_pointers steps_of_reference steps_of_related steps_of_unrelated steps_of_value steps_to_class steps_to_scalar value_step
cast_182 = refl

-- B *x; const_cast<int *const *>(x)
cast_183 : const_cast (object_of (pointer_to (class_type 0))) (pointer_to (qualified only_const (pointer_to (fundamental base.Int)))) ≡ false
unfolding added between cast cast_between cast_by_two cast_else cast_operand cast_unless const_cast goes_down reinterpret_cast static_cast static_kinds static_objects static_only static_pointers static_unless is_derived is_pending promoted class_step is_text pointer_to_class pointer_to_other related related_kinds step_of_enumeration steps_between steps_by_kinds steps_by_relation steps_of_arithmetic steps_of_enumeration steps_of_kinds steps_of_pointer steps_of_pointers steps_of_reference steps_of_related steps_of_unrelated steps_of_value steps_to_class steps_to_scalar value_step
cast_183 = refl

-- char *x; static_cast<const D *>(x)
cast_184 : is_yes (static_cast sample true (object_of (pointer_to (fundamental base.Char))) (pointer_to (qualified only_const (class_type 1)))) ≡ false
unfolding added between cast cast_between cast_by_two cast_else cast_operand cast_unless const_cast goes_down reinterpret_cast static_cast static_kinds static_objects static_only static_pointers static_unless is_derived is_pending promoted class_step is_text pointer_to_class pointer_to_other related related_kinds step_of_enumeration steps_between steps_by_kinds steps_by_relation steps_of_arithmetic steps_of_enumeration steps_of_kinds steps_of_pointer steps_of_pointers steps_of_reference steps_of_related steps_of_unrelated steps_of_value steps_to_class steps_to_scalar value_step
cast_184 = refl

-- const int **x; const_cast<void (&)()>(x)
cast_185 : const_cast (object_of (pointer_to (pointer_to (qualified only_const (fundamental base.Int))))) (reference_to (function_of (fundamental base.Void) no_types false no_cv)) ≡ false
unfolding added between cast cast_between cast_by_two cast_else cast_operand cast_unless const_cast goes_down reinterpret_cast static_cast static_kinds static_objects static_only static_pointers static_unless is_derived is_pending promoted class_step is_text pointer_to_class pointer_to_other related related_kinds step_of_enumeration steps_between steps_by_kinds steps_by_relation steps_of_arithmetic steps_of_enumeration steps_of_kinds steps_of_pointer steps_of_pointers steps_of_reference steps_of_related steps_of_unrelated steps_of_value steps_to_class steps_to_scalar value_step
cast_185 = refl

-- D x; static_cast<E &>(x)
cast_186 : is_yes (static_cast sample true (object_of (class_type 1)) (reference_to (enumeration 0))) ≡ false
unfolding added between cast cast_between cast_by_two cast_else cast_operand cast_unless const_cast goes_down reinterpret_cast static_cast static_kinds static_objects static_only static_pointers static_unless is_derived is_pending promoted class_step is_text pointer_to_class pointer_to_other related related_kinds step_of_enumeration steps_between steps_by_kinds steps_by_relation steps_of_arithmetic steps_of_enumeration steps_of_kinds steps_of_pointer steps_of_pointers steps_of_reference steps_of_related steps_of_unrelated steps_of_value steps_to_class steps_to_scalar value_step
cast_186 = refl

-- D x; (int (*)(int))x
cast_187 : is_some (cast sample true (object_of (class_type 1)) (pointer_to (function_of (fundamental base.Int) (type_then (fundamental base.Int) no_types) false no_cv))) ≡ false
unfolding added between cast cast_between cast_by_two cast_else cast_operand cast_unless const_cast goes_down reinterpret_cast static_cast static_kinds static_objects static_only static_pointers static_unless is_derived is_pending promoted class_step is_text pointer_to_class pointer_to_other related related_kinds step_of_enumeration steps_between steps_by_kinds steps_by_relation steps_of_arithmetic steps_of_enumeration steps_of_kinds steps_of_pointer steps_of_pointers steps_of_reference steps_of_related steps_of_unrelated steps_of_value steps_to_class steps_to_scalar value_step
cast_187 = refl

-- double x; (const D *)x
cast_188 : is_some (cast sample true (object_of (fundamental base.Double)) (pointer_to (qualified only_const (class_type 1)))) ≡ false
unfolding added between cast cast_between cast_by_two cast_else cast_operand cast_unless const_cast goes_down reinterpret_cast static_cast static_kinds static_objects static_only static_pointers static_unless is_derived is_pending promoted class_step is_text pointer_to_class pointer_to_other related related_kinds step_of_enumeration steps_between steps_by_kinds steps_by_relation steps_of_arithmetic steps_of_enumeration steps_of_kinds steps_of_pointer steps_of_pointers steps_of_reference steps_of_related steps_of_unrelated steps_of_value steps_to_class steps_to_scalar value_step
cast_188 = refl

-- int *const *x; static_cast<const int **>(x)
cast_189 : is_yes (static_cast sample true (object_of (pointer_to (qualified only_const (pointer_to (fundamental base.Int))))) (pointer_to (pointer_to (qualified only_const (fundamental base.Int))))) ≡ false
unfolding added between cast cast_between cast_by_two cast_else cast_operand cast_unless const_cast goes_down reinterpret_cast static_cast static_kinds static_objects static_only static_pointers static_unless is_derived is_pending promoted class_step is_text pointer_to_class pointer_to_other related related_kinds step_of_enumeration steps_between steps_by_kinds steps_by_relation steps_of_arithmetic steps_of_enumeration steps_of_kinds steps_of_pointer steps_of_pointers steps_of_reference steps_of_related steps_of_unrelated steps_of_value steps_to_class steps_to_scalar value_step
cast_189 = refl

-- int (*x)[3]; const_cast<const int *const *>(x)
cast_190 : const_cast (object_of (pointer_to (array_of (fundamental base.Int) (number_bound 3)))) (pointer_to (qualified only_const (pointer_to (qualified only_const (fundamental base.Int))))) ≡ false
unfolding added between cast cast_between cast_by_two cast_else cast_operand cast_unless const_cast goes_down reinterpret_cast static_cast static_kinds static_objects static_only static_pointers static_unless is_derived is_pending promoted class_step is_text pointer_to_class pointer_to_other related related_kinds step_of_enumeration steps_between steps_by_kinds steps_by_relation steps_of_arithmetic steps_of_enumeration steps_of_kinds steps_of_pointer steps_of_pointers steps_of_reference steps_of_related steps_of_unrelated steps_of_value steps_to_class steps_to_scalar value_step
cast_190 = refl

-- const D *x; reinterpret_cast<void *>(x)
cast_191 : reinterpret_cast (object_of (pointer_to (qualified only_const (class_type 1)))) (pointer_to (fundamental base.Void)) ≡ false
unfolding added between cast cast_between cast_by_two cast_else cast_operand cast_unless const_cast goes_down reinterpret_cast static_cast static_kinds static_objects static_only static_pointers static_unless is_derived is_pending promoted class_step is_text pointer_to_class pointer_to_other related related_kinds step_of_enumeration steps_between steps_by_kinds steps_by_relation steps_of_arithmetic steps_of_enumeration steps_of_kinds steps_of_pointer steps_of_pointers steps_of_reference steps_of_related steps_of_unrelated steps_of_value steps_to_class steps_to_scalar value_step
cast_191 = refl

-- void *x; static_cast<char >(x)
cast_192 : is_yes (static_cast sample true (object_of (pointer_to (fundamental base.Void))) (fundamental base.Char)) ≡ false
unfolding added between cast cast_between cast_by_two cast_else cast_operand cast_unless const_cast goes_down reinterpret_cast static_cast static_kinds static_objects static_only static_pointers static_unless is_derived is_pending promoted class_step is_text pointer_to_class pointer_to_other related related_kinds step_of_enumeration steps_between steps_by_kinds steps_by_relation steps_of_arithmetic steps_of_enumeration steps_of_kinds steps_of_pointer steps_of_pointers steps_of_reference steps_of_related steps_of_unrelated steps_of_value steps_to_class steps_to_scalar value_step
cast_192 = refl

-- int **x; static_cast<void (*)()>(x)
cast_193 : is_yes (static_cast sample true (object_of (pointer_to (pointer_to (fundamental base.Int)))) (pointer_to (function_of (fundamental base.Void) no_types false no_cv))) ≡ false
unfolding added between cast cast_between cast_by_two cast_else cast_operand cast_unless const_cast goes_down reinterpret_cast static_cast static_kinds static_objects static_only static_pointers static_unless is_derived is_pending promoted class_step is_text pointer_to_class pointer_to_other related related_kinds step_of_enumeration steps_between steps_by_kinds steps_by_relation steps_of_arithmetic steps_of_enumeration steps_of_kinds steps_of_pointer steps_of_pointers steps_of_reference steps_of_related steps_of_unrelated steps_of_value steps_to_class steps_to_scalar value_step
cast_193 = refl

-- const int **x; const_cast<char *>(x)
cast_194 : const_cast (object_of (pointer_to (pointer_to (qualified only_const (fundamental base.Int))))) (pointer_to (fundamental base.Char)) ≡ false
unfolding added between cast cast_between cast_by_two cast_else cast_operand cast_unless const_cast goes_down reinterpret_cast static_cast static_kinds static_objects static_only static_pointers static_unless is_derived is_pending promoted class_step is_text pointer_to_class pointer_to_other related related_kinds step_of_enumeration steps_between steps_by_kinds steps_by_relation steps_of_arithmetic steps_of_enumeration steps_of_kinds steps_of_pointer steps_of_pointers steps_of_reference steps_of_related steps_of_unrelated steps_of_value steps_to_class steps_to_scalar value_step
cast_194 = refl

-- const B x; static_cast<int *const >(x)
cast_195 : is_yes (static_cast sample true (object_of (qualified only_const (class_type 0))) (qualified only_const (pointer_to (fundamental base.Int)))) ≡ false
unfolding added between cast cast_between cast_by_two cast_else cast_operand cast_unless const_cast goes_down reinterpret_cast static_cast static_kinds static_objects static_only static_pointers static_unless is_derived is_pending promoted class_step is_text pointer_to_class pointer_to_other related related_kinds step_of_enumeration steps_between steps_by_kinds steps_by_relation steps_of_arithmetic steps_of_enumeration steps_of_kinds steps_of_pointer steps_of_pointers steps_of_reference steps_of_related steps_of_unrelated steps_of_value steps_to_class steps_to_scalar value_step
cast_195 = refl

-- double x; const_cast<char *>(x)
cast_196 : const_cast (object_of (fundamental base.Double)) (pointer_to (fundamental base.Char)) ≡ false
unfolding added between cast cast_between cast_by_two cast_else cast_operand cast_unless const_cast goes_down reinterpret_cast static_cast static_kinds static_objects static_only static_pointers static_unless is_derived is_pending promoted class_step is_text pointer_to_class pointer_to_other related related_kinds step_of_enumeration steps_between steps_by_kinds steps_by_relation steps_of_arithmetic steps_of_enumeration steps_of_kinds steps_of_pointer steps_of_pointers steps_of_reference steps_of_related steps_of_unrelated steps_of_value steps_to_class steps_to_scalar value_step
cast_196 = refl

-- const int **x; static_cast<int (*)[3]>(x)
cast_197 : is_yes (static_cast sample true (object_of (pointer_to (pointer_to (qualified only_const (fundamental base.Int))))) (pointer_to (array_of (fundamental base.Int) (number_bound 3)))) ≡ false
unfolding added between cast cast_between cast_by_two cast_else cast_operand cast_unless const_cast goes_down reinterpret_cast static_cast static_kinds static_objects static_only static_pointers static_unless is_derived is_pending promoted class_step is_text pointer_to_class pointer_to_other related related_kinds step_of_enumeration steps_between steps_by_kinds steps_by_relation steps_of_arithmetic steps_of_enumeration steps_of_kinds steps_of_pointer steps_of_pointers steps_of_reference steps_of_related steps_of_unrelated steps_of_value steps_to_class steps_to_scalar value_step
cast_197 = refl

-- B *x; const_cast<const void *>(x)
cast_198 : const_cast (object_of (pointer_to (class_type 0))) (pointer_to (qualified only_const (fundamental base.Void))) ≡ false
unfolding added between cast cast_between cast_by_two cast_else cast_operand cast_unless const_cast goes_down reinterpret_cast static_cast static_kinds static_objects static_only static_pointers static_unless is_derived is_pending promoted class_step is_text pointer_to_class pointer_to_other related related_kinds step_of_enumeration steps_between steps_by_kinds steps_by_relation steps_of_arithmetic steps_of_enumeration steps_of_kinds steps_of_pointer steps_of_pointers steps_of_reference steps_of_related steps_of_unrelated steps_of_value steps_to_class steps_to_scalar value_step
cast_198 = refl

-- const B x; const_cast<long >(x)
cast_199 : const_cast (object_of (qualified only_const (class_type 0))) (fundamental base.Long) ≡ false
unfolding added between cast cast_between cast_by_two cast_else cast_operand cast_unless const_cast goes_down reinterpret_cast static_cast static_kinds static_objects static_only static_pointers static_unless is_derived is_pending promoted class_step is_text pointer_to_class pointer_to_other related related_kinds step_of_enumeration steps_between steps_by_kinds steps_by_relation steps_of_arithmetic steps_of_enumeration steps_of_kinds steps_of_pointer steps_of_pointers steps_of_reference steps_of_related steps_of_unrelated steps_of_value steps_to_class steps_to_scalar value_step
cast_199 = refl

-- B x; reinterpret_cast<int *const *>(x)
cast_200 : reinterpret_cast (object_of (class_type 0)) (pointer_to (qualified only_const (pointer_to (fundamental base.Int)))) ≡ false
unfolding added between cast cast_between cast_by_two cast_else cast_operand cast_unless const_cast goes_down reinterpret_cast static_cast static_kinds static_objects static_only static_pointers static_unless is_derived is_pending promoted class_step is_text pointer_to_class pointer_to_other related related_kinds step_of_enumeration steps_between steps_by_kinds steps_by_relation steps_of_arithmetic steps_of_enumeration steps_of_kinds steps_of_pointer steps_of_pointers steps_of_reference steps_of_related steps_of_unrelated steps_of_value steps_to_class steps_to_scalar value_step
cast_200 = refl

-- B *x; static_cast<const int *>(x)
cast_201 : is_yes (static_cast sample true (object_of (pointer_to (class_type 0))) (pointer_to (qualified only_const (fundamental base.Int)))) ≡ false
unfolding added between cast cast_between cast_by_two cast_else cast_operand cast_unless const_cast goes_down reinterpret_cast static_cast static_kinds static_objects static_only static_pointers static_unless is_derived is_pending promoted class_step is_text pointer_to_class pointer_to_other related related_kinds step_of_enumeration steps_between steps_by_kinds steps_by_relation steps_of_arithmetic steps_of_enumeration steps_of_kinds steps_of_pointer steps_of_pointers steps_of_reference steps_of_related steps_of_unrelated steps_of_value steps_to_class steps_to_scalar value_step
cast_201 = refl

-- int *const x; const_cast<const int >(x)
cast_202 : const_cast (object_of (qualified only_const (pointer_to (fundamental base.Int)))) (qualified only_const (fundamental base.Int)) ≡ false
unfolding added between cast cast_between cast_by_two cast_else cast_operand cast_unless const_cast goes_down reinterpret_cast static_cast static_kinds static_objects static_only static_pointers static_unless is_derived is_pending promoted class_step is_text pointer_to_class pointer_to_other related related_kinds step_of_enumeration steps_between steps_by_kinds steps_by_relation steps_of_arithmetic steps_of_enumeration steps_of_kinds steps_of_pointer steps_of_pointers steps_of_reference steps_of_related steps_of_unrelated steps_of_value steps_to_class steps_to_scalar value_step
cast_202 = refl

-- char x; static_cast<const int **>(x)
cast_203 : is_yes (static_cast sample true (object_of (fundamental base.Char)) (pointer_to (pointer_to (qualified only_const (fundamental base.Int))))) ≡ false
unfolding added between cast cast_between cast_by_two cast_else cast_operand cast_unless const_cast goes_down reinterpret_cast static_cast static_kinds static_objects static_only static_pointers static_unless is_derived is_pending promoted class_step is_text pointer_to_class pointer_to_other related related_kinds step_of_enumeration steps_between steps_by_kinds steps_by_relation steps_of_arithmetic steps_of_enumeration steps_of_kinds steps_of_pointer steps_of_pointers steps_of_reference steps_of_related steps_of_unrelated steps_of_value steps_to_class steps_to_scalar value_step
cast_203 = refl

-- D *x; const_cast<const int *const *>(x)
cast_204 : const_cast (object_of (pointer_to (class_type 1))) (pointer_to (qualified only_const (pointer_to (qualified only_const (fundamental base.Int))))) ≡ false
unfolding added between cast cast_between cast_by_two cast_else cast_operand cast_unless const_cast goes_down reinterpret_cast static_cast static_kinds static_objects static_only static_pointers static_unless is_derived is_pending promoted class_step is_text pointer_to_class pointer_to_other related related_kinds step_of_enumeration steps_between steps_by_kinds steps_by_relation steps_of_arithmetic steps_of_enumeration steps_of_kinds steps_of_pointer steps_of_pointers steps_of_reference steps_of_related steps_of_unrelated steps_of_value steps_to_class steps_to_scalar value_step
cast_204 = refl

-- unsigned long x; static_cast<void *>(x)
cast_205 : is_yes (static_cast sample true (object_of (fundamental base.UnsignedLong)) (pointer_to (fundamental base.Void))) ≡ false
unfolding added between cast cast_between cast_by_two cast_else cast_operand cast_unless const_cast goes_down reinterpret_cast static_cast static_kinds static_objects static_only static_pointers static_unless is_derived is_pending promoted class_step is_text pointer_to_class pointer_to_other related related_kinds step_of_enumeration steps_between steps_by_kinds steps_by_relation steps_of_arithmetic steps_of_enumeration steps_of_kinds steps_of_pointer steps_of_pointers steps_of_reference steps_of_related steps_of_unrelated steps_of_value steps_to_class steps_to_scalar value_step
cast_205 = refl

-- D x; (void (*)())x
cast_206 : is_some (cast sample true (object_of (class_type 1)) (pointer_to (function_of (fundamental base.Void) no_types false no_cv))) ≡ false
unfolding added between cast cast_between cast_by_two cast_else cast_operand cast_unless const_cast goes_down reinterpret_cast static_cast static_kinds static_objects static_only static_pointers static_unless is_derived is_pending promoted class_step is_text pointer_to_class pointer_to_other related related_kinds step_of_enumeration steps_between steps_by_kinds steps_by_relation steps_of_arithmetic steps_of_enumeration steps_of_kinds steps_of_pointer steps_of_pointers steps_of_reference steps_of_related steps_of_unrelated steps_of_value steps_to_class steps_to_scalar value_step
cast_206 = refl

-- B x; static_cast<int &>(x)
cast_207 : is_yes (static_cast sample true (object_of (class_type 0)) (reference_to (fundamental base.Int))) ≡ false
unfolding added between cast cast_between cast_by_two cast_else cast_operand cast_unless const_cast goes_down reinterpret_cast static_cast static_kinds static_objects static_only static_pointers static_unless is_derived is_pending promoted class_step is_text pointer_to_class pointer_to_other related related_kinds step_of_enumeration steps_between steps_by_kinds steps_by_relation steps_of_arithmetic steps_of_enumeration steps_of_kinds steps_of_pointer steps_of_pointers steps_of_reference steps_of_related steps_of_unrelated steps_of_value steps_to_class steps_to_scalar value_step
cast_207 = refl

-- int (*x)[3]; const_cast<long >(x)
cast_208 : const_cast (object_of (pointer_to (array_of (fundamental base.Int) (number_bound 3)))) (fundamental base.Long) ≡ false
unfolding added between cast cast_between cast_by_two cast_else cast_operand cast_unless const_cast goes_down reinterpret_cast static_cast static_kinds static_objects static_only static_pointers static_unless is_derived is_pending promoted class_step is_text pointer_to_class pointer_to_other related related_kinds step_of_enumeration steps_between steps_by_kinds steps_by_relation steps_of_arithmetic steps_of_enumeration steps_of_kinds steps_of_pointer steps_of_pointers steps_of_reference steps_of_related steps_of_unrelated steps_of_value steps_to_class steps_to_scalar value_step
cast_208 = refl

-- int (*x)[3]; static_cast<char &>(x)
cast_209 : is_yes (static_cast sample true (object_of (pointer_to (array_of (fundamental base.Int) (number_bound 3)))) (reference_to (fundamental base.Char))) ≡ false
unfolding added between cast cast_between cast_by_two cast_else cast_operand cast_unless const_cast goes_down reinterpret_cast static_cast static_kinds static_objects static_only static_pointers static_unless is_derived is_pending promoted class_step is_text pointer_to_class pointer_to_other related related_kinds step_of_enumeration steps_between steps_by_kinds steps_by_relation steps_of_arithmetic steps_of_enumeration steps_of_kinds steps_of_pointer steps_of_pointers steps_of_reference steps_of_related steps_of_unrelated steps_of_value steps_to_class steps_to_scalar value_step
cast_209 = refl

-- double x; reinterpret_cast<int *>(x)
cast_210 : reinterpret_cast (object_of (fundamental base.Double)) (pointer_to (fundamental base.Int)) ≡ false
unfolding added between cast cast_between cast_by_two cast_else cast_operand cast_unless const_cast goes_down reinterpret_cast static_cast static_kinds static_objects static_only static_pointers static_unless is_derived is_pending promoted class_step is_text pointer_to_class pointer_to_other related related_kinds step_of_enumeration steps_between steps_by_kinds steps_by_relation steps_of_arithmetic steps_of_enumeration steps_of_kinds steps_of_pointer steps_of_pointers steps_of_reference steps_of_related steps_of_unrelated steps_of_value steps_to_class steps_to_scalar value_step
cast_210 = refl

-- E x; const_cast<void (*)()>(x)
cast_211 : const_cast (object_of (enumeration 0)) (pointer_to (function_of (fundamental base.Void) no_types false no_cv)) ≡ false
unfolding added between cast cast_between cast_by_two cast_else cast_operand cast_unless const_cast goes_down reinterpret_cast static_cast static_kinds static_objects static_only static_pointers static_unless is_derived is_pending promoted class_step is_text pointer_to_class pointer_to_other related related_kinds step_of_enumeration steps_between steps_by_kinds steps_by_relation steps_of_arithmetic steps_of_enumeration steps_of_kinds steps_of_pointer steps_of_pointers steps_of_reference steps_of_related steps_of_unrelated steps_of_value steps_to_class steps_to_scalar value_step
cast_211 = refl

-- bool x; const_cast<int *const *>(x)
cast_212 : const_cast (object_of (fundamental base.Bool)) (pointer_to (qualified only_const (pointer_to (fundamental base.Int)))) ≡ false
unfolding added between cast cast_between cast_by_two cast_else cast_operand cast_unless const_cast goes_down reinterpret_cast static_cast static_kinds static_objects static_only static_pointers static_unless is_derived is_pending promoted class_step is_text pointer_to_class pointer_to_other related related_kinds step_of_enumeration steps_between steps_by_kinds steps_by_relation steps_of_arithmetic steps_of_enumeration steps_of_kinds steps_of_pointer steps_of_pointers steps_of_reference steps_of_related steps_of_unrelated steps_of_value steps_to_class steps_to_scalar value_step
cast_212 = refl

-- const B *x; static_cast<E >(x)
cast_213 : is_yes (static_cast sample true (object_of (pointer_to (qualified only_const (class_type 0)))) (enumeration 0)) ≡ false
unfolding added between cast cast_between cast_by_two cast_else cast_operand cast_unless const_cast goes_down reinterpret_cast static_cast static_kinds static_objects static_only static_pointers static_unless is_derived is_pending promoted class_step is_text pointer_to_class pointer_to_other related related_kinds step_of_enumeration steps_between steps_by_kinds steps_by_relation steps_of_arithmetic steps_of_enumeration steps_of_kinds steps_of_pointer steps_of_pointers steps_of_reference steps_of_related steps_of_unrelated steps_of_value steps_to_class steps_to_scalar value_step
cast_213 = refl

-- int (*x)[3]; const_cast<const int >(x)
cast_214 : const_cast (object_of (pointer_to (array_of (fundamental base.Int) (number_bound 3)))) (qualified only_const (fundamental base.Int)) ≡ false
unfolding added between cast cast_between cast_by_two cast_else cast_operand cast_unless const_cast goes_down reinterpret_cast static_cast static_kinds static_objects static_only static_pointers static_unless is_derived is_pending promoted class_step is_text pointer_to_class pointer_to_other related related_kinds step_of_enumeration steps_between steps_by_kinds steps_by_relation steps_of_arithmetic steps_of_enumeration steps_of_kinds steps_of_pointer steps_of_pointers steps_of_reference steps_of_related steps_of_unrelated steps_of_value steps_to_class steps_to_scalar value_step
cast_214 = refl

-- int *const *x; const_cast<unsigned long >(x)
cast_215 : const_cast (object_of (pointer_to (qualified only_const (pointer_to (fundamental base.Int))))) (fundamental base.UnsignedLong) ≡ false
unfolding added between cast cast_between cast_by_two cast_else cast_operand cast_unless const_cast goes_down reinterpret_cast static_cast static_kinds static_objects static_only static_pointers static_unless is_derived is_pending promoted class_step is_text pointer_to_class pointer_to_other related related_kinds step_of_enumeration steps_between steps_by_kinds steps_by_relation steps_of_arithmetic steps_of_enumeration steps_of_kinds steps_of_pointer steps_of_pointers steps_of_reference steps_of_related steps_of_unrelated steps_of_value steps_to_class steps_to_scalar value_step
cast_215 = refl

-- int *const x; reinterpret_cast<int *&>(x)
cast_216 : reinterpret_cast (object_of (qualified only_const (pointer_to (fundamental base.Int)))) (reference_to (pointer_to (fundamental base.Int))) ≡ false
unfolding added between cast cast_between cast_by_two cast_else cast_operand cast_unless const_cast goes_down reinterpret_cast static_cast static_kinds static_objects static_only static_pointers static_unless is_derived is_pending promoted class_step is_text pointer_to_class pointer_to_other related related_kinds step_of_enumeration steps_between steps_by_kinds steps_by_relation steps_of_arithmetic steps_of_enumeration steps_of_kinds steps_of_pointer steps_of_pointers steps_of_reference steps_of_related steps_of_unrelated steps_of_value steps_to_class steps_to_scalar value_step
cast_216 = refl

-- D x; reinterpret_cast<char *>(x)
cast_217 : reinterpret_cast (object_of (class_type 1)) (pointer_to (fundamental base.Char)) ≡ false
unfolding added between cast cast_between cast_by_two cast_else cast_operand cast_unless const_cast goes_down reinterpret_cast static_cast static_kinds static_objects static_only static_pointers static_unless is_derived is_pending promoted class_step is_text pointer_to_class pointer_to_other related related_kinds step_of_enumeration steps_between steps_by_kinds steps_by_relation steps_of_arithmetic steps_of_enumeration steps_of_kinds steps_of_pointer steps_of_pointers steps_of_reference steps_of_related steps_of_unrelated steps_of_value steps_to_class steps_to_scalar value_step
cast_217 = refl

-- const B x; reinterpret_cast<int **>(x)
cast_218 : reinterpret_cast (object_of (qualified only_const (class_type 0))) (pointer_to (pointer_to (fundamental base.Int))) ≡ false
unfolding added between cast cast_between cast_by_two cast_else cast_operand cast_unless const_cast goes_down reinterpret_cast static_cast static_kinds static_objects static_only static_pointers static_unless is_derived is_pending promoted class_step is_text pointer_to_class pointer_to_other related related_kinds step_of_enumeration steps_between steps_by_kinds steps_by_relation steps_of_arithmetic steps_of_enumeration steps_of_kinds steps_of_pointer steps_of_pointers steps_of_reference steps_of_related steps_of_unrelated steps_of_value steps_to_class steps_to_scalar value_step
cast_218 = refl

-- void (*x)(); static_cast<char &>(x)
cast_219 : is_yes (static_cast sample true (object_of (pointer_to (function_of (fundamental base.Void) no_types false no_cv))) (reference_to (fundamental base.Char))) ≡ false
unfolding added between cast cast_between cast_by_two cast_else cast_operand cast_unless const_cast goes_down reinterpret_cast static_cast static_kinds static_objects static_only static_pointers static_unless is_derived is_pending promoted class_step is_text pointer_to_class pointer_to_other related related_kinds step_of_enumeration steps_between steps_by_kinds steps_by_relation steps_of_arithmetic steps_of_enumeration steps_of_kinds steps_of_pointer steps_of_pointers steps_of_reference steps_of_related steps_of_unrelated steps_of_value steps_to_class steps_to_scalar value_step
cast_219 = refl

-- int **x; reinterpret_cast<void >(x)
cast_220 : reinterpret_cast (object_of (pointer_to (pointer_to (fundamental base.Int)))) (fundamental base.Void) ≡ false
unfolding added between cast cast_between cast_by_two cast_else cast_operand cast_unless const_cast goes_down reinterpret_cast static_cast static_kinds static_objects static_only static_pointers static_unless is_derived is_pending promoted class_step is_text pointer_to_class pointer_to_other related related_kinds step_of_enumeration steps_between steps_by_kinds steps_by_relation steps_of_arithmetic steps_of_enumeration steps_of_kinds steps_of_pointer steps_of_pointers steps_of_reference steps_of_related steps_of_unrelated steps_of_value steps_to_class steps_to_scalar value_step
cast_220 = refl

-- E *x; const_cast<const D &>(x)
cast_221 : const_cast (object_of (pointer_to (enumeration 0))) (reference_to (qualified only_const (class_type 1))) ≡ false
unfolding added between cast cast_between cast_by_two cast_else cast_operand cast_unless const_cast goes_down reinterpret_cast static_cast static_kinds static_objects static_only static_pointers static_unless is_derived is_pending promoted class_step is_text pointer_to_class pointer_to_other related related_kinds step_of_enumeration steps_between steps_by_kinds steps_by_relation steps_of_arithmetic steps_of_enumeration steps_of_kinds steps_of_pointer steps_of_pointers steps_of_reference steps_of_related steps_of_unrelated steps_of_value steps_to_class steps_to_scalar value_step
cast_221 = refl

-- int **x; static_cast<D &>(x)
cast_222 : is_yes (static_cast sample true (object_of (pointer_to (pointer_to (fundamental base.Int)))) (reference_to (class_type 1))) ≡ false
unfolding added between cast cast_between cast_by_two cast_else cast_operand cast_unless const_cast goes_down reinterpret_cast static_cast static_kinds static_objects static_only static_pointers static_unless is_derived is_pending promoted class_step is_text pointer_to_class pointer_to_other related related_kinds step_of_enumeration steps_between steps_by_kinds steps_by_relation steps_of_arithmetic steps_of_enumeration steps_of_kinds steps_of_pointer steps_of_pointers steps_of_reference steps_of_related steps_of_unrelated steps_of_value steps_to_class steps_to_scalar value_step
cast_222 = refl

-- B *x; static_cast<double >(x)
cast_223 : is_yes (static_cast sample true (object_of (pointer_to (class_type 0))) (fundamental base.Double)) ≡ false
unfolding added between cast cast_between cast_by_two cast_else cast_operand cast_unless const_cast goes_down reinterpret_cast static_cast static_kinds static_objects static_only static_pointers static_unless is_derived is_pending promoted class_step is_text pointer_to_class pointer_to_other related related_kinds step_of_enumeration steps_between steps_by_kinds steps_by_relation steps_of_arithmetic steps_of_enumeration steps_of_kinds steps_of_pointer steps_of_pointers steps_of_reference steps_of_related steps_of_unrelated steps_of_value steps_to_class steps_to_scalar value_step
cast_223 = refl

-- const B *x; const_cast<void (*)()>(x)
cast_224 : const_cast (object_of (pointer_to (qualified only_const (class_type 0)))) (pointer_to (function_of (fundamental base.Void) no_types false no_cv)) ≡ false
unfolding added between cast cast_between cast_by_two cast_else cast_operand cast_unless const_cast goes_down reinterpret_cast static_cast static_kinds static_objects static_only static_pointers static_unless is_derived is_pending promoted class_step is_text pointer_to_class pointer_to_other related related_kinds step_of_enumeration steps_between steps_by_kinds steps_by_relation steps_of_arithmetic steps_of_enumeration steps_of_kinds steps_of_pointer steps_of_pointers steps_of_reference steps_of_related steps_of_unrelated steps_of_value steps_to_class steps_to_scalar value_step
cast_224 = refl

-- const char *x; reinterpret_cast<int *&>(x)
cast_225 : reinterpret_cast (object_of (pointer_to (qualified only_const (fundamental base.Char)))) (reference_to (pointer_to (fundamental base.Int))) ≡ false
unfolding added between cast cast_between cast_by_two cast_else cast_operand cast_unless const_cast goes_down reinterpret_cast static_cast static_kinds static_objects static_only static_pointers static_unless is_derived is_pending promoted class_step is_text pointer_to_class pointer_to_other related related_kinds step_of_enumeration steps_between steps_by_kinds steps_by_relation steps_of_arithmetic steps_of_enumeration steps_of_kinds steps_of_pointer steps_of_pointers steps_of_reference steps_of_related steps_of_unrelated steps_of_value steps_to_class steps_to_scalar value_step
cast_225 = refl

-- unsigned long x; const_cast<B &>(x)
cast_226 : const_cast (object_of (fundamental base.UnsignedLong)) (reference_to (class_type 0)) ≡ false
unfolding added between cast cast_between cast_by_two cast_else cast_operand cast_unless const_cast goes_down reinterpret_cast static_cast static_kinds static_objects static_only static_pointers static_unless is_derived is_pending promoted class_step is_text pointer_to_class pointer_to_other related related_kinds step_of_enumeration steps_between steps_by_kinds steps_by_relation steps_of_arithmetic steps_of_enumeration steps_of_kinds steps_of_pointer steps_of_pointers steps_of_reference steps_of_related steps_of_unrelated steps_of_value steps_to_class steps_to_scalar value_step
cast_226 = refl

-- const D *x; static_cast<double >(x)
cast_227 : is_yes (static_cast sample true (object_of (pointer_to (qualified only_const (class_type 1)))) (fundamental base.Double)) ≡ false
unfolding added between cast cast_between cast_by_two cast_else cast_operand cast_unless const_cast goes_down reinterpret_cast static_cast static_kinds static_objects static_only static_pointers static_unless is_derived is_pending promoted class_step is_text pointer_to_class pointer_to_other related related_kinds step_of_enumeration steps_between steps_by_kinds steps_by_relation steps_of_arithmetic steps_of_enumeration steps_of_kinds steps_of_pointer steps_of_pointers steps_of_reference steps_of_related steps_of_unrelated steps_of_value steps_to_class steps_to_scalar value_step
cast_227 = refl

-- B x; (const int *const *)x
cast_228 : is_some (cast sample true (object_of (class_type 0)) (pointer_to (qualified only_const (pointer_to (qualified only_const (fundamental base.Int)))))) ≡ false
unfolding added between cast cast_between cast_by_two cast_else cast_operand cast_unless const_cast goes_down reinterpret_cast static_cast static_kinds static_objects static_only static_pointers static_unless is_derived is_pending promoted class_step is_text pointer_to_class pointer_to_other related related_kinds step_of_enumeration steps_between steps_by_kinds steps_by_relation steps_of_arithmetic steps_of_enumeration steps_of_kinds steps_of_pointer steps_of_pointers steps_of_reference steps_of_related steps_of_unrelated steps_of_value steps_to_class steps_to_scalar value_step
cast_228 = refl

-- unsigned long x; static_cast<B &>(x)
cast_229 : is_yes (static_cast sample true (object_of (fundamental base.UnsignedLong)) (reference_to (class_type 0))) ≡ false
unfolding added between cast cast_between cast_by_two cast_else cast_operand cast_unless const_cast goes_down reinterpret_cast static_cast static_kinds static_objects static_only static_pointers static_unless is_derived is_pending promoted class_step is_text pointer_to_class pointer_to_other related related_kinds step_of_enumeration steps_between steps_by_kinds steps_by_relation steps_of_arithmetic steps_of_enumeration steps_of_kinds steps_of_pointer steps_of_pointers steps_of_reference steps_of_related steps_of_unrelated steps_of_value steps_to_class steps_to_scalar value_step
cast_229 = refl

-- const int **x; static_cast<int *>(x)
cast_230 : is_yes (static_cast sample true (object_of (pointer_to (pointer_to (qualified only_const (fundamental base.Int))))) (pointer_to (fundamental base.Int))) ≡ false
unfolding added between cast cast_between cast_by_two cast_else cast_operand cast_unless const_cast goes_down reinterpret_cast static_cast static_kinds static_objects static_only static_pointers static_unless is_derived is_pending promoted class_step is_text pointer_to_class pointer_to_other related related_kinds step_of_enumeration steps_between steps_by_kinds steps_by_relation steps_of_arithmetic steps_of_enumeration steps_of_kinds steps_of_pointer steps_of_pointers steps_of_reference steps_of_related steps_of_unrelated steps_of_value steps_to_class steps_to_scalar value_step
cast_230 = refl

-- const B *x; static_cast<int *const *>(x)
cast_231 : is_yes (static_cast sample true (object_of (pointer_to (qualified only_const (class_type 0)))) (pointer_to (qualified only_const (pointer_to (fundamental base.Int))))) ≡ false
unfolding added between cast cast_between cast_by_two cast_else cast_operand cast_unless const_cast goes_down reinterpret_cast static_cast static_kinds static_objects static_only static_pointers static_unless is_derived is_pending promoted class_step is_text pointer_to_class pointer_to_other related related_kinds step_of_enumeration steps_between steps_by_kinds steps_by_relation steps_of_arithmetic steps_of_enumeration steps_of_kinds steps_of_pointer steps_of_pointers steps_of_reference steps_of_related steps_of_unrelated steps_of_value steps_to_class steps_to_scalar value_step
cast_231 = refl

-- int *const x; const_cast<E >(x)
cast_232 : const_cast (object_of (qualified only_const (pointer_to (fundamental base.Int)))) (enumeration 0) ≡ false
unfolding added between cast cast_between cast_by_two cast_else cast_operand cast_unless const_cast goes_down reinterpret_cast static_cast static_kinds static_objects static_only static_pointers static_unless is_derived is_pending promoted class_step is_text pointer_to_class pointer_to_other related related_kinds step_of_enumeration steps_between steps_by_kinds steps_by_relation steps_of_arithmetic steps_of_enumeration steps_of_kinds steps_of_pointer steps_of_pointers steps_of_reference steps_of_related steps_of_unrelated steps_of_value steps_to_class steps_to_scalar value_step
cast_232 = refl

-- const int *const *x; const_cast<unsigned long >(x)
cast_233 : const_cast (object_of (pointer_to (qualified only_const (pointer_to (qualified only_const (fundamental base.Int)))))) (fundamental base.UnsignedLong) ≡ false
unfolding added between cast cast_between cast_by_two cast_else cast_operand cast_unless const_cast goes_down reinterpret_cast static_cast static_kinds static_objects static_only static_pointers static_unless is_derived is_pending promoted class_step is_text pointer_to_class pointer_to_other related related_kinds step_of_enumeration steps_between steps_by_kinds steps_by_relation steps_of_arithmetic steps_of_enumeration steps_of_kinds steps_of_pointer steps_of_pointers steps_of_reference steps_of_related steps_of_unrelated steps_of_value steps_to_class steps_to_scalar value_step
cast_233 = refl

-- E x; const_cast<const char *>(x)
cast_234 : const_cast (object_of (enumeration 0)) (pointer_to (qualified only_const (fundamental base.Char))) ≡ false
unfolding added between cast cast_between cast_by_two cast_else cast_operand cast_unless const_cast goes_down reinterpret_cast static_cast static_kinds static_objects static_only static_pointers static_unless is_derived is_pending promoted class_step is_text pointer_to_class pointer_to_other related related_kinds step_of_enumeration steps_between steps_by_kinds steps_by_relation steps_of_arithmetic steps_of_enumeration steps_of_kinds steps_of_pointer steps_of_pointers steps_of_reference steps_of_related steps_of_unrelated steps_of_value steps_to_class steps_to_scalar value_step
cast_234 = refl

-- E *x; static_cast<E >(x)
cast_235 : is_yes (static_cast sample true (object_of (pointer_to (enumeration 0))) (enumeration 0)) ≡ false
unfolding added between cast cast_between cast_by_two cast_else cast_operand cast_unless const_cast goes_down reinterpret_cast static_cast static_kinds static_objects static_only static_pointers static_unless is_derived is_pending promoted class_step is_text pointer_to_class pointer_to_other related related_kinds step_of_enumeration steps_between steps_by_kinds steps_by_relation steps_of_arithmetic steps_of_enumeration steps_of_kinds steps_of_pointer steps_of_pointers steps_of_reference steps_of_related steps_of_unrelated steps_of_value steps_to_class steps_to_scalar value_step
cast_235 = refl

-- int x[3]; const_cast<const int **>(x)
cast_236 : const_cast (object_of (array_of (fundamental base.Int) (number_bound 3))) (pointer_to (pointer_to (qualified only_const (fundamental base.Int)))) ≡ false
unfolding added between cast cast_between cast_by_two cast_else cast_operand cast_unless const_cast goes_down reinterpret_cast static_cast static_kinds static_objects static_only static_pointers static_unless is_derived is_pending promoted class_step is_text pointer_to_class pointer_to_other related related_kinds step_of_enumeration steps_between steps_by_kinds steps_by_relation steps_of_arithmetic steps_of_enumeration steps_of_kinds steps_of_pointer steps_of_pointers steps_of_reference steps_of_related steps_of_unrelated steps_of_value steps_to_class steps_to_scalar value_step
cast_236 = refl

-- const D x; static_cast<E &>(x)
cast_237 : is_yes (static_cast sample true (object_of (qualified only_const (class_type 1))) (reference_to (enumeration 0))) ≡ false
unfolding added between cast cast_between cast_by_two cast_else cast_operand cast_unless const_cast goes_down reinterpret_cast static_cast static_kinds static_objects static_only static_pointers static_unless is_derived is_pending promoted class_step is_text pointer_to_class pointer_to_other related related_kinds step_of_enumeration steps_between steps_by_kinds steps_by_relation steps_of_arithmetic steps_of_enumeration steps_of_kinds steps_of_pointer steps_of_pointers steps_of_reference steps_of_related steps_of_unrelated steps_of_value steps_to_class steps_to_scalar value_step
cast_237 = refl

-- const B x; const_cast<E &>(x)
cast_238 : const_cast (object_of (qualified only_const (class_type 0))) (reference_to (enumeration 0)) ≡ false
unfolding added between cast cast_between cast_by_two cast_else cast_operand cast_unless const_cast goes_down reinterpret_cast static_cast static_kinds static_objects static_only static_pointers static_unless is_derived is_pending promoted class_step is_text pointer_to_class pointer_to_other related related_kinds step_of_enumeration steps_between steps_by_kinds steps_by_relation steps_of_arithmetic steps_of_enumeration steps_of_kinds steps_of_pointer steps_of_pointers steps_of_reference steps_of_related steps_of_unrelated steps_of_value steps_to_class steps_to_scalar value_step
cast_238 = refl

-- E x; const_cast<void >(x)
cast_239 : const_cast (object_of (enumeration 0)) (fundamental base.Void) ≡ false
unfolding added between cast cast_between cast_by_two cast_else cast_operand cast_unless const_cast goes_down reinterpret_cast static_cast static_kinds static_objects static_only static_pointers static_unless is_derived is_pending promoted class_step is_text pointer_to_class pointer_to_other related related_kinds step_of_enumeration steps_between steps_by_kinds steps_by_relation steps_of_arithmetic steps_of_enumeration steps_of_kinds steps_of_pointer steps_of_pointers steps_of_reference steps_of_related steps_of_unrelated steps_of_value steps_to_class steps_to_scalar value_step
cast_239 = refl

-- int x[3]; const_cast<const int >(x)
cast_240 : const_cast (object_of (array_of (fundamental base.Int) (number_bound 3))) (qualified only_const (fundamental base.Int)) ≡ false
unfolding added between cast cast_between cast_by_two cast_else cast_operand cast_unless const_cast goes_down reinterpret_cast static_cast static_kinds static_objects static_only static_pointers static_unless is_derived is_pending promoted class_step is_text pointer_to_class pointer_to_other related related_kinds step_of_enumeration steps_between steps_by_kinds steps_by_relation steps_of_arithmetic steps_of_enumeration steps_of_kinds steps_of_pointer steps_of_pointers steps_of_reference steps_of_related steps_of_unrelated steps_of_value steps_to_class steps_to_scalar value_step
cast_240 = refl

-- int x[3]; static_cast<E *>(x)
cast_241 : is_yes (static_cast sample true (object_of (array_of (fundamental base.Int) (number_bound 3))) (pointer_to (enumeration 0))) ≡ false
unfolding added between cast cast_between cast_by_two cast_else cast_operand cast_unless const_cast goes_down reinterpret_cast static_cast static_kinds static_objects static_only static_pointers static_unless is_derived is_pending promoted class_step is_text pointer_to_class pointer_to_other related related_kinds step_of_enumeration steps_between steps_by_kinds steps_by_relation steps_of_arithmetic steps_of_enumeration steps_of_kinds steps_of_pointer steps_of_pointers steps_of_reference steps_of_related steps_of_unrelated steps_of_value steps_to_class steps_to_scalar value_step
cast_241 = refl

-- E x; const_cast<const D *>(x)
cast_242 : const_cast (object_of (enumeration 0)) (pointer_to (qualified only_const (class_type 1))) ≡ false
unfolding added between cast cast_between cast_by_two cast_else cast_operand cast_unless const_cast goes_down reinterpret_cast static_cast static_kinds static_objects static_only static_pointers static_unless is_derived is_pending promoted class_step is_text pointer_to_class pointer_to_other related related_kinds step_of_enumeration steps_between steps_by_kinds steps_by_relation steps_of_arithmetic steps_of_enumeration steps_of_kinds steps_of_pointer steps_of_pointers steps_of_reference steps_of_related steps_of_unrelated steps_of_value steps_to_class steps_to_scalar value_step
cast_242 = refl

-- int x; static_cast<int (*)[3]>(x)
cast_243 : is_yes (static_cast sample true (object_of (fundamental base.Int)) (pointer_to (array_of (fundamental base.Int) (number_bound 3)))) ≡ false
unfolding added between cast cast_between cast_by_two cast_else cast_operand cast_unless const_cast goes_down reinterpret_cast static_cast static_kinds static_objects static_only static_pointers static_unless is_derived is_pending promoted class_step is_text pointer_to_class pointer_to_other related related_kinds step_of_enumeration steps_between steps_by_kinds steps_by_relation steps_of_arithmetic steps_of_enumeration steps_of_kinds steps_of_pointer steps_of_pointers steps_of_reference steps_of_related steps_of_unrelated steps_of_value steps_to_class steps_to_scalar value_step
cast_243 = refl

-- const D x; reinterpret_cast<const D *>(x)
cast_244 : reinterpret_cast (object_of (qualified only_const (class_type 1))) (pointer_to (qualified only_const (class_type 1))) ≡ false
unfolding added between cast cast_between cast_by_two cast_else cast_operand cast_unless const_cast goes_down reinterpret_cast static_cast static_kinds static_objects static_only static_pointers static_unless is_derived is_pending promoted class_step is_text pointer_to_class pointer_to_other related related_kinds step_of_enumeration steps_between steps_by_kinds steps_by_relation steps_of_arithmetic steps_of_enumeration steps_of_kinds steps_of_pointer steps_of_pointers steps_of_reference steps_of_related steps_of_unrelated steps_of_value steps_to_class steps_to_scalar value_step
cast_244 = refl

-- void (*x)(); static_cast<int **>(x)
cast_245 : is_yes (static_cast sample true (object_of (pointer_to (function_of (fundamental base.Void) no_types false no_cv))) (pointer_to (pointer_to (fundamental base.Int)))) ≡ false
unfolding added between cast cast_between cast_by_two cast_else cast_operand cast_unless const_cast goes_down reinterpret_cast static_cast static_kinds static_objects static_only static_pointers static_unless is_derived is_pending promoted class_step is_text pointer_to_class pointer_to_other related related_kinds step_of_enumeration steps_between steps_by_kinds steps_by_relation steps_of_arithmetic steps_of_enumeration steps_of_kinds steps_of_pointer steps_of_pointers steps_of_reference steps_of_related steps_of_unrelated steps_of_value steps_to_class steps_to_scalar value_step
cast_245 = refl

-- int x; static_cast<int *const >(x)
cast_246 : is_yes (static_cast sample true (object_of (fundamental base.Int)) (qualified only_const (pointer_to (fundamental base.Int)))) ≡ false
unfolding added between cast cast_between cast_by_two cast_else cast_operand cast_unless const_cast goes_down reinterpret_cast static_cast static_kinds static_objects static_only static_pointers static_unless is_derived is_pending promoted class_step is_text pointer_to_class pointer_to_other related related_kinds step_of_enumeration steps_between steps_by_kinds steps_by_relation steps_of_arithmetic steps_of_enumeration steps_of_kinds steps_of_pointer steps_of_pointers steps_of_reference steps_of_related steps_of_unrelated steps_of_value steps_to_class steps_to_scalar value_step
cast_246 = refl

-- unsigned long x; const_cast<int &>(x)
cast_247 : const_cast (object_of (fundamental base.UnsignedLong)) (reference_to (fundamental base.Int)) ≡ false
unfolding added between cast cast_between cast_by_two cast_else cast_operand cast_unless const_cast goes_down reinterpret_cast static_cast static_kinds static_objects static_only static_pointers static_unless is_derived is_pending promoted class_step is_text pointer_to_class pointer_to_other related related_kinds step_of_enumeration steps_between steps_by_kinds steps_by_relation steps_of_arithmetic steps_of_enumeration steps_of_kinds steps_of_pointer steps_of_pointers steps_of_reference steps_of_related steps_of_unrelated steps_of_value steps_to_class steps_to_scalar value_step
cast_247 = refl

-- bool x; static_cast<E *>(x)
cast_248 : is_yes (static_cast sample true (object_of (fundamental base.Bool)) (pointer_to (enumeration 0))) ≡ false
unfolding added between cast cast_between cast_by_two cast_else cast_operand cast_unless const_cast goes_down reinterpret_cast static_cast static_kinds static_objects static_only static_pointers static_unless is_derived is_pending promoted class_step is_text pointer_to_class pointer_to_other related related_kinds step_of_enumeration steps_between steps_by_kinds steps_by_relation steps_of_arithmetic steps_of_enumeration steps_of_kinds steps_of_pointer steps_of_pointers steps_of_reference steps_of_related steps_of_unrelated steps_of_value steps_to_class steps_to_scalar value_step
cast_248 = refl

-- E x; static_cast<int &>(x)
cast_249 : is_yes (static_cast sample true (object_of (enumeration 0)) (reference_to (fundamental base.Int))) ≡ false
unfolding added between cast cast_between cast_by_two cast_else cast_operand cast_unless const_cast goes_down reinterpret_cast static_cast static_kinds static_objects static_only static_pointers static_unless is_derived is_pending promoted class_step is_text pointer_to_class pointer_to_other related related_kinds step_of_enumeration steps_between steps_by_kinds steps_by_relation steps_of_arithmetic steps_of_enumeration steps_of_kinds steps_of_pointer steps_of_pointers steps_of_reference steps_of_related steps_of_unrelated steps_of_value steps_to_class steps_to_scalar value_step
cast_249 = refl

-- const D *x; reinterpret_cast<D *>(x)
cast_250 : reinterpret_cast (object_of (pointer_to (qualified only_const (class_type 1)))) (pointer_to (class_type 1)) ≡ false
unfolding added between cast cast_between cast_by_two cast_else cast_operand cast_unless const_cast goes_down reinterpret_cast static_cast static_kinds static_objects static_only static_pointers static_unless is_derived is_pending promoted class_step is_text pointer_to_class pointer_to_other related related_kinds step_of_enumeration steps_between steps_by_kinds steps_by_relation steps_of_arithmetic steps_of_enumeration steps_of_kinds steps_of_pointer steps_of_pointers steps_of_reference steps_of_related steps_of_unrelated steps_of_value steps_to_class steps_to_scalar value_step
cast_250 = refl

-- D x; const_cast<const int *const *>(x)
cast_251 : const_cast (object_of (class_type 1)) (pointer_to (qualified only_const (pointer_to (qualified only_const (fundamental base.Int))))) ≡ false
unfolding added between cast cast_between cast_by_two cast_else cast_operand cast_unless const_cast goes_down reinterpret_cast static_cast static_kinds static_objects static_only static_pointers static_unless is_derived is_pending promoted class_step is_text pointer_to_class pointer_to_other related related_kinds step_of_enumeration steps_between steps_by_kinds steps_by_relation steps_of_arithmetic steps_of_enumeration steps_of_kinds steps_of_pointer steps_of_pointers steps_of_reference steps_of_related steps_of_unrelated steps_of_value steps_to_class steps_to_scalar value_step
cast_251 = refl

-- double x; (D *)x
cast_252 : is_some (cast sample true (object_of (fundamental base.Double)) (pointer_to (class_type 1))) ≡ false
unfolding added between cast cast_between cast_by_two cast_else cast_operand cast_unless const_cast goes_down reinterpret_cast static_cast static_kinds static_objects static_only static_pointers static_unless is_derived is_pending promoted class_step is_text pointer_to_class pointer_to_other related related_kinds step_of_enumeration steps_between steps_by_kinds steps_by_relation steps_of_arithmetic steps_of_enumeration steps_of_kinds steps_of_pointer steps_of_pointers steps_of_reference steps_of_related steps_of_unrelated steps_of_value steps_to_class steps_to_scalar value_step
cast_252 = refl

-- const int **x; const_cast<E *>(x)
cast_253 : const_cast (object_of (pointer_to (pointer_to (qualified only_const (fundamental base.Int))))) (pointer_to (enumeration 0)) ≡ false
unfolding added between cast cast_between cast_by_two cast_else cast_operand cast_unless const_cast goes_down reinterpret_cast static_cast static_kinds static_objects static_only static_pointers static_unless is_derived is_pending promoted class_step is_text pointer_to_class pointer_to_other related related_kinds step_of_enumeration steps_between steps_by_kinds steps_by_relation steps_of_arithmetic steps_of_enumeration steps_of_kinds steps_of_pointer steps_of_pointers steps_of_reference steps_of_related steps_of_unrelated steps_of_value steps_to_class steps_to_scalar value_step
cast_253 = refl

-- B *x; const_cast<E >(x)
cast_254 : const_cast (object_of (pointer_to (class_type 0))) (enumeration 0) ≡ false
unfolding added between cast cast_between cast_by_two cast_else cast_operand cast_unless const_cast goes_down reinterpret_cast static_cast static_kinds static_objects static_only static_pointers static_unless is_derived is_pending promoted class_step is_text pointer_to_class pointer_to_other related related_kinds step_of_enumeration steps_between steps_by_kinds steps_by_relation steps_of_arithmetic steps_of_enumeration steps_of_kinds steps_of_pointer steps_of_pointers steps_of_reference steps_of_related steps_of_unrelated steps_of_value steps_to_class steps_to_scalar value_step
cast_254 = refl

-- char *x; const_cast<E &>(x)
cast_255 : const_cast (object_of (pointer_to (fundamental base.Char))) (reference_to (enumeration 0)) ≡ false
unfolding added between cast cast_between cast_by_two cast_else cast_operand cast_unless const_cast goes_down reinterpret_cast static_cast static_kinds static_objects static_only static_pointers static_unless is_derived is_pending promoted class_step is_text pointer_to_class pointer_to_other related related_kinds step_of_enumeration steps_between steps_by_kinds steps_by_relation steps_of_arithmetic steps_of_enumeration steps_of_kinds steps_of_pointer steps_of_pointers steps_of_reference steps_of_related steps_of_unrelated steps_of_value steps_to_class steps_to_scalar value_step
cast_255 = refl

-- unsigned long x; const_cast<const char *>(x)
cast_256 : const_cast (object_of (fundamental base.UnsignedLong)) (pointer_to (qualified only_const (fundamental base.Char))) ≡ false
unfolding added between cast cast_between cast_by_two cast_else cast_operand cast_unless const_cast goes_down reinterpret_cast static_cast static_kinds static_objects static_only static_pointers static_unless is_derived is_pending promoted class_step is_text pointer_to_class pointer_to_other related related_kinds step_of_enumeration steps_between steps_by_kinds steps_by_relation steps_of_arithmetic steps_of_enumeration steps_of_kinds steps_of_pointer steps_of_pointers steps_of_reference steps_of_related steps_of_unrelated steps_of_value steps_to_class steps_to_scalar value_step
cast_256 = refl

-- D *x; const_cast<int &>(x)
cast_257 : const_cast (object_of (pointer_to (class_type 1))) (reference_to (fundamental base.Int)) ≡ false
unfolding added between cast cast_between cast_by_two cast_else cast_operand cast_unless const_cast goes_down reinterpret_cast static_cast static_kinds static_objects static_only static_pointers static_unless is_derived is_pending promoted class_step is_text pointer_to_class pointer_to_other related related_kinds step_of_enumeration steps_between steps_by_kinds steps_by_relation steps_of_arithmetic steps_of_enumeration steps_of_kinds steps_of_pointer steps_of_pointers steps_of_reference steps_of_related steps_of_unrelated steps_of_value steps_to_class steps_to_scalar value_step
cast_257 = refl

-- bool x; const_cast<unsigned long >(x)
cast_258 : const_cast (object_of (fundamental base.Bool)) (fundamental base.UnsignedLong) ≡ false
unfolding added between cast cast_between cast_by_two cast_else cast_operand cast_unless const_cast goes_down reinterpret_cast static_cast static_kinds static_objects static_only static_pointers static_unless is_derived is_pending promoted class_step is_text pointer_to_class pointer_to_other related related_kinds step_of_enumeration steps_between steps_by_kinds steps_by_relation steps_of_arithmetic steps_of_enumeration steps_of_kinds steps_of_pointer steps_of_pointers steps_of_reference steps_of_related steps_of_unrelated steps_of_value steps_to_class steps_to_scalar value_step
cast_258 = refl

-- D x; reinterpret_cast<const B *>(x)
cast_259 : reinterpret_cast (object_of (class_type 1)) (pointer_to (qualified only_const (class_type 0))) ≡ false
unfolding added between cast cast_between cast_by_two cast_else cast_operand cast_unless const_cast goes_down reinterpret_cast static_cast static_kinds static_objects static_only static_pointers static_unless is_derived is_pending promoted class_step is_text pointer_to_class pointer_to_other related related_kinds step_of_enumeration steps_between steps_by_kinds steps_by_relation steps_of_arithmetic steps_of_enumeration steps_of_kinds steps_of_pointer steps_of_pointers steps_of_reference steps_of_related steps_of_unrelated steps_of_value steps_to_class steps_to_scalar value_step
cast_259 = refl

-- const int *x; reinterpret_cast<void >(x)
cast_260 : reinterpret_cast (object_of (pointer_to (qualified only_const (fundamental base.Int)))) (fundamental base.Void) ≡ false
unfolding added between cast cast_between cast_by_two cast_else cast_operand cast_unless const_cast goes_down reinterpret_cast static_cast static_kinds static_objects static_only static_pointers static_unless is_derived is_pending promoted class_step is_text pointer_to_class pointer_to_other related related_kinds step_of_enumeration steps_between steps_by_kinds steps_by_relation steps_of_arithmetic steps_of_enumeration steps_of_kinds steps_of_pointer steps_of_pointers steps_of_reference steps_of_related steps_of_unrelated steps_of_value steps_to_class steps_to_scalar value_step
cast_260 = refl

-- void (*x)(); const_cast<B *>(x)
cast_261 : const_cast (object_of (pointer_to (function_of (fundamental base.Void) no_types false no_cv))) (pointer_to (class_type 0)) ≡ false
unfolding added between cast cast_between cast_by_two cast_else cast_operand cast_unless const_cast goes_down reinterpret_cast static_cast static_kinds static_objects static_only static_pointers static_unless is_derived is_pending promoted class_step is_text pointer_to_class pointer_to_other related related_kinds step_of_enumeration steps_between steps_by_kinds steps_by_relation steps_of_arithmetic steps_of_enumeration steps_of_kinds steps_of_pointer steps_of_pointers steps_of_reference steps_of_related steps_of_unrelated steps_of_value steps_to_class steps_to_scalar value_step
cast_261 = refl

-- const int *x; const_cast<void (*)()>(x)
cast_262 : const_cast (object_of (pointer_to (qualified only_const (fundamental base.Int)))) (pointer_to (function_of (fundamental base.Void) no_types false no_cv)) ≡ false
unfolding added between cast cast_between cast_by_two cast_else cast_operand cast_unless const_cast goes_down reinterpret_cast static_cast static_kinds static_objects static_only static_pointers static_unless is_derived is_pending promoted class_step is_text pointer_to_class pointer_to_other related related_kinds step_of_enumeration steps_between steps_by_kinds steps_by_relation steps_of_arithmetic steps_of_enumeration steps_of_kinds steps_of_pointer steps_of_pointers steps_of_reference steps_of_related steps_of_unrelated steps_of_value steps_to_class steps_to_scalar value_step
cast_262 = refl

-- const D x; const_cast<E &>(x)
cast_263 : const_cast (object_of (qualified only_const (class_type 1))) (reference_to (enumeration 0)) ≡ false
unfolding added between cast cast_between cast_by_two cast_else cast_operand cast_unless const_cast goes_down reinterpret_cast static_cast static_kinds static_objects static_only static_pointers static_unless is_derived is_pending promoted class_step is_text pointer_to_class pointer_to_other related related_kinds step_of_enumeration steps_between steps_by_kinds steps_by_relation steps_of_arithmetic steps_of_enumeration steps_of_kinds steps_of_pointer steps_of_pointers steps_of_reference steps_of_related steps_of_unrelated steps_of_value steps_to_class steps_to_scalar value_step
cast_263 = refl

-- const D *x; static_cast<const char *>(x)
cast_264 : is_yes (static_cast sample true (object_of (pointer_to (qualified only_const (class_type 1)))) (pointer_to (qualified only_const (fundamental base.Char)))) ≡ false
unfolding added between cast cast_between cast_by_two cast_else cast_operand cast_unless const_cast goes_down reinterpret_cast static_cast static_kinds static_objects static_only static_pointers static_unless is_derived is_pending promoted class_step is_text pointer_to_class pointer_to_other related related_kinds step_of_enumeration steps_between steps_by_kinds steps_by_relation steps_of_arithmetic steps_of_enumeration steps_of_kinds steps_of_pointer steps_of_pointers steps_of_reference steps_of_related steps_of_unrelated steps_of_value steps_to_class steps_to_scalar value_step
cast_264 = refl

-- E *x; static_cast<char *>(x)
cast_265 : is_yes (static_cast sample true (object_of (pointer_to (enumeration 0))) (pointer_to (fundamental base.Char))) ≡ false
unfolding added between cast cast_between cast_by_two cast_else cast_operand cast_unless const_cast goes_down reinterpret_cast static_cast static_kinds static_objects static_only static_pointers static_unless is_derived is_pending promoted class_step is_text pointer_to_class pointer_to_other related related_kinds step_of_enumeration steps_between steps_by_kinds steps_by_relation steps_of_arithmetic steps_of_enumeration steps_of_kinds steps_of_pointer steps_of_pointers steps_of_reference steps_of_related steps_of_unrelated steps_of_value steps_to_class steps_to_scalar value_step
cast_265 = refl

-- char x; const_cast<int *const *>(x)
cast_266 : const_cast (object_of (fundamental base.Char)) (pointer_to (qualified only_const (pointer_to (fundamental base.Int)))) ≡ false
unfolding added between cast cast_between cast_by_two cast_else cast_operand cast_unless const_cast goes_down reinterpret_cast static_cast static_kinds static_objects static_only static_pointers static_unless is_derived is_pending promoted class_step is_text pointer_to_class pointer_to_other related related_kinds step_of_enumeration steps_between steps_by_kinds steps_by_relation steps_of_arithmetic steps_of_enumeration steps_of_kinds steps_of_pointer steps_of_pointers steps_of_reference steps_of_related steps_of_unrelated steps_of_value steps_to_class steps_to_scalar value_step
cast_266 = refl

-- bool x; const_cast<int *&>(x)
cast_267 : const_cast (object_of (fundamental base.Bool)) (reference_to (pointer_to (fundamental base.Int))) ≡ false
unfolding added between cast cast_between cast_by_two cast_else cast_operand cast_unless const_cast goes_down reinterpret_cast static_cast static_kinds static_objects static_only static_pointers static_unless is_derived is_pending promoted class_step is_text pointer_to_class pointer_to_other related related_kinds step_of_enumeration steps_between steps_by_kinds steps_by_relation steps_of_arithmetic steps_of_enumeration steps_of_kinds steps_of_pointer steps_of_pointers steps_of_reference steps_of_related steps_of_unrelated steps_of_value steps_to_class steps_to_scalar value_step
cast_267 = refl

-- int (*x)(int); static_cast<char >(x)
cast_268 : is_yes (static_cast sample true (object_of (pointer_to (function_of (fundamental base.Int) (type_then (fundamental base.Int) no_types) false no_cv))) (fundamental base.Char)) ≡ false
unfolding added between cast cast_between cast_by_two cast_else cast_operand cast_unless const_cast goes_down reinterpret_cast static_cast static_kinds static_objects static_only static_pointers static_unless is_derived is_pending promoted class_step is_text pointer_to_class pointer_to_other related related_kinds step_of_enumeration steps_between steps_by_kinds steps_by_relation steps_of_arithmetic steps_of_enumeration steps_of_kinds steps_of_pointer steps_of_pointers steps_of_reference steps_of_related steps_of_unrelated steps_of_value steps_to_class steps_to_scalar value_step
cast_268 = refl

-- const B *x; (E )x
cast_269 : is_some (cast sample true (object_of (pointer_to (qualified only_const (class_type 0)))) (enumeration 0)) ≡ false
unfolding added between cast cast_between cast_by_two cast_else cast_operand cast_unless const_cast goes_down reinterpret_cast static_cast static_kinds static_objects static_only static_pointers static_unless is_derived is_pending promoted class_step is_text pointer_to_class pointer_to_other related related_kinds step_of_enumeration steps_between steps_by_kinds steps_by_relation steps_of_arithmetic steps_of_enumeration steps_of_kinds steps_of_pointer steps_of_pointers steps_of_reference steps_of_related steps_of_unrelated steps_of_value steps_to_class steps_to_scalar value_step
cast_269 = refl

-- B *x; const_cast<D *>(x)
cast_270 : const_cast (object_of (pointer_to (class_type 0))) (pointer_to (class_type 1)) ≡ false
unfolding added between cast cast_between cast_by_two cast_else cast_operand cast_unless const_cast goes_down reinterpret_cast static_cast static_kinds static_objects static_only static_pointers static_unless is_derived is_pending promoted class_step is_text pointer_to_class pointer_to_other related related_kinds step_of_enumeration steps_between steps_by_kinds steps_by_relation steps_of_arithmetic steps_of_enumeration steps_of_kinds steps_of_pointer steps_of_pointers steps_of_reference steps_of_related steps_of_unrelated steps_of_value steps_to_class steps_to_scalar value_step
cast_270 = refl

-- const int **x; reinterpret_cast<E >(x)
cast_271 : reinterpret_cast (object_of (pointer_to (pointer_to (qualified only_const (fundamental base.Int))))) (enumeration 0) ≡ false
unfolding added between cast cast_between cast_by_two cast_else cast_operand cast_unless const_cast goes_down reinterpret_cast static_cast static_kinds static_objects static_only static_pointers static_unless is_derived is_pending promoted class_step is_text pointer_to_class pointer_to_other related related_kinds step_of_enumeration steps_between steps_by_kinds steps_by_relation steps_of_arithmetic steps_of_enumeration steps_of_kinds steps_of_pointer steps_of_pointers steps_of_reference steps_of_related steps_of_unrelated steps_of_value steps_to_class steps_to_scalar value_step
cast_271 = refl

-- int x; static_cast<void (*)()>(x)
cast_272 : is_yes (static_cast sample true (object_of (fundamental base.Int)) (pointer_to (function_of (fundamental base.Void) no_types false no_cv))) ≡ false
unfolding added between cast cast_between cast_by_two cast_else cast_operand cast_unless const_cast goes_down reinterpret_cast static_cast static_kinds static_objects static_only static_pointers static_unless is_derived is_pending promoted class_step is_text pointer_to_class pointer_to_other related related_kinds step_of_enumeration steps_between steps_by_kinds steps_by_relation steps_of_arithmetic steps_of_enumeration steps_of_kinds steps_of_pointer steps_of_pointers steps_of_reference steps_of_related steps_of_unrelated steps_of_value steps_to_class steps_to_scalar value_step
cast_272 = refl

-- const int **x; const_cast<char &>(x)
cast_273 : const_cast (object_of (pointer_to (pointer_to (qualified only_const (fundamental base.Int))))) (reference_to (fundamental base.Char)) ≡ false
unfolding added between cast cast_between cast_by_two cast_else cast_operand cast_unless const_cast goes_down reinterpret_cast static_cast static_kinds static_objects static_only static_pointers static_unless is_derived is_pending promoted class_step is_text pointer_to_class pointer_to_other related related_kinds step_of_enumeration steps_between steps_by_kinds steps_by_relation steps_of_arithmetic steps_of_enumeration steps_of_kinds steps_of_pointer steps_of_pointers steps_of_reference steps_of_related steps_of_unrelated steps_of_value steps_to_class steps_to_scalar value_step
cast_273 = refl

-- const void *x; const_cast<char &>(x)
cast_274 : const_cast (object_of (pointer_to (qualified only_const (fundamental base.Void)))) (reference_to (fundamental base.Char)) ≡ false
unfolding added between cast cast_between cast_by_two cast_else cast_operand cast_unless const_cast goes_down reinterpret_cast static_cast static_kinds static_objects static_only static_pointers static_unless is_derived is_pending promoted class_step is_text pointer_to_class pointer_to_other related related_kinds step_of_enumeration steps_between steps_by_kinds steps_by_relation steps_of_arithmetic steps_of_enumeration steps_of_kinds steps_of_pointer steps_of_pointers steps_of_reference steps_of_related steps_of_unrelated steps_of_value steps_to_class steps_to_scalar value_step
cast_274 = refl

-- int x; const_cast<const char *>(x)
cast_275 : const_cast (object_of (fundamental base.Int)) (pointer_to (qualified only_const (fundamental base.Char))) ≡ false
unfolding added between cast cast_between cast_by_two cast_else cast_operand cast_unless const_cast goes_down reinterpret_cast static_cast static_kinds static_objects static_only static_pointers static_unless is_derived is_pending promoted class_step is_text pointer_to_class pointer_to_other related related_kinds step_of_enumeration steps_between steps_by_kinds steps_by_relation steps_of_arithmetic steps_of_enumeration steps_of_kinds steps_of_pointer steps_of_pointers steps_of_reference steps_of_related steps_of_unrelated steps_of_value steps_to_class steps_to_scalar value_step
cast_275 = refl

-- const D x; const_cast<int >(x)
cast_276 : const_cast (object_of (qualified only_const (class_type 1))) (fundamental base.Int) ≡ false
unfolding added between cast cast_between cast_by_two cast_else cast_operand cast_unless const_cast goes_down reinterpret_cast static_cast static_kinds static_objects static_only static_pointers static_unless is_derived is_pending promoted class_step is_text pointer_to_class pointer_to_other related related_kinds step_of_enumeration steps_between steps_by_kinds steps_by_relation steps_of_arithmetic steps_of_enumeration steps_of_kinds steps_of_pointer steps_of_pointers steps_of_reference steps_of_related steps_of_unrelated steps_of_value steps_to_class steps_to_scalar value_step
cast_276 = refl

-- int x; const_cast<long >(x)
cast_277 : const_cast (object_of (fundamental base.Int)) (fundamental base.Long) ≡ false
unfolding added between cast cast_between cast_by_two cast_else cast_operand cast_unless const_cast goes_down reinterpret_cast static_cast static_kinds static_objects static_only static_pointers static_unless is_derived is_pending promoted class_step is_text pointer_to_class pointer_to_other related related_kinds step_of_enumeration steps_between steps_by_kinds steps_by_relation steps_of_arithmetic steps_of_enumeration steps_of_kinds steps_of_pointer steps_of_pointers steps_of_reference steps_of_related steps_of_unrelated steps_of_value steps_to_class steps_to_scalar value_step
cast_277 = refl

-- D *x; (double )x
cast_278 : is_some (cast sample true (object_of (pointer_to (class_type 1))) (fundamental base.Double)) ≡ false
unfolding added between cast cast_between cast_by_two cast_else cast_operand cast_unless const_cast goes_down reinterpret_cast static_cast static_kinds static_objects static_only static_pointers static_unless is_derived is_pending promoted class_step is_text pointer_to_class pointer_to_other related related_kinds step_of_enumeration steps_between steps_by_kinds steps_by_relation steps_of_arithmetic steps_of_enumeration steps_of_kinds steps_of_pointer steps_of_pointers steps_of_reference steps_of_related steps_of_unrelated steps_of_value steps_to_class steps_to_scalar value_step
cast_278 = refl

-- const D *x; const_cast<unsigned long >(x)
cast_279 : const_cast (object_of (pointer_to (qualified only_const (class_type 1)))) (fundamental base.UnsignedLong) ≡ false
unfolding added between cast cast_between cast_by_two cast_else cast_operand cast_unless const_cast goes_down reinterpret_cast static_cast static_kinds static_objects static_only static_pointers static_unless is_derived is_pending promoted class_step is_text pointer_to_class pointer_to_other related related_kinds step_of_enumeration steps_between steps_by_kinds steps_by_relation steps_of_arithmetic steps_of_enumeration steps_of_kinds steps_of_pointer steps_of_pointers steps_of_reference steps_of_related steps_of_unrelated steps_of_value steps_to_class steps_to_scalar value_step
cast_279 = refl

-- const B *x; const_cast<long >(x)
cast_280 : const_cast (object_of (pointer_to (qualified only_const (class_type 0)))) (fundamental base.Long) ≡ false
unfolding added between cast cast_between cast_by_two cast_else cast_operand cast_unless const_cast goes_down reinterpret_cast static_cast static_kinds static_objects static_only static_pointers static_unless is_derived is_pending promoted class_step is_text pointer_to_class pointer_to_other related related_kinds step_of_enumeration steps_between steps_by_kinds steps_by_relation steps_of_arithmetic steps_of_enumeration steps_of_kinds steps_of_pointer steps_of_pointers steps_of_reference steps_of_related steps_of_unrelated steps_of_value steps_to_class steps_to_scalar value_step
cast_280 = refl

-- E x; const_cast<double >(x)
cast_281 : const_cast (object_of (enumeration 0)) (fundamental base.Double) ≡ false
unfolding added between cast cast_between cast_by_two cast_else cast_operand cast_unless const_cast goes_down reinterpret_cast static_cast static_kinds static_objects static_only static_pointers static_unless is_derived is_pending promoted class_step is_text pointer_to_class pointer_to_other related related_kinds step_of_enumeration steps_between steps_by_kinds steps_by_relation steps_of_arithmetic steps_of_enumeration steps_of_kinds steps_of_pointer steps_of_pointers steps_of_reference steps_of_related steps_of_unrelated steps_of_value steps_to_class steps_to_scalar value_step
cast_281 = refl

-- int x[3]; const_cast<const B &>(x)
cast_282 : const_cast (object_of (array_of (fundamental base.Int) (number_bound 3))) (reference_to (qualified only_const (class_type 0))) ≡ false
unfolding added between cast cast_between cast_by_two cast_else cast_operand cast_unless const_cast goes_down reinterpret_cast static_cast static_kinds static_objects static_only static_pointers static_unless is_derived is_pending promoted class_step is_text pointer_to_class pointer_to_other related related_kinds step_of_enumeration steps_between steps_by_kinds steps_by_relation steps_of_arithmetic steps_of_enumeration steps_of_kinds steps_of_pointer steps_of_pointers steps_of_reference steps_of_related steps_of_unrelated steps_of_value steps_to_class steps_to_scalar value_step
cast_282 = refl

-- D x; const_cast<E &>(x)
cast_283 : const_cast (object_of (class_type 1)) (reference_to (enumeration 0)) ≡ false
unfolding added between cast cast_between cast_by_two cast_else cast_operand cast_unless const_cast goes_down reinterpret_cast static_cast static_kinds static_objects static_only static_pointers static_unless is_derived is_pending promoted class_step is_text pointer_to_class pointer_to_other related related_kinds step_of_enumeration steps_between steps_by_kinds steps_by_relation steps_of_arithmetic steps_of_enumeration steps_of_kinds steps_of_pointer steps_of_pointers steps_of_reference steps_of_related steps_of_unrelated steps_of_value steps_to_class steps_to_scalar value_step
cast_283 = refl

-- int (*x)(int); static_cast<char &>(x)
cast_284 : is_yes (static_cast sample true (object_of (pointer_to (function_of (fundamental base.Int) (type_then (fundamental base.Int) no_types) false no_cv))) (reference_to (fundamental base.Char))) ≡ false
unfolding added between cast cast_between cast_by_two cast_else cast_operand cast_unless const_cast goes_down reinterpret_cast static_cast static_kinds static_objects static_only static_pointers static_unless is_derived is_pending promoted class_step is_text pointer_to_class pointer_to_other related related_kinds step_of_enumeration steps_between steps_by_kinds steps_by_relation steps_of_arithmetic steps_of_enumeration steps_of_kinds steps_of_pointer steps_of_pointers steps_of_reference steps_of_related steps_of_unrelated steps_of_value steps_to_class steps_to_scalar value_step
cast_284 = refl

-- char *x; static_cast<const D &>(x)
cast_285 : is_yes (static_cast sample true (object_of (pointer_to (fundamental base.Char))) (reference_to (qualified only_const (class_type 1)))) ≡ false
unfolding added between cast cast_between cast_by_two cast_else cast_operand cast_unless const_cast goes_down reinterpret_cast static_cast static_kinds static_objects static_only static_pointers static_unless is_derived is_pending promoted class_step is_text pointer_to_class pointer_to_other related related_kinds step_of_enumeration steps_between steps_by_kinds steps_by_relation steps_of_arithmetic steps_of_enumeration steps_of_kinds steps_of_pointer steps_of_pointers steps_of_reference steps_of_related steps_of_unrelated steps_of_value steps_to_class steps_to_scalar value_step
cast_285 = refl

-- const B *x; static_cast<const char &>(x)
cast_286 : is_yes (static_cast sample true (object_of (pointer_to (qualified only_const (class_type 0)))) (reference_to (qualified only_const (fundamental base.Char)))) ≡ false
unfolding added between cast cast_between cast_by_two cast_else cast_operand cast_unless const_cast goes_down reinterpret_cast static_cast static_kinds static_objects static_only static_pointers static_unless is_derived is_pending promoted class_step is_text pointer_to_class pointer_to_other related related_kinds step_of_enumeration steps_between steps_by_kinds steps_by_relation steps_of_arithmetic steps_of_enumeration steps_of_kinds steps_of_pointer steps_of_pointers steps_of_reference steps_of_related steps_of_unrelated steps_of_value steps_to_class steps_to_scalar value_step
cast_286 = refl

-- int *const *x; const_cast<void >(x)
cast_287 : const_cast (object_of (pointer_to (qualified only_const (pointer_to (fundamental base.Int))))) (fundamental base.Void) ≡ false
unfolding added between cast cast_between cast_by_two cast_else cast_operand cast_unless const_cast goes_down reinterpret_cast static_cast static_kinds static_objects static_only static_pointers static_unless is_derived is_pending promoted class_step is_text pointer_to_class pointer_to_other related related_kinds step_of_enumeration steps_between steps_by_kinds steps_by_relation steps_of_arithmetic steps_of_enumeration steps_of_kinds steps_of_pointer steps_of_pointers steps_of_reference steps_of_related steps_of_unrelated steps_of_value steps_to_class steps_to_scalar value_step
cast_287 = refl

-- const D x; const_cast<const D *>(x)
cast_288 : const_cast (object_of (qualified only_const (class_type 1))) (pointer_to (qualified only_const (class_type 1))) ≡ false
unfolding added between cast cast_between cast_by_two cast_else cast_operand cast_unless const_cast goes_down reinterpret_cast static_cast static_kinds static_objects static_only static_pointers static_unless is_derived is_pending promoted class_step is_text pointer_to_class pointer_to_other related related_kinds step_of_enumeration steps_between steps_by_kinds steps_by_relation steps_of_arithmetic steps_of_enumeration steps_of_kinds steps_of_pointer steps_of_pointers steps_of_reference steps_of_related steps_of_unrelated steps_of_value steps_to_class steps_to_scalar value_step
cast_288 = refl

-- void (*x)(); const_cast<char *>(x)
cast_289 : const_cast (object_of (pointer_to (function_of (fundamental base.Void) no_types false no_cv))) (pointer_to (fundamental base.Char)) ≡ false
unfolding added between cast cast_between cast_by_two cast_else cast_operand cast_unless const_cast goes_down reinterpret_cast static_cast static_kinds static_objects static_only static_pointers static_unless is_derived is_pending promoted class_step is_text pointer_to_class pointer_to_other related related_kinds step_of_enumeration steps_between steps_by_kinds steps_by_relation steps_of_arithmetic steps_of_enumeration steps_of_kinds steps_of_pointer steps_of_pointers steps_of_reference steps_of_related steps_of_unrelated steps_of_value steps_to_class steps_to_scalar value_step
cast_289 = refl

-- char *x; static_cast<char >(x)
cast_290 : is_yes (static_cast sample true (object_of (pointer_to (fundamental base.Char))) (fundamental base.Char)) ≡ false
unfolding added between cast cast_between cast_by_two cast_else cast_operand cast_unless const_cast goes_down reinterpret_cast static_cast static_kinds static_objects static_only static_pointers static_unless is_derived is_pending promoted class_step is_text pointer_to_class pointer_to_other related related_kinds step_of_enumeration steps_between steps_by_kinds steps_by_relation steps_of_arithmetic steps_of_enumeration steps_of_kinds steps_of_pointer steps_of_pointers steps_of_reference steps_of_related steps_of_unrelated steps_of_value steps_to_class steps_to_scalar value_step
cast_290 = refl

-- const int *x; static_cast<B *>(x)
cast_291 : is_yes (static_cast sample true (object_of (pointer_to (qualified only_const (fundamental base.Int)))) (pointer_to (class_type 0))) ≡ false
unfolding added between cast cast_between cast_by_two cast_else cast_operand cast_unless const_cast goes_down reinterpret_cast static_cast static_kinds static_objects static_only static_pointers static_unless is_derived is_pending promoted class_step is_text pointer_to_class pointer_to_other related related_kinds step_of_enumeration steps_between steps_by_kinds steps_by_relation steps_of_arithmetic steps_of_enumeration steps_of_kinds steps_of_pointer steps_of_pointers steps_of_reference steps_of_related steps_of_unrelated steps_of_value steps_to_class steps_to_scalar value_step
cast_291 = refl

-- B x; reinterpret_cast<void (*)()>(x)
cast_292 : reinterpret_cast (object_of (class_type 0)) (pointer_to (function_of (fundamental base.Void) no_types false no_cv)) ≡ false
unfolding added between cast cast_between cast_by_two cast_else cast_operand cast_unless const_cast goes_down reinterpret_cast static_cast static_kinds static_objects static_only static_pointers static_unless is_derived is_pending promoted class_step is_text pointer_to_class pointer_to_other related related_kinds step_of_enumeration steps_between steps_by_kinds steps_by_relation steps_of_arithmetic steps_of_enumeration steps_of_kinds steps_of_pointer steps_of_pointers steps_of_reference steps_of_related steps_of_unrelated steps_of_value steps_to_class steps_to_scalar value_step
cast_292 = refl

-- const B x; const_cast<void *>(x)
cast_293 : const_cast (object_of (qualified only_const (class_type 0))) (pointer_to (fundamental base.Void)) ≡ false
unfolding added between cast cast_between cast_by_two cast_else cast_operand cast_unless const_cast goes_down reinterpret_cast static_cast static_kinds static_objects static_only static_pointers static_unless is_derived is_pending promoted class_step is_text pointer_to_class pointer_to_other related related_kinds step_of_enumeration steps_between steps_by_kinds steps_by_relation steps_of_arithmetic steps_of_enumeration steps_of_kinds steps_of_pointer steps_of_pointers steps_of_reference steps_of_related steps_of_unrelated steps_of_value steps_to_class steps_to_scalar value_step
cast_293 = refl

-- const void *x; const_cast<int *&>(x)
cast_294 : const_cast (object_of (pointer_to (qualified only_const (fundamental base.Void)))) (reference_to (pointer_to (fundamental base.Int))) ≡ false
unfolding added between cast cast_between cast_by_two cast_else cast_operand cast_unless const_cast goes_down reinterpret_cast static_cast static_kinds static_objects static_only static_pointers static_unless is_derived is_pending promoted class_step is_text pointer_to_class pointer_to_other related related_kinds step_of_enumeration steps_between steps_by_kinds steps_by_relation steps_of_arithmetic steps_of_enumeration steps_of_kinds steps_of_pointer steps_of_pointers steps_of_reference steps_of_related steps_of_unrelated steps_of_value steps_to_class steps_to_scalar value_step
cast_294 = refl

-- E x; static_cast<B &>(x)
cast_295 : is_yes (static_cast sample true (object_of (enumeration 0)) (reference_to (class_type 0))) ≡ false
unfolding added between cast cast_between cast_by_two cast_else cast_operand cast_unless const_cast goes_down reinterpret_cast static_cast static_kinds static_objects static_only static_pointers static_unless is_derived is_pending promoted class_step is_text pointer_to_class pointer_to_other related related_kinds step_of_enumeration steps_between steps_by_kinds steps_by_relation steps_of_arithmetic steps_of_enumeration steps_of_kinds steps_of_pointer steps_of_pointers steps_of_reference steps_of_related steps_of_unrelated steps_of_value steps_to_class steps_to_scalar value_step
cast_295 = refl

-- void (*x)(); static_cast<int *const >(x)
cast_296 : is_yes (static_cast sample true (object_of (pointer_to (function_of (fundamental base.Void) no_types false no_cv))) (qualified only_const (pointer_to (fundamental base.Int)))) ≡ false
unfolding added between cast cast_between cast_by_two cast_else cast_operand cast_unless const_cast goes_down reinterpret_cast static_cast static_kinds static_objects static_only static_pointers static_unless is_derived is_pending promoted class_step is_text pointer_to_class pointer_to_other related related_kinds step_of_enumeration steps_between steps_by_kinds steps_by_relation steps_of_arithmetic steps_of_enumeration steps_of_kinds steps_of_pointer steps_of_pointers steps_of_reference steps_of_related steps_of_unrelated steps_of_value steps_to_class steps_to_scalar value_step
cast_296 = refl

-- const int *const *x; const_cast<const int *&>(x)
cast_297 : const_cast (object_of (pointer_to (qualified only_const (pointer_to (qualified only_const (fundamental base.Int)))))) (reference_to (pointer_to (qualified only_const (fundamental base.Int)))) ≡ false
unfolding added between cast cast_between cast_by_two cast_else cast_operand cast_unless const_cast goes_down reinterpret_cast static_cast static_kinds static_objects static_only static_pointers static_unless is_derived is_pending promoted class_step is_text pointer_to_class pointer_to_other related related_kinds step_of_enumeration steps_between steps_by_kinds steps_by_relation steps_of_arithmetic steps_of_enumeration steps_of_kinds steps_of_pointer steps_of_pointers steps_of_reference steps_of_related steps_of_unrelated steps_of_value steps_to_class steps_to_scalar value_step
cast_297 = refl

-- D x; (const int *const *)x
cast_298 : is_some (cast sample true (object_of (class_type 1)) (pointer_to (qualified only_const (pointer_to (qualified only_const (fundamental base.Int)))))) ≡ false
unfolding added between cast cast_between cast_by_two cast_else cast_operand cast_unless const_cast goes_down reinterpret_cast static_cast static_kinds static_objects static_only static_pointers static_unless is_derived is_pending promoted class_step is_text pointer_to_class pointer_to_other related related_kinds step_of_enumeration steps_between steps_by_kinds steps_by_relation steps_of_arithmetic steps_of_enumeration steps_of_kinds steps_of_pointer steps_of_pointers steps_of_reference steps_of_related steps_of_unrelated steps_of_value steps_to_class steps_to_scalar value_step
cast_298 = refl

-- int **x; static_cast<const int &>(x)
cast_299 : is_yes (static_cast sample true (object_of (pointer_to (pointer_to (fundamental base.Int)))) (reference_to (qualified only_const (fundamental base.Int)))) ≡ false
unfolding added between cast cast_between cast_by_two cast_else cast_operand cast_unless const_cast goes_down reinterpret_cast static_cast static_kinds static_objects static_only static_pointers static_unless is_derived is_pending promoted class_step is_text pointer_to_class pointer_to_other related related_kinds step_of_enumeration steps_between steps_by_kinds steps_by_relation steps_of_arithmetic steps_of_enumeration steps_of_kinds steps_of_pointer steps_of_pointers steps_of_reference steps_of_related steps_of_unrelated steps_of_value steps_to_class steps_to_scalar value_step
cast_299 = refl

-- int *const x; static_cast<const char *>(x)
cast_300 : is_yes (static_cast sample true (object_of (qualified only_const (pointer_to (fundamental base.Int)))) (pointer_to (qualified only_const (fundamental base.Char)))) ≡ false
unfolding added between cast cast_between cast_by_two cast_else cast_operand cast_unless const_cast goes_down reinterpret_cast static_cast static_kinds static_objects static_only static_pointers static_unless is_derived is_pending promoted class_step is_text pointer_to_class pointer_to_other related related_kinds step_of_enumeration steps_between steps_by_kinds steps_by_relation steps_of_arithmetic steps_of_enumeration steps_of_kinds steps_of_pointer steps_of_pointers steps_of_reference steps_of_related steps_of_unrelated steps_of_value steps_to_class steps_to_scalar value_step
cast_300 = refl
