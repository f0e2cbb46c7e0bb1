-- Sizes and alignments of classes, as clang++ and g++ have them: made by bench/meanings/layouts.py.
use Rattle.std.specs.Prelude.{ℕ, ◌≡◌, true, false, List, [], ◌∷◌, Option, Some, None, Ok, refl}
use Rattle.cxx_model.specs.declared.base.Base.TheVariants as base
use Rattle.cxx_model.specs.declared.facts.Access.TheVariants.{Public}
use Rattle.cxx_model.specs.declared.facts.FunctionFlags.{FunctionFlags}
use Rattle.cxx_model.specs.declared.facts.MemberKind.TheVariants as member
use Rattle.cxx_model.specs.declared.facts.ScopeKind.TheVariants as kind
use Rattle.cxx_model.specs.declared.types.Cv.{Cv}
use Rattle.cxx_model.specs.Facts.Declarations as facts
use Rattle.cxx_model.specs.Facts.Declarations.{CxxFact, CxxSpecialisation, Declares, unnamed}
use Rattle.cxx_model.specs.Types.Trees.{fundamental, class_type, pointer_to, reference_to, array_of, function_of, no_types, number_bound}
use Rattle.cxx_meaning.specs.Conversions.Sizes.{added, class_extent, enumerations_in, extent_of, layouts_of, member_extent, object_extent}

abbrev no_words : Cv
no_words = record { is_const = false; is_volatile = false }

abbrev virtual_flags : FunctionFlags
virtual_flags = record { is_virtual = true; is_pure = false; is_explicit = false; is_implicit = false }

abbrev here : ℕ → Declares → CxxFact
here scope what = record { place = record { line = 1; column = 1 }; scope = scope; name = unnamed; access = Public; what = what }

abbrev three : List (Option CxxSpecialisation)
three = None ∷ None ∷ None ∷ []

abbrev HasExtent : ℕ → List CxxFact → ℕ → ℕ → Type 0
HasExtent class all size alignment = object_extent (record { facts = all; classes = three; patterns = [] }) (class_type class) ≡ Ok (record { size = size; alignment = alignment })

-- struct K0 {  };
layout_1 : HasExtent 0 (here 0 (facts.scope None kind.Space) ∷ here 0 (facts.class (record { 0 = 0 }) false) ∷ here 0 (facts.scope (Some (record { 0 = 0 })) (kind.Class (record { 0 = 0 }))) ∷ here 0 (facts.complete (record { 0 = 0 })) ∷ []) 1 1
unfolding object_extent extent_of enumerations_in layouts_of class_extent member_extent added
layout_1 = refl

-- union K0 { unsigned m0; long double m1; };
layout_2 : HasExtent 0 (here 0 (facts.scope None kind.Space) ∷ here 0 (facts.class (record { 0 = 0 }) true) ∷ here 0 (facts.scope (Some (record { 0 = 0 })) (kind.Class (record { 0 = 0 }))) ∷ here 1 (facts.object (fundamental base.Unsigned) member.Nonstatic false None None) ∷ here 1 (facts.object (fundamental base.LongDouble) member.Nonstatic false None None) ∷ here 0 (facts.complete (record { 0 = 0 })) ∷ []) 16 16
unfolding object_extent extent_of enumerations_in layouts_of class_extent member_extent added
layout_2 = refl

-- struct K0 { long double *m0[2]; bool m1; unsigned *m2[2]; float m3; virtual void f(); };
layout_3 : HasExtent 0 (here 0 (facts.scope None kind.Space) ∷ here 0 (facts.class (record { 0 = 0 }) false) ∷ here 0 (facts.scope (Some (record { 0 = 0 })) (kind.Class (record { 0 = 0 }))) ∷ here 1 (facts.object (array_of (pointer_to (fundamental base.LongDouble)) (number_bound 2)) member.Nonstatic false None None) ∷ here 1 (facts.object (fundamental base.Bool) member.Nonstatic false None None) ∷ here 1 (facts.object (array_of (pointer_to (fundamental base.Unsigned)) (number_bound 2)) member.Nonstatic false None None) ∷ here 1 (facts.object (fundamental base.Float) member.Nonstatic false None None) ∷ here 1 (facts.function (function_of (fundamental base.Void) no_types false no_words) member.Nonstatic virtual_flags 0 None) ∷ here 0 (facts.complete (record { 0 = 0 })) ∷ []) 56 8
unfolding object_extent extent_of enumerations_in layouts_of class_extent member_extent added
layout_3 = refl

-- struct K0 { char m0; bool m1; double *m2; };
layout_4 : HasExtent 0 (here 0 (facts.scope None kind.Space) ∷ here 0 (facts.class (record { 0 = 0 }) false) ∷ here 0 (facts.scope (Some (record { 0 = 0 })) (kind.Class (record { 0 = 0 }))) ∷ here 1 (facts.object (fundamental base.Char) member.Nonstatic false None None) ∷ here 1 (facts.object (fundamental base.Bool) member.Nonstatic false None None) ∷ here 1 (facts.object (pointer_to (fundamental base.Double)) member.Nonstatic false None None) ∷ here 0 (facts.complete (record { 0 = 0 })) ∷ []) 16 8
unfolding object_extent extent_of enumerations_in layouts_of class_extent member_extent added
layout_4 = refl

-- struct K0 { float m0; bool m1; char m2; float m3[2]; }; union K1 { int m0; }; struct K2 { char m0; long double m1; K0 m2[2]; virtual void f(); };
layout_5 : HasExtent 2 (here 0 (facts.scope None kind.Space) ∷ here 0 (facts.class (record { 0 = 0 }) false) ∷ here 0 (facts.scope (Some (record { 0 = 0 })) (kind.Class (record { 0 = 0 }))) ∷ here 1 (facts.object (fundamental base.Float) member.Nonstatic false None None) ∷ here 1 (facts.object (fundamental base.Bool) member.Nonstatic false None None) ∷ here 1 (facts.object (fundamental base.Char) member.Nonstatic false None None) ∷ here 1 (facts.object (array_of (fundamental base.Float) (number_bound 2)) member.Nonstatic false None None) ∷ here 0 (facts.complete (record { 0 = 0 })) ∷ here 0 (facts.class (record { 0 = 1 }) true) ∷ here 0 (facts.scope (Some (record { 0 = 0 })) (kind.Class (record { 0 = 1 }))) ∷ here 2 (facts.object (fundamental base.Int) member.Nonstatic false None None) ∷ here 0 (facts.complete (record { 0 = 1 })) ∷ here 0 (facts.class (record { 0 = 2 }) false) ∷ here 0 (facts.scope (Some (record { 0 = 0 })) (kind.Class (record { 0 = 2 }))) ∷ here 3 (facts.object (fundamental base.Char) member.Nonstatic false None None) ∷ here 3 (facts.object (fundamental base.LongDouble) member.Nonstatic false None None) ∷ here 3 (facts.object (array_of (class_type 0) (number_bound 2)) member.Nonstatic false None None) ∷ here 3 (facts.function (function_of (fundamental base.Void) no_types false no_words) member.Nonstatic virtual_flags 0 None) ∷ here 0 (facts.complete (record { 0 = 2 })) ∷ []) 64 16
unfolding object_extent extent_of enumerations_in layouts_of class_extent member_extent added
layout_5 = refl

-- struct K0 { char m0; };
layout_6 : HasExtent 0 (here 0 (facts.scope None kind.Space) ∷ here 0 (facts.class (record { 0 = 0 }) false) ∷ here 0 (facts.scope (Some (record { 0 = 0 })) (kind.Class (record { 0 = 0 }))) ∷ here 1 (facts.object (fundamental base.Char) member.Nonstatic false None None) ∷ here 0 (facts.complete (record { 0 = 0 })) ∷ []) 1 1
unfolding object_extent extent_of enumerations_in layouts_of class_extent member_extent added
layout_6 = refl

-- struct K0 { long m0; }; struct K1 { wchar_t m0; float m1; short *m2; int m3; int &r; virtual void f(); };
layout_7 : HasExtent 1 (here 0 (facts.scope None kind.Space) ∷ here 0 (facts.class (record { 0 = 0 }) false) ∷ here 0 (facts.scope (Some (record { 0 = 0 })) (kind.Class (record { 0 = 0 }))) ∷ here 1 (facts.object (fundamental base.Long) member.Nonstatic false None None) ∷ here 0 (facts.complete (record { 0 = 0 })) ∷ here 0 (facts.class (record { 0 = 1 }) false) ∷ here 0 (facts.scope (Some (record { 0 = 0 })) (kind.Class (record { 0 = 1 }))) ∷ here 2 (facts.object (fundamental base.WideChar) member.Nonstatic false None None) ∷ here 2 (facts.object (fundamental base.Float) member.Nonstatic false None None) ∷ here 2 (facts.object (pointer_to (fundamental base.Short)) member.Nonstatic false None None) ∷ here 2 (facts.object (fundamental base.Int) member.Nonstatic false None None) ∷ here 2 (facts.object (reference_to (fundamental base.Int)) member.Nonstatic false None None) ∷ here 2 (facts.function (function_of (fundamental base.Void) no_types false no_words) member.Nonstatic virtual_flags 0 None) ∷ here 0 (facts.complete (record { 0 = 1 })) ∷ []) 40 8
unfolding object_extent extent_of enumerations_in layouts_of class_extent member_extent added
layout_7 = refl

-- union K0 { bool m0; float m1; unsigned *m2[2]; }; union K1 { char m0[2]; bool m1[4]; long double m2; }; struct K2 { short *m0[3]; short m1[4]; };
layout_8 : HasExtent 2 (here 0 (facts.scope None kind.Space) ∷ here 0 (facts.class (record { 0 = 0 }) true) ∷ here 0 (facts.scope (Some (record { 0 = 0 })) (kind.Class (record { 0 = 0 }))) ∷ here 1 (facts.object (fundamental base.Bool) member.Nonstatic false None None) ∷ here 1 (facts.object (fundamental base.Float) member.Nonstatic false None None) ∷ here 1 (facts.object (array_of (pointer_to (fundamental base.Unsigned)) (number_bound 2)) member.Nonstatic false None None) ∷ here 0 (facts.complete (record { 0 = 0 })) ∷ here 0 (facts.class (record { 0 = 1 }) true) ∷ here 0 (facts.scope (Some (record { 0 = 0 })) (kind.Class (record { 0 = 1 }))) ∷ here 2 (facts.object (array_of (fundamental base.Char) (number_bound 2)) member.Nonstatic false None None) ∷ here 2 (facts.object (array_of (fundamental base.Bool) (number_bound 4)) member.Nonstatic false None None) ∷ here 2 (facts.object (fundamental base.LongDouble) member.Nonstatic false None None) ∷ here 0 (facts.complete (record { 0 = 1 })) ∷ here 0 (facts.class (record { 0 = 2 }) false) ∷ here 0 (facts.scope (Some (record { 0 = 0 })) (kind.Class (record { 0 = 2 }))) ∷ here 3 (facts.object (array_of (pointer_to (fundamental base.Short)) (number_bound 3)) member.Nonstatic false None None) ∷ here 3 (facts.object (array_of (fundamental base.Short) (number_bound 4)) member.Nonstatic false None None) ∷ here 0 (facts.complete (record { 0 = 2 })) ∷ []) 32 8
unfolding object_extent extent_of enumerations_in layouts_of class_extent member_extent added
layout_8 = refl

-- struct K0 { double *m0[2]; double m1; long double *m2[2]; int &r; }; struct K1 {  virtual void f(); };
layout_9 : HasExtent 1 (here 0 (facts.scope None kind.Space) ∷ here 0 (facts.class (record { 0 = 0 }) false) ∷ here 0 (facts.scope (Some (record { 0 = 0 })) (kind.Class (record { 0 = 0 }))) ∷ here 1 (facts.object (array_of (pointer_to (fundamental base.Double)) (number_bound 2)) member.Nonstatic false None None) ∷ here 1 (facts.object (fundamental base.Double) member.Nonstatic false None None) ∷ here 1 (facts.object (array_of (pointer_to (fundamental base.LongDouble)) (number_bound 2)) member.Nonstatic false None None) ∷ here 1 (facts.object (reference_to (fundamental base.Int)) member.Nonstatic false None None) ∷ here 0 (facts.complete (record { 0 = 0 })) ∷ here 0 (facts.class (record { 0 = 1 }) false) ∷ here 0 (facts.scope (Some (record { 0 = 0 })) (kind.Class (record { 0 = 1 }))) ∷ here 2 (facts.function (function_of (fundamental base.Void) no_types false no_words) member.Nonstatic virtual_flags 0 None) ∷ here 0 (facts.complete (record { 0 = 1 })) ∷ []) 8 8
unfolding object_extent extent_of enumerations_in layouts_of class_extent member_extent added
layout_9 = refl

-- struct K0 { wchar_t m0; long m1; }; struct K1 { K0 m0; };
layout_10 : HasExtent 1 (here 0 (facts.scope None kind.Space) ∷ here 0 (facts.class (record { 0 = 0 }) false) ∷ here 0 (facts.scope (Some (record { 0 = 0 })) (kind.Class (record { 0 = 0 }))) ∷ here 1 (facts.object (fundamental base.WideChar) member.Nonstatic false None None) ∷ here 1 (facts.object (fundamental base.Long) member.Nonstatic false None None) ∷ here 0 (facts.complete (record { 0 = 0 })) ∷ here 0 (facts.class (record { 0 = 1 }) false) ∷ here 0 (facts.scope (Some (record { 0 = 0 })) (kind.Class (record { 0 = 1 }))) ∷ here 2 (facts.object (class_type 0) member.Nonstatic false None None) ∷ here 0 (facts.complete (record { 0 = 1 })) ∷ []) 16 8
unfolding object_extent extent_of enumerations_in layouts_of class_extent member_extent added
layout_10 = refl

-- struct K0 { unsigned m0; unsigned m1; float m2; float m3; };
layout_11 : HasExtent 0 (here 0 (facts.scope None kind.Space) ∷ here 0 (facts.class (record { 0 = 0 }) false) ∷ here 0 (facts.scope (Some (record { 0 = 0 })) (kind.Class (record { 0 = 0 }))) ∷ here 1 (facts.object (fundamental base.Unsigned) member.Nonstatic false None None) ∷ here 1 (facts.object (fundamental base.Unsigned) member.Nonstatic false None None) ∷ here 1 (facts.object (fundamental base.Float) member.Nonstatic false None None) ∷ here 1 (facts.object (fundamental base.Float) member.Nonstatic false None None) ∷ here 0 (facts.complete (record { 0 = 0 })) ∷ []) 16 4
unfolding object_extent extent_of enumerations_in layouts_of class_extent member_extent added
layout_11 = refl

-- union K0 {  };
layout_12 : HasExtent 0 (here 0 (facts.scope None kind.Space) ∷ here 0 (facts.class (record { 0 = 0 }) true) ∷ here 0 (facts.scope (Some (record { 0 = 0 })) (kind.Class (record { 0 = 0 }))) ∷ here 0 (facts.complete (record { 0 = 0 })) ∷ []) 1 1
unfolding object_extent extent_of enumerations_in layouts_of class_extent member_extent added
layout_12 = refl

-- struct K0 { short m0; unsigned m1; }; union K1 { unsigned *m0; long m1; short *m2; }; struct K2 { double m0; virtual void f(); };
layout_13 : HasExtent 2 (here 0 (facts.scope None kind.Space) ∷ here 0 (facts.class (record { 0 = 0 }) false) ∷ here 0 (facts.scope (Some (record { 0 = 0 })) (kind.Class (record { 0 = 0 }))) ∷ here 1 (facts.object (fundamental base.Short) member.Nonstatic false None None) ∷ here 1 (facts.object (fundamental base.Unsigned) member.Nonstatic false None None) ∷ here 0 (facts.complete (record { 0 = 0 })) ∷ here 0 (facts.class (record { 0 = 1 }) true) ∷ here 0 (facts.scope (Some (record { 0 = 0 })) (kind.Class (record { 0 = 1 }))) ∷ here 2 (facts.object (pointer_to (fundamental base.Unsigned)) member.Nonstatic false None None) ∷ here 2 (facts.object (fundamental base.Long) member.Nonstatic false None None) ∷ here 2 (facts.object (pointer_to (fundamental base.Short)) member.Nonstatic false None None) ∷ here 0 (facts.complete (record { 0 = 1 })) ∷ here 0 (facts.class (record { 0 = 2 }) false) ∷ here 0 (facts.scope (Some (record { 0 = 0 })) (kind.Class (record { 0 = 2 }))) ∷ here 3 (facts.object (fundamental base.Double) member.Nonstatic false None None) ∷ here 3 (facts.function (function_of (fundamental base.Void) no_types false no_words) member.Nonstatic virtual_flags 0 None) ∷ here 0 (facts.complete (record { 0 = 2 })) ∷ []) 16 8
unfolding object_extent extent_of enumerations_in layouts_of class_extent member_extent added
layout_13 = refl

-- union K0 { int m0[2]; float *m1[2]; unsigned *m2[3]; };
layout_14 : HasExtent 0 (here 0 (facts.scope None kind.Space) ∷ here 0 (facts.class (record { 0 = 0 }) true) ∷ here 0 (facts.scope (Some (record { 0 = 0 })) (kind.Class (record { 0 = 0 }))) ∷ here 1 (facts.object (array_of (fundamental base.Int) (number_bound 2)) member.Nonstatic false None None) ∷ here 1 (facts.object (array_of (pointer_to (fundamental base.Float)) (number_bound 2)) member.Nonstatic false None None) ∷ here 1 (facts.object (array_of (pointer_to (fundamental base.Unsigned)) (number_bound 3)) member.Nonstatic false None None) ∷ here 0 (facts.complete (record { 0 = 0 })) ∷ []) 24 8
unfolding object_extent extent_of enumerations_in layouts_of class_extent member_extent added
layout_14 = refl

-- union K0 { double m0; wchar_t m1; double m2[3]; short m3; }; struct K1 { unsigned m0[1]; unsigned m1[1]; K0 m2[2]; virtual void f(); }; struct K2 {  virtual void f(); };
layout_15 : HasExtent 2 (here 0 (facts.scope None kind.Space) ∷ here 0 (facts.class (record { 0 = 0 }) true) ∷ here 0 (facts.scope (Some (record { 0 = 0 })) (kind.Class (record { 0 = 0 }))) ∷ here 1 (facts.object (fundamental base.Double) member.Nonstatic false None None) ∷ here 1 (facts.object (fundamental base.WideChar) member.Nonstatic false None None) ∷ here 1 (facts.object (array_of (fundamental base.Double) (number_bound 3)) member.Nonstatic false None None) ∷ here 1 (facts.object (fundamental base.Short) member.Nonstatic false None None) ∷ here 0 (facts.complete (record { 0 = 0 })) ∷ here 0 (facts.class (record { 0 = 1 }) false) ∷ here 0 (facts.scope (Some (record { 0 = 0 })) (kind.Class (record { 0 = 1 }))) ∷ here 2 (facts.object (array_of (fundamental base.Unsigned) (number_bound 1)) member.Nonstatic false None None) ∷ here 2 (facts.object (array_of (fundamental base.Unsigned) (number_bound 1)) member.Nonstatic false None None) ∷ here 2 (facts.object (array_of (class_type 0) (number_bound 2)) member.Nonstatic false None None) ∷ here 2 (facts.function (function_of (fundamental base.Void) no_types false no_words) member.Nonstatic virtual_flags 0 None) ∷ here 0 (facts.complete (record { 0 = 1 })) ∷ here 0 (facts.class (record { 0 = 2 }) false) ∷ here 0 (facts.scope (Some (record { 0 = 0 })) (kind.Class (record { 0 = 2 }))) ∷ here 3 (facts.function (function_of (fundamental base.Void) no_types false no_words) member.Nonstatic virtual_flags 0 None) ∷ here 0 (facts.complete (record { 0 = 2 })) ∷ []) 8 8
unfolding object_extent extent_of enumerations_in layouts_of class_extent member_extent added
layout_15 = refl

-- struct K0 { char m0; }; struct K1 {  virtual void f(); }; struct K2 { long m0; };
layout_16 : HasExtent 2 (here 0 (facts.scope None kind.Space) ∷ here 0 (facts.class (record { 0 = 0 }) false) ∷ here 0 (facts.scope (Some (record { 0 = 0 })) (kind.Class (record { 0 = 0 }))) ∷ here 1 (facts.object (fundamental base.Char) member.Nonstatic false None None) ∷ here 0 (facts.complete (record { 0 = 0 })) ∷ here 0 (facts.class (record { 0 = 1 }) false) ∷ here 0 (facts.scope (Some (record { 0 = 0 })) (kind.Class (record { 0 = 1 }))) ∷ here 2 (facts.function (function_of (fundamental base.Void) no_types false no_words) member.Nonstatic virtual_flags 0 None) ∷ here 0 (facts.complete (record { 0 = 1 })) ∷ here 0 (facts.class (record { 0 = 2 }) false) ∷ here 0 (facts.scope (Some (record { 0 = 0 })) (kind.Class (record { 0 = 2 }))) ∷ here 3 (facts.object (fundamental base.Long) member.Nonstatic false None None) ∷ here 0 (facts.complete (record { 0 = 2 })) ∷ []) 8 8
unfolding object_extent extent_of enumerations_in layouts_of class_extent member_extent added
layout_16 = refl

-- struct K0 { int *m0[3]; short m1; };
layout_17 : HasExtent 0 (here 0 (facts.scope None kind.Space) ∷ here 0 (facts.class (record { 0 = 0 }) false) ∷ here 0 (facts.scope (Some (record { 0 = 0 })) (kind.Class (record { 0 = 0 }))) ∷ here 1 (facts.object (array_of (pointer_to (fundamental base.Int)) (number_bound 3)) member.Nonstatic false None None) ∷ here 1 (facts.object (fundamental base.Short) member.Nonstatic false None None) ∷ here 0 (facts.complete (record { 0 = 0 })) ∷ []) 32 8
unfolding object_extent extent_of enumerations_in layouts_of class_extent member_extent added
layout_17 = refl

-- struct K0 { char m0; char m1[2]; bool m2; };
layout_18 : HasExtent 0 (here 0 (facts.scope None kind.Space) ∷ here 0 (facts.class (record { 0 = 0 }) false) ∷ here 0 (facts.scope (Some (record { 0 = 0 })) (kind.Class (record { 0 = 0 }))) ∷ here 1 (facts.object (fundamental base.Char) member.Nonstatic false None None) ∷ here 1 (facts.object (array_of (fundamental base.Char) (number_bound 2)) member.Nonstatic false None None) ∷ here 1 (facts.object (fundamental base.Bool) member.Nonstatic false None None) ∷ here 0 (facts.complete (record { 0 = 0 })) ∷ []) 4 1
unfolding object_extent extent_of enumerations_in layouts_of class_extent member_extent added
layout_18 = refl

-- struct K0 { int m0; }; struct K1 { float m0; char *m1[2]; }; struct K2 { char *m0[3]; K1 m1[2]; };
layout_19 : HasExtent 2 (here 0 (facts.scope None kind.Space) ∷ here 0 (facts.class (record { 0 = 0 }) false) ∷ here 0 (facts.scope (Some (record { 0 = 0 })) (kind.Class (record { 0 = 0 }))) ∷ here 1 (facts.object (fundamental base.Int) member.Nonstatic false None None) ∷ here 0 (facts.complete (record { 0 = 0 })) ∷ here 0 (facts.class (record { 0 = 1 }) false) ∷ here 0 (facts.scope (Some (record { 0 = 0 })) (kind.Class (record { 0 = 1 }))) ∷ here 2 (facts.object (fundamental base.Float) member.Nonstatic false None None) ∷ here 2 (facts.object (array_of (pointer_to (fundamental base.Char)) (number_bound 2)) member.Nonstatic false None None) ∷ here 0 (facts.complete (record { 0 = 1 })) ∷ here 0 (facts.class (record { 0 = 2 }) false) ∷ here 0 (facts.scope (Some (record { 0 = 0 })) (kind.Class (record { 0 = 2 }))) ∷ here 3 (facts.object (array_of (pointer_to (fundamental base.Char)) (number_bound 3)) member.Nonstatic false None None) ∷ here 3 (facts.object (array_of (class_type 1) (number_bound 2)) member.Nonstatic false None None) ∷ here 0 (facts.complete (record { 0 = 2 })) ∷ []) 72 8
unfolding object_extent extent_of enumerations_in layouts_of class_extent member_extent added
layout_19 = refl

-- struct K0 { double m0; short m1; bool *m2[2]; }; struct K1 { int m0; }; struct K2 { int m0[1]; unsigned m1; K0 m2; };
layout_20 : HasExtent 2 (here 0 (facts.scope None kind.Space) ∷ here 0 (facts.class (record { 0 = 0 }) false) ∷ here 0 (facts.scope (Some (record { 0 = 0 })) (kind.Class (record { 0 = 0 }))) ∷ here 1 (facts.object (fundamental base.Double) member.Nonstatic false None None) ∷ here 1 (facts.object (fundamental base.Short) member.Nonstatic false None None) ∷ here 1 (facts.object (array_of (pointer_to (fundamental base.Bool)) (number_bound 2)) member.Nonstatic false None None) ∷ here 0 (facts.complete (record { 0 = 0 })) ∷ here 0 (facts.class (record { 0 = 1 }) false) ∷ here 0 (facts.scope (Some (record { 0 = 0 })) (kind.Class (record { 0 = 1 }))) ∷ here 2 (facts.object (fundamental base.Int) member.Nonstatic false None None) ∷ here 0 (facts.complete (record { 0 = 1 })) ∷ here 0 (facts.class (record { 0 = 2 }) false) ∷ here 0 (facts.scope (Some (record { 0 = 0 })) (kind.Class (record { 0 = 2 }))) ∷ here 3 (facts.object (array_of (fundamental base.Int) (number_bound 1)) member.Nonstatic false None None) ∷ here 3 (facts.object (fundamental base.Unsigned) member.Nonstatic false None None) ∷ here 3 (facts.object (class_type 0) member.Nonstatic false None None) ∷ here 0 (facts.complete (record { 0 = 2 })) ∷ []) 40 8
unfolding object_extent extent_of enumerations_in layouts_of class_extent member_extent added
layout_20 = refl

-- struct K0 { char m0; unsigned m1; }; struct K1 { int m0; }; union K2 { long double m0; wchar_t *m1; float m2; bool m3[4]; };
layout_21 : HasExtent 2 (here 0 (facts.scope None kind.Space) ∷ here 0 (facts.class (record { 0 = 0 }) false) ∷ here 0 (facts.scope (Some (record { 0 = 0 })) (kind.Class (record { 0 = 0 }))) ∷ here 1 (facts.object (fundamental base.Char) member.Nonstatic false None None) ∷ here 1 (facts.object (fundamental base.Unsigned) member.Nonstatic false None None) ∷ here 0 (facts.complete (record { 0 = 0 })) ∷ here 0 (facts.class (record { 0 = 1 }) false) ∷ here 0 (facts.scope (Some (record { 0 = 0 })) (kind.Class (record { 0 = 1 }))) ∷ here 2 (facts.object (fundamental base.Int) member.Nonstatic false None None) ∷ here 0 (facts.complete (record { 0 = 1 })) ∷ here 0 (facts.class (record { 0 = 2 }) true) ∷ here 0 (facts.scope (Some (record { 0 = 0 })) (kind.Class (record { 0 = 2 }))) ∷ here 3 (facts.object (fundamental base.LongDouble) member.Nonstatic false None None) ∷ here 3 (facts.object (pointer_to (fundamental base.WideChar)) member.Nonstatic false None None) ∷ here 3 (facts.object (fundamental base.Float) member.Nonstatic false None None) ∷ here 3 (facts.object (array_of (fundamental base.Bool) (number_bound 4)) member.Nonstatic false None None) ∷ here 0 (facts.complete (record { 0 = 2 })) ∷ []) 16 16
unfolding object_extent extent_of enumerations_in layouts_of class_extent member_extent added
layout_21 = refl

-- struct K0 { short m0; };
layout_22 : HasExtent 0 (here 0 (facts.scope None kind.Space) ∷ here 0 (facts.class (record { 0 = 0 }) false) ∷ here 0 (facts.scope (Some (record { 0 = 0 })) (kind.Class (record { 0 = 0 }))) ∷ here 1 (facts.object (fundamental base.Short) member.Nonstatic false None None) ∷ here 0 (facts.complete (record { 0 = 0 })) ∷ []) 2 2
unfolding object_extent extent_of enumerations_in layouts_of class_extent member_extent added
layout_22 = refl

-- union K0 { unsigned m0; double m1; wchar_t m2[4]; bool m3; }; union K1 { long m0; float m1; long double m2[4]; }; struct K2 { wchar_t m0; virtual void f(); };
layout_23 : HasExtent 2 (here 0 (facts.scope None kind.Space) ∷ here 0 (facts.class (record { 0 = 0 }) true) ∷ here 0 (facts.scope (Some (record { 0 = 0 })) (kind.Class (record { 0 = 0 }))) ∷ here 1 (facts.object (fundamental base.Unsigned) member.Nonstatic false None None) ∷ here 1 (facts.object (fundamental base.Double) member.Nonstatic false None None) ∷ here 1 (facts.object (array_of (fundamental base.WideChar) (number_bound 4)) member.Nonstatic false None None) ∷ here 1 (facts.object (fundamental base.Bool) member.Nonstatic false None None) ∷ here 0 (facts.complete (record { 0 = 0 })) ∷ here 0 (facts.class (record { 0 = 1 }) true) ∷ here 0 (facts.scope (Some (record { 0 = 0 })) (kind.Class (record { 0 = 1 }))) ∷ here 2 (facts.object (fundamental base.Long) member.Nonstatic false None None) ∷ here 2 (facts.object (fundamental base.Float) member.Nonstatic false None None) ∷ here 2 (facts.object (array_of (fundamental base.LongDouble) (number_bound 4)) member.Nonstatic false None None) ∷ here 0 (facts.complete (record { 0 = 1 })) ∷ here 0 (facts.class (record { 0 = 2 }) false) ∷ here 0 (facts.scope (Some (record { 0 = 0 })) (kind.Class (record { 0 = 2 }))) ∷ here 3 (facts.object (fundamental base.WideChar) member.Nonstatic false None None) ∷ here 3 (facts.function (function_of (fundamental base.Void) no_types false no_words) member.Nonstatic virtual_flags 0 None) ∷ here 0 (facts.complete (record { 0 = 2 })) ∷ []) 16 8
unfolding object_extent extent_of enumerations_in layouts_of class_extent member_extent added
layout_23 = refl

-- struct K0 { short m0; };
layout_24 : HasExtent 0 (here 0 (facts.scope None kind.Space) ∷ here 0 (facts.class (record { 0 = 0 }) false) ∷ here 0 (facts.scope (Some (record { 0 = 0 })) (kind.Class (record { 0 = 0 }))) ∷ here 1 (facts.object (fundamental base.Short) member.Nonstatic false None None) ∷ here 0 (facts.complete (record { 0 = 0 })) ∷ []) 2 2
unfolding object_extent extent_of enumerations_in layouts_of class_extent member_extent added
layout_24 = refl

-- struct K0 { bool *m0[2]; virtual void f(); };
layout_25 : HasExtent 0 (here 0 (facts.scope None kind.Space) ∷ here 0 (facts.class (record { 0 = 0 }) false) ∷ here 0 (facts.scope (Some (record { 0 = 0 })) (kind.Class (record { 0 = 0 }))) ∷ here 1 (facts.object (array_of (pointer_to (fundamental base.Bool)) (number_bound 2)) member.Nonstatic false None None) ∷ here 1 (facts.function (function_of (fundamental base.Void) no_types false no_words) member.Nonstatic virtual_flags 0 None) ∷ here 0 (facts.complete (record { 0 = 0 })) ∷ []) 24 8
unfolding object_extent extent_of enumerations_in layouts_of class_extent member_extent added
layout_25 = refl

-- union K0 { float m0; }; struct K1 { long double m0; K0 m1; unsigned *m2[2]; wchar_t m3; }; struct K2 { long m0; K0 m1; long m2; virtual void f(); };
layout_26 : HasExtent 2 (here 0 (facts.scope None kind.Space) ∷ here 0 (facts.class (record { 0 = 0 }) true) ∷ here 0 (facts.scope (Some (record { 0 = 0 })) (kind.Class (record { 0 = 0 }))) ∷ here 1 (facts.object (fundamental base.Float) member.Nonstatic false None None) ∷ here 0 (facts.complete (record { 0 = 0 })) ∷ here 0 (facts.class (record { 0 = 1 }) false) ∷ here 0 (facts.scope (Some (record { 0 = 0 })) (kind.Class (record { 0 = 1 }))) ∷ here 2 (facts.object (fundamental base.LongDouble) member.Nonstatic false None None) ∷ here 2 (facts.object (class_type 0) member.Nonstatic false None None) ∷ here 2 (facts.object (array_of (pointer_to (fundamental base.Unsigned)) (number_bound 2)) member.Nonstatic false None None) ∷ here 2 (facts.object (fundamental base.WideChar) member.Nonstatic false None None) ∷ here 0 (facts.complete (record { 0 = 1 })) ∷ here 0 (facts.class (record { 0 = 2 }) false) ∷ here 0 (facts.scope (Some (record { 0 = 0 })) (kind.Class (record { 0 = 2 }))) ∷ here 3 (facts.object (fundamental base.Long) member.Nonstatic false None None) ∷ here 3 (facts.object (class_type 0) member.Nonstatic false None None) ∷ here 3 (facts.object (fundamental base.Long) member.Nonstatic false None None) ∷ here 3 (facts.function (function_of (fundamental base.Void) no_types false no_words) member.Nonstatic virtual_flags 0 None) ∷ here 0 (facts.complete (record { 0 = 2 })) ∷ []) 32 8
unfolding object_extent extent_of enumerations_in layouts_of class_extent member_extent added
layout_26 = refl

-- struct K0 { wchar_t m0; virtual void f(); }; struct K1 {  }; struct K2 {  virtual void f(); };
layout_27 : HasExtent 2 (here 0 (facts.scope None kind.Space) ∷ here 0 (facts.class (record { 0 = 0 }) false) ∷ here 0 (facts.scope (Some (record { 0 = 0 })) (kind.Class (record { 0 = 0 }))) ∷ here 1 (facts.object (fundamental base.WideChar) member.Nonstatic false None None) ∷ here 1 (facts.function (function_of (fundamental base.Void) no_types false no_words) member.Nonstatic virtual_flags 0 None) ∷ here 0 (facts.complete (record { 0 = 0 })) ∷ here 0 (facts.class (record { 0 = 1 }) false) ∷ here 0 (facts.scope (Some (record { 0 = 0 })) (kind.Class (record { 0 = 1 }))) ∷ here 0 (facts.complete (record { 0 = 1 })) ∷ here 0 (facts.class (record { 0 = 2 }) false) ∷ here 0 (facts.scope (Some (record { 0 = 0 })) (kind.Class (record { 0 = 2 }))) ∷ here 3 (facts.function (function_of (fundamental base.Void) no_types false no_words) member.Nonstatic virtual_flags 0 None) ∷ here 0 (facts.complete (record { 0 = 2 })) ∷ []) 8 8
unfolding object_extent extent_of enumerations_in layouts_of class_extent member_extent added
layout_27 = refl

-- struct K0 { unsigned m0; unsigned *m1; virtual void f(); }; struct K1 { long double m0[1]; bool m1[1]; int &r; }; struct K2 { bool m0; long m1; short m2; };
layout_28 : HasExtent 2 (here 0 (facts.scope None kind.Space) ∷ here 0 (facts.class (record { 0 = 0 }) false) ∷ here 0 (facts.scope (Some (record { 0 = 0 })) (kind.Class (record { 0 = 0 }))) ∷ here 1 (facts.object (fundamental base.Unsigned) member.Nonstatic false None None) ∷ here 1 (facts.object (pointer_to (fundamental base.Unsigned)) member.Nonstatic false None None) ∷ here 1 (facts.function (function_of (fundamental base.Void) no_types false no_words) member.Nonstatic virtual_flags 0 None) ∷ here 0 (facts.complete (record { 0 = 0 })) ∷ here 0 (facts.class (record { 0 = 1 }) false) ∷ here 0 (facts.scope (Some (record { 0 = 0 })) (kind.Class (record { 0 = 1 }))) ∷ here 2 (facts.object (array_of (fundamental base.LongDouble) (number_bound 1)) member.Nonstatic false None None) ∷ here 2 (facts.object (array_of (fundamental base.Bool) (number_bound 1)) member.Nonstatic false None None) ∷ here 2 (facts.object (reference_to (fundamental base.Int)) member.Nonstatic false None None) ∷ here 0 (facts.complete (record { 0 = 1 })) ∷ here 0 (facts.class (record { 0 = 2 }) false) ∷ here 0 (facts.scope (Some (record { 0 = 0 })) (kind.Class (record { 0 = 2 }))) ∷ here 3 (facts.object (fundamental base.Bool) member.Nonstatic false None None) ∷ here 3 (facts.object (fundamental base.Long) member.Nonstatic false None None) ∷ here 3 (facts.object (fundamental base.Short) member.Nonstatic false None None) ∷ here 0 (facts.complete (record { 0 = 2 })) ∷ []) 24 8
unfolding object_extent extent_of enumerations_in layouts_of class_extent member_extent added
layout_28 = refl

-- union K0 {  }; struct K1 { bool m0; K0 m1; };
layout_29 : HasExtent 1 (here 0 (facts.scope None kind.Space) ∷ here 0 (facts.class (record { 0 = 0 }) true) ∷ here 0 (facts.scope (Some (record { 0 = 0 })) (kind.Class (record { 0 = 0 }))) ∷ here 0 (facts.complete (record { 0 = 0 })) ∷ here 0 (facts.class (record { 0 = 1 }) false) ∷ here 0 (facts.scope (Some (record { 0 = 0 })) (kind.Class (record { 0 = 1 }))) ∷ here 2 (facts.object (fundamental base.Bool) member.Nonstatic false None None) ∷ here 2 (facts.object (class_type 0) member.Nonstatic false None None) ∷ here 0 (facts.complete (record { 0 = 1 })) ∷ []) 2 1
unfolding object_extent extent_of enumerations_in layouts_of class_extent member_extent added
layout_29 = refl

-- struct K0 { long m0; double *m1[2]; long double *m2[3]; wchar_t *m3; }; struct K1 {  }; struct K2 { K1 m0[2]; K0 m1[2]; K0 m2; int &r; };
layout_30 : HasExtent 2 (here 0 (facts.scope None kind.Space) ∷ here 0 (facts.class (record { 0 = 0 }) false) ∷ here 0 (facts.scope (Some (record { 0 = 0 })) (kind.Class (record { 0 = 0 }))) ∷ here 1 (facts.object (fundamental base.Long) member.Nonstatic false None None) ∷ here 1 (facts.object (array_of (pointer_to (fundamental base.Double)) (number_bound 2)) member.Nonstatic false None None) ∷ here 1 (facts.object (array_of (pointer_to (fundamental base.LongDouble)) (number_bound 3)) member.Nonstatic false None None) ∷ here 1 (facts.object (pointer_to (fundamental base.WideChar)) member.Nonstatic false None None) ∷ here 0 (facts.complete (record { 0 = 0 })) ∷ here 0 (facts.class (record { 0 = 1 }) false) ∷ here 0 (facts.scope (Some (record { 0 = 0 })) (kind.Class (record { 0 = 1 }))) ∷ here 0 (facts.complete (record { 0 = 1 })) ∷ here 0 (facts.class (record { 0 = 2 }) false) ∷ here 0 (facts.scope (Some (record { 0 = 0 })) (kind.Class (record { 0 = 2 }))) ∷ here 3 (facts.object (array_of (class_type 1) (number_bound 2)) member.Nonstatic false None None) ∷ here 3 (facts.object (array_of (class_type 0) (number_bound 2)) member.Nonstatic false None None) ∷ here 3 (facts.object (class_type 0) member.Nonstatic false None None) ∷ here 3 (facts.object (reference_to (fundamental base.Int)) member.Nonstatic false None None) ∷ here 0 (facts.complete (record { 0 = 2 })) ∷ []) 184 8
unfolding object_extent extent_of enumerations_in layouts_of class_extent member_extent added
layout_30 = refl

-- struct K0 {  int &r; }; struct K1 { K0 m0[2]; }; struct K2 { int *m0; K1 m1[2]; wchar_t m2; K0 m3; };
layout_31 : HasExtent 2 (here 0 (facts.scope None kind.Space) ∷ here 0 (facts.class (record { 0 = 0 }) false) ∷ here 0 (facts.scope (Some (record { 0 = 0 })) (kind.Class (record { 0 = 0 }))) ∷ here 1 (facts.object (reference_to (fundamental base.Int)) member.Nonstatic false None None) ∷ here 0 (facts.complete (record { 0 = 0 })) ∷ here 0 (facts.class (record { 0 = 1 }) false) ∷ here 0 (facts.scope (Some (record { 0 = 0 })) (kind.Class (record { 0 = 1 }))) ∷ here 2 (facts.object (array_of (class_type 0) (number_bound 2)) member.Nonstatic false None None) ∷ here 0 (facts.complete (record { 0 = 1 })) ∷ here 0 (facts.class (record { 0 = 2 }) false) ∷ here 0 (facts.scope (Some (record { 0 = 0 })) (kind.Class (record { 0 = 2 }))) ∷ here 3 (facts.object (pointer_to (fundamental base.Int)) member.Nonstatic false None None) ∷ here 3 (facts.object (array_of (class_type 1) (number_bound 2)) member.Nonstatic false None None) ∷ here 3 (facts.object (fundamental base.WideChar) member.Nonstatic false None None) ∷ here 3 (facts.object (class_type 0) member.Nonstatic false None None) ∷ here 0 (facts.complete (record { 0 = 2 })) ∷ []) 56 8
unfolding object_extent extent_of enumerations_in layouts_of class_extent member_extent added
layout_31 = refl

-- struct K0 { long double *m0; int &r; virtual void f(); };
layout_32 : HasExtent 0 (here 0 (facts.scope None kind.Space) ∷ here 0 (facts.class (record { 0 = 0 }) false) ∷ here 0 (facts.scope (Some (record { 0 = 0 })) (kind.Class (record { 0 = 0 }))) ∷ here 1 (facts.object (pointer_to (fundamental base.LongDouble)) member.Nonstatic false None None) ∷ here 1 (facts.object (reference_to (fundamental base.Int)) member.Nonstatic false None None) ∷ here 1 (facts.function (function_of (fundamental base.Void) no_types false no_words) member.Nonstatic virtual_flags 0 None) ∷ here 0 (facts.complete (record { 0 = 0 })) ∷ []) 24 8
unfolding object_extent extent_of enumerations_in layouts_of class_extent member_extent added
layout_32 = refl

-- struct K0 { int m0; }; struct K1 {  };
layout_33 : HasExtent 1 (here 0 (facts.scope None kind.Space) ∷ here 0 (facts.class (record { 0 = 0 }) false) ∷ here 0 (facts.scope (Some (record { 0 = 0 })) (kind.Class (record { 0 = 0 }))) ∷ here 1 (facts.object (fundamental base.Int) member.Nonstatic false None None) ∷ here 0 (facts.complete (record { 0 = 0 })) ∷ here 0 (facts.class (record { 0 = 1 }) false) ∷ here 0 (facts.scope (Some (record { 0 = 0 })) (kind.Class (record { 0 = 1 }))) ∷ here 0 (facts.complete (record { 0 = 1 })) ∷ []) 1 1
unfolding object_extent extent_of enumerations_in layouts_of class_extent member_extent added
layout_33 = refl

-- union K0 { int m0; char m1; }; struct K1 {  }; union K2 {  };
layout_34 : HasExtent 2 (here 0 (facts.scope None kind.Space) ∷ here 0 (facts.class (record { 0 = 0 }) true) ∷ here 0 (facts.scope (Some (record { 0 = 0 })) (kind.Class (record { 0 = 0 }))) ∷ here 1 (facts.object (fundamental base.Int) member.Nonstatic false None None) ∷ here 1 (facts.object (fundamental base.Char) member.Nonstatic false None None) ∷ here 0 (facts.complete (record { 0 = 0 })) ∷ here 0 (facts.class (record { 0 = 1 }) false) ∷ here 0 (facts.scope (Some (record { 0 = 0 })) (kind.Class (record { 0 = 1 }))) ∷ here 0 (facts.complete (record { 0 = 1 })) ∷ here 0 (facts.class (record { 0 = 2 }) true) ∷ here 0 (facts.scope (Some (record { 0 = 0 })) (kind.Class (record { 0 = 2 }))) ∷ here 0 (facts.complete (record { 0 = 2 })) ∷ []) 1 1
unfolding object_extent extent_of enumerations_in layouts_of class_extent member_extent added
layout_34 = refl

-- struct K0 { char m0[4]; float m1; bool m2; };
layout_35 : HasExtent 0 (here 0 (facts.scope None kind.Space) ∷ here 0 (facts.class (record { 0 = 0 }) false) ∷ here 0 (facts.scope (Some (record { 0 = 0 })) (kind.Class (record { 0 = 0 }))) ∷ here 1 (facts.object (array_of (fundamental base.Char) (number_bound 4)) member.Nonstatic false None None) ∷ here 1 (facts.object (fundamental base.Float) member.Nonstatic false None None) ∷ here 1 (facts.object (fundamental base.Bool) member.Nonstatic false None None) ∷ here 0 (facts.complete (record { 0 = 0 })) ∷ []) 12 4
unfolding object_extent extent_of enumerations_in layouts_of class_extent member_extent added
layout_35 = refl

-- struct K0 { bool m0[1]; bool *m1[2]; }; union K1 { long double m0; short m1; };
layout_36 : HasExtent 1 (here 0 (facts.scope None kind.Space) ∷ here 0 (facts.class (record { 0 = 0 }) false) ∷ here 0 (facts.scope (Some (record { 0 = 0 })) (kind.Class (record { 0 = 0 }))) ∷ here 1 (facts.object (array_of (fundamental base.Bool) (number_bound 1)) member.Nonstatic false None None) ∷ here 1 (facts.object (array_of (pointer_to (fundamental base.Bool)) (number_bound 2)) member.Nonstatic false None None) ∷ here 0 (facts.complete (record { 0 = 0 })) ∷ here 0 (facts.class (record { 0 = 1 }) true) ∷ here 0 (facts.scope (Some (record { 0 = 0 })) (kind.Class (record { 0 = 1 }))) ∷ here 2 (facts.object (fundamental base.LongDouble) member.Nonstatic false None None) ∷ here 2 (facts.object (fundamental base.Short) member.Nonstatic false None None) ∷ here 0 (facts.complete (record { 0 = 1 })) ∷ []) 16 16
unfolding object_extent extent_of enumerations_in layouts_of class_extent member_extent added
layout_36 = refl

-- struct K0 { short m0; };
layout_37 : HasExtent 0 (here 0 (facts.scope None kind.Space) ∷ here 0 (facts.class (record { 0 = 0 }) false) ∷ here 0 (facts.scope (Some (record { 0 = 0 })) (kind.Class (record { 0 = 0 }))) ∷ here 1 (facts.object (fundamental base.Short) member.Nonstatic false None None) ∷ here 0 (facts.complete (record { 0 = 0 })) ∷ []) 2 2
unfolding object_extent extent_of enumerations_in layouts_of class_extent member_extent added
layout_37 = refl

-- union K0 { long double *m0[3]; double m1; wchar_t *m2; bool m3; }; struct K1 {  int &r; };
layout_38 : HasExtent 1 (here 0 (facts.scope None kind.Space) ∷ here 0 (facts.class (record { 0 = 0 }) true) ∷ here 0 (facts.scope (Some (record { 0 = 0 })) (kind.Class (record { 0 = 0 }))) ∷ here 1 (facts.object (array_of (pointer_to (fundamental base.LongDouble)) (number_bound 3)) member.Nonstatic false None None) ∷ here 1 (facts.object (fundamental base.Double) member.Nonstatic false None None) ∷ here 1 (facts.object (pointer_to (fundamental base.WideChar)) member.Nonstatic false None None) ∷ here 1 (facts.object (fundamental base.Bool) member.Nonstatic false None None) ∷ here 0 (facts.complete (record { 0 = 0 })) ∷ here 0 (facts.class (record { 0 = 1 }) false) ∷ here 0 (facts.scope (Some (record { 0 = 0 })) (kind.Class (record { 0 = 1 }))) ∷ here 2 (facts.object (reference_to (fundamental base.Int)) member.Nonstatic false None None) ∷ here 0 (facts.complete (record { 0 = 1 })) ∷ []) 8 8
unfolding object_extent extent_of enumerations_in layouts_of class_extent member_extent added
layout_38 = refl

-- struct K0 { double m0; wchar_t m1; short m2; float m3; }; struct K1 { int *m0[2]; int &r; }; union K2 { short m0; double m1; long m2; };
layout_39 : HasExtent 2 (here 0 (facts.scope None kind.Space) ∷ here 0 (facts.class (record { 0 = 0 }) false) ∷ here 0 (facts.scope (Some (record { 0 = 0 })) (kind.Class (record { 0 = 0 }))) ∷ here 1 (facts.object (fundamental base.Double) member.Nonstatic false None None) ∷ here 1 (facts.object (fundamental base.WideChar) member.Nonstatic false None None) ∷ here 1 (facts.object (fundamental base.Short) member.Nonstatic false None None) ∷ here 1 (facts.object (fundamental base.Float) member.Nonstatic false None None) ∷ here 0 (facts.complete (record { 0 = 0 })) ∷ here 0 (facts.class (record { 0 = 1 }) false) ∷ here 0 (facts.scope (Some (record { 0 = 0 })) (kind.Class (record { 0 = 1 }))) ∷ here 2 (facts.object (array_of (pointer_to (fundamental base.Int)) (number_bound 2)) member.Nonstatic false None None) ∷ here 2 (facts.object (reference_to (fundamental base.Int)) member.Nonstatic false None None) ∷ here 0 (facts.complete (record { 0 = 1 })) ∷ here 0 (facts.class (record { 0 = 2 }) true) ∷ here 0 (facts.scope (Some (record { 0 = 0 })) (kind.Class (record { 0 = 2 }))) ∷ here 3 (facts.object (fundamental base.Short) member.Nonstatic false None None) ∷ here 3 (facts.object (fundamental base.Double) member.Nonstatic false None None) ∷ here 3 (facts.object (fundamental base.Long) member.Nonstatic false None None) ∷ here 0 (facts.complete (record { 0 = 2 })) ∷ []) 8 8
unfolding object_extent extent_of enumerations_in layouts_of class_extent member_extent added
layout_39 = refl

-- struct K0 { double m0; bool m1; };
layout_40 : HasExtent 0 (here 0 (facts.scope None kind.Space) ∷ here 0 (facts.class (record { 0 = 0 }) false) ∷ here 0 (facts.scope (Some (record { 0 = 0 })) (kind.Class (record { 0 = 0 }))) ∷ here 1 (facts.object (fundamental base.Double) member.Nonstatic false None None) ∷ here 1 (facts.object (fundamental base.Bool) member.Nonstatic false None None) ∷ here 0 (facts.complete (record { 0 = 0 })) ∷ []) 16 8
unfolding object_extent extent_of enumerations_in layouts_of class_extent member_extent added
layout_40 = refl

-- struct K0 { long *m0[2]; }; struct K1 { long m0; int m1[2]; int &r; };
layout_41 : HasExtent 1 (here 0 (facts.scope None kind.Space) ∷ here 0 (facts.class (record { 0 = 0 }) false) ∷ here 0 (facts.scope (Some (record { 0 = 0 })) (kind.Class (record { 0 = 0 }))) ∷ here 1 (facts.object (array_of (pointer_to (fundamental base.Long)) (number_bound 2)) member.Nonstatic false None None) ∷ here 0 (facts.complete (record { 0 = 0 })) ∷ here 0 (facts.class (record { 0 = 1 }) false) ∷ here 0 (facts.scope (Some (record { 0 = 0 })) (kind.Class (record { 0 = 1 }))) ∷ here 2 (facts.object (fundamental base.Long) member.Nonstatic false None None) ∷ here 2 (facts.object (array_of (fundamental base.Int) (number_bound 2)) member.Nonstatic false None None) ∷ here 2 (facts.object (reference_to (fundamental base.Int)) member.Nonstatic false None None) ∷ here 0 (facts.complete (record { 0 = 1 })) ∷ []) 24 8
unfolding object_extent extent_of enumerations_in layouts_of class_extent member_extent added
layout_41 = refl

-- struct K0 { double m0; };
layout_42 : HasExtent 0 (here 0 (facts.scope None kind.Space) ∷ here 0 (facts.class (record { 0 = 0 }) false) ∷ here 0 (facts.scope (Some (record { 0 = 0 })) (kind.Class (record { 0 = 0 }))) ∷ here 1 (facts.object (fundamental base.Double) member.Nonstatic false None None) ∷ here 0 (facts.complete (record { 0 = 0 })) ∷ []) 8 8
unfolding object_extent extent_of enumerations_in layouts_of class_extent member_extent added
layout_42 = refl

-- union K0 { long *m0[3]; short m1; wchar_t m2; long m3; }; struct K1 { float *m0; int m1; short m2; float m3; virtual void f(); };
layout_43 : HasExtent 1 (here 0 (facts.scope None kind.Space) ∷ here 0 (facts.class (record { 0 = 0 }) true) ∷ here 0 (facts.scope (Some (record { 0 = 0 })) (kind.Class (record { 0 = 0 }))) ∷ here 1 (facts.object (array_of (pointer_to (fundamental base.Long)) (number_bound 3)) member.Nonstatic false None None) ∷ here 1 (facts.object (fundamental base.Short) member.Nonstatic false None None) ∷ here 1 (facts.object (fundamental base.WideChar) member.Nonstatic false None None) ∷ here 1 (facts.object (fundamental base.Long) member.Nonstatic false None None) ∷ here 0 (facts.complete (record { 0 = 0 })) ∷ here 0 (facts.class (record { 0 = 1 }) false) ∷ here 0 (facts.scope (Some (record { 0 = 0 })) (kind.Class (record { 0 = 1 }))) ∷ here 2 (facts.object (pointer_to (fundamental base.Float)) member.Nonstatic false None None) ∷ here 2 (facts.object (fundamental base.Int) member.Nonstatic false None None) ∷ here 2 (facts.object (fundamental base.Short) member.Nonstatic false None None) ∷ here 2 (facts.object (fundamental base.Float) member.Nonstatic false None None) ∷ here 2 (facts.function (function_of (fundamental base.Void) no_types false no_words) member.Nonstatic virtual_flags 0 None) ∷ here 0 (facts.complete (record { 0 = 1 })) ∷ []) 32 8
unfolding object_extent extent_of enumerations_in layouts_of class_extent member_extent added
layout_43 = refl

-- struct K0 { int *m0; long *m1[3]; int m2; int &r; };
layout_44 : HasExtent 0 (here 0 (facts.scope None kind.Space) ∷ here 0 (facts.class (record { 0 = 0 }) false) ∷ here 0 (facts.scope (Some (record { 0 = 0 })) (kind.Class (record { 0 = 0 }))) ∷ here 1 (facts.object (pointer_to (fundamental base.Int)) member.Nonstatic false None None) ∷ here 1 (facts.object (array_of (pointer_to (fundamental base.Long)) (number_bound 3)) member.Nonstatic false None None) ∷ here 1 (facts.object (fundamental base.Int) member.Nonstatic false None None) ∷ here 1 (facts.object (reference_to (fundamental base.Int)) member.Nonstatic false None None) ∷ here 0 (facts.complete (record { 0 = 0 })) ∷ []) 48 8
unfolding object_extent extent_of enumerations_in layouts_of class_extent member_extent added
layout_44 = refl

-- struct K0 { short m0; char m1; virtual void f(); };
layout_45 : HasExtent 0 (here 0 (facts.scope None kind.Space) ∷ here 0 (facts.class (record { 0 = 0 }) false) ∷ here 0 (facts.scope (Some (record { 0 = 0 })) (kind.Class (record { 0 = 0 }))) ∷ here 1 (facts.object (fundamental base.Short) member.Nonstatic false None None) ∷ here 1 (facts.object (fundamental base.Char) member.Nonstatic false None None) ∷ here 1 (facts.function (function_of (fundamental base.Void) no_types false no_words) member.Nonstatic virtual_flags 0 None) ∷ here 0 (facts.complete (record { 0 = 0 })) ∷ []) 16 8
unfolding object_extent extent_of enumerations_in layouts_of class_extent member_extent added
layout_45 = refl

-- struct K0 { long m0; };
layout_46 : HasExtent 0 (here 0 (facts.scope None kind.Space) ∷ here 0 (facts.class (record { 0 = 0 }) false) ∷ here 0 (facts.scope (Some (record { 0 = 0 })) (kind.Class (record { 0 = 0 }))) ∷ here 1 (facts.object (fundamental base.Long) member.Nonstatic false None None) ∷ here 0 (facts.complete (record { 0 = 0 })) ∷ []) 8 8
unfolding object_extent extent_of enumerations_in layouts_of class_extent member_extent added
layout_46 = refl

-- union K0 { int m0; }; struct K1 { float m0; K0 m1[2]; }; union K2 { float m0; float m1; wchar_t m2; };
layout_47 : HasExtent 2 (here 0 (facts.scope None kind.Space) ∷ here 0 (facts.class (record { 0 = 0 }) true) ∷ here 0 (facts.scope (Some (record { 0 = 0 })) (kind.Class (record { 0 = 0 }))) ∷ here 1 (facts.object (fundamental base.Int) member.Nonstatic false None None) ∷ here 0 (facts.complete (record { 0 = 0 })) ∷ here 0 (facts.class (record { 0 = 1 }) false) ∷ here 0 (facts.scope (Some (record { 0 = 0 })) (kind.Class (record { 0 = 1 }))) ∷ here 2 (facts.object (fundamental base.Float) member.Nonstatic false None None) ∷ here 2 (facts.object (array_of (class_type 0) (number_bound 2)) member.Nonstatic false None None) ∷ here 0 (facts.complete (record { 0 = 1 })) ∷ here 0 (facts.class (record { 0 = 2 }) true) ∷ here 0 (facts.scope (Some (record { 0 = 0 })) (kind.Class (record { 0 = 2 }))) ∷ here 3 (facts.object (fundamental base.Float) member.Nonstatic false None None) ∷ here 3 (facts.object (fundamental base.Float) member.Nonstatic false None None) ∷ here 3 (facts.object (fundamental base.WideChar) member.Nonstatic false None None) ∷ here 0 (facts.complete (record { 0 = 2 })) ∷ []) 4 4
unfolding object_extent extent_of enumerations_in layouts_of class_extent member_extent added
layout_47 = refl

-- union K0 { short m0; bool m1; bool m2; };
layout_48 : HasExtent 0 (here 0 (facts.scope None kind.Space) ∷ here 0 (facts.class (record { 0 = 0 }) true) ∷ here 0 (facts.scope (Some (record { 0 = 0 })) (kind.Class (record { 0 = 0 }))) ∷ here 1 (facts.object (fundamental base.Short) member.Nonstatic false None None) ∷ here 1 (facts.object (fundamental base.Bool) member.Nonstatic false None None) ∷ here 1 (facts.object (fundamental base.Bool) member.Nonstatic false None None) ∷ here 0 (facts.complete (record { 0 = 0 })) ∷ []) 2 2
unfolding object_extent extent_of enumerations_in layouts_of class_extent member_extent added
layout_48 = refl

-- struct K0 { float *m0[3]; virtual void f(); }; union K1 {  };
layout_49 : HasExtent 1 (here 0 (facts.scope None kind.Space) ∷ here 0 (facts.class (record { 0 = 0 }) false) ∷ here 0 (facts.scope (Some (record { 0 = 0 })) (kind.Class (record { 0 = 0 }))) ∷ here 1 (facts.object (array_of (pointer_to (fundamental base.Float)) (number_bound 3)) member.Nonstatic false None None) ∷ here 1 (facts.function (function_of (fundamental base.Void) no_types false no_words) member.Nonstatic virtual_flags 0 None) ∷ here 0 (facts.complete (record { 0 = 0 })) ∷ here 0 (facts.class (record { 0 = 1 }) true) ∷ here 0 (facts.scope (Some (record { 0 = 0 })) (kind.Class (record { 0 = 1 }))) ∷ here 0 (facts.complete (record { 0 = 1 })) ∷ []) 1 1
unfolding object_extent extent_of enumerations_in layouts_of class_extent member_extent added
layout_49 = refl

-- union K0 { unsigned m0[3]; }; struct K1 { char m0[4]; long *m1[2]; virtual void f(); };
layout_50 : HasExtent 1 (here 0 (facts.scope None kind.Space) ∷ here 0 (facts.class (record { 0 = 0 }) true) ∷ here 0 (facts.scope (Some (record { 0 = 0 })) (kind.Class (record { 0 = 0 }))) ∷ here 1 (facts.object (array_of (fundamental base.Unsigned) (number_bound 3)) member.Nonstatic false None None) ∷ here 0 (facts.complete (record { 0 = 0 })) ∷ here 0 (facts.class (record { 0 = 1 }) false) ∷ here 0 (facts.scope (Some (record { 0 = 0 })) (kind.Class (record { 0 = 1 }))) ∷ here 2 (facts.object (array_of (fundamental base.Char) (number_bound 4)) member.Nonstatic false None None) ∷ here 2 (facts.object (array_of (pointer_to (fundamental base.Long)) (number_bound 2)) member.Nonstatic false None None) ∷ here 2 (facts.function (function_of (fundamental base.Void) no_types false no_words) member.Nonstatic virtual_flags 0 None) ∷ here 0 (facts.complete (record { 0 = 1 })) ∷ []) 32 8
unfolding object_extent extent_of enumerations_in layouts_of class_extent member_extent added
layout_50 = refl

-- union K0 { unsigned *m0[3]; }; union K1 { bool m0; }; struct K2 { bool m0; };
layout_51 : HasExtent 2 (here 0 (facts.scope None kind.Space) ∷ here 0 (facts.class (record { 0 = 0 }) true) ∷ here 0 (facts.scope (Some (record { 0 = 0 })) (kind.Class (record { 0 = 0 }))) ∷ here 1 (facts.object (array_of (pointer_to (fundamental base.Unsigned)) (number_bound 3)) member.Nonstatic false None None) ∷ here 0 (facts.complete (record { 0 = 0 })) ∷ here 0 (facts.class (record { 0 = 1 }) true) ∷ here 0 (facts.scope (Some (record { 0 = 0 })) (kind.Class (record { 0 = 1 }))) ∷ here 2 (facts.object (fundamental base.Bool) member.Nonstatic false None None) ∷ here 0 (facts.complete (record { 0 = 1 })) ∷ here 0 (facts.class (record { 0 = 2 }) false) ∷ here 0 (facts.scope (Some (record { 0 = 0 })) (kind.Class (record { 0 = 2 }))) ∷ here 3 (facts.object (fundamental base.Bool) member.Nonstatic false None None) ∷ here 0 (facts.complete (record { 0 = 2 })) ∷ []) 1 1
unfolding object_extent extent_of enumerations_in layouts_of class_extent member_extent added
layout_51 = refl

-- struct K0 { char *m0[3]; char m1; }; struct K1 { int m0; long m1; unsigned m2; K0 m3[2]; };
layout_52 : HasExtent 1 (here 0 (facts.scope None kind.Space) ∷ here 0 (facts.class (record { 0 = 0 }) false) ∷ here 0 (facts.scope (Some (record { 0 = 0 })) (kind.Class (record { 0 = 0 }))) ∷ here 1 (facts.object (array_of (pointer_to (fundamental base.Char)) (number_bound 3)) member.Nonstatic false None None) ∷ here 1 (facts.object (fundamental base.Char) member.Nonstatic false None None) ∷ here 0 (facts.complete (record { 0 = 0 })) ∷ here 0 (facts.class (record { 0 = 1 }) false) ∷ here 0 (facts.scope (Some (record { 0 = 0 })) (kind.Class (record { 0 = 1 }))) ∷ here 2 (facts.object (fundamental base.Int) member.Nonstatic false None None) ∷ here 2 (facts.object (fundamental base.Long) member.Nonstatic false None None) ∷ here 2 (facts.object (fundamental base.Unsigned) member.Nonstatic false None None) ∷ here 2 (facts.object (array_of (class_type 0) (number_bound 2)) member.Nonstatic false None None) ∷ here 0 (facts.complete (record { 0 = 1 })) ∷ []) 88 8
unfolding object_extent extent_of enumerations_in layouts_of class_extent member_extent added
layout_52 = refl

-- union K0 { double *m0; int m1; int m2; char m3; }; struct K1 {  int &r; };
layout_53 : HasExtent 1 (here 0 (facts.scope None kind.Space) ∷ here 0 (facts.class (record { 0 = 0 }) true) ∷ here 0 (facts.scope (Some (record { 0 = 0 })) (kind.Class (record { 0 = 0 }))) ∷ here 1 (facts.object (pointer_to (fundamental base.Double)) member.Nonstatic false None None) ∷ here 1 (facts.object (fundamental base.Int) member.Nonstatic false None None) ∷ here 1 (facts.object (fundamental base.Int) member.Nonstatic false None None) ∷ here 1 (facts.object (fundamental base.Char) member.Nonstatic false None None) ∷ here 0 (facts.complete (record { 0 = 0 })) ∷ here 0 (facts.class (record { 0 = 1 }) false) ∷ here 0 (facts.scope (Some (record { 0 = 0 })) (kind.Class (record { 0 = 1 }))) ∷ here 2 (facts.object (reference_to (fundamental base.Int)) member.Nonstatic false None None) ∷ here 0 (facts.complete (record { 0 = 1 })) ∷ []) 8 8
unfolding object_extent extent_of enumerations_in layouts_of class_extent member_extent added
layout_53 = refl

-- struct K0 { float *m0[3]; }; struct K1 {  };
layout_54 : HasExtent 1 (here 0 (facts.scope None kind.Space) ∷ here 0 (facts.class (record { 0 = 0 }) false) ∷ here 0 (facts.scope (Some (record { 0 = 0 })) (kind.Class (record { 0 = 0 }))) ∷ here 1 (facts.object (array_of (pointer_to (fundamental base.Float)) (number_bound 3)) member.Nonstatic false None None) ∷ here 0 (facts.complete (record { 0 = 0 })) ∷ here 0 (facts.class (record { 0 = 1 }) false) ∷ here 0 (facts.scope (Some (record { 0 = 0 })) (kind.Class (record { 0 = 1 }))) ∷ here 0 (facts.complete (record { 0 = 1 })) ∷ []) 1 1
unfolding object_extent extent_of enumerations_in layouts_of class_extent member_extent added
layout_54 = refl

-- struct K0 { unsigned m0; char m1; short *m2[3]; };
layout_55 : HasExtent 0 (here 0 (facts.scope None kind.Space) ∷ here 0 (facts.class (record { 0 = 0 }) false) ∷ here 0 (facts.scope (Some (record { 0 = 0 })) (kind.Class (record { 0 = 0 }))) ∷ here 1 (facts.object (fundamental base.Unsigned) member.Nonstatic false None None) ∷ here 1 (facts.object (fundamental base.Char) member.Nonstatic false None None) ∷ here 1 (facts.object (array_of (pointer_to (fundamental base.Short)) (number_bound 3)) member.Nonstatic false None None) ∷ here 0 (facts.complete (record { 0 = 0 })) ∷ []) 32 8
unfolding object_extent extent_of enumerations_in layouts_of class_extent member_extent added
layout_55 = refl

-- union K0 { wchar_t *m0[3]; wchar_t m1; long double *m2[3]; };
layout_56 : HasExtent 0 (here 0 (facts.scope None kind.Space) ∷ here 0 (facts.class (record { 0 = 0 }) true) ∷ here 0 (facts.scope (Some (record { 0 = 0 })) (kind.Class (record { 0 = 0 }))) ∷ here 1 (facts.object (array_of (pointer_to (fundamental base.WideChar)) (number_bound 3)) member.Nonstatic false None None) ∷ here 1 (facts.object (fundamental base.WideChar) member.Nonstatic false None None) ∷ here 1 (facts.object (array_of (pointer_to (fundamental base.LongDouble)) (number_bound 3)) member.Nonstatic false None None) ∷ here 0 (facts.complete (record { 0 = 0 })) ∷ []) 24 8
unfolding object_extent extent_of enumerations_in layouts_of class_extent member_extent added
layout_56 = refl

-- struct K0 { long double m0; int m1; float *m2; long m3; }; struct K1 {  int &r; virtual void f(); }; struct K2 {  virtual void f(); };
layout_57 : HasExtent 2 (here 0 (facts.scope None kind.Space) ∷ here 0 (facts.class (record { 0 = 0 }) false) ∷ here 0 (facts.scope (Some (record { 0 = 0 })) (kind.Class (record { 0 = 0 }))) ∷ here 1 (facts.object (fundamental base.LongDouble) member.Nonstatic false None None) ∷ here 1 (facts.object (fundamental base.Int) member.Nonstatic false None None) ∷ here 1 (facts.object (pointer_to (fundamental base.Float)) member.Nonstatic false None None) ∷ here 1 (facts.object (fundamental base.Long) member.Nonstatic false None None) ∷ here 0 (facts.complete (record { 0 = 0 })) ∷ here 0 (facts.class (record { 0 = 1 }) false) ∷ here 0 (facts.scope (Some (record { 0 = 0 })) (kind.Class (record { 0 = 1 }))) ∷ here 2 (facts.object (reference_to (fundamental base.Int)) member.Nonstatic false None None) ∷ here 2 (facts.function (function_of (fundamental base.Void) no_types false no_words) member.Nonstatic virtual_flags 0 None) ∷ here 0 (facts.complete (record { 0 = 1 })) ∷ here 0 (facts.class (record { 0 = 2 }) false) ∷ here 0 (facts.scope (Some (record { 0 = 0 })) (kind.Class (record { 0 = 2 }))) ∷ here 3 (facts.function (function_of (fundamental base.Void) no_types false no_words) member.Nonstatic virtual_flags 0 None) ∷ here 0 (facts.complete (record { 0 = 2 })) ∷ []) 8 8
unfolding object_extent extent_of enumerations_in layouts_of class_extent member_extent added
layout_57 = refl

-- struct K0 { char m0[2]; };
layout_58 : HasExtent 0 (here 0 (facts.scope None kind.Space) ∷ here 0 (facts.class (record { 0 = 0 }) false) ∷ here 0 (facts.scope (Some (record { 0 = 0 })) (kind.Class (record { 0 = 0 }))) ∷ here 1 (facts.object (array_of (fundamental base.Char) (number_bound 2)) member.Nonstatic false None None) ∷ here 0 (facts.complete (record { 0 = 0 })) ∷ []) 2 1
unfolding object_extent extent_of enumerations_in layouts_of class_extent member_extent added
layout_58 = refl

-- struct K0 { int m0; char m1; }; union K1 { bool m0; };
layout_59 : HasExtent 1 (here 0 (facts.scope None kind.Space) ∷ here 0 (facts.class (record { 0 = 0 }) false) ∷ here 0 (facts.scope (Some (record { 0 = 0 })) (kind.Class (record { 0 = 0 }))) ∷ here 1 (facts.object (fundamental base.Int) member.Nonstatic false None None) ∷ here 1 (facts.object (fundamental base.Char) member.Nonstatic false None None) ∷ here 0 (facts.complete (record { 0 = 0 })) ∷ here 0 (facts.class (record { 0 = 1 }) true) ∷ here 0 (facts.scope (Some (record { 0 = 0 })) (kind.Class (record { 0 = 1 }))) ∷ here 2 (facts.object (fundamental base.Bool) member.Nonstatic false None None) ∷ here 0 (facts.complete (record { 0 = 1 })) ∷ []) 1 1
unfolding object_extent extent_of enumerations_in layouts_of class_extent member_extent added
layout_59 = refl

-- struct K0 { double m0[3]; };
layout_60 : HasExtent 0 (here 0 (facts.scope None kind.Space) ∷ here 0 (facts.class (record { 0 = 0 }) false) ∷ here 0 (facts.scope (Some (record { 0 = 0 })) (kind.Class (record { 0 = 0 }))) ∷ here 1 (facts.object (array_of (fundamental base.Double) (number_bound 3)) member.Nonstatic false None None) ∷ here 0 (facts.complete (record { 0 = 0 })) ∷ []) 24 8
unfolding object_extent extent_of enumerations_in layouts_of class_extent member_extent added
layout_60 = refl

-- union K0 { short m0; unsigned *m1[2]; wchar_t *m2[2]; }; struct K1 { wchar_t m0; double m1[4]; double *m2[3]; virtual void f(); };
layout_61 : HasExtent 1 (here 0 (facts.scope None kind.Space) ∷ here 0 (facts.class (record { 0 = 0 }) true) ∷ here 0 (facts.scope (Some (record { 0 = 0 })) (kind.Class (record { 0 = 0 }))) ∷ here 1 (facts.object (fundamental base.Short) member.Nonstatic false None None) ∷ here 1 (facts.object (array_of (pointer_to (fundamental base.Unsigned)) (number_bound 2)) member.Nonstatic false None None) ∷ here 1 (facts.object (array_of (pointer_to (fundamental base.WideChar)) (number_bound 2)) member.Nonstatic false None None) ∷ here 0 (facts.complete (record { 0 = 0 })) ∷ here 0 (facts.class (record { 0 = 1 }) false) ∷ here 0 (facts.scope (Some (record { 0 = 0 })) (kind.Class (record { 0 = 1 }))) ∷ here 2 (facts.object (fundamental base.WideChar) member.Nonstatic false None None) ∷ here 2 (facts.object (array_of (fundamental base.Double) (number_bound 4)) member.Nonstatic false None None) ∷ here 2 (facts.object (array_of (pointer_to (fundamental base.Double)) (number_bound 3)) member.Nonstatic false None None) ∷ here 2 (facts.function (function_of (fundamental base.Void) no_types false no_words) member.Nonstatic virtual_flags 0 None) ∷ here 0 (facts.complete (record { 0 = 1 })) ∷ []) 72 8
unfolding object_extent extent_of enumerations_in layouts_of class_extent member_extent added
layout_61 = refl

-- struct K0 { long *m0[2]; char m1[3]; float m2; long double m3[4]; }; union K1 { float m0; short m1; short m2; float m3; };
layout_62 : HasExtent 1 (here 0 (facts.scope None kind.Space) ∷ here 0 (facts.class (record { 0 = 0 }) false) ∷ here 0 (facts.scope (Some (record { 0 = 0 })) (kind.Class (record { 0 = 0 }))) ∷ here 1 (facts.object (array_of (pointer_to (fundamental base.Long)) (number_bound 2)) member.Nonstatic false None None) ∷ here 1 (facts.object (array_of (fundamental base.Char) (number_bound 3)) member.Nonstatic false None None) ∷ here 1 (facts.object (fundamental base.Float) member.Nonstatic false None None) ∷ here 1 (facts.object (array_of (fundamental base.LongDouble) (number_bound 4)) member.Nonstatic false None None) ∷ here 0 (facts.complete (record { 0 = 0 })) ∷ here 0 (facts.class (record { 0 = 1 }) true) ∷ here 0 (facts.scope (Some (record { 0 = 0 })) (kind.Class (record { 0 = 1 }))) ∷ here 2 (facts.object (fundamental base.Float) member.Nonstatic false None None) ∷ here 2 (facts.object (fundamental base.Short) member.Nonstatic false None None) ∷ here 2 (facts.object (fundamental base.Short) member.Nonstatic false None None) ∷ here 2 (facts.object (fundamental base.Float) member.Nonstatic false None None) ∷ here 0 (facts.complete (record { 0 = 1 })) ∷ []) 4 4
unfolding object_extent extent_of enumerations_in layouts_of class_extent member_extent added
layout_62 = refl

-- union K0 { bool *m0; wchar_t m1; };
layout_63 : HasExtent 0 (here 0 (facts.scope None kind.Space) ∷ here 0 (facts.class (record { 0 = 0 }) true) ∷ here 0 (facts.scope (Some (record { 0 = 0 })) (kind.Class (record { 0 = 0 }))) ∷ here 1 (facts.object (pointer_to (fundamental base.Bool)) member.Nonstatic false None None) ∷ here 1 (facts.object (fundamental base.WideChar) member.Nonstatic false None None) ∷ here 0 (facts.complete (record { 0 = 0 })) ∷ []) 8 8
unfolding object_extent extent_of enumerations_in layouts_of class_extent member_extent added
layout_63 = refl

-- struct K0 { float m0; };
layout_64 : HasExtent 0 (here 0 (facts.scope None kind.Space) ∷ here 0 (facts.class (record { 0 = 0 }) false) ∷ here 0 (facts.scope (Some (record { 0 = 0 })) (kind.Class (record { 0 = 0 }))) ∷ here 1 (facts.object (fundamental base.Float) member.Nonstatic false None None) ∷ here 0 (facts.complete (record { 0 = 0 })) ∷ []) 4 4
unfolding object_extent extent_of enumerations_in layouts_of class_extent member_extent added
layout_64 = refl

-- struct K0 { long m0[4]; bool m1[4]; long double m2; int &r; }; struct K1 { long double *m0[2]; };
layout_65 : HasExtent 1 (here 0 (facts.scope None kind.Space) ∷ here 0 (facts.class (record { 0 = 0 }) false) ∷ here 0 (facts.scope (Some (record { 0 = 0 })) (kind.Class (record { 0 = 0 }))) ∷ here 1 (facts.object (array_of (fundamental base.Long) (number_bound 4)) member.Nonstatic false None None) ∷ here 1 (facts.object (array_of (fundamental base.Bool) (number_bound 4)) member.Nonstatic false None None) ∷ here 1 (facts.object (fundamental base.LongDouble) member.Nonstatic false None None) ∷ here 1 (facts.object (reference_to (fundamental base.Int)) member.Nonstatic false None None) ∷ here 0 (facts.complete (record { 0 = 0 })) ∷ here 0 (facts.class (record { 0 = 1 }) false) ∷ here 0 (facts.scope (Some (record { 0 = 0 })) (kind.Class (record { 0 = 1 }))) ∷ here 2 (facts.object (array_of (pointer_to (fundamental base.LongDouble)) (number_bound 2)) member.Nonstatic false None None) ∷ here 0 (facts.complete (record { 0 = 1 })) ∷ []) 16 8
unfolding object_extent extent_of enumerations_in layouts_of class_extent member_extent added
layout_65 = refl

-- struct K0 { float *m0; short m1; float m2; bool m3; }; struct K1 { K0 m0[2]; }; struct K2 { wchar_t m0; float m1; };
layout_66 : HasExtent 2 (here 0 (facts.scope None kind.Space) ∷ here 0 (facts.class (record { 0 = 0 }) false) ∷ here 0 (facts.scope (Some (record { 0 = 0 })) (kind.Class (record { 0 = 0 }))) ∷ here 1 (facts.object (pointer_to (fundamental base.Float)) member.Nonstatic false None None) ∷ here 1 (facts.object (fundamental base.Short) member.Nonstatic false None None) ∷ here 1 (facts.object (fundamental base.Float) member.Nonstatic false None None) ∷ here 1 (facts.object (fundamental base.Bool) member.Nonstatic false None None) ∷ here 0 (facts.complete (record { 0 = 0 })) ∷ here 0 (facts.class (record { 0 = 1 }) false) ∷ here 0 (facts.scope (Some (record { 0 = 0 })) (kind.Class (record { 0 = 1 }))) ∷ here 2 (facts.object (array_of (class_type 0) (number_bound 2)) member.Nonstatic false None None) ∷ here 0 (facts.complete (record { 0 = 1 })) ∷ here 0 (facts.class (record { 0 = 2 }) false) ∷ here 0 (facts.scope (Some (record { 0 = 0 })) (kind.Class (record { 0 = 2 }))) ∷ here 3 (facts.object (fundamental base.WideChar) member.Nonstatic false None None) ∷ here 3 (facts.object (fundamental base.Float) member.Nonstatic false None None) ∷ here 0 (facts.complete (record { 0 = 2 })) ∷ []) 8 4
unfolding object_extent extent_of enumerations_in layouts_of class_extent member_extent added
layout_66 = refl

-- struct K0 { short m0; short m1; };
layout_67 : HasExtent 0 (here 0 (facts.scope None kind.Space) ∷ here 0 (facts.class (record { 0 = 0 }) false) ∷ here 0 (facts.scope (Some (record { 0 = 0 })) (kind.Class (record { 0 = 0 }))) ∷ here 1 (facts.object (fundamental base.Short) member.Nonstatic false None None) ∷ here 1 (facts.object (fundamental base.Short) member.Nonstatic false None None) ∷ here 0 (facts.complete (record { 0 = 0 })) ∷ []) 4 2
unfolding object_extent extent_of enumerations_in layouts_of class_extent member_extent added
layout_67 = refl

-- struct K0 { bool *m0; int &r; }; struct K1 {  virtual void f(); };
layout_68 : HasExtent 1 (here 0 (facts.scope None kind.Space) ∷ here 0 (facts.class (record { 0 = 0 }) false) ∷ here 0 (facts.scope (Some (record { 0 = 0 })) (kind.Class (record { 0 = 0 }))) ∷ here 1 (facts.object (pointer_to (fundamental base.Bool)) member.Nonstatic false None None) ∷ here 1 (facts.object (reference_to (fundamental base.Int)) member.Nonstatic false None None) ∷ here 0 (facts.complete (record { 0 = 0 })) ∷ here 0 (facts.class (record { 0 = 1 }) false) ∷ here 0 (facts.scope (Some (record { 0 = 0 })) (kind.Class (record { 0 = 1 }))) ∷ here 2 (facts.function (function_of (fundamental base.Void) no_types false no_words) member.Nonstatic virtual_flags 0 None) ∷ here 0 (facts.complete (record { 0 = 1 })) ∷ []) 8 8
unfolding object_extent extent_of enumerations_in layouts_of class_extent member_extent added
layout_68 = refl

-- struct K0 { int m0; long *m1[2]; };
layout_69 : HasExtent 0 (here 0 (facts.scope None kind.Space) ∷ here 0 (facts.class (record { 0 = 0 }) false) ∷ here 0 (facts.scope (Some (record { 0 = 0 })) (kind.Class (record { 0 = 0 }))) ∷ here 1 (facts.object (fundamental base.Int) member.Nonstatic false None None) ∷ here 1 (facts.object (array_of (pointer_to (fundamental base.Long)) (number_bound 2)) member.Nonstatic false None None) ∷ here 0 (facts.complete (record { 0 = 0 })) ∷ []) 24 8
unfolding object_extent extent_of enumerations_in layouts_of class_extent member_extent added
layout_69 = refl

-- struct K0 {  };
layout_70 : HasExtent 0 (here 0 (facts.scope None kind.Space) ∷ here 0 (facts.class (record { 0 = 0 }) false) ∷ here 0 (facts.scope (Some (record { 0 = 0 })) (kind.Class (record { 0 = 0 }))) ∷ here 0 (facts.complete (record { 0 = 0 })) ∷ []) 1 1
unfolding object_extent extent_of enumerations_in layouts_of class_extent member_extent added
layout_70 = refl

-- struct K0 { unsigned m0; double m1[3]; long m2; unsigned m3; };
layout_71 : HasExtent 0 (here 0 (facts.scope None kind.Space) ∷ here 0 (facts.class (record { 0 = 0 }) false) ∷ here 0 (facts.scope (Some (record { 0 = 0 })) (kind.Class (record { 0 = 0 }))) ∷ here 1 (facts.object (fundamental base.Unsigned) member.Nonstatic false None None) ∷ here 1 (facts.object (array_of (fundamental base.Double) (number_bound 3)) member.Nonstatic false None None) ∷ here 1 (facts.object (fundamental base.Long) member.Nonstatic false None None) ∷ here 1 (facts.object (fundamental base.Unsigned) member.Nonstatic false None None) ∷ here 0 (facts.complete (record { 0 = 0 })) ∷ []) 48 8
unfolding object_extent extent_of enumerations_in layouts_of class_extent member_extent added
layout_71 = refl

-- struct K0 { double m0; }; union K1 { short *m0[2]; short m1; };
layout_72 : HasExtent 1 (here 0 (facts.scope None kind.Space) ∷ here 0 (facts.class (record { 0 = 0 }) false) ∷ here 0 (facts.scope (Some (record { 0 = 0 })) (kind.Class (record { 0 = 0 }))) ∷ here 1 (facts.object (fundamental base.Double) member.Nonstatic false None None) ∷ here 0 (facts.complete (record { 0 = 0 })) ∷ here 0 (facts.class (record { 0 = 1 }) true) ∷ here 0 (facts.scope (Some (record { 0 = 0 })) (kind.Class (record { 0 = 1 }))) ∷ here 2 (facts.object (array_of (pointer_to (fundamental base.Short)) (number_bound 2)) member.Nonstatic false None None) ∷ here 2 (facts.object (fundamental base.Short) member.Nonstatic false None None) ∷ here 0 (facts.complete (record { 0 = 1 })) ∷ []) 16 8
unfolding object_extent extent_of enumerations_in layouts_of class_extent member_extent added
layout_72 = refl

-- struct K0 { long m0; short m1; };
layout_73 : HasExtent 0 (here 0 (facts.scope None kind.Space) ∷ here 0 (facts.class (record { 0 = 0 }) false) ∷ here 0 (facts.scope (Some (record { 0 = 0 })) (kind.Class (record { 0 = 0 }))) ∷ here 1 (facts.object (fundamental base.Long) member.Nonstatic false None None) ∷ here 1 (facts.object (fundamental base.Short) member.Nonstatic false None None) ∷ here 0 (facts.complete (record { 0 = 0 })) ∷ []) 16 8
unfolding object_extent extent_of enumerations_in layouts_of class_extent member_extent added
layout_73 = refl
