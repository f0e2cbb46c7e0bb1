-- Sizes and alignments of classes with bases, with what clang++ and g++ have where that is another: made by
-- bench/meanings/bases.py.
use Rattle.std.specs.Prelude.{ℕ, ◌≡◌, true, false, List, [], ◌∷◌, Option, Some, None, Ok, refl}
use Rattle.cxx_model.specs.declared.base.Base.TheVariants as base
use Rattle.cxx_model.specs.declared.facts.Access.TheVariants.{Public}
use Rattle.cxx_model.specs.declared.facts.FunctionFlags.{FunctionFlags}
use Rattle.cxx_model.specs.declared.facts.MemberKind.TheVariants as member
use Rattle.cxx_model.specs.declared.facts.ScopeKind.TheVariants as kind
use Rattle.cxx_model.specs.declared.types.Cv.{Cv}
use Rattle.cxx_model.specs.Facts.Declarations as facts
use Rattle.cxx_model.specs.Facts.Declarations.{CxxFact, CxxSpecialisation, Declares, unnamed}
use Rattle.cxx_model.specs.Types.Trees.{fundamental, class_type, function_of, no_types}
use Rattle.cxx_meaning.specs.Conversions.Sizes.{added, class_extent, enumerations_in, extent_of, layouts_of, member_extent, object_extent}

abbrev no_words : Cv
no_words = record { is_const = false; is_volatile = false }

abbrev virtual_flags : FunctionFlags
virtual_flags = record { is_virtual = true; is_pure = false; is_explicit = false; is_implicit = false }

abbrev here : ℕ → Declares → CxxFact
here scope what = record { place = record { line = 1; column = 1 }; scope = scope; name = unnamed; access = Public; what = what }

abbrev four : List (Option CxxSpecialisation)
four = None ∷ None ∷ None ∷ None ∷ []

abbrev HasExtent : ℕ → List CxxFact → ℕ → ℕ → Type 0
HasExtent class all size alignment = object_extent (record { facts = all; classes = four; patterns = [] }) (class_type class) ≡ Ok (record { size = size; alignment = alignment })

-- struct K0 { bool m0; unsigned m1; double m2; }; struct K1 : K0 { long double m0; int m1; }; struct K2 : K0 {  };
layout_1 : HasExtent 2 (here 0 (facts.scope None kind.Space) ∷ here 0 (facts.class (record { 0 = 0 }) false) ∷ here 0 (facts.scope (Some (record { 0 = 0 })) (kind.Class (record { 0 = 0 }))) ∷ here 1 (facts.object (fundamental base.Bool) member.Nonstatic false None None) ∷ here 1 (facts.object (fundamental base.Unsigned) member.Nonstatic false None None) ∷ here 1 (facts.object (fundamental base.Double) member.Nonstatic false None None) ∷ here 0 (facts.complete (record { 0 = 0 })) ∷ here 0 (facts.class (record { 0 = 1 }) false) ∷ here 0 (facts.scope (Some (record { 0 = 0 })) (kind.Class (record { 0 = 1 }))) ∷ here 2 (facts.ancestor (record { 0 = 1 }) (record { 0 = 0 }) 1 Public) ∷ here 2 (facts.object (fundamental base.LongDouble) member.Nonstatic false None None) ∷ here 2 (facts.object (fundamental base.Int) member.Nonstatic false None None) ∷ here 0 (facts.complete (record { 0 = 1 })) ∷ here 0 (facts.class (record { 0 = 2 }) false) ∷ here 0 (facts.scope (Some (record { 0 = 0 })) (kind.Class (record { 0 = 2 }))) ∷ here 3 (facts.ancestor (record { 0 = 2 }) (record { 0 = 0 }) 1 Public) ∷ here 0 (facts.complete (record { 0 = 2 })) ∷ []) 16 8
unfolding object_extent extent_of enumerations_in layouts_of class_extent member_extent added
layout_1 = refl

-- struct K0 {  }; struct K1 : K0 { wchar_t m0; int m1; char m2; }; (both compilers: 12)
layout_2 : HasExtent 1 (here 0 (facts.scope None kind.Space) ∷ here 0 (facts.class (record { 0 = 0 }) false) ∷ here 0 (facts.scope (Some (record { 0 = 0 })) (kind.Class (record { 0 = 0 }))) ∷ here 0 (facts.complete (record { 0 = 0 })) ∷ here 0 (facts.class (record { 0 = 1 }) false) ∷ here 0 (facts.scope (Some (record { 0 = 0 })) (kind.Class (record { 0 = 1 }))) ∷ here 2 (facts.ancestor (record { 0 = 1 }) (record { 0 = 0 }) 1 Public) ∷ here 2 (facts.object (fundamental base.WideChar) member.Nonstatic false None None) ∷ here 2 (facts.object (fundamental base.Int) member.Nonstatic false None None) ∷ here 2 (facts.object (fundamental base.Char) member.Nonstatic false None None) ∷ here 0 (facts.complete (record { 0 = 1 })) ∷ []) 16 4
unfolding object_extent extent_of enumerations_in layouts_of class_extent member_extent added
layout_2 = refl

-- struct K0 { virtual void f(); }; struct K1 : K0 { long double m0; int m1; };
layout_3 : HasExtent 1 (here 0 (facts.scope None kind.Space) ∷ here 0 (facts.class (record { 0 = 0 }) false) ∷ here 0 (facts.scope (Some (record { 0 = 0 })) (kind.Class (record { 0 = 0 }))) ∷ here 1 (facts.function (function_of (fundamental base.Void) no_types false no_words) member.Nonstatic virtual_flags 0 None) ∷ here 0 (facts.complete (record { 0 = 0 })) ∷ here 0 (facts.class (record { 0 = 1 }) false) ∷ here 0 (facts.scope (Some (record { 0 = 0 })) (kind.Class (record { 0 = 1 }))) ∷ here 2 (facts.ancestor (record { 0 = 1 }) (record { 0 = 0 }) 1 Public) ∷ here 2 (facts.object (fundamental base.LongDouble) member.Nonstatic false None None) ∷ here 2 (facts.object (fundamental base.Int) member.Nonstatic false None None) ∷ here 0 (facts.complete (record { 0 = 1 })) ∷ []) 48 16
unfolding object_extent extent_of enumerations_in layouts_of class_extent member_extent added
layout_3 = refl

-- struct K0 { long m0; }; struct K1 : K0 {  };
layout_4 : HasExtent 1 (here 0 (facts.scope None kind.Space) ∷ here 0 (facts.class (record { 0 = 0 }) false) ∷ here 0 (facts.scope (Some (record { 0 = 0 })) (kind.Class (record { 0 = 0 }))) ∷ here 1 (facts.object (fundamental base.Long) member.Nonstatic false None None) ∷ here 0 (facts.complete (record { 0 = 0 })) ∷ here 0 (facts.class (record { 0 = 1 }) false) ∷ here 0 (facts.scope (Some (record { 0 = 0 })) (kind.Class (record { 0 = 1 }))) ∷ here 2 (facts.ancestor (record { 0 = 1 }) (record { 0 = 0 }) 1 Public) ∷ here 0 (facts.complete (record { 0 = 1 })) ∷ []) 8 8
unfolding object_extent extent_of enumerations_in layouts_of class_extent member_extent added
layout_4 = refl

-- struct K0 {  }; struct K1 : K0 { virtual void f(); }; struct K2 : K1 {  }; struct K3 : K2 { double m0; double m1; char m2; virtual void f(); }; (both compilers: 32)
layout_5 : HasExtent 3 (here 0 (facts.scope None kind.Space) ∷ here 0 (facts.class (record { 0 = 0 }) false) ∷ here 0 (facts.scope (Some (record { 0 = 0 })) (kind.Class (record { 0 = 0 }))) ∷ here 0 (facts.complete (record { 0 = 0 })) ∷ here 0 (facts.class (record { 0 = 1 }) false) ∷ here 0 (facts.scope (Some (record { 0 = 0 })) (kind.Class (record { 0 = 1 }))) ∷ here 2 (facts.ancestor (record { 0 = 1 }) (record { 0 = 0 }) 1 Public) ∷ here 2 (facts.function (function_of (fundamental base.Void) no_types false no_words) member.Nonstatic virtual_flags 0 None) ∷ here 0 (facts.complete (record { 0 = 1 })) ∷ here 0 (facts.class (record { 0 = 2 }) false) ∷ here 0 (facts.scope (Some (record { 0 = 0 })) (kind.Class (record { 0 = 2 }))) ∷ here 3 (facts.ancestor (record { 0 = 2 }) (record { 0 = 1 }) 1 Public) ∷ here 0 (facts.complete (record { 0 = 2 })) ∷ here 0 (facts.class (record { 0 = 3 }) false) ∷ here 0 (facts.scope (Some (record { 0 = 0 })) (kind.Class (record { 0 = 3 }))) ∷ here 4 (facts.ancestor (record { 0 = 3 }) (record { 0 = 2 }) 1 Public) ∷ here 4 (facts.object (fundamental base.Double) member.Nonstatic false None None) ∷ here 4 (facts.object (fundamental base.Double) member.Nonstatic false None None) ∷ here 4 (facts.object (fundamental base.Char) member.Nonstatic false None None) ∷ here 4 (facts.function (function_of (fundamental base.Void) no_types false no_words) member.Nonstatic virtual_flags 0 None) ∷ here 0 (facts.complete (record { 0 = 3 })) ∷ []) 40 8
unfolding object_extent extent_of enumerations_in layouts_of class_extent member_extent added
layout_5 = refl

-- struct K0 {  }; struct K1 { float m0; }; struct K2 : K0 {  }; struct K3 : K0 { long m0; virtual void f(); }; (both compilers: 16)
layout_6 : HasExtent 3 (here 0 (facts.scope None kind.Space) ∷ here 0 (facts.class (record { 0 = 0 }) false) ∷ here 0 (facts.scope (Some (record { 0 = 0 })) (kind.Class (record { 0 = 0 }))) ∷ here 0 (facts.complete (record { 0 = 0 })) ∷ here 0 (facts.class (record { 0 = 1 }) false) ∷ here 0 (facts.scope (Some (record { 0 = 0 })) (kind.Class (record { 0 = 1 }))) ∷ here 2 (facts.object (fundamental base.Float) member.Nonstatic false None None) ∷ here 0 (facts.complete (record { 0 = 1 })) ∷ here 0 (facts.class (record { 0 = 2 }) false) ∷ here 0 (facts.scope (Some (record { 0 = 0 })) (kind.Class (record { 0 = 2 }))) ∷ here 3 (facts.ancestor (record { 0 = 2 }) (record { 0 = 0 }) 1 Public) ∷ here 0 (facts.complete (record { 0 = 2 })) ∷ here 0 (facts.class (record { 0 = 3 }) false) ∷ here 0 (facts.scope (Some (record { 0 = 0 })) (kind.Class (record { 0 = 3 }))) ∷ here 4 (facts.ancestor (record { 0 = 3 }) (record { 0 = 0 }) 1 Public) ∷ here 4 (facts.object (fundamental base.Long) member.Nonstatic false None None) ∷ here 4 (facts.function (function_of (fundamental base.Void) no_types false no_words) member.Nonstatic virtual_flags 0 None) ∷ here 0 (facts.complete (record { 0 = 3 })) ∷ []) 24 8
unfolding object_extent extent_of enumerations_in layouts_of class_extent member_extent added
layout_6 = refl

-- struct K0 { float m0; double m1; long double m2; virtual void f(); }; struct K1 : K0 {  }; struct K2 : K0 {  };
layout_7 : HasExtent 2 (here 0 (facts.scope None kind.Space) ∷ here 0 (facts.class (record { 0 = 0 }) false) ∷ here 0 (facts.scope (Some (record { 0 = 0 })) (kind.Class (record { 0 = 0 }))) ∷ here 1 (facts.object (fundamental base.Float) member.Nonstatic false None None) ∷ here 1 (facts.object (fundamental base.Double) member.Nonstatic false None None) ∷ here 1 (facts.object (fundamental base.LongDouble) member.Nonstatic false None None) ∷ here 1 (facts.function (function_of (fundamental base.Void) no_types false no_words) member.Nonstatic virtual_flags 0 None) ∷ here 0 (facts.complete (record { 0 = 0 })) ∷ here 0 (facts.class (record { 0 = 1 }) false) ∷ here 0 (facts.scope (Some (record { 0 = 0 })) (kind.Class (record { 0 = 1 }))) ∷ here 2 (facts.ancestor (record { 0 = 1 }) (record { 0 = 0 }) 1 Public) ∷ here 0 (facts.complete (record { 0 = 1 })) ∷ here 0 (facts.class (record { 0 = 2 }) false) ∷ here 0 (facts.scope (Some (record { 0 = 0 })) (kind.Class (record { 0 = 2 }))) ∷ here 3 (facts.ancestor (record { 0 = 2 }) (record { 0 = 0 }) 1 Public) ∷ here 0 (facts.complete (record { 0 = 2 })) ∷ []) 48 16
unfolding object_extent extent_of enumerations_in layouts_of class_extent member_extent added
layout_7 = refl

-- struct K0 { double m0; long m1; virtual void f(); }; struct K1 { float m0; unsigned m1; }; struct K2 : K0, K1 { float m0; };
layout_8 : HasExtent 2 (here 0 (facts.scope None kind.Space) ∷ here 0 (facts.class (record { 0 = 0 }) false) ∷ here 0 (facts.scope (Some (record { 0 = 0 })) (kind.Class (record { 0 = 0 }))) ∷ here 1 (facts.object (fundamental base.Double) member.Nonstatic false None None) ∷ here 1 (facts.object (fundamental base.Long) member.Nonstatic false None None) ∷ here 1 (facts.function (function_of (fundamental base.Void) no_types false no_words) member.Nonstatic virtual_flags 0 None) ∷ here 0 (facts.complete (record { 0 = 0 })) ∷ here 0 (facts.class (record { 0 = 1 }) false) ∷ here 0 (facts.scope (Some (record { 0 = 0 })) (kind.Class (record { 0 = 1 }))) ∷ here 2 (facts.object (fundamental base.Float) member.Nonstatic false None None) ∷ here 2 (facts.object (fundamental base.Unsigned) member.Nonstatic false None None) ∷ here 0 (facts.complete (record { 0 = 1 })) ∷ here 0 (facts.class (record { 0 = 2 }) false) ∷ here 0 (facts.scope (Some (record { 0 = 0 })) (kind.Class (record { 0 = 2 }))) ∷ here 3 (facts.ancestor (record { 0 = 2 }) (record { 0 = 0 }) 1 Public) ∷ here 3 (facts.ancestor (record { 0 = 2 }) (record { 0 = 1 }) 1 Public) ∷ here 3 (facts.object (fundamental base.Float) member.Nonstatic false None None) ∷ here 0 (facts.complete (record { 0 = 2 })) ∷ []) 40 8
unfolding object_extent extent_of enumerations_in layouts_of class_extent member_extent added
layout_8 = refl

-- struct K0 { short m0; int m1; }; struct K1 : K0 { char m0; }; struct K2 : K1 {  };
layout_9 : HasExtent 2 (here 0 (facts.scope None kind.Space) ∷ here 0 (facts.class (record { 0 = 0 }) false) ∷ here 0 (facts.scope (Some (record { 0 = 0 })) (kind.Class (record { 0 = 0 }))) ∷ here 1 (facts.object (fundamental base.Short) member.Nonstatic false None None) ∷ here 1 (facts.object (fundamental base.Int) member.Nonstatic false None None) ∷ here 0 (facts.complete (record { 0 = 0 })) ∷ here 0 (facts.class (record { 0 = 1 }) false) ∷ here 0 (facts.scope (Some (record { 0 = 0 })) (kind.Class (record { 0 = 1 }))) ∷ here 2 (facts.ancestor (record { 0 = 1 }) (record { 0 = 0 }) 1 Public) ∷ here 2 (facts.object (fundamental base.Char) member.Nonstatic false None None) ∷ here 0 (facts.complete (record { 0 = 1 })) ∷ here 0 (facts.class (record { 0 = 2 }) false) ∷ here 0 (facts.scope (Some (record { 0 = 0 })) (kind.Class (record { 0 = 2 }))) ∷ here 3 (facts.ancestor (record { 0 = 2 }) (record { 0 = 1 }) 1 Public) ∷ here 0 (facts.complete (record { 0 = 2 })) ∷ []) 12 4
unfolding object_extent extent_of enumerations_in layouts_of class_extent member_extent added
layout_9 = refl

-- struct K0 { unsigned m0; }; struct K1 : K0 { unsigned m0; float m1; wchar_t m2; };
layout_10 : HasExtent 1 (here 0 (facts.scope None kind.Space) ∷ here 0 (facts.class (record { 0 = 0 }) false) ∷ here 0 (facts.scope (Some (record { 0 = 0 })) (kind.Class (record { 0 = 0 }))) ∷ here 1 (facts.object (fundamental base.Unsigned) member.Nonstatic false None None) ∷ here 0 (facts.complete (record { 0 = 0 })) ∷ here 0 (facts.class (record { 0 = 1 }) false) ∷ here 0 (facts.scope (Some (record { 0 = 0 })) (kind.Class (record { 0 = 1 }))) ∷ here 2 (facts.ancestor (record { 0 = 1 }) (record { 0 = 0 }) 1 Public) ∷ here 2 (facts.object (fundamental base.Unsigned) member.Nonstatic false None None) ∷ here 2 (facts.object (fundamental base.Float) member.Nonstatic false None None) ∷ here 2 (facts.object (fundamental base.WideChar) member.Nonstatic false None None) ∷ here 0 (facts.complete (record { 0 = 1 })) ∷ []) 16 4
unfolding object_extent extent_of enumerations_in layouts_of class_extent member_extent added
layout_10 = refl

-- struct K0 { float m0; unsigned m1; wchar_t m2; }; struct K1 { unsigned m0; int m1; int m2; virtual void f(); }; struct K2 : K1 { long double m0; };
layout_11 : HasExtent 2 (here 0 (facts.scope None kind.Space) ∷ here 0 (facts.class (record { 0 = 0 }) false) ∷ here 0 (facts.scope (Some (record { 0 = 0 })) (kind.Class (record { 0 = 0 }))) ∷ here 1 (facts.object (fundamental base.Float) member.Nonstatic false None None) ∷ here 1 (facts.object (fundamental base.Unsigned) member.Nonstatic false None None) ∷ here 1 (facts.object (fundamental base.WideChar) member.Nonstatic false None None) ∷ here 0 (facts.complete (record { 0 = 0 })) ∷ here 0 (facts.class (record { 0 = 1 }) false) ∷ here 0 (facts.scope (Some (record { 0 = 0 })) (kind.Class (record { 0 = 1 }))) ∷ here 2 (facts.object (fundamental base.Unsigned) member.Nonstatic false None None) ∷ here 2 (facts.object (fundamental base.Int) member.Nonstatic false None None) ∷ here 2 (facts.object (fundamental base.Int) member.Nonstatic false None None) ∷ here 2 (facts.function (function_of (fundamental base.Void) no_types false no_words) member.Nonstatic virtual_flags 0 None) ∷ here 0 (facts.complete (record { 0 = 1 })) ∷ here 0 (facts.class (record { 0 = 2 }) false) ∷ here 0 (facts.scope (Some (record { 0 = 0 })) (kind.Class (record { 0 = 2 }))) ∷ here 3 (facts.ancestor (record { 0 = 2 }) (record { 0 = 1 }) 1 Public) ∷ here 3 (facts.object (fundamental base.LongDouble) member.Nonstatic false None None) ∷ here 0 (facts.complete (record { 0 = 2 })) ∷ []) 48 16
unfolding object_extent extent_of enumerations_in layouts_of class_extent member_extent added
layout_11 = refl

-- struct K0 { unsigned m0; long m1; unsigned m2; virtual void f(); }; struct K1 : K0 {  }; struct K2 : K1 { short m0; double m1; bool m2; virtual void f(); }; struct K3 : K0 { long m0; };
layout_12 : HasExtent 3 (here 0 (facts.scope None kind.Space) ∷ here 0 (facts.class (record { 0 = 0 }) false) ∷ here 0 (facts.scope (Some (record { 0 = 0 })) (kind.Class (record { 0 = 0 }))) ∷ here 1 (facts.object (fundamental base.Unsigned) member.Nonstatic false None None) ∷ here 1 (facts.object (fundamental base.Long) member.Nonstatic false None None) ∷ here 1 (facts.object (fundamental base.Unsigned) member.Nonstatic false None None) ∷ here 1 (facts.function (function_of (fundamental base.Void) no_types false no_words) member.Nonstatic virtual_flags 0 None) ∷ here 0 (facts.complete (record { 0 = 0 })) ∷ here 0 (facts.class (record { 0 = 1 }) false) ∷ here 0 (facts.scope (Some (record { 0 = 0 })) (kind.Class (record { 0 = 1 }))) ∷ here 2 (facts.ancestor (record { 0 = 1 }) (record { 0 = 0 }) 1 Public) ∷ here 0 (facts.complete (record { 0 = 1 })) ∷ here 0 (facts.class (record { 0 = 2 }) false) ∷ here 0 (facts.scope (Some (record { 0 = 0 })) (kind.Class (record { 0 = 2 }))) ∷ here 3 (facts.ancestor (record { 0 = 2 }) (record { 0 = 1 }) 1 Public) ∷ here 3 (facts.object (fundamental base.Short) member.Nonstatic false None None) ∷ here 3 (facts.object (fundamental base.Double) member.Nonstatic false None None) ∷ here 3 (facts.object (fundamental base.Bool) member.Nonstatic false None None) ∷ here 3 (facts.function (function_of (fundamental base.Void) no_types false no_words) member.Nonstatic virtual_flags 0 None) ∷ here 0 (facts.complete (record { 0 = 2 })) ∷ here 0 (facts.class (record { 0 = 3 }) false) ∷ here 0 (facts.scope (Some (record { 0 = 0 })) (kind.Class (record { 0 = 3 }))) ∷ here 4 (facts.ancestor (record { 0 = 3 }) (record { 0 = 0 }) 1 Public) ∷ here 4 (facts.object (fundamental base.Long) member.Nonstatic false None None) ∷ here 0 (facts.complete (record { 0 = 3 })) ∷ []) 40 8
unfolding object_extent extent_of enumerations_in layouts_of class_extent member_extent added
layout_12 = refl

-- struct K0 {  }; struct K1 : K0 { float m0; }; (both compilers: 4)
layout_13 : HasExtent 1 (here 0 (facts.scope None kind.Space) ∷ here 0 (facts.class (record { 0 = 0 }) false) ∷ here 0 (facts.scope (Some (record { 0 = 0 })) (kind.Class (record { 0 = 0 }))) ∷ here 0 (facts.complete (record { 0 = 0 })) ∷ here 0 (facts.class (record { 0 = 1 }) false) ∷ here 0 (facts.scope (Some (record { 0 = 0 })) (kind.Class (record { 0 = 1 }))) ∷ here 2 (facts.ancestor (record { 0 = 1 }) (record { 0 = 0 }) 1 Public) ∷ here 2 (facts.object (fundamental base.Float) member.Nonstatic false None None) ∷ here 0 (facts.complete (record { 0 = 1 })) ∷ []) 8 4
unfolding object_extent extent_of enumerations_in layouts_of class_extent member_extent added
layout_13 = refl

-- struct K0 {  }; struct K1 { wchar_t m0; }; struct K2 : K0 { char m0; unsigned m1; }; struct K3 : K0 { unsigned m0; bool m1; }; (both compilers: 8)
layout_14 : HasExtent 3 (here 0 (facts.scope None kind.Space) ∷ here 0 (facts.class (record { 0 = 0 }) false) ∷ here 0 (facts.scope (Some (record { 0 = 0 })) (kind.Class (record { 0 = 0 }))) ∷ here 0 (facts.complete (record { 0 = 0 })) ∷ here 0 (facts.class (record { 0 = 1 }) false) ∷ here 0 (facts.scope (Some (record { 0 = 0 })) (kind.Class (record { 0 = 1 }))) ∷ here 2 (facts.object (fundamental base.WideChar) member.Nonstatic false None None) ∷ here 0 (facts.complete (record { 0 = 1 })) ∷ here 0 (facts.class (record { 0 = 2 }) false) ∷ here 0 (facts.scope (Some (record { 0 = 0 })) (kind.Class (record { 0 = 2 }))) ∷ here 3 (facts.ancestor (record { 0 = 2 }) (record { 0 = 0 }) 1 Public) ∷ here 3 (facts.object (fundamental base.Char) member.Nonstatic false None None) ∷ here 3 (facts.object (fundamental base.Unsigned) member.Nonstatic false None None) ∷ here 0 (facts.complete (record { 0 = 2 })) ∷ here 0 (facts.class (record { 0 = 3 }) false) ∷ here 0 (facts.scope (Some (record { 0 = 0 })) (kind.Class (record { 0 = 3 }))) ∷ here 4 (facts.ancestor (record { 0 = 3 }) (record { 0 = 0 }) 1 Public) ∷ here 4 (facts.object (fundamental base.Unsigned) member.Nonstatic false None None) ∷ here 4 (facts.object (fundamental base.Bool) member.Nonstatic false None None) ∷ here 0 (facts.complete (record { 0 = 3 })) ∷ []) 12 4
unfolding object_extent extent_of enumerations_in layouts_of class_extent member_extent added
layout_14 = refl

-- struct K0 { unsigned m0; }; struct K1 { long double m0; short m1; virtual void f(); }; struct K2 : K0, K1 { long m0; }; struct K3 : K1, K0 { long m0; }; (both compilers: 48)
layout_15 : HasExtent 3 (here 0 (facts.scope None kind.Space) ∷ here 0 (facts.class (record { 0 = 0 }) false) ∷ here 0 (facts.scope (Some (record { 0 = 0 })) (kind.Class (record { 0 = 0 }))) ∷ here 1 (facts.object (fundamental base.Unsigned) member.Nonstatic false None None) ∷ here 0 (facts.complete (record { 0 = 0 })) ∷ here 0 (facts.class (record { 0 = 1 }) false) ∷ here 0 (facts.scope (Some (record { 0 = 0 })) (kind.Class (record { 0 = 1 }))) ∷ here 2 (facts.object (fundamental base.LongDouble) member.Nonstatic false None None) ∷ here 2 (facts.object (fundamental base.Short) member.Nonstatic false None None) ∷ here 2 (facts.function (function_of (fundamental base.Void) no_types false no_words) member.Nonstatic virtual_flags 0 None) ∷ here 0 (facts.complete (record { 0 = 1 })) ∷ here 0 (facts.class (record { 0 = 2 }) false) ∷ here 0 (facts.scope (Some (record { 0 = 0 })) (kind.Class (record { 0 = 2 }))) ∷ here 3 (facts.ancestor (record { 0 = 2 }) (record { 0 = 0 }) 1 Public) ∷ here 3 (facts.ancestor (record { 0 = 2 }) (record { 0 = 1 }) 1 Public) ∷ here 3 (facts.object (fundamental base.Long) member.Nonstatic false None None) ∷ here 0 (facts.complete (record { 0 = 2 })) ∷ here 0 (facts.class (record { 0 = 3 }) false) ∷ here 0 (facts.scope (Some (record { 0 = 0 })) (kind.Class (record { 0 = 3 }))) ∷ here 4 (facts.ancestor (record { 0 = 3 }) (record { 0 = 1 }) 1 Public) ∷ here 4 (facts.ancestor (record { 0 = 3 }) (record { 0 = 0 }) 1 Public) ∷ here 4 (facts.object (fundamental base.Long) member.Nonstatic false None None) ∷ here 0 (facts.complete (record { 0 = 3 })) ∷ []) 64 16
unfolding object_extent extent_of enumerations_in layouts_of class_extent member_extent added
layout_15 = refl

-- struct K0 { wchar_t m0; unsigned m1; float m2; }; struct K1 : K0 { bool m0; virtual void f(); };
layout_16 : HasExtent 1 (here 0 (facts.scope None kind.Space) ∷ here 0 (facts.class (record { 0 = 0 }) false) ∷ here 0 (facts.scope (Some (record { 0 = 0 })) (kind.Class (record { 0 = 0 }))) ∷ here 1 (facts.object (fundamental base.WideChar) member.Nonstatic false None None) ∷ here 1 (facts.object (fundamental base.Unsigned) member.Nonstatic false None None) ∷ here 1 (facts.object (fundamental base.Float) member.Nonstatic false None None) ∷ here 0 (facts.complete (record { 0 = 0 })) ∷ here 0 (facts.class (record { 0 = 1 }) false) ∷ here 0 (facts.scope (Some (record { 0 = 0 })) (kind.Class (record { 0 = 1 }))) ∷ here 2 (facts.ancestor (record { 0 = 1 }) (record { 0 = 0 }) 1 Public) ∷ here 2 (facts.object (fundamental base.Bool) member.Nonstatic false None None) ∷ here 2 (facts.function (function_of (fundamental base.Void) no_types false no_words) member.Nonstatic virtual_flags 0 None) ∷ here 0 (facts.complete (record { 0 = 1 })) ∷ []) 24 8
unfolding object_extent extent_of enumerations_in layouts_of class_extent member_extent added
layout_16 = refl

-- struct K0 { bool m0; }; struct K1 : K0 {  };
layout_17 : HasExtent 1 (here 0 (facts.scope None kind.Space) ∷ here 0 (facts.class (record { 0 = 0 }) false) ∷ here 0 (facts.scope (Some (record { 0 = 0 })) (kind.Class (record { 0 = 0 }))) ∷ here 1 (facts.object (fundamental base.Bool) member.Nonstatic false None None) ∷ here 0 (facts.complete (record { 0 = 0 })) ∷ here 0 (facts.class (record { 0 = 1 }) false) ∷ here 0 (facts.scope (Some (record { 0 = 0 })) (kind.Class (record { 0 = 1 }))) ∷ here 2 (facts.ancestor (record { 0 = 1 }) (record { 0 = 0 }) 1 Public) ∷ here 0 (facts.complete (record { 0 = 1 })) ∷ []) 1 1
unfolding object_extent extent_of enumerations_in layouts_of class_extent member_extent added
layout_17 = refl

-- struct K0 { virtual void f(); }; struct K1 : K0 { double m0; long m1; short m2; }; struct K2 : K1 {  };
layout_18 : HasExtent 2 (here 0 (facts.scope None kind.Space) ∷ here 0 (facts.class (record { 0 = 0 }) false) ∷ here 0 (facts.scope (Some (record { 0 = 0 })) (kind.Class (record { 0 = 0 }))) ∷ here 1 (facts.function (function_of (fundamental base.Void) no_types false no_words) member.Nonstatic virtual_flags 0 None) ∷ here 0 (facts.complete (record { 0 = 0 })) ∷ here 0 (facts.class (record { 0 = 1 }) false) ∷ here 0 (facts.scope (Some (record { 0 = 0 })) (kind.Class (record { 0 = 1 }))) ∷ here 2 (facts.ancestor (record { 0 = 1 }) (record { 0 = 0 }) 1 Public) ∷ here 2 (facts.object (fundamental base.Double) member.Nonstatic false None None) ∷ here 2 (facts.object (fundamental base.Long) member.Nonstatic false None None) ∷ here 2 (facts.object (fundamental base.Short) member.Nonstatic false None None) ∷ here 0 (facts.complete (record { 0 = 1 })) ∷ here 0 (facts.class (record { 0 = 2 }) false) ∷ here 0 (facts.scope (Some (record { 0 = 0 })) (kind.Class (record { 0 = 2 }))) ∷ here 3 (facts.ancestor (record { 0 = 2 }) (record { 0 = 1 }) 1 Public) ∷ here 0 (facts.complete (record { 0 = 2 })) ∷ []) 32 8
unfolding object_extent extent_of enumerations_in layouts_of class_extent member_extent added
layout_18 = refl

-- struct K0 {  }; struct K1 : K0 {  }; struct K2 : K0 { long double m0; wchar_t m1; virtual void f(); };
layout_19 : HasExtent 2 (here 0 (facts.scope None kind.Space) ∷ here 0 (facts.class (record { 0 = 0 }) false) ∷ here 0 (facts.scope (Some (record { 0 = 0 })) (kind.Class (record { 0 = 0 }))) ∷ here 0 (facts.complete (record { 0 = 0 })) ∷ here 0 (facts.class (record { 0 = 1 }) false) ∷ here 0 (facts.scope (Some (record { 0 = 0 })) (kind.Class (record { 0 = 1 }))) ∷ here 2 (facts.ancestor (record { 0 = 1 }) (record { 0 = 0 }) 1 Public) ∷ here 0 (facts.complete (record { 0 = 1 })) ∷ here 0 (facts.class (record { 0 = 2 }) false) ∷ here 0 (facts.scope (Some (record { 0 = 0 })) (kind.Class (record { 0 = 2 }))) ∷ here 3 (facts.ancestor (record { 0 = 2 }) (record { 0 = 0 }) 1 Public) ∷ here 3 (facts.object (fundamental base.LongDouble) member.Nonstatic false None None) ∷ here 3 (facts.object (fundamental base.WideChar) member.Nonstatic false None None) ∷ here 3 (facts.function (function_of (fundamental base.Void) no_types false no_words) member.Nonstatic virtual_flags 0 None) ∷ here 0 (facts.complete (record { 0 = 2 })) ∷ []) 48 16
unfolding object_extent extent_of enumerations_in layouts_of class_extent member_extent added
layout_19 = refl

-- struct K0 { int m0; }; struct K1 { float m0; virtual void f(); }; struct K2 : K1 { wchar_t m0; }; struct K3 : K2 {  }; (both compilers: 16)
layout_20 : HasExtent 3 (here 0 (facts.scope None kind.Space) ∷ here 0 (facts.class (record { 0 = 0 }) false) ∷ here 0 (facts.scope (Some (record { 0 = 0 })) (kind.Class (record { 0 = 0 }))) ∷ here 1 (facts.object (fundamental base.Int) member.Nonstatic false None None) ∷ here 0 (facts.complete (record { 0 = 0 })) ∷ here 0 (facts.class (record { 0 = 1 }) false) ∷ here 0 (facts.scope (Some (record { 0 = 0 })) (kind.Class (record { 0 = 1 }))) ∷ here 2 (facts.object (fundamental base.Float) member.Nonstatic false None None) ∷ here 2 (facts.function (function_of (fundamental base.Void) no_types false no_words) member.Nonstatic virtual_flags 0 None) ∷ here 0 (facts.complete (record { 0 = 1 })) ∷ here 0 (facts.class (record { 0 = 2 }) false) ∷ here 0 (facts.scope (Some (record { 0 = 0 })) (kind.Class (record { 0 = 2 }))) ∷ here 3 (facts.ancestor (record { 0 = 2 }) (record { 0 = 1 }) 1 Public) ∷ here 3 (facts.object (fundamental base.WideChar) member.Nonstatic false None None) ∷ here 0 (facts.complete (record { 0 = 2 })) ∷ here 0 (facts.class (record { 0 = 3 }) false) ∷ here 0 (facts.scope (Some (record { 0 = 0 })) (kind.Class (record { 0 = 3 }))) ∷ here 4 (facts.ancestor (record { 0 = 3 }) (record { 0 = 2 }) 1 Public) ∷ here 0 (facts.complete (record { 0 = 3 })) ∷ []) 24 8
unfolding object_extent extent_of enumerations_in layouts_of class_extent member_extent added
layout_20 = refl

-- struct K0 { double m0; }; struct K1 : K0 { float m0; };
layout_21 : HasExtent 1 (here 0 (facts.scope None kind.Space) ∷ here 0 (facts.class (record { 0 = 0 }) false) ∷ here 0 (facts.scope (Some (record { 0 = 0 })) (kind.Class (record { 0 = 0 }))) ∷ here 1 (facts.object (fundamental base.Double) member.Nonstatic false None None) ∷ here 0 (facts.complete (record { 0 = 0 })) ∷ here 0 (facts.class (record { 0 = 1 }) false) ∷ here 0 (facts.scope (Some (record { 0 = 0 })) (kind.Class (record { 0 = 1 }))) ∷ here 2 (facts.ancestor (record { 0 = 1 }) (record { 0 = 0 }) 1 Public) ∷ here 2 (facts.object (fundamental base.Float) member.Nonstatic false None None) ∷ here 0 (facts.complete (record { 0 = 1 })) ∷ []) 16 8
unfolding object_extent extent_of enumerations_in layouts_of class_extent member_extent added
layout_21 = refl

-- struct K0 {  }; struct K1 : K0 { wchar_t m0; wchar_t m1; virtual void f(); }; struct K2 {  }; struct K3 : K1 {  }; (both compilers: 16)
layout_22 : HasExtent 3 (here 0 (facts.scope None kind.Space) ∷ here 0 (facts.class (record { 0 = 0 }) false) ∷ here 0 (facts.scope (Some (record { 0 = 0 })) (kind.Class (record { 0 = 0 }))) ∷ here 0 (facts.complete (record { 0 = 0 })) ∷ here 0 (facts.class (record { 0 = 1 }) false) ∷ here 0 (facts.scope (Some (record { 0 = 0 })) (kind.Class (record { 0 = 1 }))) ∷ here 2 (facts.ancestor (record { 0 = 1 }) (record { 0 = 0 }) 1 Public) ∷ here 2 (facts.object (fundamental base.WideChar) member.Nonstatic false None None) ∷ here 2 (facts.object (fundamental base.WideChar) member.Nonstatic false None None) ∷ here 2 (facts.function (function_of (fundamental base.Void) no_types false no_words) member.Nonstatic virtual_flags 0 None) ∷ here 0 (facts.complete (record { 0 = 1 })) ∷ here 0 (facts.class (record { 0 = 2 }) false) ∷ here 0 (facts.scope (Some (record { 0 = 0 })) (kind.Class (record { 0 = 2 }))) ∷ here 0 (facts.complete (record { 0 = 2 })) ∷ here 0 (facts.class (record { 0 = 3 }) false) ∷ here 0 (facts.scope (Some (record { 0 = 0 })) (kind.Class (record { 0 = 3 }))) ∷ here 4 (facts.ancestor (record { 0 = 3 }) (record { 0 = 1 }) 1 Public) ∷ here 0 (facts.complete (record { 0 = 3 })) ∷ []) 24 8
unfolding object_extent extent_of enumerations_in layouts_of class_extent member_extent added
layout_22 = refl

-- struct K0 { long double m0; bool m1; }; struct K1 : K0 {  }; struct K2 : K0 { bool m0; double m1; int m2; virtual void f(); }; struct K3 : K2 { long m0; double m1; char m2; }; (both compilers: 96)
layout_23 : HasExtent 3 (here 0 (facts.scope None kind.Space) ∷ here 0 (facts.class (record { 0 = 0 }) false) ∷ here 0 (facts.scope (Some (record { 0 = 0 })) (kind.Class (record { 0 = 0 }))) ∷ here 1 (facts.object (fundamental base.LongDouble) member.Nonstatic false None None) ∷ here 1 (facts.object (fundamental base.Bool) member.Nonstatic false None None) ∷ here 0 (facts.complete (record { 0 = 0 })) ∷ here 0 (facts.class (record { 0 = 1 }) false) ∷ here 0 (facts.scope (Some (record { 0 = 0 })) (kind.Class (record { 0 = 1 }))) ∷ here 2 (facts.ancestor (record { 0 = 1 }) (record { 0 = 0 }) 1 Public) ∷ here 0 (facts.complete (record { 0 = 1 })) ∷ here 0 (facts.class (record { 0 = 2 }) false) ∷ here 0 (facts.scope (Some (record { 0 = 0 })) (kind.Class (record { 0 = 2 }))) ∷ here 3 (facts.ancestor (record { 0 = 2 }) (record { 0 = 0 }) 1 Public) ∷ here 3 (facts.object (fundamental base.Bool) member.Nonstatic false None None) ∷ here 3 (facts.object (fundamental base.Double) member.Nonstatic false None None) ∷ here 3 (facts.object (fundamental base.Int) member.Nonstatic false None None) ∷ here 3 (facts.function (function_of (fundamental base.Void) no_types false no_words) member.Nonstatic virtual_flags 0 None) ∷ here 0 (facts.complete (record { 0 = 2 })) ∷ here 0 (facts.class (record { 0 = 3 }) false) ∷ here 0 (facts.scope (Some (record { 0 = 0 })) (kind.Class (record { 0 = 3 }))) ∷ here 4 (facts.ancestor (record { 0 = 3 }) (record { 0 = 2 }) 1 Public) ∷ here 4 (facts.object (fundamental base.Long) member.Nonstatic false None None) ∷ here 4 (facts.object (fundamental base.Double) member.Nonstatic false None None) ∷ here 4 (facts.object (fundamental base.Char) member.Nonstatic false None None) ∷ here 0 (facts.complete (record { 0 = 3 })) ∷ []) 112 16
unfolding object_extent extent_of enumerations_in layouts_of class_extent member_extent added
layout_23 = refl

-- struct K0 { char m0; wchar_t m1; short m2; }; struct K1 : K0 { short m0; virtual void f(); };
layout_24 : HasExtent 1 (here 0 (facts.scope None kind.Space) ∷ here 0 (facts.class (record { 0 = 0 }) false) ∷ here 0 (facts.scope (Some (record { 0 = 0 })) (kind.Class (record { 0 = 0 }))) ∷ here 1 (facts.object (fundamental base.Char) member.Nonstatic false None None) ∷ here 1 (facts.object (fundamental base.WideChar) member.Nonstatic false None None) ∷ here 1 (facts.object (fundamental base.Short) member.Nonstatic false None None) ∷ here 0 (facts.complete (record { 0 = 0 })) ∷ here 0 (facts.class (record { 0 = 1 }) false) ∷ here 0 (facts.scope (Some (record { 0 = 0 })) (kind.Class (record { 0 = 1 }))) ∷ here 2 (facts.ancestor (record { 0 = 1 }) (record { 0 = 0 }) 1 Public) ∷ here 2 (facts.object (fundamental base.Short) member.Nonstatic false None None) ∷ here 2 (facts.function (function_of (fundamental base.Void) no_types false no_words) member.Nonstatic virtual_flags 0 None) ∷ here 0 (facts.complete (record { 0 = 1 })) ∷ []) 24 8
unfolding object_extent extent_of enumerations_in layouts_of class_extent member_extent added
layout_24 = refl

-- struct K0 { short m0; }; struct K1 : K0 {  };
layout_25 : HasExtent 1 (here 0 (facts.scope None kind.Space) ∷ here 0 (facts.class (record { 0 = 0 }) false) ∷ here 0 (facts.scope (Some (record { 0 = 0 })) (kind.Class (record { 0 = 0 }))) ∷ here 1 (facts.object (fundamental base.Short) member.Nonstatic false None None) ∷ here 0 (facts.complete (record { 0 = 0 })) ∷ here 0 (facts.class (record { 0 = 1 }) false) ∷ here 0 (facts.scope (Some (record { 0 = 0 })) (kind.Class (record { 0 = 1 }))) ∷ here 2 (facts.ancestor (record { 0 = 1 }) (record { 0 = 0 }) 1 Public) ∷ here 0 (facts.complete (record { 0 = 1 })) ∷ []) 2 2
unfolding object_extent extent_of enumerations_in layouts_of class_extent member_extent added
layout_25 = refl

-- struct K0 { int m0; }; struct K1 : K0 { long double m0; }; struct K2 : K1 { unsigned m0; char m1; unsigned m2; }; struct K3 : K0 { long m0; double m1; };
layout_26 : HasExtent 3 (here 0 (facts.scope None kind.Space) ∷ here 0 (facts.class (record { 0 = 0 }) false) ∷ here 0 (facts.scope (Some (record { 0 = 0 })) (kind.Class (record { 0 = 0 }))) ∷ here 1 (facts.object (fundamental base.Int) member.Nonstatic false None None) ∷ here 0 (facts.complete (record { 0 = 0 })) ∷ here 0 (facts.class (record { 0 = 1 }) false) ∷ here 0 (facts.scope (Some (record { 0 = 0 })) (kind.Class (record { 0 = 1 }))) ∷ here 2 (facts.ancestor (record { 0 = 1 }) (record { 0 = 0 }) 1 Public) ∷ here 2 (facts.object (fundamental base.LongDouble) member.Nonstatic false None None) ∷ here 0 (facts.complete (record { 0 = 1 })) ∷ here 0 (facts.class (record { 0 = 2 }) false) ∷ here 0 (facts.scope (Some (record { 0 = 0 })) (kind.Class (record { 0 = 2 }))) ∷ here 3 (facts.ancestor (record { 0 = 2 }) (record { 0 = 1 }) 1 Public) ∷ here 3 (facts.object (fundamental base.Unsigned) member.Nonstatic false None None) ∷ here 3 (facts.object (fundamental base.Char) member.Nonstatic false None None) ∷ here 3 (facts.object (fundamental base.Unsigned) member.Nonstatic false None None) ∷ here 0 (facts.complete (record { 0 = 2 })) ∷ here 0 (facts.class (record { 0 = 3 }) false) ∷ here 0 (facts.scope (Some (record { 0 = 0 })) (kind.Class (record { 0 = 3 }))) ∷ here 4 (facts.ancestor (record { 0 = 3 }) (record { 0 = 0 }) 1 Public) ∷ here 4 (facts.object (fundamental base.Long) member.Nonstatic false None None) ∷ here 4 (facts.object (fundamental base.Double) member.Nonstatic false None None) ∷ here 0 (facts.complete (record { 0 = 3 })) ∷ []) 24 8
unfolding object_extent extent_of enumerations_in layouts_of class_extent member_extent added
layout_26 = refl

-- struct K0 {  }; struct K1 : K0 {  }; struct K2 : K0 { wchar_t m0; long m1; };
layout_27 : HasExtent 2 (here 0 (facts.scope None kind.Space) ∷ here 0 (facts.class (record { 0 = 0 }) false) ∷ here 0 (facts.scope (Some (record { 0 = 0 })) (kind.Class (record { 0 = 0 }))) ∷ here 0 (facts.complete (record { 0 = 0 })) ∷ here 0 (facts.class (record { 0 = 1 }) false) ∷ here 0 (facts.scope (Some (record { 0 = 0 })) (kind.Class (record { 0 = 1 }))) ∷ here 2 (facts.ancestor (record { 0 = 1 }) (record { 0 = 0 }) 1 Public) ∷ here 0 (facts.complete (record { 0 = 1 })) ∷ here 0 (facts.class (record { 0 = 2 }) false) ∷ here 0 (facts.scope (Some (record { 0 = 0 })) (kind.Class (record { 0 = 2 }))) ∷ here 3 (facts.ancestor (record { 0 = 2 }) (record { 0 = 0 }) 1 Public) ∷ here 3 (facts.object (fundamental base.WideChar) member.Nonstatic false None None) ∷ here 3 (facts.object (fundamental base.Long) member.Nonstatic false None None) ∷ here 0 (facts.complete (record { 0 = 2 })) ∷ []) 16 8
unfolding object_extent extent_of enumerations_in layouts_of class_extent member_extent added
layout_27 = refl

-- struct K0 { wchar_t m0; char m1; char m2; }; struct K1 : K0 {  }; struct K2 : K1 { unsigned m0; long m1; }; struct K3 : K1 { int m0; long double m1; char m2; };
layout_28 : HasExtent 3 (here 0 (facts.scope None kind.Space) ∷ here 0 (facts.class (record { 0 = 0 }) false) ∷ here 0 (facts.scope (Some (record { 0 = 0 })) (kind.Class (record { 0 = 0 }))) ∷ here 1 (facts.object (fundamental base.WideChar) member.Nonstatic false None None) ∷ here 1 (facts.object (fundamental base.Char) member.Nonstatic false None None) ∷ here 1 (facts.object (fundamental base.Char) member.Nonstatic false None None) ∷ here 0 (facts.complete (record { 0 = 0 })) ∷ here 0 (facts.class (record { 0 = 1 }) false) ∷ here 0 (facts.scope (Some (record { 0 = 0 })) (kind.Class (record { 0 = 1 }))) ∷ here 2 (facts.ancestor (record { 0 = 1 }) (record { 0 = 0 }) 1 Public) ∷ here 0 (facts.complete (record { 0 = 1 })) ∷ here 0 (facts.class (record { 0 = 2 }) false) ∷ here 0 (facts.scope (Some (record { 0 = 0 })) (kind.Class (record { 0 = 2 }))) ∷ here 3 (facts.ancestor (record { 0 = 2 }) (record { 0 = 1 }) 1 Public) ∷ here 3 (facts.object (fundamental base.Unsigned) member.Nonstatic false None None) ∷ here 3 (facts.object (fundamental base.Long) member.Nonstatic false None None) ∷ here 0 (facts.complete (record { 0 = 2 })) ∷ here 0 (facts.class (record { 0 = 3 }) false) ∷ here 0 (facts.scope (Some (record { 0 = 0 })) (kind.Class (record { 0 = 3 }))) ∷ here 4 (facts.ancestor (record { 0 = 3 }) (record { 0 = 1 }) 1 Public) ∷ here 4 (facts.object (fundamental base.Int) member.Nonstatic false None None) ∷ here 4 (facts.object (fundamental base.LongDouble) member.Nonstatic false None None) ∷ here 4 (facts.object (fundamental base.Char) member.Nonstatic false None None) ∷ here 0 (facts.complete (record { 0 = 3 })) ∷ []) 48 16
unfolding object_extent extent_of enumerations_in layouts_of class_extent member_extent added
layout_28 = refl

-- struct K0 { wchar_t m0; bool m1; virtual void f(); }; struct K1 : K0 { long m0; short m1; };
layout_29 : HasExtent 1 (here 0 (facts.scope None kind.Space) ∷ here 0 (facts.class (record { 0 = 0 }) false) ∷ here 0 (facts.scope (Some (record { 0 = 0 })) (kind.Class (record { 0 = 0 }))) ∷ here 1 (facts.object (fundamental base.WideChar) member.Nonstatic false None None) ∷ here 1 (facts.object (fundamental base.Bool) member.Nonstatic false None None) ∷ here 1 (facts.function (function_of (fundamental base.Void) no_types false no_words) member.Nonstatic virtual_flags 0 None) ∷ here 0 (facts.complete (record { 0 = 0 })) ∷ here 0 (facts.class (record { 0 = 1 }) false) ∷ here 0 (facts.scope (Some (record { 0 = 0 })) (kind.Class (record { 0 = 1 }))) ∷ here 2 (facts.ancestor (record { 0 = 1 }) (record { 0 = 0 }) 1 Public) ∷ here 2 (facts.object (fundamental base.Long) member.Nonstatic false None None) ∷ here 2 (facts.object (fundamental base.Short) member.Nonstatic false None None) ∷ here 0 (facts.complete (record { 0 = 1 })) ∷ []) 32 8
unfolding object_extent extent_of enumerations_in layouts_of class_extent member_extent added
layout_29 = refl

-- struct K0 {  }; struct K1 : K0 { unsigned m0; float m1; }; struct K2 : K0 { long double m0; }; (both compilers: 16)
layout_30 : HasExtent 2 (here 0 (facts.scope None kind.Space) ∷ here 0 (facts.class (record { 0 = 0 }) false) ∷ here 0 (facts.scope (Some (record { 0 = 0 })) (kind.Class (record { 0 = 0 }))) ∷ here 0 (facts.complete (record { 0 = 0 })) ∷ here 0 (facts.class (record { 0 = 1 }) false) ∷ here 0 (facts.scope (Some (record { 0 = 0 })) (kind.Class (record { 0 = 1 }))) ∷ here 2 (facts.ancestor (record { 0 = 1 }) (record { 0 = 0 }) 1 Public) ∷ here 2 (facts.object (fundamental base.Unsigned) member.Nonstatic false None None) ∷ here 2 (facts.object (fundamental base.Float) member.Nonstatic false None None) ∷ here 0 (facts.complete (record { 0 = 1 })) ∷ here 0 (facts.class (record { 0 = 2 }) false) ∷ here 0 (facts.scope (Some (record { 0 = 0 })) (kind.Class (record { 0 = 2 }))) ∷ here 3 (facts.ancestor (record { 0 = 2 }) (record { 0 = 0 }) 1 Public) ∷ here 3 (facts.object (fundamental base.LongDouble) member.Nonstatic false None None) ∷ here 0 (facts.complete (record { 0 = 2 })) ∷ []) 32 16
unfolding object_extent extent_of enumerations_in layouts_of class_extent member_extent added
layout_30 = refl
