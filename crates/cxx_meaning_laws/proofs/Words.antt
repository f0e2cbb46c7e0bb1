-- The cv words of types, and types with other words (3.9.3, 4.4).
use Rattle.std.specs.Prelude.{◌≡◌, Bool, true, false, ◌||◌, if◌then◌else◌, [], refl}
use Rattle.std.proofs.Common.{ap, sym, ◌∙◌}
use Rattle.cxx_model.specs.declared.types.Cv.{Cv}
use Rattle.cxx_model.specs.Types.Trees.{CxxType, fundamental, class_type, enumeration, pointer_to, reference_to, array_of, function_of, qualified, type_parameter, specialisation, nested_in, IsNormal, any_cv, layered, merged, takes_cv, unqualified, with_cv, without_levels}
use Rattle.cxx_meaning.specs.Conversions.Kinds.{kind_of, no_cv, cv_of, signature}

-- ---- words

abbrev words_of : Bool → Bool → Cv
words_of a b = record { is_const = a; is_volatile = b }

pub no_words : (cv : Cv) → any_cv cv ≡ false → cv ≡ no_cv
no_words cv = by cv.is_const cv.is_volatile
  where
    by : (a b : Bool) → (a || b) ≡ false → words_of a b ≡ no_cv
    by true b e = cc
    by false true e = cc
    by false false e = refl

pub or_none : (a : Bool) → (a || false) ≡ a
or_none true = refl
or_none false = refl

pub merged_none : (cv : Cv) → merged cv no_cv ≡ cv
merged_none cv = ap (λ a. words_of a (cv.is_volatile || false)) (or_none cv.is_const) ∙ ap (words_of cv.is_const) (or_none cv.is_volatile)

-- ---- a type with words besides its own

pub layered_same : {X : Type 0} (f : CxxType → X) (cv : Cv) (t : CxxType) → f (qualified cv t) ≡ f t → f (layered cv t) ≡ f t
layered_same {X} f cv t e = by (any_cv cv)
  where
    by : (b : Bool) → f (if b then qualified cv t else t) ≡ f t
    by true = e
    by false = refl

pub layered_words : (cv : Cv) (t : CxxType) → cv_of t ≡ no_cv → cv_of (layered cv t) ≡ cv
layered_words cv t bare = by (any_cv cv) refl
  where
    by : (b : Bool) → any_cv cv ≡ b → cv_of (if b then qualified cv t else t) ≡ cv
    by true e = refl
    by false e = bare ∙ sym (no_words cv e)

-- what takes a layer has no words
pub bare_words : (t : CxxType) → takes_cv t ≡ true → cv_of t ≡ no_cv
bare_words (fundamental of) e = refl
bare_words (class_type n) e = refl
bare_words (enumeration n) e = refl
bare_words (pointer_to t) e = refl
bare_words (reference_to t) e = cc
bare_words (array_of t bound) e = cc
bare_words (function_of r ts ellipsis cv) e = cc
bare_words (qualified cv t) e = cc
bare_words (type_parameter depth index) e = refl
bare_words (specialisation n given) e = refl
bare_words (nested_in t word) e = refl

pub bare_itself : (t : CxxType) → takes_cv t ≡ true → unqualified t ≡ t
bare_itself (fundamental of) e = refl
bare_itself (class_type n) e = refl
bare_itself (enumeration n) e = refl
bare_itself (pointer_to t) e = refl
bare_itself (reference_to t) e = cc
bare_itself (array_of t bound) e = cc
bare_itself (function_of r ts ellipsis cv) e = cc
bare_itself (qualified cv t) e = cc
bare_itself (type_parameter depth index) e = refl
bare_itself (specialisation n given) e = refl
bare_itself (nested_in t word) e = refl

pub bare_layered : (cv : Cv) (t : CxxType) → takes_cv t ≡ true → with_cv cv t ≡ layered cv t
bare_layered cv (fundamental of) e = refl
bare_layered cv (class_type n) e = refl
bare_layered cv (enumeration n) e = refl
bare_layered cv (pointer_to t) e = refl
bare_layered cv (reference_to t) e = cc
bare_layered cv (array_of t bound) e = cc
bare_layered cv (function_of r ts ellipsis own) e = cc
bare_layered cv (qualified own t) e = cc
bare_layered cv (type_parameter depth index) e = refl
bare_layered cv (specialisation n given) e = refl
bare_layered cv (nested_in t word) e = refl

pub kind_with : (cv : Cv) (t : CxxType) → kind_of (with_cv cv t) ≡ kind_of t
kind_with cv (fundamental of) = layered_same kind_of cv (fundamental of) refl
kind_with cv (class_type n) = layered_same kind_of cv (class_type n) refl
kind_with cv (enumeration n) = layered_same kind_of cv (enumeration n) refl
kind_with cv (pointer_to t) = layered_same kind_of cv (pointer_to t) refl
kind_with cv (reference_to t) = refl
kind_with cv (array_of t bound) = refl
kind_with cv (function_of r ts ellipsis own) = refl
kind_with cv (qualified own t) = layered_same kind_of (merged cv own) t refl
kind_with cv (type_parameter depth index) = layered_same kind_of cv (type_parameter depth index) refl
kind_with cv (specialisation n given) = layered_same kind_of cv (specialisation n given) refl
kind_with cv (nested_in t word) = layered_same kind_of cv (nested_in t word) refl

pub signature_with : (cv : Cv) (t : CxxType) → signature (with_cv cv t) ≡ signature t
signature_with cv (fundamental of) = layered_same signature cv (fundamental of) refl
signature_with cv (class_type n) = layered_same signature cv (class_type n) refl
signature_with cv (enumeration n) = layered_same signature cv (enumeration n) refl
signature_with cv (pointer_to t) = layered_same signature cv (pointer_to t) refl
signature_with cv (reference_to t) = refl
signature_with cv (array_of t bound) = refl
signature_with cv (function_of r ts ellipsis own) = refl
signature_with cv (qualified own t) = layered_same signature (merged cv own) t refl
signature_with cv (type_parameter depth index) = layered_same signature cv (type_parameter depth index) refl
signature_with cv (specialisation n given) = layered_same signature cv (specialisation n given) refl
signature_with cv (nested_in t word) = layered_same signature cv (nested_in t word) refl

pub unqualified_with : (cv : Cv) (t : CxxType) → IsNormal t → unqualified (with_cv cv t) ≡ unqualified t
unqualified_with cv (fundamental of) ok = layered_same unqualified cv (fundamental of) refl
unqualified_with cv (class_type n) ok = layered_same unqualified cv (class_type n) refl
unqualified_with cv (enumeration n) ok = layered_same unqualified cv (enumeration n) refl
unqualified_with cv (pointer_to t) ok = layered_same unqualified cv (pointer_to t) refl
unqualified_with cv (reference_to t) ok = refl
unqualified_with cv (array_of t bound) ok = ap (λ u. array_of u bound) (unqualified_with cv t ok.0)
unqualified_with cv (function_of r ts ellipsis own) ok = refl
unqualified_with cv (qualified own t) ok = layered_same unqualified (merged cv own) t (sym (bare_itself t ok.1)) ∙ bare_itself t ok.1
unqualified_with cv (type_parameter depth index) ok = layered_same unqualified cv (type_parameter depth index) refl
unqualified_with cv (specialisation n given) ok = layered_same unqualified cv (specialisation n given) refl
unqualified_with cv (nested_in t word) ok = layered_same unqualified cv (nested_in t word) refl

pub levels_with : (cv : Cv) (t : CxxType) → IsNormal t → without_levels (with_cv cv t) ≡ without_levels t
levels_with cv (fundamental of) ok = layered_same without_levels cv (fundamental of) refl
levels_with cv (class_type n) ok = layered_same without_levels cv (class_type n) refl
levels_with cv (enumeration n) ok = layered_same without_levels cv (enumeration n) refl
levels_with cv (pointer_to t) ok = layered_same without_levels cv (pointer_to t) refl
levels_with cv (reference_to t) ok = refl
levels_with cv (array_of t bound) ok = ap (λ u. array_of u bound) (unqualified_with cv t ok.0)
levels_with cv (function_of r ts ellipsis own) ok = refl
levels_with cv (qualified own t) ok = layered_same without_levels (merged cv own) t refl
levels_with cv (type_parameter depth index) ok = layered_same without_levels cv (type_parameter depth index) refl
levels_with cv (specialisation n given) ok = layered_same without_levels cv (specialisation n given) refl
levels_with cv (nested_in t word) ok = layered_same without_levels cv (nested_in t word) refl

-- ---- which types take words

-- 8.3.2, 8.3.4, 8.3.5: a reference and a function take none, and an array those that its element takes
abbrev pub takes_words : CxxType → Bool
takes_words (reference_to t) = false
takes_words (array_of t bound) = takes_words t
takes_words (function_of r ts ellipsis cv) = false
takes_words t = true

pub takes_bare : (t : CxxType) → takes_cv t ≡ true → takes_words t ≡ true
takes_bare (fundamental of) e = refl
takes_bare (class_type n) e = refl
takes_bare (enumeration n) e = refl
takes_bare (pointer_to t) e = refl
takes_bare (reference_to t) e = cc
takes_bare (array_of t bound) e = cc
takes_bare (function_of r ts ellipsis cv) e = cc
takes_bare (qualified cv t) e = cc
takes_bare (type_parameter depth index) e = refl
takes_bare (specialisation n given) e = refl
takes_bare (nested_in t word) e = refl

pub takes_unqualified : (t : CxxType) → IsNormal t → takes_words (unqualified t) ≡ takes_words t
takes_unqualified (array_of t bound) ok = takes_unqualified t ok.0
takes_unqualified (qualified cv t) ok = takes_bare t ok.1
takes_unqualified (fundamental of) ok = refl
takes_unqualified (class_type n) ok = refl
takes_unqualified (enumeration n) ok = refl
takes_unqualified (pointer_to t) ok = refl
takes_unqualified (reference_to t) ok = refl
takes_unqualified (function_of r ts ellipsis cv) ok = refl
takes_unqualified (type_parameter depth index) ok = refl
takes_unqualified (specialisation n given) ok = refl
takes_unqualified (nested_in t word) ok = refl

pub takes_levels : (t : CxxType) → IsNormal t → takes_words (without_levels t) ≡ takes_words t
takes_levels (array_of t bound) ok = takes_unqualified t ok.0
takes_levels (qualified cv t) ok = takes_levels t ok.2 ∙ takes_bare t ok.1
takes_levels (fundamental of) ok = refl
takes_levels (class_type n) ok = refl
takes_levels (enumeration n) ok = refl
takes_levels (pointer_to t) ok = refl
takes_levels (reference_to t) ok = refl
takes_levels (function_of r ts ellipsis cv) ok = refl
takes_levels (type_parameter depth index) ok = refl
takes_levels (specialisation n given) ok = refl
takes_levels (nested_in t word) ok = refl

-- what takes no words has none, and stands behind no `*`
pub none_taken : (t : CxxType) → takes_words t ≡ false → cv_of t ≡ no_cv
none_taken (reference_to t) e = refl
none_taken (array_of t bound) e = none_taken t e
none_taken (function_of r ts ellipsis cv) e = refl
none_taken (fundamental of) e = cc
none_taken (class_type n) e = cc
none_taken (enumeration n) e = cc
none_taken (pointer_to t) e = cc
none_taken (qualified cv t) e = cc
none_taken (type_parameter depth index) e = cc
none_taken (specialisation n given) e = cc
none_taken (nested_in t word) e = cc

pub none_behind : (t : CxxType) → takes_words t ≡ false → signature t ≡ []
none_behind (reference_to t) e = refl
none_behind (array_of t bound) e = refl
none_behind (function_of r ts ellipsis cv) e = refl
none_behind (fundamental of) e = cc
none_behind (class_type n) e = cc
none_behind (enumeration n) e = cc
none_behind (pointer_to t) e = cc
none_behind (qualified cv t) e = cc
none_behind (type_parameter depth index) e = cc
none_behind (specialisation n given) e = cc
none_behind (nested_in t word) e = cc

pub words_with : (cv : Cv) (t : CxxType) → IsNormal t → takes_words t ≡ true → cv_of (with_cv cv t) ≡ merged cv (cv_of t)
words_with cv (fundamental of) ok e = layered_words cv (fundamental of) refl ∙ sym (merged_none cv)
words_with cv (class_type n) ok e = layered_words cv (class_type n) refl ∙ sym (merged_none cv)
words_with cv (enumeration n) ok e = layered_words cv (enumeration n) refl ∙ sym (merged_none cv)
words_with cv (pointer_to t) ok e = layered_words cv (pointer_to t) refl ∙ sym (merged_none cv)
words_with cv (reference_to t) ok e = cc
words_with cv (array_of t bound) ok e = words_with cv t ok.0 e
words_with cv (function_of r ts ellipsis own) ok e = cc
words_with cv (qualified own t) ok e = layered_words (merged cv own) t (bare_words t ok.1)
words_with cv (type_parameter depth index) ok e = layered_words cv (type_parameter depth index) refl ∙ sym (merged_none cv)
words_with cv (specialisation n given) ok e = layered_words cv (specialisation n given) refl ∙ sym (merged_none cv)
words_with cv (nested_in t word) ok e = layered_words cv (nested_in t word) refl ∙ sym (merged_none cv)
