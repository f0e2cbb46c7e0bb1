-- The type to which two similar pointers are converted has the words of both (4.4, 5.9).
use Rattle.std.specs.Prelude.{ℕ, suc, ◌≡◌, Bool, true, false, ◌&&◌, ◌||◌, not, List, [], ◌∷◌, length, refl}
use Rattle.std.proofs.Common.{ap, sym, subst, ◌∙◌, arith}
use Rattle.cxx_model.specs.declared.types.Cv.{Cv}
use Rattle.cxx_model.specs.Types.Same.{same_cv}
use Rattle.cxx_model.specs.Types.Trees.{CxxType, fundamental, class_type, enumeration, pointer_to, reference_to, array_of, function_of, qualified, type_parameter, specialisation, nested_in, IsNormal, Similar, layered, merged, takes_cv, unqualified, with_cv, without_levels}
use Rattle.cxx_model.proofs.Equal.{both, join}
use Rattle.cxx_model.proofs.SameTypes.{cv_itself, cv_told, type_tells}
use Rattle.cxx_meaning.specs.Conversions.Kinds.{no_cv, cv_of, signature, is_cv_within}
use Rattle.cxx_meaning.specs.Conversions.Pointers.{const_if, joined, leveled}
use Rattle.cxx_meaning.specs.Conversions.Standard.{is_widened, may_widen}
use Rattle.cxx_meaning_laws.proofs.Words.{bare_itself, bare_layered, bare_words, layered_same, layered_words, none_behind, none_taken, takes_bare, takes_levels, takes_words, unqualified_with}

-- a type's own words, and those behind each `*`
abbrev pub all_words : CxxType → List Cv
all_words t = cv_of t ∷ signature t

-- ---- a similar type

unqualified_normal : (t : CxxType) → IsNormal t → IsNormal (unqualified t)
unqualified_normal (array_of t bound) ok = (unqualified_normal t ok.0, ok.1)
unqualified_normal (qualified cv t) ok = ok.2
unqualified_normal (fundamental of) ok = ok
unqualified_normal (class_type n) ok = ok
unqualified_normal (enumeration n) ok = ok
unqualified_normal (pointer_to t) ok = ok
unqualified_normal (reference_to t) ok = ok
unqualified_normal (function_of r ts ellipsis cv) ok = ok
unqualified_normal (type_parameter depth index) ok = ok
unqualified_normal (specialisation n given) ok = ok
unqualified_normal (nested_in t word) ok = ok

unqualified_twice : (t : CxxType) → IsNormal t → unqualified (unqualified t) ≡ unqualified t
unqualified_twice (array_of t bound) ok = ap (λ u. array_of u bound) (unqualified_twice t ok.0)
unqualified_twice (qualified cv t) ok = bare_itself t ok.1
unqualified_twice (fundamental of) ok = refl
unqualified_twice (class_type n) ok = refl
unqualified_twice (enumeration n) ok = refl
unqualified_twice (pointer_to t) ok = refl
unqualified_twice (reference_to t) ok = refl
unqualified_twice (function_of r ts ellipsis cv) ok = refl
unqualified_twice (type_parameter depth index) ok = refl
unqualified_twice (specialisation n given) ok = refl
unqualified_twice (nested_in t word) ok = refl

pub leveled_similar : (levels : List Cv) (t : CxxType) → IsNormal t → without_levels (leveled levels t) ≡ without_levels t
leveled_similar [] t ok = refl
leveled_similar (cv ∷ cvs) (pointer_to t) ok = layered_same without_levels cv (pointer_to (leveled cvs t)) refl ∙ ap pointer_to (leveled_similar cvs t ok)
leveled_similar (cv ∷ cvs) (qualified own t) ok = leveled_similar (cv ∷ cvs) t ok.2
leveled_similar (cv ∷ cvs) (array_of t bound) ok = ap (λ u. array_of u bound) (unqualified_with cv (unqualified t) (unqualified_normal t ok.0) ∙ unqualified_twice t ok.0)
leveled_similar (cv ∷ cvs) (fundamental of) ok = layered_same without_levels cv (fundamental of) refl
leveled_similar (cv ∷ cvs) (class_type n) ok = layered_same without_levels cv (class_type n) refl
leveled_similar (cv ∷ cvs) (enumeration n) ok = layered_same without_levels cv (enumeration n) refl
leveled_similar (cv ∷ cvs) (reference_to t) ok = refl
leveled_similar (cv ∷ cvs) (function_of r ts ellipsis own) ok = refl
leveled_similar (cv ∷ cvs) (type_parameter depth index) ok = layered_same without_levels cv (type_parameter depth index) refl
leveled_similar (cv ∷ cvs) (specialisation n given) ok = layered_same without_levels cv (specialisation n given) refl
leveled_similar (cv ∷ cvs) (nested_in t word) ok = layered_same without_levels cv (nested_in t word) refl

-- ---- its words

-- the type takes the words, or there are none
abbrev Fits : Cv → CxxType → Type 0
Fits cv t = takes_words t ≡ false → cv ≡ no_cv

words_taken : (cv : Cv) (t : CxxType) → takes_cv t ≡ true → cv_of (with_cv cv t) ≡ cv
words_taken cv t e = ap cv_of (bare_layered cv t e) ∙ layered_words cv t (bare_words t e)

words_put : (cv : Cv) (t : CxxType) → IsNormal t → Fits cv t → cv_of (with_cv cv (unqualified t)) ≡ cv
words_put cv (array_of t bound) ok fits = words_put cv t ok.0 fits
words_put cv (qualified own t) ok fits = words_taken cv t ok.1
words_put cv (fundamental of) ok fits = layered_words cv (fundamental of) refl
words_put cv (class_type n) ok fits = layered_words cv (class_type n) refl
words_put cv (enumeration n) ok fits = layered_words cv (enumeration n) refl
words_put cv (pointer_to t) ok fits = layered_words cv (pointer_to t) refl
words_put cv (reference_to t) ok fits = sym (fits refl)
words_put cv (function_of r ts ellipsis own) ok fits = sym (fits refl)
words_put cv (type_parameter depth index) ok fits = layered_words cv (type_parameter depth index) refl
words_put cv (specialisation n given) ok fits = layered_words cv (specialisation n given) refl
words_put cv (nested_in t word) ok fits = layered_words cv (nested_in t word) refl

-- the words of two similar types at the top, joined
abbrev pub top_of : CxxType → CxxType → Cv
top_of s t = const_if ((joined (signature s) (signature t)).adds) (merged (cv_of s) (cv_of t))

fits_none : (one two : Cv) (behind other : List Cv) → one ≡ no_cv → two ≡ no_cv → behind ≡ [] → const_if ((joined behind other).adds) (merged one two) ≡ no_cv
fits_none one two behind other e f g =
    ap (λ (cv : Cv). const_if ((joined behind other).adds) (merged cv two)) e ∙ ap (λ (cv : Cv). const_if ((joined behind other).adds) (merged no_cv cv)) f ∙ ap (λ (list : List Cv). const_if ((joined list other).adds) (merged no_cv no_cv)) g

fits_joined : (s t : CxxType) → IsNormal s → IsNormal t → Similar s t → Fits (top_of s t) s
fits_joined s t one two similar e =
    let other : takes_words t ≡ false = sym (takes_levels t two) ∙ ap takes_words (sym similar) ∙ takes_levels s one ∙ e in
    fits_none (cv_of s) (cv_of t) (signature s) (signature t) (none_taken s e) (none_taken t other) (none_behind s e)

-- what is similar to a pointer is one
record Pointing (of : CxxType) (t : CxxType) : Type 0 where
  pointee : CxxType
  words : signature t ≡ all_words pointee
  similar : without_levels pointee ≡ of
  normal : IsNormal pointee

pointing_to : (of t : CxxType) → IsNormal t → pointer_to of ≡ without_levels t → Pointing of t
pointing_to of (pointer_to t) ok e = record { pointee = t; words = refl; similar = (let is : of ≡ without_levels t = cc in sym is); normal = ok }
pointing_to of (qualified cv t) ok e = (let inner : Pointing of t = pointing_to of t ok.2 e in record { pointee = inner.pointee; words = inner.words; similar = inner.similar; normal = inner.normal })
pointing_to of (fundamental b) ok e = absurd cc
pointing_to of (class_type n) ok e = absurd cc
pointing_to of (enumeration n) ok e = absurd cc
pointing_to of (reference_to t) ok e = absurd cc
pointing_to of (array_of t bound) ok e = absurd cc
pointing_to of (function_of r ts ellipsis cv) ok e = absurd cc
pointing_to of (type_parameter depth index) ok e = absurd cc
pointing_to of (specialisation n given) ok e = absurd cc
pointing_to of (nested_in t word) ok e = absurd cc

abbrev inner : CxxType → CxxType → List Cv
inner s t = (joined (signature s) (signature t)).levels

flat_words : (cv : Cv) (t : CxxType) → signature t ≡ [] → cv_of t ≡ cv → all_words t ≡ cv ∷ []
flat_words cv t none is = ap (λ (list : List Cv). cv_of t ∷ list) none ∙ ap (λ (c : Cv). c ∷ []) is

leveled_words : (cv : Cv) (s t : CxxType) → IsNormal s → IsNormal t → Similar s t → Fits cv s → all_words (leveled (cv ∷ inner s t) s) ≡ cv ∷ inner s t
leveled_words cv (pointer_to s) t one two similar fits =
    let behind : Pointing (without_levels s) t = pointing_to (without_levels s) t two similar in
    let u : CxxType = behind.pointee in
    let same : Similar s u = sym behind.similar in
    let deeper : all_words (leveled (top_of s u ∷ inner s u) s) ≡ top_of s u ∷ inner s u = leveled_words (top_of s u) s u one behind.normal same (fits_joined s u one behind.normal same) in
    let P : List Cv → Type 0 = λ (list : List Cv). all_words (leveled (cv ∷ (joined (all_words s) list).levels) (pointer_to s)) ≡ cv ∷ (joined (all_words s) list).levels in
    let x : CxxType = leveled (top_of s u ∷ inner s u) s in
    let top : cv_of (layered cv (pointer_to x)) ≡ cv = layered_words cv (pointer_to x) refl in
    let rest : signature (layered cv (pointer_to x)) ≡ all_words x = layered_same signature cv (pointer_to x) refl in
    let here : P (all_words u) = ap (λ (list : List Cv). cv_of (layered cv (pointer_to x)) ∷ list) (rest ∙ deeper) ∙ ap (λ (c : Cv). c ∷ top_of s u ∷ inner s u) top in
    subst P (sym behind.words) here
leveled_words cv (qualified own s) t one two similar fits = leveled_words cv s t one.2 two similar (λ e. absurd (let taken : takes_words s ≡ true = takes_bare s one.1 in cc))
leveled_words cv (array_of s bound) t one two similar fits = flat_words cv (with_cv cv (unqualified (array_of s bound))) refl (words_put cv s one.0 fits)
leveled_words cv (fundamental of) t one two similar fits = flat_words cv (layered cv (fundamental of)) (layered_same signature cv (fundamental of) refl) (layered_words cv (fundamental of) refl)
leveled_words cv (class_type n) t one two similar fits = flat_words cv (layered cv (class_type n)) (layered_same signature cv (class_type n) refl) (layered_words cv (class_type n) refl)
leveled_words cv (enumeration n) t one two similar fits = flat_words cv (layered cv (enumeration n)) (layered_same signature cv (enumeration n) refl) (layered_words cv (enumeration n) refl)
leveled_words cv (reference_to s) t one two similar fits = flat_words cv (reference_to s) refl (sym (fits refl))
leveled_words cv (function_of r ts ellipsis own) t one two similar fits = flat_words cv (function_of r ts ellipsis own) refl (sym (fits refl))
leveled_words cv (type_parameter depth index) t one two similar fits = flat_words cv (layered cv (type_parameter depth index)) (layered_same signature cv (type_parameter depth index) refl) (layered_words cv (type_parameter depth index) refl)
leveled_words cv (specialisation n given) t one two similar fits = flat_words cv (layered cv (specialisation n given)) (layered_same signature cv (specialisation n given) refl) (layered_words cv (specialisation n given) refl)
leveled_words cv (nested_in s word) t one two similar fits = flat_words cv (layered cv (nested_in s word)) (layered_same signature cv (nested_in s word) refl) (layered_words cv (nested_in s word) refl)

-- ---- each of two similar types becomes one with the words of both

within_one : (a c : Bool) → (not a || (a || c)) ≡ true
within_one true c = refl
within_one false c = refl

within_two : (a c : Bool) → (not c || (a || c)) ≡ true
within_two true true = refl
within_two false true = refl
within_two a false = refl

more : (a b c : Bool) → (not a || b) ≡ true → (not a || (b || c)) ≡ true
more true true c e = refl
more true false c e = cc
more false b c e = refl

pub within_merged : (one two : Cv) → is_cv_within one (merged one two) ≡ true
within_merged one two = join _ _ (within_one one.is_const two.is_const) (within_one one.is_volatile two.is_volatile)

pub within_other : (one two : Cv) → is_cv_within two (merged one two) ≡ true
within_other one two = join _ _ (within_two one.is_const two.is_const) (within_two one.is_volatile two.is_volatile)

within_const : (adds : Bool) (one two : Cv) → is_cv_within one two ≡ true → is_cv_within one (const_if adds two) ≡ true
within_const adds one two e =
    let halves : ((not one.is_const || two.is_const) ≡ true) × ((not one.is_volatile || two.is_volatile) ≡ true) = both _ _ e in
    join _ _ (more one.is_const two.is_const adds halves.0) halves.1

-- where `const` does not stand behind each `*` before, no word was added behind one
still_none : (above own adds same : Bool) → (above ≡ false → (adds || not same) ≡ false) → (above && (own || adds)) ≡ false → adds ≡ false
still_none above own false same none e = refl
still_none true true true same none e = cc
still_none true false true same none e = cc
still_none false own true same none e = (let wrong : true ≡ false = none refl in cc)

or_both : (a b : Bool) → (a || b) ≡ false → (a ≡ false) × (b ≡ false)
or_both true b e = cc
or_both false b e = (refl, e)

same_told : (a : Bool) → not a ≡ false → a ≡ true
same_told true e = refl
same_told false e = cc

or_same : (a : Bool) → (a || a) ≡ a
or_same true = refl
or_same false = refl

or_true : (a : Bool) → (a || true) ≡ true
or_true true = refl
or_true false = refl

const_same : (adds : Bool) (cv : Cv) → adds ≡ false → const_if adds (merged cv cv) ≡ cv
const_same adds cv e =
    let one : ((cv.is_const || cv.is_const) || adds) ≡ cv.is_const = ap (λ (b : Bool). (cv.is_const || cv.is_const) || b) e ∙ or_first cv.is_const in
    ap (λ (b : Bool). words b (cv.is_volatile || cv.is_volatile)) one ∙ ap (words cv.is_const) (or_same cv.is_volatile)
  where
    or_first : (a : Bool) → ((a || a) || false) ≡ a
    or_first true = refl
    or_first false = refl

    words : Bool → Bool → Cv
    words a b = record { is_const = a; is_volatile = b }

-- at one level, the words of either are kept, and one is added only where that may be
kept_level : (above : Bool) (one two : Cv) (adds : Bool) → (above ≡ false → (adds || not (same_cv one two)) ≡ false) → ((same_cv one (const_if adds (merged one two)) || above) ≡ true) × ((same_cv two (const_if adds (merged one two)) || above) ≡ true)
kept_level true one two adds none = (or_true (same_cv one (const_if adds (merged one two))), or_true (same_cv two (const_if adds (merged one two))))
kept_level false one two adds none =
    let halves : (adds ≡ false) × (not (same_cv one two) ≡ false) = or_both adds (not (same_cv one two)) (none refl) in
    let is : one ≡ two = cv_told one two (same_told (same_cv one two) halves.1) in
    let level : const_if adds (merged one two) ≡ one = ap (λ (cv : Cv). const_if adds (merged one cv)) (sym is) ∙ const_same adds one halves.0 in
    let first : same_cv one (const_if adds (merged one two)) ≡ true = ap (same_cv one) level ∙ cv_itself one in
    let other : same_cv two (const_if adds (merged one two)) ≡ true = ap (same_cv two) (level ∙ is) ∙ cv_itself two in
    (ap (λ (b : Bool). b || false) first, ap (λ (b : Bool). b || false) other)

kept : (above : Bool) (ones twos : List Cv) → length ones ≡ length twos → (above ≡ false → (joined ones twos).adds ≡ false) → (may_widen above ones (joined ones twos).levels ≡ true) × (may_widen above twos (joined ones twos).levels ≡ true)
kept above [] [] e none = (refl, refl)
kept above [] (two ∷ twos) e none = absurd (omega (arith, e))
kept above (one ∷ ones) [] e none = absurd (omega (arith, e))
kept above (one ∷ ones) (two ∷ twos) e none =
    let adds : Bool = (joined ones twos).adds in
    let level : Cv = const_if adds (merged one two) in
    let here : ((same_cv one level || above) ≡ true) × ((same_cv two level || above) ≡ true) = kept_level above one two adds none in
    let deeper : (may_widen (above && level.is_const) ones (joined ones twos).levels ≡ true) × (may_widen (above && level.is_const) twos (joined ones twos).levels ≡ true) =
    kept (above && level.is_const) ones twos (omega (arith, e)) (still_none above (one.is_const || two.is_const) adds (same_cv one two) none) in
    let first : is_cv_within one level ≡ true = within_const adds one (merged one two) (within_merged one two) in
    let other : is_cv_within two level ≡ true = within_const adds two (merged one two) (within_other one two) in
    (join _ _ first (join _ _ here.0 deeper.0), join _ _ other (join _ _ here.1 deeper.1))

-- ---- as many levels

levels_in : CxxType → ℕ
levels_in (pointer_to t) = suc (levels_in t)
levels_in (qualified cv t) = levels_in t
levels_in t = 0

levels_counted : (t : CxxType) → length (signature t) ≡ levels_in (without_levels t)
unfolding levels_in
levels_counted (pointer_to t) = ap suc (levels_counted t)
levels_counted (qualified cv t) = levels_counted t
levels_counted (fundamental of) = refl
levels_counted (class_type n) = refl
levels_counted (enumeration n) = refl
levels_counted (reference_to t) = refl
levels_counted (array_of t bound) = refl
levels_counted (function_of r ts ellipsis cv) = refl
levels_counted (type_parameter depth index) = refl
levels_counted (specialisation n given) = refl
levels_counted (nested_in t word) = refl

as_many : (s t : CxxType) → Similar s t → length (all_words s) ≡ length (all_words t)
as_many s t similar = (let same : length (signature s) ≡ length (signature t) = levels_counted s ∙ ap levels_in similar ∙ sym (levels_counted t) in omega (arith, same))

-- the type to which pointers to two similar types are converted
abbrev pub joined_type : CxxType → CxxType → CxxType
joined_type s t = leveled ((joined (all_words s) (all_words t)).levels) s

pub joined_widened : (s t : CxxType) → IsNormal s → IsNormal t → Similar s t → (is_widened s (joined_type s t) ≡ true) × (is_widened t (joined_type s t) ≡ true)
joined_widened s t one two similar =
    let levels : List Cv = (joined (all_words s) (all_words t)).levels in
    let like : without_levels (joined_type s t) ≡ without_levels s = leveled_similar levels s one in
    let words : all_words (joined_type s t) ≡ levels = leveled_words (top_of s t) s t one two similar (fits_joined s t one two similar) in
    let each : (may_widen true (all_words s) levels ≡ true) × (may_widen true (all_words t) levels ≡ true) = kept true (all_words s) (all_words t) (as_many s t similar) (λ e. absurd cc) in (
      join _ _ (type_tells (without_levels s) (without_levels (joined_type s t)) (sym like)) (ap (may_widen true (all_words s)) words ∙ each.0),
      join _ _ (type_tells (without_levels t) (without_levels (joined_type s t)) (sym similar ∙ sym like)) (ap (may_widen true (all_words t)) words ∙ each.1),
    )
