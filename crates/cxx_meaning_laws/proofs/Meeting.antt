-- Pointers to two types are converted to their common type (4.4, 4.10, 5.9).
use Rattle.std.specs.Prelude.{ℕ, ◌≡◌, ◌⊎◌, Bool, true, false, ◌&&◌, ◌||◌, not, nat_eq, nat_lt, if◌then◌else◌, List, [], ◌∷◌, Option, Some, None, Ok, Err, refl}
use Rattle.std.proofs.Common.{ap, sym, ◌∙◌, inl, inr}
use Rattle.std.proofs.lemmas.Bool.{eqb-true}
use Rattle.cxx_model.specs.declared.base.Base.{Base}
use Rattle.cxx_model.specs.declared.base.Base.TheVariants as base
use Rattle.cxx_model.specs.declared.sequence.Second.TheVariants as second
use Rattle.cxx_model.specs.declared.types.ClassId.{ClassId}
use Rattle.cxx_model.specs.declared.types.Cv.{Cv}
use Rattle.cxx_model.specs.Facts.Declarations.{CxxGraph}
use Rattle.cxx_model.specs.Facts.Pending.{is_pending}
use Rattle.cxx_model.specs.Types.Same.{same_cv, same_type}
use Rattle.cxx_model.specs.Types.Trees.{CxxType, fundamental, class_type, enumeration, pointer_to, reference_to, array_of, function_of, qualified, type_parameter, specialisation, nested_in, IsNormal, merged, with_cv, without_levels}
use Rattle.cxx_model.proofs.Equal.{join}
use Rattle.cxx_model.proofs.SameTypes.{cv_itself, type_told, type_tells}
use Rattle.cxx_meaning.specs.declared.steps.SequenceSteps.{SequenceSteps}
use Rattle.cxx_meaning.specs.Conversions.Asking.{◌>>=◌}
use Rattle.cxx_meaning.specs.Conversions.Derived.{is_derived}
use Rattle.cxx_meaning.specs.Conversions.Kinds.{CxxKind, no_value, arithmetic, enumerated, pointing, of_class, other, kind_of, kind_of_base, cv_of, signature, is_cv_within, is_function, is_similar}
use Rattle.cxx_meaning.specs.Conversions.Pointers.{both_ready, common_class, common_other, common_pointer, common_similar, common_void, is_void}
use Rattle.cxx_meaning.specs.Conversions.Standard.{is_widened, may_widen, pointer_to_class, pointer_to_other, pointer_to_void, steps_by, steps_of_pointers, widens}
use Rattle.cxx_meaning_laws.proofs.Levels.{all_words, joined_type, joined_widened, within_merged, within_other}
use Rattle.cxx_meaning_laws.proofs.Words.{kind_with, levels_with, signature_with, takes_words, words_with}

-- a pointer to the one type is converted to a pointer to the other
abbrev pub IsStepped : CxxGraph → CxxType → CxxType → Type 0
IsStepped graph from to = (steps : SequenceSteps) × (steps_of_pointers graph from to ≡ Ok (Some steps))

-- pointers to the two are converted to a type of pointers
pub record Meets (graph : CxxGraph) (s t common : CxxType) : Type 0 where
  pub pointee : CxxType
  pub is : common ≡ pointer_to pointee
  pub one : IsStepped graph s pointee
  pub two : IsStepped graph t pointee

pub widened_steps : (graph : CxxGraph) (s t : CxxType) → is_widened s t ≡ true → steps_of_pointers graph s t ≡ Ok (Some (steps_by None (not (same_type s t))))
unfolding steps_of_pointers
widened_steps graph s t e = ap (λ (b : Bool). if b then Ok (Some (steps_by None (not (same_type s t)))) else pointer_to_other graph s t (kind_of s) (kind_of t)) e

pub widened_stepped : (graph : CxxGraph) (s t : CxxType) → is_widened s t ≡ true → IsStepped graph s t
widened_stepped graph s t e = (steps_by None (not (same_type s t)), widened_steps graph s t e)

other_stepped : (graph : CxxGraph) (s t : CxxType) (steps : SequenceSteps) → pointer_to_other graph s t (kind_of s) (kind_of t) ≡ Ok (Some steps) → IsStepped graph s t
unfolding steps_of_pointers
other_stepped graph s t steps e = by (is_widened s t)
  where
    by : (b : Bool) → (steps : SequenceSteps) × ((if b then Ok (Some (steps_by None (not (same_type s t)))) else pointer_to_other graph s t (kind_of s) (kind_of t)) ≡ Ok (Some steps))
    by true = (steps_by None (not (same_type s t)), refl)
    by false = (steps, e)

-- ---- a type with further words

within_itself : (cv : Cv) → is_cv_within cv cv ≡ true
within_itself cv = join _ _ (bit cv.is_const) (bit cv.is_volatile)
  where
    bit : (a : Bool) → (not a || a) ≡ true
    bit true = refl
    bit false = refl

left_true : (a : Bool) (b : Bool) → a ≡ true → (a || b) ≡ true
left_true true b e = refl
left_true false b e = cc

right_true : (a : Bool) → (a || true) ≡ true
right_true true = refl
right_true false = refl

kept_itself : (above : Bool) (words : List Cv) → may_widen above words words ≡ true
kept_itself above [] = refl
kept_itself above (cv ∷ cvs) = join _ _ (within_itself cv) (join _ _ (left_true (same_cv cv cv) above (cv_itself cv)) (kept_itself (above && cv.is_const) cvs))

pub itself_widened : (t : CxxType) → is_widened t t ≡ true
itself_widened t = join _ _ (type_tells (without_levels t) (without_levels t) refl) (kept_itself true (all_words t))

with_widened : (cv : Cv) (t : CxxType) → IsNormal t → takes_words t ≡ true → is_widened t (with_cv cv t) ≡ true
with_widened cv t ok takes =
    let own : Cv = cv_of t in
    let words : all_words (with_cv cv t) ≡ merged cv own ∷ signature t = ap (λ (list : List Cv). cv_of (with_cv cv t) ∷ list) (signature_with cv t) ∙ ap (λ (c : Cv). c ∷ signature t) (words_with cv t ok takes) in
    let top : is_cv_within own (merged cv own) ≡ true = within_other cv own in
    let kept : may_widen true (own ∷ signature t) (merged cv own ∷ signature t) ≡ true = join _ _ top (join _ _ (right_true (same_cv own (merged cv own))) (kept_itself (true && (merged cv own).is_const) (signature t))) in
    join _ _ (type_tells (without_levels t) (without_levels (with_cv cv t)) (sym (levels_with cv t ok))) (ap (may_widen true (all_words t)) words ∙ kept)

within_with : (cv : Cv) (t : CxxType) → IsNormal t → takes_words t ≡ true → is_cv_within cv (cv_of (with_cv cv t)) ≡ true
within_with cv t ok takes = ap (is_cv_within cv) (words_with cv t ok takes) ∙ within_merged cv (cv_of t)

-- what is of some kind takes words
kind_takes : (t : CxxType) → (kind_of t ≡ other → ⊥) → takes_words t ≡ true
kind_takes (reference_to t) some = absurd (some refl)
kind_takes (array_of t bound) some = absurd (some refl)
kind_takes (function_of r ts ellipsis cv) some = absurd (some refl)
kind_takes (fundamental of) some = refl
kind_takes (class_type n) some = refl
kind_takes (enumeration n) some = refl
kind_takes (pointer_to t) some = refl
kind_takes (qualified cv t) some = refl
kind_takes (type_parameter depth index) some = refl
kind_takes (specialisation n given) some = refl
kind_takes (nested_in t word) some = refl

-- ---- `void`

some_told : {A : Type 0} (x y : A) → Some x ≡ Some y → x ≡ y
some_told x y e = cc

of_void : (graph : CxxGraph) (s t : CxxType) (k : CxxKind) → pointer_to_other graph s t k no_value ≡ Ok (pointer_to_void s t)
unfolding pointer_to_other
of_void graph s t no_value = refl
of_void graph s t (arithmetic of) = refl
of_void graph s t (enumerated n) = refl
of_void graph s t (pointing u) = refl
of_void graph s t (of_class n) = refl
of_void graph s t other = refl

void_by : (f w : Bool) (steps : SequenceSteps) → f ≡ false → w ≡ true → (if not f && w then Some steps else None) ≡ Some steps
void_by true w steps e g = cc
void_by false true steps e g = refl
void_by false false steps e g = cc

to_void : (graph : CxxGraph) (s t : CxxType) → kind_of t ≡ no_value → is_function s ≡ false → is_cv_within (cv_of s) (cv_of t) ≡ true → IsStepped graph s t
to_void graph s t void object within =
    let steps : SequenceSteps = steps_by (Some second.Pointer) (widens s t) in
    other_stepped graph s t steps (ap (pointer_to_other graph s t (kind_of s)) void ∙ of_void graph s t (kind_of s) ∙ ap Ok (void_by (is_function s) (is_cv_within (cv_of s) (cv_of t)) steps object within))

-- a pointer to `void` with further words
void_meets : (graph : CxxGraph) (void of : CxxType) → IsNormal void → kind_of void ≡ no_value → is_function of ≡ false → IsStepped graph void (with_cv (cv_of of) void) × IsStepped graph of (with_cv (cv_of of) void)
void_meets graph void of ok kind object =
    let takes : takes_words void ≡ true = kind_takes void (λ e. absurd (let wrong : no_value ≡ other = sym kind ∙ e in cc)) in (
      widened_stepped graph void (with_cv (cv_of of) void) (with_widened (cv_of of) void ok takes),
      to_void graph of (with_cv (cv_of of) void) (kind_with (cv_of of) void ∙ kind) object (within_with (cv_of of) void ok takes),
    )

void_told : (k : CxxKind) → is_void k ≡ true → k ≡ no_value
void_told no_value e = refl
void_told (arithmetic of) e = cc
void_told (enumerated n) e = cc
void_told (pointing t) e = cc
void_told (of_class n) e = cc
void_told other e = cc

-- one of the two is `void`
HasVoid : CxxType → CxxType → Type 0
HasVoid s t = (kind_of s ≡ no_value) ⊎ (kind_of t ≡ no_value)

void_other : (s t : CxxType) → is_void (kind_of s) ≡ false → HasVoid s t → kind_of t ≡ no_value
unfolding HasVoid
void_other s t no-void (inl e) = absurd (let wrong : true ≡ false = sym (ap is_void e) ∙ no-void in cc)
void_other s t no-void (inr e) = e

void_common : (graph : CxxGraph) (s t common : CxxType) → IsNormal s → IsNormal t → HasVoid s t → common_void s t ≡ Some common → Meets graph s t common
void_common graph s t common one two void = by (is_function s) (is_function t) (is_void (kind_of s)) refl refl refl
  where
    by : (f g v : Bool) → is_function s ≡ f → is_function t ≡ g → is_void (kind_of s) ≡ v → (if f || g then None else (if v then Some (pointer_to (with_cv (cv_of t) s)) else Some (pointer_to (with_cv (cv_of s) t)))) ≡ Some common → Meets graph s t common
    by true g v function-s function-t kind e = absurd cc
    by false true v function-s function-t kind e = absurd cc
    by false false true function-s function-t kind e =
        let steps : IsStepped graph s (with_cv (cv_of t) s) × IsStepped graph t (with_cv (cv_of t) s) = void_meets graph s t one (void_told (kind_of s) kind) function-t in
        record { pointee = with_cv (cv_of t) s; is = sym (some_told _ _ e); one = steps.0; two = steps.1 }
    by false false false function-s function-t kind e =
        let steps : IsStepped graph t (with_cv (cv_of s) t) × IsStepped graph s (with_cv (cv_of s) t) = void_meets graph t s two (void_other s t kind void) function-s in
        record { pointee = with_cv (cv_of s) t; is = sym (some_told _ _ e); one = steps.1; two = steps.0 }

-- ---- classes

class_levels : (t : CxxType) (n : ℕ) → kind_of t ≡ of_class n → without_levels t ≡ class_type n
class_levels (class_type m) n e = (let same : m ≡ n = cc in ap class_type same)
class_levels (qualified cv t) n e = class_levels t n e
class_levels (fundamental of) n e = absurd (by of e)
  where
    by : (of : Base) → kind_of_base of ≡ of_class n → ⊥
    by base.Void e = cc
    by _ e = cc
class_levels (enumeration m) n e = absurd cc
class_levels (pointer_to t) n e = absurd cc
class_levels (reference_to t) n e = absurd cc
class_levels (array_of t bound) n e = absurd cc
class_levels (function_of r ts ellipsis cv) n e = absurd cc
class_levels (type_parameter depth index) n e = absurd cc
class_levels (specialisation m given) n e = absurd cc
class_levels (nested_in t word) n e = absurd cc

-- classes of two types that are not similar are two
other_class : (s t : CxxType) (m n : ℕ) → kind_of s ≡ of_class m → kind_of t ≡ of_class n → is_similar s t ≡ false → nat_eq m n ≡ false
other_class s t m n first last unlike = by (nat_eq m n) refl
  where
    by : (b : Bool) → nat_eq m n ≡ b → b ≡ false
    by false e = refl
    by true e =
        let same : m ≡ n = eqb-true m n e in
        let like : without_levels s ≡ without_levels t = class_levels s m first ∙ ap class_type same ∙ sym (class_levels t n last) in
        sym (type_tells (without_levels s) (without_levels t) like) ∙ unlike

class_by : (same within pending derived : Bool) (class : ClassId) (steps : SequenceSteps) → same ≡ false → within ≡ true → pending ≡ false → derived ≡ true → (if same || not within then Ok None else (if pending then Err class else Ok (if derived then Some steps else None))) ≡ Ok (Some steps)
class_by true within pending derived class steps e f g h = absurd cc
class_by false false pending derived class steps e f g h = absurd cc
class_by false true true derived class steps e f g h = absurd cc
class_by false true false false class steps e f g h = absurd cc
class_by false true false true class steps e f g h = refl

to_base : (graph : CxxGraph) (s t : CxxType) (m n : ℕ) → kind_of s ≡ of_class m → kind_of t ≡ of_class n → nat_eq m n ≡ false → is_cv_within (cv_of s) (cv_of t) ≡ true → is_pending graph m ≡ false → is_derived graph m n ≡ true → IsStepped graph s t
unfolding pointer_to_class pointer_to_other
to_base graph s t m n first last apart within ready derived =
    let steps : SequenceSteps = steps_by (Some second.Pointer) (widens s t) in
    let class : ClassId = record { 0 = m } in
    other_stepped graph s t steps (ap (λ (k : CxxKind). pointer_to_other graph s t k (kind_of t)) first ∙ ap (pointer_to_other graph s t (of_class m)) last ∙ class_by (nat_eq m n) (is_cv_within (cv_of s) (cv_of t)) (is_pending graph m) (is_derived graph m n) class steps apart within ready derived)

-- pointers to a class and to a base of it
base_meets : (graph : CxxGraph) (s t : CxxType) (m n : ℕ) → IsNormal t → kind_of s ≡ of_class m → kind_of t ≡ of_class n → nat_eq m n ≡ false → is_pending graph m ≡ false → is_derived graph m n ≡ true → IsStepped graph s (with_cv (cv_of s) t) × IsStepped graph t (with_cv (cv_of s) t)
base_meets graph s t m n ok first last apart ready derived =
    let takes : takes_words t ≡ true = kind_takes t (λ e. absurd (let wrong : of_class n ≡ other = sym last ∙ e in cc)) in (
      to_base graph s (with_cv (cv_of s) t) m n first (kind_with (cv_of s) t ∙ last) apart (within_with (cv_of s) t ok takes) ready derived,
      widened_stepped graph t (with_cv (cv_of s) t) (with_widened (cv_of s) t ok takes),
    )

-- what is asked of both classes was answered
ready : (graph : CxxGraph) (m n : ℕ) (found : Option CxxType) (common : CxxType) → (both_ready graph m n >>= λ done. Ok found) ≡ Ok (Some common) → (is_pending graph m ≡ false) × ((is_pending graph n ≡ false) × (found ≡ Some common))
unfolding both_ready
ready graph m n found common = by (is_pending graph m) (is_pending graph n) (nat_lt m n)
  where
    by : (a b c : Bool) → ((if a && (not b || c) then Err (record { 0 = m }) else (if b then Err (record { 0 = n }) else Ok (tt {0}))) >>= λ done. Ok found) ≡ Ok (Some common) → (a ≡ false) × ((b ≡ false) × (found ≡ Some common))
    by true true true e = absurd cc
    by true true false e = absurd cc
    by true false c e = absurd cc
    by false true c e = absurd cc
    by false false c e = (refl, (refl, cc))

class_common : (graph : CxxGraph) (s t common : CxxType) (m n : ℕ) → IsNormal s → IsNormal t → kind_of s ≡ of_class m → kind_of t ≡ of_class n → is_similar s t ≡ false → common_class graph s t m n ≡ Ok (Some common) → Meets graph s t common
unfolding common_class
class_common graph s t common m n one two first last unlike e = by (is_derived graph m n) (is_derived graph n m) refl refl (done.1.1)
  where
    done : (is_pending graph m ≡ false) × ((is_pending graph n ≡ false) × ((if is_derived graph m n then Some (pointer_to (with_cv (cv_of s) t)) else (if is_derived graph n m then Some (pointer_to (with_cv (cv_of t) s)) else None)) ≡ Some common))
    done = ready graph m n (if is_derived graph m n then Some (pointer_to (with_cv (cv_of s) t)) else (if is_derived graph n m then Some (pointer_to (with_cv (cv_of t) s)) else None)) common e

    apart : nat_eq m n ≡ false
    apart = other_class s t m n first last unlike

    turned : nat_eq n m ≡ false
    turned = other_class t s n m last first (like_turned (is_similar t s) refl)
      where
        like_turned : (b : Bool) → is_similar t s ≡ b → b ≡ false
        like_turned false e = refl
        like_turned true e = sym (type_tells (without_levels s) (without_levels t) (sym (type_told (without_levels t) (without_levels s) e))) ∙ unlike

    by : (d f : Bool) → is_derived graph m n ≡ d → is_derived graph n m ≡ f → (if d then Some (pointer_to (with_cv (cv_of s) t)) else (if f then Some (pointer_to (with_cv (cv_of t) s)) else None)) ≡ Some common → Meets graph s t common
    by true f derived back e =
        let steps : IsStepped graph s (with_cv (cv_of s) t) × IsStepped graph t (with_cv (cv_of s) t) = base_meets graph s t m n two first last apart done.0 derived in
        record { pointee = with_cv (cv_of s) t; is = sym (some_told _ _ e); one = steps.0; two = steps.1 }
    by false true derived back e =
        let steps : IsStepped graph t (with_cv (cv_of t) s) × IsStepped graph s (with_cv (cv_of t) s) = base_meets graph t s n m one last first turned done.1.0 back in
        record { pointee = with_cv (cv_of t) s; is = sym (some_told _ _ e); one = steps.1; two = steps.0 }
    by false false derived back e = absurd cc

-- ---- any two

other_common : (graph : CxxGraph) (s t common : CxxType) (k l : CxxKind) → IsNormal s → IsNormal t → kind_of s ≡ k → kind_of t ≡ l → is_similar s t ≡ false → common_other graph s t k l ≡ Ok (Some common) → Meets graph s t common
unfolding common_other HasVoid
other_common graph s t common (of_class m) (of_class n) one two first last unlike e = class_common graph s t common m n one two first last unlike e
other_common graph s t common no_value l one two first last unlike e = void_common graph s t common one two (inl first) (let is : common_void s t ≡ Some common = cc in is)
other_common graph s t common (of_class m) no_value one two first last unlike e = void_common graph s t common one two (inr last) (let is : common_void s t ≡ Some common = cc in is)
other_common graph s t common (arithmetic of) no_value one two first last unlike e = void_common graph s t common one two (inr last) (let is : common_void s t ≡ Some common = cc in is)
other_common graph s t common (enumerated n) no_value one two first last unlike e = void_common graph s t common one two (inr last) (let is : common_void s t ≡ Some common = cc in is)
other_common graph s t common (pointing u) no_value one two first last unlike e = void_common graph s t common one two (inr last) (let is : common_void s t ≡ Some common = cc in is)
other_common graph s t common other no_value one two first last unlike e = void_common graph s t common one two (inr last) (let is : common_void s t ≡ Some common = cc in is)
other_common graph s t common _ _ one two first last unlike e = absurd cc

pub pointers_meet : (graph : CxxGraph) (s t common : CxxType) → IsNormal s → IsNormal t → common_pointer graph s t ≡ Ok (Some common) → Meets graph s t common
unfolding common_pointer
pointers_meet graph s t common one two = by (is_similar s t) refl
  where
    by : (b : Bool) → is_similar s t ≡ b → (if b then Ok (Some (common_similar s t)) else common_other graph s t (kind_of s) (kind_of t)) ≡ Ok (Some common) → Meets graph s t common
    by false unlike e = other_common graph s t common (kind_of s) (kind_of t) one two refl refl unlike e
    by true like e =
        let steps : (is_widened s (joined_type s t) ≡ true) × (is_widened t (joined_type s t) ≡ true) = joined_widened s t one two (type_told (without_levels s) (without_levels t) like) in
        let is : common ≡ pointer_to (joined_type s t) = cc in
        record { pointee = joined_type s t; is = is; one = widened_stepped graph s (joined_type s t) steps.0; two = widened_stepped graph t (joined_type s t) steps.1 }
