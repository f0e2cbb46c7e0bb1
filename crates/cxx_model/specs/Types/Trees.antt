-- Types as trees (3.9, 8.3), without the numbers by which a table names them, and their one form.
use Rattle.std.specs.Prelude.{ℕ, ℤ, Bool, true, false, ◌||◌, if◌then◌else◌, List, IsTrue, ◌≡◌}
use Rattle.cxx_model.specs.declared.base.Base.{Base}
use Rattle.cxx_model.specs.declared.types.Cv.{Cv}

mutual
  -- 3.9: a type
  pub data CxxType : Type 0 where
    -- 3.9.1
    fundamental : Base → CxxType
    -- 9, by its place among the reserved classes
    class_type : ℕ → CxxType
    -- 7.2, by its place among the enumerations
    enumeration : ℕ → CxxType
    -- 8.3.1
    pointer_to : CxxType → CxxType
    -- 8.3.2
    reference_to : CxxType → CxxType
    -- 8.3.4
    array_of : CxxType → CxxBound → CxxType
    -- 8.3.5: the result, the parameters, whether an ellipsis follows them, and the cv of a nonstatic member
    function_of : CxxType → CxxTypes → Bool → Cv → CxxType
    -- 3.9.3
    qualified : Cv → CxxType → CxxType
    -- 14.1: by the depth of its list and its index there
    type_parameter : ℕ → ℕ → CxxType
    -- 14.2: of the template with that number; an argument names a parameter of a template
    specialisation : ℕ → CxxArguments → CxxType
    -- 14.6: a member, by its name, of a type that depends on parameters of templates
    nested_in : CxxType → List ℕ → CxxType

  pub data CxxTypes : Type 0 where
    no_types : CxxTypes
    type_then : CxxType → CxxTypes → CxxTypes

  -- 8.3.4: the bound of an array
  pub data CxxBound : Type 0 where
    unknown_bound : CxxBound
    number_bound : ℕ → CxxBound
    formula_bound : CxxFormula → CxxBound

  -- 14.3: an argument of a template
  pub data CxxArgument : Type 0 where
    type_argument : CxxType → CxxArgument
    value_argument : ℤ → CxxType → CxxArgument
    formula_argument : CxxFormula → CxxArgument

  pub data CxxArguments : Type 0 where
    no_arguments : CxxArguments
    argument_then : CxxArgument → CxxArguments → CxxArguments

  -- 5.19, 14.6.2.3: a constant expression that depends on parameters of templates
  pub data CxxFormula : Type 0 where
    value_of : ℤ → CxxType → CxxFormula
    value_parameter : ℕ → ℕ → CxxFormula
    member_of : CxxType → List ℕ → CxxFormula
    size_of : CxxType → CxxFormula
    cast_to : CxxType → CxxFormula → CxxFormula
    unary : ℕ → CxxFormula → CxxFormula
    binary : ℕ → CxxFormula → CxxFormula → CxxFormula
    conditional : CxxFormula → CxxFormula → CxxFormula → CxxFormula

-- 3.9.3: whether there is a word at all
abbrev pub any_cv : Cv → Bool
any_cv cv = cv.is_const || cv.is_volatile

-- 3.9.3: the words of both, each once
abbrev pub merged : Cv → Cv → Cv
merged one two = record { is_const = one.is_const || two.is_const; is_volatile = one.is_volatile || two.is_volatile }

-- no layer is written where there is no word
abbrev pub layered : Cv → CxxType → CxxType
layered cv t = if any_cv cv then qualified cv t else t

-- 3.9.3, 8.3.2, 8.3.5: a type with cv words besides its own. Those of an array are words of its innermost element, and
-- a reference and a function take none.
abbrev pub with_cv : Cv → CxxType → CxxType
with_cv cv (fundamental base) = layered cv (fundamental base)
with_cv cv (class_type n) = layered cv (class_type n)
with_cv cv (enumeration n) = layered cv (enumeration n)
with_cv cv (pointer_to t) = layered cv (pointer_to t)
with_cv cv (reference_to t) = reference_to t
with_cv cv (array_of t bound) = array_of (with_cv cv t) bound
with_cv cv (function_of r ts ellipsis own) = function_of r ts ellipsis own
with_cv cv (qualified own t) = layered (merged cv own) t
with_cv cv (type_parameter depth index) = layered cv (type_parameter depth index)
with_cv cv (specialisation n arguments) = layered cv (specialisation n arguments)
with_cv cv (nested_in t word) = layered cv (nested_in t word)

-- 3.9.3: a type without its cv words; those of an array are those of its innermost element
abbrev pub unqualified : CxxType → CxxType
unqualified (fundamental base) = fundamental base
unqualified (class_type n) = class_type n
unqualified (enumeration n) = enumeration n
unqualified (pointer_to t) = pointer_to t
unqualified (reference_to t) = reference_to t
unqualified (array_of t bound) = array_of (unqualified t) bound
unqualified (function_of r ts ellipsis cv) = function_of r ts ellipsis cv
unqualified (qualified cv t) = t
unqualified (type_parameter depth index) = type_parameter depth index
unqualified (specialisation n arguments) = specialisation n arguments
unqualified (nested_in t word) = nested_in t word

-- 4.2, 4.3, 8.3.5: an array becomes a pointer to its element, and a function a pointer to it
abbrev pub decayed : CxxType → CxxType
decayed (fundamental base) = fundamental base
decayed (class_type n) = class_type n
decayed (enumeration n) = enumeration n
decayed (pointer_to t) = pointer_to t
decayed (reference_to t) = reference_to t
decayed (array_of t bound) = pointer_to t
decayed (function_of r ts ellipsis cv) = pointer_to (function_of r ts ellipsis cv)
decayed (qualified cv t) = qualified cv t
decayed (type_parameter depth index) = type_parameter depth index
decayed (specialisation n arguments) = specialisation n arguments
decayed (nested_in t word) = nested_in t word

-- 8.3.5: a parameter as the type of its function has it
abbrev pub adjusted : CxxType → CxxType
adjusted t = unqualified (decayed t)

-- The one form of a type: no empty cv is written and no two layers follow one another, the cv of an array stands on its
-- innermost element, a reference and a function have none, and parameters are adjusted.
abbrev mutual
  pub normal : CxxType → CxxType
  normal (fundamental base) = fundamental base
  normal (class_type n) = class_type n
  normal (enumeration n) = enumeration n
  normal (pointer_to t) = pointer_to (normal t)
  normal (reference_to t) = reference_to (normal t)
  normal (array_of t bound) = array_of (normal t) (normal_bound bound)
  normal (function_of r ts ellipsis cv) = function_of (normal r) (normal_parameters ts) ellipsis cv
  normal (qualified cv t) = with_cv cv (normal t)
  normal (type_parameter depth index) = type_parameter depth index
  normal (specialisation n arguments) = specialisation n (normal_arguments arguments)
  normal (nested_in t word) = nested_in (normal t) word

  pub normal_parameters : CxxTypes → CxxTypes
  normal_parameters no_types = no_types
  normal_parameters (type_then t ts) = type_then (adjusted (normal t)) (normal_parameters ts)

  pub normal_bound : CxxBound → CxxBound
  normal_bound unknown_bound = unknown_bound
  normal_bound (number_bound n) = number_bound n
  normal_bound (formula_bound f) = formula_bound (normal_formula f)

  pub normal_argument : CxxArgument → CxxArgument
  normal_argument (type_argument t) = type_argument (normal t)
  normal_argument (value_argument value t) = value_argument value (normal t)
  normal_argument (formula_argument f) = formula_argument (normal_formula f)

  pub normal_arguments : CxxArguments → CxxArguments
  normal_arguments no_arguments = no_arguments
  normal_arguments (argument_then a others) = argument_then (normal_argument a) (normal_arguments others)

  pub normal_formula : CxxFormula → CxxFormula
  normal_formula (value_of value t) = value_of value (normal t)
  normal_formula (value_parameter depth index) = value_parameter depth index
  normal_formula (member_of t word) = member_of (normal t) word
  normal_formula (size_of t) = size_of (normal t)
  normal_formula (cast_to t f) = cast_to (normal t) (normal_formula f)
  normal_formula (unary operator f) = unary operator (normal_formula f)
  normal_formula (binary operator f g) = binary operator (normal_formula f) (normal_formula g)
  normal_formula (conditional f g h) = conditional (normal_formula f) (normal_formula g) (normal_formula h)

-- 3.9.3, 8.3.2, 8.3.5: whether a layer of cv may stand on the type
abbrev pub takes_cv : CxxType → Bool
takes_cv (fundamental base) = true
takes_cv (class_type n) = true
takes_cv (enumeration n) = true
takes_cv (pointer_to t) = true
takes_cv (reference_to t) = false
takes_cv (array_of t bound) = false
takes_cv (function_of r ts ellipsis cv) = false
takes_cv (qualified cv t) = false
takes_cv (type_parameter depth index) = true
takes_cv (specialisation n _) = true
takes_cv (nested_in t word) = true

-- 8.3.5: whether the type may stand as a parameter in the type of a function
abbrev pub is_adjusted : CxxType → Bool
is_adjusted (fundamental base) = true
is_adjusted (class_type n) = true
is_adjusted (enumeration n) = true
is_adjusted (pointer_to t) = true
is_adjusted (reference_to t) = true
is_adjusted (array_of t bound) = false
is_adjusted (function_of r ts ellipsis cv) = false
is_adjusted (qualified cv t) = false
is_adjusted (type_parameter depth index) = true
is_adjusted (specialisation n _) = true
is_adjusted (nested_in t word) = true

-- A type is in the one form.
abbrev mutual
  pub IsNormal : CxxType → Type 0
  IsNormal (fundamental base) = Unit {0}
  IsNormal (class_type n) = Unit {0}
  IsNormal (enumeration n) = Unit {0}
  IsNormal (pointer_to t) = IsNormal t
  IsNormal (reference_to t) = IsNormal t
  IsNormal (array_of t bound) = IsNormal t × IsNormalBound bound
  IsNormal (function_of r ts ellipsis cv) = IsNormal r × AreParameters ts
  IsNormal (qualified cv t) = IsTrue (any_cv cv) × IsTrue (takes_cv t) × IsNormal t
  IsNormal (type_parameter depth index) = Unit {0}
  IsNormal (specialisation n arguments) = AreNormalArguments arguments
  IsNormal (nested_in t word) = IsNormal t

  pub AreParameters : CxxTypes → Type 0
  AreParameters no_types = Unit {0}
  AreParameters (type_then t ts) = IsTrue (is_adjusted t) × IsNormal t × AreParameters ts

  pub IsNormalBound : CxxBound → Type 0
  IsNormalBound unknown_bound = Unit {0}
  IsNormalBound (number_bound n) = Unit {0}
  IsNormalBound (formula_bound f) = IsNormalFormula f

  pub IsNormalArgument : CxxArgument → Type 0
  IsNormalArgument (type_argument t) = IsNormal t
  IsNormalArgument (value_argument value t) = IsNormal t
  IsNormalArgument (formula_argument f) = IsNormalFormula f

  pub AreNormalArguments : CxxArguments → Type 0
  AreNormalArguments no_arguments = Unit {0}
  AreNormalArguments (argument_then a others) = IsNormalArgument a × AreNormalArguments others

  pub IsNormalFormula : CxxFormula → Type 0
  IsNormalFormula (value_of value t) = IsNormal t
  IsNormalFormula (value_parameter depth index) = Unit {0}
  IsNormalFormula (member_of t word) = IsNormal t
  IsNormalFormula (size_of t) = IsNormal t
  IsNormalFormula (cast_to t f) = IsNormal t × IsNormalFormula f
  IsNormalFormula (unary operator f) = IsNormalFormula f
  IsNormalFormula (binary operator f g) = IsNormalFormula f × IsNormalFormula g
  IsNormalFormula (conditional f g h) = IsNormalFormula f × IsNormalFormula g × IsNormalFormula h

-- 4.4: a type without its cv words at the top and at each level of pointers; those of an array are those of its
-- innermost element
abbrev pub without_levels : CxxType → CxxType
without_levels (fundamental base) = fundamental base
without_levels (class_type n) = class_type n
without_levels (enumeration n) = enumeration n
without_levels (pointer_to t) = pointer_to (without_levels t)
without_levels (reference_to t) = reference_to t
without_levels (array_of t bound) = array_of (unqualified t) bound
without_levels (function_of r ts ellipsis cv) = function_of r ts ellipsis cv
without_levels (qualified cv t) = without_levels t
without_levels (type_parameter depth index) = type_parameter depth index
without_levels (specialisation n arguments) = specialisation n arguments
without_levels (nested_in t word) = nested_in t word

-- 4.4: two types are similar where they differ in such words alone
abbrev pub Similar : CxxType → CxxType → Type 0
Similar one two = without_levels one ≡ without_levels two
