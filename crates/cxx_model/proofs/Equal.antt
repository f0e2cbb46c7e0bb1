-- What the derived tests of nodes say of the types that they stand for.
use Rattle.std.specs.Prelude.{ℕ, ◌≡◌, Bool, true, false, ◌&&◌, nat_eq, ℤ, List, [], ◌∷◌, length, refl}
use Rattle.cxx_model.specs.declared.types.TypeId.{TypeId}
use Rattle.cxx_model.specs.declared.types.Formula.{Formula, Value, Parameter, Member, SizeOf, Cast', Unary', Binary', Conditional'}
use Rattle.cxx_model.specs.declared.types.Bound.{Bound}
use Rattle.cxx_model.specs.declared.types.Bound.TheVariants as bound
use Rattle.cxx_model.specs.declared.types.Argument.{Argument}
use Rattle.cxx_model.specs.declared.types.Argument.TheVariants as argument
use Rattle.cxx_model.specs.declared.types.TypeNode.{TypeNode}
use Rattle.cxx_model.specs.declared.types.TypeNode.TheVariants as node
use Rattle.cxx_model.specs.Types.Numbers.{AreApart, type_at, formula_at, bound_at, argument_at, arguments_at, types_at, type_over, IsFormulaBelow, IsBoundBelow, IsArgumentBelow, AreArgumentsBelow, AreTypesBelow, IsNodeBelow}
use Rattle.std.specs.Ordering.{int_eq}
use Rattle.std.specs.Cmp.{bool_eq_equiv, int_eq_equiv}
use Rattle.std.specs.Cmp.Lexicographic.{pointwise, same_text}
use Rattle.std.proofs.Common.{ap, sym, ◌∙◌, true≢false}
use Rattle.std.proofs.Math.Bool.{beq}
use Rattle.std.proofs.lemmas.Bool.{eqb-true, eq-eqb}
use Rattle.std.proofs.lemmas.Bool.Decides.{Decides-int_eq}
use Rattle.std.proofs.lemmas.Cmp.{nat_list_eq_equiv}
use denote.Hole.Compared.{compared_is}
use Rattle.cxx_model.specs.declared.base.Base.{Base}
use Rattle.cxx_model.specs.declared.base.Base.TheVariants as plain
use Rattle.cxx_model.specs.declared.types.Cv.{Cv}
use Rattle.cxx_model.specs.contracts.types.FormulaPartialEq.TheImpl as formula_test
use Rattle.cxx_model.specs.contracts.types.FormulaPartialEq.TheImpl.Laws as formula_laws
use Rattle.cxx_model.specs.contracts.types.BoundPartialEq.TheImpl as bound_test
use Rattle.cxx_model.specs.contracts.types.ArgumentPartialEq.TheImpl as argument_test
use Rattle.cxx_model.specs.contracts.types.TypeIdPartialEq.TheImpl as id_test
use Rattle.cxx_model.specs.contracts.types.TypeNodePartialEq.TheImpl as node_test
use Rattle.cxx_model.specs.Types.Trees.{CxxType}

abbrev pub same_formula : Formula → Formula → Bool
same_formula = formula_test.eq-value.it

abbrev pub same_bound : Bound → Bound → Bool
same_bound = bound_test.eq-value.it

abbrev pub same_argument : Argument → Argument → Bool
same_argument = argument_test.eq-value.it

abbrev pub same_id : TypeId → TypeId → Bool
same_id = id_test.eq-value.it

abbrev pub same_node : TypeNode → TypeNode → Bool
same_node = node_test.eq-value.it

pub both : (a b : Bool) → (a && b) ≡ true → (a ≡ true) × (b ≡ true)
both true b e = (refl, e)
both false b e = cc

pub join : (a b : Bool) → a ≡ true → b ≡ true → (a && b) ≡ true
join a b p q = cc

bool_told : (a b : Bool) → beq a b ≡ true → a ≡ b
bool_told true true e = refl
bool_told true false e = cc
bool_told false true e = cc
bool_told false false e = refl

bool_tells : (a b : Bool) → a ≡ b → beq a b ≡ true
bool_tells a b e = ap (beq a) (sym e) ∙ bool_eq_equiv.refl a

pub int_told : (a b : ℤ) → int_eq a b ≡ true → a ≡ b
int_told a b e = (Decides-int_eq a b).0 e

pub int_tells : (a b : ℤ) → a ≡ b → int_eq a b ≡ true
int_tells a b e = ap (int_eq a) (sym e) ∙ int_eq_equiv.refl a

pub word_told : (a b : List ℕ) → pointwise nat_eq a b ≡ true → a ≡ b
word_told a b e = same_text a b (sym e)

pub word_tells : (a b : List ℕ) → a ≡ b → pointwise nat_eq a b ≡ true
word_tells a b e = ap (pointwise nat_eq a) (sym e) ∙ nat_list_eq_equiv.refl a

cv_told : (a b : Cv) → (beq a.is_const b.is_const && beq a.is_volatile b.is_volatile) ≡ true → a ≡ b
cv_told a b e =
    let one : Bool → Cv = λ x. record { is_const = x; is_volatile = a.is_volatile } in
    let two : Bool → Cv = λ x. record { is_const = b.is_const; is_volatile = x } in
    let parts : (beq a.is_const b.is_const ≡ true) × (beq a.is_volatile b.is_volatile ≡ true) = both _ _ e in
    ap one (bool_told _ _ parts.0) ∙ ap two (bool_told _ _ parts.1)

cv_tells : (a b : Cv) → a ≡ b → (beq a.is_const b.is_const && beq a.is_volatile b.is_volatile) ≡ true
cv_tells a b e = join _ _ (bool_tells _ _ (ap (λ c. c.is_const) e)) (bool_tells _ _ (ap (λ c. c.is_volatile) e))

base_told : (a b : Base) → same_node (node.Plain a) (node.Plain b) ≡ true → a ≡ b
base_told plain.Bool plain.Bool e = refl
base_told plain.Bool _ e = absurd (true≢false (sym e))
base_told plain.Char plain.Char e = refl
base_told plain.Char _ e = absurd (true≢false (sym e))
base_told plain.SignedChar plain.SignedChar e = refl
base_told plain.SignedChar _ e = absurd (true≢false (sym e))
base_told plain.UnsignedChar plain.UnsignedChar e = refl
base_told plain.UnsignedChar _ e = absurd (true≢false (sym e))
base_told plain.Short plain.Short e = refl
base_told plain.Short _ e = absurd (true≢false (sym e))
base_told plain.UnsignedShort plain.UnsignedShort e = refl
base_told plain.UnsignedShort _ e = absurd (true≢false (sym e))
base_told plain.Int plain.Int e = refl
base_told plain.Int _ e = absurd (true≢false (sym e))
base_told plain.Unsigned plain.Unsigned e = refl
base_told plain.Unsigned _ e = absurd (true≢false (sym e))
base_told plain.Long plain.Long e = refl
base_told plain.Long _ e = absurd (true≢false (sym e))
base_told plain.UnsignedLong plain.UnsignedLong e = refl
base_told plain.UnsignedLong _ e = absurd (true≢false (sym e))
base_told plain.WideChar plain.WideChar e = refl
base_told plain.WideChar _ e = absurd (true≢false (sym e))
base_told plain.Float plain.Float e = refl
base_told plain.Float _ e = absurd (true≢false (sym e))
base_told plain.Double plain.Double e = refl
base_told plain.Double _ e = absurd (true≢false (sym e))
base_told plain.LongDouble plain.LongDouble e = refl
base_told plain.LongDouble _ e = absurd (true≢false (sym e))
base_told plain.Void plain.Void e = refl
base_told plain.Void _ e = absurd (true≢false (sym e))

base_itself : (a : Base) → same_node (node.Plain a) (node.Plain a) ≡ true
base_itself plain.Bool = refl
base_itself plain.Char = refl
base_itself plain.SignedChar = refl
base_itself plain.UnsignedChar = refl
base_itself plain.Short = refl
base_itself plain.UnsignedShort = refl
base_itself plain.Int = refl
base_itself plain.Unsigned = refl
base_itself plain.Long = refl
base_itself plain.UnsignedLong = refl
base_itself plain.WideChar = refl
base_itself plain.Float = refl
base_itself plain.Double = refl
base_itself plain.LongDouble = refl
base_itself plain.Void = refl

base_tells : (a b : Base) → a ≡ b → same_node (node.Plain a) (node.Plain b) ≡ true
base_tells a b e = ap (λ x. same_node (node.Plain a) (node.Plain x)) (sym e) ∙ base_itself a

pub formula_from : (types : List CxxType) (x y : Formula) → same_formula x y ≡ true → formula_at types x ≡ formula_at types y
formula_from types (Value value of) (Value value' of') e =
    let e0 : (int_eq value value' && nat_eq of.0 of'.0) ≡ true = sym (compared_is _ _ _ _ _ _ formula_laws.local _ (Value value of) (Value value' of')) ∙ e in
    let p0 : (int_eq value value' ≡ true) × (nat_eq of.0 of'.0 ≡ true) = both _ _ e0 in
    let same-value : value ≡ value' = int_told _ _ (p0.0) in
    let same-of : of.0 ≡ of'.0 = eqb-true _ _ (p0.1) in
    cc
formula_from types (Value value of) (Parameter depth' index') e = (let e0 : false ≡ true = sym (compared_is _ _ _ _ _ _ formula_laws.local _ (Value value of) (Parameter depth' index')) ∙ e in absurd (true≢false (sym e0)))
formula_from types (Value value of) (Member of' word') e = (let e0 : false ≡ true = sym (compared_is _ _ _ _ _ _ formula_laws.local _ (Value value of) (Member of' word')) ∙ e in absurd (true≢false (sym e0)))
formula_from types (Value value of) (SizeOf of') e = (let e0 : false ≡ true = sym (compared_is _ _ _ _ _ _ formula_laws.local _ (Value value of) (SizeOf of')) ∙ e in absurd (true≢false (sym e0)))
formula_from types (Value value of) (Cast' of' p' f') e = (let e0 : false ≡ true = sym (compared_is _ _ _ _ _ _ formula_laws.local _ (Value value of) (Cast' of' p' f')) ∙ e in absurd (true≢false (sym e0)))
formula_from types (Value value of) (Unary' operator' p' f') e = (let e0 : false ≡ true = sym (compared_is _ _ _ _ _ _ formula_laws.local _ (Value value of) (Unary' operator' p' f')) ∙ e in absurd (true≢false (sym e0)))
formula_from types (Value value of) (Binary' operator' p' f' q' g') e = (let e0 : false ≡ true = sym (compared_is _ _ _ _ _ _ formula_laws.local _ (Value value of) (Binary' operator' p' f' q' g')) ∙ e in absurd (true≢false (sym e0)))
formula_from types (Value value of) (Conditional' p' f' q' g' r' h') e = (let e0 : false ≡ true = sym (compared_is _ _ _ _ _ _ formula_laws.local _ (Value value of) (Conditional' p' f' q' g' r' h')) ∙ e in absurd (true≢false (sym e0)))
formula_from types (Parameter depth index) (Parameter depth' index') e =
    let e0 : (nat_eq depth depth' && nat_eq index index') ≡ true = sym (compared_is _ _ _ _ _ _ formula_laws.local _ (Parameter depth index) (Parameter depth' index')) ∙ e in
    let p0 : (nat_eq depth depth' ≡ true) × (nat_eq index index' ≡ true) = both _ _ e0 in
    let same-depth : depth ≡ depth' = eqb-true _ _ (p0.0) in
    let same-index : index ≡ index' = eqb-true _ _ (p0.1) in
    cc
formula_from types (Parameter depth index) (Value value' of') e = (let e0 : false ≡ true = sym (compared_is _ _ _ _ _ _ formula_laws.local _ (Parameter depth index) (Value value' of')) ∙ e in absurd (true≢false (sym e0)))
formula_from types (Parameter depth index) (Member of' word') e = (let e0 : false ≡ true = sym (compared_is _ _ _ _ _ _ formula_laws.local _ (Parameter depth index) (Member of' word')) ∙ e in absurd (true≢false (sym e0)))
formula_from types (Parameter depth index) (SizeOf of') e = (let e0 : false ≡ true = sym (compared_is _ _ _ _ _ _ formula_laws.local _ (Parameter depth index) (SizeOf of')) ∙ e in absurd (true≢false (sym e0)))
formula_from types (Parameter depth index) (Cast' of' p' f') e = (let e0 : false ≡ true = sym (compared_is _ _ _ _ _ _ formula_laws.local _ (Parameter depth index) (Cast' of' p' f')) ∙ e in absurd (true≢false (sym e0)))
formula_from types (Parameter depth index) (Unary' operator' p' f') e = (let e0 : false ≡ true = sym (compared_is _ _ _ _ _ _ formula_laws.local _ (Parameter depth index) (Unary' operator' p' f')) ∙ e in absurd (true≢false (sym e0)))
formula_from types (Parameter depth index) (Binary' operator' p' f' q' g') e = (let e0 : false ≡ true = sym (compared_is _ _ _ _ _ _ formula_laws.local _ (Parameter depth index) (Binary' operator' p' f' q' g')) ∙ e in absurd (true≢false (sym e0)))
formula_from types (Parameter depth index) (Conditional' p' f' q' g' r' h') e = (let e0 : false ≡ true = sym (compared_is _ _ _ _ _ _ formula_laws.local _ (Parameter depth index) (Conditional' p' f' q' g' r' h')) ∙ e in absurd (true≢false (sym e0)))
formula_from types (Member of word) (Member of' word') e =
    let e0 : (nat_eq of.0 of'.0 && pointwise nat_eq word word') ≡ true = sym (compared_is _ _ _ _ _ _ formula_laws.local _ (Member of word) (Member of' word')) ∙ e in
    let p0 : (nat_eq of.0 of'.0 ≡ true) × (pointwise nat_eq word word' ≡ true) = both _ _ e0 in
    let same-of : of.0 ≡ of'.0 = eqb-true _ _ (p0.0) in
    let same-word : word ≡ word' = word_told _ _ (p0.1) in
    cc
formula_from types (Member of word) (Value value' of') e = (let e0 : false ≡ true = sym (compared_is _ _ _ _ _ _ formula_laws.local _ (Member of word) (Value value' of')) ∙ e in absurd (true≢false (sym e0)))
formula_from types (Member of word) (Parameter depth' index') e = (let e0 : false ≡ true = sym (compared_is _ _ _ _ _ _ formula_laws.local _ (Member of word) (Parameter depth' index')) ∙ e in absurd (true≢false (sym e0)))
formula_from types (Member of word) (SizeOf of') e = (let e0 : false ≡ true = sym (compared_is _ _ _ _ _ _ formula_laws.local _ (Member of word) (SizeOf of')) ∙ e in absurd (true≢false (sym e0)))
formula_from types (Member of word) (Cast' of' p' f') e = (let e0 : false ≡ true = sym (compared_is _ _ _ _ _ _ formula_laws.local _ (Member of word) (Cast' of' p' f')) ∙ e in absurd (true≢false (sym e0)))
formula_from types (Member of word) (Unary' operator' p' f') e = (let e0 : false ≡ true = sym (compared_is _ _ _ _ _ _ formula_laws.local _ (Member of word) (Unary' operator' p' f')) ∙ e in absurd (true≢false (sym e0)))
formula_from types (Member of word) (Binary' operator' p' f' q' g') e = (let e0 : false ≡ true = sym (compared_is _ _ _ _ _ _ formula_laws.local _ (Member of word) (Binary' operator' p' f' q' g')) ∙ e in absurd (true≢false (sym e0)))
formula_from types (Member of word) (Conditional' p' f' q' g' r' h') e = (let e0 : false ≡ true = sym (compared_is _ _ _ _ _ _ formula_laws.local _ (Member of word) (Conditional' p' f' q' g' r' h')) ∙ e in absurd (true≢false (sym e0)))
formula_from types (SizeOf of) (SizeOf of') e =
    let e0 : nat_eq of.0 of'.0 ≡ true = sym (compared_is _ _ _ _ _ _ formula_laws.local _ (SizeOf of) (SizeOf of')) ∙ e in
    let same-of : of.0 ≡ of'.0 = eqb-true _ _ (e0) in
    cc
formula_from types (SizeOf of) (Value value' of') e = (let e0 : false ≡ true = sym (compared_is _ _ _ _ _ _ formula_laws.local _ (SizeOf of) (Value value' of')) ∙ e in absurd (true≢false (sym e0)))
formula_from types (SizeOf of) (Parameter depth' index') e = (let e0 : false ≡ true = sym (compared_is _ _ _ _ _ _ formula_laws.local _ (SizeOf of) (Parameter depth' index')) ∙ e in absurd (true≢false (sym e0)))
formula_from types (SizeOf of) (Member of' word') e = (let e0 : false ≡ true = sym (compared_is _ _ _ _ _ _ formula_laws.local _ (SizeOf of) (Member of' word')) ∙ e in absurd (true≢false (sym e0)))
formula_from types (SizeOf of) (Cast' of' p' f') e = (let e0 : false ≡ true = sym (compared_is _ _ _ _ _ _ formula_laws.local _ (SizeOf of) (Cast' of' p' f')) ∙ e in absurd (true≢false (sym e0)))
formula_from types (SizeOf of) (Unary' operator' p' f') e = (let e0 : false ≡ true = sym (compared_is _ _ _ _ _ _ formula_laws.local _ (SizeOf of) (Unary' operator' p' f')) ∙ e in absurd (true≢false (sym e0)))
formula_from types (SizeOf of) (Binary' operator' p' f' q' g') e = (let e0 : false ≡ true = sym (compared_is _ _ _ _ _ _ formula_laws.local _ (SizeOf of) (Binary' operator' p' f' q' g')) ∙ e in absurd (true≢false (sym e0)))
formula_from types (SizeOf of) (Conditional' p' f' q' g' r' h') e = (let e0 : false ≡ true = sym (compared_is _ _ _ _ _ _ formula_laws.local _ (SizeOf of) (Conditional' p' f' q' g' r' h')) ∙ e in absurd (true≢false (sym e0)))
formula_from types (Cast' of p f) (Cast' of' p' f') e =
    let e0 : (nat_eq of.0 of'.0 && same_formula f f') ≡ true = sym (compared_is _ _ _ _ _ _ formula_laws.local _ (Cast' of p f) (Cast' of' p' f')) ∙ e in
    let p0 : (nat_eq of.0 of'.0 ≡ true) × (same_formula f f' ≡ true) = both _ _ e0 in
    let same-of : of.0 ≡ of'.0 = eqb-true _ _ (p0.0) in
    let same-f : formula_at types f ≡ formula_at types f' = formula_from types f f' (p0.1) in
    cc
formula_from types (Cast' of p f) (Value value' of') e = (let e0 : false ≡ true = sym (compared_is _ _ _ _ _ _ formula_laws.local _ (Cast' of p f) (Value value' of')) ∙ e in absurd (true≢false (sym e0)))
formula_from types (Cast' of p f) (Parameter depth' index') e = (let e0 : false ≡ true = sym (compared_is _ _ _ _ _ _ formula_laws.local _ (Cast' of p f) (Parameter depth' index')) ∙ e in absurd (true≢false (sym e0)))
formula_from types (Cast' of p f) (Member of' word') e = (let e0 : false ≡ true = sym (compared_is _ _ _ _ _ _ formula_laws.local _ (Cast' of p f) (Member of' word')) ∙ e in absurd (true≢false (sym e0)))
formula_from types (Cast' of p f) (SizeOf of') e = (let e0 : false ≡ true = sym (compared_is _ _ _ _ _ _ formula_laws.local _ (Cast' of p f) (SizeOf of')) ∙ e in absurd (true≢false (sym e0)))
formula_from types (Cast' of p f) (Unary' operator' p' f') e = (let e0 : false ≡ true = sym (compared_is _ _ _ _ _ _ formula_laws.local _ (Cast' of p f) (Unary' operator' p' f')) ∙ e in absurd (true≢false (sym e0)))
formula_from types (Cast' of p f) (Binary' operator' p' f' q' g') e = (let e0 : false ≡ true = sym (compared_is _ _ _ _ _ _ formula_laws.local _ (Cast' of p f) (Binary' operator' p' f' q' g')) ∙ e in absurd (true≢false (sym e0)))
formula_from types (Cast' of p f) (Conditional' p' f' q' g' r' h') e = (let e0 : false ≡ true = sym (compared_is _ _ _ _ _ _ formula_laws.local _ (Cast' of p f) (Conditional' p' f' q' g' r' h')) ∙ e in absurd (true≢false (sym e0)))
formula_from types (Unary' operator p f) (Unary' operator' p' f') e =
    let e0 : (nat_eq operator operator' && same_formula f f') ≡ true = sym (compared_is _ _ _ _ _ _ formula_laws.local _ (Unary' operator p f) (Unary' operator' p' f')) ∙ e in
    let p0 : (nat_eq operator operator' ≡ true) × (same_formula f f' ≡ true) = both _ _ e0 in
    let same-operator : operator ≡ operator' = eqb-true _ _ (p0.0) in
    let same-f : formula_at types f ≡ formula_at types f' = formula_from types f f' (p0.1) in
    cc
formula_from types (Unary' operator p f) (Value value' of') e = (let e0 : false ≡ true = sym (compared_is _ _ _ _ _ _ formula_laws.local _ (Unary' operator p f) (Value value' of')) ∙ e in absurd (true≢false (sym e0)))
formula_from types (Unary' operator p f) (Parameter depth' index') e = (let e0 : false ≡ true = sym (compared_is _ _ _ _ _ _ formula_laws.local _ (Unary' operator p f) (Parameter depth' index')) ∙ e in absurd (true≢false (sym e0)))
formula_from types (Unary' operator p f) (Member of' word') e = (let e0 : false ≡ true = sym (compared_is _ _ _ _ _ _ formula_laws.local _ (Unary' operator p f) (Member of' word')) ∙ e in absurd (true≢false (sym e0)))
formula_from types (Unary' operator p f) (SizeOf of') e = (let e0 : false ≡ true = sym (compared_is _ _ _ _ _ _ formula_laws.local _ (Unary' operator p f) (SizeOf of')) ∙ e in absurd (true≢false (sym e0)))
formula_from types (Unary' operator p f) (Cast' of' p' f') e = (let e0 : false ≡ true = sym (compared_is _ _ _ _ _ _ formula_laws.local _ (Unary' operator p f) (Cast' of' p' f')) ∙ e in absurd (true≢false (sym e0)))
formula_from types (Unary' operator p f) (Binary' operator' p' f' q' g') e = (let e0 : false ≡ true = sym (compared_is _ _ _ _ _ _ formula_laws.local _ (Unary' operator p f) (Binary' operator' p' f' q' g')) ∙ e in absurd (true≢false (sym e0)))
formula_from types (Unary' operator p f) (Conditional' p' f' q' g' r' h') e = (let e0 : false ≡ true = sym (compared_is _ _ _ _ _ _ formula_laws.local _ (Unary' operator p f) (Conditional' p' f' q' g' r' h')) ∙ e in absurd (true≢false (sym e0)))
formula_from types (Binary' operator p f q g) (Binary' operator' p' f' q' g') e =
    let e0 : (nat_eq operator operator' && (same_formula f f' && same_formula g g')) ≡ true = sym (compared_is _ _ _ _ _ _ formula_laws.local _ (Binary' operator p f q g) (Binary' operator' p' f' q' g')) ∙ e in
    let p0 : (nat_eq operator operator' ≡ true) × ((same_formula f f' && same_formula g g') ≡ true) = both _ _ e0 in
    let p1 : (same_formula f f' ≡ true) × (same_formula g g' ≡ true) = both _ _ p0.1 in
    let same-operator : operator ≡ operator' = eqb-true _ _ (p0.0) in
    let same-f : formula_at types f ≡ formula_at types f' = formula_from types f f' (p1.0) in
    let same-g : formula_at types g ≡ formula_at types g' = formula_from types g g' (p1.1) in
    cc
formula_from types (Binary' operator p f q g) (Value value' of') e = (let e0 : false ≡ true = sym (compared_is _ _ _ _ _ _ formula_laws.local _ (Binary' operator p f q g) (Value value' of')) ∙ e in absurd (true≢false (sym e0)))
formula_from types (Binary' operator p f q g) (Parameter depth' index') e = (let e0 : false ≡ true = sym (compared_is _ _ _ _ _ _ formula_laws.local _ (Binary' operator p f q g) (Parameter depth' index')) ∙ e in absurd (true≢false (sym e0)))
formula_from types (Binary' operator p f q g) (Member of' word') e = (let e0 : false ≡ true = sym (compared_is _ _ _ _ _ _ formula_laws.local _ (Binary' operator p f q g) (Member of' word')) ∙ e in absurd (true≢false (sym e0)))
formula_from types (Binary' operator p f q g) (SizeOf of') e = (let e0 : false ≡ true = sym (compared_is _ _ _ _ _ _ formula_laws.local _ (Binary' operator p f q g) (SizeOf of')) ∙ e in absurd (true≢false (sym e0)))
formula_from types (Binary' operator p f q g) (Cast' of' p' f') e = (let e0 : false ≡ true = sym (compared_is _ _ _ _ _ _ formula_laws.local _ (Binary' operator p f q g) (Cast' of' p' f')) ∙ e in absurd (true≢false (sym e0)))
formula_from types (Binary' operator p f q g) (Unary' operator' p' f') e = (let e0 : false ≡ true = sym (compared_is _ _ _ _ _ _ formula_laws.local _ (Binary' operator p f q g) (Unary' operator' p' f')) ∙ e in absurd (true≢false (sym e0)))
formula_from types (Binary' operator p f q g) (Conditional' p' f' q' g' r' h') e = (let e0 : false ≡ true = sym (compared_is _ _ _ _ _ _ formula_laws.local _ (Binary' operator p f q g) (Conditional' p' f' q' g' r' h')) ∙ e in absurd (true≢false (sym e0)))
formula_from types (Conditional' p f q g r h) (Conditional' p' f' q' g' r' h') e =
    let e0 : (same_formula f f' && (same_formula g g' && same_formula h h')) ≡ true = sym (compared_is _ _ _ _ _ _ formula_laws.local _ (Conditional' p f q g r h) (Conditional' p' f' q' g' r' h')) ∙ e in
    let p0 : (same_formula f f' ≡ true) × ((same_formula g g' && same_formula h h') ≡ true) = both _ _ e0 in
    let p1 : (same_formula g g' ≡ true) × (same_formula h h' ≡ true) = both _ _ p0.1 in
    let same-f : formula_at types f ≡ formula_at types f' = formula_from types f f' (p0.0) in
    let same-g : formula_at types g ≡ formula_at types g' = formula_from types g g' (p1.0) in
    let same-h : formula_at types h ≡ formula_at types h' = formula_from types h h' (p1.1) in
    cc
formula_from types (Conditional' p f q g r h) (Value value' of') e = (let e0 : false ≡ true = sym (compared_is _ _ _ _ _ _ formula_laws.local _ (Conditional' p f q g r h) (Value value' of')) ∙ e in absurd (true≢false (sym e0)))
formula_from types (Conditional' p f q g r h) (Parameter depth' index') e = (let e0 : false ≡ true = sym (compared_is _ _ _ _ _ _ formula_laws.local _ (Conditional' p f q g r h) (Parameter depth' index')) ∙ e in absurd (true≢false (sym e0)))
formula_from types (Conditional' p f q g r h) (Member of' word') e = (let e0 : false ≡ true = sym (compared_is _ _ _ _ _ _ formula_laws.local _ (Conditional' p f q g r h) (Member of' word')) ∙ e in absurd (true≢false (sym e0)))
formula_from types (Conditional' p f q g r h) (SizeOf of') e = (let e0 : false ≡ true = sym (compared_is _ _ _ _ _ _ formula_laws.local _ (Conditional' p f q g r h) (SizeOf of')) ∙ e in absurd (true≢false (sym e0)))
formula_from types (Conditional' p f q g r h) (Cast' of' p' f') e = (let e0 : false ≡ true = sym (compared_is _ _ _ _ _ _ formula_laws.local _ (Conditional' p f q g r h) (Cast' of' p' f')) ∙ e in absurd (true≢false (sym e0)))
formula_from types (Conditional' p f q g r h) (Unary' operator' p' f') e = (let e0 : false ≡ true = sym (compared_is _ _ _ _ _ _ formula_laws.local _ (Conditional' p f q g r h) (Unary' operator' p' f')) ∙ e in absurd (true≢false (sym e0)))
formula_from types (Conditional' p f q g r h) (Binary' operator' p' f' q' g') e = (let e0 : false ≡ true = sym (compared_is _ _ _ _ _ _ formula_laws.local _ (Conditional' p f q g r h) (Binary' operator' p' f' q' g')) ∙ e in absurd (true≢false (sym e0)))

pub formula_to : (types : List CxxType) (x y : Formula) → AreApart types → IsFormulaBelow (length types) x → IsFormulaBelow (length types) y → formula_at types x ≡ formula_at types y → same_formula x y ≡ true
formula_to types (Value value of) (Value value' of') apart ok ok2 e =
    let same-value : value ≡ value' = cc in
    let same-of : type_at types of.0 ≡ type_at types of'.0 = cc in
    let all : (int_eq value value' && nat_eq of.0 of'.0) ≡ true = (join _ _ (int_tells _ _ same-value) (eq-eqb _ _ (apart of.0 of'.0 ok ok2 same-of))) in
    compared_is _ _ _ _ _ _ formula_laws.local _ (Value value of) (Value value' of') ∙ all
formula_to types (Value _ _) _ apart ok ok2 e = absurd (cc)
formula_to types (Parameter depth index) (Parameter depth' index') apart ok ok2 e =
    let same-depth : depth ≡ depth' = cc in
    let same-index : index ≡ index' = cc in
    let all : (nat_eq depth depth' && nat_eq index index') ≡ true = (join _ _ (eq-eqb _ _ same-depth) (eq-eqb _ _ same-index)) in
    compared_is _ _ _ _ _ _ formula_laws.local _ (Parameter depth index) (Parameter depth' index') ∙ all
formula_to types (Parameter _ _) _ apart ok ok2 e = absurd (cc)
formula_to types (Member of word) (Member of' word') apart ok ok2 e =
    let same-of : type_at types of.0 ≡ type_at types of'.0 = cc in
    let same-word : word ≡ word' = cc in
    let all : (nat_eq of.0 of'.0 && pointwise nat_eq word word') ≡ true = (join _ _ (eq-eqb _ _ (apart of.0 of'.0 ok ok2 same-of)) (word_tells _ _ same-word)) in
    compared_is _ _ _ _ _ _ formula_laws.local _ (Member of word) (Member of' word') ∙ all
formula_to types (Member _ _) _ apart ok ok2 e = absurd (cc)
formula_to types (SizeOf of) (SizeOf of') apart ok ok2 e =
    let same-of : type_at types of.0 ≡ type_at types of'.0 = cc in
    let all : nat_eq of.0 of'.0 ≡ true = (eq-eqb _ _ (apart of.0 of'.0 ok ok2 same-of)) in
    compared_is _ _ _ _ _ _ formula_laws.local _ (SizeOf of) (SizeOf of') ∙ all
formula_to types (SizeOf _) _ apart ok ok2 e = absurd (cc)
formula_to types (Cast' of p f) (Cast' of' p' f') apart ok ok2 e =
    let same-of : type_at types of.0 ≡ type_at types of'.0 = cc in
    let same-f : formula_at types f ≡ formula_at types f' = cc in
    let all : (nat_eq of.0 of'.0 && same_formula f f') ≡ true = (join _ _ (eq-eqb _ _ (apart of.0 of'.0 ok.0 ok2.0 same-of)) (formula_to types f f' apart ok.1 ok2.1 same-f)) in
    compared_is _ _ _ _ _ _ formula_laws.local _ (Cast' of p f) (Cast' of' p' f') ∙ all
formula_to types (Cast' _ _ _) _ apart ok ok2 e = absurd (cc)
formula_to types (Unary' operator p f) (Unary' operator' p' f') apart ok ok2 e =
    let same-operator : operator ≡ operator' = cc in
    let same-f : formula_at types f ≡ formula_at types f' = cc in
    let all : (nat_eq operator operator' && same_formula f f') ≡ true = (join _ _ (eq-eqb _ _ same-operator) (formula_to types f f' apart ok ok2 same-f)) in
    compared_is _ _ _ _ _ _ formula_laws.local _ (Unary' operator p f) (Unary' operator' p' f') ∙ all
formula_to types (Unary' _ _ _) _ apart ok ok2 e = absurd (cc)
formula_to types (Binary' operator p f q g) (Binary' operator' p' f' q' g') apart ok ok2 e =
    let same-operator : operator ≡ operator' = cc in
    let same-f : formula_at types f ≡ formula_at types f' = cc in
    let same-g : formula_at types g ≡ formula_at types g' = cc in
    let all : (nat_eq operator operator' && (same_formula f f' && same_formula g g')) ≡ true = (join _ _ (eq-eqb _ _ same-operator) (join _ _ (formula_to types f f' apart ok.0 ok2.0 same-f) (formula_to types g g' apart ok.1 ok2.1 same-g))) in
    compared_is _ _ _ _ _ _ formula_laws.local _ (Binary' operator p f q g) (Binary' operator' p' f' q' g') ∙ all
formula_to types (Binary' _ _ _ _ _) _ apart ok ok2 e = absurd (cc)
formula_to types (Conditional' p f q g r h) (Conditional' p' f' q' g' r' h') apart ok ok2 e =
    let same-f : formula_at types f ≡ formula_at types f' = cc in
    let same-g : formula_at types g ≡ formula_at types g' = cc in
    let same-h : formula_at types h ≡ formula_at types h' = cc in
    let all : (same_formula f f' && (same_formula g g' && same_formula h h')) ≡ true = (join _ _ (formula_to types f f' apart ok.0 ok2.0 same-f) (join _ _ (formula_to types g g' apart ok.1 ok2.1 same-g) (formula_to types h h' apart ok.2 ok2.2 same-h))) in
    compared_is _ _ _ _ _ _ formula_laws.local _ (Conditional' p f q g r h) (Conditional' p' f' q' g' r' h') ∙ all
formula_to types (Conditional' _ _ _ _ _ _) _ apart ok ok2 e = absurd (cc)

pub bound_from : (types : List CxxType) (x y : Bound) → same_bound x y ≡ true → bound_at types x ≡ bound_at types y
bound_from types bound.Unknown bound.Unknown e = refl
bound_from types bound.Unknown _ e = absurd (true≢false (sym e))
bound_from types (bound.Number n) (bound.Number n') e =
    let same-n : n ≡ n' = eqb-true _ _ (e) in
    cc
bound_from types (bound.Number _) _ e = absurd (true≢false (sym e))
bound_from types (bound.Computed f) (bound.Computed f') e =
    let same-f : formula_at types f.value ≡ formula_at types f'.value = formula_from types f.value f'.value (e) in
    cc
bound_from types (bound.Computed _) _ e = absurd (true≢false (sym e))

pub bound_to : (types : List CxxType) (x y : Bound) → AreApart types → IsBoundBelow (length types) x → IsBoundBelow (length types) y → bound_at types x ≡ bound_at types y → same_bound x y ≡ true
bound_to types bound.Unknown bound.Unknown apart ok ok2 e = refl
bound_to types bound.Unknown _ apart ok ok2 e = absurd (cc)
bound_to types (bound.Number n) (bound.Number n') apart ok ok2 e =
    let same-n : n ≡ n' = cc in
    (eq-eqb _ _ same-n)
bound_to types (bound.Number _) _ apart ok ok2 e = absurd (cc)
bound_to types (bound.Computed f) (bound.Computed f') apart ok ok2 e =
    let same-f : formula_at types f.value ≡ formula_at types f'.value = cc in
    (formula_to types f.value f'.value apart ok ok2 same-f)
bound_to types (bound.Computed _) _ apart ok ok2 e = absurd (cc)

pub argument_from : (types : List CxxType) (x y : Argument) → same_argument x y ≡ true → argument_at types x ≡ argument_at types y
argument_from types (argument.OfType of) (argument.OfType of') e =
    let same-of : of.0 ≡ of'.0 = eqb-true _ _ (e) in
    cc
argument_from types (argument.OfType _) _ e = absurd (true≢false (sym e))
argument_from types (argument.Value value of) (argument.Value value' of') e =
    let p0 : (int_eq value value' ≡ true) × (nat_eq of.0 of'.0 ≡ true) = both _ _ e in
    let same-value : value ≡ value' = int_told _ _ (p0.0) in
    let same-of : of.0 ≡ of'.0 = eqb-true _ _ (p0.1) in
    cc
argument_from types (argument.Value _ _) _ e = absurd (true≢false (sym e))
argument_from types (argument.Computed f) (argument.Computed f') e =
    let same-f : formula_at types f.value ≡ formula_at types f'.value = formula_from types f.value f'.value (e) in
    cc
argument_from types (argument.Computed _) _ e = absurd (true≢false (sym e))

pub argument_to : (types : List CxxType) (x y : Argument) → AreApart types → IsArgumentBelow (length types) x → IsArgumentBelow (length types) y → argument_at types x ≡ argument_at types y → same_argument x y ≡ true
argument_to types (argument.OfType of) (argument.OfType of') apart ok ok2 e =
    let same-of : type_at types of.0 ≡ type_at types of'.0 = cc in
    (eq-eqb _ _ (apart of.0 of'.0 ok ok2 same-of))
argument_to types (argument.OfType _) _ apart ok ok2 e = absurd (cc)
argument_to types (argument.Value value of) (argument.Value value' of') apart ok ok2 e =
    let same-value : value ≡ value' = cc in
    let same-of : type_at types of.0 ≡ type_at types of'.0 = cc in
    (join _ _ (int_tells _ _ same-value) (eq-eqb _ _ (apart of.0 of'.0 ok ok2 same-of)))
argument_to types (argument.Value _ _) _ apart ok ok2 e = absurd (cc)
argument_to types (argument.Computed f) (argument.Computed f') apart ok ok2 e =
    let same-f : formula_at types f.value ≡ formula_at types f'.value = cc in
    (formula_to types f.value f'.value apart ok ok2 same-f)
argument_to types (argument.Computed _) _ apart ok ok2 e = absurd (cc)

pub arguments_from : (types : List CxxType) (x y : List Argument) → pointwise same_argument x y ≡ true → arguments_at types x ≡ arguments_at types y
arguments_from types [] [] e = refl
arguments_from types [] _ e = absurd (true≢false (sym e))
arguments_from types (x ∷ others) (x' ∷ others') e =
    let p0 : (same_argument x x' ≡ true) × (pointwise same_argument others others' ≡ true) = both _ _ e in
    let same-x : argument_at types x ≡ argument_at types x' = argument_from types x x' (p0.0) in
    let same-others : arguments_at types others ≡ arguments_at types others' = arguments_from types others others' (p0.1) in
    cc
arguments_from types (_ ∷ _) _ e = absurd (true≢false (sym e))

pub arguments_to : (types : List CxxType) (x y : List Argument) → AreApart types → AreArgumentsBelow (length types) x → AreArgumentsBelow (length types) y → arguments_at types x ≡ arguments_at types y → pointwise same_argument x y ≡ true
arguments_to types [] [] apart ok ok2 e = refl
arguments_to types [] _ apart ok ok2 e = absurd (cc)
arguments_to types (x ∷ others) (x' ∷ others') apart ok ok2 e =
    let same-x : argument_at types x ≡ argument_at types x' = cc in
    let same-others : arguments_at types others ≡ arguments_at types others' = cc in
    (join _ _ (argument_to types x x' apart ok.0 ok2.0 same-x) (arguments_to types others others' apart ok.1 ok2.1 same-others))
arguments_to types (_ ∷ _) _ apart ok ok2 e = absurd (cc)

pub types_from : (types : List CxxType) (x y : List TypeId) → pointwise same_id x y ≡ true → types_at types x ≡ types_at types y
types_from types [] [] e = refl
types_from types [] _ e = absurd (true≢false (sym e))
types_from types (of ∷ others) (of' ∷ others') e =
    let p0 : (nat_eq of.0 of'.0 ≡ true) × (pointwise same_id others others' ≡ true) = both _ _ e in
    let same-of : of.0 ≡ of'.0 = eqb-true _ _ (p0.0) in
    let same-others : types_at types others ≡ types_at types others' = types_from types others others' (p0.1) in
    cc
types_from types (_ ∷ _) _ e = absurd (true≢false (sym e))

pub types_to : (types : List CxxType) (x y : List TypeId) → AreApart types → AreTypesBelow (length types) x → AreTypesBelow (length types) y → types_at types x ≡ types_at types y → pointwise same_id x y ≡ true
types_to types [] [] apart ok ok2 e = refl
types_to types [] _ apart ok ok2 e = absurd (cc)
types_to types (of ∷ others) (of' ∷ others') apart ok ok2 e =
    let same-of : type_at types of.0 ≡ type_at types of'.0 = cc in
    let same-others : types_at types others ≡ types_at types others' = cc in
    (join _ _ (eq-eqb _ _ (apart of.0 of'.0 ok.0 ok2.0 same-of)) (types_to types others others' apart ok.1 ok2.1 same-others))
types_to types (_ ∷ _) _ apart ok ok2 e = absurd (cc)

pub node_from : (types : List CxxType) (x y : TypeNode) → same_node x y ≡ true → type_over types x ≡ type_over types y
node_from types (node.Plain base) (node.Plain base') e =
    let same-base : base ≡ base' = base_told base base' (e) in
    cc
node_from types (node.Plain _) _ e = absurd (true≢false (sym e))
node_from types (node.Class n) (node.Class n') e =
    let same-n : n.0 ≡ n'.0 = eqb-true _ _ (e) in
    cc
node_from types (node.Class _) _ e = absurd (true≢false (sym e))
node_from types (node.Enum n) (node.Enum n') e =
    let same-n : n.0 ≡ n'.0 = eqb-true _ _ (e) in
    cc
node_from types (node.Enum _) _ e = absurd (true≢false (sym e))
node_from types (node.Pointer of) (node.Pointer of') e =
    let same-of : of.0 ≡ of'.0 = eqb-true _ _ (e) in
    cc
node_from types (node.Pointer _) _ e = absurd (true≢false (sym e))
node_from types (node.Reference of) (node.Reference of') e =
    let same-of : of.0 ≡ of'.0 = eqb-true _ _ (e) in
    cc
node_from types (node.Reference _) _ e = absurd (true≢false (sym e))
node_from types (node.Array of b) (node.Array of' b') e =
    let p0 : (nat_eq of.0 of'.0 ≡ true) × (same_bound b b' ≡ true) = both _ _ e in
    let same-of : of.0 ≡ of'.0 = eqb-true _ _ (p0.0) in
    let same-b : bound_at types b ≡ bound_at types b' = bound_from types b b' (p0.1) in
    cc
node_from types (node.Array _ _) _ e = absurd (true≢false (sym e))
node_from types (node.Function r ts ellipsis cv) (node.Function r' ts' ellipsis' cv') e =
    let p0 : (nat_eq r.0 r'.0 ≡ true) × ((pointwise same_id ts ts' && (beq ellipsis ellipsis' && (beq cv.is_const cv'.is_const && beq cv.is_volatile cv'.is_volatile))) ≡ true) = both _ _ e in
    let p1 : (pointwise same_id ts ts' ≡ true) × ((beq ellipsis ellipsis' && (beq cv.is_const cv'.is_const && beq cv.is_volatile cv'.is_volatile)) ≡ true) = both _ _ p0.1 in
    let p2 : (beq ellipsis ellipsis' ≡ true) × ((beq cv.is_const cv'.is_const && beq cv.is_volatile cv'.is_volatile) ≡ true) = both _ _ p1.1 in
    let same-r : r.0 ≡ r'.0 = eqb-true _ _ (p0.0) in
    let same-ts : types_at types ts ≡ types_at types ts' = types_from types ts ts' (p1.0) in
    let same-ellipsis : ellipsis ≡ ellipsis' = bool_told _ _ (p2.0) in
    let same-cv : cv ≡ cv' = cv_told _ _ (p2.1) in
    cc
node_from types (node.Function _ _ _ _) _ e = absurd (true≢false (sym e))
node_from types (node.Qualified cv of) (node.Qualified cv' of') e =
    let p0 : ((beq cv.is_const cv'.is_const && beq cv.is_volatile cv'.is_volatile) ≡ true) × (nat_eq of.0 of'.0 ≡ true) = both _ _ e in
    let same-cv : cv ≡ cv' = cv_told _ _ (p0.0) in
    let same-of : of.0 ≡ of'.0 = eqb-true _ _ (p0.1) in
    cc
node_from types (node.Qualified _ _) _ e = absurd (true≢false (sym e))
node_from types (node.Parameter depth index) (node.Parameter depth' index') e =
    let p0 : (nat_eq depth depth' ≡ true) × (nat_eq index index' ≡ true) = both _ _ e in
    let same-depth : depth ≡ depth' = eqb-true _ _ (p0.0) in
    let same-index : index ≡ index' = eqb-true _ _ (p0.1) in
    cc
node_from types (node.Parameter _ _) _ e = absurd (true≢false (sym e))
node_from types (node.Special n given) (node.Special n' given') e =
    let p0 : (nat_eq n.0 n'.0 ≡ true) × (pointwise same_argument given given' ≡ true) = both _ _ e in
    let same-n : n.0 ≡ n'.0 = eqb-true _ _ (p0.0) in
    let same-given : arguments_at types given ≡ arguments_at types given' = arguments_from types given given' (p0.1) in
    cc
node_from types (node.Special _ _) _ e = absurd (true≢false (sym e))
node_from types (node.Nested of word) (node.Nested of' word') e =
    let p0 : (nat_eq of.0 of'.0 ≡ true) × (pointwise nat_eq word word' ≡ true) = both _ _ e in
    let same-of : of.0 ≡ of'.0 = eqb-true _ _ (p0.0) in
    let same-word : word ≡ word' = word_told _ _ (p0.1) in
    cc
node_from types (node.Nested _ _) _ e = absurd (true≢false (sym e))

pub node_to : (types : List CxxType) (x y : TypeNode) → AreApart types → IsNodeBelow (length types) x → IsNodeBelow (length types) y → type_over types x ≡ type_over types y → same_node x y ≡ true
node_to types (node.Plain base) (node.Plain base') apart ok ok2 e =
    let same-base : base ≡ base' = cc in
    (base_tells base base' same-base)
node_to types (node.Plain _) _ apart ok ok2 e = absurd (cc)
node_to types (node.Class n) (node.Class n') apart ok ok2 e =
    let same-n : n.0 ≡ n'.0 = cc in
    (eq-eqb _ _ same-n)
node_to types (node.Class _) _ apart ok ok2 e = absurd (cc)
node_to types (node.Enum n) (node.Enum n') apart ok ok2 e =
    let same-n : n.0 ≡ n'.0 = cc in
    (eq-eqb _ _ same-n)
node_to types (node.Enum _) _ apart ok ok2 e = absurd (cc)
node_to types (node.Pointer of) (node.Pointer of') apart ok ok2 e =
    let same-of : type_at types of.0 ≡ type_at types of'.0 = cc in
    (eq-eqb _ _ (apart of.0 of'.0 ok ok2 same-of))
node_to types (node.Pointer _) _ apart ok ok2 e = absurd (cc)
node_to types (node.Reference of) (node.Reference of') apart ok ok2 e =
    let same-of : type_at types of.0 ≡ type_at types of'.0 = cc in
    (eq-eqb _ _ (apart of.0 of'.0 ok ok2 same-of))
node_to types (node.Reference _) _ apart ok ok2 e = absurd (cc)
node_to types (node.Array of b) (node.Array of' b') apart ok ok2 e =
    let same-of : type_at types of.0 ≡ type_at types of'.0 = cc in
    let same-b : bound_at types b ≡ bound_at types b' = cc in
    (join _ _ (eq-eqb _ _ (apart of.0 of'.0 ok.0 ok2.0 same-of)) (bound_to types b b' apart ok.1 ok2.1 same-b))
node_to types (node.Array _ _) _ apart ok ok2 e = absurd (cc)
node_to types (node.Function r ts ellipsis cv) (node.Function r' ts' ellipsis' cv') apart ok ok2 e =
    let same-r : type_at types r.0 ≡ type_at types r'.0 = cc in
    let same-ts : types_at types ts ≡ types_at types ts' = cc in
    let same-ellipsis : ellipsis ≡ ellipsis' = cc in
    let same-cv : cv ≡ cv' = cc in
    (join _ _ (eq-eqb _ _ (apart r.0 r'.0 ok.0 ok2.0 same-r)) (join _ _ (types_to types ts ts' apart ok.1 ok2.1 same-ts) (join _ _ (bool_tells _ _ same-ellipsis) (cv_tells _ _ same-cv))))
node_to types (node.Function _ _ _ _) _ apart ok ok2 e = absurd (cc)
node_to types (node.Qualified cv of) (node.Qualified cv' of') apart ok ok2 e =
    let same-cv : cv ≡ cv' = cc in
    let same-of : type_at types of.0 ≡ type_at types of'.0 = cc in
    (join _ _ (cv_tells _ _ same-cv) (eq-eqb _ _ (apart of.0 of'.0 ok ok2 same-of)))
node_to types (node.Qualified _ _) _ apart ok ok2 e = absurd (cc)
node_to types (node.Parameter depth index) (node.Parameter depth' index') apart ok ok2 e =
    let same-depth : depth ≡ depth' = cc in
    let same-index : index ≡ index' = cc in
    (join _ _ (eq-eqb _ _ same-depth) (eq-eqb _ _ same-index))
node_to types (node.Parameter _ _) _ apart ok ok2 e = absurd (cc)
node_to types (node.Special n given) (node.Special n' given') apart ok ok2 e =
    let same-n : n.0 ≡ n'.0 = cc in
    let same-given : arguments_at types given ≡ arguments_at types given' = cc in
    (join _ _ (eq-eqb _ _ same-n) (arguments_to types given given' apart ok ok2 same-given))
node_to types (node.Special _ _) _ apart ok ok2 e = absurd (cc)
node_to types (node.Nested of word) (node.Nested of' word') apart ok ok2 e =
    let same-of : type_at types of.0 ≡ type_at types of'.0 = cc in
    let same-word : word ≡ word' = cc in
    (join _ _ (eq-eqb _ _ (apart of.0 of'.0 ok ok2 same-of)) (word_tells _ _ same-word))
node_to types (node.Nested _ _) _ apart ok ok2 e = absurd (cc)
