-- What the derived test of specialisations says: the same template and the same arguments, whatever types their numbers name.
use Rattle.std.specs.Prelude.{ℕ, zero, suc, ◌≡◌, ◌<◌, ◌+◌, Bool, true, false, ◌&&◌, nat_eq, List, [], ◌∷◌, length, refl}
use Rattle.std.specs.Cmp.Lexicographic.{pointwise}
use Rattle.std.proofs.Common.{ap, sym, ◌∙◌, arith}
use Rattle.std.proofs.lemmas.Bool.{eqb-true, eq-eqb}
use Rattle.cxx_model.specs.declared.base.Base.TheVariants.{Void}
use Rattle.cxx_model.specs.declared.facts.Specialisation.{Specialisation}
use Rattle.cxx_model.specs.declared.types.Formula.{Formula, Value, Parameter, Member, SizeOf, Cast', Unary', Binary', Conditional'}
use Rattle.cxx_model.specs.declared.types.Argument.{Argument}
use Rattle.cxx_model.specs.declared.types.Argument.TheVariants as argument
use Rattle.cxx_model.specs.declared.types.TemplateId.{TemplateId}
use Rattle.cxx_model.specs.contracts.facts.SpecialisationPartialEq.TheImpl as specialisation_test
use Rattle.cxx_model.specs.Types.Trees.{CxxType, fundamental, pointer_to}
use Rattle.cxx_model.specs.Types.Numbers.{AreApart, type_at, IsFormulaBelow, IsArgumentBelow, AreArgumentsBelow}
use Rattle.cxx_model.specs.Facts.Graph.{AreSameArguments}
use Rattle.cxx_model.proofs.Equal.{same_argument, arguments_from, arguments_to}
use Rattle.cxx_model.proofs.TypeTrees.{formula_later, argument_later, arguments_later}

abbrev pub same_specialisation : Specialisation → Specialisation → Bool
same_specialisation = specialisation_test.eq-value.it

-- ---- a list of types, as long as one wishes, in which no type stands twice

abbrev pointer : CxxType → ℕ → CxxType
pointer t zero = t
pointer t (suc n) = pointer (pointer_to t) n

abbrev pointers : CxxType → ℕ → List CxxType
pointers t zero = []
pointers t (suc n) = t ∷ pointers (pointer_to t) n

abbrev depth : CxxType → ℕ
depth (pointer_to t) = suc (depth t)
depth _ = zero

length-pointers : (t : CxxType) (n : ℕ) → length (pointers t n) ≡ n
length-pointers t zero = refl
length-pointers t (suc n) = ap suc (length-pointers (pointer_to t) n)

at-pointers : (t : CxxType) (n i : ℕ) → i < n → type_at (pointers t n) i ≡ pointer t i
at-pointers t zero i within = absurd (omega arith)
at-pointers t (suc n) zero within = refl
at-pointers t (suc n) (suc i) within = at-pointers (pointer_to t) n i (omega arith)

depth-pointer : (t : CxxType) (n : ℕ) → depth (pointer t n) ≡ depth t + n
depth-pointer t zero = omega arith
depth-pointer t (suc n) = (let e : depth (pointer (pointer_to t) n) ≡ suc (depth t) + n = depth-pointer (pointer_to t) n in omega arith)

apart-pointers : (t : CxxType) (n : ℕ) → AreApart (pointers t n)
apart-pointers t n i j p q e =
    let count : length (pointers t n) ≡ n = length-pointers t n in
    let one : type_at (pointers t n) i ≡ pointer t i = at-pointers t n i (omega arith) in
    let two : type_at (pointers t n) j ≡ pointer t j = at-pointers t n j (omega arith) in
    let deep : depth (pointer t i) ≡ depth (pointer t j) = ap depth (sym one ∙ e ∙ two) in
    omega (arith, depth-pointer t i, depth-pointer t j)

-- ---- a count above each number of a type in arguments

formula-below : (f : Formula) → (n : ℕ) × IsFormulaBelow n f
formula-below (Value value of) = (suc of.0, omega arith)
formula-below (Parameter depth index) = (0, tt)
formula-below (Member of word) = (suc of.0, omega arith)
formula-below (SizeOf of) = (suc of.0, omega arith)
formula-below (Cast' of p f) = (let b : (n : ℕ) × IsFormulaBelow n f = formula-below f in (suc of.0 + b.0, (omega arith, formula_later b.0 _ f (omega arith) b.1)))
formula-below (Unary' operator p f) = formula-below f
formula-below (Binary' operator p f q g) =
    let b : (n : ℕ) × IsFormulaBelow n f = formula-below f in
    let c : (n : ℕ) × IsFormulaBelow n g = formula-below g in
    (b.0 + c.0, (formula_later b.0 _ f (omega arith) b.1, formula_later c.0 _ g (omega arith) c.1))
formula-below (Conditional' p f q g r h) =
    let b : (n : ℕ) × IsFormulaBelow n f = formula-below f in
    let c : (n : ℕ) × IsFormulaBelow n g = formula-below g in
    let d : (n : ℕ) × IsFormulaBelow n h = formula-below h in
    (b.0 + c.0 + d.0, (formula_later b.0 _ f (omega arith) b.1, formula_later c.0 _ g (omega arith) c.1, formula_later d.0 _ h (omega arith) d.1))

argument-below : (a : Argument) → (n : ℕ) × IsArgumentBelow n a
argument-below (argument.OfType of) = (suc of.0, omega arith)
argument-below (argument.Value value of) = (suc of.0, omega arith)
argument-below (argument.Computed f) = formula-below f.value

arguments-below : (given : List Argument) → (n : ℕ) × AreArgumentsBelow n given
arguments-below [] = (0, tt)
arguments-below (a ∷ others) =
    let b : (n : ℕ) × IsArgumentBelow n a = argument-below a in
    let c : (n : ℕ) × AreArgumentsBelow n others = arguments-below others in
    (b.0 + c.0, (argument_later b.0 _ a (omega arith) b.1, arguments_later c.0 _ others (omega arith) c.1))

-- ---- the test

pub arguments-same : (one two : List Argument) → pointwise same_argument one two ≡ true → AreSameArguments one two
arguments-same one two e types = arguments_from types one two e

pub same-arguments : (one two : List Argument) → AreSameArguments one two → pointwise same_argument one two ≡ true
same-arguments one two same =
    let b : (n : ℕ) × AreArgumentsBelow n one = arguments-below one in
    let c : (n : ℕ) × AreArgumentsBelow n two = arguments-below two in
    let n : ℕ = b.0 + c.0 in
    let types : List CxxType = pointers (fundamental Void) n in
    let count : length types ≡ n = length-pointers (fundamental Void) n in
    arguments_to types one two (apart-pointers (fundamental Void) n) (arguments_later b.0 (length types) one (omega arith) b.1) (arguments_later c.0 (length types) two (omega arith) c.1) (same types)

both : (a b : Bool) → (a && b) ≡ true → (a ≡ true) × (b ≡ true)
both true b e = (refl, e)
both false b e = cc

join : (a b : Bool) → a ≡ true → b ≡ true → (a && b) ≡ true
join a b p q = cc

pub specialisation-same : (one two : Specialisation) → same_specialisation one two ≡ true → (one.template ≡ two.template) × AreSameArguments one.arguments two.arguments
specialisation-same one two e =
    let parts : (nat_eq one.template.0 two.template.0 ≡ true) × (pointwise same_argument one.arguments two.arguments ≡ true) = both _ _ e in
    let number : one.template.0 ≡ two.template.0 = eqb-true _ _ parts.0 in
    let named : ℕ → TemplateId = λ n. record { 0 = n } in
    (ap named number, arguments-same one.arguments two.arguments parts.1)

pub same-specialisation : (one two : Specialisation) → one.template ≡ two.template → AreSameArguments one.arguments two.arguments → same_specialisation one two ≡ true
same-specialisation one two template given = join _ _ (eq-eqb _ _ (ap (λ (t : TemplateId). t.0) template)) (same-arguments one.arguments two.arguments given)
