-- The lines of a plain form, one after another.
use Rattle.std.proofs.Common.{◌≡◌, false, ℕ, zero, suc, ◌<◌, List, [], ◌∷◌, length, get_or, map, Some, None, option_map, refl, ap, sym, ◌∙◌, arith}
use Rattle.std.specs.List.{slice_get}
use Rattle.cxx_model.specs.declared.base.Base.TheVariants.{Void}
use Rattle.cxx_model.specs.declared.facts.Access.{Access}
use Rattle.cxx_model.specs.declared.facts.Fact.{Fact}
use Rattle.cxx_model.specs.declared.place.Place.{Place}
use Rattle.cxx_model.specs.Facts.Declarations as facts
use Rattle.cxx_model.specs.Facts.Declarations.{declares_at, fact_at, CxxFact, CxxName, Declares}
use Rattle.cxx_model.specs.Types.Trees.{fundamental}
use Rattle.cxx_reading.specs.Plain.{type_of_function}
use Rattle.cxx_reading.specs.Specifiers.{class_key}
use Rattle.cxx_tree.specs.Held.{Held}
use Rattle.cxx_form.specs.declared.lines.Line.{Line}
use Rattle.cxx_form.specs.Functions.{function_type_by}
use Rattle.cxx_form.specs.Lines.{AreLinesBelow, IsLineBelow}
use Rattle.cxx_form.specs.Text.{class_key_of}
use Rattle.cxx_form.specs.Views.{facts_in}
use Rattle.cxx_form.proofs.Gathering.{fact_is}

type_read : (place : Place) (scope : ℕ) (name : CxxName) (rights : Access) (what : Declares) → type_of_function (Some (record { place = place; scope = scope; name = name; access = rights; what = what })) ≡ function_type_by what
type_read place scope name rights (facts.scope parent kind) = refl
type_read place scope name rights (facts.object of member is_mutable value first) = refl
type_read place scope name rights (facts.function of member flags defaults first) = refl
type_read place scope name rights (facts.template template member defaults is_explicit first) = refl
type_read place scope name rights (facts.value_parameter depth index of) = refl
type_read place scope name rights (facts.injected class) = refl
type_read place scope name rights (facts.class class is_union) = refl
type_read place scope name rights (facts.complete class) = refl
type_read place scope name rights (facts.passed class) = refl
type_read place scope name rights (facts.ancestor class parent index access) = refl
type_read place scope name rights (facts.enumeration m) = refl
type_read place scope name rights (facts.enumerator m value) = refl
type_read place scope name rights (facts.synonym of) = refl
type_read place scope name rights (facts.namespace inner) = refl
type_read place scope name rights (facts.directive nominated) = refl
type_read place scope name rights (facts.using target) = refl
type_read place scope name rights (facts.friend class target) = refl

pub type_found : (held : Held) (number : ℕ) (fact : Fact) → Some fact ≡ slice_get held.graph.facts number → function_type_by (declares_at held.types fact.what) ≡ type_of_function (slice_get (facts_in held) number)
type_found held number fact is =
    let one : CxxFact = fact_at held.types fact in
    sym (ap type_of_function (fact_is held.types held.graph.facts number ∙ ap (option_map (fact_at held.types)) (sym is)) ∙ type_read one.place one.scope one.name one.access one.what)

pub no_type : (held : Held) (number : ℕ) → None ≡ slice_get held.graph.facts number → fundamental Void ≡ type_of_function (slice_get (facts_in held) number)
no_type held number is = sym (ap type_of_function (fact_is held.types held.graph.facts number ∙ ap (option_map (fact_at held.types)) (sym is)))

pub key_found : (held : Held) (number : ℕ) (fact : Fact) (key : List ℕ) → Some fact ≡ slice_get held.graph.facts number → key ≡ class_key_of (Some (fact_at held.types fact)) → key ≡ class_key_of (slice_get (facts_in held) number)
key_found held number fact key is e = e ∙ sym (ap class_key_of (fact_is held.types held.graph.facts number ∙ ap (option_map (fact_at held.types)) (sym is)))

pub no_key : (held : Held) (number : ℕ) → None ≡ slice_get held.graph.facts number → class_key false ≡ class_key_of (slice_get (facts_in held) number)
no_key held number is = sym (ap class_key_of (fact_is held.types held.graph.facts number ∙ ap (option_map (fact_at held.types)) (sym is)))

pub line_below : (count : ℕ) (lines : List Line) (i : ℕ) (d : Line) → AreLinesBelow count lines → i < length lines → IsLineBelow count (get_or lines i d)
line_below count [] i d all within = absurd (omega arith)
line_below count (first ∷ lines) zero d all within = all.0
line_below count (first ∷ lines) (suc i) d all within = line_below count lines i d all.1 (omega arith)

pub map_map : {A B C : Type 0} (f : A → B) (g : B → C) (xs : List A) → map g (map f xs) ≡ map (λ x. g (f x)) xs
map_map f g [] = refl
map_map f g (x ∷ xs) = ap (λ ys. g (f x) ∷ ys) (map_map f g xs)
