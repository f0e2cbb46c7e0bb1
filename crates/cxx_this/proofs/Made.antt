-- What is made of a declaration that is there, and of none.
use Rattle.std.specs.Prelude.{ℕ, ◌≡◌, Bool, true, false, if◌then◌else◌, length, Option, Some, None, Result, Ok, IfSome, option_map, refl}
use Rattle.std.specs.List.{slice_get}
use Rattle.std.proofs.Common.{ap, sym, subst, ◌∙◌}
use Rattle.cxx_model.specs.declared.facts.Fact.{Fact}
use Rattle.cxx_model.specs.declared.stop.Stop.{Stop}
use Rattle.cxx_model.specs.declared.types.FactId.{FactId}
use Rattle.cxx_model.specs.declared.types.ScopeId.{ScopeId}
use Rattle.cxx_model.specs.declared.types.TypeId.{TypeId}
use Rattle.cxx_model.specs.Facts.Declarations.{fact_at}
use Rattle.cxx_model.specs.Facts.Fitted.{Fitted, IsEntityBelow}
use Rattle.cxx_model.specs.Facts.Graph.{Graph}
use Rattle.cxx_model.specs.Types.Trees.{CxxType}
use Rattle.cxx_names.proofs.Clashing.{fact_below}
use Rattle.cxx_tree.proofs.Steps.{Later_refl}
use Rattle.cxx_tree.specs.Held.{Held, meaning}
use Rattle.cxx_this.proofs.Begun.{seen}
use Rattle.cxx_this.specs.Made.{MayMake}
use Rattle.cxx_this.specs.This.{function_round, object_of, this_in, this_object}

-- ---- a declaration

-- it is the one that is meant
pub there_is : (held : Held) (graph : Graph) (n : ℕ) (o : Option Fact) → graph ≡ held.graph → o ≡ slice_get graph.facts n → option_map (fact_at held.types) o ≡ slice_get (meaning held).graph.facts n
unfolding meaning
there_is held graph n o same at =
    ap (option_map (fact_at held.types)) (at ∙ ap (λ (g : Graph). slice_get g.facts n) same)
    ∙ sym (seen held.types held.graph.facts n)

-- the type in it is there
pub what_below : (held : Held) (graph : Graph) (n : ℕ) (o : Option Fact) → graph ≡ held.graph → Fitted held.graph held.types → o ≡ slice_get graph.facts n → IfSome o (λ fact. IsEntityBelow (length held.types) fact.what)
what_below held graph n None same fitted at = tt
what_below held graph n (Some fact) same fitted at = (fact_below (length held.types) held.graph.facts n fact fitted.numbers.facts (sym (at ∙ ap (λ (g : Graph). slice_get g.facts n) same))).what

-- ---- what is made

pub makes_none : (held : Held) (wanted : Option CxxType) → None ≡ wanted → MayMake held held (Ok None) wanted
makes_none held wanted none = record { later = Later_refl held; same = refl; made = (tt, none) }

pub makes_as : (old new : Held) (result : Result (Option TypeId) Stop) (one wanted : Option CxxType) → one ≡ wanted → MayMake old new result one → MayMake old new result wanted
makes_as old new result one wanted same made = subst (λ o. MayMake old new result o) same made

-- ---- where the reader stands

this_is : (held : Held) → this_object (meaning held) ≡ this_in (meaning held).graph held.scope.0 held.in_default
unfolding meaning
this_is held = refl

within : (held : Held) (scope : ℕ) (default : Bool) → this_in (meaning held).graph scope default ≡ (if default then None else object_of (meaning held).graph (function_round (meaning held).graph scope))
unfolding this_in
within held scope default = refl

-- 8.3.6: in a default argument there is none
pub none_in_default : (held : Held) (default : Bool) → default ≡ held.in_default → default ≡ true → None ≡ this_object (meaning held)
none_in_default held default is holds =
    sym (
    this_is held
    ∙ ap (this_in (meaning held).graph held.scope.0) (sym is ∙ holds)
    ∙ within held held.scope.0 true)

pub this_by_function : (held : Held) (default : Bool) (scope : ScopeId) (function : Option FactId) → default ≡ held.in_default → scope ≡ held.scope → default ≡ false → function ≡ function_round (meaning held).graph scope.0 → object_of (meaning held).graph function ≡ this_object (meaning held)
this_by_function held default scope function is here fails round =
    ap (object_of (meaning held).graph) round
    ∙ sym (
    this_is held
    ∙ ap (this_in (meaning held).graph held.scope.0) (sym is ∙ fails)
    ∙ within held held.scope.0 false
    ∙ ap (λ (s : ScopeId). object_of (meaning held).graph (function_round (meaning held).graph s.0)) (sym here))
