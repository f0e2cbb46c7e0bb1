-- The first of some declarations of a member.
use Rattle.std.specs.Prelude.{ℕ, ◌≡◌, List, [], ◌∷◌, Some}
use Rattle.std.proofs.Common.{ap, sym, ◌∙◌}
use Rattle.std.specs.List.{slice_get}
use Rattle.cxx_model.specs.declared.types.FactId.{FactId}
use Rattle.cxx_model.specs.Facts.Declarations.{CxxFact}
use Rattle.cxx_meaning.specs.Conversions.Standard.{CxxOperand}
use Rattle.cxx_reading.specs.Seen.{Numbered}
use Rattle.cxx_reading.specs.Trees.{CxxPathPart}
use Rattle.cxx_tree.specs.Held.{Held, meaning}
use Rattle.cxx_expr.specs.Implied.{object_of_first}
use Rattle.cxx_expr.specs.Members.{selected_first, selected_value}
use Rattle.cxx_expr.specs.Views.{numbered, with_fact}
use Rattle.cxx_called.specs.Tails.{object_of_fact}

value_by : (held : Held) (part : CxxPathPart) (behind : List ℕ) (object : CxxOperand) (all : List Numbered) (number : FactId) (numbers : List FactId) (fact : CxxFact) → slice_get (meaning held).graph.facts number.0 ≡ Some fact
    → selected_value part behind object all (numbered held (number ∷ numbers)) (meaning held) ≡ selected_first part behind object (meaning held).graph (meaning held).here.enumeration (record { number = number.0; fact = fact } ∷ numbered held numbers) number.0 fact.what (meaning held)
value_by held part behind object all number numbers fact at = ap (λ o. selected_value part behind object all (with_fact number.0 o (numbered held numbers)) (meaning held)) at

first_is : (held : Held) (number : FactId) (numbers : List FactId) (fact : CxxFact) → slice_get (meaning held).graph.facts number.0 ≡ Some fact → numbered held (number ∷ numbers) ≡ record { number = number.0; fact = fact } ∷ numbered held numbers
first_is held number numbers fact at = ap (λ o. with_fact number.0 o (numbered held numbers)) at

pub value_first : (held : Held) (part : CxxPathPart) (behind : List ℕ) (object : CxxOperand) (all : List Numbered) (number : FactId) (numbers : List FactId) (fact : CxxFact) → slice_get (meaning held).graph.facts number.0 ≡ Some fact
    → selected_value part behind object all (numbered held (number ∷ numbers)) (meaning held) ≡ selected_first part behind object (meaning held).graph (meaning held).here.enumeration (numbered held (number ∷ numbers)) number.0 fact.what (meaning held)
value_first held part behind object all number numbers fact at =
    value_by held part behind object all number numbers fact at
    ∙ ap (λ values. selected_first part behind object (meaning held).graph (meaning held).here.enumeration values number.0 fact.what (meaning held)) (sym (first_is held number numbers fact at))

pub object_first : (held : Held) (number : FactId) (numbers : List FactId) (fact : CxxFact) → slice_get (meaning held).graph.facts number.0 ≡ Some fact → object_of_first (meaning held) (numbered held (number ∷ numbers)) ≡ object_of_fact (meaning held) fact.scope fact.what
object_first held number numbers fact at = ap (λ o. object_of_first (meaning held) (with_fact number.0 o (numbered held numbers))) at
