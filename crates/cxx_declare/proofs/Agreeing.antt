-- Members that are declared outside of their namespace (8.3).
use Rattle.std.specs.Prelude.{ℕ, ◌≡◌, ◌<◌, ◌+◌, Bool, true, false, ◌&&◌, ◌||◌, nat_eq, List, [], ◌∷◌, length, Option, Some, None, option_map, Result, refl}
use Rattle.std.specs.List.{slice_get}
use Rattle.std.proofs.Common.{ap, sym, subst, ◌∙◌, drop, get_or}
use Rattle.std.proofs.lemmas.List.{at_drop_more}
use Rattle.cxx_model.specs.declared.facts.Fact.{Fact}
use Rattle.cxx_model.specs.declared.place.Place.{Place}
use Rattle.cxx_model.specs.declared.stop.Stop.{Stop}
use Rattle.cxx_model.specs.declared.token.TokenKind.{TokenKind}
use Rattle.cxx_model.specs.declared.types.FactId.{FactId}
use Rattle.cxx_model.specs.Facts.Declarations.{CxxFact, CxxGraph, declares_at, fact_at, graph_at, spelled}
use Rattle.cxx_model.specs.Facts.Fitted.{Fitted, IsEntityBelow}
use Rattle.cxx_model.specs.Facts.Graph.{Graph}
use Rattle.cxx_model.specs.Types.Trees.{CxxType}
use Rattle.cxx_reading.specs.declared.region.Region.{Region}
use Rattle.cxx_reading.specs.Declaring.{class_of_here}
use Rattle.cxx_reading.specs.Linked.{home_of}
use Rattle.cxx_declare.specs.Outside.{agree_here, agreed_by, agrees, any_agrees, region_in}
use Rattle.cxx_reading.specs.Paths.{found_in}
use Rattle.cxx_reading.specs.Seen.{Numbered, fact_numbers, numbered_at, numbered_by}
use Rattle.cxx_declare.specs.Made.{token}
use Rattle.cxx_paths.proofs.Places.{fact_seen}
use Rattle.cxx_tree.specs.Answered.{AnyKnown, IsAnswered, itself}
use Rattle.cxx_names.proofs.Clashing.{fact_below}
use Rattle.cxx_tree.specs.Held.{Held, meaning}

-- ---- one declaration

or_none : (b : Bool) → (b || false) ≡ b
or_none true = refl
or_none false = refl

pub agrees_none : (held : Held) (graph : Graph) (is_typedef : Bool) (of : CxxType) (n : ℕ) → graph ≡ held.graph → slice_get graph.facts n ≡ None → false ≡ any_agrees (meaning held).graph (meaning held).here.scope is_typedef of (numbered_at (meaning held).graph (n ∷ []))
unfolding meaning
agrees_none held graph is_typedef of n same e =
    sym (ap (λ (o : Option CxxFact). any_agrees (graph_at held.types held.graph) held.scope.0 is_typedef of (numbered_by n o [])) (fact_seen held.types held.graph.facts n ∙ ap (option_map (fact_at held.types)) (subst (λ (g : Graph). slice_get g.facts n ≡ None) same e)))

pub agrees_one : (held : Held) (graph : Graph) (is_typedef : Bool) (of : CxxType) (n : ℕ) (fact : Fact) (b : Bool) → graph ≡ held.graph → slice_get graph.facts n ≡ Some fact → b ≡ ((nat_eq fact.scope.0 (meaning held).here.scope || nat_eq (home_of (meaning held).graph fact.scope.0) (meaning held).here.scope) && agrees is_typedef of (declares_at held.types fact.what)) → b ≡ any_agrees (meaning held).graph (meaning held).here.scope is_typedef of (numbered_at (meaning held).graph (n ∷ []))
unfolding meaning
agrees_one held graph is_typedef of n fact b same e is =
    is
    ∙ sym (or_none ((nat_eq fact.scope.0 held.scope.0 || nat_eq (home_of (graph_at held.types held.graph) fact.scope.0) held.scope.0) && agrees is_typedef of (declares_at held.types fact.what)))
    ∙ sym (ap (λ (o : Option CxxFact). any_agrees (graph_at held.types held.graph) held.scope.0 is_typedef of (numbered_by n o [])) (fact_seen held.types held.graph.facts n ∙ ap (option_map (fact_at held.types)) (subst (λ (g : Graph). slice_get g.facts n ≡ Some fact) same e)))

pub entity_below : (held : Held) (graph : Graph) (n : ℕ) (fact : Fact) → graph ≡ held.graph → Fitted held.graph held.types → slice_get graph.facts n ≡ Some fact → IsEntityBelow (length held.types) fact.what
entity_below held graph n fact same fitted e = (fact_below (length held.types) held.graph.facts n fact fitted.numbers.facts (subst (λ (g : Graph). slice_get g.facts n ≡ Some fact) same e)).what

-- ---- one after another

or_join : (a b : Bool) → (a || b) ≡ ((a || false) || b)
or_join true b = refl
or_join false b = refl

pub agrees_more : (graph : CxxGraph) (space : ℕ) (is_typedef : Bool) (of : CxxType) (n : ℕ) (others : List ℕ) → any_agrees graph space is_typedef of (numbered_at graph (n ∷ others)) ≡ (any_agrees graph space is_typedef of (numbered_at graph (n ∷ [])) || any_agrees graph space is_typedef of (numbered_at graph others))
agrees_more graph space is_typedef of n others = by (slice_get graph.facts n)
  where
    by : (o : Option CxxFact) → any_agrees graph space is_typedef of (numbered_by n o (numbered_at graph others)) ≡ (any_agrees graph space is_typedef of (numbered_by n o []) || any_agrees graph space is_typedef of (numbered_at graph others))
    by None = refl
    by (Some fact) = or_join ((nat_eq fact.scope space || nat_eq (home_of graph fact.scope) space) && agrees is_typedef of fact.what) (any_agrees graph space is_typedef of (numbered_at graph others))

pub agrees_goes : (graph : CxxGraph) (space : ℕ) (is_typedef : Bool) (of : CxxType) (numbers : List FactId) (i : ℕ) (d : FactId) (whole : Bool) → i < length numbers → any_agrees graph space is_typedef of (numbered_at graph ((get_or numbers i d).0 ∷ [])) ≡ false → any_agrees graph space is_typedef of (numbered_at graph (fact_numbers (drop i numbers))) ≡ whole → any_agrees graph space is_typedef of (numbered_at graph (fact_numbers (drop (i + 1) numbers))) ≡ whole
agrees_goes graph space is_typedef of numbers i d whole within none same =
    ap (λ b. b || any_agrees graph space is_typedef of (numbered_at graph (fact_numbers (drop (i + 1) numbers)))) (sym none)
    ∙ sym (agrees_more graph space is_typedef of (get_or numbers i d).0 (fact_numbers (drop (i + 1) numbers)))
    ∙ sym (at_drop_more (λ ns. any_agrees graph space is_typedef of (numbered_at graph (fact_numbers ns))) numbers i d within)
    ∙ same

pub agrees_stops : (graph : CxxGraph) (space : ℕ) (is_typedef : Bool) (of : CxxType) (numbers : List FactId) (i : ℕ) (d : FactId) (whole : Bool) → i < length numbers → any_agrees graph space is_typedef of (numbered_at graph ((get_or numbers i d).0 ∷ [])) ≡ true → any_agrees graph space is_typedef of (numbered_at graph (fact_numbers (drop i numbers))) ≡ whole → true ≡ whole
agrees_stops graph space is_typedef of numbers i d whole within one same =
    ap (λ b. b || any_agrees graph space is_typedef of (numbered_at graph (fact_numbers (drop (i + 1) numbers)))) (sym one)
    ∙ sym (agrees_more graph space is_typedef of (get_or numbers i d).0 (fact_numbers (drop (i + 1) numbers)))
    ∙ sym (at_drop_more (λ ns. any_agrees graph space is_typedef of (numbered_at graph (fact_numbers ns))) numbers i d within)
    ∙ same

-- ---- what is answered

pub agreed_here : (held : Held) (is_typedef : Bool) (kind : TokenKind) (place : Place) (word : List ℕ) (of : CxxType) (all : List Numbered) (where_ : Region) (r : Result (Unit {0}) Stop) → where_ ≡ region_in (meaning held).here.scope (class_of_here (meaning held)) → all ≡ found_in (meaning held).graph where_ (spelled word) → IsAnswered itself AnyKnown held held r (agreed_by (token kind place word) all (any_agrees (meaning held).graph (meaning held).here.scope is_typedef of all) (meaning held)) → IsAnswered itself AnyKnown held held r (agree_here is_typedef (token kind place word) of (meaning held))
unfolding agree_here meaning
agreed_here held is_typedef kind place word of all where_ r at is answered = subst (λ some. IsAnswered itself AnyKnown held held r (agreed_by (token kind place word) some (any_agrees (meaning held).graph (meaning held).here.scope is_typedef of some) (meaning held))) (is ∙ ap (λ (w : Region). found_in (meaning held).graph w (spelled word)) at) answered
