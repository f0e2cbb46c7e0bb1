-- The linked declarations that declare members of a namespace are those of the definitions.
use Rattle.std.proofs.Common.{◌≡◌, ℕ, Bool, true, false, cond, ◌&&◌, ◌||◌, nat_eq, List, [], ◌∷◌, Option, Some, None, option_map, refl, sym, ap, subst, ◌∙◌}
use Rattle.std.specs.List.{slice_get}
use Rattle.cxx_linked.proofs.Filing.{home_is, turned}
use Rattle.cxx_linked.specs.Links.{holds_fact, is_linked_to, linked_to}
use Rattle.cxx_model.specs.declared.facts.Fact.{Fact}
use Rattle.cxx_model.specs.declared.facts.Name.{Name}
use Rattle.cxx_model.specs.declared.facts.Name.TheVariants as name
use Rattle.cxx_model.specs.declared.types.FactId.{FactId}
use Rattle.cxx_model.specs.declared.types.ScopeId.{ScopeId}
use Rattle.cxx_model.specs.Facts.Conflicts.{same_name}
use Rattle.cxx_model.specs.Facts.Declarations.{CxxGraph, fact_at, facts_at, graph_at, name_at, spelled}
use Rattle.cxx_model.specs.Facts.Graph.{Graph}
use Rattle.cxx_model.specs.Types.Trees.{CxxType}
use Rattle.cxx_names.proofs.Looking.{numbered_is}
use Rattle.cxx_names.specs.Looked.{looked_up}
use Rattle.cxx_names.specs.Words.{is_text}
use Rattle.cxx_reading.specs.Linked.{home_of, is_among, is_linked_as, linked_among, linked_in}
use Rattle.cxx_reading.specs.Seen.{Numbered, fact_numbers, numbered_at, numbered_by}
use Rattle.cxx_tree.specs.Held.{Held, meaning, numbers_at}
use Rattle.cxx_tree.proofs.Giving.{stored}

text_same : (types : List CxxType) (word : List ℕ) (what : Name) → is_text what word ≡ same_name (name_at types what) (spelled word)
text_same types word name.Unnamed = refl
text_same types word (name.Spelled other) = refl
text_same types word (name.Operator operator) = refl
text_same types word (name.Conversion of) = refl
text_same types word name.Destructor = refl

module _ (types : List CxxType) (graph : Graph) (space : ℕ) (word : List ℕ) where
  abbrev g : CxxGraph
  g = graph_at types graph

  told : (number : FactId) (o : Option Fact) → slice_get graph.facts number.0 ≡ o → slice_get (facts_at types graph.facts) number.0 ≡ option_map (fact_at types) o
  told number o at = stored types graph.facts number.0 ∙ ap (option_map (fact_at types)) at

  same_test : (number : ℕ) (fact : Fact) → is_linked_to types graph.facts space word (Some fact) ≡ is_linked_as g space (spelled word) (record { number = number; fact = fact_at types fact })
  same_test number fact = ap (λ n. nat_eq n space && is_text fact.name word) (sym (home_is types graph fact.scope)) ∙ ap (λ b. nat_eq (home_of g fact.scope.0) space && b) (text_same types word fact.name)

  among_numbers : (linked : List FactId) → numbered_at g (fact_numbers (linked_to types graph.facts space word linked)) ≡ linked_among g space (spelled word) (numbered_at g (numbers_at linked))
  among_numbers [] = refl
  among_numbers (one ∷ others) = by (slice_get graph.facts one.0) refl (among_numbers others)
    where
      rest : List FactId
      rest = linked_to types graph.facts space word others

      after : List Numbered
      after = numbered_at g (numbers_at others)

      all : List Numbered
      all = linked_among g space (spelled word) after

      with_fact : (fact : Fact) (b : Bool) → slice_get graph.facts one.0 ≡ Some fact → numbered_at g (fact_numbers rest) ≡ all → numbered_at g (fact_numbers (cond b (one ∷ rest) rest)) ≡ cond b (record { number = one.0; fact = fact_at types fact } ∷ all) all
      with_fact fact true at later =
          ap (λ o. numbered_by one.0 o (numbered_at g (fact_numbers rest))) (told one (Some fact) at)
          ∙ ap (λ (ns : List Numbered). record { number = one.0; fact = fact_at types fact } ∷ ns) later
      with_fact fact false at later = later

      by : (o : Option Fact) → slice_get graph.facts one.0 ≡ o → numbered_at g (fact_numbers rest) ≡ all
          → numbered_at g (fact_numbers (cond (is_linked_to types graph.facts space word o) (one ∷ rest) rest)) ≡ linked_among g space (spelled word) (numbered_by one.0 (slice_get (facts_at types graph.facts) one.0) after)
      by None at later = later ∙ sym (ap (λ o. linked_among g space (spelled word) (numbered_by one.0 o after)) (told one None at))
      by (Some fact) at later =
          with_fact fact (is_linked_to types graph.facts space word (Some fact)) at later
          ∙ (ap (λ b. cond b (record { number = one.0; fact = fact_at types fact } ∷ all) all) (same_test one.0 fact)
          ∙ sym (ap (λ o. linked_among g space (spelled word) (numbered_by one.0 o after)) (told one (Some fact) at)))

pub linked_numbered : (seen held : Held) (space : ScopeId) (word : List ℕ) (found : List FactId) → held ≡ seen → found ≡ linked_to held.types held.graph.facts space.0 word held.linked
    → numbered_at (graph_at seen.types seen.graph) (fact_numbers found) ≡ linked_in (meaning seen) space.0 (spelled word)
unfolding meaning linked_in
linked_numbered seen held space word found same are =
    subst (λ (h : Held). numbered_at (graph_at h.types h.graph) (fact_numbers found) ≡ linked_among (graph_at h.types h.graph) space.0 (spelled word) (numbered_at (graph_at h.types h.graph) (numbers_at h.linked))) same
    (ap (λ ns. numbered_at (graph_at held.types held.graph) (fact_numbers ns)) are ∙ among_numbers held.types held.graph space.0 word held.linked)

pub linked_looked : (seen held : Held) (space : ScopeId) (word : List ℕ) (found : List FactId) → held ≡ seen → found ≡ linked_to held.types held.graph.facts space.0 word held.linked
    → looked_up seen.types seen.graph.facts found ≡ linked_in (meaning seen) space.0 (spelled word)
linked_looked seen held space word found same are = sym (numbered_is seen.types seen.graph found) ∙ linked_numbered seen held space word found same are

-- ---- whether one is linked

held_numbers : (linked : List FactId) (number : FactId) → holds_fact linked number ≡ is_among number.0 (numbers_at linked)
held_numbers [] number = refl
held_numbers (one ∷ others) number = ap (λ b. b || holds_fact others number) (turned number.0 one.0) ∙ ap (λ b. nat_eq one.0 number.0 || b) (held_numbers others number)

pub linked_is : (seen held : Held) (number : FactId) (result : Bool) → held ≡ seen → result ≡ holds_fact held.linked number → result ≡ is_among number.0 (meaning seen).linked
unfolding meaning
linked_is seen held number result same is = subst (λ (h : Held). result ≡ is_among number.0 (numbers_at h.linked)) same (is ∙ held_numbers held.linked number)
