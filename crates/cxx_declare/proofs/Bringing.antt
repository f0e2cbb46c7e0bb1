-- Using-declarations (7.3.3).
use Rattle.std.specs.Prelude.{ℕ, zero, suc, ◌≡◌, ◌<◌, ◌≤◌, ◌+◌, Bool, true, false, if◌then◌else◌, List, [], ◌∷◌, length, Option, Some, None, option_map, Result, Ok, Err, IfOk, refl}
use Rattle.std.specs.List.{slice_get}
use Rattle.std.proofs.Common.{ap, sym, subst, ◌∙◌, arith, drop, get_or}
use Rattle.std.proofs.lemmas.List.{at_drop_all, at_drop_more}
use Rattle.cxx_model.specs.declared.facts.Entity.TheVariants as entity
use Rattle.cxx_model.specs.declared.facts.Fact.{Fact}
use Rattle.cxx_model.specs.declared.facts.Name.TheVariants as name
use Rattle.cxx_model.specs.declared.lookup.Found.{Found}
use Rattle.cxx_model.specs.declared.memory.OutOfMemory.{OutOfMemory}
use Rattle.cxx_model.specs.declared.place.Place.{Place}
use Rattle.cxx_model.specs.declared.stop.Stop.{Stop}
use Rattle.cxx_model.specs.declared.types.FactId.{FactId}
use Rattle.cxx_model.specs.declared.types.ScopeId.{ScopeId}
use Rattle.cxx_model.specs.Facts.Declarations.{CxxFact, CxxGraph, declares_at, fact_at, facts_at, graph_at, spelled}
use Rattle.cxx_model.specs.Facts.Graph.{Graph, InRange}
use Rattle.cxx_model.specs.Stops.{Answer, Stops, ◌>>=◌}
use Rattle.cxx_model.specs.Types.Trees.{CxxType}
use Rattle.cxx_meaning.specs.Lookups.Qualified.{brought}
use Rattle.cxx_meaning.specs.Lookups.Wanted.{names_space}
use Rattle.cxx_reading.specs.declared.region.Region.TheVariants.{Inside}
use Rattle.cxx_reading.specs.Declaring.{declare}
use Rattle.cxx_reading.specs.Seen.{fact_numbers, found_or_none, numbered_at, numbered_by}
use Rattle.cxx_reading.specs.State.{CxxState}
use Rattle.cxx_reading.specs.Trees.{CxxPathPart}
use Rattle.cxx_reading.specs.Usings.{bring_each, brought_in, space_among, using_fact}
use Rattle.cxx_declare.specs.Brought.{AreFoundThere, AreThere, place_of_space}
use Rattle.cxx_declare.specs.Made.{made, word_in}
use Rattle.cxx_declare.specs.Opened.{told_declared}
use Rattle.cxx_declare.proofs.Brought.{found_there}
use Rattle.cxx_paths.proofs.Places.{fact_seen}
use Rattle.cxx_paths.proofs.Stopping.{stopped_on}
use Rattle.cxx_tree.specs.Answered.{AnyKnown, IsAnswered, itself}
use Rattle.cxx_tree.specs.Held.{Held, meaning}
use Rattle.cxx_tree.specs.Later.{Later}
use Rattle.cxx_tree.proofs.Steps.{Later_trans}

-- ---- one entity

pub one_brought : (old new : Held) (part : CxxPathPart) (place : Place) (word : List ℕ) (target : FactId) (fact : Fact) (r : Result (Unit {0}) Stop) → place ≡ part.place → word ≡ part.word → fact ≡ made old.scope place (name.Spelled word) (entity.Using target) → IsAnswered itself AnyKnown old new r (told_declared (fact_at old.types fact) (word_in fact.name) (meaning old)) → IsAnswered itself AnyKnown old new r (bring_each part (target ∷ []) (meaning old))
unfolding bring_each meaning
one_brought old new part place word target fact r stands named is answered =
    subst (λ (w : List ℕ). IsAnswered itself AnyKnown old new r (told_declared (fact_at old.types (made old.scope part.place (name.Spelled w) (entity.Using target))) w (meaning old))) named
    (subst (λ (p : Place). IsAnswered itself AnyKnown old new r (told_declared (fact_at old.types (made old.scope p (name.Spelled word) (entity.Using target))) word (meaning old))) stands
    (subst (λ (f : Fact). IsAnswered itself AnyKnown old new r (told_declared (fact_at old.types f) (word_in f.name) (meaning old))) is answered))

pub longer_still : (one two three : ℕ) → one ≤ two → two ≤ three → one ≤ three
longer_still one two three p q = omega (arith, p, q)

-- ---- one after another

abbrev without_number : Answer (ℕ × CxxState) → Answer (Unit {0} × CxxState)
without_number a = a >>= λ answer. Ok (tt, answer.1)

bring_more : (part : CxxPathPart) (target : FactId) (others : List FactId) (state : CxxState) → bring_each part (target ∷ others) state ≡ (bring_each part (target ∷ []) state >>= λ answer. bring_each part others answer.1)
unfolding bring_each
bring_more part target others state = by (declare (using_fact state part target) part.word state)
  where
    by : (a : Answer (ℕ × CxxState)) → (a >>= λ answer. bring_each part others answer.1) ≡ (without_number a >>= λ answer. bring_each part others answer.1)
    by (Ok both) = refl
    by (Err why) = refl

pub one_there : (one two : ℕ) (targets : List FactId) (i : ℕ) (target d : FactId) → one ≤ two → AreThere one targets → i < length targets → target ≡ get_or targets i d → target.0 < two
one_there one two [] i target d le ok within is = absurd (let less : i < 0 = within in omega arith)
one_there one two (n ∷ targets) zero target d le ok within is = subst (λ (x : FactId). x.0 < two) (sym is) (omega (arith, le, ok.0))
one_there one two (n ∷ targets) (suc i) target d le ok within is = one_there one two targets i target d le ok.1 (omega (arith, within)) is

pub brought_step : (now new : Held) (part : CxxPathPart) (targets : List FactId) (i : ℕ) (target d : FactId) (whole : Answer (Unit {0} × CxxState)) → i < length targets → target ≡ get_or targets i d → IsAnswered itself AnyKnown now new (Ok tt) (bring_each part (target ∷ []) (meaning now)) → bring_each part (drop i targets) (meaning now) ≡ whole → bring_each part (drop (i + 1) targets) (meaning new) ≡ whole
brought_step now new part targets i target d whole within is answered same =
    sym (ap (λ (a : Answer (Unit {0} × CxxState)). a >>= λ answer. bring_each part (drop (i + 1) targets) answer.1) answered.is.0)
    ∙ sym (bring_more part target (drop (i + 1) targets) (meaning now))
    ∙ ap (λ (n : FactId). bring_each part (n ∷ drop (i + 1) targets) (meaning now)) is
    ∙ sym (at_drop_more (λ ns. bring_each part ns (meaning now)) targets i d within)
    ∙ same

pub brought_stops : (first now new : Held) (part : CxxPathPart) (targets : List FactId) (i : ℕ) (target d : FactId) (why : Stop) → i < length targets → target ≡ get_or targets i d → Later first now → IsAnswered itself AnyKnown now new (Err why) (bring_each part (target ∷ []) (meaning now)) → bring_each part (drop i targets) (meaning now) ≡ bring_each part targets (meaning first) → IsAnswered itself AnyKnown first new (Err why) (bring_each part targets (meaning first))
brought_stops first now new part targets i target d why within is later answered same = record {
  is = subst (λ a. Stops why a)
      (sym (bring_more part target (drop (i + 1) targets) (meaning now)) ∙ ap (λ (n : FactId). bring_each part (n ∷ drop (i + 1) targets) (meaning now)) is ∙ sym (at_drop_more (λ ns. bring_each part ns (meaning now)) targets i d within) ∙ same)
      (stopped_on why (bring_each part (target ∷ []) (meaning now)) (λ answer. bring_each part (drop (i + 1) targets) answer.1) answered.is);
  later = Later_trans first now new later answered.later;
}

pub brought_all : (first now : Held) (part : CxxPathPart) (targets : List FactId) (i : ℕ) → length targets ≤ i → Later first now → bring_each part (drop i targets) (meaning now) ≡ bring_each part targets (meaning first) → IsAnswered itself AnyKnown first now (Ok tt) (bring_each part targets (meaning first))
unfolding bring_each
brought_all first now part targets i past later same = record { is = (sym same ∙ at_drop_all (λ ns. bring_each part ns (meaning now)) targets i past, tt); later = later }

-- ---- namespaces among them

-- where one declaration stands
pub space_none : (types : List CxxType) (graph : Graph) (n : ℕ) → slice_get graph.facts n ≡ None → None ≡ place_of_space (space_among (numbered_at (graph_at types graph) (n ∷ [])))
space_none types graph n e = sym (ap (λ (o : Option CxxFact). place_of_space (space_among (numbered_by n o []))) (fact_seen types graph.facts n ∙ ap (option_map (fact_at types)) e))

space_by : (types : List CxxType) (graph : Graph) (n : ℕ) (fact : Fact) (b : Bool) → slice_get graph.facts n ≡ Some fact → names_space (declares_at types fact.what) ≡ b → place_of_space (space_among (numbered_at (graph_at types graph) (n ∷ []))) ≡ (if b then Some fact.place else None)
space_by types graph n fact b e is =
    ap (λ (o : Option CxxFact). place_of_space (space_among (numbered_by n o []))) (fact_seen types graph.facts n ∙ ap (option_map (fact_at types)) e)
    ∙ ap (λ (c : Bool). place_of_space (if c then Some (record { number = n; fact = fact_at types fact }) else None)) is
    ∙ by b
  where
    by : (c : Bool) → place_of_space (if c then Some (record { number = n; fact = fact_at types fact }) else None) ≡ (if c then Some fact.place else None)
    by true = refl
    by false = refl

pub space_one : (types : List CxxType) (graph : Graph) (n : ℕ) (fact : Fact) → slice_get graph.facts n ≡ Some fact → names_space (declares_at types fact.what) ≡ true → Some fact.place ≡ place_of_space (space_among (numbered_at (graph_at types graph) (n ∷ [])))
space_one types graph n fact e is = sym (space_by types graph n fact true e is)

pub space_passed : (types : List CxxType) (graph : Graph) (n : ℕ) (fact : Fact) → slice_get graph.facts n ≡ Some fact → names_space (declares_at types fact.what) ≡ false → None ≡ place_of_space (space_among (numbered_at (graph_at types graph) (n ∷ [])))
space_passed types graph n fact e is = sym (space_by types graph n fact false e is)

-- of some
abbrev or_place : Option Place → Option Place → Option Place
or_place None later = later
or_place (Some place) later = Some place

space_more : (graph : CxxGraph) (n : ℕ) (others : List ℕ) → place_of_space (space_among (numbered_at graph (n ∷ others))) ≡ or_place (place_of_space (space_among (numbered_at graph (n ∷ [])))) (place_of_space (space_among (numbered_at graph others)))
space_more graph n others = by (slice_get graph.facts n)
  where
    one : (fact : CxxFact) (b : Bool) → place_of_space (if b then Some (record { number = n; fact = fact }) else space_among (numbered_at graph others)) ≡ or_place (place_of_space (if b then Some (record { number = n; fact = fact }) else None)) (place_of_space (space_among (numbered_at graph others)))
    one fact true = refl
    one fact false = refl

    by : (o : Option CxxFact) → place_of_space (space_among (numbered_by n o (numbered_at graph others))) ≡ or_place (place_of_space (space_among (numbered_by n o []))) (place_of_space (space_among (numbered_at graph others)))
    by None = refl
    by (Some fact) = one fact (names_space fact.what)

pub space_goes : (graph : CxxGraph) (numbers : List FactId) (i : ℕ) (d : FactId) (whole : Option Place) → i < length numbers → None ≡ place_of_space (space_among (numbered_at graph ((get_or numbers i d).0 ∷ []))) → place_of_space (space_among (numbered_at graph (fact_numbers (drop i numbers)))) ≡ whole → place_of_space (space_among (numbered_at graph (fact_numbers (drop (i + 1) numbers)))) ≡ whole
space_goes graph numbers i d whole within none same =
    ap (λ o. or_place o (place_of_space (space_among (numbered_at graph (fact_numbers (drop (i + 1) numbers)))))) none
    ∙ sym (space_more graph (get_or numbers i d).0 (fact_numbers (drop (i + 1) numbers)))
    ∙ sym (at_drop_more (λ ns. place_of_space (space_among (numbered_at graph (fact_numbers ns)))) numbers i d within)
    ∙ same

pub space_stops : (graph : CxxGraph) (numbers : List FactId) (i : ℕ) (d : FactId) (place : Place) (whole : Option Place) → i < length numbers → Some place ≡ place_of_space (space_among (numbered_at graph ((get_or numbers i d).0 ∷ []))) → place_of_space (space_among (numbered_at graph (fact_numbers (drop i numbers)))) ≡ whole → Some place ≡ whole
space_stops graph numbers i d place whole within some same =
    ap (λ o. or_place o (place_of_space (space_among (numbered_at graph (fact_numbers (drop (i + 1) numbers)))))) some
    ∙ sym (space_more graph (get_or numbers i d).0 (fact_numbers (drop (i + 1) numbers)))
    ∙ sym (at_drop_more (λ ns. place_of_space (space_among (numbered_at graph (fact_numbers ns)))) numbers i d within)
    ∙ same

-- ---- what is brought

pub inside_brought : (held : Held) (graph : Graph) (types : List CxxType) (space : ScopeId) (word : List ℕ) (part : CxxPathPart) (r : Result Found OutOfMemory) → graph ≡ held.graph → types ≡ held.types → word ≡ part.word
    → IfOk r (λ one. brought (graph_at types graph) space (spelled word) (length (facts_at types graph.facts)) ≡ Ok one) → IfOk r (λ one. one ≡ brought_in (meaning held).graph (Inside space) (spelled part.word))
unfolding brought_in meaning
inside_brought held graph types space word part (Err e) same are named is = tt
inside_brought held graph types space word part (Ok one) same are named is =
    sym (ap found_or_none
    (subst (λ (w : List ℕ). brought (graph_at held.types held.graph) space (spelled w) (length (facts_at held.types held.graph.facts)) ≡ Ok one) named
    (subst (λ (g : Graph). brought (graph_at held.types g) space (spelled word) (length (facts_at held.types g.facts)) ≡ Ok one) same
    (subst (λ (ts : List CxxType). brought (graph_at ts graph) space (spelled word) (length (facts_at ts graph.facts)) ≡ Ok one) are is))))

pub inside_there : (held : Held) (graph : Graph) (types : List CxxType) (space : ScopeId) (word : List ℕ) (r : Result Found OutOfMemory) → graph ≡ held.graph → InRange graph
    → IfOk r (λ one. brought (graph_at types graph) space (spelled word) (length (facts_at types graph.facts)) ≡ Ok one) → IfOk r (AreFoundThere held)
inside_there held graph types space word (Err e) same ok is = tt
inside_there held graph types space word (Ok one) same ok is = found_there held graph types space (spelled word) (length (facts_at types graph.facts)) one same ok is
