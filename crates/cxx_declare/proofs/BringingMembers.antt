-- Using-declarations in classes (7.3.3).
use Rattle.std.specs.Prelude.{ℕ, ◌≡◌, ◌<◌, ◌≤◌, ◌+◌, nat_lt, List, [], ◌∷◌, length, Result, Ok, Err, refl}
use Rattle.std.proofs.Common.{ap, sym, subst, ◌∙◌, arith, drop, get_or}
use Rattle.std.proofs.lemmas.List.{at_drop_all, at_drop_more}
use Rattle.cxx_model.specs.declared.facts.Access.{Access}
use Rattle.cxx_model.specs.declared.facts.Entity.TheVariants as entity
use Rattle.cxx_model.specs.declared.facts.Fact.{Fact}
use Rattle.cxx_model.specs.declared.facts.Name.TheVariants as name
use Rattle.cxx_model.specs.declared.place.Place.{Place}
use Rattle.cxx_model.specs.declared.stop.Stop.{Stop}
use Rattle.cxx_model.specs.declared.types.FactId.{FactId}
use Rattle.cxx_model.specs.Facts.Declarations.{fact_at}
use Rattle.cxx_model.specs.Stops.{Answer, Stops, ◌>>=◌}
use Rattle.cxx_reading.specs.State.{CxxState}
use Rattle.cxx_reading.specs.Trees.{CxxPathPart}
use Rattle.cxx_declare.specs.Made.{made, word_in}
use Rattle.cxx_declare.specs.MemberUsings.{bring_if, bring_members, bring_one}
use Rattle.cxx_declare.specs.Opened.{told_declared}
use Rattle.cxx_paths.proofs.Stopping.{stopped_on}
use Rattle.cxx_tree.specs.Answered.{AnyKnown, IsAnswered, itself}
use Rattle.cxx_tree.specs.Held.{Held, meaning}
use Rattle.cxx_tree.specs.Later.{Later}
use Rattle.cxx_tree.proofs.Graphs.{length_facts}
use Rattle.cxx_tree.proofs.Steps.{Later_trans}

-- ---- one entity

abbrev labelled : Access → Fact → Fact
labelled label fact = record fact { access = label }

pub one_brought : (old new : Held) (label : Access) (part : CxxPathPart) (place : Place) (word : List ℕ) (target : FactId) (fact : Fact) (r : Result (Unit {0}) Stop) → place ≡ part.place → word ≡ part.word → fact ≡ made old.scope place (name.Spelled word) (entity.Using target) → IsAnswered itself AnyKnown old new r (told_declared (fact_at old.types (labelled label fact)) (word_in fact.name) (meaning old)) → IsAnswered itself AnyKnown old new r (bring_one label part target (meaning old))
unfolding meaning
one_brought old new label part place word target fact r stands named is answered =
    subst (λ (w : List ℕ). IsAnswered itself AnyKnown old new r (told_declared (fact_at old.types (labelled label (made old.scope part.place (name.Spelled w) (entity.Using target)))) w (meaning old))) named
    (subst (λ (p : Place). IsAnswered itself AnyKnown old new r (told_declared (fact_at old.types (labelled label (made old.scope p (name.Spelled word) (entity.Using target)))) word (meaning old))) stands
    (subst (λ (f : Fact). IsAnswered itself AnyKnown old new r (told_declared (fact_at old.types (labelled label f)) (word_in f.name) (meaning old))) is answered))

-- ---- one after another

pub facts_counted : (held : Held) (count : ℕ) → count ≡ length held.graph.facts → count ≡ length (meaning held).graph.facts
unfolding meaning
facts_counted held count is = is ∙ sym (length_facts held.types held.graph.facts)

pub brought_step : (now new : Held) (label : Access) (count : ℕ) (part : CxxPathPart) (targets : List FactId) (i : ℕ) (target d : FactId) (whole : Answer (Unit {0} × CxxState)) → i < length targets → target ≡ get_or targets i d → IsAnswered itself AnyKnown now new (Ok tt) (bring_if (nat_lt target.0 count) label part target (meaning now)) → bring_members label count part (drop i targets) (meaning now) ≡ whole → bring_members label count part (drop (i + 1) targets) (meaning new) ≡ whole
unfolding bring_members
brought_step now new label count part targets i target d whole within is answered same =
    sym (ap (λ (a : Answer (Unit {0} × CxxState)). a >>= λ answer. bring_members label count part (drop (i + 1) targets) answer.1) answered.is.0)
    ∙ ap (λ (n : FactId). bring_members label count part (n ∷ drop (i + 1) targets) (meaning now)) is
    ∙ sym (at_drop_more (λ ns. bring_members label count part ns (meaning now)) targets i d within)
    ∙ same

pub brought_stops : (first now new : Held) (label : Access) (count : ℕ) (part : CxxPathPart) (targets : List FactId) (i : ℕ) (target d : FactId) (why : Stop) → i < length targets → target ≡ get_or targets i d → Later first now → IsAnswered itself AnyKnown now new (Err why) (bring_if (nat_lt target.0 count) label part target (meaning now)) → bring_members label count part (drop i targets) (meaning now) ≡ bring_members label count part targets (meaning first) → IsAnswered itself AnyKnown first new (Err why) (bring_members label count part targets (meaning first))
unfolding bring_members
brought_stops first now new label count part targets i target d why within is later answered same = record {
  is = subst (λ a. Stops why a)
      (ap (λ (n : FactId). bring_members label count part (n ∷ drop (i + 1) targets) (meaning now)) is ∙ sym (at_drop_more (λ ns. bring_members label count part ns (meaning now)) targets i d within) ∙ same)
      (stopped_on why (bring_if (nat_lt target.0 count) label part target (meaning now)) (λ answer. bring_members label count part (drop (i + 1) targets) answer.1) answered.is);
  later = Later_trans first now new later answered.later;
}

pub brought_all : (first now : Held) (label : Access) (count : ℕ) (part : CxxPathPart) (targets : List FactId) (i : ℕ) → length targets ≤ i → Later first now → bring_members label count part (drop i targets) (meaning now) ≡ bring_members label count part targets (meaning first) → IsAnswered itself AnyKnown first now (Ok tt) (bring_members label count part targets (meaning first))
unfolding bring_members
brought_all first now label count part targets i past later same = record { is = (sym same ∙ at_drop_all (λ ns. bring_members label count part ns (meaning now)) targets i past, tt); later = later }
