-- What is kept beside a state, after a step of it.
use Rattle.std.specs.Prelude.{ℕ, ◌≡◌, ◌<◌, ◌+◌, ◌↔◌, Bool, true, false, if◌then◌else◌, List, [], ◌∷◌, ◌++◌, length, take, Option, Some, None, Result, Ok, Err, refl, nat_eq, IfOk, IfSome, OnOk, OnErr}
use Rattle.std.specs.List.{slice_get}
use Rattle.std.specs.Borrow.{Bor}
use Rattle.std.specs.Option.{option_copied, option_to_list}
use Rattle.std.proofs.Math.Seq.{take-append_seam}
use Rattle.std.proofs.Common.{ap, sym, subst, ◌∙◌, arith, length-append, append-nil}
use Rattle.std.proofs.lemmas.Bool.{eq-eqb, eqb-true}
use Rattle.cxx_defined.proofs.Owning.{defines_later}
use Rattle.cxx_defined.specs.Defined.{Defines}
use Rattle.cxx_defined.specs.declared.defined.Definitions.{Definitions}
use Rattle.cxx_linked.proofs.Filing.{links_later}
use Rattle.cxx_linked.specs.Links.{Links}
use Rattle.cxx_linked.specs.declared.linkages.Linkages.{Linkages}
use Rattle.cxx_graph.specs.declared.graph.AddFault.{AddFault}
use Rattle.cxx_graph.specs.declared.graph.AddFault.TheVariants as fault
use Rattle.cxx_graph.proofs.Fitting.{fitted-fact, graph-kept}
use Rattle.cxx_graph.proofs.GraphRange.{appended-in-range}
use Rattle.cxx_model.proofs.TypeTrees.{Keeps-refl}
use Rattle.cxx_model.specs.declared.facts.Entity.{Entity}
use Rattle.cxx_model.specs.declared.facts.Entity.TheVariants as entity
use Rattle.cxx_model.specs.declared.facts.Fact.{Fact}
use Rattle.cxx_model.specs.declared.facts.Pattern.{Pattern}
use Rattle.cxx_model.specs.declared.facts.ScopeKind.{ScopeKind}
use Rattle.cxx_model.specs.declared.facts.ScopeKind.TheVariants.{Block, Parameters}
use Rattle.cxx_model.specs.declared.facts.Specialisation.{Specialisation}
use Rattle.cxx_model.specs.declared.memory.OutOfMemory.{OutOfMemory}
use Rattle.cxx_model.specs.declared.place.Place.{Place}
use Rattle.cxx_model.specs.declared.stop.LimitKind.TheVariants.{Facts}
use Rattle.cxx_model.specs.declared.stop.Stop.{Stop}
use Rattle.cxx_model.specs.declared.stop.Stop.TheVariants as stop
use Rattle.cxx_model.specs.declared.types.EnumId.{EnumId}
use Rattle.cxx_model.specs.declared.types.FactId.{FactId}
use Rattle.cxx_model.specs.declared.types.ScopeId.{ScopeId}
use Rattle.cxx_model.specs.declared.types.TypeId.{TypeId}
use Rattle.cxx_model.specs.Stops.{Answer, Limited, Stops, ◌>>=◌}
use Rattle.cxx_model.specs.Types.Numbers.{Keeps}
use Rattle.cxx_model.specs.Types.Trees.{CxxType, enumeration}
use Rattle.cxx_model.specs.Facts.Declarations.{CxxFact, CxxGraph, classes_at, fact_at, facts_at, graph_at}
use Rattle.cxx_model.specs.Facts.Fitted.{Fitted, IsFactBelow}
use Rattle.cxx_model.specs.Facts.Graph.{Graph, InRange, IsEntityInRange, IsKindInRange, IsTypeInRange, MayFollow, appended, enumerations, scopes}
use Rattle.cxx_names.proofs.Plain.{plain_more}
use Rattle.cxx_names.specs.Clashes.{IsNoTemplate, NoTemplates}
use Rattle.cxx_names.specs.declared.names.Names.{Names}
use Rattle.cxx_names.specs.Index.{Notes}
use Rattle.cxx_names.specs.Plain.{ArePlain, IsPlainFact}
use Rattle.cxx_reading.specs.Declaring.{added, at_scope, enter_block, enter_parameters, entered_as, entered_block, in_enumeration, leave_block, leave_parameters, place_of_scope, scope_count, with_definition, with_fact, with_linked}
use Rattle.cxx_reading.specs.Seen.{numbered_at, parent_of, type_in}
use Rattle.cxx_reading.specs.Spaces.{close_space}
use Rattle.cxx_reading.specs.State.{CxxState, first_state}
use Rattle.cxx_sizes.specs.declared.layouts.Layouts.{Layouts}
use Rattle.cxx_sizes.specs.Noted.{Notes as Measures}
use Rattle.cxx_model.specs.declared.tree.Node.{Node}
use Rattle.cxx_model.specs.Text.Lexemes.{first_place}
use Rattle.cxx_tree.specs.Answered.{AnyKnown, IsAnswered, IsFactKnown, IsScopeKnown, fact_number, itself, scope_number}
use Rattle.cxx_tree.specs.declared.noting.Noting.{Noting}
use Rattle.cxx_tree.specs.Noting.{AreNoted}
use Rattle.cxx_tree.specs.Held.{Held, IsSound, enumeration_of_option, meaning, numbers_at, trees}
use Rattle.cxx_tree.specs.Later.{Later, MakesType}
use Rattle.cxx_tree.specs.declared.kept.Binding.{Binding}
use Rattle.cxx_tree.specs.declared.kept.Decided.{Decided}
use Rattle.cxx_tree.specs.declared.kept.Fallback.{Fallback}
use Rattle.cxx_tree.specs.declared.kept.Offer.{Offer}
use Rattle.cxx_tree.specs.declared.kept.Piece.{Piece}
use Rattle.cxx_tree.specs.Whole.{IsFunctionBelow, IsWhole, entered_scope, left_scope, place_by, scope_at, scope_fact, scope_places, scope_within, stopped_as, unit_fact, unit_graph}
use Rattle.cxx_tree.proofs.Arenas.{KeepsTrees_refl}
use Rattle.cxx_tree.proofs.Homes.{keeps_homes}
use Rattle.cxx_tree.proofs.Graphs.{facts_more, length_classes, length_facts, opened_at, opened_nowhere, parent_there, places_more, scope_next, scopes_later}
use Rattle.cxx_tree.proofs.Steps.{Later_refl, Later_trans, fitted_by, makes_type, sound_types}
use Rattle.cxx_types.specs.Makes as table

-- the graph and what is defined stay
pub still : (names : Names) (definitions : Definitions) (linkages : Linkages) (openings : List Place) (noting : Noting) (held new : Held) → IsWhole names definitions linkages openings noting held → new.graph ≡ held.graph → new.types ≡ held.types → new.defined ≡ held.defined → new.linked ≡ held.linked → IsSound new → IsWhole names definitions linkages openings noting new
still names definitions linkages openings noting held new whole same types defined linked sound = record {
  sound = sound;
  noted = subst (λ (g : Graph). Notes names g.facts) (sym same) whole.noted;
  plain = subst (λ (g : Graph). ArePlain g.facts) (sym same) whole.plain;
  defines = subst (λ ds. Defines definitions new.graph.facts (numbers_at ds)) (sym defined) (subst (λ (g : Graph). Defines definitions g.facts (numbers_at held.defined)) (sym same) whole.defines);
  links = subst (λ ls. Links linkages new.graph.facts ls) (sym linked) (subst (λ (g : Graph). Links linkages g.facts held.linked) (sym same) whole.links);
  opened = subst (λ (g : Graph). openings ≡ scope_places g.facts) (sym same) whole.opened;
  remembered = subst (λ (g : Graph). AreNoted noting (graph_at new.types g).facts) (sym same) (subst (λ (ts : List CxxType). AreNoted noting (graph_at ts held.graph).facts) (sym types) whole.remembered);
}

-- types are made
pub whole_types : (names : Names) (definitions : Definitions) (linkages : Linkages) (openings : List Place) (noting : Noting) (held : Held) (new : List CxxType) → IsWhole names definitions linkages openings noting held → Keeps held.types new → Fitted held.graph new → IsWhole names definitions linkages openings noting (record held { types = new })
whole_types names definitions linkages openings noting held new whole keeps fitted = record {
  sound = sound_types held new whole.sound keeps fitted;
  noted = whole.noted;
  plain = whole.plain;
  defines = whole.defines;
  links = whole.links;
  opened = whole.opened;
  remembered = subst (λ (g : CxxGraph). AreNoted noting g.facts) (sym (graph-kept held.types new held.graph keeps whole.sound.fitted.numbers)) whole.remembered;
}

pub whole_type : (names : Names) (definitions : Definitions) (linkages : Linkages) (openings : List Place) (noting : Noting) (held : Held) (new : List CxxType) (result : Result TypeId OutOfMemory) (t : CxxType) → IsWhole names definitions linkages openings noting held → table.Makes held.types new result t → IsTypeInRange held.graph t → IsWhole names definitions linkages openings noting (record held { types = new })
whole_type names definitions linkages openings noting held new result t whole makes range = whole_types names definitions linkages openings noting held new whole makes.keeps (fitted_by held new result t whole.sound makes range)

-- ---- one more fact

pub below_here : (seen held : Held) (fact : Fact) → held ≡ seen → IsFactBelow (length seen.types) fact → IsFactBelow (length held.types) fact
below_here seen held fact same below = subst (λ (h : Held). IsFactBelow (length h.types) fact) (sym same) below

pub sound_fact : (held : Held) (fact : Fact) → IsSound held → IsFactBelow (length held.types) fact → IsSound (record held { graph = appended held.graph fact })
sound_fact held fact sound below = record {
  fitted = fitted-fact held.graph held.types fact sound.fitted below;
  nodes = sound.nodes;
  children = sound.children;
  fallbacks = sound.fallbacks;
  offers = sound.offers;
  pieces = sound.pieces;
  calls = sound.calls;
  scope = scopes_later held.graph.facts (fact ∷ []) held.scope.0 sound.scope;
  result = sound.result;
}

pub meaning_fact : (held : Held) (fact : Fact) → meaning (record held { graph = appended held.graph fact }) ≡ with_fact (fact_at held.types fact) (meaning held)
unfolding meaning
meaning_fact held fact = ap make (facts_more held.types held.graph.facts fact)
  where
    make : List CxxFact → CxxState
    make facts = record (meaning held) { graph = record (graph_at held.types held.graph) { facts = facts } }

pub later_fact : (held : Held) (graph : Graph) → Later held (record held { graph = graph })
later_fact held graph = record { types = Keeps-refl held.types; trees = KeepsTrees_refl (trees held); tells = refl }

-- what `added` answers
room_is : (held : Held) → (length (meaning held).graph.facts + length (meaning held).graph.classes) ≡ (length held.graph.facts + length held.graph.classes)
unfolding meaning
room_is held = (let a : length (facts_at held.types held.graph.facts) ≡ length held.graph.facts = length_facts held.types held.graph.facts in let b : length (classes_at held.types held.graph.classes) ≡ length held.graph.classes = length_classes held.types held.graph.classes in omega arith)

number_is : (held : Held) → length (meaning held).graph.facts ≡ length held.graph.facts
unfolding meaning
number_is held = length_facts held.types held.graph.facts

added_full : (fact : CxxFact) (state : CxxState) → nat_eq (length state.graph.facts + length state.graph.classes) 2097152 ≡ true → added fact state ≡ Err (Limited Facts)
unfolding added
added_full fact state e = ap (λ b. if b then Err (Limited Facts) else Ok (length state.graph.facts, with_fact fact state)) e

added_room : (fact : CxxFact) (state : CxxState) → nat_eq (length state.graph.facts + length state.graph.classes) 2097152 ≡ false → added fact state ≡ Ok (length state.graph.facts, with_fact fact state)
unfolding added
added_room fact state e = ap (λ b. if b then Err (Limited Facts) else Ok (length state.graph.facts, with_fact fact state)) e

module _ (held : Held) (fact : Fact) where
  abbrev sum : ℕ
  sum = length held.graph.facts + length held.graph.classes

  full_is : (b : Bool) → nat_eq (length (meaning held).graph.facts + length (meaning held).graph.classes) 2097152 ≡ b → nat_eq sum 2097152 ≡ b
  full_is b e = ap (λ n. nat_eq n 2097152) (sym (room_is held)) ∙ e

  added_ok : (number : FactId) → number.0 ≡ length held.graph.facts → nat_eq (length (meaning held).graph.facts + length (meaning held).graph.classes) 2097152 ≡ false
      → added (fact_at held.types fact) (meaning held) ≡ Ok (number.0, meaning (record held { graph = appended held.graph fact }))
  added_ok number is room =
      added_room (fact_at held.types fact) (meaning held) room
      ∙ (ap (λ n. Ok (n, with_fact (fact_at held.types fact) (meaning held))) (number_is held ∙ sym is)
      ∙ ap (λ (s : CxxState). Ok (number.0, s)) (sym (meaning_fact held fact)))

  add_ok : (number : FactId) → number.0 ≡ length held.graph.facts → ((Ok number ≡ Err fault.Limit) ↔ (sum ≡ 2097152)) → IsAnswered fact_number IsFactKnown held (record held { graph = appended held.graph fact }) (Ok number) (added (fact_at held.types fact) (meaning held))
  add_ok number is limit = record {
    is = (by (nat_eq (length (meaning held).graph.facts + length (meaning held).graph.classes) 2097152) refl, omega (arith, is, length-append held.graph.facts (fact ∷ [])));
    later = later_fact held (appended held.graph fact);
  }
    where
      by : (b : Bool) → nat_eq (length (meaning held).graph.facts + length (meaning held).graph.classes) 2097152 ≡ b → added (fact_at held.types fact) (meaning held) ≡ Ok (number.0, meaning (record held { graph = appended held.graph fact }))
      by true e = (let bad : Ok number ≡ Err fault.Limit = limit.1 (eqb-true sum 2097152 (full_is true e)) in absurd (cc))
      by false e = added_ok number is e

  add_full : (sum ≡ 2097152) → IsAnswered fact_number IsFactKnown held held (Err (stop.Limit Facts)) (added (fact_at held.types fact) (meaning held))
  add_full is = record {
    is = added_full (fact_at held.types fact) (meaning held) (ap (λ n. nat_eq n 2097152) (room_is held) ∙ eq-eqb sum 2097152 is);
    later = Later_refl held;
  }

  add_by : (new : Graph) (r : Result FactId AddFault) → IfOk r (λ number. number.0 ≡ length held.graph.facts) → OnOk r (new ≡ appended held.graph fact) → OnErr r (new ≡ held.graph) → ((r ≡ Err fault.Limit) ↔ (sum ≡ 2097152))
      → IsAnswered fact_number IsFactKnown held (record held { graph = new }) (stopped_as r) (added (fact_at held.types fact) (meaning held))
  add_by new (Ok number) is appends stays limit = subst (λ (g : Graph). IsAnswered fact_number IsFactKnown held (record held { graph = g }) (Ok number) (added (fact_at held.types fact) (meaning held))) (sym appends) (add_ok number is limit)
  add_by new (Err fault.Limit) is appends stays limit = subst (λ (g : Graph). IsAnswered fact_number IsFactKnown held (record held { graph = g }) (Err (stop.Limit Facts)) (added (fact_at held.types fact) (meaning held))) (sym stays) (add_full (limit.0 refl))
  add_by new (Err fault.OutOfMemory) is appends stays limit = record { is = tt; later = later_fact held new }

pub fact_answered : (seen held : Held) (new : Graph) (fact : Fact) (what : CxxFact) (r : Result FactId AddFault) (result : Result FactId Stop) → held ≡ seen → fact_at held.types fact ≡ what → result ≡ stopped_as r
    → IfOk r (λ number. number.0 ≡ length held.graph.facts) → OnOk r (new ≡ appended held.graph fact) → OnErr r (new ≡ held.graph) → ((r ≡ Err fault.Limit) ↔ (length held.graph.facts + length held.graph.classes ≡ 2097152))
    → IsAnswered fact_number IsFactKnown seen (record held { graph = new }) result (added what (meaning seen))
fact_answered seen held new fact what r result same is stopped number appends stays limit =
    subst (λ (h : Held). IsAnswered fact_number IsFactKnown h (record held { graph = new }) result (added what (meaning h))) same
    (subst (λ (w : CxxFact). IsAnswered fact_number IsFactKnown held (record held { graph = new }) result (added w (meaning held))) is
    (subst (λ s. IsAnswered fact_number IsFactKnown held (record held { graph = new }) s (added (fact_at held.types fact) (meaning held))) (sym stopped)
    (add_by held fact new r number appends stays limit)))

-- the state behind the call, as it is shown
pub shown_answered : (seen held shown : Held) (result : Result FactId Stop) (reply : Answer (ℕ × CxxState)) → shown ≡ held → IsAnswered fact_number IsFactKnown seen held result reply → IsAnswered fact_number IsFactKnown seen shown result reply
shown_answered seen held shown result reply is answered = subst (λ (h : Held). IsAnswered fact_number IsFactKnown seen h result reply) (sym is) answered

-- ---- what is kept beside one more fact

module _ (names : Names) (definitions : Definitions) (linkages : Linkages) (openings : List Place) (noting : Noting) (held : Held) (fact : Fact) (whole : IsWhole names definitions linkages openings noting held) (below : IsFactBelow (length held.types) fact) (plain : ArePlain (held.graph.facts ++ fact ∷ [])) (range : InRange held.graph) where
  abbrev grown : Held
  grown = record held { graph = appended held.graph fact }

  pub whole_more : (names' : Names) (noting' : Noting) → Notes names' (held.graph.facts ++ fact ∷ []) → AreNoted noting' (graph_at held.types (appended held.graph fact)).facts → IsWhole names' definitions linkages (openings ++ place_by fact.place fact.what) noting' grown
  whole_more names' noting' noted remembered = record {
    sound = sound_fact held fact whole.sound below;
    noted = noted;
    plain = plain;
    defines = defines_later definitions held.graph.facts (fact ∷ []) (numbers_at held.defined) whole.defines;
    links = links_later linkages held.graph.facts (fact ∷ []) held.linked (keeps_homes held.graph fact range) whole.links;
    opened = ap (λ ps. ps ++ place_by fact.place fact.what) whole.opened ∙ sym (places_more held.graph.facts fact);
    remembered = remembered;
  }

whole_same : (names names' : Names) (definitions : Definitions) (linkages : Linkages) (openings : List Place) (noting : Noting) (held : Held) → IsWhole names definitions linkages openings noting held → Notes names' held.graph.facts → IsWhole names' definitions linkages openings noting held
whole_same names names' definitions linkages openings noting held whole noted = record { sound = whole.sound; noted = noted; plain = whole.plain; defines = whole.defines; links = whole.links; opened = whole.opened; remembered = whole.remembered }

-- nothing was added
pub whole_full : (names names' : Names) (definitions : Definitions) (linkages : Linkages) (openings : List Place) (noting : Noting) (held : Held) (new : Graph) → IsWhole names definitions linkages openings noting held → new ≡ held.graph → Notes names' new.facts → IsWhole names' definitions linkages openings noting (record held { graph = new })
whole_full names names' definitions linkages openings noting held new whole stays noted =
    subst (λ (g : Graph). IsWhole names' definitions linkages openings noting (record held { graph = g })) (sym stays)
    (whole_same names names' definitions linkages openings noting held whole (subst (λ (g : Graph). Notes names' g.facts) stays noted))

pub whole_fact : (names names' : Names) (definitions : Definitions) (linkages : Linkages) (openings opened : List Place) (noting noting' : Noting) (seen held : Held) (new : Graph) (fact : Fact) → held ≡ seen → InRange held.graph → IsWhole names definitions linkages openings noting held → IsFactBelow (length seen.types) fact
    → IsPlainFact fact.what → new ≡ appended held.graph fact → opened ≡ openings ++ place_by fact.place fact.what → Notes names' new.facts → AreNoted noting' (graph_at held.types new).facts → IsWhole names' definitions linkages opened noting' (record held { graph = new })
whole_fact names names' definitions linkages openings opened noting noting' seen held new fact same range whole below plain appends opens noted remembered =
    subst (λ ps. IsWhole names' definitions linkages ps noting' (record held { graph = new })) (sym opens)
    (subst (λ (g : Graph). IsWhole names' definitions linkages (openings ++ place_by fact.place fact.what) noting' (record held { graph = g })) (sym appends)
    (whole_more names definitions linkages openings noting held fact whole (below_here seen held fact same below) (plain_more held.graph.facts fact whole.plain plain) range names' noting' (subst (λ (g : Graph). Notes names' g.facts) appends noted) (subst (λ (g : Graph). AreNoted noting' (graph_at held.types g).facts) appends remembered)))

-- what stands behind the places of scopes, where a declaration begins one, and where it does not
pub opened_one : (openings reserved pushed : List Place) (opened : Option Place) (places : List Place) (place : Place) → reserved ≡ openings → pushed ≡ reserved ++ place ∷ [] → option_to_list opened ≡ places → opened ≡ Some place → pushed ≡ openings ++ places
opened_one openings reserved pushed opened places place same pushes is at = pushes ∙ (ap (λ ps. ps ++ place ∷ []) same ∙ ap (λ ps. openings ++ ps) (sym (ap option_to_list at) ∙ is))

pub opened_none : (openings reserved : List Place) (opened : Option Place) (places : List Place) → reserved ≡ openings → option_to_list opened ≡ places → opened ≡ None → reserved ≡ openings ++ places
opened_none openings reserved opened places same is at = same ∙ (sym (append-nil openings) ∙ ap (λ ps. openings ++ ps) (sym (ap option_to_list at) ∙ is))

-- ---- what is kept before the last fact is noted

pub fitted_added : (held : Held) (new : Graph) (fact : Fact) → IsSound held → IsFactBelow (length held.types) fact → new ≡ appended held.graph fact → Fitted new held.types
fitted_added held new fact sound below appends = subst (λ (g : Graph). Fitted g held.types) (sym appends) (fitted-fact held.graph held.types fact sound.fitted below)

facts_before : (types : List CxxType) (graph : Graph) (fact : Fact) (n : ℕ) → n ≡ length graph.facts → take n (graph_at types (appended graph fact)).facts ≡ (graph_at types graph).facts
facts_before types graph fact n is =
    let all : List CxxFact = facts_at types graph.facts in
    ap (λ k. take k (facts_at types (graph.facts ++ fact ∷ []))) (is ∙ sym (length_facts types graph.facts))
    ∙ ap (λ (fs : List CxxFact). take (length all) fs) (facts_more types graph.facts fact)
    ∙ take-append_seam all (fact_at types fact ∷ [])

pub noted_before : (names : Names) (definitions : Definitions) (linkages : Linkages) (openings : List Place) (noting : Noting) (held : Held) (new : Graph) (fact : Fact) (n : ℕ) → IsWhole names definitions linkages openings noting held → n ≡ length held.graph.facts → new ≡ appended held.graph fact → AreNoted noting (take n (graph_at held.types new).facts)
noted_before names definitions linkages openings noting held new fact n whole at appends =
    subst (λ (g : Graph). AreNoted noting (take n (graph_at held.types g).facts)) (sym appends)
    (subst (λ (all : List CxxFact). AreNoted noting all) (sym (facts_before held.types held.graph fact n at)) whole.remembered)

-- the layouts as they are seen
pub measured_here : (seen held : Held) (noting : Noting) (shown : Option (Bor Layouts)) → held ≡ seen → AreNoted noting (graph_at held.types held.graph).facts → option_copied shown ≡ noting.layouts → IfSome shown (λ kept. Measures kept.now (meaning seen).graph.facts)
unfolding meaning
measured_here seen held noting None same noted is = tt
measured_here seen held noting (Some kept) same noted is = subst (λ (h : Held). Measures kept.now (graph_at h.types h.graph).facts) same (subst (λ (o : Option Layouts). IfSome o (λ kept. Measures kept (graph_at held.types held.graph).facts)) (sym is) noted.layouts)

pub fact_in_range : (seen held : Held) (fact : Fact) → held ≡ seen → InRange held.graph → MayFollow seen.graph fact → InRange (appended held.graph fact)
fact_in_range seen held fact same range follows = appended-in-range held.graph fact range (subst (λ (h : Held). MayFollow h.graph fact) (sym same) follows)

-- ---- a scope in another

may_follow_by : (facts : List Fact) (classes : List (Option Specialisation)) (patterns : List Pattern) (fact : Fact) → fact.scope.0 < scopes facts → IsEntityInRange (record { facts = facts; classes = classes; patterns = patterns }) fact fact.what → MayFollow (record { facts = facts; classes = classes; patterns = patterns }) fact
may_follow_by [] classes patterns fact within ok = absurd (omega arith)
may_follow_by (one ∷ others) classes patterns fact within ok = (within, ok)

pub may_follow : (graph : Graph) (fact : Fact) → fact.scope.0 < scopes graph.facts → IsEntityInRange graph fact fact.what → MayFollow graph fact
may_follow graph fact within ok = may_follow_by graph.facts graph.classes graph.patterns fact within ok

pub scope_follows : (seen held : Held) (kind : ScopeKind) (place : Place) → held ≡ seen → IsSound held → IsKindInRange seen.graph kind → MayFollow seen.graph (scope_fact kind place held.scope)
scope_follows seen held kind place same sound ok =
    subst (λ (h : Held). MayFollow h.graph (scope_fact kind place held.scope)) same
    (may_follow held.graph (scope_fact kind place held.scope) sound.scope (refl, subst (λ (h : Held). IsKindInRange h.graph kind) (sym same) ok))

pub scope_answered : (seen held new : Held) (kind : ScopeKind) (place : Place) (result : Result FactId Stop) → held ≡ seen → IsAnswered fact_number IsFactKnown seen new result (added (fact_at seen.types (scope_fact kind place held.scope)) (meaning seen)) → IsAnswered fact_number IsFactKnown seen new result (added (scope_at kind place (meaning seen)) (meaning seen))
unfolding meaning
scope_answered seen held new kind place result same answered = subst (λ (h : Held). IsAnswered fact_number IsFactKnown seen new result (added (fact_at seen.types (scope_fact kind place h.scope)) (meaning seen))) same answered

pub scope_held : (seen held new : Held) (kind : ScopeKind) (place : Place) → held ≡ seen → new ≡ record seen { graph = appended seen.graph (scope_fact kind place held.scope) } → new ≡ record seen { graph = appended seen.graph (scope_fact kind place seen.scope) }
scope_held seen held new kind place same is = is ∙ ap (λ (h : Held). record seen { graph = appended seen.graph (scope_fact kind place h.scope) }) same

pub scope_below : (count : ℕ) (kind : ScopeKind) (place : Place) (scope : ScopeId) → IsFactBelow count (scope_fact kind place scope)
scope_below count kind place scope = record { name = tt; what = tt }

-- ---- a definition

numbers_more : (numbers : List FactId) (number : FactId) → numbers_at (numbers ++ number ∷ []) ≡ numbers_at numbers ++ number.0 ∷ []
numbers_more [] number = refl
numbers_more (one ∷ others) number = ap (λ ns. one.0 ∷ ns) (numbers_more others number)

pub whole_definition : (names : Names) (definitions definitions' : Definitions) (linkages : Linkages) (openings : List Place) (noting : Noting) (held : Held) (new : List FactId) (number : FactId) → IsWhole names definitions linkages openings noting held → new ≡ held.defined ++ number ∷ []
    → Defines definitions' held.graph.facts (numbers_at held.defined ++ number.0 ∷ []) → IsWhole names definitions' linkages openings noting (record held { defined = new })
whole_definition names definitions definitions' linkages openings noting held new number whole is defines = record {
  sound = record { fitted = whole.sound.fitted; nodes = whole.sound.nodes; children = whole.sound.children; fallbacks = whole.sound.fallbacks; offers = whole.sound.offers; pieces = whole.sound.pieces; calls = whole.sound.calls; scope = whole.sound.scope; result = whole.sound.result };
  noted = whole.noted;
  plain = whole.plain;
  defines = subst (λ ns. Defines definitions' held.graph.facts (numbers_at ns)) (sym is) (subst (λ ns. Defines definitions' held.graph.facts ns) (sym (numbers_more held.defined number)) defines);
  links = whole.links;
  opened = whole.opened;
  remembered = whole.remembered;
}

pub definition_added : (seen held : Held) (new : List FactId) (number : FactId) → held ≡ seen → new ≡ held.defined ++ number ∷ [] → meaning (record held { defined = new }) ≡ with_definition number.0 (meaning seen)
unfolding meaning
definition_added seen held new number same is = subst (λ (h : Held). meaning (record held { defined = new }) ≡ with_definition number.0 (meaning h)) same (ap make (ap numbers_at is ∙ numbers_more held.defined number))
  where
    make : List ℕ → CxxState
    make defined = record (meaning held) { defined = defined }

-- ---- a declaration that is linked

pub whole_linked : (names : Names) (definitions : Definitions) (linkages linkages' : Linkages) (openings : List Place) (noting : Noting) (held : Held) (new : List FactId) (number : FactId) → IsWhole names definitions linkages openings noting held → new ≡ held.linked ++ number ∷ []
    → Links linkages' held.graph.facts (held.linked ++ number ∷ []) → IsWhole names definitions linkages' openings noting (record held { linked = new })
whole_linked names definitions linkages linkages' openings noting held new number whole is links = record {
  sound = record { fitted = whole.sound.fitted; nodes = whole.sound.nodes; children = whole.sound.children; fallbacks = whole.sound.fallbacks; offers = whole.sound.offers; pieces = whole.sound.pieces; calls = whole.sound.calls; scope = whole.sound.scope; result = whole.sound.result };
  noted = whole.noted;
  plain = whole.plain;
  defines = whole.defines;
  links = subst (λ ns. Links linkages' held.graph.facts ns) (sym is) links;
  opened = whole.opened;
  remembered = whole.remembered;
}

pub linked_added : (seen held : Held) (new : List FactId) (number : FactId) → held ≡ seen → new ≡ held.linked ++ number ∷ [] → meaning (record held { linked = new }) ≡ with_linked number.0 (meaning seen)
unfolding meaning
linked_added seen held new number same is = subst (λ (h : Held). meaning (record held { linked = new }) ≡ with_linked number.0 (meaning h)) same (ap make (ap numbers_at is ∙ numbers_more held.linked number))
  where
    make : List ℕ → CxxState
    make linked = record (meaning held) { linked = linked }

pub known_here : (seen held : Held) (number : FactId) → held ≡ seen → number.0 < length seen.graph.facts → number.0 < length held.graph.facts
known_here seen held number same within = subst (λ (h : Held). number.0 < length h.graph.facts) (sym same) within

-- ---- where the reader stands

pub enumeration_set : (seen held : Held) (number : Option EnumId) → held ≡ seen → meaning (record held { enumeration = number }) ≡ in_enumeration (enumeration_of_option number) (meaning seen)
unfolding meaning
enumeration_set seen held number same = subst (λ (h : Held). meaning (record held { enumeration = number }) ≡ in_enumeration (enumeration_of_option number) (meaning h)) same refl

pub outside_there : (seen held : Held) (scope : ScopeId) → held ≡ seen → IsSound held → InRange held.graph → scope.0 ≡ parent_of (graph_at held.types held.graph) held.scope.0 → scope.0 < scopes seen.graph.facts
outside_there seen held scope same sound range is = subst (λ (h : Held). scope.0 < scopes h.graph.facts) same (subst (λ n. n < scopes held.graph.facts) (sym is) (parent_there held.graph held.types held.scope.0 range sound.scope))

pub left : (seen held new : Held) (scope : ScopeId) → held ≡ seen → scope.0 ≡ parent_of (graph_at held.types held.graph) held.scope.0 → meaning new ≡ at_scope scope.0 (meaning seen) → meaning new ≡ left_scope (meaning seen)
unfolding meaning
left seen held new scope same is set =
    subst (λ (h : Held). meaning new ≡ at_scope scope.0 (meaning h) → meaning new ≡ left_scope (meaning h)) same
    (λ set. set ∙ ap (λ n. at_scope n (meaning held)) is) set

pub parameters_left : (old new : Held) → meaning new ≡ left_scope (meaning old) → leave_parameters (meaning old) ≡ Ok (tt, meaning new)
unfolding leave_parameters
parameters_left old new is = ap (λ (s : CxxState). Ok (tt, s)) (sym is)

pub block_left : (old new : Held) → meaning new ≡ left_scope (meaning old) → leave_block (meaning old) ≡ Ok (tt, meaning new)
unfolding leave_block
block_left old new is = ap (λ (s : CxxState). Ok (tt, s)) (sym is)

-- ---- types

pub type_made_by : (seen held : Held) (new : List CxxType) (result : Result TypeId OutOfMemory) (t : Held → CxxType) → held ≡ seen → IsSound held → table.Makes held.types new result (t held) → MakesType seen (record held { types = new }) result (t seen)
type_made_by seen held new result t same sound makes = subst (λ (h : Held). MakesType h (record held { types = new }) result (t h)) same (makes_type held new result (t held) sound makes)

pub enumeration_there : (seen held : Held) (number : EnumId) → held ≡ seen → number.0 < enumerations seen.graph.facts → IsTypeInRange held.graph (enumeration number.0)
enumeration_there seen held number same within = subst (λ (h : Held). number.0 < enumerations h.graph.facts) (sym same) within

abbrev named_in : List ℕ → Held → CxxType
named_in numbers held = type_in (numbered_at (graph_at held.types held.graph) numbers)

pub named_made : (seen held : Held) (new : List CxxType) (result : Result TypeId OutOfMemory) (numbers : List ℕ) → held ≡ seen → IsSound held → table.Makes held.types new result (type_in (numbered_at (graph_at held.types held.graph) numbers)) → MakesType seen (record held { types = new }) result (type_in (numbered_at (meaning seen).graph numbers))
unfolding meaning
named_made seen held new result numbers same sound makes = type_made_by seen held new result (named_in numbers) same sound makes

-- ---- a scope in which the reader does not stand

module _ (old new : Held) (kind : ScopeKind) (place : Place) where
  abbrev added_here : Answer (ℕ × CxxState)
  added_here = added (scope_at kind place (meaning old)) (meaning old)

  abbrev counted : ℕ × CxxState → Answer (ℕ × CxxState)
  counted answer = Ok (scope_count (meaning old).graph, answer.1)

  pub scope_added : (number : ScopeId) (fact : FactId) → IsAnswered fact_number IsFactKnown old new (Ok fact) added_here → number.0 ≡ scope_count (graph_at old.types old.graph) → number.0 < scopes new.graph.facts
      → IsAnswered scope_number IsScopeKnown old new (Ok number) (added_here >>= counted)
  unfolding meaning
  scope_added number fact answered is within = record {
    is = (
      ap (λ (a : Answer (ℕ × CxxState)). a >>= λ answer. Ok (scope_count (graph_at old.types old.graph), answer.1)) answered.is.0 ∙ ap (λ n. Ok (n, meaning new)) (sym is),
      within,
    );
    later = answered.later;
  }

  pub scope_not_added : (why : Stop) → IsAnswered fact_number IsFactKnown old new (Err why) added_here → IsAnswered scope_number IsScopeKnown old new (Err why) (added_here >>= counted)
  scope_not_added why answered = record { is = by why answered.is; later = answered.later }
    where
      by : (s : Stop) → Stops s added_here → Stops s (added_here >>= counted)
      by stop.OutOfMemory e = tt
      by (stop.Fault f) e = ap (λ (a : Answer (ℕ × CxxState)). a >>= counted) e
      by (stop.Limit k) e = ap (λ (a : Answer (ℕ × CxxState)). a >>= counted) e

pub space_closed : (old new : Held) → meaning new ≡ left_scope (meaning old) → close_space (meaning old) ≡ Ok (tt, meaning new)
unfolding close_space
space_closed old new is = ap (λ (s : CxxState). Ok (tt, s)) (sym is)

-- ---- a scope that begins

-- the scope is at the place of the one where the reader stands
pub placed_here : (seen held : Held) (place : Place) → held ≡ seen → place ≡ place_of_scope (meaning seen).graph held.scope.0 → place ≡ place_of_scope (meaning seen).graph (meaning seen).here.scope
unfolding meaning
placed_here seen held place same is = subst (λ (h : Held). place ≡ place_of_scope (meaning seen).graph h.scope.0) same is

pub answered_placed : (old new : Held) (kind : ScopeKind) (place : Place) (result : Result FactId Stop) → place ≡ place_of_scope (meaning old).graph (meaning old).here.scope → IsAnswered fact_number IsFactKnown old new result (added (scope_at kind place (meaning old)) (meaning old)) → IsAnswered fact_number IsFactKnown old new result (added (scope_within kind (meaning old)) (meaning old))
answered_placed old new kind place result is answered = subst (λ p. IsAnswered fact_number IsFactKnown old new result (added (scope_at kind p (meaning old)) (meaning old))) is answered

pub entered : (old middle new : Held) (kind : ScopeKind) (number : ScopeId) (fact : FactId) → IsAnswered fact_number IsFactKnown old middle (Ok fact) (added (scope_within kind (meaning old)) (meaning old)) → number.0 ≡ scope_count (graph_at old.types old.graph) → Later middle new → meaning new ≡ at_scope number.0 (meaning middle)
    → IsAnswered scope_number AnyKnown old new (Ok number) (entered_scope kind (meaning old))
unfolding meaning
entered old middle new kind number fact answered is later set = record {
  is = (
    ap (λ (a : Answer (ℕ × CxxState)). a >>= λ answer. Ok (entered_as (scope_count (graph_at old.types old.graph)) answer)) answered.is.0
        ∙ (ap (λ n. Ok (n, at_scope n (meaning middle))) (sym is) ∙ ap (λ (s : CxxState). Ok (number.0, s)) (sym set)),
    tt,
  );
  later = Later_trans old middle new answered.later later;
}

pub not_entered : (old new : Held) (kind : ScopeKind) (why : Stop) → IsAnswered fact_number IsFactKnown old new (Err why) (added (scope_within kind (meaning old)) (meaning old)) → IsAnswered scope_number AnyKnown old new (Err why) (entered_scope kind (meaning old))
not_entered old new kind why answered = record { is = by why answered.is; later = answered.later }
  where
    go : ℕ × CxxState → Answer (ℕ × CxxState)
    go answer = Ok (entered_as (scope_count (meaning old).graph) answer)

    by : (s : Stop) → Stops s (added (scope_within kind (meaning old)) (meaning old)) → Stops s (added (scope_within kind (meaning old)) (meaning old) >>= go)
    by stop.OutOfMemory e = tt
    by (stop.Fault f) e = ap (λ (a : Answer (ℕ × CxxState)). a >>= go) e
    by (stop.Limit k) e = ap (λ (a : Answer (ℕ × CxxState)). a >>= go) e

pub parameters_entered : (old new : Held) (result : Result ScopeId Stop) → IsAnswered scope_number AnyKnown old new result (entered_scope Parameters (meaning old)) → IsAnswered scope_number AnyKnown old new result (enter_parameters (meaning old))
unfolding enter_parameters
parameters_entered old new result answered = answered

pub kind_of_function : (graph : Graph) (function : Option FactId) → IsFunctionBelow (length graph.facts) function → IsKindInRange graph (Block function)
kind_of_function graph None ok = tt
kind_of_function graph (Some function) ok = ok

-- the number of the scope is not answered of a block
abbrev nothing_answered : ℕ × CxxState → Answer (Unit {0} × CxxState)
nothing_answered answer = Ok (tt, answer.1)

block_is : (scope : ℕ) (a : Answer (ℕ × CxxState)) → (a >>= λ answer. Ok (entered_block scope answer)) ≡ ((a >>= λ answer. Ok (entered_as scope answer)) >>= nothing_answered)
block_is scope (Ok answer) = refl
block_is scope (Err why) = refl

pub block_entered : (old new : Held) (function : Option FactId) (number : ScopeId) → IsAnswered scope_number AnyKnown old new (Ok number) (entered_scope (Block function) (meaning old)) → IsAnswered itself AnyKnown old new (Ok tt) (enter_block function (meaning old))
unfolding enter_block
block_entered old new function number answered = record {
  is = (block_is (scope_count (meaning old).graph) (added (scope_within (Block function) (meaning old)) (meaning old)) ∙ ap (λ (a : Answer (ℕ × CxxState)). a >>= nothing_answered) answered.is.0, tt);
  later = answered.later;
}

pub block_not_entered : (old new : Held) (function : Option FactId) (why : Stop) → IsAnswered scope_number AnyKnown old new (Err why) (entered_scope (Block function) (meaning old)) → IsAnswered itself AnyKnown old new (Err why) (enter_block function (meaning old))
unfolding enter_block
block_not_entered old new function why answered = record { is = by why answered.is; later = answered.later }
  where
    inner : Answer (ℕ × CxxState)
    inner = added (scope_within (Block function) (meaning old)) (meaning old)

    same : enter_block function (meaning old) ≡ (entered_scope (Block function) (meaning old) >>= nothing_answered)
    same = block_is (scope_count (meaning old).graph) inner

    by : (s : Stop) → Stops s (entered_scope (Block function) (meaning old)) → Stops s (enter_block function (meaning old))
    by stop.OutOfMemory e = tt
    by (stop.Fault f) e = same ∙ ap (λ (a : Answer (ℕ × CxxState)). a >>= nothing_answered) e
    by (stop.Limit k) e = same ∙ ap (λ (a : Answer (ℕ × CxxState)). a >>= nothing_answered) e

pub scope_there : (old new : Held) (kind : ScopeKind) (place : Place) (number : ScopeId) → new ≡ record old { graph = appended old.graph (scope_fact kind place old.scope) } → number.0 ≡ scopes old.graph.facts → number.0 < scopes new.graph.facts
scope_there old new kind place number is counted = subst (λ (h : Held). number.0 < scopes h.graph.facts) (sym is) (subst (λ n. n < scopes (old.graph.facts ++ scope_fact kind place old.scope ∷ [])) (sym counted) (scope_next old.graph.facts (scope_fact kind place old.scope) (Some old.scope) kind refl))

pub scopes_here : (seen held : Held) (number : ScopeId) → held ≡ seen → number.0 ≡ scope_count (graph_at held.types held.graph) → number.0 ≡ scope_count (graph_at seen.types seen.graph)
scopes_here seen held number same is = subst (λ (h : Held). number.0 ≡ scope_count (graph_at h.types h.graph)) same is

pub scopes_counted_here : (seen held : Held) (number : ScopeId) → held ≡ seen → number.0 ≡ scopes held.graph.facts → number.0 ≡ scopes seen.graph.facts
scopes_counted_here seen held number same is = subst (λ (h : Held). number.0 ≡ scopes h.graph.facts) same is

-- ---- what went well

pub stopped_ok : {X : Type 0} (r : Result X AddFault) (x : X) → Ok x ≡ stopped_as r → r ≡ Ok x
stopped_ok (Ok y) x e = (let same : x ≡ y = cc in ap Ok (sym same))
stopped_ok (Err why) x e = absurd (cc)

pub if_ok : {X E : Type 0} (r : Result X E) (x : X) (P : X → Type 0) → r ≡ Ok x → IfOk r P → P x
if_ok (Ok y) x P e p = (let same : y ≡ x = cc in subst P same p)
if_ok (Err why) x P e p = absurd (cc)

pub on_err : {X : Type 0} (r : Result X AddFault) (why : Stop) (P : Type 0) → Err why ≡ stopped_as r → OnErr r P → P
on_err (Ok y) why P e p = absurd (cc)
on_err (Err fault) why P e p = p

pub on_ok : {X E : Type 0} (r : Result X E) (x : X) (P : Type 0) → r ≡ Ok x → OnOk r P → P
on_ok (Ok y) x P e p = p
on_ok (Err why) x P e p = absurd (cc)

-- ---- a place by the places of scopes

pub opened_here : (seen held : Held) (openings : List Place) (n : ℕ) (place : Place) → held ≡ seen → openings ≡ scope_places held.graph.facts → slice_get openings n ≡ Some place → place ≡ place_of_scope (meaning seen).graph n
unfolding meaning
opened_here seen held openings n place same opened at = subst (λ (h : Held). place ≡ place_of_scope (graph_at h.types h.graph) n) same (opened_at held.graph held.types n place (ap (λ ps. slice_get ps n) (sym opened) ∙ at))

pub opened_nowhere_here : (seen held : Held) (openings : List Place) (n : ℕ) → held ≡ seen → openings ≡ scope_places held.graph.facts → slice_get openings n ≡ None → record { line = 0; column = 0 } ≡ place_of_scope (meaning seen).graph n
unfolding meaning
opened_nowhere_here seen held openings n same opened at = subst (λ (h : Held). record { line = 0; column = 0 } ≡ place_of_scope (graph_at h.types h.graph) n) same (opened_nowhere held.graph held.types n (ap (λ ps. slice_get ps n) (sym opened) ∙ at))

-- ---- templates

untemplated : (what : Entity) → IsPlainFact what → IsNoTemplate what
untemplated (entity.Template template member defaults is_explicit first) plain = absurd plain
untemplated _ plain = tt

pub no_templates : (facts : List Fact) → ArePlain facts → NoTemplates facts
no_templates [] all = tt
no_templates (fact ∷ facts) all = (untemplated fact.what all.0, no_templates facts all.1)

-- ---- the beginning

fitted_empty : Fitted unit_graph []
fitted_empty = record { numbers = record { facts = (record { name = tt; what = tt }, tt); classes = tt; patterns = tt }; names = λ i within. absurd (omega arith) }

pub fitted_first : (graph : Graph) (types : List CxxType) → graph ≡ unit_graph → types ≡ [] → Fitted graph types
fitted_first graph types is none = subst (λ (g : Graph). Fitted g types) (sym is) (subst (λ (ts : List CxxType). Fitted unit_graph ts) (sym none) fitted_empty)

module _ (names : Names) (definitions : Definitions) (linkages : Linkages) (graph : Graph) (types : List CxxType) (nodes : List Node) (defined linked : List FactId) (fallbacks : List Fallback) (offers : List Offer) (calls : List Decided) (pieces : List Piece) (uses : List Binding) (tells asks : Bool)
    (g : graph ≡ unit_graph) (t : types ≡ []) (n : nodes ≡ []) (d : defined ≡ []) (l : linked ≡ []) (f : fallbacks ≡ []) (o : offers ≡ []) (c : calls ≡ []) (p : pieces ≡ []) (u : uses ≡ []) where
  abbrev begun : Graph → List CxxType → List Node → List FactId → List FactId → List Fallback → List Offer → List Decided → List Piece → List Binding → Held
  begun graph types nodes defined linked fallbacks offers calls pieces uses = record { graph = graph; types = types; nodes = nodes; scope = record { 0 = 0 }; enumeration = None; defined = defined; linked = linked; fallbacks = fallbacks; offers = offers; in_default = false; result = None; tested = None; in_step = false; calls = calls; pieces = pieces; uses = uses; tells = tells; asks = asks }

  is_begun : begun graph types nodes defined linked fallbacks offers calls pieces uses ≡ begun unit_graph [] [] [] [] [] [] [] [] []
  is_begun =
      ap (λ x. begun x types nodes defined linked fallbacks offers calls pieces uses) g ∙ (ap (λ x. begun unit_graph x nodes defined linked fallbacks offers calls pieces uses) t
      ∙ (ap (λ x. begun unit_graph [] x defined linked fallbacks offers calls pieces uses) n ∙ (ap (λ x. begun unit_graph [] [] x linked fallbacks offers calls pieces uses) d
      ∙ (ap (λ x. begun unit_graph [] [] [] x fallbacks offers calls pieces uses) l
      ∙ (ap (λ x. begun unit_graph [] [] [] [] x offers calls pieces uses) f ∙ (ap (λ x. begun unit_graph [] [] [] [] [] x calls pieces uses) o
      ∙ (ap (λ x. begun unit_graph [] [] [] [] [] [] x pieces uses) c
      ∙ (ap (λ x. begun unit_graph [] [] [] [] [] [] [] x uses) p ∙ ap (λ x. begun unit_graph [] [] [] [] [] [] [] [] x) u))))))))

  sound_first : IsSound (begun unit_graph [] [] [] [] [] [] [] [] [])
  sound_first = record {
    fitted = fitted_empty;
    nodes = tt;
    children = tt;
    fallbacks = tt;
    offers = tt;
    pieces = tt;
    calls = tt;
    scope = omega arith;
    result = tt;
  }

  pub whole_first : (openings : List Place) (noting : Noting) → openings ≡ first_place ∷ [] → Notes names graph.facts → ((facts : List Fact) → Defines definitions facts []) → ((facts : List Fact) → Links linkages facts []) → AreNoted noting (graph_at types graph).facts → IsWhole names definitions linkages openings noting (begun graph types nodes defined linked fallbacks offers calls pieces uses)
  whole_first openings noting opens noted defines links remembered =
      subst (λ (h : Held). IsWhole names definitions linkages openings noting h) (sym is_begun) (record {
        sound = sound_first;
        noted = subst (λ (x : Graph). Notes names x.facts) g noted;
        plain = (tt, tt);
        defines = defines (unit_fact ∷ []);
        links = links (unit_fact ∷ []);
        opened = opens;
        remembered = subst (λ (h : Held). AreNoted noting (graph_at h.types h.graph).facts) is_begun remembered;
      })

  pub meaning_first : meaning (begun graph types nodes defined linked fallbacks offers calls pieces uses) ≡ first_state
  unfolding meaning
  meaning_first = ap meaning is_begun
