-- Facts behind the others change no innermost namespace round a scope (7.3.1).
use Rattle.std.proofs.Common.{◌≡◌, ℕ, zero, suc, ◌<◌, Bool, true, false, cond, nat_eq, List, [], ◌∷◌, ◌++◌, length, Some, refl, sym, ap, ◌∙◌, subst, arith}
use Rattle.std.specs.List.{slice_get}
use Rattle.std.specs.Option.{option_to_list}
use Rattle.std.proofs.lemmas.Bool.{eqb-true}
use Rattle.cxx_linked.proofs.Filing.{KeepsHomes}
use Rattle.cxx_linked.specs.Links.{home_in}
use Rattle.cxx_model.specs.declared.facts.Entity.{Entity}
use Rattle.cxx_model.specs.declared.facts.Entity.TheVariants as entity
use Rattle.cxx_model.specs.declared.facts.Fact.{Fact}
use Rattle.cxx_model.specs.declared.types.ScopeId.{ScopeId}
use Rattle.cxx_model.specs.Facts.Declarations.{facts_at}
use Rattle.cxx_model.specs.Facts.Graph.{Graph, InRange, appended, scopes}
use Rattle.cxx_model.specs.Types.Trees.{CxxType}
use Rattle.cxx_names.proofs.Counting.{scopes_are}
use Rattle.cxx_names.proofs.Noting.{scopes_more}
use Rattle.cxx_names.proofs.Openings.{home_from, home_here, home_last, home_of_unit, home_outside, outer_is, space_is}
use Rattle.cxx_names.specs.declared.entry.Noted.{Noted}
use Rattle.cxx_names.specs.Index.{noted_by, scopes_of}
use Rattle.cxx_names.specs.Looked.{is_space_in, outer_in}
use Rattle.cxx_tree.proofs.Graphs.{AreThere, are_there}

-- the innermost namespace round a scope, with so much room
abbrev walk : List Noted → ℕ → ℕ → ℕ
walk all zero scope = cond (is_space_in (slice_get all scope)) scope 0
walk all (suc room) scope = cond (is_space_in (slice_get all scope)) scope (cond (nat_eq scope 0) 0 (walk all room (outer_in (slice_get all scope))))

walk_is : (types : List CxxType) (graph : Graph) (room scope : ℕ) → walk (scopes_of graph.facts) room scope ≡ home_from (facts_at types graph.facts) room scope
walk_is types graph zero scope = by (is_space_in (slice_get (scopes_of graph.facts) scope)) refl
  where
    by : (t : Bool) → is_space_in (slice_get (scopes_of graph.facts) scope) ≡ t → cond t scope 0 ≡ home_from (facts_at types graph.facts) zero scope
    by true e = sym (home_here (facts_at types graph.facts) zero scope (sym (space_is types graph scope) ∙ e))
    by false e = sym (home_last (facts_at types graph.facts) scope (sym (space_is types graph scope) ∙ e))
walk_is types graph (suc room) scope = by (is_space_in (slice_get (scopes_of graph.facts) scope)) (nat_eq scope 0) refl refl (walk_is types graph room (outer_in (slice_get (scopes_of graph.facts) scope)))
  where
    by : (t z : Bool) → is_space_in (slice_get (scopes_of graph.facts) scope) ≡ t → nat_eq scope 0 ≡ z
        → walk (scopes_of graph.facts) room (outer_in (slice_get (scopes_of graph.facts) scope)) ≡ home_from (facts_at types graph.facts) room (outer_in (slice_get (scopes_of graph.facts) scope))
        → cond t scope (cond z 0 (walk (scopes_of graph.facts) room (outer_in (slice_get (scopes_of graph.facts) scope)))) ≡ home_from (facts_at types graph.facts) (suc room) scope
    by true z e f later = sym (home_here (facts_at types graph.facts) (suc room) scope (sym (space_is types graph scope) ∙ e))
    by false true e f later = sym (ap (home_from (facts_at types graph.facts) (suc room)) (eqb-true scope 0 f) ∙ home_of_unit (facts_at types graph.facts) (suc room))
    by false false e f later =
        later
        ∙ (ap (home_from (facts_at types graph.facts) room) (outer_is types graph.facts (record { 0 = scope }))
        ∙ sym (home_outside (facts_at types graph.facts) room scope (sym (space_is types graph scope) ∙ e) f))

-- ---- more scopes

abbrev AreInside : List Noted → Type 0
AreInside all = (n : ℕ) → n < length all → outer_in (slice_get all n) < length all

noted_later : (all more : List Noted) (n : ℕ) → n < length all → slice_get (all ++ more) n ≡ slice_get all n
noted_later [] more n within = absurd (omega arith)
noted_later (one ∷ all) more zero within = refl
noted_later (one ∷ all) more (suc n) within = noted_later all more n (omega arith)

walk_later : (all more : List Noted) (room scope : ℕ) → scope < length all → AreInside all → walk (all ++ more) room scope ≡ walk all room scope
walk_later all more zero scope within inside = ap (λ o. cond (is_space_in o) scope 0) (noted_later all more scope within)
walk_later all more (suc room) scope within inside =
    ap (λ o. cond (is_space_in o) scope (cond (nat_eq scope 0) 0 (walk (all ++ more) room (outer_in o)))) (noted_later all more scope within)
    ∙ ap (λ n. cond (is_space_in (slice_get all scope)) scope (cond (nat_eq scope 0) 0 n)) (walk_later all more room (outer_in (slice_get all scope)) (inside scope within) inside)

noted_inside : (graph : Graph) (facts : List Fact) (n : ℕ) → AreThere graph facts → n < length (scopes_of facts) → outer_in (slice_get (scopes_of facts) n) < scopes graph.facts
noted_inside graph [] n all within = absurd (omega arith)
noted_inside graph (one ∷ others) n all within = by one.what n within (λ m. noted_inside graph others m all.1)
  where
    by : (what : Entity) (m : ℕ) → m < length (option_to_list (noted_by one.scope what) ++ scopes_of others) → ((k : ℕ) → k < length (scopes_of others) → outer_in (slice_get (scopes_of others) k) < scopes graph.facts) → outer_in (slice_get (option_to_list (noted_by one.scope what) ++ scopes_of others) m) < scopes graph.facts
    by (entity.Scope parent kind) zero lt later = all.0.scope
    by (entity.Scope parent kind) (suc m) lt later = later m (omega arith)
    by _ m lt later = later m lt

are_inside : (graph : Graph) → InRange graph → AreInside (scopes_of graph.facts)
are_inside graph range n within = subst (λ k. outer_in (slice_get (scopes_of graph.facts) n) < k) (sym (scopes_are graph.facts)) (noted_inside graph graph.facts n (are_there graph range) within)

home_later : (types : List CxxType) (graph : Graph) (fact : Fact) (scope : ScopeId) → InRange graph → scope.0 < scopes graph.facts → home_in types (graph.facts ++ fact ∷ []) scope ≡ home_in types graph.facts scope
home_later types graph fact scope range within =
    sym (walk_is types (appended graph fact) scope.0 scope.0)
    ∙ (ap (λ xs. walk xs scope.0 scope.0) (scopes_more graph.facts fact)
    ∙ (walk_later (scopes_of graph.facts) (option_to_list (noted_by fact.scope fact.what)) scope.0 scope.0 (subst (λ k. scope.0 < k) (sym (scopes_are graph.facts)) within) (are_inside graph range)
    ∙ walk_is types graph scope.0 scope.0))

scope_there : (graph : Graph) (facts : List Fact) (n : ℕ) (fact : Fact) → AreThere graph facts → slice_get facts n ≡ Some fact → fact.scope.0 < scopes graph.facts
scope_there graph [] n fact all at = absurd (cc)
scope_there graph (one ∷ others) zero fact all at = (let same : one ≡ fact = cc in subst (λ (f : Fact). f.scope.0 < scopes graph.facts) same all.0.scope)
scope_there graph (one ∷ others) (suc n) fact all at = scope_there graph others n fact all.1 at

pub keeps_homes : (graph : Graph) (fact : Fact) → InRange graph → KeepsHomes graph.facts (fact ∷ [])
keeps_homes graph fact range types n one at = home_later types graph fact one.scope range (scope_there graph graph.facts n one (are_there graph range) at)
