use Rattle.std.proofs.Common.{[], ◌∷◌, ◌++◌, ap, sym, subst, ◌∙◌, ◌≡◌, ◌<◌, ◌+◌, List, length, true, slice_set, arith, refl}
use Rattle.std.proofs.Math.ListN.{length-set}
use Rattle.cxx_model.specs.declared.facts.Fact.{Fact}
use Rattle.cxx_model.specs.Facts.Graph.{Graph, InRange, appended}
use Rattle.cxx_graph.specs.Kept.{IsKept}
use Rattle.cxx_graph.specs.Stored.{IsStored, classes_of, graph_of}
use Rattle.cxx_graph.proofs.Classes.{length-classes, stored-fact}
use Rattle.cxx_graph.proofs.Marks.{marked-same, marked-ended, class-reserved}
use Rattle.cxx_graph.proofs.graph.Graph.add.Goals as goal

pub index_mut-requires : goal.index_mut-requires
index_mut-requires c =
    let graph : Graph = graph_of c.self.inside.facts.items c.self.inside.specialisations.entries c.self.inside.classes.items c.self.inside.patterns.items in
    let ok : InRange (appended graph c.args.fact) = subst (λ (g : Graph). InRange (appended g c.args.fact)) (sym c.self.view_is) c.requires in
    let known : c.in-Some.class.0 < length (classes_of c.self.inside.specialisations.entries c.self.inside.classes.items) = class-reserved graph c.args.fact c.in-Some.class ok (sym c.ended_by-ended.ensures ∙ c.in-Some.is) in
    let count : length (classes_of c.self.inside.specialisations.entries c.self.inside.classes.items) ≡ length c.self.inside.classes.items = length-classes c.self.inside.specialisations.entries c.self.inside.classes.items in
    omega (arith, c.self.invariant.stored.counted, c.self.inside.completed.ok.0)

pub invariant_of-self-in-Some : goal.invariant_of-self-in-Some
invariant_of-self-in-Some c =
    let graph : Graph = graph_of c.self.inside.facts.items c.self.inside.specialisations.entries c.self.inside.classes.items c.self.inside.patterns.items in
    let ok : InRange (appended graph c.args.fact) = subst (λ (g : Graph). InRange (appended g c.args.fact)) (sym c.self.view_is) c.requires in
    let room : length c.self.inside.facts.items + length c.self.inside.classes.items < 2097152 = omega (arith, c.self.invariant.stored.limited, c.len.ensures, c.len-2.ensures, c.if-len-eq-LIMIT.false) in
    let facts : c.push.new.self.items ≡ c.self.inside.facts.items ++ c.args.fact ∷ [] = c.in_ok-push.ensures.items ∙ ap (λ (fs : List Fact). fs ++ c.args.fact ∷ []) c.reserve.ensures.items in
    record {
      stored = subst (λ (facts : List Fact). IsStored facts c.self.inside.specialisations.entries c.self.inside.classes.items (slice_set c.self.inside.completed.items c.in-Some.class.0 true) c.self.inside.patterns.items) (sym facts)
          (stored-fact c.self.inside.facts.items c.self.inside.specialisations.entries c.self.inside.classes.items c.self.inside.completed.items c.self.inside.patterns.items c.self.invariant.stored c.args.fact (slice_set c.self.inside.completed.items c.in-Some.class.0 true) room ok
          (simp length-set)
          (marked-ended c.self.inside.facts.items c.args.fact c.self.inside.completed.items c.in-Some.class (sym c.ended_by-ended.ensures ∙ c.in-Some.is) c.self.invariant.stored.marked));
      kept = subst (λ (fs : List Fact). IsKept fs c.note.new.self.members c.note.new.self.bases c.note.new.self.holders.items) (sym facts) (c.in_ok-note.ensures.noted c.self.inside.facts.items c.self.invariant.kept (omega (arith, c.len-3.ensures, c.self.inside.facts.ok.0)));
    }

pub invariant_of-self-in_default : goal.invariant_of-self-in_default
invariant_of-self-in_default c =
    let graph : Graph = graph_of c.self.inside.facts.items c.self.inside.specialisations.entries c.self.inside.classes.items c.self.inside.patterns.items in
    let ok : InRange (appended graph c.args.fact) = subst (λ (g : Graph). InRange (appended g c.args.fact)) (sym c.self.view_is) c.requires in
    let room : length c.self.inside.facts.items + length c.self.inside.classes.items < 2097152 = omega (arith, c.self.invariant.stored.limited, c.len.ensures, c.len-2.ensures, c.if-len-eq-LIMIT.false) in
    let facts : c.push.new.self.items ≡ c.self.inside.facts.items ++ c.args.fact ∷ [] = c.in_ok-push.ensures.items ∙ ap (λ (fs : List Fact). fs ++ c.args.fact ∷ []) c.reserve.ensures.items in
    record {
      stored = subst (λ (facts : List Fact). IsStored facts c.self.inside.specialisations.entries c.self.inside.classes.items c.self.inside.completed.items c.self.inside.patterns.items) (sym facts)
          (stored-fact c.self.inside.facts.items c.self.inside.specialisations.entries c.self.inside.classes.items c.self.inside.completed.items c.self.inside.patterns.items c.self.invariant.stored c.args.fact c.self.inside.completed.items room ok
          refl
          (marked-same c.self.inside.facts.items c.args.fact c.self.inside.completed.items (sym c.ended_by-ended.ensures ∙ c.in_default.is) c.self.invariant.stored.marked));
      kept = subst (λ (fs : List Fact). IsKept fs c.note.new.self.members c.note.new.self.bases c.note.new.self.holders.items) (sym facts) (c.in_ok-note.ensures.noted c.self.inside.facts.items c.self.invariant.kept (omega (arith, c.len-3.ensures, c.self.inside.facts.ok.0)));
    }
