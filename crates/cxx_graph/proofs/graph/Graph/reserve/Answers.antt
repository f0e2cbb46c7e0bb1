use Rattle.std.proofs.Common.{◌≡◌, List, ap, ◌∙◌}
use Rattle.indexmap.specs.IndexMap.{insert_entry}
use Rattle.cxx_model.specs.declared.facts.Specialisation.{Specialisation}
use Rattle.cxx_model.specs.declared.types.ClassId.{ClassId}
use Rattle.cxx_graph.proofs.Classes.{reserved-alone, reserved-special, view-special}
use Rattle.cxx_graph.proofs.Same.{same_specialisation}
use Rattle.cxx_graph.proofs.graph.Graph.reserve.Goals as goal

entries : (c : goal.In_ok-insert-in-Some) → c.insert.new.self.entries ≡ insert_entry same_specialisation c.self.inside.specialisations.entries c.in-Some.of c.in_ok-class.class
entries c = c.in_ok-insert-in-Some.ensures.entries ∙ ap (λ (es : List (Specialisation × ClassId)). insert_entry same_specialisation es c.in-Some.of c.in_ok-class.class) c.in_ok-reserve-in-Some.ensures.entries

pub invariant_of-self : goal.invariant_of-self
invariant_of-self c =
    record {
      stored = reserved-alone _ _ _ _ _ c.self.invariant.stored c.args.self.now c.self.view_is c.push_class.new.classes.items c.push_class.new.completed.items c.in_ok-class.ensures.room c.in_ok-push_class-in-None.ensures.class c.in_ok-push_class-in-None.ensures.open;
      kept = c.self.invariant.kept;
    }

pub invariant_of-self-in_ok-insert-in-Some : goal.invariant_of-self-in_ok-insert-in-Some
invariant_of-self-in_ok-insert-in-Some c =
    record {
      stored = reserved-special _ _ _ _ _ c.self.invariant.stored c.args.self.now c.self.view_is c.args.of c.in-Some.of c.in-Some.is c.requires.new c.insert.new.self.entries c.push_class-in-Some.new.classes.items c.push_class-in-Some.new.completed.items c.in_ok-class.class c.len-place.result c.requires.range c.in_ok-class.ensures.number c.in_ok-class.ensures.room c.len-place.ensures.len (entries c) c.in_ok-push_class-in-Some.ensures.class c.in_ok-push_class-in-Some.ensures.open;
      kept = c.self.invariant.kept;
    }

pub returns-in_ok-insert-in-Some-clause-added : goal.returns-in_ok-insert-in-Some-clause-added
returns-in_ok-insert-in-Some-clause-added c =
    view-special _ _ _ _ _ c.self.invariant.stored c.args.self.now c.self.view_is c.args.of c.in-Some.of c.in-Some.is c.requires.new c.insert.new.self.entries c.push_class-in-Some.new.classes.items c.in_ok-class.class c.len-place.result c.len-place.ensures.len (entries c) c.in_ok-push_class-in-Some.ensures.class
