-- One more class.
use Rattle.std.specs.Prelude.{ℕ, ◌≡◌, ◌<◌, ◌+◌, ◌↔◌, Bool, true, false, if◌then◌else◌, List, [], ◌∷◌, ◌++◌, length, Option, Some, None, Result, Ok, Err, refl, nat_eq, IfOk, IfSome, OnOk, OnErr}
use Rattle.std.specs.List.{slice_get}
use Rattle.std.proofs.Common.{ap, sym, subst, ◌∙◌, arith, length-append}
use Rattle.std.proofs.lemmas.Bool.{eq-eqb, eqb-true}
use Rattle.cxx_defined.specs.declared.defined.Definitions.{Definitions}
use Rattle.cxx_linked.specs.declared.linkages.Linkages.{Linkages}
use Rattle.cxx_graph.specs.declared.graph.AddFault.{AddFault}
use Rattle.cxx_graph.specs.declared.graph.AddFault.TheVariants as fault
use Rattle.cxx_graph.proofs.Fitting.{fitted-class}
use Rattle.cxx_model.specs.declared.facts.Specialisation.{Specialisation}
use Rattle.cxx_model.specs.declared.place.Place.{Place}
use Rattle.cxx_model.specs.declared.stop.LimitKind.TheVariants.{Facts}
use Rattle.cxx_model.specs.declared.stop.Stop.{Stop}
use Rattle.cxx_model.specs.declared.stop.Stop.TheVariants as stop
use Rattle.cxx_model.specs.declared.types.ClassId.{ClassId}
use Rattle.cxx_model.specs.Stops.{Limited}
use Rattle.cxx_model.specs.Types.Trees.{CxxType, class_type}
use Rattle.cxx_model.specs.Facts.Declarations.{CxxSpecialisation, class_at, classes_at, facts_at, graph_at}
use Rattle.cxx_model.specs.Facts.Graph.{Graph, IsOneClassMore, IsTypeInRange, with_class}
use Rattle.cxx_names.specs.declared.names.Names.{Names}
use Rattle.cxx_reading.specs.Classes.{class_count, reserved, with_class as with_one_class}
use Rattle.cxx_reading.specs.State.{CxxState}
use Rattle.cxx_tree.specs.Answered.{IsAnswered, IsClassKnown, class_number}
use Rattle.cxx_tree.specs.declared.noting.Noting.{Noting}
use Rattle.cxx_tree.specs.Held.{Held, IsSound, meaning}
use Rattle.cxx_tree.specs.Whole.{IsWhole, stopped_as}
use Rattle.cxx_tree.proofs.Graphs.{length_classes, length_facts}
use Rattle.cxx_tree.proofs.Steps.{Later_refl}
use Rattle.cxx_tree.proofs.Wholes.{later_fact}

last_is : (xs : List (Option Specialisation)) (class : Option Specialisation) (n : ℕ) → n ≡ length xs → slice_get (xs ++ class ∷ []) n ≡ Some class
last_is xs class n is = ap (slice_get (xs ++ class ∷ [])) is ∙ by xs
  where
    by : (ys : List (Option Specialisation)) → slice_get (ys ++ class ∷ []) (length ys) ≡ Some class
    by [] = refl
    by (y ∷ ys) = by ys

same_some : (one two : Option Specialisation) → Some one ≡ Some two → one ≡ two
same_some one two e = cc

-- the class that is more is no specialisation
pub one_more : (old new : Graph) (n : ℕ) → n ≡ length old.classes → slice_get new.classes n ≡ Some None → IsOneClassMore old new → new ≡ with_class old None
one_more old new n is none grown =
    let there : slice_get new.classes n ≡ Some grown.class = ap (λ (g : Graph). slice_get g.classes n) grown.new_is ∙ last_is old.classes grown.class n is in
    grown.new_is ∙ ap (with_class old) (same_some grown.class None (sym there ∙ none))

classes_more : (types : List CxxType) (classes : List (Option Specialisation)) → classes_at types (classes ++ None ∷ []) ≡ classes_at types classes ++ None ∷ []
classes_more types [] = refl
classes_more types (one ∷ others) = ap (λ all. class_at types one ∷ all) (classes_more types others)

sound_class : (held : Held) → IsSound held → IsSound (record held { graph = with_class held.graph None })
sound_class held sound = record {
  fitted = fitted-class held.graph held.types None sound.fitted tt;
  nodes = sound.nodes;
  children = sound.children;
  fallbacks = sound.fallbacks;
  offers = sound.offers;
  pieces = sound.pieces;
  calls = sound.calls;
  scope = sound.scope;
  result = sound.result;
}

meaning_class : (held : Held) → meaning (record held { graph = with_class held.graph None }) ≡ with_one_class (meaning held)
unfolding meaning
meaning_class held = ap make (classes_more held.types held.graph.classes)
  where
    make : List (Option CxxSpecialisation) → CxxState
    make classes = record (meaning held) { graph = record (graph_at held.types held.graph) { classes = classes } }

count_is : (held : Held) → length (meaning held).graph.classes ≡ length held.graph.classes
unfolding meaning
count_is held = length_classes held.types held.graph.classes

room_is : (held : Held) → (length (meaning held).graph.facts + length (meaning held).graph.classes) ≡ (length held.graph.facts + length held.graph.classes)
unfolding meaning
room_is held = (let a : length (facts_at held.types held.graph.facts) ≡ length held.graph.facts = length_facts held.types held.graph.facts in let b : length (classes_at held.types held.graph.classes) ≡ length held.graph.classes = length_classes held.types held.graph.classes in omega arith)

reserved_full : (state : CxxState) → nat_eq (length state.graph.facts + length state.graph.classes) 2097152 ≡ true → reserved state ≡ Err (Limited Facts)
unfolding reserved
reserved_full state e = ap (λ b. if b then Err (Limited Facts) else Ok (class_count state.graph, with_one_class state)) e

reserved_room : (state : CxxState) → nat_eq (length state.graph.facts + length state.graph.classes) 2097152 ≡ false → reserved state ≡ Ok (class_count state.graph, with_one_class state)
unfolding reserved
reserved_room state e = ap (λ b. if b then Err (Limited Facts) else Ok (class_count state.graph, with_one_class state)) e

module _ (held : Held) where
  abbrev sum : ℕ
  sum = length held.graph.facts + length held.graph.classes

  abbrev grown : Held
  grown = record held { graph = with_class held.graph None }

  full_is : (b : Bool) → nat_eq (length (meaning held).graph.facts + length (meaning held).graph.classes) 2097152 ≡ b → nat_eq sum 2097152 ≡ b
  full_is b e = ap (λ n. nat_eq n 2097152) (sym (room_is held)) ∙ e

  reserved_ok : (class : ClassId) → class.0 ≡ length held.graph.classes → nat_eq (length (meaning held).graph.facts + length (meaning held).graph.classes) 2097152 ≡ false → reserved (meaning held) ≡ Ok (class.0, meaning grown)
  reserved_ok class is room =
      reserved_room (meaning held) room
      ∙ (ap (λ n. Ok (n, with_one_class (meaning held))) (count_is held ∙ sym is)
      ∙ ap (λ (s : CxxState). Ok (class.0, s)) (sym (meaning_class held)))

  class_ok : (class : ClassId) → class.0 ≡ length held.graph.classes → ((Ok class ≡ Err fault.Limit) ↔ (sum ≡ 2097152)) → IsAnswered class_number IsClassKnown held grown (Ok class) (reserved (meaning held))
  class_ok class is limit = record {
    is = (by (nat_eq (length (meaning held).graph.facts + length (meaning held).graph.classes) 2097152) refl, omega (arith, is, length-append held.graph.classes (None ∷ [])));
    later = later_fact held (with_class held.graph None);
  }
    where
      by : (b : Bool) → nat_eq (length (meaning held).graph.facts + length (meaning held).graph.classes) 2097152 ≡ b → reserved (meaning held) ≡ Ok (class.0, meaning grown)
      by true e = (let bad : Ok class ≡ Err fault.Limit = limit.1 (eqb-true sum 2097152 (full_is true e)) in absurd (cc))
      by false e = reserved_ok class is e

  class_full : (sum ≡ 2097152) → IsAnswered class_number IsClassKnown held held (Err (stop.Limit Facts)) (reserved (meaning held))
  class_full is = record {
    is = reserved_full (meaning held) (ap (λ n. nat_eq n 2097152) (room_is held) ∙ eq-eqb sum 2097152 is);
    later = Later_refl held;
  }

  class_by : (new : Graph) (r : Result ClassId AddFault) → IfOk r (λ class. class.0 ≡ length held.graph.classes) → OnOk r (new ≡ with_class held.graph None) → OnErr r (new ≡ held.graph) → ((r ≡ Err fault.Limit) ↔ (sum ≡ 2097152))
      → IsAnswered class_number IsClassKnown held (record held { graph = new }) (stopped_as r) (reserved (meaning held))
  class_by new (Ok class) is grows stays limit = subst (λ (g : Graph). IsAnswered class_number IsClassKnown held (record held { graph = g }) (Ok class) (reserved (meaning held))) (sym grows) (class_ok class is limit)
  class_by new (Err fault.Limit) is grows stays limit = subst (λ (g : Graph). IsAnswered class_number IsClassKnown held (record held { graph = g }) (Err (stop.Limit Facts)) (reserved (meaning held))) (sym stays) (class_full (limit.0 refl))
  class_by new (Err fault.OutOfMemory) is grows stays limit = record { is = tt; later = later_fact held new }

pub class_answered : (seen held : Held) (new : Graph) (r : Result ClassId AddFault) (result : Result ClassId Stop) → held ≡ seen → result ≡ stopped_as r
    → IfOk r (λ class. class.0 ≡ length held.graph.classes) → OnOk r (new ≡ with_class held.graph None) → OnErr r (new ≡ held.graph) → ((r ≡ Err fault.Limit) ↔ (length held.graph.facts + length held.graph.classes ≡ 2097152))
    → IsAnswered class_number IsClassKnown seen (record held { graph = new }) result (reserved (meaning seen))
class_answered seen held new r result same stopped number grows stays limit =
    subst (λ (h : Held). IsAnswered class_number IsClassKnown h (record held { graph = new }) result (reserved (meaning h))) same
    (subst (λ s. IsAnswered class_number IsClassKnown held (record held { graph = new }) s (reserved (meaning held))) (sym stopped)
    (class_by held new r number grows stays limit))

whole_with : (names : Names) (definitions : Definitions) (linkages : Linkages) (openings : List Place) (noting : Noting) (held : Held) → IsWhole names definitions linkages openings noting held → IsWhole names definitions linkages openings noting (record held { graph = with_class held.graph None })
whole_with names definitions linkages openings noting held whole = record {
  sound = sound_class held whole.sound;
  noted = whole.noted;
  plain = whole.plain;
  defines = whole.defines;
  links = whole.links;
  opened = whole.opened;
  remembered = whole.remembered;
}

pub whole_class : (names : Names) (definitions : Definitions) (linkages : Linkages) (openings : List Place) (noting : Noting) (held : Held) (new : Graph) (r : Result ClassId AddFault) → IsWhole names definitions linkages openings noting held → OnOk r (new ≡ with_class held.graph None) → OnErr r (new ≡ held.graph) → IsWhole names definitions linkages openings noting (record held { graph = new })
whole_class names definitions linkages openings noting held new (Ok class) whole grows stays = subst (λ (g : Graph). IsWhole names definitions linkages openings noting (record held { graph = g })) (sym grows) (whole_with names definitions linkages openings noting held whole)
whole_class names definitions linkages openings noting held new (Err why) whole grows stays = subst (λ (g : Graph). IsWhole names definitions linkages openings noting (record held { graph = g })) (sym stays) whole

pub class_there : (seen held : Held) (class : ClassId) → held ≡ seen → class.0 < length seen.graph.classes → IsTypeInRange held.graph (class_type class.0)
class_there seen held class same within = subst (λ (h : Held). class.0 < length h.graph.classes) (sym same) within
