-- Bases of a class.
use Rattle.std.specs.Prelude.{ℕ, ◌≡◌, ◌<◌, ◌≤◌, Bool, true, false, not, IsTrue, [], if◌then◌else◌, length, List, Result, Ok, Err, refl}
use Rattle.std.proofs.Common.{ap, sym, subst, ◌∙◌}
use Rattle.cxx_model.specs.declared.facts.Entity.TheVariants as entity
use Rattle.cxx_model.specs.declared.facts.Fact.{Fact}
use Rattle.cxx_model.specs.declared.fault.FaultText.TheVariants as says
use Rattle.cxx_model.specs.declared.place.Place.{Place}
use Rattle.cxx_model.specs.declared.stop.Stop.{Stop}
use Rattle.cxx_model.specs.declared.stop.Stop.TheVariants as stop
use Rattle.cxx_model.specs.declared.types.ClassId.{ClassId}
use Rattle.cxx_model.specs.Facts.Declarations.{CxxFact, fact_at}
use Rattle.cxx_model.specs.Facts.Entities.{has_end}
use Rattle.cxx_model.specs.Facts.Graph.{Graph, InRange, is_complete, scopes}
use Rattle.cxx_model.specs.Stops.{Answer, Stops, ◌>>=◌, fault}
use Rattle.cxx_names.proofs.Ended.{end_is, ended_past}
use Rattle.cxx_reading.specs.State.{CxxState}
use Rattle.cxx_reading.specs.Trees.{CxxPath, last_part}
use Rattle.cxx_declare.specs.declared.bases.BaseOf.{BaseOf}
use Rattle.cxx_declare.specs.Based.{base_of, made_base}
use Rattle.cxx_declare.specs.Bases as bases
use Rattle.cxx_declare.specs.Bases.{base_fact, base_named, declare_base, declare_known}
use Rattle.cxx_declare.specs.Begun.{IsAddable}
use Rattle.cxx_declare.specs.Made.{told_added}
use Rattle.cxx_paths.specs.Asked.{IsStop}
use Rattle.cxx_paths.proofs.Stopping.{stopped_on, stops_at}
use Rattle.cxx_tree.specs.Answered.{AnyKnown, IsAnswered, class_number, itself}
use Rattle.cxx_tree.specs.Held.{Held, meaning}
use Rattle.cxx_tree.proofs.Steps.{Later_refl, Later_trans}
use Rattle.cxx_tree.proofs.Wholes.{may_follow}

-- a class that is not there has not ended
pub never_whole : (graph : Graph) (n : ℕ) → InRange graph → length graph.classes ≤ n → false ≡ is_complete graph.facts n
never_whole graph n ok past = ended_past [] graph n ok past ∙ end_is [] graph.facts n

pub base_ready : (held : Held) (of : BaseOf) (place : Place) (base : ClassId) (fact : Fact) → of.scope.0 < scopes held.graph.facts → of.class.0 < length held.graph.classes → base.0 < length held.graph.classes → is_complete held.graph.facts base.0 ≡ true → is_complete held.graph.facts of.class.0 ≡ false → fact ≡ made_base of place base → IsAddable held fact
base_ready held of place base fact there known based whole unended is =
    subst (λ (f : Fact). IsAddable held f) (sym is) (record {
      follows = may_follow held.graph (made_base of place base) there (known, based, subst (λ (b : Bool). IsTrue b) (sym whole) refl, subst (λ (b : Bool). IsTrue (not b)) (sym unended) refl);
      below = record { name = tt; what = tt };
      plain = tt;
    })

pub base_added : (old new : Held) (of : BaseOf) (place : Place) (base : ClassId) (fact : Fact) (r : Result (Unit {0}) Stop) → fact ≡ made_base of place base → IsAnswered itself AnyKnown old new r (told_added (fact_at old.types fact) (meaning old)) → IsAnswered itself AnyKnown old new r (told_added (base_fact (base_of of) place base.0) (meaning old))
base_added old new of place base fact r is answered = subst (λ (f : CxxFact). IsAnswered itself AnyKnown old new r (told_added f (meaning old))) (ap (fact_at old.types) is) answered

-- ---- it is complete, or stops the reading

abbrev known_by : bases.BaseOf → Place → ℕ → CxxState → Bool → Answer (Unit {0} × CxxState)
known_by of place n state b = if b then told_added (base_fact of place n) state else Err (fault place says.IncompleteClass)

known_is : (of : bases.BaseOf) (place : Place) (n : ℕ) (state : CxxState) → declare_known of place n state ≡ known_by of place n state (has_end n state.graph.facts)
unfolding declare_known
known_is of place n state = refl

pub known_added : (old new : Held) (of : bases.BaseOf) (place : Place) (n : ℕ) (r : Result (Unit {0}) Stop) → true ≡ has_end n (meaning old).graph.facts → IsAnswered itself AnyKnown old new r (told_added (base_fact of place n) (meaning old)) → IsAnswered itself AnyKnown old new r (declare_known of place n (meaning old))
known_added old new of place n r ends answered =
    subst (λ (a : Answer (Unit {0} × CxxState)). IsAnswered itself AnyKnown old new r a) (ap (known_by of place n (meaning old)) ends ∙ sym (known_is of place n (meaning old))) answered

pub known_stopped : (held : Held) (of : bases.BaseOf) (place : Place) (n : ℕ) (why : Stop) → false ≡ has_end n (meaning held).graph.facts → IsStop (fault place says.IncompleteClass) why → IsAnswered itself AnyKnown held held (Err why) (declare_known of place n (meaning held))
known_stopped held of place n why ends is = record {
  is = subst (λ (a : Answer (Unit {0} × CxxState)). Stops why a) (ap (known_by of place n (meaning held)) ends ∙ sym (known_is of place n (meaning held))) (stops_at (Unit {0} × CxxState) (fault place says.IncompleteClass) why is);
  later = Later_refl held;
}

pub no_memory : (held : Held) (reply : Answer (Unit {0} × CxxState)) → IsAnswered itself AnyKnown held held (Err stop.OutOfMemory) reply
no_memory held reply = record { is = tt; later = Later_refl held }

-- ---- its name

pub base_then : (old middle new : Held) (of : bases.BaseOf) (path : CxxPath) (place : Place) (base : ClassId) (r : Result (Unit {0}) Stop) → place ≡ (last_part path.parts).place → IsAnswered class_number AnyKnown old middle (Ok base) (base_named path (meaning old)) → IsAnswered itself AnyKnown middle new r (declare_known of place base.0 (meaning middle)) → IsAnswered itself AnyKnown old new r (declare_base of path (meaning old))
unfolding declare_base
base_then old middle new of path place base r at one two =
    let go : ℕ × CxxState → Answer (Unit {0} × CxxState) = λ answer. declare_known of (last_part path.parts).place answer.0 answer.1 in
    let here : IsAnswered itself AnyKnown middle new r (declare_known of (last_part path.parts).place base.0 (meaning middle)) = subst (λ (p : Place). IsAnswered itself AnyKnown middle new r (declare_known of p base.0 (meaning middle))) at two in
    subst (λ (a : Answer (Unit {0} × CxxState)). IsAnswered itself AnyKnown old new r a) (sym (ap (λ (a : Answer (ℕ × CxxState)). a >>= go) one.is.0)) (record { is = here.is; later = Later_trans old middle new one.later here.later })

pub base_stopped : (old new : Held) (of : bases.BaseOf) (path : CxxPath) (why : Stop) → IsAnswered class_number AnyKnown old new (Err why) (base_named path (meaning old)) → IsAnswered itself AnyKnown old new (Err why) (declare_base of path (meaning old))
unfolding declare_base
base_stopped old new of path why one = record { is = stopped_on why (base_named path (meaning old)) (λ answer. declare_known of (last_part path.parts).place answer.0 answer.1) one.is; later = one.later }
