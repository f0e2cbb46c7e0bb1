-- The type between two casts.
use Rattle.std.specs.Prelude.{◌≡◌, ◌<◌, Bool, true, false, List, length, Option, Some, None, Result, Ok, Err, if◌then◌else◌, refl}
use Rattle.std.proofs.Common.{ap, sym, subst, ◌∙◌}
use Rattle.cxx_model.specs.declared.memory.OutOfMemory.{OutOfMemory}
use Rattle.cxx_model.specs.declared.sequence.Operand.{Operand}
use Rattle.cxx_model.specs.declared.stop.Wait.{Wait}
use Rattle.cxx_model.specs.declared.stop.Wait.TheVariants as wait
use Rattle.cxx_model.specs.declared.types.ClassId.{ClassId}
use Rattle.cxx_model.proofs.TypeTrees.{Keeps-refl, Keeps-trans}
use Rattle.cxx_model.specs.declared.types.Cv.{Cv}
use Rattle.cxx_model.specs.declared.types.TypeId.{TypeId}
use Rattle.cxx_model.specs.Facts.Declarations.{CxxGraph, graph_at}
use Rattle.cxx_model.specs.Facts.Fitted.{Fitted}
use Rattle.cxx_model.specs.Facts.Graph.{Graph, IsTypeInRange}
use Rattle.cxx_model.specs.Types.Numbers.{type_at}
use Rattle.cxx_model.specs.Types.Trees.{CxxType, pointer_to, reference_to}
use Rattle.cxx_graph.proofs.Fitting.{graph-kept}
use Rattle.cxx_types.specs.Makes.{Makes}
use Rattle.cxx_meaning.specs.Conversions.Asking.{Asked, Waits, ◌>>=◌}
use Rattle.cxx_meaning.specs.Conversions.Casts.{CxxCast, added, by_const, by_static, between, cast, cast_between, cast_by_two, cast_else, cast_operand, cast_unless, const_cast, merged_words, static_cast, static_unless, with_added, words_in}
use Rattle.cxx_meaning.specs.Conversions.Kinds.{kind_of}
use Rattle.cxx_meaning.specs.Conversions.Pointers.{is_void, leveled}
use Rattle.cxx_meaning.specs.declared.steps.SequenceSteps.{SequenceSteps}
use Rattle.cxx_meaning.specs.Conversions.Standard.{CxxOperand, steps_between}
use Rattle.cxx_builtin.proofs.Drawing.{fitted_later, leveled_in_range}
use Rattle.cxx_standard.specs.Views.{operand_at}
use Rattle.cxx_casts.specs.declared.explicit.CastSteps.{CastSteps}
use Rattle.cxx_casts.specs.declared.explicit.CastSteps.TheVariants as steps
use Rattle.cxx_casts.specs.declared.middle.Aims.{Aims}
use Rattle.cxx_casts.specs.declared.middle.Aims.TheVariants as aim
use Rattle.cxx_casts.specs.Made.{aim_at, AreCastsBelow, bare_operand, cast_at, Casts, IsAimBelow, IsCast, MayMake, middle_at, some_of, with_words}

-- ---- the type between, made

levels_in_range : (graph : Graph) (words : List Cv) (types : List CxxType) (two : TypeId) → Fitted graph types → two.0 < length types → IsTypeInRange graph (leveled words (type_at types two.0))
levels_in_range graph words types two fitted known = leveled_in_range graph words (type_at types two.0) (fitted.names two.0 known)

some_made : (graph : Graph) (old new : List CxxType) (made : Result TypeId OutOfMemory) (t : CxxType) → cast_operand t ≡ bare_operand t → IsTypeInRange graph t → Fitted graph old → Makes old new made t → MayMake graph old new (some_of made) (Some t)
some_made graph old new (Ok number) t bare range fitted makes = record {
  keeps = makes.keeps;
  made = (record { known = makes.made.0; bare = subst (λ (u : CxxType). cast_operand u ≡ bare_operand u) (sym makes.made.1) bare }, ap (λ (u : CxxType). let found : Option CxxType = Some u in found) makes.made.1);
  fitted = fitted_later graph old new (Ok number) t fitted range makes;
}
some_made graph old new (Err fault) t bare range fitted makes = record { keeps = makes.keeps; made = tt; fitted = fitted_later graph old new (Err fault) t fitted range makes }

pointer_made : (graph : Graph) (old new : List CxxType) (words : List Cv) (two : TypeId) (made : Result TypeId OutOfMemory) (result : Result (Option TypeId) OutOfMemory) → Fitted graph old → two.0 < length old → Makes old new made (pointer_to (leveled words (type_at old two.0))) → result ≡ some_of made → MayMake graph old new result (Some (pointer_to (leveled words (type_at old two.0))))
unfolding cast_operand
pointer_made graph old new words two made result fitted known makes is =
    let t : CxxType = pointer_to (leveled words (type_at old two.0)) in
    subst (λ (r : Result (Option TypeId) OutOfMemory). MayMake graph old new r (Some t)) (sym is) (some_made graph old new made t refl (levels_in_range graph words old two fitted known) fitted makes)

reference_made : (graph : Graph) (old new : List CxxType) (words : List Cv) (two : TypeId) (made : Result TypeId OutOfMemory) (result : Result (Option TypeId) OutOfMemory) → Fitted graph old → two.0 < length old → Makes old new made (reference_to (leveled words (type_at old two.0))) → result ≡ some_of made → MayMake graph old new result (Some (reference_to (leveled words (type_at old two.0))))
unfolding cast_operand
reference_made graph old new words two made result fitted known makes is =
    let t : CxxType = reference_to (leveled words (type_at old two.0)) in
    subst (λ (r : Result (Option TypeId) OutOfMemory). MayMake graph old new r (Some t)) (sym is) (some_made graph old new made t refl (levels_in_range graph words old two fitted known) fitted makes)

pub pointer_aimed : (graph : Graph) (old new : List CxxType) (aims : Aims) (one two : TypeId) (made : Result TypeId OutOfMemory) (result : Result (Option TypeId) OutOfMemory) → aims ≡ aim.Pointers one two → Fitted graph old → IsAimBelow (length old) aims → Makes old new made (pointer_to (with_words (type_at old one.0) (type_at old two.0))) → result ≡ some_of made → MayMake graph old new result (aim_at old aims)
pointer_aimed graph old new aims one two made result at fitted below makes is =
    let known : IsAimBelow (length old) (aim.Pointers one two) = subst (λ (a : Aims). IsAimBelow (length old) a) at below in
    subst (λ (a : Aims). MayMake graph old new result (aim_at old a)) (sym at) (pointer_made graph old new (words_in (type_at old one.0)) two made result fitted known.1 makes is)

pub object_aimed : (graph : Graph) (old new : List CxxType) (aims : Aims) (one two : TypeId) (made : Result TypeId OutOfMemory) (result : Result (Option TypeId) OutOfMemory) → aims ≡ aim.Objects one two → Fitted graph old → IsAimBelow (length old) aims → Makes old new made (reference_to (with_words (type_at old one.0) (type_at old two.0))) → result ≡ some_of made → MayMake graph old new result (aim_at old aims)
object_aimed graph old new aims one two made result at fitted below makes is =
    let known : IsAimBelow (length old) (aim.Objects one two) = subst (λ (a : Aims). IsAimBelow (length old) a) at below in
    subst (λ (a : Aims). MayMake graph old new result (aim_at old a)) (sym at) (reference_made graph old new (words_in (type_at old one.0)) two made result fitted known.1 makes is)

pub more_pointers_aimed : (graph : Graph) (old new : List CxxType) (aims : Aims) (one two : TypeId) (made : Result TypeId OutOfMemory) (result : Result (Option TypeId) OutOfMemory) → aims ≡ aim.MorePointers one two → Fitted graph old → IsAimBelow (length old) aims → Makes old new made (pointer_to (with_added (type_at old one.0) (type_at old two.0))) → result ≡ some_of made → MayMake graph old new result (aim_at old aims)
more_pointers_aimed graph old new aims one two made result at fitted below makes is =
    let known : IsAimBelow (length old) (aim.MorePointers one two) = subst (λ (a : Aims). IsAimBelow (length old) a) at below in
    subst (λ (a : Aims). MayMake graph old new result (aim_at old a)) (sym at) (pointer_made graph old new (merged_words (words_in (type_at old one.0)) (words_in (type_at old two.0))) two made result fitted known.1 makes is)

pub more_objects_aimed : (graph : Graph) (old new : List CxxType) (aims : Aims) (one two : TypeId) (made : Result TypeId OutOfMemory) (result : Result (Option TypeId) OutOfMemory) → aims ≡ aim.MoreObjects one two → Fitted graph old → IsAimBelow (length old) aims → Makes old new made (reference_to (with_added (type_at old one.0) (type_at old two.0))) → result ≡ some_of made → MayMake graph old new result (aim_at old aims)
more_objects_aimed graph old new aims one two made result at fitted below makes is =
    let known : IsAimBelow (length old) (aim.MoreObjects one two) = subst (λ (a : Aims). IsAimBelow (length old) a) at below in
    subst (λ (a : Aims). MayMake graph old new result (aim_at old a)) (sym at) (reference_made graph old new (merged_words (words_in (type_at old one.0)) (words_in (type_at old two.0))) two made result fitted known.1 makes is)

-- ---- what is asked of the later table

pub cast_later : (graph : Graph) (old new : List CxxType) (is_single : Bool) (from : Operand) (to : TypeId) (middle : Option TypeId) (t : Option CxxType) (result : Result (Option CastSteps) Wait) → Fitted graph old → from.of.0 < length old → to.0 < length old → MayMake graph old new (Ok middle) t → IsCast new result (cast_between (graph_at new graph) is_single (operand_at new from) (type_at new to.0) (middle_at new middle)) → Casts graph old new result (cast_between (graph_at old graph) is_single (operand_at old from) (type_at old to.0) t)
cast_later graph old new is_single from to middle t result fitted from_known to_known makes cast =
    let same_graph : graph_at new graph ≡ graph_at old graph = graph-kept old new graph makes.keeps fitted.numbers in
    let same_from : operand_at new from ≡ operand_at old from = ap (λ (u : CxxType). let one : CxxOperand = record { of = u; lvalue = from.lvalue; constant = from.constant } in one) (makes.keeps.same from.of.0 from_known) in
    let same_to : type_at new to.0 ≡ type_at old to.0 = makes.keeps.same to.0 to_known in
    let same : cast_between (graph_at new graph) is_single (operand_at new from) (type_at new to.0) (middle_at new middle) ≡ cast_between (graph_at old graph) is_single (operand_at old from) (type_at old to.0) t = (
    ap (λ (g : CxxGraph). cast_between g is_single (operand_at new from) (type_at new to.0) (middle_at new middle)) same_graph ∙
    ap (λ (one : CxxOperand). cast_between (graph_at old graph) is_single one (type_at new to.0) (middle_at new middle)) same_from ∙
    ap (λ (u : CxxType). cast_between (graph_at old graph) is_single (operand_at old from) u (middle_at new middle)) same_to ∙
    ap (cast_between (graph_at old graph) is_single (operand_at old from) (type_at old to.0)) makes.made.1
    ) in
    record { keeps = makes.keeps; cast = subst (λ (asked : Asked (Option CxxCast)). IsCast new result asked) same cast; fitted = makes.fitted }

-- ---- two casts, with one type between and then with the other

found_is : (graph : CxxGraph) (is_single : Bool) (from : CxxOperand) (to : CxxType) (found : CxxCast) → cast_between graph is_single from to (added from to) ≡ Ok (Some found) → cast_by_two graph is_single from to ≡ Ok (Some found)
unfolding cast_by_two cast_else
found_is graph is_single from to found is = rw is refl

none_is : (graph : CxxGraph) (is_single : Bool) (from : CxxOperand) (to : CxxType) → cast_between graph is_single from to (added from to) ≡ Ok None → cast_by_two graph is_single from to ≡ cast_between graph is_single from to (between from to)
unfolding cast_by_two cast_else
none_is graph is_single from to is = rw is refl

waits_is : (graph : CxxGraph) (is_single : Bool) (from : CxxOperand) (to : CxxType) (class : ClassId) → cast_between graph is_single from to (added from to) ≡ Err class → cast_by_two graph is_single from to ≡ Err class
unfolding cast_by_two
waits_is graph is_single from to class is = rw is refl

pub found_by_more : (graph : Graph) (old new : List CxxType) (is_single : Bool) (from : Operand) (to : TypeId) (found : CastSteps) (first : Option CastSteps) → first ≡ Some found → Casts graph old new (Ok first) (cast_between (graph_at old graph) is_single (operand_at old from) (type_at old to.0) (added (operand_at old from) (type_at old to.0))) → Casts graph old new (Ok (Some found)) (cast_by_two (graph_at old graph) is_single (operand_at old from) (type_at old to.0))
found_by_more graph old new is_single from to found first is given =
    let casts : Casts graph old new (Ok (Some found)) (cast_between (graph_at old graph) is_single (operand_at old from) (type_at old to.0) (added (operand_at old from) (type_at old to.0))) = subst (λ (f : Option CastSteps). Casts graph old new (Ok f) (cast_between (graph_at old graph) is_single (operand_at old from) (type_at old to.0) (added (operand_at old from) (type_at old to.0)))) is given in
    record { keeps = casts.keeps; cast = (casts.cast.0, found_is (graph_at old graph) is_single (operand_at old from) (type_at old to.0) (cast_at new found) casts.cast.1); fitted = casts.fitted }

pub waits_by_more : (graph : Graph) (old new : List CxxType) (is_single : Bool) (from : Operand) (to : TypeId) (waits : Wait) → Casts graph old new (Err waits) (cast_between (graph_at old graph) is_single (operand_at old from) (type_at old to.0) (added (operand_at old from) (type_at old to.0))) → Casts graph old new (Err waits) (cast_by_two (graph_at old graph) is_single (operand_at old from) (type_at old to.0))
waits_by_more graph old new is_single from to wait.OutOfMemory casts = record { keeps = casts.keeps; cast = tt; fitted = casts.fitted }
waits_by_more graph old new is_single from to (wait.Needs class) casts = record { keeps = casts.keeps; cast = waits_is (graph_at old graph) is_single (operand_at old from) (type_at old to.0) class casts.cast; fitted = casts.fitted }

-- with the second, over the table that has the first
pub none_by_more : (graph : Graph) (old mid new : List CxxType) (is_single : Bool) (from : Operand) (to : TypeId) (result : Result (Option CastSteps) Wait) (first : Option CastSteps) → first ≡ None → Fitted graph old → from.of.0 < length old → to.0 < length old → Casts graph old mid (Ok first) (cast_between (graph_at old graph) is_single (operand_at old from) (type_at old to.0) (added (operand_at old from) (type_at old to.0))) → Casts graph mid new result (cast_between (graph_at mid graph) is_single (operand_at mid from) (type_at mid to.0) (between (operand_at mid from) (type_at mid to.0))) → Casts graph old new result (cast_by_two (graph_at old graph) is_single (operand_at old from) (type_at old to.0))
none_by_more graph old mid new is_single from to result first is fitted from_known to_known given casts =
    let none : Casts graph old mid (Ok None) (cast_between (graph_at old graph) is_single (operand_at old from) (type_at old to.0) (added (operand_at old from) (type_at old to.0))) = subst (λ (f : Option CastSteps). Casts graph old mid (Ok f) (cast_between (graph_at old graph) is_single (operand_at old from) (type_at old to.0) (added (operand_at old from) (type_at old to.0)))) is given in
    let same_graph : graph_at mid graph ≡ graph_at old graph = graph-kept old mid graph none.keeps fitted.numbers in
    let same_from : operand_at mid from ≡ operand_at old from = ap (λ (u : CxxType). let one : CxxOperand = record { of = u; lvalue = from.lvalue; constant = from.constant } in one) (none.keeps.same from.of.0 from_known) in
    let same_to : type_at mid to.0 ≡ type_at old to.0 = none.keeps.same to.0 to_known in
    let same : cast_between (graph_at mid graph) is_single (operand_at mid from) (type_at mid to.0) (between (operand_at mid from) (type_at mid to.0)) ≡ cast_by_two (graph_at old graph) is_single (operand_at old from) (type_at old to.0) = (
    ap (λ (g : CxxGraph). cast_between g is_single (operand_at mid from) (type_at mid to.0) (between (operand_at mid from) (type_at mid to.0))) same_graph ∙
    ap (λ (one : CxxOperand). cast_between (graph_at old graph) is_single one (type_at mid to.0) (between one (type_at mid to.0))) same_from ∙
    ap (λ (u : CxxType). cast_between (graph_at old graph) is_single (operand_at old from) u (between (operand_at old from) u)) same_to ∙
    sym (none_is (graph_at old graph) is_single (operand_at old from) (type_at old to.0) none.cast.1)
    ) in
    record { keeps = Keeps-trans old mid new none.keeps casts.keeps; cast = subst (λ (asked : Asked (Option CxxCast)). IsCast new result asked) same casts.cast; fitted = casts.fitted }

-- ---- one cast

cast_here : (graph : Graph) (types : List CxxType) (result : Result (Option CastSteps) Wait) (asked : Asked (Option CxxCast)) → Fitted graph types → IsCast types result asked → Casts graph types types result asked
cast_here graph types result asked fitted cast = record { keeps = Keeps-refl types; cast = cast; fitted = fitted }

pub const_is : (graph : CxxGraph) (is_single : Bool) (from : CxxOperand) (to : CxxType) → const_cast from to ≡ true → cast graph is_single from to ≡ Ok (Some by_const)
unfolding cast
const_is graph is_single from to is = rw is refl

pub static_is : (graph : CxxGraph) (is_single : Bool) (from : CxxOperand) (to : CxxType) → const_cast from to ≡ false → static_cast graph is_single from to ≡ Ok true → cast graph is_single from to ≡ Ok (Some by_static)
unfolding cast cast_unless
static_is graph is_single from to not_const is = rw not_const (rw is refl)

needs_is : (graph : CxxGraph) (is_single : Bool) (from : CxxOperand) (to : CxxType) (class : ClassId) → const_cast from to ≡ false → static_cast graph is_single from to ≡ Err class → cast graph is_single from to ≡ Err class
unfolding cast
needs_is graph is_single from to class not_const is = rw not_const (rw is refl)

between_is : (graph : CxxGraph) (is_single : Bool) (from : CxxOperand) (to : CxxType) → const_cast from to ≡ false → static_cast graph is_single from to ≡ Ok false → cast graph is_single from to ≡ cast_by_two graph is_single from to
unfolding cast cast_unless
between_is graph is_single from to not_const is = rw not_const (rw is refl)

pub by_const_here : (graph : Graph) (types : List CxxType) (is_single : Bool) (from : Operand) (to : TypeId) (test : Bool) → Fitted graph types → test ≡ const_cast (operand_at types from) (type_at types to.0) → test ≡ true → Casts graph types types (Ok (Some steps.Const)) (cast (graph_at types graph) is_single (operand_at types from) (type_at types to.0))
by_const_here graph types is_single from to test fitted is holds =
    cast_here graph types (Ok (Some steps.Const)) (cast (graph_at types graph) is_single (operand_at types from) (type_at types to.0)) fitted (tt, const_is (graph_at types graph) is_single (operand_at types from) (type_at types to.0) (sym is ∙ holds))

pub by_static_here : (graph : Graph) (types : List CxxType) (is_single : Bool) (from : Operand) (to : TypeId) (test is_static : Bool) → Fitted graph types → test ≡ const_cast (operand_at types from) (type_at types to.0) → test ≡ false → static_cast (graph_at types graph) is_single (operand_at types from) (type_at types to.0) ≡ Ok is_static → is_static ≡ true → Casts graph types types (Ok (Some steps.Static)) (cast (graph_at types graph) is_single (operand_at types from) (type_at types to.0))
by_static_here graph types is_single from to test is_static fitted is not_const asked holds =
    let answer : static_cast (graph_at types graph) is_single (operand_at types from) (type_at types to.0) ≡ Ok true = asked ∙ ap (λ (b : Bool). let one : Asked Bool = Ok b in one) holds in
    cast_here graph types (Ok (Some steps.Static)) (cast (graph_at types graph) is_single (operand_at types from) (type_at types to.0)) fitted (tt, static_is (graph_at types graph) is_single (operand_at types from) (type_at types to.0) (sym is ∙ not_const) answer)

pub by_need_here : (graph : Graph) (types : List CxxType) (is_single : Bool) (from : Operand) (to : TypeId) (test : Bool) (waits : Wait) → Fitted graph types → test ≡ const_cast (operand_at types from) (type_at types to.0) → test ≡ false → Waits waits (static_cast (graph_at types graph) is_single (operand_at types from) (type_at types to.0)) → Casts graph types types (Err waits) (cast (graph_at types graph) is_single (operand_at types from) (type_at types to.0))
by_need_here graph types is_single from to test wait.OutOfMemory fitted is not_const asked = cast_here graph types (Err wait.OutOfMemory) (cast (graph_at types graph) is_single (operand_at types from) (type_at types to.0)) fitted tt
by_need_here graph types is_single from to test (wait.Needs class) fitted is not_const asked = cast_here graph types (Err (wait.Needs class)) (cast (graph_at types graph) is_single (operand_at types from) (type_at types to.0)) fitted (needs_is (graph_at types graph) is_single (operand_at types from) (type_at types to.0) class (sym is ∙ not_const) asked)

pub by_more : (graph : Graph) (old new : List CxxType) (is_single : Bool) (from : Operand) (to : TypeId) (test is_static : Bool) (result : Result (Option CastSteps) Wait) → test ≡ const_cast (operand_at old from) (type_at old to.0) → test ≡ false → static_cast (graph_at old graph) is_single (operand_at old from) (type_at old to.0) ≡ Ok is_static → is_static ≡ false → Casts graph old new result (cast_by_two (graph_at old graph) is_single (operand_at old from) (type_at old to.0)) → Casts graph old new result (cast (graph_at old graph) is_single (operand_at old from) (type_at old to.0))
by_more graph old new is_single from to test is_static result is not_const asked not_static more =
    let answer : static_cast (graph_at old graph) is_single (operand_at old from) (type_at old to.0) ≡ Ok false = asked ∙ ap (λ (b : Bool). let one : Asked Bool = Ok b in one) not_static in
    subst (λ (a : Asked (Option CxxCast)). Casts graph old new result a) (sym (between_is (graph_at old graph) is_single (operand_at old from) (type_at old to.0) (sym is ∙ not_const) answer)) more

pub conversion_is : (graph : CxxGraph) (is_single : Bool) (from : CxxOperand) (to : CxxType) (steps : SequenceSteps) → steps_between graph from to ≡ Ok (Some steps) → static_cast graph is_single from to ≡ Ok true
unfolding static_cast static_unless
conversion_is graph is_single from to steps is = by (is_void (kind_of to))
  where
    by : (b : Bool) → (if b then Ok true else (steps_between graph from to >>= λ found. static_unless graph is_single from to found)) ≡ Ok true
    by true = refl
    by false = rw is refl
