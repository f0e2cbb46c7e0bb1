-- Where the reading of a class stops that stands in no other one, with the default arguments and the bodies of the functions in
-- it (9.2).
use Rattle.std.proofs.Common.{◌≡◌}
use Rattle.std.specs.Prelude.{ℕ, Bool, false, nat_lt, List, [], ◌∷◌, ◌++◌}
use Rattle.std.proofs.lemmas.Bool.{ltb-true}
use Rattle.cxx_model.specs.Stops.{Answer}
use Rattle.cxx_reading.specs.declared.specifier.SpecifierPlace.TheVariants as where_
use Rattle.cxx_reading.specs.Declarators.{Specifiers, has_type}
use Rattle.cxx_reading.specs.Declaring.{scope_count}
use Rattle.cxx_reading.specs.Reads.{Ahead, Got, then_read, got}
use Rattle.cxx_reading.specs.State.{CxxState}
use Rattle.cxx_reading.specs.Trees.{CxxTree, in_turn}
use Rattle.cxx_language.specs.Classes.{class_at, class_or_not, class_whole, declaration_specifiers, with_parts}
use Rattle.cxx_language.specs.Later.{all_read, body_read, definition_tree, each_read, list_there, waiting_read}
use Rattle.cxx_later.specs.Defaults.{defaults_in}
use Rattle.cxx_later.specs.Waiting.{Waiting, name_declared, waiting_in}
use Rattle.cxx_language_laws.specs.Stopping.{Gives, Part, a_simple_declaration, behind_class, further_specifiers_of, in_specifiers, next_body, some_bodies, specifiers_of, to_bodies, to_class, to_defaults, to_later_body}
use Rattle.cxx_language_laws.specs.Told.{EndsIn}
use Rattle.cxx_language_laws.proofs.BodiesStop.{function_body_stops}
use Rattle.cxx_language_laws.proofs.ClassStops.{class_stops, further_stop}
use Rattle.cxx_language_laws.proofs.DeclaratorsStop.{specifiers_stop}
use Rattle.cxx_language_laws.proofs.Later.{IsLater, later_is_quiet}
use Rattle.cxx_language_laws.proofs.LaterDefaults.{defaults_stop, ends_tells, forward_tells, when_there}
use Rattle.cxx_language_laws.proofs.Stopping.{Inside, Stops, calm, calm_from, later_is_held, leads_here, leads_in, then_calm, which_in, whole_calm, whole_stops}
use Rattle.cxx_language_laws.proofs.Tells.{give_in, looked_in, same_in, tells_read, tells_stop, then_from, then_in}

-- ---- one body

waiting_stops : (one : Waiting) (others : List Waiting) (so_far : List CxxTree) (state : CxxState) (ahead : Ahead) → Inside (some_bodies (one ∷ others) so_far) state ahead (waiting_read one state ahead)
unfolding waiting_read body_read list_there
waiting_stops one others so_far state ahead =
    then_from (λ there. body_read one) (calm (forward_tells one.first state ahead)) (λ at is later stands.
    when_there (nat_lt one.list (scope_count at.state.graph)) _ at.state at.rest (λ within.
    then_calm (function_body_stops later_is_held one.room (name_declared one.declarator) one.of one.number one.list at.state at.rest (ltb-true one.list (scope_count at.state.graph) within) later stands (λ less defined begun is_more is_defined begins. to_later_body is_more is is_defined begins)) (λ body state middle.
    then_in later_is_quiet (ends_tells one.last state middle) (λ ended state middle.
    then_in later_is_quiet (looked_in later_is_quiet state middle) (λ to. give_in later_is_quiet (definition_tree one.declarator body at.rest to))))))

-- one after another
each_stops : (waiting : List Waiting) (so_far : List CxxTree) (state : CxxState) (ahead : Ahead) → Stops (some_bodies waiting so_far) state ahead (each_read waiting so_far state ahead)
unfolding each_read
each_stops [] so_far state ahead = whole_calm (give_in later_is_quiet so_far state ahead)
each_stops (one ∷ others) so_far state ahead =
    whole_stops (λ fault is. is) (then_from (λ tree. each_read others (so_far ++ tree ∷ [])) (waiting_stops one others so_far state ahead) (λ read is later stands.
    leads_in (next_body is) later stands (each_stops others (so_far ++ read.value ∷ []) read.state read.rest)))

-- ---- the whole

-- the reader stands behind the class again
returned : {part : Part} {state : CxxState} {ahead : Ahead} (to : Ahead) → EndsIn ahead.tokens to.tokens → {r : Answer (Got CxxState (List CxxTree))} → Inside part state ahead r
    → Inside part state ahead (then_read r (λ bodies. λ (s : CxxState) (a : Ahead). got bodies s to))
returned to stands (tells_read one later ends) = tells_read (record { value = one.value; state = one.state; rest = to }) later stands
returned to stands (tells_stop why told) = tells_stop why told

-- the default arguments in it, from where it began, and then the bodies, from there again
all_stop : (room : ℕ) (as_extern : Bool) (specifiers one : Specifiers) (state between whole : CxxState) (ahead middle rest : Ahead) → Gives (specifiers_of room where_.Declaration) state ahead specifiers between middle → has_type specifiers ≡ false → Gives (class_at room specifiers) between middle one whole rest
    → IsLater state whole → EndsIn ahead.tokens middle.tokens → EndsIn ahead.tokens rest.tokens → Inside (a_simple_declaration room as_extern) state ahead (all_read middle rest (defaults_in (in_turn one.parts)) (waiting_in room (in_turn one.parts)) whole rest)
unfolding all_read
all_stop room as_extern specifiers one state between whole ahead middle rest is untyped is_class later stands ends =
    then_from _ (leads_in (to_defaults is untyped is_class) later stands (defaults_stop (defaults_in (in_turn one.parts)) whole middle)) (λ read were_read more further.
    returned rest ends (leads_in (to_bodies is untyped is_class were_read) more stands (each_stops (waiting_in room (in_turn one.parts)) [] read.state middle)))

class_whole_stops : (room : ℕ) (as_extern : Bool) (specifiers : Specifiers) (state between : CxxState) (ahead middle : Ahead) → Gives (specifiers_of room where_.Declaration) state ahead specifiers between middle → has_type specifiers ≡ false → IsLater state between → EndsIn ahead.tokens middle.tokens
    → Inside (a_simple_declaration room as_extern) state ahead (class_whole room specifiers between middle)
unfolding class_whole
class_whole_stops room as_extern specifiers state between ahead middle is untyped later stands =
    then_from _ (leads_in (to_class is untyped) later stands (class_stops room specifiers between middle)) (λ one is_class further ends.
    then_calm (all_stop room as_extern specifiers one.value state between one.state ahead middle one.rest is untyped is_class further stands ends) (λ bodies. give_in later_is_quiet (with_parts one.value bodies)))

-- ---- the specifiers of a declaration of a namespace

pub all_specifiers_stop : (room : ℕ) (as_extern : Bool) (state : CxxState) (ahead : Ahead) → Inside (a_simple_declaration room as_extern) state ahead (declaration_specifiers room state ahead)
unfolding declaration_specifiers class_or_not
all_specifiers_stop room as_extern state ahead =
    then_from (class_or_not room) (leads_here in_specifiers (specifiers_stop room where_.Declaration state ahead)) (λ one is later stands.
    which_in (has_type one.value) (λ typed. calm_from later stands (same_in later_is_quiet one.value one.state one.rest)) (λ untyped.
    then_from (further_specifiers_of room where_.Declaration) (class_whole_stops room as_extern one.value state one.state ahead one.rest is untyped later stands) (λ more is_class further ends.
    leads_in (behind_class is untyped is_class) further ends (further_stop room where_.Declaration more.value more.state more.rest))))
