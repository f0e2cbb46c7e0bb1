-- Where the reader stands behind the name of a class that is defined, which may have qualifiers, and what stops it (9, 3.4.3).
use Rattle.std.proofs.Common.{◌≡◌, ap, ◌∙◌, refl}
use Rattle.std.specs.Prelude.{Bool, true, false, not, ◌&&◌, if◌then◌else◌, List, [], ◌∷◌, Option, Some, None, Ok, Err}
use Rattle.cxx_model.specs.declared.lookup.Found.{Found}
use Rattle.cxx_model.specs.Facts.Declarations.{spelled}
use Rattle.cxx_model.specs.Stops.{Answer, ◌>>=◌, undeclared_at}
use Rattle.cxx_model.specs.Text.Lexemes.{Lexeme}
use Rattle.cxx_meaning.specs.Lookups.Wanted.{types_only}
use Rattle.cxx_reading.specs.declared.region.Region.{Region}
use Rattle.cxx_reading.specs.declared.region.Region.TheVariants as region
use Rattle.cxx_reading.specs.Classes.{ClassNamed, first_class}
use Rattle.cxx_reading.specs.Declaring.{at_scope}
use Rattle.cxx_reading.specs.Paths.{name_in, region_of, sought_in}
use Rattle.cxx_reading.specs.Reads.{Ahead, Got, answered, behind, give, got, kind_ahead, then_read}
use Rattle.cxx_reading.specs.Seen.{Numbered, declared_in, place_of_first, set_in}
use Rattle.cxx_reading.specs.State.{CxxState}
use Rattle.cxx_reading.specs.Syntax.{token_of}
use Rattle.cxx_reading.specs.Tokens.{begins_name, behind_name, is_name, is_plain_name, is_unbuilt_part, is_whole_name, lacks_first_part, no_part_there, not_built, path_ahead, path_taken, refused}
use Rattle.cxx_paths.specs.Asked.{not_wanted_at}
use Rattle.cxx_declare.specs.OutsideClasses.{enter_class, entered_by, entered_found, entered_in, scope_in}
use Rattle.cxx_language.specs.Classes.{class_name, name_of_path, name_or_none}
use Rattle.cxx_language_laws.specs.Stopping.{a_class_name}
use Rattle.cxx_language_laws.specs.Told.{EndsIn}
use Rattle.cxx_language_laws.proofs.Members.{EachEnters, EntersBy, EntersIn, class_placed, enters_answer, enters_read, enters_refusal, enters_stop, member_placed}
use Rattle.cxx_language_laws.proofs.Reached.{IsElsewhere, IsPlaced, Told, arrived_here, later_is_told, placed_here}
use Rattle.cxx_language_laws.proofs.Regions.{ClearOr, IsQualifier, clear_or, is_clear, is_twain, last_ahead, nothing_ahead, region_inside, region_told, twofold_ahead}
use Rattle.cxx_language_laws.proofs.Stopping.{ChainedOf, arrived_whole, whole_part}
use Rattle.cxx_language_laws.proofs.Tells.{ToldIn, behind_stands, name_stands, tells_read, tells_stop, whole_stands}

-- ---- what declares the class

region_placed : (state : CxxState) (ahead : Ahead) (where_ : Region) → IsQualifier where_ → begins_name ahead ≡ true → region_of state.graph state.here.scope (path_ahead ahead) ≡ Ok where_ → IsPlaced state ahead (at_scope (scope_in state.graph where_) state)
region_placed state ahead (region.Inside space) is begins means = member_placed state ahead space begins means
region_placed state ahead (region.Outward scope) is begins means = absurd is
region_placed state ahead (region.Class class) is begins means = class_placed state ahead class begins means

-- the name means something and a class is declared there itself, or it stops
entered_enters : (state : CxxState) (ahead : Ahead) (where_ : Region) → IsPlaced state ahead (at_scope (scope_in state.graph where_) state) → (all : List Numbered) → (all ≡ [] → Told state ahead (undeclared_at (last_ahead ahead).place (last_ahead ahead).word)) → (one : Option ClassNamed)
    → EntersBy state ahead (entered_by (last_ahead ahead) (scope_in state.graph where_) (place_of_first all) one state)
entered_enters state ahead where_ placed [] unknown one = enters_refusal _ (unknown refl)
entered_enters state ahead where_ placed (first ∷ others) unknown (Some one) = enters_answer (tt, at_scope (scope_in state.graph where_) state) placed
entered_enters state ahead where_ placed (first ∷ others) unknown None = let why = not_wanted_at (last_ahead ahead) (place_of_first (first ∷ others)) in enters_refusal why (later_is_told.quiet state ahead why refl)

found_enters : (state : CxxState) (ahead : Ahead) → begins_name ahead ≡ true → is_whole_name ahead ≡ true → (where_ : Region) → IsQualifier where_ → region_of state.graph state.here.scope (path_ahead ahead) ≡ Ok where_ → (x : Found) → sought_in state.graph types_only where_ (name_in (path_ahead ahead)) ≡ x
    → EntersBy state ahead (entered_found (last_ahead ahead) where_ x state)
found_enters state ahead begins whole where_ qualifies means x is = by (clear_or state.graph (last_ahead ahead) x)
  where
    by : {r : Answer (Unit {0})} → ClearOr state.graph (last_ahead ahead) x r → EntersBy state ahead (r >>= λ clear. entered_in (last_ahead ahead) (scope_in state.graph where_) (set_in state.graph x) state)
    by (is_clear clear) =
        entered_enters state ahead where_ (region_placed state ahead where_ qualifies begins means) (set_in state.graph x) (nothing_ahead types_only tt state ahead begins whole where_ means x is clear)
        (first_class (declared_in state.graph (scope_in state.graph where_) (spelled (last_ahead ahead).word)))
    by (is_twain why two) = enters_refusal why (twofold_ahead types_only tt state ahead begins whole where_ means x why two is)

class_enters : (state : CxxState) (ahead : Ahead) → begins_name ahead ≡ true → is_whole_name ahead ≡ true → is_plain_name ahead ≡ false → EntersBy state ahead (enter_class (path_ahead ahead) state)
unfolding enter_class
class_enters state ahead begins whole plain = by (region_of state.graph state.here.scope (path_ahead ahead)) refl
  where
    by : (o : Answer Region) → region_of state.graph state.here.scope (path_ahead ahead) ≡ o → EntersBy state ahead (o >>= λ where_. entered_found (last_ahead ahead) where_ (sought_in state.graph types_only where_ (name_in (path_ahead ahead))) state)
    by (Ok where_) means = found_enters state ahead begins whole where_ (region_inside state.graph state.here.scope ahead where_ begins whole plain means) means (sought_in state.graph types_only where_ (name_in (path_ahead ahead))) refl
    by (Err why) e = enters_refusal why (region_told state ahead begins whole why e)

-- ---- the name

-- with qualifiers
path_enters : (state : CxxState) (ahead : Ahead) → begins_name ahead ≡ true → is_plain_name ahead ≡ false → EntersIn state ahead (then_read (path_taken state ahead) name_of_path)
unfolding path_taken no_part_there
path_enters state ahead begins plain = by (is_whole_name ahead) refl
  where
    behind_it : {r : Answer (Unit {0} × CxxState)} → EntersBy state ahead r → EntersIn state ahead (then_read (answered r (behind_name ahead)) (λ entered. give (Some (token_of (last_ahead ahead)))))
    behind_it (enters_answer one placed) = enters_read (record { value = Some (token_of (last_ahead ahead)); state = one.1; rest = behind_name ahead }) placed (name_stands ahead)
    behind_it (enters_refusal why told) = enters_stop why (arrived_here state ahead why told)

    no_part : (b : Bool) → EntersIn state ahead (then_read (if b then not_built state (behind_name ahead) else refused state (behind_name ahead)) name_of_path)
    no_part true = enters_stop _ tt
    no_part false = enters_stop _ tt

    by : (b : Bool) → is_whole_name ahead ≡ b → EntersIn state ahead (then_read (if b then got (path_ahead ahead) state (behind_name ahead) else no_part_there (lacks_first_part ahead) state (behind_name ahead)) name_of_path)
    by true whole = behind_it (class_enters state ahead begins whole plain)
    by false whole = no_part (is_unbuilt_part (lacks_first_part ahead) (kind_ahead (behind_name ahead)))

-- a plain one, or none
plain_stands : (ahead : Ahead) → (b : Bool) → EndsIn ahead.tokens (if b then behind ahead else ahead).tokens
plain_stands ahead true = behind_stands ahead
plain_stands ahead false = whole_stands ahead.tokens

name_enters : EachEnters class_name
unfolding class_name
name_enters state ahead = by (begins_name ahead) refl (is_plain_name ahead) refl
  where
    none : EntersIn state ahead (name_or_none state ahead)
    none = enters_read _ (placed_here state ahead) (plain_stands ahead (is_name (kind_ahead ahead)))

    by : (b : Bool) → begins_name ahead ≡ b → (c : Bool) → is_plain_name ahead ≡ c → EntersIn state ahead (if b && not c then then_read (path_taken state ahead) name_of_path else name_or_none state ahead)
    by true begins false plain = path_enters state ahead begins plain
    by true begins true plain = none
    by false begins c plain = none

-- behind it the reader may stand elsewhere
pub class_name_stops : (state : CxxState) (ahead : Ahead) → ToldIn IsElsewhere (ChainedOf whole_part a_class_name) state ahead (class_name state ahead)
class_name_stops state ahead = by (class_name state ahead) refl (name_enters state ahead)
  where
    by : (r : Answer (Got CxxState (Option Lexeme))) → class_name state ahead ≡ r → EntersIn state ahead r → ToldIn IsElsewhere (ChainedOf whole_part a_class_name) state ahead r
    by _ e (enters_read one placed stands) = tells_read one placed.elsewhere stands
    by _ e (enters_stop why told) = tells_stop why (arrived_whole a_class_name state ahead why tt (λ fault is. e ∙ ap Err is) told)
