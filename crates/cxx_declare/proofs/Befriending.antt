-- Friends (11.4).
use Rattle.std.specs.Prelude.{ℕ, ◌≡◌, ◌<◌, ◌+◌, Bool, true, false, ◌||◌, nat_eq, if◌then◌else◌, find, List, [], ◌∷◌, length, Option, Some, None, option_map, Result, Ok, Err, refl}
use Rattle.std.specs.List.{slice_get}
use Rattle.std.proofs.Common.{ap, sym, subst, ◌∙◌, arith, drop, get_or}
use Rattle.std.proofs.lemmas.List.{at_drop_more}
use Rattle.cxx_model.specs.declared.facts.Entity.TheVariants as entity
use Rattle.cxx_model.specs.declared.facts.Fact.{Fact}
use Rattle.cxx_model.specs.declared.facts.Name.TheVariants as name
use Rattle.cxx_model.specs.declared.place.Place.{Place}
use Rattle.cxx_model.specs.declared.stop.Stop.{Stop}
use Rattle.cxx_model.specs.declared.stop.Stop.TheVariants as stop
use Rattle.cxx_model.specs.declared.token.TokenKind.{TokenKind}
use Rattle.cxx_model.specs.declared.types.ClassId.{ClassId}
use Rattle.cxx_model.specs.declared.types.Cv.{Cv}
use Rattle.cxx_model.specs.declared.types.FactId.{FactId}
use Rattle.cxx_model.specs.declared.types.ScopeId.{ScopeId}
use Rattle.cxx_model.specs.declared.types.TypeId.{TypeId}
use Rattle.cxx_model.specs.Facts.Declarations.{CxxFact, CxxGraph, fact_at, facts_at, graph_at}
use Rattle.cxx_model.specs.Facts.Entities.{is_space}
use Rattle.cxx_model.specs.Facts.Graph.{Graph, InRange, scopes}
use Rattle.cxx_model.specs.Stops.{Answer, Stops, ◌>>=◌}
use Rattle.cxx_model.specs.Text.Lexemes.{Lexeme}
use Rattle.cxx_model.specs.Types.Trees.{CxxType}
use Rattle.cxx_meaning.specs.Lookups.Scopes.{chain, first_space, kind_of}
use Rattle.cxx_names.specs.Clashes.{IsPlainName}
use Rattle.cxx_reading.specs.Classes.{class_fact, scope_or_unit}
use Rattle.cxx_reading.specs.Declaring.{at_scope, class_of_here}
use Rattle.cxx_reading.specs.Linked.{home_of, scope_id}
use Rattle.cxx_reading.specs.Seen.{Numbered, fact_numbers, numbered_at, numbered_by}
use Rattle.cxx_reading.specs.State.{CxxState}
use Rattle.cxx_reading.specs.Trees.{CxxPathPart}
use Rattle.cxx_declare.specs.Befriended.{brought_by, class_declared, is_declared, next_numbered}
use Rattle.cxx_declare.specs.Begun.{IsAddable}
use Rattle.cxx_declare.specs.Friends.{any_brings, befriend, befriend_again, befriend_by, befriend_function, befriend_new, befriended, class_number, first_number, numbered_as, stands_within}
use Rattle.cxx_declare.specs.Functions.{declare_unread}
use Rattle.cxx_declare.specs.Made.{made, token, told_added, word_in}
use Rattle.cxx_declare.specs.Outside.{declare_again}
use Rattle.cxx_declare.proofs.Classed.{AreBelow, count_is, find_below, up_below, word_is}
use Rattle.cxx_declare.proofs.Firsts.{fact_seen}
use Rattle.cxx_paths.proofs.Stopping.{stopped_on}
use Rattle.cxx_tree.specs.Answered.{AnyKnown, IsAnswered, IsFactKnown, fact_number, itself, scope_of_option}
use Rattle.cxx_tree.specs.Held.{Held, meaning, type_of}
use Rattle.cxx_tree.specs.Later.{Later}
use Rattle.cxx_tree.proofs.Steps.{Later_refl, Later_trans}
use Rattle.cxx_tree.proofs.Wholes.{may_follow}

-- ---- where the reader stands

space_below : (graph : Graph) (types : List CxxType) (all : List ScopeId) → 0 < scopes graph.facts → AreBelow (scopes graph.facts) all → (first_space (facts_at types graph.facts) all).0 < scopes graph.facts
unfolding first_space
space_below graph types all some below = by (find (λ one. is_space (kind_of (facts_at types graph.facts) one)) all) refl (find_below (scopes graph.facts) (λ one. is_space (kind_of (facts_at types graph.facts) one)) all some below)
  where
    by : (o : Option ScopeId) → find (λ one. is_space (kind_of (facts_at types graph.facts) one)) all ≡ o → (scope_or_unit o).0 < scopes graph.facts → (first_space (facts_at types graph.facts) all).0 < scopes graph.facts
    by None e less = rw e less
    by (Some one) e less = rw e less

home_there : (graph : Graph) (types : List CxxType) (scope : ℕ) → InRange graph → scope < scopes graph.facts → home_of (graph_at types graph) scope < scopes graph.facts
unfolding home_of
home_there graph types scope ok within = space_below graph types (chain (facts_at types graph.facts) (scope_id scope)) (omega (arith, within)) (up_below graph types ok scope (scope_id scope) within)

pub home_below : (held : Held) (graph : Graph) (scope : ScopeId) (n : ℕ) → graph ≡ held.graph → InRange graph → scope.0 < scopes held.graph.facts → n ≡ home_of (graph_at held.types graph) scope.0 → n < scopes held.graph.facts
home_below held graph scope n same ok within is =
    subst (λ (g : Graph). n < scopes g.facts) same
    (subst (λ (m : ℕ). m < scopes graph.facts) (sym is) (home_there graph held.types scope.0 ok (subst (λ (g : Graph). scope.0 < scopes g.facts) (sym same) within)))

-- ---- what is befriended is noted in the class

pub friend_ready : (held : Held) (scope : ScopeId) (place : Place) (class : ClassId) (target : FactId) (fact : Fact) → scope.0 < scopes held.graph.facts → class.0 < length held.graph.classes → target.0 < length held.graph.facts → fact ≡ made scope place name.Unnamed (entity.Friend class target) → IsAddable held fact
friend_ready held scope place class target fact there known declared is =
    subst (λ (f : Fact). IsAddable held f) (sym is) (record {
      follows = may_follow held.graph (made scope place name.Unnamed (entity.Friend class target)) there (known, declared);
      below = record { name = tt; what = tt };
      plain = tt;
    })

pub friend_added : (old new : Held) (scope : ScopeId) (place : Place) (class : ClassId) (target : FactId) (fact : Fact) (r : Result (Unit {0}) Stop) → scope ≡ old.scope → fact ≡ made scope place name.Unnamed (entity.Friend class target) → IsAnswered itself AnyKnown old new r (told_added (fact_at old.types fact) (meaning old)) → IsAnswered itself AnyKnown old new r (befriend_by place target.0 (Some class) (meaning old))
unfolding meaning
friend_added old new scope place class target fact r here is answered =
    subst (λ (f : CxxFact). IsAnswered itself AnyKnown old new r (told_added f (meaning old))) (ap (fact_at old.types) (is ∙ ap (λ (s : ScopeId). made s place name.Unnamed (entity.Friend class target)) here)) answered

pub befriend_class_here : (old new : Held) (place : Place) (n : ℕ) (class : Option ClassId) (r : Result (Unit {0}) Stop) → class ≡ class_of_here (meaning old) → IsAnswered itself AnyKnown old new r (befriend_by place n class (meaning old)) → IsAnswered itself AnyKnown old new r (befriend place n (meaning old))
unfolding befriend
befriend_class_here old new place n class r is answered = subst (λ (c : Option ClassId). IsAnswered itself AnyKnown old new r (befriend_by place n c (meaning old))) is answered

pub no_fact : (held : Held) (reply : Answer (ℕ × CxxState)) → IsAnswered fact_number AnyKnown held held (Err stop.OutOfMemory) reply
no_fact held reply = record { is = tt; later = Later_refl held }

pub befriended_noted : (old middle new : Held) (scope : ScopeId) (place : Place) (number : FactId) (noted : Unit {0}) → Later old middle → meaning middle ≡ at_scope scope.0 (meaning old) → IsAnswered itself AnyKnown middle new (Ok noted) (befriend place number.0 (meaning middle)) → IsAnswered fact_number AnyKnown old new (Ok number) (befriended scope.0 place (number.0, meaning old))
befriended_noted old middle new scope place number noted later is answered =
    let go : Unit {0} × CxxState → Answer (ℕ × CxxState) = λ one. Ok (numbered_as number.0 one) in
    record {
      is = (ap (λ (s : CxxState). befriend place number.0 s >>= go) (sym is) ∙ ap (λ (a : Answer (Unit {0} × CxxState)). a >>= go) answered.is.0, tt);
      later = Later_trans old middle new later answered.later;
    }

pub befriended_failed : (old middle new : Held) (scope : ScopeId) (place : Place) (number : FactId) (why : Stop) → Later old middle → meaning middle ≡ at_scope scope.0 (meaning old) → IsAnswered itself AnyKnown middle new (Err why) (befriend place number.0 (meaning middle)) → IsAnswered fact_number AnyKnown old new (Err why) (befriended scope.0 place (number.0, meaning old))
befriended_failed old middle new scope place number why later is answered =
    let go : Unit {0} × CxxState → Answer (ℕ × CxxState) = λ one. Ok (numbered_as number.0 one) in
    record {
      is = subst (λ (s : CxxState). Stops why (befriend place number.0 s >>= go)) is (stopped_on why (befriend place number.0 (meaning middle)) go answered.is);
      later = Later_trans old middle new later answered.later;
    }

-- ---- functions

then_befriended : (old middle new : Held) (scope : ScopeId) (place : Place) (number : FactId) (r : Result FactId Stop) (reply : Answer (ℕ × CxxState)) → IsAnswered fact_number IsFactKnown old middle (Ok number) reply → IsAnswered fact_number AnyKnown middle new r (befriended scope.0 place (number.0, meaning middle)) → IsAnswered fact_number AnyKnown old new r (reply >>= befriended scope.0 place)
then_befriended old middle new scope place number r reply one two =
    subst (λ (a : Answer (ℕ × CxxState)). IsAnswered fact_number AnyKnown old new r a) (sym (ap (λ (a : Answer (ℕ × CxxState)). a >>= befriended scope.0 place) one.is.0)) (record { is = two.is; later = Later_trans old middle new one.later two.later })

then_failed : (old new : Held) (scope : ScopeId) (place : Place) (why : Stop) (reply : Answer (ℕ × CxxState)) → IsAnswered fact_number IsFactKnown old new (Err why) reply → IsAnswered fact_number AnyKnown old new (Err why) (reply >>= befriended scope.0 place)
then_failed old new scope place why reply one = record { is = stopped_on why reply (befriended scope.0 place) one.is; later = one.later }

-- the reader stands in the innermost namespace
from_home : (old home new : Held) (number : ℕ) (reply : CxxState → Answer (ℕ × CxxState)) (r : Result FactId Stop) → number ≡ home_of (meaning old).graph (meaning old).here.scope → Later old home → meaning home ≡ at_scope number (meaning old) → IsAnswered fact_number AnyKnown home new r (reply (meaning home)) → IsAnswered fact_number AnyKnown old new r (reply (at_scope (home_of (meaning old).graph (meaning old).here.scope) (meaning old)))
from_home old home new number reply r is later at answered =
    record {
      is = (subst (λ (s : CxxState). IsAnswered fact_number AnyKnown home new r (reply s)) (at ∙ ap (λ n. at_scope n (meaning old)) is) answered).is;
      later = Later_trans old home new later answered.later;
    }

same_type_of : (old home : Held) (scope : ScopeId) (of : TypeId) → home ≡ record old { scope = scope } → type_of home of ≡ type_of old of
same_type_of old home scope of is = ap (λ (h : Held). type_of h of) is

abbrev function_reply : ℕ → Option ℕ → Lexeme → Place → CxxType → CxxState → Answer (ℕ × CxxState)
function_reply scope list name place of state = declare_unread list name of state >>= befriended scope place

pub function_then : (old home middle new : Held) (scope here : ScopeId) (list : Option ScopeId) (kind : TokenKind) (place : Place) (word : List ℕ) (of : TypeId) (number : FactId) (r : Result FactId Stop) → here.0 ≡ home_of (meaning old).graph (meaning old).here.scope → Later old home → meaning home ≡ at_scope here.0 (meaning old) → home ≡ record old { scope = here }
    → IsAnswered fact_number IsFactKnown home middle (Ok number) (declare_unread (scope_of_option list) (token kind place word) (type_of home of) (meaning home)) → IsAnswered fact_number AnyKnown middle new r (befriended scope.0 place (number.0, meaning middle)) → IsAnswered fact_number AnyKnown old new r (befriend_function scope.0 (scope_of_option list) (token kind place word) (type_of old of) (meaning old))
unfolding befriend_function
function_then old home middle new scope here list kind place word of number r is later at held one two =
    from_home old home new here.0 (function_reply scope.0 (scope_of_option list) (token kind place word) place (type_of old of)) r is later at
    (subst (λ (t : CxxType). IsAnswered fact_number AnyKnown home new r (declare_unread (scope_of_option list) (token kind place word) t (meaning home) >>= befriended scope.0 place)) (same_type_of old home here of held)
    (then_befriended home middle new scope place number r (declare_unread (scope_of_option list) (token kind place word) (type_of home of) (meaning home)) one two))

pub function_failed : (old home new : Held) (scope here : ScopeId) (list : Option ScopeId) (kind : TokenKind) (place : Place) (word : List ℕ) (of : TypeId) (why : Stop) → here.0 ≡ home_of (meaning old).graph (meaning old).here.scope → Later old home → meaning home ≡ at_scope here.0 (meaning old) → home ≡ record old { scope = here }
    → IsAnswered fact_number IsFactKnown home new (Err why) (declare_unread (scope_of_option list) (token kind place word) (type_of home of) (meaning home)) → IsAnswered fact_number AnyKnown old new (Err why) (befriend_function scope.0 (scope_of_option list) (token kind place word) (type_of old of) (meaning old))
unfolding befriend_function
function_failed old home new scope here list kind place word of why is later at held one =
    from_home old home new here.0 (function_reply scope.0 (scope_of_option list) (token kind place word) place (type_of old of)) (Err why) is later at
    (subst (λ (t : CxxType). IsAnswered fact_number AnyKnown home new (Err why) (declare_unread (scope_of_option list) (token kind place word) t (meaning home) >>= befriended scope.0 place)) (same_type_of old home here of held)
    (then_failed home new scope place why (declare_unread (scope_of_option list) (token kind place word) (type_of home of) (meaning home)) one))

pub again_then : (old middle new : Held) (scope : ScopeId) (kind : TokenKind) (place : Place) (word : List ℕ) (cv : Cv) (of : CxxType) (number : FactId) (r : Result FactId Stop) → IsAnswered fact_number IsFactKnown old middle (Ok number) (declare_again (token kind place word) cv of (meaning old)) → IsAnswered fact_number AnyKnown middle new r (befriended scope.0 place (number.0, meaning middle)) → IsAnswered fact_number AnyKnown old new r (befriend_again scope.0 (token kind place word) cv of (meaning old))
unfolding befriend_again
again_then old middle new scope kind place word cv of number r one two = then_befriended old middle new scope place number r (declare_again (token kind place word) cv of (meaning old)) one two

pub again_failed : (old new : Held) (scope : ScopeId) (kind : TokenKind) (place : Place) (word : List ℕ) (cv : Cv) (of : CxxType) (why : Stop) → IsAnswered fact_number IsFactKnown old new (Err why) (declare_again (token kind place word) cv of (meaning old)) → IsAnswered fact_number AnyKnown old new (Err why) (befriend_again scope.0 (token kind place word) cv of (meaning old))
unfolding befriend_again
again_failed old new scope kind place word cv of why one = then_failed old new scope place why (declare_again (token kind place word) cv of (meaning old)) one

-- ---- declarations that are found

pub seen_some : (types : List CxxType) (facts : List Fact) (n : ℕ) (fact : Fact) → slice_get facts n ≡ Some fact → slice_get (facts_at types facts) n ≡ Some (fact_at types fact)
seen_some types facts n fact at = fact_seen types facts n ∙ ap (option_map (fact_at types)) at

pub seen_none : (types : List CxxType) (facts : List Fact) (n : ℕ) → slice_get facts n ≡ None → slice_get (facts_at types facts) n ≡ None
seen_none types facts n at = fact_seen types facts n ∙ ap (option_map (fact_at types)) at

-- of a state
pub here_some : (held : Held) (graph : Graph) (n : ℕ) (fact : Fact) → graph ≡ held.graph → slice_get graph.facts n ≡ Some fact → slice_get (meaning held).graph.facts n ≡ Some (fact_at held.types fact)
unfolding meaning
here_some held graph n fact same at = seen_some held.types held.graph.facts n fact (subst (λ (g : Graph). slice_get g.facts n ≡ Some fact) same at)

pub here_none : (held : Held) (graph : Graph) (n : ℕ) → graph ≡ held.graph → slice_get graph.facts n ≡ None → slice_get (meaning held).graph.facts n ≡ None
unfolding meaning
here_none held graph n same at = seen_none held.types held.graph.facts n (subst (λ (g : Graph). slice_get g.facts n ≡ None) same at)

number_passed : (n : ℕ) (o : Option CxxFact) (rest : List Numbered) → is_declared o ≡ false → first_number (numbered_by n o rest) ≡ first_number rest
number_passed n None rest e = refl
number_passed n (Some fact) rest e = absurd (cc)

number_first : (n : ℕ) (o : Option CxxFact) (rest : List Numbered) → is_declared o ≡ true → first_number (numbered_by n o rest) ≡ Some n
number_first n None rest e = absurd (cc)
number_first n (Some fact) rest e = refl

class_passed : (n : ℕ) (o : Option CxxFact) (rest : List Numbered) → class_declared o ≡ false → class_number (numbered_by n o rest) ≡ class_number rest
class_passed n None rest e = refl
class_passed n (Some fact) rest e = ap (λ b. if b then Some n else class_number rest) e

class_first : (n : ℕ) (o : Option CxxFact) (rest : List Numbered) → class_declared o ≡ true → class_number (numbered_by n o rest) ≡ Some n
class_first n None rest e = absurd (cc)
class_first n (Some fact) rest e = ap (λ b. if b then Some n else class_number rest) e

brings_passed : (number n : ℕ) (o : Option CxxFact) (rest : List Numbered) → brought_by number o ≡ false → any_brings number (numbered_by n o rest) ≡ any_brings number rest
brings_passed number n None rest e = refl
brings_passed number n (Some fact) rest e = ap (λ b. b || any_brings number rest) e

brings_first : (number n : ℕ) (o : Option CxxFact) (rest : List Numbered) → brought_by number o ≡ true → any_brings number (numbered_by n o rest) ≡ true
brings_first number n None rest e = absurd (cc)
brings_first number n (Some fact) rest e = ap (λ b. b || any_brings number rest) e

module _ {A : Type 0} (f : List Numbered → A) (graph : CxxGraph) (numbers : List FactId) (i : ℕ) (d : FactId) (whole : A) (within : i < length numbers) (same : f (numbered_at graph (fact_numbers (drop i numbers))) ≡ whole) where
  step : f (numbered_by (get_or numbers i d).0 (slice_get graph.facts (get_or numbers i d).0) (numbered_at graph (fact_numbers (drop (i + 1) numbers)))) ≡ whole
  step = sym (at_drop_more (λ ns. f (numbered_at graph (fact_numbers ns))) numbers i d within) ∙ same

pub first_goes : (graph : CxxGraph) (numbers : List FactId) (i : ℕ) (d : FactId) (whole : Option ℕ) → i < length numbers → is_declared (slice_get graph.facts (get_or numbers i d).0) ≡ false → first_number (numbered_at graph (fact_numbers (drop i numbers))) ≡ whole → first_number (numbered_at graph (fact_numbers (drop (i + 1) numbers))) ≡ whole
first_goes graph numbers i d whole within e same = sym (number_passed (get_or numbers i d).0 (slice_get graph.facts (get_or numbers i d).0) (numbered_at graph (fact_numbers (drop (i + 1) numbers))) e) ∙ step first_number graph numbers i d whole within same

pub first_stops : (graph : CxxGraph) (numbers : List FactId) (i : ℕ) (d : FactId) (whole : Option ℕ) → i < length numbers → is_declared (slice_get graph.facts (get_or numbers i d).0) ≡ true → first_number (numbered_at graph (fact_numbers (drop i numbers))) ≡ whole → Some (get_or numbers i d).0 ≡ whole
first_stops graph numbers i d whole within e same = sym (number_first (get_or numbers i d).0 (slice_get graph.facts (get_or numbers i d).0) (numbered_at graph (fact_numbers (drop (i + 1) numbers))) e) ∙ step first_number graph numbers i d whole within same

pub class_goes : (graph : CxxGraph) (numbers : List FactId) (i : ℕ) (d : FactId) (whole : Option ℕ) → i < length numbers → class_declared (slice_get graph.facts (get_or numbers i d).0) ≡ false → class_number (numbered_at graph (fact_numbers (drop i numbers))) ≡ whole → class_number (numbered_at graph (fact_numbers (drop (i + 1) numbers))) ≡ whole
class_goes graph numbers i d whole within e same = sym (class_passed (get_or numbers i d).0 (slice_get graph.facts (get_or numbers i d).0) (numbered_at graph (fact_numbers (drop (i + 1) numbers))) e) ∙ step class_number graph numbers i d whole within same

pub class_stops : (graph : CxxGraph) (numbers : List FactId) (i : ℕ) (d : FactId) (whole : Option ℕ) → i < length numbers → class_declared (slice_get graph.facts (get_or numbers i d).0) ≡ true → class_number (numbered_at graph (fact_numbers (drop i numbers))) ≡ whole → Some (get_or numbers i d).0 ≡ whole
class_stops graph numbers i d whole within e same = sym (class_first (get_or numbers i d).0 (slice_get graph.facts (get_or numbers i d).0) (numbered_at graph (fact_numbers (drop (i + 1) numbers))) e) ∙ step class_number graph numbers i d whole within same

pub brings_goes : (number : ℕ) (graph : CxxGraph) (numbers : List FactId) (i : ℕ) (d : FactId) (whole : Bool) → i < length numbers → brought_by number (slice_get graph.facts (get_or numbers i d).0) ≡ false → any_brings number (numbered_at graph (fact_numbers (drop i numbers))) ≡ whole → any_brings number (numbered_at graph (fact_numbers (drop (i + 1) numbers))) ≡ whole
brings_goes number graph numbers i d whole within e same = sym (brings_passed number (get_or numbers i d).0 (slice_get graph.facts (get_or numbers i d).0) (numbered_at graph (fact_numbers (drop (i + 1) numbers))) e) ∙ step (any_brings number) graph numbers i d whole within same

pub brings_stops : (number : ℕ) (graph : CxxGraph) (numbers : List FactId) (i : ℕ) (d : FactId) (whole : Bool) → i < length numbers → brought_by number (slice_get graph.facts (get_or numbers i d).0) ≡ true → any_brings number (numbered_at graph (fact_numbers (drop i numbers))) ≡ whole → true ≡ whole
brings_stops number graph numbers i d whole within e same = sym (brings_first number (get_or numbers i d).0 (slice_get graph.facts (get_or numbers i d).0) (numbered_at graph (fact_numbers (drop (i + 1) numbers))) e) ∙ step (any_brings number) graph numbers i d whole within same

-- ---- one declaration

pub declared_some : (types : List CxxType) (facts : List Fact) (n : ℕ) (fact : Fact) → slice_get facts n ≡ Some fact → true ≡ is_declared (slice_get (facts_at types facts) n)
declared_some types facts n fact at = sym (ap is_declared (seen_some types facts n fact at))

pub declared_none : (types : List CxxType) (facts : List Fact) (n : ℕ) → slice_get facts n ≡ None → false ≡ is_declared (slice_get (facts_at types facts) n)
declared_none types facts n at = sym (ap is_declared (seen_none types facts n at))

pub class_some : (types : List CxxType) (facts : List Fact) (n : ℕ) (fact : Fact) (b : Bool) → slice_get facts n ≡ Some fact → b ≡ class_declared (Some (fact_at types fact)) → b ≡ class_declared (slice_get (facts_at types facts) n)
class_some types facts n fact b at is = is ∙ sym (ap class_declared (seen_some types facts n fact at))

pub class_none : (types : List CxxType) (facts : List Fact) (n : ℕ) → slice_get facts n ≡ None → false ≡ class_declared (slice_get (facts_at types facts) n)
class_none types facts n at = sym (ap class_declared (seen_none types facts n at))

pub brought_some : (types : List CxxType) (facts : List Fact) (number n : ℕ) (fact : Fact) (b : Bool) → slice_get facts n ≡ Some fact → b ≡ brought_by number (Some (fact_at types fact)) → b ≡ brought_by number (slice_get (facts_at types facts) n)
brought_some types facts number n fact b at is = is ∙ sym (ap (brought_by number) (seen_some types facts n fact at))

pub brought_none : (types : List CxxType) (facts : List Fact) (number n : ℕ) → slice_get facts n ≡ None → false ≡ brought_by number (slice_get (facts_at types facts) n)
brought_none types facts number n at = sym (ap (brought_by number) (seen_none types facts n at))

pub stands_some : (held : Held) (graph : Graph) (home n : ℕ) (fact : Fact) (b : Bool) → graph ≡ held.graph → slice_get graph.facts n ≡ Some fact → b ≡ nat_eq (home_of (meaning held).graph fact.scope.0) home → b ≡ stands_within (meaning held).graph home (slice_get (meaning held).graph.facts n)
stands_some held graph home n fact b same at is = is ∙ sym (ap (stands_within (meaning held).graph home) (here_some held graph n fact same at))

pub stands_none : (held : Held) (graph : Graph) (home n : ℕ) → graph ≡ held.graph → slice_get graph.facts n ≡ None → false ≡ stands_within (meaning held).graph home (slice_get (meaning held).graph.facts n)
stands_none held graph home n same at = sym (ap (stands_within (meaning held).graph home) (here_none held graph n same at))

-- ---- a class that is declared nowhere

pub new_befriended : (old new : Held) (home n : ℕ) (part : CxxPathPart) (is_union : Bool) (fact : Fact) (r : Result FactId Stop) → n ≡ length old.graph.classes → fact_at old.types fact ≡ class_fact home part n is_union → IsPlainName fact.name
    → IsAnswered fact_number IsFactKnown old new r (next_numbered (fact_at old.types fact) (word_in fact.name) (meaning old)) → IsAnswered fact_number IsFactKnown old new r (befriend_new part is_union home (meaning old))
new_befriended old new home n part is_union fact r next is plain answered =
    subst (λ (m : ℕ). IsAnswered fact_number IsFactKnown old new r (next_numbered (class_fact home part m is_union) part.word (meaning old))) (next ∙ sym (count_is old))
    (subst (λ (word : List ℕ). IsAnswered fact_number IsFactKnown old new r (next_numbered (class_fact home part n is_union) word (meaning old))) (word_is old.types fact.name part.word plain (ap (λ (f : CxxFact). f.name) is))
    (subst (λ (f : CxxFact). IsAnswered fact_number IsFactKnown old new r (next_numbered f (word_in fact.name) (meaning old))) is answered))
