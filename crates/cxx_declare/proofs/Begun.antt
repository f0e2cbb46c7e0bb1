-- Classes that begin and end (9.2).
use Rattle.std.specs.Prelude.{ℕ, ◌≡◌, ◌<◌, ◌++◌, Bool, true, false, List, [], ◌∷◌, length, Option, None, Result, Ok, Err, refl}
use Rattle.std.proofs.Common.{ap, sym, subst, ◌∙◌, arith, length-append}
use Rattle.cxx_model.specs.declared.facts.Access.{Access}
use Rattle.cxx_model.specs.declared.facts.Entity.{Entity}
use Rattle.cxx_model.specs.declared.facts.Entity.TheVariants as entity
use Rattle.cxx_model.specs.declared.facts.Fact.{Fact}
use Rattle.cxx_model.specs.declared.facts.Name.{Name}
use Rattle.cxx_model.specs.declared.facts.Name.TheVariants as name
use Rattle.cxx_model.specs.declared.facts.ScopeKind.TheVariants as scope_kind
use Rattle.cxx_model.specs.declared.place.Place.{Place}
use Rattle.cxx_model.specs.declared.stop.Stop.{Stop}
use Rattle.cxx_model.specs.declared.stop.Stop.TheVariants as stop
use Rattle.cxx_model.specs.declared.token.TokenKind.{TokenKind}
use Rattle.cxx_model.specs.declared.types.ClassId.{ClassId}
use Rattle.cxx_model.specs.declared.types.FactId.{FactId}
use Rattle.cxx_model.specs.declared.types.ScopeId.{ScopeId}
use Rattle.cxx_model.specs.declared.types.TypeId.{TypeId}
use Rattle.cxx_model.specs.Facts.Declarations.{CxxFact, Declares, declares_at, fact_at, facts_at, spelled}
use Rattle.cxx_model.specs.Facts.Fitted.{AreFactsBelow}
use Rattle.cxx_model.specs.Facts.Graph.{EachMayFollow, Graph, appended, scopes, with_class}
use Rattle.cxx_model.specs.Stops.{Answer, Stops, ◌>>=◌}
use Rattle.cxx_model.specs.Text.Lexemes.{Lexeme}
use Rattle.cxx_model.specs.Types.Numbers.{type_at}
use Rattle.cxx_model.specs.Types.Trees.{CxxType}
use Rattle.cxx_defined.specs.Defined.{IsOwnEntity}
use Rattle.cxx_names.specs.Clashes.{IsNamedMember}
use Rattle.cxx_names.specs.Plain.{ArePlain}
use Rattle.cxx_reading.specs.Classes.{ClassNamed, first_class, reserved}
use Rattle.cxx_reading.specs.Declaring.{added, at_scope, declare, free, scope_count, undefined}
use Rattle.cxx_reading.specs.Seen.{declared_in}
use Rattle.cxx_reading.specs.State.{CxxState}
use Rattle.cxx_implicit.specs.Members.{implicit_members}
use Rattle.cxx_declare.specs.Begun.{IsAddable, class_added, class_completed, class_known, class_reserved, ended_with, member_entity, named_within, next_class_defined, unnamed_added, unnamed_reserved}
use Rattle.cxx_declare.specs.declared.class_definitions.MemberWords.{MemberWords}
use Rattle.cxx_declare.specs.ClassDefinitions.{added_each, begin_class, begin_unnamed, begun_as, class_declared, class_end, class_here, class_scope, declare_member, define_again, define_by, define_new, end_class, ended_as, enter_class, enter_unnamed, injected_name, member_by, member_defaults, member_here, member_kind, unnamed_here}
use Rattle.cxx_reading.specs.Declarators.{is_function_type}
use Rattle.cxx_declare.specs.Classes.{IsNextClass}
use Rattle.cxx_declare.specs.Made.{IsReady, added_defined, definable_by, made, token, word_in}
use Rattle.cxx_declare.proofs.Classed.{count_is, ready_by}
use Rattle.cxx_declare.proofs.Defining.{assoc}
use Rattle.cxx_declare.proofs.Making.{declared_as}
use Rattle.cxx_paths.proofs.Stopping.{stopped_on}
use Rattle.cxx_tree.specs.Answered.{AnyKnown, IsAnswered, IsClassKnown, IsFactKnown, IsScopeKnown, class_number, fact_number, itself, scope_number}
use Rattle.cxx_tree.specs.Held.{Held, meaning}
use Rattle.cxx_tree.specs.Later.{Later}
use Rattle.cxx_tree.specs.Whole.{added_class_scope, left_scope, scope_fact}
use Rattle.cxx_tree.proofs.Steps.{Later_refl, Later_trans}
use Rattle.cxx_tree.proofs.Wholes.{may_follow}

-- ---- one step behind another

longer : {X A : Type 0} (view : Held → X → A) (known : Held → X → Type 0) (old middle new : Held) (r : Result X Stop) (reply : Answer (A × CxxState)) → Later old middle → IsAnswered view known middle new r reply → IsAnswered view known old new r reply
longer view known old middle new r reply later answered = record { is = answered.is; later = Later_trans old middle new later answered.later }

pub and_then : {X A Y B : Type 0} (seen : Held → Y → B) (there : Held → Y → Type 0) (view : Held → X → A) (known : Held → X → Type 0) (old middle new : Held) (y : Y) (r : Result X Stop) (reply : Answer (B × CxxState)) (go : CxxState → Answer (A × CxxState)) → IsAnswered seen there old middle (Ok y) reply → IsAnswered view known middle new r (go (meaning middle)) → IsAnswered view known old new r (reply >>= λ answer. go answer.1)
and_then {B = B} seen there view known old middle new y r reply go one two =
    subst (λ a. IsAnswered view known old new r a) (sym (ap (λ (a : Answer (B × CxxState)). a >>= λ answer. go answer.1) one.is.0)) (longer view known old middle new r (go (meaning middle)) one.later two)

pub and_stops : {X A Y B : Type 0} (seen : Held → Y → B) (there : Held → Y → Type 0) (view : Held → X → A) (known : Held → X → Type 0) (old new : Held) (why : Stop) (reply : Answer (B × CxxState)) (go : B × CxxState → Answer (A × CxxState)) → IsAnswered seen there old new (Err why) reply → IsAnswered view known old new (Err why) (reply >>= go)
and_stops seen there view known old new why reply go one = record { is = stopped_on why reply go one.is; later = one.later }

-- ---- a scope that is counted first

abbrev pair_or : ℕ × CxxState → Answer (ℕ × CxxState) → ℕ × CxxState
pair_or other (Ok both) = both
pair_or other (Err why) = other

abbrev counted : ℕ → Answer (ℕ × CxxState) → Answer (ℕ × CxxState)
counted m reply = reply >>= λ answer. Ok (m, answer.1)

counted_then : {B : Type 0} (reply : Answer (ℕ × CxxState)) (m n : ℕ) (s : CxxState) (go : ℕ → CxxState → Answer B) → counted m reply ≡ Ok (n, s) → (reply >>= λ opened. go m opened.1) ≡ go n s
counted_then (Err why) m n s go e = absurd (cc)
counted_then (Ok both) m n s go e = ap (λ (a : Answer (ℕ × CxxState)). go (pair_or both a).0 (pair_or both a).1) e

counted_stops : (why : Stop) (m : ℕ) (reply : Answer (ℕ × CxxState)) → Stops why (counted m reply) → Stops why reply
counted_stops why m (Err x) e = e
counted_stops stop.OutOfMemory m (Ok both) e = tt
counted_stops (stop.Fault g) m (Ok both) e = absurd (cc)
counted_stops (stop.Limit k) m (Ok both) e = absurd (cc)

-- ---- its scope begins

-- one more fact leaves the classes there
pub class_still : (old new : Held) (fact : Fact) (n : ℕ) → new ≡ record old { graph = appended old.graph fact } → n < length old.graph.classes → n < length new.graph.classes
class_still old new fact n is there = subst (λ (h : Held). n < length h.graph.classes) (sym is) there

pub class_after : (old new : Graph) (fact : Fact) (n : ℕ) → new ≡ appended old fact → n < length old.classes → n < length new.classes
class_after old new fact n is there = subst (λ (g : Graph). n < length g.classes) (sym is) there

pub injected : (old middle new : Held) (fact : Fact) (class : ClassId) (inner : ScopeId) (number : FactId) → class.0 < length old.graph.classes → middle ≡ record old { graph = appended old.graph fact } → IsAnswered fact_number IsFactKnown old middle (Ok number) (added (fact_at old.types fact) (meaning old))
    → Later middle new → meaning new ≡ at_scope inner.0 (meaning middle) → new ≡ record middle { scope = inner } → IsAnswered class_number IsClassKnown old new (Ok class) (named_within inner.0 class.0 (fact_at old.types fact) (meaning old))
injected old middle new fact class inner number there is answered later stands held = record {
  is = (ap (λ (a : Answer (ℕ × CxxState)). a >>= λ named. Ok (begun_as class.0 inner.0 named)) answered.is.0 ∙ ap (λ (s : CxxState). Ok (class.0, s)) (sym stands), subst (λ (h : Held). class.0 < length h.graph.classes) (sym held) (class_still old middle fact class.0 is there));
  later = Later_trans old middle new answered.later later;
}

pub injected_ready : (held : Held) (place : Place) (word : List ℕ) (class : ClassId) (inner : ScopeId) (n : Name) (fact : Fact) → inner.0 < scopes held.graph.facts → class.0 < length held.graph.classes → n ≡ name.Spelled word → fact ≡ made inner place n (entity.Injected class) → IsAddable held fact
injected_ready held place word class inner n fact there known named is =
    subst (λ (f : Fact). IsAddable held f) (sym (is ∙ ap (λ m. made inner place m (entity.Injected class)) named)) (record { follows = may_follow held.graph (made inner place (name.Spelled word) (entity.Injected class)) there known; below = record { name = tt; what = tt }; plain = tt })

pub injected_as : (old new : Held) (kind : TokenKind) (place : Place) (word : List ℕ) (class : ClassId) (inner : ScopeId) (n : Name) (fact : Fact) (r : Result ClassId Stop) → n ≡ name.Spelled word → fact ≡ made inner place n (entity.Injected class)
    → IsAnswered class_number IsClassKnown old new r (named_within inner.0 class.0 (fact_at old.types fact) (meaning old)) → IsAnswered class_number IsClassKnown old new r (named_within inner.0 class.0 (injected_name inner.0 (token kind place word) class.0) (meaning old))
injected_as old new kind place word class inner n fact r named is answered =
    subst (λ (f : CxxFact). IsAnswered class_number IsClassKnown old new r (named_within inner.0 class.0 f (meaning old))) (ap (fact_at old.types) (is ∙ ap (λ m. made inner place m (entity.Injected class)) named)) answered

pub class_entered : (old middle new : Held) (kind : TokenKind) (place : Place) (word : List ℕ) (class : ClassId) (inner : ScopeId) (r : Result ClassId Stop) → IsAnswered scope_number IsScopeKnown old middle (Ok inner) (added_class_scope place class.0 (meaning old))
    → IsAnswered class_number IsClassKnown middle new r (named_within inner.0 class.0 (injected_name inner.0 (token kind place word) class.0) (meaning middle)) → IsAnswered class_number IsClassKnown old new r (enter_class (token kind place word) class.0 (meaning old))
unfolding enter_class
class_entered old middle new kind place word class inner r one two =
    subst (λ (reply : Answer (ℕ × CxxState)). IsAnswered class_number IsClassKnown old new r reply)
    (sym (counted_then (added (class_scope (meaning old) place class.0) (meaning old)) (scope_count (meaning old).graph) inner.0 (meaning middle) (λ n state. named_within n class.0 (injected_name n (token kind place word) class.0) state) one.is.0))
    (longer class_number IsClassKnown old middle new r (named_within inner.0 class.0 (injected_name inner.0 (token kind place word) class.0) (meaning middle)) one.later two)

pub class_not_entered : (old new : Held) (kind : TokenKind) (place : Place) (word : List ℕ) (class : ClassId) (why : Stop) → IsAnswered scope_number IsScopeKnown old new (Err why) (added_class_scope place class.0 (meaning old)) → IsAnswered class_number IsClassKnown old new (Err why) (enter_class (token kind place word) class.0 (meaning old))
unfolding enter_class
class_not_entered old new kind place word class why one = record {
  is = stopped_on why (added (class_scope (meaning old) place class.0) (meaning old)) (λ opened. named_within (scope_count (meaning old).graph) class.0 (injected_name (scope_count (meaning old).graph) (token kind place word) class.0) opened.1)
      (counted_stops why (scope_count (meaning old).graph) (added (class_scope (meaning old) place class.0) (meaning old)) one.is);
  later = one.later;
}

-- ---- it is defined

pub class_own : (place : Place) (scope : ScopeId) (n : Name) (class : ClassId) (is_union : Bool) (fact : Fact) → fact ≡ made scope place n (entity.Class class is_union) → IsOwnEntity fact.what
class_own place scope n class is_union fact is = subst (λ (f : Fact). IsOwnEntity f.what) (sym is) tt

pub word_ready : (held : Held) (place : Place) (word : List ℕ) (class : ClassId) (is_union : Bool) (fact : Fact) → held.scope.0 < scopes held.graph.facts → class.0 < length held.graph.classes → fact ≡ made held.scope place (name.Spelled word) (entity.Class class is_union) → IsReady held fact
word_ready held place word class is_union fact there known is =
    subst (λ (f : Fact). IsReady held f) (sym is) (ready_by held class is_union (made held.scope place (name.Spelled word) (entity.Class class is_union)) there known refl tt)

pub word_next : (held : Held) (place : Place) (word : List ℕ) (class : ClassId) (is_union : Bool) (fact : Fact) → held.scope.0 < scopes held.graph.facts → class.0 ≡ length held.graph.classes → fact ≡ made held.scope place (name.Spelled word) (entity.Class class is_union) → IsNextClass held class fact
word_next held place word class is_union fact there next is = subst (λ (f : Fact). IsNextClass held class f) (sym is) (record { is_union = is_union; what_is = refl; plain = tt; there = there; next = next })

class_here_is : (held : Held) (kind : TokenKind) (place : Place) (word : List ℕ) (class : ClassId) (is_union : Bool) → fact_at held.types (made held.scope place (name.Spelled word) (entity.Class class is_union)) ≡ class_here (meaning held) (token kind place word) class.0 is_union
unfolding meaning
class_here_is held kind place word class is_union = refl

declared_is : (name : Lexeme) (n : ℕ) (fact : CxxFact) (state : CxxState) → class_added name n fact state ≡ class_declared name n (added fact) state
declared_is name n fact state = assoc (added fact state) (λ answer. Ok (answer.0, record answer.1 { defined = answer.1.defined ++ answer.0 ∷ [] })) (λ answer. enter_class name n answer.1)

pub added_class : (old middle new : Held) (name : Lexeme) (n : ℕ) (fact : CxxFact) (number : FactId) (r : Result ClassId Stop) → IsAnswered fact_number IsFactKnown old middle (Ok number) (added_defined fact (meaning old)) → IsAnswered class_number IsClassKnown middle new r (enter_class name n (meaning middle)) → IsAnswered class_number IsClassKnown old new r (class_added name n fact (meaning old))
added_class old middle new name n fact number r one two = and_then fact_number IsFactKnown class_number IsClassKnown old middle new number r (added_defined fact (meaning old)) (enter_class name n) one two

pub not_added_class : (old new : Held) (name : Lexeme) (n : ℕ) (fact : CxxFact) (why : Stop) → IsAnswered fact_number IsFactKnown old new (Err why) (added_defined fact (meaning old)) → IsAnswered class_number IsClassKnown old new (Err why) (class_added name n fact (meaning old))
not_added_class old new name n fact why one = and_stops fact_number IsFactKnown class_number IsClassKnown old new why (added_defined fact (meaning old)) (λ answer. enter_class name n answer.1) one

pub known_class : (old new : Held) (name : Lexeme) (n : ℕ) (place : Place) (word : List ℕ) (fact : CxxFact) (u : Unit {0}) (r : Result ClassId Stop) → definable_by (meaning old) place word fact ≡ Ok u → IsAnswered class_number IsClassKnown old new r (class_added name n fact (meaning old)) → IsAnswered class_number IsClassKnown old new r (class_known name n place word fact (meaning old))
known_class old new name n place word fact u r e answered = subst (λ (reply : Answer (ℕ × CxxState)). IsAnswered class_number IsClassKnown old new r reply) (sym (ap (λ (a : Answer (Unit {0})). a >>= λ is_first. class_added name n fact (meaning old)) e)) answered

pub unknown_class : (held : Held) (name : Lexeme) (n : ℕ) (place : Place) (word : List ℕ) (fact : CxxFact) (why : Stop) → Stops why (definable_by (meaning held) place word fact) → IsAnswered class_number IsClassKnown held held (Err why) (class_known name n place word fact (meaning held))
unknown_class held name n place word fact why e = record { is = stopped_on why (definable_by (meaning held) place word fact) (λ is_first. class_added name n fact (meaning held)) e; later = Later_refl held }

pub class_again : (old new : Held) (kind : TokenKind) (place : Place) (word : List ℕ) (class : ClassId) (is_union : Bool) (fact : Fact) (r : Result ClassId Stop) → fact ≡ made old.scope place (name.Spelled word) (entity.Class class is_union)
    → IsAnswered class_number IsClassKnown old new r (class_known (token kind place word) class.0 fact.place (word_in fact.name) (fact_at old.types fact) (meaning old)) → IsAnswered class_number IsClassKnown old new r (define_again (token kind place word) is_union class.0 (meaning old))
unfolding define_again
class_again old new kind place word class is_union fact r is answered =
    let whole : CxxFact = class_here (meaning old) (token kind place word) class.0 is_union in
    subst (λ (reply : Answer (ℕ × CxxState)). IsAnswered class_number IsClassKnown old new r reply)
    (assoc (free (meaning old) whole word) (λ unit. undefined (meaning old) place word (length (meaning old).graph.facts) whole.what) (λ unit. class_added (token kind place word) class.0 whole (meaning old))
    ∙ ap (λ (a : Answer (ℕ × CxxState)). free (meaning old) whole word >>= λ unit. undefined (meaning old) place word (length (meaning old).graph.facts) whole.what >>= λ other. a) (declared_is (token kind place word) class.0 whole (meaning old)))
    (subst (λ (w : CxxFact). IsAnswered class_number IsClassKnown old new r (class_known (token kind place word) class.0 place word w (meaning old))) (class_here_is old kind place word class is_union)
    (subst (λ (f : Fact). IsAnswered class_number IsClassKnown old new r (class_known (token kind place word) class.0 f.place (word_in f.name) (fact_at old.types f) (meaning old))) is answered))

-- ---- a new one

-- a class that was reserved is there
pub next_known : (old new : Held) (class : ClassId) (fact : Fact) → IsNextClass old class fact → new ≡ record old { graph = with_class old.graph None } → class.0 < length new.graph.classes
next_known old new class fact next is = subst (λ (h : Held). class.0 < length h.graph.classes) (sym is) (subst (λ n. n < length (old.graph.classes ++ None ∷ [])) (sym next.next) (one_more old.graph.classes))
  where
    one_more : {A : Type 0} (all : List (Option A)) → length all < length (all ++ None ∷ [])
    one_more all = let more = length-append all (None ∷ []) in omega (arith, more)

pub next_ready : (old new : Held) (class : ClassId) (fact : Fact) → IsNextClass old class fact → new ≡ record old { graph = with_class old.graph None } → IsReady new fact
next_ready old new class fact next is = ready_by new class next.is_union fact (subst (λ (h : Held). fact.scope.0 < scopes h.graph.facts) (sym is) next.there) (next_known old new class fact next is) next.what_is next.plain

pub next_own : (held : Held) (class : ClassId) (fact : Fact) → IsNextClass held class fact → IsOwnEntity fact.what
next_own held class fact next = subst (λ (e : Entity). IsOwnEntity e) (sym next.what_is) tt

pub class_newly : (old middle new : Held) (name : Lexeme) (class number : ClassId) (fact : Fact) (r : Result ClassId Stop) → middle ≡ record old { graph = with_class old.graph None } → IsAnswered class_number IsClassKnown old middle (Ok number) (reserved (meaning old))
    → IsAnswered class_number IsClassKnown middle new r (class_added name class.0 (fact_at middle.types fact) (meaning middle)) → IsAnswered class_number IsClassKnown old new r (class_reserved name class.0 (fact_at old.types fact) (meaning old))
class_newly old middle new name class number fact r is one two =
    and_then class_number IsClassKnown class_number IsClassKnown old middle new number r (reserved (meaning old)) (class_added name class.0 (fact_at old.types fact)) one
    (subst (λ (h : Held). IsAnswered class_number IsClassKnown middle new r (class_added name class.0 (fact_at h.types fact) (meaning middle))) is two)

pub class_not_newly : (old new : Held) (name : Lexeme) (n : ℕ) (fact : CxxFact) (why : Stop) → IsAnswered class_number IsClassKnown old new (Err why) (reserved (meaning old)) → IsAnswered class_number IsClassKnown old new (Err why) (class_reserved name n fact (meaning old))
class_not_newly old new name n fact why one = and_stops class_number IsClassKnown class_number IsClassKnown old new why (reserved (meaning old)) (λ answer. class_added name n fact answer.1) one

pub next_class : (old new : Held) (name : Lexeme) (n : ℕ) (word : List ℕ) (fact : CxxFact) (u : Unit {0}) (r : Result ClassId Stop) → free (meaning old) fact word ≡ Ok u → IsAnswered class_number IsClassKnown old new r (class_reserved name n fact (meaning old)) → IsAnswered class_number IsClassKnown old new r (next_class_defined name n word fact (meaning old))
next_class old new name n word fact u r e answered = subst (λ (reply : Answer (ℕ × CxxState)). IsAnswered class_number IsClassKnown old new r reply) (sym (ap (λ (a : Answer (Unit {0})). a >>= λ is_free. class_reserved name n fact (meaning old)) e)) answered

pub no_next_class : (held : Held) (name : Lexeme) (n : ℕ) (word : List ℕ) (fact : CxxFact) (why : Stop) → Stops why (free (meaning held) fact word) → IsAnswered class_number IsClassKnown held held (Err why) (next_class_defined name n word fact (meaning held))
no_next_class held name n word fact why e = record { is = stopped_on why (free (meaning held) fact word) (λ is_free. class_reserved name n fact (meaning held)) e; later = Later_refl held }

declared_then : (name : Lexeme) (n : ℕ) (fact : CxxFact) (reply : Answer (ℕ × CxxState)) → (reply >>= λ answer. class_added name n fact answer.1) ≡ (reply >>= λ answer. class_declared name n (added fact) answer.1)
declared_then name n fact (Ok both) = declared_is name n fact both.1
declared_then name n fact (Err why) = refl

abbrev newly_by : Lexeme → Bool → CxxState → ℕ → Answer (ℕ × CxxState)
newly_by name is_union state n = free state (class_here state name n is_union) name.spelling >>= λ is_free. reserved state >>= λ answer. class_declared name n (added (class_here state name n is_union)) answer.1

pub class_new : (old new : Held) (kind : TokenKind) (place : Place) (word : List ℕ) (class : ClassId) (is_union : Bool) (fact : Fact) (r : Result ClassId Stop) → class.0 ≡ length old.graph.classes → fact ≡ made old.scope place (name.Spelled word) (entity.Class class is_union)
    → IsAnswered class_number IsClassKnown old new r (next_class_defined (token kind place word) class.0 (word_in fact.name) (fact_at old.types fact) (meaning old)) → IsAnswered class_number IsClassKnown old new r (define_new (token kind place word) is_union (meaning old))
unfolding define_new
class_new old new kind place word class is_union fact r next is answered =
    let whole : CxxFact = class_here (meaning old) (token kind place word) class.0 is_union in
    subst (λ n. IsAnswered class_number IsClassKnown old new r (newly_by (token kind place word) is_union (meaning old) n)) (next ∙ sym (count_is old))
    (subst (λ (reply : Answer (ℕ × CxxState)). IsAnswered class_number IsClassKnown old new r (free (meaning old) whole word >>= λ is_free. reply)) (declared_then (token kind place word) class.0 whole (reserved (meaning old)))
    (subst (λ (w : CxxFact). IsAnswered class_number IsClassKnown old new r (next_class_defined (token kind place word) class.0 word w (meaning old))) (class_here_is old kind place word class is_union)
    (subst (λ (f : Fact). IsAnswered class_number IsClassKnown old new r (next_class_defined (token kind place word) class.0 (word_in f.name) (fact_at old.types f) (meaning old))) is answered)))

stands_here : (held : Held) (scope : ScopeId) → scope ≡ held.scope → scope.0 ≡ (meaning held).here.scope
unfolding meaning
stands_here held scope same = ap (λ (s : ScopeId). s.0) same

pub class_begun : (old new : Held) (kind : TokenKind) (place : Place) (word : List ℕ) (is_union : Bool) (scope : ScopeId) (found : Option ClassNamed) (r : Result ClassId Stop) → scope ≡ old.scope → found ≡ first_class (declared_in (meaning old).graph scope.0 (spelled word))
    → IsAnswered class_number IsClassKnown old new r (define_by (token kind place word) is_union found (meaning old)) → IsAnswered class_number IsClassKnown old new r (begin_class is_union (token kind place word) (meaning old))
unfolding begin_class
class_begun old new kind place word is_union scope found r here is answered =
    subst (λ (o : Option ClassNamed). IsAnswered class_number IsClassKnown old new r (define_by (token kind place word) is_union o (meaning old)))
    (is ∙ ap (λ (n : ℕ). first_class (declared_in (meaning old).graph n (spelled word))) (stands_here old scope here)) answered

-- ---- one without a name

pub unnamed_entered : (old middle new : Held) (place : Place) (class : ClassId) (inner : ScopeId) → class.0 < length old.graph.classes → middle ≡ record old { graph = appended old.graph (scope_fact (scope_kind.Class class) place old.scope) } → IsAnswered scope_number IsScopeKnown old middle (Ok inner) (added_class_scope place class.0 (meaning old))
    → Later middle new → meaning new ≡ at_scope inner.0 (meaning middle) → new ≡ record middle { scope = inner } → IsAnswered class_number IsClassKnown old new (Ok class) (enter_unnamed place class.0 (meaning old))
unfolding enter_unnamed
unnamed_entered old middle new place class inner there is one later stands held = record {
  is = (
    counted_then (added (class_scope (meaning old) place class.0) (meaning old)) (scope_count (meaning old).graph) inner.0 (meaning middle) (λ n state. Ok (class.0, at_scope n state)) one.is.0 ∙ ap (λ (s : CxxState). Ok (class.0, s)) (sym stands),
    subst (λ (h : Held). class.0 < length h.graph.classes) (sym held) (class_still old middle (scope_fact (scope_kind.Class class) place old.scope) class.0 is there),
  );
  later = Later_trans old middle new one.later later;
}

pub unnamed_not_entered : (old new : Held) (place : Place) (class : ClassId) (why : Stop) → IsAnswered scope_number IsScopeKnown old new (Err why) (added_class_scope place class.0 (meaning old)) → IsAnswered class_number IsClassKnown old new (Err why) (enter_unnamed place class.0 (meaning old))
unfolding enter_unnamed
unnamed_not_entered old new place class why one = record {
  is = stopped_on why (added (class_scope (meaning old) place class.0) (meaning old)) (λ opened. Ok (begun_as class.0 (scope_count (meaning old).graph) opened)) (counted_stops why (scope_count (meaning old).graph) (added (class_scope (meaning old) place class.0) (meaning old)) one.is);
  later = one.later;
}

pub added_unnamed : (old middle new : Held) (place : Place) (n : ℕ) (fact : CxxFact) (number : FactId) (r : Result ClassId Stop) → IsAnswered fact_number IsFactKnown old middle (Ok number) (added_defined fact (meaning old)) → IsAnswered class_number IsClassKnown middle new r (enter_unnamed place n (meaning middle)) → IsAnswered class_number IsClassKnown old new r (unnamed_added place n fact (meaning old))
added_unnamed old middle new place n fact number r one two = and_then fact_number IsFactKnown class_number IsClassKnown old middle new number r (added_defined fact (meaning old)) (enter_unnamed place n) one two

pub not_added_unnamed : (old new : Held) (place : Place) (n : ℕ) (fact : CxxFact) (why : Stop) → IsAnswered fact_number IsFactKnown old new (Err why) (added_defined fact (meaning old)) → IsAnswered class_number IsClassKnown old new (Err why) (unnamed_added place n fact (meaning old))
not_added_unnamed old new place n fact why one = and_stops fact_number IsFactKnown class_number IsClassKnown old new why (added_defined fact (meaning old)) (λ answer. enter_unnamed place n answer.1) one

pub reserved_unnamed : (old middle new : Held) (place : Place) (class number : ClassId) (fact : Fact) (r : Result ClassId Stop) → middle ≡ record old { graph = with_class old.graph None } → IsAnswered class_number IsClassKnown old middle (Ok number) (reserved (meaning old))
    → IsAnswered class_number IsClassKnown middle new r (unnamed_added place class.0 (fact_at middle.types fact) (meaning middle)) → IsAnswered class_number IsClassKnown old new r (unnamed_reserved place class.0 (fact_at old.types fact) (meaning old))
reserved_unnamed old middle new place class number fact r is one two =
    and_then class_number IsClassKnown class_number IsClassKnown old middle new number r (reserved (meaning old)) (unnamed_added place class.0 (fact_at old.types fact)) one
    (subst (λ (h : Held). IsAnswered class_number IsClassKnown middle new r (unnamed_added place class.0 (fact_at h.types fact) (meaning middle))) is two)

pub not_reserved_unnamed : (old new : Held) (place : Place) (n : ℕ) (fact : CxxFact) (why : Stop) → IsAnswered class_number IsClassKnown old new (Err why) (reserved (meaning old)) → IsAnswered class_number IsClassKnown old new (Err why) (unnamed_reserved place n fact (meaning old))
not_reserved_unnamed old new place n fact why one = and_stops class_number IsClassKnown class_number IsClassKnown old new why (reserved (meaning old)) (λ answer. unnamed_added place n fact answer.1) one

pub unnamed_next : (held : Held) (place : Place) (class : ClassId) (is_union : Bool) (scope : ScopeId) (fact : Fact) → scope.0 < scopes held.graph.facts → class.0 ≡ length held.graph.classes → fact ≡ made scope place name.Unnamed (entity.Class class is_union) → IsNextClass held class fact
unnamed_next held place class is_union scope fact there next is = subst (λ (f : Fact). IsNextClass held class f) (sym is) (record { is_union = is_union; what_is = refl; plain = tt; there = there; next = next })

unnamed_is : (held : Held) (place : Place) (class : ClassId) (is_union : Bool) → fact_at held.types (made held.scope place name.Unnamed (entity.Class class is_union)) ≡ unnamed_here (meaning held) place class.0 is_union
unfolding meaning
unnamed_is held place class is_union = refl

unnamed_declared_is : (place : Place) (n : ℕ) (fact : CxxFact) (state : CxxState) → unnamed_added place n fact state ≡ (added fact state >>= λ declared. enter_unnamed place n (record declared.1 { defined = declared.1.defined ++ declared.0 ∷ [] }))
unnamed_declared_is place n fact state = assoc (added fact state) (λ answer. Ok (answer.0, record answer.1 { defined = answer.1.defined ++ answer.0 ∷ [] })) (λ answer. enter_unnamed place n answer.1)

unnamed_then : (place : Place) (n : ℕ) (fact : CxxFact) (reply : Answer (ℕ × CxxState)) → (reply >>= λ answer. unnamed_added place n fact answer.1) ≡ (reply >>= λ answer. added fact answer.1 >>= λ declared. enter_unnamed place n (record declared.1 { defined = declared.1.defined ++ declared.0 ∷ [] }))
unnamed_then place n fact (Ok both) = unnamed_declared_is place n fact both.1
unnamed_then place n fact (Err why) = refl

abbrev unnamed_by : Bool → Place → CxxState → ℕ → Answer (ℕ × CxxState)
unnamed_by is_union place state n = reserved state >>= λ answer. added (unnamed_here state place n is_union) answer.1 >>= λ declared. enter_unnamed place n (record declared.1 { defined = declared.1.defined ++ declared.0 ∷ [] })

pub unnamed_begun : (old new : Held) (place : Place) (class : ClassId) (is_union : Bool) (scope : ScopeId) (fact : Fact) (r : Result ClassId Stop) → class.0 ≡ length old.graph.classes → scope ≡ old.scope → fact ≡ made scope place name.Unnamed (entity.Class class is_union)
    → IsAnswered class_number IsClassKnown old new r (unnamed_reserved place class.0 (fact_at old.types fact) (meaning old)) → IsAnswered class_number IsClassKnown old new r (begin_unnamed is_union place (meaning old))
unfolding begin_unnamed
unnamed_begun old new place class is_union scope fact r next here is answered =
    let whole : CxxFact = unnamed_here (meaning old) place class.0 is_union in
    subst (λ n. IsAnswered class_number IsClassKnown old new r (unnamed_by is_union place (meaning old) n)) (next ∙ sym (count_is old))
    (subst (λ (reply : Answer (ℕ × CxxState)). IsAnswered class_number IsClassKnown old new r reply) (unnamed_then place class.0 whole (reserved (meaning old)))
    (subst (λ (w : CxxFact). IsAnswered class_number IsClassKnown old new r (unnamed_reserved place class.0 w (meaning old))) (unnamed_is old place class is_union)
    (subst (λ (s : ScopeId). IsAnswered class_number IsClassKnown old new r (unnamed_reserved place class.0 (fact_at old.types (made s place name.Unnamed (entity.Class class is_union))) (meaning old))) here
    (subst (λ (f : Fact). IsAnswered class_number IsClassKnown old new r (unnamed_reserved place class.0 (fact_at old.types f) (meaning old))) is answered))))

-- ---- its members

abbrev member_fact : Access → Entity → ScopeId → Place → Name → Fact
member_fact access what scope place n = record { place = place; scope = scope; name = n; access = access; what = what }

named_kind : (is_static : Bool) → IsNamedMember (member_kind is_static)
named_kind true = tt
named_kind false = tt

entity_ready : (held : Held) (access : Access) (is_function : Bool) (words : MemberWords) (place : Place) (word : List ℕ) (of : TypeId) (defaults : ℕ) (scope : ScopeId) → scope.0 < scopes held.graph.facts → of.0 < length held.types → IsReady held (member_fact access (member_entity is_function words of defaults) scope place (name.Spelled word))
entity_ready held access true words place word of defaults scope there below = record { follows = may_follow held.graph (member_fact access (member_entity true words of defaults) scope place (name.Spelled word)) there tt; below = record { name = tt; what = below }; plain = record { name = tt; what = named_kind words.is_static } }
entity_ready held access false words place word of defaults scope there below = record { follows = may_follow held.graph (member_fact access (member_entity false words of defaults) scope place (name.Spelled word)) there tt; below = record { name = tt; what = below }; plain = record { name = tt; what = named_kind words.is_static } }

pub member_ready : (held : Held) (access : Access) (is_function : Bool) (words : MemberWords) (place : Place) (word : List ℕ) (of : TypeId) (defaults : ℕ) (what : Entity) (scope : ScopeId) (n : Name) → scope.0 < scopes held.graph.facts → of.0 < length held.types → what ≡ member_entity is_function words of defaults → n ≡ name.Spelled word → IsReady held (member_fact access what scope place n)
member_ready held access is_function words place word of defaults what scope n there below is named =
    subst (λ (w : Entity). IsReady held (member_fact access w scope place n)) (sym is)
    (subst (λ (m : Name). IsReady held (member_fact access (member_entity is_function words of defaults) scope place m)) (sym named) (entity_ready held access is_function words place word of defaults scope there below))

entity_is : (types : List CxxType) (is_function : Bool) (words : MemberWords) (of : TypeId) (defaults : ℕ) → declares_at types (member_entity is_function words of defaults) ≡ member_by is_function words (type_at types of.0) defaults
entity_is types true words of defaults = refl
entity_is types false words of defaults = refl

pub member_is : (held : Held) (kind : TokenKind) (words : MemberWords) (place : Place) (word : List ℕ) (of : TypeId) (defaults : ℕ) (what : Entity) (scope : ScopeId) (n : Name) → what ≡ member_entity (is_function_type (type_at held.types of.0)) words of defaults → scope ≡ held.scope → n ≡ name.Spelled word
    → fact_at held.types (member_fact words.access what scope place n) ≡ member_here (meaning held) words (token kind place word) (type_at held.types of.0) defaults
unfolding meaning
member_is held kind words place word of defaults what scope n is here named =
    ap (λ (w : Entity). fact_at held.types (member_fact words.access w scope place n)) is
    ∙ ap (λ (m : Name). fact_at held.types (member_fact words.access (member_entity (is_function_type (type_at held.types of.0)) words of defaults) scope place m)) named
    ∙ ap (λ (s : ScopeId). fact_at held.types (member_fact words.access (member_entity (is_function_type (type_at held.types of.0)) words of defaults) s place (name.Spelled word))) here
    ∙ ap (λ (d : Declares). record { place = place; scope = held.scope.0; name = spelled word; access = words.access; what = d }) (entity_is held.types (is_function_type (type_at held.types of.0)) words of defaults)

pub member_declared : (old new : Held) (kind : TokenKind) (words : MemberWords) (list : Option ℕ) (place : Place) (word : List ℕ) (of : CxxType) (fact : Fact) (r : Result FactId Stop) → fact_at old.types fact ≡ member_here (meaning old) words (token kind place word) of (member_defaults (meaning old) list of) → fact.name ≡ name.Spelled word
    → IsAnswered fact_number IsFactKnown old new r (declare (fact_at old.types fact) (word_in fact.name) (meaning old)) → IsAnswered fact_number IsFactKnown old new r (declare_member words list (token kind place word) of (meaning old))
unfolding declare_member
member_declared old new kind words list place word of fact r is named answered = declared_as old new fact (member_here (meaning old) words (token kind place word) of (member_defaults (meaning old) list of)) word r is named answered

-- ---- it ends

pub completed_ready : (held : Held) (place : Place) (class : ClassId) (scope : ScopeId) (fact : Fact) → scope.0 < scopes held.graph.facts → class.0 < length held.graph.classes → fact ≡ made scope place name.Unnamed (entity.Complete class) → IsAddable held fact
completed_ready held place class scope fact there known is =
    subst (λ (f : Fact). IsAddable held f) (sym is) (record { follows = may_follow held.graph (made scope place name.Unnamed (entity.Complete class)) there known; below = record { name = tt; what = tt }; plain = tt })

end_is : (held : Held) (place : Place) (class : ClassId) (scope : ScopeId) (fact : Fact) → scope ≡ held.scope → fact ≡ made scope place name.Unnamed (entity.Complete class) → fact_at held.types fact ≡ class_end (meaning held) place class.0
unfolding meaning
end_is held place class scope fact here is = ap (fact_at held.types) is ∙ ap (λ (s : ScopeId). fact_at held.types (made s place name.Unnamed (entity.Complete class))) here

pub completed : (old middle new : Held) (place : Place) (class : ClassId) (scope : ScopeId) (fact : Fact) (number : FactId) → scope ≡ old.scope → fact ≡ made scope place name.Unnamed (entity.Complete class) → IsAnswered fact_number IsFactKnown old middle (Ok number) (added (fact_at old.types fact) (meaning old))
    → Later middle new → meaning new ≡ left_scope (meaning middle) → IsAnswered itself AnyKnown old new (Ok tt) (class_completed class.0 place (meaning old))
completed old middle new place class scope fact number here is answered later left = record {
  is = (ap (λ (f : CxxFact). added f (meaning old) >>= λ answer. Ok (ended_as answer)) (sym (end_is old place class scope fact here is)) ∙ (ap (λ (a : Answer (ℕ × CxxState)). a >>= λ answer. Ok (ended_as answer)) answered.is.0 ∙ ap (λ (s : CxxState). Ok (tt, s)) (sym left)), tt);
  later = Later_trans old middle new answered.later later;
}

pub not_completed : (old new : Held) (place : Place) (class : ClassId) (scope : ScopeId) (fact : Fact) (why : Stop) → scope ≡ old.scope → fact ≡ made scope place name.Unnamed (entity.Complete class) → IsAnswered fact_number IsFactKnown old new (Err why) (added (fact_at old.types fact) (meaning old)) → IsAnswered itself AnyKnown old new (Err why) (class_completed class.0 place (meaning old))
not_completed old new place class scope fact why here is answered = record {
  is = subst (λ (f : CxxFact). Stops why (added f (meaning old) >>= λ answer. Ok (ended_as answer))) (end_is old place class scope fact here is) (stopped_on why (added (fact_at old.types fact) (meaning old)) (λ answer. Ok (ended_as answer)) answered.is);
  later = answered.later;
}

pub ended : (old middle new : Held) (place : Place) (class : ClassId) (all : List CxxFact) (r : Result (Unit {0}) Stop) → IsAnswered itself AnyKnown old middle (Ok tt) (added_each all (meaning old)) → IsAnswered itself AnyKnown middle new r (class_completed class.0 place (meaning middle)) → IsAnswered itself AnyKnown old new r (ended_with all class.0 place (meaning old))
ended old middle new place class all r one two = and_then itself AnyKnown itself AnyKnown old middle new tt r (added_each all (meaning old)) (class_completed class.0 place) one two

pub not_ended : (old new : Held) (place : Place) (class : ClassId) (all : List CxxFact) (why : Stop) → IsAnswered itself AnyKnown old new (Err why) (added_each all (meaning old)) → IsAnswered itself AnyKnown old new (Err why) (ended_with all class.0 place (meaning old))
not_ended old new place class all why one = and_stops itself AnyKnown itself AnyKnown old new why (added_each all (meaning old)) (λ implied. class_completed class.0 place implied.1) one

pub class_ended : (old middle new : Held) (place : Place) (class : ClassId) (all : List Fact) (r : Result (Unit {0}) Stop) → Later old middle → meaning middle ≡ meaning old → facts_at middle.types all ≡ implicit_members (meaning old).graph class.0 old.scope.0 place
    → IsAnswered itself AnyKnown middle new r (ended_with (facts_at middle.types all) class.0 place (meaning middle)) → IsAnswered itself AnyKnown old new r (end_class class.0 place (meaning old))
unfolding end_class
class_ended old middle new place class all r later same is answered =
    longer itself AnyKnown old middle new r (ended_with (implicit_members (meaning old).graph class.0 (meaning old).here.scope place) class.0 place (meaning old)) later
    (subst (λ (n : ℕ). IsAnswered itself AnyKnown middle new r (ended_with (implicit_members (meaning old).graph class.0 n place) class.0 place (meaning old))) (stands_here old old.scope refl)
    (subst (λ (s : CxxState). IsAnswered itself AnyKnown middle new r (ended_with (implicit_members (meaning old).graph class.0 old.scope.0 place) class.0 place s)) same
    (subst (λ (fs : List CxxFact). IsAnswered itself AnyKnown middle new r (ended_with fs class.0 place (meaning middle))) is answered)))

-- ---- facts one after another

-- Of some facts the rest is left to be added.
pub record AreLeft (first now : Held) (all rest : List Fact) : Type 0 where
  pub later : Later first now
  pub types : now.types ≡ first.types
  pub classes : now.graph.classes ≡ first.graph.classes
  pub is : added_each (facts_at first.types rest) (meaning now) ≡ added_each (facts_at first.types all) (meaning first)
  pub follow : EachMayFollow now.graph now.graph.facts rest
  pub below : AreFactsBelow (length now.types) rest
  pub plain : ArePlain rest

pub all_left : (held : Held) (all rest : List Fact) → rest ≡ all → EachMayFollow held.graph held.graph.facts all → AreFactsBelow (length held.types) all → ArePlain all → AreLeft held held all rest
all_left held all rest same follow below plain = subst (λ fs. AreLeft held held all fs) (sym same) (record { later = Later_refl held; types = refl; classes = refl; is = refl; follow = follow; below = below; plain = plain })

pub left_ready : (first now : Held) (all rest others : List Fact) (fact : Fact) → AreLeft first now all rest → rest ≡ fact ∷ others → IsAddable now fact
left_ready first now all rest others fact left is = by (subst (λ fs. AreLeft first now all fs) is left)
  where
    by : AreLeft first now all (fact ∷ others) → IsAddable now fact
    by one = record { follows = one.follow.0; below = one.below.0; plain = one.plain.0 }

follow_still : (graph : Graph) (facts before rest : List Fact) → EachMayFollow graph before rest → EachMayFollow (record graph { facts = facts }) before rest
follow_still graph facts before [] ok = tt
follow_still graph facts before (fact ∷ others) ok = (ok.0, follow_still graph facts (before ++ fact ∷ []) others ok.1)

each_then : (fact : CxxFact) (others : List CxxFact) (state new : CxxState) (n : ℕ) → added fact state ≡ Ok (n, new) → added_each (fact ∷ others) state ≡ added_each others new
unfolding added_each
each_then fact others state new n e = ap (λ (a : Answer (ℕ × CxxState)). a >>= λ answer. added_each others answer.1) e

pub fewer_left : (first now new : Held) (all rest others : List Fact) (fact : Fact) (number : FactId) → AreLeft first now all rest → rest ≡ fact ∷ others → IsAnswered fact_number IsFactKnown now new (Ok number) (added (fact_at now.types fact) (meaning now)) → new ≡ record now { graph = appended now.graph fact } → AreLeft first new all others
fewer_left first now new all rest others fact number left rest_is answered is = by (subst (λ fs. AreLeft first now all fs) rest_is left)
  where
    by : AreLeft first now all (fact ∷ others) → AreLeft first new all others
    by one = record {
      later = Later_trans first now new one.later answered.later;
      types = ap (λ (h : Held). h.types) is ∙ one.types;
      classes = ap (λ (h : Held). h.graph.classes) is ∙ one.classes;
      is = sym (each_then (fact_at first.types fact) (facts_at first.types others) (meaning now) (meaning new) number.0 (ap (λ types. added (fact_at types fact) (meaning now)) (sym one.types) ∙ answered.is.0)) ∙ one.is;
      follow = subst (λ (h : Held). EachMayFollow h.graph h.graph.facts others) (sym is) (follow_still now.graph (now.graph.facts ++ fact ∷ []) (now.graph.facts ++ fact ∷ []) others one.follow.1);
      below = subst (λ (h : Held). AreFactsBelow (length h.types) others) (sym is) one.below.1;
      plain = one.plain.1;
    }

pub none_left : (first now : Held) (all rest : List Fact) → AreLeft first now all rest → rest ≡ [] → IsAnswered itself AnyKnown first now (Ok tt) (added_each (facts_at first.types all) (meaning first))
unfolding added_each
none_left first now all rest left is = by (subst (λ fs. AreLeft first now all fs) is left)
  where
    by : AreLeft first now all [] → IsAnswered itself AnyKnown first now (Ok tt) (added_each (facts_at first.types all) (meaning first))
    by one = record { is = (sym one.is, tt); later = one.later }

each_stops : (fact : CxxFact) (others : List CxxFact) (state : CxxState) (why : Stop) → Stops why (added fact state) → Stops why (added_each (fact ∷ others) state)
unfolding added_each
each_stops fact others state why e = stopped_on why (added fact state) (λ answer. added_each others answer.1) e

pub stopped_left : (first now new : Held) (all rest others : List Fact) (fact : Fact) (why : Stop) → AreLeft first now all rest → rest ≡ fact ∷ others → IsAnswered fact_number IsFactKnown now new (Err why) (added (fact_at now.types fact) (meaning now)) → IsAnswered itself AnyKnown first new (Err why) (added_each (facts_at first.types all) (meaning first))
stopped_left first now new all rest others fact why left rest_is answered = by (subst (λ fs. AreLeft first now all fs) rest_is left)
  where
    by : AreLeft first now all (fact ∷ others) → IsAnswered itself AnyKnown first new (Err why) (added_each (facts_at first.types all) (meaning first))
    by one = record {
      is = subst (λ (reply : Answer (Unit {0} × CxxState)). Stops why reply) one.is (each_stops (fact_at first.types fact) (facts_at first.types others) (meaning now) why (subst (λ types. Stops why (added (fact_at types fact) (meaning now))) one.types answered.is));
      later = Later_trans first now new one.later answered.later;
    }

pub nothing_left : (all : List Fact) → length all ≡ 0 → all ≡ []
nothing_left [] e = refl
nothing_left (fact ∷ others) e = absurd (omega arith)
