-- What declarations are made of.
use Rattle.std.specs.Prelude.{ℕ, ◌≡◌, ◌<◌, ◌+◌, ◌++◌, IfOk, OnOk, Bool, true, false, if◌then◌else◌, nat_eq, List, [], ◌∷◌, length, Option, Some, None, Result, Ok, Err, refl}
use Rattle.std.specs.List.{slice_get}
use Rattle.std.proofs.Common.{ap, sym, subst, ◌∙◌}
use Rattle.cxx_model.specs.declared.facts.Entity.TheVariants as entity
use Rattle.cxx_model.specs.declared.facts.Fact.{Fact}
use Rattle.cxx_model.specs.declared.facts.MemberKind.{MemberKind}
use Rattle.cxx_model.specs.declared.facts.MemberKind.TheVariants.{Free}
use Rattle.cxx_model.specs.declared.facts.Name.{Name}
use Rattle.cxx_model.specs.declared.facts.Name.TheVariants as name
use Rattle.cxx_model.specs.declared.place.Place.{Place}
use Rattle.cxx_model.specs.declared.stop.Stop.{Stop}
use Rattle.cxx_model.specs.declared.types.FactId.{FactId}
use Rattle.cxx_model.specs.declared.types.ScopeId.{ScopeId}
use Rattle.cxx_model.specs.declared.types.TypeId.{TypeId}
use Rattle.cxx_model.specs.Facts.Declarations as facts
use Rattle.cxx_model.specs.Facts.Declarations.{CxxFact, classes_at, fact_at, facts_at, spelled}
use Rattle.cxx_defined.specs.Defined.{IsOwn, IsOwnEntity}
use Rattle.cxx_names.specs.Clashes.{IsNamedMember}
use Rattle.cxx_model.specs.declared.stop.LimitKind.TheVariants.{Facts}
use Rattle.cxx_model.specs.declared.token.TokenKind.{TokenKind}
use Rattle.cxx_model.specs.Text.Lexemes.{Lexeme}
use Rattle.cxx_model.specs.Facts.Graph.{appended, scopes}
use Rattle.cxx_model.specs.Stops.{Answer, Limited, Stops, ◌>>=◌}
use Rattle.cxx_model.specs.Types.Trees.{CxxType}
use Rattle.cxx_model.specs.Types.Numbers.{type_at}
use Rattle.cxx_reading.specs.State.{CxxState}
use Rattle.cxx_reading.specs.Declaring.{added, declare, declare_object, declare_parameter, declare_synonym, fact_here, free, free_object, name_of, object_here, parameter_object, with_fact, word_of}
use Rattle.cxx_declare.specs.Functions.{function_with}
use Rattle.cxx_declare.specs.Made.{IsEarlierFunction, IsEarlierObject, IsNameOf, IsReady, function_first, made, object_added, object_first, token, unit_of, word_in}
use Rattle.cxx_declare.proofs.Firsts.{function_after, object_after}
use Rattle.cxx_paths.proofs.Stopping.{stopped_on}
use Rattle.cxx_tree.specs.Held.{Held, meaning}
use Rattle.cxx_tree.specs.Answered.{AnyKnown, IsAnswered, IsFactKnown, fact_number, itself}
use Rattle.cxx_tree.proofs.Graphs.{length_facts}
use Rattle.cxx_tree.proofs.Steps.{Later_refl}
use Rattle.cxx_tree.proofs.Wholes.{may_follow}

-- ---- objects and functions

pub object_ready : (held : Held) (place : Place) (word : List ℕ) (one : TypeId) (kind : MemberKind) (scope : ScopeId) (first : Option FactId) (n : Name) (fact : Fact) → scope.0 < scopes held.graph.facts → IsEarlierObject held word first → one.0 < length held.types → IsNamedMember kind → n ≡ name.Spelled word → fact ≡ made scope place n (object_first one kind first) → IsReady held fact
object_ready held place word one kind scope first n fact there earlier below member named made_is =
    subst (λ (f : Fact). IsReady held f) (sym (made_is ∙ ap (λ m. made scope place m (object_first one kind first)) named)) (record {
      follows = may_follow held.graph (made scope place (name.Spelled word) (object_first one kind first)) there (object_after held.graph word (made scope place (name.Spelled word) (object_first one kind first)) one kind first refl earlier);
      below = record { name = tt; what = below };
      plain = record { name = tt; what = member };
    })

pub object_is : (held : Held) (place : Place) (word : List ℕ) (one : TypeId) (kind : MemberKind) (scope : ScopeId) (first : Option FactId) (n : Name) (fact : Fact) → scope ≡ held.scope → n ≡ name.Spelled word → fact ≡ made scope place n (object_first one kind first)
    → fact_at held.types fact ≡ fact_here (meaning held) (spelled word) place (facts.object (type_at held.types one.0) kind false None first)
unfolding meaning
object_is held place word one kind scope first n fact here named made_is =
    ap (fact_at held.types) (made_is ∙ ap (λ m. made scope place m (object_first one kind first)) named)
    ∙ ap (λ (s : ScopeId). fact_at held.types (made s place (name.Spelled word) (object_first one kind first))) here

pub function_ready : (held : Held) (place : Place) (word : List ℕ) (one : TypeId) (count : ℕ) (scope : ScopeId) (first : Option FactId) (n : Name) (fact : Fact) → scope.0 < scopes held.graph.facts → IsEarlierFunction held word first → one.0 < length held.types → n ≡ name.Spelled word → fact ≡ made scope place n (function_first one count first) → IsReady held fact
function_ready held place word one count scope first n fact there earlier below named made_is =
    subst (λ (f : Fact). IsReady held f) (sym (made_is ∙ ap (λ m. made scope place m (function_first one count first)) named)) (record {
      follows = may_follow held.graph (made scope place (name.Spelled word) (function_first one count first)) there (function_after held.graph word (made scope place (name.Spelled word) (function_first one count first)) one count first refl earlier);
      below = record { name = tt; what = below };
      plain = record { name = tt; what = tt };
    })

pub function_is : (held : Held) (place : Place) (word : List ℕ) (one : TypeId) (count : ℕ) (scope : ScopeId) (first : Option FactId) (n : Name) (fact : Fact) → scope ≡ held.scope → n ≡ name.Spelled word → fact ≡ made scope place n (function_first one count first)
    → fact_at held.types fact ≡ fact_here (meaning held) (spelled word) place (function_with (type_at held.types one.0) count first)
unfolding meaning
function_is held place word one count scope first n fact here named made_is =
    ap (fact_at held.types) (made_is ∙ ap (λ m. made scope place m (function_first one count first)) named)
    ∙ ap (λ (s : ScopeId). fact_at held.types (made s place (name.Spelled word) (function_first one count first))) here

-- ---- what calls answer

pub declare_stopped : (held : Held) (fact : CxxFact) (word : List ℕ) (why : Stop) → Stops why (free (meaning held) fact word) → IsAnswered fact_number IsFactKnown held held (Err why) (declare fact word (meaning held))
unfolding declare
declare_stopped held fact word why e = record { is = stopped_on why (free (meaning held) fact word) (λ is_free. added fact (meaning held)) e; later = Later_refl held }

-- ---- objects, which may be static members that their classes declare

pub object_stopped : (held : Held) (fact : CxxFact) (word : List ℕ) (why : Stop) → Stops why (free_object (meaning held) fact word) → IsAnswered fact_number IsFactKnown held held (Err why) (object_added fact word (meaning held))
object_stopped held fact word why e = record { is = stopped_on why (free_object (meaning held) fact word) (λ is_free. added fact (meaning held)) e; later = Later_refl held }

pub object_put : (old new : Held) (fact : CxxFact) (word : List ℕ) (r : Result FactId Stop) (unit : Unit {0}) → free_object (meaning old) fact word ≡ Ok unit → IsAnswered fact_number IsFactKnown old new r (added fact (meaning old)) → IsAnswered fact_number IsFactKnown old new r (object_added fact word (meaning old))
object_put old new fact word r unit e answered = subst (λ reply. IsAnswered fact_number IsFactKnown old new r reply) (sym (ap (λ (a : Answer (Unit {0})). a >>= λ is_free. added fact (meaning old)) e)) answered

pub declare_added : (old new : Held) (fact : CxxFact) (word : List ℕ) (r : Result FactId Stop) (unit : Unit {0}) → free (meaning old) fact word ≡ Ok unit → IsAnswered fact_number IsFactKnown old new r (added fact (meaning old)) → IsAnswered fact_number IsFactKnown old new r (declare fact word (meaning old))
unfolding declare
declare_added old new fact word r unit e answered = subst (λ reply. IsAnswered fact_number IsFactKnown old new r reply) (sym (ap (λ (a : Answer (Unit {0})). a >>= λ is_free. added fact (meaning old)) e)) answered

pub declared_as : (old new : Held) (fact : Fact) (what : CxxFact) (word : List ℕ) (r : Result FactId Stop) → fact_at old.types fact ≡ what → fact.name ≡ name.Spelled word → IsAnswered fact_number IsFactKnown old new r (declare (fact_at old.types fact) (word_in fact.name) (meaning old)) → IsAnswered fact_number IsFactKnown old new r (declare what word (meaning old))
declared_as old new fact what word r is named answered =
    subst (λ (w : CxxFact). IsAnswered fact_number IsFactKnown old new r (declare w word (meaning old))) is
    (subst (λ n. IsAnswered fact_number IsFactKnown old new r (declare (fact_at old.types fact) (word_in n) (meaning old))) named answered)

-- what is declared without an answer
pub told : (old new : Held) (fact : CxxFact) (word : List ℕ) (r : Result FactId Stop) (s : Result (Unit {0}) Stop) → IsAnswered fact_number IsFactKnown old new r (declare fact word (meaning old)) → unit_of r ≡ s
    → IsAnswered itself AnyKnown old new s (declare fact word (meaning old) >>= λ answer. Ok (tt, answer.1))
told old new fact word (Ok number) s answered e = subst (λ x. IsAnswered itself AnyKnown old new x (declare fact word (meaning old) >>= λ answer. Ok (tt, answer.1))) e (record { is = (ap (λ (a : Answer (ℕ × CxxState)). a >>= λ answer. Ok (tt, answer.1)) answered.is.0, tt); later = answered.later })
told old new fact word (Err why) s answered e = subst (λ x. IsAnswered itself AnyKnown old new x (declare fact word (meaning old) >>= λ answer. Ok (tt, answer.1))) e (record { is = stopped_on why (declare fact word (meaning old)) (λ answer. Ok (tt, answer.1)) answered.is; later = answered.later })

-- ---- the answer of a declaration

abbrev added_if : ℕ → CxxFact → CxxState → Bool → Answer (ℕ × CxxState)
added_if n fact state b = if b then Err (Limited Facts) else Ok (n, with_fact fact state)

abbrev number_or : ℕ → Answer (ℕ × CxxState) → ℕ
number_or n (Ok both) = both.0
number_or n (Err why) = n

added_number : (held : Held) (fact : CxxFact) (n : ℕ) (s : CxxState) → added fact (meaning held) ≡ Ok (n, s) → n ≡ length held.graph.facts
unfolding added meaning
added_number held fact n s e = by (nat_eq (length (facts_at held.types held.graph.facts) + length (classes_at held.types held.graph.classes)) 2097152) e
  where
    by : (b : Bool) → added_if (length (facts_at held.types held.graph.facts)) fact (meaning held) b ≡ Ok (n, s) → n ≡ length held.graph.facts
    by true f = absurd (cc)
    by false f = sym (ap (number_or n) f) ∙ length_facts held.types held.graph.facts

last_fact : (facts : List Fact) (fact : Fact) → slice_get (facts ++ fact ∷ []) (length facts) ≡ Some fact
last_fact [] fact = refl
last_fact (one ∷ others) fact = last_fact others fact

pub added_there : (old new : Held) (fact : Fact) (what : CxxFact) (number : FactId) → IsAnswered fact_number IsFactKnown old new (Ok number) (added what (meaning old)) → new ≡ record old { graph = appended old.graph fact } → slice_get new.graph.facts number.0 ≡ Some fact
added_there old new fact what number answered is =
    ap (λ (h : Held). slice_get h.graph.facts number.0) is ∙ (ap (slice_get (old.graph.facts ++ fact ∷ [])) (added_number old what number.0 (meaning new) answered.is.0) ∙ last_fact old.graph.facts fact)

pub added_there_by : (old new : Held) (fact : Fact) (what : CxxFact) (r : Result FactId Stop) → IsAnswered fact_number IsFactKnown old new r (added what (meaning old)) → OnOk r (new ≡ record old { graph = appended old.graph fact }) → IfOk r (λ number. slice_get new.graph.facts number.0 ≡ Some fact)
added_there_by old new fact what (Ok number) answered is = added_there old new fact what number answered is
added_there_by old new fact what (Err why) answered is = tt

pub own_there : (r : Result FactId Stop) (new : Held) (fact : Fact) → IsOwnEntity fact.what → IfOk r (λ number. slice_get new.graph.facts number.0 ≡ Some fact) → IfOk r (λ number. IsOwn (slice_get new.graph.facts number.0))
own_there (Ok number) new fact own at = subst (λ o. IsOwn o) (sym at) own
own_there (Err why) new fact own at = tt

-- ---- names of types and parameters

pub synonym_ready : (held : Held) (place : Place) (word : List ℕ) (of : TypeId) (fact : Fact) → held.scope.0 < scopes held.graph.facts → of.0 < length held.types → fact ≡ made held.scope place (name.Spelled word) (entity.Synonym of) → IsReady held fact
synonym_ready held place word of fact there below is = subst (λ (f : Fact). IsReady held f) (sym is) (record { follows = may_follow held.graph (made held.scope place (name.Spelled word) (entity.Synonym of)) there tt; below = record { name = tt; what = below }; plain = record { name = tt; what = tt } })

pub synonym_declared : (old new : Held) (kind : TokenKind) (place : Place) (word : List ℕ) (of : TypeId) (fact : Fact) (r : Result FactId Stop) → fact ≡ made old.scope place (name.Spelled word) (entity.Synonym of) → IsAnswered fact_number IsFactKnown old new r (declare (fact_at old.types fact) (word_in fact.name) (meaning old)) → IsAnswered fact_number IsFactKnown old new r (declare_synonym (token kind place word) (type_at old.types of.0) (meaning old))
unfolding declare_synonym meaning
synonym_declared old new kind place word of fact r is answered = declared_as old new fact (fact_at old.types (made old.scope place (name.Spelled word) (entity.Synonym of))) word r (ap (fact_at old.types) is) (ap (λ (f : Fact). f.name) is) answered

pub object_declared : (old new : Held) (kind : TokenKind) (place : Place) (word : List ℕ) (of : CxxType) (fact : Fact) (r : Result FactId Stop) → fact_at old.types fact ≡ fact_here (meaning old) (spelled word) place (object_here (meaning old) (spelled word) of) → fact.name ≡ name.Spelled word → IsAnswered fact_number IsFactKnown old new r (object_added (fact_at old.types fact) (word_in fact.name) (meaning old)) → IsAnswered fact_number IsFactKnown old new r (declare_object (token kind place word) of (meaning old))
unfolding declare_object
object_declared old new kind place word of fact r is named answered =
    subst (λ (w : CxxFact). IsAnswered fact_number IsFactKnown old new r (object_added w word (meaning old))) is
    (subst (λ n. IsAnswered fact_number IsFactKnown old new r (object_added (fact_at old.types fact) (word_in n) (meaning old))) named answered)

parameter_is : (held : Held) (scope : ScopeId) (n : Name) (place : Place) (of : TypeId) (one : Option Lexeme) → scope ≡ held.scope → IsNameOf one n → fact_at held.types (made scope place n (entity.Object of Free false None None)) ≡ fact_here (meaning held) (name_of one) place (parameter_object (type_at held.types of.0))
unfolding meaning
parameter_is held scope name.Unnamed place of None is named = ap (λ (s : ScopeId). fact_at held.types (made s place name.Unnamed (entity.Object of Free false None None))) is
parameter_is held scope (name.Spelled word) place of (Some one) is named = ap (λ (s : ScopeId). fact_at held.types (made s place (name.Spelled word) (entity.Object of Free false None None))) is ∙ ap (λ w. fact_at held.types (made held.scope place (name.Spelled w) (entity.Object of Free false None None))) (sym named)
parameter_is held scope name.Unnamed place of (Some one) is named = absurd named
parameter_is held scope (name.Spelled word) place of None is named = absurd named
parameter_is held scope (name.Operator o) place of None is named = absurd named
parameter_is held scope (name.Operator o) place of (Some one) is named = absurd named
parameter_is held scope (name.Conversion o) place of None is named = absurd named
parameter_is held scope (name.Conversion o) place of (Some one) is named = absurd named
parameter_is held scope name.Destructor place of None is named = absurd named
parameter_is held scope name.Destructor place of (Some one) is named = absurd named

pub word_is : (n : Name) (one : Option Lexeme) → IsNameOf one n → word_in n ≡ word_of one
word_is name.Unnamed None named = refl
word_is (name.Spelled word) (Some one) named = sym named
word_is name.Unnamed (Some one) named = absurd named
word_is (name.Spelled word) None named = absurd named
word_is (name.Operator o) None named = absurd named
word_is (name.Operator o) (Some one) named = absurd named
word_is (name.Conversion o) None named = absurd named
word_is (name.Conversion o) (Some one) named = absurd named
word_is name.Destructor None named = absurd named
word_is name.Destructor (Some one) named = absurd named

pub parameter_declared : (old new : Held) (scope : ScopeId) (n : Name) (place : Place) (of : TypeId) (one : Option Lexeme) (fact : Fact) (r : Result FactId Stop) (s : Result (Unit {0}) Stop) → scope ≡ old.scope → fact ≡ made scope place n (entity.Object of Free false None None) → IsNameOf one n → unit_of r ≡ s
    → IsAnswered fact_number IsFactKnown old new r (declare (fact_at old.types fact) (word_in fact.name) (meaning old)) → IsAnswered itself AnyKnown old new s (declare_parameter one place (type_at old.types of.0) (meaning old))
unfolding declare_parameter
parameter_declared old new scope n place of one fact r s here is named e answered =
    told old new (fact_here (meaning old) (name_of one) place (parameter_object (type_at old.types of.0))) (word_of one) r s
    (subst (λ (w : CxxFact). IsAnswered fact_number IsFactKnown old new r (declare w (word_of one) (meaning old))) (ap (fact_at old.types) is ∙ parameter_is old scope n place of one here named)
    (subst (λ w. IsAnswered fact_number IsFactKnown old new r (declare (fact_at old.types fact) w (meaning old))) (ap (λ (f : Fact). word_in f.name) is ∙ word_is n one named) answered))
    e
