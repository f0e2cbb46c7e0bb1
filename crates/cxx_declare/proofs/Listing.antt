-- Enumerations and their enumerators.
use Rattle.std.specs.Prelude.{ℕ, ℤ, ◌≡◌, ◌<◌, ◌++◌, Bool, true, false, nat_eq, List, [], ◌∷◌, Option, Some, None, Result, Ok, Err, IsTrue, refl}
use Rattle.std.proofs.Common.{ap, sym, subst, ◌∙◌}
use Rattle.cxx_model.specs.declared.facts.Entity.{Entity}
use Rattle.cxx_model.specs.declared.facts.Entity.TheVariants as entity
use Rattle.cxx_model.specs.declared.facts.Fact.{Fact}
use Rattle.cxx_model.specs.declared.facts.Name.{Name}
use Rattle.cxx_model.specs.declared.facts.Name.TheVariants as name
use Rattle.cxx_model.specs.declared.place.Place.{Place}
use Rattle.cxx_model.specs.declared.stop.Stop.{Stop}
use Rattle.cxx_model.specs.declared.token.TokenKind.{TokenKind}
use Rattle.cxx_model.specs.declared.types.EnumId.{EnumId}
use Rattle.cxx_model.specs.declared.types.FactId.{FactId}
use Rattle.cxx_model.specs.declared.types.ScopeId.{ScopeId}
use Rattle.cxx_model.specs.Facts.Declarations as facts
use Rattle.cxx_model.specs.Facts.Declarations.{CxxFact, declares_at, fact_at, facts_at, name_at, spelled}
use Rattle.cxx_model.specs.Facts.Graph.{appended, enumerations, scopes, values_of}
use Rattle.cxx_model.specs.Stops.{Answer, Stops, ◌>>=◌}
use Rattle.cxx_model.specs.Text.Lexemes.{Lexeme}
use Rattle.cxx_model.specs.Types.Integral.{one_holds}
use Rattle.cxx_model.specs.Types.Trees.{CxxType}
use Rattle.cxx_meaning.specs.Conversions.Enumerations.{values_in}
use Rattle.cxx_reading.specs.Declaring as declaring
use Rattle.cxx_reading.specs.Declaring.{begun_as, declare, declare_enumeration, declare_enumerator, declare_value, end_enumeration, enumeration_count, enumerator_value, fact_here, free, in_enumeration, name_of, word_of}
use Rattle.cxx_reading.specs.State.{CxxState}
use Rattle.cxx_declare.specs.Made.{IsEnumerationThere, IsNameOf, IsReady, enumeration_number, made, token, told_added, value_checked, word_in}
use Rattle.cxx_declare.proofs.Making.{word_is}
use Rattle.cxx_paths.proofs.Stopping.{stopped_on}
use Rattle.cxx_tree.specs.Answered.{AnyKnown, IsAnswered, IsFactKnown, fact_number, itself}
use Rattle.cxx_tree.specs.Held.{Held, meaning}
use Rattle.cxx_tree.specs.Later.{Later}
use Rattle.cxx_tree.proofs.Graphs.{enumeration_next}
use Rattle.cxx_tree.proofs.Steps.{Later_refl, Later_trans}
use Rattle.cxx_tree.proofs.Wholes.{may_follow}

-- ---- an enumeration

pub ended : (old new : Held) (number : ℕ) → Later old new → meaning new ≡ in_enumeration None (meaning old) → IsAnswered itself AnyKnown old new (Ok tt) (end_enumeration number (meaning old))
unfolding end_enumeration
ended old new number later is = record { is = (ap (λ (s : CxxState). Ok (tt, s)) (sym is), tt); later = later }

enumeration_is : (held : Held) (scope : ScopeId) (n : Name) (place : Place) (number : EnumId) (one : Option Lexeme) → scope ≡ held.scope → number.0 ≡ enumeration_count (facts_at held.types held.graph.facts) → IsNameOf one n → fact_at held.types (made scope place n (entity.Enumeration number)) ≡ fact_here (meaning held) (name_of one) place (facts.enumeration (enumeration_count (meaning held).graph.facts))
unfolding meaning
enumeration_is held scope n place number one here count named =
    ap (λ (s : ScopeId). fact_at held.types (made s place n (entity.Enumeration number))) here
    ∙ (ap (λ w. record (fact_at held.types (made held.scope place n (entity.Enumeration number))) { name = w }) (by n one named)
    ∙ ap (λ c. record (fact_at held.types (made held.scope place n (entity.Enumeration number))) { name = name_of one; what = facts.enumeration c }) count)
  where
    by : (m : Name) (o : Option Lexeme) → IsNameOf o m → name_at held.types m ≡ name_of o
    by name.Unnamed None ok = refl
    by (name.Spelled word) (Some token) ok = ap spelled (sym ok)
    by name.Unnamed (Some token) ok = absurd ok
    by (name.Spelled word) None ok = absurd ok
    by (name.Operator o) None ok = absurd ok
    by (name.Operator o) (Some token) ok = absurd ok
    by (name.Conversion o) None ok = absurd ok
    by (name.Conversion o) (Some token) ok = absurd ok
    by name.Destructor None ok = absurd ok
    by name.Destructor (Some token) ok = absurd ok

declared_enumeration : (old new : Held) (scope : ScopeId) (n : Name) (place : Place) (number : EnumId) (one : Option Lexeme) (fact : Fact) (r : Result FactId Stop) → scope ≡ old.scope → number.0 ≡ enumeration_count (facts_at old.types old.graph.facts) → fact ≡ made scope place n (entity.Enumeration number) → IsNameOf one n
    → IsAnswered fact_number IsFactKnown old new r (declare (fact_at old.types fact) (word_in fact.name) (meaning old)) → IsAnswered fact_number IsFactKnown old new r (declare (fact_here (meaning old) (name_of one) place (facts.enumeration (enumeration_count (meaning old).graph.facts))) (word_of one) (meaning old))
declared_enumeration old new scope n place number one fact r here count is named answered =
    subst (λ (w : CxxFact). IsAnswered fact_number IsFactKnown old new r (declare w (word_of one) (meaning old))) (ap (fact_at old.types) is ∙ enumeration_is old scope n place number one here count named)
    (subst (λ w. IsAnswered fact_number IsFactKnown old new r (declare (fact_at old.types fact) w (meaning old))) (ap (λ (f : Fact). word_in f.name) is ∙ word_is n one named) answered)

count_is : (held : Held) (m : EnumId) → m.0 ≡ enumeration_count (facts_at held.types held.graph.facts) → m.0 ≡ enumeration_count (meaning held).graph.facts
unfolding meaning
count_is held m e = e

pub enumeration_begun : (old middle new : Held) (scope : ScopeId) (n : Name) (place : Place) (number : EnumId) (one : Option Lexeme) (fact : Fact) (first : FactId) → scope ≡ old.scope → number.0 ≡ enumeration_count (facts_at old.types old.graph.facts) → number.0 ≡ enumerations old.graph.facts → fact ≡ made scope place n (entity.Enumeration number) → IsNameOf one n
    → IsAnswered fact_number IsFactKnown old middle (Ok first) (declare (fact_at old.types fact) (word_in fact.name) (meaning old)) → middle ≡ record old { graph = appended old.graph fact } → Later middle new → meaning new ≡ in_enumeration (Some number.0) (meaning middle) → new ≡ record middle { enumeration = Some number }
    → IsAnswered enumeration_number IsEnumerationThere old new (Ok number) (declare_enumeration one place (meaning old))
unfolding declare_enumeration
enumeration_begun old middle new scope n place number one fact first here count counted is named answered held later set after =
    let whole = declared_enumeration old middle scope n place number one fact (Ok first) here count is named answered in
    record {
      is = (
        ap (λ (a : Answer (ℕ × CxxState)). a >>= λ answer. Ok (begun_as (enumeration_count (meaning old).graph.facts) answer)) whole.is.0
            ∙ (ap (λ c. Ok (c, in_enumeration (Some c) (meaning middle))) (sym (count_is old number count)) ∙ ap (λ (s : CxxState). Ok (number.0, s)) (sym set)),
        subst (λ (h : Held). number.0 < enumerations h.graph.facts) (sym after) (subst (λ (h : Held). number.0 < enumerations h.graph.facts) (sym held) (subst (λ c. c < enumerations (old.graph.facts ++ fact ∷ [])) (sym counted) (enumeration_next old.graph.facts fact number (ap (λ (f : Fact). f.what) is)))),
      );
      later = Later_trans old middle new answered.later later;
    }

pub enumeration_stopped : (old new : Held) (scope : ScopeId) (n : Name) (place : Place) (number : EnumId) (one : Option Lexeme) (fact : Fact) (why : Stop) → scope ≡ old.scope → number.0 ≡ enumeration_count (facts_at old.types old.graph.facts) → fact ≡ made scope place n (entity.Enumeration number) → IsNameOf one n
    → IsAnswered fact_number IsFactKnown old new (Err why) (declare (fact_at old.types fact) (word_in fact.name) (meaning old)) → IsAnswered enumeration_number IsEnumerationThere old new (Err why) (declare_enumeration one place (meaning old))
unfolding declare_enumeration
enumeration_stopped old new scope n place number one fact why here count is named answered =
    let whole = declared_enumeration old new scope n place number one fact (Err why) here count is named answered in
    record { is = stopped_on why (declare (fact_here (meaning old) (name_of one) place (facts.enumeration (enumeration_count (meaning old).graph.facts))) (word_of one) (meaning old)) (λ answer. Ok (begun_as (enumeration_count (meaning old).graph.facts) answer)) whole.is; later = whole.later }

-- ---- an enumerator

values_alike : (types : List CxxType) (n : ℕ) (facts : List Fact) → values_in n (facts_at types facts) ≡ values_of facts n
values_alike types n [] = refl
values_alike types n (one ∷ others) = by one.what (values_alike types n others)
  where
    one_value : (number : EnumId) (value : ℤ) (b : Bool) → nat_eq number.0 n ≡ b → values_in n (facts_at types others) ≡ values_of others n → values_in n (record (fact_at types one) { what = facts.enumerator number.0 value } ∷ facts_at types others) ≡ values_of (record one { what = entity.Enumerator number value } ∷ others) n
    one_value number value true e later = rw e (ap (λ vs. value ∷ vs) later)
    one_value number value false e later = rw e later

    by : (what : Entity) → values_in n (facts_at types others) ≡ values_of others n → values_in n (record (fact_at types one) { what = declares_at types what } ∷ facts_at types others) ≡ values_of (record one { what = what } ∷ others) n
    by (entity.Scope parent kind) later = later
    by (entity.Object of member is_mutable known first) later = later
    by (entity.Function of member flags defaults first) later = later
    by (entity.Template number member defaults is_explicit first) later = later
    by (entity.Parameter depth index of) later = later
    by (entity.Injected number) later = later
    by (entity.Class number is_union) later = later
    by (entity.Complete number) later = later
    by (entity.Passed number) later = later
    by (entity.Ancestor number parent index access) later = later
    by (entity.Enumeration number) later = later
    by (entity.Enumerator number value) later = one_value number value (nat_eq number.0 n) refl later
    by (entity.Synonym of) later = later
    by (entity.Namespace inner) later = later
    by (entity.Directive nominated) later = later
    by (entity.Using target) later = later
    by (entity.Friend number target) later = later

checked_held : (state : CxxState) (fact : CxxFact) (word : List ℕ) (number : ℕ) (value : ℤ) (u : Unit {0}) → value_checked state fact word number value ≡ Ok u → one_holds (values_in number state.graph.facts ++ value ∷ []) ≡ true
checked_held state fact word number value u e = by (free state fact word) (one_holds (values_in number state.graph.facts ++ value ∷ [])) e
  where
    by : (a : Answer (Unit {0})) (b : Bool) → (a >>= λ is_free. declaring.held fact.place b) ≡ Ok u → b ≡ true
    by (Err why) b f = absurd (cc)
    by (Ok v) true f = refl
    by (Ok v) false f = absurd (cc)

is_true : (b : Bool) → b ≡ true → IsTrue b
is_true b e = subst (λ c. IsTrue c) (sym e) (refl)

holds_all : (held : Held) (number : ℕ) (value : ℤ) → one_holds (values_in number (meaning held).graph.facts ++ value ∷ []) ≡ true → one_holds (values_of held.graph.facts number ++ value ∷ []) ≡ true
unfolding meaning
holds_all held number value e = ap (λ vs. one_holds (vs ++ value ∷ [])) (sym (values_alike held.types number held.graph.facts)) ∙ e

-- one type holds the values of an enumeration and one more, which are read from a reference
pub holds_here : (held : Held) (number : ℕ) (value : ℤ) → one_holds (values_of held.graph.facts number ++ value ∷ []) ≡ one_holds (values_in number (meaning held).graph.facts ++ value ∷ [])
unfolding meaning
holds_here held number value = ap (λ vs. one_holds (vs ++ value ∷ [])) (sym (values_alike held.types number held.graph.facts))

pub enumerator_ready : (held : Held) (place : Place) (word : List ℕ) (number : EnumId) (value : ℤ) (fact : Fact) (cxx : CxxFact) (w : List ℕ) (u : Unit {0}) → held.scope.0 < scopes held.graph.facts → number.0 < enumerations held.graph.facts → fact ≡ made held.scope place (name.Spelled word) (entity.Enumerator number value) → value_checked (meaning held) cxx w number.0 value ≡ Ok u → IsReady held fact
enumerator_ready held place word number value fact cxx w u there known is e = subst (λ (f : Fact). IsReady held f) (sym is) (record {
  follows = may_follow held.graph (made held.scope place (name.Spelled word) (entity.Enumerator number value)) there (known, is_true _ (holds_all held number.0 value (checked_held (meaning held) cxx w number.0 value u e)));
  below = record { name = tt; what = tt };
  plain = record { name = tt; what = tt };
})

assoc : {A B C : Type 0} (a : Answer A) (f : A → Answer B) (g : B → Answer C) → ((a >>= f) >>= g) ≡ (a >>= λ x. f x >>= g)
assoc (Ok x) f g = refl
assoc (Err why) f g = refl

abbrev enumerator_here : Held → Place → List ℕ → EnumId → ℤ → CxxFact
enumerator_here held place word number value = fact_here (meaning held) (spelled word) place (facts.enumerator number.0 value)

enumerator_is : (held : Held) (place : Place) (word : List ℕ) (number : EnumId) (value : ℤ) (fact : Fact) → fact ≡ made held.scope place (name.Spelled word) (entity.Enumerator number value) → fact_at held.types fact ≡ enumerator_here held place word number value
unfolding meaning
enumerator_is held place word number value fact is = ap (fact_at held.types) is

value_is : (held : Held) (kind : TokenKind) (place : Place) (word : List ℕ) (number : EnumId) (value : ℤ) → (value_checked (meaning held) (enumerator_here held place word number value) word number.0 value >>= λ unit. told_added (enumerator_here held place word number value) (meaning held)) ≡ declare_value number.0 (token kind place word) value (meaning held)
unfolding declare_value
value_is held kind place word number value = assoc (free (meaning held) (enumerator_here held place word number value) word) (λ unit. declaring.held place (one_holds (values_in number.0 (meaning held).graph.facts ++ value ∷ []))) (λ unit. told_added (enumerator_here held place word number value) (meaning held))

checked_here : (held : Held) (place : Place) (word : List ℕ) (number : EnumId) (value : ℤ) (fact : Fact) → fact ≡ made held.scope place (name.Spelled word) (entity.Enumerator number value) → value_checked (meaning held) (fact_at held.types fact) (word_in fact.name) number.0 value ≡ value_checked (meaning held) (enumerator_here held place word number value) word number.0 value
checked_here held place word number value fact is = ap (λ (f : CxxFact). value_checked (meaning held) f (word_in fact.name) number.0 value) (enumerator_is held place word number value fact is) ∙ ap (λ (f : Fact). value_checked (meaning held) (enumerator_here held place word number value) (word_in f.name) number.0 value) is

pub value_added : (old new : Held) (kind : TokenKind) (place : Place) (word : List ℕ) (number : EnumId) (value : ℤ) (fact : Fact) (r : Result (Unit {0}) Stop) (u : Unit {0}) → fact ≡ made old.scope place (name.Spelled word) (entity.Enumerator number value) → value_checked (meaning old) (fact_at old.types fact) (word_in fact.name) number.0 value ≡ Ok u
    → IsAnswered itself AnyKnown old new r (told_added (fact_at old.types fact) (meaning old)) → IsAnswered itself AnyKnown old new r (declare_value number.0 (token kind place word) value (meaning old))
value_added old new kind place word number value fact r u is e answered =
    subst (λ reply. IsAnswered itself AnyKnown old new r reply)
    (sym (ap (λ (a : Answer (Unit {0})). a >>= λ unit. told_added (enumerator_here old place word number value) (meaning old)) (sym (checked_here old place word number value fact is) ∙ e)) ∙ value_is old kind place word number value)
    (subst (λ (f : CxxFact). IsAnswered itself AnyKnown old new r (told_added f (meaning old))) (enumerator_is old place word number value fact is) answered)

pub value_stopped : (held : Held) (kind : TokenKind) (place : Place) (word : List ℕ) (number : EnumId) (value : ℤ) (fact : Fact) (why : Stop) → fact ≡ made held.scope place (name.Spelled word) (entity.Enumerator number value) → Stops why (value_checked (meaning held) (fact_at held.types fact) (word_in fact.name) number.0 value)
    → IsAnswered itself AnyKnown held held (Err why) (declare_value number.0 (token kind place word) value (meaning held))
value_stopped held kind place word number value fact why is e = record {
  is = subst (λ reply. Stops why reply) (value_is held kind place word number value) (stopped_on why (value_checked (meaning held) (enumerator_here held place word number value) word number.0 value) (λ unit. told_added (enumerator_here held place word number value) (meaning held)) (subst (λ reply. Stops why reply) (checked_here held place word number value fact is) e));
  later = Later_refl held;
}

pub enumerator_declared : (old new : Held) (kind : TokenKind) (place : Place) (word : List ℕ) (number : ℕ) (value : Option ℤ) (known : ℤ) (r : Result (Unit {0}) Stop) → known ≡ enumerator_value value (values_in number (meaning old).graph.facts) → IsAnswered itself AnyKnown old new r (declare_value number (token kind place word) known (meaning old)) → IsAnswered itself AnyKnown old new r (declare_enumerator number (token kind place word) value (meaning old))
unfolding declare_enumerator
enumerator_declared old new kind place word number value known r is answered = subst (λ v. IsAnswered itself AnyKnown old new r (declare_value number (token kind place word) v (meaning old))) is answered
