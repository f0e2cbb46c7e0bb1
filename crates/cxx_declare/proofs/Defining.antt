-- Definitions of objects.
use Rattle.std.specs.Prelude.{ℕ, zero, suc, ◌≡◌, List, [], ◌∷◌, length, Option, Some, Result, Ok, Err, IfErr, OnOk, refl}
use Rattle.std.specs.List.{slice_get}
use Rattle.std.proofs.Common.{ap, sym, subst, ◌∙◌}
use Rattle.cxx_model.specs.declared.stop.Stop.{Stop}
use Rattle.cxx_model.specs.declared.stop.Stop.TheVariants as stop
use Rattle.cxx_model.specs.declared.place.Place.{Place}
use Rattle.cxx_model.specs.declared.types.FactId.{FactId}
use Rattle.cxx_model.specs.Facts.Conflicts.{defined_before}
use Rattle.cxx_model.specs.declared.facts.Fact.{Fact}
use Rattle.cxx_model.specs.declared.facts.Name.TheVariants as name
use Rattle.cxx_model.specs.declared.token.TokenKind.{TokenKind}
use Rattle.cxx_model.specs.Facts.Graph.{Graph}
use Rattle.cxx_model.specs.Types.Trees.{CxxType}
use Rattle.cxx_model.specs.Facts.Declarations.{CxxFact, Declares, declares_at, fact_at, facts_at, spelled}
use Rattle.cxx_model.specs.Facts.Entities.{CxxEntity, of_fact}
use Rattle.cxx_model.specs.Stops.{Answer, Gives, Stops, ◌>>=◌}
use Rattle.cxx_reading.specs.Declaring.{declares_by, define_declared, define_object, fact_here, free, free_object, object_here, undefined, with_definition}
use Rattle.cxx_reading.specs.State.{CxxState}
use Rattle.cxx_declare.specs.Made.{added_defined, definable_by, definable_object_by, object_defined_by, token, word_in}
use Rattle.cxx_paths.proofs.Stopping.{stopped_on}
use Rattle.cxx_tree.specs.Answered.{AnyKnown, IsAnswered, IsFactKnown, fact_number, itself}
use Rattle.cxx_tree.specs.Held.{Held, meaning}
use Rattle.cxx_tree.specs.Later.{Later}
use Rattle.cxx_tree.proofs.Graphs.{length_facts}
use Rattle.cxx_tree.proofs.Steps.{Later_refl}

pub before_is : (all : List CxxFact) (defined : List ℕ) (found : Option ℕ) (entity : CxxEntity) (first : ℕ) → entity ≡ of_fact first → found ≡ defined_before all defined (of_fact first) → found ≡ defined_before all defined entity
before_is all defined found entity first same is = is ∙ ap (defined_before all defined) (sym same)

what_at : (types : List CxxType) (facts : List Fact) (n : ℕ) (fact : Fact) → slice_get facts n ≡ Some fact → declares_by (slice_get (facts_at types facts) n) ≡ declares_at types fact.what
what_at types [] n fact at = absurd (cc)
what_at types (one ∷ others) zero fact at = (let same : one ≡ fact = cc in ap (λ (f : Fact). declares_at types f.what) same)
what_at types (one ∷ others) (suc n) fact at = what_at types others n fact at

pub what_is : (types : List CxxType) (graph : Graph) (n : ℕ) (fact : Fact) → slice_get graph.facts n ≡ Some fact → declares_by (slice_get (facts_at types graph.facts) n) ≡ declares_at types fact.what
what_is types graph n fact at = what_at types graph.facts n fact at

number_is : (held : Held) → length (meaning held).graph.facts ≡ length held.graph.facts
unfolding meaning
number_is held = length_facts held.types held.graph.facts

pub definable_is : (held : Held) (fact : Fact) (word : List ℕ) (n : ℕ) (r : Result (Unit {0}) Stop) (u : Unit {0}) → word ≡ word_in fact.name → n ≡ length held.graph.facts → free (meaning held) (fact_at held.types fact) (word_in fact.name) ≡ Ok u
    → Gives (λ unit. unit) r (undefined (meaning held) fact.place word n (declares_at held.types fact.what)) → Gives (λ unit. unit) r (definable_by (meaning held) fact.place (word_in fact.name) (fact_at held.types fact))
definable_is held fact word n r u named count is_free gives =
    subst (λ reply. Gives (λ unit. unit) r reply) (sym (ap (λ (a : Answer (Unit {0})). a >>= λ unit. undefined (meaning held) fact.place (word_in fact.name) (length (meaning held).graph.facts) (declares_at held.types fact.what)) is_free))
    (subst (λ w. Gives (λ unit. unit) r (undefined (meaning held) fact.place w (length (meaning held).graph.facts) (declares_at held.types fact.what))) named
    (subst (λ m. Gives (λ unit. unit) r (undefined (meaning held) fact.place word m (declares_at held.types fact.what))) (count ∙ sym (number_is held)) gives))

pub object_definable_is : (held : Held) (fact : Fact) (word : List ℕ) (n : ℕ) (r : Result (Unit {0}) Stop) (u : Unit {0}) → word ≡ word_in fact.name → n ≡ length held.graph.facts → free_object (meaning held) (fact_at held.types fact) (word_in fact.name) ≡ Ok u
    → Gives (λ unit. unit) r (undefined (meaning held) fact.place word n (declares_at held.types fact.what)) → Gives (λ unit. unit) r (definable_object_by (meaning held) fact.place (word_in fact.name) (fact_at held.types fact))
object_definable_is held fact word n r u named count is_free gives =
    subst (λ reply. Gives (λ unit. unit) r reply) (sym (ap (λ (a : Answer (Unit {0})). a >>= λ unit. undefined (meaning held) fact.place (word_in fact.name) (length (meaning held).graph.facts) (declares_at held.types fact.what)) is_free))
    (subst (λ w. Gives (λ unit. unit) r (undefined (meaning held) fact.place w (length (meaning held).graph.facts) (declares_at held.types fact.what))) named
    (subst (λ m. Gives (λ unit. unit) r (undefined (meaning held) fact.place word m (declares_at held.types fact.what))) (count ∙ sym (number_is held)) gives))

pub assoc : {A B C : Type 0} (a : Answer A) (f : A → Answer B) (g : B → Answer C) → ((a >>= f) >>= g) ≡ (a >>= λ x. f x >>= g)
assoc (Ok x) f g = refl
assoc (Err why) f g = refl

pub object_defined : (old new : Held) (kind : TokenKind) (place : Place) (word : List ℕ) (of : CxxType) (fact : Fact) (r : Result FactId Stop) → fact_at old.types fact ≡ fact_here (meaning old) (spelled word) place (object_here (meaning old) (spelled word) of) → fact.name ≡ name.Spelled word
    → IsAnswered fact_number IsFactKnown old new r (object_defined_by fact.place (word_in fact.name) (fact_at old.types fact) (meaning old)) → IsAnswered fact_number IsFactKnown old new r (define_object (token kind place word) of (meaning old))
unfolding define_object
object_defined old new kind place word of fact r is named answered =
    let whole : CxxFact = fact_here (meaning old) (spelled word) place (object_here (meaning old) (spelled word) of) in
    subst (λ reply. IsAnswered fact_number IsFactKnown old new r reply)
    (assoc (free_object (meaning old) whole word) (λ unit. undefined (meaning old) place word (length (meaning old).graph.facts) whole.what) (λ unit. added_defined whole (meaning old)))
    (subst (λ (w : CxxFact). IsAnswered fact_number IsFactKnown old new r (object_defined_by w.place word w (meaning old))) is
    (subst (λ n. IsAnswered fact_number IsFactKnown old new r (object_defined_by fact.place (word_in n) (fact_at old.types fact) (meaning old))) named answered))

-- ---- an object that was declared

pub declared_stopped : (held : Held) (kind : TokenKind) (place : Place) (word : List ℕ) (number : ℕ) (what : Declares) (why : Stop) → declares_by (slice_get (facts_at held.types held.graph.facts) number) ≡ what → Stops why (undefined (meaning held) place word number what) → IsAnswered itself AnyKnown held held (Err why) (define_declared (token kind place word) number (meaning held))
unfolding define_declared meaning
declared_stopped held kind place word number what why is e = record {
  is = stopped_on why (undefined (meaning held) place word number (declares_by (slice_get (facts_at held.types held.graph.facts) number))) (λ unit. Ok (tt, with_definition number (meaning held))) (subst (λ w. Stops why (undefined (meaning held) place word number w)) (sym is) e);
  later = Later_refl held;
}

defined_now : (held : Held) (kind : TokenKind) (place : Place) (word : List ℕ) (number : ℕ) (what : Declares) (u : Unit {0}) → declares_by (slice_get (facts_at held.types held.graph.facts) number) ≡ what → undefined (meaning held) place word number what ≡ Ok u → define_declared (token kind place word) number (meaning held) ≡ Ok (tt, with_definition number (meaning held))
unfolding define_declared meaning
defined_now held kind place word number what u is e = ap (λ (a : Answer (Unit {0})). a >>= λ unit. Ok (tt, with_definition number (meaning held))) (ap (undefined (meaning held) place word number) is ∙ e)

pub declared_defined : (old new : Held) (kind : TokenKind) (place : Place) (word : List ℕ) (number : ℕ) (what : Declares) (u : Unit {0}) (r : Result (Unit {0}) Stop) → declares_by (slice_get (facts_at old.types old.graph.facts) number) ≡ what → undefined (meaning old) place word number what ≡ Ok u
    → Later old new → OnOk r (meaning new ≡ with_definition number (meaning old)) → IfErr r (λ why. why ≡ stop.OutOfMemory) → IsAnswered itself AnyKnown old new r (define_declared (token kind place word) number (meaning old))
declared_defined old new kind place word number what u (Ok v) is e later noted memory = record { is = (defined_now old kind place word number what u is e ∙ ap (λ (s : CxxState). Ok (tt, s)) (sym noted), tt); later = later }
declared_defined old new kind place word number what u (Err why) is e later noted memory = record { is = subst (λ w. Stops w (define_declared (token kind place word) number (meaning old))) (sym memory) tt; later = later }
