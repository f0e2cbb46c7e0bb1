-- A further declaration of an object, with what its initializer makes known.
use Rattle.std.specs.Prelude.{ℕ, ℤ, ◌≡◌, ◌<◌, Bool, true, false, ◌&&◌, List, length, Option, Some, None, refl}
use Rattle.std.specs.List.{slice_get}
use Rattle.std.proofs.Common.{ap, subst, sym, ◌∙◌}
use Rattle.std.proofs.lemmas.Slice.Eq.{bytes_eq-Decides}
use Rattle.cxx_model.specs.declared.facts.Entity.{Entity}
use Rattle.cxx_model.specs.declared.facts.Entity.TheVariants as entity
use Rattle.cxx_model.specs.declared.facts.Fact.{Fact}
use Rattle.cxx_model.specs.declared.facts.MemberKind.TheVariants.{Free}
use Rattle.cxx_model.specs.declared.facts.Name.{Name}
use Rattle.cxx_model.specs.declared.facts.Name.TheVariants as name
use Rattle.cxx_model.specs.declared.place.Place.{Place}
use Rattle.cxx_model.specs.declared.types.FactId.{FactId}
use Rattle.cxx_model.specs.declared.types.TypeId.{TypeId}
use Rattle.cxx_model.specs.Facts.Declarations.{fact_at, spelled}
use Rattle.cxx_model.specs.Facts.Graph.{Graph, IsEntityInRange, scopes}
use Rattle.cxx_model.specs.Types.Numbers.{type_at}
use Rattle.cxx_declare.specs.Made.{IsReady, made}
use Rattle.cxx_reading.specs.Declaring.{fact_here}
use Rattle.cxx_language.specs.Earlier.{is_object, is_word, names_object}
use Rattle.cxx_language.specs.Known.{known_object}
use Rattle.cxx_tree.specs.Held.{Held, meaning}
use Rattle.cxx_tree.proofs.Wholes.{may_follow}

-- the object of a further declaration
abbrev known_entity : TypeId → Option ℤ → FactId → Entity
known_entity of value first = entity.Object of Free false value (Some first)

made_is : (held : Held) (place : Place) (word : List ℕ) (of : TypeId) (value : Option ℤ) (first : FactId) → fact_at held.types (made held.scope place (name.Spelled word) (known_entity of value first)) ≡ fact_here (meaning held) (spelled word) place (known_object first.0 (type_at held.types of.0) value)
unfolding meaning
made_is held place word of value first = refl

pub known_is : (held : Held) (place : Place) (word : List ℕ) (of : TypeId) (value : Option ℤ) (first : FactId) (fact : Fact) → fact ≡ made held.scope place (name.Spelled word) (entity.Object of Free false value (Some first)) → fact_at held.types fact ≡ fact_here (meaning held) (spelled word) place (known_object first.0 (type_at held.types of.0) value)
known_is held place word of value first fact is = ap (fact_at held.types) is ∙ made_is held place word of value first

-- ---- it may be added

both_true : (a b : Bool) → (a && b) ≡ true → (a ≡ true) × (b ≡ true)
both_true true b e = (refl, e)
both_true false b e = absurd (cc)

word_is : (word : List ℕ) (n : Name) → is_word word n ≡ true → n ≡ name.Spelled word
word_is word (name.Spelled other) e = ap name.Spelled ((bytes_eq-Decides other word).0 e)
word_is word name.Unnamed e = absurd (cc)
word_is word (name.Operator o) e = absurd (cc)
word_is word (name.Conversion of) e = absurd (cc)
word_is word name.Destructor e = absurd (cc)

object_pair : (graph : Graph) (fact : Fact) (of : TypeId) (value : Option ℤ) (first : FactId) (other : Fact) → slice_get graph.facts first.0 ≡ Some other → other.name ≡ fact.name → (what : Entity) → other.what ≡ what → is_object what ≡ true → IsEntityInRange graph fact (known_entity of value first)
object_pair graph fact of value first other at named (entity.Object two member is_mutable worth one) same e = (other, at, rw same (refl), named)
object_pair graph fact of value first other at named (entity.Scope parent kind) same e = absurd (cc)
object_pair graph fact of value first other at named (entity.Function two member flags defaults one) same e = absurd (cc)
object_pair graph fact of value first other at named (entity.Template number member defaults is_explicit one) same e = absurd (cc)
object_pair graph fact of value first other at named (entity.Parameter depth index two) same e = absurd (cc)
object_pair graph fact of value first other at named (entity.Injected number) same e = absurd (cc)
object_pair graph fact of value first other at named (entity.Class number is_union) same e = absurd (cc)
object_pair graph fact of value first other at named (entity.Complete number) same e = absurd (cc)
object_pair graph fact of value first other at named (entity.Passed number) same e = absurd (cc)
object_pair graph fact of value first other at named (entity.Ancestor number parent index access) same e = absurd (cc)
object_pair graph fact of value first other at named (entity.Enumeration number) same e = absurd (cc)
object_pair graph fact of value first other at named (entity.Enumerator number worth) same e = absurd (cc)
object_pair graph fact of value first other at named (entity.Synonym two) same e = absurd (cc)
object_pair graph fact of value first other at named (entity.Namespace inner) same e = absurd (cc)
object_pair graph fact of value first other at named (entity.Directive nominated) same e = absurd (cc)
object_pair graph fact of value first other at named (entity.Using target) same e = absurd (cc)
object_pair graph fact of value first other at named (entity.Friend number target) same e = absurd (cc)

known_range : (graph : Graph) (fact : Fact) (word : List ℕ) (of : TypeId) (value : Option ℤ) (first : FactId) → fact.name ≡ name.Spelled word → (one : Option Fact) → slice_get graph.facts first.0 ≡ one → names_object word one ≡ true → IsEntityInRange graph fact (known_entity of value first)
known_range graph fact word of value first spells None at e = absurd (cc)
known_range graph fact word of value first spells (Some other) at e =
    let tests = both_true (is_object other.what) (is_word word other.name) e in
    object_pair graph fact of value first other at (word_is word other.name tests.1 ∙ sym spells) other.what refl tests.0

pub known_ready : (held : Held) (place : Place) (word : List ℕ) (of : TypeId) (value : Option ℤ) (first : FactId) (fact : Fact) → fact ≡ made held.scope place (name.Spelled word) (entity.Object of Free false value (Some first)) → held.scope.0 < scopes held.graph.facts → of.0 < length held.types → names_object word (slice_get held.graph.facts first.0) ≡ true → IsReady held fact
known_ready held place word of value first fact is there below named =
    let whole : Fact = made held.scope place (name.Spelled word) (known_entity of value first) in
    subst (λ (f : Fact). IsReady held f) (sym is) (record { follows = may_follow held.graph whole there (known_range held.graph whole word of value first refl (slice_get held.graph.facts first.0) refl named); below = record { name = tt; what = below }; plain = record { name = tt; what = tt } })
