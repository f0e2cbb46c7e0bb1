-- Classes that are declared (9.1).
use Rattle.std.specs.Prelude.{ℕ, zero, suc, ◌≡◌, ◌<◌, Bool, true, false, nat_eq, if◌then◌else◌, List, [], ◌∷◌, length, find, Option, Some, None, option_map, Result, IfSome, refl}
use Rattle.std.specs.List.{slice_get}
use Rattle.std.proofs.Common.{ap, sym, subst, ◌∙◌, cond, arith}
use Rattle.cxx_model.specs.declared.facts.Entity.{Entity}
use Rattle.cxx_model.specs.declared.facts.Entity.TheVariants as entity
use Rattle.cxx_model.specs.declared.facts.Fact.{Fact}
use Rattle.cxx_model.specs.declared.facts.Name.{Name}
use Rattle.cxx_model.specs.declared.facts.Name.TheVariants as name
use Rattle.cxx_model.specs.declared.place.Place.{Place}
use Rattle.cxx_model.specs.declared.stop.Stop.{Stop}
use Rattle.cxx_model.specs.declared.types.ClassId.{ClassId}
use Rattle.cxx_model.specs.declared.types.ScopeId.{ScopeId}
use Rattle.cxx_model.specs.declared.types.TypeId.{TypeId}
use Rattle.cxx_model.specs.Facts.Declarations as facts
use Rattle.cxx_model.specs.Facts.Declarations.{CxxFact, Declares, fact_at, facts_at, graph_at, name_at, spelled}
use Rattle.cxx_model.specs.Facts.Conflicts.{scope_facts}
use Rattle.cxx_model.specs.Facts.Fitted.{Fitted, IsEntityBelow, IsNameBelow}
use Rattle.cxx_model.specs.Facts.Graph.{Graph, InRange, IsEntityInRange, IsTypeInRange, scopes}
use Rattle.cxx_model.specs.Types.Trees.{CxxType}
use Rattle.cxx_meaning.specs.Lookups.Scopes.{chain, kind_of, parent_of, up}
use Rattle.cxx_names.specs.Clashes.{IsPlainEntity, IsPlainName}
use Rattle.cxx_names.specs.declared.looked.NamedClass.{NamedClass}
use Rattle.cxx_names.specs.Looked.{class_named_at}
use Rattle.cxx_reading.specs.Classes.{ClassNamed, class_by, class_fact, declare_again, declare_new, first_class, first_open, is_open, open_of, or_other, scope_or_unit}
use Rattle.cxx_reading.specs.Linked.{scope_id}
use Rattle.cxx_reading.specs.Seen.{numbered_at, numbered_by, scope_of_option, type_in}
use Rattle.cxx_reading.specs.Trees.{CxxPathPart}
use Rattle.cxx_declare.specs.Classes.{IsClassFact, declared_as, next_declared}
use Rattle.cxx_declare.specs.Made.{IsReady, IsTypeThere, made, word_in}
use Rattle.cxx_tree.specs.Answered.{IsAnswered}
use Rattle.cxx_tree.specs.Held.{Held, meaning, type_of}
use Rattle.cxx_tree.proofs.Graphs.{length_classes, numbered_range, parent_there}
use Rattle.cxx_tree.proofs.Wholes.{may_follow}

pub class_is : (types : List CxxType) (scope : ScopeId) (part : CxxPathPart) (class : ClassId) (is_union : Bool) (place : Place) (n : Name) (fact : Fact) → place ≡ part.place → n ≡ name.Spelled part.word → fact ≡ made scope place n (entity.Class class is_union) → fact_at types fact ≡ class_fact scope.0 part class.0 is_union
class_is types scope part class is_union place n fact at named made_is =
    ap (fact_at types) (made_is ∙ (ap (λ (m : Name). made scope place m (entity.Class class is_union)) named ∙ ap (λ (p : Place). made scope p (name.Spelled part.word) (entity.Class class is_union)) at))

pub class_made : (scope : ScopeId) (class : ClassId) (is_union : Bool) (place : Place) (word : List ℕ) (n : Name) (fact : Fact) → n ≡ name.Spelled word → fact ≡ made scope place n (entity.Class class is_union) → IsClassFact scope class is_union fact
class_made scope class is_union place word n fact named made_is = record {
  scope_is = ap (λ (f : Fact). f.scope) made_is;
  what_is = ap (λ (f : Fact). f.what) made_is;
  plain = subst IsPlainName (sym (ap (λ (f : Fact). f.name) made_is ∙ named)) tt;
}

plain_below : (count : ℕ) (n : Name) → IsPlainName n → IsNameBelow count n
plain_below count name.Unnamed plain = tt
plain_below count (name.Spelled word) plain = tt
plain_below count _ plain = absurd plain

pub ready_by : (held : Held) (class : ClassId) (is_union : Bool) (fact : Fact) → fact.scope.0 < scopes held.graph.facts → class.0 < length held.graph.classes → fact.what ≡ entity.Class class is_union → IsPlainName fact.name → IsReady held fact
ready_by held class is_union fact there known what plain = record {
  follows = may_follow held.graph fact there (subst (λ (e : Entity). IsEntityInRange held.graph fact e) (sym what) known);
  below = record { name = plain_below (length held.types) fact.name plain; what = subst (IsEntityBelow (length held.types)) (sym what) tt };
  plain = record { name = plain; what = subst IsPlainEntity (sym what) tt };
}

pub class_ready : (held : Held) (scope : ScopeId) (class : ClassId) (is_union : Bool) (fact : Fact) → scope.0 < scopes held.graph.facts → class.0 < length held.graph.classes → IsClassFact scope class is_union fact → IsReady held fact
class_ready held scope class is_union fact there known is = ready_by held class is_union fact (subst (λ (s : ScopeId). s.0 < scopes held.graph.facts) (sym is.scope_is) there) known is.what_is is.plain

pub word_is : (types : List CxxType) (n : Name) (word : List ℕ) → IsPlainName n → name_at types n ≡ spelled word → word_in n ≡ word
word_is types name.Unnamed word plain e = absurd (cc)
word_is types (name.Spelled w) word plain e = cc
word_is types _ word plain e = absurd plain

pub again_answered : (old new : Held) (scope n : ℕ) (part : CxxPathPart) (is_union : Bool) (fact : Fact) (r : Result TypeId Stop) → fact_at old.types fact ≡ class_fact scope part n is_union → IsPlainName fact.name
    → IsAnswered type_of IsTypeThere old new r (declared_as n (fact_at old.types fact) (word_in fact.name) (meaning old)) → IsAnswered type_of IsTypeThere old new r (declare_again scope part is_union n (meaning old))
unfolding declare_again
again_answered old new scope n part is_union fact r is plain answered =
    subst (λ (word : List ℕ). IsAnswered type_of IsTypeThere old new r (declared_as n (class_fact scope part n is_union) word (meaning old))) (word_is old.types fact.name part.word plain (ap (λ (f : CxxFact). f.name) is))
    (subst (λ (f : CxxFact). IsAnswered type_of IsTypeThere old new r (declared_as n f (word_in fact.name) (meaning old))) is answered)

pub count_is : (held : Held) → length (meaning held).graph.classes ≡ length held.graph.classes
unfolding meaning
count_is held = length_classes held.types held.graph.classes

pub new_answered : (old new : Held) (scope n : ℕ) (part : CxxPathPart) (is_union : Bool) (fact : Fact) (r : Result TypeId Stop) → n ≡ length old.graph.classes → fact_at old.types fact ≡ class_fact scope part n is_union → IsPlainName fact.name
    → IsAnswered type_of IsTypeThere old new r (next_declared n (fact_at old.types fact) (word_in fact.name) (meaning old)) → IsAnswered type_of IsTypeThere old new r (declare_new scope part is_union (meaning old))
unfolding declare_new
new_answered old new scope n part is_union fact r next is plain answered =
    subst (λ (m : ℕ). IsAnswered type_of IsTypeThere old new r (next_declared m (class_fact scope part m is_union) part.word (meaning old))) (next ∙ sym (count_is old))
    (subst (λ (word : List ℕ). IsAnswered type_of IsTypeThere old new r (next_declared n (class_fact scope part n is_union) word (meaning old))) (word_is old.types fact.name part.word plain (ap (λ (f : CxxFact). f.name) is))
    (subst (λ (f : CxxFact). IsAnswered type_of IsTypeThere old new r (next_declared n f (word_in fact.name) (meaning old))) is answered))

-- ---- classes among declarations

-- one that is found is there
class_found : (graph : Graph) (types : List CxxType) (numbers : List ℕ) (n : ClassNamed) → Fitted graph types → InRange graph → first_class (numbered_at (graph_at types graph) numbers) ≡ Some n → n.number < length graph.classes
class_found graph types [] n fitted ok is = absurd (cc)
class_found graph types (number ∷ others) n fitted ok is = by (slice_get (facts_at types graph.facts) number) (numbered_range graph types (number ∷ []) fitted ok) is (λ later. class_found graph types others n fitted ok later)
  where
    on : (fact : CxxFact) (what : Declares) → IsTypeInRange graph (type_in (record { number = number; fact = record fact { what = what } } ∷ [])) → or_other (class_by what) (first_class (numbered_at (graph_at types graph) others)) ≡ Some n
        → (first_class (numbered_at (graph_at types graph) others) ≡ Some n → n.number < length graph.classes) → n.number < length graph.classes
    on fact (facts.class class is_union) there is later = (let same : record { number = class.0; is_union = Some is_union } ≡ n = cc in subst (λ (one : ClassNamed). one.number < length graph.classes) same there)
    on fact (facts.injected class) there is later = (let same : record { number = class.0; is_union = None } ≡ n = cc in subst (λ (one : ClassNamed). one.number < length graph.classes) same there)
    on fact _ there is later = later is

    by : (o : Option CxxFact) → IsTypeInRange graph (type_in (numbered_by number o [])) → first_class (numbered_by number o (numbered_at (graph_at types graph) others)) ≡ Some n
        → (first_class (numbered_at (graph_at types graph) others) ≡ Some n → n.number < length graph.classes) → n.number < length graph.classes
    by None there is later = later is
    by (Some fact) there is later = on fact fact.what there is later

pub class_there : (held : Held) (graph : Graph) (numbers : List ℕ) (r : Option NamedClass) → graph ≡ held.graph → Fitted held.graph held.types → InRange graph → option_map class_named_at r ≡ first_class (numbered_at (graph_at held.types graph) numbers) → IfSome r (λ one. one.class.0 < length held.graph.classes)
class_there held graph numbers None same fitted ok is = tt
class_there held graph numbers (Some one) same fitted ok is = class_found held.graph held.types numbers (class_named_at one) fitted (subst (λ (g : Graph). InRange g) same ok) (ap (λ (g : Graph). first_class (numbered_at (graph_at held.types g) numbers)) (sym same) ∙ sym is)

-- ---- the innermost scope that is that of no class and of no parameters (3.3.1)

abbrev pub AreBelow : ℕ → List ScopeId → Type 0
AreBelow count [] = Unit {0}
AreBelow count (scope ∷ others) = (scope.0 < count) × AreBelow count others

outer_below : (graph : Graph) (types : List CxxType) (scope : ScopeId) → InRange graph → scope.0 < scopes graph.facts → (parent_of (facts_at types graph.facts) scope).0 < scopes graph.facts
outer_below graph types scope ok within = by (slice_get (scope_facts (facts_at types graph.facts)) scope.0) refl (parent_there graph types scope.0 ok within)
  where
    by : (o : Option CxxFact) → slice_get (scope_facts (facts_at types graph.facts)) scope.0 ≡ o → scope_of_option scope.0 o < scopes graph.facts → (parent_of (facts_at types graph.facts) scope).0 < scopes graph.facts
    by None at there = rw at (omega (arith, within))
    by (Some fact) at there = rw at there

pub up_below : (graph : Graph) (types : List CxxType) → InRange graph → (room : ℕ) (scope : ScopeId) → scope.0 < scopes graph.facts → AreBelow (scopes graph.facts) (up (facts_at types graph.facts) room scope)
unfolding up
up_below graph types ok zero scope within = (within, tt)
up_below graph types ok (suc room) scope within = (within, by (nat_eq scope.0 0) (up_below graph types ok room (parent_of (facts_at types graph.facts) scope) (outer_below graph types scope ok within)))
  where
    by : (b : Bool) → AreBelow (scopes graph.facts) (up (facts_at types graph.facts) room (parent_of (facts_at types graph.facts) scope)) → AreBelow (scopes graph.facts) (if b then [] else up (facts_at types graph.facts) room (parent_of (facts_at types graph.facts) scope))
    by true below = tt
    by false below = below

pub find_below : (count : ℕ) (test : ScopeId → Bool) (all : List ScopeId) → 0 < count → AreBelow count all → (scope_or_unit (find test all)).0 < count
find_below count test [] some below = some
find_below count test (scope ∷ others) some below = by (test scope) (find_below count test others some below.1)
  where
    by : (b : Bool) → (scope_or_unit (find test others)).0 < count → (scope_or_unit (cond b (Some scope) (find test others))).0 < count
    by true later = below.0
    by false later = later

open_there : (graph : Graph) (types : List CxxType) (scope : ℕ) → InRange graph → scope < scopes graph.facts → open_of (graph_at types graph) scope < scopes graph.facts
unfolding open_of first_open
open_there graph types scope ok within = find_below (scopes graph.facts) (λ one. is_open (kind_of (facts_at types graph.facts) one)) (chain (facts_at types graph.facts) (scope_id scope)) (omega (arith, within)) (up_below graph types ok scope (scope_id scope) within)

pub open_below : (held : Held) (graph : Graph) (scope : ScopeId) (n : ℕ) → graph ≡ held.graph → InRange graph → scope.0 < scopes held.graph.facts → n ≡ open_of (graph_at held.types graph) scope.0 → n < scopes held.graph.facts
open_below held graph scope n same ok within is =
    subst (λ (g : Graph). n < scopes g.facts) same
    (subst (λ (m : ℕ). m < scopes graph.facts) (sym is) (open_there graph held.types scope.0 ok (subst (λ (g : Graph). scope.0 < scopes g.facts) (sym same) within)))
