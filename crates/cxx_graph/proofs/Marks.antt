-- Which classes have their end among the facts, once one more fact is there.
use Rattle.std.specs.Prelude.{ℕ, zero, suc, ◌≡◌, ◌<◌, ◌≤◌, Bool, true, false, ◌||◌, List, [], ◌∷◌, ◌++◌, length, Option, Some, None, nat_eq, refl, ◌⊎◌}
use Rattle.std.specs.List.{slice_get}
use Rattle.std.proofs.Common.{ap, sym, subst, ◌∙◌, set, inl, inr, ⊎_elim, arith}
use Rattle.std.proofs.Math.Bool.{or_assoc, or-false, or-true}
use Rattle.std.proofs.lemmas.Bool.{eqb-true, eq-eqb}
use Rattle.cxx_model.specs.declared.facts.Access.{Access}
use Rattle.cxx_model.specs.declared.facts.Entity.{Entity}
use Rattle.cxx_model.specs.declared.facts.Entity.TheVariants as entity
use Rattle.cxx_model.specs.declared.facts.Fact.{Fact}
use Rattle.cxx_model.specs.declared.facts.Name.{Name}
use Rattle.cxx_model.specs.declared.facts.Pattern.{Pattern}
use Rattle.cxx_model.specs.declared.facts.Specialisation.{Specialisation}
use Rattle.cxx_model.specs.declared.place.Place.{Place}
use Rattle.cxx_model.specs.declared.types.ClassId.{ClassId}
use Rattle.cxx_model.specs.declared.types.ScopeId.{ScopeId}
use Rattle.cxx_model.specs.Facts.Graph.{Graph, InRange, IsEntityInRange, EachMayFollow, MayFollow, appended, completes, is_complete}
use Rattle.cxx_graph.proofs.GraphRange.{may-follow}
use Rattle.cxx_graph.specs.Ended.{ended}
use Rattle.cxx_graph.specs.Stored.{IsMarked}

complete-more : (facts : List Fact) (fact : Fact) (n : ℕ) → is_complete (facts ++ fact ∷ []) n ≡ (is_complete facts n || completes n fact)
complete-more [] fact n = or-false (completes n fact)
complete-more (x ∷ xs) fact n = ap (λ b. completes n x || b) (complete-more xs fact n) ∙ sym (or_assoc (completes n x) (is_complete xs n) (completes n fact))

none-completed : (place : Place) (scope : ScopeId) (name : Name) (access : Access) (what : Entity) (n : ℕ) → ended what ≡ None → completes n (record { place = place; scope = scope; name = name; access = access; what = what }) ≡ false
none-completed place scope name access (entity.Complete class) n e = cc
none-completed place scope name access _ n e = refl

pub marked-same : (facts : List Fact) (fact : Fact) (marks : List Bool) → ended fact.what ≡ None → IsMarked facts marks → IsMarked (facts ++ fact ∷ []) marks
marked-same facts fact marks none so n mark is =
    let other : completes n fact ≡ false = none-completed fact.place fact.scope fact.name fact.access fact.what n none in
    so n mark is ∙ sym (or-false (is_complete facts n)) ∙ ap (λ b. is_complete facts n || b) (sym other) ∙ sym (complete-more facts fact n)

ended-complete : (what : Entity) (class : ClassId) → ended what ≡ Some class → what ≡ entity.Complete class
ended-complete (entity.Complete c) class e = let same : c ≡ class = cc in ap entity.Complete same
ended-complete _ class e = cc

completed-by : (place : Place) (scope : ScopeId) (name : Name) (access : Access) (what : Entity) (class : ClassId) (n : ℕ) → what ≡ entity.Complete class → completes n (record { place = place; scope = scope; name = name; access = access; what = what }) ≡ nat_eq class.0 n
completed-by place scope name access what class n e = ap (λ (x : Entity). completes n (record { place = place; scope = scope; name = name; access = access; what = x })) e

get-set : (marks : List Bool) (c n : ℕ) (v mark : Bool) → slice_get (set marks c v) n ≡ Some mark → ((c ≡ n) × (mark ≡ v)) ⊎ ((c ≡ n → ⊥) × (slice_get marks n ≡ Some mark))
get-set [] c n v mark e = cc
get-set (m ∷ ms) zero zero v mark e = inl (refl, cc)
get-set (m ∷ ms) zero (suc n) v mark e = inr (λ p. omega (arith, p), e)
get-set (m ∷ ms) (suc c) zero v mark e = inr (λ p. omega (arith, p), e)
get-set (m ∷ ms) (suc c) (suc n) v mark e = lift (get-set ms c n v mark e)
  where
    lift : ((c ≡ n) × (mark ≡ v)) ⊎ ((c ≡ n → ⊥) × (slice_get ms n ≡ Some mark)) → ((suc c ≡ suc n) × (mark ≡ v)) ⊎ ((suc c ≡ suc n → ⊥) × (slice_get ms n ≡ Some mark))
    lift (inl p) = inl (ap suc p.0, p.1)
    lift (inr p) = inr (λ q. p.0 (omega (arith, q)), p.1)

pub marked-ended : (facts : List Fact) (fact : Fact) (marks : List Bool) (class : ClassId) → ended fact.what ≡ Some class → IsMarked facts marks → IsMarked (facts ++ fact ∷ []) (set marks class.0 true)
marked-ended facts fact marks class some so n mark is = by (get-set marks class.0 n true mark is)
  where
    here : completes n fact ≡ nat_eq class.0 n
    here = completed-by fact.place fact.scope fact.name fact.access fact.what class n (ended-complete fact.what class some)

    by : ((class.0 ≡ n) × (mark ≡ true)) ⊎ ((class.0 ≡ n → ⊥) × (slice_get marks n ≡ Some mark)) → mark ≡ is_complete (facts ++ fact ∷ []) n
    by (inl p) = p.1 ∙ sym (or-true (is_complete facts n)) ∙ ap (λ b. is_complete facts n || b) (sym (here ∙ eq-eqb class.0 n p.0)) ∙ sym (complete-more facts fact n)
    by (inr p) = so n mark p.1 ∙ sym (or-false (is_complete facts n)) ∙ ap (λ b. is_complete facts n || b) (sym (here ∙ apart (nat_eq class.0 n) refl p.0)) ∙ sym (complete-more facts fact n)
      where
        apart : (b : Bool) → nat_eq class.0 n ≡ b → (class.0 ≡ n → ⊥) → nat_eq class.0 n ≡ false
        apart true e never = absurd (never (eqb-true class.0 n e))
        apart false e never = e

named : (facts : List Fact) (classes : List (Option Specialisation)) (patterns : List Pattern) (fact : Fact) (class : ClassId) → MayFollow (record { facts = facts; classes = classes; patterns = patterns }) fact → fact.what ≡ entity.Complete class → class.0 < length classes
named [] classes patterns fact class ok e = cc
named (x ∷ xs) classes patterns fact class ok e = subst (λ (what : Entity). IsEntityInRange (record { facts = x ∷ xs; classes = classes; patterns = patterns }) fact what) e ok.1

pub class-reserved : (graph : Graph) (fact : Fact) (class : ClassId) → InRange (appended graph fact) → ended fact.what ≡ Some class → class.0 < length graph.classes
class-reserved graph fact class ok some = named graph.facts graph.classes graph.patterns fact class (may-follow graph fact ok) (ended-complete fact.what class some)

-- a class that is not reserved has no end
ends-none : (graph : Graph) (before : List Fact) (fact : Fact) (n : ℕ) → MayFollow (record graph { facts = before }) fact → length graph.classes ≤ n → completes n fact ≡ false
ends-none graph before fact n ok past = by (ended fact.what) refl
  where
    by : (end : Option ClassId) → ended fact.what ≡ end → completes n fact ≡ false
    by None e = none-completed fact.place fact.scope fact.name fact.access fact.what n e
    by (Some class) e =
        let is : fact.what ≡ entity.Complete class = ended-complete fact.what class e in
        let reserved : class.0 < length graph.classes = named before graph.classes graph.patterns fact class ok is in
        completed-by fact.place fact.scope fact.name fact.access fact.what class n is ∙ other class.0 (omega arith)
      where
        other : (m : ℕ) → m < n → nat_eq m n ≡ false
        other m less = apart (nat_eq m n) refl
          where
            apart : (b : Bool) → nat_eq m n ≡ b → nat_eq m n ≡ false
            apart true q = absurd (let same : m ≡ n = eqb-true m n q in omega arith)
            apart false q = q

none-end : (graph : Graph) (before facts : List Fact) (n : ℕ) → EachMayFollow graph before facts → length graph.classes ≤ n → is_complete facts n ≡ false
none-end graph before [] n ok past = refl
none-end graph before (fact ∷ facts) n ok past = ap (λ b. b || is_complete facts n) (ends-none graph before fact n ok.0 past) ∙ none-end graph (before ++ fact ∷ []) facts n ok.1 past

pub open-class : (graph : Graph) (n : ℕ) → InRange graph → length graph.classes ≤ n → is_complete graph.facts n ≡ false
open-class graph n ok past = none-end graph [] graph.facts n ok.facts past

pub get-more : {A : Type 0} (xs : List A) (x y : A) (n : ℕ) → slice_get (xs ++ x ∷ []) n ≡ Some y → (slice_get xs n ≡ Some y) ⊎ ((n ≡ length xs) × (y ≡ x))
get-more [] x y zero e = inr (refl, cc)
get-more [] x y (suc n) e = cc
get-more (z ∷ zs) x y zero e = inl e
get-more (z ∷ zs) x y (suc n) e = ⊎_elim (λ p. inl p) (λ p. inr (ap suc p.0, p.1)) (get-more zs x y n e)

pub marked-class : (facts : List Fact) (marks : List Bool) → is_complete facts (length marks) ≡ false → IsMarked facts marks → IsMarked facts (marks ++ false ∷ [])
marked-class facts marks none so n mark is = by (get-more marks false mark n is)
  where
    by : (slice_get marks n ≡ Some mark) ⊎ ((n ≡ length marks) × (mark ≡ false)) → mark ≡ is_complete facts n
    by (inl p) = so n mark p
    by (inr p) = p.1 ∙ sym none ∙ ap (is_complete facts) (sym p.0)
