-- What becomes of the fields of a graph at each step, and which class a specialisation has.
use Rattle.std.specs.Prelude.{ℕ, zero, suc, ◌≡◌, ◌<◌, ◌≤◌, ◌+◌, Bool, true, false, List, [], ◌∷◌, ◌++◌, length, Option, Some, None, Result, Ok, Err, IfSome, IfNone, IfOk, OnOk, refl, ◌⊎◌}
use Rattle.std.specs.List.{slice_get}
use Rattle.std.specs.Map.{lookup}
use Rattle.std.specs.Option.{option_map}
use Rattle.std.proofs.Common.{ap, sym, subst, ◌∙◌, cond, arith, length-append, inl, inr}
use Rattle.std.proofs.lemmas.List.{map-append}
use Rattle.std.proofs.lemmas.Map.Entries.{place_from_lookup}
use Rattle.std.proofs.lemmas.Option.{slice_get-map}
use Rattle.std.proofs.Math.ListN.{length-map}
use Rattle.indexmap.specs.IndexMap.{insert_entry}
use Rattle.indexmap.proofs.MapLemmas.{absent_from_lookup, insert_entry-absent}
use Rattle.cxx_model.specs.declared.facts.Fact.{Fact}
use Rattle.cxx_model.specs.declared.facts.Pattern.{Pattern}
use Rattle.cxx_model.specs.declared.facts.Specialisation.{Specialisation}
use Rattle.cxx_model.specs.declared.types.ClassId.{ClassId}
use Rattle.cxx_model.specs.declared.types.Argument.{Argument}
use Rattle.cxx_model.specs.declared.types.TemplateId.{TemplateId}
use Rattle.cxx_model.specs.Facts.Graph.{Graph, InRange, AreSameArguments, IsClassInRange, IsPatternInRange, IsReservedAlready, IsReservedFor, IsSpecialisationOf, appended, with_class}
use Rattle.cxx_graph.proofs.GraphRange.{pattern-in-range, reserved-in-range}
use Rattle.cxx_graph.specs.Reserved.{IsNew, IsUnknown}
use Rattle.cxx_graph.specs.Stored.{AreClassesApart, IsMarked, IsPlaced, IsStored, classes_of, graph_of, held}
use Rattle.cxx_graph.proofs.Marks.{get-more, marked-class, open-class}
use Rattle.cxx_graph.proofs.Same.{same_specialisation, same-specialisation, specialisation-same}

-- ---- lists

get-before : {A : Type 0} (xs ys : List A) (y : A) (n : ℕ) → slice_get xs n ≡ Some y → slice_get (xs ++ ys) n ≡ Some y
get-before [] ys y n e = cc
get-before (x ∷ xs) ys y zero e = e
get-before (x ∷ xs) ys y (suc n) e = get-before xs ys y n e

get-last : {A : Type 0} (xs : List A) (x : A) → slice_get (xs ++ x ∷ []) (length xs) ≡ Some x
get-last [] x = refl
get-last (y ∷ ys) x = get-last ys x

some-same : {A : Type 0} (x y : A) → Some x ≡ Some y → x ≡ y
some-same x y e = cc

lookup-hit : {K V : Type 0} (test : K → Bool) (es : List (K × V)) (i : ℕ) (k : K) (v : V) → slice_get es i ≡ Some (k, v) → test k ≡ true → lookup test es ≡ None → ⊥
lookup-hit test [] i k v at hit none = cc
lookup-hit {K} {V} test (e ∷ es) zero k v at hit none =
    let is : e ≡ (k, v) = some-same e (k, v) at in
    let passes : test e.0 ≡ true = ap (λ (x : K × V). test x.0) is ∙ hit in
    let found : Some e.1 ≡ None = sym (ap (λ b. cond b (Some e.1) (lookup test es)) passes) ∙ none in
    cc
lookup-hit test (e ∷ es) (suc i) k v at hit none = by (test e.0) refl (λ rest. lookup-hit test es i k v at hit rest)
  where
    by : (b : Bool) → test e.0 ≡ b → (lookup test es ≡ None → ⊥) → ⊥
    by true p next = (let found : Some e.1 ≡ None = sym (ap (λ b. cond b (Some e.1) (lookup test es)) p) ∙ none in cc)
    by false p next = next (sym (ap (λ b. cond b (Some e.1) (lookup test es)) p) ∙ none)

-- ---- the classes that the fields stand for

pub length-classes : (entries : List (Specialisation × ClassId)) (places : List (Option ℕ)) → length (classes_of entries places) ≡ length places
length-classes entries places = length-map places (held entries)

pub class-at : (entries : List (Specialisation × ClassId)) (places : List (Option ℕ)) (n : ℕ) → slice_get (classes_of entries places) n ≡ option_map (held entries) (slice_get places n)
class-at entries places n = slice_get-map (held entries) places n

classes-more : (entries : List (Specialisation × ClassId)) (places : List (Option ℕ)) (place : Option ℕ) → classes_of entries (places ++ place ∷ []) ≡ classes_of entries places ++ held entries place ∷ []
classes-more entries places place = map-append (held entries) places (place ∷ [])

held-kept : (entries : List (Specialisation × ClassId)) (entry : Specialisation × ClassId) (place : Option ℕ) → ((i : ℕ) → place ≡ Some i → (e : Specialisation × ClassId) × (slice_get entries i ≡ Some e)) → held (entries ++ entry ∷ []) place ≡ held entries place
held-kept entries entry None known = refl
held-kept entries entry (Some i) known =
    let there : (e : Specialisation × ClassId) × (slice_get entries i ≡ Some e) = known i refl in
    let first : Specialisation × ClassId → Specialisation = λ e. e.0 in
    ap (option_map first) (get-before entries (entry ∷ []) there.0 i there.1 ∙ sym there.1)

classes-kept : (entries : List (Specialisation × ClassId)) (entry : Specialisation × ClassId) (places : List (Option ℕ)) → ((n i : ℕ) → slice_get places n ≡ Some (Some i) → (e : Specialisation × ClassId) × (slice_get entries i ≡ Some e)) → classes_of (entries ++ entry ∷ []) places ≡ classes_of entries places
classes-kept entries entry [] known = refl
classes-kept entries entry (place ∷ places) known =
    let one : held (entries ++ entry ∷ []) place ≡ held entries place = held-kept entries entry place (λ i e. known zero i (ap Some e)) in
    let rest : classes_of (entries ++ entry ∷ []) places ≡ classes_of entries places = classes-kept entries entry places (λ n i e. known (suc n) i e) in
    cc

pub graph-alone : (facts : List Fact) (entries : List (Specialisation × ClassId)) (places : List (Option ℕ)) (patterns : List Pattern) → graph_of facts entries (places ++ None ∷ []) patterns ≡ with_class (graph_of facts entries places patterns) None
graph-alone facts entries places patterns =
    let with : List (Option Specialisation) → Graph = λ classes. record { facts = facts; classes = classes; patterns = patterns } in
    ap with (classes-more entries places None)

pub graph-special : (facts : List Fact) (entries : List (Specialisation × ClassId)) (places : List (Option ℕ)) (patterns : List Pattern) (of : Specialisation) (class : ClassId) → IsPlaced entries places → graph_of facts (entries ++ (of, class) ∷ []) (places ++ Some (length entries) ∷ []) patterns ≡ with_class (graph_of facts entries places patterns) (Some of)
graph-special facts entries places patterns of class placed =
    let with : List (Option Specialisation) → Graph = λ classes. record { facts = facts; classes = classes; patterns = patterns } in
    let new : List (Specialisation × ClassId) = entries ++ (of, class) ∷ [] in
    let first : Specialisation × ClassId → Specialisation = λ e. e.0 in
    let last : held new (Some (length entries)) ≡ Some of = ap (option_map first) (get-last entries (of, class)) in
    let kept : classes_of new places ≡ classes_of entries places = classes-kept entries (of, class) places (λ n i e. (let p : (s : Specialisation) × (slice_get entries i ≡ Some (s, record { 0 = n })) = placed n i e in ((p.0, record { 0 = n }), p.1))) in
    ap with (classes-more new places (Some (length entries)) ∙ ap (λ (cs : List (Option Specialisation)). cs ++ held new (Some (length entries)) ∷ []) kept ∙ ap (λ (c : Option Specialisation). classes_of entries places ++ c ∷ []) last)

-- ---- which class a specialisation has

module _ (facts : List Fact) (entries : List (Specialisation × ClassId)) (places : List (Option ℕ)) (completed : List Bool) (patterns : List Pattern) (stored : IsStored facts entries places completed patterns) where
  pub found : (of : Specialisation) (class : ClassId) → lookup (same_specialisation of) entries ≡ Some class → IsSpecialisationOf (graph_of facts entries places patterns) of.template of.arguments class.0
  found of class e =
      let at : (i : ℕ) × (k : Specialisation) × (slice_get entries i ≡ Some (k, class)) × (same_specialisation of k ≡ true) = place_from_lookup (same_specialisation of) entries class e in
      let same : (of.template ≡ at.1.template) × AreSameArguments of.arguments at.1.arguments = specialisation-same of at.1 at.3 in
      let placed : slice_get places class.0 ≡ Some (Some at.0) = stored.numbered at.0 at.1 class at.2 in
      let first : Specialisation × ClassId → Specialisation = λ x. x.0 in
      record {
        of = at.1;
        stored = class-at entries places class.0 ∙ ap (option_map (held entries)) placed ∙ ap (λ (o : Option (Specialisation × ClassId)). Some (option_map first o)) at.2;
        template_is = sym same.0;
        arguments_are = λ types. sym (same.1 types);
      }

  -- the entry of a class that was reserved for a specialisation
  entry-of : (n : ℕ) (of : Specialisation) → slice_get (classes_of entries places) n ≡ Some (Some of) → (i : ℕ) × (slice_get entries i ≡ Some (of, record { 0 = n }))
  entry-of n of e = by (slice_get places n) refl
    where
      by : (p : Option (Option ℕ)) → slice_get places n ≡ p → (i : ℕ) × (slice_get entries i ≡ Some (of, record { 0 = n }))
      by None p = (let none : None ≡ Some (Some of) = sym (class-at entries places n ∙ ap (option_map (held entries)) p) ∙ e in cc)
      by (Some None) p = (let none : Some None ≡ Some (Some of) = sym (class-at entries places n ∙ ap (option_map (held entries)) p) ∙ e in cc)
      by (Some (Some i)) p =
          let there : (s : Specialisation) × (slice_get entries i ≡ Some (s, record { 0 = n })) = stored.placed n i p in
          let first : Specialisation × ClassId → Specialisation = λ x. x.0 in
          let held-is : held entries (Some i) ≡ Some there.0 = ap (option_map first) there.1 in
          let one : Some (Some there.0) ≡ Some (Some of) = sym (class-at entries places n ∙ ap (option_map (held entries)) p ∙ ap Some held-is) ∙ e in
          let is : there.0 ≡ of = cc in
          (i, there.1 ∙ ap (λ (s : Specialisation). Some (s, record { 0 = n })) is)

  pub unknown : (of : Specialisation) → lookup (same_specialisation of) entries ≡ None → IsUnknown (graph_of facts entries places patterns) (Some of.template) of.arguments
  unknown of none n h =
      let at : (i : ℕ) × (slice_get entries i ≡ Some (h.of, record { 0 = n })) = entry-of n h.of h.stored in
      lookup-hit (same_specialisation of) entries at.0 h.of (record { 0 = n }) at.1 (same-specialisation of h.of (sym h.template_is) (λ types. sym (h.arguments_are types))) none

  pub none-known : (of : Specialisation) → IsUnknown (graph_of facts entries places patterns) (Some of.template) of.arguments → lookup (same_specialisation of) entries ≡ None
  none-known of new = by (lookup (same_specialisation of) entries) refl
    where
      by : (o : Option ClassId) → lookup (same_specialisation of) entries ≡ o → lookup (same_specialisation of) entries ≡ None
      by None e = e
      by (Some class) e = absurd (new class.0 (found of class e))

  -- a specialisation has no two classes
  pub one-class : (template : TemplateId) (given : List Argument) (m n : ℕ) → IsSpecialisationOf (graph_of facts entries places patterns) template given m → IsSpecialisationOf (graph_of facts entries places patterns) template given n → m ≡ n
  one-class template given m n p q = stored.apart m n p.of q.of p.stored q.stored (p.template_is ∙ sym q.template_is) (λ types. p.arguments_are types ∙ sym (q.arguments_are types))

-- ---- one more of each

apart-more : (graph : Graph) (of : Option Specialisation) → AreClassesApart graph.classes → IsNew graph of → AreClassesApart (with_class graph of).classes
apart-more graph of apart new m n one two p q template given = by (get-more graph.classes of (Some one) m p) (get-more graph.classes of (Some two) n q)
  where
    fresh : (o : Option Specialisation) (s t : Specialisation) (i : ℕ) → IsNew graph o → Some s ≡ o → slice_get graph.classes i ≡ Some (Some t) → t.template ≡ s.template → AreSameArguments t.arguments s.arguments → ⊥
    fresh None s t i absent is at named same = cc
    fresh (Some x) s t i absent is at named same =
        let equal : s ≡ x = some-same s x is in
        absent i (record {
          of = t;
          stored = at;
          template_is = named ∙ ap (λ (y : Specialisation). y.template) equal;
          arguments_are = subst (λ (y : Specialisation). AreSameArguments t.arguments y.arguments) equal same;
        })

    by : (slice_get graph.classes m ≡ Some (Some one)) ⊎ ((m ≡ length graph.classes) × (Some one ≡ of)) → (slice_get graph.classes n ≡ Some (Some two)) ⊎ ((n ≡ length graph.classes) × (Some two ≡ of)) → m ≡ n
    by (inl a) (inl b) = apart m n one two a b template given
    by (inl a) (inr b) = absurd (fresh of two one m new b.1 a template given)
    by (inr a) (inl b) = absurd (fresh of one two n new a.1 b (sym template) (λ types. sym (given types)))
    by (inr a) (inr b) = a.0 ∙ sym b.0

module _ (facts : List Fact) (entries : List (Specialisation × ClassId)) (places : List (Option ℕ)) (completed : List Bool) (patterns : List Pattern) (stored : IsStored facts entries places completed patterns) where
  abbrev before : Graph
  before = graph_of facts entries places patterns

  pub stored-fact : (fact : Fact) (marks : List Bool) → length facts + length places < 2097152 → InRange (appended before fact) → length marks ≡ length completed → IsMarked (facts ++ fact ∷ []) marks → IsStored (facts ++ fact ∷ []) entries places marks patterns
  stored-fact fact marks room range count marked = record {
    counted = count ∙ stored.counted;
    marked = marked;
    limited = omega (arith, length-append facts (fact ∷ []));
    fewer = stored.fewer;
    numbered = stored.numbered;
    placed = stored.placed;
    apart = stored.apart;
    in_range = range;
  }

  pub stored-pattern : (pattern : Pattern) → length patterns < length facts → IsPatternInRange before (length patterns) pattern → IsStored facts entries places completed (patterns ++ pattern ∷ [])
  stored-pattern pattern fewer range = record {
    counted = stored.counted;
    marked = stored.marked;
    limited = stored.limited;
    fewer = stored.fewer;
    numbered = stored.numbered;
    placed = stored.placed;
    apart = stored.apart;
    in_range = pattern-in-range before pattern stored.in_range fewer range;
  }

  marked-more : IsMarked facts (completed ++ false ∷ [])
  marked-more =
      let count : length (classes_of entries places) ≡ length places = length-classes entries places in
      let same : length completed ≡ length places = stored.counted in
      marked-class facts completed (open-class before (length completed) stored.in_range (omega arith)) stored.marked

  counted-more : (place : Option ℕ) → length (completed ++ false ∷ []) ≡ length (places ++ place ∷ [])
  counted-more place = (let same : length completed ≡ length places = stored.counted in omega (arith, length-append completed (false ∷ []), length-append places (place ∷ [])))

  pub stored-alone : length facts + length places < 2097152 → IsStored facts entries (places ++ None ∷ []) (completed ++ false ∷ []) patterns
  stored-alone room =
      let is : graph_of facts entries (places ++ None ∷ []) patterns ≡ with_class before None = graph-alone facts entries places patterns in
      let fewer : length entries ≤ length places = stored.fewer in
      record {
        counted = counted-more None;
        marked = marked-more;
        limited = omega (arith, length-append places (None ∷ []));
        fewer = omega (arith, length-append places (None ∷ []));
        numbered = λ place of class at. get-before places (None ∷ []) (Some place) class.0 (stored.numbered place of class at);
        placed = λ n place at. placed-alone n place (get-more places None (Some place) n at);
        apart = subst (λ (g : Graph). AreClassesApart g.classes) (sym is) (apart-more before None stored.apart tt);
        in_range = subst InRange (sym is) (reserved-in-range before None stored.in_range tt);
      }
    where
      placed-alone : (n place : ℕ) → (slice_get places n ≡ Some (Some place)) ⊎ ((n ≡ length places) × (Some place ≡ None)) → (of : Specialisation) × (slice_get entries place ≡ Some (of, record { 0 = n }))
      placed-alone n place (inl p) = stored.placed n place p
      placed-alone n place (inr p) = (let none : Some place ≡ None = p.1 in cc)

  pub stored-special : (of : Specialisation) (class : ClassId) → class.0 ≡ length places → length facts + length places < 2097152 → IsClassInRange before (Some of) → IsNew before (Some of) → IsStored facts (entries ++ (of, class) ∷ []) (places ++ Some (length entries) ∷ []) (completed ++ false ∷ []) patterns
  stored-special of class number room range new =
      let is : graph_of facts (entries ++ (of, class) ∷ []) (places ++ Some (length entries) ∷ []) patterns ≡ with_class before (Some of) = graph-special facts entries places patterns of class stored.placed in
      let fewer : length entries ≤ length places = stored.fewer in
      record {
        counted = counted-more (Some (length entries));
        marked = marked-more;
        limited = omega (arith, length-append places (Some (length entries) ∷ []));
        fewer = omega (arith, length-append places (Some (length entries) ∷ []), length-append entries ((of, class) ∷ []));
        numbered = λ place other given at. numbered-special place other given (get-more entries (of, class) (other, given) place at);
        placed = λ n place at. placed-special n place (get-more places (Some (length entries)) (Some place) n at);
        apart = subst (λ (g : Graph). AreClassesApart g.classes) (sym is) (apart-more before (Some of) stored.apart new);
        in_range = subst InRange (sym is) (reserved-in-range before (Some of) stored.in_range range);
      }
    where
      class-is : class ≡ record { 0 = length places }
      class-is = ap (λ (n : ℕ). record { 0 = n }) number

      numbered-special : (place : ℕ) (other : Specialisation) (given : ClassId) → (slice_get entries place ≡ Some (other, given)) ⊎ ((place ≡ length entries) × ◌≡◌ {A = Specialisation × ClassId} (other, given) (of, class)) → slice_get (places ++ Some (length entries) ∷ []) given.0 ≡ Some (Some place)
      numbered-special place other given (inl p) = get-before places (Some (length entries) ∷ []) (Some place) given.0 (stored.numbered place other given p)
      numbered-special place other given (inr p) =
          let second : Specialisation × ClassId → ℕ = λ x. x.1.0 in
          let at : given.0 ≡ length places = ap second p.1 ∙ number in
          ap (slice_get (places ++ Some (length entries) ∷ [])) at ∙ get-last places (Some (length entries)) ∙ ap (λ (n : ℕ). Some (Some n)) (sym p.0)

      placed-special : (n place : ℕ) → (slice_get places n ≡ Some (Some place)) ⊎ ((n ≡ length places) × (Some place ≡ Some (length entries))) → (other : Specialisation) × (slice_get (entries ++ (of, class) ∷ []) place ≡ Some (other, record { 0 = n }))
      placed-special n place (inl p) =
          let there : (s : Specialisation) × (slice_get entries place ≡ Some (s, record { 0 = n })) = stored.placed n place p in
          (there.0, get-before entries ((of, class) ∷ []) (there.0, record { 0 = n }) place there.1)
      placed-special n place (inr p) =
          let at : place ≡ length entries = some-same place (length entries) p.1 in
          let is : class ≡ record { 0 = n } = class-is ∙ ap (λ (m : ℕ). record { 0 = m }) (sym p.0) in
          (of, ap (slice_get (entries ++ (of, class) ∷ [])) at ∙ get-last entries (of, class) ∙ ap (λ (c : ClassId). Some (of, c)) is)

-- ---- the same, as the functions tell it

module _ (facts : List Fact) (entries : List (Specialisation × ClassId)) (places : List (Option ℕ)) (completed : List Bool) (patterns : List Pattern) (stored : IsStored facts entries places completed patterns) (whole : Graph) (is : graph_of facts entries places patterns ≡ whole) where
  pub answer-found : (of : Specialisation) (answer : Option ClassId) → answer ≡ lookup (same_specialisation of) entries → IfSome answer (λ class. IsSpecialisationOf whole of.template of.arguments class.0)
  answer-found of None e = tt
  answer-found of (Some class) e = subst (λ (g : Graph). IsSpecialisationOf g of.template of.arguments class.0) is (found facts entries places completed patterns stored of class (sym e))

  pub answer-only : (of : Specialisation) (answer : Option ClassId) → answer ≡ lookup (same_specialisation of) entries → (n : ℕ) → IsSpecialisationOf whole of.template of.arguments n → IfSome answer (λ class. class.0 ≡ n)
  answer-only of None e n h = tt
  answer-only of (Some class) e n h =
      one-class facts entries places completed patterns stored of.template of.arguments class.0 n (found facts entries places completed patterns stored of class (sym e)) (subst (λ (g : Graph). IsSpecialisationOf g of.template of.arguments n) (sym is) h)

  pub answer-missing : (of : Specialisation) (answer : Option ClassId) → answer ≡ lookup (same_specialisation of) entries → IfNone answer (IsUnknown whole (Some of.template) of.arguments)
  answer-missing of None e = subst (λ (g : Graph). IsUnknown g (Some of.template) of.arguments) is (unknown facts entries places completed patterns stored of (sym e))
  answer-missing of (Some class) e = tt

  room-below : length whole.facts + length whole.classes < 2097152 → length facts + length places < 2097152
  room-below room =
      let count : length (classes_of entries places) ≡ length places = length-classes entries places in
      let below : length facts + length (classes_of entries places) < 2097152 = subst (λ (g : Graph). length g.facts + length g.classes < 2097152) (sym is) room in
      omega arith

  pub reserved-alone : (ps : List (Option ℕ)) (marks : List Bool) → length whole.facts + length whole.classes < 2097152 → ps ≡ places ++ None ∷ [] → marks ≡ completed ++ false ∷ [] → IsStored facts entries ps marks patterns
  reserved-alone ps marks room ps-are marks-are =
      subst (λ (x : List (Option ℕ)). IsStored facts entries x marks patterns) (sym ps-are)
      (subst (λ (x : List Bool). IsStored facts entries (places ++ None ∷ []) x patterns) (sym marks-are)
      (stored-alone facts entries places completed patterns stored (room-below room)))

  module _ (given : Option Specialisation) (of : Specialisation) (given-is : given ≡ Some of) (new : IsNew whole given) where
    new-of : IsNew (graph_of facts entries places patterns) (Some of)
    new-of = subst (λ (g : Graph). IsNew g (Some of)) (sym is) (subst (λ (x : Option Specialisation). IsNew whole x) given-is new)

    inserted : (class : ClassId) → insert_entry same_specialisation entries of class ≡ entries ++ (of, class) ∷ []
    inserted class = insert_entry-absent same_specialisation of class entries (absent_from_lookup (same_specialisation of) entries (none-known facts entries places completed patterns stored of new-of))

    pub reserved-special : (es : List (Specialisation × ClassId)) (ps : List (Option ℕ)) (marks : List Bool) (class : ClassId) (place : ℕ) → IsClassInRange whole given → class.0 ≡ length whole.classes → length whole.facts + length whole.classes < 2097152 → place ≡ length entries → es ≡ insert_entry same_specialisation entries of class → ps ≡ places ++ Some place ∷ [] → marks ≡ completed ++ false ∷ [] → IsStored facts es ps marks patterns
    reserved-special es ps marks class place range number room place-is es-are ps-are marks-are =
        let range-of : IsClassInRange (graph_of facts entries places patterns) (Some of) = subst (λ (g : Graph). IsClassInRange g (Some of)) (sym is) (subst (λ (x : Option Specialisation). IsClassInRange whole x) given-is range) in
        let number-of : class.0 ≡ length places = number ∙ ap (λ (g : Graph). length g.classes) (sym is) ∙ length-classes entries places in
        let ps-of : ps ≡ places ++ Some (length entries) ∷ [] = ps-are ∙ ap (λ (n : ℕ). places ++ Some n ∷ []) place-is in
        subst (λ (x : List (Specialisation × ClassId)). IsStored facts x ps marks patterns) (sym (es-are ∙ inserted class))
        (subst (λ (x : List (Option ℕ)). IsStored facts (entries ++ (of, class) ∷ []) x marks patterns) (sym ps-of)
        (subst (λ (x : List Bool). IsStored facts (entries ++ (of, class) ∷ []) (places ++ Some (length entries) ∷ []) x patterns) (sym marks-are)
        (stored-special facts entries places completed patterns stored of class number-of (room-below room) range-of new-of)))

    pub view-special : (es : List (Specialisation × ClassId)) (ps : List (Option ℕ)) (class : ClassId) (place : ℕ) → place ≡ length entries → es ≡ insert_entry same_specialisation entries of class → ps ≡ places ++ Some place ∷ [] → graph_of facts es ps patterns ≡ with_class whole given
    view-special es ps class place place-is es-are ps-are =
        ap (λ (x : List (Specialisation × ClassId)). graph_of facts x ps patterns) (es-are ∙ inserted class)
        ∙ ap (λ (x : List (Option ℕ)). graph_of facts (entries ++ (of, class) ∷ []) x patterns) (ps-are ∙ ap (λ (n : ℕ). places ++ Some n ∷ []) place-is)
        ∙ graph-special facts entries places patterns of class stored.placed
        ∙ ap (λ (g : Graph). with_class g (Some of)) is
        ∙ ap (λ (x : Option Specialisation). with_class whole x) (sym given-is)

-- ---- a specialisation by a copy of its arguments

pub special-for : (graph : Graph) (template : TemplateId) (one two : List Argument) (n : ℕ) → AreSameArguments one two → IsSpecialisationOf graph template one n → IsSpecialisationOf graph template two n
special-for graph template one two n same h = record { of = h.of; stored = h.stored; template_is = h.template_is; arguments_are = λ types. h.arguments_are types ∙ same types }

pub already-for : (graph : Graph) (whole : Option TemplateId) (template : TemplateId) (copy given : List Argument) (n : ℕ) → whole ≡ Some template → AreSameArguments copy given → IsSpecialisationOf graph template copy n → IsReservedAlready graph whole given n
already-for graph whole template copy given n is same h =
    subst (λ (t : Option TemplateId). IsReservedAlready graph t given n) (sym is) (special-for graph template copy given n same h)

pub unknown-for : (graph : Graph) (whole : Option TemplateId) (template : TemplateId) (copy given : List Argument) → whole ≡ Some template → AreSameArguments copy given → IsUnknown graph (Some template) copy → IsUnknown graph whole given
unknown-for graph whole template copy given is same new n h =
    let there : IsSpecialisationOf graph template given n = subst (λ (t : Option TemplateId). IsReservedAlready graph t given n) is h in
    new n (special-for graph template given copy n (λ types. sym (same types)) there)

pub reserved-for : {E : Type 0} (old new : Graph) (whole : Option TemplateId) (of : Specialisation) (given : List Argument) (answer : Result ClassId E) → whole ≡ Some of.template → AreSameArguments of.arguments given → IfOk answer (λ class. class.0 ≡ length old.classes) → OnOk answer (new ≡ with_class old (Some of)) → IfOk answer (λ class. IsReservedFor new whole given class.0)
reserved-for old new whole of given (Ok class) is same number added =
    subst (λ (t : Option TemplateId). IsReservedFor new t given class.0) (sym is) (record {
      of = of;
      stored = ap (λ (g : Graph). slice_get g.classes class.0) added ∙ ap (slice_get (old.classes ++ Some of ∷ [])) number ∙ get-last old.classes (Some of);
      template_is = refl;
      arguments_are = same;
    })
reserved-for old new whole of given (Err e) is same number added = tt
