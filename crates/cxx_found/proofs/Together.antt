-- What is found in declarations of one entity.
use Rattle.std.proofs.Common.{◌≡◌, ◌≤◌, Bool, true, false, not, ◌&&◌, ltb, eqb, cond, ◌⊎◌, inl, inr, List, [], ◌∷◌, ◌++◌, map, Option, Some, None, refl, ap, sym, ◌∙◌, subst, append_assoc, arith, eq-eqb}
use Rattle.std.specs.List.{filter}
use Rattle.std.proofs.lemmas.Bool.{eqb-true}
use Rattle.std.proofs.lemmas.List.{append-nil}
use Rattle.cxx_model.specs.declared.lookup.Found.TheVariants as found
use Rattle.cxx_model.specs.declared.types.FactId.{FactId}
use Rattle.cxx_model.specs.Facts.Declarations.{CxxGraph}
use Rattle.cxx_model.specs.Facts.Entities.{CxxEntity, of_fact, of_space, of_type, same_entity}
use Rattle.cxx_model.proofs.SameTypes.{type_itself, type_told}
use Rattle.cxx_meaning.specs.Lookups.Gathered.{with_facts}
use Rattle.cxx_meaning.specs.Lookups.Ordinary.{found_in_sightings}
use Rattle.cxx_meaning.specs.Lookups.Sightings.{Sighting, entities, entity_meant, found_of, is_hidden_among, least_of, looked_up, named_by, unhidden}
use Rattle.cxx_meaning.specs.Lookups.Wanted.{is_hideable}
use Rattle.cxx_found.specs.declared.nearest.Alone.{Alone}
use Rattle.cxx_found.specs.Views.{IsAlone}
use Rattle.cxx_found.specs.Again.{alone_by, alone_from, joined, named_alone, plain_entity, same_plain, sooner}
use Rattle.cxx_found.proofs.Alone.{found_alone, one_found}

entity_told : (one two : CxxEntity) → same_entity one two ≡ true → one ≡ two
entity_told (of_fact m) (of_fact n) e = ap of_fact (eqb-true m n e)
entity_told (of_type s) (of_type t) e = ap of_type (type_told s t e)
entity_told (of_space m) (of_space n) e = ap of_space (eqb-true m n e)
entity_told _ _ e = absurd cc

entity_itself : (one : CxxEntity) → same_entity one one ≡ true
entity_itself (of_fact n) = eq-eqb n n refl
entity_itself (of_type t) = type_itself t
entity_itself (of_space n) = eq-eqb n n refl

-- a declaration of the entity of another one, which is no later
pub record IsLike (one two : Sighting) : Type 0 where
  pub plain : is_hideable two.what ≡ false
  pub same : entity_meant two ≡ entity_meant one
  pub later : one.meant.0 ≤ two.meant.0

abbrev AreLike : Sighting → List Sighting → Type 0
AreLike one [] = Unit {0}
AreLike one (two ∷ others) = IsLike one two × AreLike one others

abbrev IsAmong : Sighting → List Sighting → Type 0
IsAmong one [] = ⊥
IsAmong one (two ∷ others) = (two ≡ one) ⊎ IsAmong one others

-- ---- nothing is hidden

unhidden_like : (graph : CxxGraph) (all : List Sighting) (one : Sighting) (some : List Sighting) → AreLike one some → filter (λ two. not (is_hidden_among graph all two)) some ≡ some
unhidden_like graph all one [] like = refl
unhidden_like graph all one (two ∷ others) like =
    let shown : is_hidden_among graph all two ≡ false = rw like.0.plain refl in
    rw shown (ap (λ xs. two ∷ xs) (unhidden_like graph all one others like.1))

-- ---- the first one names the entity

number_told : (m n : FactId) → m.0 ≡ n.0 → m ≡ n
number_told m n e = ap (λ k. record { 0 = k }) e

least_kept : (one : Sighting) (some : List Sighting) → AreLike one some → least_of (entity_meant one) one.meant some ≡ one.meant
unfolding least_of
least_kept one [] like = refl
least_kept one (two ∷ others) like =
    let ge : ltb two.meant.0 one.meant.0 ≡ false = grind (arith, like.0.later) in
    let same : same_entity (entity_meant one) (entity_meant two) ≡ true = rw like.0.same (entity_itself (entity_meant one)) in
    rw (same, ge) (least_kept one others like.1)

least_met : (one two : Sighting) (least : FactId) → IsLike one two → one.meant.0 ≤ least.0 → one.meant.0 ≤ (cond (same_entity (entity_meant one) (entity_meant two) && ltb two.meant.0 least.0) two.meant least).0
least_met one two least like le = by (same_entity (entity_meant one) (entity_meant two) && ltb two.meant.0 least.0)
  where
    by : (t : Bool) → one.meant.0 ≤ (cond t two.meant least).0
    by true = like.later
    by false = le

least_here : (one : Sighting) (least : FactId) → one.meant.0 ≤ least.0 → cond (same_entity (entity_meant one) (entity_meant one) && ltb one.meant.0 least.0) one.meant least ≡ one.meant
least_here one least le = rw (entity_itself (entity_meant one)) (by (ltb one.meant.0 least.0) refl)
  where
    by : (t : Bool) → ltb one.meant.0 least.0 ≡ t → cond t one.meant least ≡ one.meant
    by true lt = refl
    by false ge = let le' : least.0 ≤ one.meant.0 = grind arith in number_told least one.meant (omega arith)

least_is : (one : Sighting) (least : FactId) (some : List Sighting) → AreLike one some → IsAmong one some → one.meant.0 ≤ least.0 → least_of (entity_meant one) least some ≡ one.meant
unfolding least_of
least_is one least [] like among le = absurd among
least_is one least (two ∷ others) like (inl is) le =
    ap (λ n. least_of (entity_meant one) n others) (ap (λ (x : Sighting). cond (same_entity (entity_meant one) (entity_meant x) && ltb x.meant.0 least.0) x.meant least) is ∙ least_here one least le) ∙ least_kept one others like.1
least_is one least (two ∷ others) like (inr among) le = least_is one (cond (same_entity (entity_meant one) (entity_meant two) && ltb two.meant.0 least.0) two.meant least) others like.1 among (least_met one two least like.0 le)

named_like : (all : List Sighting) (one two : Sighting) (entity : CxxEntity) → entity_meant one ≡ entity → IsLike one two → least_of (entity_meant one) two.meant all ≡ one.meant → named_by all two ≡ named_alone one
unfolding named_by
named_like all one two (of_fact n) e like least =
    let same : entity_meant two ≡ of_fact n = like.same ∙ e in
    rw (e, same) refl
named_like all one two (of_type t) e like least =
    let same : entity_meant two ≡ of_type t = like.same ∙ e in
    rw (e, same) (rw e at least)
named_like all one two (of_space n) e like least =
    let same : entity_meant two ≡ of_space n = like.same ∙ e in
    rw (e, same) (rw e at least)

with_again : (fact : FactId) (facts : List FactId) → with_facts (fact ∷ []) (fact ∷ facts) ≡ with_facts (fact ∷ []) facts
unfolding with_facts
with_again fact facts =
    let ge : ltb fact.0 fact.0 ≡ false = grind arith in
    let same : eqb fact.0 fact.0 ≡ true = eq-eqb fact.0 fact.0 refl in
    rw (ge, same) refl

-- ---- all of them name one entity

facts_again : (all : List Sighting) (one : Sighting) (some : List Sighting) → AreLike one all → IsAmong one all → AreLike one some → with_facts (named_alone one ∷ []) (map (named_by all) some) ≡ named_alone one ∷ []
unfolding with_facts
facts_again all one [] like among more = refl
facts_again all one (two ∷ others) like among more =
    ap (λ n. with_facts (named_alone one ∷ []) (n ∷ map (named_by all) others)) (named_like all one two (entity_meant one) refl more.0 (least_is one two.meant all like among more.0.later))
    ∙ (with_again (named_alone one) (map (named_by all) others) ∙ facts_again all one others like among more.1)

entities_like : (all : List Sighting) (one : Sighting) (some : List Sighting) → AreLike one all → IsAmong one all → AreLike one some → IsAmong one some → with_facts [] (map (named_by all) some) ≡ named_alone one ∷ []
unfolding with_facts
entities_like all one [] like among more there = absurd there
entities_like all one (two ∷ others) like among more there =
    ap (λ n. with_facts [] (n ∷ map (named_by all) others)) (named_like all one two (entity_meant one) refl more.0 (least_is one two.meant all like among more.0.later))
    ∙ facts_again all one others like among more.1

looked_up_like : (graph : CxxGraph) (one : Sighting) (all : List Sighting) → AreLike one all → IsAmong one all → looked_up graph all ≡ found.Set (named_alone one ∷ [])
unfolding unhidden entities
looked_up_like graph one all like among =
    ap (λ xs. found_of graph (with_facts [] (map (named_by xs) xs))) (unhidden_like graph all one all like) ∙ (ap (found_of graph) (entities_like all one all like among like among) ∙ found_alone graph (named_alone one))

found_like : (graph : CxxGraph) (one : Sighting) (all : List Sighting) → AreLike one all → IsAmong one all → found_in_sightings graph all ≡ Some (found.Set (named_alone one ∷ []))
found_like graph one [] like among = absurd among
found_like graph one (two ∷ others) like among = ap (λ of. Some of) (looked_up_like graph one (two ∷ others) like among)

-- ---- one after another

-- those so far are of one entity, and this is the first of them
pub record IsFirst (one : Sighting) (done : List Sighting) : Type 0 where
  pub like : (done ≡ one ∷ []) ⊎ AreLike one done
  pub among : IsAmong one done

found_first : (graph : CxxGraph) (one : Sighting) (done : List Sighting) → IsFirst one done → found_in_sightings graph done ≡ Some (found.Set (named_alone one ∷ []))
found_first graph one done first = by first.like
  where
    by : (done ≡ one ∷ []) ⊎ AreLike one done → found_in_sightings graph done ≡ Some (found.Set (named_alone one ∷ []))
    by (inl alone) = ap (found_in_sightings graph) alone ∙ one_found graph one
    by (inr like) = found_like graph one done like first.among

plain_told : (one : Sighting) (entity : CxxEntity) → plain_entity one ≡ Some entity → (is_hideable one.what ≡ false) × (entity_meant one ≡ entity)
plain_told one entity e = by (is_hideable one.what) refl
  where
    by : (t : Bool) → is_hideable one.what ≡ t → (is_hideable one.what ≡ false) × (entity_meant one ≡ entity)
    by true h = let none : plain_entity one ≡ None = rw h refl in absurd cc
    by false h = let some : plain_entity one ≡ Some (entity_meant one) = rw h refl in (h, cc)

-- both are plain, and of one entity
pub record AreSame (one two : Sighting) : Type 0 where
  pub first : is_hideable one.what ≡ false
  pub second : is_hideable two.what ≡ false
  pub same : entity_meant two ≡ entity_meant one

same_told : (one two : Sighting) → same_plain (plain_entity one) (plain_entity two) ≡ true → AreSame one two
same_told one two e = by (plain_entity one) refl (plain_entity two) refl
  where
    by : (o : Option CxxEntity) → plain_entity one ≡ o → (p : Option CxxEntity) → plain_entity two ≡ p → AreSame one two
    by None h p k = let none : same_plain (plain_entity one) (plain_entity two) ≡ false = rw h refl in absurd cc
    by (Some a) h None k = let none : same_plain (plain_entity one) (plain_entity two) ≡ false = rw (h, k) refl in absurd cc
    by (Some a) h (Some b) k =
        let told : a ≡ b = entity_told a b (rw (h, k) at e) in
        let ones = plain_told one a h in
        let twos = plain_told two b k in
        record { first = ones.0; second = twos.0; same = twos.1 ∙ (sym told ∙ sym ones.1) }

like_itself : (one : Sighting) → is_hideable one.what ≡ false → IsLike one one
like_itself one plain = record { plain = plain; same = refl; later = omega arith }

like_all : (one : Sighting) (done : List Sighting) → is_hideable one.what ≡ false → (done ≡ one ∷ []) ⊎ AreLike one done → AreLike one done
like_all one done plain (inl alone) = subst (AreLike one) (sym alone) (like_itself one plain, tt)
like_all one done plain (inr like) = like

like_sooner : (one two : Sighting) (done : List Sighting) → entity_meant two ≡ entity_meant one → two.meant.0 ≤ one.meant.0 → AreLike one done → AreLike two done
like_sooner one two [] same le like = tt
like_sooner one two (three ∷ others) same le like =
    (record { plain = like.0.plain; same = like.0.same ∙ sym same; later = let far = like.0.later in omega arith }, like_sooner one two others same le like.1)

like_more : (one : Sighting) (done : List Sighting) (two : Sighting) → AreLike one done → IsLike one two → AreLike one (done ++ two ∷ [])
like_more one [] two like more = (more, tt)
like_more one (three ∷ others) two like more = (like.0, like_more one others two like.1 more)

among_more : (one : Sighting) (done : List Sighting) (two : Sighting) → IsAmong one done → IsAmong one (done ++ two ∷ [])
among_more one [] two among = absurd among
among_more one (three ∷ others) two (inl is) = inl is
among_more one (three ∷ others) two (inr among) = inr (among_more one others two among)

among_last : (done : List Sighting) (two : Sighting) → IsAmong two (done ++ two ∷ [])
among_last [] two = inl refl
among_last (three ∷ others) two = inr (among_last others two)

first_more : (one two : Sighting) (done : List Sighting) → IsFirst one done → AreSame one two → IsFirst (sooner one two) (done ++ two ∷ [])
first_more one two done first same = by (ltb two.meant.0 one.meant.0) refl
  where
    by : (t : Bool) → ltb two.meant.0 one.meant.0 ≡ t → IsFirst (cond t two one) (done ++ two ∷ [])
    by true lt =
        let le : two.meant.0 ≤ one.meant.0 = grind arith in
        record { like = inr (like_more two done two (like_sooner one two done same.same le (like_all one done same.first first.like)) (like_itself two same.second)); among = among_last done two }
    by false ge =
        let le : one.meant.0 ≤ two.meant.0 = grind arith in
        record { like = inr (like_more one done two (like_all one done same.first first.like) (record { plain = same.second; same = same.same; later = le })); among = among_more one done two first.among }

abbrev IsDone : Option Sighting → List Sighting → Type 0
IsDone None done = done ≡ []
IsDone (Some one) done = IsFirst one done

joined_done : (only : Option Sighting) (two one : Sighting) (done : List Sighting) → IsDone only done → joined only two ≡ Some one → IsFirst one (done ++ two ∷ [])
joined_done None two one done is e =
    let same : two ≡ one = cc in
    subst (λ xs. IsFirst one (xs ++ two ∷ [])) (sym is) (record { like = inl (ap (λ x. x ∷ []) same); among = inl same })
joined_done (Some first) two one done is e = by (same_plain (plain_entity first) (plain_entity two)) refl
  where
    by : (t : Bool) → same_plain (plain_entity first) (plain_entity two) ≡ t → IsFirst one (done ++ two ∷ [])
    by true h =
        let some : Some (sooner first two) ≡ Some one = rw h at e in
        let is_one : sooner first two ≡ one = cc in
        subst (λ x. IsFirst x (done ++ two ∷ [])) is_one (first_more first two done is (same_told first two h))
    by false h = let none : None ≡ Some one = rw h at e in absurd cc

alone_by_is : (graph : CxxGraph) (only : Option Sighting) (two : Sighting) (done others : List Sighting) → IsDone only done → ((one : Sighting) → IsFirst one (done ++ two ∷ []) → IsAlone graph ((done ++ two ∷ []) ++ others) (alone_from (Some one) others)) → IsAlone graph (done ++ two ∷ others) (alone_by (joined only two) (λ one. alone_from (Some one) others))
alone_by_is graph only two done others is rest = by (joined only two) refl
  where
    by : (o : Option Sighting) → joined only two ≡ o → IsAlone graph (done ++ two ∷ others) (alone_by o (λ one. alone_from (Some one) others))
    by None e = tt
    by (Some one) e = subst (λ xs. IsAlone graph xs (alone_from (Some one) others)) (append_assoc done (two ∷ []) others) (rest one (joined_done only two one done is e))

alone_is : (graph : CxxGraph) (only : Option Sighting) (done left : List Sighting) → IsDone only done → IsAlone graph (done ++ left) (alone_from only left)
alone_is graph None done [] is = ap (λ xs. xs ++ []) is
alone_is graph (Some one) done [] is = found_first graph one (done ++ []) (subst (IsFirst one) (sym (append-nil done)) is)
alone_is graph only done (two ∷ others) is = alone_by_is graph only two done others is (λ one first. alone_is graph (Some one) (done ++ two ∷ []) others first)

-- what is found in some declarations
pub together_is : (graph : CxxGraph) (sightings : List Sighting) → IsAlone graph sightings (alone_from None sightings)
together_is graph sightings = alone_is graph None [] sightings refl

pub together_as : (graph : CxxGraph) (sightings : List Sighting) (alone : Alone) → alone ≡ alone_from None sightings → IsAlone graph sightings alone
together_as graph sightings alone e = subst (IsAlone graph sightings) (sym e) (together_is graph sightings)
