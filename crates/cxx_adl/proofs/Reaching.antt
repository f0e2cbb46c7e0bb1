-- What the types of some arguments lead to is what the steps of 3.4.2 reach.
use Rattle.std.proofs.Common.{◌≡◌, ℕ, zero, suc, ◌+◌, ◌<◌, ◌≤◌, Bool, true, false, cond, eqb, ◌⊎◌, inl, inr, List, [], ◌∷◌, ◌++◌, Option, Some, None, length, map, refl, ap, sym, ◌∙◌, subst, eq-eqb, arith}
use Rattle.std.specs.List.{slice_get}
use Rattle.std.proofs.lemmas.Bool.{eqb-true, false≢true}
use Rattle.cxx_model.specs.Types.Trees.{CxxType, fundamental, class_type, enumeration, pointer_to, reference_to, array_of, function_of, qualified, type_parameter, specialisation, nested_in, CxxTypes, no_types, type_then, type_argument, value_argument, formula_argument, CxxArguments, no_arguments, argument_then}
use Rattle.cxx_model.specs.Facts.Declarations as facts
use Rattle.cxx_model.specs.Facts.Declarations.{CxxFact, CxxGraph, CxxSpecialisation, Declares}
use Rattle.cxx_meaning.specs.Lookups.Associated as steps
use Rattle.cxx_meaning.specs.Lookups.Associated.{Holds, IsBase, IsOneOf, IsReached, IsTypeArgument, Part, SaysBase, of_type, of_base, arguments_for, base_before, bases_of, each_of, everything, followed, holds_part, leads_to, parts, types_among, with_part, with_parts}
use Rattle.cxx_adl.proofs.Following.{Going, all_added_in, going_first, going_on, going_room, in_left, in_right, in_split, in_told}

-- ---- a list that is followed holds what its parts lead to alone

turned : (next : Part → List Part) (room place : ℕ) (found : List Part) (p : Part) → slice_get found place ≡ Some p → followed next (suc room) place found ≡ followed next room (place + 1) (with_parts found (next p))
unfolding followed
turned next room place found p at = rw at refl

ended : (next : Part → List Part) (room place : ℕ) (found : List Part) → slice_get found place ≡ None → followed next room place found ≡ found
unfolding followed
ended next zero place found at = refl
ended next (suc room) place found at = rw at refl

spent : (next : Part → List Part) (place : ℕ) (found : List Part) → followed next zero place found ≡ found
unfolding followed
spent next place found = refl

holds_at : (xs : List Part) (n : ℕ) (x : Part) → slice_get xs n ≡ Some x → Holds xs x
holds_at [] n x e = absurd cc
holds_at (y ∷ ys) zero x e = let same : x ≡ y = cc in inl same
holds_at (y ∷ ys) (suc n) x e = inr (holds_at ys n x e)

pub followed_all : (next : Part → List Part) (P : Part → Type 0) → ((p q : Part) → P p → Holds (next p) q → P q) → (room place : ℕ) (found : List Part) → ((q : Part) → Holds found q → P q) → (q : Part) → Holds (followed next room place found) q → P q
followed_all next P on zero place found all q i = all q (subst (λ xs. Holds xs q) (spent next place found) i)
followed_all next P on (suc room) place found all q i = by (slice_get found place) refl (λ found' all'. followed_all next P on room (place + 1) found' all' q)
  where
    more : (p : Part) → Holds found p → (r : Part) → Holds found r ⊎ Holds (next p) r → P r
    more p h r (inl j) = all r j
    more p h r (inr j) = on p r (all p h) j

    by : (o : Option Part) → slice_get found place ≡ o → ((found' : List Part) → ((r : Part) → Holds found' r → P r) → Holds (followed next room (place + 1) found') q → P q) → P q
    by None e rest = all q (subst (λ xs. Holds xs q) (ended next (suc room) place found e) i)
    by (Some p) e rest = rest (with_parts found (next p)) (λ r j. more p (holds_at found place p e) r (all_added_in (next p) found r j)) (subst (λ xs. Holds xs q) (turned next room place found p e) i)

-- ---- a list that is followed holds what its parts lead to

added_old : (xs : List Part) (p q : Part) → Holds xs q → Holds (with_part xs p) q
added_old xs p q i = by (holds_part xs p)
  where
    by : (t : Bool) → Holds (cond t xs (xs ++ p ∷ [])) q
    by true = i
    by false = in_left xs (p ∷ []) q i

all_added_old : (ys xs : List Part) (q : Part) → Holds xs q → Holds (with_parts xs ys) q
unfolding with_parts
all_added_old [] xs q i = i
all_added_old (y ∷ ys) xs q i = all_added_old ys (with_part xs y) q (added_old xs y q i)

added_new : (xs : List Part) (p : Part) → Holds (with_part xs p) p
added_new xs p = by (holds_part xs p) refl
  where
    by : (t : Bool) → holds_part xs p ≡ t → Holds (cond t xs (xs ++ p ∷ [])) p
    by true e = in_told xs p e
    by false e = in_right xs (p ∷ []) p (inl refl)

all_added_new : (ys xs : List Part) (q : Part) → Holds ys q → Holds (with_parts xs ys) q
unfolding with_parts
all_added_new [] xs q i = absurd i
all_added_new (y ∷ ys) xs q (inl e) = all_added_old ys (with_part xs y) q (subst (λ x. Holds (with_part xs y) x) (sym e) (added_new xs y))
all_added_new (y ∷ ys) xs q (inr i) = all_added_new ys (with_part xs y) q i

get_left : (xs ys : List Part) (n : ℕ) (x : Part) → slice_get xs n ≡ Some x → slice_get (xs ++ ys) n ≡ Some x
get_left [] ys n x e = absurd cc
get_left (y ∷ xs) ys zero x e = e
get_left (y ∷ xs) ys (suc n) x e = get_left xs ys n x e

added_keeps : (xs : List Part) (p : Part) (n : ℕ) (x : Part) → slice_get xs n ≡ Some x → slice_get (with_part xs p) n ≡ Some x
added_keeps xs p n x e = by (holds_part xs p)
  where
    by : (t : Bool) → slice_get (cond t xs (xs ++ p ∷ [])) n ≡ Some x
    by true = e
    by false = get_left xs (p ∷ []) n x e

all_added_keeps : (ys xs : List Part) (n : ℕ) (x : Part) → slice_get xs n ≡ Some x → slice_get (with_parts xs ys) n ≡ Some x
unfolding with_parts
all_added_keeps [] xs n x e = e
all_added_keeps (y ∷ ys) xs n x e = all_added_keeps ys (with_part xs y) n x (added_keeps xs y n x e)

within : (xs : List Part) (n : ℕ) (x : Part) → slice_get xs n ≡ Some x → n < length xs
within [] n x e = absurd cc
within (y ∷ ys) zero x e = omega arith
within (y ∷ ys) (suc n) x e = let rest = within ys n x e in omega arith

past : (xs : List Part) (n : ℕ) → slice_get xs n ≡ None → length xs ≤ n
past [] n e = omega arith
past (y ∷ ys) zero e = absurd cc
past (y ∷ ys) (suc n) e = let rest = past ys n e in omega arith

get_within : (xs : List Part) (n : ℕ) → n < length xs → (x : Part) × (slice_get xs n ≡ Some x)
get_within [] n lt = absurd (omega arith)
get_within (y ∷ ys) zero lt = (y, refl)
get_within (y ∷ ys) (suc n) lt = get_within ys n (omega arith)

place_of : (xs : List Part) (x : Part) → Holds xs x → (n : ℕ) × (slice_get xs n ≡ Some x)
place_of [] x i = absurd i
place_of (y ∷ ys) x (inl e) = (0, ap Some (sym e))
place_of (y ∷ ys) x (inr i) = let h = place_of ys x i in (suc h.0, h.1)

-- what the parts before a place lead to is there
abbrev Done : (Part → List Part) → ℕ → List Part → Type 0
Done next place found = (n : ℕ) (p q : Part) → n < place → slice_get found n ≡ Some p → Holds (next p) q → Holds found q

abbrev Closed : (Part → List Part) → List Part → Type 0
Closed next found = (p q : Part) → Holds found p → Holds (next p) q → Holds found q

done_all : (next : Part → List Part) (place : ℕ) (found : List Part) → length found ≤ place → Done next place found → Closed next found
done_all next place found le done p q i j =
    let at = place_of found p i in
    let lt = within found at.0 p at.1 in
    done at.0 p q (omega arith) at.1 j

less_still : (n place : ℕ) → n < place + 1 → eqb n place ≡ false → n < place
less_still n place lt e = by (λ s. false≢true (sym e ∙ eq-eqb n place s))
  where
    by : (n ≡ place → ⊥) → n < place
    by ne = omega arith

done_more : (next : Part → List Part) (place : ℕ) (found : List Part) (part : Part) → slice_get found place ≡ Some part → Done next place found → Done next (place + 1) (with_parts found (next part))
done_more next place found part at done n p q lt at' j =
    let here = within found place part at in
    let old = get_within found n (omega arith) in
    let kept = all_added_keeps (next part) found n old.0 old.1 in
    let same : old.0 ≡ p = some_same old.0 p (sym kept ∙ at') in
    by (eqb n place) refl old.0 old.1 same
  where
    some_same : (x y : Part) → Some x ≡ Some y → x ≡ y
    some_same x y e = cc

    by : (t : Bool) → eqb n place ≡ t → (x : Part) → slice_get found n ≡ Some x → x ≡ p → Holds (with_parts found (next part)) q
    by true e x get same =
        let is : x ≡ part = some_same x part (sym get ∙ (ap (slice_get found) (eqb-true n place e) ∙ at)) in
        all_added_new (next part) found q (subst (λ y. Holds (next y) q) (sym same ∙ is) j)
    by false e x get same =
        let before : n < place = less_still n place lt e in
        all_added_old (next part) found q (done n x q before get (subst (λ y. Holds (next y) q) (sym same) j))

record Ended (next : Part → List Part) (found out : List Part) : Type 0 where
  pub keeps : (q : Part) → Holds found q → Holds out q
  pub closed : Closed next out

followed_ends : (graph : CxxGraph) (types : List CxxType) (room place : ℕ) (found : List Part) → Going graph types found → length (everything graph types) ≤ room + place → Done (leads_to graph) place found → Ended (leads_to graph) found (followed (leads_to graph) room place found)
followed_ends graph types zero place found going le done =
    let few = going_room graph types found going in
    subst (Ended (leads_to graph) found) (sym (spent (leads_to graph) place found)) (record { keeps = λ q i. i; closed = done_all (leads_to graph) place found (omega arith) done })
followed_ends graph types (suc room) place found going le done = by (slice_get found place) refl (λ found' going' done'. followed_ends graph types room (place + 1) found' going' (omega arith) done')
  where
    by : (o : Option Part) → slice_get found place ≡ o → ((found' : List Part) → Going graph types found' → Done (leads_to graph) (place + 1) found' → Ended (leads_to graph) found' (followed (leads_to graph) room (place + 1) found')) → Ended (leads_to graph) found (followed (leads_to graph) (suc room) place found)
    by None e rest = subst (Ended (leads_to graph) found) (sym (ended (leads_to graph) (suc room) place found e)) (record { keeps = λ q i. i; closed = done_all (leads_to graph) place found (past found place e) done })
    by (Some p) e rest =
        let next = rest (with_parts found (leads_to graph p)) (going_on graph types found p going (holds_at found place p e)) (done_more (leads_to graph) place found p e done) in
        subst (Ended (leads_to graph) found) (sym (turned (leads_to graph) room place found p e)) (record { keeps = λ q i. next.keeps q (all_added_old (leads_to graph p) found q i); closed = next.closed })

parts_end : (graph : CxxGraph) (types : List CxxType) → Ended (leads_to graph) (with_parts [] (map of_type types)) (parts graph types)
unfolding parts
parts_end graph types = followed_ends graph types (length (everything graph types)) 0 (with_parts [] (map of_type types)) (going_first graph types) (omega arith) (λ n p q lt. absurd (omega arith))

-- ---- each step leads to what it reaches

base_named : (what : Declares) (class : ℕ) (later : List Part) (q : Part) → Holds (base_before class what later) q → ((parent : ℕ) × (q ≡ of_base parent) × SaysBase class parent what) ⊎ Holds later q
base_named (facts.ancestor derived parent index access) class later q i = by (eqb derived.0 class) refl i
  where
    by : (t : Bool) → eqb derived.0 class ≡ t → Holds (cond t (of_base parent.0 ∷ later) later) q → ((base : ℕ) × (q ≡ of_base base) × ((derived.0 ≡ class) × (parent.0 ≡ base))) ⊎ Holds later q
    by true h (inl e) = inl (parent.0, e, (eqb-true derived.0 class h, refl))
    by true h (inr j) = inr j
    by false h j = inr j
base_named _ class later q i = inr i

base_found : (all : List CxxFact) (class : ℕ) (q : Part) → Holds (bases_of all class) q → (parent : ℕ) × (q ≡ of_base parent) × IsBase all class parent
base_found [] class q i = absurd i
base_found (fact ∷ others) class q i = by (base_named fact.what class (bases_of others class) q i) (base_found others class q)
  where
    by : ((parent : ℕ) × (q ≡ of_base parent) × SaysBase class parent fact.what) ⊎ Holds (bases_of others class) q → (Holds (bases_of others class) q → (parent : ℕ) × (q ≡ of_base parent) × IsBase others class parent) → (parent : ℕ) × (q ≡ of_base parent) × (SaysBase class parent fact.what ⊎ IsBase others class parent)
    by (inl h) rest = (h.0, h.1, inl h.2)
    by (inr j) rest = let h = rest j in (h.0, h.1, inr h.2)

each_found : (ts : CxxTypes) (q : Part) → Holds (each_of ts) q → (t : CxxType) × (q ≡ of_type t) × IsOneOf t ts
each_found no_types q i = absurd i
each_found (type_then t ts) q (inl e) = (t, e, inl refl)
each_found (type_then t ts) q (inr i) = let h = each_found ts q i in (h.0, h.1, inr h.2)

argument_found : (args : CxxArguments) (q : Part) → Holds (types_among args) q → (t : CxxType) × (q ≡ of_type t) × IsTypeArgument t args
argument_found no_arguments q i = absurd i
argument_found (argument_then (type_argument t) others) q (inl e) = (t, e, inl refl)
argument_found (argument_then (type_argument t) others) q (inr i) = let h = argument_found others q i in (h.0, h.1, inr h.2)
argument_found (argument_then (value_argument value t) others) q i = argument_found others q i
argument_found (argument_then (formula_argument f) others) q i = argument_found others q i

back : (graph : CxxGraph) (types : List CxxType) (p q : Part) → q ≡ p → IsReached graph types p → IsReached graph types q
back graph types p q e r = subst (IsReached graph types) (sym e) r

class_argument : (graph : CxxGraph) (types : List CxxType) (n : ℕ) (q : Part) → IsReached graph types (of_type (class_type n)) → Holds (arguments_for (slice_get graph.classes n)) q → IsReached graph types q
class_argument graph types n q r i = by (slice_get graph.classes n) refl i
  where
    by : (o : Option (Option CxxSpecialisation)) → slice_get graph.classes n ≡ o → Holds (arguments_for o) q → IsReached graph types q
    by None e i = absurd i
    by (Some None) e i = absurd i
    by (Some (Some of)) e i = let h = argument_found of.arguments q i in back graph types (of_type h.0) q h.1 (steps.argument h.0 n of r e h.2)

pub step_reached : (graph : CxxGraph) (types : List CxxType) (p q : Part) → IsReached graph types p → Holds (leads_to graph p) q → IsReached graph types q
step_reached graph types (of_base n) q r i = let h = base_found graph.facts n q i in back graph types (of_base h.0) q h.1 (steps.base_of_base n h.0 r h.2)
step_reached graph types (of_type (class_type n)) q r i = by (in_split (bases_of graph.facts n) (arguments_for (slice_get graph.classes n)) q i)
  where
    by : Holds (bases_of graph.facts n) q ⊎ Holds (arguments_for (slice_get graph.classes n)) q → IsReached graph types q
    by (inl j) = let h = base_found graph.facts n q j in back graph types (of_base h.0) q h.1 (steps.base n h.0 r h.2)
    by (inr j) = class_argument graph types n q r j
step_reached graph types (of_type (pointer_to t)) q r (inl e) = back graph types (of_type t) q e (steps.pointed t r)
step_reached graph types (of_type (pointer_to t)) q r (inr i) = absurd i
step_reached graph types (of_type (reference_to t)) q r (inl e) = back graph types (of_type t) q e (steps.referred t r)
step_reached graph types (of_type (reference_to t)) q r (inr i) = absurd i
step_reached graph types (of_type (array_of t bound)) q r (inl e) = back graph types (of_type t) q e (steps.element t bound r)
step_reached graph types (of_type (array_of t bound)) q r (inr i) = absurd i
step_reached graph types (of_type (qualified cv t)) q r (inl e) = back graph types (of_type t) q e (steps.without_cv t cv r)
step_reached graph types (of_type (qualified cv t)) q r (inr i) = absurd i
step_reached graph types (of_type (function_of u ts ellipsis cv)) q r (inl e) = back graph types (of_type u) q e (steps.result u ts ellipsis cv r)
step_reached graph types (of_type (function_of u ts ellipsis cv)) q r (inr i) = let h = each_found ts q i in back graph types (of_type h.0) q h.1 (steps.parameter h.0 u ts ellipsis cv r h.2)
step_reached graph types (of_type (specialisation n args)) q r i = let h = argument_found args q i in back graph types (of_type h.0) q h.1 (steps.argument_of h.0 n args r h.2)
step_reached graph types (of_type (fundamental b)) q r i = absurd i
step_reached graph types (of_type (enumeration n)) q r i = absurd i
step_reached graph types (of_type (type_parameter depth index)) q r i = absurd i
step_reached graph types (of_type (nested_in t word)) q r i = absurd i

given_reached : (graph : CxxGraph) (types ts : List CxxType) → ((t : CxxType) → Holds ts t → Holds types t) → (q : Part) → Holds (map of_type ts) q → IsReached graph types q
given_reached graph types [] sub q i = absurd i
given_reached graph types (t ∷ ts) sub q (inl e) = back graph types (of_type t) q e (steps.given t (sub t (inl refl)))
given_reached graph types (t ∷ ts) sub q (inr i) = given_reached graph types ts (λ u h. sub u (inr h)) q i

pub part_reached : (graph : CxxGraph) (types : List CxxType) (q : Part) → Holds (parts graph types) q → IsReached graph types q
unfolding parts
part_reached graph types q i = followed_all (leads_to graph) (IsReached graph types) (step_reached graph types) (length (everything graph types)) 0 (with_parts [] (map of_type types)) (λ r j. first r (all_added_in (map of_type types) [] r j)) q i
  where
    first : (r : Part) → Holds [] r ⊎ Holds (map of_type types) r → IsReached graph types r
    first r (inl j) = absurd j
    first r (inr j) = given_reached graph types types (λ t h. h) r j

-- ---- what the steps reach is led to

base_step : (what : Declares) (class parent : ℕ) (later : List Part) → SaysBase class parent what → Holds (base_before class what later) (of_base parent)
base_step (facts.ancestor derived base index access) class parent later says = by (eqb derived.0 class) (eq-eqb derived.0 class says.0)
  where
    by : (t : Bool) → t ≡ true → Holds (cond t (of_base base.0 ∷ later) later) (of_base parent)
    by true e = inl (ap of_base (sym says.1))
    by false e = absurd (false≢true e)
base_step _ class parent later says = absurd says

base_later : (what : Declares) (class : ℕ) (q : Part) (later : List Part) → Holds later q → Holds (base_before class what later) q
base_later (facts.ancestor derived base index access) class q later i = by (eqb derived.0 class)
  where
    by : (t : Bool) → Holds (cond t (of_base base.0 ∷ later) later) q
    by true = inr i
    by false = i
base_later _ class q later i = i

base_leads : (all : List CxxFact) (class parent : ℕ) → IsBase all class parent → Holds (bases_of all class) (of_base parent)
base_leads [] class parent i = absurd i
base_leads (fact ∷ others) class parent (inl says) = base_step fact.what class parent (bases_of others class) says
base_leads (fact ∷ others) class parent (inr i) = base_later fact.what class (of_base parent) (bases_of others class) (base_leads others class parent i)

one_leads : (t : CxxType) (ts : CxxTypes) → IsOneOf t ts → Holds (each_of ts) (of_type t)
one_leads t no_types i = absurd i
one_leads t (type_then u us) (inl e) = inl (ap of_type e)
one_leads t (type_then u us) (inr i) = inr (one_leads t us i)

argument_leads : (t : CxxType) (args : CxxArguments) → IsTypeArgument t args → Holds (types_among args) (of_type t)
argument_leads t no_arguments i = absurd i
argument_leads t (argument_then (type_argument u) others) (inl e) = inl (ap of_type e)
argument_leads t (argument_then (type_argument u) others) (inr i) = inr (argument_leads t others i)
argument_leads t (argument_then (value_argument value u) others) i = argument_leads t others i
argument_leads t (argument_then (formula_argument f) others) i = argument_leads t others i

given_leads : (t : CxxType) (ts : List CxxType) → Holds ts t → Holds (map of_type ts) (of_type t)
given_leads t [] i = absurd i
given_leads t (u ∷ us) (inl e) = inl (ap of_type e)
given_leads t (u ∷ us) (inr i) = inr (given_leads t us i)

pub reached_part : (graph : CxxGraph) (types : List CxxType) (q : Part) → IsReached graph types q → Holds (parts graph types) q
reached_part graph types _ (steps.given t h) = (parts_end graph types).keeps (of_type t) (all_added_new (map of_type types) [] (of_type t) (given_leads t types h))
reached_part graph types _ (steps.pointed t r) = (parts_end graph types).closed (of_type (pointer_to t)) (of_type t) (reached_part graph types (of_type (pointer_to t)) r) (inl refl)
reached_part graph types _ (steps.referred t r) = (parts_end graph types).closed (of_type (reference_to t)) (of_type t) (reached_part graph types (of_type (reference_to t)) r) (inl refl)
reached_part graph types _ (steps.element t bound r) = (parts_end graph types).closed (of_type (array_of t bound)) (of_type t) (reached_part graph types (of_type (array_of t bound)) r) (inl refl)
reached_part graph types _ (steps.without_cv t cv r) = (parts_end graph types).closed (of_type (qualified cv t)) (of_type t) (reached_part graph types (of_type (qualified cv t)) r) (inl refl)
reached_part graph types _ (steps.result u ts ellipsis cv r) = (parts_end graph types).closed (of_type (function_of u ts ellipsis cv)) (of_type u) (reached_part graph types (of_type (function_of u ts ellipsis cv)) r) (inl refl)
reached_part graph types _ (steps.parameter t u ts ellipsis cv r h) = (parts_end graph types).closed (of_type (function_of u ts ellipsis cv)) (of_type t) (reached_part graph types (of_type (function_of u ts ellipsis cv)) r) (inr (one_leads t ts h))
reached_part graph types _ (steps.base class parent r h) = (parts_end graph types).closed (of_type (class_type class)) (of_base parent) (reached_part graph types (of_type (class_type class)) r) (in_left (bases_of graph.facts class) (arguments_for (slice_get graph.classes class)) (of_base parent) (base_leads graph.facts class parent h))
reached_part graph types _ (steps.base_of_base class parent r h) = (parts_end graph types).closed (of_base class) (of_base parent) (reached_part graph types (of_base class) r) (base_leads graph.facts class parent h)
reached_part graph types _ (steps.argument t class of r at h) = (parts_end graph types).closed (of_type (class_type class)) (of_type t) (reached_part graph types (of_type (class_type class)) r) (in_right (bases_of graph.facts class) (arguments_for (slice_get graph.classes class)) (of_type t) (subst (λ o. Holds (arguments_for o) (of_type t)) (sym at) (argument_leads t of.arguments h)))
reached_part graph types _ (steps.argument_of t n args r h) = (parts_end graph types).closed (of_type (specialisation n args)) (of_type t) (reached_part graph types (of_type (specialisation n args)) r) (argument_leads t args h)
