-- The associated classes and namespaces are those of what the steps of 3.4.2 reach.
use Rattle.std.proofs.Common.{◌≡◌, ◌<◌, arith, ℕ, Bool, true, false, cond, eqb, ltb, ◌⊎◌, inl, inr, ◌↔◌, List, [], ◌∷◌, Option, Some, None, Ok, Err, refl, ap, sym, ◌∙◌, subst, eq-eqb, find}
use Rattle.std.proofs.lemmas.Bool.{eqb-true, false≢true, lt-ltb, ltb-true}
use Rattle.cxx_model.specs.declared.lookup.Associated.{Associated}
use Rattle.cxx_model.specs.declared.types.ClassId.{ClassId}
use Rattle.cxx_model.specs.Types.Trees.{CxxType}
use Rattle.cxx_model.specs.Facts.Declarations.{CxxGraph}
use Rattle.cxx_model.specs.Facts.Pending.{is_pending}
use Rattle.cxx_meaning.specs.Lookups.Associated.{Ascends, ComesBefore, Holds, IsAskedClass, IsAssociatedClass, IsAssociatedSpace, Part, associated, class_at_scope, class_of, collected, member_scope_of, own_classes, parts, scope_of, sets_of, space_at_scope, spaces_of, template_scope_of, unless_pending, with_member_classes, with_number, with_option, with_spaces}
use Rattle.cxx_adl.proofs.Reaching.{part_reached, reached_part}

number_new : (n : ℕ) (xs : List ℕ) → Holds (with_number n xs) n
number_new n [] = inl refl
number_new n (x ∷ xs) = by (ltb x n) (eqb x n) refl (number_new n xs)
  where
    by : (t u : Bool) → eqb x n ≡ u → Holds (with_number n xs) n → Holds (cond t (x ∷ with_number n xs) (cond u (x ∷ xs) (n ∷ x ∷ xs))) n
    by true u e rest = inr rest
    by false true e rest = inl (sym (eqb-true x n e))
    by false false e rest = inl refl

number_old : (n : ℕ) (xs : List ℕ) (m : ℕ) → Holds xs m → Holds (with_number n xs) m
number_old n [] m i = absurd i
number_old n (x ∷ xs) m i = by (ltb x n) (eqb x n) i (number_old n xs m)
  where
    by : (t u : Bool) → (m ≡ x) ⊎ Holds xs m → (Holds xs m → Holds (with_number n xs) m) → Holds (cond t (x ∷ with_number n xs) (cond u (x ∷ xs) (n ∷ x ∷ xs))) m
    by true u (inl e) rest = inl e
    by true u (inr j) rest = inr (rest j)
    by false true i rest = i
    by false false i rest = inr i

number_in : (n : ℕ) (xs : List ℕ) (m : ℕ) → Holds (with_number n xs) m → (m ≡ n) ⊎ Holds xs m
number_in n [] m (inl e) = inl e
number_in n [] m (inr i) = absurd i
number_in n (x ∷ xs) m i = by (ltb x n) (eqb x n) i (number_in n xs m)
  where
    over : (m ≡ n) ⊎ Holds xs m → (m ≡ n) ⊎ Holds (x ∷ xs) m
    over (inl e) = inl e
    over (inr j) = inr (inr j)

    by : (t u : Bool) → Holds (cond t (x ∷ with_number n xs) (cond u (x ∷ xs) (n ∷ x ∷ xs))) m → (Holds (with_number n xs) m → (m ≡ n) ⊎ Holds xs m) → (m ≡ n) ⊎ Holds (x ∷ xs) m
    by true u (inl e) rest = inr (inl e)
    by true u (inr j) rest = over (rest j)
    by false true j rest = inr j
    by false false (inl e) rest = inl e
    by false false (inr j) rest = inr j

option_old : (o : Option ℕ) (xs : List ℕ) (m : ℕ) → Holds xs m → Holds (with_option o xs) m
option_old None xs m i = i
option_old (Some n) xs m i = number_old n xs m i

option_new : (o : Option ℕ) (xs : List ℕ) (m : ℕ) → o ≡ Some m → Holds (with_option o xs) m
option_new None xs m e = absurd cc
option_new (Some n) xs m e = let same : n ≡ m = cc in subst (λ k. Holds (with_number n xs) k) same (number_new n xs)

option_in : (o : Option ℕ) (xs : List ℕ) (m : ℕ) → Holds (with_option o xs) m → (o ≡ Some m) ⊎ Holds xs m
option_in None xs m i = inr i
option_in (Some n) xs m i = by (number_in n xs m i)
  where
    by : (m ≡ n) ⊎ Holds xs m → (Some n ≡ Some m) ⊎ Holds xs m
    by (inl e) = inl (ap Some (sym e))
    by (inr j) = inr j

collected_old : (give : Part → Option ℕ) (ps : List Part) (found : List ℕ) (n : ℕ) → Holds found n → Holds (collected give found ps) n
unfolding collected
collected_old give [] found n i = i
collected_old give (p ∷ ps) found n i = collected_old give ps (with_option (give p) found) n (option_old (give p) found n i)

collected_new : (give : Part → Option ℕ) (ps : List Part) (found : List ℕ) (n : ℕ) (part : Part) → Holds ps part → give part ≡ Some n → Holds (collected give found ps) n
unfolding collected
collected_new give [] found n part i e = absurd i
collected_new give (p ∷ ps) found n part (inl same) e = collected_old give ps (with_option (give p) found) n (option_new (give p) found n (ap give (sym same) ∙ e))
collected_new give (p ∷ ps) found n part (inr i) e = collected_new give ps (with_option (give p) found) n part i e

collected_in : (give : Part → Option ℕ) (ps : List Part) (found : List ℕ) (n : ℕ) → Holds (collected give found ps) n → Holds found n ⊎ ((part : Part) × Holds ps part × (give part ≡ Some n))
unfolding collected
collected_in give [] found n i = inl i
collected_in give (p ∷ ps) found n i = by (collected_in give ps (with_option (give p) found) n i)
  where
    here : (give p ≡ Some n) ⊎ Holds found n → Holds found n ⊎ ((part : Part) × Holds (p ∷ ps) part × (give part ≡ Some n))
    here (inl e) = inr (p, inl refl, e)
    here (inr j) = inl j

    by : Holds (with_option (give p) found) n ⊎ ((part : Part) × Holds ps part × (give part ≡ Some n)) → Holds found n ⊎ ((part : Part) × Holds (p ∷ ps) part × (give part ≡ Some n))
    by (inl j) = here (option_in (give p) found n j)
    by (inr h) = inr (h.0, inr h.1, h.2)

-- ---- the sets

sets_are : (graph : CxxGraph) (types : List CxxType) (sets : Associated) → associated graph types ≡ Ok sets → sets ≡ sets_of graph (parts graph types)
unfolding associated
sets_are graph types sets e = by (find (is_pending graph) (own_classes (parts graph types))) e
  where
    by : (o : Option ℕ) → unless_pending o (sets_of graph (parts graph types)) ≡ Ok sets → sets ≡ sets_of graph (parts graph types)
    by None e = cc
    by (Some n) e = absurd cc

class_found : (graph : CxxGraph) (types : List CxxType) (n : ℕ) → Holds (with_member_classes graph (parts graph types) (own_classes (parts graph types))) n → IsAssociatedClass graph types n
class_found graph types n i = by (collected_in (λ part. class_at_scope graph (member_scope_of graph part)) (parts graph types) (own_classes (parts graph types)) n i)
  where
    own : Holds [] n ⊎ ((part : Part) × Holds (parts graph types) part × (class_of part ≡ Some n)) → IsAssociatedClass graph types n
    own (inl j) = absurd j
    own (inr h) = (h.0, part_reached graph types h.0 h.1, inl h.2)

    by : Holds (own_classes (parts graph types)) n ⊎ ((part : Part) × Holds (parts graph types) part × (class_at_scope graph (member_scope_of graph part) ≡ Some n)) → IsAssociatedClass graph types n
    by (inl j) = own (collected_in class_of (parts graph types) [] n j)
    by (inr h) = (h.0, part_reached graph types h.0 h.1, inr h.2)

class_there : (graph : CxxGraph) (types : List CxxType) (n : ℕ) → IsAssociatedClass graph types n → Holds (with_member_classes graph (parts graph types) (own_classes (parts graph types))) n
class_there graph types n h = by h.2
  where
    by : (class_of h.0 ≡ Some n) ⊎ (class_at_scope graph (member_scope_of graph h.0) ≡ Some n) → Holds (with_member_classes graph (parts graph types) (own_classes (parts graph types))) n
    by (inl e) = collected_old (λ part. class_at_scope graph (member_scope_of graph part)) (parts graph types) (own_classes (parts graph types)) n (collected_new class_of (parts graph types) [] n h.0 (reached_part graph types h.0 h.1) e)
    by (inr e) = collected_new (λ part. class_at_scope graph (member_scope_of graph part)) (parts graph types) (own_classes (parts graph types)) n h.0 (reached_part graph types h.0 h.1) e

space_found : (graph : CxxGraph) (types : List CxxType) (n : ℕ) → Holds (spaces_of graph (parts graph types)) n → IsAssociatedSpace graph types n
space_found graph types n i = by (collected_in (λ part. space_at_scope graph (template_scope_of graph part)) (parts graph types) (with_spaces graph (parts graph types) []) n i)
  where
    own : Holds [] n ⊎ ((part : Part) × Holds (parts graph types) part × (space_at_scope graph (scope_of graph part) ≡ Some n)) → IsAssociatedSpace graph types n
    own (inl j) = absurd j
    own (inr h) = (h.0, part_reached graph types h.0 h.1, inl h.2)

    by : Holds (with_spaces graph (parts graph types) []) n ⊎ ((part : Part) × Holds (parts graph types) part × (space_at_scope graph (template_scope_of graph part) ≡ Some n)) → IsAssociatedSpace graph types n
    by (inl j) = own (collected_in (λ part. space_at_scope graph (scope_of graph part)) (parts graph types) [] n j)
    by (inr h) = (h.0, part_reached graph types h.0 h.1, inr h.2)

space_there : (graph : CxxGraph) (types : List CxxType) (n : ℕ) → IsAssociatedSpace graph types n → Holds (spaces_of graph (parts graph types)) n
space_there graph types n h = by h.2
  where
    by : (space_at_scope graph (scope_of graph h.0) ≡ Some n) ⊎ (space_at_scope graph (template_scope_of graph h.0) ≡ Some n) → Holds (spaces_of graph (parts graph types)) n
    by (inl e) = collected_old (λ part. space_at_scope graph (template_scope_of graph part)) (parts graph types) (with_spaces graph (parts graph types) []) n (collected_new (λ part. space_at_scope graph (scope_of graph part)) (parts graph types) [] n h.0 (reached_part graph types h.0 h.1) e)
    by (inr e) = collected_new (λ part. space_at_scope graph (template_scope_of graph part)) (parts graph types) (with_spaces graph (parts graph types) []) n h.0 (reached_part graph types h.0 h.1) e

pub classes_are : (graph : CxxGraph) (types : List CxxType) (sets : Associated) → associated graph types ≡ Ok sets → (n : ℕ) → Holds sets.classes n ↔ IsAssociatedClass graph types n
classes_are graph types sets e n =
    let same = ap (λ s. s.classes) (sets_are graph types sets e) in
    (λ i. class_found graph types n (subst (λ xs. Holds xs n) same i), λ h. subst (λ xs. Holds xs n) (sym same) (class_there graph types n h))

pub spaces_are : (graph : CxxGraph) (types : List CxxType) (sets : Associated) → associated graph types ≡ Ok sets → (n : ℕ) → Holds sets.spaces n ↔ IsAssociatedSpace graph types n
spaces_are graph types sets e n =
    let same = ap (λ s. s.spaces) (sets_are graph types sets e) in
    (λ i. space_found graph types n (subst (λ xs. Holds xs n) same i), λ h. subst (λ xs. Holds xs n) (sym same) (space_there graph types n h))

-- ---- the lists ascend

rises : (n x : ℕ) (xs : List ℕ) → x < n → ComesBefore x xs → ComesBefore x (with_number n xs)
rises n x [] lt before = lt
rises n x (y ∷ ys) lt before = by (ltb y n) (eqb y n)
  where
    by : (t u : Bool) → ComesBefore x (cond t (y ∷ with_number n ys) (cond u (y ∷ ys) (n ∷ y ∷ ys)))
    by true u = before
    by false true = before
    by false false = lt

not_before : (x n : ℕ) → ltb x n ≡ false → eqb x n ≡ false → n < x
not_before x n less same = by (λ lt. false≢true (sym less ∙ lt-ltb x n lt)) (λ e. false≢true (sym same ∙ eq-eqb x n e))
  where
    by : (x < n → ⊥) → (x ≡ n → ⊥) → n < x
    by ge ne = omega arith

number_ascends : (n : ℕ) (xs : List ℕ) → Ascends xs → Ascends (with_number n xs)
number_ascends n [] up = (tt, tt)
number_ascends n (x ∷ xs) up = by (ltb x n) (eqb x n) refl refl (number_ascends n xs up.1)
  where
    by : (t u : Bool) → ltb x n ≡ t → eqb x n ≡ u → Ascends (with_number n xs) → Ascends (cond t (x ∷ with_number n xs) (cond u (x ∷ xs) (n ∷ x ∷ xs)))
    by true u less same rest = (rises n x xs (ltb-true x n less) up.0, rest)
    by false true less same rest = up
    by false false less same rest = (not_before x n less same, up)

option_ascends : (o : Option ℕ) (xs : List ℕ) → Ascends xs → Ascends (with_option o xs)
option_ascends None xs up = up
option_ascends (Some n) xs up = number_ascends n xs up

collected_ascends : (give : Part → Option ℕ) (ps : List Part) (found : List ℕ) → Ascends found → Ascends (collected give found ps)
unfolding collected
collected_ascends give [] found up = up
collected_ascends give (p ∷ ps) found up = collected_ascends give ps (with_option (give p) found) (option_ascends (give p) found up)

pub classes_ascend : (graph : CxxGraph) (types : List CxxType) (sets : Associated) → associated graph types ≡ Ok sets → Ascends sets.classes
classes_ascend graph types sets e =
    let all = parts graph types in
    subst (λ s. Ascends s.classes) (sym (sets_are graph types sets e)) (collected_ascends (λ part. class_at_scope graph (member_scope_of graph part)) all (own_classes all) (collected_ascends class_of all [] tt))

pub spaces_ascend : (graph : CxxGraph) (types : List CxxType) (sets : Associated) → associated graph types ≡ Ok sets → Ascends sets.spaces
spaces_ascend graph types sets e =
    let all = parts graph types in
    subst (λ s. Ascends s.spaces) (sym (sets_are graph types sets e)) (collected_ascends (λ part. space_at_scope graph (template_scope_of graph part)) all (with_spaces graph all []) (collected_ascends (λ part. space_at_scope graph (scope_of graph part)) all [] tt))

-- ---- what has to be complete first

found_first : (test : ℕ → Bool) (xs : List ℕ) (n : ℕ) → find test xs ≡ Some n → Holds xs n × (test n ≡ true)
found_first test [] n e = absurd cc
found_first test (x ∷ xs) n e = by (test x) refl (found_first test xs n) e
  where
    by : (t : Bool) → test x ≡ t → (find test xs ≡ Some n → Holds xs n × (test n ≡ true)) → cond t (Some x) (find test xs) ≡ Some n → ((n ≡ x) ⊎ Holds xs n) × (test n ≡ true)
    by true h rest f = let same : n ≡ x = cc in (inl same, ap test same ∙ h)
    by false h rest f = (inr (rest f).0, (rest f).1)

needed : (graph : CxxGraph) (types : List CxxType) (class : ClassId) → associated graph types ≡ Err class → find (is_pending graph) (own_classes (parts graph types)) ≡ Some class.0
unfolding associated
needed graph types class e = by (find (is_pending graph) (own_classes (parts graph types))) e
  where
    by : (o : Option ℕ) → unless_pending o (sets_of graph (parts graph types)) ≡ Err class → o ≡ Some class.0
    by None e = absurd cc
    by (Some n) e = let same : record { 0 = n } ≡ class = cc in ap (λ c. Some c.0) same

need_is : (graph : CxxGraph) (types : List CxxType) (class : ClassId) → associated graph types ≡ Err class → IsAskedClass graph types class.0 × (is_pending graph class.0 ≡ true)
need_is graph types class e =
    let found = found_first (is_pending graph) (own_classes (parts graph types)) class.0 (needed graph types class e) in
    (by (collected_in class_of (parts graph types) [] class.0 found.0), found.1)
  where
    by : Holds [] class.0 ⊎ ((part : Part) × Holds (parts graph types) part × (class_of part ≡ Some class.0)) → IsAskedClass graph types class.0
    by (inl j) = absurd j
    by (inr h) = (h.0, part_reached graph types h.0 h.1, h.2)

pub need_reached : (graph : CxxGraph) (types : List CxxType) (class : ClassId) → associated graph types ≡ Err class → IsAskedClass graph types class.0
need_reached graph types class e = (need_is graph types class e).0

pub need_pending : (graph : CxxGraph) (types : List CxxType) (class : ClassId) → associated graph types ≡ Err class → is_pending graph class.0 ≡ true
need_pending graph types class e = (need_is graph types class e).1
