-- Elements one after another.
use Rattle.std.specs.Prelude.{ℕ, ◌≡◌, ◌<◌, ◌≤◌, ◌+◌, List, [], ◌∷◌, ◌++◌, length, Ok, Err, refl}
use Rattle.std.proofs.Common.{ap, sym, subst, ◌∙◌, append_assoc, get_or, drop}
use Rattle.std.proofs.lemmas.List.{append-nil, at_drop_more, at_drop_all}
use Rattle.cxx_model.specs.declared.place.Place.{Place}
use Rattle.cxx_model.specs.declared.stop.Stop.{Stop}
use Rattle.cxx_model.specs.declared.types.TreeId.{TreeId}
use Rattle.cxx_model.specs.declared.types.TypeId.{TypeId}
use Rattle.cxx_model.specs.Stops.{Answer, Stops}
use Rattle.cxx_model.specs.Types.Trees.{CxxBound, CxxType}
use Rattle.cxx_reading.specs.Reads.{Asks}
use Rattle.cxx_reading.specs.State.{CxxState}
use Rattle.cxx_reading.specs.Trees.{CxxTree}
use Rattle.cxx_tree.specs.Held.{Held, meaning, tree, trees, type_of}
use Rattle.cxx_tree.specs.Later.{Later}
use Rattle.cxx_expr.specs.Asking.{give, then_asked}
use Rattle.cxx_expr.specs.Initializing.{element_in, elements, one_less, part}
use Rattle.cxx_expr.specs.Making.{AreTreesHeld, trees_held}
use Rattle.cxx_expr.specs.Questions.{Questions}
use Rattle.cxx_expr.proofs.Each.{asked_stops}
use Rattle.cxx_expr.proofs.Kept.{number_at}
use Rattle.cxx_initialize.specs.Behind.{element_more, elements_behind}

-- ---- those behind others

joined : (done : List CxxTree) (first : CxxTree) (r : Answer (List CxxTree × CxxState)) →
    then_asked r (λ rest. give ((done ++ first ∷ []) ++ rest)) ≡ then_asked (then_asked r (λ rest. give (first ∷ rest))) (λ rest. give (done ++ rest))
joined done first (Ok one) = ap (λ all. Ok (all, one.1)) (append_assoc done (first ∷ []) one.0)
joined done first (Err why) = refl

behind_first : (place : Place) (element : CxxTree → Asks CxxState CxxTree) (bound : CxxBound) (done others : List CxxTree) →
    ((first : CxxTree) (t : CxxState) → elements_behind place element (one_less bound) (done ++ first ∷ []) others t ≡ then_asked (elements place element (one_less bound) others t) (λ rest. give ((done ++ first ∷ []) ++ rest))) → (r : Answer (CxxTree × CxxState)) →
    then_asked (then_asked r (λ first. give (done ++ first ∷ []))) (λ more. elements_behind place element (one_less bound) more others) ≡ then_asked (then_asked r (λ first t. then_asked (elements place element (one_less bound) others t) (λ rest. give (first ∷ rest)))) (λ rest. give (done ++ rest))
behind_first place element bound done others same (Ok one) = same one.0 one.1 ∙ joined done one.0 (elements place element (one_less bound) others one.1)
behind_first place element bound done others same (Err why) = refl

behind_is : (place : Place) (element : CxxTree → Asks CxxState CxxTree) (bound : CxxBound) (done all : List CxxTree) (s : CxxState) → elements_behind place element bound done all s ≡ then_asked (elements place element bound all s) (λ rest. give (done ++ rest))
behind_is place element bound done [] s = ap (λ ts. Ok (ts, s)) (sym (append-nil done))
behind_is place element bound done (one ∷ others) s = behind_first place element bound done others (λ first t. behind_is place element (one_less bound) (done ++ first ∷ []) others t) (element_in place element bound one s)

-- behind none
pub behind_none : (place : Place) (element : CxxTree → Asks CxxState CxxTree) (bound : CxxBound) (all : List CxxTree) (s : CxxState) → elements_behind place element bound [] all s ≡ elements place element bound all s
behind_none place element bound all s = behind_is place element bound [] all s ∙ by (elements place element bound all s)
  where
    by : (r : Answer (List CxxTree × CxxState)) → then_asked r (λ rest. give rest) ≡ r
    by (Ok one) = refl
    by (Err why) = refl

-- ---- by their numbers

-- what is left of a list, by its next number
each_next : (q : Questions) (place : Place) (first old : Held) (of : TypeId) (bound : CxxBound) (done : List TreeId) (numbers : List TreeId) (i : ℕ) (number d : TreeId) (whole : Answer (List CxxTree × CxxState)) → Later first old → of.0 < length first.types → AreTreesHeld first numbers → i < length numbers → number ≡ get_or numbers i d →
    elements_behind place (part q (type_of first of)) bound (trees_held old done) (trees_held first (drop i numbers)) (meaning old) ≡ whole →
    then_asked (element_more place (part q (type_of old of)) bound (trees_held old done) (tree old number) (meaning old)) (λ more. elements_behind place (part q (type_of first of)) (one_less bound) more (trees_held first (drop (i + 1) numbers))) ≡ whole
each_next q place first old of bound done numbers i number d whole later known below within is same =
    let others : List CxxTree = trees_held first (drop (i + 1) numbers) in
    let inner : CxxTree → Asks CxxState CxxTree = part q (type_of first of) in
    let go : List CxxTree → Asks CxxState (List CxxTree) = λ more. elements_behind place inner (one_less bound) more others in
    let there : number.0 < length (trees first) = number_at (length (trees first)) numbers i number d below within is in
    ap (λ (t : CxxType). then_asked (element_more place (part q t) bound (trees_held old done) (tree old number) (meaning old)) go) (later.types.same of.0 known)
    ∙ ap (λ (t : CxxTree). then_asked (element_more place inner bound (trees_held old done) t (meaning old)) go) (later.trees.same number.0 there)
    ∙ ap (λ (n : TreeId). elements_behind place inner bound (trees_held old done) (tree first n ∷ others) (meaning old)) is
    ∙ sym (at_drop_more (λ ns. elements_behind place inner bound (trees_held old done) (trees_held first ns) (meaning old)) numbers i d within)
    ∙ same

-- one more is read
pub each_step : (q : Questions) (place : Place) (first old new : Held) (of : TypeId) (bound behind : CxxBound) (done after : List TreeId) (numbers : List TreeId) (i : ℕ) (number d : TreeId) (whole : Answer (List CxxTree × CxxState)) → Later first old → of.0 < length first.types → AreTreesHeld first numbers → i < length numbers → number ≡ get_or numbers i d →
    behind ≡ one_less bound →
    element_more place (part q (type_of old of)) bound (trees_held old done) (tree old number) (meaning old) ≡ Ok (trees_held new after, meaning new) →
    elements_behind place (part q (type_of first of)) bound (trees_held old done) (trees_held first (drop i numbers)) (meaning old) ≡ whole →
    elements_behind place (part q (type_of first of)) behind (trees_held new after) (trees_held first (drop (i + 1) numbers)) (meaning new) ≡ whole
each_step q place first old new of bound behind done after numbers i number d whole later known below within is next more same =
    let others : List CxxTree = trees_held first (drop (i + 1) numbers) in
    let inner : CxxTree → Asks CxxState CxxTree = part q (type_of first of) in
    let go : List CxxTree → Asks CxxState (List CxxTree) = λ all. elements_behind place inner (one_less bound) all others in
    ap (λ b. elements_behind place inner b (trees_held new after) others (meaning new)) next
    ∙ sym (ap (λ (r : Answer (List CxxTree × CxxState)). then_asked r go) more)
    ∙ each_next q place first old of bound done numbers i number d whole later known below within is same

-- the next one is refused
pub each_fails : (q : Questions) (place : Place) (first old : Held) (of : TypeId) (bound : CxxBound) (done : List TreeId) (numbers : List TreeId) (i : ℕ) (number d : TreeId) (whole : Answer (List CxxTree × CxxState)) (why : Stop) → Later first old → of.0 < length first.types → AreTreesHeld first numbers → i < length numbers → number ≡ get_or numbers i d →
    elements_behind place (part q (type_of first of)) bound (trees_held old done) (trees_held first (drop i numbers)) (meaning old) ≡ whole →
    Stops why (element_more place (part q (type_of old of)) bound (trees_held old done) (tree old number) (meaning old)) → Stops why whole
each_fails q place first old of bound done numbers i number d whole why later known below within is same stops =
    let others : List CxxTree = trees_held first (drop (i + 1) numbers) in
    let go : List CxxTree → Asks CxxState (List CxxTree) = λ more. elements_behind place (part q (type_of first of)) (one_less bound) more others in
    subst (λ (r : Answer (List CxxTree × CxxState)). Stops why r) (each_next q place first old of bound done numbers i number d whole later known below within is same)
    (asked_stops why (element_more place (part q (type_of old of)) bound (trees_held old done) (tree old number) (meaning old)) go stops)

-- all are read
pub each_ends : (place : Place) (element : CxxTree → Asks CxxState CxxTree) (first new : Held) (bound : CxxBound) (done : List TreeId) (numbers : List TreeId) (i : ℕ) (whole : Answer (List CxxTree × CxxState)) → length numbers ≤ i →
    elements_behind place element bound (trees_held new done) (trees_held first (drop i numbers)) (meaning new) ≡ whole → whole ≡ Ok (trees_held new done, meaning new)
each_ends place element first new bound done numbers i whole past same =
    sym same
    ∙ at_drop_all (λ ns. elements_behind place element bound (trees_held new done) (trees_held first ns) (meaning new)) numbers i past
