-- Expressions one after another.
use Rattle.std.specs.Prelude.{ℕ, zero, suc, ◌≡◌, ◌<◌, ◌≤◌, ◌+◌, ◌-◌, List, [], ◌∷◌, length, Ok, refl}
use Rattle.std.proofs.Common.{ap, sym, subst, ◌∙◌, arith, get_or, drop}
use Rattle.std.proofs.lemmas.List.{at_drop_more, at_drop_all}
use Rattle.cxx_model.specs.declared.place.Place.{Place}
use Rattle.cxx_model.specs.declared.stop.Stop.{Stop}
use Rattle.cxx_model.specs.declared.stop.Stop.TheVariants as stop
use Rattle.cxx_model.specs.declared.types.TreeId.{TreeId}
use Rattle.cxx_model.specs.declared.types.TypeId.{TypeId}
use Rattle.cxx_model.specs.Stops.{Answer, Stops}
use Rattle.cxx_model.specs.Types.Numbers.{AreTypesBelow}
use Rattle.cxx_model.specs.Types.Trees.{CxxType}
use Rattle.cxx_reading.specs.Reads.{Asks}
use Rattle.cxx_reading.specs.State.{CxxState}
use Rattle.cxx_reading.specs.Trees.{CxxPath, CxxTree}
use Rattle.cxx_tree.specs.Held.{Held, meaning, tree, trees}
use Rattle.cxx_tree.specs.Later.{Later}
use Rattle.cxx_expr.specs.Asking.{then_asked}
use Rattle.cxx_expr.specs.Calls.{fallback_more, fallbacks}
use Rattle.cxx_expr.specs.Converting.{convert_each, convert_more, types_after}
use Rattle.cxx_expr.specs.Making.{AreTreesHeld, trees_held}
use Rattle.cxx_expr.specs.Questions.{Questions}
use Rattle.cxx_expr.specs.Views.{types_in}
use Rattle.cxx_expr.proofs.Kept.{number_at, types_kept}

-- what stops a question stops what goes on with its answer
pub asked_stops : {A B : Type 0} (why : Stop) (question : Answer (A × CxxState)) (go : A → Asks CxxState B) → Stops why question → Stops why (then_asked question go)
asked_stops stop.OutOfMemory question go stops = tt
asked_stops (stop.Fault f) question go stops = ap (λ r. then_asked r go) stops
asked_stops (stop.Limit kind) question go stops = ap (λ r. then_asked r go) stops

each_first : (q : Questions) (place : Place) (types : List CxxType) (done : List CxxTree) (one : CxxTree) (others : List CxxTree) (s : CxxState) → convert_each q place types done (one ∷ others) s ≡ then_asked (convert_more q place types done one s) (λ more. convert_each q place (types_after types) more others)
unfolding convert_each
each_first q place types done one others s = refl

each_none : (q : Questions) (place : Place) (types : List CxxType) (done : List CxxTree) (s : CxxState) → convert_each q place types done [] s ≡ Ok (done, s)
unfolding convert_each
each_none q place types done s = refl

-- what is left of a list, by its next number
each_next : (q : Questions) (place : Place) (first old : Held) (types : List TypeId) (done : List TreeId) (numbers : List TreeId) (i : ℕ) (number d : TreeId) (whole : Answer (List CxxTree × CxxState)) → Later first old → AreTypesBelow (length first.types) types → AreTreesHeld first numbers → i < length numbers → number ≡ get_or numbers i d →
    convert_each q place (types_in first.types types) (trees_held old done) (trees_held first (drop i numbers)) (meaning old) ≡ whole →
    then_asked (convert_more q place (types_in old.types types) (trees_held old done) (tree old number) (meaning old)) (λ more. convert_each q place (types_after (types_in first.types types)) more (trees_held first (drop (i + 1) numbers))) ≡ whole
each_next q place first old types done numbers i number d whole later ok below within is same =
    let others : List CxxTree = trees_held first (drop (i + 1) numbers) in
    let go : List CxxTree → Asks CxxState (List CxxTree) = λ more. convert_each q place (types_after (types_in first.types types)) more others in
    let there : number.0 < length (trees first) = number_at (length (trees first)) numbers i number d below within is in
    ap (λ ts. then_asked (convert_more q place ts (trees_held old done) (tree old number) (meaning old)) go) (types_kept first old types later ok)
    ∙ ap (λ (t : CxxTree). then_asked (convert_more q place (types_in first.types types) (trees_held old done) t (meaning old)) go) (later.trees.same number.0 there)
    ∙ sym (each_first q place (types_in first.types types) (trees_held old done) (tree first number) others (meaning old))
    ∙ ap (λ (n : TreeId). convert_each q place (types_in first.types types) (trees_held old done) (tree first n ∷ others) (meaning old)) is
    ∙ sym (at_drop_more (λ ns. convert_each q place (types_in first.types types) (trees_held old done) (trees_held first ns) (meaning old)) numbers i d within)
    ∙ same

-- one more is converted
pub each_step : (q : Questions) (place : Place) (first old new : Held) (types : List TypeId) (behind : List CxxType) (done after : List TreeId) (numbers : List TreeId) (i : ℕ) (number d : TreeId) (whole : Answer (List CxxTree × CxxState)) → Later first old → AreTypesBelow (length first.types) types → AreTreesHeld first numbers → i < length numbers → number ≡ get_or numbers i d →
    behind ≡ types_after (types_in first.types types) →
    convert_more q place (types_in old.types types) (trees_held old done) (tree old number) (meaning old) ≡ Ok (trees_held new after, meaning new) →
    convert_each q place (types_in first.types types) (trees_held old done) (trees_held first (drop i numbers)) (meaning old) ≡ whole →
    convert_each q place behind (trees_held new after) (trees_held first (drop (i + 1) numbers)) (meaning new) ≡ whole
each_step q place first old new types behind done after numbers i number d whole later ok below within is next more same =
    let others : List CxxTree = trees_held first (drop (i + 1) numbers) in
    let go : List CxxTree → Asks CxxState (List CxxTree) = λ all. convert_each q place (types_after (types_in first.types types)) all others in
    ap (λ ts. convert_each q place ts (trees_held new after) others (meaning new)) next
    ∙ sym (ap (λ (r : Answer (List CxxTree × CxxState)). then_asked r go) more)
    ∙ each_next q place first old types done numbers i number d whole later ok below within is same

-- the next one is not converted
pub each_fails : (q : Questions) (place : Place) (first old : Held) (types : List TypeId) (done : List TreeId) (numbers : List TreeId) (i : ℕ) (number d : TreeId) (whole : Answer (List CxxTree × CxxState)) (why : Stop) → Later first old → AreTypesBelow (length first.types) types → AreTreesHeld first numbers → i < length numbers → number ≡ get_or numbers i d →
    convert_each q place (types_in first.types types) (trees_held old done) (trees_held first (drop i numbers)) (meaning old) ≡ whole →
    Stops why (convert_more q place (types_in old.types types) (trees_held old done) (tree old number) (meaning old)) → Stops why whole
each_fails q place first old types done numbers i number d whole why later ok below within is same stops =
    let others : List CxxTree = trees_held first (drop (i + 1) numbers) in
    let go : List CxxTree → Asks CxxState (List CxxTree) = λ all. convert_each q place (types_after (types_in first.types types)) all others in
    subst (λ (r : Answer (List CxxTree × CxxState)). Stops why r) (each_next q place first old types done numbers i number d whole later ok below within is same)
    (asked_stops why (convert_more q place (types_in old.types types) (trees_held old done) (tree old number) (meaning old)) go stops)

-- all are
pub each_ends : (q : Questions) (place : Place) (first new : Held) (types : List CxxType) (done : List TreeId) (numbers : List TreeId) (i : ℕ) (whole : Answer (List CxxTree × CxxState)) → length numbers ≤ i →
    convert_each q place types (trees_held new done) (trees_held first (drop i numbers)) (meaning new) ≡ whole → whole ≡ Ok (trees_held new done, meaning new)
each_ends q place first new types done numbers i whole past same =
    sym same
    ∙ at_drop_all (λ ns. convert_each q place types (trees_held new done) (trees_held first ns) (meaning new)) numbers i past
    ∙ each_none q place types (trees_held new done) (meaning new)

-- ---- default arguments

fallbacks_first : (q : Questions) (path : CxxPath) (target index : ℕ) (done : List CxxTree) (count : ℕ) (s : CxxState) → fallbacks q path target index done (suc count) s ≡ then_asked (fallback_more q path target index done s) (λ more. fallbacks q path target (index + 1) more count)
unfolding fallbacks
fallbacks_first q path target index done count s = refl

fallbacks_none : (q : Questions) (path : CxxPath) (target index : ℕ) (done : List CxxTree) (s : CxxState) → fallbacks q path target index done zero s ≡ Ok (done, s)
unfolding fallbacks
fallbacks_none q path target index done s = refl

fallbacks_next : (q : Questions) (path : CxxPath) (target : ℕ) (done : List CxxTree) (index end : ℕ) (s : CxxState) → index < end → fallbacks q path target index done (end - index) s ≡ then_asked (fallback_more q path target index done s) (λ more. fallbacks q path target (index + 1) more (end - (index + 1)))
fallbacks_next q path target done index end s within =
    let more : end - index ≡ suc (end - (index + 1)) = omega (arith, within) in
    ap (λ n. fallbacks q path target index done n s) more ∙ fallbacks_first q path target index done (end - (index + 1)) s

-- one more is there
pub fallbacks_step : (q : Questions) (path : CxxPath) (target : ℕ) (old new : Held) (done after : List TreeId) (index end : ℕ) (whole : Answer (List CxxTree × CxxState)) → index < end →
    fallback_more q path target index (trees_held old done) (meaning old) ≡ Ok (trees_held new after, meaning new) →
    fallbacks q path target index (trees_held old done) (end - index) (meaning old) ≡ whole →
    fallbacks q path target (index + 1) (trees_held new after) (end - (index + 1)) (meaning new) ≡ whole
fallbacks_step q path target old new done after index end whole within more same =
    let go : List CxxTree → Asks CxxState (List CxxTree) = λ all. fallbacks q path target (index + 1) all (end - (index + 1)) in
    sym (ap (λ (r : Answer (List CxxTree × CxxState)). then_asked r go) more)
    ∙ sym (fallbacks_next q path target (trees_held old done) index end (meaning old) within)
    ∙ same

pub fallbacks_fails : (q : Questions) (path : CxxPath) (target : ℕ) (old : Held) (done : List TreeId) (index end : ℕ) (whole : Answer (List CxxTree × CxxState)) (why : Stop) → index < end →
    fallbacks q path target index (trees_held old done) (end - index) (meaning old) ≡ whole →
    Stops why (fallback_more q path target index (trees_held old done) (meaning old)) → Stops why whole
fallbacks_fails q path target old done index end whole why within same stops =
    let go : List CxxTree → Asks CxxState (List CxxTree) = λ all. fallbacks q path target (index + 1) all (end - (index + 1)) in
    subst (λ (r : Answer (List CxxTree × CxxState)). Stops why r) (sym (fallbacks_next q path target (trees_held old done) index end (meaning old) within) ∙ same)
    (asked_stops why (fallback_more q path target index (trees_held old done) (meaning old)) go stops)

pub fallbacks_end : (q : Questions) (path : CxxPath) (target : ℕ) (new : Held) (done : List TreeId) (index end : ℕ) (whole : Answer (List CxxTree × CxxState)) → end ≤ index →
    fallbacks q path target index (trees_held new done) (end - index) (meaning new) ≡ whole → whole ≡ Ok (trees_held new done, meaning new)
fallbacks_end q path target new done index end whole past same =
    let none : end - index ≡ zero = omega (arith, past) in
    sym same ∙ ap (λ n. fallbacks q path target index (trees_held new done) n (meaning new)) none ∙ fallbacks_none q path target index (trees_held new done) (meaning new)
