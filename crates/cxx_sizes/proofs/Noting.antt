-- What one more fact changes.
use Rattle.std.specs.Prelude.{ℕ, zero, suc, ◌≡◌, ◌+◌, List, [], ◌∷◌, ◌++◌, length, take, Some, Result, Ok, Err, OnOk, OnErr, refl}
use Rattle.std.specs.List.{slice_get}
use Rattle.std.specs.Option.{option_map}
use Rattle.std.proofs.lemmas.List.{append_assoc}
use Rattle.std.proofs.Math.Path.{fun_ext}
use Rattle.std.proofs.Common.{ap, sym, subst, ◌∙◌, arith}
use Rattle.cxx_model.specs.declared.facts.Fact.{Fact}
use Rattle.cxx_model.specs.declared.facts.ScopeKind.{ScopeKind}
use Rattle.cxx_model.specs.Facts.Declarations as facts
use Rattle.cxx_model.specs.Facts.Declarations.{CxxFact, CxxGraph, Declares, fact_at, facts_at}
use Rattle.cxx_model.specs.Facts.Entities.{scope_kinds}
use Rattle.cxx_model.specs.Facts.Fitted.{AreFactsBelow, IsEntityBelow}
use Rattle.cxx_model.specs.Types.Trees.{CxxType}
use Rattle.cxx_meaning.specs.declared.size.Layout.{Layout}
use Rattle.cxx_meaning.specs.Conversions.Sizes.{Sized, class_extent, enumerations_in, extent_of, layouts_from, layouts_of, no_layout, noted, noted_by, object_extent}
use Rattle.cxx_sizes.specs.declared.layouts.Layouts.{Layouts}
use Rattle.cxx_sizes.specs.Noted.{AreSameKept, IsNoted, Notes, extents_in, kinds_in, layout_in}

pub nothing_noted : (n : ℕ) → layout_in [] n ≡ no_layout
nothing_noted n = refl

-- ---- the last of some facts

last_from : (before : List CxxFact) (layouts : ℕ → Layout) (all : List CxxFact) (fact : CxxFact) → layouts_from before layouts (all ++ fact ∷ []) ≡ noted (before ++ (all ++ fact ∷ [])) (layouts_from before layouts all) fact
last_from before layouts [] fact = refl
last_from before layouts (x ∷ xs) fact = last_from (before ++ x ∷ []) (noted (before ++ x ∷ []) layouts x) xs fact ∙ ap (λ (ys : List CxxFact). noted ys (layouts_from before layouts (x ∷ xs)) fact) (append_assoc before (x ∷ []) (xs ++ fact ∷ []))

layouts_last : (all before : List CxxFact) (fact : CxxFact) → all ≡ before ++ fact ∷ [] → layouts_of all ≡ noted all (layouts_of before) fact
unfolding layouts_of
layouts_last all before fact is = ap layouts_of is ∙ last_from [] (λ class. no_layout) before fact ∙ ap (λ (ys : List CxxFact). noted ys (layouts_of before) fact) (sym is)

kinds_last : (all : List CxxFact) (fact : CxxFact) → scope_kinds (all ++ fact ∷ []) ≡ scope_kinds all ++ kinds_in fact.what
kinds_last [] fact = by fact.what
  where
    by : (what : Declares) → scope_kinds (record fact { what = what } ∷ []) ≡ kinds_in what
    by (facts.scope parent kind) = refl
    by _ = refl
kinds_last (x ∷ xs) fact = by x.what (kinds_last xs fact)
  where
    by : (what : Declares) → scope_kinds (xs ++ fact ∷ []) ≡ scope_kinds xs ++ kinds_in fact.what → scope_kinds (record x { what = what } ∷ (xs ++ fact ∷ [])) ≡ scope_kinds (record x { what = what } ∷ xs) ++ kinds_in fact.what
    by (facts.scope parent kind) rest = ap (λ (kinds : List ScopeKind). kind ∷ kinds) rest
    by _ rest = rest

last_taken : (all : List CxxFact) (n : ℕ) (fact : CxxFact) → n + 1 ≡ length all → slice_get all n ≡ Some fact → all ≡ take n all ++ fact ∷ []
last_taken [] n fact last there = absurd (omega (arith, last))
last_taken (x ∷ []) zero fact last there = (let same : x ≡ fact = cc in ap (λ (y : CxxFact). y ∷ []) same)
last_taken (x ∷ y ∷ ys) zero fact last there = absurd (omega (arith, last))
last_taken (x ∷ xs) (suc n) fact last there = (let less : n + 1 ≡ length xs = omega (arith, last) in ap (λ (ys : List CxxFact). x ∷ ys) (last_taken xs n fact less there))

get-at : (types : List CxxType) (all : List Fact) (n : ℕ) → slice_get (facts_at types all) n ≡ option_map (fact_at types) (slice_get all n)
get-at types [] n = refl
get-at types (fact ∷ all) zero = refl
get-at types (fact ∷ all) (suc n) = get-at types all n

length-kept : (types : List CxxType) (all : List Fact) → length (facts_at types all) ≡ length all
length-kept types [] = refl
length-kept types (fact ∷ all) = ap suc (length-kept types all)

pub entity_below : (count : ℕ) (all : List Fact) (number : ℕ) (fact : Fact) → AreFactsBelow count all → slice_get all number ≡ Some fact → IsEntityBelow count fact.what
entity_below count [] number fact below there = absurd (cc)
entity_below count (x ∷ xs) zero fact below there = (let same : x ≡ fact = cc in subst (λ (f : Fact). IsEntityBelow count f.what) same below.0.what)
entity_below count (x ∷ xs) (suc number) fact below there = entity_below count xs number fact below.1 there

-- ---- what is kept

noted_more : (types : List CxxType) (raw : List Fact) (n : ℕ) (fact : Fact) (old new : Layouts) → n + 1 ≡ length raw → slice_get raw n ≡ Some fact → Notes old (take n (facts_at types raw)) → IsNoted (facts_at types raw) (fact_at types fact) old new → Notes new (facts_at types raw)
noted_more types raw n fact old new last there before is = record { scopes = scopes; classes = classes }
  where
    all : List CxxFact
    all = facts_at types raw

    ends : all ≡ take n all ++ fact_at types fact ∷ []
    ends = last_taken all n (fact_at types fact) (last ∙ sym (length-kept types raw)) (get-at types raw n ∙ ap (option_map (fact_at types)) there)

    scopes : new.scopes.items ≡ scope_kinds all
    scopes = is.scopes ∙ ap (λ (kinds : List ScopeKind). kinds ++ kinds_in (fact_at types fact).what) before.scopes ∙ sym (ap scope_kinds ends ∙ kinds_last (take n all) (fact_at types fact))

    layouts : layout_in old.classes.items ≡ layouts_of (take n all)
    layouts = fun_ext before.classes

    classes : (class : ℕ) → layout_in new.classes.items class ≡ layouts_of all class
    classes class = is.classes class ∙ ap (λ (kinds : List ScopeKind). noted_by kinds (enumerations_in all) (layout_in old.classes.items) (fact_at types fact) class) scopes ∙ ap (λ (f : ℕ → Layout). noted_by (scope_kinds all) (enumerations_in all) f (fact_at types fact) class) layouts ∙ sym (ap (λ (f : ℕ → Layout). f class) (layouts_last all (take n all) (fact_at types fact) ends))

noted_same : (all : List CxxFact) (old new : Layouts) → Notes old all → AreSameKept old new → Notes new all
noted_same all old new before same = record { scopes = same.scopes ∙ before.scopes; classes = λ n. same.classes n ∙ before.classes n }

on_ok : {E : Type 0} (result : Result Unit E) (P Q : Type 0) → (P → Q) → OnOk result P → OnOk result Q
on_ok (Ok x) P Q f p = f p
on_ok (Err e) P Q f p = tt

on_err : {E : Type 0} (result : Result Unit E) (P Q : Type 0) → (P → Q) → OnErr result P → OnErr result Q
on_err (Ok x) P Q f p = tt
on_err (Err e) P Q f p = f p

pub noted_ok : {E : Type 0} (result : Result Unit E) (types : List CxxType) (raw : List Fact) (n : ℕ) (fact : Fact) (old new : Layouts) → n + 1 ≡ length raw → slice_get raw n ≡ Some fact → Notes old (take n (facts_at types raw)) → OnOk result (IsNoted (facts_at types raw) (fact_at types fact) old new) → OnOk result (Notes new (facts_at types raw))
noted_ok result types raw n fact old new last there before is = on_ok result (IsNoted (facts_at types raw) (fact_at types fact) old new) (Notes new (facts_at types raw)) (λ one. noted_more types raw n fact old new last there before one) is

pub noted_err : {E : Type 0} (result : Result Unit E) (all : List CxxFact) (old new : Layouts) → Notes old all → OnErr result (AreSameKept old new) → OnErr result (Notes new all)
noted_err result all old new before same = on_err result (AreSameKept old new) (Notes new all) (noted_same all old new before) same

pub object_extent_is : (graph : CxxGraph) (kept : Layouts) (t : CxxType) → Notes kept graph.facts → extent_of (extents_in kept.classes.items) (enumerations_in graph.facts) t ≡ object_extent graph t
unfolding object_extent
object_extent_is graph kept t before = ap (λ (f : ℕ → Sized). extent_of f (enumerations_in graph.facts) t) (fun_ext (λ n. ap class_extent (before.classes n)))
