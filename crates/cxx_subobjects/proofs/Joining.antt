-- The first two paths of each class.
use Rattle.std.proofs.Common.{ℕ, ◌≡◌, ◌≤◌, Bool, true, false, cond, nat_eq, List, [], ◌∷◌, ◌++◌, length, Option, Some, None, refl, ap, sym, subst, ◌∙◌, arith}
use Rattle.std.specs.Prelude.{if◌then◌else◌}
use Rattle.std.specs.BTreeMap.{is_at}
use Rattle.std.specs.Ordering.{nat_cmp}
use Rattle.std.proofs.lemmas.List.{append-nil}
use Rattle.std.proofs.lemmas.Bool.{eqb-true}
use Rattle.std.proofs.lemmas.Bool.Decides.{nat_tests}
use Rattle.cxx_model.specs.declared.facts.Fact.{Fact}
use Rattle.cxx_subobjects.specs.declared.bases.Subobjects.{Subobjects}
use Rattle.cxx_subobjects.specs.declared.bases.Subobjects.TheVariants as found
use Rattle.cxx_subobjects.specs.declared.direct.DirectBase.{DirectBase}
use Rattle.cxx_subobjects.specs.declared.steps.Step.{Step}
use Rattle.cxx_subobjects.specs.declared.table.Kept.{Kept}
use Rattle.cxx_subobjects.specs.declared.table.Kept.TheVariants as kept
use Rattle.cxx_subobjects.specs.Direct.{through_base}
use Rattle.cxx_subobjects.specs.Paths.{behind_all, first_two}
use Rattle.cxx_subobjects.specs.Reached.{along}
use Rattle.cxx_subobjects.specs.Steps.{AreEarlier, Grows, path_at, paths_after, paths_of}
use Rattle.cxx_subobjects.specs.Table.{AreKnown, IsKnown, IsTable, behind, entry_in, entry_of, joined, kept_at, own_kept}

-- ---- the first two of some lists

joined_is : (xs ys : List (List ℕ)) → joined (first_two xs) (first_two ys) ≡ first_two (xs ++ ys)
joined_is [] ys = refl
joined_is (x ∷ []) [] = refl
joined_is (x ∷ []) (y ∷ []) = refl
joined_is (x ∷ []) (y ∷ z ∷ ys) = refl
joined_is (x ∷ y ∷ xs) ys = refl

behind_is : (index : ℕ) (xs : List (List ℕ)) → behind index (first_two xs) ≡ first_two (behind_all index xs)
behind_is index [] = refl
behind_is index (x ∷ []) = refl
behind_is index (x ∷ y ∷ xs) = refl

-- ---- what is kept

pub kept_stays : (old new : List Step) (kept : Kept) → Grows old new → IsKnown (length old) kept → kept_at (paths_of new) kept ≡ kept_at (paths_of old) kept
kept_stays old new kept.None grows known = refl
kept_stays old new (kept.One n) grows known = ap (λ p. found.One p) (grows.same n known)
kept_stays old new (kept.Several m n) grows known =
    ap (λ p. found.Several p (path_at (paths_of new) n)) (grows.same m known.0) ∙ ap (λ p. found.Several (path_at (paths_of old) m) p) (grows.same n known.1)

pub known_stays : (least count : ℕ) (kept : Kept) → least ≤ count → IsKnown least kept → IsKnown count kept
known_stays least count kept.None le known = tt
known_stays least count (kept.One n) le known = omega arith
known_stays least count (kept.Several m n) le known = (omega (arith, known.0), omega (arith, known.1))

own_known : (count class base : ℕ) → IsKnown count (own_kept class base)
own_known count class base = by (nat_eq class base)
  where
    by : (b : Bool) → IsKnown count (if b then kept.One 0 else kept.None)
    by true = omega arith
    by false = tt

pub entry_known : (steps : List Step) (entries : ℕ → Option Kept) (base class : ℕ) → AreKnown steps entries → IsKnown (length steps) (entry_of base entries class)
entry_known steps entries base class known = by (entries class) refl
  where
    by : (o : Option Kept) → entries class ≡ o → IsKnown (length steps) (entry_in base class o)
    by None e = own_known (length steps) class base
    by (Some kept) e = known.known class kept e

-- ---- one more entry

at_is : (k q : ℕ) → is_at (nat_cmp k) q ≡ nat_eq k q
at_is k q = grind (arith, nat_tests)

abbrev Puts : (ℕ → Option Kept) → (ℕ → Option Kept) → ℕ → Kept → Type 0
Puts old new k kept = (q : ℕ) → new q ≡ cond (is_at (nat_cmp k) q) (Some kept) (old q)

put_here : (old new : ℕ → Option Kept) (k q : ℕ) (kept : Kept) → Puts old new k kept → nat_eq k q ≡ true → new q ≡ Some kept
put_here old new k q kept puts is = puts q ∙ ap (λ b. cond b (Some kept) (old q)) (at_is k q ∙ is)

put_apart : (old new : ℕ → Option Kept) (k q : ℕ) (kept : Kept) → Puts old new k kept → nat_eq k q ≡ false → new q ≡ old q
put_apart old new k q kept puts is = puts q ∙ ap (λ b. cond b (Some kept) (old q)) (at_is k q ∙ is)

pub known_more : (steps more : List Step) (old new : ℕ → Option Kept) (k : ℕ) (kept : Kept) → AreKnown steps old → Grows steps more → (AreEarlier steps → AreEarlier more) → Puts old new k kept → IsKnown (length more) kept → AreKnown more new
known_more steps more old new k kept known grows earlier puts is = record {
  earlier = earlier known.earlier;
  known = λ q other e. by q other e (nat_eq k q) refl;
}
  where
    by : (q : ℕ) (other : Kept) → new q ≡ Some other → (b : Bool) → nat_eq k q ≡ b → IsKnown (length more) other
    by q other e true t = (let same : kept ≡ other = some_is kept other (sym (put_here old new k q kept puts t) ∙ e) in subst (λ (x : Kept). IsKnown (length more) x) same is)
      where
        some_is : (x y : Kept) → Some x ≡ Some y → x ≡ y
        some_is x y h = cc
    by q other e false t = known_stays (length steps) (length more) other grows.more (known.known q other (sym (put_apart old new k q kept puts t) ∙ e))

pub table_more : (base : ℕ) (steps more : List Step) (old new : ℕ → Option Kept) (direct : DirectBase) (longer kept : Kept) (paths : ℕ → List (List ℕ)) → AreKnown steps old → Grows steps more → Puts old new direct.class.0 kept
    → kept_at (paths_of more) longer ≡ behind direct.index (kept_at (paths_of steps) (entry_of base old direct.parent.0))
    → kept_at (paths_of more) kept ≡ joined (kept_at (paths_of more) (entry_of base old direct.class.0)) (kept_at (paths_of more) longer)
    → IsTable base steps old paths → IsTable base more new (λ class. paths class ++ through_base paths class (Some direct))
table_more base steps more old new direct longer kept paths known grows puts through join table q = by (nat_eq direct.class.0 q) refl
  where
    by : (b : Bool) → nat_eq direct.class.0 q ≡ b → kept_at (paths_of more) (entry_of base new q) ≡ first_two (paths q ++ (if b then behind_all direct.index (paths direct.parent.0) else []))
    by true t =
        let same : direct.class.0 ≡ q = eqb-true direct.class.0 q t in
        let own : kept_at (paths_of more) (entry_of base old direct.class.0) ≡ first_two (paths direct.class.0) = kept_stays steps more (entry_of base old direct.class.0) grows (entry_known steps old base direct.class.0 known) ∙ table direct.class.0 in
        let behind_it : kept_at (paths_of more) longer ≡ first_two (behind_all direct.index (paths direct.parent.0)) = through ∙ ap (behind direct.index) (table direct.parent.0) ∙ behind_is direct.index (paths direct.parent.0) in
        ap (λ (o : Option Kept). kept_at (paths_of more) (entry_in base q o)) (put_here old new direct.class.0 q kept puts t) ∙ join ∙ ap (λ (s : Subobjects). joined s (kept_at (paths_of more) longer)) own ∙ ap (joined (first_two (paths direct.class.0))) behind_it ∙ joined_is (paths direct.class.0) (behind_all direct.index (paths direct.parent.0)) ∙ ap (λ (n : ℕ). first_two (paths n ++ behind_all direct.index (paths direct.parent.0))) same
    by false t =
        ap (λ (o : Option Kept). kept_at (paths_of more) (entry_in base q o)) (put_apart old new direct.class.0 q kept puts t) ∙ kept_stays steps more (entry_of base old q) grows (entry_known steps old base q known) ∙ table q ∙ ap first_two (sym (append-nil (paths q)))

-- ---- the numbers of what is known of a class

pub one_known : (steps same : List Step) (entries : ℕ → Option Kept) (base class n : ℕ) → AreKnown steps entries → same ≡ steps → kept.One n ≡ entry_of base entries class → n ≤ length same
one_known steps same entries base class n known is at =
    let all : IsKnown (length steps) (kept.One n) = subst (λ (k : Kept). IsKnown (length steps) k) (sym at) (entry_known steps entries base class known) in
    subst (λ (s : List Step). n ≤ length s) (sym is) all

pub several_known : (steps same : List Step) (entries : ℕ → Option Kept) (base class m n : ℕ) → AreKnown steps entries → same ≡ steps → kept.Several m n ≡ entry_of base entries class → (m ≤ length same) × (n ≤ length same)
several_known steps same entries base class m n known is at =
    let all : IsKnown (length steps) (kept.Several m n) = subst (λ (k : Kept). IsKnown (length steps) k) (sym at) (entry_known steps entries base class known) in
    subst (λ (s : List Step). (m ≤ length s) × (n ≤ length s)) (sym is) all

pub table_empty : (base : ℕ) (steps : List Step) (entries : ℕ → Option Kept) (facts : List Fact) (order : List ℕ) → steps ≡ [] → ((class : ℕ) → entries class ≡ None) → order ≡ [] → IsTable base steps entries (along facts base order)
unfolding paths_of paths_after
table_empty base steps entries facts order none nothing begun class =
    ap (λ (o : Option Kept). kept_at (paths_of steps) (entry_in base class o)) (nothing class) ∙ ap (λ (s : List Step). kept_at (paths_of s) (own_kept class base)) none ∙ by (nat_eq class base) ∙ ap (λ (ks : List ℕ). first_two (along facts base ks class)) (sym begun)
  where
    by : (b : Bool) → kept_at ([] ∷ []) (if b then kept.One 0 else kept.None) ≡ first_two (if b then [] ∷ [] else [])
    by true = refl
    by false = refl

pub known_empty : (steps : List Step) (entries : ℕ → Option Kept) → steps ≡ [] → ((class : ℕ) → entries class ≡ None) → AreKnown steps entries
known_empty steps entries none nothing = record {
  earlier = λ n step lt. (let e : length steps ≡ 0 = ap length none in absurd (omega arith));
  known = λ class kept is. absurd (some_none kept (sym is ∙ nothing class));
}
  where
    some_none : (x : Kept) → Some x ≡ None → ⊥
    some_none x h = cc
