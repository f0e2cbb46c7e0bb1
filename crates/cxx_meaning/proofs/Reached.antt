-- What is counted as reached is reached by directives.
use Rattle.std.proofs.Common.{◌≡◌, ℕ, zero, suc, ◌+◌, Bool, true, false, cond, List, [], ◌∷◌, ◌++◌, length, Option, Some, None, refl, sym, subst, inl, inr, arith}
use Rattle.std.specs.List.{Contains, slice_get}
use Rattle.std.proofs.lemmas.List.Elements.{Contains-append_cases}
use Rattle.std.proofs.lemmas.Option.{slice_get_within, get_or_from_slice_get}
use Rattle.cxx_model.specs.declared.types.ScopeId.{ScopeId}
use Rattle.cxx_model.proofs.Champion.{first_or_later, later_of}
use Rattle.cxx_meaning.specs.Lookups.Directives.{EachIsReached, IsReached, Directly, Further, nominated, reached}
use Rattle.cxx_meaning.specs.Lookups.Gathered.{holds_scope, spread, with_scope, with_scopes}

abbrev pub AllAre : (ScopeId → Type 0) → List ScopeId → Type 0
AllAre p xs = (n : ScopeId) → Contains xs n → p n

pub all_of_one : (p : ScopeId → Type 0) (one n : ScopeId) → p one → Contains (one ∷ []) n → p n
all_of_one p one n h m = elim (first_or_later one [] n m) [
  | inl here ↦ subst p here h
  | inr there ↦ absurd (omega (arith, there.1))
]

all_with_scope : (p : ScopeId → Type 0) (xs : List ScopeId) (one : ScopeId) → AllAre p xs → p one → AllAre p (with_scope xs one)
all_with_scope p xs one all h = by (holds_scope xs one)
  where
    by : (t : Bool) → AllAre p (cond t xs (xs ++ one ∷ []))
    by true = all
    by false = λ n m. elim (Contains-append_cases xs (one ∷ []) n m) [
      | inl before ↦ all n before
      | inr last ↦ all_of_one p one n h last
    ]

all_with_scopes : (p : ScopeId → Type 0) (xs ys : List ScopeId) → AllAre p xs → AllAre p ys → AllAre p (with_scopes xs ys)
unfolding with_scopes
all_with_scopes p xs [] all more = all
all_with_scopes p xs (y ∷ ys) all more = all_with_scopes p (with_scope xs y) ys (all_with_scope p xs y all (more y (0, omega arith, refl))) (λ n m. more n (later_of y ys n m))

at_place : (xs : List ScopeId) (place : ℕ) (one : ScopeId) → slice_get xs place ≡ Some one → Contains xs one
at_place xs place one e = (place, slice_get_within xs place one e, get_or_from_slice_get xs place one one e)

spread_none : (next : ScopeId → List ScopeId) (room place : ℕ) (found : List ScopeId) → slice_get found place ≡ None → spread next (suc room) place found ≡ found
unfolding spread
spread_none next room place found e = rw e refl

spread_some : (next : ScopeId → List ScopeId) (room place : ℕ) (found : List ScopeId) (one : ScopeId) → slice_get found place ≡ Some one → spread next (suc room) place found ≡ spread next room (place + 1) (with_scopes found (next one))
unfolding spread
spread_some next room place found one e = rw e refl

spread_zero : (next : ScopeId → List ScopeId) (place : ℕ) (found : List ScopeId) → spread next zero place found ≡ found
unfolding spread
spread_zero next place found = refl

pub all_spread : (p : ScopeId → Type 0) (next : ScopeId → List ScopeId) (room place : ℕ) (found : List ScopeId) → ((m : ScopeId) → p m → AllAre p (next m)) → AllAre p found → AllAre p (spread next room place found)
all_spread p next zero place found closed all = subst (AllAre p) (sym (spread_zero next place found)) all
all_spread p next (suc room) place found closed all = by (slice_get found place) refl (λ more. all_spread p next room (place + 1) more closed)
  where
    by : (o : Option ScopeId) → slice_get found place ≡ o → ((more : List ScopeId) → AllAre p more → AllAre p (spread next room (place + 1) more)) → AllAre p (spread next (suc room) place found)
    by None e go_on = subst (AllAre p) (sym (spread_none next room place found e)) all
    by (Some one) e go_on = subst (AllAre p) (sym (spread_some next room place found one e)) (go_on (with_scopes found (next one)) (all_with_scopes p found (next one) all (closed one (all one (at_place found place one e)))))

pub each_is_reached : EachIsReached
unfolding reached
each_is_reached all cut from n m =
    all_spread (IsReached all cut from) (nominated all cut) (length all) 0 (with_scopes [] (nominated all cut from)) (λ m h k there. Further m k h there) (all_with_scopes (IsReached all cut from) [] (nominated all cut from) (λ k there. absurd (omega (arith, there.1))) (λ k there. Directly k there)) n m
