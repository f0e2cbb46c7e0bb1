-- The innermost namespace of a scope, by its chain.
use Rattle.std.proofs.Common.{◌≡◌, ℕ, zero, suc, ◌+◌, ◌-◌, ◌<◌, ◌≤◌, Bool, true, false, cond, eqb, List, [], ◌∷◌, refl, ap, ◌∙◌, eq-eqb, arith}
use Rattle.std.proofs.lemmas.Bool.{eqb-true}
use Rattle.cxx_model.specs.declared.types.ScopeId.{ScopeId}
use Rattle.cxx_model.specs.Facts.Declarations.{CxxFact}
use Rattle.cxx_model.specs.Facts.Entities.{is_space}
use Rattle.cxx_meaning.specs.Lookups.Scopes.{first_space, home, kind_of, parent_of, unit_scope, up}

up_more : (all : List CxxFact) (room done : ℕ) (scope : ScopeId) → done < room → (scope.0 ≡ 0 → ⊥) → up all (room - done) scope ≡ scope ∷ up all (room - (done + 1)) (parent_of all scope)
unfolding up
up_more all room done scope lt ne =
    let k : room - done ≡ suc (room - (done + 1)) = omega arith in
    let h : eqb scope.0 0 ≡ false = other (eqb scope.0 0) refl in
    rw (k, h) refl
  where
    other : (t : Bool) → eqb scope.0 0 ≡ t → eqb scope.0 0 ≡ false
    other true h = absurd (ne (eqb-true scope.0 0 h))
    other false h = h

up_unit : (all : List CxxFact) (room : ℕ) (scope : ScopeId) → scope.0 ≡ 0 → up all room scope ≡ scope ∷ []
unfolding up
up_unit all zero scope e = refl
up_unit all (suc room) scope e = let h : eqb scope.0 0 ≡ true = eq-eqb scope.0 0 e in rw h refl

first_here : (all : List CxxFact) (scope : ScopeId) (others : List ScopeId) → is_space (kind_of all scope) ≡ true → first_space all (scope ∷ others) ≡ scope
unfolding first_space
first_here all scope others e = rw e refl

first_later : (all : List CxxFact) (scope : ScopeId) (others : List ScopeId) → is_space (kind_of all scope) ≡ false → first_space all (scope ∷ others) ≡ first_space all others
unfolding first_space
first_later all scope others e = rw e refl

first_none : (all : List CxxFact) → first_space all [] ≡ unit_scope
unfolding first_space
first_none all = refl

pub home_here : (all : List CxxFact) (room : ℕ) (now : ScopeId) → is_space (kind_of all now) ≡ true → first_space all (up all room now) ≡ now
unfolding up
home_here all zero now e = first_here all now [] e
home_here all (suc room) now e = first_here all now (cond (eqb now.0 0) [] (up all room (parent_of all now))) e

pub home_unit : (all : List CxxFact) (room : ℕ) (now : ScopeId) → is_space (kind_of all now) ≡ false → now.0 ≡ 0 → first_space all (up all room now) ≡ unit_scope
home_unit all room now e zero-now = ap (first_space all) (up_unit all room now zero-now) ∙ (first_later all now [] e ∙ first_none all)

pub home_up : (all : List CxxFact) (room done : ℕ) (now : ScopeId) → done < room → is_space (kind_of all now) ≡ false → (now.0 ≡ 0 → ⊥) → first_space all (up all (room - done) now) ≡ first_space all (up all (room - (done + 1)) (parent_of all now))
home_up all room done now lt e ne = ap (first_space all) (up_more all room done now lt ne) ∙ first_later all now (up all (room - (done + 1)) (parent_of all now)) e

pub home_last : (all : List CxxFact) (room done : ℕ) (now : ScopeId) → room ≤ done → is_space (kind_of all now) ≡ false → first_space all (up all (room - done) now) ≡ unit_scope
unfolding up
home_last all room done now le e =
    let k : room - done ≡ 0 = omega arith in
    ap (λ m. first_space all (up all m now)) k ∙ (first_later all now [] e ∙ first_none all)

pub home_first : (all : List CxxFact) (scope : ScopeId) → first_space all (up all (scope.0 - 0) scope) ≡ home all scope
home_first all scope = let k : scope.0 - 0 ≡ scope.0 = omega arith in ap (λ m. first_space all (up all m scope)) k
