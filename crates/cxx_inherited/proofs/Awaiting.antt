-- A class whose end was read is not pending.
use Rattle.std.proofs.Common.{◌≡◌, ℕ, Bool, true, false, ◌||◌, List, [], ◌∷◌, Option, Some, None, refl, nat_eq}
use Rattle.std.specs.List.{list_any, slice_get}
use Rattle.cxx_model.specs.declared.facts.Entity.{Entity}
use Rattle.cxx_model.specs.declared.facts.Entity.TheVariants as entity
use Rattle.cxx_model.specs.declared.facts.Fact.{Fact}
use Rattle.cxx_model.specs.Facts.Declarations.{CxxSpecialisation, classes_at, declares_at, facts_at, graph_at}
use Rattle.cxx_model.specs.Facts.Graph.{Graph, completes, is_complete}
use Rattle.cxx_model.specs.Facts.Pending.{begins_or_ends, is_pending}
use Rattle.cxx_model.specs.Types.Trees.{CxxType}

either_right : (a b : Bool) → b ≡ true → (a || b) ≡ true
either_right true b h = refl
either_right false b h = h

ended : (types : List CxxType) (n : ℕ) (facts : List Fact) → is_complete facts n ≡ true → list_any (λ fact. begins_or_ends n fact.what) (facts_at types facts) ≡ true
ended types n [] e = absurd cc
ended types n (fact ∷ facts) e = by fact.what (ended types n facts) e
  where
    later : Bool
    later = list_any (λ one. begins_or_ends n one.what) (facts_at types facts)

    one : (t : Bool) → (is_complete facts n ≡ true → later ≡ true) → (t || is_complete facts n) ≡ true → (t || later) ≡ true
    one true rest h = refl
    one false rest h = rest h

    by : (what : Entity) → (is_complete facts n ≡ true → later ≡ true) → (completes n (record fact { what = what }) || is_complete facts n) ≡ true → (begins_or_ends n (declares_at types what) || later) ≡ true
    by (entity.Complete class) rest h = one (nat_eq class.0 n) rest h
    by (entity.Scope parent kind) rest h = either_right (begins_or_ends n (declares_at types (entity.Scope parent kind))) later (rest h)
    by _ rest h = rest h

pub never_pending : (types : List CxxType) (graph : Graph) (n : ℕ) → is_complete graph.facts n ≡ true → is_pending (graph_at types graph) n ≡ false
unfolding is_pending
never_pending types graph n e = by (slice_get (classes_at types graph.classes) n) refl
  where
    by : (o : Option (Option CxxSpecialisation)) → slice_get (classes_at types graph.classes) n ≡ o → is_pending (graph_at types graph) n ≡ false
    by None h = rw h refl
    by (Some None) h = rw h refl
    by (Some (Some of)) h = rw (h, ended types n graph.facts e) refl
