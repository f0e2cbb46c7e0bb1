-- Values that are kept by their order, beside the list of them.
use Rattle.std.specs.Prelude.{ℤ, ◌≡◌, ◌++◌, ◌||◌, cond, Bool, true, false, List, [], ◌∷◌, refl}
use Rattle.std.specs.List.{list_any}
use Rattle.std.specs.Ordering.{int_eq}
use Rattle.std.specs.BTreeSet.{BTreeSet, Updates}
use Rattle.std.proofs.Common.{ap, sym, ◌∙◌, int_cmp}
use Rattle.cxx_statements.specs.Known.{AreKnown}
use Rattle.cxx_statements.specs.Statements.{has_value}

pub none_known : (known : List ℤ) → known ≡ [] → AreKnown known []
none_known known e = record { same = λ value. ap (list_any (int_eq value)) e }

or_false : (b : Bool) → (b || false) ≡ b
or_false true = refl
or_false false = refl

or_assoc : (a b c : Bool) → (a || (b || c)) ≡ ((a || b) || c)
or_assoc true b c = refl
or_assoc false b c = refl

or_cond : (a b : Bool) → (a || b) ≡ cond b true a
or_cond true true = refl
or_cond true false = refl
or_cond false true = refl
or_cond false false = refl

has_more : (value : ℤ) (all : List ℤ) (one : ℤ) → has_value value (all ++ one ∷ []) ≡ (has_value value all || int_eq one value)
has_more value [] one = or_false (int_eq one value)
has_more value (x ∷ xs) one = ap (λ b. int_eq x value || b) (has_more value xs one) ∙ or_assoc (int_eq x value) (has_value value xs) (int_eq one value)

pub one_known : (old new : BTreeSet ℤ) (all : List ℤ) (one : ℤ) → AreKnown old.keys all → Updates int_cmp old new one true → AreKnown new.keys (all ++ one ∷ [])
one_known old new all one known more = record {
  same = λ value. more.0 value ∙ ap (λ b. cond (int_eq one value) true b) (known.same value) ∙ sym (or_cond (has_value value all) (int_eq one value)) ∙ sym (has_more value all one);
}
