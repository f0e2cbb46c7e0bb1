-- Types of functions, but for the words behind their parameters.
use Rattle.std.specs.Prelude.{ℕ, ◌≡◌, ◌<◌, ◌&&◌, Bool, false, List, length, refl}
use Rattle.std.proofs.Common.{ap, sym, subst, ◌∙◌, arith}
use Rattle.cxx_model.specs.declared.facts.MemberKind.TheVariants.{Nonstatic}
use Rattle.cxx_model.specs.declared.types.Cv.{Cv}
use Rattle.cxx_model.specs.declared.types.TypeId.{TypeId}
use Rattle.cxx_model.specs.declared.types.TypeNode.{TypeNode}
use Rattle.cxx_model.specs.declared.types.TypeNode.TheVariants as node
use Rattle.cxx_model.specs.Types.Numbers.{IsNodeBelow, type_at, type_over, types_at}
use Rattle.cxx_model.specs.Types.Same.{same_bool, same_cv, same_type, same_types}
use Rattle.cxx_model.specs.Types.Trees.{CxxType}
use Rattle.cxx_declare.specs.Outside.{worded}

pub both_functions : (types : List CxxType) (cv : Cv) (one two : CxxType) (r r' : TypeId) (ones twos : List TypeId) (first second : Bool) (words other : Cv) → type_over types (node.Function r ones first words) ≡ one → type_over types (node.Function r' twos second other) ≡ two
    → same_type one (worded Nonstatic cv two) ≡ (same_type (type_at types r.0) (type_at types r'.0) && (same_types (types_at types ones) (types_at types twos) && (same_bool first second && same_cv words cv)))
both_functions types cv one two r r' ones twos first second words other e f = ap (λ t. same_type t (worded Nonstatic cv two)) (sym e) ∙ ap (λ t. same_type (type_over types (node.Function r ones first words)) (worded Nonstatic cv t)) (sym f)

no_function : (types : List CxxType) (cv : Cv) (n : TypeNode) (r : TypeId) (ts : List TypeId) (e : Bool) (own : Cv) → ((r : TypeId) (ts : List TypeId) (e : Bool) (cv : Cv) → n ≡ node.Function r ts e cv → ⊥) → same_type (type_over types n) (worded Nonstatic cv (type_over types (node.Function r ts e own))) ≡ false
no_function types cv (node.Function r' ts' e' cv') r ts e own h = absurd (h r' ts' e' cv' refl)
no_function types cv _ r ts e own h = refl

pub one_no_function : (types : List CxxType) (cv : Cv) (n : TypeNode) (one two : CxxType) (r : TypeId) (ts : List TypeId) (e : Bool) (own : Cv) → type_over types n ≡ one → type_over types (node.Function r ts e own) ≡ two → ((r : TypeId) (ts : List TypeId) (e : Bool) (cv : Cv) → n ≡ node.Function r ts e cv → ⊥) → same_type one (worded Nonstatic cv two) ≡ false
one_no_function types cv n one two r ts e own p q h = ap (λ t. same_type t (worded Nonstatic cv two)) (sym p) ∙ (ap (λ t. same_type (type_over types n) (worded Nonstatic cv t)) (sym q) ∙ no_function types cv n r ts e own h)

no_words : (types : List CxxType) (cv : Cv) (n : TypeNode) → ((r : TypeId) (ts : List TypeId) (e : Bool) (cv : Cv) → n ≡ node.Function r ts e cv → ⊥) → worded Nonstatic cv (type_over types n) ≡ type_over types n
no_words types cv (node.Function r ts e own) h = absurd (h r ts e own refl)
no_words types cv _ h = refl

pub two_no_function : (types : List CxxType) (cv : Cv) (n : TypeNode) (one two : CxxType) → type_over types n ≡ two → ((r : TypeId) (ts : List TypeId) (e : Bool) (cv : Cv) → n ≡ node.Function r ts e cv → ⊥) → same_type one two ≡ same_type one (worded Nonstatic cv two)
two_no_function types cv n one two p h = sym (subst (λ t. same_type one (worded Nonstatic cv t) ≡ same_type one t) p (ap (same_type one) (no_words types cv n h)))

pub result_below : (number count : ℕ) (r : TypeId) (parameters : List TypeId) (ellipsis : Bool) (cv : Cv) → IsNodeBelow number (node.Function r parameters ellipsis cv) → number < count → r.0 < count
result_below number count r parameters ellipsis cv below lt = omega (arith, below.0, lt)
