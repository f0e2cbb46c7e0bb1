-- A test that tells whether two types are the same is the test of types.
use Rattle.std.specs.Prelude.{Bool, true, false, IsTrue, ◌≡◌, ◌↔◌, refl}
use Rattle.std.proofs.Common.{sym, ◌∙◌}
use Rattle.cxx_model.specs.Types.Same.{same_type}
use Rattle.cxx_model.specs.Types.Trees.{CxxType}
use Rattle.cxx_model.proofs.SameTypes.{type_told, type_tells}

pub told : (b : Bool) (t u : CxxType) → IsTrue b ↔ (t ≡ u) → b ≡ same_type t u
told true t u tells = sym (type_tells t u (tells.0 refl))
told false t u tells = by (same_type t u) refl
  where
    by : (b : Bool) → same_type t u ≡ b → false ≡ same_type t u
    by true e = tells.1 (type_told t u e) ∙ sym e
    by false e = sym e
