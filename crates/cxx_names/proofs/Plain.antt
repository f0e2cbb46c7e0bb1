-- One more declaration of those that a unit makes today.
use Rattle.std.proofs.Common.{List, [], ◌∷◌, ◌++◌}
use Rattle.cxx_model.specs.declared.facts.Entity.{Entity}
use Rattle.cxx_model.specs.declared.facts.Entity.TheVariants as entity
use Rattle.cxx_model.specs.declared.facts.Fact.{Fact}
use Rattle.cxx_names.specs.Clashes.{IsPlain, IsPlainEntity}
use Rattle.cxx_names.specs.Plain.{ArePlain, IsPlainFact}

pub plain_more : (facts : List Fact) (fact : Fact) → ArePlain facts → IsPlainFact fact.what → ArePlain (facts ++ fact ∷ [])
plain_more [] fact all one = (one, tt)
plain_more (first ∷ facts) fact all one = (all.0, plain_more facts fact all.1 one)

plain_entity : (what : Entity) → IsPlainEntity what → IsPlainFact what
plain_entity (entity.Template _ _ _ _ _) is = is
plain_entity (entity.Parameter _ _ _) is = is
plain_entity (entity.Passed _) is = is
plain_entity _ is = tt

-- a new declaration that is tested for conflicts is one of them
pub plain_fact : (fact : Fact) → IsPlain fact → IsPlainFact fact.what
plain_fact fact plain = plain_entity fact.what plain.what
