-- Declarations that are linked.
use Rattle.std.specs.Prelude.{ℕ, ◌≡◌, List, Result}
use Rattle.std.proofs.Common.{subst}
use Rattle.cxx_model.specs.declared.facts.Fact.{Fact}
use Rattle.cxx_model.specs.declared.facts.Name.TheVariants as name
use Rattle.cxx_model.specs.declared.place.Place.{Place}
use Rattle.cxx_model.specs.declared.stop.Stop.{Stop}
use Rattle.cxx_model.specs.declared.token.TokenKind.{TokenKind}
use Rattle.cxx_model.specs.declared.types.FactId.{FactId}
use Rattle.cxx_model.specs.Facts.Declarations.{CxxFact, fact_at, spelled}
use Rattle.cxx_model.specs.Stops.{◌>>=◌}
use Rattle.cxx_model.specs.Types.Trees.{CxxType}
use Rattle.cxx_reading.specs.Declaring.{declare_linked_object, fact_here, linked_object_here}
use Rattle.cxx_declare.specs.Made.{linked_by, token, word_in}
use Rattle.cxx_tree.specs.Answered.{IsAnswered, IsFactKnown, fact_number}
use Rattle.cxx_tree.specs.Held.{Held, meaning}

pub object_linked : (old new : Held) (kind : TokenKind) (place : Place) (word : List ℕ) (of : CxxType) (fact : Fact) (r : Result FactId Stop) → fact_at old.types fact ≡ fact_here (meaning old) (spelled word) place (linked_object_here (meaning old) (spelled word) of) → fact.name ≡ name.Spelled word
    → IsAnswered fact_number IsFactKnown old new r (linked_by (fact_at old.types fact) (word_in fact.name) (meaning old)) → IsAnswered fact_number IsFactKnown old new r (declare_linked_object (token kind place word) of (meaning old))
unfolding declare_linked_object
object_linked old new kind place word of fact r is named answered =
    subst (λ (w : CxxFact). IsAnswered fact_number IsFactKnown old new r (linked_by w word (meaning old))) is
    (subst (λ n. IsAnswered fact_number IsFactKnown old new r (linked_by (fact_at old.types fact) (word_in n) (meaning old))) named answered)
