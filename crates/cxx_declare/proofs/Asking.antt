-- What names mean to a reader.
use Rattle.std.specs.Prelude.{ℕ, ◌≡◌, ◌<◌, List, Option, Some, None, option_map, Result, Ok, IfSome, refl}
use Rattle.std.proofs.Common.{ap, sym, subst, ◌∙◌}
use Rattle.cxx_model.specs.declared.place.Place.{Place}
use Rattle.cxx_model.specs.declared.stop.Stop.{Stop}
use Rattle.cxx_model.specs.declared.token.TokenKind.{TokenKind}
use Rattle.cxx_model.specs.declared.tree.Kind.{Kind}
use Rattle.cxx_model.specs.declared.types.EnumId.{EnumId}
use Rattle.cxx_model.specs.declared.types.TypeId.{TypeId}
use Rattle.cxx_model.specs.Facts.Declarations.{CxxGraph, graph_at, spelled}
use Rattle.cxx_model.specs.Facts.Fitted.{Fitted}
use Rattle.cxx_model.specs.Facts.Graph.{Graph, InRange, enumerations}
use Rattle.cxx_names.specs.Looked.{enumeration_number}
use Rattle.cxx_reading.specs.Declaring.{enumeration_in, kind_here, type_here}
use Rattle.cxx_reading.specs.Paths.{found_of, region_by, region_of, sought_in}
use Rattle.cxx_reading.specs.Seen.{Numbered, found as found_from, kind_of_found, numbered_at, sought_from, type_in}
use Rattle.cxx_reading.specs.Specifiers.{path_of}
use Rattle.cxx_reading.specs.Trees.{CxxPath}
use Rattle.cxx_declare.specs.Made.{IsTypeThere, token}
use Rattle.cxx_tree.specs.Answered.{AnyKnown, IsAnswered, itself}
use Rattle.cxx_tree.specs.Held.{Held, meaning, type_of}
use Rattle.cxx_tree.proofs.Graphs.{enumeration_found}
use Rattle.cxx_tree.proofs.Steps.{Later_refl}

-- ---- kinds and types

-- 3.4.1: a name without qualifiers is looked up outward
pub found_plain : (graph : CxxGraph) (scope : ℕ) (kind : TokenKind) (place : Place) (word : List ℕ) → found_of graph scope (path_of (token kind place word)) ≡ found_from graph scope (spelled word)
unfolding found_of region_of region_by sought_in found_from sought_from
found_plain graph scope kind place word = refl

pub kind_answered : (held : Held) (kind : TokenKind) (place : Place) (word : List ℕ) (k : Kind) → k ≡ kind_of_found (meaning held).graph (found_from (meaning held).graph (meaning held).here.scope (spelled word)) → IsAnswered itself AnyKnown held held (Ok k) (kind_here (path_of (token kind place word)) (meaning held))
unfolding kind_here
kind_answered held kind place word k is = record {
  is = (ap (λ (c : Kind). Ok (c, meaning held)) (ap (kind_of_found (meaning held).graph) (found_plain (meaning held).graph (meaning held).here.scope kind place word) ∙ sym is), tt);
  later = Later_refl held;
}

pub type_there : (old new : Held) (path : CxxPath) (all : List Numbered) (r : Result TypeId Stop) → all ≡ found_of (meaning old).graph (meaning old).here.scope path → IsAnswered type_of IsTypeThere old new r (Ok (type_in all, meaning old)) → IsAnswered type_of IsTypeThere old new r (type_here path (meaning old))
unfolding type_here
type_there old new path all r is answered = subst (λ (some : List Numbered). IsAnswered type_of IsTypeThere old new r (Ok (type_in some, meaning old))) is answered

pub type_found : (old new : Held) (kind : TokenKind) (place : Place) (word : List ℕ) (all : List Numbered) (r : Result TypeId Stop) → all ≡ found_from (meaning old).graph (meaning old).here.scope (spelled word) → IsAnswered type_of IsTypeThere old new r (Ok (type_in all, meaning old)) → IsAnswered type_of IsTypeThere old new r (type_here (path_of (token kind place word)) (meaning old))
type_found old new kind place word all r is answered = type_there old new (path_of (token kind place word)) all r (is ∙ sym (found_plain (meaning old).graph (meaning old).here.scope kind place word)) answered

-- ---- behind `enum`

pub enumeration_there : (held : Held) (graph : Graph) (numbers : List ℕ) (r : Option EnumId) → graph ≡ held.graph → Fitted held.graph held.types → InRange graph → option_map enumeration_number r ≡ enumeration_in (numbered_at (graph_at held.types graph) numbers) → IfSome r (λ number. number.0 < enumerations held.graph.facts)
enumeration_there held graph numbers None same fitted ok is = tt
enumeration_there held graph numbers (Some number) same fitted ok is = enumeration_found held.graph held.types numbers number.0 fitted (subst (λ (g : Graph). InRange g) same ok) (ap (λ (g : Graph). enumeration_in (numbered_at (graph_at held.types g) numbers)) (sym same) ∙ sym is)
