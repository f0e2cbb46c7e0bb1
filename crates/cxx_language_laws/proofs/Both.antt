-- The readers of a unit inside one another keep the declarations and the calls so far, and what stops them is true.
use Rattle.std.proofs.Common.{refl}
use Rattle.std.specs.Prelude.{ℕ, zero, suc, true}
use Rattle.cxx_phrases.specs.declared.shape.TypeShape.TheVariants as shape
use Rattle.cxx_knot.specs.Readers.{both}
use Rattle.cxx_language.specs.Asked.{asked, inner_at, phrases_at}
use Rattle.cxx_language_laws.proofs.Asked.{kinds_tell, offers_tell, phrases_tell}
use Rattle.cxx_language_laws.proofs.Later.{IsLater}
use Rattle.cxx_language_laws.proofs.PhrasesTell.{InnerTell}
use Rattle.cxx_language_laws.proofs.Reached.{Told, later_is_told}
use Rattle.cxx_language_laws.proofs.Tells.{ReadersTell, quiet_in, same_in, names_tell, lists_tell}
use Rattle.cxx_language_laws.proofs.TellsDefaults.{fallback_at_tells}
use Rattle.cxx_language_laws.proofs.TellsKnot.{inner_tells}
use Rattle.cxx_language_laws.proofs.TellsShapes.{parameters_shape_tells}
use Rattle.cxx_language_laws.proofs.TellsSyntax.{pointed_tells, referred_tells, grouped_tells, parameters_tell}
use Rattle.cxx_language_laws.proofs.TellsValues.{bound_tells, enumerators_tell}

pub record BothTell (room : ℕ) : Type 0 where
  pub types : ReadersTell IsLater Told (inner_at room).types
  pub phrases : InnerTell IsLater Told (inner_at room).phrases

pub both_tell : (room : ℕ) → BothTell room
unfolding both
both_tell zero = record {
  types = record {
    pointed = λ naming plain state ahead. quiet_in later_is_told refl;
    referred = λ naming plain state ahead. quiet_in later_is_told refl;
    grouped = λ naming plain state ahead. quiet_in later_is_told refl;
    bound = λ is_first state ahead. quiet_in later_is_told refl;
    parameters = λ state ahead. quiet_in later_is_told refl;
    enumerators = λ number state ahead. quiet_in later_is_told refl;
    holds_parameters = λ state ahead. same_in later_is_told true state ahead;
  };
  phrases = record {
    expression = λ level state ahead. quiet_in later_is_told refl;
    sized = λ state ahead. quiet_in later_is_told refl;
    type_id = λ state ahead. quiet_in later_is_told refl;
    type_passed = λ state ahead. same_in later_is_told shape.NoType state ahead;
  };
}
both_tell (suc room) =
    let inside = both_tell room in
    let kinds = kinds_tell room in
    let at = phrases_tell room inside.types in
    record {
      types = record {
        pointed = pointed_tells later_is_told kinds inside.types;
        referred = referred_tells later_is_told kinds inside.types;
        grouped = grouped_tells later_is_told kinds inside.types;
        bound = bound_tells later_is_told (asked room) kinds at inside.phrases;
        parameters = parameters_tell later_is_told kinds (fallback_at_tells later_is_told (asked room) (offers_tell room) at inside.phrases) inside.types;
        enumerators = enumerators_tell later_is_told (asked room) kinds at inside.phrases;
        holds_parameters = parameters_shape_tells later_is_told (names_tell kinds) (lists_tell inside.types);
      };
      phrases = inner_tells later_is_told (phrases_at room) (inner_at room).phrases at inside.phrases (asked room).kinds kinds (inner_at room).types inside.types;
    }
