use Rattle.std.proofs.Common.{◌≡◌, subst}
use Rattle.cxx_model.specs.Facts.Declarations.{type_of_option}
use Rattle.cxx_tree.specs.Held.{Held}
use Rattle.cxx_phrase_text.specs.Phrases.{has_class}
use Rattle.cxx_phrase_text.proofs.names.is_in_class.Goals as goal

pub returns : goal.returns
returns g c = subst (λ (h : Held). c.has_class.result ≡ has_class (type_of_option h.types c.args.of)) c.state.ensures c.has_class.ensures
