use Rattle.std.proofs.Common.{ap, ◌∙◌}
use Rattle.cxx_listing.specs.Views.{text_from}
use Rattle.cxx_listing.proofs.Written.{whole_text}
use Rattle.cxx_listing.proofs.text.calls_text.Goals as goal

pub returns : goal.returns
returns c options = c.in_ok-text.ensures ∙ ap (text_from c.args.state.now) c.as_slice.ensures.value ∙ whole_text options c.args.state.now c.in_ok-found.found.items c.in_ok-found.ensures
