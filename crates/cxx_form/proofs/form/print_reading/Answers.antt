use Rattle.std.proofs.Common.{subst, sym}
use Rattle.cxx_form.specs.Sharing.{AreShared}
use Rattle.cxx_form.specs.Views.{facts_in}
use Rattle.cxx_form.proofs.form.print_reading.Goals as goal

pub printed_by-requires-clause-book : goal.printed_by-requires-clause-book
printed_by-requires-clause-book c = record {
  fitted = c.fitted.ensures;
  shared = subst (AreShared (facts_in c.args.state.now)) (sym c.as_slice-shares.ensures.value) c.in_ok-kept.ensures;
  numbered = c.in_ok-numbers.ensures;
  classes = c.in_ok-class_tags.ensures;
  tagged = c.in_ok-tags.ensures;
  held = c.in_ok-rows.ensures;
  parts = c.in_ok-scoped.ensures;
}
