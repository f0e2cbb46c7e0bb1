use Rattle.std.proofs.Common.{ap, List, ◌∙◌}
use Rattle.std.specs.List.{slice_get}
use Rattle.cxx_tree.specs.declared.kept.Decided.{Decided}
use Rattle.cxx_listing.proofs.Written.{call_more}
use Rattle.cxx_listing.proofs.text.write_listed.Goals as goal

pub returns : goal.returns
returns c = call_more c.args.state.now c.args.one c.in-Some.call.now c.args.out.now.items c.write_call.new.out.items (c.in-Some.ensures ∙ ap (λ (ds : List Decided). slice_get ds c.args.one.number) c.calls.ensures.is) c.in_ok-write_call.ensures
