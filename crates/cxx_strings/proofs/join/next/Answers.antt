use Rattle.cxx_strings.proofs.Spaced.{writes_blank, writes_string, writes_none}
use Rattle.cxx_strings.proofs.join.next.Goals as goal

pub returns-in-Blank : goal.returns-in-Blank
returns-in-Blank c =
    let h = c.in-Blank.ensures in
    (h.some, h.within, writes_blank c.args.spaced.now.items c.args.fresh c.args.rest.now c.in-Blank.len h)

pub returns-in_ok-add-in-Text : goal.returns-in_ok-add-in-Text
returns-in_ok-add-in-Text c =
    let h = c.in-Text.ensures in
    (h.some, h.within, writes_string c.args.spaced.now.items c.add.new.spaced.items c.args.fresh c.args.rest.now c.in-Text.len h c.in_ok-add-in-Text.ensures)

pub returns-in-Other : goal.returns-in-Other
returns-in-Other c = writes_none c.args.spaced.now.items c.args.fresh c.args.rest.now c.in-Other.ensures
