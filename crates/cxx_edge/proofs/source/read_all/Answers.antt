use Rattle.std.proofs.Common.{arith, refl}
use Rattle.cxx_edge.proofs.Bytes.{gives_more, longer}
use Rattle.cxx_edge.proofs.source.read_all.Goals as goal

pub returns-then-count-limit-clause-too_long : goal.returns-then-count-limit-clause-too_long
returns-then-count-limit-clause-too_long g c _ =
    gives_more _ _ _ c.loop-count.bytes.items c.read.new.buf c.in-Ok.count c.args.limit
    c.loop-count.invariant.so_far c.in-Ok.ensures.bytes.0 (omega (arith, c.in-Ok.ensures.bound)) (omega (arith, c.len.ensures, c.loop-count.bytes.ok))

pub returns-then-count-limit-clause-longer : goal.returns-then-count-limit-clause-longer
returns-then-count-limit-clause-longer g c same = longer _ _ c.args.limit (returns-then-count-limit-clause-too_long g c same)

pub returns-then-count-limit-clause-part : goal.returns-then-count-limit-clause-part
returns-then-count-limit-clause-part g c =
    let more = returns-then-count-limit-clause-too_long g c refl in
    (more.0, more.1)

pub returns-in-Err-extend_from_slice-clause-no_memory :
    goal.returns-in-Err-extend_from_slice-clause-no_memory
returns-in-Err-extend_from_slice-clause-no_memory g c _ =
    gives_more _ _ _ c.loop-count.bytes.items c.read.new.buf c.in-Ok.count 0
    c.loop-count.invariant.so_far c.in-Ok.ensures.bytes.0 (omega (arith, c.in-Ok.ensures.bound)) (omega arith)

pub returns-in-Err-extend_from_slice-clause-part :
    goal.returns-in-Err-extend_from_slice-clause-part
returns-in-Err-extend_from_slice-clause-part g c =
    let more = returns-in-Err-extend_from_slice-clause-no_memory g c refl in
    (more.0, more.1)
