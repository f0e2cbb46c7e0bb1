use Rattle.std.proofs.Common.{arith, ◌≡◌, ◌+◌, ◌-◌, ℕ, List, take, drop, sym, ap, subst}
use Rattle.cxx_edge.proofs.Bytes.{read_from_memory}
use Rattle.cxx_edge.proofs.memory.MemorySourceSource.read.Goals as goal

pub returns-clause-bytes : goal.returns-clause-bytes
returns-clause-bytes c =
    let items = c.self.inside.bytes.items in
    let unread : c.args.self.now.unread ≡ drop c.self.inside.at items = sym (ap (λ s. s.unread) c.self.view_is) in
    let copied = subst (λ (l : List ℕ). c.copy_from_slice.new.self ≡ take (c.self.inside.at + c.min-count.result - c.self.inside.at) (drop c.self.inside.at l)) c.deref.ensures.value c.copy_from_slice.ensures.after in
    rw unread (read_from_memory items c.args.buf.now c.copy_from_slice.new.self c.self.inside.at c.min-count.result c.self.inside.piece
    (omega arith) (omega arith) (omega (arith, c.deref.ensures.len)) copied)
