use Rattle.cxx_found.specs.Views.{graph_of, types_of}
use Rattle.cxx_found.proofs.Outer.{outer_there, outer_none}
use Rattle.cxx_found.proofs.seeking.Seeking.outer.Goals as goal

pub returns-then-scope-scopes : goal.returns-then-scope-scopes
returns-then-scope-scopes c =
    let self = c.args.self.now in
    outer_there (graph_of self) c.args.scope c.parent.result c.scopes.result.0 (c.scopes.ensures.is (types_of self)) c.if-scope-scopes.true (c.parent.ensures (types_of self))

pub returns-else-scope-scopes : goal.returns-else-scope-scopes
returns-else-scope-scopes c =
    let self = c.args.self.now in
    outer_none (graph_of self) c.args.scope c.scopes.result.0 (c.scopes.ensures.is (types_of self)) c.if-scope-scopes.false
