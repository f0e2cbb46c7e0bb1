use Rattle.cxx_model.specs.declared.token.TokenKind.TheVariants.{Text}
use Rattle.cxx_model.specs.Text.Spelling.{Good, literal}
use Rattle.std.proofs.Common.{false}
use Rattle.cxx_tokens.proofs.Pieces.{behind_first}
use Rattle.cxx_strings.proofs.Begins.{narrow_at, other_behind}
use Rattle.cxx_strings.proofs.piece.narrow.Goals as goal

pub returns-in-Some : goal.returns-in-Some
returns-in-Some c = narrow_at c.args.fresh c.args.text.now c.requires c.in-Some.len (Good Text) c.in-Some.ensures

pub returns-in-None : goal.returns-in-None
returns-in-None c = other_behind c.args.fresh c.args.text.now (behind_first c.args.text.now) (literal false 34) 1 (narrow_at c.args.fresh c.args.text.now c.requires) c.in-None.ensures
