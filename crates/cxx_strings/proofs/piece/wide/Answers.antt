use Rattle.cxx_model.specs.declared.token.TokenKind.TheVariants.{Text}
use Rattle.cxx_model.specs.Text.Spelling.{Good, literal}
use Rattle.std.proofs.Common.{true}
use Rattle.cxx_tokens.proofs.Pieces.{behind_two}
use Rattle.cxx_strings.proofs.Begins.{wide_string_at, other_behind}
use Rattle.cxx_strings.proofs.piece.wide.Goals as goal

pub returns-in-Some : goal.returns-in-Some
returns-in-Some c = wide_string_at c.args.fresh c.args.text.now c.requires c.in-Some.len (Good Text) c.in-Some.ensures

pub returns-in-None : goal.returns-in-None
returns-in-None c = other_behind c.args.fresh c.args.text.now (behind_two c.args.text.now) (literal true 34) 2 (wide_string_at c.args.fresh c.args.text.now c.requires) c.in-None.ensures
