-- The listed calls of statements by their numbers.
use Rattle.std.specs.Prelude.{List, map, Option}
use Rattle.std.specs.Option.{option_map}
use Rattle.cxx_model.specs.declared.tree.Node.{Node}
use Rattle.cxx_model.specs.declared.types.TreeId.{TreeId}
use Rattle.cxx_tree.specs.Arena.{label_at}
use Rattle.cxx_tree.specs.Held.{tree, Held}
use Rattle.cxx_phrase_text.specs.Calls.{CallOfText}
use Rattle.cxx_statement_text.specs.declared.form.Form.{Form}
use Rattle.cxx_statement_text.specs.Calls.{calls_as, part_or_none, statement_calls}
use Rattle.cxx_statement_text.specs.Written.{facts_in, parts_in}

abbrev pub calls_at : Held → TreeId → List CallOfText
calls_at held number = statement_calls (facts_in held) (tree held number)

abbrev pub calls_of_parts : Held → List TreeId → List (List CallOfText)
calls_of_parts held numbers = map (calls_at held) numbers

-- those of a part that may be missing
abbrev pub calls_found : Held → Option TreeId → List CallOfText
calls_found held number = part_or_none (option_map (calls_at held) number)

-- those of a node, whose form is given
abbrev pub calls_in_node : Held → Form → Node → List CallOfText
calls_in_node held form node = calls_as form (facts_in held) (label_at held.types node) (parts_in held node.children) (calls_of_parts held node.children)
