use Rattle.cxx_tokens.proofs.Signs.{character_sound}
use Rattle.cxx_tokens.proofs.literal.character_value.Goals as goal

pub value_of_body-requires : goal.value_of_body-requires
value_of_body-requires c = rw (c.is_wide.ensures, c.literal_body.ensures) (character_sound c.args.text.now c.requires)
