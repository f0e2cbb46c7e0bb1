-- What the words of a command line say.
--
-- Without a last one that is `--`, they are pieces `--name value` or `--name=value`, each name at most once. The value
-- is the next word, whatever it is. Where no words choose, the mode is `bind` and the depth 64.
use Rattle.std.specs.Prelude.{◌≡◌, ℕ, ◌+◌, ◌*◌, ◌-◌, nat_le, nat_eq, Bool, false, ◌&&◌, if◌then◌else◌, List, [], ◌∷◌, length, take, drop, codes, bytes_eq, Option, Some, None, is_some, unwrap_or, option_map, option_and_then}
use Rattle.std.specs.List.{slice_get, starts_with}
use Rattle.std.specs.Option.{option_map_or}
use Rattle.cxx_model.specs.declared.options.Options.{Options}
use Rattle.cxx_words.specs.declared.job.Job.{Job}
use Rattle.cxx_words.specs.declared.job.Mode.{Mode}
use Rattle.cxx_words.specs.declared.job.Mode.TheVariants.{Bind, Calls}
use Rattle.cxx_words.specs.declared.job.TheConstants as job
use Rattle.cxx_words.specs.declared.reader.Chosen.{Chosen}
use Rattle.cxx_words.specs.declared.reader.Setting.{Setting}
use Rattle.cxx_words.specs.declared.reader.Setting.TheVariants as setting

-- ---- values

abbrev pub is_digit : ℕ → Bool
is_digit byte = nat_le 48 byte && nat_le byte 57

-- the value of decimal digits, behind digits with this value
abbrev pub value_from : ℕ → List ℕ → Option ℕ
value_from value [] = Some value
value_from value (byte ∷ rest) = if is_digit byte then value_from (10 * value + (byte - 48)) rest else None

abbrev pub within_most : Option ℕ → Option ℕ
within_most None = None
within_most (Some value) = if nat_le 1 value && nat_le value job.MOST_DEPTH then Some value else None

-- 1 to 256, in decimal digits, without a sign and without a leading zero (48)
abbrev pub depth_of : List ℕ → Option ℕ
depth_of [] = None
depth_of (byte ∷ rest) = if nat_eq byte 48 then None else within_most (value_from 0 (byte ∷ rest))

abbrev pub mode_of : List ℕ → Option Mode
mode_of text = if bytes_eq text (codes "bind") then Some Bind else (if bytes_eq text (codes "calls") then Some Calls else None)

-- ---- pieces

-- an option and its value
pub record Piece : Type 0 where
  pub setting : Setting
  pub value : List ℕ

-- the option that a whole word names
abbrev pub setting_named : List ℕ → Option Setting
setting_named word = if bytes_eq word (codes "--mode") then Some setting.Mode else (if bytes_eq word (codes "--depth") then Some setting.Depth else None)

-- what stands behind the front of a word
abbrev pub behind : List ℕ → List ℕ → Option (List ℕ)
behind front word = if starts_with nat_eq word front then Some (drop (length front) word) else None

-- what the first word of a piece says: the name alone, or the name and the value; or it is none
pub data Opening : Type 0 where
  names : Setting → Opening
  gives : Setting → List ℕ → Opening
  neither : Opening

abbrev pub opening_behind : Setting → Option (List ℕ) → Opening → Opening
opening_behind setting None other = other
opening_behind setting (Some value) other = gives setting value

abbrev pub opening_by : Option Setting → List ℕ → Opening
opening_by (Some setting) word = names setting
opening_by None word = opening_behind setting.Mode (behind (codes "--mode=") word) (opening_behind setting.Depth (behind (codes "--depth=") word) neither)

unfoldable pub opening_of : List ℕ → Opening
opening_of word = opening_by (setting_named word) word

abbrev pub with_piece : Setting → List ℕ → Option (List Piece) → Option (List Piece)
with_piece setting value None = None
with_piece setting value (Some pieces) = Some (record { setting = setting; value = value } ∷ pieces)

abbrev pub opened : Opening → (Option Setting → Option (List Piece)) → Option (List Piece)
opened (names setting) rest = rest (Some setting)
opened (gives setting value) rest = with_piece setting value (rest None)
opened neither rest = None

abbrev pub pieces_by : Option Setting → List ℕ → (Option Setting → Option (List Piece)) → Option (List Piece)
pieces_by (Some setting) word rest = with_piece setting word (rest None)
pieces_by None word rest = opened (opening_of word) rest

abbrev pub no_pieces : Option Setting → Option (List Piece)
no_pieces None = Some []
no_pieces (Some setting) = None

-- the pieces of words; there may be an option before them whose value is the next word
abbrev pub pieces : List (List ℕ) → Option Setting → Option (List Piece)
pieces [] waiting = no_pieces waiting
pieces (word ∷ rest) waiting = pieces_by waiting word (λ next. pieces rest next)

-- ---- what pieces choose

abbrev pub note_mode : Chosen → Option Mode → Option Chosen
note_mode chosen None = None
note_mode chosen (Some mode) = if is_some chosen.mode then None else Some (record chosen { mode = Some mode })

abbrev pub note_depth : Chosen → Option ℕ → Option Chosen
note_depth chosen None = None
note_depth chosen (Some depth) = if is_some chosen.depth then None else Some (record chosen { depth = Some depth })

-- with the value of an option, unless it has one already or this is none
abbrev pub note : Chosen → Setting → List ℕ → Option Chosen
note chosen setting.Mode value = note_mode chosen (mode_of value)
note chosen setting.Depth value = note_depth chosen (depth_of value)

abbrev pub chosen_by : Chosen → List Piece → Option Chosen
chosen_by chosen [] = Some chosen
chosen_by chosen (piece ∷ others) = option_and_then (λ next. chosen_by next others) (note chosen piece.setting piece.value)

abbrev pub nothing_chosen : Chosen
nothing_chosen = record { mode = None; depth = None }

abbrev pub job_of : Chosen → Job
job_of chosen = record { mode = unwrap_or chosen.mode Bind; depth = unwrap_or chosen.depth job.DEFAULT_DEPTH }

-- ---- all words

abbrev pub is_dashes : List ℕ → Bool
is_dashes word = bytes_eq word (codes "--")

-- without a last word that is `--`
abbrev pub without_dashes : List (List ℕ) → List (List ℕ)
without_dashes words = if option_map_or is_dashes (slice_get words (length words - 1)) false then take (length words - 1) words else words

abbrev pub said : Option (List Piece) → Option Job
said found = option_map job_of (option_and_then (chosen_by nothing_chosen) found)

-- the job that words say
unfoldable pub understood : List (List ℕ) → Option Job
understood words = said (pieces (without_dashes words) None)

pub record IsUnderstood (words : List (List ℕ)) : Type 0 where
  pub job : Job
  pub is : understood words ≡ Some job

abbrev pub options_of : Job → Options
options_of job = record { depth = job.depth }
