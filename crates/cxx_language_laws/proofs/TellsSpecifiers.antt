-- What the readers of specifiers keep of the state, and what stops them.
use Rattle.std.proofs.Common.{◌≡◌, refl}
use Rattle.std.specs.Prelude.{ℕ, Bool, true, [], ◌∷◌, ◌++◌, Option, Some, None, ◌==◌, codes}
use Rattle.cxx_model.specs.declared.keyword.TheConstants as keyword
use Rattle.cxx_model.specs.declared.fault.FaultText.TheVariants as says
use Rattle.cxx_model.specs.Stops.{Stopped, fault}
use Rattle.cxx_reading.specs.Tokens.{begins_name, behind_name, is_whole_name, path_ahead}
use Rattle.cxx_model.specs.declared.token.TokenKind.{TokenKind}
use Rattle.cxx_model.specs.declared.token.TokenKind.TheVariants.{Name, Keyword, Punct, Integer, Character, Text, End}
use Rattle.cxx_model.specs.declared.tree.Kind.{Kind}
use Rattle.cxx_model.specs.declared.tree.Kind.TheVariants as kind
use Rattle.cxx_model.specs.Text.Lexemes.{Lexeme}
use Rattle.cxx_model.specs.Types.Trees.{enumeration}
use Rattle.cxx_reading.specs.declared.specifier.SpecifierPlace.{SpecifierPlace}
use Rattle.cxx_reading.specs.declared.specifier.SpecifierPlace.TheVariants as where_
use Rattle.cxx_reading.specs.declared.specifier.StorageWord.{StorageWord}
use Rattle.cxx_reading.specs.declared.specifier.TypeWords.{TypeWords}
use Rattle.cxx_reading.specs.Declarators.{Specifiers, TypeWord, has_type, no_specifiers, type_word, with_word}
use Rattle.cxx_reading.specs.Kinds.{Kinds, Readers}
use Rattle.cxx_reading.specs.Reads.{Ahead, Reads, More, kind_ahead, place_ahead}
use Rattle.cxx_reading.specs.Specifiers.{elaborated_tree, enumeration_tree, storage_word, storage_step, inline_step, const_step, volatile_step, word_step, worded, named_step, named_by, type_name_step, elaborated_step, defined_step, enumeration_body, list_step, named_list_step, key_step, enumeration_step, class_key, class_named_step, class_behind, class_name_step, class_key_step, class_step, other_step, stored_by, worded_by, keyword_step, step_by, specifier_step, typed, specifiers_from, specifiers_at, head_reached, member_word}
use Rattle.cxx_language_laws.specs.Told.{EndsIn}
use Rattle.cxx_language_laws.proofs.Tells.{IsTold, behind_stands, from_in, path_from, Tells, ToldIn, quiet_in, KindsTell, ReadersTell, if_in, when_in, if_reads, past_in, then_in, ask_from, ask_in, same_in, next_in, repeat_tells, taken_in, looked_in, give_in, kind_tells, name_stands, name_told, path_then, token_told}

pub storage_tells : {S : Type 0} {kept : S → S → Type 0} {told : S → Ahead → Stopped → Type 0} → IsTold kept told → (place : SpecifierPlace) (word : StorageWord) (so_far : Specifiers) → Tells kept told (storage_step {S = S} place word so_far)
unfolding storage_step
storage_tells is place word so_far state ahead = if_in _ (next_in is _ state ahead) (quiet_in is refl)

pub inline_tells : {S : Type 0} {kept : S → S → Type 0} {told : S → Ahead → Stopped → Type 0} → IsTold kept told → (place : SpecifierPlace) (so_far : Specifiers) → Tells kept told (inline_step {S = S} place so_far)
unfolding inline_step
inline_tells is place so_far state ahead = if_in _ (next_in is _ state ahead) (quiet_in is refl)

pub const_tells : {S : Type 0} {kept : S → S → Type 0} {told : S → Ahead → Stopped → Type 0} → IsTold kept told → (so_far : Specifiers) → Tells kept told (const_step {S = S} so_far)
unfolding const_step
const_tells is so_far state ahead = if_in _ (quiet_in is refl) (next_in is _ state ahead)

pub volatile_tells : {S : Type 0} {kept : S → S → Type 0} {told : S → Ahead → Stopped → Type 0} → IsTold kept told → (so_far : Specifiers) → Tells kept told (volatile_step {S = S} so_far)
unfolding volatile_step
volatile_tells is so_far state ahead = if_in _ (quiet_in is refl) (next_in is _ state ahead)

worded_tells : {S : Type 0} {kept : S → S → Type 0} {told : S → Ahead → Stopped → Type 0} → IsTold kept told → (words : Option TypeWords) (so_far : Specifiers) → Tells kept told (worded {S = S} words so_far)
worded_tells is (Some words) so_far state ahead = next_in is _ state ahead
worded_tells is None so_far state ahead = quiet_in is refl

pub word_tells : {S : Type 0} {kept : S → S → Type 0} {told : S → Ahead → Stopped → Type 0} → IsTold kept told → (word : TypeWord) (so_far : Specifiers) → Tells kept told (word_step {S = S} word so_far)
unfolding word_step
word_tells is word so_far state ahead = if_in _ (quiet_in is refl) (worded_tells is (with_word word so_far.words) so_far state ahead)

type_name_tells : {S : Type 0} {kept : S → S → Type 0} {told : S → Ahead → Stopped → Type 0} → IsTold kept told → {asks : Kinds S} → KindsTell kept told asks → (so_far : Specifiers) → Tells kept told (type_name_step asks so_far)
unfolding type_name_step
type_name_tells is asks so_far state ahead = then_in is (looked_in is state ahead) (λ from state ahead. then_in is (ask_in ahead (asks.type_named (path_ahead from) state ahead)) (λ of state ahead. then_in is (name_told is state ahead) (λ name. give_in is (More (record so_far { named = Some of })))))

named_by_tells : {S : Type 0} {kept : S → S → Type 0} {told : S → Ahead → Stopped → Type 0} → IsTold kept told → {asks : Kinds S} → KindsTell kept told asks → (so_far : Specifiers) (kind : Kind) → Tells kept told (named_by asks so_far kind)
named_by_tells is asks so_far kind.OfType state ahead = type_name_tells is asks so_far state ahead
named_by_tells is asks so_far kind.OfTemplate state ahead = same_in is _ state _
named_by_tells is asks so_far kind.OfBoth state ahead = same_in is _ state _
named_by_tells is asks so_far kind.Space state ahead = same_in is _ state _
named_by_tells is asks so_far kind.Value state ahead = same_in is _ state _

pub named_tells : {S : Type 0} {kept : S → S → Type 0} {told : S → Ahead → Stopped → Type 0} → IsTold kept told → {asks : Kinds S} → KindsTell kept told asks → (so_far : Specifiers) → Tells kept told (named_step asks so_far)
unfolding named_step
named_tells is {asks = a} asks so_far state ahead = if_in _ (same_in is _ state _) (then_in is (kind_tells is a.kind asks.kind state ahead) (named_by_tells is asks so_far))

pub elaborated_tells : {S : Type 0} {kept : S → S → Type 0} {told : S → Ahead → Stopped → Type 0} → IsTold kept told → {asks : Kinds S} → KindsTell kept told asks → (from : Ahead) (so_far : Specifiers) (state : S) (ahead : Ahead) → begins_name ahead ≡ true
    → ToldIn kept told state ahead (elaborated_step asks from so_far state ahead)
unfolding elaborated_step
elaborated_tells is asks from so_far state ahead begins = path_then is _ state ahead (λ whole. then_in is (ask_from (behind_name ahead) (name_stands ahead) (asks.elaborated state ahead begins whole)) (λ of state rest. then_in is (looked_in is state rest) (λ to. give_in is (More (record so_far { named = Some of; parts = so_far.parts ++ elaborated_tree (codes "enum") (path_ahead ahead) of from to ∷ [] })))))

pub body_tells : {S : Type 0} {kept : S → S → Type 0} {told : S → Ahead → Stopped → Type 0} → IsTold kept told → {asks : Kinds S} → KindsTell kept told asks → {inner : Readers S} → ReadersTell kept told inner → (number : ℕ) → Tells kept told (enumeration_body asks inner number)
unfolding enumeration_body
body_tells is asks inner number state ahead = then_in is (taken_in is state ahead) (λ opened state ahead. then_in is (inner.enumerators number state ahead) (λ values state ahead. then_in is (ask_in ahead (asks.enumerated number state ahead)) (λ ended. give_in is values)))

pub defined_tells : {S : Type 0} {kept : S → S → Type 0} {told : S → Ahead → Stopped → Type 0} → IsTold kept told → {asks : Kinds S} → KindsTell kept told asks → {inner : Readers S} → ReadersTell kept told inner → (from : Ahead) (name : Option Lexeme) (so_far : Specifiers) → Tells kept told (defined_step asks inner from name so_far)
unfolding defined_step
defined_tells is asks inner from name so_far state ahead = then_in is (ask_in ahead (asks.enumeration _ _ state ahead)) (λ number state ahead. then_in is (body_tells is asks inner number state ahead) (λ values state ahead. then_in is (looked_in is state ahead) (λ to. give_in is (More (record so_far { named = Some (enumeration number); stands_alone = true; parts = so_far.parts ++ enumeration_tree name number values from to ∷ [] })))))

pub list_tells : {S : Type 0} {kept : S → S → Type 0} {told : S → Ahead → Stopped → Type 0} → IsTold kept told → {asks : Kinds S} → KindsTell kept told asks → {inner : Readers S} → ReadersTell kept told inner → (place : SpecifierPlace) (from : Ahead) (name : Option Lexeme) (so_far : Specifiers) → Tells kept told (list_step asks inner place from name so_far)
unfolding list_step
list_tells is asks inner place from name so_far state ahead = if_in _ (defined_tells is asks inner from name so_far state ahead) (quiet_in is refl)

named_list_tells : {S : Type 0} {kept : S → S → Type 0} {told : S → Ahead → Stopped → Type 0} → IsTold kept told → {asks : Kinds S} → KindsTell kept told asks → {inner : Readers S} → ReadersTell kept told inner → (place : SpecifierPlace) (from : Ahead) (so_far : Specifiers) → Tells kept told (named_list_step asks inner place from so_far)
unfolding named_list_step
named_list_tells is asks inner place from so_far state ahead = then_in is (token_told is state ahead) (λ name. list_tells is asks inner place from (Some name) so_far)

pub key_tells : {S : Type 0} {kept : S → S → Type 0} {told : S → Ahead → Stopped → Type 0} → IsTold kept told → {asks : Kinds S} → KindsTell kept told asks → {inner : Readers S} → ReadersTell kept told inner → (place : SpecifierPlace) (from : Ahead) (so_far : Specifiers) → Tells kept told (key_step asks inner place from so_far)
unfolding key_step
key_tells is asks inner place from so_far state ahead = if_in _ (list_tells is asks inner place from None so_far state ahead) (if_in _ (named_list_tells is asks inner place from so_far state ahead) (when_in (begins_name ahead) (λ begins. elaborated_tells is asks from so_far state ahead begins) (quiet_in is refl)))

pub enumeration_tells : {S : Type 0} {kept : S → S → Type 0} {told : S → Ahead → Stopped → Type 0} → IsTold kept told → {asks : Kinds S} → KindsTell kept told asks → {inner : Readers S} → ReadersTell kept told inner → (place : SpecifierPlace) (so_far : Specifiers) → Tells kept told (enumeration_step asks inner place so_far)
unfolding enumeration_step
enumeration_tells is asks inner place so_far state ahead = if_in _ (quiet_in is refl) (past_in is (key_tells is asks inner place ahead so_far state _))

class_named_tells : {S : Type 0} {kept : S → S → Type 0} {told : S → Ahead → Stopped → Type 0} → IsTold kept told → {asks : Kinds S} → KindsTell kept told asks → (is_union is_all : Bool) (from : Ahead) (so_far : Specifiers) (state : S) (ahead : Ahead) → begins_name ahead ≡ true → is_whole_name ahead ≡ true
    → ToldIn kept told state ahead (class_named_step asks is_union is_all from (path_ahead ahead) so_far state (behind_name ahead))
unfolding class_named_step
class_named_tells is asks is_union is_all from so_far state ahead begins whole = then_in is (ask_from (behind_name ahead) (name_stands ahead) (asks.class_named is_union is_all state ahead begins whole)) (λ of state rest. then_in is (looked_in is state rest) (λ to. give_in is (More (record so_far { named = Some of; stands_alone = true; parts = so_far.parts ++ elaborated_tree (class_key is_union) (path_ahead ahead) of from to ∷ [] }))))

-- the head of a class that is defined, up to which the specifiers are read
head_tells : {S : Type 0} {kept : S → S → Type 0} {told : S → Ahead → Stopped → Type 0} → IsTold kept told → (place : SpecifierPlace) (from : Ahead) (so_far : Specifiers) (state : S) (ahead : Ahead) → ToldIn kept told state from (head_reached place from so_far state ahead)
head_tells is where_.Declaration from so_far state ahead = same_in is _ state from
head_tells is where_.Member from so_far state ahead = same_in is _ state from
head_tells is where_.Block from so_far state ahead = quiet_in is refl
head_tells is where_.Parameter from so_far state ahead = quiet_in is refl
head_tells is where_.TypeId from so_far state ahead = quiet_in is refl

class_behind_tells : {S : Type 0} {kept : S → S → Type 0} {told : S → Ahead → Stopped → Type 0} → IsTold kept told → {asks : Kinds S} → KindsTell kept told asks → (is_union : Bool) (place : SpecifierPlace) (from : Ahead) (so_far : Specifiers) (state : S) (ahead : Ahead) → EndsIn from.tokens ahead.tokens → begins_name ahead ≡ true → is_whole_name ahead ≡ true
    → ToldIn kept told state from (class_behind asks is_union place from (path_ahead ahead) so_far state (behind_name ahead))
unfolding class_behind
class_behind_tells is asks is_union place from so_far state ahead stands begins whole = if_in _ (head_tells is place from so_far state _) (from_in is state state from ahead (is.keeps.same state) stands (class_named_tells is asks is_union _ from so_far state ahead begins whole))

class_name_tells : {S : Type 0} {kept : S → S → Type 0} {told : S → Ahead → Stopped → Type 0} → IsTold kept told → {asks : Kinds S} → KindsTell kept told asks → (is_union : Bool) (place : SpecifierPlace) (from : Ahead) (so_far : Specifiers) (state : S) (ahead : Ahead) → EndsIn from.tokens ahead.tokens → begins_name ahead ≡ true
    → ToldIn kept told state from (class_name_step asks is_union place from so_far state ahead)
unfolding class_name_step
class_name_tells is asks is_union place from so_far state ahead stands begins = path_from is _ state from ahead stands (λ whole. class_behind_tells is asks is_union place from so_far state ahead stands begins whole)

class_key_tells : {S : Type 0} {kept : S → S → Type 0} {told : S → Ahead → Stopped → Type 0} → IsTold kept told → {asks : Kinds S} → KindsTell kept told asks → (is_union : Bool) (place : SpecifierPlace) (from : Ahead) (so_far : Specifiers) (state : S) (ahead : Ahead) → EndsIn from.tokens ahead.tokens → ToldIn kept told state from (class_key_step asks is_union place from so_far state ahead)
unfolding class_key_step
class_key_tells is asks is_union place from so_far state ahead stands = when_in (begins_name ahead) (λ begins. class_name_tells is asks is_union place from so_far state ahead stands begins) (if_in _ (head_tells is place from so_far state ahead) (quiet_in is refl))

pub class_tells : {S : Type 0} {kept : S → S → Type 0} {told : S → Ahead → Stopped → Type 0} → IsTold kept told → {asks : Kinds S} → KindsTell kept told asks → (place : SpecifierPlace) (n : ℕ) (so_far : Specifiers) → Tells kept told (class_step asks place n so_far)
unfolding class_step
class_tells is asks place n so_far state ahead =
    if_in (has_type so_far) (quiet_in is {why = fault (place_ahead ahead) says.SyntaxError} refl)
    (if_in (n == keyword.TYPENAME) (quiet_in is {why = fault (place_ahead ahead) says.NotBuilt} refl)
    (class_key_tells is asks (n == keyword.UNION) place ahead so_far state _ (behind_stands ahead)))

member_word_tells : {S : Type 0} {kept : S → S → Type 0} {told : S → Ahead → Stopped → Type 0} → IsTold kept told → (place : SpecifierPlace) → Tells kept told (member_word {S = S} place)
member_word_tells is where_.Declaration state ahead = quiet_in is refl
member_word_tells is where_.Member state ahead = quiet_in is refl
member_word_tells is where_.Block state ahead = quiet_in is refl
member_word_tells is where_.Parameter state ahead = quiet_in is refl
member_word_tells is where_.TypeId state ahead = quiet_in is refl

pub other_tells : {S : Type 0} {kept : S → S → Type 0} {told : S → Ahead → Stopped → Type 0} → IsTold kept told → {asks : Kinds S} → KindsTell kept told asks → {inner : Readers S} → ReadersTell kept told inner → (place : SpecifierPlace) (n : ℕ) (so_far : Specifiers) → Tells kept told (other_step asks inner place n so_far)
unfolding other_step
other_tells is asks inner place n so_far state ahead = if_in _ (const_tells is so_far state ahead) (if_in _ (volatile_tells is so_far state ahead) (if_in _ (inline_tells is place so_far state ahead) (if_in _ (enumeration_tells is asks inner place so_far state ahead) (if_in _ (class_tells is asks place n so_far state ahead) (if_in _ (member_word_tells is place state ahead) (same_in is _ state _))))))

worded_by_tells : {S : Type 0} {kept : S → S → Type 0} {told : S → Ahead → Stopped → Type 0} → IsTold kept told → (word : Option TypeWord) (others : Reads S _) → Tells kept told others → (so_far : Specifiers) → Tells kept told (worded_by word others so_far)
worded_by_tells is (Some word) others keeps so_far state ahead = word_tells is word so_far state ahead
worded_by_tells is None others keeps so_far state ahead = keeps state ahead

stored_by_tells : {S : Type 0} {kept : S → S → Type 0} {told : S → Ahead → Stopped → Type 0} → IsTold kept told → (word : Option StorageWord) (others : Reads S _) → Tells kept told others → (place : SpecifierPlace) (so_far : Specifiers) → Tells kept told (stored_by word others place so_far)
stored_by_tells is (Some word) others keeps place so_far state ahead = storage_tells is place word so_far state ahead
stored_by_tells is None others keeps place so_far state ahead = keeps state ahead

pub keyword_tells : {S : Type 0} {kept : S → S → Type 0} {told : S → Ahead → Stopped → Type 0} → IsTold kept told → {asks : Kinds S} → KindsTell kept told asks → {inner : Readers S} → ReadersTell kept told inner → (place : SpecifierPlace) (n : ℕ) (so_far : Specifiers) → Tells kept told (keyword_step asks inner place n so_far)
unfolding keyword_step
keyword_tells is {asks = a} asks {inner = i} inner place n so_far = stored_by_tells is (storage_word n) (worded_by (type_word n) (other_step a i place n so_far) so_far) (worded_by_tells is (type_word n) (other_step a i place n so_far) (other_tells is asks inner place n so_far) so_far) place so_far

step_by_tells : {S : Type 0} {kept : S → S → Type 0} {told : S → Ahead → Stopped → Type 0} → IsTold kept told → {asks : Kinds S} → KindsTell kept told asks → {inner : Readers S} → ReadersTell kept told inner → (place : SpecifierPlace) (kind : TokenKind) (so_far : Specifiers) (state : S) (ahead : Ahead) → ToldIn kept told state ahead (step_by asks inner place kind so_far state ahead)
step_by_tells is asks inner place (Keyword n) so_far state ahead = keyword_tells is asks inner place n so_far state ahead
step_by_tells is asks inner place Name so_far state ahead = named_tells is asks so_far state ahead
step_by_tells is asks inner place (Punct n) so_far state ahead = if_reads _ (named_tells is asks so_far) (λ state ahead. same_in is _ state _) state ahead
step_by_tells is asks inner place Integer so_far state ahead = same_in is _ state _
step_by_tells is asks inner place Character so_far state ahead = same_in is _ state _
step_by_tells is asks inner place Text so_far state ahead = same_in is _ state _
step_by_tells is asks inner place End so_far state ahead = same_in is _ state _

pub specifier_tells : {S : Type 0} {kept : S → S → Type 0} {told : S → Ahead → Stopped → Type 0} → IsTold kept told → {asks : Kinds S} → KindsTell kept told asks → {inner : Readers S} → ReadersTell kept told inner → (place : SpecifierPlace) (so_far : Specifiers) → Tells kept told (specifier_step asks inner place so_far)
unfolding specifier_step
specifier_tells is asks inner place so_far state ahead = step_by_tells is asks inner place (kind_ahead ahead) so_far state ahead

pub typed_tells : {S : Type 0} {kept : S → S → Type 0} {told : S → Ahead → Stopped → Type 0} → IsTold kept told → (place : SpecifierPlace) (so_far : Specifiers) → Tells kept told (typed {S = S} place so_far)
unfolding typed
typed_tells is place so_far state ahead = if_in _ (same_in is _ state _) (if_in _ (quiet_in is refl) (quiet_in is refl))

-- behind those that were read
pub further_tell : {S : Type 0} {kept : S → S → Type 0} {told : S → Ahead → Stopped → Type 0} → IsTold kept told → {asks : Kinds S} → KindsTell kept told asks → {inner : Readers S} → ReadersTell kept told inner → (place : SpecifierPlace) (so_far : Specifiers) → Tells kept told (specifiers_from asks inner place so_far)
unfolding specifiers_from
further_tell is asks inner place so_far state ahead = then_in is (repeat_tells is _ _ (specifier_tells is asks inner place) (λ so_far state ahead. same_in is _ state _) _ so_far state ahead) (typed_tells is place)

pub specifiers_tell : {S : Type 0} {kept : S → S → Type 0} {told : S → Ahead → Stopped → Type 0} → IsTold kept told → {asks : Kinds S} → KindsTell kept told asks → {inner : Readers S} → ReadersTell kept told inner → (place : SpecifierPlace) → Tells kept told (specifiers_at asks inner place)
specifiers_tell is asks inner place = further_tell is asks inner place no_specifiers
