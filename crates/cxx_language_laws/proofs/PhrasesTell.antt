-- What is asked while an expression is read, and the readers of what stands in it: what they keep of the state, and what
-- stops them.
use Rattle.std.proofs.Common.{◌≡◌}
use Rattle.std.specs.Prelude.{ℕ, Bool, true, false, ◌||◌, nat_eq, codes, List, []}
use Rattle.cxx_model.specs.Stops.{Answer, Stopped}
use Rattle.cxx_phrases.specs.declared.level.Level.{Level}
use Rattle.cxx_phrases.specs.Forms.{name_tree, call_tree, called_tree, member_tree}
use Rattle.cxx_phrases.specs.Phrases.{Phrases, Inner}
use Rattle.cxx_phrases.specs.Productions as phrase
use Rattle.cxx_reading.specs.Productions as production
use Rattle.cxx_reading.specs.Reads.{Ahead, Reads, then_read, answered, behind, place_ahead}
use Rattle.cxx_reading.specs.Tokens.{begins_name, behind_name, is_whole_name, path_ahead}
use Rattle.cxx_reading.specs.Trees.{CxxTree, CxxPath}
use Rattle.cxx_language_laws.specs.Told.{IsCall, IsCallOf, IsSelected}
use Rattle.cxx_language_laws.proofs.Tells.{IsTold, ToldIn, tells_stop, Tells, ToldBy, tells_answer, tells_refusal, Answers, whole_stands, from_in}

-- a name, a call, or a member of an object
abbrev pub is_named : ℕ → Bool
is_named number = nat_eq number phrase.name || (nat_eq number production.call || (nat_eq number phrase.member || nat_eq number phrase.arrow))

-- a tree of which no name is looked up
abbrev pub IsPlain : CxxTree → Type 0
IsPlain tree = is_named tree.label.production ≡ false

-- 5.2.2: how it is told of a call whether its name stands in no brackets
abbrev pub brackets_of : Bool → List ℕ
brackets_of true = []
brackets_of false = codes "("

pub record PhrasesTell {S : Type 0} (kept : S → S → Type 0) (told : S → Ahead → Stopped → Type 0) (asks : Phrases S) (inner : Inner S) : Type 0 where
  pub kind : (path : CxxPath) → Answers kept told (asks.kind path)
  pub type_named : (path : CxxPath) → Answers kept told (asks.type_named path)
  pub whole : (tree : CxxTree) → IsPlain tree → Answers kept told (asks.whole tree)
  -- 5.1: of a name that is ahead
  pub name : (state : S) (ahead : Ahead) → begins_name ahead ≡ true → is_whole_name ahead ≡ true → ToldBy kept told state ahead (asks.whole (name_tree (path_ahead ahead) ahead (behind_name ahead)) state)
  -- 5.2.2: of a call that stands ahead
  pub call : (state : S) (ahead : Ahead) (is : IsCall asks inner state ahead) → kept state is.at → (from : Ahead) → ToldBy kept told state ahead (asks.whole (call_tree (brackets_of is.is_open) (path_ahead is.named) is.arguments from is.rest) is.at)
  -- 5.2.2: of a call of what was read
  pub through : (state : S) (ahead : Ahead) (is : IsCallOf asks inner state ahead) → kept state is.at → ToldBy kept told state ahead (asks.whole (called_tree is.callee is.arguments is.from is.rest) is.at)
  -- 5.2.5: of a member of an object that was read
  pub member : (state : S) (ahead : Ahead) (is : IsSelected asks inner state ahead) → ToldBy kept told state ahead (asks.whole (member_tree is.number (place_ahead ahead) (path_ahead (behind ahead)) is.object is.from (behind_name (behind ahead))) state)
  pub type_id : Tells kept told asks.type_id

pub record InnerTell {S : Type 0} (kept : S → S → Type 0) (told : S → Ahead → Stopped → Type 0) (inner : Inner S) : Type 0 where
  pub expression : (level : Level) → Tells kept told (inner.expression level)
  pub sized : Tells kept told inner.sized
  pub type_id : Tells kept told inner.type_id
  pub type_passed : Tells kept told inner.type_passed

-- a question that is answered, with the same tokens ahead
pub asked_in : {S A B : Type 0} {kept : S → S → Type 0} {told : S → Ahead → Stopped → Type 0} → IsTold kept told → {state : S} {ahead : Ahead} {r : Answer (A × S)} (go : A → Reads S B) (rest : Ahead) → ToldBy kept told state ahead r
    → ((x : A) (t : S) → ToldIn kept told t ahead (go x t rest)) → ToldIn kept told state ahead (then_read (answered r rest) go)
asked_in is {state = state} {ahead = ahead} go rest (tells_answer one keeps) goes = from_in is state one.1 ahead ahead keeps (whole_stands ahead.tokens) (goes one.0 one.1)
asked_in is go rest (tells_refusal why true_of) goes = tells_stop why true_of
