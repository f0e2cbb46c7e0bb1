-- The contract of a run follows from what is due and where it was told.
use Rattle.std.proofs.Common.{◌≡◌, ◌≢◌, ◌⊎◌, inl, inr, ◌∙◌, ℕ, suc, ◌<◌, Bool, true, false, cond, List, length, replicate, nat_lt, arith, refl, sym, ap, subst}
use Rattle.std.proofs.lemmas.Bool.{lt-ltb}
use Rattle.std.proofs.lemmas.List.{length-replicate}
use Rattle.std.specs.Prelude.{Option, Result, Some, None, codes, Ok, Err}
use Rattle.cxx_edge.specs.Source.{IsLonger}
use Rattle.cxx_form.specs.Called.{is_past_output}
use Rattle.cxx_model.specs.declared.fault.FaultText.{FaultText}
use Rattle.cxx_model.specs.declared.fault.FaultText.TheVariants as says
use Rattle.cxx_model.specs.declared.options.Options.{Options}
use Rattle.cxx_model.specs.declared.limits.TheConstants as limits
use Rattle.cxx_model.specs.declared.stop.Fault.{Fault}
use Rattle.cxx_model.specs.declared.stop.LimitKind.{LimitKind}
use Rattle.cxx_model.specs.declared.stop.LimitKind.TheVariants.{Bytes, Output}
use Rattle.cxx_model.specs.declared.token.Token.{Token}
use Rattle.cxx_model.specs.declared.token.TokenReason.{TokenReason}
use Rattle.cxx_model.specs.Printing.Reports.{report, limit_report}
use Rattle.cxx_model.specs.Stops.{Answer as Reads, Faulty, Limited}
use Rattle.cxx_model.specs.Text.Lexemes.{Lexeme, lexemes}
use Rattle.cxx_model.specs.Text.Tokens.{Unread, BadAt, PastTokens, tokens_of}
use Rattle.cxx_listing.specs.Lines.{calls_text}
use Rattle.cxx_listing.specs.Listing.{AreListed}
use Rattle.cxx_language_laws.specs.Best.{EachCallIsBest}
use Rattle.cxx_form.specs.Text.{plain_text}
use Rattle.cxx_reading.specs.Units.{CxxReading}
use Rattle.cxx_language.specs.Units.{unit_reading}
use Rattle.cxx_language_laws.specs.Told.{IsChoiceText, IsToldFault, IsUndeclaredFault}
use Rattle.cxx_words.specs.declared.job.Job.{Job}
use Rattle.cxx_words.specs.declared.job.Mode.{Mode}
use Rattle.cxx_words.specs.declared.job.Mode.TheVariants.{Bind, Calls}
use Rattle.cxx_words.specs.Words.{IsUnderstood, options_of, understood}
use Rattle.cxx_command.specs.declared.answers.Answer.{Answer}
use Rattle.cxx_command.specs.declared.answers.Answer.TheVariants as answer
use Rattle.cxx_command.specs.Again.{Difference, difference_text, read_again}
use Rattle.cxx_command.specs.Answers.{IsInputAnswer, IsJobAnswer, IsRunAnswer, DeliversAnswer}
use Rattle.cxx_command.specs.Outcome.{UnitOutcome, Whole, Broken, PastLimit, outcome_of, read_outcome, tokens_outcome}
use Rattle.cxx_command.specs.Run.{due, due_again, due_of, due_whole, text_of, AgreesWith, ForUnit, NotUnderstood, CannotRead, NoMemory, status_of_unit, IsToldTo, IsTold, Delivers, IsUnitDue, IsDueUnit, IsDue, IsSound, IsWritten, IsNotReadBack, IsMetLimit, met_reading, met_printing, IsTrueFault, IsAnswer, UnitDue, Writes, Reports, Names, Differs}
use Rattle.cxx_command.specs.Streams.{Change, HasFailed, IsUntouched, TookAll, TookPart}
use Rattle.cxx_command.proofs.Back.{not_read_back, reads_back}

-- ---- an input past the limit

pub long_due : (job : Job) (input : List ℕ) → limits.MOST_BYTES < length input → due job input ≡ Names Bytes
unfolding due outcome_of
long_due job input long = rw (lt-ltb limits.MOST_BYTES (length input) long) refl

some_longer : (n : ℕ) → (xs : List ℕ) × (n < length xs)
some_longer n = (replicate (suc n) 0, omega (arith, length-replicate {A = ℕ} (suc n) 0))

-- a source that gave too much has some such input
pub long_input : (left : Option (List ℕ)) → IsLonger left limits.MOST_BYTES → (input : List ℕ) × AgreesWith left input × (limits.MOST_BYTES < length input)
long_input None longer = let found = some_longer limits.MOST_BYTES in (found.0, tt, found.1)
long_input (Some left) longer = (left, refl, longer)

pub past_bytes : {S : Type 0} (job : Job) (source : Change S) → IsLonger source.told_old limits.MOST_BYTES → IsInputAnswer job source (answer.PassesLimit Bytes)
past_bytes job source longer =
    let found = long_input source.told_old longer in
    record { input = found.0; agrees = found.1; is = long_due job found.0 found.2 }

-- ---- the one input that a source tells

same_input : (told : Option (List ℕ)) (input other : List ℕ) → told ≡ Some input → AgreesWith told other → other ≡ input
same_input None input other tells agrees = absurd (cc)
same_input (Some left) input other tells agrees = sym agrees ∙ (cc)

unit_is : {job : Job} {told : Option (List ℕ)} {unit : UnitDue} (input : List ℕ) → told ≡ Some input → IsUnitDue job told unit → due job input ≡ unit
unit_is {job} {told} {unit} input tells found = subst (λ (x : List ℕ). due job x ≡ unit) (same_input told input found.input tells found.agrees) found.is

-- ---- the one job that words say

same_job : (found : Option Job) (one two : Job) → found ≡ Some one → found ≡ Some two → one ≡ two
same_job None one two is also = absurd (cc)
same_job (Some job) one two is also = cc

-- however the words are understood, this is due
due_is : {told : Option (List ℕ)} {unit : UnitDue} (words : List (List ℕ)) (is : IsDueUnit words told unit) (input : List ℕ) → told ≡ Some input → (clear : IsUnderstood words) → due clear.job input ≡ unit
due_is {told} {unit} words is input tells clear = subst (λ (job : Job). due job input ≡ unit) (same_job (understood words) is.understood.job clear.job is.understood.is clear.is) (unit_is input tells is.unit_due)

-- ---- what is known of every unit

pub record Laws : Type 0 where
  pub best : (options : Options) (tokens : List Lexeme) (reading : CxxReading) → unit_reading options tokens ≡ Ok reading → EachCallIsBest reading
  pub told : (options : Options) (tokens : List Lexeme) (fault : Fault) → unit_reading options tokens ≡ Err (Faulty fault) → IsChoiceText fault.text → IsToldFault tokens fault
  pub undeclared : (options : Options) (tokens : List Lexeme) (fault : Fault) (word : List ℕ) → unit_reading options tokens ≡ Err (Faulty fault) → fault.text ≡ says.UndeclaredName word → IsUndeclaredFault tokens fault word
  pub listed : (reading : CxxReading) → EachCallIsBest reading → AreListed reading.state

-- ---- a text that is written is what the job wants of a whole unit

record IsText (mode : Mode) (options : Options) (o : UnitOutcome) (text : List ℕ) : Type 0 where
  reading : CxxReading
  whole : o ≡ Whole reading
  printed : text_of mode reading ≡ text
  sound : EachCallIsBest reading → IsSound mode options reading

plain_by : (b : Bool) (reading : CxxReading) (found : Option Difference) (text : List ℕ) → cond b (Names Output) (due_again reading found) ≡ Writes text → (plain_text reading ≡ text) × (found ≡ None)
plain_by true reading found text is = absurd (cc)
plain_by false reading None text is = (cc, refl)
plain_by false reading (Some difference) text is = absurd (cc)

calls_by : (reading : CxxReading) (text : List ℕ) → Writes (calls_text reading) ≡ Writes text → calls_text reading ≡ text
calls_by reading text is = cc

writes_by : (laws : Laws) (mode : Mode) (options : Options) (reading : CxxReading) (text : List ℕ) → due_whole mode options reading ≡ Writes text → (text_of mode reading ≡ text) × (EachCallIsBest reading → IsSound mode options reading)
writes_by laws Bind options reading text is =
    let found = plain_by (is_past_output reading) reading (read_again options reading) text is in
    (found.0, λ best. reads_back options reading found.1)
writes_by laws Calls options reading text is = (calls_by reading text is, laws.listed reading)

writes_whole : (laws : Laws) (mode : Mode) (options : Options) (o : UnitOutcome) (text : List ℕ) → due_of mode options o ≡ Writes text → IsText mode options o text
writes_whole laws mode options (Whole reading) text is =
    let found = writes_by laws mode options reading text is in
    record { reading = reading; whole = refl; printed = found.0; sound = found.1 }
writes_whole laws mode options (Broken fault) text is = absurd (cc)
writes_whole laws mode options (PastLimit limit) text is = absurd (cc)

whole_of : (laws : Laws) (job : Job) (input text : List ℕ) → due job input ≡ Writes text → IsText job.mode (options_of job) (outcome_of (options_of job) input) text
unfolding due
whole_of laws job input text is = writes_whole laws job.mode (options_of job) (outcome_of (options_of job) input) text is

-- ---- a text that differs is the plain form of a whole unit

record IsOther (mode : Mode) (options : Options) (o : UnitOutcome) (difference : Difference) : Type 0 where
  reading : CxxReading
  binds : mode ≡ Bind
  whole : o ≡ Whole reading
  again : read_again options reading ≡ Some difference

other_by : (b : Bool) (reading : CxxReading) (found : Option Difference) (difference : Difference) → cond b (Names Output) (due_again reading found) ≡ Differs difference → found ≡ Some difference
other_by true reading found difference is = absurd (cc)
other_by false reading None difference is = absurd (cc)
other_by false reading (Some one) difference is = let same : one ≡ difference = cc in ap (λ (d : Difference). Some d) same

differs_by : (mode : Mode) (options : Options) (reading : CxxReading) (difference : Difference) → due_whole mode options reading ≡ Differs difference → (mode ≡ Bind) × (read_again options reading ≡ Some difference)
differs_by Bind options reading difference is = (refl, other_by (is_past_output reading) reading (read_again options reading) difference is)
differs_by Calls options reading difference is = absurd (cc)

differs_whole : (mode : Mode) (options : Options) (o : UnitOutcome) (difference : Difference) → due_of mode options o ≡ Differs difference → IsOther mode options o difference
differs_whole mode options (Whole reading) difference is =
    let found = differs_by mode options reading difference is in
    record { reading = reading; binds = found.0; whole = refl; again = found.1 }
differs_whole mode options (Broken fault) difference is = absurd (cc)
differs_whole mode options (PastLimit limit) difference is = absurd (cc)

other_of : (job : Job) (input : List ℕ) (difference : Difference) → due job input ≡ Differs difference → IsOther job.mode (options_of job) (outcome_of (options_of job) input) difference
unfolding due
other_of job input difference is = differs_whole job.mode (options_of job) (outcome_of (options_of job) input) difference is

-- ---- a limit that is named is met by the reading, or by the plain form

limit_is : (one two : LimitKind) → Names one ≡ Names two → one ≡ two
limit_is one two is = cc

met_plain : (job : Job) (input : List ℕ) (reading : CxxReading) (limit : LimitKind) (b : Bool) (found : Option Difference) → job.mode ≡ Bind → outcome_of (options_of job) input ≡ Whole reading → is_past_output reading ≡ b → cond b (Names Output) (due_again reading found) ≡ Names limit → IsMetLimit job input limit
met_plain job input reading limit true found binds whole past is = met_printing reading binds (sym (limit_is Output limit is)) whole past
met_plain job input reading limit false None binds whole past is = absurd (cc)
met_plain job input reading limit false (Some difference) binds whole past is = absurd (cc)

met_whole : (job : Job) (input : List ℕ) (reading : CxxReading) (limit : LimitKind) (mode : Mode) → job.mode ≡ mode → outcome_of (options_of job) input ≡ Whole reading → due_whole mode (options_of job) reading ≡ Names limit → IsMetLimit job input limit
met_whole job input reading limit Bind binds whole is = met_plain job input reading limit (is_past_output reading) (read_again (options_of job) reading) binds whole refl is
met_whole job input reading limit Calls binds whole is = absurd (cc)

met_by : (job : Job) (input : List ℕ) (o : UnitOutcome) (limit : LimitKind) → outcome_of (options_of job) input ≡ o → due_of job.mode (options_of job) o ≡ Names limit → IsMetLimit job input limit
met_by job input (Whole reading) limit outcome is = met_whole job input reading limit job.mode refl outcome is
met_by job input (Broken fault) limit outcome is = absurd (cc)
met_by job input (PastLimit found) limit outcome is = met_reading (outcome ∙ ap (λ (k : LimitKind). PastLimit k) (limit_is found limit is))

met_of : (job : Job) (input : List ℕ) (limit : LimitKind) → due job input ≡ Names limit → IsMetLimit job input limit
unfolding due
met_of job input limit is = met_by job input (outcome_of (options_of job) input) limit refl is

-- ---- a whole unit was read

read_whole : (answer : Reads CxxReading) (reading : CxxReading) → read_outcome answer ≡ Whole reading → answer ≡ Ok reading
read_whole (Ok found) reading is = cc
read_whole (Err (Faulty fault)) reading is = absurd (cc)
read_whole (Err (Limited limit)) reading is = absurd (cc)

tokens_whole : (options : Options) (bytes : List ℕ) (tokens : Result (List Token) Unread) (reading : CxxReading) → tokens_outcome options bytes tokens ≡ Whole reading
    → (list : List Token) × (unit_reading options (lexemes bytes list) ≡ Ok reading)
tokens_whole options bytes (Ok list) reading is = (list, read_whole (unit_reading options (lexemes bytes list)) reading is)
tokens_whole options bytes (Err (BadAt place reason)) reading is = absurd (cc)
tokens_whole options bytes (Err PastTokens) reading is = absurd (cc)

unless_long : (long : Bool) (options : Options) (bytes : List ℕ) (tokens : Result (List Token) Unread) (reading : CxxReading) → cond long (PastLimit Bytes) (tokens_outcome options bytes tokens) ≡ Whole reading
    → (list : List Token) × (unit_reading options (lexemes bytes list) ≡ Ok reading)
unless_long true options bytes tokens reading is = absurd (cc)
unless_long false options bytes tokens reading is = tokens_whole options bytes tokens reading is

whole_read : (options : Options) (bytes : List ℕ) (reading : CxxReading) → outcome_of options bytes ≡ Whole reading → (list : List Token) × (unit_reading options (lexemes bytes list) ≡ Ok reading)
unfolding outcome_of
whole_read options bytes reading is = unless_long (nat_lt limits.MOST_BYTES (length bytes)) options bytes (tokens_of bytes) reading is

-- ---- a fault that is reported is that of a broken unit

unreported : (b : Bool) (reading : CxxReading) (found : Option Difference) (fault : Fault) → cond b (Names Output) (due_again reading found) ≡ Reports fault → ⊥
unreported true reading found fault is = cc
unreported false reading None fault is = cc
unreported false reading (Some difference) fault is = cc

unreported_by : (mode : Mode) (options : Options) (reading : CxxReading) (fault : Fault) → due_whole mode options reading ≡ Reports fault → ⊥
unreported_by Bind options reading fault is = unreported (is_past_output reading) reading (read_again options reading) fault is
unreported_by Calls options reading fault is = cc

reports_broken : (mode : Mode) (options : Options) (o : UnitOutcome) (fault : Fault) → due_of mode options o ≡ Reports fault → o ≡ Broken fault
reports_broken mode options (Whole reading) fault is = absurd (unreported_by mode options reading fault is)
reports_broken mode options (Broken found) fault is = let same : found ≡ fault = cc in ap (λ (f : Fault). Broken f) same
reports_broken mode options (PastLimit limit) fault is = absurd (cc)

broken_of : (job : Job) (input : List ℕ) (fault : Fault) → due job input ≡ Reports fault → outcome_of (options_of job) input ≡ Broken fault
unfolding due
broken_of job input fault is = reports_broken job.mode (options_of job) (outcome_of (options_of job) input) fault is

read_broken : (answer : Reads CxxReading) (fault : Fault) → read_outcome answer ≡ Broken fault → answer ≡ Err (Faulty fault)
read_broken (Ok found) fault is = absurd (cc)
read_broken (Err (Faulty found)) fault is = cc
read_broken (Err (Limited limit)) fault is = absurd (cc)

broken_same : (one two : Fault) → Broken one ≡ Broken two → one ≡ two
broken_same one two is = cc

-- a broken unit whose fault is none of its tokens
record IsReadBroken (options : Options) (bytes : List ℕ) (tokens : Result (List Token) Unread) (fault : Fault) : Type 0 where
  list : List Token
  lists : tokens ≡ Ok list
  stops : unit_reading options (lexemes bytes list) ≡ Err (Faulty fault)

token_text : (why : TokenReason) → IsChoiceText (says.BadToken why) → ⊥
token_text why (inl e) = absurd cc
token_text why (inr e) = absurd cc

abbrev IsNameText : List ℕ → FaultText → Type 0
IsNameText word text = text ≡ says.UndeclaredName word

token_name_text : (word : List ℕ) (why : TokenReason) → IsNameText word (says.BadToken why) → ⊥
token_name_text word why e = absurd cc

-- no bad token has such a text
abbrev NoToken : (FaultText → Type 0) → Type 0
NoToken T = (why : TokenReason) → T (says.BadToken why) → ⊥

tokens_broken : (T : FaultText → Type 0) → NoToken T → (options : Options) (bytes : List ℕ) (tokens : Result (List Token) Unread) (fault : Fault) → T fault.text → tokens_outcome options bytes tokens ≡ Broken fault → IsReadBroken options bytes tokens fault
tokens_broken T other options bytes (Ok list) fault text is = record { list = list; lists = refl; stops = read_broken (unit_reading options (lexemes bytes list)) fault is }
tokens_broken T other options bytes (Err (BadAt place reason)) fault text is = absurd (other reason (subst (λ (f : Fault). T f.text) (sym (broken_same _ fault is)) text))
tokens_broken T other options bytes (Err PastTokens) fault text is = absurd (cc)

unless_long_broken : (long : Bool) (T : FaultText → Type 0) → NoToken T → (options : Options) (bytes : List ℕ) (tokens : Result (List Token) Unread) (fault : Fault) → T fault.text → cond long (PastLimit Bytes) (tokens_outcome options bytes tokens) ≡ Broken fault → IsReadBroken options bytes tokens fault
unless_long_broken true T other options bytes tokens fault text is = absurd (cc)
unless_long_broken false T other options bytes tokens fault text is = tokens_broken T other options bytes tokens fault text is

read_to_fault : (T : FaultText → Type 0) → NoToken T → (options : Options) (bytes : List ℕ) (fault : Fault) → T fault.text → outcome_of options bytes ≡ Broken fault → IsReadBroken options bytes (tokens_of bytes) fault
unfolding outcome_of
read_to_fault T other options bytes fault text is = unless_long_broken (nat_lt limits.MOST_BYTES (length bytes)) T other options bytes (tokens_of bytes) fault text is

-- ---- what is said of a whole unit

written_of : {K E : Type 0} (laws : Laws) (job : Job) (input text : List ℕ) (out : Change K) (err : Change E) → due job input ≡ Writes text → TookAll out text → IsUntouched err → (reading : CxxReading) × IsWritten job input reading out err
written_of laws job input text out err is took quiet =
    let found = whole_of laws job input text is in
    let read = whole_read (options_of job) input found.reading found.whole in
    let best = laws.best (options_of job) (lexemes input read.0) found.reading read.1 in (
      found.reading,
      record {
        outcome = found.whole;
        written = subst (λ (t : List ℕ). TookAll out t) (sym found.printed) took;
        quiet = quiet;
        best = best;
        sound = found.sound best;
      },
    )

unlike_of : {E : Type 0} (job : Job) (input : List ℕ) (difference : Difference) (err : Change E) → due job input ≡ Differs difference → TookAll err (difference_text difference) → (reading : CxxReading) × IsNotReadBack job input reading err
unlike_of job input difference err is took =
    let found = other_of job input difference is in
    let back = not_read_back (options_of job) found.reading difference found.again in (
      found.reading,
      record { mode = found.binds; outcome = found.whole; differs = back.0; within = back.1; difference = difference; is = found.again; told = took },
    )

-- ---- what was told, by the status

-- the status is the one that was to be said, or 4
said_or_failed : {K : Type 0} (sink : Change K) (text : List ℕ) (said status : ℕ) → IsToldTo sink text said status → (status ≡ said) ⊎ ((status ≡ 4) × HasFailed sink)
said_or_failed sink text said status (inl told) = inl told.0
said_or_failed sink text said status (inr told) = inr (told.0, told.1)

took_all : {K : Type 0} (sink : Change K) (text : List ℕ) (said status : ℕ) → IsToldTo sink text said status → status ≢ 4 → TookAll sink text
took_all sink text said status (inl told) differs = told.1
took_all sink text said status (inr told) differs = absurd (differs told.0)

took_part : {K : Type 0} (sink : Change K) (text : List ℕ) (said status : ℕ) → IsToldTo sink text said status → said ≢ 4 → status ≡ 4 → HasFailed sink × TookPart sink text
took_part sink text said status (inl told) differs is = absurd (differs (sym told.0 ∙ is))
took_part sink text said status (inr told) differs is = (told.1, told.2)

-- a status that was not to be said is 4
no_other : {K : Type 0} (sink : Change K) (text : List ℕ) (said status other : ℕ) → IsToldTo sink text said status → status ≡ other → said ≢ other → 4 ≢ other → ⊥
no_other sink text said status other (inl told) is differs four = differs (sym told.0 ∙ is)
no_other sink text said status other (inr told) is differs four = four (sym told.0 ∙ is)

works : {K : Type 0} (sink : Change K) (text : List ℕ) (said status : ℕ) → IsToldTo sink text said status → ¬ (HasFailed sink) → (status ≡ said) × TookAll sink text
works sink text said status (inl told) sound = told
works sink text said status (inr told) sound = absurd (sound told.1)

true_fault : (laws : Laws) (job : Job) (input : List ℕ) (fault : Fault) → due job input ≡ Reports fault → IsTrueFault input fault
true_fault laws job input fault is = record {
  choice = λ text.
      let read = read_to_fault IsChoiceText token_text (options_of job) input fault text (broken_of job input fault is) in
      (read.list, read.lists, laws.told (options_of job) (lexemes input read.list) fault read.stops text);
  undeclared = λ word text.
      let read = read_to_fault (IsNameText word) (token_name_text word) (options_of job) input fault text (broken_of job input fault is) in
      (read.list, read.lists, laws.undeclared (options_of job) (lexemes input read.list) fault word read.stops text);
}

-- ---- each case

writes_same : {text other : List ℕ} → Writes text ≡ Writes other → text ≡ other
writes_same is = cc

case_writes : {S K E : Type 0} (laws : Laws) (words : List (List ℕ)) (source : Change S) (out : Change K) (err : Change E) (status : ℕ) (text : List ℕ) → IsDue words source (ForUnit (Writes text)) → Delivers (ForUnit (Writes text)) out err status → IsAnswer words source out err status
case_writes laws words source out err status text is told = record {
  what = ForUnit (Writes text);
  is_due = is;
  delivered = told;
  complete = λ input other tells understood writes sound_source sound_out sound_err.
      let same : text ≡ other = writes_same (sym (due_is words is input tells understood) ∙ writes) in
      let done = works out text 0 status told.0 sound_out in
      inl (done.0, subst (λ (t : List ℕ). TookAll out t) same done.1, told.1);
  whole = λ input tells zero. let found = written_of laws is.understood.job input text out err (unit_is input tells is.unit_due) (took_all out text 0 status told.0 (λ e. absurd (omega arith))) told.1 in (is.understood, found.0, found.1);
  broken = λ input tells one. absurd (no_other out text 0 status 1 told.0 one (λ e. omega arith) (λ e. omega arith));
  limited = λ input tells is_5. absurd (no_other out text 0 status 5 told.0 is_5 (λ e. omega arith) (λ e. omega arith));
  unlike = λ input tells is_7. absurd (no_other out text 0 status 7 told.0 is_7 (λ e. omega arith) (λ e. omega arith));
  by_input = λ input tells understood. elim (said_or_failed out text 0 status told.0) [
    | inl said ↦ inl (said ∙ sym (ap status_of_unit (due_is words is input tells understood)))
    | inr failed ↦ inr (inr (inl (failed.0, inl failed.1)))
  ];
  not_understood = λ two. absurd (no_other out text 0 status 2 told.0 two (λ e. omega arith) (λ e. omega arith));
  not_understood_back = λ unclear. absurd (unclear is.understood);
  unread = λ unclear. absurd (unclear is.understood);
  cannot_read = λ three. absurd (no_other out text 0 status 3 told.0 three (λ e. omega arith) (λ e. omega arith));
  cannot_write = λ four. inl (took_part out text 0 status told.0 (λ e. omega arith) four).0;
  part = λ four. let some = took_part out text 0 status told.0 (λ e. omega arith) four in (text, inl (some.0, some.1, told.1));
  out_untouched = λ zero four. elim (said_or_failed out text 0 status told.0) [ inl said ↦ absurd (zero said) | inr failed ↦ absurd (four failed.0) ];
  err_untouched = λ zero. told.1;
}

case_reports : {S K E : Type 0} (laws : Laws) (words : List (List ℕ)) (source : Change S) (out : Change K) (err : Change E) (status : ℕ) (fault : Fault) → IsDue words source (ForUnit (Reports fault)) → Delivers (ForUnit (Reports fault)) out err status → IsAnswer words source out err status
case_reports laws words source out err status fault is told = record {
  what = ForUnit (Reports fault);
  is_due = is;
  delivered = told;
  complete = λ input other tells understood writes sound_source sound_out sound_err. absurd (cc (due_is words is input tells understood, writes));
  whole = λ input tells is_0. absurd (no_other err (report fault) 1 status 0 told.0 is_0 (λ e. omega arith) (λ e. omega arith));
  broken = λ input tells is_1. (is.understood, fault, unit_is input tells is.unit_due, took_all err (report fault) 1 status told.0 (λ e. absurd (omega arith)), true_fault laws is.understood.job input fault (unit_is input tells is.unit_due));
  limited = λ input tells is_5. absurd (no_other err (report fault) 1 status 5 told.0 is_5 (λ e. omega arith) (λ e. omega arith));
  unlike = λ input tells is_7. absurd (no_other err (report fault) 1 status 7 told.0 is_7 (λ e. omega arith) (λ e. omega arith));
  by_input = λ input tells understood. elim (said_or_failed err (report fault) 1 status told.0) [
    | inl said ↦ inl (said ∙ sym (ap status_of_unit (due_is words is input tells understood)))
    | inr failed ↦ inr (inr (inl (failed.0, inr failed.1)))
  ];
  not_understood = λ is_2. absurd (no_other err (report fault) 1 status 2 told.0 is_2 (λ e. omega arith) (λ e. omega arith));
  not_understood_back = λ unclear. absurd (unclear is.understood);
  unread = λ unclear. absurd (unclear is.understood);
  cannot_read = λ is_3. absurd (no_other err (report fault) 1 status 3 told.0 is_3 (λ e. omega arith) (λ e. omega arith));
  cannot_write = λ four. inr (took_part err (report fault) 1 status told.0 (λ e. omega arith) four).0;
  part = λ four. let some = took_part err (report fault) 1 status told.0 (λ e. omega arith) four in ((report fault), inr (some.0, some.1, told.1));
  out_untouched = λ zero four. told.1;
  err_untouched = λ is_0. absurd (no_other err (report fault) 1 status 0 told.0 is_0 (λ e. omega arith) (λ e. omega arith));
}

case_names : {S K E : Type 0} (words : List (List ℕ)) (source : Change S) (out : Change K) (err : Change E) (status : ℕ) (limit : LimitKind) → IsDue words source (ForUnit (Names limit)) → Delivers (ForUnit (Names limit)) out err status → IsAnswer words source out err status
case_names words source out err status limit is told = record {
  what = ForUnit (Names limit);
  is_due = is;
  delivered = told;
  complete = λ input other tells understood writes sound_source sound_out sound_err. absurd (cc (due_is words is input tells understood, writes));
  whole = λ input tells is_0. absurd (no_other err (limit_report limit) 5 status 0 told.0 is_0 (λ e. omega arith) (λ e. omega arith));
  broken = λ input tells is_1. absurd (no_other err (limit_report limit) 5 status 1 told.0 is_1 (λ e. omega arith) (λ e. omega arith));
  limited = λ input tells is_5. (is.understood, limit, unit_is input tells is.unit_due, took_all err (limit_report limit) 5 status told.0 (λ e. absurd (omega arith)), met_of is.understood.job input limit (unit_is input tells is.unit_due));
  unlike = λ input tells is_7. absurd (no_other err (limit_report limit) 5 status 7 told.0 is_7 (λ e. omega arith) (λ e. omega arith));
  by_input = λ input tells understood. elim (said_or_failed err (limit_report limit) 5 status told.0) [
    | inl said ↦ inl (said ∙ sym (ap status_of_unit (due_is words is input tells understood)))
    | inr failed ↦ inr (inr (inl (failed.0, inr failed.1)))
  ];
  not_understood = λ is_2. absurd (no_other err (limit_report limit) 5 status 2 told.0 is_2 (λ e. omega arith) (λ e. omega arith));
  not_understood_back = λ unclear. absurd (unclear is.understood);
  unread = λ unclear. absurd (unclear is.understood);
  cannot_read = λ is_3. absurd (no_other err (limit_report limit) 5 status 3 told.0 is_3 (λ e. omega arith) (λ e. omega arith));
  cannot_write = λ four. inr (took_part err (limit_report limit) 5 status told.0 (λ e. omega arith) four).0;
  part = λ four. let some = took_part err (limit_report limit) 5 status told.0 (λ e. omega arith) four in ((limit_report limit), inr (some.0, some.1, told.1));
  out_untouched = λ zero four. told.1;
  err_untouched = λ is_0. absurd (no_other err (limit_report limit) 5 status 0 told.0 is_0 (λ e. omega arith) (λ e. omega arith));
}

case_differs : {S K E : Type 0} (words : List (List ℕ)) (source : Change S) (out : Change K) (err : Change E) (status : ℕ) (difference : Difference) → IsDue words source (ForUnit (Differs difference)) → Delivers (ForUnit (Differs difference)) out err status → IsAnswer words source out err status
case_differs words source out err status difference is told = record {
  what = ForUnit (Differs difference);
  is_due = is;
  delivered = told;
  complete = λ input other tells understood writes sound_source sound_out sound_err. absurd (cc (due_is words is input tells understood, writes));
  whole = λ input tells is_0. absurd (no_other err (difference_text difference) 7 status 0 told.0 is_0 (λ e. omega arith) (λ e. omega arith));
  broken = λ input tells is_1. absurd (no_other err (difference_text difference) 7 status 1 told.0 is_1 (λ e. omega arith) (λ e. omega arith));
  limited = λ input tells is_5. absurd (no_other err (difference_text difference) 7 status 5 told.0 is_5 (λ e. omega arith) (λ e. omega arith));
  unlike = λ input tells is_7. let found = unlike_of is.understood.job input difference err (unit_is input tells is.unit_due) (took_all err (difference_text difference) 7 status told.0 (λ e. absurd (omega arith))) in (is.understood, found.0, found.1);
  by_input = λ input tells understood. elim (said_or_failed err (difference_text difference) 7 status told.0) [
    | inl said ↦ inl (said ∙ sym (ap status_of_unit (due_is words is input tells understood)))
    | inr failed ↦ inr (inr (inl (failed.0, inr failed.1)))
  ];
  not_understood = λ is_2. absurd (no_other err (difference_text difference) 7 status 2 told.0 is_2 (λ e. omega arith) (λ e. omega arith));
  not_understood_back = λ unclear. absurd (unclear is.understood);
  unread = λ unclear. absurd (unclear is.understood);
  cannot_read = λ is_3. absurd (no_other err (difference_text difference) 7 status 3 told.0 is_3 (λ e. omega arith) (λ e. omega arith));
  cannot_write = λ four. inr (took_part err (difference_text difference) 7 status told.0 (λ e. omega arith) four).0;
  part = λ four. let some = took_part err (difference_text difference) 7 status told.0 (λ e. omega arith) four in ((difference_text difference), inr (some.0, some.1, told.1));
  out_untouched = λ zero four. told.1;
  err_untouched = λ is_0. absurd (no_other err (difference_text difference) 7 status 0 told.0 is_0 (λ e. omega arith) (λ e. omega arith));
}

case_not_understood : {S K E : Type 0} (words : List (List ℕ)) (source : Change S) (out : Change K) (err : Change E) (status : ℕ) → IsDue words source (NotUnderstood) → Delivers (NotUnderstood) out err status → IsAnswer words source out err status
case_not_understood words source out err status is told = record {
  what = NotUnderstood;
  is_due = is;
  delivered = told;
  complete = λ input other tells understood writes sound_source sound_out sound_err. absurd (is.0 understood);
  whole = λ input tells is_0. absurd (no_other err (codes "words not understood\n") 2 status 0 told.0 is_0 (λ e. omega arith) (λ e. omega arith));
  broken = λ input tells is_1. absurd (no_other err (codes "words not understood\n") 2 status 1 told.0 is_1 (λ e. omega arith) (λ e. omega arith));
  limited = λ input tells is_5. absurd (no_other err (codes "words not understood\n") 2 status 5 told.0 is_5 (λ e. omega arith) (λ e. omega arith));
  unlike = λ input tells is_7. absurd (no_other err (codes "words not understood\n") 2 status 7 told.0 is_7 (λ e. omega arith) (λ e. omega arith));
  by_input = λ input tells understood. absurd (is.0 understood);
  not_understood = λ is_2. is.0;
  not_understood_back = λ unclear. elim (said_or_failed err (codes "words not understood\n") 2 status told.0) [ inl said ↦ inl said | inr failed ↦ inr failed.0 ];
  unread = λ unclear. is.1;
  cannot_read = λ is_3. absurd (no_other err (codes "words not understood\n") 2 status 3 told.0 is_3 (λ e. omega arith) (λ e. omega arith));
  cannot_write = λ four. inr (took_part err (codes "words not understood\n") 2 status told.0 (λ e. omega arith) four).0;
  part = λ four. let some = took_part err (codes "words not understood\n") 2 status told.0 (λ e. omega arith) four in ((codes "words not understood\n"), inr (some.0, some.1, told.1));
  out_untouched = λ zero four. told.1;
  err_untouched = λ is_0. absurd (no_other err (codes "words not understood\n") 2 status 0 told.0 is_0 (λ e. omega arith) (λ e. omega arith));
}

case_cannot_read : {S K E : Type 0} (words : List (List ℕ)) (source : Change S) (out : Change K) (err : Change E) (status : ℕ) → IsDue words source (CannotRead) → Delivers (CannotRead) out err status → IsAnswer words source out err status
case_cannot_read words source out err status is told = record {
  what = CannotRead;
  is_due = is;
  delivered = told;
  complete = λ input other tells understood writes sound_source sound_out sound_err. absurd (sound_source is.1);
  whole = λ input tells is_0. absurd (no_other err (codes "cannot read\n") 3 status 0 told.0 is_0 (λ e. omega arith) (λ e. omega arith));
  broken = λ input tells is_1. absurd (no_other err (codes "cannot read\n") 3 status 1 told.0 is_1 (λ e. omega arith) (λ e. omega arith));
  limited = λ input tells is_5. absurd (no_other err (codes "cannot read\n") 3 status 5 told.0 is_5 (λ e. omega arith) (λ e. omega arith));
  unlike = λ input tells is_7. absurd (no_other err (codes "cannot read\n") 3 status 7 told.0 is_7 (λ e. omega arith) (λ e. omega arith));
  by_input = λ input tells understood. elim (said_or_failed err (codes "cannot read\n") 3 status told.0) [
    | inl said ↦ inr (inl (said, is.1))
    | inr failed ↦ inr (inr (inl (failed.0, inr failed.1)))
  ];
  not_understood = λ is_2. absurd (no_other err (codes "cannot read\n") 3 status 2 told.0 is_2 (λ e. omega arith) (λ e. omega arith));
  not_understood_back = λ unclear. absurd (unclear is.0);
  unread = λ unclear. absurd (unclear is.0);
  cannot_read = λ is_3. is;
  cannot_write = λ four. inr (took_part err (codes "cannot read\n") 3 status told.0 (λ e. omega arith) four).0;
  part = λ four. let some = took_part err (codes "cannot read\n") 3 status told.0 (λ e. omega arith) four in ((codes "cannot read\n"), inr (some.0, some.1, told.1));
  out_untouched = λ zero four. told.1;
  err_untouched = λ is_0. absurd (no_other err (codes "cannot read\n") 3 status 0 told.0 is_0 (λ e. omega arith) (λ e. omega arith));
}

case_no_memory : {S K E : Type 0} (words : List (List ℕ)) (source : Change S) (out : Change K) (err : Change E) (status : ℕ) → IsDue words source (NoMemory) → Delivers (NoMemory) out err status → IsAnswer words source out err status
case_no_memory words source out err status is told = record {
  what = NoMemory;
  is_due = is;
  delivered = told;
  complete = λ input other tells understood writes sound_source sound_out sound_err. inr (works err (codes "out of memory\n") 6 status told.0 sound_err).0;
  whole = λ input tells is_0. absurd (no_other err (codes "out of memory\n") 6 status 0 told.0 is_0 (λ e. omega arith) (λ e. omega arith));
  broken = λ input tells is_1. absurd (no_other err (codes "out of memory\n") 6 status 1 told.0 is_1 (λ e. omega arith) (λ e. omega arith));
  limited = λ input tells is_5. absurd (no_other err (codes "out of memory\n") 6 status 5 told.0 is_5 (λ e. omega arith) (λ e. omega arith));
  unlike = λ input tells is_7. absurd (no_other err (codes "out of memory\n") 6 status 7 told.0 is_7 (λ e. omega arith) (λ e. omega arith));
  by_input = λ input tells understood. elim (said_or_failed err (codes "out of memory\n") 6 status told.0) [
    | inl said ↦ inr (inr (inr said))
    | inr failed ↦ inr (inr (inl (failed.0, inr failed.1)))
  ];
  not_understood = λ is_2. absurd (no_other err (codes "out of memory\n") 6 status 2 told.0 is_2 (λ e. omega arith) (λ e. omega arith));
  not_understood_back = λ unclear. absurd (unclear is);
  unread = λ unclear. absurd (unclear is);
  cannot_read = λ is_3. absurd (no_other err (codes "out of memory\n") 6 status 3 told.0 is_3 (λ e. omega arith) (λ e. omega arith));
  cannot_write = λ four. inr (took_part err (codes "out of memory\n") 6 status told.0 (λ e. omega arith) four).0;
  part = λ four. let some = took_part err (codes "out of memory\n") 6 status told.0 (λ e. omega arith) four in ((codes "out of memory\n"), inr (some.0, some.1, told.1));
  out_untouched = λ zero four. told.1;
  err_untouched = λ is_0. absurd (no_other err (codes "out of memory\n") 6 status 0 told.0 is_0 (λ e. omega arith) (λ e. omega arith));
}

-- ---- from the answer

as_unit : {S : Type 0} (job : Job) (source : Change S) (given : Answer) (unit : UnitDue) (found : IsInputAnswer job source given) → due job found.input ≡ unit → IsUnitDue job source.told_old unit
as_unit job source given unit found is = record { input = found.input; agrees = found.agrees; is = is }

due_unit : {S : Type 0} (words : List (List ℕ)) (source : Change S) (given : Answer) (unit : UnitDue) (clear : IsUnderstood words) (found : IsInputAnswer clear.job source given) → due clear.job found.input ≡ unit → IsDueUnit words source.told_old unit
due_unit words source given unit clear found is = record { understood = clear; unit_due = as_unit clear.job source given unit found is }

pub answered : {S K E : Type 0} (laws : Laws) (words : List (List ℕ)) (source : Change S) (out : Change K) (err : Change E) (status : ℕ) (given : Answer) → IsRunAnswer words source given → DeliversAnswer given out err status → IsAnswer words source out err status
answered laws words source out err status (answer.Writes text) is told = case_writes laws words source out err status text.items (due_unit words source (answer.Writes text) (Writes text.items) is.understood is.job_answer is.job_answer.is) told
answered laws words source out err status (answer.Reports text) is told =
    let found = is.job_answer.is in
    case_reports laws words source out err status found.0 (due_unit words source (answer.Reports text) (Reports found.0) is.understood is.job_answer found.1) (subst (λ (t : List ℕ). IsTold err out t 1 status) found.2 told)
answered laws words source out err status (answer.PassesLimit limit) is told = case_names words source out err status limit (due_unit words source (answer.PassesLimit limit) (Names limit) is.understood is.job_answer is.job_answer.is) told
answered laws words source out err status (answer.DoesNotReadBack text) is told =
    let found = is.job_answer.is in
    case_differs words source out err status found.0 (due_unit words source (answer.DoesNotReadBack text) (Differs found.0) is.understood is.job_answer found.1) (subst (λ (t : List ℕ). IsTold err out t 7 status) found.2 told)
answered laws words source out err status answer.NotUnderstood is told = case_not_understood words source out err status is told
answered laws words source out err status answer.CannotRead is told = case_cannot_read words source out err status (is.understood, is.job_answer) told
answered laws words source out err status answer.NoMemory is told = case_no_memory words source out err status is.understood told

-- ---- from the parts of a run

-- the answer for the job that the words say is that of the run
pub job_answered : {S : Type 0} (words : List (List ℕ)) (source : Change S) (job : Job) (given : Answer) → understood words ≡ Some job → IsJobAnswer job source given → IsRunAnswer words source given
job_answered words source job (answer.Writes text) clear is = record { understood = record { job = job; is = clear }; job_answer = is }
job_answered words source job (answer.Reports text) clear is = record { understood = record { job = job; is = clear }; job_answer = is }
job_answered words source job (answer.PassesLimit limit) clear is = record { understood = record { job = job; is = clear }; job_answer = is }
job_answered words source job (answer.DoesNotReadBack text) clear is = record { understood = record { job = job; is = clear }; job_answer = is }
job_answered words source job answer.NotUnderstood clear is = absurd is
job_answered words source job answer.CannotRead clear is = record { understood = record { job = job; is = clear }; job_answer = is }
job_answered words source job answer.NoMemory clear is = record { understood = record { job = job; is = clear }; job_answer = is }
