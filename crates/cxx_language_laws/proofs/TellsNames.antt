-- What names and calls keep of the state, and what stops them.
use Rattle.std.proofs.Common.{◌≡◌, refl, sym, ap, subst, ◌∙◌}
use Rattle.std.specs.Prelude.{Bool, true, false, if◌then◌else◌, ℕ, ◌-◌, List, [], ◌∷◌, ◌++◌, length, Option, Some, None, Ok, Err, codes}
use Rattle.cxx_model.specs.declared.place.Place.{Place}
use Rattle.cxx_model.specs.Facts.Declarations as facts
use Rattle.cxx_model.specs.Facts.Declarations.{CxxGraph, Declares}
use Rattle.cxx_model.specs.Facts.Entities.{first_or}
use Rattle.cxx_model.specs.declared.fault.FaultText.TheVariants as says
use Rattle.cxx_model.specs.Stops.{Stopped, fault, not_built_at, undeclared_at}
use Rattle.cxx_expr.specs.Asking.{then_asked}
use Rattle.cxx_model.specs.Types.Trees.{CxxType}
use Rattle.cxx_meaning.specs.Lookups.Wanted.{is_function}
use Rattle.cxx_reading.specs.Reads.{Ahead}
use Rattle.cxx_reading.specs.Seen.{Numbered}
use Rattle.cxx_reading.specs.State.{CxxState}
use Rattle.cxx_reading.specs.Trees.{CxxPathPart, CxxTree, Label, tree_of}
use Rattle.cxx_expr.specs.Calls.{functions_called, implied_call, implied_callee, implied_chosen, implied_member, implied_question, implied_type, chosen_as, chosen_tree, chosen_call, is_bare, question, function_call, Signature, fits_count, through_tree, through_signature, through_counted, no_callee, through_by, signature_by, through, called_label, without_name, value_call, is_asked_for, called_first, called, name_call}
use Rattle.cxx_expr.specs.Implied.{member_label, member_named, named_by, named_here, object_for, object_of_first, object_tree}
use Rattle.cxx_expr.specs.Names.{is_nonstatic, means_enumerator, means_first, means_object, means_value, meant_by, named, named_tree, path_in, static_class, values_among, word_in}
use Rattle.cxx_expr.specs.Operands.{is_none, is_of_class, object_operand}
use Rattle.cxx_expr.specs.Questions.{CxxChosen, Questions}
use Rattle.cxx_expr.specs.Steps.{written}
use Rattle.cxx_this.specs.This.{class_at}
use Rattle.cxx_reading.specs.Initializers.{operand_of}
use Rattle.cxx_meaning.specs.Conversions.BuiltIn.{operand_kind}
use Rattle.cxx_language_laws.proofs.QuestionsTell.{DefaultsTell, QuestionsTell, quiet_by, same_by, if_by, when_by, then_by, then_by_from, from_by, give_by}
use Rattle.cxx_language_laws.proofs.Tells.{IsTold, IsQuiet, ToldBy, tells_refusal, Answers}
use Rattle.cxx_language_laws.proofs.TellsConversions.{convert_each_tells}
use Rattle.cxx_language_laws.proofs.TellsMeans.{means_function_tells, means_object_tells}
use Rattle.cxx_language_laws.proofs.TellsMembers.{fallbacks_tell, member_chosen_tells, selected_among_tells}

-- ---- names

means_first_tells : {kept : CxxState → CxxState → Type 0} {told : CxxState → Ahead → Stopped → Type 0} → IsTold kept told → (place : Place) (graph : CxxGraph) (list : Option ℕ) (all : List Numbered) (number : ℕ) (what : Declares) → Answers kept told (means_first place graph list all number what)
means_first_tells is place graph list all number (facts.object of kind is_mutable value first) state ahead = means_object_tells is place (is_nonstatic kind) (means_object graph (first_or number first) of) state ahead
means_first_tells is place graph list all number (facts.enumerator n value) state ahead = give_by is (means_enumerator list number n value) state ahead
means_first_tells is place graph list all number (facts.function of kind flags defaults first) state ahead = means_function_tells is place graph kind (first_or number first) of all state ahead
means_first_tells is place graph list all number _ state ahead = quiet_by is refl

-- a name that has no declarations at all is told of
means_value_tells : {kept : CxxState → CxxState → Type 0} {told : CxxState → Ahead → Stopped → Type 0} → IsTold kept told → (part : CxxPathPart) (place : Place) (all values : List Numbered) (state : CxxState) (ahead : Ahead) → (all ≡ [] → told state ahead (undeclared_at part.place part.word)) → ToldBy kept told state ahead (means_value part place all values state)
means_value_tells is part place [] [] state ahead unknown = tells_refusal _ (unknown refl)
means_value_tells is part place (one ∷ others) [] state ahead unknown = quiet_by is refl
means_value_tells is part place all (one ∷ others) state ahead unknown = means_first_tells is place state.graph state.here.enumeration (one ∷ others) one.number one.fact.what state ahead

pub named_tells : {kept : CxxState → CxxState → Type 0} {told : CxxState → Ahead → Stopped → Type 0} → IsTold kept told → {q : Questions} → QuestionsTell kept told q → (label : Label) (all : List Numbered) (state : CxxState) (ahead : Ahead) → (all ≡ [] → told state ahead (undeclared_at (word_in label).place (word_in label).word)) → ToldBy kept told state ahead (named q label all state)
unfolding named meant_by
named_tells is asks label all state ahead unknown = then_by is (means_value_tells is (word_in label) label.place all (values_among state.graph all) state ahead unknown) (λ means state ahead. then_by is (asks.bound label.place means.target state ahead) (λ noted state ahead. same_by is (named_tree label means (static_class state.graph means.target)) state ahead))

-- ---- members of `*this` (9.3.1)

member_named_tells : {kept : CxxState → CxxState → Type 0} {told : CxxState → Ahead → Stopped → Type 0} → IsTold kept told → {q : Questions} → QuestionsTell kept told q → (label : Label) (all : List Numbered) (of : CxxType) (state : CxxState) (ahead : Ahead) → (all ≡ [] → told state ahead (undeclared_at (word_in label).place (word_in label).word)) → ToldBy kept told state ahead (member_named q label all of state)
unfolding member_named
member_named_tells is {q = q} asks label all of state ahead unknown =
    selected_among_tells is asks (tree_of (member_label label (codes "this")) []) (object_operand of) (object_tree label of ∷ []) (written (path_in label) (q.qualifier (path_in label) state)) all state ahead unknown

named_by_tells : {kept : CxxState → CxxState → Type 0} {told : CxxState → Ahead → Stopped → Type 0} → IsTold kept told → {q : Questions} → QuestionsTell kept told q → (label : Label) (all : List Numbered) (object : Option CxxType) (state : CxxState) (ahead : Ahead) → (all ≡ [] → told state ahead (undeclared_at (word_in label).place (word_in label).word)) → ToldBy kept told state ahead (named_by q label all object state)
named_by_tells is asks label all None state ahead unknown = named_tells is asks label all state ahead unknown
named_by_tells is asks label all (Some of) state ahead unknown = member_named_tells is asks label all of state ahead unknown

pub named_here_tells : {kept : CxxState → CxxState → Type 0} {told : CxxState → Ahead → Stopped → Type 0} → IsTold kept told → {q : Questions} → QuestionsTell kept told q → (label : Label) (all : List Numbered) (state : CxxState) (ahead : Ahead) → (all ≡ [] → told state ahead (undeclared_at (word_in label).place (word_in label).word)) → ToldBy kept told state ahead (named_here q label all state)
unfolding named_here
named_here_tells is asks label all state ahead unknown = named_by_tells is asks label all (object_of_first state (values_among state.graph all)) state ahead unknown

-- ---- what is called by an expression

through_signature_tells : {kept : CxxState → CxxState → Type 0} {told : CxxState → Ahead → Stopped → Type 0} → IsTold kept told → (q : Questions) (tree callee : CxxTree) (arguments : List CxxTree) (signature : Signature) → Answers kept told (through_signature q tree callee arguments signature)
unfolding through_signature
through_signature_tells is q tree callee arguments signature state ahead = then_by is (convert_each_tells is q tree.label.start signature.parameters (callee ∷ []) arguments state ahead) (λ parts. give_by is (through_tree tree signature.result parts))

through_counted_tells : {kept : CxxState → CxxState → Type 0} {told : CxxState → Ahead → Stopped → Type 0} → IsTold kept told → (q : Questions) (tree callee : CxxTree) (arguments : List CxxTree) (signature : Signature) → Answers kept told (through_counted q tree callee arguments signature)
through_counted_tells is q tree callee arguments signature state ahead = if_by (fits_count signature (length arguments)) (through_signature_tells is q tree callee arguments signature state ahead) (quiet_by is refl)

no_callee_tells : {A : Type 0} → {kept : CxxState → CxxState → Type 0} {told : CxxState → Ahead → Stopped → Type 0} → IsTold kept told → (start : Place) (callee : CxxTree) (state : CxxState) (ahead : Ahead) → ToldBy {A = A} kept told state ahead (Err (no_callee start callee))
no_callee_tells {kept = kept} {told = told} is start callee state ahead = quiet_by is (by (is_of_class callee))
  where
    by : (b : Bool) → IsQuiet (if b then not_built_at start else fault start says.OperandsDoNotFit)
    by true = refl
    by false = refl

through_by_tells : {kept : CxxState → CxxState → Type 0} {told : CxxState → Ahead → Stopped → Type 0} → IsTold kept told → (q : Questions) (tree callee : CxxTree) (arguments : List CxxTree) (signature : Option Signature) → Answers kept told (through_by q tree callee arguments signature)
through_by_tells is q tree callee arguments (Some signature) state ahead = through_counted_tells is q tree callee arguments signature state ahead
through_by_tells is q tree callee arguments None state ahead = no_callee_tells is tree.label.start callee state ahead

pub through_tells : {kept : CxxState → CxxState → Type 0} {told : CxxState → Ahead → Stopped → Type 0} → IsTold kept told → (q : Questions) (tree callee : CxxTree) (arguments : List CxxTree) → Answers kept told (through q tree callee arguments)
unfolding through
through_tells is q tree callee arguments = through_by_tells is q tree callee arguments (signature_by (operand_kind (operand_of callee)))

-- ---- what is called by its name

chosen_as_tells : {kept : CxxState → CxxState → Type 0} {told : CxxState → Ahead → Stopped → Type 0} → IsTold kept told → (tree : CxxTree) (chosen : CxxChosen) (arguments : List CxxTree) → Answers kept told (chosen_as tree chosen arguments)
chosen_as_tells is tree chosen arguments state ahead = same_by is (chosen_tree tree chosen (static_class state.graph chosen.target) arguments) state ahead

chosen_call_tells : {kept : CxxState → CxxState → Type 0} {told : CxxState → Ahead → Stopped → Type 0} → IsTold kept told → {q : Questions} → QuestionsTell kept told q → (tree : CxxTree) → DefaultsTell kept told q (path_in tree.label) → (arguments : List CxxTree) (chosen : CxxChosen) → Answers kept told (chosen_call q tree arguments chosen)
unfolding chosen_call
chosen_call_tells is {q = q} asks tree defaults arguments chosen state ahead = then_by is (asks.bound tree.label.place chosen.target state ahead) (λ noted state ahead. then_by is (fallbacks_tell is defaults chosen.target (length arguments) [] (length chosen.parameters - length arguments) state ahead) (λ behind state ahead. then_by is (convert_each_tells is q tree.label.place chosen.parameters [] arguments state ahead) (λ given. chosen_as_tells is tree chosen (given ++ behind))))

-- 3.4.2: a call asks for its functions where its name has a value, or means nothing and stands in no brackets, without
-- qualifiers
abbrev pub IsAskedSo : Label → List Numbered → List Numbered → Type 0
IsAskedSo label all [] = is_asked_for label all ≡ true
IsAskedSo label all (one ∷ others) = Unit {0}

-- what is asked of the called name, where it has these values
abbrev pub AskedFor : (CxxState → CxxState → Type 0) → (CxxState → Ahead → Stopped → Type 0) → Questions → CxxTree → List CxxTree → List Numbered → List Numbered → CxxState → Ahead → Type 0
AskedFor kept told q tree arguments all values state ahead = IsAskedSo tree.label all values → ToldBy kept told state ahead (q.call (question q tree.label values arguments state) state)

-- 13.3.1.1.1 p3: the same where these are functions of a class
abbrev pub AskedImplied : (CxxState → CxxState → Type 0) → (CxxState → Ahead → Stopped → Type 0) → Questions → CxxTree → List CxxTree → List Numbered → CxxState → Ahead → Type 0
AskedImplied kept told q tree arguments values state ahead =
    (one : Numbered) (others : List Numbered) (class : CxxType) → values ≡ one ∷ others → class_at state.graph one.fact.scope ≡ Some class → ToldBy kept told state ahead (q.call (implied_question q tree.label (one ∷ others) (implied_type class (object_for state one.fact.scope)) arguments state) state)

-- both, where it has these declarations
pub record AskedOf (kept : CxxState → CxxState → Type 0) (told : CxxState → Ahead → Stopped → Type 0) (q : Questions) (tree : CxxTree) (arguments : List CxxTree) (all : List Numbered) (state : CxxState) (ahead : Ahead) : Type 0 where
  pub by_name : AskedFor kept told q tree arguments all (values_among state.graph all) state ahead
  pub implied : AskedImplied kept told q tree arguments (values_among state.graph all) state ahead

-- what is told of a called name in brackets or with qualifiers that has no declarations
abbrev pub UnknownUnasked : (CxxState → Ahead → Stopped → Type 0) → Label → List Numbered → CxxState → Ahead → Type 0
UnknownUnasked told label all state ahead = all ≡ [] → is_bare label ≡ false → told state ahead (undeclared_at (word_in label).place (word_in label).word)

value_call_tells : {kept : CxxState → CxxState → Type 0} {told : CxxState → Ahead → Stopped → Type 0} → IsTold kept told → {q : Questions} → QuestionsTell kept told q → (tree : CxxTree) (all : List Numbered) (arguments : List CxxTree) (state : CxxState) (ahead : Ahead) → (all ≡ [] → told state ahead (undeclared_at (word_in tree.label).place (word_in tree.label).word)) → ToldBy kept told state ahead (value_call q tree all arguments state)
unfolding value_call
value_call_tells is {q = q} asks tree all arguments state ahead unknown = then_by is (named_here_tells is asks (called_label tree.label arguments) all state ahead unknown) (λ callee. through_tells is q (without_name tree) callee arguments)

function_call_tells : {kept : CxxState → CxxState → Type 0} {told : CxxState → Ahead → Stopped → Type 0} → IsTold kept told → {q : Questions} → QuestionsTell kept told q → (tree : CxxTree) → DefaultsTell kept told q (path_in tree.label) → (functions : List Numbered) (arguments : List CxxTree) (state : CxxState) (ahead : Ahead) → ToldBy kept told state ahead (q.call (question q tree.label functions arguments state) state) → ToldBy kept told state ahead (function_call q tree functions arguments state)
unfolding function_call
function_call_tells is asks tree defaults functions arguments state ahead answered = then_by is answered (chosen_call_tells is asks tree defaults arguments)

-- 9.3, 9.4: a function that belongs to an object has one
implied_member_tells : {kept : CxxState → CxxState → Type 0} {told : CxxState → Ahead → Stopped → Type 0} → IsTold kept told → {q : Questions} → QuestionsTell kept told q → (tree : CxxTree) (arguments : List CxxTree) (object : Option CxxType) (chosen : CxxChosen) → Answers kept told (implied_member q tree arguments object chosen)
implied_member_tells is asks tree arguments None chosen state ahead = quiet_by is refl
implied_member_tells is {q = q} asks tree arguments (Some of) chosen state ahead = member_chosen_tells is asks (without_name tree) (implied_callee (called_label tree.label arguments) of) of (written (path_in tree.label) (q.qualifier (path_in tree.label) state)) arguments chosen state ahead

implied_chosen_tells : {kept : CxxState → CxxState → Type 0} {told : CxxState → Ahead → Stopped → Type 0} → IsTold kept told → {q : Questions} → QuestionsTell kept told q → (tree : CxxTree) → DefaultsTell kept told q (path_in tree.label) → (arguments : List CxxTree) (object : Option CxxType) (chosen : CxxChosen) → Answers kept told (implied_chosen q tree arguments object chosen)
unfolding implied_chosen
implied_chosen_tells is asks tree defaults arguments object chosen state ahead =
    if_by (is_none (static_class state.graph chosen.target)) (implied_member_tells is asks tree arguments object chosen state ahead) (chosen_call_tells is asks tree defaults arguments chosen state ahead)

implied_call_tells : {kept : CxxState → CxxState → Type 0} {told : CxxState → Ahead → Stopped → Type 0} → IsTold kept told → {q : Questions} → QuestionsTell kept told q → (tree : CxxTree) → DefaultsTell kept told q (path_in tree.label) → (functions : List Numbered) (arguments : List CxxTree) (class : CxxType) (object : Option CxxType) (state : CxxState) (ahead : Ahead)
    → ToldBy kept told state ahead (q.call (implied_question q tree.label functions (implied_type class object) arguments state) state) → ToldBy kept told state ahead (implied_call q tree functions arguments class object state)
unfolding implied_call
implied_call_tells is asks tree defaults functions arguments class object state ahead answered = then_by is answered (implied_chosen_tells is asks tree defaults arguments object)

functions_called_tells : {kept : CxxState → CxxState → Type 0} {told : CxxState → Ahead → Stopped → Type 0} → IsTold kept told → {q : Questions} → QuestionsTell kept told q → (tree : CxxTree) → DefaultsTell kept told q (path_in tree.label) → (functions : List Numbered) (arguments : List CxxTree) (scope : ℕ) (found : Option CxxType) (state : CxxState) (ahead : Ahead) → ToldBy kept told state ahead (q.call (question q tree.label functions arguments state) state)
    → ((class : CxxType) → found ≡ Some class → ToldBy kept told state ahead (q.call (implied_question q tree.label functions (implied_type class (object_for state scope)) arguments state) state)) → ToldBy kept told state ahead (functions_called q tree functions arguments scope found state)
functions_called_tells is asks tree defaults functions arguments scope None state ahead answered implied = function_call_tells is asks tree defaults functions arguments state ahead answered
functions_called_tells is asks tree defaults functions arguments scope (Some class) state ahead answered implied = implied_call_tells is asks tree defaults functions arguments class (object_for state scope) state ahead (implied class refl)

called_first_tells : {kept : CxxState → CxxState → Type 0} {told : CxxState → Ahead → Stopped → Type 0} → IsTold kept told → {q : Questions} → QuestionsTell kept told q → (tree : CxxTree) → DefaultsTell kept told q (path_in tree.label) → (all : List Numbered) (arguments : List CxxTree) (values : List Numbered) (state : CxxState) (ahead : Ahead) → values_among state.graph all ≡ values → UnknownUnasked told tree.label all state ahead
    → AskedFor kept told q tree arguments all values state ahead → AskedImplied kept told q tree arguments values state ahead → ToldBy kept told state ahead (called_first q tree all arguments values state)
called_first_tells is asks tree defaults all arguments [] state ahead are unknown answered implied =
    when_by (is_asked_for tree.label all) (λ asked. function_call_tells is asks tree defaults [] arguments state ahead (answered asked))
    (λ not_asked. value_call_tells is asks tree all arguments state ahead (λ none. unknown none (subst (λ (some : List Numbered). is_asked_for tree.label some ≡ false) none not_asked)))
called_first_tells is asks tree defaults all arguments (one ∷ others) state ahead are unknown answered implied =
    if_by (is_function state.graph one.fact.what) (functions_called_tells is asks tree defaults (one ∷ others) arguments one.fact.scope (class_at state.graph one.fact.scope) state ahead (answered tt) (λ class of_class. implied one others class refl of_class))
    (value_call_tells is asks tree all arguments state ahead (λ none. absurd (no_one (ap (values_among state.graph) (sym none) ∙ are))))
  where
    no_one : [] ≡ one ∷ others → ⊥
    no_one e = cc

called_tells : {kept : CxxState → CxxState → Type 0} {told : CxxState → Ahead → Stopped → Type 0} → IsTold kept told → {q : Questions} → QuestionsTell kept told q → (tree : CxxTree) → DefaultsTell kept told q (path_in tree.label) → (arguments : List CxxTree) (all : List Numbered) (state : CxxState) (ahead : Ahead) → UnknownUnasked told tree.label all state ahead
    → AskedOf kept told q tree arguments all state ahead → ToldBy kept told state ahead (called q tree arguments all state)
unfolding called
called_tells is asks tree defaults arguments all state ahead unknown answered = called_first_tells is asks tree defaults all arguments (values_among state.graph all) state ahead refl unknown answered.by_name answered.implied

-- what is known of the answer to the question of a name
pub record NameTells (kept : CxxState → CxxState → Type 0) (told : CxxState → Ahead → Stopped → Type 0) (q : Questions) (label : Label) (state : CxxState) (ahead : Ahead) : Type 0 where
  pub answers : ToldBy kept told state ahead (q.name (path_in label) state)
  pub unknown : (one : List Numbered × CxxState) → q.name (path_in label) state ≡ Ok one → one.0 ≡ [] → told one.1 ahead (undeclared_at (word_in label).place (word_in label).word)

-- the same of a called name
pub record CalledTells (kept : CxxState → CxxState → Type 0) (told : CxxState → Ahead → Stopped → Type 0) (q : Questions) (label : Label) (state : CxxState) (ahead : Ahead) : Type 0 where
  pub answers : ToldBy kept told state ahead (q.name (path_in label) state)
  pub unknown : (one : List Numbered × CxxState) → q.name (path_in label) state ≡ Ok one → UnknownUnasked told label one.0 one.1 ahead

pub name_call_tells : {kept : CxxState → CxxState → Type 0} {told : CxxState → Ahead → Stopped → Type 0} → IsTold kept told → {q : Questions} → QuestionsTell kept told q → (tree : CxxTree) → DefaultsTell kept told q (path_in tree.label) → (arguments : List CxxTree) (state : CxxState) (ahead : Ahead) → CalledTells kept told q tree.label state ahead
    → ((one : List Numbered × CxxState) → q.name (path_in tree.label) state ≡ Ok one → AskedOf kept told q tree arguments one.0 one.1 ahead) → ToldBy kept told state ahead (name_call q tree arguments state)
unfolding name_call
name_call_tells is {q = q} asks tree defaults arguments state ahead name calls = then_by_from (called q tree arguments) name.answers (λ one is_so keeps. from_by is state one.1 ahead keeps (called_tells is asks tree defaults arguments one.0 one.1 ahead (name.unknown one is_so) (calls one is_so)))

pub name_alone_tells : {kept : CxxState → CxxState → Type 0} {told : CxxState → Ahead → Stopped → Type 0} → IsTold kept told → {q : Questions} → QuestionsTell kept told q → (label : Label) (state : CxxState) (ahead : Ahead) → NameTells kept told q label state ahead → ToldBy kept told state ahead (then_asked (q.name (path_in label) state) (named_here q label))
name_alone_tells is {q = q} asks label state ahead name = then_by_from (named_here q label) name.answers (λ one is_so keeps. from_by is state one.1 ahead keeps (named_here_tells is asks label one.0 one.1 ahead (name.unknown one is_so)))
