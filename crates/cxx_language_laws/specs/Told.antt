-- What is true of the fault with which the reading of a unit stops, where that is one of a call (13.3) or of a name (3.4).
use Rattle.std.specs.Prelude.{ℕ, ◌≤◌, ◌<◌, ◌≡◌, ◌⊎◌, Bool, List, [], ◌∷◌, ◌++◌, length, Option, Some, None, Ok, Err, true, false, codes}
use Rattle.std.specs.List.{Contains}
use Rattle.cxx_model.specs.declared.evidence.Evidence.TheVariants as evidence
use Rattle.cxx_model.specs.declared.fault.FaultText.{FaultText}
use Rattle.cxx_model.specs.declared.fault.FaultText.TheVariants as says
use Rattle.cxx_model.specs.declared.keyword.TheConstants as keyword
use Rattle.cxx_model.specs.declared.limits.TheConstants as limits
use Rattle.cxx_model.specs.declared.lookup.Found.{Found}
use Rattle.cxx_model.specs.declared.lookup.Found.TheVariants as sought
use Rattle.cxx_model.specs.declared.lookup.Hit.{Hit}
use Rattle.cxx_model.specs.declared.lookup.MemberFound.{MemberFound}
use Rattle.cxx_model.specs.declared.lookup.MemberFound.TheVariants as member_found
use Rattle.cxx_model.specs.declared.place.Place.{Place}
use Rattle.cxx_model.specs.declared.punct.TheConstants as punct
use Rattle.cxx_model.specs.declared.stop.Fault.{Fault}
use Rattle.cxx_model.specs.declared.types.ClassId.{ClassId}
use Rattle.cxx_model.specs.declared.types.FactId.{FactId}
use Rattle.cxx_model.specs.declared.types.ScopeId.{ScopeId}
use Rattle.cxx_model.specs.Facts.Declarations.{CxxFact, CxxGraph, CxxName, CxxSpecialisation, spelled}
use Rattle.cxx_model.specs.Stops.{Faulty}
use Rattle.cxx_model.specs.Text.Lexemes.{Lexeme, first_place}
use Rattle.cxx_model.specs.Types.Trees.{CxxType}
use Rattle.cxx_meaning.specs.Conversions.BuiltIn.{CxxBuiltIn, built_in_result}
use Rattle.cxx_meaning.specs.Conversions.Standard.{CxxOperand}
use Rattle.cxx_meaning.specs.Lookups.Directives.{reached}
use Rattle.cxx_meaning.specs.Lookups.Member.{IsWay, Way, breaks, class_of_scope, declared_in, has_nonstatic, hit, member}
use Rattle.cxx_meaning.specs.Lookups.Qualified.{searched}
use Rattle.cxx_meaning.specs.Lookups.Scopes.{chain}
use Rattle.cxx_meaning.specs.Lookups.Sightings.{Sighting, both_functions, standing}
use Rattle.cxx_meaning.specs.Lookups.Wanted.{Wanted, any_name, before_colons, namespaces_only}
use Rattle.cxx_reading.specs.declared.region.Region.{Region}
use Rattle.cxx_reading.specs.declared.region.Region.TheVariants as region
use Rattle.cxx_declare.specs.Outside.{scope_of_class}
use Rattle.cxx_paths.specs.Behind.{first_behind, region_behind}
use Rattle.cxx_paths.specs.Using.{member_region_of}
use Rattle.cxx_reading.specs.Declaring.{scope_count}
use Rattle.cxx_reading.specs.Linked.{scope_id}
use Rattle.cxx_reading.specs.Paths.{by_bases, first_region, name_in, place_of_fact, region_by, region_of, sought_in}
use Rattle.cxx_reading.specs.Initializers.{operand_of}
use Rattle.cxx_reading.specs.Reads.{Ahead, Got, More, kind_ahead, place_ahead, behind}
use Rattle.cxx_reading.specs.Seen.{Numbered, fact_numbers, numbered_at}
use Rattle.cxx_reading.specs.State.{CxxState, first_state, unit_scope}
use Rattle.cxx_reading.specs.Tokens.{begins_name, behind_name, is_end, is_keyword, is_punct, is_whole_name, path_ahead}
use Rattle.cxx_reading.specs.Trees.{CxxPath, CxxPathPart, CxxTree, last_part}
use Rattle.cxx_reading.specs.Units.{with_part}
use Rattle.cxx_phrases.specs.Arguments.{arguments_at}
use Rattle.cxx_phrases.specs.Operands.{postfix_step}
use Rattle.cxx_phrases.specs.Phrases.{Phrases, Inner}
use Rattle.cxx_phrases.specs.Primary.{called_at, parenthesis_at, primary_at}
use Rattle.cxx_phrases.specs.Productions as phrase
use Rattle.cxx_expr.specs.Converting.{convert_each}
use Rattle.cxx_expr.specs.Calls.{calls_member}
use Rattle.cxx_expr.specs.Members.{class_of_object}
use Rattle.cxx_expr.specs.Names.{path_in, values_among, word_in}
use Rattle.cxx_expr.specs.Operands.{built_operand, judged_each, object_operand}
use Rattle.cxx_overload.specs.Decided.{NoneViable, IsAmbiguous}
use Rattle.cxx_language.specs.Asked.{answers, inner_at, phrases_at}
use Rattle.cxx_language.specs.Units.{declaration_at}
use Rattle.cxx_language_laws.specs.Best.{AreImpliedIn, AreMembers, IsClear, functions_by_types, values_of_call}
use Rattle.cxx_language_laws.specs.Stopping.{Gives, IsInnermost, Part, StopsWithin, a_declaration}

-- ---- tokens

-- some tokens stand at the end of others
pub record EndsIn (all last : List Lexeme) : Type 0 where
  pub first : List Lexeme
  pub parts : all ≡ first ++ last

-- ---- the fault of one call

-- 13.3: the texts that only the choice of a function gives
abbrev pub IsChoiceText : FaultText → Type 0
IsChoiceText text = (text ≡ says.NoViableFunction) ⊎ (text ≡ says.AmbiguousCall)

-- 5.2.2, 3.4.2: a called name stands ahead without brackets, its arguments directly behind it, or a bracket does
abbrev pub IsCalledSo : Ahead → Ahead → Ahead → Bool → Type 0
IsCalledSo ahead named opened true = (ahead.tokens ≡ named.tokens) × ((behind_name named).tokens ≡ opened.tokens)
IsCalledSo ahead named opened false = is_punct punct.LEFT_PARENTHESIS (kind_ahead ahead) ≡ true

-- 5.2.2: A call by a name stands ahead: the name with its qualifiers, with brackets round it or none, and behind it arguments
-- in brackets. These are read from a state, and then reading stands in another.
pub record IsCall {S : Type 0} (asks : Phrases S) (inner : Inner S) (before : S) (ahead : Ahead) : Type 0 where
  pub named : Ahead
  pub stands : EndsIn ahead.tokens named.tokens
  pub begins : begins_name named ≡ true
  pub whole : is_whole_name named ≡ true
  pub opened : Ahead
  pub follows : EndsIn (behind_name named).tokens opened.tokens
  pub is_open : Bool
  pub so : IsCalledSo ahead named opened is_open
  pub arguments : List CxxTree
  pub at : S
  pub rest : Ahead
  pub lists : Gives (arguments_at asks inner) before opened arguments at rest

-- the same with room for so many brackets, of a unit
abbrev pub IsUnitCall : ℕ → CxxState → Ahead → Type 0
IsUnitCall room before ahead = IsCall (phrases_at room) (inner_at room).phrases before ahead

-- the called name, with its qualifiers
abbrev pub called : {room : ℕ} {before : CxxState} {ahead : Ahead} → IsUnitCall room before ahead → CxxPath
called call = path_ahead call.named

-- the place of its last part
abbrev pub place_of_call : {room : ℕ} {before : CxxState} {ahead : Ahead} → IsUnitCall room before ahead → Place
place_of_call call = (last_part (called call).parts).place

-- what its arguments give
abbrev pub operands : {room : ℕ} {before : CxxState} {ahead : Ahead} → IsUnitCall room before ahead → List CxxOperand
operands call = judged_each answers call.arguments call.at

-- 3.4.1, 3.4.3, 7.3.4: where its last part is looked up once its arguments are read, and what is found of it there is clear
pub record IsFoundClear {room : ℕ} {before : CxxState} {ahead : Ahead} (call : IsUnitCall room before ahead) : Type 0 where
  pub where_ : Region
  pub qualifies : region_of call.at.graph call.at.here.scope (called call) ≡ Ok where_
  pub clear : IsClear (sought_in call.at.graph any_name where_ (name_in (called call)))

-- 3.4.2: what their types find of the called name
abbrev pub called_by_types : {room : ℕ} {before : CxxState} {ahead : Ahead} → IsUnitCall room before ahead → List FactId
called_by_types call = functions_by_types call.at.graph (called call) call.is_open (operands call)

-- 13.3.1: what the call may mean, but for the types that are hidden there
abbrev pub meant : {room : ℕ} {before : CxxState} {ahead : Ahead} (call : IsUnitCall room before ahead) → IsFoundClear call → List Numbered
meant call clear = values_of_call call.at.graph call.at.here.scope clear.where_ (called call) call.is_open (operands call)

-- ---- members of objects (5.2.5)

-- 5.2: what was read of a postfix expression that begins at a place, up to what is ahead: a primary expression, one in
-- brackets, or a call of a name in brackets, and what goes on with it
pub data IsPostfix {S : Type 0} (asks : Phrases S) (inner : Inner S) (from : Ahead) : CxxTree → S → Ahead → Type 0 where
  is_primary : (before at : S) (first : CxxTree) (rest : Ahead) → Gives (primary_at asks inner) before from first at rest → IsPostfix asks inner from first at rest
  is_bracketed : (before at : S) (first : CxxTree) (rest : Ahead) → Gives (parenthesis_at asks inner) before from first at rest → IsPostfix asks inner from first at rest
  is_called : (before at : S) (path : CxxPath) (opened : Ahead) (first : CxxTree) (rest : Ahead) → Gives (called_at asks inner (codes "(") from path) before opened first at rest → IsPostfix asks inner from first at rest
  goes_on : (before at : S) (so_far next : CxxTree) (ahead rest : Ahead) → IsPostfix asks inner from so_far before ahead → Gives (postfix_step asks inner from so_far) before ahead (More next) at rest → IsPostfix asks inner from next at rest

-- 5.2.2: What is called was read, and the bracket of its arguments is ahead. These are read from a state, and then reading
-- stands in another.
pub record IsCallOf {S : Type 0} (asks : Phrases S) (inner : Inner S) (before : S) (ahead : Ahead) : Type 0 where
  pub from : Ahead
  pub callee : CxxTree
  pub reads : IsPostfix asks inner from callee before ahead
  pub opened : is_punct punct.LEFT_PARENTHESIS (kind_ahead ahead) ≡ true
  pub arguments : List CxxTree
  pub at : S
  pub rest : Ahead
  pub lists : Gives (arguments_at asks inner) before ahead arguments at rest

abbrev pub IsUnitCallOf : ℕ → CxxState → Ahead → Type 0
IsUnitCallOf room before ahead = IsCallOf (phrases_at room) (inner_at room).phrases before ahead

-- 5.2.5: what is called is a function of the class of an object
pub record IsMemberCall (room : ℕ) (before : CxxState) (ahead : Ahead) : Type 0 where
  pub call : IsUnitCallOf room before ahead
  pub is_member : calls_member call.at.graph call.callee.label ≡ true

-- what is declared once its arguments are read
abbrev pub declared_then : {room : ℕ} {before : CxxState} {ahead : Ahead} → IsMemberCall room before ahead → CxxGraph
declared_then is = is.call.at.graph

-- the name that is called
abbrev pub member_part : {room : ℕ} {before : CxxState} {ahead : Ahead} → IsMemberCall room before ahead → CxxPathPart
member_part is = word_in is.call.callee.label

-- what the arguments give
abbrev pub member_operands : {room : ℕ} {before : CxxState} {ahead : Ahead} → IsMemberCall room before ahead → List CxxOperand
member_operands is = judged_each answers is.call.arguments is.call.at

-- 13.3.1.1.1: the object has the type of what is called, and the functions are the members with that name of its class, or of
-- the class that the qualifiers of the name mean there (3.4.5)
pub record AreMembersCalled {room : ℕ} {before : CxxState} {ahead : Ahead} (is : IsMemberCall room before ahead) (functions : List Numbered) : Type 0 where
  pub of : CxxType
  pub typed : is.call.callee.label.of ≡ Some of
  pub are : AreMembers (declared_then is) is.call.at.here.scope (object_operand of) (path_in is.call.callee.label) functions

-- 9.3.1, 13.3.1.1.1 p3: the called name means functions of a class where it stands, once its arguments are read, and they have
-- an object
abbrev pub AreImpliedCalled : {room : ℕ} {before : CxxState} {ahead : Ahead} → IsUnitCall room before ahead → CxxOperand → List Numbered → Type 0
AreImpliedCalled call object functions = AreImpliedIn call.at.graph call.at.here.scope (called call) call.at.in_default object functions

-- 13.3: A true fault of the call, with its evidence: no function that it may mean is viable, each for its reason, or some
-- are and none is better than every other one.
pub data IsChoiceFault (before : CxxState) (ahead : Ahead) (fault : Fault) : Type 0 where
  no_viable_function : (room : ℕ) (call : IsUnitCall room before ahead) (clear : IsFoundClear call) → NoneViable (place_of_call call) None (operands call) call.at.graph (meant call clear) (Faulty fault) → IsChoiceFault before ahead fault
  ambiguous_call : (room : ℕ) (call : IsUnitCall room before ahead) (clear : IsFoundClear call) → IsAmbiguous (place_of_call call) None (operands call) call.at.graph (meant call clear) (Faulty fault) → IsChoiceFault before ahead fault
  no_viable_implied : (room : ℕ) (call : IsUnitCall room before ahead) (object : CxxOperand) (functions : List Numbered) → AreImpliedCalled call object functions → NoneViable (place_of_call call) (Some object) (operands call) call.at.graph functions (Faulty fault) → IsChoiceFault before ahead fault
  ambiguous_implied : (room : ℕ) (call : IsUnitCall room before ahead) (object : CxxOperand) (functions : List Numbered) → AreImpliedCalled call object functions → IsAmbiguous (place_of_call call) (Some object) (operands call) call.at.graph functions (Faulty fault) → IsChoiceFault before ahead fault
  no_viable_member : (room : ℕ) (is : IsMemberCall room before ahead) (functions : List Numbered) (members : AreMembersCalled is functions) → NoneViable (member_part is).place (Some (object_operand members.of)) (member_operands is) (declared_then is) functions (Faulty fault) → IsChoiceFault before ahead fault
  ambiguous_member : (room : ℕ) (is : IsMemberCall room before ahead) (functions : List Numbered) (members : AreMembersCalled is functions) → IsAmbiguous (member_part is).place (Some (object_operand members.of)) (member_operands is) (declared_then is) functions (Faulty fault) → IsChoiceFault before ahead fault

-- which operator selects the member
abbrev pub IsSelector : ℕ → Ahead → Type 0
IsSelector number ahead = (is_punct punct.DOT (kind_ahead ahead) ≡ true × number ≡ phrase.member) ⊎ (is_punct punct.ARROW (kind_ahead ahead) ≡ true × number ≡ phrase.arrow)

-- 5.2.5: An object was read, `.` or `->` is ahead, and behind that a name with its qualifiers.
pub record IsSelected {S : Type 0} (asks : Phrases S) (inner : Inner S) (before : S) (ahead : Ahead) : Type 0 where
  pub from : Ahead
  pub object : CxxTree
  pub reads : IsPostfix asks inner from object before ahead
  pub number : ℕ
  pub selects : IsSelector number ahead
  pub begins : begins_name (behind ahead) ≡ true
  pub whole : is_whole_name (behind ahead) ≡ true

abbrev pub IsUnitSelected : ℕ → CxxState → Ahead → Type 0
IsUnitSelected room before ahead = IsSelected (phrases_at room) (inner_at room).phrases before ahead

-- the name of the member, behind what is ahead
abbrev pub selected_part : Ahead → CxxPathPart
selected_part ahead = last_part (path_ahead (behind ahead)).parts

-- 5.2.5: The class of the object; or that of what the pointer points to, once it is converted to a value.
pub data IsOfObject (before : CxxState) (place : Place) (object : CxxTree) : ℕ → ℕ → CxxState → Type 0 where
  of_object : (class : ℕ) → class_of_object (operand_of object) ≡ Some class → IsOfObject before place object phrase.member class before
  of_pointed : (class : ℕ) (meaning : CxxBuiltIn) (parts : List CxxTree) (at : CxxState) → built_in_result before.graph punct.STAR (operand_of object ∷ []) ≡ Ok (Some meaning) → convert_each answers place meaning.operands [] (object ∷ []) before ≡ Ok (parts, at) → class_of_object (built_operand meaning) ≡ Some class
      → IsOfObject before place object phrase.arrow class at

-- 3.4.5: A name stands behind an object of a class: behind `.` or `->`, which is ahead, in the state in which it is looked up;
-- or as that of a function which is called, once the arguments are read (5.2.2).
pub data IsBehindObject (before : CxxState) (ahead : Ahead) : CxxPath → ClassId → CxxState → Type 0 where
  behind_selector : (room : ℕ) (selected : IsUnitSelected room before ahead) (class : ℕ) (at : CxxState) → IsOfObject before (place_ahead ahead) selected.object selected.number class at → IsBehindObject before ahead (path_ahead (behind ahead)) (record { 0 = class }) at
  behind_called : (room : ℕ) (is : IsMemberCall room before ahead) (of : CxxType) (class : ℕ) → is.call.callee.label.of ≡ Some of → class_of_object (object_operand of) ≡ Some class → IsBehindObject before ahead (path_in is.call.callee.label) (record { 0 = class }) is.call.at

-- 3.4.5: the class in which the last part of a name behind an object is looked up: that of the object, or the one that its
-- qualifiers mean where it stands
abbrev pub IsNamingClass : CxxState → ℕ → CxxPath → ClassId → Type 0
IsNamingClass at class path within = region_behind at.graph at.here.scope (record { 0 = class }) path ≡ Ok (region.Class within)

-- 10.2: A member of an object is looked up, in the class of the object or in that which its qualifiers mean, at the place of the
-- fault.
pub record IsSoughtMember (before : CxxState) (ahead : Ahead) (finds : MemberFound) (fault : Fault) (word : List ℕ) : Type 0 where
  pub room : ℕ
  pub selected : IsUnitSelected room before ahead
  pub class : ℕ
  pub at : CxxState
  pub of : IsOfObject before (place_ahead ahead) selected.object selected.number class at
  pub within : ClassId
  pub qualifies : IsNamingClass at class (path_ahead (behind ahead)) within
  pub spelled_so : (selected_part ahead).word ≡ word
  pub is_at : (selected_part ahead).place ≡ fault.place
  pub finds_so : member at.graph any_name within (spelled word) ≡ Ok finds

-- 5.2.2, 10.2: A member that is called is looked up again where its arguments are read, in the class of the object or in that
-- which its qualifiers mean, at the place of the fault.
pub record IsSoughtCalled (before : CxxState) (ahead : Ahead) (finds : MemberFound) (fault : Fault) (word : List ℕ) : Type 0 where
  pub room : ℕ
  pub is : IsMemberCall room before ahead
  pub of : CxxType
  pub typed : is.call.callee.label.of ≡ Some of
  pub class : ℕ
  pub of_object : class_of_object (object_operand of) ≡ Some class
  pub within : ClassId
  pub qualifies : IsNamingClass is.call.at class (path_in is.call.callee.label) within
  pub spelled_so : (member_part is).word ≡ word
  pub is_at : (member_part is).place ≡ fault.place
  pub finds_so : member (declared_then is) any_name within (spelled word) ≡ Ok finds

-- 3.3.7: nothing that is found has a value
abbrev pub HasNoValue : CxxGraph → MemberFound → Type 0
HasNoValue graph member_found.Empty = Unit {0}
HasNoValue graph (member_found.Set all path) = values_among graph (numbered_at graph (fact_numbers all)) ≡ []
HasNoValue graph (member_found.Ambiguous one two) = ⊥

-- ---- the fault of one name

-- 3.4.3, 3.4.6: for what the parts of a name before `::` are looked up: for what may stand there, which is a class too but in
-- a using-declaration (7.3.3), and in a using-directive or an alias for namespaces
abbrev pub MayStandBefore : Wanted → Bool → Type 0
MayStandBefore before_colons classes = Unit {0}
MayStandBefore namespaces_only false = Unit {0}
MayStandBefore _ _ = ⊥

-- for what its last part may be looked up
abbrev pub IsWantedLast : Wanted → Type 0
IsWantedLast before_colons = ⊥
IsWantedLast _ = Unit {0}

-- for what one of its parts is looked up, given those behind it
abbrev pub IsWantedBefore : Wanted → Wanted → List CxxPathPart → Type 0
IsWantedBefore wants wanted [] = IsWantedLast wanted
IsWantedBefore wants wanted (next ∷ others) = wanted ≡ wants

-- 3.4: A part of a name is looked up, the last one or one before `::`, at the place of the fault: what its qualifiers say of where
-- it is looked up, given where the first part is, and what is found of it there, as it is wanted.
pub record IsSoughtFrom (graph : CxxGraph) (first : Region) (path : CxxPath) (wanted : Wanted) (finds : Found) (fault : Fault) (word : List ℕ) : Type 0 where
  pub before : List CxxPathPart
  pub part : CxxPathPart
  pub others : List CxxPathPart
  pub parts : path.parts ≡ before ++ part ∷ others
  pub wants : Wanted
  pub classes : Bool
  pub may_stand : MayStandBefore wants classes
  pub is_wanted_so : IsWantedBefore wants wanted others
  pub spelled_so : part.word ≡ word
  pub is_at : part.place ≡ fault.place
  pub where_ : Region
  pub qualifies : region_by graph wants classes first (before ++ part ∷ []) ≡ Ok where_
  pub finds_so : sought_in graph wanted where_ (spelled word) ≡ finds

-- 3.4: the same from a scope
abbrev pub IsSought : CxxGraph → ℕ → CxxPath → Wanted → Found → Fault → List ℕ → Type 0
IsSought graph scope path wanted finds fault word = IsSoughtFrom graph (first_region scope path.global) path wanted finds fault word

-- 3.4.5: where the first part of a name is looked up that stands behind an object of a class: one before `::` in that class, and
-- where it has no such member, where the name stands
abbrev pub first_sought : CxxState → ClassId → CxxPath → Region
first_sought at class path = first_behind at.graph at.here.scope class path.global path.parts

-- 3.4.5: A part before `::` of a name that stands behind an object is looked up, at the place of the fault. The last part is
-- looked up as a member.
pub record IsSoughtBehind (before : CxxState) (ahead : Ahead) (finds : Found) (fault : Fault) (word : List ℕ) : Type 0 where
  pub path : CxxPath
  pub class : ClassId
  pub at : CxxState
  pub is_behind : IsBehindObject before ahead path class at
  pub is_sought : IsSoughtFrom at.graph (first_sought at class path) path before_colons finds fault word

-- a name stands ahead, and a part of it is looked up where the reader stands
pub record IsNamed (wanted : Wanted) (finds : Found) (at : CxxState) (ahead : Ahead) (fault : Fault) (word : List ℕ) : Type 0 where
  pub begins : begins_name ahead ≡ true
  pub whole : is_whole_name ahead ≡ true
  pub is_sought : IsSought at.graph at.here.scope (path_ahead ahead) wanted finds fault word

-- 7.3.3, 10.2: The word `using` is ahead, and behind it a name, of which the last part is looked up as a member of the class that
-- its qualifiers mean where the reader stands, at the place of the fault.
pub record IsSoughtBrought (at : CxxState) (ahead : Ahead) (finds : MemberFound) (fault : Fault) (word : List ℕ) : Type 0 where
  pub brings : is_keyword keyword.USING (kind_ahead ahead) ≡ true
  pub begins : begins_name (behind ahead) ≡ true
  pub whole : is_whole_name (behind ahead) ≡ true
  pub within : ClassId
  pub qualifies : member_region_of at.graph at.here.scope (path_ahead (behind ahead)) ≡ Ok (region.Class within)
  pub spelled_so : (selected_part ahead).word ≡ word
  pub is_at : (selected_part ahead).place ≡ fault.place
  pub finds_so : member at.graph any_name within (spelled word) ≡ Ok finds

-- 3.4: a lookup that finds nothing: among the members of a class it is of that class (3.4.3.1)
abbrev pub nothing_in : Region → Found
nothing_in (region.Outward scope) = sought.Empty
nothing_in (region.Inside space) = sought.Empty
nothing_in (region.Class class) = sought.Member class member_found.Empty

-- 3.4.1, 3.4.2: a call stands ahead, and where its arguments are read nothing is found of a part of its name; nor do their
-- types find anything
pub record IsUnknownCall (before : CxxState) (ahead : Ahead) (wanted : Wanted) (fault : Fault) (word : List ℕ) : Type 0 where
  pub room : ℕ
  pub call : IsUnitCall room before ahead
  pub finds : Found
  pub is_sought : IsSought call.at.graph call.at.here.scope (called call) wanted finds fault word
  pub nothing : finds ≡ nothing_in is_sought.where_
  pub by_types : called_by_types call ≡ []

-- 3.4: a part of a name that is not declared: of a name in an expression or a using-declaration, of a type behind `enum`
-- (3.4.4), of a class that is defined by a name with qualifiers (clause 9), of a namespace in an alias or a directive (3.4.6), or
-- of a called name; any of them may stand before `::` (3.4.3); or a name that is no member of an object's class, or of the class
-- that its qualifiers mean (5.2.5); or that of a member that is called and has no value once the arguments are read (5.2.2),
-- which is told without its word; or a part before `::` of a name behind an object (3.4.5); or a name that is no member of the
-- class that its qualifiers mean in a using-declaration of a class (7.3.3)
pub data IsUnknown (at : CxxState) (ahead : Ahead) (fault : Fault) (word : List ℕ) : Type 0 where
  unknown_name : (wanted : Wanted) (finds : Found) (is : IsNamed wanted finds at ahead fault word) → finds ≡ nothing_in is.is_sought.where_ → IsUnknown at ahead fault word
  unknown_call : (wanted : Wanted) → IsUnknownCall at ahead wanted fault word → IsUnknown at ahead fault word
  unknown_member : IsSoughtMember at ahead member_found.Empty fault word → IsUnknown at ahead fault word
  unknown_called : (finds : MemberFound) (name : List ℕ) (is : IsSoughtCalled at ahead finds fault name) → HasNoValue (declared_then is.is) finds → word ≡ [] → IsUnknown at ahead fault word
  unknown_qualifier : (finds : Found) (is : IsSoughtBehind at ahead finds fault word) → finds ≡ nothing_in is.is_sought.where_ → IsUnknown at ahead fault word
  unknown_brought : IsSoughtBrought at ahead member_found.Empty fault word → IsUnknown at ahead fault word

-- a scope from which names are looked up outward
abbrev pub IsOutward : Region → Type 0
IsOutward (region.Outward scope) = Unit {0}
IsOutward _ = ⊥

-- 10.2: no member of a class is found, of its own or of its bases
abbrev pub IsNoMember : CxxGraph → Wanted → ClassId → CxxName → Type 0
IsNoMember graph wanted class name = member graph wanted class name ≡ Ok member_found.Empty

-- 3.4.1: No scope from one outward declares a name as it is wanted, so the scope of the unit does not (3.3.5), nor does a
-- namespace that directives of one of them reach (7.3.4). A using-declaration declares what it brings (7.3.3).
pub record IsNotAround (graph : CxxGraph) (wanted : Wanted) (scope : ScopeId) (name : CxxName) : Type 0 where
  pub outward : (one : ScopeId) → Contains (chain graph.facts scope) one → standing graph (length graph.facts) wanted name one ≡ []
  -- 3.4.1, 10.2: nor is a member of a class found whose scope is one of them
  pub in_classes : (one : ScopeId) (class : ClassId) → Contains (chain graph.facts scope) one → class_of_scope graph.facts one ≡ Some class → IsNoMember graph wanted class name
  pub by_directives : (one space : ScopeId) → Contains (chain graph.facts scope) one → Contains (reached graph.facts (length graph.facts) one) space → standing graph (length graph.facts) wanted name space ≡ []
  pub in_unit : standing graph (length graph.facts) wanted name (scope_id unit_scope.scope) ≡ []

-- 3.4.3.2: a namespace does not declare a name as it is wanted, nor does one that is searched by its directives
pub record IsNotInside (graph : CxxGraph) (wanted : Wanted) (space : ScopeId) (name : CxxName) : Type 0 where
  pub itself : standing graph (length graph.facts) wanted name space ≡ []
  pub by_directives : (one : ScopeId) → Contains (searched graph (length graph.facts) wanted name space) one → standing graph (length graph.facts) wanted name one ≡ []

-- where a part of a name is looked up: outward from a scope, or, behind qualifiers, in a namespace (3.4.3.2) or in a class
-- (3.4.3.1)
abbrev pub IsNotThere : CxxGraph → Wanted → Region → CxxName → Type 0
IsNotThere graph wanted (region.Outward scope) name = IsNotAround graph wanted scope name
IsNotThere graph wanted (region.Inside space) name = IsNotInside graph wanted space name
IsNotThere graph wanted (region.Class class) name = IsNoMember graph wanted class name

-- 3.4.5: where a part before `::` is looked up behind an object, and no such member of its class is found before that
pub record IsNotBehind (graph : CxxGraph) (class : ClassId) (where_ : Region) (name : CxxName) : Type 0 where
  pub there : IsNotThere graph before_colons where_ name
  pub of_object : IsOutward where_ → IsNoMember graph before_colons class name

abbrev pub IsNowhere : {at : CxxState} {ahead : Ahead} {fault : Fault} {word : List ℕ} → IsUnknown at ahead fault word → Type 0
IsNowhere {at = at} {word = word} (unknown_name wanted finds is nothing) = IsNotThere at.graph wanted is.is_sought.where_ (spelled word)
IsNowhere {word = word} (unknown_call wanted is) = IsNotThere is.call.at.graph wanted is.is_sought.where_ (spelled word)
IsNowhere (unknown_member is) = Unit {0}
IsNowhere (unknown_called finds name is none no_word) = Unit {0}
IsNowhere {word = word} (unknown_qualifier finds is none) = IsNotBehind is.at.graph is.class is.is_sought.where_ (spelled word)
IsNowhere (unknown_brought is) = Unit {0}

-- 3.4: two different declarations, no overloads, that are found, and their places in the evidence
pub record AreTwo (graph : CxxGraph) (one two : FactId) (fault : Fault) : Type 0 where
  pub apart : one.0 < two.0
  pub declared : two.0 < length graph.facts
  pub no_overloads : both_functions graph one two ≡ false
  pub places : fault.evidence ≡ evidence.Found (place_of_fact graph one.0) ∷ evidence.Found (place_of_fact graph two.0) ∷ []

-- 10.2: a member of a class: the bases that lead to the one that declares it, and a declaration there
pub record IsMemberBy (graph : CxxGraph) (wanted : Wanted) (name : CxxName) (class : ClassId) (one : Hit) : Type 0 where
  pub way : Way
  pub leads : IsWay graph wanted name class way
  pub sighting : Sighting
  pub stands : Contains (declared_in graph wanted name way.holder) sighting
  pub is : one ≡ hit way sighting
  pub declared : one.fact.0 < length graph.facts

-- 10.2: two members of a class that do not go together: of different classes, or of two subobjects of one, where a member
-- of the name is nonstatic
pub record AreApart (graph : CxxGraph) (wanted : Wanted) (name : CxxName) (class : ClassId) (one two : Hit) : Type 0 where
  pub first : IsMemberBy graph wanted name class one
  pub second : IsMemberBy graph wanted name class two
  pub apart : breaks (has_nonstatic (declared_in graph wanted name first.way.holder)) first.way second.way ≡ true

-- their places in the evidence, with the bases that lead to each
abbrev pub AreShown : CxxGraph → Hit → Hit → Fault → Type 0
AreShown graph one two fault = fault.evidence ≡ by_bases graph one ∷ by_bases graph two ∷ []

-- 3.4, 7.3.4: a part of a name is ambiguous where it stands: two entities are found that it could mean, and they are no
-- overloads
pub data IsTwofold (at : CxxState) (ahead : Ahead) (fault : Fault) (word : List ℕ) : Type 0 where
  twofold_name : (wanted : Wanted) (one two : FactId) → IsNamed wanted (sought.Ambiguous one two) at ahead fault word → AreTwo at.graph one two fault → IsTwofold at ahead fault word
  -- 3.4.1, 3.4.3.1, 10.2: two members of a class whose scope is one of those round the name, or that its qualifiers mean
  twofold_inherited : (wanted : Wanted) (class : ClassId) (one two : Hit) → IsNamed wanted (sought.Member class (member_found.Ambiguous one two)) at ahead fault word → AreApart at.graph wanted (spelled word) class one two → AreShown at.graph one two fault → IsTwofold at ahead fault word
  -- 5.2.5, 10.2: two members of an object's class, or of the class that qualifiers mean behind it
  twofold_member : (one two : Hit) (is : IsSoughtMember at ahead (member_found.Ambiguous one two) fault word) → AreApart is.at.graph any_name (spelled word) is.within one two → AreShown is.at.graph one two fault → IsTwofold at ahead fault word
  -- 5.2.2: the same where such a member is called, once the arguments are read
  twofold_called : (one two : Hit) (is : IsSoughtCalled at ahead (member_found.Ambiguous one two) fault word) → AreApart (declared_then is.is) any_name (spelled word) is.within one two → AreShown (declared_then is.is) one two fault → IsTwofold at ahead fault word
  -- 3.4.5: a part before `::` of a name behind an object
  twofold_qualifier : (one two : FactId) (is : IsSoughtBehind at ahead (sought.Ambiguous one two) fault word) → AreTwo is.at.graph one two fault → IsTwofold at ahead fault word
  -- 3.4.5, 10.2: the same, of two members of a class
  twofold_qualifier_inherited : (class : ClassId) (one two : Hit) (is : IsSoughtBehind at ahead (sought.Member class (member_found.Ambiguous one two)) fault word) → AreApart is.at.graph before_colons (spelled word) class one two → AreShown is.at.graph one two fault → IsTwofold at ahead fault word
  -- 7.3.3, 10.2: two members of the class that qualifiers mean in a using-declaration of a class
  twofold_brought : (one two : Hit) (is : IsSoughtBrought at ahead (member_found.Ambiguous one two) fault word) → AreApart at.graph any_name (spelled word) is.within one two → AreShown at.graph one two fault → IsTwofold at ahead fault word

-- ---- the fault of a unit

-- Clause 7: whole declarations are read one after another, from a state with these tokens ahead to another.
pub data ReadsTo : CxxState → Ahead → CxxState → Ahead → Type 0 where
  none_more : (state : CxxState) (ahead : Ahead) → ReadsTo state ahead state ahead
  one_more : (state : CxxState) (ahead : Ahead) (one : Got CxxState CxxTree) (after : CxxState) (rest : Ahead)
      → is_end (kind_ahead ahead) ≡ false → declaration_at limits.MOST_NESTING state ahead ≡ Ok one → ReadsTo (with_part one.value one.state) one.rest after rest → ReadsTo state ahead after rest

-- what is ahead of a whole unit
abbrev pub whole : List Lexeme → Ahead
whole tokens = record { last = first_place; tokens = tokens }

-- clause 7: the declarations before one were read, and reading stops in it with this fault
pub record StopsIn (tokens : List Lexeme) (fault : Fault) : Type 0 where
  pub before : CxxState
  pub ahead : Ahead
  pub reads : ReadsTo first_state (whole tokens) before ahead
  pub stands : EndsIn tokens ahead.tokens
  pub goes_on : is_end (kind_ahead ahead) ≡ false
  pub stops : declaration_at limits.MOST_NESTING before ahead ≡ Err (Faulty fault)

-- what is declared in a state is what is declared in another, and behind that some more, and so are the classes that are
-- reserved
pub record IsGrown (before at : CxxState) : Type 0 where
  pub own : List CxxFact
  pub reserved : List (Option CxxSpecialisation)
  pub declared : at.graph.facts ≡ before.graph.facts ++ own
  pub classes : at.graph.classes ≡ before.graph.classes ++ reserved
  pub patterns : at.graph.patterns ≡ before.graph.patterns

-- what qualifies a name is no scope that is looked up outward from
abbrev pub IsQualifying : Region → Type 0
IsQualifying (region.Outward scope) = ⊥
IsQualifying _ = Unit {0}

-- the scope of what qualifies a name
abbrev pub scope_there : CxxGraph → Region → ℕ
scope_there graph (region.Outward scope) = scope.0
scope_there graph (region.Inside space) = space.0
scope_there graph (region.Class class) = scope_of_class graph class

-- 3.4.1, 8.3, 9.4.2: a state stands in the namespace or in the class that the qualifiers of a name ahead of another state mean
pub record IsInside (before : CxxState) (from : Ahead) (at : CxxState) : Type 0 where
  pub named : Ahead
  pub stands : EndsIn from.tokens named.tokens
  pub begins : begins_name named ≡ true
  pub where_ : Region
  pub qualifies : IsQualifying where_
  pub means : region_of before.graph before.here.scope (path_ahead named) ≡ Ok where_
  pub inside : at.here.scope ≡ scope_there before.graph where_

-- 3.3.2: a state stands in the same scope as another, or in one of parameters that begins later, or in a namespace or a
-- class whose member is declared outside of it
abbrev pub IsScopeSince : CxxState → Ahead → CxxState → Type 0
IsScopeSince before from at = (at.here.scope ≡ before.here.scope) ⊎ ((scope_count before.graph ≤ at.here.scope) ⊎ IsInside before from at)

-- Where the reading of a unit stops: in which declaration, and in which part of that, in which state and with which tokens
-- ahead. Within that part a place is reached in a state that keeps what was declared and may have more, and with the last of
-- these tokens ahead.
pub record StopsAt (tokens : List Lexeme) (fault : Fault) : Type 0 where
  pub declaration : StopsIn tokens fault
  pub part : Part
  pub before : CxxState
  pub from : Ahead
  pub stops : StopsWithin fault (a_declaration limits.MOST_NESTING) declaration.before declaration.ahead part before from
  pub innermost : IsInnermost part
  pub at : CxxState
  pub ahead : Ahead
  pub grown : IsGrown before at
  pub scope : IsScopeSince before from at
  pub part_stands : EndsIn declaration.ahead.tokens from.tokens
  pub stands : EndsIn from.tokens ahead.tokens

-- 13.3: In the part where reading stops a call stands, and the fault is a true one of it.
pub record IsToldFault (tokens : List Lexeme) (fault : Fault) : Type 0 where
  pub stop : StopsAt tokens fault
  pub is : IsChoiceFault stop.at stop.ahead fault

-- 3.4: In the part where reading stops a name stands, and it is not declared.
pub record IsUndeclaredFault (tokens : List Lexeme) (fault : Fault) (word : List ℕ) : Type 0 where
  pub stop : StopsAt tokens fault
  pub is : IsUnknown stop.at stop.ahead fault word
  pub nowhere : IsNowhere is
  pub is_text : fault.text ≡ says.UndeclaredName word
  pub bare : fault.evidence ≡ []

-- 3.4: In the part where reading stops a name stands, and it is ambiguous.
pub record IsAmbiguousFault (tokens : List Lexeme) (fault : Fault) (word : List ℕ) : Type 0 where
  pub stop : StopsAt tokens fault
  pub is : IsTwofold stop.at stop.ahead fault word
  pub is_text : fault.text ≡ says.AmbiguousName word
