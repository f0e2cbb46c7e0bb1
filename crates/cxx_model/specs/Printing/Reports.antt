-- The texts of reports.
use Rattle.std.specs.Prelude.{ℕ, suc, true, false, Bool, if◌then◌else◌, nat_eq, List, [], ◌∷◌, ◌++◌, Option, Some, None, codes, decimal}
use Rattle.cxx_model.specs.declared.evidence.Evidence.{Evidence}
use Rattle.cxx_model.specs.declared.evidence.Evidence.TheVariants.{Found, ByBases, DoesNotBeat, Refused, Uses, Chain, RowDoesNotBeat}
use Rattle.cxx_model.specs.declared.evidence.Link.{Link}
use Rattle.cxx_model.specs.declared.evidence.Reason.{Reason}
use Rattle.cxx_model.specs.declared.evidence.Reason.TheVariants.{TooFewArguments, TooManyArguments, TooManyTemplateArguments, WrongKind, Substitution, NoMatch, TwoBases, Twice, NotDeduced, ObjectNoConversion, NoConversion}
use Rattle.cxx_model.specs.declared.evidence.Shown.{Shown}
use Rattle.cxx_model.specs.declared.evidence.Shown.TheVariants.{Declared, BuiltIn}
use Rattle.cxx_model.specs.declared.evidence.SubstitutionText.{SubstitutionText}
use Rattle.cxx_model.specs.declared.evidence.SubstitutionText.TheVariants.{ForbiddenElement, SizeBelowOne, NoMemberType, MemberNoType, QualifierNoClass, PointerToReference, ReferenceToReference, ReferenceToVoid, VoidParameter, InvalidArgument}
use Rattle.cxx_model.specs.declared.fault.FaultText.{FaultText}
use Rattle.cxx_model.specs.declared.fault.FaultText.TheVariants as says
use Rattle.cxx_model.specs.declared.fault.LeftOut.{LeftOut}
use Rattle.cxx_model.specs.declared.fault.LeftOut.TheVariants as form
use Rattle.cxx_model.specs.declared.place.Place.{Place}
use Rattle.cxx_model.specs.declared.punct.TheConstants as punct
use Rattle.cxx_model.specs.declared.stop.Fault.{Fault}
use Rattle.cxx_model.specs.declared.stop.LimitKind.{LimitKind}
use Rattle.cxx_model.specs.declared.token.TokenReason.{TokenReason}
use Rattle.cxx_model.specs.declared.token.TokenReason.TheVariants as reason
use Rattle.cxx_model.specs.declared.stop.LimitKind.TheVariants.{Bytes, Tokens, Nesting, Facts, Candidates, Arguments, TemplateArguments, Instances, Nodes, Output}
use Rattle.cxx_model.specs.Facts.Declarations.{CxxName, unnamed, spelled, operator_function, conversion_to, destructor}
use Rattle.cxx_model.specs.Text.Spelling.{operators}
use Rattle.std.specs.List.{slice_get}

-- ---- what is wrong

-- why a text begins no token
abbrev pub token_reason_text : TokenReason → List ℕ
token_reason_text reason.StrayByte = codes "stray byte"
token_reason_text reason.UnfinishedComment = codes "unfinished comment"
token_reason_text reason.UnfinishedLiteral = codes "unfinished literal"
token_reason_text reason.BadEscape = codes "bad escape"
token_reason_text reason.BadNumber = codes "bad number"
token_reason_text reason.NumberTooLarge = codes "number too large"
token_reason_text reason.Directive = codes "directive"
token_reason_text reason.MixedStrings = codes "mixed strings"
token_reason_text reason.FloatingLiteral = codes "left out: floating literal"
token_reason_text reason.MultiCharacter = codes "left out: multi-character literal"
token_reason_text reason.UniversalName = codes "left out: universal character name"

-- a form that the profile leaves out
abbrev pub form_text : LeftOut → List ℕ
form_text form.Exception = codes "exception"
form_text form.ExceptionSpecification = codes "exception specification"
form_text form.Typeid = codes "typeid"
form_text form.DynamicCast = codes "dynamic_cast"
form_text form.VirtualBase = codes "virtual base"
form_text form.Export = codes "export"
form_text form.TemplateTemplateParameter = codes "template template parameter"
form_text form.ParameterKind = codes "parameter kind"
form_text form.ConversionFunctionTemplate = codes "conversion function template"
form_text form.DependentSizeof = codes "dependent sizeof"
form_text form.PointerToMember = codes "pointer to member"
form_text form.AddressOfSeveralFunctions = codes "address of several functions"
form_text form.SurrogateCall = codes "surrogate call"
form_text form.OperatorNew = codes "operator new"
form_text form.PlacementNew = codes "placement new"
form_text form.DestructorCall = codes "destructor call"
form_text form.NewOfADeclarator = codes "new of a declarator"
form_text form.BitField = codes "bit-field"
form_text form.AnonymousUnion = codes "anonymous union"
form_text form.LocalClass = codes "local class"
form_text form.Goto = codes "goto"
form_text form.Label = codes "label"
form_text form.Asm = codes "asm"
form_text form.BraceElision = codes "brace elision"
form_text form.ClassConditional = codes "class conditional"
form_text form.ArrayOfDefaultedConstruction = codes "array of defaulted construction"
form_text form.CopyConstructorWithParameters = codes "copy constructor with parameters"
form_text form.ExplicitCopyConstructor = codes "explicit copy constructor"
form_text form.ConstructorOfEllipsis = codes "constructor of ellipsis"
form_text form.DefaultedPart = codes "defaulted part"
form_text form.ConditionNameInStep = codes "condition name in step"

-- 13.5: the spelling of an operator; those of a call and of a subscript have two brackets
abbrev operator_text : ℕ → List ℕ
operator_text operator =
    if nat_eq operator punct.LEFT_PARENTHESIS then codes "()" else (
    if nat_eq operator punct.LEFT_BRACKET then codes "[]" else
    spelling (slice_get operators operator))
  where
    spelling : Option (List ℕ) → List ℕ
    spelling None = []
    spelling (Some text) = text

-- How a report spells a declared name: an operator function by the spelling of its operator, a conversion function
-- without its type. A constructor stands under the name of its class, which is no name of its own.
abbrev pub name_text : CxxName → List ℕ
name_text unnamed = []
name_text (spelled word) = word
name_text (operator_function operator) = codes "operator" ++ operator_text operator
name_text (conversion_to t) = codes "operator"
name_text destructor = codes "~"

-- what the first line of a report says behind the place
abbrev pub fault_text : FaultText → List ℕ
fault_text (says.BadToken why) = token_reason_text why
fault_text says.NotBuilt = codes "not built"
fault_text says.SyntaxError = codes "syntax error"
fault_text (says.LeftOut what) = codes "left out: " ++ form_text what
fault_text (says.UndeclaredName word) = codes "undeclared name " ++ word
fault_text (says.AmbiguousName word) = codes "ambiguous name " ++ word
fault_text (says.WrongKindOfName word) = codes "wrong kind of name " ++ word
fault_text (says.ConflictingDeclaration word) = codes "conflicting declaration of " ++ word
fault_text says.AmbiguousCall = codes "ambiguous call"
fault_text says.NoViableFunction = codes "no viable function"
fault_text says.AmbiguousConversion = codes "ambiguous conversion"
fault_text says.NoConversion = codes "no conversion"
fault_text says.OperandsDoNotFit = codes "operands do not fit"
fault_text says.IncompleteClass = codes "incomplete class"
fault_text says.AmbiguousBase = codes "ambiguous base"
fault_text says.AmbiguousSpecialisation = codes "ambiguous specialisation"
fault_text says.WrongTemplateArguments = codes "wrong template arguments"
fault_text says.SpecialisationAfterUse = codes "specialisation after use"
fault_text says.NotAConstant = codes "not a constant"
fault_text says.ConstantOverflow = codes "constant overflow"
fault_text says.DivisionByZero = codes "division by zero"
fault_text (says.DepthLimit depth) = codes "depth limit " ++ decimal depth

-- ---- what it rests on

-- `L:C`
abbrev pub place_text : Place → List ℕ
place_text place = decimal place.line ++ codes ":" ++ decimal place.column

-- `candidate K at L:C` or `built-in candidate K`
abbrev pub shown_text : Shown → List ℕ
shown_text (Declared number place) = codes "candidate " ++ decimal number ++ codes " at " ++ place_text place
shown_text (BuiltIn number) = codes "built-in candidate " ++ decimal number

-- why a part of a type cannot be made from the arguments of a template
abbrev pub substitution_text : SubstitutionText → List ℕ
substitution_text ForbiddenElement = codes "array of a forbidden element"
substitution_text SizeBelowOne = codes "array size below 1"
substitution_text NoMemberType = codes "no such member type"
substitution_text MemberNoType = codes "member is not a type"
substitution_text QualifierNoClass = codes "qualifier is not a class"
substitution_text PointerToReference = codes "pointer to reference"
substitution_text ReferenceToReference = codes "reference to reference"
substitution_text ReferenceToVoid = codes "reference to void"
substitution_text VoidParameter = codes "parameter of type void"
substitution_text InvalidArgument = codes "invalid template argument"

abbrev pub reason_text : Reason → List ℕ
reason_text TooFewArguments = codes "too few arguments"
reason_text TooManyArguments = codes "too many arguments"
reason_text TooManyTemplateArguments = codes "too many template arguments"
reason_text (WrongKind number) = codes "template argument " ++ decimal number ++ codes " has the wrong kind"
reason_text (Substitution text) = substitution_text text
reason_text (NoMatch number) = codes "argument " ++ decimal number ++ codes " does not match"
reason_text (TwoBases number) = codes "argument " ++ decimal number ++ codes " matches two bases"
reason_text (Twice number) = codes "parameter " ++ decimal number ++ codes " deduced twice"
reason_text (NotDeduced number) = codes "parameter " ++ decimal number ++ codes " not deduced"
reason_text ObjectNoConversion = codes "object argument: no conversion"
reason_text (NoConversion number) = codes "argument " ++ decimal number ++ codes ": no conversion"

-- each number after a space
abbrev pub spaced_numbers : List ℕ → List ℕ
spaced_numbers [] = []
spaced_numbers (number ∷ others) = codes " " ++ decimal number ++ spaced_numbers others

-- `by bases P Q ..` or `by no base`
abbrev pub path_text : List ℕ → List ℕ
path_text [] = codes "by no base"
path_text (number ∷ others) = codes "by bases" ++ spaced_numbers (number ∷ others)

-- the place of a member before the path to it; a base has none
abbrev pub by_bases_text : Option Place → List ℕ → List ℕ
by_bases_text (Some place) path = place_text place ++ codes " " ++ path_text path
by_bases_text None path = path_text path

abbrev pub instance_text : Bool → List ℕ
instance_text true = codes " class at "
instance_text false = codes " function at "

-- a line of a chain, with its number: `K class at L:C needed at L:C`
abbrev pub link_text : ℕ → Link → List ℕ
link_text number link = decimal number ++ instance_text link.of_class ++ place_text link.template ++ codes " needed at " ++ place_text link.needed

-- what a piece of evidence says, where it would be the line of a chain with this number
abbrev pub evidence_text : ℕ → Evidence → List ℕ
evidence_text number (Found place) = codes "found at " ++ place_text place
evidence_text number (ByBases place path) = by_bases_text place path
evidence_text number (DoesNotBeat one two) = shown_text one ++ codes " does not beat " ++ shown_text two
evidence_text number (Refused candidate reason) = shown_text candidate ++ codes ": " ++ reason_text reason
evidence_text number (Uses candidate argument) = shown_text candidate ++ codes " uses it for argument " ++ decimal argument
evidence_text number (Chain link) = link_text number link
evidence_text number (RowDoesNotBeat one two) = codes "row " ++ decimal one ++ codes " does not beat row " ++ decimal two

-- the number of the next line of a chain
abbrev pub number_after : ℕ → Evidence → ℕ
number_after number (Chain link) = suc number
number_after number (Found place) = number
number_after number (ByBases place path) = number
number_after number (DoesNotBeat one two) = number
number_after number (Refused candidate reason) = number
number_after number (Uses candidate argument) = number
number_after number (RowDoesNotBeat one two) = number

-- a line for each piece of evidence, with the newline that ends it
abbrev pub evidence_lines : ℕ → List Evidence → List ℕ
evidence_lines number [] = []
evidence_lines number (one ∷ others) = codes "  " ++ evidence_text number one ++ codes "\n" ++ evidence_lines (number_after number one) others

-- `L:C: TEXT`, and a line for each piece of evidence; the lines of a chain are numbered from 1
unfoldable pub report : Fault → List ℕ
report fault = place_text fault.place ++ codes ": " ++ fault_text fault.text ++ codes "\n" ++ evidence_lines 1 fault.evidence

abbrev pub limit_name : LimitKind → List ℕ
limit_name Bytes = codes "bytes"
limit_name Tokens = codes "tokens"
limit_name Nesting = codes "nesting"
limit_name Facts = codes "facts"
limit_name Candidates = codes "candidates"
limit_name Arguments = codes "arguments"
limit_name TemplateArguments = codes "template arguments"
limit_name Instances = codes "instances"
limit_name Nodes = codes "nodes"
limit_name Output = codes "output"

unfoldable pub limit_report : LimitKind → List ℕ
limit_report kind = codes "limit: " ++ limit_name kind ++ codes "\n"
