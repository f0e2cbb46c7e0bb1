-- What the readers of expressions ask, answered by the declarations so far (3.4, 5.19).
use Rattle.std.specs.Prelude.{ℕ}
use Rattle.cxx_reading.specs.Classes.{class_here}
use Rattle.cxx_reading.specs.Declaring.{kind_here, type_here, elaborated_here, declare_enumeration, declare_enumerator, end_enumeration, enter_parameters, declare_parameter, leave_parameters}
use Rattle.cxx_declare.specs.Outside.{enter_member}
use Rattle.cxx_reading.specs.State.{CxxState}
use Rattle.cxx_expr.specs.Elaborating.{elaborate}
use Rattle.cxx_answers.specs.Answers.{constant_here, questions}
use Rattle.cxx_answers.specs.Defaults.{begin_default, end_default, is_default_later, offer_default}
use Rattle.cxx_knot.specs.Readers.{Asking}

unfoldable pub asking : ℕ → Asking CxxState
asking room = record {
  kinds = record {
    kind = kind_here;
    type_named = type_here;
    elaborated = elaborated_here;
    class_named = class_here;
    entered = enter_member;
    enumeration = declare_enumeration;
    enumerator = declare_enumerator;
    enumerated = end_enumeration;
    constant = constant_here;
    enter_parameters = enter_parameters;
    parameter = declare_parameter;
    leave_parameters = leave_parameters;
  };
  whole = elaborate questions;
  defaults = record { is_later = is_default_later; passed = offer_default; begun = begin_default; ended = end_default };
}
