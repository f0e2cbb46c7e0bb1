-- What is printed of a reading.
use Rattle.std.specs.Prelude.{◌≡◌, false}
use Rattle.cxx_reading.specs.Units.{CxxReading}
use Rattle.cxx_form.specs.declared.form.Printed.{Printed}
use Rattle.cxx_form.specs.Called.{functions_text, is_past_output}
use Rattle.cxx_form.specs.Text.{plain_text}

pub record IsPrinted (reading : CxxReading) (printed : Printed) : Type 0 where
  pub text : printed.text.items ≡ plain_text reading
  pub functions : printed.functions.items ≡ functions_text reading
  pub within : is_past_output reading ≡ false
