-- What is seen of declarations without reading them, as the code has it.
use Rattle.cxx_reading.specs.Shapes as shape
use Rattle.cxx_reading.specs.Shapes.{no_type, a_type, surely, fits, fits_not}
use Rattle.cxx_cursor.specs.declared.outline.Fits.{Fits}
use Rattle.cxx_cursor.specs.declared.outline.Fits.TheVariants as fitting
use Rattle.cxx_cursor.specs.declared.outline.Outline.{Outline}
use Rattle.cxx_cursor.specs.declared.outline.Run.{Run}
use Rattle.cxx_cursor.specs.declared.outline.Run.TheVariants as run

abbrev pub run_in : Run → shape.Run
run_in run.NoType = no_type
run_in run.AType = a_type
run_in run.Surely = surely

abbrev pub fits_of : Fits → shape.Fits
fits_of fitting.Fits = fits
fits_of fitting.FitsNot = fits_not

abbrev pub outline_of : Outline → shape.Outline
outline_of outline = record { brackets = outline.brackets; is_named = outline.is_named }
