-- The texts of errors.
use Rattle.std.specs.Prelude.{ℕ, List, codes}
use Rattle.kw_io.specs.declared.errors.ReadError.{ReadError}
use Rattle.kw_io.specs.declared.errors.ReadError.TheVariants.{Fault, Long, Memory}

-- the text of an error of reading
abbrev pub read_error_text : ReadError → List ℕ
read_error_text Fault = codes "read fault"
read_error_text Long = codes "input too long"
read_error_text Memory = codes "out of memory"
