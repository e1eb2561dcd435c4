-- What is written for a byte, by the form.
use Rattle.std.specs.Prelude.{ℕ, List}
use Rattle.ly_base.specs.Bytes.{double_quote}
use Rattle.ly_print.specs.Json.{other_number, string_byte}
use Rattle.ly_print.specs.Text.{escaped_byte}
use Rattle.ly_print.specs.declared.byte_form.ByteForm.{ByteForm}
use Rattle.ly_print.specs.declared.byte_form.ByteForm.TheVariants.{InString, OtherNumber, Quoted}

abbrev pub written_as : ByteForm → ℕ → List ℕ
written_as Quoted b = escaped_byte double_quote b
written_as InString b = string_byte b
written_as OtherNumber b = other_number b
