-- What the arguments ask for.
use Rattle.std.specs.Prelude.{Bool, Option, ℕ}
use Rattle.clap.specs.Words.{Text}
use Rattle.ly_base.specs.declared.version.Version.{Version}
use Rattle.ly_cli.specs.declared.command.Answering.{Answering}
use Rattle.ly_cli.specs.declared.command.ReportForm.{ReportForm}
use Rattle.ly_cli.specs.declared.command.Strictness.{Strictness}

-- A command: the paths that it is given, the version of the table file to write, which warnings and conflicts are
-- allowed, and how the result is written or whether `--where` is given.
pub data Request : Type 0 where
  tokens : (lex : Text) → (text : Option Text) → (by : Answering) → Request
  table_tokens : (tables : Text) → (text : Option Text) → (by : Answering) → Request
  build : (lex yacc tables : Text) → (report : Option Text) → (version : Version) → (expected : Option ℕ)
      → (points : Bool) → Request
  run : (tables : Text) → (text : Option Text) → (by : Answering) → Request
  lines : (tables : Text) → (text : Option Text) → (by : Answering) → Request
  try : (lex yacc : Text) → (text : Option Text) → (by : Answering) → Request
  run_placed : (tables : Text) → (text : Option Text) → (points : Bool) → Request
  try_placed : (lex yacc : Text) → (text : Option Text) → (points : Bool) → Request
  check : (tables : Text) → (by : Answering) → Request
  explain : (lex : Option Text) → (yacc : Text) → (states graph : Option Text) → (strictness : Strictness)
      → (form : ReportForm) → Request
