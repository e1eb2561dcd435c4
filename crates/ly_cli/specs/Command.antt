-- What a command asks for.
use Rattle.std.specs.Prelude.{option_map}
use Rattle.ly_cli.specs.Request.{Request, build, check, explain, lines, run, run_placed, table_tokens}
use Rattle.ly_cli.specs.Request.{tokens, try, try_placed}
use Rattle.ly_cli.specs.declared.command.Command.{Command}
use Rattle.ly_cli.specs.declared.command.Command.TheVariants.{Build, Check, Explain, Lines, Run, RunPlaced, Tokens}
use Rattle.ly_cli.specs.declared.command.Command.TheVariants.{TableTokens, Try, TryPlaced}

abbrev pub said : Command → Request
said (Tokens lex text by) = tokens lex.now (option_map (λ s. s.now) text) by
said (TableTokens table_file text by) = table_tokens table_file.now (option_map (λ s. s.now) text) by
said (Build paths version expected points) =
    build paths.lex.now paths.yacc.now paths.tables.now (option_map (λ s. s.now) paths.report) version expected points
said (Run table_file text by) = run table_file.now (option_map (λ s. s.now) text) by
said (Lines table_file text by) = lines table_file.now (option_map (λ s. s.now) text) by
said (Try lex yacc text by) = try lex.now yacc.now (option_map (λ s. s.now) text) by
said (RunPlaced table_file text points) = run_placed table_file.now (option_map (λ s. s.now) text) points
said (TryPlaced lex yacc text points) = try_placed lex.now yacc.now (option_map (λ s. s.now) text) points
said (Check table_file by) = check table_file.now by
said (Explain paths strictness form) = explain (option_map (λ s. s.now) paths.lex) paths.yacc.now
    (option_map (λ s. s.now) paths.states) (option_map (λ s. s.now) paths.graph) strictness form
