use Rattle.ly_cli.proofs.CountLemmas.{count_read, none_read}
use Rattle.ly_cli.proofs.command_line.count_of.Goals as goal

pub returns-in-Ok : goal.returns-in-Ok
returns-in-Ok c = count_read c.args.word.now _ c.in-Ok.ensures.value.0

pub returns-in-Err : goal.returns-in-Err
returns-in-Err c = none_read c.args.word.now c.in-Err.ensures.value.0
