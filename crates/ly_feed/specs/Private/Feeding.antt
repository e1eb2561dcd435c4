-- What a feed has in memory.
use Rattle.std.specs.Prelude.{◌≡◌, Bool, false}
use Rattle.ly_base.specs.Lexed.{Place}
use Rattle.ly_feed.specs.Held.{Held}
use Rattle.ly_feed.specs.LexerOf.{IsLexerOf}
use Rattle.ly_feed.specs.Closed.{CanRun, progress_of}
use Rattle.ly_feed.specs.Private.Told.{AreFactsOf}
use Rattle.ly_feed.specs.ScanPart.{scan_part_of}
use Rattle.ly_feed.specs.declared.feed.Feed.TheInside.{Inside}
use Rattle.ly_parse.specs.Parse.{Parse}
use Rattle.ly_print.specs.declared.answer_form.AnswerForm.{AnswerForm}
use Rattle.ly_scan.specs.Lexers.{IsUnderwayAt}
use Rattle.ly_tables.specs.TableSet.{TableSet, machine_of}

-- what a feed holds
abbrev pub held_from : TableSet → AnswerForm → Place → Parse → Bool → Held
held_from set form place parse over =
    record { set = set; form = form; progress = progress_of place parse; over = over }

-- A feed's scanner with its facts and its parser are those of its set, and as long as it isn't over its parse isn't,
-- and the walk over the bytes that are held goes on.
pub record IsFeed (f : Inside) : Type 0 where
  pub lexer : IsLexerOf (scan_part_of f.set.now) f.lexer.now
  pub facts : AreFactsOf (scan_part_of f.set.now) f.lexer.now.scanner f.facts.now
  pub machine : f.parser.machine ≡ machine_of f.set.now
  pub runs : CanRun (scan_part_of f.set.now) (machine_of f.set.now)
  pub parses : f.over ≡ false → f.parser.over ≡ false
  pub waits : f.over ≡ false → IsUnderwayAt f.lexer.now f.window f.matcher
