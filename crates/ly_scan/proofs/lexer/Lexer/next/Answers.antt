use Rattle.std.proofs.Common.{drop, subst, sym}
use Rattle.ly_scan.proofs.KnownWalkLemmas.{known_on}
use Rattle.ly_scan.proofs.LexerLemmas.{known_passed}
use Rattle.ly_scan.specs.KnownWalks.{AreKnown}
use Rattle.ly_scan.specs.Lexers.{Lexer, scanner_of}
use Rattle.ly_scan.specs.StateTable.{ahead_in}
use Rattle.ly_scan.proofs.lexer.Lexer.next.Goals as goal

pub next_lexeme-requires : goal.next_lexeme-requires
next_lexeme-requires c =
    let l : Lexer = c.args.self.now in record {
      known = subst (λ l. AreKnown (ahead_in l.scanner) c.args.ended c.pass_over.new.place.rest c.args.known.now)
          (sym c.self.view_is)
          (known_passed (scanner_of l.scanner) l.passed (ahead_in l.scanner) c.args.ended c.args.known.now
          c.args.place.now c.pass_over.new.place c.pass_over.ensures.passed c.requires.known);
    }

pub returns-clause-known : goal.returns-clause-known
returns-clause-known c = λ taken within.
    subst (λ l. AreKnown (ahead_in l.scanner) c.args.ended (drop taken c.pass_over.new.place.rest)
    c.next_lexeme.new.known) c.self.view_is
    (known_on (ahead_in c.self.inside.scanner) c.args.ended c.pass_over.new.place.rest c.next_lexeme.new.known taken
    within c.next_lexeme.ensures.known)
