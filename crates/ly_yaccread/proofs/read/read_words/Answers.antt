use Rattle.std.proofs.Common.{None, subst}
use Rattle.std.proofs.lemmas.Result.{err_from_is_err_and}
use Rattle.ly_yaccread.specs.Declarations.{none_declared}
use Rattle.ly_yaccread.specs.Private.Read.{declaring_of, left}
use Rattle.ly_yaccread.specs.Private.Words.{words_of}
use Rattle.ly_yaccread.specs.Rules.{YaccRules}
use Rattle.ly_yaccread.proofs.DeclarationLemmas.{declarations_one}
use Rattle.ly_yaccread.proofs.read.read_words.Goals as goal

pub returns-in_err-rules : goal.returns-in_err-rules
returns-in_err-rules c =
    let p = err_from_is_err_and c.from_residual-in_err-rules.result c.from_residual-in_err-rules.ensures.1 in
    rw (p.1, p.2) (λ n d rs ss s.
    let one = declarations_one none_declared d (declaring_of c.in_ok-preamble.preamble) (words_of c.args.words.now)
    s.behind (left c.in_ok-preamble.behind) s.declarations c.in_ok-preamble.ensures in
    c.in_err-rules.ensures n rs ss (subst (λ u. YaccRules None u rs ss) one.1 s.rules))
