use Rattle.std.proofs.Common.{ap, length, subst, sym}
use Rattle.ly_lexread.specs.Definitions.{at_first, Definitions}
use Rattle.ly_lexread.specs.LexText.{IsHeavyBehind, IsHeavyText, IsLight, LexText}
use Rattle.ly_lexread.specs.Private.Definitions.{preamble_of}
use Rattle.ly_lexread.specs.Private.File.{IsBehind}
use Rattle.ly_lexread.proofs.AnswerLemmas.{answer_as, answer_fault}
use Rattle.ly_lexread.proofs.FileLemmas.{text_behind}
use Rattle.ly_lexread.proofs.read.read_lex.Goals as goal

pub returns-in-Err-clause-read : goal.returns-in-Err-clause-read
returns-in-Err-clause-read c =
    let e = c.in-Err.ensures.these in
    let first = c.first_fault.ensures in
    let whole = ap (λ b. b.now) c.of-text.ensures.bytes in
    answer_fault _ _ _ _ _ (first.light e.0) (λ ne file text.
    e.1 (λ memory. ne (first.memory memory)) text.all text.behind
    (subst (λ b. Definitions at_first b text.all text.behind) (sym whole) text.definitions))

pub returns-in-Ok-clause-read : goal.returns-in-Ok-clause-read
returns-in-Ok-clause-read c =
    let bytes = c.args.bytes.now in
    let all = preamble_of c.in-Ok.preamble in
    let behind = c.in-Ok.behind.bytes.now in
    let most = c.args.limits.now.pattern_weight in
    let read_so : Definitions at_first bytes all behind
    = subst (λ b. Definitions at_first b all behind) (ap (λ b. b.now) c.of-text.ensures.bytes) c.in-Ok.ensures.these in
    answer_as (λ file. file) (LexText bytes) (IsBehind (length bytes) all behind) (IsLight most)
    (IsHeavyText most bytes)
    (IsHeavyBehind most all behind) c.read_behind-read.result
    (λ file is. record {
      all = all;
      behind = behind;
      definitions = read_so;
      names = is.names;
      sayings = is.sayings;
      lefts = is.lefts;
      rules = is.rules;
      effects = is.effects;
      conditions = is.conditions;
      start_conditions = is.start_conditions;
      rule_starts = is.rule_starts;
      definition_starts = is.definition_starts;
    })
    (λ file text. text_behind bytes all behind read_so file text)
    (λ h. (all, behind, read_so, h))
    c.read_behind-read.ensures.read
