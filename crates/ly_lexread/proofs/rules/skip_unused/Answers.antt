use Rattle.std.proofs.Common.{◌≡◌, ◌∙◌, ◌⊎◌, ◌<◌, arith, length, subst}
use Rattle.std.specs.Option.{MatchOption}
use Rattle.std.specs.Prelude.{IfSome}
use Rattle.ly_lexread.specs.Private.Rules.{BeginsWithRule, more, none}
use Rattle.ly_lexread.specs.Rules.{AreRulesOver, Skips}
use Rattle.ly_lexread.proofs.RuleLemmas.{rules_skip}
use Rattle.ly_lexread.proofs.rules.skip_unused.Goals as goal

pub loop-behind-preserved : goal.loop-behind-preserved
loop-behind-preserved c =
    let left = c.loop-behind.left.bytes.now in
    let behind = c.in-Some.behind.bytes.now in
    let skips = subst (λ o. MatchOption o (AreRulesOver left ⊎ BeginsWithRule left) (λ rest. Skips left rest.bytes.now))
    c.in-Some.is c.in_ok-behind.ensures.ok in
    let less = subst (λ o. IfSome o (λ rest. length rest.bytes.now < length left)) c.in-Some.is
    c.in_ok-behind.ensures.shorter in
    let whole = subst (λ o. IfSome o (λ rest. rest.whole ≡ c.loop-behind.left.whole)) c.in-Some.is
    c.in_ok-behind.ensures.whole in
    record {
      skipped = λ rest s. c.loop-behind.invariant.skipped rest (more left behind rest skips s);
      complete = λ cs names rules sayings lefts d. rules_skip cs names left behind rules sayings lefts skips
          (c.loop-behind.invariant.complete cs names rules sayings lefts d);
      within = omega (arith, less, c.loop-behind.invariant.within);
      whole = whole ∙ c.loop-behind.invariant.whole;
    }

pub returns-clause-ok : goal.returns-clause-ok
returns-clause-ok c = c.loop-behind.invariant.skipped c.loop-behind.left.bytes.now (none c.loop-behind.left.bytes.now)
