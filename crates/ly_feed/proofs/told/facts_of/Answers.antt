use Rattle.std.proofs.Common.{◌∙◌}
use Rattle.std.proofs.lemmas.Result.{IfOk-weaker}
use Rattle.ly_feed.specs.Private.Told.{AreFactsOf}
use Rattle.ly_feed.specs.ScanPart.{scan_part_of}
use Rattle.ly_feed.proofs.ToldLemmas.{numbers_say}
use Rattle.ly_feed.proofs.told.facts_of.Goals as goal

pub returns : goal.returns
returns c = IfOk-weaker c.facts.result _
    (λ f. AreFactsOf (scan_part_of c.args.set.now) c.args.lexer.now.scanner f.items) (λ f e. record {
      numbers = c.deref.result.now;
      are = e;
      say = numbers_say c.args.set.now c.scan_rules.result.now c.deref.result.now c.scan_rules.ensures
          (c.deref.ensures.value ∙ c.in_ok-numbers.ensures);
    }) c.facts.ensures
