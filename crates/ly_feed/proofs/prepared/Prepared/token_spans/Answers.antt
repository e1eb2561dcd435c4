use Rattle.std.proofs.Common.{subst}
use Rattle.std.specs.Prelude.{IfOk}
use Rattle.ly_feed.specs.ScanPart.{scan_part_of}
use Rattle.ly_feed.specs.TokenSpans.{AreSpansOf}
use Rattle.ly_feed.proofs.prepared.Prepared.token_spans.Goals as goal

pub returns : goal.returns
returns c = subst (λ s. IfOk c.token_spans.result (λ spans. AreSpansOf (scan_part_of s) c.args.text.now spans.items))
    c.self.view_is c.token_spans.ensures
