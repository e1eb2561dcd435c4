use Rattle.ly_subset.proofs.ChainLemmas.{span_is}
use Rattle.ly_subset.specs.Private.Members.{listed}
use Rattle.ly_subset.proofs.chains.span_after.Goals as goal

pub returns : goal.returns
returns c = span_is c.args.nfa.now c.args.firsts.now (listed c.args.from.now) c.args.byte c.args.last c.requires.firsts
    c.requires.from c.requires.last c.if-first-eq0.false (c.reads_below.ensures c.if-reads_below.false)
