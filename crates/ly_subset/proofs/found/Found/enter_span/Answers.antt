use Rattle.ly_subset.specs.Private.Packed.{run_of, unpack}
use Rattle.ly_subset.proofs.FoundLemmas.{entered_same, full_same, key_within, on_ok_one, set_of_key}
use Rattle.ly_subset.proofs.ChainLemmas.{run_some, run_within}
use Rattle.ly_subset.proofs.found.Found.enter_span.Goals as goal

pub enter_key-requires-clause-set : goal.enter_key-requires-clause-set
enter_key-requires-clause-set c = set_of_key (run_of c.args.span.first c.args.span.last)
    (unpack c.in_ok-key.key.items) c.in_ok-key.ensures.key
    (run_some c.args.span.first c.args.span.last c.requires.rises)

pub returns-clause-entered : goal.returns-clause-entered
returns-clause-entered c = on_ok_one c.enter_key.result c.enter_key.ensures.entered (entered_same c.args.self.now
    c.enter_key.new.self (unpack c.in_ok-key.key.items) (run_of c.args.span.first c.args.span.last)
    c.in_ok-key.ensures.key.same)

pub returns-clause-kept : goal.returns-clause-kept
returns-clause-kept c = on_ok_one c.enter_key.result c.enter_key.ensures.kept (λ f below kept less. f below kept
    (key_within below (run_of c.args.span.first c.args.span.last) (unpack c.in_ok-key.key.items)
    c.in_ok-key.ensures.key (run_within below c.args.span.first c.args.span.last less)))

pub returns-clause-full : goal.returns-clause-full
returns-clause-full c = λ failed. full_same c.args.self.now.limit c.args.self.now.keys (unpack c.in_ok-key.key.items)
    (run_of c.args.span.first c.args.span.last) c.in_ok-key.ensures.key.same (c.enter_key.ensures.full failed)
