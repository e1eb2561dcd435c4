use Rattle.std.proofs.Common.{◌∙◌, ap, map, reverse}
use Rattle.ly_join.specs.Grammar.{symbol_of}
use Rattle.ly_lr0.specs.Automaton.{prefix_of}
use Rattle.ly_report.specs.Private.Symbols.{IsNamed}
use Rattle.ly_resolve.specs.Values.{conflict_from}
use Rattle.ly_report.proofs.LineLemmas.{conflict_told}
use Rattle.ly_report.proofs.NameLemmas.{All-reverse, are_named, map-reverse}
use Rattle.ly_report.proofs.line.push_conflict.Goals as goal

pub push_place-requires-clause-symbols : goal.push_place-requires-clause-symbols
push_place-requires-clause-symbols c =
    let prefix = prefix_of c.args.lr0.now c.args.conflict.now.state.0 in
    are_named c.args.spec.now c.deref.result.now (reverse prefix)
    (ap (map symbol_of) (c.deref.ensures.value ∙ c.reverse.ensures.items)
    ∙ map-reverse symbol_of c.in_ok-prefix.prefix.items ∙ ap reverse c.in_ok-prefix.ensures)
    (All-reverse (IsNamed c.args.spec.now) prefix c.requires.prefix)

pub returns : goal.returns
returns c =
    conflict_told c.args.spec.now (conflict_from c.args.lr0.now c.args.conflict.now) c.args.out.now.items
    c.push_place.new.out.items c.push_choice.new.out.items (map symbol_of c.deref.result.now)
    (ap (map symbol_of) (c.deref.ensures.value ∙ c.reverse.ensures.items)
    ∙ map-reverse symbol_of c.in_ok-prefix.prefix.items ∙ ap reverse c.in_ok-prefix.ensures)
    c.in_ok-push_place.ensures c.in_ok-push_choice.ensures
