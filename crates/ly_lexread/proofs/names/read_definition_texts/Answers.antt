use Rattle.ly_lexread.proofs.AnswerLemmas.{answer_names, answer_ok}
use Rattle.ly_lexread.proofs.NameLemmas.{cut_defined, cut_distinct, cut_of}
use Rattle.ly_lexread.proofs.names.read_definition_texts.Goals as goal

pub read_names-requires : goal.read_names-requires
read_names-requires c = record {
  distinct = cut_distinct c.lines-lines.result.now c.args.definitions.now c.in_ok-texts.texts c.deref.result.now
      c.lines-lines.ensures.these c.deref.ensures.value c.in_ok-texts.ensures c.lines-lines.ensures.apart;
}

pub returns-in-Err-clause-read : goal.returns-in-Err-clause-read
returns-in-Err-clause-read c =
    let cut = cut_of c.lines-lines.result.now c.args.definitions.now c.in_ok-texts.texts c.deref.result.now
    c.lines-lines.ensures.these c.deref.ensures.value c.in_ok-texts.ensures in
    answer_names c.args.limits.now.pattern_weight c.args.definitions.now _ c.in-Err.place c.in-Err.fault
    c.pattern_fault-fault.result c.pattern_fault-fault.ensures.memory c.pattern_fault-fault.ensures.other
    c.in-Err.ensures.refused c.in_ok-texts.texts.flaw c.first_fault.result cut.1 c.first_fault.ensures.whole
    c.first_fault.ensures.light

pub returns-clause-read : goal.returns-clause-read
returns-clause-read c = answer_ok _ _ _ _ _
    (cut_defined c.lines-lines.result.now c.args.definitions.now c.in_ok-texts.texts
    c.deref.result.now c.in-Ok.names c.lines-lines.ensures.these c.deref.ensures.value c.in_ok-texts.ensures
    c.lines-lines.ensures.apart c.in-None.is c.in-Ok.ensures.ok) c.in-Ok.ensures.light
