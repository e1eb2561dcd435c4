use Rattle.std.proofs.Common.{List, subst, sym}
use Rattle.ly_base.specs.declared.version.Version.TheVariants.{V2}
use Rattle.ly_emit.specs.FitsFile.{FitsFile}
use Rattle.ly_emit.specs.SetOf.{IsMachineBy, IsSetOf}
use Rattle.ly_ere.specs.declared.pattern.Rule.{Rule}
use Rattle.ly_generate.proofs.tables.specification_tables.Goals as goal

pub table_set-requires-clause-fits : goal.table_set-requires-clause-fits
table_set-requires-clause-fits c =
    let parser = c.in_ok-parser.ensures.parser in (
      parser.automaton,
      (parser.fit.useful_rules, parser.is_machine),
      subst (λ (rs : List Rule). FitsFile V2 c.args.spec.now rs c.args.dfa.now parser.automaton)
          (sym c.deref.ensures.value)
          (c.requires.fits parser.automaton parser.is_automaton parser.fit.useful_rules parser.few),
    )

pub returns-clause-made : goal.returns-clause-made
returns-clause-made c = λ v fits.
    let s = c.args.spec.now in
    let walk = c.args.dfa.now in
    let parser = c.in_ok-parser.ensures.parser in
    let M = parser.automaton in
    let by : IsMachineBy s M c.in_ok-parser.parser.machine = (parser.fit.useful_rules, parser.is_machine) in
    let made = c.in_ok-set.ensures in
    record {
      automaton = M;
      is_automaton = parser.is_automaton;
      fit = parser.fit;
      is_walk = c.requires.whole;
      is_set = subst (λ (rs : List Rule). IsSetOf s M rs walk c.in_ok-set.set) c.deref.ensures.value (made.set M by);
      within = made.within v M by
          (subst (λ (rs : List Rule). FitsFile v s rs walk M) (sym c.deref.ensures.value)
          (fits M parser.is_automaton parser.fit.useful_rules parser.few));
      steady = made.ends;
    }
