use Rattle.std.proofs.Common.{◌≡◌, ◌∙◌, IfErr, IfOk, length, rules, subst}
use Rattle.ly_base.specs.Limits.{Sizes}
use Rattle.ly_base.specs.declared.version.Version.{Version}
use Rattle.ly_base.specs.declared.version.Version.TheVariants.{V2}
use Rattle.ly_lexread.specs.declared.file.LexFile.{LexFile}
use Rattle.ly_report.specs.Counts.{AreCounts}
use Rattle.ly_generate.specs.Accepted.{IsRefusedFor, IsUnfitFor}
use Rattle.ly_generate.specs.Generated.{IsGenerated}
use Rattle.ly_generate.specs.Parser.{IsReportIf}
use Rattle.ly_generate.specs.Private.Making.{FitsWith, IsMadeOf}
use Rattle.ly_generate.specs.declared.gen_fault.GenFault.TheVariants.{OutOfMemory}
use Rattle.ly_generate.proofs.CountLemmas.{rules_act}
use Rattle.ly_generate.proofs.GenFaultLemmas.{err_weaker, ok_both, unfit_refused, when_same}
use Rattle.ly_generate.proofs.GeneratedLemmas.{fits_given, generated_with}
use Rattle.ly_generate.proofs.VersionLemmas.{bounded_in_2}
use Rattle.ly_generate.proofs.tables.file_tables.Goals as goal

pub specification_tables-made-requires-clause-rules : goal.specification_tables-made-requires-clause-rules
specification_tables-made-requires-clause-rules c =
    let spec = c.in_ok-given.given.spec in
    let says = c.in_ok-given.ensures.says.specifies in
    subst (λ (f : LexFile). length f.rules.items ≡ length spec.scanner) c.in_ok-given.ensures.says.same_file
    (rules_act c.args.lex.now says.file says.written spec says.lex_text says.joined)

pub specification_tables-made-requires-clause-starts : goal.specification_tables-made-requires-clause-starts
specification_tables-made-requires-clause-starts c = (
  c.in_ok-given.given.file.conditions,
  c.in_ok-dfa.ensures.starts ∙ c.in_ok-given.ensures.says.scanner.subsets.two_starts,
)

pub specification_tables-made-requires-clause-fits : goal.specification_tables-made-requires-clause-fits
specification_tables-made-requires-clause-fits c =
    let given = c.in_ok-given.given in
    let dfa = c.in_ok-dfa.ensures in
    let limits = c.within-limits.result in
    fits_given V2 limits c.args.lex.now c.args.yacc.now given.file given.spec given.subsets c.in_ok-dfa.dfa
    c.in_ok-given.ensures.says dfa.same dfa.reduced dfa.starts
    (bounded_in_2 c.args.version limits c.within-limits.ensures.bounded)

pub returns-in_err-given-clause-refused : goal.returns-in_err-given-clause-refused
returns-in_err-given-clause-refused c =
    subst (λ (l : Sizes). IfErr c.from_residual.result (IsRefusedFor l c.args.lex.now c.args.yacc.now))
    c.within-limits.ensures.least (search rules)

pub returns-in_err-dfa-clause-refused : goal.returns-in_err-dfa-clause-refused
returns-in_err-dfa-clause-refused c = when_same c.from_residual-in_err-dfa.result OutOfMemory
    (IsRefusedFor _ c.args.lex.now c.args.yacc.now) c.from_residual-in_err-dfa.ensures.1 tt

pub returns-clause-generated : goal.returns-clause-generated
returns-clause-generated c =
    let file = c.in_ok-given.given.file in
    let spec = c.in_ok-given.given.spec in
    let dfa = c.in_ok-dfa in
    let limits = c.within-limits.result in
    let fits = fits_given c.args.version limits c.args.lex.now c.args.yacc.now file spec c.in_ok-given.given.subsets
    dfa.dfa c.in_ok-given.ensures.says dfa.ensures.same dfa.ensures.reduced dfa.ensures.starts
    c.within-limits.ensures.bounded in
    subst (λ (l : Sizes). IfOk c.specification_tables-made.result
    (λ m. (g : IsGenerated c.args.version l c.args.lex.now c.args.yacc.now m.set) × AreCounts g.spec m.conflicts
    × IsReportIf c.args.report g.spec m.report)) c.within-limits.ensures.least
    (ok_both c.specification_tables-made.result
    (λ m. (v : Version) → FitsWith v limits spec file.rules.items dfa.dfa → IsMadeOf v limits file spec dfa.dfa m.set)
    (λ m. AreCounts spec m.conflicts × IsReportIf c.args.report spec m.report) _
    (λ m made told. generated_with c.args.version limits c.args.lex.now c.args.yacc.now file spec
    c.in_ok-given.given.subsets dfa.dfa m.set c.in_ok-given.ensures.says dfa.ensures.same dfa.ensures.reduced
    dfa.ensures.order dfa.ensures.class_of dfa.ensures.classes dfa.ensures.starts
    (made c.args.version fits) (λ s. AreCounts s m.conflicts) (λ s. IsReportIf c.args.report s m.report) told.0 told.1)
    c.specification_tables-made.ensures.made
    (ok_both c.specification_tables-made.result (λ m. AreCounts spec m.conflicts)
    (λ m. IsReportIf c.args.report spec m.report) _
    (λ m counted reported. (counted, reported)) c.specification_tables-made.ensures.counted
    c.specification_tables-made.ensures.reported))

pub returns-clause-refused : goal.returns-clause-refused
returns-clause-refused c =
    let limits = c.within-limits.result in
    let spec = c.in_ok-given.given.spec in
    subst (λ (l : Sizes). IfErr c.specification_tables-made.result (IsRefusedFor l c.args.lex.now c.args.yacc.now))
    c.within-limits.ensures.least
    (err_weaker c.specification_tables-made.result (IsUnfitFor limits spec)
    (IsRefusedFor limits c.args.lex.now c.args.yacc.now)
    (unfit_refused limits c.args.lex.now c.args.yacc.now spec c.in_ok-given.ensures.says.specifies)
    c.specification_tables-made.ensures.unfit)
