use Rattle.std.proofs.Common.{◌∙◌, IfErr, rules, subst, sym}
use Rattle.ly_generate.specs.Parser.{IsReportIf}
use Rattle.ly_generate.proofs.GenFaultLemmas.{err_weaker}
use Rattle.ly_files.specs.Folder.{IsFile}
use Rattle.lytab.specs.CarriedOut.{HasBuilt, paths_of_build, written_by}
use Rattle.lytab.specs.Devices.{WroteAllOrPrefix, DoneOrUnchanged}
use Rattle.lytab.specs.Failure.{IsOfDevice}
use Rattle.lytab.specs.Refusal.{HasOtherCounts}
use Rattle.lytab.proofs.CarriedLemmas.{is_told, wanted_named}
use Rattle.lytab.proofs.FilesLemmas.{device_kept, kept_same}
use Rattle.lytab.proofs.CountLemmas.{counts_differ, counts_hold, device_of_build}
use Rattle.lytab.proofs.building.build_tables.Goals as goal

pub returns-clause-built : goal.returns-clause-built
returns-clause-built g c =
    let built = c.in-Ok.ensures.built in
    let before = g.W.Sink.contents c.args.output.now in
    let after = g.W.Sink.contents c.said.new.output in
    let is_said : WroteAllOrPrefix c.said.result before after c.in_ok-line.line.items = search rules in
    subst (λ limits. DoneOrUnchanged c.said.result before after (HasBuilt
    limits c.args.version (paths_of_build c.args.paths) c.args.expected (record {
      files_before = g.D.Folder.holds c.args.folder.now;
      files_after = g.D.Folder.holds c.write_files.new.folder;
      before = before;
      after = after;
    }) c.said.result))
    c.version_2-limits.ensures
    (is_told c.said.result before after (record {
      lex = c.deref.result.now;
      lex_read = rw c.deref.ensures.value c.in_ok-lex.ensures.read;
      yacc = c.deref-2.result.now;
      yacc_read = rw c.deref-2.ensures.value c.in_ok-yacc.ensures.read;
      set = built.0;
      generated = built.1;
      tables = _;
      spelled = built.2;
      report = c.in-Ok.built.report;
      is_report = subst (λ options. IsReportIf options built.1.spec c.in-Ok.built.report)
          (c.wanted.ensures ∙ wanted_named (λ s. s.now) c.args.paths.report) built.4;
      written = c.in_ok-write_files.ensures.written;
      counts = c.in-Ok.built.conflicts;
      are_counts = built.3;
      as_expected = counts_hold c.args.expected c.in-Ok.built.conflicts (sym c.missed_count.ensures ∙ c.in_default.is);
      line = subst (WroteAllOrPrefix c.said.result before after) c.in_ok-line.ensures is_said;
      done = c.said.ensures.completed;
    }))

pub returns-in-Some-clause-refused : goal.returns-in-Some-clause-refused
returns-in-Some-clause-refused g c =
    let built = c.in-Ok.ensures.built in
    let differ = counts_differ c.args.expected c.in-Ok.built.conflicts _ (sym c.missed_count.ensures ∙ c.in-Some.is) in
    let files = g.D.Folder.holds c.args.folder.now in
    subst (λ limits. (o : HasOtherCounts limits c.args.version c.args.expected c.in-Ok.built.conflicts
    c.in-Some.expected) × IsFile files c.args.paths.lex.now o.lex × IsFile files c.args.paths.yacc.now o.yacc)
    c.version_2-limits.ensures (
      (record {
        lex = c.deref.result.now;
        yacc = c.deref-2.result.now;
        set = built.0;
        generated = built.1;
        are_counts = built.3;
        is_expected = differ.0;
        others = differ.1;
      }),
      rw c.deref.ensures.value c.in_ok-lex.ensures.read,
      rw c.deref-2.ensures.value c.in_ok-yacc.ensures.read,
    )

pub returns-clause-refused : goal.returns-clause-refused
returns-clause-refused g c =
    let failed : IfErr c.said.result IsOfDevice = search rules in
    err_weaker c.said.result _ _ (device_of_build c.args.version c.args.expected _ _ _) failed

pub returns-in-Some-clause-others : goal.returns-in-Some-clause-others
returns-in-Some-clause-others g c = kept_same (written_by c.args.paths) (g.D.Folder.holds c.args.folder.now)

pub returns-in_err-line-clause-others : goal.returns-in_err-line-clause-others
returns-in_err-line-clause-others g c = kept_same (written_by c.args.paths) (g.D.Folder.holds c.args.folder.now)

pub returns-in_err-write_files-clause-kept : goal.returns-in_err-write_files-clause-kept
returns-in_err-write_files-clause-kept g c = device_kept _ c.from_residual-in_err-write_files.result
    c.in_err-write_files.field-0.0 c.from_residual-in_err-write_files.ensures.1

pub returns-clause-kept : goal.returns-clause-kept
returns-clause-kept g c =
    err_weaker c.said.result _ _ (λ f device not. absurd (not device)) c.said.ensures.failed
