use Rattle.std.proofs.Common.{◌≡◌, Err, refl, subst}
use Rattle.ly_cli.specs.Request.{Request}
use Rattle.ly_cli.specs.declared.command.CommandFault.TheVariants.{Bad, Help, OutOfMemory as NoMemory}
use Rattle.ly_cli.proofs.RequestLemmas.{asked}
use Rattle.lytab.specs.CarriedOut.{IsCarriedOut}
use Rattle.lytab.specs.Devices.{IsOutputAfter}
use Rattle.lytab.specs.Files.{AreFilesLeft}
use Rattle.lytab.specs.declared.failure.Failure.TheVariants.{OutOfMemory}
use Rattle.ly_files.specs.declared.file_fault.FileFault.TheVariants.{OutOfMemory as no_memory}
use Rattle.lytab.proofs.FilesLemmas.{files_kept}
use Rattle.lytab.proofs.CarriedLemmas.{failed_first, kept_told, told_of_known}
use Rattle.lytab.proofs.perform.perform.Goals as goal

pub returns-in-Ok-clause-performed : goal.returns-in-Ok-clause-performed
returns-in-Ok-clause-performed g c = λ request mean. record {
  result = c.carry_out-ended.result;
  carried_out = subst (λ (q : Request). IsCarriedOut q c.carry_out-ended.result
      (record {
        input_before = c.args.input.now;
        input_after = c.carry_out-ended.new.input;
        given = g.R.Source.remaining c.args.input.now;
        left = g.R.Source.remaining c.carry_out-ended.new.input;
        files_before = g.D.Folder.holds c.args.folder.now;
        files_after = g.D.Folder.holds c.carry_out-ended.new.folder;
        before = g.W.Sink.contents c.args.output.now;
        after = g.W.Sink.contents c.carry_out-ended.new.output;
      }))
      (c.in-Ok.ensures.taken request mean) c.carry_out-ended.ensures.carried_out;
  files = subst (λ (q : Request). AreFilesLeft q c.carry_out-ended.result (g.D.Folder.holds c.args.folder.now)
      (g.D.Folder.holds c.carry_out-ended.new.folder)) (c.in-Ok.ensures.taken request mean)
      c.carry_out-ended.ensures.files;
  is_status = c.concluded-status.ensures.status;
  output = subst (λ (q : Request). IsOutputAfter q c.carry_out-ended.result (g.W.Sink.contents c.args.output.now)
      (g.W.Sink.contents c.carry_out-ended.new.output) (g.W.Sink.failures c.args.output.now)
      (g.W.Sink.failures c.carry_out-ended.new.output)) (c.in-Ok.ensures.taken request mean)
      (told_of_known g.W.Sink.contents _ c.carry_out-ended.result _ _ _ _ c.carry_out-ended.ensures.devices);
}

pub returns-in-Err-Help-clause-performed : goal.returns-in-Err-Help-clause-performed
returns-in-Err-Help-clause-performed g c = λ request mean.
    let memory : c.in-Err-Help.field-0 ≡ NoMemory = c.in-Err-Help.ensures.taken request mean in
    let help : c.in-Err-Help.field-0 ≡ Help c.in-Err-Help.text = c.in-Err-Help.field-0-is in
    absurd cc

pub returns-in-Err-Bad-clause-taken : goal.returns-in-Err-Bad-clause-taken
returns-in-Err-Bad-clause-taken g c = λ request ask.
    let memory : c.in-Err-Bad.field-0 ≡ NoMemory = c.in-Err-Bad.ensures.taken request (asked _ request ask) in
    let bad : c.in-Err-Bad.field-0 ≡ Bad c.in-Err-Bad.text = c.in-Err-Bad.field-0-is in
    absurd cc

pub returns-in-Err-Bad-clause-performed : goal.returns-in-Err-Bad-clause-performed
returns-in-Err-Bad-clause-performed g c = λ request mean.
    let memory : c.in-Err-Bad.field-0 ≡ NoMemory = c.in-Err-Bad.ensures.taken request mean in
    let bad : c.in-Err-Bad.field-0 ≡ Bad c.in-Err-Bad.text = c.in-Err-Bad.field-0-is in
    absurd cc

pub returns-in-Err-OutOfMemory-clause-performed : goal.returns-in-Err-OutOfMemory-clause-performed
returns-in-Err-OutOfMemory-clause-performed g c = λ request mean. record {
  result = Err OutOfMemory;
  carried_out = failed_first request no_memory _ refl refl;
  files = files_kept request OutOfMemory _;
  is_status = c.concluded-in-Err-OutOfMemory.ensures.status;
  output = kept_told request OutOfMemory _ _;
}
