use Rattle.std.proofs.Common.{IfErr, IfOk}
use Rattle.lytab.specs.Answering.{IsAnswerBegun, IsParsedBy}
use Rattle.lytab.specs.Failure.{IsOfWriter}
use Rattle.lytab.specs.Lines.{AreLinesStoppedBy}
use Rattle.lytab.specs.Refusal.{IsRefusalOf}
use Rattle.lytab.proofs.TextLemmas.{if_answered, if_begun, if_refused, if_stopped, of_named}
use Rattle.lytab.proofs.answering.answer_text.Goals as goal

pub returns-in_ok-file-in-Some-clause-answered : goal.returns-in_ok-file-in-Some-clause-answered
returns-in_ok-file-in-Some-clause-answered g c =
    let r = c.answer_by-ended.result in
    let given = g.D.File.Source.remaining c.new-file.result in
    let before = g.W.Sink.contents c.args.output.now in
    let after = g.W.Sink.contents c.answer_by-ended.new.writer in
    rw c.in-Some.is (of_named (λ text. IfOk r (IsParsedBy c.args.rules text before after))
    (g.D.Folder.holds c.args.folder.now) c.in-Some.path.now given
    (rw c.new-file.ensures c.in_ok-file-in-Some.ensures.opened) (if_answered c.args.rules given before after r)
    c.answer_by-ended.ensures.answered)

pub returns-in_ok-file-in-Some-clause-refused : goal.returns-in_ok-file-in-Some-clause-refused
returns-in_ok-file-in-Some-clause-refused g c =
    let r = c.answer_by-ended.result in
    let given = g.D.File.Source.remaining c.new-file.result in
    rw c.in-Some.is (of_named (λ text. IfErr r (IsRefusalOf c.args.rules text))
    (g.D.Folder.holds c.args.folder.now) c.in-Some.path.now given
    (rw c.new-file.ensures c.in_ok-file-in-Some.ensures.opened) (if_refused c.args.rules given r)
    c.answer_by-ended.ensures.refused)

pub returns-in_ok-file-in-Some-clause-beginning : goal.returns-in_ok-file-in-Some-clause-beginning
returns-in_ok-file-in-Some-clause-beginning g c =
    let r = c.answer_by-ended.result in
    let given = g.D.File.Source.remaining c.new-file.result in
    let before = g.W.Sink.contents c.args.output.now in
    let after = g.W.Sink.contents c.answer_by-ended.new.writer in
    rw c.in-Some.is (of_named (λ text. IfErr r (λ f. IsOfWriter f → IsAnswerBegun c.args.rules text before after))
    (g.D.Folder.holds c.args.folder.now) c.in-Some.path.now given
    (rw c.new-file.ensures c.in_ok-file-in-Some.ensures.opened) (if_begun c.args.rules given before after r)
    c.answer_by-ended.ensures.beginning)

pub returns-in_ok-file-in-Some-clause-stopped : goal.returns-in_ok-file-in-Some-clause-stopped
returns-in_ok-file-in-Some-clause-stopped g c =
    let r = c.answer_by-ended.result in
    let given = g.D.File.Source.remaining c.new-file.result in
    let before = g.W.Sink.contents c.args.output.now in
    let after = g.W.Sink.contents c.answer_by-ended.new.writer in
    rw c.in-Some.is (of_named (λ text. IfErr r (AreLinesStoppedBy c.args.rules text before after))
    (g.D.Folder.holds c.args.folder.now) c.in-Some.path.now given
    (rw c.new-file.ensures c.in_ok-file-in-Some.ensures.opened) (if_stopped c.args.rules given before after r)
    c.answer_by-ended.ensures.stopped)
