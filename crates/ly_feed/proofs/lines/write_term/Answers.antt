use Rattle.std.proofs.Common.{◌∙◌, ◌++◌, ◌∷◌, [], ap, subst}
use Rattle.ly_base.specs.Bytes.{newline}
use Rattle.ly_print.specs.TextWriter.{IsCutShort}
use Rattle.ly_feed.proofs.LineLemmas.{appended_so, json_of_form, plain_of_form}
use Rattle.ly_feed.specs.Private.Running.{words_of}
use Rattle.ly_feed.specs.Verdict.{accepted, written_in}
use Rattle.ly_feed.proofs.lines.write_term.Goals as goal
use Rattle.ly_tree.specs.Forest.{StandsFor}
use Rattle.ly_tree.specs.Json.{as_json}
use Rattle.ly_tree.specs.Shown.{plain}
use Rattle.ly_tree.specs.Written as tree

pub returns-in_ok-labels-in-Plain-clause-ok : goal.returns-in_ok-labels-in-Plain-clause-ok
returns-in_ok-labels-in-Plain-clause-ok g c =
    let sink = g.W.Sink in
    let v = words_of c.new-plain.result.words.now.names in
    let w = words_of c.args.names.now in
    appended_so (λ t. StandsFor c.args.forest.now c.args.root t) (λ t. tree.written (plain v) t ++ newline ∷ [])
    (λ t. written_in c.args.form w (accepted t)) (sink.contents c.args.writer.now)
    (sink.contents c.write_line.new.writer) c.write_line.result
    (λ t. plain_of_form c.args.form v w t c.in-Plain.is
    (ap (λ l. words_of l.names) c.new-plain.ensures ∙ ap words_of c.in_ok-labels-in-Plain.ensures))
    c.write_line.ensures.ok

pub returns-in_ok-labels-in-Plain-clause-beginning : goal.returns-in_ok-labels-in-Plain-clause-beginning
returns-in_ok-labels-in-Plain-clause-beginning g c written t is stands =
    let sink = g.W.Sink in
    let labels = c.new-plain.result.words.now in
    subst (IsCutShort (sink.contents c.args.writer.now) (sink.contents c.write_line.new.writer) written)
    (plain_of_form c.args.form (words_of labels.names) (words_of c.args.names.now) t c.in-Plain.is
    (ap (λ l. words_of l.names) c.new-plain.ensures ∙ ap words_of c.in_ok-labels-in-Plain.ensures))
    (c.write_line.ensures.beginning written t is stands)

pub returns-in_ok-labels-in-Json-clause-ok : goal.returns-in_ok-labels-in-Json-clause-ok
returns-in_ok-labels-in-Json-clause-ok g c =
    let sink = g.W.Sink in
    let v = words_of c.in_ok-labels-in-Json.labels.names in
    let w = words_of c.args.names.now in
    appended_so (λ t. StandsFor c.args.forest.now c.args.root t) (λ t. tree.written (as_json v) t ++ newline ∷ [])
    (λ t. written_in c.args.form w (accepted t)) (sink.contents c.args.writer.now)
    (sink.contents c.write_line-in-Json.new.writer) c.write_line-in-Json.result
    (λ t. json_of_form c.args.form v w t c.in-Json.is (ap words_of c.in_ok-labels-in-Json.ensures))
    c.write_line-in-Json.ensures.ok

pub returns-in_ok-labels-in-Json-clause-beginning : goal.returns-in_ok-labels-in-Json-clause-beginning
returns-in_ok-labels-in-Json-clause-beginning g c written t is stands =
    let sink = g.W.Sink in
    subst (IsCutShort (sink.contents c.args.writer.now) (sink.contents c.write_line-in-Json.new.writer) written)
    (json_of_form c.args.form (words_of c.in_ok-labels-in-Json.labels.names) (words_of c.args.names.now) t c.in-Json.is
    (ap words_of c.in_ok-labels-in-Json.ensures))
    (c.write_line-in-Json.ensures.beginning written t is stands)
