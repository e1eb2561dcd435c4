use Rattle.std.proofs.Common.{◌≡◌, ◌∙◌, ap, arith, length, subst}
use Rattle.ly_drive.proofs.SoFarLemmas.{nothing_needed}
use Rattle.ly_drive.specs.Answering.{IsAnsweredBy, IsBegunBy, IsFaultyOn, NeedsMoreInput, IsReadAsNeeded}
use Rattle.ly_feed.specs.Held.{nothing_read}
use Rattle.std.specs.Prelude.{IfOk}
use Rattle.ly_drive.proofs.driving.run.Goals as goal

pub returns-clause-beginning : goal.returns-clause-beginning
returns-clause-beginning g c written is =
    subst (λ f. IsBegunBy f.form f.set (g.R.Source.remaining c.args.reader.now)
    (g.W.Sink.contents c.args.writer.now) (g.W.Sink.contents c.feed_all-answered.new.writer) written)
    (c.new-feed.ensures ∙ ap (nothing_read c.args.form) c.in_ok-prepared.ensures) (c.feed_all-answered.ensures.beginning written is)

pub returns-clause-faulty : goal.returns-clause-faulty
returns-clause-faulty g c is = subst (λ s. IsFaultyOn s (g.R.Source.remaining c.args.reader.now))
    (ap (λ f. f.set) (c.new-feed.ensures ∙ ap (nothing_read c.args.form) c.in_ok-prepared.ensures)) (c.feed_all-answered.ensures.faulty is)

pub returns-in_err-prepared-clause-needed : goal.returns-in_err-prepared-clause-needed
returns-in_err-prepared-clause-needed g c not =
    nothing_needed 4096 c.args.set.now (g.R.Source.remaining c.args.reader.now)

pub returns-in_err-room-clause-needed : goal.returns-in_err-room-clause-needed
returns-in_err-room-clause-needed g c not =
    nothing_needed 4096 c.args.set.now (g.R.Source.remaining c.args.reader.now)

pub returns-clause-needed : goal.returns-clause-needed
returns-clause-needed g c not =
    let before = g.R.Source.remaining c.args.reader.now in
    let after = g.R.Source.remaining c.feed_all-answered.new.reader in
    let room = length c.deref_mut.result.now in
    let size : room ≡ 4096 = omega (arith, c.deref_mut.ensures.len, c.in_ok-room.ensures.len) in
    subst (λ n. IsReadAsNeeded n c.args.set.now before after) size
    (subst (λ s. IsReadAsNeeded room s before after) (ap (λ f. f.set) (c.new-feed.ensures ∙ ap (nothing_read c.args.form) c.in_ok-prepared.ensures))
    (c.feed_all-answered.ensures.needed not))

pub returns-clause-asked : goal.returns-clause-asked
returns-clause-asked g c is =
    subst (λ s. NeedsMoreInput s (g.R.Source.remaining c.args.reader.now)
    (g.R.Source.remaining c.feed_all-answered.new.reader)) (ap (λ f. f.set) (c.new-feed.ensures ∙ ap (nothing_read c.args.form) c.in_ok-prepared.ensures))
    (c.feed_all-answered.ensures.asked is)

pub returns-clause-answered : goal.returns-clause-answered
returns-clause-answered g c =
    subst (λ f. IfOk c.feed_all-answered.result (IsAnsweredBy f.form f.set (g.R.Source.remaining c.args.reader.now)
    (g.W.Sink.contents c.args.writer.now) (g.W.Sink.contents c.feed_all-answered.new.writer)))
    (c.new-feed.ensures ∙ ap (nothing_read c.args.form) c.in_ok-prepared.ensures) c.feed_all-answered.ensures.answered
