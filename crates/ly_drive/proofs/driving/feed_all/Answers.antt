use Rattle.std.proofs.Common.{◌≡◌, ◌∙◌, ◌<◌, List, [], ℕ, Err, Ok, Some, ap, length, refl, subst, sym, take}
use Rattle.std.specs.Io.KnownBytes.{Appends}
use Rattle.std.specs.Prelude.{IfOk}
use Rattle.ly_print.specs.TextWriter.{IsCutShort}
use Rattle.ly_drive.proofs.FaultLemmas.{cut_short, other_fault}
use Rattle.ly_drive.proofs.SoFarLemmas.{answered, as_needed, asked_for, at_fault, begins, ended_as_needed, ended_so}
use Rattle.ly_drive.proofs.SoFarLemmas.{ends}
use Rattle.ly_drive.proofs.SoFarLemmas.{given_by, goes_on, settles}
use Rattle.ly_drive.specs.Private.Reading.{IsReadInto}
use Rattle.ly_drive.proofs.driving.feed_all.Goals as goal
use Rattle.ly_feed.proofs.FaultLemmas.{same_count, same_fault}
use Rattle.ly_feed.specs.Held.{IsAnswerOf, IsRestOf}
use Rattle.ly_feed.specs.Verdict.{faulty}
use Rattle.ly_feed.specs.declared.text_fault.TextFault.TheVariants.{FaultyTables, Read, Write}

pub loop-outcome-init : goal.loop-outcome-init
loop-outcome-init g c =
    let source = g.R.Source in record {
      so_far = begins c.args.feed.now.form c.args.feed.now.set (source.remaining c.args.reader.now) c.args.feed.now
          c.requires.begins;
      counted = refl;
      untouched = refl;
      room = c.requires.room;
      same_room = refl;
    }

pub returns-in_err-read_into-clause-faulty : goal.returns-in_err-read_into-clause-faulty
returns-in_err-read_into-clause-faulty g c is =
    let before = g.R.Source.remaining c.loop-outcome.reader in
    let after = g.R.Source.remaining c.read_into.new.reader in
    let given = g.R.Source.remaining c.args.reader.now in
    let f = c.loop-outcome.feed in
    let s = c.args.feed.now.set in
    let form = c.args.feed.now.form in
    let i = c.loop-outcome.invariant in
    let fault = same_fault c.from_residual.result c.in_err-read_into.field-0.0 FaultyTables c.from_residual.ensures.1 is
    in
    let read = subst (λ e. IsReadInto (length c.loop-outcome.room) f before after c.read_into.new.feed (Err e)) fault
    c.in_err-read_into.ensures.is_read in
    at_fault form s given before after f i.so_far read.0 read.1.consumed read.2

pub loop-outcome-preserved : goal.loop-outcome-preserved
loop-outcome-preserved g c =
    let before = g.R.Source.remaining c.loop-outcome.reader in
    let after = g.R.Source.remaining c.read_into.new.reader in
    let given = g.R.Source.remaining c.args.reader.now in
    let f = c.loop-outcome.feed in
    let s = c.args.feed.now.set in
    let form = c.args.feed.now.form in
    let i = c.loop-outcome.invariant in
    let read = subst (λ o. IsReadInto (length c.loop-outcome.room) f before after c.read_into.new.feed (Ok o))
    (c.in-Some-More.is ∙ ap Some c.in-Some-More.field-0-is) c.in_ok-read_into.ensures.is_read in record {
      so_far = goes_on form s given before after f i.so_far c.read_into.new.feed read.0 read.1.consumed read.3;
      counted = c.in_ok-read_into.ensures.held
          (λ z. let off : Ok c.in_ok-read_into.field-0 ≡ Err Read = z in cc) ∙ i.counted;
      untouched = i.untouched;
      room = subst (λ n. 0 < n) (sym c.read_into.ensures.room) i.room;
      same_room = c.read_into.ensures.room ∙ i.same_room;
    }

pub returns-in_err-write_whole-in-Some-Settled-clause-beginning :
    goal.returns-in_err-write_whole-in-Some-Settled-clause-beginning
returns-in_err-write_whole-in-Some-Settled-clause-beginning g c written is =
    let before = g.R.Source.remaining c.loop-outcome.reader in
    let after = g.R.Source.remaining c.read_into.new.reader in
    let given = g.R.Source.remaining c.args.reader.now in
    let f = c.loop-outcome.feed in
    let s = c.args.feed.now.set in
    let form = c.args.feed.now.form in
    let i = c.loop-outcome.invariant in
    let read = subst (λ o. IsReadInto (length c.loop-outcome.room) f before after c.read_into.new.feed (Ok o))
    (c.in-Some-Settled.is ∙ ap Some c.in-Some-Settled.field-0-is) c.in_ok-read_into.ensures.is_read in
    let answer = c.in-Some-Settled.answer.items in
    let text = settles form s given before after f i.so_far c.in-Some-Settled.outcome answer read.0 read.1.consumed
    read.2 in
    let failed = c.in_err-write_whole-in-Some-Settled in
    let count = failed.field-0.0.written in
    let same = same_count count written (same_fault c.from_residual-in_err-write_whole-in-Some-Settled.result
    (Write count) (Write written) c.from_residual-in_err-write_whole-in-Some-Settled.ensures.1 is) in
    let cut = cut_short (g.W.Sink.contents c.args.writer.now) (g.W.Sink.contents c.write_whole.new.writer) count written
    _ answer same c.deref.ensures.value failed.ensures.within
    (subst (λ w. Appends (g.W.Sink.contents w) (g.W.Sink.contents c.write_whole.new.writer)
    (take count c.deref.result.now)) i.untouched failed.ensures.partial) in
    (text.0, answer, c.in-Some-Settled.outcome, text.1, text.2, cut.within, cut.went_out)

pub returns-in-Some-Settled-clause-answered : goal.returns-in-Some-Settled-clause-answered
returns-in-Some-Settled-clause-answered g c =
    let before = g.R.Source.remaining c.loop-outcome.reader in
    let after = g.R.Source.remaining c.read_into.new.reader in
    let given = g.R.Source.remaining c.args.reader.now in
    let f = c.loop-outcome.feed in
    let s = c.args.feed.now.set in
    let form = c.args.feed.now.form in
    let i = c.loop-outcome.invariant in
    let read = subst (λ o. IsReadInto (length c.loop-outcome.room) f before after c.read_into.new.feed (Ok o))
    (c.in-Some-Settled.is ∙ ap Some c.in-Some-Settled.field-0-is) c.in_ok-read_into.ensures.is_read in
    let answer = c.in-Some-Settled.answer.items in
    let text = settles form s given before after f i.so_far c.in-Some-Settled.outcome answer read.0 read.1.consumed
    read.2 in (
      text.0,
      answer,
      text.1,
      text.2,
      subst (Appends (g.W.Sink.contents c.args.writer.now) (g.W.Sink.contents c.write_whole.new.writer))
          c.deref.ensures.value
          (subst (λ w. Appends (g.W.Sink.contents w) (g.W.Sink.contents c.write_whole.new.writer) c.deref.result.now)
          i.untouched c.in_ok-write_whole-in-Some-Settled.ensures.ok),
    )

pub returns-in-None-clause-answered : goal.returns-in-None-clause-answered
returns-in-None-clause-answered g c =
    let before = g.R.Source.remaining c.loop-outcome.reader in
    let after = g.R.Source.remaining c.read_into.new.reader in
    let given = g.R.Source.remaining c.args.reader.now in
    let f = c.loop-outcome.feed in
    let s = c.args.feed.now.set in
    let form = c.args.feed.now.form in
    let i = c.loop-outcome.invariant in
    let read = subst (λ o. IsReadInto (length c.loop-outcome.room) f before after c.read_into.new.feed (Ok o))
    c.in-None.is c.in_ok-read_into.ensures.is_read in
    answered form s given before after f i.so_far c.read_into.new.feed (g.W.Sink.contents c.args.writer.now)
    (g.W.Sink.contents c.finish_into.new.writer) c.finish_into.result read.2 read.1 read.0
    (subst (λ w. IfOk c.finish_into.result (λ o. (answer : List ℕ) × IsAnswerOf c.read_into.new.feed o answer
    × Appends (g.W.Sink.contents w) (g.W.Sink.contents c.finish_into.new.writer) answer)) i.untouched
    c.finish_into.ensures.answered)

pub returns-in-None-clause-beginning : goal.returns-in-None-clause-beginning
returns-in-None-clause-beginning g c written is =
    let before = g.R.Source.remaining c.loop-outcome.reader in
    let after = g.R.Source.remaining c.read_into.new.reader in
    let given = g.R.Source.remaining c.args.reader.now in
    let f = c.loop-outcome.feed in
    let s = c.args.feed.now.set in
    let form = c.args.feed.now.form in
    let i = c.loop-outcome.invariant in
    let read = subst (λ o. IsReadInto (length c.loop-outcome.room) f before after c.read_into.new.feed (Ok o))
    c.in-None.is c.in_ok-read_into.ensures.is_read in
    let begun = c.finish_into.ensures.beginning written is in
    let text = ended_so form s given before after f i.so_far c.read_into.new.feed begun.1 begun.0 read.2 read.1 read.0
    begun.2 in
    let cut = subst (λ w. IsCutShort (g.W.Sink.contents w) (g.W.Sink.contents c.finish_into.new.writer) written begun.0)
    i.untouched begun.3 in
    (text.0, begun.0, begun.1, text.1, text.2, cut.within, cut.went_out)

pub returns-in-None-clause-faulty : goal.returns-in-None-clause-faulty
returns-in-None-clause-faulty g c is =
    let before = g.R.Source.remaining c.loop-outcome.reader in
    let after = g.R.Source.remaining c.read_into.new.reader in
    let given = g.R.Source.remaining c.args.reader.now in
    let f = c.loop-outcome.feed in
    let s = c.args.feed.now.set in
    let form = c.args.feed.now.form in
    let i = c.loop-outcome.invariant in
    let read = subst (λ o. IsReadInto (length c.loop-outcome.room) f before after c.read_into.new.feed (Ok o))
    c.in-None.is c.in_ok-read_into.ensures.is_read in
    ends form s given before after f i.so_far faulty read.1 read.0
    (subst (λ x. IsRestOf x [] faulty) read.2 (c.finish_into.ensures.faulty is))

pub returns-in_err-read_into-clause-needed : goal.returns-in_err-read_into-clause-needed
returns-in_err-read_into-clause-needed g c not =
    let before = g.R.Source.remaining c.loop-outcome.reader in
    let after = g.R.Source.remaining c.read_into.new.reader in
    let given = g.R.Source.remaining c.args.reader.now in
    let f = c.loop-outcome.feed in
    let s = c.args.feed.now.set in
    let form = c.args.feed.now.form in
    let i = c.loop-outcome.invariant in
    let most = length c.args.room.now in
    let room = length c.loop-outcome.room in
    let fault = c.in_err-read_into.field-0.0 in
    let piece = given_by room f c.read_into.new.feed before after fault c.in_err-read_into.ensures.is_read
    (other_fault c.from_residual.result fault Read c.from_residual.ensures.1 not) in
    as_needed form s given before after f i.so_far most room piece.0 i.same_room piece.1

pub returns-in_err-write_whole-in-Some-Settled-clause-needed :
    goal.returns-in_err-write_whole-in-Some-Settled-clause-needed
returns-in_err-write_whole-in-Some-Settled-clause-needed g c not =
    let before = g.R.Source.remaining c.loop-outcome.reader in
    let after = g.R.Source.remaining c.read_into.new.reader in
    let given = g.R.Source.remaining c.args.reader.now in
    let f = c.loop-outcome.feed in
    let s = c.args.feed.now.set in
    let form = c.args.feed.now.form in
    let i = c.loop-outcome.invariant in
    let most = length c.args.room.now in
    let room = length c.loop-outcome.room in
    let read = subst (λ o. IsReadInto room f before after c.read_into.new.feed (Ok o))
    (c.in-Some-Settled.is ∙ ap Some c.in-Some-Settled.field-0-is) c.in_ok-read_into.ensures.is_read in
    as_needed form s given before after f i.so_far most room read.0 i.same_room read.1

pub returns-in-Some-Settled-clause-needed : goal.returns-in-Some-Settled-clause-needed
returns-in-Some-Settled-clause-needed g c not =
    let before = g.R.Source.remaining c.loop-outcome.reader in
    let after = g.R.Source.remaining c.read_into.new.reader in
    let given = g.R.Source.remaining c.args.reader.now in
    let f = c.loop-outcome.feed in
    let s = c.args.feed.now.set in
    let form = c.args.feed.now.form in
    let i = c.loop-outcome.invariant in
    let most = length c.args.room.now in
    let room = length c.loop-outcome.room in
    let read = subst (λ o. IsReadInto room f before after c.read_into.new.feed (Ok o))
    (c.in-Some-Settled.is ∙ ap Some c.in-Some-Settled.field-0-is) c.in_ok-read_into.ensures.is_read in
    as_needed form s given before after f i.so_far most room read.0 i.same_room read.1

pub returns-in-None-clause-needed : goal.returns-in-None-clause-needed
returns-in-None-clause-needed g c not =
    let before = g.R.Source.remaining c.loop-outcome.reader in
    let after = g.R.Source.remaining c.read_into.new.reader in
    let given = g.R.Source.remaining c.args.reader.now in
    let f = c.loop-outcome.feed in
    let s = c.args.feed.now.set in
    let form = c.args.feed.now.form in
    let i = c.loop-outcome.invariant in
    let most = length c.args.room.now in
    let room = length c.loop-outcome.room in
    let read = subst (λ o. IsReadInto room f before after c.read_into.new.feed (Ok o)) c.in-None.is
    c.in_ok-read_into.ensures.is_read in
    ended_as_needed form s given before after f i.so_far most read.1

pub returns-in_err-read_into-clause-asked : goal.returns-in_err-read_into-clause-asked
returns-in_err-read_into-clause-asked g c is =
    let before = g.R.Source.remaining c.loop-outcome.reader in
    let after = g.R.Source.remaining c.read_into.new.reader in
    let given = g.R.Source.remaining c.args.reader.now in
    let f = c.loop-outcome.feed in
    let s = c.args.feed.now.set in
    let form = c.args.feed.now.form in
    let i = c.loop-outcome.invariant in
    let fault = same_fault c.from_residual.result c.in_err-read_into.field-0.0 Read c.from_residual.ensures.1 is in
    asked_for form s given before after f i.so_far
    (subst (λ e. IsReadInto (length c.loop-outcome.room) f before after c.read_into.new.feed (Err e)) fault
    c.in_err-read_into.ensures.is_read)
