use Rattle.std.proofs.Common.{arith}
use Rattle.ly_base.specs.ByteSet.{members}
use Rattle.ly_ere.specs.Lengths.{far}
use Rattle.ly_ere.proofs.LengthLemmas.{empty_lengths, set_lengths}
use Rattle.ly_ere.proofs.MeasureLemmas.{concat_measured, either_measured, optional_measured}
use Rattle.ly_ere.proofs.MeasureLemmas.{plus_measured, repeat_measured, star_measured}
use Rattle.ly_ere.proofs.length.lengths_at.Goals as goal

pub returns-in-Set-clause-lengths : goal.returns-in-Set-clause-lengths
returns-in-Set-clause-lengths c = rw c.in-Set.is
    (λ names done named m count sound. set_lengths far (members c.in-Set.field-0) sound (omega arith))

pub returns-in-Empty-clause-lengths : goal.returns-in-Empty-clause-lengths
returns-in-Empty-clause-lengths c = rw c.in-Empty.is (λ names done named m count sound. empty_lengths far)

pub returns-in-Concat-clause-lengths : goal.returns-in-Concat-clause-lengths
returns-in-Concat-clause-lengths c = let fits = rw c.in-Concat.is at c.requires.fits in rw c.in-Concat.is
    (λ names done named m count sound. concat_measured names done c.args.lengths.now m count c.in-Concat.a c.in-Concat.b
    fits c.then.result sound c.then.ensures)

pub returns-in-Either-clause-lengths : goal.returns-in-Either-clause-lengths
returns-in-Either-clause-lengths c = let fits = rw c.in-Either.is at c.requires.fits in rw c.in-Either.is
    (λ names done named m count sound. either_measured names done c.args.lengths.now m count c.in-Either.a c.in-Either.b
    fits c.either.result sound c.either.ensures)

pub returns-in-Star-clause-lengths : goal.returns-in-Star-clause-lengths
returns-in-Star-clause-lengths c = let fits = rw c.in-Star.is at c.requires.fits in rw c.in-Star.is
    (λ names done named m count sound. star_measured names done c.args.lengths.now m count c.in-Star.a fits
    c.repeated.result sound c.repeated.ensures)

pub returns-in-Plus-clause-lengths : goal.returns-in-Plus-clause-lengths
returns-in-Plus-clause-lengths c = let fits = rw c.in-Plus.is at c.requires.fits in rw c.in-Plus.is
    (λ names done named m count sound. plus_measured names done c.args.lengths.now m count c.in-Plus.a fits
    c.repeated-in-Plus.result sound c.repeated-in-Plus.ensures)

pub returns-in-Optional-clause-lengths : goal.returns-in-Optional-clause-lengths
returns-in-Optional-clause-lengths c = let fits = rw c.in-Optional.is at c.requires.fits in rw c.in-Optional.is
    (λ names done named m count sound. optional_measured names done c.args.lengths.now m count c.in-Optional.a fits
    c.optional.result sound c.optional.ensures)

pub returns-in-Repeat-clause-near : goal.returns-in-Repeat-clause-near
returns-in-Repeat-clause-near c = c.repeated-in-Repeat.ensures.near

pub returns-in-Repeat-clause-lengths : goal.returns-in-Repeat-clause-lengths
returns-in-Repeat-clause-lengths c = let fits = rw c.in-Repeat.is at c.requires.fits in rw c.in-Repeat.is
    (λ names done named m count sound. repeat_measured names done c.args.lengths.now m count c.in-Repeat.part fits
    c.repeated-in-Repeat.result c.in-Repeat.least c.in-Repeat.most sound c.repeated-in-Repeat.ensures)
