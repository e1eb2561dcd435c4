use Rattle.std.specs.Int.{w32, to_be_bytes}
use Rattle.ly_tables.proofs.BeginningLemmas.{begun_as, begun_behind, begun_first, repeated_part, stopped}
use Rattle.ly_tables.proofs.ChainLemmas.{comb_part, some_entries, some_rows, some_slots}
use Rattle.ly_tables.specs.RawSet.{Fits}
use Rattle.ly_tables.specs.Spelling.{number}
use Rattle.ly_tables.specs.Ranges.{width_of}
use Rattle.ly_tables.proofs.comb_fields.read_comb.Goals as goal

pub returns-in_err-bases-clause-truncated : goal.returns-in_err-bases-clause-truncated
returns-in_err-bases-clause-truncated c =
    let w = width_of c.args.version in
    let error = c.in_err-bases in let handed = c.from_residual in
    stopped handed.result error.field-0.0 handed.ensures.1 error.ensures.truncated (λ begun. begun_as (comb_part
    w c.args.states) (begun_first (λ v fit. some_slots w) (begun_as (repeated_part (Fits w32) (to_be_bytes w32)
    c.args.states) begun)))

pub returns-in_err-slots-clause-truncated : goal.returns-in_err-slots-clause-truncated
returns-in_err-slots-clause-truncated c =
    let w = width_of c.args.version in
    let bases = c.in_ok-bases in let error = c.in_err-slots in let handed = c.from_residual-in_err-slots in
    stopped handed.result error.field-0.0 handed.ensures.1 error.ensures.truncated (λ begun. begun_as (comb_part
    w c.args.states) (begun_behind bases.bases.items _ ((bases.ensures.count, bases.ensures.fits), bases.ensures.ok)
    (begun_first (λ v fit. some_entries w v) begun)))

pub returns-in_err-entries-clause-truncated : goal.returns-in_err-entries-clause-truncated
returns-in_err-entries-clause-truncated c =
    let w = width_of c.args.version in
    let bases = c.in_ok-bases in let slots = c.in_ok-slots in let error = c.in_err-entries in let handed =
    c.from_residual-in_err-entries in
    stopped handed.result error.field-0.0 handed.ensures.1 error.ensures.truncated (λ begun. begun_as (comb_part
    w c.args.states) (begun_behind bases.bases.items _ ((bases.ensures.count, bases.ensures.fits), bases.ensures.ok)
    (begun_behind slots.slots _ slots.ensures.ok (begun_first (λ v fit. some_rows w slots.slots) (begun_as
    (repeated_part (Fits w) (number w) slots.slots) begun)))))

pub returns-in_err-rows-clause-truncated : goal.returns-in_err-rows-clause-truncated
returns-in_err-rows-clause-truncated c =
    let w = width_of c.args.version in
    let bases = c.in_ok-bases in let slots = c.in_ok-slots in let entries = c.in_ok-entries in let error =
    c.in_err-rows in let handed = c.from_residual-in_err-rows in
    stopped handed.result error.field-0.0 handed.ensures.1 error.ensures.truncated (λ begun. begun_as (comb_part
    w c.args.states) (begun_behind bases.bases.items _ ((bases.ensures.count, bases.ensures.fits), bases.ensures.ok)
    (begun_behind slots.slots _ slots.ensures.ok (begun_behind entries.entries.items _ (
      (
        entries.ensures.count,
        entries.ensures.fits,
      ),
      entries.ensures.ok,
    ) (begun_as (repeated_part (Fits w) (number w) slots.slots)
    begun)))))
