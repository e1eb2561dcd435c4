use Rattle.std.proofs.lemmas.Result.{err_from_is_err_and}
use Rattle.ly_ere.specs.Private.Sides.{sides_read}
use Rattle.ly_ere.proofs.RefusalLemmas.{front_judged, front_pattern, no_front}
use Rattle.ly_ere.proofs.SoundLemmas.{sides_sound}
use Rattle.ly_ere.proofs.read.read_front.Goals as goal

pub returns-in-Err-clause-refused : goal.returns-in-Err-clause-refused
returns-in-Err-clause-refused c =
    rw c.in_text.ensures (no_front _ c.args.names.now c.args.line.now _ c.in-Err.ensures.refused)

pub with_cut-requires : goal.with_cut-requires
with_cut-requires c = sides_sound c.args.names.now _ (sides_read c.in-Ok.found.0) c.in-Ok.ensures.ok.sides

pub returns-in_err-pattern-clause-refused : goal.returns-in_err-pattern-clause-refused
returns-in_err-pattern-clause-refused c =
    let fault = err_from_is_err_and c.from_residual.result c.from_residual.ensures.1 in
    rw (fault.1, fault.2)
    (front_judged _ c.args.names.now c.args.line.now (sides_read c.in-Ok.found.0) c.in-Ok.found.1
    c.in-Ok.ensures.ok _ c.in_err-pattern.ensures.refused)

pub returns-clause-ok : goal.returns-clause-ok
returns-clause-ok c = front_pattern c.args.limits.now.pattern_weight c.args.names.now c.args.line.now
    (sides_read c.in-Ok.found.0) c.in-Ok.found.1 c.in-Ok.ensures.ok c.in_ok-pattern.pattern
    c.in_ok-pattern.ensures.ok.0 c.in_ok-pattern.ensures.ok.1
