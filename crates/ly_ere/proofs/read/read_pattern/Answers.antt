use Rattle.std.proofs.Common.{arith}
use Rattle.std.proofs.lemmas.Result.{IfErr-weaker, IfOk-weaker}
use Rattle.ly_ere.specs.Private.Sides.{sides_read}
use Rattle.ly_ere.proofs.RefusalLemmas.{no_text, no_whole_text, text_judged, text_pattern}
use Rattle.ly_ere.proofs.SoundLemmas.{sides_sound}
use Rattle.ly_ere.proofs.read.read_pattern.Goals as goal

pub returns-in-Err-clause-refused : goal.returns-in-Err-clause-refused
returns-in-Err-clause-refused c =
    rw c.in_text.ensures (no_text _ c.args.names.now c.args.text.now _ c.in-Err.ensures.refused)

pub returns-then-length-text-clause-refused : goal.returns-then-length-text-clause-refused
returns-then-length-text-clause-refused c
    = no_whole_text _ c.args.names.now c.args.text.now (sides_read c.in-Ok.found.0) c.in-Ok.found.1
    c.in-Ok.ensures.ok (omega arith)

pub with_cut-requires : goal.with_cut-requires
with_cut-requires c = sides_sound c.args.names.now _ (sides_read c.in-Ok.found.0) c.in-Ok.ensures.ok.sides

pub returns-clause-ok : goal.returns-clause-ok
returns-clause-ok c
    = IfOk-weaker c.with_cut.result _ _
    (λ p is. text_pattern c.args.limits.now.pattern_weight c.args.names.now c.args.text.now
    (sides_read c.in-Ok.found.0) c.in-Ok.found.1 c.in-Ok.ensures.ok (omega arith) p is)
    c.with_cut.ensures.ok

pub returns-clause-refused : goal.returns-clause-refused
returns-clause-refused c = IfErr-weaker c.with_cut.result _ _
    (λ fault. text_judged _ c.args.names.now c.args.text.now (sides_read c.in-Ok.found.0) c.in-Ok.found.1
    c.in-Ok.ensures.ok (omega arith) fault) c.with_cut.ensures.refused
