use Rattle.std.proofs.Common.{refl}
use Rattle.ly_repair.specs.Private.Stacks.{stack_of}
use Rattle.ly_repair.specs.Private.Text.{after}
use Rattle.ly_repair.proofs.TextLemmas.{whole_is}
use Rattle.ly_repair.proofs.text.Text.is_whole.Goals as goal

pub returns-clause-whole : goal.returns-clause-whole
returns-clause-whole g c =
    let x = c.args.self.now in
    whole_is x.machine (after x c.args.place.taken) (stack_of c.args.runs.now.stacks c.args.place.stack.0)
    c.args.place.taken c.in_ok-far.far _ c.in_ok-far.ensures.far refl
