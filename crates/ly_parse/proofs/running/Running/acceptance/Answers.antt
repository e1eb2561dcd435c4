use Rattle.std.proofs.Common.{◌∙◌, ◌<◌, arith, length, sym}
use Rattle.std.proofs.lemmas.Bool.Decides.{nat_tests}
use Rattle.ly_parse.proofs.TakeLemmas.{accepts_some}
use Rattle.ly_parse.proofs.running.Running.acceptance.Goals as goal

pub returns : goal.returns
returns g c =
    let test = sym c.is_empty.ensures ∙ c.if-is_empty.false in
    let some : 0 < length c.self.inside.stack.items = grind (arith, nat_tests, test) in
    accepts_some c.self.inside.machine c.self.inside.forest c.self.inside.stack.items c.args.self.now
    c.self.inside.count c.self.inside.over c.self.view_is some
