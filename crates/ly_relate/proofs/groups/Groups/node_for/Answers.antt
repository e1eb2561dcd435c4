use Rattle.std.proofs.Common.{◌<◌, arith, refl, subst}
use Rattle.std.specs.Prelude.{IfSome}
use Rattle.ly_relate.specs.Private.Groups.{solid_of}
use Rattle.ly_relate.proofs.NodeLemmas.{joined_beside, node_joined}
use Rattle.ly_relate.proofs.groups.Groups.node_for.Goals as goal

pub node_beside-requires : goal.node_beside-requires
node_beside-requires c =
    let lt : c.in-Some.leader < c.args.goto
    = subst (λ e. IfSome e (λ l. l < c.args.goto)) c.in-Some.is c.requires.earlier in
    let long = c.requires.before.long in
    omega (arith, lt, long)

pub returns-then-lead_alike-clause-after : goal.returns-then-lead_alike-clause-after
returns-then-lead_alike-clause-after c =
    let lt : c.in-Some.leader < c.args.goto
    = subst (λ e. IfSome e (λ l. l < c.args.goto)) c.in-Some.is c.requires.earlier in
    let few = c.requires.goto in
    (joined_beside c.args.gotos.now (solid_of c.args.rules.now) c.args.goto (omega (arith, few)) c.args.self.now
    c.node_beside.new.self c.in-Some.leader _ c.requires.before lt c.in_ok-node_beside.ensures).0

pub returns-then-lead_alike-clause-node : goal.returns-then-lead_alike-clause-node
returns-then-lead_alike-clause-node c =
    let n = c.args.gotos.now in
    let solid = solid_of c.args.rules.now in
    let lt : c.in-Some.leader < c.args.goto
    = subst (λ e. IfSome e (λ l. l < c.args.goto)) c.in-Some.is c.requires.earlier in
    let few = c.requires.goto in
    let joined = joined_beside n solid c.args.goto (omega (arith, few)) c.args.self.now c.node_beside.new.self
    c.in-Some.leader _ c.requires.before lt c.in_ok-node_beside.ensures in
    node_joined n solid c.args.goto (omega (arith, few)) c.node_beside.new.self c.in-Some.leader _
    (joined.1, joined.2, joined.3) (c.if-lead_alike.ensures refl)
