use Rattle.std.proofs.Common.{map}
use Rattle.ly_position.specs.Private.Program.{step_of}
use Rattle.ly_position.proofs.RunLemmas.{all_exist}
use Rattle.ly_position.proofs.build.assemble.Goals as goal

pub of-requires : goal.of-requires
of-requires c =
    let l = c.in_ok-linked.linked in
    let linked = rw c.deref.ensures.value at c.in_ok-linked.ensures in
    all_exist (map step_of c.args.program.now.instructions.items) l.targets.items l.slots.items l.forks.items
    c.in_ok-starts.starts c.requires.closed linked c.args.rules.now c.args.program.now.entries.items c.args.conditions
    c.in_ok-starts.ensures

pub returns : goal.returns
returns c =
    let l = c.in_ok-linked.linked in
    record {
      targets = l.targets.items;
      slots = l.slots.items;
      forks = l.forks.items;
      starts = c.in_ok-starts.starts;
      is = c.of.ensures;
      linked = rw c.deref.ensures.value at c.in_ok-linked.ensures;
      begins = c.in_ok-starts.ensures;
    }
