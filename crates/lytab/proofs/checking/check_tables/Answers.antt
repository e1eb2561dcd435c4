use Rattle.std.proofs.Common.{rules, string_bytes, subst}
use Rattle.lytab.specs.Devices.{WroteAllOrPrefix}
use Rattle.lytab.proofs.CarriedLemmas.{is_told}
use Rattle.lytab.proofs.checking.check_tables.Goals as goal

pub returns-clause-checked : goal.returns-clause-checked
returns-clause-checked g c =
    let before = g.W.Sink.contents c.args.output.now in
    let after = g.W.Sink.contents c.said.new.output in
    let is_said : WroteAllOrPrefix c.said.result before after (string_bytes c.in_ok-line.line) = search rules in
    is_told c.said.result before after (record {
      bytes = c.deref.result.now;
      read = rw c.deref.ensures.value c.in_ok-bytes.ensures.read;
      version = c.in_ok-counts.version;
      counts = c.in_ok-counts.counts;
      has = c.in_ok-counts.ensures.counted;
      line = subst (WroteAllOrPrefix c.said.result before after) c.in_ok-line.ensures is_said;
      done = c.said.ensures.completed;
    })
