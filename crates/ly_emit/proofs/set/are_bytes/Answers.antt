use Rattle.std.proofs.Common.{◌<◌}
use Rattle.std.proofs.lemmas.List.Elements.{All-from_get_or}
use Rattle.ly_emit.proofs.set.are_bytes.Goals as goal

pub returns : goal.returns
returns c = All-from_get_or (λ byte. byte < 256) c.args.name.now 0 (λ k lt. (c.type_inv.name k).fits)
