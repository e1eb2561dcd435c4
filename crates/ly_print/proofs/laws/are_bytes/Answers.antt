use Rattle.std.proofs.Common.{◌<◌}
use Rattle.std.proofs.lemmas.List.Elements.{All-from_get_or}
use Rattle.ly_print.proofs.laws.are_bytes.Goals as goal

pub returns : goal.returns
returns c = All-from_get_or (λ byte. byte < 256) c.args.bytes.now 0 (λ k lt. (c.type_inv.bytes k).fits)
