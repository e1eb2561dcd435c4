use Rattle.std.proofs.Common.{arith}
use Rattle.ly_base.specs.Language.{continues_name}
use Rattle.ly_base.proofs.NameLemmas.{prefix_len-le}
use Rattle.ly_base.proofs.names.name_length.Goals as goal

pub returns-in-Some-clause-within : goal.returns-in-Some-clause-within
returns-in-Some-clause-within c
    = omega (arith, c.continued_length.ensures, prefix_len-le (continues_name c.args.language) c.args.text.now)
