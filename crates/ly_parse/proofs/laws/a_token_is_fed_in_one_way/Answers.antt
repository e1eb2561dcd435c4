use Rattle.ly_parse.proofs.FedOnceLemmas.{fed_in_one_way}
use Rattle.ly_parse.proofs.laws.a_token_is_fed_in_one_way.Goals as goal

pub returns : goal.returns
returns c = fed_in_one_way
