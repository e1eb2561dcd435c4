use Rattle.ly_feed.proofs.OnwardLemmas.{alike}
use Rattle.ly_feed.proofs.laws.decided_matches_change_nothing.Goals as goal

pub returns : goal.returns
returns c ended p m w u on = alike ended p m c.a_token_is_fed_in_one_way.ensures on
