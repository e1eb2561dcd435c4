use Rattle.ly_places.proofs.TokenLemmas.{says_the_same}
use Rattle.ly_places.proofs.laws.tokens_say_what_their_text_says.Goals as goal

pub returns : goal.returns
returns c = says_the_same
