use Rattle.std.proofs.Common.{◌∙◌, sym}
use Rattle.ly_tables.proofs.laws.a_set_has_one_spelling.Goals as goal

pub returns : goal.returns
returns c = λ a b v s x y. x.1 ∙ sym y.1
