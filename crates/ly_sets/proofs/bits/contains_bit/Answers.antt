use Rattle.std.proofs.Common.{◌∙◌, ap, sym, ◌==◌, ◌+◌, ◌/◌, ◌%◌, get_or}
use Rattle.std.proofs.lemmas.Nat.Bits.{shr_and_one}
use Rattle.ly_sets.proofs.RowLemmas.{contains-row_set}
use Rattle.ly_sets.proofs.bits.contains_bit.Goals as goal

pub returns : goal.returns
returns c
    = ap (λ b. b == 1) (shr_and_one (get_or c.args.words.now (c.args.start + c.args.number / 64) 0)
    (c.args.number % 64))
    ∙ sym (contains-row_set c.args.words.now c.args.start c.args.len c.args.number c.requires.below)
