use Rattle.std.proofs.Common.{ℕ, subst}
use Rattle.std.specs.Prelude.{IfSome}
use Rattle.ly_position.specs.Nfa.{ReadsByte}
use Rattle.ly_subset.proofs.chains.last_reader.Goals as goal

pub returns-in-Some : goal.returns-in-Some
returns-in-Some c = λ p is_one. subst (λ b. (q : ℕ) → ReadsByte c.args.nfa.now q b → ⊥) c.if-none-byte.true
    (subst (λ o. IfSome o (λ b. (q : ℕ) → ReadsByte c.args.nfa.now q b → ⊥)) c.in-Some.is c.requires.unread) p
