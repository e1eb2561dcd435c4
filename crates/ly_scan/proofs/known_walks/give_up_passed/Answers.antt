use Rattle.std.proofs.Common.{rules}
use Rattle.std.proofs.lemmas.Map.Made.{filter_same_pairs}
use Rattle.std.specs.Prelude.{nat_le}
use Rattle.ly_scan.proofs.KnownWalkLemmas.{known_less}
use Rattle.ly_scan.proofs.known_walks.give_up_passed.Goals as goal

pub returns : goal.returns
returns c = λ ahead ended text known.
    known_less ahead ended text (λ s. nat_le s.1 c.args.left) c.args.found.now.entries c.retain.new.self.entries
    (filter_same_pairs _ (λ e. nat_le e.0.1 c.args.left) _ (λ k v b w f t. search rules) _ _ c.retain.ensures.filtered)
    known
