use Rattle.std.proofs.Common.{ap, ◌∙◌, [], ◌∷◌}
use Rattle.std.proofs.lemmas.List.{map-append}
use Rattle.ly_counterexamples.specs.Private.Leftmost.{ahead_from, move_from, moves_from, next_of}
use Rattle.ly_counterexamples.proofs.SentenceLemmas.{kept_last, passed_more}
use Rattle.ly_counterexamples.proofs.moves.next_left.Goals as goal

pub loop-next-preserved : goal.loop-next-preserved
loop-next-preserved c =
    let (us, front, back) = c.loop-next.invariant in
    let kept = c.pop.new.self.items in
    passed_more (next_of c.args.ahead.now.items) (next_of c.loop-next.ahead.items) (next_of kept)
    (move_from c.in-Known.known) us (moves_from c.args.moves.now.items) (moves_from c.loop-next.moves.items)
    (moves_from c.push.new.self.items) front
    (ap next_of c.in-Some.ensures.items ∙ kept_last ahead_from kept c.in-Some.next
    ∙ ap (λ x. ahead_from x ∷ next_of kept) c.in-Known.is)
    back
    (ap moves_from c.in_ok-push-in-Known.ensures.items
    ∙ map-append move_from c.loop-next.moves.items (c.in-Known.known ∷ []))
