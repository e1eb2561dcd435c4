use Rattle.std.proofs.Common.{◌∙◌, ◌+◌, ◌<◌, [], ◌∷◌, ◌++◌, MatchBool, All, ap, arith, map}
use Rattle.std.proofs.Common.{subst, sym}
use Rattle.ly_pack.specs.Machine.{states_of}
use Rattle.ly_pack.specs.SteadyLaws.{IsStack}
use Rattle.ly_parse.specs.Private.Copied.{states_in}
use Rattle.ly_parse.specs.Expected.{IsExpected}
use Rattle.ly_parse.proofs.ExpectedListLemmas.{AreBelow, all_below, none_below, with_it, without_it}
use Rattle.ly_parse.specs.Private.LastRun.{IsLast}
use Rattle.ly_parse.proofs.LastRunLemmas.{none_last}
use Rattle.ly_parse.proofs.listing.expected.Goals as goal
use Rattle.ly_parse.proofs.listing.expected.Goals.{then-branch+in_ok-push, else-branch}
use Rattle.std.proofs.lemmas.List.{map_push}

pub is_expected-requires-clause-states : goal.is_expected-requires-clause-states
is_expected-requires-clause-states g c = subst (All (λ s. s < states_of c.args.machine.now)) (sym
    c.loop-number.invariant.whole) c.requires.states

pub is_expected-requires-clause-stack : goal.is_expected-requires-clause-stack
is_expected-requires-clause-stack g c = subst (IsStack c.args.machine.now) (sym c.loop-number.invariant.whole)
    c.requires.stack

pub is_expected-requires-clause-last : goal.is_expected-requires-clause-last
is_expected-requires-clause-last g c = subst (λ w. IsLast c.args.machine.now w c.loop-number.last) (sym
    c.loop-number.invariant.whole) c.loop-number.invariant.last

pub loop-number-init : goal.loop-number-init
loop-number-init g c =
    let m = c.args.machine.now in
    let stack = states_in c.args.stack.now in
    record {
      whole = ap (λ x. x.whole) c.new-copied.ensures;
      last = none_last m stack _ c.in_ok-last.ensures.none (c.in_ok-last.ensures.room ∙ c.states.ensures.count);
      listed = none_below m stack _ (ap (map (λ t. t.0)) c.new-list.ensures.items);
    }

pub loop-number-preserved : goal.loop-number-preserved
loop-number-preserved g c =
    let m = c.args.machine.now in
    let n = c.loop-number.number in
    let st = states_in c.args.stack.now in
    let was = c.loop-number.invariant in
    let told = subst (λ w. MatchBool c.in_ok-is_expected.field-0 (IsExpected m n w) (IsExpected m n w → ⊥)) was.whole
    (subst (λ k. MatchBool c.in_ok-is_expected.field-0 (IsExpected m k c.loop-number.copied.whole)
    (IsExpected m k c.loop-number.copied.whole → ⊥)) c.in-Ok.ensures.1 c.in_ok-is_expected.ensures.expected) in
    record {
      whole = c.in_ok-is_expected.ensures.whole ∙ was.whole;
      last = subst (λ w. IsLast m w c.is_expected.new.self) was.whole c.in_ok-is_expected.ensures.last;
      listed = elim c.if-branch.branch [
        | then-branch+in_ok-push w ↦
            subst (AreBelow m st (n + 1))
            (sym (ap (λ (l : _). map (λ t. t.0) l.items) w.list-is ∙ (ap (map (λ t. t.0)) w.in_ok-push.ensures.items
            ∙ (map_push (λ t. t.0) c.loop-number.list.items _
            ∙ ap (λ k. map (λ t. t.0) c.loop-number.list.items ++ k ∷ []) c.in-Ok.ensures.1))))
            (with_it m st n _ was.listed (subst (λ b. MatchBool b (IsExpected m n st) (IsExpected m n st
            → ⊥)) w.if-branch.true told))
        | else-branch w ↦
            subst (AreBelow m st (n + 1)) (sym (ap (λ (l : _). map (λ t. t.0) l.items) w.list-is))
            (without_it m st n _ was.listed (subst (λ b. MatchBool b (IsExpected m n st) (IsExpected m n st
            → ⊥)) w.if-branch.false told))
      ];
    }

pub returns : goal.returns
returns g c = all_below c.args.machine.now (states_in c.args.stack.now) c.loop-number.number _
    (omega arith) c.loop-number.invariant.listed
