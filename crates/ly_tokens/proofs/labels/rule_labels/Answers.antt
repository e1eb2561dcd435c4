use Rattle.std.proofs.Common.{◌≡◌, ap, arith, length, length-append, refl, subst, sym, take}
use Rattle.std.proofs.lemmas.List.{take_all}
use Rattle.ly_tokens.proofs.LabelLemmas.{AreNumbers, are_labels_of, literals_kept, numbers_next}
use Rattle.ly_tokens.specs.Private.Labels.{AreLiteralLabels}
use Rattle.ly_tokens.proofs.labels.rule_labels.Goals as goal

pub loop-action-preserved : goal.loop-action-preserved
loop-action-preserved c =
    let form = c.args.form in
    let now = c.loop-action in
    let added = c.in_ok-number.ensures.added in record {
      count = omega (arith, now.invariant.count, ap length added.1, length-append now.labels.items added.0);
      literals = subst (AreLiteralLabels form) (sym added.1)
          (literals_kept form now.labels.items added.0 now.invariant.literals);
      numbered = numbers_next form now.labels.items c.number_of.new.labels.items added.0 c.args.actions.now
          now.action-index now.rules.items _ c.action-item.result _ c.loop-action-test.true c.action-item.is added.1
          c.in_ok-push.ensures.items now.invariant.numbered c.in_ok-number.ensures.is refl;
      before = c.in_ok-number.ensures.is;
    }

pub returns : goal.returns
returns c =
    let now = c.loop-action in
    let all : take now.action-index c.args.actions.now ≡ c.args.actions.now
    = take_all now.action-index c.args.actions.now c.loop-action-test.false in
    are_labels_of c.args.form c.args.actions.now _ now.invariant.literals
    (subst (λ actions. AreNumbers c.args.form now.labels.items actions now.rules.items) all now.invariant.numbered)
