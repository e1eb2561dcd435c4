use Rattle.std.proofs.Common.{◌≡◌, ◌∙◌, ◌↔◌, Some, option_map, ap, sym, subst}
use Rattle.ly_join.specs.Grammar.{symbol_of}
use Rattle.ly_counterexamples.specs.Demands.{PopsTo}
use Rattle.ly_counterexamples.specs.declared.claim.Claim.TheVariants.{InCore, With}
use Rattle.ly_counterexamples.proofs.BackLemmas.{popped_core, popped_with}
use Rattle.ly_counterexamples.proofs.steps.popped.Goals as goal

pub returns-in_err-before-in-InCore : goal.returns-in_err-before-in-InCore
returns-in_err-before-in-InCore c claim =
    let G = c.args.ground.now.lr0.now.grammar in
    let X = symbol_of c.args.symbol in
    let none : option_map (λ j. InCore j) c.before-in-InCore.result ≡ c.from_residual.result
    = ap (option_map (λ j. InCore j)) (c.in_err-before-in-InCore.was) ∙ sym c.from_residual.ensures in
    subst (λ d. PopsTo G X d claim ↔ (c.from_residual.result ≡ Some claim)) (sym c.in-InCore.is)
    (subst (λ o. PopsTo G X (InCore c.in-InCore.item) claim ↔ (o ≡ Some claim)) none
    (popped_core G X c.in-InCore.item c.before-in-InCore.result c.before-in-InCore.ensures claim))

pub returns-in_ok-before-in-InCore : goal.returns-in_ok-before-in-InCore
returns-in_ok-before-in-InCore c claim =
    let G = c.args.ground.now.lr0.now.grammar in
    let X = symbol_of c.args.symbol in
    let one : option_map (λ j. InCore j) c.before-in-InCore.result ≡ Some (InCore c.in_ok-before-in-InCore.field-0)
    = ap (option_map (λ j. InCore j)) (c.in_ok-before-in-InCore.was) in
    subst (λ d. PopsTo G X d claim ↔ (Some (InCore c.in_ok-before-in-InCore.field-0) ≡ Some claim)) (sym c.in-InCore.is)
    (subst (λ o. PopsTo G X (InCore c.in-InCore.item) claim ↔ (o ≡ Some claim)) one
    (popped_core G X c.in-InCore.item c.before-in-InCore.result c.before-in-InCore.ensures claim))

pub returns-in_err-before-in-With : goal.returns-in_err-before-in-With
returns-in_err-before-in-With c claim =
    let G = c.args.ground.now.lr0.now.grammar in
    let X = symbol_of c.args.symbol in
    let none : option_map (λ j. With j) c.before-in-With.result ≡ c.from_residual-in_err-before-in-With.result
    = ap (option_map (λ j. With j)) (c.in_err-before-in-With.was) ∙ sym c.from_residual-in_err-before-in-With.ensures in
    subst (λ d. PopsTo G X d claim ↔ (c.from_residual-in_err-before-in-With.result ≡ Some claim)) (sym c.in-With.is)
    (subst (λ o. PopsTo G X (With c.in-With.item) claim ↔ (o ≡ Some claim)) none
    (popped_with G X c.in-With.item c.before-in-With.result c.before-in-With.ensures claim))

pub returns-in_ok-before-in-With : goal.returns-in_ok-before-in-With
returns-in_ok-before-in-With c claim =
    let G = c.args.ground.now.lr0.now.grammar in
    let X = symbol_of c.args.symbol in
    let one : option_map (λ j. With j) c.before-in-With.result ≡ Some (With c.in_ok-before-in-With.field-0)
    = ap (option_map (λ j. With j)) (c.in_ok-before-in-With.was) in
    subst (λ d. PopsTo G X d claim ↔ (Some (With c.in_ok-before-in-With.field-0) ≡ Some claim)) (sym c.in-With.is)
    (subst (λ o. PopsTo G X (With c.in-With.item) claim ↔ (o ≡ Some claim)) one
    (popped_with G X c.in-With.item c.before-in-With.result c.before-in-With.ensures claim))
