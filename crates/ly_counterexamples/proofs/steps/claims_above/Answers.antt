use Rattle.std.proofs.Common.{◌∙◌, ◌↔◌, ◌⊎◌, ap, subst, sym, Contains}
use Rattle.std.proofs.lemmas.Bool.{iff_false}
use Rattle.ly_counterexamples.specs.Demands.{ClimbsTo}
use Rattle.ly_counterexamples.specs.declared.claim.Claim.{Claim}
use Rattle.ly_counterexamples.specs.declared.claim.Claim.TheVariants.{InCore, Settled, With}
use Rattle.ly_counterexamples.specs.Private.Met.{item_at}
use Rattle.ly_counterexamples.proofs.BackLemmas.{only_none, only_one, only_those}
use Rattle.ly_counterexamples.proofs.ClaimLemmas.{climb_anywhere, climb_core, climb_far, climb_not_begun, climb_settled}
use Rattle.ly_counterexamples.proofs.steps.claims_above.Goals as goal
use Rattle.ly_counterexamples.proofs.steps.claims_above.Goals.{in-Settled, in-With+in_ok-push_claims-in-With}
use Rattle.ly_counterexamples.proofs.steps.claims_above.Goals.{in-With+else-item-eq0, in-InCore+in_ok-push-in-InCore}
use Rattle.ly_counterexamples.proofs.steps.claims_above.Goals.{in-InCore+then-item-eq0-2+else-is_begun}
use Rattle.ly_counterexamples.proofs.steps.claims_above.Goals.{in-InCore+else-item-eq0-2}

pub returns : goal.returns
returns c =
    let M = c.args.ground.now.lr0.now in
    let t = c.args.terminal.0 in
    let s = c.args.state.0 in
    let old = c.new-claims.result.items in
    let new = c.match-claim.claims.items in
    let empty = c.new-claims.ensures.items in
    elim c.match-claim.branch [
      | in-Settled w ↦ subst (λ x. (e : Claim) → Contains new e ↔ ClimbsTo M t s x e) (sym w.in-Settled.is)
          (only_none (ClimbsTo M t s Settled) old new empty (ap (λ v. v.items) w.claims-is) (climb_settled M t s))
      | in-With+in_ok-push_claims-in-With w ↦
          let i = w.in-With.item in
          subst (λ x. (e : Claim) → Contains new e ↔ ClimbsTo M t s x e) (sym w.in-With.is)
          (only_those (ClimbsTo M t s (With i)) old new empty (ClimbsTo M t 0 (With (item_at i.rule 0)))
          (subst (λ v. (e : Claim) → Contains v.items e
          ↔ (Contains old e ⊎ ClimbsTo M t 0 (With (item_at i.rule 0)) e)) (sym w.claims-is)
          w.in_ok-push_claims-in-With.ensures)
          (climb_anywhere M t s i w.if-item-eq0.true))
      | in-With+else-item-eq0 w ↦
          let i = w.in-With.item in
          subst (λ x. (e : Claim) → Contains new e ↔ ClimbsTo M t s x e) (sym w.in-With.is)
          (only_none (ClimbsTo M t s (With i)) old new empty (ap (λ v. v.items) w.claims-is)
          (climb_far M t s i w.if-item-eq0.false))
      | in-InCore+in_ok-push-in-InCore w ↦
          let i = w.in-InCore.item in
          subst (λ x. (e : Claim) → Contains new e ↔ ClimbsTo M t s x e) (sym w.in-InCore.is)
          (only_one (ClimbsTo M t s (InCore i)) old new empty Settled
          (ap (λ v. v.items) w.claims-is ∙ w.in_ok-push-in-InCore.ensures.items)
          (climb_core M t s i w.if-item-eq0-2.true (w.is_begun.ensures.0 w.if-is_begun.true)))
      | in-InCore+then-item-eq0-2+else-is_begun w ↦
          let i = w.in-InCore.item in
          subst (λ x. (e : Claim) → Contains new e ↔ ClimbsTo M t s x e) (sym w.in-InCore.is)
          (only_none (ClimbsTo M t s (InCore i)) old new empty (ap (λ v. v.items) w.claims-is)
          (climb_not_begun M t s i (λ dot. iff_false w.is_begun.ensures w.if-is_begun.false)))
      | in-InCore+else-item-eq0-2 w ↦
          let i = w.in-InCore.item in
          subst (λ x. (e : Claim) → Contains new e ↔ ClimbsTo M t s x e) (sym w.in-InCore.is)
          (only_none (ClimbsTo M t s (InCore i)) old new empty (ap (λ v. v.items) w.claims-is)
          (climb_not_begun M t s i (λ dot begun. w.if-item-eq0-2.false dot)))
    ]
