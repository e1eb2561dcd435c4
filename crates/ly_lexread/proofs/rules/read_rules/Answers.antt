use Rattle.std.proofs.Common.{◌≡◌, ◌∙◌, ◌∷◌, ◌++◌, ◌-◌, ℕ, List, [], ap, arith, length, map, refl, subst, sym}
use Rattle.std.proofs.lemmas.List.{map-append}
use Rattle.std.proofs.lemmas.Result.{err_from_is_err_and}
use Rattle.ly_lexread.specs.Private.Statements.{saying_of}
use Rattle.ly_lexread.specs.Rules.{AreLight, Rules, here, rule}
use Rattle.ly_lexread.proofs.AnswerLemmas.{answer_fault, answer_memory, answer_ok, answer_up}
use Rattle.ly_lexread.proofs.RuleLemmas.{heavy_on, heavy_rule, in_front, light_push, over_of, rule_one, rule_shorter}
use Rattle.ly_lexread.proofs.RuleLemmas.{rules_back, rules_on, rules_over, rules_push, rules_whole}
use Rattle.ly_lexread.proofs.rules.read_rules.Goals as goal

-- where one more rule begins
started : (whole same n : ℕ) (starts more lefts : List ℕ) (start : ℕ) → same ≡ whole → start ≡ same - n
    → more ≡ starts ++ start ∷ [] → starts ≡ map (λ k. whole - k) lefts
    → more ≡ map (λ k. whole - k) (lefts ++ n ∷ [])
started whole same n starts more lefts start e f g h =
    g ∙ (ap (λ s. starts ++ s ∷ []) (f ∙ ap (λ k. k - n) e)
    ∙ (ap (λ s. s ++ (whole - n) ∷ []) h ∙ sym (map-append (λ k. whole - k) lefts (n ∷ []))))

pub loop-left-init : goal.loop-left-init
loop-left-init c =
    let cs = c.args.conditions.now in
    let names = c.args.names.now in
    let text = c.args.text.bytes.now in
    let left = c.in_ok-left.left.bytes.now in
    rw (c.new.ensures.items, c.new-2.ensures.items, c.new-3.ensures.items) (record {
      sound = ([], refl, λ rs ss ls d. rules_on cs names text left rs ss ls c.in_ok-left.ensures.ok d);
      complete = λ rs ss ls d. (
        rs,
        (ss, (ls, rules_back cs names text left rs ss ls c.in_ok-left.ensures.ok d, λ light. light)),
      );
      heavy = heavy_on c.args.limits.now.pattern_weight cs names text left c.in_ok-left.ensures.ok;
      light = tt;
      whole = c.in_ok-left.ensures.whole;
      settled = c.in_ok-left.ensures.settled;
    })

pub loop-left-preserved : goal.loop-left-preserved
loop-left-preserved c =
    let most = c.args.limits.now.pattern_weight in
    let cs = c.args.conditions.now in
    let names = c.args.names.now in
    let text = c.args.text.bytes.now in
    let left = c.loop-left.left.bytes.now in
    let behind = c.in_ok-rule.behind.bytes.now in
    let next = c.in_ok-left-2.left.bytes.now in
    let r = c.in_ok-rule.rule in
    let s = saying_of c.in_ok-rule.saying in
    let far = c.loop-left.invariant.sound in
    record {
      sound = (
        far.0 ++ length left ∷ [],
        started c.args.text.whole c.loop-left.left.whole (length left) c.loop-left.section.starts.items
            c.push.new.self.starts.items far.0 c.offset.result c.loop-left.invariant.whole c.offset.ensures
            c.in_ok-push.ensures.starts far.1,
        λ rs ss ls d. rules_push cs names text c.loop-left.section.rules.items c.push.new.self.rules.items rs
            (map saying_of c.loop-left.section.said.items) (map saying_of c.push.new.self.said.items) ss far.0 ls
            (length left) r s c.in_ok-push.ensures.rules
            (ap (map saying_of) c.in_ok-push.ensures.said
            ∙ map-append saying_of c.loop-left.section.said.items (c.in_ok-rule.saying ∷ []))
            (far.2 (r ∷ rs) (s ∷ ss) (length left ∷ ls) (rule left behind r s rs ss ls c.in_ok-rule.ensures.read.ok
            (rules_on cs names behind next rs ss ls c.in_ok-left-2.ensures.ok d))),
      );
      complete = λ rs ss ls d.
          let i = c.loop-left.invariant.complete rs ss ls d in
          let f = in_front cs names left i.0 i.1.0 i.1.1.0 c.loop-left-test.ensures i.1.1.1 in
          let same = rule_one cs names left behind f.behind r f.one s f.saying c.in_ok-rule.ensures.read.ok f.reads in (
            f.more,
            (
              f.sayings,
              (
                f.lefts,
                rules_back cs names behind next f.more f.sayings f.lefts c.in_ok-left-2.ensures.ok
                    (subst (λ u. Rules cs names u f.more f.sayings f.lefts) (sym same.2) f.rest),
                λ light. (subst (AreLight most names) f.these (i.1.1.2 light)).1,
              ),
            ),
          );
      heavy = λ h. c.loop-left.invariant.heavy (heavy_rule most cs names left behind r s c.in_ok-rule.ensures.read.ok
          (heavy_on most cs names behind next c.in_ok-left-2.ensures.ok h));
      light = subst (AreLight most names) (sym c.in_ok-push.ensures.rules)
          (light_push most names c.loop-left.section.rules.items r c.loop-left.invariant.light
          c.in_ok-rule.ensures.read.light);
      whole = c.in_ok-left-2.ensures.whole ∙ (c.in_ok-rule.ensures.whole ∙ c.loop-left.invariant.whole);
      settled = c.in_ok-left-2.ensures.settled;
    }

pub loop-left-smaller : goal.loop-left-smaller
loop-left-smaller c =
    let less = rule_shorter c.args.conditions.now c.args.names.now c.loop-left.left.bytes.now
    c.in_ok-rule.behind.bytes.now c.in_ok-rule.rule (saying_of c.in_ok-rule.saying) c.in_ok-rule.ensures.read.ok in
    omega (arith, less, c.in_ok-left-2.ensures.shorter)

pub returns-in_err-rule-clause-read : goal.returns-in_err-rule-clause-read
returns-in_err-rule-clause-read c =
    let most = c.args.limits.now.pattern_weight in
    let cs = c.args.conditions.now in
    let names = c.args.names.now in
    let left = c.loop-left.left.bytes.now in
    let p = err_from_is_err_and c.from_residual-in_err-rule.result c.from_residual-in_err-rule.ensures.1 in
    rw (p.1, p.2) (answer_up _ _ _ _ _ c.in_err-rule.ensures.read
    (λ h. c.loop-left.invariant.heavy (here left h))
    (λ x d.
    let i = c.loop-left.invariant.complete x.0 x.1 d.0 d.1 in
    let f = in_front cs names left i.0 i.1.0 i.1.1.0 c.loop-left-test.ensures i.1.1.1 in
    ((f.one, f.saying, f.behind), f.reads, λ light. ((subst (AreLight most names) f.these (i.1.1.2 light)).0, tt))))

pub returns-in_err-left-clause-read : goal.returns-in_err-left-clause-read
returns-in_err-left-clause-read c =
    let p = err_from_is_err_and c.from_residual-in_err-left.result c.from_residual-in_err-left.ensures.1 in
    rw (p.1, p.2) (answer_fault _ _ _ _ _ c.in_err-left.ensures.light
    (λ _ x d. c.in_err-left.ensures.refused c.args.conditions.now c.args.names.now x.0 x.1 d.0 d.1))

pub returns-in_err-left-2-clause-read : goal.returns-in_err-left-2-clause-read
returns-in_err-left-2-clause-read c =
    let cs = c.args.conditions.now in
    let names = c.args.names.now in
    let left = c.loop-left.left.bytes.now in
    let behind = c.in_ok-rule.behind.bytes.now in
    let p = err_from_is_err_and c.from_residual-in_err-left-2.result c.from_residual-in_err-left-2.ensures.1 in
    rw (p.1, p.2) (answer_fault _ _ _ _ _ c.in_err-left-2.ensures.light
    (λ _ x d.
    let i = c.loop-left.invariant.complete x.0 x.1 d.0 d.1 in
    let f = in_front cs names left i.0 i.1.0 i.1.1.0 c.loop-left-test.ensures i.1.1.1 in
    let same = rule_one cs names left behind f.behind c.in_ok-rule.rule f.one (saying_of c.in_ok-rule.saying) f.saying
    c.in_ok-rule.ensures.read.ok f.reads in
    c.in_err-left-2.ensures.refused cs names f.more f.sayings f.lefts
    (subst (λ u. Rules cs names u f.more f.sayings f.lefts) (sym same.2) f.rest)))

pub returns-in_err-push-clause-read : goal.returns-in_err-push-clause-read
returns-in_err-push-clause-read c =
    let p = err_from_is_err_and c.from_residual-in_err-push.result c.from_residual-in_err-push.ensures.1 in
    rw p.1 (answer_memory _ _ _ _ p.0 p.2)

pub returns-clause-read : goal.returns-clause-read
returns-clause-read c =
    let cs = c.args.conditions.now in
    let names = c.args.names.now in
    let left = c.loop-left.left.bytes.now in
    let far = c.loop-left.invariant.sound in
    answer_ok _ _ _ _ _ (
      far.0,
      rules_whole cs names c.args.text.bytes.now c.loop-left.section.rules.items
          (map saying_of c.loop-left.section.said.items) far.0 (far.2 [] [] []
          (rules_over cs names left (over_of left c.loop-left.invariant.settled c.loop-left-test.ensures))),
      far.1,
    ) c.loop-left.invariant.light
