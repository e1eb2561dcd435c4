use Rattle.std.proofs.Common.{List, ◌∙◌, ◌-◌, ap, inl, inr, length, map, subst, sym}
use Rattle.std.specs.Option.{MatchOption}
use Rattle.std.proofs.lemmas.Result.{err_from_is_err_and}
use Rattle.ly_lexread.specs.Action.{AreEffects, Effect, effect_of}
use Rattle.ly_lexread.specs.Private.Definitions.{preamble_of}
use Rattle.ly_lexread.specs.Private.File.{IsFileOf}
use Rattle.ly_lexread.specs.Private.Rules.{AreRulesAt}
use Rattle.ly_lexread.specs.Private.Statements.{saying_of}
use Rattle.ly_lexread.specs.Rules.{AreLight}
use Rattle.ly_lexread.proofs.AnswerLemmas.{answer_fault, answer_ok, answer_up}
use Rattle.ly_lexread.proofs.FileLemmas.{behind_rules, file_behind, rules_one}
use Rattle.ly_lexread.proofs.read.read_behind.Goals as goal

pub returns-in_err-names-clause-read : goal.returns-in_err-names-clause-read
returns-in_err-names-clause-read c =
    let p = err_from_is_err_and c.from_residual.result c.from_residual.ensures.1 in
    rw (p.1, p.2) (answer_up _ _ _ _ _ c.in_err-names.ensures.read (λ h. inl h) (λ file is.
    (file.names, is.names, λ light. light.0)))

pub returns-in_err-section-clause-read : goal.returns-in_err-section-clause-read
returns-in_err-section-clause-read c =
    let all = preamble_of c.args.preamble.now in
    let behind = c.args.behind.bytes.now in
    let names = c.in_ok-names.names in
    let p = err_from_is_err_and c.from_residual-in_err-section.result c.from_residual-in_err-section.ensures.1 in
    rw (p.1, p.2) (answer_up _ _ _ _ _ c.in_err-section.ensures.read
    (λ h. inr (names, c.in_ok-names.ensures.read.ok, h))
    (λ file is.
    let rules = behind_rules (length c.args.bytes.now) all behind file is names c.in_ok-names.ensures.read.ok in (
      (file.rules.items, is.sayings, file.rule_starts.items),
      (is.lefts, rules.1, is.rule_starts ∙ ap (λ n. map (λ k. n - k) is.lefts) (sym c.requires)),
      λ light. subst (λ n. AreLight c.args.limits.now.pattern_weight n file.rules.items) rules.0 light.1,
    )))

pub returns-in-Some-clause-read : goal.returns-in-Some-clause-read
returns-in-Some-clause-read c =
    let all = preamble_of c.args.preamble.now in
    let behind = c.args.behind.bytes.now in
    let names = c.in_ok-names.names in
    let section = c.in_ok-section.section in
    let sayings = map saying_of section.said.items in
    let stated = c.in_ok-stated.stated in
    let of : IsFileOf names section sayings stated c.in-Some.file
    = subst (λ o. MatchOption o ((es : List Effect) → AreEffects sayings es → ⊥)
    (IsFileOf names section sayings stated)) c.in-Some.is c.in_ok-file.ensures in
    let rules : AreRulesAt (length c.args.bytes.now) all.conditions names behind section.rules.items sayings
    section.starts.items
    = subst (λ n. AreRulesAt n all.conditions names behind section.rules.items sayings section.starts.items)
    c.requires c.in_ok-section.ensures.read.ok in
    answer_ok _ _ _ _ _
    (file_behind (length c.args.bytes.now) all behind names section sayings stated c.in-Some.file of
    c.in_ok-names.ensures.read.ok rules c.in_ok-stated.ensures)
    (rw (of.names_are, of.rules_are) (c.in_ok-names.ensures.read.light, c.in_ok-section.ensures.read.light))

pub returns-in-None-clause-read : goal.returns-in-None-clause-read
returns-in-None-clause-read c =
    let all = preamble_of c.args.preamble.now in
    let behind = c.args.behind.bytes.now in
    let names = c.in_ok-names.names in
    let section = c.in_ok-section.section in
    let sayings = map saying_of section.said.items in
    let none : (es : List Effect) → AreEffects sayings es → ⊥
    = subst (λ o. MatchOption o ((es : List Effect) → AreEffects sayings es → ⊥)
    (IsFileOf names section sayings c.in_ok-stated.stated)) c.in-None.is c.in_ok-file.ensures in
    let read = c.in_ok-section.ensures.read.ok in
    answer_fault _ _ _ _ _ (λ h. h) (λ _ file is.
    let rules = behind_rules (length c.args.bytes.now) all behind file is names c.in_ok-names.ensures.read.ok in
    let one = rules_one all.conditions names behind file.rules.items section.rules.items is.sayings sayings is.lefts
    read.0 rules.1 read.1 in
    none (map effect_of file.actions.items)
    (subst (λ i. AreEffects i (map effect_of file.actions.items)) one.1 is.effects))
