-- The useful rules of a grammar, and rule 0, are one grammar.
use Rattle.std.proofs.Common.{◌≡◌, ◌∙◌, ◌<◌, ℕ, Option, Some, None, ap, arith, get_or, length, refl, sym}
use Rattle.std.proofs.lemmas.List.{same_lists}
use Rattle.std.proofs.lemmas.Option.{get_or_from_slice_get, slice_get-get_or}
use Rattle.ly_join.specs.Grammar.{Grammar, IsRule, GrammarRule}
use Rattle.ly_grammar.specs.Laws.{UsefulRulesAreOne}
use Rattle.ly_grammar.specs.Reduction.{KeepsUseful}

-- what is a rule wherever the other is, and the other way round, is the same
both_ways : (x y : Option GrammarRule) → ((r : GrammarRule) → x ≡ Some r → y ≡ Some r)
    → ((r : GrammarRule) → y ≡ Some r → x ≡ Some r)
    → x ≡ y
both_ways None None to from = refl
both_ways None (Some q) to from = from q refl
both_ways (Some r) y to from = sym (to r refl)

-- a rule of the one is a rule of the other
rule_too : (G R S : Grammar) → KeepsUseful G R → KeepsUseful G S → (p : ℕ) (d : Option GrammarRule) → p < length R.rules
    → (r : GrammarRule) → get_or R.rules p d ≡ Some r → get_or S.rules p d ≡ Some r
rule_too G R S one two p d within r is =
    let rule : IsRule R p r = slice_get-get_or R.rules p d within ∙ ap Some is in
    get_or_from_slice_get S.rules p (Some r) d ((two.rules p r).1 ((one.rules p r).0 rule))

pub useful_rules_are_one : UsefulRulesAreOne
useful_rules_are_one G R S one two =
    let count : length R.rules ≡ length S.rules = one.numbers ∙ sym two.numbers in
    let rules : R.rules ≡ S.rules = same_lists R.rules S.rules count (λ p d within. both_ways (get_or R.rules p d)
    (get_or S.rules p d) (rule_too G R S one two p d within)
    (rule_too G S R two one p d (omega (arith, within, count)))) in
    λ i. record {
      terminals = (one.terminals ∙ sym two.terminals) i;
      accept = (one.accept ∙ sym two.accept) i;
      start = (one.start ∙ sym two.start) i;
      rules = rules i;
    }
