use Rattle.std.proofs.Common.{◌≡◌, ◌∙◌, ◌<◌, ap, arith, length, map, subst, sym, ◌∷◌, [], All}
use Rattle.std.specs.Prelude.{IfSome, option_map}
use Rattle.std.specs.Option.{option_to_list}
use Rattle.std.proofs.lemmas.List.Elements.{All-head}
use Rattle.ly_yaccread.specs.File.{symbol_word}
use Rattle.ly_join.specs.Grammar.{symbol_of}
use Rattle.ly_join.specs.Private.Rules.{HasLiteral}
use Rattle.ly_join.proofs.RuleLemmas.{found_below, last_below, terminal_within}
use Rattle.ly_join.proofs.rule.rule_precedence.Goals as goal

pub prec_terminal-requires : goal.prec_terminal-requires
prec_terminal-requires c =
    let terminals = c.args.table.now.terminals in
    let literal : All (HasLiteral terminals) (symbol_word c.in-Some.symbol.value ∷ [])
    = subst (λ o. All (HasLiteral terminals) (option_to_list (option_map (λ x. symbol_word x.value) o))) c.in-Some.is
    c.requires.literal in
    subst (λ s. HasLiteral terminals (symbol_word s)) (sym c.deref.ensures)
    (All-head (HasLiteral terminals) (symbol_word c.in-Some.symbol.value) [] literal)

pub precedence_at-requires : goal.precedence_at-requires
precedence_at-requires c =
    let within = terminal_within c.args.table.now.terminals (symbol_word c.deref.result.now)
    c.in_ok-terminal-in-Some.terminal.0 c.in_ok-terminal-in-Some.ensures.ok in
    omega (arith, within, c.requires.long, ap length c.deref-in-Some.ensures.value)

pub precedence_at-requires-in-None : goal.precedence_at-requires-in-None
precedence_at-requires-in-None c =
    let within : IfSome (option_map (λ t. t.0) c.last_terminal.result) (λ n. n < length c.args.table.now.terminals)
    = subst (λ o. IfSome o (λ n. n < length c.args.table.now.terminals)) (sym c.last_terminal.ensures)
    (last_below (length c.args.table.now.terminals) (map symbol_of c.args.body.now) c.requires.within) in
    let same : length c.deref-in-None.result.now ≡ length c.args.table.now.terminals
    = ap length c.deref-in-None.ensures.value ∙ c.requires.long in
    rw same (found_below (length c.args.table.now.terminals) c.last_terminal.result within)
