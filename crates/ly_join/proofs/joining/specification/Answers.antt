use Rattle.std.proofs.Common.{◌≡◌, ◌∙◌, ◌+◌, ℕ, List, ap, ap₂, arith, length, map, ◌∷◌, Some}
use Rattle.std.proofs.lemmas.List.{length-map}
use Rattle.std.proofs.lemmas.Option.{slice_get_within}
use Rattle.ly_join.specs.Grammar.{Grammar, accept_rule, grammar_from}
use Rattle.ly_join.specs.Joined.{note_of, Spec}
use Rattle.ly_join.specs.Private.Rules.{table_from}
use Rattle.ly_join.specs.Terminals.{TerminalName, end, terminal_from}
use Rattle.ly_join.proofs.RuleLemmas.{joined_length, rules_within}
use Rattle.ly_join.proofs.joining.specification.Goals as goal

pub new-requires-clause-start : goal.new-requires-clause-start
new-requires-clause-start c = omega (arith, c.requires.start_within, c.count-2.ensures)

pub new-requires-clause-some : goal.new-requires-clause-some
new-requires-clause-some c =
    omega (arith, slice_get_within c.args.table.terminals 0 end c.requires.first, c.count.ensures)

pub new-requires-clause-within : goal.new-requires-clause-within
new-requires-clause-within c =
    rw (c.count.ensures, c.count-2.ensures)
    (rules_within (table_from c.args.table) c.requires.rulings c.args.contents.rules.items c.requires.joined.rest
    c.requires.first c.requires.joined.joined)

pub invariant_of-result : goal.invariant_of-result
invariant_of-result c =
    let start = c.args.contents.start.0 in
    let rules = c.args.contents.rules.items in
    let made = c.in_ok-grammar.ensures
    ∙ ap₂ (λ t n. grammar_from t n start (accept_rule n start ∷ rules)) c.count.ensures c.count-2.ensures in
    let ready = c.requires.joined in
    let notes : length (map note_of c.args.contents.notes.items) ≡ length rules + 1
    = omega (
      arith,
      ap length ready.all_notes,
      joined_length (table_from c.args.table) c.requires.rulings rules ready.rest ready.joined,
    ) in (
      rw (c.into_lists-terminals.ensures.names, c.in_ok-nonterminals.ensures) (record {
        precedences = c.requires.long;
        notes = omega (arith, notes, ap (λ g. length g.rules) made, length-map rules Some);
        terminals = ap (λ g. g.terminals) made;
        nonterminals = ap (λ g. g.accept) made;
      }),
      rw c.into_lists-terminals.ensures.names c.into_lists-terminals.ensures.literals,
    )

pub returns : goal.returns
returns c =
    let start = c.args.contents.start.0 in
    let rules = c.args.contents.rules.items in
    let made = c.in_ok-grammar.ensures
    ∙ ap₂ (λ t n. grammar_from t n start (accept_rule n start ∷ rules)) c.count.ensures c.count-2.ensures in
    let of : Grammar → List TerminalName → List (List ℕ) → Spec = λ g ts ns. record {
      grammar = g;
      terminals = ts;
      nonterminals = ns;
      precedences = c.args.table.precedences.items;
      notes = map note_of c.args.contents.notes.items;
      scanner = c.args.contents.scanner.items;
    } in
    ap (λ g. of g (map terminal_from c.into_lists-terminals.result.0.items)
    (map (λ n. n.items) c.in_ok-nonterminals.nonterminals.items)) made
    ∙ ap₂ (of (grammar_from (length c.args.table.terminals) (length c.args.table.nonterminals) start
    (accept_rule (length c.args.table.nonterminals) start ∷ rules))) c.into_lists-terminals.ensures.names
    c.in_ok-nonterminals.ensures
