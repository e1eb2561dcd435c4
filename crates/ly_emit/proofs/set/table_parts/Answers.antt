use Rattle.std.proofs.Common.{◌≡◌, ◌∙◌, ◌<◌, ◌*◌, All, ap, length, map, option_map, subst, sym}
use Rattle.std.proofs.lemmas.List.{length-map}
use Rattle.std.proofs.lemmas.List.Elements.{All-map}
use Rattle.ly_emit.specs.Private.Lists.{AreLists}
use Rattle.ly_emit.specs.SetOf.{IsMachineBy, IsSetOf}
use Rattle.ly_emit.specs.Tables.{IsMachineOf}
use Rattle.ly_emit.proofs.RangeLemmas.{set_within}
use Rattle.ly_emit.proofs.SetLemmas.{set_machine}
use Rattle.ly_lr0.specs.Automaton.{Lr0Automaton}
use Rattle.ly_pack.specs.Combs.{IsFirstFit}
use Rattle.ly_pack.specs.Machine.{IsMachine}
use Rattle.ly_report.specs.Report.{terminal_name}
use Rattle.ly_tables.specs.TableSet.{machine_of}
use Rattle.ly_tables.specs.Values.{set_of, starts_from}
use Rattle.ly_tables.specs.declared.table_parts.TableParts.{TableParts}
use Rattle.ly_emit.proofs.set.table_parts.Goals as goal

pub returns : goal.returns
returns c =
    let s = c.args.spec.now in
    let given = c.requires.fits in
    let parser = c.into_parts-parser in
    let scanner = c.in_ok-scanner.scanner in
    let made = c.in_ok-scanner.ensures in
    let p : TableParts = record {
      terminals = c.in_ok-terminal_names.field-0;
      nonterminals = c.accept.result.0;
      literals = c.in_ok-literals.field-0;
      scan_rules = scanner.rules;
      conditions = scanner.conditions;
      class_count = c.classes.result;
      classes = scanner.classes;
      accepted = scanner.accepted;
      scan_rows = scanner.rows;
      rules = parser.result.rules;
      defaults = parser.result.defaults;
      actions = c.into_comb.result;
      gotos = c.into_comb-2.result;
    } in
    let sizes = c.in_ok-terminal_names.ensures.sizes in
    let names : map (λ name. name.items) p.terminals.items ≡ map terminal_name s.terminals
    = c.in_ok-terminal_names.ensures.names in
    let accept : p.nonterminals ≡ s.grammar.accept = c.accept.ensures ∙ ap (λ g. g.accept) c.grammar.ensures.grammar in
    let packed = parser.ensures.same ∙ c.in_ok-pack.ensures in
    let same : machine_of (set_of p) ≡ c.args.machine
    = set_machine p parser.result.terminals parser.result.nonterminals parser.result.actions parser.result.gotos
    c.into_comb.ensures.same c.into_comb-2.ensures.same s given.0 c.args.machine sizes given.1.0 given.1.1 names
    (accept ∙ sym given.1.0.accept) packed in
    let set : (M : Lr0Automaton) → IsMachineBy s M c.args.machine
    → IsSetOf s M c.args.rules.now c.args.dfa.now (set_of p) = λ M by. record {
      terminals = names;
      nonterminals = accept ∙ sizes.nonterminals;
      literals = c.in_ok-literals.ensures.literals;
      scanner = record {
        actions = made.actions ∙ c.scanner.ensures;
        cuts = made.cuts;
        condition_count = ap (λ n. 2 * n) (length-map scanner.conditions.items starts_from) ∙ made.count;
        conditions = made.starts;
        class_count = c.classes.ensures;
        classes = made.classes;
        accepted = made.accepted;
        rows = made.rows;
      };
      machine = subst (IsMachineOf s M) (sym same) by.1;
      scan_rows = made.placed;
      actions = subst IsFirstFit (sym c.into_comb.ensures.same) c.into_comb.ensures.placed;
      gotos = subst IsFirstFit (sym c.into_comb-2.ensures.same) c.into_comb-2.ensures.placed;
    } in
    let states = length-map p.defaults.items (option_map (λ p. p.0)) in
    let wide = ap (λ m. m.terminals) packed ∙ sym (ap (λ m. m.terminals) same) in
    let narrow = ap (λ m. m.nonterminals) packed ∙ sym (ap (λ m. m.nonterminals) same) in
    let lists : AreLists (set_of p) = record {
      names = All-map (All (λ byte. byte < 256)) (λ name. name.items) p.terminals.items
          c.in_ok-terminal_names.ensures.bytes;
      literals = length-map p.literals.items (λ t. t.0) ∙ c.in_ok-literals.ensures.count;
      classes = made.bytes;
      scan_rows = record {
        rows = made.sizes.rows ∙ sym (ap length made.accepted);
        width = made.sizes.width ∙ sym c.classes.ensures;
      };
      actions = record {
        rows = ap (λ x. length x.bases) c.into_comb.ensures.same ∙ parser.ensures.sizes.actions ∙ sym states;
        width = ap (λ x. x.width) c.into_comb.ensures.same ∙ parser.ensures.sizes.actions_wide ∙ wide;
      };
      gotos = record {
        rows = ap (λ x. length x.bases) c.into_comb-2.ensures.same ∙ parser.ensures.sizes.gotos ∙ sym states;
        width = ap (λ x. x.width) c.into_comb-2.ensures.same ∙ parser.ensures.sizes.gotos_wide ∙ narrow;
      };
    } in
    let machine = subst IsMachine (c.in_ok-pack.ensures ∙ sym same) parser.ensures.whole in
    record {
      same = same;
      set = set;
      within = λ v M by fits. set_within v s M c.args.dfa.now c.args.rules.now (set_of p) fits (set M by) lists sizes
          made.whole c.requires.rules machine;
    }
