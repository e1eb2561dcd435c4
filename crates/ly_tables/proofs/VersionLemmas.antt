-- Table sets within the ranges of one version and of another.
use Rattle.std.proofs.Common.{◌≡◌, arith, refl}
use Rattle.std.specs.Int.{Width, w16, w32}
use Rattle.ly_base.specs.declared.cut.Cut.{Cut}
use Rattle.ly_base.specs.declared.cut.Cut.TheVariants.{Whole, Head, Tail}
use Rattle.ly_base.specs.declared.version.Version.{Version}
use Rattle.ly_base.specs.declared.version.Version.TheVariants.{V1, V2}
use Rattle.ly_tables.specs.Private.Fitting.{AreCountsWithin, DoCutsFit}
use Rattle.ly_tables.specs.Private.Short.{CutFits}
use Rattle.ly_tables.specs.Ranges.{IsCutWithin, IsWithinVersion, counts_of, width_of}
use Rattle.ly_tables.specs.TableSet.{TableSet}
use Rattle.ly_tables.proofs.WidthLemmas.{of_version}

-- a cut that is within one width, and whose length is a number of another
cut_in : (w u : Width) (c : Cut) → IsCutWithin w c → CutFits u c → IsCutWithin u c
cut_in w u Whole within fits = tt
cut_in w u (Head n) within fits = (within.0, fits)
cut_in w u (Tail n) within fits = fits

cut_fits : (w : Width) (c : Cut) → IsCutWithin w c → CutFits w c
cut_fits w Whole within = tt
cut_fits w (Head n) within = within.1
cut_fits w (Tail n) within = within

-- a set is within another version whose counts and numbers suffice
pub within_in : (v u : Version) (s : TableSet) → IsWithinVersion v s → AreCountsWithin (counts_of u) s
    → DoCutsFit (width_of u) s → IsWithinVersion u s
within_in v u s r counts cuts = record {
  terminals = r.terminals;
  nonterminals = r.nonterminals;
  symbols = counts.symbols;
  names = r.names;
  end = r.end;
  undefined = r.undefined;
  all_literals = r.all_literals;
  literals = r.literals;
  scan_rule_count = counts.scan_rules;
  scan_rules = λ k d lt. let at = r.scan_rules k d lt in
      record { emits = at.emits; begin = at.begin; cut = cut_in (width_of v) (width_of u) _ at.cut (cuts k d lt) };
  some_condition = r.some_condition;
  condition_count = omega (arith, r.condition_count, (of_version v).conditions, (of_version u).conditions);
  conditions = r.conditions;
  some_class = r.some_class;
  class_count = r.class_count;
  all_classes = r.all_classes;
  classes = r.classes;
  scan_state_count = counts.scan_states;
  accepted = r.accepted;
  scan_rows = r.scan_rows;
  scan_targets = r.scan_targets;
  some_rule = r.some_rule;
  rule_count = counts.rules;
  rules = r.rules;
  state_count = counts.states;
  actions = r.actions;
  gotos = r.gotos;
  machine = r.machine;
}

-- what is within a version has its counts, and its cuts
pub counts_within : (v : Version) (s : TableSet) → IsWithinVersion v s → AreCountsWithin (counts_of v) s
counts_within v s r = record {
  symbols = r.symbols;
  scan_rules = r.scan_rule_count;
  scan_states = r.scan_state_count;
  rules = r.rule_count;
  states = r.state_count;
}

pub cuts_within : (v : Version) (s : TableSet) → IsWithinVersion v s → DoCutsFit (width_of v) s
cuts_within v s r = λ k d lt. cut_fits (width_of v) _ (r.scan_rules k d lt).cut

wider : (c : Cut) → CutFits w16 c → CutFits w32 c
wider Whole fits = tt
wider (Head n) fits = omega (arith, fits)
wider (Tail n) fits = omega (arith, fits)

-- what is within a version is within version 2
pub within_2 : (v : Version) (s : TableSet) → IsWithinVersion v s → IsWithinVersion V2 s
within_2 V1 s r =
    within_in V1 V2 s r record {
      symbols = omega (arith, r.symbols);
      scan_rules = omega (arith, r.scan_rule_count);
      scan_states = omega (arith, r.scan_state_count);
      rules = omega (arith, r.rule_count);
      states = omega (arith, r.state_count);
    } (λ k d lt. wider _ (cuts_within V1 s r k d lt))
within_2 V2 s r = r

-- a set of version 2 that is beyond a version is beyond version 1
pub beyond : (v : Version) (s : TableSet) → IsWithinVersion V2 s → (IsWithinVersion v s → ⊥)
    → (v ≡ V1) × (IsWithinVersion V1 s → ⊥)
beyond V1 s r out = (refl, out)
beyond V2 s r out = absurd (out r)
