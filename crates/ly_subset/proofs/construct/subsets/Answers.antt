use Rattle.std.proofs.Common.{◌≡◌, ◌∙◌, [], ap, length, subst, sym, Err}
use Rattle.std.proofs.lemmas.List.{length-map}
use Rattle.std.proofs.lemmas.Result.{err_from_is_err_and}
use Rattle.ly_subset.specs.declared.fault.SubsetFault.TheVariants.{TooManyStates}
use Rattle.ly_subset.specs.Classes.{AreClasses}
use Rattle.ly_base.specs.Entry.{target_of}
use Rattle.ly_subset.specs.Dfa.{automaton_of}
use Rattle.ly_subset.specs.Private.Classes.{AreLeast}
use Rattle.ly_subset.specs.Private.Found.{IsPast}
use Rattle.ly_subset.proofs.SubsetLemmas.{are_subsets, is_automaton, many_of_past}
use Rattle.ly_subset.proofs.construct.subsets.Goals as goal

pub returns-in_err-starts-clause-many : goal.returns-in_err-starts-clause-many
returns-in_err-starts-clause-many c = λ failed.
    let p = err_from_is_err_and c.from_residual-in_err-starts.result c.from_residual-in_err-starts.ensures.1 in
    let same : c.in_err-starts.field-0.0 ≡ TooManyStates = let a = p.1 in let b = p.2 in cc in
    let past = c.in_err-starts.ensures.past (ap (λ e. Err e) same) [] in
    many_of_past c.args.nfa.now c.args.conditions [] c.args.limits.now.scanner_states
    (subst (λ n. IsPast c.args.nfa.now n [] c.args.limits.now.scanner_states) c.new-found.ensures.starts
    (subst (λ n. IsPast c.args.nfa.now c.new-found.result.starts [] n)
    (c.new-found.ensures.limit ∙ c.scanner_states.ensures) past))

pub rows-requires-clause-found : goal.rows-requires-clause-found
rows-requires-clause-found c = c.in_ok-starts.ensures.found c.deref.result.now

pub returns-in_err-rows-clause-many : goal.returns-in_err-rows-clause-many
returns-in_err-rows-clause-many c = λ failed.
    let p = err_from_is_err_and c.from_residual-in_err-rows.result c.from_residual-in_err-rows.ensures.1 in
    let same : c.in_err-rows.field-0.0 ≡ TooManyStates = let a = p.1 in let b = p.2 in cc in
    let past = c.in_err-rows.ensures.past (ap (λ e. Err e) same) in
    let least = c.deref.result.now in
    many_of_past c.args.nfa.now c.args.conditions least c.args.limits.now.scanner_states
    (subst (λ n. IsPast c.args.nfa.now n least c.args.limits.now.scanner_states)
    (c.in_ok-starts.ensures.starts ∙ c.new-found.ensures.starts)
    (subst (λ n. IsPast c.args.nfa.now c.starts.new.found.starts least n)
    (c.in_ok-starts.ensures.limit ∙ c.new-found.ensures.limit ∙ c.scanner_states.ensures) past))

pub invariant_of-result : goal.invariant_of-result
invariant_of-result c =
    let found = c.rows.new.found in
    let class_of = c.in_ok-classes.classes.class_of in
    let least = c.in_ok-classes.classes.least in
    let A = automaton_of (record {
      class_of = class_of;
      classes = c.len.result;
      rules = c.in_ok-rules_of.field-0;
      starts = found.starts;
      entries = found.entries;
    }) in
    let count : length least.items ≡ c.len.result = sym least.ok.0 ∙ sym c.len.ensures in
    is_automaton c.args.nfa.now c.args.conditions found.limit A c.deref.result.now found.keys
    (subst (λ n. AreClasses c.args.nfa.now class_of.items n) count c.in_ok-classes.ensures.classes)
    (subst (λ l. AreLeast class_of.items l) (sym c.deref.ensures.value) c.in_ok-classes.ensures.least)
    (ap length c.deref.ensures.value ∙ count)
    (c.in_ok-rows.ensures.starts ∙ c.in_ok-starts.ensures.starts ∙ c.new-found.ensures.starts)
    c.in_ok-rows.ensures.found (length-map found.entries.items target_of ∙ c.in_ok-rows.ensures.all)
    c.in_ok-rules_of.ensures

pub returns-clause-whole : goal.returns-clause-whole
returns-clause-whole c =
    let found = c.rows.new.found in
    let class_of = c.in_ok-classes.classes.class_of in
    let least = c.in_ok-classes.classes.least in
    let A = automaton_of (record {
      class_of = class_of;
      classes = c.len.result;
      rules = c.in_ok-rules_of.field-0;
      starts = found.starts;
      entries = found.entries;
    }) in
    let count : length least.items ≡ c.len.result = sym least.ok.0 ∙ sym c.len.ensures in
    is_automaton c.args.nfa.now c.args.conditions found.limit A c.deref.result.now found.keys
    (subst (λ n. AreClasses c.args.nfa.now class_of.items n) count c.in_ok-classes.ensures.classes)
    (subst (λ l. AreLeast class_of.items l) (sym c.deref.ensures.value) c.in_ok-classes.ensures.least)
    (ap length c.deref.ensures.value ∙ count)
    (c.in_ok-rows.ensures.starts ∙ c.in_ok-starts.ensures.starts ∙ c.new-found.ensures.starts)
    c.in_ok-rows.ensures.found (length-map found.entries.items target_of ∙ c.in_ok-rows.ensures.all)
    c.in_ok-rules_of.ensures

pub returns-clause-subsets : goal.returns-clause-subsets
returns-clause-subsets c =
    let found = c.rows.new.found in
    let class_of = c.in_ok-classes.classes.class_of in
    let least = c.in_ok-classes.classes.least in
    let A = automaton_of (record {
      class_of = class_of;
      classes = c.len.result;
      rules = c.in_ok-rules_of.field-0;
      starts = found.starts;
      entries = found.entries;
    }) in
    let count : length least.items ≡ c.len.result = sym least.ok.0 ∙ sym c.len.ensures in
    are_subsets c.args.nfa.now c.args.conditions found.limit A c.deref.result.now found.keys
    (subst (λ n. AreClasses c.args.nfa.now class_of.items n) count c.in_ok-classes.ensures.classes)
    (subst (λ l. AreLeast class_of.items l) (sym c.deref.ensures.value) c.in_ok-classes.ensures.least)
    (ap length c.deref.ensures.value ∙ count)
    (c.in_ok-rows.ensures.starts ∙ c.in_ok-starts.ensures.starts ∙ c.new-found.ensures.starts)
    c.in_ok-rows.ensures.found (length-map found.entries.items target_of ∙ c.in_ok-rows.ensures.all)
    c.in_ok-rules_of.ensures
