use Rattle.std.proofs.Common.{◌≡◌, ◌≤◌, ◌∙◌, ap, arith, length, subst}
use Rattle.std.proofs.lemmas.List.{length-map}
use Rattle.ly_lr0.specs.Private.Found.{links_of}
use Rattle.ly_lr0.specs.Private.Built.{automaton_from, IsBuilt, link_of, transitions_of}
use Rattle.ly_lr0.specs.Automaton.{IsLr0Automaton}
use Rattle.ly_lr0.proofs.ConstructLemmas.{built_of}
use Rattle.ly_lr0.proofs.FinalLemmas.{is_automaton}
use Rattle.ly_lr0.proofs.StateLemmas.{count_of}
use Rattle.ly_lr0.proofs.construct.automaton.Goals as goal

pub loop-construction-init : goal.loop-construction-init
loop-construction-init c =
    let started = c.in_ok-construction.ensures in
    record {
      made = started.made;
      reduced = started.reduced;
      limit = started.limit ∙ c.parser_states.ensures;
    }

pub push_row-requires-clause-made : goal.push_row-requires-clause-made
push_row-requires-clause-made c = c.loop-construction.invariant.made

pub loop-construction-preserved : goal.loop-construction-preserved
loop-construction-preserved c =
    let inv = c.loop-construction.invariant in
    let more = c.in_ok-push_row.ensures in
    record {
      made = more.made;
      reduced = ap (λ r. r.now) more.reduced ∙ inv.reduced;
      limit = more.limit ∙ inv.limit;
    }

pub invariant_of-result : goal.invariant_of-result
invariant_of-result c =
    let made = c.loop-construction.construction in
    let f = made.found in
    let inv = c.loop-construction.invariant in
    let is = inv.made.found in
    let end = c.loop-construction-test.false in
    let full : length f.rows.items ≡ length f.kernels = let a = c.len.ensures in
    let b = c.len-in-loop-construction.ensures in let ok = f.rows.ok.0 in let w = is.found.within in
    omega (arith, w, length-map f.rows.items transitions_of) in
    let few : length f.kernels ≤ 4294967295 = let fits = c.parser_states.type_inv in let b = c.parser_states.ensures in
    let limit = inv.limit in let few = is.few in omega arith in
    subst (λ r. IsBuilt r.grammar f.links.items f.rows.items made.by_left) inv.reduced
    (built_of f.reduced.now.grammar is.augmented is.reduced f.kernels f.links.items f.rows.items is.found full is.rows
    few made.by_left inv.made.by_left)

pub returns-clause-automaton : goal.returns-clause-automaton
returns-clause-automaton c =
    let f = c.loop-construction.construction.found in
    let inv = c.loop-construction.invariant in
    let is = inv.made.found in
    let end = c.loop-construction-test.false in
    let full : length f.rows.items ≡ length f.kernels = let a = c.len.ensures in
    let b = c.len-in-loop-construction.ensures in let ok = f.rows.ok.0 in let w = is.found.within in
    omega (arith, w, length-map f.rows.items transitions_of) in
    subst (λ r. IsLr0Automaton (automaton_from r.grammar f.links.items f.rows.items)) inv.reduced
    (is_automaton f.reduced.now.grammar is.augmented is.reduced f.kernels (links_of f) f.rows.items is.found full
    is.rows)

pub returns-clause-few : goal.returns-clause-few
returns-clause-few c =
    let f = c.loop-construction.construction.found in
    let inv = c.loop-construction.invariant in
    let is = inv.made.found in
    let within = is.found.within in
    let mapped = length-map f.rows.items transitions_of in
    let links = length-map f.links.items link_of in
    let end = c.loop-construction-test.false in
    let a = c.len.ensures in
    let b = c.len-in-loop-construction.ensures in
    let ok = f.rows.ok.0 in
    let full : length f.rows.items ≡ length f.kernels = omega arith in
    let count = is.found.count in
    let states = count_of f.links.items f.rows.items (omega arith) in
    let few = is.few in
    let limit = inv.limit in
    omega arith
