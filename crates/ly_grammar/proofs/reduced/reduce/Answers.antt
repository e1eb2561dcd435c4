use Rattle.std.proofs.Common.{◌≡◌, ◌↔◌, ℕ, subst, true, false, slice_index_or}
use Rattle.ly_join.specs.Grammar.{Grammar, nonterminal}
use Rattle.ly_sets.specs.NumberSet.{Member}
use Rattle.ly_sets.specs.SetMatrix.{row}
use Rattle.ly_grammar.specs.Reduction.{restricted}
use Rattle.ly_grammar.specs.Private.First.{Starts}
use Rattle.ly_grammar.specs.Private.Search.{HasTree}
use Rattle.ly_grammar.proofs.ReduceLemmas.{is_reduction}
use Rattle.ly_grammar.proofs.reduced.reduce.Goals as goal

pub invariant_of-result : goal.invariant_of-result
invariant_of-result c =
    let G : Grammar = c.args.grammar.now in
    let kept = c.in_ok-kept.kept.items in
    let nullable = c.in_ok-nullable.nullable.items in
    let first = c.in_ok-first.first in
    let known = c.in_ok-kept.ensures in
    let empties : (A : ℕ) → (slice_index_or nullable A false ≡ true) ↔ HasTree (restricted kept G) false (nonterminal A)
    = subst (λ ks. (A : ℕ) → (slice_index_or nullable A false ≡ true) ↔ HasTree (restricted ks G) false (nonterminal A))
    c.deref.ensures.value c.in_ok-nullable.ensures.exact in
    let starts : (A t : ℕ) → Member (row first.sets A) t ↔ Starts (restricted kept G) nullable A t
    = subst (λ ks. (A t : ℕ) → Member (row first.sets A) t
    ↔ Starts (restricted ks G) nullable A t) c.deref-2.ensures.value
    (subst (λ ns. (A t : ℕ) → Member (row first.sets A) t ↔ Starts (restricted c.deref-2.result.now G) ns A t)
    c.deref-3.ensures.value c.in_ok-first.ensures.exact) in (
      is_reduction G kept nullable first known.lawful known.long known.exact known.productive empties starts,
      record {
        lawful = known.lawful;
        marks = known.long;
        empties = c.in_ok-nullable.ensures.long;
        rows = c.in_ok-first.ensures.rows;
        width = c.in_ok-first.ensures.width;
      },
    )

pub returns-clause-ok : goal.returns-clause-ok
returns-clause-ok c = (invariant_of-result c).0
