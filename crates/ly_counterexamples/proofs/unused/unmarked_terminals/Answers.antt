use Rattle.std.proofs.Common.{◌∙◌}
use Rattle.std.proofs.Common.{◌≡◌, ◌<◌, ap, arith, length, map, sym}
use Rattle.std.proofs.lemmas.Bool.{iff_false}
use Rattle.std.proofs.lemmas.List.{length-map, map-append}
use Rattle.ly_base.specs.declared.numbers.Sym.{Sym}
use Rattle.ly_join.specs.Terminals.{terminal_from}
use Rattle.ly_counterexamples.specs.Private.Unmarked.{IsUnmarked}
use Rattle.ly_counterexamples.proofs.RisingLemmas.{rising_all, rising_more, rising_same}
use Rattle.ly_counterexamples.proofs.UnmarkedLemmas.{named_at, unmarked_below}
use Rattle.ly_counterexamples.proofs.unused.unmarked_terminals.Goals as goal
use Rattle.ly_counterexamples.proofs.unused.unmarked_terminals.Goals.{else-is_named}
use Rattle.ly_counterexamples.proofs.unused.unmarked_terminals.Goals.{then-is_named+then-not-has+in_ok-push}
use Rattle.ly_counterexamples.proofs.unused.unmarked_terminals.Goals.{else-is_named-via-else-is_named}
use Rattle.ly_counterexamples.proofs.unused.unmarked_terminals.Goals.{else-is_named-via-then-is_named+else-not-has}

pub loop-number-preserved : goal.loop-number-preserved
loop-number-preserved c =
    let s = c.args.spec.now in
    let P = IsUnmarked s c.args.marks.now in
    let t = c.loop-number.number in
    let names = c.terminals-names.result.now in
    let old = c.loop-number.found.items in
    let numbers = map (λ (x : Sym). x.0) old in
    let sizes = c.grammar.ensures.sizes.terminals in
    let same = ap (λ g. g.terminals) c.grammar.ensures.grammar in
    let long : length names ≡ length s.terminals
    = sym (length-map names terminal_from) ∙ ap length c.terminals-names.ensures in
    let end = c.terminals-number-end.ensures in
    let less = c.loop-number-test.true in
    let lt : t < length names = omega (arith, less, end, same, sizes, long) in
    let named = named_at s names c.terminals-names.ensures t c.index-names-number.result c.index-names-number.result lt
    (sym c.index-names-number.is) in
    elim c.if-is_named.branch [
      | then-is_named+then-not-has+in_ok-push w ↦ rw w.found-is
          (rising_more P t numbers (map (λ x. x.0) w.push.new.self.items) c.loop-number.invariant (
            named.0 (c.is_named.ensures.0 w.if-is_named.true),
            iff_false w.has.ensures w.if-not-has.true,
          )
          (ap (map (λ x. x.0)) w.in_ok-push.ensures.items ∙ map-append (λ (x : Sym). x.0) old _))
      | else-is_named w ↦ rw w.found-is
          (rising_same P t numbers c.loop-number.invariant
          (elim w.else-is_named.branch [
            | else-is_named-via-then-is_named+else-not-has v ↦ λ un. un.1 (v.has.ensures.0 v.if-not-has.false)
            | else-is_named-via-else-is_named v ↦ λ un.
                iff_false c.is_named.ensures v.if-is_named.false (named.1 un.0)
          ]))
    ]

pub returns : goal.returns
returns c =
    let s = c.args.spec.now in
    rising_all (IsUnmarked s c.args.marks.now) c.loop-number.number (map (λ t. t.0) c.loop-number.found.items)
    c.loop-number.invariant
    (λ t un.
    let lt = unmarked_below s c.args.marks.now t un in
    let end = c.terminals-number-end.ensures in
    let past = c.loop-number-test.false in
    let sizes = c.grammar.ensures.sizes.terminals in
    let same = ap (λ g. g.terminals) c.grammar.ensures.grammar in
    omega (arith, lt, end, past, same, sizes))
