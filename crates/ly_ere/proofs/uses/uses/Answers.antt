use Rattle.std.proofs.Common.{◌≡◌, ◌<◌, ◌+◌, ◌++◌, ◌∷◌, [], ap, arith, get_or, length, subst, sym, ◌∙◌}
use Rattle.std.specs.Prelude.{All}
use Rattle.std.proofs.lemmas.List.{get_or_default}
use Rattle.ly_base.specs.declared.byte_set.ByteSet.{ByteSet}
use Rattle.ly_ere.specs.Arena.{expression_of, expressions, part_of}
use Rattle.ly_ere.specs.Private.Uses.{size_of, size_of_all, uses_of, uses_of_all}
use Rattle.ly_ere.specs.declared.node.Node.{Node}
use Rattle.ly_ere.specs.declared.node.Node.TheVariants.{Set}
use Rattle.ly_ere.proofs.ExpressionLemmas.{expression_at}
use Rattle.ly_ere.proofs.UseLemmas.{fits_later, front_within, last_within, size_push, uses_push}
use Rattle.ly_ere.proofs.uses.uses.Goals as goal

pub loop-number-smaller : goal.loop-number-smaller
loop-number-smaller c =
    let nodes = c.nodes-root.result.0.now in
    let es = expressions nodes in
    let n = c.in-Some.number in
    let none : ByteSet = record { words = [] } in
    let past : Node = Set none in
    let node = get_or nodes n past in
    let taken : c.loop-number.pending.items ≡ c.pop.new.self.items ++ n ∷ [] = c.in-Some.ensures.items in
    let there : n < length nodes = last_within c.pop.new.self.items n (length nodes)
    (subst (All (λ k. k < length nodes)) taken c.loop-number.invariant.within) in
    let is : expression_of es node ≡ part_of es n
    = expression_at nodes n node c.nodes-root.ensures.ordered there (get_or_default nodes n past node there) in
    let smaller : size_of_all es c.open_node.new.pending.items
    < size_of (expression_of es node) + size_of_all es c.pop.new.self.items = c.in_ok-open_node.ensures.smaller es in
    let less : size_of_all es c.open_node.new.pending.items < size_of_all es c.loop-number.pending.items
    = omega (arith, smaller, ap size_of is, ap (size_of_all es) taken, size_push es c.pop.new.self.items n) in
    less

pub loop-number-preserved : goal.loop-number-preserved
loop-number-preserved c =
    let nodes = c.nodes-root.result.0.now in
    let es = expressions nodes in
    let n = c.in-Some.number in
    let none : ByteSet = record { words = [] } in
    let past : Node = Set none in
    let node = get_or nodes n past in
    let taken : c.loop-number.pending.items ≡ c.pop.new.self.items ++ n ∷ [] = c.in-Some.ensures.items in
    let all = subst (All (λ k. k < length nodes)) taken c.loop-number.invariant.within in
    let there : n < length nodes = last_within c.pop.new.self.items n (length nodes) all in
    let is : expression_of es node ≡ part_of es n
    = expression_at nodes n node c.nodes-root.ensures.ordered there (get_or_default nodes n past node there) in
    record {
      within = c.in_ok-open_node.ensures.within (length nodes)
          (fits_later node n (length nodes) (omega (arith, there)) (c.nodes-root.ensures.ordered n past there))
          (front_within c.pop.new.self.items n (length nodes) all);
      uses = c.in_ok-open_node.ensures.uses es
          ∙ (ap (λ e. c.loop-number.found.items ++ (uses_of e ++ uses_of_all es c.pop.new.self.items)) is
          ∙ (ap (λ us. c.loop-number.found.items ++ us) (sym (uses_push es c.pop.new.self.items n))
          ∙ (ap (λ ns. c.loop-number.found.items ++ uses_of_all es ns) (sym taken) ∙ c.loop-number.invariant.uses)));
    }
