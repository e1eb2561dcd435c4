use Rattle.std.proofs.Common.{subst, sym}
use Rattle.ly_subset.specs.Private.Classes.{AreOrdered, AreLeast}
use Rattle.ly_subset.proofs.ClassLemmas.{classes_of}
use Rattle.ly_subset.proofs.classes.byte_classes.Goals as goal

pub least_bytes-requires-clause-order : goal.least_bytes-requires-clause-order
least_bytes-requires-clause-order c = subst (λ cs. AreOrdered cs) (sym c.deref.ensures.value)
    c.in_ok-class_of.ensures.in_order

pub returns-clause-classes : goal.returns-clause-classes
returns-clause-classes c = classes_of c.args.nfa.now c.in_ok-class_of.class_of.items c.in_ok-least.least.items
    c.in_ok-class_of.ensures (subst (λ cs. AreLeast cs c.in_ok-least.least.items) c.deref.ensures.value
    c.in_ok-least.ensures)
