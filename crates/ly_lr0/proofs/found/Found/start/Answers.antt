use Rattle.std.proofs.Common.{◌≡◌, ◌∷◌, ◌-◌, [], ap, arith, length, map, subst, sym, ◌∙◌, ◌++◌, List}
use Rattle.std.specs.Prelude.{slice_index_or}
use Rattle.ly_lr0.specs.declared.item.Item.{Item}
use Rattle.ly_lr0.specs.Private.Built.{AreFound, link_of, transitions_of}
use Rattle.ly_lr0.specs.Transitions.{transition_of}
use Rattle.ly_lr0.proofs.StartLemmas.{found_start, no_rows, one_core}
use Rattle.ly_lr0.proofs.found.Found.start.Goals as goal

pub returns-then-limit-eq0-clause-many : goal.returns-then-limit-eq0-clause-many
returns-then-limit-eq0-clause-many c = λ _. one_core c.args.reduced.now.grammar c.requires.augmented c.requires.reduced
    c.args.limit c.if-limit-eq0.true

pub returns-clause-found : goal.returns-clause-found
returns-clause-found c =
    let G = c.args.reduced.now.grammar in
    let kernel : c.push.new.self.items ≡ record { rule = 0; dot = 0 } ∷ []
    = c.in_ok-push.ensures.items
    ∙ ap (λ (is : List Item). is ++ record { rule = 0; dot = 0 } ∷ []) c.new-kernel.ensures.items in
    let kernels : c.push-2.new.self ≡ (record { rule = 0; dot = 0 } ∷ []) ∷ []
    = c.in_ok-push-2.ensures ∙ ap (λ (ks : List (List Item)). ks ++ c.push.new.self.items ∷ []) c.new-kernels.ensures
    ∙ ap (λ (k : List Item). k ∷ []) kernel in
    record {
      augmented = c.requires.augmented;
      reduced = c.requires.reduced;
      found = subst (λ ls. AreFound G c.push-2.new.self (map link_of ls) (map transitions_of c.new-2.result.items))
          (sym c.new.ensures.items) (subst (λ rs. AreFound G c.push-2.new.self [] (map transitions_of rs))
          (sym c.new-2.ensures.items) (found_start G c.requires.augmented c.push-2.new.self kernels));
      rows = λ s r e. no_rows c.new-2.result.items s r c.new-2.ensures.items e;
      few = let one = ap length kernels in let some = c.if-limit-eq0.false in omega arith;
      last = ap (map transition_of) c.new-3.ensures.items
          ∙ sym (ap (λ rs. slice_index_or (map transitions_of rs) (length rs - 1) []) c.new-2.ensures.items);
    }
