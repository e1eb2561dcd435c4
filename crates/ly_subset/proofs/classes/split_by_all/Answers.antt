use Rattle.std.proofs.Common.{◌≡◌, ◌∙◌, ap, arith, subst, sym, replicate}
use Rattle.std.proofs.lemmas.List.{get_or-replicate}
use Rattle.ly_subset.specs.Classes.{class_at}
use Rattle.ly_subset.specs.Private.Classes.{IsSplitBy}
use Rattle.ly_subset.proofs.ClassLemmas.{split_by_more, split_by_none}
use Rattle.ly_subset.proofs.classes.split_by_all.Goals as goal

pub loop-number-init : goal.loop-number-init
loop-number-init c =
    let zeros : c.in_ok-class_of.class_of.items ≡ replicate 256 0
    = c.in_ok-class_of.ensures.items_if_clones_equal (λ y h. h) in
    record {
      split = split_by_none c.args.nfa.now c.in_ok-class_of.class_of.items (sym c.in_ok-class_of.class_of.ok.0
          ∙ c.in_ok-class_of.ensures.len)
          (λ b l. ap (λ cs. class_at cs b) zeros ∙ get_or-replicate 256 b 0 0 l);
      room = sym c.in_ok-names.names.ok.0 ∙ c.in_ok-names.ensures.len;
    }

pub loop-number-preserved : goal.loop-number-preserved
loop-number-preserved c = record {
  split = split_by_more c.args.nfa.now c.loop-number.number c.loop-number.class_of.items c.split.new.class_of.items
      c.position.result c.position.ensures c.loop-number.invariant.split c.split.ensures.split;
  room = c.split.ensures.names;
}

pub returns : goal.returns
returns c = subst (λ n. IsSplitBy c.args.nfa.now n c.loop-number.class_of.items)
    (let count = c.in-Ok.ensures in let all = c.len.ensures in let end = c.loop-number.auto.number-end in omega
    arith) c.loop-number.invariant.split
