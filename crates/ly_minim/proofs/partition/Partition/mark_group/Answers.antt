use Rattle.std.proofs.Common.{◌≡◌, ◌<◌, ◌++◌, ◌∷◌, ◌∙◌, [], ap, arith, get_or, length, sym, subst, refl}
use Rattle.std.proofs.lemmas.List.{get_or_default}
use Rattle.ly_subset.specs.Automaton.{entry_at}
use Rattle.ly_minim.specs.Private.Partition.{AreTouched, home}
use Rattle.ly_minim.proofs.PartitionLemmas.{IsMarkedTo, chain_more, chain_start, past_falls, touched_more, touched_same}
use Rattle.ly_minim.proofs.partition.Partition.mark_group.Goals as goal
use Rattle.ly_minim.proofs.partition.Partition.mark_group.Goals.{then-index+in_ok-push, else-index}

pub loop-next-init : goal.loop-next-init
loop-next-init c =
    let last = c.args.groups.now.last in
    let at : c.get-next.result ≡ entry_at last c.args.key = c.get-next.ensures in
    record {
      laid = c.requires.laid;
      same = record { of = refl; first = refl };
      touched = c.requires.touched;
      within = λ s e. c.requires.chains.within c.args.key s (sym at ∙ e);
      marked = λ of grouped. subst (λ o. IsMarkedTo of c.args.key o c.args.self.now c.args.self.now) (sym at)
          (chain_start of c.args.key last c.args.groups.now.before c.args.self.now c.requires.chains grouped);
    }

pub loop-next-smaller : goal.loop-next-smaller
loop-next-smaller c =
    let before = c.args.groups.now.before in
    let t = c.in-Some.state in
    let less : t < length c.args.self.now.of.items = c.loop-next.invariant.within t c.in-Some.is in
    let at : c.get-next-in-Some.result ≡ entry_at before t = c.get-next-in-Some.ensures in
    past_falls c.loop-next.next t c.get-next-in-Some.result c.in-Some.is
    (λ s e. c.requires.chains.falls s t (sym at ∙ e))

pub loop-next-preserved : goal.loop-next-preserved
loop-next-preserved c =
    let before = c.args.groups.now.before in
    let t = c.in-Some.state in
    let was = c.loop-next.invariant in
    let less : t < length c.args.self.now.of.items = was.within t c.in-Some.is in
    let at : c.get-next-in-Some.result ≡ entry_at before t = c.get-next-in-Some.ensures in
    let here : t < length c.loop-next.self.of.items = omega (arith, less, ap length was.same.of) in
    let block : c.index-block.result.now ≡ home c.loop-next.self t = c.index-block.ensures
    ∙ get_or_default c.loop-next.self.of.items t c.index-block.result.now 0 here in
    let self = c.loop-next.self in
    let home_less : home self t < length self.first.items = was.laid.within t here in
    let less_first : c.index-block.result.now < length self.first.items = omega (arith, block, home_less) in
    let less_middle : c.index-block.result.now < length self.middle.items
    = (let same = was.laid.middle_count in omega (arith, less_first)) in
    let middle : c.index.result.now ≡ get_or self.middle.items (home self t) 0 = c.index.ensures
    ∙ get_or_default self.middle.items c.index-block.result.now c.index.result.now 0 less_middle
    ∙ ap (λ b. get_or self.middle.items b 0) block in
    let first : c.index-in-Some.result.now ≡ get_or self.first.items (home self t) 0 = c.index-in-Some.ensures
    ∙ get_or_default self.first.items c.index-block.result.now c.index-in-Some.result.now 0 less_first
    ∙ ap (λ b. get_or self.first.items b 0) block in
    record {
      laid = c.mark.ensures.laid;
      same = record {
        of = c.mark.ensures.same.of ∙ was.same.of;
        first = c.mark.ensures.same.first ∙ was.same.first;
      };
      touched = elim c.if-index.branch [
        | then-index+in_ok-push w ↦ subst (λ ts. AreTouched c.mark.new.self 0 ts)
            (ap (λ b. c.loop-next.touched.items ++ b ∷ []) (sym block) ∙ sym w.in_ok-push.ensures.items
            ∙ ap (λ v. v.items) (sym w.touched-is))
            (touched_more t self c.mark.new.self c.mark.ensures c.loop-next.touched.items was.touched home_less)
        | else-index w ↦ subst (λ ts. AreTouched c.mark.new.self 0 ts) (ap (λ v. v.items) (sym w.touched-is))
            (touched_same t self c.mark.new.self c.mark.ensures c.loop-next.touched.items was.touched
            (λ is. w.if-index.false (middle ∙ is ∙ sym first)))
      ];
      within = λ s e. omega (arith, c.requires.chains.falls s t (sym at ∙ e), less);
      marked = λ of grouped. subst (λ o. IsMarkedTo of c.args.key o c.args.self.now c.mark.new.self) (sym at)
          (chain_more of c.args.key c.args.groups.now.last before c.args.self.now c.requires.chains grouped t
          c.loop-next.self c.mark.new.self less
          (subst (λ o. IsMarkedTo of c.args.key o c.args.self.now c.loop-next.self) c.in-Some.is
          (was.marked of grouped))
          was.same c.mark.ensures);
    }
