use Rattle.std.proofs.Common.{◌≡◌, ◌+◌, ◌∙◌, ℕ, ap, arith, get_or, inr, length, refl, subst, sym}
use Rattle.ly_minim.specs.Private.Groups.{AreGrouped}
use Rattle.ly_minim.specs.Private.Halves.{AreUnions}
use Rattle.ly_minim.specs.Private.Partition.{AreTouched, home}
use Rattle.ly_minim.proofs.SplitByLemmas.{finer_more, keyed_of, marks_more, of_keyed, splitting_more}
use Rattle.ly_minim.proofs.SplitByLemmas.{touched_next}
use Rattle.ly_minim.proofs.partition.Partition.split_by.Goals as goal

pub loop-key-preserved : goal.loop-key-preserved
loop-key-preserved c =
    let was = c.loop-key.invariant in
    let done = c.in_ok-mark_group.ensures in
    let size : length c.loop-key.self.of.items ≡ length c.args.self.now.of.items = ap length was.same.of in
    record {
      laid = done.laid;
      same = record { of = done.same.of ∙ was.same.of; first = done.same.first ∙ was.same.first };
      touched = done.touched;
      marked = λ key grouped s l. marks_more c.loop-key.self c.mark_group.new.self key c.args.keys.now
          c.loop-key.key-index (get_or c.args.keys.now c.loop-key.key-index 0) s (was.marked key grouped s l)
          (done.marked key (subst (λ n. AreGrouped n key c.args.groups.now.last c.args.groups.now.before)
          (sym size) grouped) s (omega (arith, l, size))) refl;
    }

pub loop-block-init : goal.loop-block-init
loop-block-init c =
    let start = c.args.self.now in
    let now = c.loop-key.self in
    let keys = c.args.keys.now in
    let was = c.loop-key.invariant in
    let end : c.loop-key.key-index ≡ length keys = (let le = c.loop-key.auto.key-index-end in
    let ge = c.loop-key-test.false in omega arith) in
    let same : (s : ℕ) → home now s ≡ home start s = λ s. ap (λ xs. get_or xs s 0) was.same.of in
    record {
      laid = was.laid;
      count = ap length was.same.of;
      more = omega (arith, ap length was.same.first);
      finer = λ s t l m e. sym (same s) ∙ e ∙ same t;
      touched = subst (λ ts. AreTouched now 0 ts) (sym c.deref-block-items.ensures.value) was.touched;
      halves = subst (λ xs. AreUnions xs c.args.halves.now.items) (sym was.same.of) c.requires.halves;
      balance = ap (λ n. length c.args.halves.now.items + n) (sym (ap length was.same.first));
      splitting = λ key grouped. record {
        settled = λ s l. inr (
          λ is. keyed_of key keys c.loop-key.key-index s end ((was.marked key grouped s l).0 is),
          λ has. (was.marked key grouped s l).1 (of_keyed key keys c.loop-key.key-index s end has),
        );
        apart = λ s t l m e ne. absurd (ne (same s ∙ e ∙ sym (same t)));
      };
    }

pub loop-block-preserved : goal.loop-block-preserved
loop-block-preserved c =
    let start = c.args.self.now in
    let old = c.loop-block.self in
    let new = c.split.new.self in
    let items = c.deref-block-items.result.now in
    let i = c.loop-block.block-index in
    let b = get_or items i 0 in
    let was = c.loop-block.invariant in
    let done = c.in_ok-split.ensures in
    record {
      laid = done.split.laid;
      count = done.split.count ∙ was.count;
      more = let before = was.more in let after = done.split.more in omega arith;
      finer = finer_more start old new b was.laid was.count done.split was.finer;
      touched = touched_next start old new b was.laid was.count done.split i items refl was.touched;
      halves = done.halves;
      balance = let before = was.balance in let after = done.balance in omega arith;
      splitting = λ key grouped. splitting_more start old new b was.laid was.count done.split key c.args.keys.now
          (was.splitting key grouped);
    }

pub returns-clause-apart : goal.returns-clause-apart
returns-clause-apart c = λ key grouped. (c.loop-block.invariant.splitting key grouped).apart
