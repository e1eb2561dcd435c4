use Rattle.std.proofs.Common.{◌≡◌, ◌∙◌, ◌<◌, ap, subst, sym, arith, length}
use Rattle.std.specs.FinSet as set
use Rattle.ly_sets.specs.NumberSet.{set_of, AllBelow}
use Rattle.ly_sets.proofs.MatrixLemmas.{AllBelow-insert, written, row_set-whole}
use Rattle.ly_sets.proofs.term_set.TermSet.insert.Goals as goal

pub invariant_of-self : goal.invariant_of-self
invariant_of-self c =
    let len : length c.insert_bit.new.words ≡ c.self.inside.words.len
    = omega (arith, c.insert_bit.auto.words, c.deref_mut.ensures.len) in
    let old : set_of c.deref_mut.result.now ≡ set_of c.self.inside.words.items = ap set_of c.deref_mut.ensures.value in
    let new : set_of c.insert_bit.new.words ≡ set.insert (set_of c.self.inside.words.items) c.args.symbol.0 =
    sym (row_set-whole c.insert_bit.new.words c.len-len.result (omega (arith, len))) ∙ c.insert_bit.ensures.added
    ∙ ap (λ s. set.insert s c.args.symbol.0) (row_set-whole c.deref_mut.result.now c.len-len.result (omega arith) ∙ old)
    in
    let below : c.args.symbol.0 < c.self.inside.width
    = subst (λ w. c.args.symbol.0 < w) (sym (ap (λ s. s.width) c.self.view_is)) c.requires in (
      c.self.invariant.0,
      subst (λ s. AllBelow c.self.inside.width s)
          (sym (ap set_of (written c.self.inside.words.len c.insert_bit.new.words c.self.inside.words.items len) ∙ new))
          (AllBelow-insert c.self.inside.width c.args.symbol.0 (set_of c.self.inside.words.items) c.self.invariant.1
          below),
    )
