use Rattle.std.proofs.Common.{◌≡◌, ◌<◌, [], ap, arith, get_or, length, map, sym, subst, ◌∙◌}
use Rattle.std.specs.BTreeSet.{contains}
use Rattle.std.specs.Ordering.{nat_cmp}
use Rattle.std.proofs.lemmas.List.{get_or_default, get_or-map, length-map, map-set}
use Rattle.ly_ere.specs.Private.Turns.{uses_at, uses_in}
use Rattle.ly_ere.proofs.TurnLemmas.{asleep, from_is, next_is, settled, uses_are, with_ready_is}
use Rattle.ly_ere.proofs.turns.Turns.settle.Goals as goal

pub next_use-at-requires-clause-within : goal.next_use-at-requires-clause-within
next_use-at-requires-clause-within c =
    let a = c.requires.1 in
    omega (
      arith,
      from_is c.args.self.now c.args.number c.requires.0 a c.index.result.now c.index.ensures,
      a.within c.args.number,
      ap length (uses_are c.args.self.now c.args.number c.requires.0 a _ _ c.deref.ensures.value),
    )

pub next_use-at-requires-clause-there : goal.next_use-at-requires-clause-there
next_use-at-requires-clause-there c k d l =
    let a = c.requires.1 in
    let is = uses_are c.args.self.now c.args.number c.requires.0 a _ _ c.deref.ensures.value in
    let within = subst (λ us. get_or us k d < length (uses_in c.args.self.now)) is
    (a.there c.args.number k d (omega (arith, l, ap length is))) in
    omega (arith, within, a.taken_counted, ap length c.deref-2.ensures.value)

pub index_mut-requires-then-at-len : goal.index_mut-requires-then-at-len
index_mut-requires-then-at-len c =
    let a = c.requires.1 in
    let is = uses_are c.args.self.now c.args.number c.requires.0 a _ _ c.deref.ensures.value in
    let within = a.there c.args.number c.next_use-at.result c.index-then-at-len.result.now
    (omega (arith, c.if-at-len.true, c.len.ensures, c.deref.ensures.len, ap length is)) in
    let same : get_or (uses_at (uses_in c.args.self.now) c.args.number) c.next_use-at.result
    c.index-then-at-len.result.now ≡ c.index-then-at-len.result.now
    = ap (λ us. get_or us c.next_use-at.result c.index-then-at-len.result.now) (is ∙ c.deref.ensures.value)
    ∙ sym c.index-then-at-len.ensures in
    omega (arith, within, same, a.waiting_counted, length-map c.args.self.now.waiting.items (λ v. v.items))

pub returns-in_ok-push-clause-turns : goal.returns-in_ok-push-clause-turns
returns-in_ok-push-clause-turns c rest a =
    let self = c.args.self.now in
    let is = uses_are self c.args.number rest a _ _ c.deref.ensures.value in
    let next = next_is self c.args.number rest a _ _ c.deref-2.result.now c.index.result.now c.next_use-at.result
    c.deref.ensures.value c.deref-2.ensures.value c.index.ensures c.next_use-at.ensures in
    let short : c.next_use-at.result < length (uses_at (uses_in self) c.args.number)
    = omega (arith, c.if-at-len.true, c.len.ensures, c.deref.ensures.len, ap length is) in
    let u : get_or (uses_at (uses_in self) c.args.number) c.next_use-at.result 0 ≡ c.index-then-at-len.result.now
    = get_or_default (uses_at (uses_in self) c.args.number) c.next_use-at.result 0 c.index-then-at-len.result.now short
    ∙ (ap (λ us. get_or us c.next_use-at.result c.index-then-at-len.result.now) (is ∙ c.deref.ensures.value)
    ∙ sym c.index-then-at-len.ensures) in
    let new = asleep _ _ _ _ _ _ c.args.number rest c.next_use-at.result a next short in
    let there : c.index-then-at-len.result.now < length self.waiting.items
    = omega (
      arith,
      a.there c.args.number c.next_use-at.result 0 short,
      u,
      a.waiting_counted,
      length-map self.waiting.items (λ v. v.items),
    ) in
    let old : c.index_mut-then-at-len.result.now.items
    ≡ uses_at (map (λ v. v.items) self.waiting.items) c.index-then-at-len.result.now
    = ap (λ v. v.items) c.index_mut-then-at-len.ensures.value
    ∙ sym (get_or-map (λ v. v.items) self.waiting.items c.index-then-at-len.result.now _ [] there) in
    rw (map-set, c.in_ok-push.ensures.items, old, ← u) new

pub returns-in_ok-insert-clause-turns : goal.returns-in_ok-insert-clause-turns
returns-in_ok-insert-clause-turns c rest a =
    let self = c.args.self.now in
    let is = uses_are self c.args.number rest a _ _ c.deref.ensures.value in
    let next = next_is self c.args.number rest a _ _ c.deref-2.result.now c.index.result.now c.next_use-at.result
    c.deref.ensures.value c.deref-2.ensures.value c.index.ensures c.next_use-at.ensures in
    settled _ _ _ _ _ _ c.args.number rest c.next_use-at.result a next (contains nat_cmp c.insert.new.self)
    (λ q. with_ready_is self.ready c.insert.new.self c.args.number c.in_ok-insert.ensures.updates.0 q)
    (omega (
      arith,
      c.if-at-len.false,
      c.len.ensures,
      c.deref.ensures.len,
      c.next_use-at.ensures.within,
      ap length is,
    ))
