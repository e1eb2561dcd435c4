use Rattle.std.proofs.Common.{◌≡◌, ◌<◌, ◌≤◌, ◌+◌, ◌*◌, ◌∙◌, ap, arith, length, length-set, refl, subst, sym}
use Rattle.std.proofs.Common.{None}
use Rattle.std.proofs.Common.{get_or-set_other}
use Rattle.std.proofs.lemmas.List.{get_or_read}
use Rattle.ly_base.specs.ByteSet.{has}
use Rattle.ly_subset.specs.Automaton.{entry_at}
use Rattle.ly_subset.specs.Private.Classes.{AreNamed, key_by}
use Rattle.ly_subset.proofs.ClassLemmas.{bit_is, bit_small, key_read, named_known, named_new, named_none, split_named}
use Rattle.ly_subset.proofs.classes.rename.Goals as goal
use Rattle.ly_subset.proofs.classes.rename.Goals.{in-Some, in-None}

pub overflow_cast-class : goal.overflow_cast-class
overflow_cast-class c = let few = c.loop-byte.invariant.named.few in omega arith

pub overflow_add-count : goal.overflow_add-count
overflow_add-count c = let few = c.loop-byte.invariant.named.few in omega arith

pub loop-byte-init : goal.loop-byte-init
loop-byte-init c = record {
  bytes = c.requires.bytes;
  room = c.requires.names;
  rest = λ k l. refl;
  named = named_none _ _ _ c.requires.none;
}

pub loop-byte-preserved : goal.loop-byte-preserved
loop-byte-preserved c =
    let was = c.loop-byte.invariant in
    let n = c.loop-byte.byte in
    let class_of = c.loop-byte.class_of.items in
    let names = c.loop-byte.names.items in
    let by = key_by c.args.class_of.now.items (has c.args.bytes.now) in
    let fits : n < length class_of = let bytes = was.bytes in omega arith in
    let key : 2 * c.from.result + c.from-in-loop-byte.result ≡ by n = key_read c.args.class_of.now.items class_of
    (has c.args.bytes.now) n c.index.result.now c.from.result c.from-in-loop-byte.result fits c.index.ensures
    c.from.ensures (c.from-in-loop-byte.ensures ∙ bit_is _ _ c.contains.ensures) (was.rest n (omega arith)) in
    let bit : c.from-in-loop-byte.result ≤ 1 = omega (
      arith,
      c.from-in-loop-byte.ensures,
      bit_small
          c.contains.result,
    ) in
    let room : by n < length names = let given = c.index.type_inv in let all = was.room in
    omega (arith, key, c.from.ensures, bit) in
    let read : c.index-in-loop-byte.result.now ≡ entry_at names (by n)
    = get_or_read names _ _ (subst (λ k. k < length names) (sym key) room) c.index-in-loop-byte.ensures None
    ∙ ap (entry_at names) key in
    record {
      bytes = length-set class_of n c.match-index.class ∙ was.bytes;
      room = elim c.match-index.branch [
        | in-Some w ↦ ap (λ v. length v.items) w.names-is ∙ was.room
        | in-None w ↦ ap (λ v. length v.items) w.names-is ∙ length-set names _ _ ∙ was.room
      ];
      rest = λ k l. get_or-set_other class_of n k c.match-index.class 0 (λ e. absurd (omega (arith, l, e)))
          ∙ was.rest k (omega (arith, l));
      named = elim c.match-index.branch [
        | in-Some w ↦ rw (ap (λ v. v.items) w.names-is, w.count-is, w.class-is)
            (named_known by n class_of names c.loop-byte.count fits was.named w.in-Some.class (sym read ∙ w.in-Some.is))
        | in-None w ↦ rw (ap (λ v. v.items) w.names-is, w.count-is, w.class-is, key)
            (named_new by n class_of names c.loop-byte.count fits was.named room (sym read ∙ w.in-None.is))
      ];
    }

pub returns-clause-split : goal.returns-clause-split
returns-clause-split c = split_named _ _ _ c.loop-byte.names.items c.loop-byte.count c.loop-byte.invariant.bytes
    (let e = c.loop-byte.auto.byte-end in let done : c.loop-byte.byte ≡ 256 = omega arith in
    subst (λ n. AreNamed (key_by c.args.class_of.now.items (has c.args.bytes.now)) n c.loop-byte.class_of.items
    c.loop-byte.names.items c.loop-byte.count) done c.loop-byte.invariant.named)
