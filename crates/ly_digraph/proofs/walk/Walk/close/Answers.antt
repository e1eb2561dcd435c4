use Rattle.std.proofs.Common.{◌≡◌, ◌∙◌, ◌<◌, ◌+◌, length, get_or, set, take, sym, ap, subst, refl, arith, vec_len}
use Rattle.ly_digraph.specs.Search.{IsClosed}
use Rattle.ly_digraph.specs.declared.walk.Place.TheVariants.{Done}
use Rattle.ly_digraph.proofs.CloseLemmas.{close_first, close_more, pending_read}
use Rattle.ly_digraph.proofs.walk.Walk.close.Goals as goal

pub loop-position-init : goal.loop-position-init
loop-position-init c = record {
  closed = close_first c.requires.listed c.args.sets.now c.args.root.start c.args.root.node c.requires.root.0
      c.requires.root.1;
  pending = refl;
  cursors = refl;
  path = refl;
}

pub index_mut-requires-in-loop-position : goal.index_mut-requires-in-loop-position
index_mut-requires-in-loop-position c =
    let lt : c.loop-position.position < length c.args.self.now.pending.items
    = (let e = c.len-position-end.ensures in let ok = c.args.self.now.pending.ok.0 in omega arith) in
    let read : get_or c.args.self.now.pending.items c.loop-position.position 0 ≡ c.index-member.result.now =
    pending_read c.args.self.now.pending.items c.loop-position.self.pending.items c.loop-position.position
    c.index-member.result.now (ap (λ v. v.items) c.loop-position.invariant.pending) lt c.index-member.ensures in
    let inside : c.index-member.result.now < length c.args.self.now.places.items
    = subst (λ x. x < length c.args.self.now.places.items) read
    (c.requires.listed.pending c.loop-position.position lt).0 in
    (let same = c.loop-position.invariant.closed.places_len in let ok = c.loop-position.self.places.ok.0 in omega arith)

pub union_row-requires-clause-to : goal.union_row-requires-clause-to
union_row-requires-clause-to c =
    let lt : c.loop-position.position < length c.args.self.now.pending.items
    = (let e = c.len-position-end.ensures in let ok = c.args.self.now.pending.ok.0 in omega arith) in
    let read : get_or c.args.self.now.pending.items c.loop-position.position 0 ≡ c.index-member.result.now =
    pending_read c.args.self.now.pending.items c.loop-position.self.pending.items c.loop-position.position
    c.index-member.result.now (ap (λ v. v.items) c.loop-position.invariant.pending) lt c.index-member.ensures in
    let inside : c.index-member.result.now < length c.args.self.now.places.items
    = subst (λ x. x < length c.args.self.now.places.items) read
    (c.requires.listed.pending c.loop-position.position lt).0 in
    (let same = c.loop-position.invariant.closed.long in let rows = c.requires.rows in omega arith)

pub union_row-requires-clause-from : goal.union_row-requires-clause-from
union_row-requires-clause-from c =
    let inside : c.args.root.node < length c.args.self.now.places.items
    = subst (λ x. x < length c.args.self.now.places.items) c.requires.root.1
    (c.requires.listed.pending c.args.root.start c.requires.root.0).0 in
    (let same = c.loop-position.invariant.closed.long in let rows = c.requires.rows in omega arith)

pub loop-position-preserved : goal.loop-position-preserved
loop-position-preserved c =
    let lt : c.loop-position.position < length c.args.self.now.pending.items
    = (let e = c.len-position-end.ensures in let ok = c.args.self.now.pending.ok.0 in omega arith) in
    let read : get_or c.args.self.now.pending.items c.loop-position.position 0 ≡ c.index-member.result.now =
    pending_read c.args.self.now.pending.items c.loop-position.self.pending.items c.loop-position.position
    c.index-member.result.now (ap (λ v. v.items) c.loop-position.invariant.pending) lt c.index-member.ensures in
    let more = close_more c.requires.listed c.args.sets.now c.loop-position.sets c.loop-position.self.places.items
    c.args.root.start c.loop-position.position c.args.root.node c.index-member.result.now
    (let h = c.loop-position.auto.position in omega arith) lt c.requires.root.1 read c.requires.rows
    c.loop-position.invariant.closed in
    record {
      closed = subst (λ m. IsClosed c.args.sets.now m c.args.self.now.places.items
          (set c.loop-position.self.places.items c.index-member.result.now Done) c.args.root.start
          (c.loop-position.position + 1) c.args.root.node) (sym c.in_ok-union_row.ensures.united) more;
      pending = c.loop-position.invariant.pending;
      cursors = c.loop-position.invariant.cursors;
      path = c.loop-position.invariant.path;
    }

pub returns-clause-closed : goal.returns-clause-closed
returns-clause-closed c =
    let end : c.loop-position.position ≡ vec_len c.args.self.now.pending = (let a = c.loop-position.auto.position-end
    in let b = c.requires.root.0 in let e = c.args.self.now.pending.ok.0 in omega arith) in
    subst (λ k. IsClosed c.args.sets.now c.loop-position.sets c.args.self.now.places.items
    c.loop-position.self.places.items c.args.root.start k c.args.root.node) end c.loop-position.invariant.closed

pub returns-clause-pending : goal.returns-clause-pending
returns-clause-pending c = c.truncate.ensures.items
    ∙ ap (λ v. take c.args.root.start v.items) c.loop-position.invariant.pending

pub returns-clause-cursors : goal.returns-clause-cursors
returns-clause-cursors c = c.loop-position.invariant.cursors

pub returns-clause-path : goal.returns-clause-path
returns-clause-path c = c.loop-position.invariant.path
