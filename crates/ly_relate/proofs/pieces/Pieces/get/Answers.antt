use Rattle.std.proofs.Common.{◌≡◌, ◌∙◌, ◌+◌, ◌-◌, ◌*◌, ◌/◌, ◌%◌, ◌<◌, Some, ap, arith}
use Rattle.std.proofs.Common.{length, slice_get, subst, sym}
use Rattle.std.specs.Prelude.{flat_map}
use Rattle.std.proofs.lemmas.List.{length-append}
use Rattle.std.proofs.lemmas.Option.{slice_get-get_or}
use Rattle.ly_base.proofs.ListLemmas.{All-at}
use Rattle.ly_relate.specs.Private.Pieces.{elements_of}
use Rattle.ly_relate.proofs.PieceLemmas.{element_of_full, element_of_last, length-full}
use Rattle.ly_relate.proofs.pieces.Pieces.get.Goals as goal

pub index-requires-else-place-len : goal.index-requires-else-place-len
index-requires-else-place-len g c =
    let full = c.self.inside.full.items in
    let last = c.self.inside.last.items in
    let all : c.args.index < length (elements_of full last)
    = subst (λ xs. c.args.index < length xs) (sym c.self.view_is) c.requires in
    let long = length-append (flat_map (λ p. p.items) full) last in
    let many = length-full full c.self.invariant.0 in
    let a = c.self.inside.full.ok.0 in
    let b = c.self.inside.last.ok.0 in
    let e = c.len-else-place-len.ensures in
    let f = c.len.ensures in
    let past = c.if-place-len.false in
    omega (arith, all, long, many, a, b, e, f, past)

pub returns-then-place-len : goal.returns-then-place-len
returns-then-place-len g c =
    let full = c.self.inside.full.items in
    let last = c.self.inside.last.items in
    let i = c.args.index in
    let v = c.index.result.now in
    let x = c.index-then-place-len.result.now in
    let a = c.self.inside.full.ok.0 in
    let b = c.if-place-len.true in
    let f = c.len.ensures in
    let there : slice_get full (i / 4096) ≡ Some v
    = slice_get-get_or full (i / 4096) v (omega (arith, a, b, f)) ∙ ap (λ w. Some w) (sym c.index.ensures) in
    let one = All-at (λ q. length q.items ≡ 4096) full (i / 4096) v c.self.invariant.0 there in
    let here : slice_get v.items (i % 4096) ≡ Some x
    = slice_get-get_or v.items (i % 4096) x (omega (arith, one))
    ∙ ap (λ w. Some w) (sym c.index-then-place-len.ensures) in
    let place : i ≡ i / 4096 * 4096 + i % 4096 = omega arith in
    subst (λ xs. slice_get xs i ≡ Some x) c.self.view_is
    (ap (slice_get (elements_of full last)) place
    ∙ element_of_full full last c.self.invariant.0 (i / 4096) (i % 4096) v x there here)

pub returns-else-place-len : goal.returns-else-place-len
returns-else-place-len g c =
    let full = c.self.inside.full.items in
    let last = c.self.inside.last.items in
    let i = c.args.index in
    let n = c.len-else-place-len.result in
    let x = c.index-else-place-len.result.now in
    let all : i < length (elements_of full last) = subst (λ xs. i < length xs) (sym c.self.view_is) c.requires in
    let long = length-append (flat_map (λ p. p.items) full) last in
    let many = length-full full c.self.invariant.0 in
    let a = c.self.inside.full.ok.0 in
    let e = c.len-else-place-len.ensures in
    let f = c.len.ensures in
    let past = c.if-place-len.false in
    let here : slice_get last (i - n * 4096) ≡ Some x
    = slice_get-get_or last (i - n * 4096) x (omega (arith, all, long, many, a, e, f, past))
    ∙ ap (λ w. Some w) (sym c.index-else-place-len.ensures) in
    let place : i ≡ length full * 4096 + (i - n * 4096) = omega (arith, a, e, f, past) in
    subst (λ xs. slice_get xs i ≡ Some x) c.self.view_is
    (ap (slice_get (elements_of full last)) place
    ∙ element_of_last full last c.self.invariant.0 (i - n * 4096) x here)
