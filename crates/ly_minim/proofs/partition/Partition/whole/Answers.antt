use Rattle.std.proofs.Common.{◌≡◌, ◌<◌, ◌^◌, ◌∙◌, ◌++◌, ◌∷◌, [], ℕ, ap, arith, length, refl, sym}
use Rattle.ly_minim.proofs.PartitionLemmas.{whole_laid}
use Rattle.ly_minim.proofs.partition.Partition.whole.Goals as goal

pub returns-clause-laid : goal.returns-clause-laid
returns-clause-laid c =
    let was = c.loop-state.invariant in
    let p = c.loop-state.partition in
    let all : c.loop-state.state ≡ c.args.states = (let e = c.loop-state.auto.state-end in
    let f = c.loop-state-test.false in omega arith) in
    let count : length p.of.items ≡ c.args.states = was.of_count ∙ all in
    let pos : 0 < length p.of.items = (let some = c.requires in omega (arith, count)) in
    let fits : length p.of.items < 2 ^ 32 = (let small = c.ranges.states.fits in omega (arith, count)) in
    let to : (i : ℕ) → i < length p.of.items → i < c.loop-state.state
    = λ i l. omega (arith, l, was.of_count) in
    let states_count : length p.states.items ≡ length p.of.items
    = (let a = was.states_count in let b = was.of_count in omega arith) in
    let place_count : length p.place.items ≡ length p.of.items
    = (let a = was.place_count in let b = was.of_count in omega arith) in
    let last : c.push-4.new.self.items ≡ length p.of.items ∷ [] = c.in_ok-push-6.ensures.items
    ∙ ap (λ xs. xs ++ c.args.states ∷ []) was.end ∙ ap (λ n. n ∷ []) (sym count) in
    whole_laid (length p.of.items) p.states.items p.place.items p.of.items c.push-2.new.self.items
    c.push-3.new.self.items c.push-4.new.self.items pos fits states_count place_count refl
    (λ i l. was.state_at i (to i l)) (λ i l. was.place_at i (to i l)) (λ i l. was.of_at i (to i l))
    (c.in_ok-push-4.ensures.items ∙ ap (λ xs. xs ++ 0 ∷ []) was.first)
    (c.in_ok-push-5.ensures.items ∙ ap (λ xs. xs ++ 0 ∷ []) was.middle) last
