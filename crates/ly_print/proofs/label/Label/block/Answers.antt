use Rattle.std.proofs.Common.{◌≡◌, ◌∙◌, ap, arith, length, length-take-le, sym, take}
use Rattle.std.proofs.lemmas.List.{take-take}
use Rattle.ly_print.proofs.label.Label.block.Goals as goal

pub returns-then-self-le-BLOCK-clause-front : goal.returns-then-self-le-BLOCK-clause-front
returns-then-self-le-BLOCK-clause-front c =
    let bytes = c.self.inside.bytes.items in
    let count = c.self.inside.count in
    let long : length c.args.self.now ≡ count
    = ap length (sym c.self.view_is) ∙ length-take-le count bytes (omega (arith, c.self.invariant)) in
    ap (λ n. take n (take 16 c.deref.result.now)) long
    ∙ ap (λ bs. take count (take 16 bs)) c.deref.ensures.value
    ∙ take-take count 16 bytes (omega (arith, c.if-self-le-BLOCK.true))
    ∙ c.self.view_is
