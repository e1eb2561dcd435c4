use Rattle.std.proofs.Common.{◌≡◌, ◌∙◌, ap, arith, length, length-take, take}
use Rattle.std.proofs.lemmas.List.{take-take}
use Rattle.ly_print.proofs.front.Front.block.Goals as goal

pub returns-then-self-ge-BLOCK-clause-front : goal.returns-then-self-ge-BLOCK-clause-front
returns-then-self-ge-BLOCK-clause-front c =
    let bytes = c.self.inside.bytes.now in
    let count = c.self.inside.count in
    let long : length c.args.self.now ≡ count
    = omega (arith, ap length c.self.view_is, length-take count bytes, c.self.invariant) in
    ap (λ n. take n (take 16 bytes)) long
    ∙ take-take count 16 bytes c.if-self-le-BLOCK.true
    ∙ c.self.view_is
