use Rattle.std.proofs.Common.{◌≡◌, ◌<◌, ◌≤◌, ◌+◌, ◌^◌, [], ℕ, Option, Some, None, ap, arith, length, subst, ◌*◌}
use Rattle.std.specs.Prelude.{All, IfSome}
use Rattle.ly_places.proofs.LengthLemmas.{parts_len}
use Rattle.ly_feed.specs.NameMembers.{vocabulary_in}
use Rattle.ly_places.proofs.part_notation.PartNotation.longest_line.Goals as goal

-- what is as long as a line may be is enough for it
enough : (o : Option ℕ) (n most : ℕ) → IfSome o (λ m. (m ≡ 1 + n) × (m < 2 ^ 64)) → most ≤ 2 * 0 + n
    → IfSome o (λ m. (most + 1 ≤ m) × (m < 2 ^ 64))
enough None n most is within = tt
enough (Some m) n most is within = (omega (arith, is.0, within), is.1)

pub returns : goal.returns
returns c =
    let n = c.args.self.now in
    let fits : length n.lines < 2 ^ 63 = omega (arith, c.text.type_inv, ap length c.text.ensures) in
    enough c.most_bytes.result _ _ c.most_bytes.ensures
    (parts_len (vocabulary_in n.names) n.lines c.longest.result fits
    (subst (All (λ b. b < 256)) c.text.ensures c.are_bytes.ensures) c.longest.ensures.leaves c.longest.ensures.nodes
    c.in_ok-checked_add.field-0 c.in_ok-checked_add.ensures.1 [] c.args.parts.now c.requires)
