use Rattle.std.proofs.Common.{◌≡◌, ◌∙◌, ◌*◌, ap, arith, length}
use Rattle.std.proofs.Math.Nat.{mul_comm}
use Rattle.ly_tree.proofs.LineLemmas.{budget_is, long_bytes, some_is}
use Rattle.ly_tree.specs.Costs.{bytes_in}
use Rattle.ly_tree.specs.Private.Grown.{lists_from}
use Rattle.ly_tree.proofs.forest.Forest.longest_line.Goals as goal

pub returns : goal.returns
returns c =
    let each = c.args.most.of_term in
    let byte = c.args.most.of_byte in
    let lists = lists_from c.self.inside.texts c.self.inside.long_leaves c.self.inside.long_nodes.items in
    let rs = c.self.inside.children.items in
    let terms : c.in_ok-terms.terms ≡ each * length rs
    = c.in_ok-terms.ensures.1 ∙ mul_comm c.len.result each ∙ ap (λ n. each * n) (omega (arith, c.len.ensures)) in
    let bytes : c.in_ok-bytes.bytes ≡ bytes_in lists
    = omega (
      arith,
      c.in_ok-bytes.ensures.1,
      c.len-2.ensures,
      c.members.ensures,
      long_bytes c.self.inside.long_leaves c.self.inside.texts c.self.inside.long_nodes.items,
    ) in
    let of_bytes : c.in_ok-of_bytes.of_bytes ≡ byte * bytes_in lists
    = c.in_ok-of_bytes.ensures.1 ∙ mul_comm c.in_ok-bytes.bytes byte ∙ ap (λ n. byte * n) bytes in
    some_is c.checked_add-3.result _ _ _ c.checked_add-3.ensures
    (omega (
      arith,
      terms,
      of_bytes,
      c.in_ok-checked_add.ensures.1,
      budget_is lists rs c.args.self.now each byte c.self.view_is,
    ))
