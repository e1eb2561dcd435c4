use Rattle.std.proofs.Common.{◌≡◌, ◌+◌, ◌<◌, ◌^◌, arith, subst, sym}
use Rattle.std.specs.Prelude.{IfSome, Some, vec_capacity}
use Rattle.ly_tree.proofs.LineLemmas.{line_within, may_begin}
use Rattle.ly_tree.proofs.StandLemmas.{known_stands}
use Rattle.ly_tree.specs.Costs.{budget}
use Rattle.ly_tree.specs.Private.Printing.{term_at, IsOpen}
use Rattle.ly_tree.specs.Written.{IsWithin}
use Rattle.ly_tree.proofs.forest.Forest.line.Goals as goal

pub invariant_of-result : goal.invariant_of-result
invariant_of-result g c =
    let f = c.args.self.now in
    let v = g.N.TermNotation.form c.args.notation.now in
    let most = c.in_ok-most.most in
    let stands = known_stands f c.args.root c.requires.known in
    let paid = c.requires.paid (term_at f c.args.root) stands in
    let within = subst (λ o. IfSome o (λ m. IsWithin v m.of_term m.of_byte)) c.in_ok-most.ensures.ok_part
    c.most.ensures in
    let longest = subst
    (λ o. IfSome o (λ n. (n ≡ most.of_term + budget most.of_term most.of_byte f) × (n < 2 ^ 64)))
    c.in_ok-ok_or.ensures.ok_part c.longest_line.ensures in
    let line = line_within v f c.args.root most.of_term most.of_byte c.in_ok-ok_or.field-0 within
    (c.are_bytes.ensures c.args.root (term_at f c.args.root) stands) paid longest.0 in (
      c.in_ok-new.ensures,
      c.in_ok-with_capacity.ensures.items,
      subst (λ ws. IsOpen f ws c.no_children.result (Some c.args.root) (vec_capacity c.in_ok-with_capacity.field-0))
          (sym c.in_ok-with_capacity.ensures.items)
          (may_begin f c.args.root c.no_children.result _ c.requires.known paid c.no_children.ensures
          (omega (arith, c.most_terms.ensures, c.in_ok-with_capacity.ensures.capacity))),
      omega (arith, line, longest.1),
    )
