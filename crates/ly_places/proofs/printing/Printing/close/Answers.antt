use Rattle.std.proofs.Common.{◌≡◌, ◌∙◌, ◌++◌, ◌∷◌, [], Err, Ok, ap, append_assoc, arith, codes, length, length-append}
use Rattle.std.proofs.Common.{◌-◌, reverse, sym}
use Rattle.std.specs.Prelude.{slice_get, vec_len}
use Rattle.ly_print.proofs.TextWriterLemmas.{appended_twice, failed_before}
use Rattle.ly_places.proofs.NodesLemmas.{last_taken, node_closes, node_ended}
use Rattle.ly_places.specs.Private.Printing.{closing}
use Rattle.ly_places.proofs.printing.Printing.close.Goals as goal

pub loop-behind-preserved : goal.loop-behind-preserved
loop-behind-preserved g c =
    let now = c.loop-behind in
    let xs = now.self.nodes.items in
    let ys = c.pop.new.self.items in
    let left = c.args.left in
    let taken : xs ≡ ys ++ c.in-Some.behind ∷ []
    = last_taken xs ys (vec_len now.self.nodes) c.in-Some.behind c.pop.result now.self.nodes.ok.0 c.pop.ensures.items
    c.pop.ensures.value
    (c.in-Some.ensures ∙ c.last.ensures.value ∙ ap (λ zs. slice_get zs (length zs - 1)) c.deref.ensures.value) in
    let closes = node_closes xs ys c.in-Some.behind left taken c.if-behind-left.false in
    let s = now.invariant.so_far in record {
      so_far = (
        s.0 ++ codes "]}",
        append_assoc s.0 (codes "]}") (closing left (reverse ys)) ∙ (ap (λ t. s.0 ++ t) (sym closes) ∙ s.1),
        appended_twice c.args.self.now.out now.self.out c.push_bytes.new.self _ _ _ s.0 (codes "]}") tt (Ok tt) s.2
            c.in_ok-push_bytes.ensures.text,
      );
      counted = omega (arith, now.invariant.counted, c.in_ok-push_bytes.ensures.counted, ap length closes);
      nodes = sym (node_ended xs ys c.in-Some.behind left taken c.if-behind-left.false) ∙ now.invariant.nodes;
      depth = omega (arith, now.invariant.depth, ap length taken, length-append ys (c.in-Some.behind ∷ []));
      capacity = c.pop.ensures.capacity ∙ now.invariant.capacity;
      no_failure = c.in_ok-push_bytes.ensures.no_failure ∙ now.invariant.no_failure;
    }

pub returns-in_err-push_bytes-clause-text : goal.returns-in_err-push_bytes-clause-text
returns-in_err-push_bytes-clause-text g c =
    let now = c.loop-behind in
    let xs = now.self.nodes.items in
    let ys = c.pop.new.self.items in
    let left = c.args.left in
    let taken : xs ≡ ys ++ c.in-Some.behind ∷ []
    = last_taken xs ys (vec_len now.self.nodes) c.in-Some.behind c.pop.result now.self.nodes.ok.0 c.pop.ensures.items
    c.pop.ensures.value
    (c.in-Some.ensures ∙ c.last.ensures.value ∙ ap (λ zs. slice_get zs (length zs - 1)) c.deref.ensures.value) in
    let s = now.invariant.so_far in
    let fault = c.in_err-push_bytes.field-0.0 in
    failed_before c.args.self.now.out c.push_bytes.new.self _ _ _ (s.0 ++ codes "]}") (closing left (reverse ys)) _ _
    fault
    (append_assoc s.0 (codes "]}") (closing left (reverse ys))
    ∙ (ap (λ t. s.0 ++ t) (sym (node_closes xs ys c.in-Some.behind left taken c.if-behind-left.false)) ∙ s.1))
    c.from_residual.ensures.1
    (appended_twice c.args.self.now.out now.self.out c.push_bytes.new.self _ _ _ s.0 (codes "]}") tt (Err fault) s.2
    c.in_err-push_bytes.ensures.text)
