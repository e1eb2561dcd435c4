use Rattle.std.proofs.Common.{◌∙◌, ◌++◌, ap, append_assoc, append-nil, codes, sym, subst, arith}
use Rattle.std.proofs.Common.{length, length-append, Err, Ok, None}
use Rattle.std.specs.Prelude.{vec_capacity}
use Rattle.ly_print.proofs.TextWriterLemmas.{appended_twice}
use Rattle.ly_tree.specs.Private.Printing.{left_text, term_text, IsOpen}
use Rattle.ly_tree.proofs.PrintingLemmas.{alone_inside, end_text, inside_left, open_inside, open_sibling}
use Rattle.ly_tree.proofs.PrintingLemmas.{printed_fails, sibling_left, sibling_text}
use Rattle.std.proofs.lemmas.List.{nil_from_length}
use Rattle.ly_tree.proofs.printing.Printing.go_on.Goals as goal

pub returns-in_err-push-clause-printed : goal.returns-in_err-push-clause-printed
returns-in_err-push-clause-printed g c f =
    let v = g.N.TermNotation.form c.args.notation.now in
    let now = c.loop-next in
    let s = now.invariant.so_far f in
    let fault = c.in_err-push.field-0.0 in
    let left = term_text v f c.in-Some.next.now ++ left_text v f now.self.waiting.items c.in-Some.others in
    printed_fails c.args.out.now c.push.new.self c.push.new.self _ _ (s.0 ++ codes ",") left _ _
    c.from_residual.result fault
    (append_assoc s.0 (codes ",") left
    ∙ (ap (λ t. s.0 ++ t) (sibling_text v f now.self.waiting.items now.self.others c.in-Some.others
    c.in-Some.next.now now.invariant.alone c.in-Some.ensures.cases.0)
    ∙ s.1))
    c.from_residual.ensures.1
    (appended_twice c.args.out.now now.out c.push.new.self _ _ _ s.0 (codes ",") tt (Err fault) s.2
    c.in_err-push.ensures.text)

pub returns-in-Some-clause-printed : goal.returns-in-Some-clause-printed
returns-in-Some-clause-printed g c f =
    let v = g.N.TermNotation.form c.args.notation.now in
    let now = c.loop-next in
    let s = now.invariant.so_far f in
    let left = term_text v f c.in-Some.next.now ++ left_text v f now.self.waiting.items c.in-Some.others in (
      s.0 ++ codes ",",
      append_assoc s.0 (codes ",") left
          ∙ (ap (λ t. s.0 ++ t) (sibling_text v f now.self.waiting.items now.self.others c.in-Some.others
          c.in-Some.next.now now.invariant.alone c.in-Some.ensures.cases.0)
          ∙ s.1),
      appended_twice c.args.out.now now.out c.push.new.self _ _ _ s.0 (codes ",") tt (Ok tt) s.2
          c.in_ok-push.ensures.text,
    )

pub returns-in-Some-clause-stands : goal.returns-in-Some-clause-stands
returns-in-Some-clause-stands g c f h =
    let now = c.loop-next in
    open_sibling f now.self.waiting.items now.self.others c.in-Some.others c.in-Some.next.now _
    c.in-Some.ensures.cases.0
    (now.invariant.stands f (vec_capacity now.self.waiting)
    (subst (λ room. IsOpen f c.args.self.now.waiting.items c.args.self.now.others None room)
    (sym now.invariant.capacity) h))

pub returns-in_default-pop-clause-printed : goal.returns-in_default-pop-clause-printed
returns-in_default-pop-clause-printed g c f =
    let v = g.N.TermNotation.form c.args.notation.now in
    let now = c.loop-next in
    let s = now.invariant.so_far f in
    let same = c.in_default-pop.ensures.items ∙ append-nil c.pop.new.self.items in (
      s.0,
      ap (λ ws. s.0 ++ left_text v f ws now.self.others) (sym same) ∙ s.1,
      s.2,
    )

pub returns-in_err-push_closes-clause-printed : goal.returns-in_err-push_closes-clause-printed
returns-in_err-push_closes-clause-printed g c f =
    let v = g.N.TermNotation.form c.args.notation.now in
    let now = c.loop-next in
    let s = now.invariant.so_far f in
    let fault = c.in_err-push_closes.field-0.0 in
    let left = left_text v f c.pop.new.self.items c.in-Some-pop.outer in
    printed_fails c.args.out.now c.push_closes.new.out c.push_closes.new.out _ _ (s.0 ++ v.closes)
    left _ _ c.from_residual-in_err-push_closes.result fault
    (append_assoc s.0 v.closes left
    ∙ (ap (λ t. s.0 ++ t) (end_text v f now.self.waiting.items c.pop.new.self.items now.self.others
    c.in-Some-pop.outer c.in-Some-pop.ensures.items
    (nil_from_length now.self.others.now c.in_default.ensures.cases))
    ∙ s.1))
    c.from_residual-in_err-push_closes.ensures.1
    (appended_twice c.args.out.now now.out c.push_closes.new.out _ _ _ s.0 v.closes tt (Err fault)
    s.2 c.in_err-push_closes.ensures.text)

pub loop-next-preserved : goal.loop-next-preserved
loop-next-preserved g c =
    let v = g.N.TermNotation.form c.args.notation.now in
    let now = c.loop-next in
    let none = nil_from_length now.self.others.now c.in_default.ensures.cases in
    let popped = c.in-Some-pop.ensures.items in record {
      alone = alone_inside now.self.waiting.items c.pop.new.self.items now.self.others c.in-Some-pop.outer popped
          now.invariant.alone;
      so_far = λ f.
          let s = now.invariant.so_far f in (
            s.0 ++ v.closes,
            append_assoc s.0 v.closes (left_text v f c.pop.new.self.items c.in-Some-pop.outer)
                ∙ (ap (λ t. s.0 ++ t) (end_text v f now.self.waiting.items c.pop.new.self.items now.self.others
                c.in-Some-pop.outer popped none)
                ∙ s.1),
            appended_twice c.args.out.now now.out c.push_closes.new.out _ _ _ s.0 v.closes tt
                (Ok tt) s.2 c.in_ok-push_closes.ensures.text,
          );
      counted = λ f. omega (
        arith,
        now.invariant.counted f,
        c.in_ok-push_closes.ensures.counted,
        ap length (end_text v f now.self.waiting.items c.pop.new.self.items now.self.others c.in-Some-pop.outer popped
            none),
        length-append v.closes (left_text v f c.pop.new.self.items c.in-Some-pop.outer),
      );
      fewer = λ f. omega (
        arith,
        now.invariant.fewer f,
        inside_left f now.self.waiting.items c.pop.new.self.items now.self.others c.in-Some-pop.outer popped,
      );
      stands = λ f room h. open_inside f now.self.waiting.items c.pop.new.self.items now.self.others
          c.in-Some-pop.outer room popped (now.invariant.stands f room h);
      capacity = c.pop.ensures.capacity ∙ now.invariant.capacity;
      no_failure = c.in_ok-push_closes.ensures.no_failure ∙ now.invariant.no_failure;
    }

pub returns-in-Some-clause-fewer : goal.returns-in-Some-clause-fewer
returns-in-Some-clause-fewer g c f = let now = c.loop-next in omega (
  arith,
  now.invariant.fewer f,
  sibling_left f now.self.waiting.items now.self.others c.in-Some.others c.in-Some.next.now c.in-Some.ensures.cases.0,
)

pub push-requires : goal.push-requires
push-requires g c =
    let v = g.N.TermNotation.form c.args.notation.now in
    let now = c.loop-next in
    let f = c.requires.countable.0 in
    let left = term_text v f c.in-Some.next.now ++ left_text v f now.self.waiting.items c.in-Some.others in record {
      countable = omega (
        arith,
        c.requires.countable.1,
        now.invariant.counted f,
        ap length (sibling_text v f now.self.waiting.items now.self.others c.in-Some.others c.in-Some.next.now
            now.invariant.alone c.in-Some.ensures.cases.0),
        length-append (codes ",") left,
      );
    }

pub push_closes-requires : goal.push_closes-requires
push_closes-requires g c =
    let v = g.N.TermNotation.form c.args.notation.now in
    let now = c.loop-next in
    let f = c.requires.countable.0 in
    let none = nil_from_length now.self.others.now c.in_default.ensures.cases in record {
      countable = omega (
        arith,
        c.requires.countable.1,
        now.invariant.counted f,
        ap length (end_text v f now.self.waiting.items c.pop.new.self.items now.self.others c.in-Some-pop.outer
            c.in-Some-pop.ensures.items none),
        length-append v.closes (left_text v f c.pop.new.self.items c.in-Some-pop.outer),
      );
    }
