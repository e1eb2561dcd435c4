use Rattle.std.proofs.Common.{ap, arith, length, length-append, subst, sym}
use Rattle.std.specs.Prelude.{Some}
use Rattle.std.proofs.lemmas.List.{nil_from_length}
use Rattle.ly_tree.specs.Private.Printing.{left_text, opening, term_at, terms_left, HasChildren, IsOpen}
use Rattle.ly_tree.proofs.PrintingLemmas.{around_left, behind_left, child_text, childless_text, fewer_than, open_around}
use Rattle.ly_tree.proofs.PrintingLemmas.{open_sibling, opened_before, printed_fails, printed_on, sibling_left}
use Rattle.ly_tree.proofs.PrintingLemmas.{whole_text}
use Rattle.ly_tree.proofs.printing.Printing.print.Goals as goal

pub returns-in_err-children-clause-printed : goal.returns-in_err-children-clause-printed
returns-in_err-children-clause-printed g c =
    let v = g.N.TermNotation.form c.args.notation.now in
    let more = opened_before v c.args.forest.now c.args.term
    (left_text v c.args.forest.now c.args.self.now.waiting.items c.args.self.now.others) in
    printed_fails c.args.out.now c.begin.new.out c.begin.new.out _ _
    (opening v (term_at c.args.forest.now c.args.term)) more.0 _ _ c.from_residual.result c.in_err-children.field-0.0
    more.1 c.from_residual.ensures.1 c.in_err-children.ensures.text

pub go_on-requires-clause-countable : goal.go_on-requires-clause-countable
go_on-requires-clause-countable g c =
    let v = g.N.TermNotation.form c.args.notation.now in
    let f = c.args.forest.now in
    let self = c.args.self.now in
    let opened = opening v (term_at f c.args.term) in (
      f,
      omega (
        arith,
        c.requires.countable,
        c.in_ok-children.ensures.counted,
        length-append opened (left_text v f self.waiting.items self.others),
        ap length (whole_text v f self.waiting.items self.others c.args.term
            (subst (HasChildren f c.args.term) c.in_default.is c.in_ok-children.ensures.children)),
      ),
    )

pub returns-in_default-clause-printed : goal.returns-in_default-clause-printed
returns-in_default-clause-printed g c =
    let v = g.N.TermNotation.form c.args.notation.now in
    let f = c.args.forest.now in
    let self = c.args.self.now in
    printed_on c.args.out.now c.begin.new.out c.go_on.new.out _ _ _ (opening v (term_at f c.args.term)) _ _ _
    c.go_on.result
    (whole_text v f self.waiting.items self.others c.args.term
    (subst (HasChildren f c.args.term) c.in_default.is c.in_ok-children.ensures.children))
    c.in_ok-children.ensures.text (c.go_on.ensures.printed f)

pub returns-in_default-clause-fewer : goal.returns-in_default-clause-fewer
returns-in_default-clause-fewer g c =
    let f = c.args.forest.now in
    let self = c.args.self.now in
    fewer_than (λ next. terms_left f next c.go_on.new.self.waiting.items c.go_on.new.self.others) _ _ c.go_on.result
    (behind_left f self.waiting.items self.others c.args.term) (c.go_on.ensures.fewer f)

pub go_on-requires-in_default-split_first-clause-countable : goal.go_on-requires-in_default-split_first-clause-countable
go_on-requires-in_default-split_first-clause-countable g c =
    let v = g.N.TermNotation.form c.args.notation.now in
    let f = c.args.forest.now in
    let self = c.args.self.now in
    let ws = c.push_reserved.new.self.items in (
      f,
      omega (
        arith,
        c.requires.countable,
        c.in_ok-children.ensures.counted,
        length-append (opening v (term_at f c.args.term)) (left_text v f ws c.in-Some.children),
        ap length (childless_text v f ws self.waiting.items self.others c.in-Some.children c.args.term
            c.push_reserved.ensures.items
            (subst (HasChildren f c.args.term) c.in-Some.is c.in_ok-children.ensures.children)
            (nil_from_length c.in-Some.children.now c.in_default-split_first.ensures.cases)),
      ),
    )

pub returns-in_default-split_first-clause-printed : goal.returns-in_default-split_first-clause-printed
returns-in_default-split_first-clause-printed g c =
    let v = g.N.TermNotation.form c.args.notation.now in
    let f = c.args.forest.now in
    let self = c.args.self.now in
    let end = c.go_on-in_default-split_first in
    printed_on c.args.out.now c.begin.new.out end.new.out _ _ _ (opening v (term_at f c.args.term)) _ _ _ end.result
    (childless_text v f c.push_reserved.new.self.items self.waiting.items self.others c.in-Some.children c.args.term
    c.push_reserved.ensures.items
    (subst (HasChildren f c.args.term) c.in-Some.is c.in_ok-children.ensures.children)
    (nil_from_length c.in-Some.children.now c.in_default-split_first.ensures.cases))
    c.in_ok-children.ensures.text (end.ensures.printed f)

pub returns-in_default-split_first-clause-fewer : goal.returns-in_default-split_first-clause-fewer
returns-in_default-split_first-clause-fewer g c =
    let f = c.args.forest.now in
    let self = c.args.self.now in
    let end = c.go_on-in_default-split_first in
    fewer_than (λ next. terms_left f next end.new.self.waiting.items end.new.self.others) _ _ end.result
    (around_left f c.push_reserved.new.self.items self.waiting.items self.others c.in-Some.children c.args.term
    c.push_reserved.ensures.items (subst (HasChildren f c.args.term) c.in-Some.is c.in_ok-children.ensures.children))
    (end.ensures.fewer f)

pub returns-in_default-split_first-clause-stands : goal.returns-in_default-split_first-clause-stands
returns-in_default-split_first-clause-stands g c =
    let f = c.args.forest.now in
    let self = c.args.self.now in
    c.go_on-in_default-split_first.ensures.stands f
    (open_around f c.push_reserved.new.self.items self.waiting.items self.others c.in-Some.children c.args.term _
    c.push_reserved.ensures.items
    (subst (HasChildren f c.args.term) c.in-Some.is c.in_ok-children.ensures.children)
    (subst (λ room. IsOpen f self.waiting.items self.others (Some c.args.term) room)
    (sym c.push_reserved.ensures.capacity) c.requires.stands))

pub returns-clause-printed : goal.returns-clause-printed
returns-clause-printed g c =
    let v = g.N.TermNotation.form c.args.notation.now in
    let f = c.args.forest.now in
    let self = c.args.self.now in (
      opening v (term_at f c.args.term),
      child_text v f c.push_reserved.new.self.items self.waiting.items self.others c.in-Some.children
          c.in-Some-split_first.others c.args.term c.in-Some-split_first.first.now c.push_reserved.ensures.items
          (subst (HasChildren f c.args.term) c.in-Some.is c.in_ok-children.ensures.children)
          c.in-Some-split_first.ensures.cases.0,
      c.in_ok-children.ensures.text,
    )

pub returns-clause-fewer : goal.returns-clause-fewer
returns-clause-fewer g c =
    let f = c.args.forest.now in
    let self = c.args.self.now in
    omega (
      arith,
      sibling_left f c.push_reserved.new.self.items c.in-Some.children c.in-Some-split_first.others
          c.in-Some-split_first.first.now c.in-Some-split_first.ensures.cases.0,
      around_left f c.push_reserved.new.self.items self.waiting.items self.others c.in-Some.children c.args.term
          c.push_reserved.ensures.items
          (subst (HasChildren f c.args.term) c.in-Some.is c.in_ok-children.ensures.children),
    )

pub returns-clause-stands : goal.returns-clause-stands
returns-clause-stands g c =
    let f = c.args.forest.now in
    let self = c.args.self.now in
    open_sibling f c.push_reserved.new.self.items c.in-Some.children c.in-Some-split_first.others
    c.in-Some-split_first.first.now _ c.in-Some-split_first.ensures.cases.0
    (open_around f c.push_reserved.new.self.items self.waiting.items self.others c.in-Some.children c.args.term _
    c.push_reserved.ensures.items
    (subst (HasChildren f c.args.term) c.in-Some.is c.in_ok-children.ensures.children)
    (subst (λ room. IsOpen f self.waiting.items self.others (Some c.args.term) room)
    (sym c.push_reserved.ensures.capacity) c.requires.stands))
