use Rattle.std.proofs.Common.{◌≡◌, ◌∙◌, ◌++◌, [], None, ap, arith, length, length-drop, refl, subst, sym, take}
use Rattle.std.specs.Prelude.{false, map, option_and_then, slice_get, slice_index}
use Rattle.ly_base.specs.Lexed.{token_if}
use Rattle.ly_listing.specs.Labels.{fact_of, labelling}
use Rattle.ly_listing.specs.Private.Marks.{IsNotedIf}
use Rattle.ly_listing.proofs.MarkLemmas.{label_at_place, left_behind, marked_on, marked_over, same_marks}
use Rattle.ly_listing.proofs.TokenLemmas.{leads_nowhere, leads_over, leads_told, none_set, told_label}
use Rattle.ly_scan.proofs.PieceLemmas.{lexeme_at}
use Rattle.ly_scan.specs.Lexers.{scanner_of}
use Rattle.ly_listing.proofs.run_end.mark_told.Goals as goal

pub loop-told-init : goal.loop-told-init
loop-told-init c = record {
  leads = ([], leads_nowhere c.args.labels.now (scanner_of c.args.lexer.now.scanner) c.args.start);
  marked = λ text h. h;
  behind = c.requires.behind;
}

pub first_of-requires : goal.first_of-requires
first_of-requires c =
    let is = c.in-Some.ensures.told (map fact_of c.args.labels.now.rules.items) c.requires.facts in
    omega (arith, is.stands.some, is.stands.within, ap length c.rest-rest.ensures)

pub note_if-requires : goal.note_if-requires
note_if-requires c =
    let is = c.in-Some.ensures.told (map fact_of c.args.labels.now.rules.items) c.requires.facts in record {
      left = omega (
        arith,
        c.loop-told.invariant.behind,
        c.tell.ensures.left,
        ap length c.rest-rest.ensures,
      );
      taken = omega (arith, is.stands.within, is.taken, ap length c.rest-rest.ensures);
    }

pub advance-requires : goal.advance-requires
advance-requires c =
    let is = c.in-Some.ensures.told (map fact_of c.args.labels.now.rules.items) c.requires.facts in
    omega (arith, is.stands.within, is.taken)

pub loop-told-preserved : goal.loop-told-preserved
loop-told-preserved c =
    let labels = c.args.labels.now in
    let s = scanner_of c.args.lexer.now.scanner in
    let now = c.loop-told in
    let leads = now.invariant.leads in
    let here = c.tell.new.place in
    let next = c.advance.new.self in
    let told = c.in-Some.told in
    let is = c.in-Some.ensures.told (map fact_of labels.rules.items) c.requires.facts in
    let rule = is.lexeme.rule.0 in
    let token = take told.taken here.rest in
    let first = c.first_of in
    let o = c.place_of-label.result in
    let none = none_set labels rule told.fact is.fact is.some in
    let by_label : option_and_then (slice_get labels.labels.items) o ≡ labelling labels rule token
    = ap (option_and_then (slice_get labels.labels.items)) c.place_of-label.ensures
    ∙ sym (label_at_place labels.labels.items told.fact first.result)
    ∙ told_label labels rule told.fact first.result told.taken here.rest token is.fact is.some refl
    (omega (arith, is.stands.some, is.taken)) (first.ensures ∙ ap (λ xs. slice_index xs 0) c.rest-rest.ensures) in
    let left : length c.rest-rest.result.now ≡ length here.rest = ap length c.rest-rest.ensures in
    let noted = c.note_if.ensures.noted c.if-not-note_if.false in record {
      leads = (
        leads.0 ++ token_if (labelling labels rule token) here.at token,
        leads_told labels s c.args.lexer.now.passed c.args.start now.place here next is.lexeme told.taken token leads.0
            (leads.0 ++ token_if (labelling labels rule token) here.at token) c.requires.passed leads.1 c.tell.ensures.passed
            c.tell.ensures.left is.stands is.taken none c.advance.ensures refl refl,
      );
      marked = λ text before. marked_on labels s c.args.lexer.now.passed text now.place here next
          now.marks.marks.items c.note_if.new.self.marks.items now.marks.left c.note_if.new.self.left is.lexeme
          told.taken None o c.requires.passed (now.invariant.marked text before) c.tell.ensures.passed
          (omega (arith, now.invariant.behind, c.tell.ensures.left)) (lexeme_at s here false is.lexeme is.stands)
          is.taken (omega (arith, is.stands.within, is.taken)) (sym none) c.advance.ensures
          (subst (λ n. IsNotedIf now.marks.marks.items now.marks.left c.note_if.new.self.marks.items
          c.note_if.new.self.left n o told.taken) left noted) by_label;
      behind = omega (
        arith,
        left_behind now.marks.marks.items c.note_if.new.self.marks.items now.marks.left c.note_if.new.self.left
            (length c.rest-rest.result.now) told.taken o
            (omega (arith, left, now.invariant.behind, c.tell.ensures.left)) noted,
        left,
        ap (λ p. length p.rest) c.advance.ensures,
        length-drop told.taken here.rest,
      );
    }

pub loop-told-smaller : goal.loop-told-smaller
loop-told-smaller c =
    let here = c.tell.new.place in
    let is = c.in-Some.ensures.told (map fact_of c.args.labels.now.rules.items) c.requires.facts in
    omega (
      arith,
      is.stands.some,
      is.stands.within,
      is.taken,
      c.tell.ensures.left,
      ap (λ p. length p.rest) c.advance.ensures,
      length-drop c.in-Some.told.taken here.rest,
    )

pub returns-in_default-clause-leads : goal.returns-in_default-clause-leads
returns-in_default-clause-leads c =
    let now = c.loop-told in
    let leads = now.invariant.leads in (
      leads.0,
      leads_over c.args.labels.now (scanner_of c.args.lexer.now.scanner) c.args.lexer.now.passed
          c.args.start now.place c.tell.new.place leads.0 c.requires.passed leads.1 c.tell.ensures.passed
          c.tell.ensures.left,
    )

pub returns-in_default-clause-marked : goal.returns-in_default-clause-marked
returns-in_default-clause-marked c text before =
    let now = c.loop-told in
    marked_over c.args.labels.now (scanner_of c.args.lexer.now.scanner) c.args.lexer.now.passed text now.place c.tell.new.place now.marks.marks.items now.marks.left
    c.requires.passed (now.invariant.marked text before) c.tell.ensures.passed

pub returns-in_default-clause-behind : goal.returns-in_default-clause-behind
returns-in_default-clause-behind c = omega (arith, c.loop-told.invariant.behind, c.tell.ensures.left)

pub returns-then-not-note_if-clause-leads : goal.returns-then-not-note_if-clause-leads
returns-then-not-note_if-clause-leads c =
    let now = c.loop-told in
    let leads = now.invariant.leads in (
      leads.0,
      leads_over c.args.labels.now (scanner_of c.args.lexer.now.scanner) c.args.lexer.now.passed
          c.args.start now.place c.tell.new.place leads.0 c.requires.passed leads.1 c.tell.ensures.passed
          c.tell.ensures.left,
    )

pub returns-then-not-note_if-clause-marked : goal.returns-then-not-note_if-clause-marked
returns-then-not-note_if-clause-marked c text before =
    let now = c.loop-told in
    let labels = c.args.labels.now in
    let s = scanner_of c.args.lexer.now.scanner in
    let here = c.tell.new.place in
    same_marks labels s text here now.marks.marks.items c.note_if.new.self.marks.items now.marks.left
    c.note_if.new.self.left (c.note_if.ensures.same c.if-not-note_if.true)
    (c.note_if.ensures.left c.if-not-note_if.true)
    (marked_over labels s c.args.lexer.now.passed text now.place here now.marks.marks.items now.marks.left
    c.requires.passed (now.invariant.marked text before) c.tell.ensures.passed)

pub returns-then-not-note_if-clause-behind : goal.returns-then-not-note_if-clause-behind
returns-then-not-note_if-clause-behind c = omega (
  arith,
  c.loop-told.invariant.behind,
  c.tell.ensures.left,
  c.note_if.ensures.left c.if-not-note_if.true,
)
