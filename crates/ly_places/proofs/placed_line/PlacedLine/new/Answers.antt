use Rattle.std.proofs.Common.{◌++◌, ◌∷◌, ◌∙◌, [], ap, ap₂, arith, length, subst, sym}
use Rattle.ly_base.specs.Bytes.{newline}
use Rattle.ly_places.proofs.PlacedLineLemmas.{line_fits}
use Rattle.ly_places.proofs.PrintingLemmas.{parts_are_json, parts_sound}
use Rattle.ly_places.specs.Private.Printing.{parts_text, AreSound}
use Rattle.ly_feed.specs.NameMembers.{vocabulary_in}
use Rattle.ly_places.proofs.placed_line.PlacedLine.new.Goals as goal

pub longest_line-requires : goal.longest_line-requires
longest_line-requires c =
    let placed = c.requires.placed in
    subst (λ text. AreSound (length text) c.args.parts.now) (sym c.in_ok-notation.ensures.text)
    (parts_sound (length c.args.text.now) placed.0 c.args.parts.now placed.1 placed.2)

pub invariant_of-result : goal.invariant_of-result
invariant_of-result c =
    let placed = c.requires.placed in
    let n = c.in_ok-notation.notation in (
      c.in_ok-new.ensures,
      c.in_ok-with_capacity.ensures.items,
      subst (λ text. AreSound (length text) c.args.parts.now) (sym c.in_ok-notation.ensures.text)
          (parts_sound (length c.args.text.now) placed.0 c.args.parts.now placed.1 placed.2),
      omega (arith, c.in_ok-with_capacity.ensures.capacity),
      line_fits (parts_text (vocabulary_in n.names) n.lines [] c.args.parts.now) c.longest_line.result
          c.in_ok-ok_or.field-0 c.in_ok-ok_or.ensures.ok_part c.longest_line.ensures,
    )

pub returns : goal.returns
returns c t is =
    ap₂ (λ names text. parts_text (vocabulary_in names) text [] c.args.parts.now ++ newline ∷ [])
    c.in_ok-notation.ensures.names c.in_ok-notation.ensures.text
    ∙ ap (λ text. text ++ newline ∷ [])
    (parts_are_json (vocabulary_in c.args.names) c.args.text.now t c.args.parts.now is)
