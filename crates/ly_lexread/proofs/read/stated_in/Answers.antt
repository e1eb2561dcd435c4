use Rattle.std.proofs.Common.{◌≡◌, ◌∙◌, ◌-◌, ◌∷◌, [], ℕ, List, ap, map, refl}
use Rattle.ly_lexread.specs.Definitions.{DefinedLine}
use Rattle.ly_lexread.specs.Private.Names.{parts_of}
use Rattle.ly_lexread.specs.declared.defined.NameLine.{NameLine}
use Rattle.ly_lexread.proofs.read.stated_in.Goals as goal

-- where lines begin, by what they define
by_parts : (whole : ℕ) (lines : List NameLine)
    → map (λ l. whole - l.left) lines ≡ map (λ (d : DefinedLine). whole - d.1.1) (map parts_of lines)
by_parts whole [] = refl
by_parts whole (l ∷ lines) = ap (λ ns. (whole - l.left) ∷ ns) (by_parts whole lines)

pub returns : goal.returns
returns c = record {
  conditions = c.count.ensures;
  start_conditions = c.in_ok-named.ensures;
  starts = c.in_ok-starts_of.ensures ∙ (by_parts c.args.whole c.lines.result.now
      ∙ ap (map (λ (d : DefinedLine). c.args.whole - d.1.1)) c.lines.ensures.these);
}
