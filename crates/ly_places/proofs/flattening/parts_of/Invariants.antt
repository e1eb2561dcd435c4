use Rattle.std.proofs.Common.{◌≡◌, ◌++◌, All, drop, map, take}
use Rattle.ly_pack.specs.Values.{rule_from}
use Rattle.ly_places.specs.Parts.{parts_of}
use Rattle.ly_places.specs.Private.Kept.{placed_term}
use Rattle.ly_places.specs.Private.Waiting.{last_end, listed, visits_left, IsReady}
use Rattle.ly_parse.specs.Deriving.{shape_of_rule}
use Rattle.ly_tree.specs.Private.Printing.{term_at}
use Rattle.ly_places.proofs.flattening.parts_of.Given as goal

-- the parts that are listed and those of the terms that wait are all of them
abbrev pub invariant-loop-next : goal.invariant-loop-next
invariant-loop-next l =
    let shape = shape_of_rule (map rule_from l.fn.rules) in record {
      parts : l.listing.parts.items ++ listed shape l.fn.tokens l.fn.forest l.listing.waiting.items
          ≡ parts_of (placed_term shape (last_end (take l.first l.fn.tokens)) (drop l.first l.fn.tokens)
          (term_at l.fn.forest l.fn.root));
      ready : All (IsReady shape l.fn.tokens l.fn.forest) l.listing.waiting.items;
    }

abbrev pub decreases-loop-next : goal.decreases-loop-next
decreases-loop-next l =
    visits_left (shape_of_rule (map rule_from l.fn.rules)) l.fn.forest l.listing.waiting.items
