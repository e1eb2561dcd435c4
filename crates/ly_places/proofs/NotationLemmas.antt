-- What is printed of a part, from the label of its name on.
use Rattle.std.proofs.Common.{◌≡◌, ◌∙◌, List, ℕ, ◌++◌, ap, append_assoc, codes}
use Rattle.ly_base.specs.declared.numbers.RuleNo.{RuleNo}
use Rattle.ly_base.specs.declared.numbers.Sym.{Sym}
use Rattle.ly_feed.specs.NameMembers.{node_member, token_member}
use Rattle.ly_spans.specs.Spans.{bytes_at, json_span}
use Rattle.ly_places.specs.Private.Printing.{opening}
use Rattle.ly_spans.specs.declared.span.Span.{Span}
use Rattle.ly_places.specs.declared.part.PartKind.TheVariants.{Node, Token}
use Rattle.ly_print.specs.Json.{json_content, json_name}
use Rattle.ly_tree.specs.Shown.{Vocabulary}

pub token_opening : (v : Vocabulary) (text : List ℕ) (t : Sym) (e : Span) (label : List ℕ)
    → label ≡ token_member (v.terminal t.0)
    → label ++ (json_span text e ++ (codes "," ++ (json_content (bytes_at text e) ++ codes "}")))
    ≡ opening v text (Token t) e
token_opening v text t e label is =
    let behind = json_span text e ++ (codes "," ++ (json_content (bytes_at text e) ++ codes "}")) in
    ap (λ l. l ++ behind) is ∙ append_assoc (codes "{\"token\":") (json_name (v.terminal t.0)) behind

pub node_opening : (v : Vocabulary) (text : List ℕ) (p : RuleNo) (e : Span) (label : List ℕ)
    → label ≡ node_member (v.constructor p.0)
    → label ++ (json_span text e ++ codes ",\"children\":[") ≡ opening v text (Node p) e
node_opening v text p e label is =
    let behind = json_span text e ++ codes ",\"children\":[" in
    ap (λ l. l ++ behind) is ∙ append_assoc (codes "{\"node\":") (json_name (v.constructor p.0)) behind
