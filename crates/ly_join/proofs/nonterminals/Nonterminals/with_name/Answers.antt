use Rattle.std.proofs.Common.{◌∙◌, ap, map, sym}
use Rattle.std.specs.Str.{bytes_eq}
use Rattle.ly_join.specs.Private.Numbering.{with_one}
use Rattle.ly_join.proofs.NonterminalLemmas.{names_after, with_known}
use Rattle.ly_join.proofs.nonterminals.Nonterminals.with_name.Goals as goal

pub returns : goal.returns
returns c = ap (map (λ k. k.now)) c.in_ok-insert.ensures.keys
    ∙ (names_after (λ k. k.now) c.self.inside.names.keys c.args.name
    ∙ ap (λ ns. with_one bytes_eq ns c.args.name.now) c.self.view_is)

pub returns-then-is_last : goal.returns-then-is_last
returns-then-is_last c = sym (with_known c.args.self c.args.name.now c.if-is_last.ensures)
