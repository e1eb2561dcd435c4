use Rattle.std.proofs.Common.{◌∙◌, length, subst, sym}
use Rattle.std.specs.Prelude.{All}
use Rattle.std.proofs.lemmas.List.Elements.{All-map}
use Rattle.ly_places.specs.TokenAnswer.{IsTokenOver}
use Rattle.lytab_c.proofs.TokenLemmas.{parsed_over}
use Rattle.lytab_c.specs.Tokens.{placed_from}
use Rattle.lytab_c.proofs.parsing_tokens.parse_by.Goals as goal

pub parse_tokens-requires : goal.parse_tokens-requires
parse_tokens-requires c =
    subst (All (IsTokenOver (length c.args.set.now.terminals) (length c.args.text.now)))
    (sym (c.deref.ensures.value ∙ c.in_ok-placed.ensures))
    (All-map (IsTokenOver (length c.args.set.now.terminals) (length c.args.text.now)) placed_from c.args.tokens.now
    c.requires)

pub returns-clause-parsed : goal.returns-clause-parsed
returns-clause-parsed c =
    parsed_over c.args.set.now c.args.text.now c.args.tokens.now c.deref.result.now c.parse_tokens.result
    (c.deref.ensures.value ∙ c.in_ok-placed.ensures) c.parse_tokens.ensures.parsed
