use Rattle.std.proofs.Common.{◌≡◌, ◌∙◌, ◌∷◌, [], ap, drop, subst, sym, Some}
use Rattle.std.specs.Prelude.{codes}
use Rattle.std.proofs.lemmas.Bool.Decides.{Decides-eqb}
use Rattle.std.proofs.lemmas.Slice.Eq.{strip_prefix_is}
use Rattle.ly_base.specs.Language.{NameBefore}
use Rattle.ly_base.specs.declared.language.Language.TheVariants.{Lex}
use Rattle.ly_base.proofs.NameLemmas.{name_one}
use Rattle.ly_lexread.proofs.words.behind_text_byte.Goals as goal

pub returns-in_default-leading_name : goal.returns-in_default-leading_name
returns-in_default-leading_name c = λ behind rest e h.
    let here = strip_prefix_is Decides-eqb c.args.text.now (42 ∷ []) (Some c.in-Some.behind) c.in-Some.ensures.cases in
    let same : behind ≡ c.in-Some.behind.now = ap (drop 1) (sym e ∙ here) in
    c.in_default-leading_name.ensures (codes "yytext") rest (subst (λ b. NameBefore Lex b (codes "yytext") rest) same h)

pub returns-then-is_text : goal.returns-then-is_text
returns-then-is_text c = (
  c.in-Some.behind.now,
  strip_prefix_is Decides-eqb c.args.text.now (42 ∷ []) (Some c.in-Some.behind) c.in-Some.ensures.cases,
  subst (λ n. NameBefore Lex c.in-Some.behind.now n c.in-Some-leading_name.rest.now) c.if-is_text.ensures
      c.in-Some-leading_name.ensures,
)

pub returns-else-is_text : goal.returns-else-is_text
returns-else-is_text c = λ behind rest e h.
    let here = strip_prefix_is Decides-eqb c.args.text.now (42 ∷ []) (Some c.in-Some.behind) c.in-Some.ensures.cases in
    let same : behind ≡ c.in-Some.behind.now = ap (drop 1) (sym e ∙ here) in
    c.if-is_text.ensures (name_one Lex c.in-Some.behind.now c.in-Some-leading_name.name.now (codes "yytext")
    c.in-Some-leading_name.rest.now rest c.in-Some-leading_name.ensures
    (subst (λ b. NameBefore Lex b (codes "yytext") rest) same h)).0
