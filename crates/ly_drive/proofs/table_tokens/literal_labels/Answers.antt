use Rattle.std.proofs.Common.{◌≡◌, ◌∙◌, ◌∷◌, ◌++◌, [], ℕ, List, ap, ap₂, map, sym, take}
use Rattle.std.proofs.lemmas.List.{take_all}
use Rattle.ly_base.specs.declared.numbers.Sym.{Sym}
use Rattle.ly_feed.specs.Vocabularies.{name_in}
use Rattle.ly_listing.specs.Labels.{label_for}
use Rattle.ly_drive.proofs.SetLabelLemmas.{map_more, map_twice}
use Rattle.ly_drive.proofs.table_tokens.literal_labels.Goals as goal

pub loop-literal-preserved : goal.loop-literal-preserved
loop-literal-preserved c =
    let f : Sym → List ℕ = λ t. label_for c.args.form (name_in c.args.set.now.terminals t.0) in
    c.in_ok-push.ensures.items ∙ ap₂ (λ xs x. xs ++ x ∷ []) c.loop-literal.invariant
    (c.in_ok-label_for.ensures ∙ ap (label_for c.args.form) c.name_of-name.ensures)
    ∙ sym (map_more f c.literals-literals.result.now c.loop-literal.literal-index _ c.loop-literal-test.true)

pub returns : goal.returns
returns c =
    let literals = c.literals-literals.result.now in
    let f : ℕ → List ℕ = λ t. label_for c.args.form (name_in c.args.set.now.terminals t) in
    let number : Sym → ℕ = λ t. t.0 in
    let h : Sym → List ℕ = λ t. f t.0 in
    c.loop-literal.invariant ∙ ap (map h) (take_all c.loop-literal.literal-index literals c.loop-literal-test.false)
    ∙ map_twice number f literals ∙ ap (map f) c.literals-literals.ensures.literals
