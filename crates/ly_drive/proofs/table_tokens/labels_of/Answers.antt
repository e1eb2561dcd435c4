use Rattle.std.proofs.Common.{◌≡◌, ◌∙◌, ◌∷◌, ◌++◌, [], ℕ, List, ap, ap₂, append_assoc, map, sym, take}
use Rattle.std.proofs.lemmas.List.{take_all}
use Rattle.ly_feed.specs.Vocabularies.{name_in}
use Rattle.ly_listing.specs.Labels.{label_for}
use Rattle.ly_drive.proofs.SetLabelLemmas.{map_more, map_twice}
use Rattle.ly_drive.proofs.table_tokens.labels_of.Goals as goal

pub loop-name-preserved : goal.loop-name-preserved
loop-name-preserved c =
    let s = c.args.set.now in
    let form = c.args.form in
    let names = c.terminals-terminals.result.now in
    let i = c.loop-name.name-index in
    let literals = map (λ t. label_for form (name_in s.terminals t)) s.literals in
    c.in_ok-push.ensures.items ∙ ap₂ (λ xs x. xs ++ x ∷ []) c.loop-name.invariant
    (c.in_ok-label_for.ensures ∙ ap (label_for form) c.deref.ensures.value
    ∙ ap (λ n. label_for form n.items) c.name-item.is)
    ∙ append_assoc literals (map (λ n. label_for form n.items) (take i names)) _
    ∙ ap (λ z. literals ++ z) (sym (map_more (λ n. label_for form n.items) names i c.name-item.result
    c.loop-name-test.true))

pub returns : goal.returns
returns c =
    let s = c.args.set.now in
    let form = c.args.form in
    let names = c.terminals-terminals.result.now in
    let literals = map (λ t. label_for form (name_in s.terminals t)) s.literals in
    c.loop-name.invariant
    ∙ ap (λ xs. literals ++ map (λ n. label_for form n.items) xs)
    (take_all c.loop-name.name-index names c.loop-name-test.false)
    ∙ ap (λ xs. literals ++ xs) (map_twice (λ n. n.items) (label_for form) names
    ∙ ap (map (label_for form)) c.terminals-terminals.ensures)
