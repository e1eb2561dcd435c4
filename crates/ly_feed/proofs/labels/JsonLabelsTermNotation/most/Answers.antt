use Rattle.std.proofs.Common.{map, subst, sym}
use Rattle.ly_feed.specs.Vocabularies.{constructor_in, name_in}
use Rattle.ly_feed.specs.declared.label_form.LabelForm.TheVariants.{Json}
use Rattle.ly_pack.specs.Values.{rule_from}
use Rattle.ly_tree.proofs.JsonLemmas.{json_within}
use Rattle.ly_tree.specs.Json.{as_json}
use Rattle.ly_tree.specs.Shown.{Vocabulary}
use Rattle.ly_tree.specs.Written.{IsWithin}
use Rattle.ly_feed.proofs.labels.JsonLabelsTermNotation.most.Goals as goal

pub returns : goal.returns
returns c =
    let names = c.args.self.now.names in
    let v : Vocabulary = record {
      terminal = name_in (map (λ name. name.items) names.terminals.now);
      constructor = constructor_in (map rule_from names.rules.now);
    } in
    subst (λ n. IsWithin (as_json v) n 6) (sym c.in_ok-checked_add.ensures.1)
    (json_within v c.longest.result (c.longest.ensures.leaves Json names c.args.self.now.labels_are)
    (c.longest.ensures.nodes Json names c.args.self.now.labels_are))
