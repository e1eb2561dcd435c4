-- The labels of a table set, by the numbers of its terminals and rules.
use Rattle.std.specs.Prelude.{◌≡◌, ℕ, List, [], ◌∷◌, ◌++◌, codes, map}
use Rattle.ly_print.specs.Text.{before_leaf, token}
use Rattle.ly_feed.specs.NameMembers.{node_member, token_member}
use Rattle.ly_feed.specs.Vocabularies.{constructor_of}
use Rattle.ly_feed.specs.declared.label_form.LabelForm.{LabelForm}
use Rattle.ly_feed.specs.declared.label_form.LabelForm.TheVariants.{Json, Name, Plain}
use Rattle.ly_feed.specs.declared.labels.Labels.{Labels}
use Rattle.ly_feed.specs.declared.names.Names.{Names}
use Rattle.ly_pack.specs.Machine.{TableRule}
use Rattle.ly_pack.specs.Values.{rule_from}
use Rattle.ly_tree.specs.Json.{before_children, before_content}

-- what stands before what a leaf consists of, by its terminal's name
abbrev pub leaf_label : LabelForm → List ℕ → List ℕ
leaf_label Plain name = before_leaf (token name)
leaf_label Json name = before_content name
leaf_label Name name = token_member name

-- what stands before the children of a node, by its constructor
abbrev pub node_label : LabelForm → List ℕ → List ℕ
node_label Plain constructor = constructor ++ codes "("
node_label Json constructor = before_children constructor
node_label Name constructor = node_member constructor

-- the constructors of rules, of which rule 0 has none
abbrev pub constructors_of : List TableRule → List (List ℕ)
constructors_of rules = [] ∷ map (λ r. constructor_of r.shape) rules

-- the labels of these names
pub record AreLabels (form : LabelForm) (names : Names) (l : Labels) : Type 0 where
  pub leaves : l.leaves.items ≡ map (leaf_label form) (map (λ name. name.items) names.terminals.now)
  pub nodes : l.nodes.items ≡ map (node_label form) (constructors_of (map rule_from names.rules.now))
  pub nameless_leaf : l.nameless_leaf ≡ leaf_label form []
  pub nameless_node : l.nameless_node ≡ node_label form []
