-- The content of a yacc file, whatever the capacities of its lists.
use Rattle.std.specs.Prelude.{ℕ, List, map}
use Rattle.std.specs.Option.{option_map}
use Rattle.std.specs.Rc.{rc_slice_items}
use Rattle.ly_yaccread.specs.Actions.{Making, default, pass, build}
use Rattle.ly_yaccread.specs.Declarations.{Declared, Preamble}
use Rattle.ly_yaccread.specs.Rules.{Ruling}
use Rattle.ly_yaccread.specs.Words.{Word, name, literal}
use Rattle.ly_yaccread.specs.declared.file.TreeAction.{TreeAction}
use Rattle.ly_yaccread.specs.declared.file.TreeAction.TheVariants.{Default, Pass, Build}
use Rattle.ly_yaccread.specs.declared.file.Declaration.{Declaration}
use Rattle.ly_yaccread.specs.declared.file.Production.{Production}
use Rattle.ly_yaccread.specs.declared.file.RuleOffsets.{RuleOffsets}
use Rattle.ly_yaccread.specs.declared.file.SymbolName.{SymbolName}
use Rattle.ly_yaccread.specs.declared.file.SymbolName.TheVariants.{Name, Literal}
use Rattle.ly_yaccread.specs.declared.file.YaccFile.{YaccFile}

-- the word that names a symbol
abbrev pub symbol_word : SymbolName → Word
symbol_word (Name n) = name n.items
symbol_word (Literal b) = literal b

abbrev pub symbol_words : List SymbolName → List Word
symbol_words symbols = map symbol_word symbols

-- the tree that an action builds
abbrev pub making_of : TreeAction → Making
making_of Default = default
making_of (Pass p) = pass p
making_of (Build node) = build node.value.name.items node.value.places.items

-- a rule
abbrev pub ruling_of : Production → Ruling
ruling_of p = record {
  left = rc_slice_items p.left;
  body = symbol_words p.body.items;
  precedence = option_map (λ x. symbol_word x.value) p.precedence;
  making = making_of p.action;
}

-- the tokens of one declaration
abbrev pub declared_of : Declaration → Declared
declared_of d = record { kind = d.kind; symbols = symbol_words d.symbols.items }

-- The content of a yacc file: its declarations, start symbol and rules; the offsets of the declared tokens, declaration
-- by declaration, and of each rule.
pub record Written : Type 0 where
  pub preamble : Preamble
  pub rules : List Ruling
  pub token_offsets : List ℕ
  pub rule_offsets : List RuleOffsets

-- the content of a value of a yacc file
abbrev pub written_of : YaccFile → Written
written_of f = record {
  preamble = record { declarations = map declared_of f.declarations.items; start = option_map (λ n. n.items) f.start };
  rules = map ruling_of f.rules.items;
  token_offsets = f.token_offsets.items;
  rule_offsets = f.rule_offsets.items;
}
