-- What a lex file says is determined.
use Rattle.std.proofs.Common.{◌≡◌, ◌<◌, ◌+◌, ◌-◌, ℕ, zero, suc, Some, None, List, [], ◌∷◌, ◌++◌, Bool, true, false}
use Rattle.std.proofs.Common.{refl}
use Rattle.std.proofs.Common.{sym}
use Rattle.std.proofs.Common.{◌∙◌, ap, subst, length, map, arith, inl, inr, length-append, ◌⊎◌, cond, ltb}
use Rattle.std.proofs.lemmas.Bool.Decides.{nat_tests}
use Rattle.std.specs.List.{position_or_len}
use Rattle.std.specs.List.{slice_get}
use Rattle.std.specs.Prelude.{Contains, IsSome}
use Rattle.ly_ere.specs.Names.{Definition, defined}
use Rattle.ly_ere.specs.Expression.{Matches}
use Rattle.ly_ere.specs.Patterns.{IsCutOf}
use Rattle.ly_ere.specs.Winner.{AreCut, active_of}
use Rattle.ly_ere.specs.declared.pattern.Rule.{Rule}
use Rattle.ly_ere.proofs.PatternLaws.{cut_is_true}
use Rattle.ly_lexread.specs.declared.action.LexAction.{LexAction}
use Rattle.ly_lexread.specs.declared.file.LexFile.{LexFile}
use Rattle.ly_lexread.specs.Action.{Effect, Saying, effect_of}
use Rattle.ly_base.proofs.MemberLemmas.{Contains-none, Contains-one}
use Rattle.std.proofs.lemmas.List.Elements.{Contains-append_cases}
use Rattle.std.specs.Prelude.{if◌then◌else◌, codes}
use Rattle.std.specs.Str.{bytes_eq}
use Rattle.ly_lexread.specs.Conditions.{Condition, inclusive_from}
use Rattle.ly_lexread.specs.Definitions.{at_first, DeclaresAll, Definitions, Directs, LineSays, Preamble, directive_of}
use Rattle.ly_lexread.specs.Definitions.{mark, more}
use Rattle.ly_lexread.specs.Definitions as declared
use Rattle.ly_lexread.specs.Lines.{kind_of, left_in}
use Rattle.ly_lexread.specs.declared.directive.Directed.{Directed}
use Rattle.ly_lexread.specs.declared.directive.Directed.TheVariants.{Inclusive, Exclusive, Size, TextKind, Unknown}
use Rattle.ly_lexread.specs.declared.kind.LineKind.{LineKind}
use Rattle.ly_lexread.specs.declared.kind.LineKind.TheVariants.{Mark, Unused, Block, Comment, Directive, Plain}
use Rattle.ly_lexread.specs.LexText.{AreSameActions, AreSameRules, LexText, LexTextIsOne, conditions_in, said_of}
use Rattle.ly_lexread.specs.Names.{AreDefinitions}
use Rattle.ly_lexread.specs.Private.File.{IsBehind, IsFileOf, IsStatedIn}
use Rattle.ly_lexread.specs.Private.Rules.{AreRulesAt}
use Rattle.ly_lexread.specs.declared.read.Stated.{Stated}
use Rattle.ly_lexread.specs.declared.rules.Section.{Section}
use Rattle.ly_lexread.specs.Rules.{ActiveBefore, ConditionBefore, Listed, RuleBefore, Rules, end, rule, skip}
use Rattle.ly_lexread.specs.Rules as listing
use Rattle.ly_lexread.proofs.DefinitionLemmas.{definitions_one}
use Rattle.ly_lexread.proofs.NameLemmas.{definitions_are_one}
use Rattle.ly_lexread.proofs.RuleLemmas.{in_front, over_none, rule_one, rules_begin, rules_skip}
use Rattle.ly_lexread.proofs.SharedLemmas.{effects_one}

-- equal effects are those of actions that say the same
same_actions : (as' bs : List LexAction) → map effect_of as' ≡ map effect_of bs → AreSameActions as' bs
same_actions [] [] e = tt
same_actions [] (b ∷ bs) e = absurd (cc)
same_actions (a ∷ as') [] e = absurd (cc)
same_actions (a ∷ as') (b ∷ bs) e =
    let one : effect_of a ≡ effect_of b = heads (effect_of a) (effect_of b) (map effect_of as')
    (map effect_of bs) e in (
      ap (λ i. i.begin) one,
      ap (λ i. i.returns) one,
      same_actions as' bs (tails (effect_of a) (effect_of b) (map effect_of as') (map effect_of bs) e),
    )
  where
    heads : (x y : Effect) (xs ys : List Effect) → x ∷ xs ≡ y ∷ ys → x ≡ y
    heads x y xs ys f = cc

    tails : (x y : Effect) (xs ys : List Effect) → x ∷ xs ≡ y ∷ ys → xs ≡ ys
    tails x y xs ys f = cc

pub rules_one : (cs : List Condition) (names : List Definition) (text : List ℕ) (rs ss : List Rule)
    (xs ys : List Saying) (ls ms : List ℕ)
    → Rules cs names text rs xs ls → Rules cs names text ss ys ms → AreSameRules rs ss × (xs ≡ ys) × (ls ≡ ms)
rules_one cs names text rs ss xs ys ls ms (end _ o) d =
    let e = over_none cs names text ss ys ms o d in
    (subst (AreSameRules []) (sym e.0) tt, sym e.1, sym e.2)
rules_one cs names text rs ss xs ys ls ms (skip _ u _ _ _ h c) d
    = rules_one cs names u rs ss xs ys ls ms c (rules_skip cs names text u ss ys ms h d)
rules_one cs names text rs ss xs ys ls ms (rule _ u r s ps qs ns b c) d =
    let f = in_front cs names text ss ys ms (rules_begin cs names text u r s b) d in
    let same = rule_one cs names text u f.behind r f.one s f.saying b f.reads in
    let rest = rules_one cs names u ps f.more qs f.sayings ns f.lefts c
    (subst (λ i. Rules cs names i f.more f.sayings f.lefts) (sym same.2) f.rest) in (
      subst (AreSameRules (r ∷ ps)) (sym f.these) (same.0.pattern, same.0.active, rest.0),
      cons same.1 rest.1 ∙ sym f.those,
      ap (λ i. length text ∷ i) rest.2 ∙ sym f.left,
    )
  where
    cons : {x y : Saying} {zs ws : List Saying} → x ≡ y → zs ≡ ws → x ∷ zs ≡ y ∷ ws
    cons e f = cc

-- rules that are read behind the same definitions, under the same names
pub rules_under : (p q : Preamble) (text rest : List ℕ) (names others : List Definition) (rules : List Rule)
    (sayings : List Saying) (lefts : List ℕ) → p ≡ q → text ≡ rest → names ≡ others
    → Rules p.conditions names text rules sayings lefts → Rules q.conditions others rest rules sayings lefts
rules_under p q text rest names others rules sayings lefts same behind are r =
    subst (λ i. Rules q.conditions i rest rules sayings lefts) are
    (subst (λ i. Rules q.conditions names i rules sayings lefts) behind
    (subst (λ i. Rules i.conditions names text rules sayings lefts) same r))

-- a file behind definitions has their names, and rules under these
pub behind_rules : (whole : ℕ) (all : Preamble) (behind : List ℕ) (file : LexFile) (is : IsBehind whole all behind file)
    (names : List Definition) → AreDefinitions all.definitions names
    → (file.names ≡ names) × Rules all.conditions names behind file.rules.items is.sayings is.lefts
behind_rules whole all behind file is names are =
    let one = definitions_are_one all.definitions file.names names is.names are in
    (one, subst (λ i. Rules all.conditions i behind file.rules.items is.sayings is.lefts) one is.rules)

-- the file of definitions and rules that are read
pub file_behind : (whole : ℕ) (all : Preamble) (behind : List ℕ) (names : List Definition) (section : Section)
    (sayings : List Saying) (stated : Stated) (file : LexFile) → IsFileOf names section sayings stated file
    → AreDefinitions all.definitions names
    → AreRulesAt whole all.conditions names behind section.rules.items sayings section.starts.items
    → IsStatedIn whole all stated → IsBehind whole all behind file
file_behind whole all behind names section sayings stated file of are read states = record {
  names = rw of.names_are are;
  sayings = sayings;
  lefts = read.0;
  rules = rw (of.names_are, of.rules_are) read.1;
  effects = of.effects;
  conditions = of.count ∙ states.conditions;
  start_conditions = ap (λ v. map said_of v.items) of.conditions_are ∙ states.start_conditions;
  rule_starts = ap (λ v. v.items) of.starts_are ∙ read.2;
  definition_starts = ap (λ v. v.items) of.definitions_are ∙ states.starts;
}

-- what definitions that are read say of the names of a text
module _ (bytes : List ℕ) (all : Preamble) (behind : List ℕ) (definitions : Definitions at_first bytes all behind)
    (file : LexFile) (text : LexText bytes file) where
  same : (text.all ≡ all) × (text.behind ≡ behind)
  same = definitions_one at_first text.all all bytes text.behind behind text.definitions definitions

  pub text_names : AreDefinitions all.definitions file.names
  text_names = subst (λ i. AreDefinitions i.definitions file.names) same.0 text.names

  pub text_rules : (names : List Definition) → AreDefinitions all.definitions names → (file.names ≡ names)
      × Rules all.conditions names behind file.rules.items text.sayings text.lefts
  text_rules names are =
      let one = definitions_are_one all.definitions file.names names text_names are in (
        one,
        rules_under text.all all text.behind behind file.names names file.rules.items text.sayings text.lefts same.0
            same.1 one text.rules,
      )

  -- and of all else that it says
  pub text_behind : IsBehind (length bytes) all behind file
  text_behind = record {
    names = text_names;
    sayings = text.sayings;
    lefts = text.lefts;
    rules = (text_rules file.names text_names).1;
    effects = text.effects;
    conditions = text.conditions ∙ ap (λ i. length i.conditions) same.0;
    start_conditions = text.start_conditions ∙ ap (λ i. conditions_in (length bytes) i.conditions) same.0;
    rule_starts = text.rule_starts;
    definition_starts = text.definition_starts ∙ ap (λ i. map (λ d. length bytes - d.1.1) i.definitions) same.0;
  }

pub lex_text_one : LexTextIsOne
lex_text_one bytes f g a b =
    let first = definitions_one at_first a.all b.all bytes a.behind b.behind a.definitions b.definitions in
    let there = text_rules bytes b.all b.behind b.definitions f a g.names b.names in
    let rules = rules_one b.all.conditions g.names b.behind f.rules.items g.rules.items a.sayings b.sayings a.lefts
    b.lefts there.1 b.rules in
    let many = length bytes in
    record {
      names = there.0;
      rules = rules.0;
      actions = same_actions f.actions.items g.actions.items (effects_one b.sayings (map effect_of f.actions.items)
          (map effect_of g.actions.items)
          (subst (λ i. Rattle.ly_lexread.specs.Action.AreEffects i (map effect_of f.actions.items)) rules.1 a.effects)
          b.effects);
      conditions = a.conditions ∙ ap (λ i. length i.conditions) first.0 ∙ sym b.conditions;
      start_conditions = a.start_conditions ∙ ap (λ i. conditions_in many i.conditions) first.0
          ∙ sym b.start_conditions;
      rule_starts = a.rule_starts ∙ ap (map (λ n. many - n)) rules.2 ∙ sym b.rule_starts;
      definition_starts = a.definition_starts ∙ ap (λ i. map (λ d. many - d.1.1) i.definitions) first.0
          ∙ sym b.definition_starts;
    }

-- What holds of each rule of a lex file: it has the cut of its sides, and is active in conditions of the file.
pub record IsOfFile (names : List Definition) (conditions : ℕ) (r : Rule) : Type 0 where
  pub is_cut : IsCutOf (defined names) r.pattern.head r.pattern.tail r.pattern.cut
  pub some_head : IsSome r.pattern.tail → Matches (defined names) r.pattern.head [] → ⊥
  pub active : (c : ℕ) → Contains (active_of r) c → c < conditions

-- the numbers of a list are below a bound
abbrev AreBelow : ℕ → List ℕ → Type 0
AreBelow n ns = (c : ℕ) → Contains ns c → c < n

below_push : (n : ℕ) (ns : List ℕ) (m : ℕ) → AreBelow n ns → m < n → AreBelow n (ns ++ m ∷ [])
below_push n ns m h less c i = by (Contains-append_cases ns (m ∷ []) c i)
  where
    by : Contains ns c ⊎ Contains (m ∷ []) c → c < n
    by (inl k) = h c k
    by (inr k) = let same : m ≡ c = Contains-one m c k in omega (arith, same, less)

pub within_length : (m n k : ℕ) → cond (ltb m n) (Some m) None ≡ Some k → k < n
within_length m n k = at (ltb m n) refl
  where
    at : (t : Bool) → ltb m n ≡ t → cond t (Some m) None ≡ Some k → k < n
    at true f e = let same : m ≡ k = cc e in let less : m < n = grind (arith, nat_tests) in omega (arith, same, less)
    at false f e = absurd (cc e)

condition_below : (cs : List Condition) (text rest : List ℕ) (n : ℕ) → 0 < length cs → ConditionBefore cs text n rest
    → n < length cs
condition_below cs text rest n some (inl h) = within_length (position_or_len (λ c. bytes_eq h.0 c.0) cs)
    (length cs) n h.2
condition_below cs text rest n some (inr h) = omega (arith, h.1, some)

listed_below : (cs : List Condition) (ns text all rest : List ℕ) → 0 < length cs → AreBelow (length cs) ns
    → Listed cs ns text all rest → AreBelow (length cs) all
listed_below cs ns text all rest some h (listing.last _ _ _ n b)
    = below_push (length cs) ns n h (condition_below cs text (codes ">" ++ rest) n some b)
listed_below cs ns text all rest some h (listing.more _ _ u _ _ n b d) = listed_below cs (ns ++ n ∷ []) u all rest some
    (below_push (length cs) ns n h (condition_below cs text (codes "," ++ u) n some b)) d

with_one : (t : Bool) (n m : ℕ) (ns : List ℕ) → n < m → AreBelow m ns → AreBelow m (if t then ns else n ∷ ns)
with_one true n m ns less h c i = h c i
with_one false n m ns less h c i = by (Contains-append_cases (n ∷ []) ns c i)
  where
    by : Contains (n ∷ []) c ⊎ Contains ns c → c < m
    by (inl k) = let same : n ≡ c = Contains-one n c k in omega (arith, same, less)
    by (inr k) = h c k

inclusive_below : (n : ℕ) (cs : List Condition) → AreBelow (n + length cs) (inclusive_from n cs)
inclusive_below n [] c i = absurd (Contains-none c i)
inclusive_below n (d ∷ cs) c i = with_one d.1.0 n (n + length (d ∷ cs)) (inclusive_from (n + 1) cs) (omega arith)
    (λ k j. let less = inclusive_below (n + 1) cs k j in omega (arith, less)) c i

active_below : (cs : List Condition) (line active rest : List ℕ) → 0 < length cs → ActiveBefore cs line active rest
    → AreBelow (length cs) active
active_below cs line active rest some (inl h) = listed_below cs [] h.0 active rest some (λ c i. absurd
    (Contains-none c i))
    h.2
active_below cs line active rest some (inr h) = λ c i.
    let less = inclusive_below 0 cs c (subst (λ ns. Contains ns c) h.1 i) in
    omega (arith, less)

rule_of : (cs : List Condition) (names : List Definition) (text : List ℕ) (rs : List Rule) (ss : List Saying)
    (ls : List ℕ) (i : ℕ) (r : Rule) → 0 < length cs → Rules cs names text rs ss ls → slice_get rs i ≡ Some r
    → IsOfFile names (length cs) r
rule_of cs names text rs ss ls i r some (end _ o) e = absurd (cc)
rule_of cs names text rs ss ls i r some (skip _ u _ _ _ h d) e = rule_of cs names u rs ss ls i r some d e
rule_of cs names text rs ss ls zero r some (rule _ u q s ps qs ns b d) e =
    let same : q ≡ r = cc e in
    subst (IsOfFile names (length cs)) same (record {
      is_cut = b.is_pattern.is_pattern.is_cut;
      some_head = b.is_pattern.is_pattern.some_head;
      active = active_below cs b.line.line (active_of q) b.body some b.line.is_active;
    })
rule_of cs names text rs ss ls (suc i) r some (rule _ u q s ps qs ns b d) e = rule_of cs names u ps qs ns i r some d e

-- there is a condition
pub some_condition : (p q : Preamble) (text rest : List ℕ) → 0 < length p.conditions → Definitions p text q rest
    → 0 < length q.conditions
some_condition p q text rest some (mark _ _ l _ b k) = some
some_condition p q text rest some (more _ s _ _ u _ h d)
    = some_condition s q u rest (said (kind_of h.0) h.3) d
  where
    all : (x : Bool) (left : List ℕ → ℕ) (cs ds : List Condition) (t : List ℕ) → 0 < length cs
        → DeclaresAll x left cs t ds → 0 < length ds
    all x left cs ds t a (declared.end _ _ p) = a
    all x left cs ds t a (declared.more _ _ _ v n w c e f g) = all x left (cs ++ (n, (x, left v)) ∷ []) ds w
        (omega (arith, a, length-append cs ((n, (x, left v)) ∷ []))) g

    directed : (d : Directed) (left : List ℕ → ℕ) (cs ds : List Condition) (t : List ℕ) → 0 < length cs
        → Directs d left cs t ds → 0 < length ds
    directed Inclusive left cs ds t a h = all false left cs ds t a h.1
    directed Exclusive left cs ds t a h = all true left cs ds t a h.1
    directed Size left cs ds t a h = omega (arith, a, ap length h.0)
    directed TextKind left cs ds t a h = omega (arith, a, ap length h.0)
    directed Unknown left cs ds t a h = absurd h.1

    said : (k : LineKind) → LineSays k p text h.0 h.1 s u → 0 < length s.conditions
    said Mark g = absurd g
    said Unused g = omega (arith, some, ap (λ i. length i.conditions) g.0)
    said Block g = omega (arith, some, ap (λ i. length i.conditions) g.0)
    said Comment g = omega (arith, some, ap (λ i. length i.conditions) g.0)
    said Directive g = directed (directive_of g.2.word) (left_in text h.0) p.conditions s.conditions g.2.rest some
        g.2.directs
    said Plain g = omega (arith, some, ap length g.1)

pub rules_of : (bytes : List ℕ) (file : LexFile) → LexText bytes file → (i : ℕ) (r : Rule)
    → slice_get file.rules.items i ≡ Some r → IsOfFile file.names file.conditions r
rules_of bytes file text i r e =
    let some = some_condition at_first text.all bytes text.behind (omega arith) text.definitions in
    subst (λ n. IsOfFile file.names n r) (sym text.conditions)
    (rule_of text.all.conditions file.names text.behind file.rules.items text.sayings text.lefts i r some text.rules e)

-- each cut tells the truth
pub rules_cut : (bytes : List ℕ) (file : LexFile) → LexText bytes file → AreCut (defined file.names) file.rules.items
rules_cut bytes file text i r e = cut_is_true (defined file.names) r.pattern.head r.pattern.tail r.pattern.cut
    (rules_of bytes file text i r e).is_cut
