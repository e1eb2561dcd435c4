-- What comes next in a lex file is what is left of it.
use Rattle.std.specs.Prelude.{All, codes, if◌then◌else◌, nat_eq}
use Rattle.std.specs.List.{slice_get}
use Rattle.std.specs.Option.{option_map}
use Rattle.std.proofs.Common.{Option, None}
use Rattle.std.proofs.lemmas.Option.{get_or_from_slice_get, slice_get-map, slice_get_within}
use Rattle.std.proofs.Common.{◌≡◌, ◌∙◌, ◌⊎◌, ◌-◌, ℕ, zero, suc, List, [], ◌∷◌, ◌++◌, Bool, true, false, Some, refl, sym}
use Rattle.std.proofs.Common.{ap, subst, arith, append_assoc, drop, inl, inr, length, length-append, take}
use Rattle.std.proofs.Common.{take-append-drop}
use Rattle.std.proofs.Math.Seq.{drop-append_seam}
use Rattle.std.proofs.lemmas.List.{append-nil}
use Rattle.std.proofs.lemmas.List.Elements.{All-push}
use Rattle.ly_base.specs.Bytes.{backslash, newline, single_quote}
use Rattle.ly_base.specs.Escapes.{Escape, bare_x, hexadecimal, letter, octal}
use Rattle.ly_base.specs.Language.{NameBefore}
use Rattle.ly_base.specs.Literals.{Inside, Literal}
use Rattle.ly_base.specs.Literals as quoted
use Rattle.ly_base.specs.declared.language.Language.{Language}
use Rattle.ly_base.specs.declared.language.Language.TheVariants.{Lex, Yacc}
use Rattle.ly_ere.specs.Names.{Definition}
use Rattle.ly_ere.specs.declared.pattern.Rule.{Rule}
use Rattle.ly_lexread.specs.Action.{Effect, Saying, no_effect}
use Rattle.ly_lexread.specs.Conditions.{Condition, initial}
use Rattle.ly_lexread.specs.Definitions.{at_first, CommentEnds, DeclaresAll, DefinedLine, Definitions, DirectiveLine}
use Rattle.ly_lexread.specs.Definitions.{Directs, LineSays, Preamble, directive_of}
use Rattle.ly_lexread.specs.Definitions as defining
use Rattle.ly_lexread.specs.LexText.{ConditionsBegin, DefinitionStands, DefinitionsBegin, LexText, RuleStands}
use Rattle.ly_lexread.specs.LexText.{RulesBegin, declared_at, said_of}
use Rattle.ly_lexread.specs.declared.file.LexFile.{LexFile}
use Rattle.ly_ere.proofs.PlaceLemmas.{some_one}
use Rattle.ly_ere.specs.Winner.{active_of}
use Rattle.ly_lexread.specs.Lines.{BeginsWith, BlockEnds, LineBefore, LineOf, kind_of, last, left_in, more}
use Rattle.ly_lexread.specs.Rules.{RuleBefore, Rules, Skips}
use Rattle.ly_lexread.specs.Rules as ruling
use Rattle.ly_lexread.specs.Statements.{Closed, Given, LineEnds, Opens, SaysAction, Statement, StatementFirst}
use Rattle.ly_lexread.specs.Statements.{Statements}
use Rattle.ly_lexread.specs.Statements.{begins, empty, ends, gaps, in_braces, of_next, on_line, returns}
use Rattle.ly_lexread.specs.Statements as said
use Rattle.ly_lexread.specs.Words.{Begins, HasInFront, Word, literal, mark, name, text_byte}
use Rattle.ly_lexread.specs.Words.{close_brace, close_parenthesis, open_brace, open_parenthesis, semicolon}
use Rattle.ly_lexread.specs.declared.directive.Directed.{Directed}
use Rattle.ly_lexread.specs.declared.directive.Directed.TheVariants.{Exclusive, Inclusive, Size, TextKind, Unknown}
use Rattle.ly_lexread.specs.declared.kind.LineKind.{LineKind}
use Rattle.ly_lexread.specs.declared.kind.LineKind.TheVariants.{Mark, Unused, Block, Comment, Directive, Plain}
use Rattle.ly_lexread.specs.declared.statement.Extent.{Extent}
use Rattle.ly_lexread.specs.declared.statement.Extent.TheVariants.{Line, Braces}
use Rattle.ly_lexread.proofs.ActiveLemmas.{active_suffix}

-- the rest is what is left of the text behind its front
abbrev pub IsLeft : List ℕ → List ℕ → Type 0
IsLeft text rest = (front : List ℕ) × (text ≡ front ++ rest)

left_of_left : (a b c : List ℕ) → IsLeft a b → IsLeft b c → IsLeft a c
left_of_left a b c p q = (p.0 ++ q.0, p.1 ∙ ap (λ i. p.0 ++ i) q.1 ∙ sym (append_assoc p.0 q.0 c))

behind_so_many : (n : ℕ) (text : List ℕ) → IsLeft text (drop n text)
behind_so_many n text = (take n text, sym (take-append-drop n text))

drop_left : (text rest : List ℕ) → IsLeft text rest → drop (length text - length rest) text ≡ rest
drop_left text rest p =
    let many : length text - length rest ≡ length p.0 = omega (arith, ap length p.1, length-append p.0 rest) in
    ap (λ n. drop n text) many ∙ ap (drop (length p.0)) p.1 ∙ drop-append_seam p.0 rest

line_end_left : (text line end rest : List ℕ) → LineOf text line end → rest ≡ drop 1 end → IsLeft text rest
line_end_left text line end rest l e
    = left_of_left text end rest (line, l.2) (subst (IsLeft end) (sym e) (behind_so_many 1 end))

line_left : (text line rest : List ℕ) → LineBefore text line rest → IsLeft text rest
line_left text line rest b = line_end_left text line b.1 rest b.2 b.3

block_left : (text rest : List ℕ) → BlockEnds text rest → IsLeft text rest
block_left text rest (last _ line _ b h) = line_left text line rest b
block_left text rest (more _ line behind _ b h d)
    = left_of_left text behind rest (line_left text line behind b) (block_left behind rest d)

comment_left : (text rest : List ℕ) → CommentEnds text rest → IsLeft text rest
comment_left text rest h =
    let stop : IsLeft h.0 h.1
    = (h.5.0 ++ codes "*/", h.5.2 ∙ sym (append_assoc h.5.0 (codes "*/") h.1)) in
    left_of_left text h.0 rest (codes "/*", h.4)
    (left_of_left h.0 h.1 rest stop (line_end_left h.1 h.2 h.3 rest h.6 h.7))

name_left : (text n rest : List ℕ) → NameBefore Lex text n rest → IsLeft text rest
name_left text n rest h = (n, h.2)

escape_left : (text rest : List ℕ) (b : ℕ) → Escape text b rest → IsLeft text rest
escape_left text rest b (octal ds _ a some few stops small) = (ds, refl)
escape_left text rest b (hexadecimal ds _ a some stops small) = (_ ∷ ds, refl)
escape_left text rest b (bare_x _ stops) = (_ ∷ [], refl)
escape_left text rest b (letter c _ x y z) = (c ∷ [], refl)

inside_left : (text rest : List ℕ) (b : ℕ) → Inside text b rest → IsLeft text rest
inside_left text rest b (quoted.bare c _ x y) = (c ∷ [], refl)
inside_left text rest b (quoted.escaped t _ c h) = let p = escape_left t rest c h
    in (backslash ∷ p.0, ap (λ i. backslash ∷ i) p.1)
inside_left text rest b (quoted.line _) = (backslash ∷ newline ∷ [], refl)

literal_left : (text rest : List ℕ) (b : ℕ) → Literal text b rest → IsLeft text rest
literal_left text rest b h = left_of_left text h.0 rest (single_quote ∷ [], h.1)
    (left_of_left h.0 (single_quote ∷ rest) rest (inside_left h.0 (single_quote ∷ rest) b h.2)
    (single_quote ∷ [], refl))

begins_left : (x : Word) (text rest : List ℕ) → Begins text x rest → IsLeft text rest
begins_left (mark b) text rest h = (b ∷ [], h.1)
begins_left text_byte text rest (inl h)
    = left_of_left text (codes "[0]" ++ rest) rest (name_left text (codes "yytext") (codes "[0]" ++ rest) h)
    (codes "[0]", refl)
begins_left text_byte text rest (inr h)
    = left_of_left text h.0 rest (codes "*", h.1) (name_left h.0 (codes "yytext") rest h.2)
begins_left (name n) text rest h = name_left text n rest h.0
begins_left (literal b) text rest h = literal_left text rest b h

word_left : (l : Language) (text : List ℕ) (x : Word) (rest : List ℕ) → HasInFront l text x rest → IsLeft text rest
word_left l text x rest h = left_of_left text h.0 rest (h.1.0, h.1.2) (begins_left x h.0 rest h.2)

opens_left : (l : Language) (text : List ℕ) (is_open : Bool) (rest : List ℕ) → Opens l text is_open rest
    → IsLeft text rest
opens_left l text true rest h = word_left l text open_parenthesis rest h
opens_left l text false rest h = ([], sym h.0)

closed_left : (l : Language) (is_open : Bool) (text rest : List ℕ) → Closed l is_open text rest → IsLeft text rest
closed_left l true text rest h
    = left_of_left text h.0 rest (word_left l text close_parenthesis h.0 h.1) (word_left l h.0 semicolon rest h.2)
closed_left l false text rest h = word_left l text semicolon rest h

given_left : (l : Language) (text : List ℕ) (x : Word) (rest : List ℕ) → Given l text x rest → IsLeft text rest
given_left l text x rest h = left_of_left text h.inside rest (opens_left l text h.is_open h.inside h.opens)
    (left_of_left h.inside h.behind rest (word_left l h.inside x h.behind h.word)
    (closed_left l h.is_open h.behind rest h.closed))

statement_left : (cs : List Condition) (e : Extent) (s : Statement) (text rest : List ℕ)
    → StatementFirst cs e text s rest → IsLeft text rest
statement_left cs Line ends text rest h = subst (IsLeft text) (sym h.1) (text, sym (append-nil text))
statement_left cs Braces ends text rest h = word_left Yacc text close_brace rest h
statement_left cs e empty text rest h = word_left (gaps e) text semicolon rest h
statement_left cs e (begins n) text rest h
    = left_of_left text h.1.0 rest (word_left (gaps e) text (name (codes "BEGIN")) h.1.0 h.1.1)
    (given_left (gaps e) h.1.0 h.0 rest h.1.2)
statement_left cs e (returns m) text rest h
    = left_of_left text h.1.0 rest (word_left (gaps e) text (name (codes "return")) h.1.0 h.1.1)
    (given_left (gaps e) h.1.0 h.0 rest h.1.2)

statements_left : (cs : List Condition) (e : Extent) (d g : Effect) (text rest : List ℕ)
    → Statements cs e d text g rest → IsLeft text rest
statements_left cs e d g text rest (said.done _ _ _ h) = statement_left cs e ends text rest h
statements_left cs e d g text rest (said.more _ f _ s _ behind _ h follows later)
    = left_of_left text behind rest (statement_left cs e s text behind h) (statements_left cs e f g behind rest later)

says_left : (cs : List Condition) (line end : List ℕ) (s : Saying) (rest : List ℕ) → SaysAction cs line end s rest
    → IsLeft (line ++ end) rest
says_left cs line end s rest (on_line e h)
    = left_of_left (line ++ end) end (drop 1 end) (line, refl) (behind_so_many 1 end)
says_left cs line end s rest (of_next h)
    = left_of_left (line ++ end) end (drop 1 end) (line, refl) (behind_so_many 1 end)
says_left cs line end s rest (in_braces e inside behind _ front all over) =
    let p = word_left Lex line open_brace inside front in
    left_of_left (line ++ end) (inside ++ end) rest
    (p.0, ap (λ i. i ++ end) p.1 ∙ append_assoc p.0 inside end)
    (left_of_left (inside ++ end) behind rest (statements_left cs Braces no_effect e (inside ++ end) behind all)
    (line_end_left behind over.0 over.1 rest over.2 over.4))

rule_left : (cs : List Condition) (names : List Definition) (text rest : List ℕ) (r : Rule) (s : Saying)
    → RuleBefore cs names text r s rest → IsLeft text rest
rule_left cs names text rest r s b =
    let inside = drop b.taken b.body in
    let p = left_of_left b.line.line b.body inside
    (active_suffix cs b.line.line (active_of r) b.body b.line.is_active) (behind_so_many b.taken b.body) in
    left_of_left text (inside ++ b.end) rest
    (p.0, b.line.is_line.2 ∙ ap (λ i. i ++ b.end) p.1 ∙ append_assoc p.0 inside b.end)
    (says_left cs inside b.end s rest b.says)

skips_left : (text rest : List ℕ) → Skips text rest → IsLeft text rest
skips_left text rest h = by h.3
  where
    by : ((kind_of h.0 ≡ Unused) × (rest ≡ h.1)) ⊎ ((kind_of h.0 ≡ Block) × BlockEnds h.1 rest) → IsLeft text rest
    by (inl k) = subst (IsLeft text) (sym k.1) (line_left text h.0 h.1 h.2)
    by (inr k) = left_of_left text h.1 rest (line_left text h.0 h.1 h.2) (block_left h.1 rest k.1)

-- rules begin where as many bytes are left as it is said
pub rules_stand : (bytes : List ℕ) (cs : List Condition) (names : List Definition) (text : List ℕ) (rs : List Rule)
    (ss : List Saying) (ls : List ℕ) → IsLeft bytes text → Rules cs names text rs ss ls → (i n : ℕ) (r : Rule)
    → slice_get ls i ≡ Some n → slice_get rs i ≡ Some r → RuleStands cs names (drop (length bytes - n) bytes) r
rules_stand bytes cs names text rs ss ls p (ruling.end _ o) i n r e f = absurd (cc)
rules_stand bytes cs names text rs ss ls p (ruling.skip _ u _ _ _ h d) i n r e f
    = rules_stand bytes cs names u rs ss ls (left_of_left bytes text u p (skips_left text u h)) d i n r e f
rules_stand bytes cs names text rs ss ls p (ruling.rule _ u q s ps qs ns b d) zero n r e f =
    let count : length text ≡ n = cc in
    let same : q ≡ r = cc in
    subst (λ x. RuleStands cs names (drop (length bytes - n) bytes) x) same
    (subst (λ x. RuleStands cs names (drop (length bytes - x) bytes) q) count
    (subst (λ x. RuleStands cs names x q) (sym (drop_left bytes text p)) (s, u, b)))
rules_stand bytes cs names text rs ss ls p (ruling.rule _ u q s ps qs ns b d) (suc i) n r e f
    = rules_stand bytes cs names u ps qs ns (left_of_left bytes text u p (rule_left cs names text u q s b)) d i n r e f

-- of a condition: it is declared nowhere, or what stands from there on begins with its name
abbrev IsPlaced : List ℕ → Condition → Type 0
IsPlaced bytes c = (c.1.1 ≡ 0) ⊎ BeginsWith (drop (length bytes - c.1.1) bytes) c.0

module _ (bytes text line end : List ℕ) (whole : IsLeft bytes text) (parted : text ≡ line ++ end) where
  abbrev left : List ℕ → ℕ
  left = left_in text line

  -- a name on the line
  name_placed : (x : Bool) (here n rest : List ℕ) → IsLeft line here → here ≡ n ++ rest
      → IsPlaced bytes (n, (x, left here))
  name_placed x here n rest p e =
      let there : text ≡ p.0 ++ (here ++ end)
      = parted ∙ ap (λ i. i ++ end) p.1 ∙ append_assoc p.0 here end in
      let count : left here ≡ length (here ++ end) = omega (
        arith,
        ap length parted,
        length-append line end,
        ap length p.1,
        length-append p.0 here,
        length-append here end,
      ) in
      let behind : drop (length bytes - left here) bytes ≡ here ++ end
      = ap (λ k. drop (length bytes - k) bytes) count
      ∙ drop_left bytes (here ++ end) (left_of_left bytes text (here ++ end) whole (p.0, there)) in
      inr (rest ++ end, behind ∙ ap (λ i. i ++ end) e ∙ append_assoc n rest end)

  declares_placed : (x : Bool) (cs all : List Condition) (t : List ℕ) → IsLeft line t → DeclaresAll x left cs t all
      → All (IsPlaced bytes) cs → All (IsPlaced bytes) all
  declares_placed x cs all t p (defining.end _ _ a) placed = placed
  declares_placed x cs all t p (defining.more _ _ _ here n rest b h new d) placed =
      let q = left_of_left line t here p (b.0, b.4) in
      declares_placed x (cs ++ (n, (x, left here)) ∷ []) all rest (left_of_left line here rest q (n, h.2)) d
      (All-push (IsPlaced bytes) cs (n, (x, left here)) placed (name_placed x here n rest q h.2))

  directs_placed : (d : Directed) (cs all : List Condition) (t : List ℕ) → IsLeft line t → Directs d left cs t all
      → All (IsPlaced bytes) cs → All (IsPlaced bytes) all
  directs_placed Inclusive cs all t p h placed = declares_placed false cs all t p h.1 placed
  directs_placed Exclusive cs all t p h placed = declares_placed true cs all t p h.1 placed
  directs_placed Size cs all t p h placed = subst (All (IsPlaced bytes)) (sym h.0) placed
  directs_placed TextKind cs all t p h placed = subst (All (IsPlaced bytes)) (sym h.0) placed
  directs_placed Unknown cs all t p h placed = subst (All (IsPlaced bytes)) (sym h.0) placed

  directive_placed : (cs all : List Condition) → DirectiveLine left cs line all → All (IsPlaced bytes) cs
      → All (IsPlaced bytes) all
  directive_placed cs all d placed = directs_placed (directive_of d.word) cs all d.rest
      (left_of_left line d.behind d.rest (codes "%", d.is_directive) (name_left d.behind d.word d.rest d.named))
      d.directs placed

-- the lines of the definitions, and what they say
module _ (bytes : List ℕ) where
  abbrev Stand : List DefinedLine → Type 0
  Stand ds = All (λ d. DefinitionStands (drop (length bytes - d.1.1) bytes) d) ds

  abbrev Stands : Preamble → Type 0
  Stands p = Stand p.definitions × All (IsPlaced bytes) p.conditions

  says_stand : (k : LineKind) (p q : Preamble) (text line behind rest : List ℕ) → IsLeft bytes text
      → LineBefore text line behind → LineSays k p text line behind q rest → Stands p → IsLeft text rest × Stands q
  says_stand Mark p q text line behind rest l b h all = absurd h
  says_stand Unused p q text line behind rest l b h all = (
    subst (IsLeft text) (sym h.1) (line_left text line behind b),
    subst Stands (sym h.0) all,
  )
  says_stand Block p q text line behind rest l b h all = (
    left_of_left text behind rest (line_left text line behind b) (block_left behind rest h.1),
    subst Stands (sym h.0) all,
  )
  says_stand Comment p q text line behind rest l b h all = (comment_left text rest h.1, subst Stands (sym h.0) all)
  says_stand Directive p q text line behind rest l b h all = (
    subst (IsLeft text) (sym h.0) (line_left text line behind b),
    (
      subst Stand (sym h.1) all.0,
      directive_placed bytes text line b.1 l b.2.2 p.conditions q.conditions h.2 all.1,
    ),
  )
  says_stand Plain p q text line behind rest l b h all =
      let here : DefinitionStands (drop (length bytes - length text) bytes) (h.2.name, (h.2.text, length text))
      = subst (λ t. DefinitionStands t (h.2.name, (h.2.text, length text))) (sym (drop_left bytes text l))
      (line, b.1, b.2, h.2.defines) in (
        subst (IsLeft text) (sym h.0) (line_left text line behind b),
        (
          subst Stand (sym h.2.one_more) (All-push
              (λ (d : DefinedLine). DefinitionStands (drop (length bytes - d.1.1) bytes) d) p.definitions
              (h.2.name, (h.2.text, length text)) all.0 here),
          subst (All (IsPlaced bytes)) (sym h.1) all.1,
        ),
      )

  pub definitions_stand : (p q : Preamble) (text rest : List ℕ) → IsLeft bytes text → Definitions p text q rest
      → Stands p → IsLeft bytes rest × Stands q
  definitions_stand p q text rest l (defining.mark _ _ line _ b k) all
      = (left_of_left bytes text rest l (line_left text line rest b), all)
  definitions_stand p q text rest l (defining.more _ s _ _ u _ h d) all =
      let next = says_stand (kind_of h.0) p s text h.0 h.1 u l h.2 h.3 all in
      definitions_stand s q u rest (left_of_left bytes text u l next.0) d next.1

from_map : {A : Type 0} (f : A → ℕ) (o : Option A) (n : ℕ) → option_map f o ≡ Some n
    → (x : A) × (o ≡ Some x) × (f x ≡ n)
from_map f None n e = absurd (cc)
from_map f (Some x) n e = (x, refl, cc)

-- what stands behind the definitions is left, and each of these begins where it is said
stands_behind : (bytes : List ℕ) (file : LexFile) (text : LexText bytes file)
    → IsLeft bytes text.behind × Stands bytes text.all
stands_behind bytes file text = definitions_stand bytes at_first text.all bytes text.behind ([], refl)
    text.definitions (
      λ k d less. absurd (omega (arith, less)),
      All-push (IsPlaced bytes) [] initial (λ k d less. absurd (omega (arith, less))) (inl refl),
    )

pub rules_begin_there : RulesBegin
rules_begin_there bytes file text i n r e f =
    let starts : option_map (λ k. length bytes - k) (slice_get text.lefts i) ≡ Some n
    = sym (slice_get-map (λ k. length bytes - k) text.lefts i)
    ∙ (ap (λ xs. slice_get xs i) (sym text.rule_starts) ∙ e) in
    let k = from_map (λ k. length bytes - k) (slice_get text.lefts i) n starts in
    subst (λ m. RuleStands text.all.conditions file.names (drop m bytes) r) k.2
    (rules_stand bytes text.all.conditions file.names text.behind file.rules.items text.sayings text.lefts
    (stands_behind bytes file text).0 text.rules i k.0 r k.1 f)

pub definitions_begin_there : DefinitionsBegin
definitions_begin_there bytes file text i n d e f =
    let at = λ (x : DefinedLine). length bytes - x.1.1 in
    let starts : option_map at (slice_get text.all.definitions i) ≡ Some n
    = sym (slice_get-map at text.all.definitions i) ∙ (ap (λ xs. slice_get xs i) (sym text.definition_starts) ∙ e) in
    let here : at d ≡ n = some_one (ap (option_map at) (sym f) ∙ starts) in
    let one = (stands_behind bytes file text).1.0 i d (slice_get_within text.all.definitions i d f) in
    subst (λ m. DefinitionStands (drop m bytes) d) here
    (subst (λ x. DefinitionStands (drop (length bytes - x.1.1) bytes) x)
    (get_or_from_slice_get text.all.definitions i d d f) one)

-- where a condition is declared
declared_there : (bytes : List ℕ) (c : Condition) (n : ℕ) → IsPlaced bytes c
    → declared_at (length bytes) c.1.1 ≡ Some n → BeginsWith (drop n bytes) c.0
declared_there bytes c n (inl none) e = absurd (nowhere (ap (declared_at (length bytes)) (sym none) ∙ e))
  where
    nowhere : None ≡ Some n → ⊥
    nowhere f = cc
declared_there bytes c n (inr there) e = by (nat_eq c.1.1 0) e
  where
    by : (t : Bool) → (if t then None else Some (length bytes - c.1.1)) ≡ Some n → BeginsWith (drop n bytes) c.0
    by true f = absurd (cc)
    by false f = subst (λ k. BeginsWith (drop k bytes) c.0) (some_one f) there

-- a condition by its name and where it is declared
abbrev named_at : ℕ → Condition → List ℕ × Option ℕ
named_at whole c = (c.0, declared_at whole c.1.1)

pub conditions_begin_there : ConditionsBegin
conditions_begin_there bytes file text i c n f e =
    let cs = text.all.conditions in
    let at = named_at (length bytes) in
    let said : option_map at (slice_get cs i) ≡ Some (said_of c)
    = sym (slice_get-map at cs i) ∙ (ap (λ xs. slice_get xs i) (sym text.start_conditions)
    ∙ (slice_get-map said_of file.start_conditions.items i ∙ ap (option_map said_of) f)) in
    by (slice_get cs i) refl said
  where
    by : (o : Option Condition) → slice_get text.all.conditions i ≡ o
        → option_map (named_at (length bytes)) o ≡ Some (said_of c)
        → BeginsWith (drop n bytes) c.name.items
    by None is g = absurd (cc)
    by (Some d) is g =
        let same : named_at (length bytes) d ≡ said_of c = some_one g in
        let one = (stands_behind bytes file text).1.1 i d (slice_get_within text.all.conditions i d is) in
        let placed : IsPlaced bytes d
        = subst (IsPlaced bytes) (get_or_from_slice_get text.all.conditions i d d is) one in
        subst (BeginsWith (drop n bytes)) (ap (λ p. p.0) same)
        (declared_there bytes d n placed (ap (λ p. p.1) same ∙ e))
