-- The statements of an action are determined.
use denote.Ref.{Bor}
use Rattle.std.specs.Bool.{MatchBool}
use Rattle.std.specs.Prelude.{IfErr, IfOk, MatchResult, codes}
use Rattle.std.proofs.Common.{◌≡◌, ◌≢◌, ℕ, ◌<◌, ◌≤◌, List, [], ◌∷◌, ◌++◌, Bool, true, false, refl, sym, ap, ◌∙◌, subst}
use Rattle.std.proofs.Common.{arith, get_or, Result, Ok, Err, Some, Option, drop, length}
use Rattle.std.proofs.Common.{append_assoc, length-append, length-drop, ◌-◌, ◌+◌, ◌⊎◌, inl, inr}
use Rattle.std.proofs.Math.Seq.{drop-append_seam}
use Rattle.ly_base.specs.Gap.{Gap}
use Rattle.ly_base.specs.declared.language.Language.{Language}
use Rattle.ly_base.specs.declared.language.Language.TheVariants.{Lex, Yacc}
use Rattle.ly_base.proofs.WordBeforeLemmas.{word_none, word_one, word_shorter}
use Rattle.ly_lexread.specs.Action.{Effect, Meaning, Saying, next, no_effect, own}
use Rattle.ly_lexread.specs.Conditions.{Condition}
use Rattle.ly_lexread.specs.Private.Statements.{EndsBy, saying_of, statement_of}
use Rattle.ly_lexread.specs.Private.Words.{IsFound, IsFront, word_of}
use Rattle.ly_lexread.specs.Statements.{Closed, Ends, HasEffect, Given, LineEnds, NamesCondition, Opens, StandsFor}
use Rattle.ly_lexread.specs.Statements.{SaysAction, Statement, in_braces, of_next, on_line}
use Rattle.ly_lexread.specs.Statements.{StatementFirst, Statements, begins, done, empty, ends, gaps, more, returns}
use Rattle.ly_lexread.specs.Words.{HasInFront, Word, Wording, bar, close_brace, close_parenthesis, literal, mark, name}
use Rattle.ly_lexread.specs.Words.{open_parenthesis}
use Rattle.ly_lexread.specs.Words.{open_brace, semicolon, text_byte}
use Rattle.ly_lexread.specs.declared.action.Said.{Said}
use Rattle.ly_lexread.specs.declared.action_fault.ActionFault.{ActionFault}
use Rattle.ly_lexread.specs.declared.fault.LexFault.{LexFault}
use Rattle.ly_lexread.specs.declared.fault.LexFault.TheVariants.{OutOfMemory}
use Rattle.ly_lexread.specs.declared.rest.Rest.{Rest}
use Rattle.ly_lexread.specs.declared.statement.Statement.{Statement as ReadStatement}
use Rattle.ly_lexread.specs.declared.statement.Statement.TheVariants.{Ends as ReadEnds, Empty as ReadEmpty}
use Rattle.ly_lexread.specs.declared.statement.Statement.TheVariants.{Begins as ReadBegins, Returns as ReadReturns}
use Rattle.ly_lexread.specs.declared.statement.Extent.{Extent}
use Rattle.ly_lexread.specs.declared.statement.Extent.TheVariants.{Line, Braces}
use Rattle.ly_lexread.specs.declared.words.NextWord.{NextWord}
use Rattle.ly_lexread.specs.declared.words.NextWord.TheVariants as word
use Rattle.ly_lexread.specs.Lines.{LineOf}
use Rattle.ly_lexread.proofs.LineLemmas.{line_one}
use Rattle.ly_lexread.proofs.WordLemmas.{end_gap, found_front, front_end, front_is, mark_front, words}

pub opens_one : (l : Language) (text i j : List ℕ) (t u : Bool) → Opens l text t i → Opens l text u j
    → (t ≡ u) × (i ≡ j)
opens_one l text i j true true a b = (refl, (word_one words l text open_parenthesis open_parenthesis i j a b).1)
opens_one l text i j true false a b = absurd (b.1 i a)
opens_one l text i j false true a b = absurd (a.1 j b)
opens_one l text i j false false a b = (refl, a.0 ∙ sym b.0)

-- no `)` or `;` where one has to stand
pub closed_bare : (l : Language) (text : List ℕ) (t : Bool) (r : Result (Bor (List ℕ)) ActionFault) → t ≡ false
    → MatchResult r (λ rest. HasInFront l text semicolon rest.now)
    (λ _. (rest : List ℕ) → HasInFront l text semicolon rest → ⊥)
    → MatchResult r (λ rest. Closed l t text rest.now) (λ _. (rest : List ℕ) → Closed l t text rest → ⊥)
closed_bare l text t r e h = rw e h

pub not_closed : (l : Language) (text rest : List ℕ) (t : Bool) → t ≡ true
    → ((s : List ℕ) → HasInFront l text close_parenthesis s → ⊥) → Closed l t text rest → ⊥
not_closed l text rest true e none h = none h.0 h.1
not_closed l text rest false e none h = cc e

pub closed_open : (l : Language) (text behind : List ℕ) (t : Bool) (r : Result (Bor (List ℕ)) ActionFault) → t ≡ true
    → HasInFront l text close_parenthesis behind
    → MatchResult r (λ rest. HasInFront l behind semicolon rest.now)
    (λ _. (rest : List ℕ) → HasInFront l behind semicolon rest → ⊥)
    → MatchResult r (λ rest. Closed l t text rest.now) (λ _. (rest : List ℕ) → Closed l t text rest → ⊥)
closed_open l text behind false r e f h = cc e
closed_open l text behind true (Ok rest) e f h = (behind, f, h)
closed_open l text behind true (Err fault) e f h = λ rest k. h rest
    (subst (λ i. HasInFront l i semicolon rest)
    (word_one words l text close_parenthesis close_parenthesis k.0 behind k.1 f).1 k.2)

-- the word that is given, and what closes behind it
pub given_word : (l : Language) (text inside behind rest : List ℕ) (t : Bool) (w : NextWord) (x : Word)
    → Opens l text t inside → IsFront l inside w behind → Given l text x rest
    → (x ≡ word_of w) × Closed l t behind rest
given_word l text inside behind rest t w x o f g =
    let e = opens_one l text g.inside inside g.is_open t g.opens o in
    let word : HasInFront l inside x g.behind = subst (λ i. HasInFront l i x g.behind) e.1 g.word in
    let same = front_is l inside w behind x g.behind f word in
    (same.0, subst (λ u. Closed l u behind rest) e.0 (subst (λ i. Closed l g.is_open i rest) same.1 g.closed))

pub same_mark : (a b : ℕ) → mark a ≡ mark b → a ≡ b
same_mark a b e = cc

pub names_found : (cs : List Condition) (w : NextWord) (n : ℕ) → NamesCondition cs (word_of w) n → IsFound w
names_found cs word.End n h = absurd (omega (arith, same_mark 0 48 h.0))
names_found cs word.Other n h = absurd (omega (arith, same_mark 0 48 h.0))
names_found cs (word.Mark b) n h = tt
names_found cs word.TextByte n h = tt
names_found cs (word.Name s) n h = tt
names_found cs (word.Literal b) n h = tt

pub stands_found : (w : NextWord) (m : Meaning) → StandsFor (word_of w) m → IsFound w
stands_found word.End m h = h
stands_found word.Other m h = h
stands_found (word.Mark b) m h = tt
stands_found word.TextByte m h = tt
stands_found (word.Name s) m h = tt
stands_found (word.Literal b) m h = tt

pub given_of : (l : Language) (text inside behind rest : List ℕ) (t : Bool) (w : NextWord) → Opens l text t inside
    → IsFront l inside w behind → IsFound w → Closed l t behind rest → Given l text (word_of w) rest
given_of l text inside behind rest t w o f found closed = record {
  is_open = t;
  inside = inside;
  opens = o;
  behind = behind;
  word = found_front l inside w behind f found;
  closed = closed;
}

same_name : (a b : List ℕ) → name a ≡ name b → a ≡ b
same_name a b e = cc

no_name_mark : (a : List ℕ) (b : ℕ) → name a ≡ mark b → ⊥
no_name_mark a b e = cc

begin_is_return : codes "BEGIN" ≡ codes "return" → ⊥
begin_is_return e = omega (arith, ap (λ l. get_or l 0 0) e)

-- a name is no end
name_ends : (e : Extent) (text n behind rest : List ℕ) → HasInFront (gaps e) text (name n) behind → Ends e text rest → ⊥
name_ends Line text n behind rest f h = word_none words Lex text (name n) behind h.0 f
name_ends Braces text n behind rest f h = no_name_mark n 125 (word_one words Yacc text
    (name n) close_brace behind rest f h).0

-- What stands behind BEGIN.
pub record Begun (cs : List Condition) (l : Language) (behind : List ℕ) (s : Statement) (rest : List ℕ) : Type 0 where
  pub condition : ℕ
  pub is : s ≡ begins condition
  pub word : Word
  pub given : Given l behind word rest
  pub named : NamesCondition cs word condition

pub begin_first : (cs : List Condition) (e : Extent) (text behind rest : List ℕ) (s : Statement)
    → HasInFront (gaps e) text (name (codes "BEGIN")) behind → StatementFirst cs e text s rest
    → Begun cs (gaps e) behind s rest
begin_first cs e text behind rest ends f h = absurd (name_ends e text (codes "BEGIN") behind rest f h)
begin_first cs e text behind rest empty f h
    = absurd (no_name_mark (codes "BEGIN") 59 (word_one words (gaps e) text (name
    (codes "BEGIN")) semicolon behind rest f h).0)
begin_first cs e text behind rest (begins n) f h = record {
  condition = n;
  is = refl;
  word = h.0;
  given = subst (λ i. Given (gaps e) i h.0 rest)
      (word_one words (gaps e) text (name (codes "BEGIN")) (name (codes "BEGIN")) h.1.0 behind h.1.1 f).1 h.1.2;
  named = h.1.3;
}
begin_first cs e text behind rest (returns m) f h = absurd (begin_is_return (same_name (codes "BEGIN") (codes "return")
    (word_one words (gaps e) text (name (codes "BEGIN")) (name (codes "return")) behind h.1.0 f h.1.1).0))

-- What stands behind `return`.
pub record Told (l : Language) (behind : List ℕ) (s : Statement) (rest : List ℕ) : Type 0 where
  pub meaning : Meaning
  pub is : s ≡ returns meaning
  pub word : Word
  pub given : Given l behind word rest
  pub stands : StandsFor word meaning

pub return_first : (cs : List Condition) (e : Extent) (text behind rest : List ℕ) (s : Statement)
    → HasInFront (gaps e) text (name (codes "return")) behind → StatementFirst cs e text s rest
    → Told (gaps e) behind s rest
return_first cs e text behind rest ends f h = absurd (name_ends e text (codes "return") behind rest f h)
return_first cs e text behind rest empty f h = absurd
    (no_name_mark (codes "return") 59
    (word_one words (gaps e) text (name (codes "return")) semicolon behind rest f h).0)
return_first cs e text behind rest (begins n) f h = absurd (begin_is_return (same_name (codes "BEGIN") (codes "return")
    (word_one words (gaps e) text (name (codes "BEGIN")) (name (codes "return")) h.1.0 behind h.1.1 f).0))
return_first cs e text behind rest (returns m) f h = record {
  meaning = m;
  is = refl;
  word = h.0;
  given = subst (λ i. Given (gaps e) i h.0 rest)
      (word_one words (gaps e) text (name (codes "return")) (name (codes "return")) h.1.0 behind h.1.1 f).1 h.1.2;
  stands = h.1.3;
}

-- the statements are over where the word says so
pub ended : (e : Extent) (text : List ℕ) (w : NextWord) (rest : List ℕ) → IsFront (gaps e) text w rest → EndsBy e w
    → Ends e text rest
ended Line text w rest f h = end_gap Lex text w rest f h
ended Braces text w rest f h = mark_front Yacc text w rest 125 f h (omega arith)

not_ended : (e : Extent) (text : List ℕ) (w : NextWord) (behind rest : List ℕ) → IsFront (gaps e) text w behind
    → (EndsBy e w → ⊥) → Ends e text rest → ⊥
not_ended Line text w behind rest f h k = h (front_end Lex text w behind f k.0)
not_ended Braces text w behind rest f h k = h (sym (front_is Yacc text w behind close_brace rest f k).0)

-- no statement stands there
pub statement_none : (cs : List Condition) (e : Extent) (text : List ℕ) (w : NextWord) (behind : List ℕ)
    → IsFront (gaps e) text w behind → (EndsBy e w → ⊥) → word_of w ≢ semicolon → word_of w ≢ name (codes "BEGIN")
    → word_of w ≢ name (codes "return") → (s : Statement) (rest : List ℕ) → StatementFirst cs e text s rest → ⊥
statement_none cs e text w behind f a b c d ends rest h = not_ended e text w behind rest f a h
statement_none cs e text w behind f a b c d empty rest h = b (sym (front_is
    (gaps e) text w behind semicolon rest f h).0)
statement_none cs e text w behind f a b c d (begins n) rest h
    = c (sym (front_is (gaps e) text w behind (name (codes "BEGIN")) h.1.0 f h.1.1).0)
statement_none cs e text w behind f a b c d (returns m) rest h
    = d (sym (front_is (gaps e) text w behind (name (codes "return")) h.1.0 f h.1.1).0)

-- whether a gap is all
pub gap_test : (l : Language) (text : List ℕ) (w : NextWord) (rest : List ℕ) (t : Bool) → IsFront l text w rest
    → MatchBool t (w ≡ word.End) (w ≢ word.End) → MatchBool t (Gap l text) (Gap l text → ⊥)
gap_test l text w rest true f e = (end_gap l text w rest f e).0
gap_test l text w rest false f e = λ g. e (front_end l text w rest f g)

-- a line that a gap fills
pub line_ends_by : (text line end rest : List ℕ) (t : Bool) → LineOf text line end → rest ≡ drop 1 end
    → MatchBool t (Gap Lex line) (Gap Lex line → ⊥)
    → MatchBool t (LineEnds text rest) ((s : List ℕ) → LineEnds text s → ⊥)
line_ends_by text line end rest true l e g = (line, end, l, g, e)
line_ends_by text line end rest false l e g = λ s h. g (subst (Gap Lex) (line_one text h.0 line h.1 end h.2 l).0 h.3)

pub line_ends_one : (text r s : List ℕ) → LineEnds text r → LineEnds text s → r ≡ s
line_ends_one text r s a b = a.4 ∙ ap (drop 1) (line_one text a.0 b.0 a.1 b.1 a.2 b.2).1 ∙ sym b.4

-- statements are determined
pub given_one : (l : Language) (text r s : List ℕ) (x y : Word) → Given l text x r → Given l text y s
    → (x ≡ y) × (r ≡ s)
given_one l text r s x y a b =
    let e = opens_one l text b.inside a.inside b.is_open a.is_open b.opens a.opens in
    let word : HasInFront l a.inside y b.behind = subst (λ i. HasInFront l i y b.behind) e.1 b.word in
    let same = word_one words l a.inside x y a.behind b.behind a.word word in
    let closed : Closed l a.is_open a.behind s
    = subst (λ u. Closed l u a.behind s) e.0 (subst (λ i. Closed l b.is_open i s) (sym same.1) b.closed) in
    (same.0, closed_one a.is_open a.behind a.closed closed)
  where
    closed_one : (t : Bool) (u : List ℕ) → Closed l t u r → Closed l t u s → r ≡ s
    closed_one true u c d =
        let e = (word_one words l u close_parenthesis close_parenthesis c.0 d.0 c.1 d.1).1 in
        (word_one words l c.0 semicolon semicolon r s c.2 (subst (λ i. HasInFront l i semicolon s) (sym e) d.2)).1
    closed_one false u c d = (word_one words l u semicolon semicolon r s c d).1

some_one : (a b : ℕ) (o : Option ℕ) → o ≡ Some a → o ≡ Some b → a ≡ b
some_one a b o e f = cc

names_one : (cs : List Condition) (x : Word) (n m : ℕ) → NamesCondition cs x n → NamesCondition cs x m → n ≡ m
names_one cs (mark b) n m h k = h.1 ∙ sym k.1
names_one cs text_byte n m h k = absurd h
names_one cs (name s) n m h k = some_one n m _ h k
names_one cs (literal b) n m h k = absurd h

stands_one : (x : Word) (m n : Meaning) → StandsFor x m → StandsFor x n → m ≡ n
stands_one (mark b) m n h k = absurd h
stands_one text_byte m n h k = h ∙ sym k
stands_one (name s) m n h k = h ∙ sym k
stands_one (literal b) m n h k = h ∙ sym k

ends_one : (e : Extent) (text r s : List ℕ) → Ends e text r → Ends e text s → r ≡ s
ends_one Line text r s a b = a.1 ∙ sym b.1
ends_one Braces text r s a b = (word_one words Yacc text close_brace close_brace r s a b).1

no_semicolon_end : (e : Extent) (text r s : List ℕ) → HasInFront (gaps e) text semicolon r → Ends e text s → ⊥
no_semicolon_end Line text r s f h = word_none words Lex text semicolon r h.0 f
no_semicolon_end Braces text r s f h
    = absurd (omega (arith, same_mark 59 125 (word_one words Yacc text semicolon close_brace r s f h).0))

pub statement_one : (cs : List Condition) (e : Extent) (text : List ℕ) (s t : Statement) (q r : List ℕ)
    → StatementFirst cs e text s q → StatementFirst cs e text t r → (s ≡ t) × (q ≡ r)
statement_one cs e text ends ends q r a b = (refl, ends_one e text q r a b)
statement_one cs e text ends empty q r a b = absurd (no_semicolon_end e text r q b a)
statement_one cs e text empty ends q r a b = absurd (no_semicolon_end e text q r a b)
statement_one cs e text empty empty q r a b = (refl, (word_one words (gaps e) text semicolon semicolon q r a b).1)
statement_one cs e text (begins n) t q r a b =
    let h = begin_first cs e text a.1.0 r t a.1.1 b in
    let same = given_one (gaps e) a.1.0 q r a.0 h.word a.1.2 h.given in (
      ap begins (names_one cs a.0 n h.condition a.1.3
          (subst (λ x. NamesCondition cs x h.condition) (sym same.0) h.named)) ∙ sym h.is,
      same.1,
    )
statement_one cs e text (returns m) t q r a b =
    let h = return_first cs e text a.1.0 r t a.1.1 b in
    let same = given_one (gaps e) a.1.0 q r a.0 h.word a.1.2 h.given in (
      ap returns (stands_one a.0 m h.meaning a.1.3 (subst (λ x. StandsFor x h.meaning) (sym same.0) h.stands))
          ∙ sym h.is,
      same.1,
    )
statement_one cs e text ends (begins n) q r a b = absurd (name_ends e text (codes "BEGIN") b.1.0 q b.1.1 a)
statement_one cs e text ends (returns m) q r a b = absurd (name_ends e text (codes "return") b.1.0 q b.1.1 a)
statement_one cs e text empty (begins n) q r a b = absurd
    (no_name_mark (codes "BEGIN") 59 (word_one words (gaps e) text (name (codes "BEGIN")) semicolon b.1.0 q b.1.1 a).0)
statement_one cs e text empty (returns m) q r a b = absurd
    (no_name_mark (codes "return") 59
    (word_one words (gaps e) text (name (codes "return")) semicolon b.1.0 q b.1.1 a).0)

follows_one : (d f g : Effect) (s : Statement) → HasEffect d s f → HasEffect d s g → f ≡ g
follows_one d f g ends a b = absurd a
follows_one d f g empty a b = a ∙ sym b
follows_one d f g (begins n) a b = a.1 ∙ sym b.1
follows_one d f g (returns m) a b = a.1 ∙ sym b.1

-- statements behind a statement
pub statements_behind : (cs : List Condition) (e : Extent) (d f g : Effect) (s : Statement) (text behind rest : List ℕ)
    → StatementFirst cs e text s behind → HasEffect d s f → Statements cs e d text g rest
    → Statements cs e f behind g rest
statements_behind cs e d f g s text behind rest h k (done _ _ _ i) =
    let same = statement_one cs e text s ends behind rest h i in
    absurd (subst (λ t. HasEffect d t f) same.0 k)
statements_behind cs e d f g s text behind rest h k (more _ j _ t _ u _ i l m) =
    let same = statement_one cs e text t s u behind i h in
    let there : HasEffect d s j = subst (λ v. HasEffect d v j) same.0 l in
    subst (λ v. Statements cs e v behind g rest) (follows_one d j f s there k)
    (subst (λ v. Statements cs e j v g rest) same.1 m)

pub statements_over : (cs : List Condition) (e : Extent) (d g : Effect) (text behind rest : List ℕ)
    → StatementFirst cs e text ends behind → Statements cs e d text g rest → (g ≡ d) × (rest ≡ behind)
statements_over cs e d g text behind rest h (done _ _ _ i) = (
  refl,
  (statement_one cs e text ends ends rest behind i h).1,
)
statements_over cs e d g text behind rest h (more _ j _ t _ u _ i l m)
    = absurd (subst (λ v. HasEffect d v j) (statement_one cs e text t ends u behind i h).0 l)

-- where no effect follows there are no statements
pub no_statements : (cs : List Condition) (e : Extent) (d g : Effect) (s : Statement) (text behind rest : List ℕ)
    → StatementFirst cs e text s behind → s ≢ ends → ((f : Effect) → HasEffect d s f → ⊥)
    → Statements cs e d text g rest → ⊥
no_statements cs e d g s text behind rest h some none (done _ _ _ i)
    = some (statement_one cs e text s ends behind rest h i).0
no_statements cs e d g s text behind rest h some none (more _ j _ t _ u _ i l m)
    = none j (subst (λ v. HasEffect d v j) (statement_one cs e text t s u behind i h).0 l)

pub none_first : (cs : List Condition) (e : Extent) (d g : Effect) (text rest : List ℕ)
    → ((s : Statement) (r : List ℕ) → StatementFirst cs e text s r → ⊥) → Statements cs e d text g rest → ⊥
none_first cs e d g text rest none (done _ _ _ i) = none ends rest i
none_first cs e d g text rest none (more _ j _ t _ u _ i l m) = none t u i

pub statements_one : (cs : List Condition) (e : Extent) (d f g : Effect) (text r s : List ℕ)
    → Statements cs e d text f r → Statements cs e d text g s → (f ≡ g) × (r ≡ s)
statements_one cs e d f g text r s (done _ _ _ i) h = let same = statements_over cs e d g text r s i h
    in (sym same.0, sym same.1)
statements_one cs e d f g text r s (more _ j _ t _ u _ i l m) h
    = statements_one cs e j f g u r s m (statements_behind cs e d j g t text u s i l h)

pub not_ends : (s : ReadStatement) → s ≢ ReadEnds → statement_of s ≢ ends
not_ends ReadEnds h e = h refl
not_ends ReadEmpty h e = cc e
not_ends (ReadBegins n) h e = cc e
not_ends (ReadReturns v) h e = cc e

pub ends_first : (cs : List Condition) (e : Extent) (text rest : List ℕ) (s : ReadStatement) → s ≡ ReadEnds
    → StatementFirst cs e text (statement_of s) rest → StatementFirst cs e text ends rest
ends_first cs e text rest s is h = subst (λ i. StatementFirst cs e text (statement_of i) rest) is h

-- statements on a line go to its end
pub statements_to_end : (cs : List Condition) (d f : Effect) (text rest : List ℕ) → Statements cs Line d text f rest
    → rest ≡ []
statements_to_end cs d f text rest (done _ _ _ i) = i.1
statements_to_end cs d f text rest (more _ j _ t _ u _ i l m) = statements_to_end cs j f u rest m

-- a mark but `;` begins no statement of a line
mark_no_statement : (cs : List Condition) (line inside : List ℕ) (m : ℕ) → HasInFront Lex line (mark m) inside → m ≢ 59
    → (s : Statement) (r : List ℕ) → StatementFirst cs Line line s r → ⊥
mark_no_statement cs line inside m f other ends r h = word_none words Lex line (mark m) inside h.0 f
mark_no_statement cs line inside m f other empty r h
    = other (same_mark m 59 (word_one words Lex line (mark m) semicolon inside r f h).0)
mark_no_statement cs line inside m f other (begins n) r h
    = no_name_mark (codes "BEGIN") m (word_one words Lex line (name (codes "BEGIN")) (mark m) h.1.0 inside h.1.1 f).0
mark_no_statement cs line inside m f other (returns v) r h
    = no_name_mark (codes "return") m (word_one words Lex line (name (codes "return")) (mark m) h.1.0 inside h.1.1 f).0

-- an action with a `{` in front
pub braced_refused : (cs : List Condition) (line end inside : List ℕ) → HasInFront Lex line open_brace inside
    → ((e : Effect) (behind rest : List ℕ) → Statements cs Braces no_effect (inside ++ end) e behind
    → LineEnds behind rest → ⊥) → (s : Saying) (rest : List ℕ) → SaysAction cs line end s rest → ⊥
braced_refused cs line end inside f none s rest (on_line e h)
    = none_first cs Line no_effect e line []
    (mark_no_statement cs line inside 123 f (λ i. omega (arith, i))) h
braced_refused cs line end inside f none s rest (of_next h)
    = omega (arith, same_mark 124 123 (word_one words Lex line bar open_brace h.0 inside h.1 f).0)
braced_refused cs line end inside f none s rest (in_braces e i behind r g h k) = none e behind r
    (subst (λ u. Statements cs Braces no_effect (u ++ end) e behind)
    (word_one words Lex line open_brace open_brace i inside g f).1 h) k

-- an action with a `|` in front and more behind it
pub bar_refused : (cs : List Condition) (line end inside : List ℕ) → HasInFront Lex line bar inside
    → (Gap Lex inside → ⊥)
    → (s : Saying) (rest : List ℕ) → SaysAction cs line end s rest → ⊥
bar_refused cs line end inside f none s rest (on_line e h)
    = none_first cs Line no_effect e line []
    (mark_no_statement cs line inside 124 f (λ i. omega (arith, i))) h
bar_refused cs line end inside f none s rest (of_next h)
    = none (subst (Gap Lex) (word_one words Lex line bar bar h.0 inside h.1 f).1 h.2)
bar_refused cs line end inside f none s rest (in_braces e i behind r g h k)
    = omega (arith, same_mark 123 124 (word_one words Lex line open_brace bar i inside g f).0)

-- any other action
pub line_refused : (cs : List Condition) (line end inside : List ℕ) (w : NextWord) → IsFront Lex line w inside
    → word_of w ≢ open_brace → word_of w ≢ bar
    → ((e : Effect) (r : List ℕ) → Statements cs Line no_effect line e r → ⊥) → (s : Saying) (rest : List ℕ)
    → SaysAction cs line end s rest → ⊥
line_refused cs line end inside w f a b none s rest (on_line e h) = none e [] h
line_refused cs line end inside w f a b none s rest (of_next h) = b (sym (front_is Lex line w inside bar h.0 f h.1).0)
line_refused cs line end inside w f a b none s rest (in_braces e i behind r g h k)
    = a (sym (front_is Lex line w inside open_brace i f g).0)

-- what stands behind a part of the line, with what ends the line
pub rest_of_line : (text line end inside p : List ℕ) → text ≡ line ++ end → line ≡ p ++ inside
    → drop (length line - length inside) text ≡ inside ++ end
rest_of_line text line end inside p e f =
    let whole : text ≡ p ++ (inside ++ end) = e ∙ ap (λ l. l ++ end) f ∙ append_assoc p inside end in
    let many : length line - length inside ≡ length p = omega (arith, ap length f, length-append p inside) in
    rw (whole, many) (drop-append_seam p (inside ++ end))

pub mark_suffix : (l : Language) (text rest : List ℕ) (m : ℕ) → HasInFront l text (mark m) rest
    → (p : List ℕ) × (text ≡ p ++ rest)
mark_suffix l text rest m (u, before, h) = (
  before.0 ++ m ∷ [],
  before.2 ∙ ap (λ v. before.0 ++ v) h.1 ∙ sym (append_assoc before.0 (m ∷ []) rest),
)

pub on_line_said : (cs : List Condition) (line end behind rest : List ℕ) (e : Effect)
    → Statements cs Line no_effect line e behind → rest ≡ drop 1 end → SaysAction cs line end (own e) rest
on_line_said cs line end behind rest e h f = subst (SaysAction cs line end (own e)) (sym f)
    (on_line e (subst (Statements cs Line no_effect line e) (statements_to_end cs no_effect e line behind h) h))

pub next_said : (cs : List Condition) (line end inside rest : List ℕ) → HasInFront Lex line bar inside → Gap Lex inside
    → rest ≡ drop 1 end → SaysAction cs line end next rest
next_said cs line end inside rest f g e = subst (SaysAction cs line end next) (sym e) (of_next (inside, f, g))

pub braced_said : (cs : List Condition) (line end inside : List ℕ) (r : Result (Said × Rest) LexFault)
    → HasInFront Lex line open_brace inside
    → IfOk r (λ read. (e : Effect) × ((behind : List ℕ) × (saying_of read.0 ≡ own e)
    × Statements cs Braces no_effect (inside ++ end) e behind × LineEnds behind read.1.bytes.now))
    → IfOk r (λ read. SaysAction cs line end (saying_of read.0) read.1.bytes.now)
braced_said cs line end inside (Ok read) f h
    = subst (λ s. SaysAction cs line end s read.1.bytes.now) (sym h.1.1)
    (in_braces h.0 inside h.1.0 read.1.bytes.now f h.1.2 h.1.3)
braced_said cs line end inside (Err fault) f h = tt

bar_refused_by : (cs : List Condition) (line : List ℕ) → Wording Lex line (bar ∷ []) → (e : Effect)
    → Statements cs Line no_effect line e [] → ⊥
bar_refused_by cs line k e h = none_first cs Line no_effect e line []
    (mark_no_statement cs line k.0 124 k.1 (λ i. omega (arith, i))) h

-- what an action says is determined
pub says_one : (cs : List Condition) (line end r q : List ℕ) (s t : Saying) → SaysAction cs line end s r
    → SaysAction cs line end t q → (s ≡ t) × (r ≡ q)
says_one cs line end r q s t (on_line e h) (on_line f k)
    = (ap own (statements_one cs Line no_effect e f line [] [] h k).0, refl)
says_one cs line end r q s t (on_line e h) (of_next k)
    = absurd (bar_refused_by cs line k e h)
says_one cs line end r q s t (on_line e h) (in_braces f i b _ g k l) = absurd (none_first cs Line no_effect e line []
    (mark_no_statement cs line i 123 g (λ j. omega (arith, j))) h)
says_one cs line end r q s t (of_next h) (on_line f k) = absurd (bar_refused_by cs line h f k)
says_one cs line end r q s t (of_next h) (of_next k) = (refl, refl)
says_one cs line end r q s t (of_next h) (in_braces f i b _ g k l)
    = absurd (omega (arith, same_mark 123 124 (word_one words Lex line open_brace bar i h.0 g h.1).0))
says_one cs line end r q s t (in_braces e i b _ g h l) (on_line f k) = absurd (none_first cs Line no_effect f line []
    (mark_no_statement cs line i 123 g (λ j. omega (arith, j))) k)
says_one cs line end r q s t (in_braces e i b _ g h l) (of_next k)
    = absurd (omega (arith, same_mark 123 124 (word_one words Lex line open_brace bar i k.0 g k.1).0))
says_one cs line end r q s t (in_braces e i b _ g h l) (in_braces f j c _ v k m) =
    let same = (word_one words Lex line open_brace open_brace i j g v).1 in
    let there : Statements cs Braces no_effect (i ++ end) f c
    = subst (λ u. Statements cs Braces no_effect (u ++ end) f c) (sym same) k in
    let one = statements_one cs Braces no_effect e f (i ++ end) b c h there in
    (ap own one.0, line_ends_one b r q l (subst (λ u. LineEnds u q) (sym one.1) m))

pub braced_fault : (cs : List Condition) (line end inside : List ℕ) (r : Result (Said × Rest) LexFault)
    → HasInFront Lex line open_brace inside
    → IfErr r (λ fault. fault ≢ OutOfMemory → (e : Effect) (behind rest : List ℕ)
    → Statements cs Braces no_effect (inside ++ end) e behind → LineEnds behind rest → ⊥)
    → IfErr r (λ fault. fault ≢ OutOfMemory → (s : Saying) (rest : List ℕ) → SaysAction cs line end s rest → ⊥)
braced_fault cs line end inside (Ok read) f h = tt
braced_fault cs line end inside (Err fault) f h = λ ne. braced_refused cs line end inside f (h ne)

-- what stands behind statements is no longer than they are
given_within : (l : Language) (text rest : List ℕ) (x : Word) → Given l text x rest → length rest ≤ length text
given_within l text rest x g = omega (
  arith,
  opened g.is_open g.inside g.opens,
  word_shorter words l g.inside x g.behind g.word,
  closed g.is_open g.behind g.closed,
)
  where
    opened : (t : Bool) (u : List ℕ) → Opens l text t u → length u ≤ length text
    opened true u o = let less = word_shorter words l text open_parenthesis u o in omega (arith, less)
    opened false u o = omega (arith, ap length o.0)

    closed : (t : Bool) (u : List ℕ) → Closed l t u rest → length rest ≤ length u
    closed true u c = let a = word_shorter words l u close_parenthesis c.0 c.1 in
        let b = word_shorter words l c.0 semicolon rest c.2 in
        omega (arith, a, b)
    closed false u c = let less = word_shorter words l u semicolon rest c in omega (arith, less)

statement_within : (cs : List Condition) (e : Extent) (text : List ℕ) (s : Statement) (rest : List ℕ)
    → StatementFirst cs e text s rest → length rest ≤ length text
statement_within cs Line text ends rest h = omega (arith, ap length h.1)
statement_within cs Braces text ends rest h = let less = word_shorter words Yacc text close_brace rest h in omega
    (arith, less)
statement_within cs e text empty rest h =
    let less = word_shorter words (gaps e) text semicolon rest h in omega (arith, less)
statement_within cs e text (begins n) rest h =
    let less = word_shorter words (gaps e) text (name (codes "BEGIN")) h.1.0 h.1.1 in
    let more = given_within (gaps e) h.1.0 rest h.0 h.1.2 in
    omega (arith, less, more)
statement_within cs e text (returns m) rest h =
    let less = word_shorter words (gaps e) text (name (codes "return")) h.1.0 h.1.1 in
    let more = given_within (gaps e) h.1.0 rest h.0 h.1.2 in
    omega (arith, less, more)

statements_within : (cs : List Condition) (e : Extent) (d f : Effect) (text rest : List ℕ)
    → Statements cs e d text f rest → length rest ≤ length text
statements_within cs e d f text rest (done _ _ _ i) = statement_within cs e text ends rest i
statements_within cs e d f text rest (more _ j _ t _ u _ i l m) =
    let a = statement_within cs e text t u i in
    let b = statements_within cs e j f u rest m in
    omega (arith, a, b)

line_ends_within : (text rest : List ℕ) → LineEnds text rest → length rest ≤ length text
line_ends_within text rest h = omega (
  arith,
  ap length h.2.2,
  length-append h.0 h.1,
  ap length h.4,
  length-drop 1 h.1,
)

-- what is left behind an action
pub says_shorter : (cs : List Condition) (line end rest : List ℕ) (s : Saying) → SaysAction cs line end s rest
    → (length rest < length line + length end) ⊎ (rest ≡ drop 1 end)
says_shorter cs line end rest s (on_line e h) = inr refl
says_shorter cs line end rest s (of_next h) = inr refl
says_shorter cs line end rest s (in_braces e i b _ f h k) =
    let a = word_shorter words Lex line open_brace i f in
    let c = statements_within cs Braces no_effect e (i ++ end) b h in
    let d = line_ends_within b rest k in
    inl (omega (arith, a, c, d, length-append i end))
