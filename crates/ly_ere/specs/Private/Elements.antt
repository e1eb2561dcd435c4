-- Elements of an expression, as a reader holds them.
use Rattle.std.specs.Prelude.{◌≡◌, ◌≢◌, ◌↔◌, ℕ, List, [], drop, Some, None, Result, MatchResult}
use Rattle.ly_base.specs.ByteSet.{members}
use Rattle.ly_ere.specs.Private.Front.{BeginsNo, IsTaken}
use Rattle.ly_ere.specs.Elements.{Element, one_of, string, named, interval, opening, closing, bar, asterisk, plus_sign}
use Rattle.ly_ere.specs.Elements.{question_mark, caret, dollar_sign, slash, IsElement, Quoted}
use Rattle.ly_ere.specs.Names.{Definition}
use Rattle.ly_ere.specs.Private.Groups.{Reading, step}
use Rattle.ly_ere.specs.declared.fault.SyntaxFault.{SyntaxFault}
use Rattle.ly_ere.specs.declared.element.Postfix.{Postfix}
use Rattle.ly_ere.specs.declared.element.Postfix.TheVariants.{Asterisk, PlusSign, QuestionMark}
use Rattle.ly_ere.specs.declared.element.Element.{Element as ReadElement}
use Rattle.ly_ere.specs.declared.element.Element.TheVariants.{OneOf, String, Name, Opening, Closing, Bar, Interval}
use Rattle.ly_ere.specs.declared.element.Element.TheVariants.{Mark}
use Rattle.ly_ere.specs.declared.element.Element.TheVariants.{Postfix as Operator}
use Rattle.ly_ere.specs.declared.element.Mark.{Mark as ReadMark}
use Rattle.ly_ere.specs.declared.element.Mark.TheVariants.{Caret, DollarSign, Slash}

-- a set has a member
abbrev pub IsWellFormed : ReadElement → Type 0
IsWellFormed (OneOf s) = members s ≢ []
IsWellFormed _ = Unit {0}

-- the element of an operator
abbrev pub operator_element : Postfix → Element
operator_element Asterisk = asterisk
operator_element PlusSign = plus_sign
operator_element QuestionMark = question_mark

-- the element of a mark
abbrev pub mark_element : ReadMark → Element
mark_element Caret = caret
mark_element DollarSign = dollar_sign
mark_element Slash = slash

-- What is read stands for the element. A string's bytes follow from what is behind its quote.
abbrev pub Denotes : ReadElement → Element → Type 0
Denotes (OneOf s) w = w ≡ one_of (members s)
Denotes (String t) w = (bs : List ℕ) × (rest : List ℕ) × Quoted t.now bs rest × (w ≡ string bs)
Denotes (Name n) w = w ≡ named n.now
Denotes Opening w = w ≡ opening
Denotes Closing w = w ≡ closing
Denotes Bar w = w ≡ bar
Denotes (Operator p) w = w ≡ operator_element p
Denotes (Interval m n) w = w ≡ interval m n
Denotes (Mark m) w = w ≡ mark_element m

-- A text begins with the elements that what is read stands for and with no others, and each takes n bytes.
pub record IsNextElement (text : List ℕ) (s : ReadElement) (n : ℕ) : Type 0 where
  pub front : IsTaken text n
  pub formed : IsWellFormed s
  pub spelled : (w : Element) (rest : List ℕ) → IsElement text w rest ↔ (Denotes s w × (rest ≡ drop n text))

-- what the reader of one element answers: the element at the front of the text, unless there is none
abbrev pub ReadsElement : List ℕ → Result (ReadElement × ℕ) SyntaxFault → Type 0
ReadsElement text result
    = MatchResult result (λ found. IsNextElement text found.0 found.1) (λ _. BeginsNo IsElement text)

-- an element that this stands for leads from one reading to the other
abbrev pub LeadsOn : List Definition → ReadElement → Reading → Reading → Type 0
LeadsOn names x r s = (w : Element) × Denotes x w × (step names w r ≡ Some s)

-- no element that this stands for leads from the reading to another
abbrev pub LeadsNowhere : List Definition → ReadElement → Reading → Type 0
LeadsNowhere names x r = (w : Element) → Denotes x w → step names w r ≡ None
