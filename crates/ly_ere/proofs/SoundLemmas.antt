-- What is read is sound: its sets have members, its repetitions a number of times, and its names definitions.
use Rattle.std.proofs.Common.{◌≡◌, ◌≢◌, ℕ, List, [], ◌∷◌, ◌++◌, length, Option, Some, arith, true, false}
use Rattle.std.proofs.lemmas.List.Quantifiers.{position-Some}
use Rattle.std.specs.Str.{bytes_eq}
use Rattle.std.proofs.lemmas.Bool.Decides.{nat_tests}
use Rattle.ly_ere.specs.Elements.{AreElements, Bracketed, Bounds, Element, IsElement, end, element, one_of, interval}
use Rattle.ly_ere.specs.Elements.{plain, dot, escaped_element, bracket, quoted, braced_name, bounds, sign, sign_of}
use Rattle.ly_ere.specs.Elements.{listed, excluded, exactly, at_least, between, closing, bar, asterisk, plus_sign}
use Rattle.ly_ere.specs.Elements.{question_mark, caret, dollar_sign, slash, opening, string, named}
use Rattle.ly_ere.specs.Expression.{Expression, IsAtMost, concat, either, empty, name, optional, plus, repeat, set}
use Rattle.ly_ere.specs.Expression.{star}
use Rattle.ly_ere.specs.Grammar.{Alternation, AreSides, Atom, Branch, Piece, Sides, Tailed, anywhere, at_line_start}
use Rattle.ly_ere.specs.Grammar.{atom}
use Rattle.ly_ere.specs.Grammar.{branch, byte_atom, counted, followed, group, in_order, joined, left_open, line_end}
use Rattle.ly_ere.specs.Grammar.{name_atom, parted, piece, repeated, starred, string_atom, whole, with_bytes}
use Rattle.ly_ere.specs.Lengths.{IsSound}
use Rattle.ly_ere.specs.Names.{Definition, UsesBelow}
use Rattle.ly_ere.specs.Patterns.{IsExpression, SpellsSides}
use Rattle.ly_ere.specs.Private.Cuts.{AreSoundSides}
use Rattle.ly_ere.proofs.NextElementLemmas.{some_but_newline}

-- a set has a member, and an interval a number of times
abbrev IsFormed : Element → Type 0
IsFormed (one_of bytes) = bytes ≢ []
IsFormed (interval m n) = IsAtMost m n
IsFormed _ = Unit {0}

abbrev AreFormed : List Element → Type 0
AreFormed [] = Unit {0}
AreFormed (w ∷ ws) = IsFormed w × AreFormed ws

bracket_formed : {t bytes rest : List ℕ} → Bracketed t bytes rest → bytes ≢ []
bracket_formed (listed t rest rs n i some) = some
bracket_formed (excluded t rest rs i some) = some

bounds_formed : {t rest : List ℕ} {m : ℕ} {n : Option ℕ} → Bounds t m n rest → IsAtMost m n
bounds_formed (exactly t rest m h) = omega arith
bounds_formed (at_least t rest m h) = tt
bounds_formed (between t behind rest m n h k le) = le

sign_formed : (b : ℕ) (w : Element) → sign_of b ≡ Some w → IsFormed w
sign_formed b (one_of bytes) p = absurd (no_set b bytes p)
  where
    no_set : (b : ℕ) (bytes : List ℕ) → sign_of b ≡ Some (one_of bytes) → ⊥
    no_set b bytes p = grind (arith, nat_tests)
sign_formed b (string bytes) p = tt
sign_formed b (named n) p = tt
sign_formed b (interval m n) p = absurd (no_interval b m n p)
  where
    no_interval : (b m : ℕ) (n : Option ℕ) → sign_of b ≡ Some (interval m n) → ⊥
    no_interval b m n p = grind (arith, nat_tests)
sign_formed b opening p = tt
sign_formed b closing p = tt
sign_formed b bar p = tt
sign_formed b asterisk p = tt
sign_formed b plus_sign p = tt
sign_formed b question_mark p = tt
sign_formed b caret p = tt
sign_formed b dollar_sign p = tt
sign_formed b slash p = tt

element_formed : {t rest : List ℕ} {w : Element} → IsElement t w rest → IsFormed w
element_formed (plain b rest p) = λ e. absurd (cc)
element_formed (dot rest) = some_but_newline
element_formed (escaped_element t rest b h) = λ e. absurd (cc)
element_formed (bracket t bytes rest h) = bracket_formed h
element_formed (quoted t bs rest h) = tt
element_formed (braced_name t n rest h) = tt
element_formed (bounds t m n rest h) = bounds_formed h
element_formed (sign b w rest p) = sign_formed b w p

elements_formed : {t : List ℕ} {ws : List Element} → AreElements t ws → AreFormed ws
elements_formed end = tt
elements_formed (element t r w ws s k) = (element_formed s, elements_formed k)

parts_formed : (ws vs : List Element) → AreFormed (ws ++ vs) → AreFormed ws × AreFormed vs
parts_formed [] vs h = (tt, h)
parts_formed (w ∷ ws) vs h = let k = parts_formed ws vs h.1 in ((h.0, k.0), k.1)

bytes_sound : (n : ℕ) (e : Expression) (bs : List ℕ) → IsSound n e → IsSound n (with_bytes e bs)
bytes_sound n e [] h = h
bytes_sound n e (b ∷ bs) h = bytes_sound n (concat e (set (b ∷ []))) bs (h, λ q. absurd (cc))

string_sound : (n : ℕ) (bs : List ℕ) → IsSound n (in_order bs)
string_sound n [] = tt
string_sound n (b ∷ bs) = bytes_sound n (set (b ∷ [])) bs (λ q. absurd (cc))

module _ (names : List Definition) where
  mutual
    atom_sound : {ws : List Element} {e : Expression} → Atom names ws e → AreFormed ws → IsSound (length names) e
    atom_sound byte_atom h = h.0
    atom_sound (string_atom {bytes = bytes}) h = string_sound (length names) bytes
    atom_sound (name_atom {n = n} {x = x} is) h
        = (position-Some (λ (d : Definition). bytes_eq n d.0) names x ([], empty) is).0
    atom_sound (group {ws = ws} a) h = alternation_sound a (parts_formed ws (closing ∷ []) h.1).0

    piece_sound : {ws : List Element} {e : Expression} → Piece names ws e → AreFormed ws → IsSound (length names) e
    piece_sound (atom a) h = atom_sound a h
    piece_sound (starred {ws = ws} p) h = piece_sound p (parts_formed ws (asterisk ∷ []) h).0
    piece_sound (repeated {ws = ws} p) h = piece_sound p (parts_formed ws (plus_sign ∷ []) h).0
    piece_sound (left_open {ws = ws} p) h = piece_sound p (parts_formed ws (question_mark ∷ []) h).0

    branch_sound : {ws : List Element} {e : Expression} → Branch names ws e → AreFormed ws → IsSound (length names) e
    branch_sound (piece p) h = piece_sound p h
    branch_sound (joined {ws = ws} {vs = vs} b p) h = let k = parts_formed ws vs h
        in (branch_sound b k.0, piece_sound p k.1)
    branch_sound (counted {ws = ws} {m = m} {n = n} b) h = let k = parts_formed ws (interval m n ∷ []) h
        in (k.1.0, branch_sound b k.0)

    alternation_sound : {ws : List Element} {e : Expression} → Alternation names ws e → AreFormed ws
        → IsSound (length names) e
    alternation_sound (branch b) h = branch_sound b h
    alternation_sound (parted {ws = ws} {vs = vs} a b) h = let k = parts_formed ws (bar ∷ vs) h
        in (alternation_sound a k.0, branch_sound b k.1.1)

  tailed_sound : {ws : List Element} {e : Expression} {t : Option Expression} → Tailed names ws e t → AreFormed ws
      → (b : _) → AreSoundSides (length names) (record { line_start = b; head = e; tail = t })
  tailed_sound (whole a) h b = (alternation_sound a h, tt)
  tailed_sound (line_end {ws = ws} a) h b
      = (alternation_sound a (parts_formed ws (dollar_sign ∷ []) h).0, λ q. absurd (cc))
  tailed_sound (followed {ws = ws} {vs = vs} a c) h b = let k = parts_formed ws (slash ∷ vs) h
      in (alternation_sound a k.0, alternation_sound c k.1.1)

  words_sound : {ws : List Element} {s : Sides} → AreSides names ws s → AreFormed ws → AreSoundSides (length names) s
  words_sound (anywhere a) h = tailed_sound a h false
  words_sound (at_line_start a) h = tailed_sound a h.1 true

  -- the sides that a text spells are sound
  pub sides_sound : (text : List ℕ) (s : Sides) → SpellsSides names text s → AreSoundSides (length names) s
  sides_sound text s x = words_sound x.2 (elements_formed x.1)

  -- and so is an expression
  pub expression_sound : (text : List ℕ) (e : Expression) → IsExpression names text e → IsSound (length names) e
  expression_sound text e x = alternation_sound x.2 (elements_formed x.1)

-- what is sound uses names that have a definition
pub sound_below : (n : ℕ) (e : Expression) → IsSound n e → UsesBelow n e
sound_below n (set bytes) h = tt
sound_below n empty h = tt
sound_below n (concat r s) h = (sound_below n r h.0, sound_below n s h.1)
sound_below n (either r s) h = (sound_below n r h.0, sound_below n s h.1)
sound_below n (star r) h = sound_below n r h
sound_below n (plus r) h = sound_below n r h
sound_below n (optional r) h = sound_below n r h
sound_below n (repeat k m r) h = sound_below n r h.1
sound_below n (name x) h = h
