-- The lines of directives are determined.
use Rattle.std.specs.Prelude.{codes, is_some}
use Rattle.std.proofs.Common.{◌≡◌, ◌≢◌, ℕ, List, [], ◌∷◌, ◌++◌, Bool, true, false, refl, sym, ap, ◌∙◌, subst, Option}
use Rattle.std.proofs.Common.{Some, None, Result, Ok, Err, drop}
use Rattle.ly_base.specs.Blank.{is_blank}
use Rattle.ly_base.specs.Escapes.{AllPass}
use Rattle.ly_base.specs.Language.{NameBefore}
use Rattle.ly_base.specs.declared.language.Language.TheVariants.{Lex}
use Rattle.ly_base.proofs.NameLemmas.{name_one}
use Rattle.ly_lexread.specs.Conditions.{Condition, condition_of}
use Rattle.ly_lexread.specs.Definitions.{BlanksBefore, DeclaresAll, DirectiveLine, Directs, IsIdle}
use Rattle.ly_lexread.specs.Definitions.{directive_of, end, more}
use Rattle.ly_lexread.specs.Private.Definitions.{IsDirected}
use Rattle.ly_lexread.specs.declared.directive.Directed.{Directed}
use Rattle.ly_lexread.specs.declared.directive.Directed.TheVariants.{Inclusive, Exclusive, Size, TextKind, Unknown}
use Rattle.ly_lexread.specs.declared.fault.LexFault.{LexFault}
use Rattle.ly_lexread.proofs.BlankLemmas.{blanks_one}

-- blanks are no more than blanks
all_blank_name : (text behind n rest : List ℕ) → AllPass is_blank text → BlanksBefore text behind
    → NameBefore Lex behind n rest → ⊥
all_blank_name text behind n rest a b h = at behind b.3 n h (stop text b.0 behind a b.4)
  where
    stop : (text blanks behind : List ℕ) → AllPass is_blank text → text ≡ blanks ++ behind → AllPass is_blank behind
    stop text [] behind p e = subst (AllPass is_blank) e p
    stop [] (x ∷ blanks) behind p e = cc
    stop (y ∷ text) (x ∷ blanks) behind p e = stop text blanks behind p.1 (ap (drop 1) e)

    at : (behind : List ℕ) → Rattle.ly_base.specs.Escapes.Stops is_blank behind → (n : List ℕ)
        → NameBefore Lex behind n rest → AllPass is_blank behind → ⊥
    at [] s [] h p = h.0
    at [] s (x ∷ n) h p = cc h.2
    at (x ∷ behind) s n h p = cc (s, p.0)

-- no name stands there
pub declares_none : (exclusive : Bool) (left : List ℕ → ℕ) (cs all : List Condition) (text : List ℕ)
    → (AllPass is_blank text → ⊥)
    → ((behind n rest : List ℕ) → BlanksBefore text behind → NameBefore Lex behind n rest → ⊥)
    → DeclaresAll exclusive left cs text all → ⊥
declares_none x left cs all text a b (end _ _ p) = a p
declares_none x left cs all text a b (more _ _ _ h n r c d i k) = b h n r c d

none_some : (o : Option ℕ) → is_some o ≡ true → o ≡ None → ⊥
none_some None e f = cc e
none_some (Some x) e f = cc f

module _ (cs : List Condition) (text behind n rest : List ℕ) (b : BlanksBefore text behind)
    (h : NameBefore Lex behind n rest) where
  same : (u m r : List ℕ) → BlanksBefore text u → NameBefore Lex u m r → (m ≡ n) × (r ≡ rest)
  same u m r c d = name_one Lex behind m n r rest
      (subst (λ i. NameBefore Lex i m r) (blanks_one text u behind c b) d) h

pub declares_twice : (exclusive : Bool) (left : List ℕ → ℕ) (cs all : List Condition) (text behind n rest : List ℕ)
    → BlanksBefore text behind → NameBefore Lex behind n rest → is_some (condition_of cs n) ≡ true
    → DeclaresAll exclusive left cs text all → ⊥
declares_twice x left cs all text behind n rest b h is (end _ _ p) = all_blank_name text behind n rest p b h
declares_twice x left cs all text behind n rest b h is (more _ _ _ u m r c d i k)
    = none_some (condition_of cs n) is
    (ap (condition_of cs) (sym (same cs text behind n rest b h u m r c d).0) ∙ i)

pub declares_behind : (exclusive : Bool) (left : List ℕ → ℕ) (cs all : List Condition) (text behind n rest : List ℕ)
    → BlanksBefore text behind → NameBefore Lex behind n rest → DeclaresAll exclusive left cs text all
    → DeclaresAll exclusive left (cs ++ (n, (exclusive, left behind)) ∷ []) rest all
declares_behind x left cs all text behind n rest b h (end _ _ p) = absurd (all_blank_name text behind n rest p b h)
declares_behind x left cs all text behind n rest b h (more _ _ _ u m r c d i k) =
    let e = same cs text behind n rest b h u m r c d in
    let here = blanks_one text u behind c b in
    subst (λ v. DeclaresAll x left (cs ++ (n, (x, left v)) ∷ []) rest all) here
    (subst (λ i. DeclaresAll x left (cs ++ (i, (x, left u)) ∷ []) rest all) e.0
    (subst (λ i. DeclaresAll x left (cs ++ (m, (x, left u)) ∷ []) i all) e.1 k))

pub declares_on : (exclusive : Bool) (left : List ℕ → ℕ) (cs next all : List Condition) (text behind n rest : List ℕ)
    → BlanksBefore text behind → NameBefore Lex behind n rest → is_some (condition_of cs n) ≡ false
    → next ≡ cs ++ (n, (exclusive, left behind)) ∷ [] → DeclaresAll exclusive left next rest all
    → DeclaresAll exclusive left cs text all
declares_on x left cs next all text behind n rest b h is e k
    = more cs all text behind n rest b h (no_some (condition_of cs n) is)
    (subst (λ i. DeclaresAll x left i rest all) e k)
  where
    no_some : (o : Option ℕ) → is_some o ≡ false → o ≡ None
    no_some None f = refl
    no_some (Some y) f = absurd (cc)

declares_one : (exclusive : Bool) (left : List ℕ → ℕ) (cs a b : List Condition) (text : List ℕ)
    → DeclaresAll exclusive left cs text a
    → DeclaresAll exclusive left cs text b → a ≡ b
declares_one x left cs a b text (end _ _ p) (end _ _ q) = refl
declares_one x left cs a b text (end _ _ p) (more _ _ _ u m r c d i k) = absurd (all_blank_name text u m r p c d)
declares_one x left cs a b text (more _ _ _ u m r c d i k) h
    = declares_one x left (cs ++ (m, (x, left u)) ∷ []) a b r k (declares_behind x left cs b text u m r c d h)

pub directs_one : (d : Directed) (left : List ℕ → ℕ) (cs a b : List Condition) (text : List ℕ)
    → Directs d left cs text a → Directs d left cs text b
    → a ≡ b
directs_one Inclusive left cs a b text h k = declares_one false left cs a b text h.1 k.1
directs_one Exclusive left cs a b text h k = declares_one true left cs a b text h.1 k.1
directs_one Size left cs a b text h k = h.0 ∙ sym k.0
directs_one TextKind left cs a b text h k = h.0 ∙ sym k.0
directs_one Unknown left cs a b text h k = h.0 ∙ sym k.0

-- what stands behind the word of a line
pub directive_behind : (left : List ℕ → ℕ) (cs all : List Condition) (line behind word rest : List ℕ)
    → line ≡ codes "%" ++ behind
    → NameBefore Lex behind word rest → DirectiveLine left cs line all → Directs (directive_of word) left cs rest all
directive_behind left cs all line behind word rest e h d =
    let there : NameBefore Lex behind d.word d.rest
    = subst (λ i. NameBefore Lex i d.word d.rest) (ap (drop 1) (sym d.is_directive ∙ e)) d.named in
    let same = name_one Lex behind d.word word d.rest rest there h in
    subst (λ i. Directs (directive_of i) left cs rest all) same.0
    (subst (λ i. Directs (directive_of d.word) left cs i all) same.1 d.directs)

pub directive_with : (left : List ℕ → ℕ) (cs all : List Condition) (line behind word rest : List ℕ)
    → line ≡ codes "%" ++ behind
    → NameBefore Lex behind word rest → Directs (directive_of word) left cs rest all → DirectiveLine left cs line all
directive_with left cs all line behind word rest e h d
    = record { behind = behind; is_directive = e; word = word; rest = rest; named = h; directs = d }

pub directive_one : (left : List ℕ → ℕ) (cs a b : List Condition) (line : List ℕ) → DirectiveLine left cs line a
    → DirectiveLine left cs line b
    → a ≡ b
directive_one left cs a b line d f = directs_one (directive_of d.word) left cs a b d.rest d.directs
    (directive_behind left cs b line d.behind d.word d.rest d.is_directive d.named f)

pub no_directive : (left : List ℕ → ℕ) (cs all : List Condition) (line : List ℕ)
    → ((behind word rest : List ℕ) → line ≡ codes "%" ++ behind → NameBefore Lex behind word rest → ⊥)
    → DirectiveLine left cs line all → ⊥
no_directive left cs all line none d = none d.behind d.word d.rest d.is_directive d.named

pub idle : (d : Directed) (left : List ℕ → ℕ) (cs all : List Condition) (text : List ℕ) → d ≢ Inclusive → d ≢ Exclusive
    → Directs d left cs text all → (all ≡ cs) × IsIdle d text
idle Inclusive left cs all text a b h = absurd (a refl)
idle Exclusive left cs all text a b h = absurd (b refl)
idle Size left cs all text a b h = h
idle TextKind left cs all text a b h = h
idle Unknown left cs all text a b h = h

pub idle_directs : (d : Directed) (left : List ℕ → ℕ) (cs : List Condition) (text : List ℕ) → IsIdle d text
    → Directs d left cs text cs
idle_directs Inclusive left cs text h = absurd h
idle_directs Exclusive left cs text h = absurd h
idle_directs Size left cs text h = (refl, h)
idle_directs TextKind left cs text h = (refl, h)
idle_directs Unknown left cs text h = absurd h

-- what says the same
pub directed_as : {T : Type 0} (P Q : T → Type 0) (r : Result T LexFault) → ((x : T) → P x → Q x)
    → ((x : T) → Q x → P x) → IsDirected P r → IsDirected Q r
directed_as P Q (Ok x) to back h = to x h
directed_as P Q (Err fault) to back h = (h.0, λ ne x q. h.1 ne x (back x q))

pub declares_behind_into : (exclusive : Bool) (left : List ℕ → ℕ) (cs next all : List Condition)
    (text behind n rest : List ℕ)
    → BlanksBefore text behind → NameBefore Lex behind n rest → next ≡ cs ++ (n, (exclusive, left behind)) ∷ []
    → DeclaresAll exclusive left cs text all → DeclaresAll exclusive left next rest all
declares_behind_into x left cs next all text behind n rest b h e d = subst (λ i. DeclaresAll x left i rest all) (sym e)
    (declares_behind x left cs all text behind n rest b h d)

-- a directive of this kind
pub directive_by : (left : List ℕ → ℕ) (cs : List Condition) (line behind word rest : List ℕ) (d : Directed) (r : Result
    (List Condition) LexFault)
    → line ≡ codes "%" ++ behind → NameBefore Lex behind word rest → directive_of word ≡ d
    → IsDirected (Directs d left cs rest) r → IsDirected (DirectiveLine left cs line) r
directive_by left cs line behind word rest d r e h k =
    directed_as (Directs d left cs rest) (DirectiveLine left cs line) r
    (λ x g. directive_with left cs x line behind word rest e h (subst (λ i. Directs i left cs rest x) (sym k) g))
    (λ x g. subst (λ i. Directs i left cs rest x) k (directive_behind left cs x line behind word rest e h g))
