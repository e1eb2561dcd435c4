-- The definitions are determined.
use Rattle.std.proofs.Common.{◌≡◌, ◌≢◌, ℕ, List, [], refl, sym, ap, ◌∙◌, subst, drop, length}
use Rattle.ly_base.proofs.GapLemmas.{comment_one}
use Rattle.ly_lexread.specs.Definitions.{CommentEnds, Definitions, LineSays, Preamble, Says, mark, more}
use Rattle.ly_lexread.specs.Lines.{BlockEnds, LineBefore, kind_of, left_in}
use Rattle.ly_lexread.specs.Private.Definitions.{Adds, Ends}
use Rattle.ly_lexread.specs.declared.kind.LineKind.{LineKind}
use Rattle.ly_lexread.specs.declared.kind.LineKind.TheVariants.{Mark, Unused, Block, Comment, Directive, Plain}
use Rattle.ly_lexread.proofs.DirectiveLemmas.{directive_one}
use Rattle.ly_lexread.proofs.LineLemmas.{block_one, line_before_one, line_one}
use Rattle.ly_lexread.proofs.NameLemmas.{definition_one}

pub comment_ends_one : (text r s : List ℕ) → CommentEnds text r → CommentEnds text s → r ≡ s
comment_ends_one text r s a b =
    let inside : b.0 ≡ a.0 = ap (drop 2) (sym b.4 ∙ a.4) in
    let same : a.1 ≡ b.1 = comment_one a.5.0 b.5.0 a.1 b.1 a.5.1 b.5.1 (sym a.5.2 ∙ sym inside ∙ b.5.2) in
    let line = line_one a.1 a.2 b.2 a.3 b.3 a.6
    (subst (λ t. Rattle.ly_lexread.specs.Lines.LineOf t b.2 b.3) (sym same) b.6) in
    a.7 ∙ ap (drop 1) line.1 ∙ sym b.7

preamble_of_parts : (p q : Preamble) → p.conditions ≡ q.conditions → p.definitions ≡ q.definitions → p ≡ q
preamble_of_parts p q a b = λ i. record { conditions = a i; definitions = b i }

line_says_one : (k : LineKind) (p q r : Preamble) (text line behind u v : List ℕ) → LineSays k p text line behind q u
    → LineSays k p text line behind r v → (q ≡ r) × (u ≡ v)
line_says_one Mark p q r text line behind u v a b = absurd a
line_says_one Unused p q r text line behind u v a b = (a.0 ∙ sym b.0, a.1 ∙ sym b.1)
line_says_one Block p q r text line behind u v a b = (a.0 ∙ sym b.0, block_one behind u v a.1 b.1)
line_says_one Comment p q r text line behind u v a b = (a.0 ∙ sym b.0, comment_ends_one text u v a.1 b.1)
line_says_one Directive p q r text line behind u v a b = (
  preamble_of_parts q r (directive_one (left_in text line) p.conditions q.conditions r.conditions line a.2 b.2)
      (a.1 ∙ sym b.1),
  a.0 ∙ sym b.0,
)
line_says_one Plain p q r text line behind u v a b = (
  preamble_of_parts q r (a.1 ∙ sym b.1)
      (definition_one (length text) p.definitions line q.definitions r.definitions a.2 b.2),
  a.0 ∙ sym b.0,
)

pub says_with : (p q : Preamble) (text line behind rest : List ℕ) (k : LineKind) → LineBefore text line behind
    → kind_of line ≡ k → LineSays k p text line behind q rest → Says p text q rest
says_with p q text line behind rest k b e h
    = (line, behind, b, subst (λ i. LineSays i p text line behind q rest) (sym e) h)

pub says_back : (p q : Preamble) (text line behind rest : List ℕ) (k : LineKind) → LineBefore text line behind
    → kind_of line ≡ k → Says p text q rest → LineSays k p text line behind q rest
says_back p q text line behind rest k b e h =
    let same = line_before_one text h.0 line h.1 behind h.2 b in
    subst (λ i. LineSays i p text line behind q rest) e
    (subst (λ i. LineSays (kind_of line) p text line i q rest) same.1
    (subst (λ i. LineSays (kind_of i) p text i h.1 q rest) same.0 h.3))

-- what a line says, by what is said behind it and what is left
pub says_both : (k : LineKind) (p q : Preamble) (text line behind rest : List ℕ) → Ends k text behind rest
    → Adds k p text line q → LineSays k p text line behind q rest
says_both Mark p q text line behind rest e a = absurd e
says_both Unused p q text line behind rest e a = (a, e)
says_both Block p q text line behind rest e a = (a, e)
says_both Comment p q text line behind rest e a = (a, e)
says_both Directive p q text line behind rest e a = (e, a.0, a.1)
says_both Plain p q text line behind rest e a = (e, a.0, a.1)

pub says_ends : (k : LineKind) (p q : Preamble) (text line behind rest : List ℕ)
    → LineSays k p text line behind q rest → Ends k text behind rest
says_ends Mark p q text line behind rest h = h
says_ends Unused p q text line behind rest h = h.1
says_ends Block p q text line behind rest h = h.1
says_ends Comment p q text line behind rest h = h.1
says_ends Directive p q text line behind rest h = h.0
says_ends Plain p q text line behind rest h = h.0

pub says_adds : (k : LineKind) (p q : Preamble) (text line behind rest : List ℕ)
    → LineSays k p text line behind q rest → Adds k p text line q
says_adds Mark p q text line behind rest h = absurd h
says_adds Unused p q text line behind rest h = h.0
says_adds Block p q text line behind rest h = h.0
says_adds Comment p q text line behind rest h = h.0
says_adds Directive p q text line behind rest h = (h.1, h.2)
says_adds Plain p q text line behind rest h = (h.1, h.2)

pub says_one : (p q r : Preamble) (text u v : List ℕ) → Says p text q u → Says p text r v → (q ≡ r) × (u ≡ v)
says_one p q r text u v a b = line_says_one (kind_of a.0) p q r text a.0 a.1 u v a.3
    (says_back p r text a.0 a.1 v (kind_of a.0) a.2 refl b)

-- a mark ends them
pub definitions_end : (p q : Preamble) (text line behind rest : List ℕ) → LineBefore text line behind
    → kind_of line ≡ Mark → Definitions p text q rest → (q ≡ p) × (rest ≡ behind)
definitions_end p q text line behind rest b e (mark _ _ l r c k) = (refl, (line_before_one text l line r behind c b).1)
definitions_end p q text line behind rest b e (more _ s _ _ u _ h d)
    = absurd (says_back p s text line behind u Mark b e h)

pub definitions_behind : (p q r : Preamble) (text u rest : List ℕ) → Says p text q u → Definitions p text r rest
    → Definitions q u r rest
definitions_behind p q r text u rest h (mark _ _ l s c k) = absurd (says_back p q text l s u Mark c k h)
definitions_behind p q r text u rest h (more _ s _ _ v _ g d) =
    let same = says_one p s q text v u g h in
    subst (λ i. Definitions q i r rest) same.1 (subst (λ i. Definitions i v r rest) same.0 d)

-- where no line says anything there are none
pub no_definitions : (p r : Preamble) (text line behind rest : List ℕ) → LineBefore text line behind
    → kind_of line ≢ Mark → ((q : Preamble) (u : List ℕ) → Says p text q u → ⊥) → Definitions p text r rest → ⊥
no_definitions p r text line behind rest b other none (mark _ _ l s c k)
    = other (ap kind_of (sym (line_before_one text l line s behind c b).0) ∙ k)
no_definitions p r text line behind rest b other none (more _ q _ _ u _ g d) = none q u g

pub definitions_over : (p r : Preamble) (text rest : List ℕ) → text ≡ [] → Definitions p text r rest → ⊥
definitions_over p r text rest e (mark _ _ l s c k) = c.0 e
definitions_over p r text rest e (more _ q _ _ u _ g d) = g.2.0 e

-- they say one thing
pub definitions_one : (p q r : Preamble) (text u v : List ℕ) → Definitions p text q u → Definitions p text r v
    → (q ≡ r) × (u ≡ v)
definitions_one p q r text u v (mark _ _ l _ c k) d = let e = definitions_end p r text l u v c k d in (sym e.0, sym e.1)
definitions_one p q r text u v (more _ s _ _ w _ g c) d
    = definitions_one s q r w u v c (definitions_behind p s r text w v g d)
