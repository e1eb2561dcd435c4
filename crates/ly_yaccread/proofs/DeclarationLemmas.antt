-- What a declaration says is determined.
use Rattle.std.proofs.Common.{◌≡◌, ℕ, List, ◌∷◌, Some, refl, sym, ap, ap₂, ◌∙◌, subst, inl, inr}
use Rattle.std.proofs.Common.{length, ◌<◌, ◌≤◌, arith, get_or, nat_eq}
use Rattle.std.specs.Prelude.{if◌then◌else◌}
use Rattle.ly_yaccread.specs.Declarations.{Declarations, Declares, Declaring, FollowsDirective, Saying, tokens}
use Rattle.ly_yaccread.specs.Declarations.{end, more, directive_name, with_saying}
use Rattle.ly_yaccread.specs.Symbols.{NoMark, SymbolList, TagPassed}
use Rattle.ly_yaccread.specs.Words.{Word, mark, directive, block}
use Rattle.ly_yaccread.specs.declared.declaration.Directive.{Directive}
use Rattle.ly_yaccread.specs.declared.declaration.Directive.TheVariants.{Tokens, Types, Start, Union}
use Rattle.ly_yaccread.specs.declared.file.DeclarationKind.TheVariants.{Token, Left, Right, Nonassociative}
use Rattle.ly_yaccread.specs.declared.listing.Listing.{Listing}
use Rattle.ly_yaccread.specs.declared.listing.Listing.TheVariants.{Plain, Numbered}
use Rattle.ly_yaccread.specs.declared.words.Mark.TheVariants.{Section}
use Rattle.ly_yaccread.proofs.SymbolLemmas.{heads, list_one, listed_within}

-- the directive by the first two letters of its name
abbrev by_letters : ℕ → ℕ → Directive
by_letters a b = if nat_eq a 108 then Tokens Left else (if nat_eq a 114 then Tokens Right else
    (if nat_eq a 110 then Tokens Nonassociative else (if nat_eq a 115 then Start else
    (if nat_eq a 117 then Union else (if nat_eq b 121 then Types else Tokens Token)))))

abbrev named : List ℕ → Directive
named n = by_letters (get_or n 0 0) (get_or n 1 0)

named_back : (d : Directive) → named (directive_name d) ≡ d
named_back (Tokens Token) = refl
named_back (Tokens Left) = refl
named_back (Tokens Right) = refl
named_back (Tokens Nonassociative) = refl
named_back Types = refl
named_back Start = refl
named_back Union = refl

pub directive_one : (d e : Directive) → directive_name d ≡ directive_name e → d ≡ e
directive_one d e h = sym (named_back d) ∙ ap named h ∙ named_back e

pub follows_one : (d : Directive) (ws : List Word) (s t : Saying) (r q : List Word) → FollowsDirective d ws s r
    → FollowsDirective d ws t q → (s ≡ t) × (r ≡ q)
follows_one (Tokens k) ws s t r q (xs, ns, a, e) (ys, ms, b, f)
    = let one = list_one Numbered ws xs ys ns ms r q a b in (e ∙ ap₂ (tokens k) one.0 one.1 ∙ sym f, one.2)
follows_one Types ws s t r q (xs, ns, a, e) (ys, ms, b, f)
    = let one = list_one Plain ws xs ys ns ms r q a b in (e ∙ sym f, one.2)
follows_one Start ws s t r q (n, a, h, e) (m, b, k, f) = (cc, cc)
follows_one Union ws s t r q (a, e) (b, f) = (e ∙ sym f, cc)

same_directive : (n m : List ℕ) → directive n ≡ directive m → n ≡ m
same_directive n m e = cc

-- what stands behind a directive that comes first
pub behind_directive : (d : Directive) (ws behind : List Word) (s : Saying) (r : List Word)
    → ws ≡ directive (directive_name d) ∷ behind → Declares ws s r → FollowsDirective d behind s r
behind_directive d ws behind s r e (inl (f, g)) = absurd (cc (heads _ _ _ _ (sym e ∙ f)).0)
behind_directive d ws behind s r e (inr (c, back, f, g)) =
    let same = heads (directive (directive_name c)) (directive (directive_name d)) back behind (sym f ∙ e) in
    let one = directive_one c d (same_directive (directive_name c) (directive_name d) same.0) in
    subst (λ i. FollowsDirective i behind s r) one (subst (λ b. FollowsDirective c b s r) same.1 g)

pub declares_one : (ws : List Word) (s t : Saying) (r q : List Word) → Declares ws s r → Declares ws t q
    → (s ≡ t) × (r ≡ q)
declares_one ws s t r q (inl (f, g)) (inl (h, i)) = (g ∙ sym i, (heads block block r q (sym f ∙ h)).1)
declares_one ws s t r q (inl (f, g)) (inr (d, behind, h, i)) = absurd (cc (heads _ _ _ _ (sym f ∙ h)).0)
declares_one ws s t r q (inr (d, behind, f, g)) b
    = follows_one d behind s t r q g (behind_directive d ws behind t q f b)

tag_within : (ws rest : List Word) → TagPassed ws rest → length rest ≤ length ws
tag_within ws rest (inl (n, e, h)) = omega (arith, ap length e)
tag_within ws rest (inr (none, e)) = omega (arith, ap length e)

list_within : (l : Listing) (ws xs : List Word) (ns : List ℕ) (rest : List Word) → SymbolList l ws xs ns rest
    → length rest ≤ length ws
list_within l ws xs ns rest h
    = omega (arith, tag_within ws h.behind h.tag, listed_within l h.behind xs ns rest h.symbols)

follows_within : (d : Directive) (ws : List Word) (s : Saying) (rest : List Word) → FollowsDirective d ws s rest
    → length rest ≤ length ws
follows_within (Tokens k) ws s rest (xs, ns, a, e) = list_within Numbered ws xs ns rest a
follows_within Types ws s rest (xs, ns, a, e) = list_within Plain ws xs ns rest a
follows_within Start ws s rest (n, a, h, e) = omega (arith, ap length a)
follows_within Union ws s rest (a, e) = omega (arith, ap length a)

-- a declaration has a word
pub declares_shorter : (ws : List Word) (s : Saying) (rest : List Word) → Declares ws s rest
    → length rest < length ws
declares_shorter ws s rest (inl (f, g)) = omega (arith, ap length f)
declares_shorter ws s rest (inr (d, behind, f, g)) = omega (arith, ap length f, follows_within d behind s rest g)

no_section : (ws rest : List Word) (s : Saying) (r : List Word) → ws ≡ mark Section ∷ rest → Declares ws s r → ⊥
no_section ws rest s r e (inl (f, g)) = absurd (cc (heads _ _ _ _ (sym e ∙ f)).0)
no_section ws rest s r e (inr (d, behind, f, g)) = absurd (cc (heads _ _ _ _ (sym e ∙ f)).0)

-- the declarations go on from here as from the beginning
pub record DeclarationsGoOn (h : Declaring) (ws : List Word) (i : Declaring) (at : List Word) : Type 0 where
  pub sound : (all : Declaring) (rest : List Word) → Declarations i at all rest → Declarations h ws all rest
  pub complete : (all : Declaring) (rest : List Word) → Declarations h ws all rest → Declarations i at all rest

-- no declaration more
pub declarations_end : (h : Declaring) (ws rest : List Word) → ws ≡ mark Section ∷ rest → Declarations h ws h rest
declarations_end h ws rest e = subst (λ i. Declarations h i h rest) (sym e) (end h rest)

-- what goes on behind a declaration
behind_one : (h all : Declaring) (ws at behind rest : List Word) (s : Saying) → ws ≡ at → Declares at s behind
    → Declarations h ws all rest → (i : Declaring) × (with_saying h s ≡ Some i) × Declarations i behind all rest
behind_one h all ws at behind rest s e f (end g r) = absurd (no_section at r s behind (sym e) f)
behind_one h all ws at behind rest s e f (more g i whole v back r t a b d) =
    let one = declares_one at t s back behind (subst (λ u. Declares u t back) e a) f in
    (i, subst (λ u. with_saying g u ≡ Some i) one.0 b, subst (λ u. Declarations i u whole r) one.1 d)

same_some : (h i : Declaring) → Some h ≡ Some i → h ≡ i
same_some h i e = cc

-- a declaration more
pub one_more : (h g i : Declaring) (ws at behind : List Word) (s : Saying) → DeclarationsGoOn h ws g at
    → Declares at s behind
    → with_saying g s ≡ Some i → DeclarationsGoOn h ws i behind
one_more h g i ws at behind s so_far f e = record {
  sound = λ all rest d. so_far.sound all rest (more g i all at behind rest s f e d);
  complete = λ all rest d.
      let b = behind_one g all at at behind rest s refl f (so_far.complete all rest d) in
      subst (λ j. Declarations j behind all rest) (same_some b.0 i (sym b.1 ∙ e)) b.2;
}

-- no declaration is there
pub none_more : (g : Declaring) (at : List Word) → NoMark Section at
    → ((s : Saying) (r : List Word) → Declares at s r → ⊥) → (all : Declaring) (rest : List Word)
    → Declarations g at all rest → ⊥
none_more g at none not all rest (end h r) = none r refl
none_more g at none not all rest (more h i whole ws behind r s a b d) = not s behind a

-- what declarations say is determined
pub declarations_one : (h a b : Declaring) (ws r s : List Word) → Declarations h ws a r → Declarations h ws b s
    → (a ≡ b) × (r ≡ s)
declarations_one h a b ws r s (end g q) d = at_end g b (mark Section ∷ q) q s refl d
  where
    at_end : (g b : Declaring) (ws q s : List Word) → ws ≡ mark Section ∷ q → Declarations g ws b s → (g ≡ b) × (q ≡ s)
    at_end g b ws q s e (end h r) = (refl, (heads _ _ _ _ (sym e)).1)
    at_end g b ws q s e (more h i all v back r t x y d) = absurd (no_section v q t back e x)
declarations_one h a b ws r s (more g i all v back q t x y c) d =
    let n = behind_one g b v v back s t refl x d in
    declarations_one i a b back r s c (subst (λ j. Declarations j back b s) (same_some n.0 i (sym n.1 ∙ y)) n.2)
