-- The conditions of a rule are determined.
use Rattle.std.specs.Prelude.{codes}
use Rattle.std.proofs.Common.{◌≡◌, ◌≢◌, ℕ, List, [], ◌∷◌, ◌++◌, refl, sym, ap, ◌∙◌}
use Rattle.std.proofs.Common.{subst, arith, Option, Some, None, drop, inl, inr, append_assoc}
use Rattle.std.proofs.lemmas.Bool.{false≢true}
use Rattle.ly_base.specs.Language.{NameBefore, starts_name}
use Rattle.ly_base.specs.declared.language.Language.TheVariants.{Lex}
use Rattle.ly_base.proofs.NameLemmas.{name_one}
use Rattle.ly_base.proofs.GapLemmas.{heads}
use Rattle.ly_lexread.specs.Conditions.{Condition, condition_of}
use Rattle.ly_lexread.specs.Rules.{ActiveBefore, ConditionBefore, Listed, last, more}

-- a name doesn't begin with `0`
zero_no_name : (text n r s : List ℕ) → NameBefore Lex text n r → text ≡ codes "0" ++ s → ⊥
zero_no_name text [] r s h e = h.0
zero_no_name text (b ∷ n) r s h e =
    let same : b ≡ 48 = cc in
    false≢true (ap (starts_name Lex) (sym same) ∙ h.0.0)

some_one : (a b : ℕ) (o p : Option ℕ) → o ≡ p → o ≡ Some a → p ≡ Some b → a ≡ b
some_one a b o p g e f = cc

pub condition_one : (cs : List Condition) (text r s : List ℕ) (n m : ℕ) → ConditionBefore cs text n r
    → ConditionBefore cs text m s → (n ≡ m) × (r ≡ s)
condition_one cs text r s n m (inl a) (inl b) =
    let e = name_one Lex text a.0 b.0 r s a.1 b.1 in
    (some_one n m (condition_of cs a.0) (condition_of cs b.0) (ap (condition_of cs) e.0) a.2 b.2, e.1)
condition_one cs text r s n m (inl a) (inr b) = absurd (zero_no_name text a.0 r s a.1 b.0)
condition_one cs text r s n m (inr a) (inl b) = absurd (zero_no_name text b.0 s r b.1 a.0)
condition_one cs text r s n m (inr a) (inr b) = (a.1 ∙ sym b.1, ap (drop 1) (sym a.0 ∙ b.0))

-- a name that is no condition
pub no_condition : (cs : List Condition) (text name behind rest : List ℕ) (n : ℕ) → NameBefore Lex text name behind
    → condition_of cs name ≡ None → ConditionBefore cs text n rest → ⊥
no_condition cs text name behind rest n h none (inl a) =
    let e = name_one Lex text a.0 name rest behind a.1 h in
    let other : Some n ≡ None = sym a.2 ∙ ap (condition_of cs) e.0 ∙ none in
    cc
no_condition cs text name behind rest n h none (inr a) = zero_no_name text name behind rest h a.0

pub listed_last : (cs : List Condition) (ns text behind rest : List ℕ) (n : ℕ) → ConditionBefore cs text n behind
    → behind ≡ codes ">" ++ rest → Listed cs ns text (ns ++ n ∷ []) rest
listed_last cs ns text behind rest n first e = last ns text rest n (subst (ConditionBefore cs text n) e first)

pub listed_more : (cs : List Condition) (ns text behind all rest : List ℕ) (n : ℕ) → ConditionBefore cs text n behind
    → (u : List ℕ) → behind ≡ codes "," ++ u → Listed cs (ns ++ n ∷ []) u all rest → Listed cs ns text all rest
listed_more cs ns text behind all rest n first u e d
    = more ns text u all rest n (subst (ConditionBefore cs text n) e first) d

comma_no_end : (u r : List ℕ) → codes "," ++ u ≡ codes ">" ++ r → ⊥
comma_no_end u r f = omega (arith, heads 44 62 u r f)

pub listed_behind : (cs : List Condition) (ns text behind all rest : List ℕ) (n : ℕ) → ConditionBefore cs text n behind
    → (u : List ℕ) → behind ≡ codes "," ++ u → Listed cs ns text all rest → Listed cs (ns ++ n ∷ []) u all rest
listed_behind cs ns text behind all rest n first u e (last _ _ r m h) =
    let same = (condition_one cs text behind (codes ">" ++ r) n m first h).1 in
    absurd (comma_no_end u r (sym e ∙ same))
listed_behind cs ns text behind all rest n first u e (more _ _ v _ _ m h d) =
    let same = condition_one cs text behind (codes "," ++ v) n m first h in
    let there : v ≡ u = ap (drop 1) (sym same.1 ∙ e) in
    subst (λ i. Listed cs (ns ++ i ∷ []) u all rest) (sym same.0) (subst (λ i. Listed cs (ns
    ++ m ∷ []) i all rest) there d)

pub listed_end : (cs : List Condition) (ns text behind all rest : List ℕ) (n : ℕ) → ConditionBefore cs text n behind
    → (r : List ℕ) → behind ≡ codes ">" ++ r → Listed cs ns text all rest → (all ≡ ns ++ n ∷ []) × (rest ≡ r)
listed_end cs ns text behind all rest n first r e (last _ _ q m h) =
    let same = condition_one cs text behind (codes ">" ++ q) n m first h in
    (ap (λ i. ns ++ i ∷ []) (sym same.0), ap (drop 1) (sym same.1 ∙ e))
listed_end cs ns text behind all rest n first r e (more _ _ v _ _ m h d) =
    let same = (condition_one cs text behind (codes "," ++ v) n m first h).1 in
    absurd (comma_no_end v r (sym same ∙ e))

-- something else stands behind a condition
pub not_listed : (cs : List Condition) (ns text behind all rest : List ℕ) (n : ℕ) → ConditionBefore cs text n behind
    → ((r : List ℕ) → behind ≢ codes ">" ++ r) → ((r : List ℕ) → behind ≢ codes "," ++ r)
    → Listed cs ns text all rest → ⊥
not_listed cs ns text behind all rest n first a b (last _ _ q m h)
    = a q (condition_one cs text behind (codes ">" ++ q) n m first h).1
not_listed cs ns text behind all rest n first a b (more _ _ v _ _ m h d)
    = b v (condition_one cs text behind (codes "," ++ v) n m first h).1

pub none_listed : (cs : List Condition) (ns text all rest : List ℕ)
    → ((n : ℕ) (r : List ℕ) → ConditionBefore cs text n r → ⊥) → Listed cs ns text all rest → ⊥
none_listed cs ns text all rest none (last _ _ q m h) = none m (codes ">" ++ q) h
none_listed cs ns text all rest none (more _ _ v _ _ m h d) = none m (codes "," ++ v) h

listed_one : (cs : List Condition) (ns text a b r s : List ℕ) → Listed cs ns text a r → Listed cs ns text b s
    → (a ≡ b) × (r ≡ s)
listed_one cs ns text a b r s (last _ _ _ n h) d =
    let e = listed_end cs ns text (codes ">" ++ r) b s n h r refl d in
    (sym e.0, sym e.1)
listed_one cs ns text a b r s (more _ _ u _ _ n h c) d
    = listed_one cs (ns ++ n ∷ []) u a b r s c (listed_behind cs ns text (codes "," ++ u) b s n h u refl d)

pub active_one : (cs : List Condition) (line a b r s : List ℕ) → ActiveBefore cs line a r → ActiveBefore cs line b s
    → (a ≡ b) × (r ≡ s)
active_one cs line a b r s (inl h) (inl k) =
    let same : k.0 ≡ h.0 = ap (drop 1) (sym k.1 ∙ h.1) in
    listed_one cs [] h.0 a b r s h.2 (subst (λ i. Listed cs [] i b s) same k.2)
active_one cs line a b r s (inl h) (inr k) = absurd (k.0 h.0 h.1)
active_one cs line a b r s (inr h) (inl k) = absurd (h.0 k.0 k.1)
active_one cs line a b r s (inr h) (inr k) = (h.1 ∙ sym k.1, h.2 ∙ sym k.2)

-- what stands behind the conditions is an end of the line
listed_suffix : (cs : List Condition) (ns text all rest : List ℕ) → Listed cs ns text all rest
    → (p : List ℕ) × (text ≡ p ++ rest)
listed_suffix cs ns text all rest (last _ _ _ n h) = at h
  where
    at : ConditionBefore cs text n (codes ">" ++ rest) → (p : List ℕ) × (text ≡ p ++ rest)
    at (inl k) = (k.0 ++ codes ">", k.1.2 ∙ sym (append_assoc k.0 (codes ">") rest))
    at (inr k) = (codes "0>", k.0)
listed_suffix cs ns text all rest (more _ _ u _ _ n h d) = at h (listed_suffix cs (ns ++ n ∷ []) u all rest d)
  where
    at : ConditionBefore cs text n (codes "," ++ u) → (p : List ℕ) × (u ≡ p ++ rest) → (p : List ℕ) × (text ≡ p ++ rest)
    at (inl k) (p, e) = (
      k.0 ++ (codes "," ++ p),
      k.1.2 ∙ ap (λ v. k.0 ++ (codes "," ++ v)) e ∙ sym (append_assoc k.0 (codes "," ++ p) rest),
    )
    at (inr k) (p, e) = (codes "0," ++ p, k.0 ∙ ap (λ v. codes "0," ++ v) e)

pub active_suffix : (cs : List Condition) (line active rest : List ℕ) → ActiveBefore cs line active rest
    → (p : List ℕ) × (line ≡ p ++ rest)
active_suffix cs line active rest (inl h) = let p = listed_suffix cs [] h.0 active rest h.2
    in (codes "<" ++ p.0, h.1 ∙ ap (λ v. codes "<" ++ v) p.1)
active_suffix cs line active rest (inr h) = ([], sym h.2)
