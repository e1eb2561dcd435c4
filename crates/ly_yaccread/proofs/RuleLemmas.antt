-- What a rule says is determined.
use Rattle.std.proofs.Common.{◌≡◌, ◌≢◌, ℕ, ◌<◌, ◌≤◌, List, [], ◌∷◌, ◌++◌, Option, Some, None, refl, sym}
use Rattle.std.proofs.Common.{ap, ap₂, ◌∙◌, subst, length, arith, inl, inr, codes, map, true}
use Rattle.std.specs.Option.{is_some, option_map}
use Rattle.std.proofs.lemmas.List.{append-nil, append_assoc, map-append}
use Rattle.ly_yaccread.specs.Actions.{ActionPassed, Making, default, pass, build}
use Rattle.ly_yaccread.specs.File.{ruling_of}
use Rattle.ly_yaccread.specs.Rules.{AreRulesOver, Body, BodyEnd, BodyFollows, LateAction, LeftSide}
use Rattle.ly_yaccread.specs.Rules.{PrecedencePassed, Ruling}
use Rattle.ly_yaccread.specs.Rules.{YaccRules, end, rule, semicolon}
use Rattle.ly_yaccread.specs.Symbols.{SymbolFirst, Symbols}
use Rattle.ly_yaccread.specs.Words.{Word, mark, directive}
use Rattle.ly_yaccread.specs.declared.file.Production.{Production}
use Rattle.ly_yaccread.specs.declared.standing.Standing.{Standing}
use Rattle.ly_yaccread.specs.declared.words.Mark.TheVariants.{Semicolon}
use Rattle.ly_yaccread.proofs.ActionLemmas.{passed_one, passed_within}
use Rattle.ly_yaccread.proofs.SymbolLemmas.{heads, symbol_is, symbol_one, symbols_one, symbols_within}

pub precedence_one : (ws : List Word) (o p : Option Word) (r s : List Word) → PrecedencePassed ws o r
    → PrecedencePassed ws p s → (o ≡ p) × (r ≡ s)
precedence_one ws (Some x) (Some y) r s (a, e, f) (b, g, h) =
    let same = heads (directive (codes "prec")) (directive (codes "prec")) a b (sym e ∙ g) in
    let one = symbol_one b x y r s (subst (λ u. SymbolFirst u x r) same.1 f) h in (ap Some one.0, one.1)
precedence_one ws (Some x) None r s (a, e, f) (n, g) = absurd (n a e)
precedence_one ws None (Some y) r s (n, g) (a, e, f) = absurd (n a e)
precedence_one ws None None r s (n, g) (m, h) = (refl, sym g ∙ h)

pub late_one : (k : ℕ) (early : Making) (o : Option Word) (ws : List Word) (m n : Making) (r s : List Word)
    → LateAction k early o ws m r → LateAction k early o ws n s → (m ≡ n) × (r ≡ s)
late_one k default (Some x) ws m n r s a b = passed_one k ws m n r s a b
late_one k default None ws m n r s a b = (a.0 ∙ sym b.0, sym a.1 ∙ b.1)
late_one k (pass p) (Some x) ws m n r s a b = (a.0 ∙ sym b.0, sym a.1 ∙ b.1)
late_one k (pass p) None ws m n r s a b = (a.0 ∙ sym b.0, sym a.1 ∙ b.1)
late_one k (build c ps) (Some x) ws m n r s a b = (a.0 ∙ sym b.0, sym a.1 ∙ b.1)
late_one k (build c ps) None ws m n r s a b = (a.0 ∙ sym b.0, sym a.1 ∙ b.1)

-- behind the first action
pub end_behind : (k : ℕ) (ws behind : List Word) (early : Making) (o : Option Word) (m : Making) (rest : List Word)
    → ActionPassed k ws early behind → BodyEnd k ws o m rest
    → (left : List Word) × PrecedencePassed behind o left × LateAction k early o left m rest
end_behind k ws behind early o m rest a e =
    let one = passed_one k ws e.early early e.behind behind e.action a in (
      e.left,
      subst (λ u. PrecedencePassed u o e.left) one.1 e.has_precedence,
      subst (λ u. LateAction k u o e.left m rest) one.0 e.late,
    )

-- and behind the symbol of a `%prec`
pub end_late : (k : ℕ) (ws behind left : List Word) (early : Making) (o p : Option Word) (m : Making) (rest : List Word)
    → ActionPassed k ws early behind → PrecedencePassed behind p left → BodyEnd k ws o m rest
    → (o ≡ p) × LateAction k early p left m rest
end_late k ws behind left early o p m rest a b e =
    let d = end_behind k ws behind early o m rest a e in
    let one = precedence_one behind o p d.0 left d.1 b in
    (one.0, subst (λ u. LateAction k early u left m rest) one.0 (subst (λ u. LateAction k early o u m rest) one.1 d.2))

pub some_kept : {S T : Type 0} (f : S → T) (o : Option S) → is_some o ≡ true → option_map f o ≢ None
some_kept f (Some x) e g = cc g
some_kept f None e g = cc e

-- no action stands behind the symbol of a `%prec` where none stood before it
pub no_late_action : (k : ℕ) (ws behind left : List Word) (early : Making) (p : Option Word)
    → ActionPassed k ws early behind → PrecedencePassed behind p left → p ≢ None → early ≡ default
    → ((m : Making) (rest : List Word) → ActionPassed k left m rest → ⊥) → (o : Option Word) (m : Making)
    (rest : List Word) → BodyEnd k ws o m rest → ⊥
no_late_action k ws behind left early (Some x) a b some e none o m rest h =
    let d = end_late k ws behind left early o (Some x) m rest a b h in
    none m rest (subst (λ i. LateAction k i (Some x) left m rest) e d.1)
no_late_action k ws behind left early None a b some e none o m rest h = absurd (some refl)

pub end_one : (k : ℕ) (ws : List Word) (o p : Option Word) (m n : Making) (r s : List Word) → BodyEnd k ws o m r
    → BodyEnd k ws p n s → (o ≡ p) × (m ≡ n) × (r ≡ s)
end_one k ws o p m n r s a b =
    let d = end_late k ws a.behind a.left a.early p o n s a.action a.has_precedence b in
    let one = late_one k a.early o a.left m n r s a.late d.1 in
    (sym d.0, one.0, one.1)

-- what stands behind the symbols of a body
pub body_behind : (n : List ℕ) (ws xs behind : List Word) (r : Ruling) (rest : List Word) → Symbols ws xs behind
    → Body n ws r rest → (r.body ≡ xs) × BodyEnd (length xs) behind r.precedence r.making rest
body_behind n ws xs behind r rest h b =
    let one = symbols_one ws r.body xs b.behind behind b.symbols h in (
      one.0,
      subst (λ u. BodyEnd (length u) behind r.precedence r.making rest) one.0
          (subst (λ u. BodyEnd (length r.body) u r.precedence r.making rest) one.1 b.body_end),
    )

abbrev made : List ℕ → List Word → Option Word → Making → Ruling
made l b p m = record { left = l; body = b; precedence = p; making = m }

same_ruling : (r s : Ruling) → r.left ≡ s.left → r.body ≡ s.body → r.precedence ≡ s.precedence → r.making ≡ s.making
    → r ≡ s
same_ruling r s a b c d = ap (λ l. made l r.body r.precedence r.making) a
    ∙ ap (λ l. made s.left l r.precedence r.making) b ∙ ap (λ p. made s.left s.body p r.making) c
    ∙ ap (made s.left s.body s.precedence) d

pub body_one : (n : List ℕ) (ws : List Word) (r q : Ruling) (rest left : List Word) → Body n ws r rest
    → Body n ws q left
    → (r ≡ q) × (rest ≡ left)
body_one n ws r q rest left a b =
    let d = body_behind n ws r.body a.behind q left a.symbols b in
    let one = end_one (length r.body) a.behind r.precedence q.precedence r.making q.making rest left a.body_end d.1 in
    (same_ruling r q (a.same_left ∙ sym b.same_left) (sym d.0) one.0 one.1, one.2)

-- which body follows is determined
same_side : (l m : LeftSide) → l.symbol ≡ m.symbol → l.left ≡ m.left → l ≡ m
same_side l m e f = λ i. record { symbol = e i; left = f i }

pub follows_one : (last : Option LeftSide) (ws : List Word) (l m : LeftSide) (r s : List Word) → BodyFollows last ws l r
    → BodyFollows last ws m s → (l ≡ m) × (r ≡ s)
follows_one last ws l m r s (inl (e, f, c)) (inl (g, h, d))
    = let same : l.symbol ≡ m.symbol = cc in (same_side l m same (c ∙ sym d), cc)
follows_one last ws l m r s (inl (e, f, c)) (inr (g, h)) = absurd (cc (heads _ _ _ _ (sym e ∙ h)).0)
follows_one last ws l m r s (inr (e, f)) (inl (g, h, d)) = absurd (cc (heads _ _ _ _ (sym f ∙ g)).0)
follows_one last ws l m r s (inr (e, f)) (inr (g, h)) = (cc, cc)

follows_not_over : (last : Option LeftSide) (ws : List Word) (l : LeftSide) (r : List Word) → BodyFollows last ws l r
    → AreRulesOver ws → ⊥
follows_not_over last ws l r (inl (e, f, c)) (inl g) = cc (sym e ∙ g)
follows_not_over last ws l r (inl (e, f, c)) (inr (s, g)) = cc (heads _ _ _ _ (sym e ∙ g)).0
follows_not_over last ws l r (inr (e, f)) (inl g) = cc (sym f ∙ g)
follows_not_over last ws l r (inr (e, f)) (inr (s, g)) = cc (heads _ _ _ _ (sym f ∙ g)).0

follows_no_semicolon : (last : Option LeftSide) (ws : List Word) (l : LeftSide) (r q : List Word)
    → BodyFollows last ws l r → ws ≡ mark Semicolon ∷ q → ⊥
follows_no_semicolon last ws l r q (inl (e, f, c)) g = cc (heads _ _ _ _ (sym e ∙ g)).0
follows_no_semicolon last ws l r q (inr (e, f)) g = cc (heads _ _ _ _ (sym f ∙ g)).0

semicolon_not_over : (ws : List Word) → AreRulesOver (mark Semicolon ∷ ws) → ⊥
semicolon_not_over ws (inl e) = cc e
semicolon_not_over ws (inr (s, e)) = cc (heads _ _ _ _ e).0

-- where the rule of this left side stands whose body has so many words from its beginning on
abbrev standing_at : LeftSide → List Word → Standing
standing_at l inside = record { left = l.left; body = length inside }

-- what rules there are that are over
over_rules : (last : Option LeftSide) (ws : List Word) (rs : List Ruling) (ss : List Standing) → AreRulesOver ws
    → YaccRules last ws rs ss → ([] ≡ rs) × ([] ≡ ss)
over_rules last ws rs ss o (end k vs p) = (refl, refl)
over_rules last ws rs ss o (rule k l vs behind rest r qs ts f g h) = absurd (follows_not_over k vs l behind f o)
over_rules last ws rs ss o (semicolon l vs qs ts h) = absurd (semicolon_not_over vs o)

-- behind a `;`
semicolon_rules : (last : Option LeftSide) (ws behind : List Word) (rs : List Ruling) (ss : List Standing)
    → ws ≡ mark Semicolon ∷ behind → YaccRules last ws rs ss → YaccRules last behind rs ss
semicolon_rules last ws behind rs ss e (end k vs o)
    = absurd (semicolon_not_over behind (subst AreRulesOver e o))
semicolon_rules last ws behind rs ss e (rule k l vs back rest r qs ts f g h)
    = absurd (follows_no_semicolon k vs l back behind f e)
semicolon_rules last ws behind rs ss e (semicolon l vs qs ts h)
    = subst (λ u. YaccRules (Some l) u qs ts) (heads _ _ _ _ e).1 h

-- Where a body follows, its rule comes, and then the others.
record BodyRules (l : LeftSide) (behind : List Word) (rs : List Ruling) (ss : List Standing) : Type 0 where
  first : Ruling
  rest : List Word
  others : List Ruling
  standings : List Standing
  body : Body l.symbol behind first rest
  go_on : YaccRules (Some l) rest others standings
  are : rs ≡ first ∷ others
  stand : ss ≡ standing_at l behind ∷ standings

body_rules : (last : Option LeftSide) (ws : List Word) (l : LeftSide) (behind : List Word) (rs : List Ruling)
    (ss : List Standing) → BodyFollows last ws l behind → YaccRules last ws rs ss → BodyRules l behind rs ss
body_rules last ws l behind rs ss f (end k vs o) = absurd (follows_not_over k vs l behind f o)
body_rules last ws l behind rs ss f (rule k m vs back rest r qs ts g b h) =
    let one = follows_one k vs m l back behind g f in
    record {
      first = r;
      rest = rest;
      others = qs;
      standings = ts;
      body = subst (λ u. Body u.symbol behind r rest) one.0 (subst (λ u. Body m.symbol u r rest) one.1 b);
      go_on = subst (λ u. YaccRules (Some u) rest qs ts) one.0 h;
      are = refl;
      stand = ap₂ (λ k u. standing_at k u ∷ ts) one.0 one.1;
    }
body_rules last ws l behind rs ss f (semicolon m vs qs ts h)
    = absurd (follows_no_semicolon (Some m) (mark Semicolon ∷ vs) l behind vs f refl)

-- the rules so far and those that are left are all rules
pub record RulesGoOn (ws : List Word) (rules : List Production) (standings : List Standing) (last : Option LeftSide)
    (at : List Word) : Type 0 where
  pub sound : (rs : List Ruling) (ss : List Standing) → YaccRules last at rs ss
      → YaccRules None ws (map ruling_of rules ++ rs) (standings ++ ss)
  pub complete : (all : List Ruling) (every : List Standing) → YaccRules None ws all every
      → (rs : List Ruling) × (ss : List Standing) × YaccRules last at rs ss

module _ (ws : List Word) (rules : List Production) (standings : List Standing) (last : Option LeftSide)
    (at : List Word) (so_far : RulesGoOn ws rules standings last at) where
  -- no rule more
  pub rules_end : AreRulesOver at → YaccRules None ws (map ruling_of rules) standings
  rules_end o = subst (λ rs. YaccRules None ws rs standings) (append-nil (map ruling_of rules))
      (subst (λ ss. YaccRules None ws (map ruling_of rules ++ []) ss) (append-nil standings)
      (so_far.sound [] [] (end last at o)))

  -- a `;`
  pub one_semicolon : (behind : List Word) → last ≢ None → at ≡ mark Semicolon ∷ behind
      → RulesGoOn ws rules standings last behind
  one_semicolon behind f e = record {
    sound = λ rs ss h. so_far.sound rs ss
        (subst (λ u. YaccRules last u rs ss) (sym e) (behind_some last f rs ss h));
    complete = λ all every h. let q = so_far.complete all every h
        in (q.0, q.1, semicolon_rules last at behind q.0 q.1 e q.2);
  }
    where
      behind_some : (l : Option LeftSide) → l ≢ None → (rs : List Ruling) (ss : List Standing)
          → YaccRules l behind rs ss → YaccRules l (mark Semicolon ∷ behind) rs ss
      behind_some None g rs ss h = absurd (g refl)
      behind_some (Some l) g rs ss h = semicolon l behind rs ss h

  -- a rule more
  pub one_rule : (l : LeftSide) (inside behind : List Word) (p : Production) (longer : List Production)
      (s : Standing) (every : List Standing) → BodyFollows last at l inside
      → Body l.symbol inside (ruling_of p) behind → longer ≡ rules ++ p ∷ [] → s ≡ standing_at l inside
      → every ≡ standings ++ s ∷ [] → RulesGoOn ws longer every (Some l) behind
  one_rule l inside behind p longer s every f b e here g = record {
    sound = λ rs ss h. subst (λ u. YaccRules None ws (map ruling_of longer ++ rs) u)
        (sym (append_assoc standings (standing_at l inside ∷ []) ss)
        ∙ sym (ap (λ u. u ++ ss) (g ∙ ap (λ t. standings ++ t ∷ []) here)))
        (subst (λ u. YaccRules None ws u (standings ++ standing_at l inside ∷ ss))
        (sym (append_assoc (map ruling_of rules) (ruling_of p ∷ []) rs)
        ∙ sym (ap (λ u. u ++ rs) (ap (map ruling_of) e ∙ map-append ruling_of rules (p ∷ []))))
        (so_far.sound (ruling_of p ∷ rs) (standing_at l inside ∷ ss)
        (rule last l at inside behind (ruling_of p) rs ss f b h)));
    complete = λ all whole h.
        let q = so_far.complete all whole h in
        let d = body_rules last at l inside q.0 q.1 f q.2 in
        let one = body_one l.symbol inside d.first (ruling_of p) d.rest behind d.body b in
        (d.others, d.standings, subst (λ u. YaccRules (Some l) u d.others d.standings) one.1 d.go_on);
  }

  -- no rule, where none follows and the words aren't over
  pub no_rule : (AreRulesOver at → ⊥)
      → ((l : LeftSide) (rest : List Word) → last ≡ Some l → at ≢ mark Semicolon ∷ rest)
      → ((l : LeftSide) (rest : List Word) → BodyFollows last at l rest → ⊥)
      → (all : List Ruling) (every : List Standing) → YaccRules None ws all every → ⊥
  no_rule a b c all every h = let q = so_far.complete all every h in at_rules last at q.0 q.1 a b c q.2
    where
      at_rules : (k : Option LeftSide) (vs : List Word) (rs : List Ruling) (ss : List Standing) → (AreRulesOver vs → ⊥)
          → ((l : LeftSide) (rest : List Word) → k ≡ Some l → vs ≢ mark Semicolon ∷ rest)
          → ((l : LeftSide) (rest : List Word) → BodyFollows k vs l rest → ⊥) → YaccRules k vs rs ss → ⊥
      at_rules k vs rs ss a b c (end j us o) = a o
      at_rules k vs rs ss a b c (rule j l us behind rest r qs ts f g i) = c l behind f
      at_rules k vs rs ss a b c (semicolon l us qs ts i) = b l us refl refl

  -- a body follows that makes no rule
  pub bad_body : (l : LeftSide) (inside : List Word) → BodyFollows last at l inside
      → ((r : Ruling) (rest : List Word) → Body l.symbol inside r rest → ⊥) → (all : List Ruling)
      (every : List Standing) → YaccRules None ws all every → ⊥
  bad_body l inside f g all every h =
      let q = so_far.complete all every h in
      let d = body_rules last at l inside q.0 q.1 f q.2 in
      g d.first d.rest d.body

-- what rules say is determined
pub rules_one : (last : Option LeftSide) (ws : List Word) (rs qs : List Ruling) (ss ts : List Standing)
    → YaccRules last ws rs ss → YaccRules last ws qs ts → (rs ≡ qs) × (ss ≡ ts)
rules_one last ws rs qs ss ts (end k vs o) b = over_rules k vs qs ts o b
rules_one last ws rs qs ss ts (semicolon l vs os us h) b
    = rules_one (Some l) vs os qs us ts h (semicolon_rules (Some l) (mark Semicolon ∷ vs) vs qs ts refl b)
rules_one last ws rs qs ss ts (rule k l vs behind rest r os us f g h) b =
    let d = body_rules k vs l behind qs ts f b in
    let one = body_one l.symbol behind r d.first rest d.rest g d.body in
    let others = rules_one (Some l) rest os d.others us d.standings h
    (subst (λ u. YaccRules (Some l) u d.others d.standings) (sym one.1) d.go_on) in
    (ap₂ ◌∷◌ one.0 others.0 ∙ sym d.are, ap (λ u. standing_at l behind ∷ u) others.1 ∙ sym d.stand)

precedence_within : (ws : List Word) (o : Option Word) (rest : List Word) → PrecedencePassed ws o rest
    → length rest ≤ length ws
precedence_within ws (Some x) rest (b, e, f) = omega (arith, ap length e, ap length (symbol_is b x rest f))
precedence_within ws None rest (n, e) = omega (arith, ap length e)

late_within : (k : ℕ) (early : Making) (o : Option Word) (ws : List Word) (m : Making) (rest : List Word)
    → LateAction k early o ws m rest → length rest ≤ length ws
late_within k default (Some x) ws m rest h = passed_within k ws m rest h
late_within k default None ws m rest h = omega (arith, ap length h.1)
late_within k (pass p) (Some x) ws m rest h = omega (arith, ap length h.1)
late_within k (pass p) None ws m rest h = omega (arith, ap length h.1)
late_within k (build c ps) (Some x) ws m rest h = omega (arith, ap length h.1)
late_within k (build c ps) None ws m rest h = omega (arith, ap length h.1)

-- a rule has a word
pub rule_shorter : (last : Option LeftSide) (ws : List Word) (l : LeftSide) (inside : List Word) (r : Ruling)
    (rest : List Word) → BodyFollows last ws l inside → Body l.symbol inside r rest → length rest < length ws
rule_shorter last ws l inside r rest f b =
    let k = length r.body in
    let e = b.body_end in
    let within : length rest ≤ length inside = omega (
      arith,
      symbols_within inside r.body b.behind b.symbols,
      passed_within k b.behind e.early e.behind e.action,
      precedence_within e.behind r.precedence e.left e.has_precedence,
      late_within k e.early r.precedence e.left r.making rest e.late,
    ) in
    elim f [ inl g ↦ omega (arith, ap length g.0) | inr g ↦ omega (arith, ap length g.1) ]
