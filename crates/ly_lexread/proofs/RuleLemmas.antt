-- The rules, one after another.
use Rattle.std.proofs.lemmas.List.{append-nil}
use Rattle.std.proofs.Common.{◌≡◌, ◌≢◌, inl, inr, ℕ, append_assoc, List, [], ◌∷◌, ◌++◌, refl, sym, ap, ◌∙◌, subst, drop}
use Rattle.std.proofs.Common.{◌+◌, ◌-◌, ◌<◌, ◌≤◌, ◌⊎◌, arith, length, length-append, length-drop, take}
use Rattle.std.proofs.Common.{Global, Option, Some, take-append-drop}
use denote.Ref.{Bor}
use Rattle.std.specs.Option.{MatchOption}
use Rattle.std.specs.Rc.{rc_slice_items}
use Rattle.std.specs.declared.rc.RcSlice.{RcSlice}
use Rattle.std.proofs.Math.Seq.{drop-append_seam, take-append_seam}
use Rattle.ly_ere.specs.Names.{Definition}
use Rattle.ly_ere.specs.Patterns.{IsFrontPattern}
use Rattle.ly_ere.specs.declared.pattern.Pattern.{Pattern}
use Rattle.ly_ere.specs.declared.pattern.Rule.{Rule}
use Rattle.ly_ere.proofs.FrontLaws.{front_pattern_one}
use Rattle.ly_ere.specs.Winner.{active_of}
use Rattle.ly_lexread.specs.Action.{Saying}
use Rattle.ly_lexread.specs.Conditions.{Condition}
use Rattle.ly_lexread.specs.Lines.{BlockEnds, LineBefore, LineOf, kind_of}
use Rattle.ly_lexread.specs.Private.Rules.{AreSkipped, BeginsWithRule}
use Rattle.ly_lexread.specs.Private.Rules as skipped
use Rattle.ly_lexread.specs.Rules.{ActiveBefore, AreLight, AreRulesOver, BeginsRule, HasHeavyRule, IsHeavyRule}
use Rattle.ly_lexread.specs.Rules.{RuleBefore}
use Rattle.ly_lexread.specs.Rules.{RuleLine, Rules, Skips, end, rule, skip}
use Rattle.ly_lexread.specs.Rules as rules
use Rattle.ly_lexread.specs.Statements.{SaysAction}
use Rattle.ly_lexread.specs.declared.kind.LineKind.{LineKind}
use Rattle.ly_lexread.specs.declared.kind.LineKind.TheVariants.{Mark, Unused, Block, Comment, Directive, Plain}
use Rattle.ly_lexread.proofs.ActiveLemmas.{active_one, active_suffix}
use Rattle.ly_lexread.proofs.LineLemmas.{block_one, line_before_one, line_one}
use Rattle.ly_lexread.proofs.StatementLemmas.{rest_of_line, says_one, says_shorter}

-- a line begins no rule where it is skipped
unused_begins_none : (k : LineKind) → k ≡ Unused → BeginsRule k → ⊥
unused_begins_none Unused e b = b
unused_begins_none Mark e b = b
unused_begins_none Block e b = b
unused_begins_none Comment e b = cc e
unused_begins_none Directive e b = cc e
unused_begins_none Plain e b = cc e

block_begins_none : (k : LineKind) → k ≡ Block → BeginsRule k → ⊥
block_begins_none Unused e b = b
block_begins_none Mark e b = b
block_begins_none Block e b = b
block_begins_none Comment e b = cc e
block_begins_none Directive e b = cc e
block_begins_none Plain e b = cc e

mark_begins_none : (k : LineKind) → k ≡ Mark → BeginsRule k → ⊥
mark_begins_none Unused e b = b
mark_begins_none Mark e b = b
mark_begins_none Block e b = b
mark_begins_none Comment e b = cc e
mark_begins_none Directive e b = cc e
mark_begins_none Plain e b = cc e

pub skip_no_rule : (text rest : List ℕ) → Skips text rest → BeginsWithRule text → ⊥
skip_no_rule text rest h b =
    let same : kind_of b.1 ≡ kind_of h.0 = ap kind_of (line_one text b.1 h.0 b.2 h.2.1 b.3 h.2.2).0 in
    at h.3 (subst BeginsRule same b.4)
  where
    at : ((kind_of h.0 ≡ Unused) × (rest ≡ h.1)) ⊎ ((kind_of h.0 ≡ Block) × BlockEnds h.1 rest)
        → BeginsRule (kind_of h.0) → ⊥
    at (inl k) r = unused_begins_none (kind_of h.0) k.0 r
    at (inr k) r = block_begins_none (kind_of h.0) k.0 r

skips_one : (text r s : List ℕ) → Skips text r → Skips text s → r ≡ s
skips_one text r s a b =
    let e = line_before_one text a.0 b.0 a.1 b.1 a.2 b.2 in
    at a.3 (subst (λ i. ((kind_of i ≡ Unused) × (s ≡ b.1)) ⊎ ((kind_of i ≡ Block) × BlockEnds b.1 s)) (sym e.0) b.3) e.1
  where
    at : ((kind_of a.0 ≡ Unused) × (r ≡ a.1)) ⊎ ((kind_of a.0 ≡ Block) × BlockEnds a.1 r)
        → ((kind_of a.0 ≡ Unused) × (s ≡ b.1)) ⊎ ((kind_of a.0 ≡ Block) × BlockEnds b.1 s) → a.1 ≡ b.1 → r ≡ s
    at (inl h) (inl k) e = h.1 ∙ e ∙ sym k.1
    at (inl h) (inr k) e = let f : Unused ≡ Block = sym h.0 ∙ k.0 in absurd (cc)
    at (inr h) (inl k) e = let f : Unused ≡ Block = sym k.0 ∙ h.0 in absurd (cc)
    at (inr h) (inr k) e = block_one a.1 r s h.1 (subst (λ i. BlockEnds i s) (sym e) k.1)

skip_not_over : (text rest : List ℕ) → Skips text rest → AreRulesOver text → ⊥
skip_not_over text rest h (inl e) = h.2.0 e
skip_not_over text rest h (inr m) =
    let e : kind_of h.0 ≡ Mark = ap kind_of (line_before_one text h.0 m.0 h.1 m.1 h.2 m.2).0 ∙ m.3 in
    at h.3 e
  where
    at : ((kind_of h.0 ≡ Unused) × (rest ≡ h.1)) ⊎ ((kind_of h.0 ≡ Block) × BlockEnds h.1 rest) → kind_of h.0 ≡ Mark → ⊥
    at (inl k) e = let f : Unused ≡ Mark = sym k.0 ∙ e in cc
    at (inr k) e = let f : Block ≡ Mark = sym k.0 ∙ e in cc

-- a rule's line begins a rule
pub rule_begins : (cs : List Condition) (text active body tail : List ℕ) → RuleLine cs text active body tail
    → BeginsWithRule text
rule_begins cs text active body tail r = (r.some, r.line, tail, r.is_line, r.begins)

-- rules behind what is skipped
pub rules_skip : (cs : List Condition) (names : List Definition) (text rest : List ℕ) (rs : List Rule)
    (ss : List Saying) (ls : List ℕ)
    → Skips text rest → Rules cs names text rs ss ls → Rules cs names rest rs ss ls
rules_skip cs names text rest rs ss ls h (end _ o) = absurd (skip_not_over text rest h o)
rules_skip cs names text rest rs ss ls h (skip _ r _ _ _ k d)
    = subst (λ i. Rules cs names i rs ss ls) (skips_one text r rest k h) d
rules_skip cs names text rest rs ss ls h (rule _ u r s ps qs ns b d)
    = absurd (skip_no_rule text rest h (rule_begins cs text (active_of r) b.body b.end b.line))

-- a block that isn't closed
pub rules_unclosed : (cs : List Condition) (names : List Definition) (text line behind : List ℕ) (rs : List Rule)
    (ss : List Saying) (ls : List ℕ) → LineBefore text line behind → kind_of line ≡ Block
    → ((rest : List ℕ) → BlockEnds behind rest → ⊥) → Rules cs names text rs ss ls → ⊥
rules_unclosed cs names text line behind rs ss ls b k none (end _ (inl e)) = b.0 e
rules_unclosed cs names text line behind rs ss ls b k none (end _ (inr m)) =
    let f : Block ≡ Mark = sym k ∙ ap kind_of (line_before_one text line m.0 behind m.1 b m.2).0 ∙ m.3 in
    cc
rules_unclosed cs names text line behind rs ss ls b k none (skip _ r _ _ _ h d) =
    let e = line_before_one text h.0 line h.1 behind h.2 b in
    at (subst (λ i. ((kind_of i ≡ Unused) × (r ≡ h.1)) ⊎ ((kind_of i ≡ Block) × BlockEnds h.1 r)) e.0 h.3) e.1
  where
    at : ((kind_of line ≡ Unused) × (r ≡ h.1)) ⊎ ((kind_of line ≡ Block) × BlockEnds h.1 r) → h.1 ≡ behind → ⊥
    at (inl j) e = let f : Unused ≡ Block = sym j.0 ∙ k in cc
    at (inr j) e = none r (subst (λ i. BlockEnds i r) e j.1)
rules_unclosed cs names text line behind rs ss ls b k none (rule _ u r s ps qs ns h d) =
    let l = h.line in
    block_begins_none (kind_of l.line)
    (ap kind_of (line_one text l.line line h.end b.1 l.is_line b.2).0 ∙ k) l.begins

-- what was skipped, in front of rules
pub rules_on : (cs : List Condition) (names : List Definition) (text rest : List ℕ) (rs : List Rule)
    (ss : List Saying) (ls : List ℕ)
    → AreSkipped text rest → Rules cs names rest rs ss ls → Rules cs names text rs ss ls
rules_on cs names text rest rs ss ls (skipped.none _) d = d
rules_on cs names text rest rs ss ls (skipped.more _ b _ h k) d
    = skip text b rs ss ls h (rules_on cs names b rest rs ss ls k d)

pub rules_back : (cs : List Condition) (names : List Definition) (text rest : List ℕ) (rs : List Rule)
    (ss : List Saying) (ls : List ℕ) → AreSkipped text rest → Rules cs names text rs ss ls
    → Rules cs names rest rs ss ls
rules_back cs names text rest rs ss ls (skipped.none _) d = d
rules_back cs names text rest rs ss ls (skipped.more _ b _ h k) d
    = rules_back cs names b rest rs ss ls k (rules_skip cs names text b rs ss ls h d)

pub heavy_on : (most : ℕ) (cs : List Condition) (names : List Definition) (text rest : List ℕ) → AreSkipped text rest
    → HasHeavyRule most cs names rest → HasHeavyRule most cs names text
heavy_on most cs names text rest (skipped.none _) d = d
heavy_on most cs names text rest (skipped.more _ b _ h k) d
    = rules.skip text b h (heavy_on most cs names b rest k d)

-- no rule is left
pub rules_over : (cs : List Condition) (names : List Definition) (text : List ℕ) → AreRulesOver text
    → Rules cs names text [] [] []
rules_over cs names text o = end text o

-- A rule in front.
pub record InFront (cs : List Condition) (names : List Definition) (text : List ℕ) (rs : List Rule)
    (ss : List Saying) (ls : List ℕ) : Type 0 where
  pub one : Rule
  pub saying : Saying
  pub behind : List ℕ
  pub more : List Rule
  pub sayings : List Saying
  pub lefts : List ℕ
  pub these : rs ≡ one ∷ more
  pub those : ss ≡ saying ∷ sayings
  pub left : ls ≡ length text ∷ lefts
  pub reads : RuleBefore cs names text one saying behind
  pub rest : Rules cs names behind more sayings lefts

over_no_rule : (text : List ℕ) → AreRulesOver text → BeginsWithRule text → ⊥
over_no_rule text (inl e) b = b.0 e
over_no_rule text (inr m) b = mark_begins_none (kind_of b.1)
    (ap kind_of (line_one text b.1 m.0 b.2 m.2.1 b.3 m.2.2).0 ∙ m.3) b.4

pub in_front : (cs : List Condition) (names : List Definition) (text : List ℕ) (rs : List Rule) (ss : List Saying)
    (ls : List ℕ) → BeginsWithRule text → Rules cs names text rs ss ls → InFront cs names text rs ss ls
in_front cs names text rs ss ls b (end _ o) = absurd (over_no_rule text o b)
in_front cs names text rs ss ls b (skip _ r _ _ _ h d) = absurd (skip_no_rule text r h b)
in_front cs names text rs ss ls b (rule _ u r s ps qs ns h d) = record {
  one = r;
  saying = s;
  behind = u;
  more = ps;
  sayings = qs;
  lefts = ns;
  these = refl;
  those = refl;
  left = refl;
  reads = h;
  rest = d;
}

-- What a rule is that is determined.
pub record AreEqual (r s : Rule) : Type 0 where
  pub pattern : r.pattern ≡ s.pattern
  pub active : active_of r ≡ active_of s

pub rule_one : (cs : List Condition) (names : List Definition) (text u v : List ℕ) (r q : Rule) (s t : Saying)
    → RuleBefore cs names text r s u → RuleBefore cs names text q t v → AreEqual r q × (s ≡ t) × (u ≡ v)
rule_one cs names text u v r q s t a b =
    let l = a.line in
    let m = b.line in
    let line = line_one text m.line l.line b.end a.end m.is_line l.is_line in
    let there : ActiveBefore cs l.line (active_of q) b.body
    = subst (λ i. ActiveBefore cs i (active_of q) b.body) line.0 m.is_active in
    let active = active_one cs l.line (active_of r) (active_of q) a.body b.body l.is_active there in
    let pattern : IsFrontPattern names a.body q.pattern b.taken
    = subst (λ i. IsFrontPattern names i q.pattern b.taken) (sym active.1) b.is_pattern in
    let same = front_pattern_one names a.body r.pattern q.pattern a.taken b.taken a.is_pattern pattern in
    let says : SaysAction cs (drop a.taken a.body) a.end t v
    = subst (λ i. SaysAction cs (drop i a.body) a.end t v) (sym same.1)
    (subst (λ i. SaysAction cs (drop b.taken i) a.end t v) (sym active.1)
    (subst (λ i. SaysAction cs (drop b.taken b.body) i t v) line.1 b.says)) in
    let one = says_one cs (drop a.taken a.body) a.end u v s t a.says says in
    (record { pattern = same.0; active = active.0 }, one.0, one.1)

pub rules_push : (cs : List Condition) (names : List Definition) (text : List ℕ) (rules more rs : List Rule)
    (sayings others ss : List Saying) (lefts ls : List ℕ) (n : ℕ) (r : Rule) (s : Saying) → more ≡ rules ++ r ∷ []
    → others ≡ sayings ++ s ∷ [] → Rules cs names text (rules ++ r ∷ rs) (sayings ++ s ∷ ss) (lefts ++ n ∷ ls)
    → Rules cs names text (more ++ rs) (others ++ ss) ((lefts ++ n ∷ []) ++ ls)
rules_push cs names text rules more rs sayings others ss lefts ls n r s e f d =
    let g : rules ++ r ∷ rs ≡ more ++ rs = sym (append_assoc rules (r ∷ []) rs) ∙ ap (λ i. i ++ rs) (sym e) in
    let h : sayings ++ s ∷ ss ≡ others ++ ss = sym (append_assoc sayings (s ∷ []) ss) ∙ ap (λ i. i ++ ss) (sym f) in
    let j = sym (append_assoc lefts (n ∷ []) ls) in
    subst (λ i. Rules cs names text i (others ++ ss) ((lefts ++ n ∷ []) ++ ls)) g
    (subst (λ i. Rules cs names text (rules ++ r ∷ rs) i ((lefts ++ n ∷ []) ++ ls)) h
    (subst (λ i. Rules cs names text (rules ++ r ∷ rs) (sayings ++ s ∷ ss) i) j d))

pub rules_whole : (cs : List Condition) (names : List Definition) (text : List ℕ) (rules : List Rule)
    (sayings : List Saying) (lefts : List ℕ) → Rules cs names text (rules ++ []) (sayings ++ []) (lefts ++ [])
    → Rules cs names text rules sayings lefts
rules_whole cs names text rules sayings lefts d = subst (λ i. Rules cs names text i sayings lefts) (append-nil rules)
    (subst (λ i. Rules cs names text (rules ++ []) i lefts) (append-nil sayings)
    (subst (λ i. Rules cs names text (rules ++ []) (sayings ++ []) i) (append-nil lefts) d))

-- one more light pattern
pub light_push : (most : ℕ) (names : List Definition) (rules : List Rule) (r : Rule) → AreLight most names rules
    → AreLight most names (r ∷ []) → AreLight most names (rules ++ r ∷ [])
light_push most names [] r h k = k
light_push most names (s ∷ rules) r h k = (h.0, light_push most names rules r h.1 k)

-- a line that is neither unused nor a block
pub settled : (text line behind : List ℕ) → LineBefore text line behind → kind_of line ≢ Unused
    → kind_of line ≢ Block → AreRulesOver text ⊎ BeginsWithRule text
settled text line behind b p q = at (kind_of line) refl
  where
    at : (k : LineKind) → kind_of line ≡ k → AreRulesOver text ⊎ BeginsWithRule text
    at Mark e = inl (inr (line, behind, b, e))
    at Unused e = absurd (p e)
    at Block e = absurd (q e)
    at Comment e = inr (b.0, line, b.1, b.2, subst BeginsRule (sym e) tt)
    at Directive e = inr (b.0, line, b.1, b.2, subst BeginsRule (sym e) tt)
    at Plain e = inr (b.0, line, b.1, b.2, subst BeginsRule (sym e) tt)

pub over_of : (text : List ℕ) → AreRulesOver text ⊎ BeginsWithRule text → (BeginsWithRule text → ⊥) → AreRulesOver text
over_of text (inl o) none = o
over_of text (inr b) none = absurd (none b)

pub rule_line : (cs : List Condition) (text line tail active body : List ℕ) → BeginsWithRule text
    → LineOf text line tail → ActiveBefore cs line active body → RuleLine cs text active body tail
rule_line cs text line tail active body b l a = record {
  line = line;
  some = b.0;
  is_line = l;
  begins = subst (λ i. BeginsRule (kind_of i)) (line_one text b.1 line b.2 tail b.3 l).0 b.4;
  is_active = a;
}

-- a rule has conditions in front
pub no_active : (cs : List Condition) (names : List Definition) (text line tail rest : List ℕ) (r : Rule) (s : Saying)
    → LineOf text line tail → ((active behind : List ℕ) → ActiveBefore cs line active behind → ⊥)
    → RuleBefore cs names text r s rest → ⊥
no_active cs names text line tail rest r s l none v =
    none (active_of r) v.body (subst (λ i. ActiveBefore cs i (active_of r) v.body)
    (line_one text v.line.line line v.end tail v.line.is_line l).0 v.line.is_active)

-- what a rule says of its action, where its pattern is known
pub says_there : (cs : List Condition) (names : List Definition) (text active body tail rest : List ℕ) (taken : ℕ)
    (p : Pattern) (r : Rule) (s : Saying) → RuleLine cs text active body tail → IsFrontPattern names body p taken
    → RuleBefore cs names text r s rest → SaysAction cs (drop taken body) tail s rest
says_there cs names text active body tail rest taken p r s l is b =
    let m = b.line in
    let line = line_one text m.line l.line b.end tail m.is_line l.is_line in
    let there : ActiveBefore cs l.line (active_of r) b.body
    = subst (λ i. ActiveBefore cs i (active_of r) b.body) line.0 m.is_active in
    let same_body = (active_one cs l.line active (active_of r) body b.body l.is_active there).1 in
    let pattern : IsFrontPattern names body r.pattern b.taken
    = subst (λ i. IsFrontPattern names i r.pattern b.taken) (sym same_body) b.is_pattern in
    let same = front_pattern_one names body p r.pattern taken b.taken is pattern in
    subst (λ i. SaysAction cs (drop i body) tail s rest) (sym same.1)
    (subst (λ i. SaysAction cs (drop b.taken i) tail s rest) (sym same_body)
    (subst (λ i. SaysAction cs (drop b.taken b.body) i s rest) line.1 b.says))

-- What an action's text is: the rest of its line, and what ends the line.
pub record ActionText (bytes body tail : List ℕ) (taken : ℕ) : Type 0 where
  pub on_line : take (length body - taken) bytes ≡ drop taken body
  pub ends : drop (length body - taken) bytes ≡ tail
  pub within : length body - taken ≤ length bytes

pub action_text : (text line tail p body bytes : List ℕ) (taken : ℕ) → text ≡ line ++ tail → line ≡ p ++ body
    → taken ≤ length body → bytes ≡ drop (length line - (length body - taken)) text → ActionText bytes body tail taken
action_text text line tail p body bytes taken e f h g =
    let inside = drop taken body in
    let many : length inside ≡ length body - taken = length-drop taken body in
    let parted : line ≡ (p ++ take taken body) ++ inside
    = f ∙ ap (λ i. p ++ i) (sym (take-append-drop taken body)) ∙ sym (append_assoc p (take taken body) inside) in
    let whole : bytes ≡ inside ++ tail
    = g ∙ ap (λ n. drop (length line - n) text) (sym many)
    ∙ rest_of_line text line tail inside (p ++ take taken body) e parted in
    record {
      on_line = rw (whole, ← many) (take-append_seam inside tail);
      ends = rw (whole, ← many) (drop-append_seam inside tail);
      within = omega (arith, ap length whole, length-append inside tail, many);
    }

-- a rule takes a byte at least
pub rule_shorter : (cs : List Condition) (names : List Definition) (text rest : List ℕ) (r : Rule) (s : Saying)
    → RuleBefore cs names text r s rest → length rest < length text
rule_shorter cs names text rest r s b = at (says_shorter cs (drop b.taken b.body) b.end rest s b.says)
  where
    some : (xs : List ℕ) → xs ≢ [] → 0 < length xs
    some [] h = absurd (h refl)
    some (x ∷ xs) h = omega arith

    at : (length rest < length (drop b.taken b.body) + length b.end) ⊎ (rest ≡ drop 1 b.end) → length rest < length text
    at (inl less) =
        let p = active_suffix cs b.line.line (active_of r) b.body b.line.is_active in
        omega (
          arith,
          less,
          length-drop b.taken b.body,
          ap length p.1,
          length-append p.0 b.body,
          ap length b.line.is_line.2,
          length-append b.line.line b.end,
        )
    at (inr e) = omega (
      arith,
      ap length e,
      length-drop 1 b.end,
      ap length b.line.is_line.2,
      length-append b.line.line b.end,
      some text b.line.some,
    )

pub heavy_rule : (most : ℕ) (cs : List Condition) (names : List Definition) (text rest : List ℕ) (r : Rule) (s : Saying)
    → RuleBefore cs names text r s rest → HasHeavyRule most cs names rest → HasHeavyRule most cs names text
heavy_rule most cs names text rest r s b h = rules.rule text rest r s b h

pub active_found : (cs : List Condition) (line : List ℕ) (o : Option (RcSlice ℕ Global × Bor (List ℕ)))
    (a : RcSlice ℕ Global) (b : Bor (List ℕ)) → o ≡ Some (a, b)
    → MatchOption o ((active rest : List ℕ) → ActiveBefore cs line active rest → ⊥)
    (λ found. ActiveBefore cs line (rc_slice_items found.0) found.1.now)
    → ActiveBefore cs line (rc_slice_items a) b.now
active_found cs line o a b e h = subst (λ i. MatchOption i ((active rest : List ℕ) → ActiveBefore cs line active rest
    → ⊥)
    (λ found. ActiveBefore cs line (rc_slice_items found.0) found.1.now)) e h

pub rules_begin : (cs : List Condition) (names : List Definition) (text rest : List ℕ) (r : Rule) (s : Saying)
    → RuleBefore cs names text r s rest → BeginsWithRule text
rules_begin cs names text rest r s b = rule_begins cs text (active_of r) b.body b.end b.line

pub over_none : (cs : List Condition) (names : List Definition) (text : List ℕ) (rs : List Rule) (ss : List Saying)
    (ls : List ℕ) → AreRulesOver text → Rules cs names text rs ss ls → (rs ≡ []) × (ss ≡ []) × (ls ≡ [])
over_none cs names text rs ss ls o (end _ p) = (refl, refl, refl)
over_none cs names text rs ss ls o (skip _ u _ _ _ h d) = absurd (skip_not_over text u h o)
over_none cs names text rs ss ls o (rule _ u r s ps qs ns b d) = absurd (over_no_rule text o
    (rules_begin cs names text u r s b))
